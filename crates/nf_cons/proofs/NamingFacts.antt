-- Facts on variables by their names.
use Rattle.std.proofs.Common.{◌≡◌, ◌<◌, ◌≤◌, ◌||◌, ◌+◌, ◌++◌, ◌⊎◌, ℕ, Bool, true, false, not, List, [], ◌∷◌, Some, None, if◌then◌else◌, length, map, filter, get_or, refl, sym, ap, ◌∙◌, inl, inr, arith, append_assoc}
use Rattle.std.proofs.lemmas.Bool.{false≢true, cases_Bool}
use Rattle.std.proofs.lemmas.List.{append-nil, length-append, map-append, get_or-map}
use Rattle.std.proofs.lemmas.List.Elements.{filter-append}
use Rattle.std.proofs.lemmas.List.Sums.{prefix_len-le-length}
use Rattle.std.specs.Bool.{nat_lt}
use Rattle.std.specs.Option.{is_some}
use Rattle.std.specs.Str.{bytes_eq}
use Rattle.nf_cells.specs.Cells.{is_blank, is_name}
use Rattle.nf_cells.specs.Names.{Name, first_seen, has_name, number_of, place_of, with_name}
use Rattle.nf_cells.proofs.SeenFacts.{at-place, eq-self, first_seen-push, has-added, place-less, same}
use Rattle.nf_network.proofs.PassFacts.{map-length, place-added}
use Rattle.nf_cons.specs.declared.places.Home.{Home}
use Rattle.nf_cons.specs.declared.places.PlacedFault.{PlacedFault}
use Rattle.nf_cons.specs.ArcList.{ArcList, AreArcs, arc_in, arc_named, no_arc}
use Rattle.nf_roles.specs.First.{or_else}
use Rattle.nf_roles.specs.declared.fault.DataKind.TheVariants as kind
use Rattle.nf_network.specs.Faults.{excess}
use Rattle.nf_cons.specs.Places.{IsFaultOf, fault_if, first_of}
use Rattle.nf_cons.specs.Variables.{Mention, home_in, homes, is_arc, is_shared, most_nonarcs, names_in, nonarcs, number_in, variable_faults}
use Rattle.nf_cons.specs.Naming.{VariableList, faults_now, is_shared_now, limit_faults, number_now, with_mention, with_nonarc}
use Rattle.nf_cons.specs.Passing.{AreNamed, column_faults_now}
use Rattle.nf_cons.proofs.ArcFacts.{count-none}
use Rattle.nf_cons.proofs.FaultFacts.{or-first, or-second, passed}
use Rattle.nf_cons.proofs.NameFacts.{agree, has-back, has-front, has-seen, place-back, place-front}

-- ---- what `add` answers
within : (n : Name) (ks : List Name) → length (with_name ks n) ≤ most_nonarcs → nat_lt most_nonarcs (length (with_name ks n)) ≡ false
within n ks h = grind (arith, h)

-- A name's place is at most the length.
pub place-most : (n : Name) (ks : List Name) → place_of n ks ≤ length ks
place-most n ks = prefix_len-le-length (λ m. not (bytes_eq n m)) ks

-- A name without a number is not there.
pub not-found : (n : Name) (ks : List Name) → number_of n ks ≡ None → has_name n ks ≡ false
not-found n ks h = by_cases (cases_Bool (has_name n ks))
  where
    by_cases : (has_name n ks ≡ true) ⊎ (has_name n ks ≡ false) → has_name n ks ≡ false
    by_cases (inl e) =
        let below = place-less n ks e in
        let is : number_of n ks ≡ Some (place_of n ks) = grind (arith, below) in
        let s : None ≡ Some (place_of n ks) = sym h ∙ is in
        absurd (cc)
    by_cases (inr e) = e

-- The place of a name that is not there is the end.
pub absent-place : (n : Name) (ks : List Name) → has_name n ks ≡ false → place_of n ks ≡ length ks
absent-place n ks h =
    let end : place_of n ks ≡ length ks + 0 = ap (place_of n) (sym (append-nil ks)) ∙ place-back n ks [] h in
    omega (arith, end)

pub add-old : (v : VariableList) (n : Name) (home : Home) (i k : ℕ) → length v.nonarcs ≤ most_nonarcs → i ≡ place_of n v.nonarcs → has_name n v.nonarcs ≡ true → k ≡ v.arcs.count
    → (first_of (limit_faults v n home) ≡ None) × (k + i ≡ v.arcs.count + place_of n v.nonarcs) × (v ≡ with_nonarc v (record { variable = n; home = home }))
add-old v n home i k few is there count = (rw (within n v.nonarcs (rw there few)) refl, rw (is, count) refl, rw there refl)

pub add-new : (v new : VariableList) (n : Name) (home : Home) (i : ℕ) → length v.nonarcs < most_nonarcs → has_name n v.nonarcs ≡ false → i ≡ v.arcs.count + length v.nonarcs
    → new ≡ record v { nonarcs = v.nonarcs ++ n ∷ []; homes = v.homes ++ home ∷ [] }
    → (first_of (limit_faults v n home) ≡ None) × (i ≡ v.arcs.count + place_of n v.nonarcs) × (new ≡ with_nonarc v (record { variable = n; home = home }))
add-new v new n home i few absent is grown =
    let size = length-append v.nonarcs (n ∷ []) in
    let small : length (with_name v.nonarcs n) ≤ most_nonarcs = rw absent (omega (arith, size, few)) in
    (rw (within n v.nonarcs small) refl, rw (absent-place n v.nonarcs absent) is, rw absent grown)

-- A new name is one too many if there are as many as there may be.
pub add-full : (v : VariableList) (n : Name) (home : Home) → most_nonarcs ≤ length v.nonarcs → has_name n v.nonarcs ≡ false
    → IsFaultOf (first_of (limit_faults v n home)) (record { place = home.place; kind = kind.LimitPassed })
add-full v n home full absent =
    let size = length-append v.nonarcs (n ∷ []) in
    let more : nat_lt most_nonarcs (length (v.nonarcs ++ n ∷ [])) ≡ true = grind (arith, size, full) in
    rw (absent, more) (inr refl)

-- ---- a column
-- A name is there where its place is below the length.
pub place-tells-there : (n : Name) (ks : List Name) → nat_lt (place_of n ks) (length ks) ≡ has_name n ks
place-tells-there n ks = by_cases (cases_Bool (has_name n ks))
  where
    by_cases : (has_name n ks ≡ true) ⊎ (has_name n ks ≡ false) → nat_lt (place_of n ks) (length ks) ≡ has_name n ks
    by_cases (inl e) =
        let below = place-less n ks e in
        let is : nat_lt (place_of n ks) (length ks) ≡ true = grind (arith, below) in
        is ∙ sym e
    by_cases (inr e) =
        let end : place_of n ks ≡ length ks + 0 = ap (place_of n) (sym (append-nil ks)) ∙ place-back n ks [] e in
        let is : nat_lt (place_of n ks) (length ks) ≡ false = grind (arith, end) in
        is ∙ sym e

pub column-fault : (v : VariableList) (seen : List Name) (m : Mention) (taken : Bool) (f : PlacedFault) → is_blank m.variable ≡ false → taken ≡ has_name m.variable seen
    → IsFaultOf (first_of (faults_now v taken m)) f → IsFaultOf (first_of (column_faults_now v seen m)) f
column-fault v seen m taken f blank is h = rw blank (rw is at h)

pub column-clear : (v : VariableList) (seen : List Name) (m : Mention) (taken : Bool) → is_blank m.variable ≡ false → taken ≡ has_name m.variable seen
    → first_of (faults_now v taken m) ≡ None → first_of (column_faults_now v seen m) ≡ None
column-clear v seen m taken blank is h = rw blank (rw is at h)

-- Where a mention has no fault its name was not taken, and there are few nonarc variables with it.
or-false : (a b : Bool) → (a || b) ≡ false → a ≡ false
or-false false b h = refl
or-false true b h = absurd (false≢true (sym h))

pub not-taken : (v : VariableList) (taken : Bool) (m : Mention) → first_of (faults_now v taken m) ≡ None → taken ≡ false
not-taken v taken m h =
    or-false taken _ (passed _ m.home.place _ (or-first _ _ (or-second _ _ (or-second _ _ h))))

pub few-with : (v : VariableList) (taken : Bool) (m : Mention) → first_of (faults_now v taken m) ≡ None → length (with_mention v m).nonarcs ≤ most_nonarcs
few-with v taken m h =
    let bad = fault_if (not (is_name m.variable || is_some (arc_named v.arcs m.variable))) m.home.place kind.BadName in
    let reserved = fault_if (bytes_eq m.variable excess) m.home.place kind.ReservedName in
    let ambiguous = fault_if (taken || is_shared_now (arc_named v.arcs m.variable)) m.home.place kind.AmbiguousName in
    let many = fault_if (nat_lt most_nonarcs (length (with_mention v m).nonarcs)) m.home.place kind.LimitPassed in
    let e = passed (nat_lt most_nonarcs (length (with_mention v m).nonarcs)) m.home.place kind.LimitPassed
    (or-first many None (or-second ambiguous (or_else many None) (or-second reserved (or_else ambiguous (or_else many None)) (or-second bad (or_else reserved (or_else ambiguous (or_else many None))) h)))) in
    grind (arith, e)

-- ---- arcs by name
-- The arcs that are found are those of the names.
pub found-is : (arcs : List Name) (a : ArcList) (n : Name) → AreArcs arcs a → arc_named a n ≡ (if has_name n arcs then Some (arc_in arcs n) else None)
found-is arcs a n s = by_cases (cases_Bool (has_name n a.names))
  where
    there : has_name n arcs ≡ has_name n a.names
    there = sym (ap (has_name n) s.names ∙ has-seen n arcs)

    by_cases : (has_name n a.names ≡ true) ⊎ (has_name n a.names ≡ false) → arc_named a n ≡ (if has_name n arcs then Some (arc_in arcs n) else None)
    by_cases (inl e) =
        let below = place-less n a.names e in
        let is : number_of n a.names ≡ Some (place_of n a.names) = grind (arith, below) in
        let at : get_or a.found (place_of n a.names) no_arc ≡ arc_in arcs n =
        ap (λ f. get_or f (place_of n a.names) no_arc) s.found ∙ get_or-map (arc_in arcs) a.names (place_of n a.names) [] no_arc below ∙ ap (arc_in arcs) (at-place n a.names [] e) in
        rw (is, there, e, at) refl
    by_cases (inr e) =
        let end : place_of n a.names ≡ length a.names + 0 = ap (place_of n) (sym (append-nil a.names)) ∙ place-back n a.names [] e in
        let is : number_of n a.names ≡ None = grind (arith, end) in
        rw (is, there, e) refl

-- ---- lists of mentions
-- The names of no arc.
abbrev pub others : List Name → List Name → List Name
others arcs ns = filter (λ n. not (is_arc arcs n)) ns

names-push : (ms : List Mention) (m : Mention) → names_in (ms ++ m ∷ []) ≡ names_in ms ++ m.variable ∷ []
names-push ms m = map-append (λ q. q.variable) ms (m ∷ [])

nonarcs-arc : (arcs : List Name) (ms : List Mention) (m : Mention) → is_arc arcs m.variable ≡ true → nonarcs arcs (ms ++ m ∷ []) ≡ nonarcs arcs ms
nonarcs-arc arcs ms m h = rw (names-push ms m, filter-append (λ n. not (is_arc arcs n)) (names_in ms) (m.variable ∷ []), h) (ap first_seen (append-nil (others arcs (names_in ms))))

nonarcs-other : (arcs : List Name) (ms : List Mention) (m : Mention) → is_arc arcs m.variable ≡ false → nonarcs arcs (ms ++ m ∷ []) ≡ with_name (nonarcs arcs ms) m.variable
nonarcs-other arcs ms m h = rw (names-push ms m, filter-append (λ n. not (is_arc arcs n)) (names_in ms) (m.variable ∷ []), h) (first_seen-push (others arcs (names_in ms)) m.variable)

has-others : (arcs : List Name) (x : Name) (ns : List Name) → is_arc arcs x ≡ false → has_name x (others arcs ns) ≡ has_name x ns
has-others arcs x [] h = refl
has-others arcs x (n ∷ ns) h = by_cases (cases_Bool (bytes_eq x n)) (cases_Bool (is_arc arcs n)) (has-others arcs x ns h)
  where
    by_cases : (bytes_eq x n ≡ true) ⊎ (bytes_eq x n ≡ false) → (is_arc arcs n ≡ true) ⊎ (is_arc arcs n ≡ false) → has_name x (others arcs ns) ≡ has_name x ns → has_name x (others arcs (n ∷ ns)) ≡ has_name x (n ∷ ns)
    by_cases (inl e) (inl a) before = absurd (false≢true (sym h ∙ ap (is_arc arcs) (same x n e) ∙ a))
    by_cases (inl e) (inr a) before = rw (a, e) refl
    by_cases (inr e) (inl a) before = rw (a, e) before
    by_cases (inr e) (inr a) before = rw (a, e) before

-- A nonarc variable is mentioned.
pub has-nonarc : (arcs : List Name) (x : Name) (ms : List Mention) → is_arc arcs x ≡ false → has_name x (nonarcs arcs ms) ≡ has_name x (names_in ms)
has-nonarc arcs x ms h = has-seen x (others arcs (names_in ms)) ∙ has-others arcs x (names_in ms) h

-- ---- homes
home-there : (ms : List Mention) (m : Mention) (x : Name) → has_name x (names_in ms) ≡ true → home_in (ms ++ m ∷ []) x ≡ home_in ms x
home-there [] m x h = absurd (false≢true h)
home-there (q ∷ ms) m x h = by_cases (cases_Bool (bytes_eq x q.variable)) (home-there ms m x)
  where
    by_cases : (bytes_eq x q.variable ≡ true) ⊎ (bytes_eq x q.variable ≡ false) → (has_name x (names_in ms) ≡ true → home_in (ms ++ m ∷ []) x ≡ home_in ms x)
        → home_in ((q ∷ ms) ++ m ∷ []) x ≡ home_in (q ∷ ms) x
    by_cases (inl e) before = rw e refl
    by_cases (inr e) before =
        let rest : has_name x (names_in ms) ≡ true = rw e at h in
        rw e (before rest)

home-new : (ms : List Mention) (m : Mention) → has_name m.variable (names_in ms) ≡ false → home_in (ms ++ m ∷ []) m.variable ≡ m.home
home-new [] m h = rw (eq-self m.variable) refl
home-new (q ∷ ms) m h = by_cases (cases_Bool (bytes_eq m.variable q.variable)) (home-new ms m)
  where
    by_cases : (bytes_eq m.variable q.variable ≡ true) ⊎ (bytes_eq m.variable q.variable ≡ false) → (has_name m.variable (names_in ms) ≡ false → home_in (ms ++ m ∷ []) m.variable ≡ m.home)
        → home_in ((q ∷ ms) ++ m ∷ []) m.variable ≡ m.home
    by_cases (inl e) before = absurd (false≢true (sym (rw e at h)))
    by_cases (inr e) before =
        let rest : has_name m.variable (names_in ms) ≡ false = rw e at h in
        rw e (before rest)

-- ---- one mention more
-- First names are kept where more come behind.
pub seen-front : (ns ls : List Name) → (zs : List Name) × (first_seen (ns ++ ls) ≡ first_seen ns ++ zs)
seen-front ns [] = ([], ap first_seen (append-nil ns) ∙ sym (append-nil (first_seen ns)))
seen-front ns (l ∷ ls) = by_cases (cases_Bool (has_name l (first_seen ns))) (seen-front (ns ++ l ∷ []) ls)
  where
    split : first_seen (ns ++ l ∷ ls) ≡ first_seen ((ns ++ l ∷ []) ++ ls)
    split = ap first_seen (sym (append_assoc ns (l ∷ []) ls))

    by_cases : (has_name l (first_seen ns) ≡ true) ⊎ (has_name l (first_seen ns) ≡ false) → (zs : List Name) × (first_seen ((ns ++ l ∷ []) ++ ls) ≡ first_seen (ns ++ l ∷ []) ++ zs)
        → (zs : List Name) × (first_seen (ns ++ l ∷ ls) ≡ first_seen ns ++ zs)
    by_cases (inl e) rest =
        let same_names : first_seen (ns ++ l ∷ []) ≡ first_seen ns = first_seen-push ns l ∙ rw e refl in
        (rest.0, split ∙ rest.1 ∙ ap (λ ks. ks ++ rest.0) same_names)
    by_cases (inr e) rest =
        let more_names : first_seen (ns ++ l ∷ []) ≡ first_seen ns ++ l ∷ [] = first_seen-push ns l ∙ rw e refl in
        (l ∷ rest.0, split ∙ rest.1 ∙ ap (λ ks. ks ++ rest.0) more_names ∙ append_assoc (first_seen ns) (l ∷ []) rest.0)

-- The nonarc variables of mentions are kept where more come behind.
pub nonarcs-front : (arcs : List Name) (ms qs : List Mention) → (zs : List Name) × (nonarcs arcs (ms ++ qs) ≡ nonarcs arcs ms ++ zs)
nonarcs-front arcs ms qs =
    let rest = seen-front (others arcs (names_in ms)) (others arcs (names_in qs)) in
    (rest.0, rw (map-append (λ q. q.variable) ms qs, filter-append (λ n. not (is_arc arcs n)) (names_in ms) (names_in qs)) rest.1)

-- So a variable keeps its number.
pub number-front : (arcs : List Name) (ms qs : List Mention) (n : Name) → has_name n (arcs ++ nonarcs arcs ms) ≡ true → number_in arcs (ms ++ qs) n ≡ number_in arcs ms n
number-front arcs ms qs n h =
    let rest = nonarcs-front arcs ms qs in
    ap (λ ks. place_of n (arcs ++ ks)) rest.1 ∙ ap (place_of n) (sym (append_assoc arcs (nonarcs arcs ms) rest.0)) ∙ place-front n (arcs ++ nonarcs arcs ms) rest.0 h

module _ (arcs : List Name) (ms : List Mention) (v : VariableList) (taken : Bool) (m : Mention) (s : AreNamed arcs ms v) where
  found : arc_named v.arcs m.variable ≡ (if has_name m.variable arcs then Some (arc_in arcs m.variable) else None)
  found = found-is arcs v.arcs m.variable s.arcs_are

  nonarcs-next : (with_mention v m).nonarcs ≡ nonarcs arcs (ms ++ m ∷ [])
  nonarcs-next = by_cases (cases_Bool (has_name m.variable arcs))
    where
      by_cases : (has_name m.variable arcs ≡ true) ⊎ (has_name m.variable arcs ≡ false) → (with_mention v m).nonarcs ≡ nonarcs arcs (ms ++ m ∷ [])
      by_cases (inl e) = rw (found, e) (s.nonarcs_are ∙ sym (nonarcs-arc arcs ms m e))
      by_cases (inr e) = rw (found, e) (ap (λ ks. with_name ks m.variable) s.nonarcs_are ∙ sym (nonarcs-other arcs ms m e))

  -- The faults are those of the mentions.
  pub faults-same : faults_now v taken m ≡ variable_faults arcs ms taken m
  faults-same = by_cases (cases_Bool (has_name m.variable arcs))
    where
      by_cases : (has_name m.variable arcs ≡ true) ⊎ (has_name m.variable arcs ≡ false) → faults_now v taken m ≡ variable_faults arcs ms taken m
      by_cases (inl e) = rw (nonarcs-next, found, e) refl
      by_cases (inr e) =
          let none : is_shared arcs m.variable ≡ false = rw (count-none m.variable arcs e) refl in
          rw (nonarcs-next, found, e, none) refl

  -- The number is that of the mentions.
  pub number-same : number_now v m.variable ≡ number_in arcs (ms ++ m ∷ []) m.variable
  number-same = by_cases (cases_Bool (has_name m.variable arcs))
    where
      by_cases : (has_name m.variable arcs ≡ true) ⊎ (has_name m.variable arcs ≡ false) → number_now v m.variable ≡ number_in arcs (ms ++ m ∷ []) m.variable
      by_cases (inl e) = rw (found, e) (sym (place-front m.variable arcs (nonarcs arcs (ms ++ m ∷ [])) e))
      by_cases (inr e) =
          let added = place-added m.variable (nonarcs arcs ms) in
          rw (found, e, s.arcs_are.count, s.nonarcs_are)
          (sym (place-back m.variable arcs (nonarcs arcs (ms ++ m ∷ [])) e ∙ ap (λ ks. length arcs + place_of m.variable ks) (nonarcs-other arcs ms m e) ∙ ap (λ k. length arcs + k) added))

  -- The variable is there.
  pub there-next : has_name m.variable (arcs ++ nonarcs arcs (ms ++ m ∷ [])) ≡ true
  there-next = by_cases (cases_Bool (has_name m.variable arcs))
    where
      by_cases : (has_name m.variable arcs ≡ true) ⊎ (has_name m.variable arcs ≡ false) → has_name m.variable (arcs ++ nonarcs arcs (ms ++ m ∷ [])) ≡ true
      by_cases (inl e) = has-front m.variable arcs _ e
      by_cases (inr e) = has-back m.variable arcs _ (rw (nonarcs-other arcs ms m e) (has-added m.variable (nonarcs arcs ms)))

  homes-next : (with_mention v m).homes ≡ homes arcs (ms ++ m ∷ [])
  homes-next = by_cases (cases_Bool (has_name m.variable arcs)) (cases_Bool (has_name m.variable (nonarcs arcs ms)))
    where
      -- the names of nonarc variables are mentioned
      kept : map (home_in ms) (nonarcs arcs ms) ≡ map (home_in (ms ++ m ∷ [])) (nonarcs arcs ms)
      kept = agree (home_in ms) (home_in (ms ++ m ∷ [])) (nonarcs arcs ms) (λ x h. home-there ms m x (mentioned x h))
        where
          mentioned : (x : Name) → has_name x (nonarcs arcs ms) ≡ true → has_name x (names_in ms) ≡ true
          mentioned x h = from_others (names_in ms) (sym (has-seen x (others arcs (names_in ms))) ∙ h)
            where
              from_others : (ns : List Name) → has_name x (others arcs ns) ≡ true → has_name x ns ≡ true
              from_others [] q = q
              from_others (n ∷ ns) q = by_arc (cases_Bool (is_arc arcs n)) (cases_Bool (bytes_eq x n)) (from_others ns)
                where
                  by_arc : (is_arc arcs n ≡ true) ⊎ (is_arc arcs n ≡ false) → (bytes_eq x n ≡ true) ⊎ (bytes_eq x n ≡ false) → (has_name x (others arcs ns) ≡ true → has_name x ns ≡ true) → has_name x (n ∷ ns) ≡ true
                  by_arc a (inl d) before = rw d refl
                  by_arc (inl a) (inr d) before = let r : has_name x (others arcs ns) ≡ true = rw a at q in rw d (before r)
                  by_arc (inr a) (inr d) before = let r : has_name x (others arcs ns) ≡ true = rw (a, d) at q in rw d (before r)

      by_cases : (has_name m.variable arcs ≡ true) ⊎ (has_name m.variable arcs ≡ false) → (has_name m.variable (nonarcs arcs ms) ≡ true) ⊎ (has_name m.variable (nonarcs arcs ms) ≡ false)
          → (with_mention v m).homes ≡ homes arcs (ms ++ m ∷ [])
      by_cases (inl e) d = rw (found, e, nonarcs-arc arcs ms m e) (s.homes_are ∙ kept)
      by_cases (inr e) (inl d) = rw (found, e, s.nonarcs_are, d, nonarcs-other arcs ms m e, d) (s.homes_are ∙ kept)
      by_cases (inr e) (inr d) =
          let new : home_in (ms ++ m ∷ []) m.variable ≡ m.home = home-new ms m (sym (has-nonarc arcs m.variable ms e) ∙ d) in
          rw (found, e, s.nonarcs_are, d, nonarcs-other arcs ms m e, d, map-append (home_in (ms ++ m ∷ [])) (nonarcs arcs ms) (m.variable ∷ []), new, ← kept) (ap (λ hs. hs ++ m.home ∷ []) s.homes_are)

  pub named-next : first_of (faults_now v taken m) ≡ None → AreNamed arcs (ms ++ m ∷ []) (with_mention v m)
  named-next clear = record {
    sound = record {
      homes = ap length homes-next ∙ map-length (home_in (ms ++ m ∷ [])) (nonarcs arcs (ms ++ m ∷ [])) ∙ ap length (sym nonarcs-next);
      few_nonarcs = few-with v taken m clear;
      arcs = s.sound.arcs;
      few_arcs = s.sound.few_arcs;
    };
    arcs_are = s.arcs_are;
    nonarcs_are = nonarcs-next;
    homes_are = homes-next;
  }
