-- Facts on arcs by their names.
use Rattle.std.proofs.Common.{◌≡◌, ◌<◌, ◌+◌, ◌++◌, ◌⊎◌, true, false, List, [], ◌∷◌, length, map, filter, get_or, refl, sym, ap, ◌∙◌, inl, inr, arith}
use Rattle.std.proofs.lemmas.Bool.{false≢true, cases_Bool}
use Rattle.std.proofs.lemmas.List.{map-append, length-append, get_or-map}
use Rattle.std.proofs.lemmas.List.Elements.{filter-append}
use Rattle.std.specs.Bool.{nat_lt}
use Rattle.std.specs.Str.{bytes_eq}
use Rattle.nf_cells.specs.Names.{Name, first_seen, has_name, is_once, place_of, with_name}
use Rattle.nf_cells.proofs.SeenFacts.{at-place, differs-sym, eq-self, first_seen-push, once-with, place-less}
use Rattle.nf_network.proofs.PassFacts.{map-length}
use Rattle.nf_cons.specs.ArcList.{ArcList, AreArcs, arc_in, no_arc, no_arcs, with_arc, with_found}
use Rattle.nf_cons.proofs.NameFacts.{agree, has-seen, not-same, place-front, place-none, set-at}

-- ---- how often a name is there
count-append : (x : Name) (ks ls : List Name) → length (filter (bytes_eq x) (ks ++ ls)) ≡ length (filter (bytes_eq x) ks) + length (filter (bytes_eq x) ls)
count-append x ks ls = ap length (filter-append (bytes_eq x) ks ls) ∙ length-append (filter (bytes_eq x) ks) (filter (bytes_eq x) ls)

count-there : (x : Name) (ks : List Name) → has_name x ks ≡ true → 0 < length (filter (bytes_eq x) ks)
count-there x [] h = absurd (false≢true h)
count-there x (k ∷ ks) h = by_cases (cases_Bool (bytes_eq x k)) (count-there x ks)
  where
    by_cases : (bytes_eq x k ≡ true) ⊎ (bytes_eq x k ≡ false) → (has_name x ks ≡ true → 0 < length (filter (bytes_eq x) ks)) → 0 < length (filter (bytes_eq x) (k ∷ ks))
    by_cases (inl e) before = rw e (omega arith)
    by_cases (inr e) before =
        let rest : has_name x ks ≡ true = rw e at h in
        rw e (before rest)

pub count-none : (x : Name) (ks : List Name) → has_name x ks ≡ false → length (filter (bytes_eq x) ks) ≡ 0
count-none x [] h = refl
count-none x (k ∷ ks) h = by_cases (cases_Bool (bytes_eq x k)) (count-none x ks)
  where
    by_cases : (bytes_eq x k ≡ true) ⊎ (bytes_eq x k ≡ false) → (has_name x ks ≡ false → length (filter (bytes_eq x) ks) ≡ 0) → length (filter (bytes_eq x) (k ∷ ks)) ≡ 0
    by_cases (inl e) before = absurd (false≢true (sym (rw e at h)))
    by_cases (inr e) before =
        let rest : has_name x ks ≡ false = rw e at h in
        rw e (before rest)

-- ---- one arc more
-- The arcs of another name stay.
arc-other : (arcs : List Name) (n x : Name) → has_name x arcs ≡ true → bytes_eq n x ≡ false → arc_in (arcs ++ n ∷ []) x ≡ arc_in arcs x
arc-other arcs n x h d =
    let none : length (filter (bytes_eq x) (n ∷ [])) ≡ 0 = rw (differs-sym n x d) refl in
    let same : length (filter (bytes_eq x) (arcs ++ n ∷ [])) ≡ length (filter (bytes_eq x) arcs) = rw (count-append x arcs (n ∷ []), none) (omega arith) in
    rw (place-front x arcs (n ∷ []) h, same) refl

-- The name of an arc that was there is shared.
arc-again : (arcs : List Name) (n : Name) → has_name n arcs ≡ true → arc_in (arcs ++ n ∷ []) n ≡ record { number = place_of n arcs; is_shared = true }
arc-again arcs n h =
    let one : length (filter (bytes_eq n) (n ∷ [])) ≡ 1 = rw (eq-self n) refl in
    let some = count-there n arcs h in
    let more : nat_lt 1 (length (filter (bytes_eq n) (arcs ++ n ∷ []))) ≡ true = rw (count-append n arcs (n ∷ []), one) (grind (arith, some)) in
    rw (place-front n arcs (n ∷ []) h, more) refl

-- A new name has one arc, the last.
arc-new : (arcs : List Name) (n : Name) → has_name n arcs ≡ false → arc_in (arcs ++ n ∷ []) n ≡ record { number = length arcs; is_shared = false }
arc-new arcs n h =
    let one : length (filter (bytes_eq n) (n ∷ [])) ≡ 1 = rw (eq-self n) refl in
    let none = count-none n arcs h in
    let single : nat_lt 1 (length (filter (bytes_eq n) (arcs ++ n ∷ []))) ≡ false = rw (count-append n arcs (n ∷ []), one, none) refl in
    rw (place-none n arcs h, single) refl

module _ (arcs : List Name) (a : ArcList) (n : Name) (s : AreArcs arcs a) where
  there : has_name n a.names ≡ has_name n arcs
  there = ap (has_name n) s.names ∙ has-seen n arcs

  there-of : (x : Name) → has_name x a.names ≡ true → has_name x arcs ≡ true
  there-of x h = sym (ap (has_name x) s.names ∙ has-seen x arcs) ∙ h

  found-length : length a.found ≡ length a.names
  found-length = ap length s.found ∙ map-length (arc_in arcs) a.names

  names-next : with_name a.names n ≡ first_seen (arcs ++ n ∷ [])
  names-next = ap (λ ks. with_name ks n) s.names ∙ sym (first_seen-push arcs n)

  found-old : has_name n a.names ≡ true → with_found a n ≡ map (arc_in (arcs ++ n ∷ [])) (with_name a.names n)
  found-old h =
      let below = place-less n a.names h in
      let less : nat_lt (place_of n a.names) (length a.found) ≡ true = grind (arith, below, found-length) in
      let first : get_or a.found (place_of n a.names) no_arc ≡ arc_in arcs n =
      ap (λ f. get_or f (place_of n a.names) no_arc) s.found ∙ get_or-map (arc_in arcs) a.names (place_of n a.names) [] no_arc below ∙ ap (arc_in arcs) (at-place n a.names [] h) in
      let old : has_name n arcs ≡ true = there-of n h in
      rw (less, h, first, s.found)
      (set-at (arc_in arcs) (arc_in (arcs ++ n ∷ [])) n (record { number = place_of n arcs; is_shared = true }) a.names s.once h (arc-again arcs n old)
      (λ x hx d. arc-other arcs n x (there-of x hx) d))

  found-new : has_name n a.names ≡ false → with_found a n ≡ map (arc_in (arcs ++ n ∷ [])) (with_name a.names n)
  found-new h =
      let end : place_of n a.names ≡ length a.names = absent n a.names h in
      let less : nat_lt (place_of n a.names) (length a.found) ≡ false = grind (arith, end, found-length) in
      let absent_there : has_name n arcs ≡ false = sym there ∙ h in
      let others : map (arc_in arcs) a.names ≡ map (arc_in (arcs ++ n ∷ [])) a.names = agree (arc_in arcs) (arc_in (arcs ++ n ∷ [])) a.names
      (λ x hx. arc-other arcs n x (there-of x hx) (not-same a.names n x h hx)) in
      rw (less, h, s.found, s.count, map-append (arc_in (arcs ++ n ∷ [])) a.names (n ∷ []), others, arc-new arcs n absent_there) refl
    where
      absent : (x : Name) (ks : List Name) → has_name x ks ≡ false → place_of x ks ≡ length ks
      absent x [] u = refl
      absent x (k ∷ ks) u = by_cases (cases_Bool (bytes_eq x k)) (absent x ks)
        where
          by_cases : (bytes_eq x k ≡ true) ⊎ (bytes_eq x k ≡ false) → (has_name x ks ≡ false → place_of x ks ≡ length ks) → place_of x (k ∷ ks) ≡ length (k ∷ ks)
          by_cases (inl e) before = absurd (false≢true (sym (rw e at u)))
          by_cases (inr e) before =
              let rest : has_name x ks ≡ false = rw e at u in
              let all = before rest in
              rw (e, all) (omega arith)

  found-next : with_found a n ≡ map (arc_in (arcs ++ n ∷ [])) (with_name a.names n)
  found-next = by_cases (cases_Bool (has_name n a.names))
    where
      by_cases : (has_name n a.names ≡ true) ⊎ (has_name n a.names ≡ false) → with_found a n ≡ map (arc_in (arcs ++ n ∷ [])) (with_name a.names n)
      by_cases (inl h) = found-old h
      by_cases (inr h) = found-new h

  pub arcs-next : AreArcs (arcs ++ n ∷ []) (with_arc a n)
  arcs-next = record {
    names = names-next;
    found = found-next;
    count = ap (λ k. k + 1) s.count ∙ sym (length-append arcs (n ∷ []));
    once = once-with a.names n s.once;
  }

pub arcs-none : AreArcs [] no_arcs
unfolding first_seen is_once
arcs-none = record { names = refl; found = refl; count = refl; once = refl }
