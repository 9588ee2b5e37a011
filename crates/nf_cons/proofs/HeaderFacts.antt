-- Facts on the header of dense CONDATA.
use Rattle.std.proofs.Common.{◌≡◌, ◌≢◌, ◌<◌, ◌+◌, ◌^◌, ◌++◌, ◌||◌, ◌⊎◌, ℕ, zero, suc, Bool, true, false, not, List, [], ◌∷◌, None, length, map, take, drop, get_or, refl, sym, ap, ◌∙◌, inl, inr, arith}
use Rattle.std.proofs.lemmas.Bool.{false≢true, cases_Bool}
use Rattle.std.specs.Str.{bytes_eq}
use Rattle.std.proofs.lemmas.List.{get_or-map, get_or-take, length-append, length-take-le, map-append, take-append-drop, take_more}
use Rattle.nf_table.specs.Grid.{Cells}
use Rattle.nf_cells.specs.Cells.{is_blank, is_name, value_of}
use Rattle.nf_cells.proofs.SeenFacts.{at-place, eq-self, place-less}
use Rattle.nf_network.specs.Faults.{excess}
use Rattle.nf_cells.specs.Names.{Name, first_seen, has_name}
use Rattle.nf_roles.specs.declared.fault.DataKind.TheVariants as kind
use Rattle.nf_roles.specs.Roles.{RoleColumns}
use Rattle.nf_network.proofs.PassFacts.{map-length}
use Rattle.nf_cons.specs.declared.places.DataColumn.TheVariants.{Column}
use Rattle.nf_cons.specs.ArcList.{ArcList, AreArcs, arc_in}
use Rattle.nf_cons.specs.Dense.{column_fault_at, first_header_fault, mention_at, mentions, no_mention}
use Rattle.nf_cons.specs.Naming.{VariableList, faults_now, number_now, with_mention}
use Rattle.nf_cons.specs.Passing.{AreNamed, column_faults_now}
use Rattle.nf_cons.specs.Places.{fault_if, first_of, in_row}
use Rattle.nf_cons.specs.Variables.{Mention, is_arc, is_shared, names_in, nonarcs, number_in}
use Rattle.nf_cons.proofs.FaultFacts.{no-row, none-at, or-first, or-second, passed}
use Rattle.nf_cons.proofs.NameFacts.{has-back, has-front, has-rest}
use Rattle.nf_cons.proofs.NamingFacts.{faults-same, has-nonarc, named-next, number-front, number-same, there-next}

-- Before the first mention.
pub named-none : (arcs : List Name) (a : ArcList) → AreArcs arcs a → a.count < 2 ^ 32 → AreNamed arcs [] (record { arcs = a; nonarcs = []; homes = [] })
unfolding first_seen
named-none arcs a s few = record {
  sound = record { homes = refl; few_nonarcs = omega arith; arcs = record { same_length = ap length s.found ∙ map-length (arc_in arcs) a.names }; few_arcs = few };
  arcs_are = s;
  nonarcs_are = refl;
  homes_are = refl;
}

-- The mention of a column.
pub mention-is : (roles : RoleColumns) (header : Cells) (i c : ℕ) (cell : Name) → i < length roles.variables → c ≡ get_or roles.variables i 0 → get_or header c [] ≡ cell
    → get_or (mentions roles header) i no_mention ≡ record { variable = value_of cell; home = record { row = 0; place = Column c } }
mention-is roles header i c cell below is at = get_or-map (mention_at header) roles.variables i 0 no_mention below ∙ rw (← is, at) refl

-- The faults of a column are those of its mention.
pub column-at : (arcs : List Name) (ms : List Mention) (i : ℕ) (v : VariableList) (seen : List Name) (m : Mention) → AreNamed arcs (take i ms) v → seen ≡ names_in (take i ms)
    → get_or ms i no_mention ≡ m → column_fault_at arcs ms i ≡ first_of (column_faults_now v seen m)
unfolding column_fault_at
column-at arcs ms i v seen m s h is =
    rw (is, h) (ap (λ fs. first_of (fault_if (is_blank m.variable) m.home.place kind.BadName ∷ fs)) (sym (faults-same arcs (take i ms) v (has_name m.variable (names_in (take i ms))) m s)))

pub mentions-more : (ms : List Mention) (i : ℕ) (m : Mention) → i < length ms → get_or ms i no_mention ≡ m → take (i + 1) ms ≡ take i ms ++ m ∷ []
mentions-more ms i m below is = take_more ms i no_mention below ∙ ap (λ q. take i ms ++ q ∷ []) is

pub next-named : (arcs : List Name) (ms : List Mention) (i : ℕ) (v : VariableList) (seen : List Name) (m : Mention) → AreNamed arcs (take i ms) v → seen ≡ names_in (take i ms)
    → get_or ms i no_mention ≡ m → i < length ms → first_of (column_faults_now v seen m) ≡ None → AreNamed arcs (take (i + 1) ms) (with_mention v m)
next-named arcs ms i v seen m s h is below clear =
    let rest : first_of (faults_now v (has_name m.variable seen) m) ≡ None = or-second (fault_if (is_blank m.variable) m.home.place kind.BadName) _ clear in
    rw (mentions-more ms i m below is) (named-next arcs (take i ms) v (has_name m.variable seen) m s rest)

pub seen-more : (ms : List Mention) (i : ℕ) (seen : List Name) (m : Mention) → seen ≡ names_in (take i ms) → get_or ms i no_mention ≡ m → i < length ms
    → seen ++ m.variable ∷ [] ≡ names_in (take (i + 1) ms)
seen-more ms i seen m h is below = rw (mentions-more ms i m below is, map-append (λ q. q.variable) (take i ms) (m ∷ []), h) refl

pub numbers-more : (arcs : List Name) (ms : List Mention) (i : ℕ) (v : VariableList) (numbers : List ℕ) (m : Mention) → AreNamed arcs (take i ms) v
    → numbers ≡ map (λ q. number_in arcs ms q.variable) (take i ms) → get_or ms i no_mention ≡ m → i < length ms
    → numbers ++ number_now v m.variable ∷ [] ≡ map (λ q. number_in arcs ms q.variable) (take (i + 1) ms)
numbers-more arcs ms i v numbers m s h is below =
    let more = mentions-more ms i m below is in
    let there = there-next arcs (take i ms) v (has_name m.variable []) m s in
    let kept = number-front arcs (take i ms ++ m ∷ []) (drop (i + 1) ms) m.variable there in
    let whole : (take i ms ++ m ∷ []) ++ drop (i + 1) ms ≡ ms = ap (λ l. l ++ drop (i + 1) ms) (sym more) ∙ take-append-drop (i + 1) ms in
    let number : number_now v m.variable ≡ number_in arcs ms m.variable =
    number-same arcs (take i ms) v (has_name m.variable []) m s ∙ sym kept ∙ ap (λ l. number_in arcs l m.variable) whole in
    rw (more, map-append (λ q. number_in arcs ms q.variable) (take i ms) (m ∷ []), h, number) refl

-- ---- the variables of a header without a fault
column-clear-at : (arcs : List Name) (ms : List Mention) (i : ℕ) → column_fault_at arcs ms i ≡ None → has_name (get_or ms i no_mention).variable (names_in (take i ms)) ≡ false
unfolding column_fault_at
column-clear-at arcs ms i h =
    let m = get_or ms i no_mention in
    let above = names_in (take i ms) in
    or-false (has_name m.variable above) (is_shared arcs m.variable)
    (passed (has_name m.variable above || is_shared arcs m.variable) m.home.place kind.AmbiguousName
    (or-first _ _ (or-second (fault_if (bytes_eq m.variable excess) m.home.place kind.ReservedName) _
    (or-second (fault_if (not (is_name m.variable || is_arc arcs m.variable)) m.home.place kind.BadName) _ (or-second (fault_if (is_blank m.variable) m.home.place kind.BadName) _ h)))))
  where
    or-false : (a b : Bool) → (a || b) ≡ false → a ≡ false
    or-false false b q = refl
    or-false true b q = absurd (false≢true (sym q))

has-member : (ms : List Mention) (i : ℕ) → i < length ms → has_name (get_or ms i no_mention).variable (names_in ms) ≡ true
has-member [] i below = absurd (omega arith)
has-member (m ∷ ms) zero below = rw (eq-self m.variable) refl
has-member (m ∷ ms) (suc i) below = has-rest (get_or ms i no_mention).variable m.variable (names_in ms) (has-member ms i (omega (arith, below)))

module _ (arcs : List Name) (ms : List Mention) where
  there : (i : ℕ) → i < length ms → has_name (get_or ms i no_mention).variable (arcs ++ nonarcs arcs ms) ≡ true
  there i below = by_cases (cases_Bool (is_arc arcs (get_or ms i no_mention).variable))
    where
      by_cases : (is_arc arcs (get_or ms i no_mention).variable ≡ true) ⊎ (is_arc arcs (get_or ms i no_mention).variable ≡ false) → has_name (get_or ms i no_mention).variable (arcs ++ nonarcs arcs ms) ≡ true
      by_cases (inl e) = has-front (get_or ms i no_mention).variable arcs (nonarcs arcs ms) e
      by_cases (inr e) = has-back (get_or ms i no_mention).variable arcs (nonarcs arcs ms) (has-nonarc arcs (get_or ms i no_mention).variable ms e ∙ has-member ms i below)

  number-at : (i : ℕ) → i < length ms → get_or (map (λ m. number_in arcs ms m.variable) ms) i 0 ≡ number_in arcs ms (get_or ms i no_mention).variable
  number-at i below = get_or-map (λ m. number_in arcs ms m.variable) ms i no_mention 0 below

  -- Each number is that of a variable.
  pub number-below : (i : ℕ) → i < length ms → get_or (map (λ m. number_in arcs ms m.variable) ms) i 0 < length arcs + length (nonarcs arcs ms)
  number-below i below =
      let less = place-less (get_or ms i no_mention).variable (arcs ++ nonarcs arcs ms) (there i below) in
      let size = length-append arcs (nonarcs arcs ms) in
      rw (number-at i below) (omega (arith, less, size))

  -- No two columns have one variable.
  pub numbers-apart : first_header_fault arcs ms ≡ None → (j i : ℕ) → j < i → i < length ms
      → get_or (map (λ m. number_in arcs ms m.variable) ms) j 0 ≢ get_or (map (λ m. number_in arcs ms m.variable) ms) i 0
  numbers-apart clear j i less below = λ same.
      let first : j < length ms = omega (arith, less, below) in
      let places : number_in arcs ms (get_or ms j no_mention).variable ≡ number_in arcs ms (get_or ms i no_mention).variable = sym (number-at j first) ∙ same ∙ number-at i below in
      let names : (get_or ms j no_mention).variable ≡ (get_or ms i no_mention).variable =
      sym (at-place (get_or ms j no_mention).variable (arcs ++ nonarcs arcs ms) [] (there j first)) ∙ ap (λ k. get_or (arcs ++ nonarcs arcs ms) k []) places ∙ at-place (get_or ms i no_mention).variable (arcs ++ nonarcs arcs ms) [] (there i below) in
      let none = column-clear-at arcs ms i (no-row 0 (column_fault_at arcs ms i) (none-at (length ms) i (λ k. in_row 0 (column_fault_at arcs ms k)) clear below)) in
      let size : length (take i ms) ≡ i = length-take-le i ms (omega (arith, below)) in
      let at : get_or (take i ms) j no_mention ≡ get_or ms j no_mention = get_or-take i ms j no_mention less in
      let has : has_name (get_or ms j no_mention).variable (names_in (take i ms)) ≡ true = rw at at (has-member (take i ms) j (omega (arith, less, size))) in
      false≢true (sym none ∙ rw names at has)
