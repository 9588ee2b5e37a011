-- What was read of sparse CONDATA can be added: few constraints, numbers in range, no coefficient twice.
use Rattle.std.proofs.Common.{◌≡◌, ◌<◌, ◌≤◌, ◌+◌, ◌++◌, ◌∷◌, ◌⊎◌, ◌∙◌, ℕ, zero, suc, true, false, [], Option, Some, None, if◌then◌else◌, length, get_or, refl, sym, ap, inl, inr, arith}
use Rattle.std.specs.Prelude.{pos, unwrap_or}
use Rattle.std.proofs.lemmas.Bool.{cases_Bool, cases_lt}
use Rattle.std.proofs.lemmas.List.{append-nil, length-append}
use Rattle.std.proofs.lemmas.List.Elements.{All-append, All-cons, All-nil, All-weaker}
use Rattle.std.specs.Bool.{nat_le}
use Rattle.std.specs.List.{All}
use Rattle.std.specs.Option.{is_some}
use Rattle.nf_frac.specs.declared.amount.Amount.{Amount}
use Rattle.nf_cells.specs.Names.{first_seen, has_name}
use Rattle.nf_model.specs.declared.RowKind.{RowKind}
use Rattle.nf_model.specs.declared.RowKind.TheVariants as side
use Rattle.nf_program.specs.declared.program.Role.TheVariants as role
use Rattle.nf_roles.specs.declared.fault.DataKind.TheVariants as kind
use Rattle.nf_network.proofs.Lists.{joined-more, joined-none}
use Rattle.nf_cons.specs.declared.places.DataColumn.TheVariants.{OfRole}
use Rattle.nf_cons.specs.declared.taken.SideRow.{SideRow}
use Rattle.nf_cons.specs.Dense.{most_constraints, side_if}
use Rattle.nf_cons.specs.Places.{first_of}
use Rattle.nf_cons.specs.Terms.{lists_of, term_faults}
use Rattle.nf_cons.specs.Types.{is_side, side_kind}
use Rattle.nf_cons.proofs.FaultFacts.{first-append, or-first, passed}
use Rattle.nf_cons_sparse.specs.Sparse.{Sparse, coef_of, given_right, givens, has_coefficient, line_at, number_faults, row_name_at, row_names, row_of, row_type_of, side_at, side_number_at, side_numbers, side_of, sides, term_at, type_at, typed_fault_at, value_faults}
use Rattle.nf_cons_sparse.proofs.AfterFacts.{names-more}
use Rattle.nf_cons_sparse.proofs.TypedFacts.{get-front, get-last, numbers-length}

abbrev pub no_side : SideRow
no_side = record { name = 0; kind = side.Le; right = record { thousandths = pos 0 } }

-- The right side of the constraint of a line.
abbrev pub right_of : Sparse → ℕ → Amount
right_of s k = unwrap_or (given_right s (length s.lines) (row_of (line_at s k))) (record { thousandths = pos 0 })

names-none : (s : Sparse) → row_names s 0 ≡ []
unfolding first_seen
names-none s = ap first_seen (joined-none (row_name_at s))

-- ---- one constraint more
-- A line whose constraint was there adds none, and one whose constraint is new adds its number.
names-old : (s : Sparse) (k : ℕ) → has_name (row_of (line_at s k)) (row_names s k) ≡ true → row_names s (k + 1) ≡ row_names s k
names-old s k e = names-more s k ∙ rw e refl

numbers-old : (s : Sparse) (k : ℕ) → has_name (row_of (line_at s k)) (row_names s k) ≡ true → side_numbers s (k + 1) ≡ side_numbers s k
numbers-old s k e = joined-more k (side_number_at s) ∙ rw e (append-nil (side_numbers s k))

sides-old : (s : Sparse) (k : ℕ) → has_name (row_of (line_at s k)) (row_names s k) ≡ true → sides s (k + 1) ≡ sides s k
sides-old s k e = joined-more k (side_at s) ∙ rw e (append-nil (sides s k))

names-new : (s : Sparse) (k : ℕ) → has_name (row_of (line_at s k)) (row_names s k) ≡ false → row_names s (k + 1) ≡ row_names s k ++ row_of (line_at s k) ∷ []
names-new s k e = names-more s k ∙ rw e refl

numbers-new : (s : Sparse) (k : ℕ) → has_name (row_of (line_at s k)) (row_names s k) ≡ false → side_numbers s (k + 1) ≡ side_numbers s k ++ length (sides s k) ∷ []
numbers-new s k e = joined-more k (side_number_at s) ∙ rw e refl

sides-new : (s : Sparse) (k : ℕ) → has_name (row_of (line_at s k)) (row_names s k) ≡ false → sides s (k + 1) ≡ sides s k ++ side_of s (length (row_names s k)) (row_of (line_at s k))
sides-new s k e = joined-more k (side_at s) ∙ rw e refl

-- A side of a type.
side-some : (i : ℕ) (a : Amount) (o : Option RowKind) → is_some o ≡ true → (q : SideRow) × (q.name ≡ i) × (side_if i a o ≡ q ∷ [])
side-some i a None h = absurd (cc)
side-some i a (Some x) h = (record { name = i; kind = x; right = a }, refl, refl)

-- The number of a constraint that is a row of the problem is the place of that row.
abbrev pub IsAt : Sparse → ℕ → ℕ → Type 0
IsAt s k i = (get_or (side_numbers s k) i 0 < length (sides s k)) × ((get_or (sides s k) (get_or (side_numbers s k) i 0) no_side).name ≡ i)

pub side-placed : (s : Sparse) (k i : ℕ) → i < length (row_names s k) → is_side (row_type_of s (get_or (row_names s k) i [])) ≡ true → IsAt s k i
side-placed s zero i below h = let none = ap length (names-none s) in absurd (omega (arith, below, none))
side-placed s (suc k) i below h = by_cases (cases_Bool (has_name (row_of (line_at s k)) (row_names s k))) (side-placed s k i)
  where
    next : suc k ≡ k + 1
    next = omega arith

    by_cases : (has_name (row_of (line_at s k)) (row_names s k) ≡ true) ⊎ (has_name (row_of (line_at s k)) (row_names s k) ≡ false)
        → (i < length (row_names s k) → is_side (row_type_of s (get_or (row_names s k) i [])) ≡ true → IsAt s k i) → IsAt s (suc k) i
    by_cases (inl e) before =
        let less : i < length (row_names s k) = rw (next, names-old s k e) at below in
        let type : is_side (row_type_of s (get_or (row_names s k) i [])) ≡ true = rw (next, names-old s k e) at h in
        rw (next, numbers-old s k e, sides-old s k e) (before less type)
    by_cases (inr e) before = by_place (cases_lt i (length (row_names s k)))
      where
        room : i < length (row_names s k ++ row_of (line_at s k) ∷ [])
        room = rw (next, names-new s k e) at below

        type : is_side (row_type_of s (get_or (row_names s k ++ row_of (line_at s k) ∷ []) i [])) ≡ true
        type = rw (next, names-new s k e) at h

        by_place : (i < length (row_names s k)) ⊎ (length (row_names s k) ≤ i) → IsAt s (suc k) i
        by_place (inl less) =
            let old = before less (rw (get-front (row_names s k) (row_of (line_at s k) ∷ []) i [] less) at type) in
            let count = numbers-length s k in
            let number = get-front (side_numbers s k) (length (sides s k) ∷ []) i 0 (omega (arith, count, less)) in
            let more = side_of s (length (row_names s k)) (row_of (line_at s k)) in
            let size = length-append (sides s k) more in
            rw (next, numbers-new s k e, sides-new s k e, number, get-front (sides s k) more (get_or (side_numbers s k) i 0) no_side old.0) (omega (arith, old.0, size), old.1)
        by_place (inr above) =
            let size = length-append (row_names s k) (row_of (line_at s k) ∷ []) in
            let last : i ≡ length (row_names s k) = omega (arith, above, room, size) in
            let count : length (row_names s k) ≡ length (side_numbers s k) = sym (numbers-length s k) in
            let typed : is_side (row_type_of s (row_of (line_at s k))) ≡ true = rw (last, get-last (row_names s k) (row_of (line_at s k)) []) at type in
            let number : get_or (side_numbers s k ++ length (sides s k) ∷ []) i 0 ≡ length (sides s k) =
            ap (λ j. get_or (side_numbers s k ++ length (sides s k) ∷ []) j 0) (last ∙ count) ∙ get-last (side_numbers s k) (length (sides s k)) 0 in
            let q = side-some (length (row_names s k)) (right_of s k) (side_kind (row_type_of s (row_of (line_at s k)))) typed in
            let more = length-append (sides s k) (q.0 ∷ []) in
            rw (next, numbers-new s k e, sides-new s k e, number, q.2, get-last (sides s k) q.0 no_side) (omega (arith, more), q.1 ∙ sym last)

-- ---- few constraints, each with a name
pub few-sides : (s : Sparse) (k : ℕ) → ((j : ℕ) → j < k → typed_fault_at s j ≡ None) → length (sides s k) ≤ most_constraints
unfolding typed_fault_at
few-sides s zero clear = rw (joined-none (side_at s)) (omega arith)
few-sides s (suc k) clear = by_cases (cases_Bool (has_name (row_of (line_at s k)) (row_names s k))) (cases_Bool (is_side (type_at s k))) (few-sides s k (λ j less. clear j (omega (arith, less))))
  where
    next : suc k ≡ k + 1
    next = omega arith

    none : (i : ℕ) (a : Amount) (o : Option RowKind) → is_some o ≡ false → side_if i a o ≡ []
    none i a None h = refl
    none i a (Some x) h = absurd (cc)

    number : first_of (number_faults s k) ≡ None
    number =
        let rest = if has_coefficient (line_at s k) then term_faults (type_at s k) (term_at s k) (lists_of (givens s k)) else value_faults (type_at s k) (coef_of (line_at s k)) in
        or-first (first_of (number_faults s k)) (first_of rest) (sym (first-append (number_faults s k) rest) ∙ clear k (omega arith))

    by_cases : (has_name (row_of (line_at s k)) (row_names s k) ≡ true) ⊎ (has_name (row_of (line_at s k)) (row_names s k) ≡ false)
        → (is_side (type_at s k) ≡ true) ⊎ (is_side (type_at s k) ≡ false) → length (sides s k) ≤ most_constraints → length (sides s (suc k)) ≤ most_constraints
    by_cases (inl e) t before = rw (next, sides-old s k e) before
    by_cases (inr e) (inr t) before =
        rw (next, sides-new s k e, none (length (row_names s k)) (right_of s k) (side_kind (row_type_of s (row_of (line_at s k)))) t, append-nil (sides s k)) before
    by_cases (inr e) (inl t) before =
        let q = side-some (length (row_names s k)) (right_of s k) (side_kind (row_type_of s (row_of (line_at s k)))) t in
        let full : nat_le most_constraints (length (sides s k)) ≡ false = passed _ (OfRole role.Row) kind.LimitPassed (or-first _ None (rw (e, t) at number)) in
        let less : length (sides s k) < most_constraints = grind (arith, full) in
        let size = length-append (sides s k) (q.0 ∷ []) in
        rw (next, sides-new s k e, q.2) (omega (arith, less, size))

pub sides-named : (s : Sparse) (k : ℕ) → All (λ q. q.name < length (row_names s k)) (sides s k)
sides-named s zero = rw (joined-none (side_at s)) (All-nil (λ q. q.name < length (row_names s 0)))
sides-named s (suc k) = by_cases (cases_Bool (has_name (row_of (line_at s k)) (row_names s k))) (sides-named s k)
  where
    next : suc k ≡ k + 1
    next = omega arith

    one : (i m : ℕ) (a : Amount) (o : Option RowKind) → i < m → All (λ q. q.name < m) (side_if i a o)
    one i m a None h = All-nil (λ q. q.name < m)
    one i m a (Some x) h = All-cons (λ q. q.name < m) (record { name = i; kind = x; right = a }) [] h (All-nil (λ q. q.name < m))

    by_cases : (has_name (row_of (line_at s k)) (row_names s k) ≡ true) ⊎ (has_name (row_of (line_at s k)) (row_names s k) ≡ false)
        → All (λ q. q.name < length (row_names s k)) (sides s k) → All (λ q. q.name < length (row_names s (suc k))) (sides s (suc k))
    by_cases (inl e) before = rw (next, sides-old s k e, names-old s k e) before
    by_cases (inr e) before =
        let m = length (row_names s k ++ row_of (line_at s k) ∷ []) in
        let size = length-append (row_names s k) (row_of (line_at s k) ∷ []) in
        rw (next, sides-new s k e, names-new s k e)
        (All-append (λ q. q.name < m) (sides s k) (side_of s (length (row_names s k)) (row_of (line_at s k)))
        (All-weaker (λ q. q.name < length (row_names s k)) (λ q. q.name < m) (λ q h. omega (arith, h, size)) (sides s k) before)
        (one (length (row_names s k)) m (right_of s k) (side_kind (row_type_of s (row_of (line_at s k)))) (omega (arith, size))))
