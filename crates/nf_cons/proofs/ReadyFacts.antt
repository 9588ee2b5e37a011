-- What was read of dense CONDATA can be added: few constraints, numbers in range, no coefficient twice.
use Rattle.std.proofs.Common.{◌≡◌, ◌≢◌, ◌<◌, ◌≤◌, ◌+◌, ◌++◌, ◌&&◌, ◌⊎◌, ℕ, zero, suc, Bool, true, false, List, [], ◌∷◌, Option, Some, None, length, get_or, nat_eq, refl, sym, ap, ◌∙◌, inl, inr, arith}
use Rattle.std.proofs.lemmas.Bool.{false≢true, cases_Bool}
use Rattle.std.proofs.lemmas.Bool.Decides.{Decides-eqb}
use Rattle.std.proofs.lemmas.List.{length-append}
use Rattle.std.proofs.lemmas.List.Elements.{All-append, All-cons, All-head, All-nil, All-tail, All-weaker}
use Rattle.std.proofs.lemmas.List.Folds.{list_any-append}
use Rattle.std.proofs.lemmas.Grind.{flat_map-append}
use Rattle.std.specs.Bool.{nat_le}
use Rattle.std.specs.List.{All, flat_map, list_any}
use Rattle.std.specs.Option.{is_some}
use Rattle.nf_frac.specs.declared.amount.Amount.{Amount}
use Rattle.nf_cells.specs.declared.values.Cell.{Cell}
use Rattle.nf_cells.specs.declared.values.Cell.TheVariants.{Missing, Bad, Is}
use Rattle.nf_model.specs.declared.RowKind.{RowKind}
use Rattle.nf_program.specs.declared.program.Role.TheVariants as role
use Rattle.nf_roles.specs.declared.fault.DataKind.TheVariants as kind
use Rattle.nf_network.specs.Excess.{joined_below}
use Rattle.nf_network.specs.Faults.{is_bad}
use Rattle.nf_network.proofs.Lists.{joined-more, joined-none}
use Rattle.nf_cons.specs.declared.places.DataColumn.TheVariants.{OfRole}
use Rattle.nf_cons.specs.declared.taken.Coefficient.{Coefficient}
use Rattle.nf_cons.specs.declared.value.Value.{Value}
use Rattle.nf_cons.specs.declared.value.Value.TheVariants.{Finite, NoUpper, NoLower}
use Rattle.nf_cons.specs.Dense.{Dense, cell_at, first_row_fault, given_at, given_before, given_by, given_in, givens, most_constraints, right_at, row_at, row_fault_at, side_at, side_if, sides, type_at}
use Rattle.nf_cons.specs.Making.{IsPlaced, are_apart, same_place}
use Rattle.nf_cons.specs.Places.{fault_if, in_row}
use Rattle.nf_cons.specs.Terms.{Given, coefficient_of}
use Rattle.nf_cons.specs.Types.{is_side, side_kind}
use Rattle.nf_cons.proofs.DenseFacts.{before-all, before-more, before-none, sides-more, typed-clear}
use Rattle.nf_cons.proofs.FaultFacts.{no-row, none-at, or-first, or-second, passed}

-- ---- constraints
-- All rows are without a fault.
abbrev pub IsClear : Dense → Type 0
IsClear d = (k : ℕ) → k < length d.rows → row_fault_at d k ≡ None

pub clear-of : (d : Dense) → first_row_fault d ≡ None → IsClear d
clear-of d h = λ k below. no-row (k + 1) (row_fault_at d k) (none-at (length d.rows) k (λ i. in_row (i + 1) (row_fault_at d i)) h below)

-- A row is one constraint where its type is that of one, and else none.
sides-with : (d : Dense) (k : ℕ) (o : Option RowKind) → side_kind (type_at d k) ≡ o → length (sides d (k + 1)) ≡ length (sides d k) + length (side_if k (right_at d k) o)
sides-with d k o e = ap length (sides-more d k) ∙ length-append (sides d k) (side_at d k) ∙ ap (λ q. length (sides d k) + length (side_if k (right_at d k) q)) e

pub sides-grow : (d : Dense) (k : ℕ) → length (sides d k) ≤ length (sides d (k + 1))
sides-grow d k = let all = ap length (sides-more d k) ∙ length-append (sides d k) (side_at d k) in omega (arith, all)

pub side-more : (d : Dense) (k : ℕ) → is_side (type_at d k) ≡ true → length (sides d k) < length (sides d (k + 1))
side-more d k h = by_kind (side_kind (type_at d k)) refl
  where
    by_kind : (o : Option RowKind) → side_kind (type_at d k) ≡ o → length (sides d k) < length (sides d (k + 1))
    by_kind None e = absurd (false≢true (sym (ap is_some e) ∙ h))
    by_kind (Some q) e = let all = sides-with d k (Some q) e in omega (arith, all)

pub few-sides : (d : Dense) (k : ℕ) → IsClear d → k ≤ length d.rows → length (sides d k) ≤ most_constraints
few-sides d zero clear few = let none = ap length (joined-none (side_at d)) in omega (arith, none)
few-sides d (suc k) clear few = by_kind (side_kind (type_at d k)) refl (few-sides d k clear (omega (arith, few)))
  where
    next : suc k ≡ k + 1
    next = omega arith

    by_kind : (o : Option RowKind) → side_kind (type_at d k) ≡ o → length (sides d k) ≤ most_constraints → length (sides d (suc k)) ≤ most_constraints
    by_kind None e before = let all = sides-with d k None e in rw next (omega (arith, all, before))
    by_kind (Some q) e before =
        let typed = typed-clear d k (clear k (omega (arith, few))) in
        let side : is_side (type_at d k) ≡ true = ap is_some e in
        let full = passed (is_side (type_at d k) && nat_le most_constraints (length (sides d k))) (OfRole role.Row) kind.LimitPassed
        (or-first _ _ (or-second (fault_if (is_bad (row_at d k).row_type) (OfRole role.ConKind) kind.UnknownKind) _ typed)) in
        let room : nat_le most_constraints (length (sides d k)) ≡ false = rw side at full in
        let less : length (sides d k) < most_constraints = grind (arith, room) in
        let all = sides-with d k (Some q) e in
        rw next (omega (arith, all, less))

pub sides-named : (d : Dense) (k : ℕ) → All (λ s. s.name < k) (sides d k)
sides-named d zero = rw (joined-none (side_at d)) (All-nil (λ s. s.name < 0))
sides-named d (suc k) =
    let next : suc k ≡ k + 1 = omega arith in
    let all : All (λ s. s.name < suc k) (sides d k ++ side_at d k) =
    All-append (λ s. s.name < suc k) (sides d k) (side_at d k) (All-weaker (λ s. s.name < k) (λ s. s.name < suc k) (λ s h. omega (arith, h)) (sides d k) (sides-named d k)) (by_kind (side_kind (type_at d k))) in
    rw (next, sides-more d k) (rw next at all)
  where
    by_kind : (o : Option RowKind) → All (λ s. s.name < suc k) (side_if k (right_at d k) o)
    by_kind None = All-nil (λ s. s.name < suc k)
    by_kind (Some q) = All-cons (λ s. s.name < suc k) (record { name = k; kind = q; right = right_at d k }) [] (omega arith) (All-nil (λ s. s.name < suc k))

-- ---- coefficients
abbrev pub coefs : List Given → List Coefficient
coefs gs = flat_map coefficient_of gs

-- A cell gives one coefficient at most: of its variable, in its row's constraint.
cell-all : (d : Dense) (k i : ℕ) (P : Coefficient → Type 0)
    → (is_side (type_at d k) ≡ true → (a : Amount) → P (record { variable = get_or d.variables i 0; constraint = length (sides d k); value = a })) → All P (coefs (given_at d k i))
unfolding given_at
cell-all d k i P h = by_cell (cell_at d k i)
  where
    by_type : (b : Bool) → is_side (type_at d k) ≡ b → (x : Value) → All P (coefs (given_by (type_at d k) d.arcs (get_or d.columns i 0) (get_or d.variables i 0) (length (sides d k)) (k + 1) (Is x)))
    by_type false e x = rw e (All-nil P)
    by_type true e (Finite a) = rw e (All-cons P (record { variable = get_or d.variables i 0; constraint = length (sides d k); value = a }) [] (h e a) (All-nil P))
    by_type true e NoUpper = rw e (All-nil P)
    by_type true e NoLower = rw e (All-nil P)

    by_cell : (cell : Cell Value) → All P (coefs (given_by (type_at d k) d.arcs (get_or d.columns i 0) (get_or d.variables i 0) (length (sides d k)) (k + 1) cell))
    by_cell Missing = All-nil P
    by_cell Bad = All-nil P
    by_cell (Is x) = by_type (is_side (type_at d k)) refl x

cell-apart : (d : Dense) (k i : ℕ) → are_apart (coefs (given_at d k i)) ≡ true
unfolding given_at are_apart
cell-apart d k i = by_cell (cell_at d k i)
  where
    by_type : (b : Bool) → is_side (type_at d k) ≡ b → (x : Value)
        → are_apart (coefs (given_by (type_at d k) d.arcs (get_or d.columns i 0) (get_or d.variables i 0) (length (sides d k)) (k + 1) (Is x))) ≡ true
    by_type false e x = rw e refl
    by_type true e (Finite a) = rw e refl
    by_type true e NoUpper = rw e refl
    by_type true e NoLower = rw e refl

    by_cell : (cell : Cell Value) → are_apart (coefs (given_by (type_at d k) d.arcs (get_or d.columns i 0) (get_or d.variables i 0) (length (sides d k)) (k + 1) cell)) ≡ true
    by_cell Missing = refl
    by_cell Bad = refl
    by_cell (Is x) = by_type (is_side (type_at d k)) refl x

pub coefs-more : (gs hs : List Given) → coefs (gs ++ hs) ≡ coefs gs ++ coefs hs
coefs-more gs hs = flat_map-append coefficient_of gs hs

module _ (d : Dense) (m : ℕ) (inside : (i : ℕ) → i < length d.variables → get_or d.variables i 0 < m) where
  row-placed : (k i : ℕ) → i ≤ length d.variables → All (IsPlaced m (length (sides d (k + 1)))) (coefs (joined_below i (given_at d k)))
  row-placed k zero few = rw (joined-none (given_at d k)) (All-nil (IsPlaced m (length (sides d (k + 1)))))
  row-placed k (suc i) few =
      let next : suc i ≡ i + 1 = omega arith in
      let cell = cell-all d k i (IsPlaced m (length (sides d (k + 1)))) (λ side a. (inside i (omega (arith, few)), side-more d k side)) in
      rw (next, joined-more i (given_at d k), coefs-more (joined_below i (given_at d k)) (given_at d k i))
      (All-append (IsPlaced m (length (sides d (k + 1)))) (coefs (joined_below i (given_at d k))) (coefs (given_at d k i)) (row-placed k i (omega (arith, few))) cell)

  pub placed-to : (k : ℕ) → All (IsPlaced m (length (sides d k))) (coefs (givens d k))
  placed-to zero = rw (joined-none (given_in d)) (All-nil (IsPlaced m (length (sides d 0))))
  placed-to (suc k) =
      let next : suc k ≡ k + 1 = omega arith in
      let grow = sides-grow d k in
      let old = All-weaker (IsPlaced m (length (sides d k))) (IsPlaced m (length (sides d (k + 1)))) (λ c h. (h.0, omega (arith, h.1, grow))) (coefs (givens d k)) (placed-to k) in
      let all = All-append (IsPlaced m (length (sides d (k + 1)))) (coefs (givens d k)) (coefs (given_in d k)) old (row-placed k (length d.variables) (omega arith)) in
      rw (next, joined-more k (given_in d), coefs-more (givens d k) (given_in d k)) all

-- ---- no coefficient twice
any-none : (p : Coefficient → Bool) (cs : List Coefficient) → All (λ c. p c ≡ false) cs → list_any p cs ≡ false
any-none p [] h = refl
any-none p (c ∷ cs) h = rw (All-head (λ q. p q ≡ false) c cs h) (any-none p cs (All-tail (λ q. p q ≡ false) c cs h))

pub apart-append : (xs ys : List Coefficient) → are_apart xs ≡ true → are_apart ys ≡ true → All (λ y. All (λ x. same_place x y ≡ false) xs) ys → are_apart (xs ++ ys) ≡ true
unfolding are_apart
apart-append [] ys hx hy h = hy
apart-append (x ∷ xs) ys hx hy h = by_cases (cases_Bool (list_any (same_place x) xs)) (apart-append xs ys)
  where
    first : All (λ y. same_place x y ≡ false) ys
    first = All-weaker (λ y. All (λ q. same_place q y ≡ false) (x ∷ xs)) (λ y. same_place x y ≡ false) (λ y q. All-head (λ e. same_place e y ≡ false) x xs q) ys h

    rest : All (λ y. All (λ q. same_place q y ≡ false) xs) ys
    rest = All-weaker (λ y. All (λ q. same_place q y ≡ false) (x ∷ xs)) (λ y. All (λ q. same_place q y ≡ false) xs) (λ y q. All-tail (λ e. same_place e y ≡ false) x xs q) ys h

    by_cases : (list_any (same_place x) xs ≡ true) ⊎ (list_any (same_place x) xs ≡ false)
        → (are_apart xs ≡ true → are_apart ys ≡ true → All (λ y. All (λ q. same_place q y ≡ false) xs) ys → are_apart (xs ++ ys) ≡ true) → are_apart ((x ∷ xs) ++ ys) ≡ true
    by_cases (inl e) before = absurd (false≢true (rw e at hx))
    by_cases (inr e) before =
        let old : are_apart xs ≡ true = rw e at hx in
        rw (list_any-append (same_place x) xs ys, e, any-none (same_place x) ys first) (before old hy rest)

-- A coefficient is of an earlier constraint, or of an earlier column of this one.
abbrev IsEarlier : Dense → ℕ → ℕ → Coefficient → Type 0
IsEarlier d k i c = (c.constraint < length (sides d k)) ⊎ ((j : ℕ) × (j < i) × (c.variable ≡ get_or d.variables j 0))

module _ (d : Dense) (distinct : (j i : ℕ) → j < i → i < length d.variables → get_or d.variables j 0 ≢ get_or d.variables i 0) where
  not-same : (k i : ℕ) (a : Amount) (c : Coefficient) → i < length d.variables → IsEarlier d k i c
      → same_place c (record { variable = get_or d.variables i 0; constraint = length (sides d k); value = a }) ≡ false
  not-same k i a c below (inl less) =
      let other : nat_eq c.constraint (length (sides d k)) ≡ false = by_test (cases_Bool (nat_eq c.constraint (length (sides d k)))) in
      rw other (and-false (nat_eq c.variable (get_or d.variables i 0)))
    where
      and-false : (b : Bool) → (b && false) ≡ false
      and-false true = refl
      and-false false = refl

      by_test : (nat_eq c.constraint (length (sides d k)) ≡ true) ⊎ (nat_eq c.constraint (length (sides d k)) ≡ false) → nat_eq c.constraint (length (sides d k)) ≡ false
      by_test (inl e) = let same = (Decides-eqb c.constraint (length (sides d k))).0 e in absurd (omega (arith, same, less))
      by_test (inr e) = e
  not-same k i a c below (inr e) =
      let other : nat_eq c.variable (get_or d.variables i 0) ≡ false = by_test (cases_Bool (nat_eq c.variable (get_or d.variables i 0))) in
      rw other refl
    where
      by_test : (nat_eq c.variable (get_or d.variables i 0) ≡ true) ⊎ (nat_eq c.variable (get_or d.variables i 0) ≡ false) → nat_eq c.variable (get_or d.variables i 0) ≡ false
      by_test (inl t) = absurd (distinct e.0 i e.1 below (sym e.2 ∙ (Decides-eqb c.variable (get_or d.variables i 0)).0 t))
      by_test (inr t) = t

  row-earlier : (k i : ℕ) → All (λ c. c.constraint < length (sides d k)) (coefs (givens d k)) → i ≤ length d.variables → All (IsEarlier d k i) (coefs (given_before d k i))
  row-earlier k zero old few = rw (before-none d k) (All-weaker (λ c. c.constraint < length (sides d k)) (IsEarlier d k 0) (λ c h. inl h) (coefs (givens d k)) old)
  row-earlier k (suc i) old few =
      let next : suc i ≡ i + 1 = omega arith in
      let before = All-weaker (IsEarlier d k i) (IsEarlier d k (i + 1)) wider (coefs (given_before d k i)) (row-earlier k i old (omega (arith, few))) in
      let cell = cell-all d k i (IsEarlier d k (i + 1)) (λ side a. inr (i, omega arith, refl)) in
      rw (next, before-more d k i, coefs-more (given_before d k i) (given_at d k i)) (All-append (IsEarlier d k (i + 1)) (coefs (given_before d k i)) (coefs (given_at d k i)) before cell)
    where
      wider : (c : Coefficient) → IsEarlier d k i c → IsEarlier d k (i + 1) c
      wider c (inl h) = inl h
      wider c (inr h) = inr (h.0, omega (arith, h.1), h.2)

  row-apart : (k i : ℕ) → All (λ c. c.constraint < length (sides d k)) (coefs (givens d k)) → are_apart (coefs (givens d k)) ≡ true → i ≤ length d.variables → are_apart (coefs (given_before d k i)) ≡ true
  row-apart k zero old apart few = rw (before-none d k) apart
  row-apart k (suc i) old apart few =
      let next : suc i ≡ i + 1 = omega arith in
      let earlier = row-earlier k i old (omega (arith, few)) in
      let cell = cell-all d k i (λ y. All (λ x. same_place x y ≡ false) (coefs (given_before d k i)))
      (λ side a. All-weaker (IsEarlier d k i) (λ x. same_place x (record { variable = get_or d.variables i 0; constraint = length (sides d k); value = a }) ≡ false)
      (λ c h. not-same k i a c (omega (arith, few)) h) (coefs (given_before d k i)) earlier) in
      rw (next, before-more d k i, coefs-more (given_before d k i) (given_at d k i))
      (apart-append (coefs (given_before d k i)) (coefs (given_at d k i)) (row-apart k i old apart (omega (arith, few))) (cell-apart d k i) cell)

  pub apart-to : (m : ℕ) → ((i : ℕ) → i < length d.variables → get_or d.variables i 0 < m) → (k : ℕ) → are_apart (coefs (givens d k)) ≡ true
  unfolding are_apart
  apart-to m inside zero = rw (joined-none (given_in d)) refl
  apart-to m inside (suc k) =
      let next : suc k ≡ k + 1 = omega arith in
      let old = All-weaker (IsPlaced m (length (sides d k))) (λ c. c.constraint < length (sides d k)) (λ c h. h.1) (coefs (givens d k)) (placed-to d m inside k) in
      rw (next, ← before-all d k) (row-apart k (length d.variables) old (apart-to m inside k) (omega arith))
