-- The coefficients of sparse CONDATA: their numbers are in range, and no coefficient is given twice.
use Rattle.std.proofs.Common.{◌≡◌, ◌<◌, ◌≤◌, ◌+◌, ◌∷◌, ◌||◌, ◌⊎◌, ◌∙◌, ℕ, zero, suc, Bool, true, false, [], length, get_or, nat_eq, refl, sym, ap, inl, inr, arith}
use Rattle.std.proofs.lemmas.Bool.{false≢true, cases_Bool}
use Rattle.std.proofs.lemmas.Bool.Decides.{Decides-eqb}
use Rattle.std.proofs.lemmas.List.Elements.{All-append, All-cons, All-nil, All-weaker}
use Rattle.std.proofs.lemmas.List.Folds.{list_any-append}
use Rattle.std.specs.List.{All}
use Rattle.nf_frac.specs.declared.amount.Amount.{Amount}
use Rattle.nf_cells.specs.Names.{has_name}
use Rattle.nf_cells.proofs.SeenFacts.{at-place, place-less}
use Rattle.nf_network.specs.Arcs.{said}
use Rattle.nf_network.proofs.Lists.{joined-more, joined-none}
use Rattle.nf_cons.specs.declared.value.Value.{Value}
use Rattle.nf_cons.specs.declared.value.Value.TheVariants.{Finite, NoUpper, NoLower}
use Rattle.nf_cons.specs.declared.taken.Coefficient.{Coefficient}
use Rattle.nf_cons.specs.Making.{are_apart, same_place}
use Rattle.nf_cons.specs.Types.{is_side}
use Rattle.nf_cons.proofs.NameFacts.{has-front}
use Rattle.nf_cons.proofs.ReadyFacts.{apart-append, coefs, coefs-more}
use Rattle.nf_cons_sparse.specs.Sparse.{Sparse, constraint_at, given_at, givens, has_coefficient, has_pair, line_at, line_term, pair_at, pairs, row_names, row_number, row_of, row_type_of, same_pair, side_number_at, side_numbers, sides, type_at, variable_number}
use Rattle.nf_cons_sparse.proofs.AfterFacts.{joined-front, names-front, name-there, row-next}
use Rattle.nf_cons_sparse.proofs.ReadyLines.{no_side, side-placed}
use Rattle.nf_cons_sparse.proofs.TypedFacts.{get-front, numbers-length}

-- ---- a line
-- A line gives one coefficient at most.
line-all : (s : Sparse) (k : ℕ) (P : Coefficient → Type 0)
    → (has_coefficient (line_at s k) ≡ true → is_side (type_at s k) ≡ true → (a : Amount) → P (record { variable = variable_number s k; constraint = constraint_at s k; value = a }))
    → All P (coefs (given_at s k))
unfolding given_at
line-all s k P h = by_cases (cases_Bool (has_coefficient (line_at s k)))
  where
    by_type : has_coefficient (line_at s k) ≡ true → (b : Bool) → is_side (type_at s k) ≡ b → (x : Value)
        → All P (coefs (record { row_type = type_at s k; term = line_term (length s.arcs) (variable_number s k) x; constraint = constraint_at s k; row = k + 1 } ∷ []))
    by_type g false e x = rw e (All-nil P)
    by_type g true e (Finite a) = rw e (All-cons P (record { variable = variable_number s k; constraint = constraint_at s k; value = a }) [] (h g e a) (All-nil P))
    by_type g true e NoUpper = rw e (All-nil P)
    by_type g true e NoLower = rw e (All-nil P)

    by_cases : (has_coefficient (line_at s k) ≡ true) ⊎ (has_coefficient (line_at s k) ≡ false) → All P (coefs (given_at s k))
    by_cases (inl g) = rw g (by_type g (is_side (type_at s k)) refl (said NoUpper (line_at s k).coef))
    by_cases (inr g) = rw g (All-nil P)

line-apart : (s : Sparse) (k : ℕ) → are_apart (coefs (given_at s k)) ≡ true
unfolding given_at are_apart
line-apart s k = by_cases (cases_Bool (has_coefficient (line_at s k)))
  where
    by_type : (b : Bool) → is_side (type_at s k) ≡ b → (x : Value)
        → are_apart (coefs (record { row_type = type_at s k; term = line_term (length s.arcs) (variable_number s k) x; constraint = constraint_at s k; row = k + 1 } ∷ [])) ≡ true
    by_type false e x = rw e refl
    by_type true e (Finite a) = rw e refl
    by_type true e NoUpper = rw e refl
    by_type true e NoLower = rw e refl

    by_cases : (has_coefficient (line_at s k) ≡ true) ⊎ (has_coefficient (line_at s k) ≡ false) → are_apart (coefs (given_at s k)) ≡ true
    by_cases (inl g) = rw g (by_type (is_side (type_at s k)) refl (said NoUpper (line_at s k).coef))
    by_cases (inr g) = rw g refl

-- The constraint of a line that is a row of the problem: its number is that of a row with the constraint's name.
abbrev IsRowOf : Sparse → ℕ → ℕ → Type 0
IsRowOf s c i = (c < length (sides s (length s.lines))) × ((get_or (sides s (length s.lines)) c no_side).name ≡ i)

constraint-row : (s : Sparse) (k : ℕ) → k < length s.lines → is_side (type_at s k) ≡ true → IsRowOf s (constraint_at s k) (row_number s k)
constraint-row s k below h =
    let r = row_of (line_at s k) in
    let names = names-front s (k + 1) (length s.lines) (omega (arith, below)) in
    let numbers = joined-front (k + 1) (length s.lines) (side_number_at s) (omega (arith, below)) in
    let there : has_name r (row_names s (length s.lines)) ≡ true = rw names.1 (has-front r (row_names s (k + 1)) names.0 (name-there s k)) in
    let less = place-less r (row_names s (length s.lines)) there in
    let typed = ap (λ n. is_side (row_type_of s n)) (at-place r (row_names s (length s.lines)) [] there) ∙ h in
    let placed = side-placed s (length s.lines) (row_number s k) less typed in
    let here : row_number s k < length (side_numbers s (k + 1)) = rw (numbers-length s (k + 1), row-next s k below) (place-less r (row_names s (k + 1)) (name-there s k)) in
    let same : get_or (side_numbers s (length s.lines)) (row_number s k) 0 ≡ constraint_at s k =
    ap (λ ns. get_or ns (row_number s k) 0) numbers.1 ∙ get-front (side_numbers s (k + 1)) numbers.0 (row_number s k) 0 here in
    rw same at placed

-- ---- all lines
-- A coefficient is of a pair of the first k lines, and its numbers are in range.
abbrev pub IsPaired : Sparse → ℕ → ℕ → Coefficient → Type 0
IsPaired s m k c =
    (c.variable < m) × (c.constraint < length (sides s (length s.lines)))
    × (has_pair ((get_or (sides s (length s.lines)) c.constraint no_side).name, c.variable) (pairs s k) ≡ true)

pair-self : (p : ℕ × ℕ) → same_pair p p ≡ true
pair-self p = rw ((Decides-eqb p.0 p.0).1 refl, (Decides-eqb p.1 p.1).1 refl) refl

or-true : (b : Bool) → (b || true) ≡ true
or-true true = refl
or-true false = refl

pairs-still : (s : Sparse) (k : ℕ) (p : ℕ × ℕ) → has_pair p (pairs s k) ≡ true → has_pair p (pairs s (k + 1)) ≡ true
pairs-still s k p h = rw (joined-more k (pair_at s), list_any-append (same_pair p) (pairs s k) (pair_at s k), h) refl

pairs-there : (s : Sparse) (k : ℕ) → has_coefficient (line_at s k) ≡ true → has_pair (row_number s k, variable_number s k) (pairs s (k + 1)) ≡ true
pairs-there s k h =
    rw (joined-more k (pair_at s), list_any-append (same_pair (row_number s k, variable_number s k)) (pairs s k) (pair_at s k), h, pair-self (row_number s k, variable_number s k))
    (or-true (has_pair (row_number s k, variable_number s k) (pairs s k)))

module _ (s : Sparse) (m : ℕ) (inside : (k : ℕ) → k < length s.lines → has_coefficient (line_at s k) ≡ true → variable_number s k < m) where
  pub paired-to : (k : ℕ) → k ≤ length s.lines → All (IsPaired s m k) (coefs (givens s k))
  paired-to zero few = rw (joined-none (given_at s)) (All-nil (IsPaired s m 0))
  paired-to (suc k) few =
      let next : suc k ≡ k + 1 = omega arith in
      let below : k < length s.lines = omega (arith, few) in
      let old = All-weaker (IsPaired s m k) (IsPaired s m (k + 1)) (λ c h. (h.0, h.1, pairs-still s k _ h.2)) (coefs (givens s k)) (paired-to k (omega (arith, few))) in
      let new = line-all s k (IsPaired s m (k + 1))
      (λ g side a. let row = constraint-row s k below side in (inside k below g, row.0, rw row.1 (pairs-there s k g))) in
      rw (next, joined-more k (given_at s), coefs-more (givens s k) (given_at s k)) (All-append (IsPaired s m (k + 1)) (coefs (givens s k)) (coefs (given_at s k)) old new)

  module _ (distinct : (k : ℕ) → k < length s.lines → has_coefficient (line_at s k) ≡ true → has_pair (row_number s k, variable_number s k) (pairs s k) ≡ false) where
    other : (k : ℕ) → k < length s.lines → has_coefficient (line_at s k) ≡ true → is_side (type_at s k) ≡ true → (a : Amount) (c : Coefficient) → IsPaired s m k c
        → same_place c (record { variable = variable_number s k; constraint = constraint_at s k; value = a }) ≡ false
    other k below g side a c h = by_cases (cases_Bool (nat_eq c.variable (variable_number s k))) (cases_Bool (nat_eq c.constraint (constraint_at s k)))
      where
        by_cases : (nat_eq c.variable (variable_number s k) ≡ true) ⊎ (nat_eq c.variable (variable_number s k) ≡ false)
            → (nat_eq c.constraint (constraint_at s k) ≡ true) ⊎ (nat_eq c.constraint (constraint_at s k) ≡ false)
            → same_place c (record { variable = variable_number s k; constraint = constraint_at s k; value = a }) ≡ false
        by_cases (inr v) t = rw v refl
        by_cases (inl v) (inr t) = rw (v, t) refl
        by_cases (inl v) (inl t) =
            let variable = (Decides-eqb c.variable (variable_number s k)).0 v in
            let constraint = (Decides-eqb c.constraint (constraint_at s k)).0 t in
            let row = constraint-row s k below side in
            let there : has_pair (row_number s k, variable_number s k) (pairs s k) ≡ true = rw (constraint, row.1, variable) at h.2 in
            absurd (false≢true (sym (distinct k below g) ∙ there))

    pub apart-to : (k : ℕ) → k ≤ length s.lines → are_apart (coefs (givens s k)) ≡ true
    unfolding are_apart
    apart-to zero few = rw (joined-none (given_at s)) refl
    apart-to (suc k) few =
        let next : suc k ≡ k + 1 = omega arith in
        let below : k < length s.lines = omega (arith, few) in
        let new = line-all s k (λ y. All (λ x. same_place x y ≡ false) (coefs (givens s k)))
        (λ g side a. All-weaker (IsPaired s m k) (λ x. same_place x (record { variable = variable_number s k; constraint = constraint_at s k; value = a }) ≡ false)
        (λ c h. other k below g side a c h) (coefs (givens s k)) (paired-to k (omega (arith, few)))) in
        rw (next, joined-more k (given_at s), coefs-more (givens s k) (given_at s k))
        (apart-append (coefs (givens s k)) (coefs (given_at s k)) (apart-to k (omega (arith, few))) (line-apart s k) new)
