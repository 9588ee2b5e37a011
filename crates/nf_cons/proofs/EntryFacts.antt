-- Facts on adding entries to a program: where there is room for one, and what stays.
use Rattle.std.proofs.Common.{◌≡◌, ◌≢◌, ◌<◌, ◌≤◌, ◌+◌, ◌-◌, ◌&&◌, ◌⊎◌, ℕ, zero, suc, Bool, true, false, cond, List, [], ◌∷◌, length, take, get_or, nat_eq, nat_lt, refl, sym, ap, ◌∙◌, inl, inr, arith}
use Rattle.std.proofs.lemmas.Bool.{false≢true, cases_Bool, cases_lt}
use Rattle.std.proofs.lemmas.Bool.Decides.{Decides-eqb}
use Rattle.std.proofs.lemmas.List.{get_or-set_same, get_or-set_other, length-set, take_more}
use Rattle.std.proofs.lemmas.List.Elements.{All-cons, All-get_or, All-head, All-nil, All-tail, All-take, All-weaker}
use Rattle.std.proofs.lemmas.List.Sums.{fold-append}
use Rattle.std.specs.List.{All, list_any}
use Rattle.nf_num.specs.Rational.{ℚ}
use Rattle.nf_frac.specs.Amounts.{amount_value}
use Rattle.nf_model.specs.Program.{Column, Entry, LinearProgram, column}
use Rattle.nf_prob.specs.Building.{IsNew, inserted, with_entry}
use Rattle.nf_cons.specs.declared.taken.Coefficient.{Coefficient}
use Rattle.nf_cons.specs.Constrained.{column_of}
use Rattle.nf_cons.specs.Making.{HasEntriesBelow, IsPlaced, are_apart, same_place, with_entries_of, with_entry_of}

-- ---- an entry more
free-inserted : (es : List Entry) (e : Entry) (i : ℕ) → All (λ d. d.row ≢ i) es → e.row ≢ i → All (λ d. d.row ≢ i) (inserted es e)
unfolding inserted
free-inserted [] e i h n = All-cons (λ d. d.row ≢ i) e [] n (All-nil (λ d. d.row ≢ i))
free-inserted (d ∷ ds) e i h n = by_test (nat_lt e.row d.row) (free-inserted ds e i (All-tail (λ q. q.row ≢ i) d ds h) n)
  where
    by_test : (b : Bool) → All (λ q. q.row ≢ i) (inserted ds e) → All (λ q. q.row ≢ i) (cond b (e ∷ d ∷ ds) (d ∷ inserted ds e))
    by_test true rest = All-cons (λ q. q.row ≢ i) e (d ∷ ds) n h
    by_test false rest = All-cons (λ q. q.row ≢ i) d (inserted ds e) (All-head (λ q. q.row ≢ i) d ds h) rest

free-entry : (p : LinearProgram) (j i k m : ℕ) (v : ℚ) → k < length p.columns → IsNew p j i → (nat_eq j k && nat_eq i m) ≡ false → IsNew (with_entry p k m v) j i
free-entry p j i k m v below free apart = by_cases (cases_Bool (nat_eq j k))
  where
    more : Column
    more = record (column p k) { entries = inserted (column p k).entries (record { row = m; value = v }) }

    by_cases : (nat_eq j k ≡ true) ⊎ (nat_eq j k ≡ false) → IsNew (with_entry p k m v) j i
    by_cases (inl e) =
        let same : j ≡ k = (Decides-eqb j k).0 e in
        let other : nat_eq i m ≡ false = rw e at apart in
        let rows : m ≢ i = λ q. false≢true (sym other ∙ (Decides-eqb i m).1 (sym q)) in
        let here : IsNew p k i = rw same at free in
        let at : column (with_entry p k m v) k ≡ more = get_or-set_same p.columns k more _ below in
        rw (same, at) (free-inserted (column p k).entries (record { row = m; value = v }) i here rows)
    by_cases (inr e) =
        let away : j ≢ k = λ q. false≢true (sym e ∙ (Decides-eqb j k).1 q) in
        let at : column (with_entry p k m v) j ≡ column p j = get_or-set_other p.columns k j more _ away in
        rw at free

-- ---- coefficients
module _ (a n r : ℕ) where
  pub coef-columns : (p : LinearProgram) (cs : List Coefficient) → length (with_entries_of a n r p cs).columns ≡ length p.columns
  coef-columns p [] = refl
  coef-columns p (c ∷ cs) =
      coef-columns (with_entry_of a n r p c) cs ∙ length-set p.columns (column_of a n c.variable) _

  pub coef-rows : (p : LinearProgram) (cs : List Coefficient) → (with_entries_of a n r p cs).rows ≡ p.rows
  coef-rows p [] = refl
  coef-rows p (c ∷ cs) = coef-rows (with_entry_of a n r p c) cs

  pub coef-nodes : (p : LinearProgram) (cs : List Coefficient) → (with_entries_of a n r p cs).nodes ≡ p.nodes
  coef-nodes p [] = refl
  coef-nodes p (c ∷ cs) = coef-nodes (with_entry_of a n r p c) cs

  pub coef-arcs : (p : LinearProgram) (cs : List Coefficient) → (with_entries_of a n r p cs).arcs ≡ p.arcs
  coef-arcs p [] = refl
  coef-arcs p (c ∷ cs) = coef-arcs (with_entry_of a n r p c) cs

  pub coef-shape : (p : LinearProgram) (cs : List Coefficient) → with_entries_of a n r p cs ≡ record p { columns = (with_entries_of a n r p cs).columns }
  coef-shape p [] = refl
  coef-shape p (c ∷ cs) = coef-shape (with_entry_of a n r p c) cs

  -- a coefficient stands in this column and row
  abbrev is_at : ℕ → ℕ → Coefficient → Bool
  is_at j i c = nat_eq j (column_of a n c.variable) && nat_eq i (r + c.constraint)

  free-coefs : (p : LinearProgram) (cs : List Coefficient) (j i : ℕ) → All (λ c. column_of a n c.variable < length p.columns) cs → IsNew p j i → list_any (is_at j i) cs ≡ false
      → IsNew (with_entries_of a n r p cs) j i
  free-coefs p [] j i inside free none = free
  free-coefs p (c ∷ cs) j i inside free none = by_cases (cases_Bool (is_at j i c)) (free-coefs (with_entry_of a n r p c) cs j i)
    where
      by_cases : (is_at j i c ≡ true) ⊎ (is_at j i c ≡ false)
          → (All (λ q. column_of a n q.variable < length (with_entry_of a n r p c).columns) cs → IsNew (with_entry_of a n r p c) j i → list_any (is_at j i) cs ≡ false
          → IsNew (with_entries_of a n r (with_entry_of a n r p c) cs) j i)
          → IsNew (with_entries_of a n r p (c ∷ cs)) j i
      by_cases (inl e) after = absurd (false≢true (sym (rw e at none)))
      by_cases (inr e) after =
          let rest : list_any (is_at j i) cs ≡ false = rw e at none in
          let below = All-head (λ q. column_of a n q.variable < length p.columns) c cs inside in
          let size : length (with_entry_of a n r p c).columns ≡ length p.columns = length-set p.columns (column_of a n c.variable) _ in
          let others : All (λ q. column_of a n q.variable < length (with_entry_of a n r p c).columns) cs = rw size (All-tail (λ q. column_of a n q.variable < length p.columns) c cs inside) in
          after others (free-entry p j i (column_of a n c.variable) (r + c.constraint) (amount_value c.value) below free e) rest

-- A member of a list without the place of a coefficient is not of this place.
at-member : (c d : Coefficient) (xs : List Coefficient) (i : ℕ) → list_any (same_place c) xs ≡ false → i < length xs → same_place c (get_or xs i d) ≡ false
at-member c d [] i none b = absurd (omega arith)
at-member c d (x ∷ xs) i none b = by_test (cases_Bool (same_place c x)) i b (at-member c d xs)
  where
    by_test : (same_place c x ≡ true) ⊎ (same_place c x ≡ false) → (i : ℕ) → i < suc (length xs) → ((k : ℕ) → list_any (same_place c) xs ≡ false → k < length xs → same_place c (get_or xs k d) ≡ false)
        → same_place c (get_or (x ∷ xs) i d) ≡ false
    by_test (inl e) i b2 before = absurd (false≢true (sym (rw e at none)))
    by_test (inr e) zero b2 before = e
    by_test (inr e) (suc i) b2 before = before i (rw e at none) (omega (arith, b2))

-- No coefficient is of the place of an earlier one.
pub apart-at : (cs : List Coefficient) (k : ℕ) (d : Coefficient) → are_apart cs ≡ true → k < length cs → list_any (λ e. same_place e (get_or cs k d)) (take k cs) ≡ false
unfolding are_apart
apart-at [] k d h below = absurd (omega arith)
apart-at (c ∷ cs) zero d h below = refl
apart-at (c ∷ cs) (suc k) d h below = by_cases (cases_Bool (list_any (same_place c) cs)) (apart-at cs k d)
  where
    by_cases : (list_any (same_place c) cs ≡ true) ⊎ (list_any (same_place c) cs ≡ false) → (are_apart cs ≡ true → k < length cs → list_any (λ e. same_place e (get_or cs k d)) (take k cs) ≡ false)
        → list_any (λ e. same_place e (get_or (c ∷ cs) (suc k) d)) (take (suc k) (c ∷ cs)) ≡ false
    by_cases (inl e) before = absurd (false≢true (rw e at h))
    by_cases (inr e) before =
        let rest : are_apart cs ≡ true = rw e at h in
        let here = at-member c d cs k e (omega (arith, below)) in
        rw here (before rest (omega (arith, below)))

-- ---- columns of variables
pub column-inside : (a n m v : ℕ) → a ≤ n → v < a + m → column_of a n v < n + m
column-inside a n m v few small = by_cases (cases_lt v a)
  where
    by_cases : (v < a) ⊎ (a ≤ v) → column_of a n v < n + m
    by_cases (inl l) = let e : nat_lt v a ≡ true = grind (arith, l) in rw e (omega (arith, l, few))
    by_cases (inr g) = let e : nat_lt v a ≡ false = grind (arith, g) in rw e (omega (arith, g, small))

pub columns-apart : (a n v w : ℕ) → a ≤ n → column_of a n v ≡ column_of a n w → v ≡ w
columns-apart a n v w few same = by_cases (cases_lt v a) (cases_lt w a)
  where
    by_cases : (v < a) ⊎ (a ≤ v) → (w < a) ⊎ (a ≤ w) → v ≡ w
    by_cases (inl l) (inl m) = let e : nat_lt v a ≡ true = grind (arith, l) in let f : nat_lt w a ≡ true = grind (arith, m) in rw (e, f) at same
    by_cases (inl l) (inr m) = let e : nat_lt v a ≡ true = grind (arith, l) in let f : nat_lt w a ≡ false = grind (arith, m) in let s : v ≡ n + (w - a) = rw (e, f) at same in omega (arith, s, l, m, few)
    by_cases (inr l) (inl m) = let e : nat_lt v a ≡ false = grind (arith, l) in let f : nat_lt w a ≡ true = grind (arith, m) in let s : n + (v - a) ≡ w = rw (e, f) at same in omega (arith, s, l, m, few)
    by_cases (inr l) (inr m) = let e : nat_lt v a ≡ false = grind (arith, l) in let f : nat_lt w a ≡ false = grind (arith, m) in let s : n + (v - a) ≡ n + (w - a) = rw (e, f) at same in omega (arith, s, l, m)

-- Coefficients of other places are of other columns or rows.
any-apart : (a n r : ℕ) (c : Coefficient) (cs : List Coefficient) → a ≤ n → list_any (λ e. same_place e c) cs ≡ false
    → list_any (is_at a n r (column_of a n c.variable) (r + c.constraint)) cs ≡ false
any-apart a n r c [] few h = refl
any-apart a n r c (e ∷ es) few h = by_cases (cases_Bool (same_place e c)) (cases_Bool (is_at a n r (column_of a n c.variable) (r + c.constraint) e)) (any-apart a n r c es few)
  where
    both : (s t : Bool) → (s && t) ≡ true → (s ≡ true) × (t ≡ true)
    both true true q = (refl, refl)
    both true false q = absurd (false≢true q)
    both false t q = absurd (false≢true q)

    by_cases : (same_place e c ≡ true) ⊎ (same_place e c ≡ false) → (is_at a n r (column_of a n c.variable) (r + c.constraint) e ≡ true) ⊎ (is_at a n r (column_of a n c.variable) (r + c.constraint) e ≡ false)
        → (list_any (λ q. same_place q c) es ≡ false → list_any (is_at a n r (column_of a n c.variable) (r + c.constraint)) es ≡ false)
        → list_any (is_at a n r (column_of a n c.variable) (r + c.constraint)) (e ∷ es) ≡ false
    by_cases (inl s) t before = absurd (false≢true (sym (rw s at h)))
    by_cases (inr s) (inl t) before =
        let parts = both (nat_eq (column_of a n c.variable) (column_of a n e.variable)) (nat_eq (r + c.constraint) (r + e.constraint)) t in
        let variables : e.variable ≡ c.variable = columns-apart a n e.variable c.variable few (sym ((Decides-eqb (column_of a n c.variable) (column_of a n e.variable)).0 parts.0)) in
        let rows = (Decides-eqb (r + c.constraint) (r + e.constraint)).0 parts.1 in
        let constraints : e.constraint ≡ c.constraint = omega (arith, rows) in
        let v : nat_eq e.variable c.variable ≡ true = (Decides-eqb e.variable c.variable).1 variables in
        let q : nat_eq e.constraint c.constraint ≡ true = (Decides-eqb e.constraint c.constraint).1 constraints in
        let place : same_place e c ≡ true = rw (v, q) refl in
        absurd (false≢true (sym s ∙ place))
    by_cases (inr s) (inr t) before = rw t (before (rw s at h))

-- ---- one coefficient more
module _ (a n r m q : ℕ) (p : LinearProgram) (cs : List Coefficient) (k : ℕ) (d : Coefficient) (few : a ≤ n) (wide : n + m ≤ length p.columns) (placed : All (IsPlaced (a + m) q) cs)
    (apart : are_apart cs ≡ true) (below : k < length cs) (entries : All (HasEntriesBelow r) p.columns) where
  here : IsPlaced (a + m) q (get_or cs k d)
  here = All-get_or (IsPlaced (a + m) q) cs k d below placed

  inside : All (λ c. column_of a n c.variable < length p.columns) cs
  inside = All-weaker (IsPlaced (a + m) q) (λ c. column_of a n c.variable < length p.columns) (λ c h. omega (arith, column-inside a n m c.variable few h.0, wide)) cs placed

  free-first : (j i : ℕ) → j < length p.columns → r ≤ i → IsNew p j i
  free-first j i l high = All-weaker (λ e. e.row < r) (λ e. e.row ≢ i) (λ e h s. omega (arith, h, high, s)) (column p j).entries (All-get_or (HasEntriesBelow r) p.columns j _ l entries)

  pub coef-new : IsNew (with_entries_of a n r p (take k cs)) (column_of a n (get_or cs k d).variable) (r + (get_or cs k d).constraint)
  coef-new =
      let j : column_of a n (get_or cs k d).variable < length p.columns = omega (arith, column-inside a n m (get_or cs k d).variable few here.0, wide) in
      free-coefs a n r p (take k cs) (column_of a n (get_or cs k d).variable) (r + (get_or cs k d).constraint) (All-take (λ c. column_of a n c.variable < length p.columns) k cs inside)
      (free-first (column_of a n (get_or cs k d).variable) (r + (get_or cs k d).constraint) j (omega arith))
      (any-apart a n r (get_or cs k d) (take k cs) few (apart-at cs k d apart below))

pub coef-more : (a n r : ℕ) (p : LinearProgram) (cs : List Coefficient) (k : ℕ) (d : Coefficient) → k < length cs
    → with_entry_of a n r (with_entries_of a n r p (take k cs)) (get_or cs k d) ≡ with_entries_of a n r p (take (k + 1) cs)
coef-more a n r p cs k d below = sym (ap (with_entries_of a n r p) (take_more cs k d below) ∙ fold-append (with_entry_of a n r) p (take k cs) (get_or cs k d ∷ []))
