-- A loop over a column's entries stands for the sum over all rows.
use Rattle.std.proofs.Common.{◌≡◌, ℕ, zero, suc, ◌<◌, ◌≤◌, ◌+◌, ◌-◌, List, [], ◌∷◌, length, map, get_or, refl, sym, ◌∙◌, ap, ap₂, subst, arith, None}
use Rattle.std.specs.List.{All}
use Rattle.std.proofs.lemmas.List.{length-map, get_or-map}
use Rattle.std.proofs.lemmas.List.Elements.{All-get_or}
use Rattle.nf_num.specs.Rational.{ℚ, zero_ℚ, ◌+ℚ◌, ◌*ℚ◌}
use Rattle.nf_num.specs.Sum.{sum_ℚ}
use Rattle.nf_num.proofs.Laws.{zero_add, mul_comm}
use Rattle.nf_num.proofs.Rewrites.{add_zero, mul_add}
use Rattle.nf_num.proofs.Laws.{zero_mul}
use Rattle.nf_num.proofs.Sums.{sum-zero, sum_same, sum_one, sum-add, sum-split, sum_of_zeros}
use Rattle.nf_model.specs.Program.{Entry, Column, LinearProgram, column, entry, entry_at, at}
use Rattle.nf_model.specs.Problem.{RiseBetween, IsColumn, IsProblem}
use Rattle.nf_model.specs.Certificate.{combined}
use Rattle.nf_prob.specs.declared.stored.Entry as stored
use Rattle.nf_prob.specs.Numbers.{AreApart, IsNumber, entry_of}
use Rattle.nf_prob.specs.Stored.{stored_entry}
use Rattle.nf_prob.proofs.Entries.{value_at, at_same, at_other, entry_at-nil, entry_at-cons, entry_at-before, rise_at, rise_below}

-- ---- rising entries
-- what stands at an entry's row is its value
pub rise_value : (lo n : ℕ) (es : List Entry) (k : ℕ) → RiseBetween lo n es → k < length es → entry_at es (entry es k).row ≡ (entry es k).value
rise_value lo n [] k r h = absurd (omega arith)
rise_value lo n (e ∷ es) zero r h =
    entry_at-cons e es e.row ∙ ap₂ ◌+ℚ◌ (at_same e.row e refl) (entry_at-before (suc e.row) n es e.row r.2 (omega arith)) ∙ add_zero e.value
rise_value lo n (e ∷ es) (suc k) r h =
    let above : suc e.row ≤ (entry es k).row = rise_at (suc e.row) n es k _ r.2 (omega arith) in
    entry_at-cons e es (entry es k).row ∙ ap₂ ◌+ℚ◌ (at_other (entry es k).row e (omega (arith, above))) (rise_value (suc e.row) n es k r.2 (omega arith)) ∙ zero_add (entry es k).value

-- no two have one row
pub rise_apart : (lo n : ℕ) (es : List Entry) (k l : ℕ) → RiseBetween lo n es → k < length es → l < length es → (entry es k).row ≡ (entry es l).row → k ≡ l
rise_apart lo n [] k l r h b e = absurd (omega arith)
rise_apart lo n (x ∷ es) zero zero r h b e = refl
rise_apart lo n (x ∷ es) zero (suc l) r h b e = let above : suc x.row ≤ (entry es l).row = rise_at (suc x.row) n es l _ r.2 (omega arith) in absurd (omega (arith, above, e))
rise_apart lo n (x ∷ es) (suc k) zero r h b e = let above : suc x.row ≤ (entry es k).row = rise_at (suc x.row) n es k _ r.2 (omega arith) in absurd (omega (arith, above, e))
rise_apart lo n (x ∷ es) (suc k) (suc l) r h b e = ap suc (rise_apart (suc x.row) n es k l r.2 (omega arith) (omega arith) e)

-- ---- sums
pub sum_front : (n : ℕ) (f : ℕ → ℚ) → sum_ℚ (suc n) f ≡ f 0 +ℚ sum_ℚ n (λ k. f (suc k))
unfolding sum_ℚ
sum_front n f = ap (λ m. sum_ℚ m f) (let s : suc n ≡ 1 + n = omega arith in s) ∙ sum-split 1 n f ∙ ap₂ ◌+ℚ◌ (zero_add (f 0)) (sum_same n _ _ (λ k b. ap f (let e : 1 + k ≡ suc k = omega arith in e)))

mul_zero : (a : ℚ) → a *ℚ zero_ℚ ≡ zero_ℚ
mul_zero a = mul_comm a zero_ℚ ∙ zero_mul a

-- one entry's share
one_share : (n : ℕ) (w : ℕ → ℚ) (e : Entry) → e.row < n → sum_ℚ n (λ i. w i *ℚ value_at i e) ≡ w e.row *ℚ e.value
one_share n w e h =
    sum_one n e.row (λ i. w i *ℚ value_at i e) h (λ i b d. ap (λ z. w i *ℚ z) (at_other i e (λ q. d (sym q))) ∙ mul_zero (w i))
    ∙ ap (λ z. w e.row *ℚ z) (at_same e.row e refl)

pub sum_by_entries : (lo n : ℕ) (w : ℕ → ℚ) (es : List Entry) → RiseBetween lo n es → sum_ℚ (length es) (λ k. w (entry es k).row *ℚ (entry es k).value) ≡ sum_ℚ n (λ i. w i *ℚ entry_at es i)
sum_by_entries lo n w [] r = sum-zero _ ∙ sym (sum_of_zeros n _ (λ i b. ap (λ z. w i *ℚ z) (entry_at-nil i) ∙ mul_zero (w i)))
sum_by_entries lo n w (e ∷ es) r =
    sum_front (length es) (λ k. w (entry (e ∷ es) k).row *ℚ (entry (e ∷ es) k).value)
    ∙ ap₂ ◌+ℚ◌ (sym (one_share n w e r.1)) (sum_by_entries (suc e.row) n w es r.2)
    ∙ sym (sum-add n (λ i. w i *ℚ value_at i e) (λ i. w i *ℚ entry_at es i))
    ∙ sum_same n _ _ (λ i b. sym (ap (λ z. w i *ℚ z) (entry_at-cons e es i) ∙ mul_add (w i) (value_at i e) (entry_at es i)))

-- ---- a column's stored entries
abbrev none : Column
none = record { cost = zero_ℚ; lower = None; upper = None; ends = None; entries = [] }

pub column_rises : (p : LinearProgram) (j : ℕ) → IsProblem p → j < length p.columns → RiseBetween 0 (length p.rows) (column p j).entries
column_rises p j k h = (All-get_or (IsColumn p.nodes (length p.rows)) p.columns j none h k.each).by_row

-- the k-th stored entry is the k-th of the column
pub stored_is : (es : List stored.Entry) (k : ℕ) → k < length es → entry (map entry_of es) k ≡ entry_of (stored_entry es k)
stored_is es k h = get_or-map entry_of es k (record { row = 0; value = zero_ℚ }) (record { row = 0; value = zero_ℚ }) h

-- the two factors that the loop takes
abbrev pub weight_taken : List ℚ → List stored.Entry → ℕ → ℚ
weight_taken y es k = at y ((stored_entry es k).row - 1)

abbrev pub value_taken : List stored.Entry → ℕ → ℚ
value_taken es k = (stored_entry es k).value

stored_rises : (p : LinearProgram) (j : ℕ) (es : List stored.Entry) → IsProblem p → j < length p.columns → map entry_of es ≡ (column p j).entries → RiseBetween 0 (length p.rows) (map entry_of es)
stored_rises p j es q h same = subst (RiseBetween 0 (length p.rows)) (sym same) (column_rises p j q h)

-- each stored entry is in a row of the problem, and no two are in one
pub entries_in_range : (p : LinearProgram) (j : ℕ) (es : List stored.Entry) → IsProblem p → j < length p.columns → map entry_of es ≡ (column p j).entries → All (λ e. 0 < e.row) es → All (λ e. IsNumber e.row (length p.rows)) es
entries_in_range p j es q h same positive k d b =
    let rising : (get_or (map entry_of es) k (entry_of d)).row < length p.rows = rise_below 0 (length p.rows) (map entry_of es) k (entry_of d) (stored_rises p j es q h same) (omega (arith, b, length-map es entry_of)) in
    let below : (get_or es k d).row - 1 < length p.rows = subst (λ (e : Entry). e.row < length p.rows) (get_or-map entry_of es k d (entry_of d) b) rising in
    let above : 0 < (get_or es k d).row = positive k d b in
    (above, omega (arith, above, below))

pub entries_apart : (p : LinearProgram) (j : ℕ) (es : List stored.Entry) → IsProblem p → j < length p.columns → map entry_of es ≡ (column p j).entries → (k l : ℕ) → k < length es → l < length es → (stored_entry es k).row - 1 ≡ (stored_entry es l).row - 1 → k ≡ l
entries_apart p j es q h same k l a b e =
    rise_apart 0 (length p.rows) (map entry_of es) k l (stored_rises p j es q h same) (omega (arith, a, length-map es entry_of)) (omega (arith, b, length-map es entry_of))
    (ap (λ (d : Entry). d.row) (stored_is es k a) ∙ e ∙ sym (ap (λ (d : Entry). d.row) (stored_is es l b)))

pub rows_apart : (p : LinearProgram) (j : ℕ) (es : List stored.Entry) → IsProblem p → j < length p.columns → map entry_of es ≡ (column p j).entries → AreApart (length es) (λ k. (stored_entry es k).row)
rows_apart p j es q h same k l a b e = entries_apart p j es q h same k l a b (ap (λ n. n - 1) e)

pub numbers_within : (p : LinearProgram) (y : List ℚ) (j : ℕ) (es : List stored.Entry) → IsProblem p → length y ≡ length p.rows → j < length p.columns → map entry_of es ≡ (column p j).entries → All (λ e. 0 < e.row) es → (k : ℕ) → k < length es → IsNumber (stored_entry es k).row (length y)
numbers_within p y j es q len h same positive k b = subst (IsNumber (stored_entry es k).row) (sym len) (entries_in_range p j es q h same positive k _ b)

pub combined_taken : (p : LinearProgram) (y : List ℚ) (j : ℕ) (es : List stored.Entry) → IsProblem p → j < length p.columns → map entry_of es ≡ (column p j).entries → sum_ℚ (length es) (λ k. weight_taken y es k *ℚ value_taken es k) ≡ combined p y j
combined_taken p y j es q h same =
    sum_same (length es) _ _ (λ k b. ap (λ (e : Entry). at y e.row *ℚ e.value) (sym (stored_is es k b)))
    ∙ ap (λ n. sum_ℚ n (λ k. at y (entry (map entry_of es) k).row *ℚ (entry (map entry_of es) k).value)) (sym (length-map es entry_of))
    ∙ sum_by_entries 0 (length p.rows) (at y) (map entry_of es) (stored_rises p j es q h same)
    ∙ ap (λ (s : List Entry). sum_ℚ (length p.rows) (λ i. at y i *ℚ entry_at s i)) same
