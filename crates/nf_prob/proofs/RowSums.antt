-- A row's list of entries: its numbers are those of columns and rise, and each value is the row's coefficient there.
-- So a loop over it stands for the sum over all columns.
use Rattle.std.proofs.Common.{◌≡◌, ◌≢◌, ◌⊎◌, inl, inr, ℕ, zero, suc, ◌<◌, ◌≤◌, ◌+◌, ◌-◌, List, [], ◌∷◌, ◌++◌, length, get_or, refl, sym, ◌∙◌, ap, ap₂, subst, arith, Bool, eq-eqb, ne_eqb, None}
use Rattle.std.specs.Prelude.{if◌then◌else◌}
use Rattle.std.specs.List.{All}
use Rattle.std.proofs.lemmas.List.Elements.{All-nil, All-cons, All-head, All-tail, All-weaker, All-get_or}
use native.Mathlib.Decide.{ℕ_discrete}
use Rattle.nf_num.specs.Rational.{ℚ, zero_ℚ, ◌+ℚ◌, ◌*ℚ◌}
use Rattle.nf_num.specs.Sum.{sum_ℚ, total_ℚ}
use Rattle.nf_num.proofs.Laws.{zero_add, zero_mul}
use Rattle.nf_num.proofs.Rewrites.{add_zero}
use Rattle.nf_num.proofs.Sums.{sum-zero, sum_same, total-nil, total-cons, total_by_index}
use Rattle.nf_model.specs.Program.{Entry, Column, LinearProgram, entry_at, at, coefficient, row_sum}
use Rattle.nf_model.specs.Problem.{RiseBetween, IsColumn, IsProblem}
use Rattle.nf_prob.specs.declared.stored.RowEntry.{RowEntry}
use Rattle.nf_prob.specs.Numbers.{AreApart, IsNumber, entries_in, gathered, row_list}
use Rattle.nf_prob.specs.Stored.{row_entry}
use Rattle.nf_prob.proofs.Entries.{at_same, at_other, entry_at-nil, entry_at-cons, entry_at-before}
use Rattle.nf_prob.proofs.ColumnSums.{sum_front}

-- the entries of a column rise
abbrev pub Rises : Column → Type 0
Rises c = (n : ℕ) × RiseBetween 0 n c.entries

-- ---- one column has one entry at a row, or none
nothing_before : (j i lo n : ℕ) (es : List Entry) → RiseBetween lo n es → i < lo → entries_in j i es ≡ []
unfolding entries_in
nothing_before j i lo n [] r h = refl
nothing_before j i lo n (e ∷ es) r h =
    ap (λ (b : Bool). if b then record { column = j; value = e.value } ∷ entries_in j i es else entries_in j i es) (ne_eqb e.row i (omega (arith, r.0)))
    ∙ nothing_before j i (suc e.row) n es r.2 (omega (arith, r.0))

HasOneOrNone : ℕ → ℕ → List Entry → Type 0
HasOneOrNone j i es = ((entries_in j i es ≡ []) × (entry_at es i ≡ zero_ℚ)) ⊎ (entries_in j i es ≡ record { column = j; value = entry_at es i } ∷ [])

one_or_none : (j i lo n : ℕ) (es : List Entry) → RiseBetween lo n es → HasOneOrNone j i es
unfolding entries_in HasOneOrNone
one_or_none j i lo n [] r = inl (refl, entry_at-nil i)
one_or_none j i lo n (e ∷ es) r = elim (ℕ_discrete e.row i) [ yes s ↦ here s | no d ↦ elsewhere d (one_or_none j i (suc e.row) n es r.2) ]
  where
    here : e.row ≡ i → HasOneOrNone j i (e ∷ es)
    here s = inr
        (ap (λ (b : Bool). if b then record { column = j; value = e.value } ∷ entries_in j i es else entries_in j i es) (eq-eqb e.row i s)
        ∙ ap₂ (λ (v : ℚ) (xs : List RowEntry). record { column = j; value = v } ∷ xs)
        (sym (entry_at-cons e es i ∙ ap₂ ◌+ℚ◌ (at_same i e s) (entry_at-before (suc e.row) n es i r.2 (omega (arith, s))) ∙ add_zero e.value))
        (nothing_before j i (suc e.row) n es r.2 (omega (arith, s))))

    elsewhere : e.row ≢ i → HasOneOrNone j i es → HasOneOrNone j i (e ∷ es)
    elsewhere d (inl h) = inl (step d ∙ h.0, value d ∙ h.1)
      where
        step : e.row ≢ i → entries_in j i (e ∷ es) ≡ entries_in j i es
        step d = ap (λ (b : Bool). if b then record { column = j; value = e.value } ∷ entries_in j i es else entries_in j i es) (ne_eqb e.row i d)

        value : e.row ≢ i → entry_at (e ∷ es) i ≡ entry_at es i
        value d = entry_at-cons e es i ∙ ap (λ z. z +ℚ entry_at es i) (at_other i e d) ∙ zero_add (entry_at es i)
    elsewhere d (inr h) = inr (step d ∙ h ∙ ap (λ (v : ℚ). record { column = j; value = v } ∷ []) (sym (value d)))
      where
        step : e.row ≢ i → entries_in j i (e ∷ es) ≡ entries_in j i es
        step d = ap (λ (b : Bool). if b then record { column = j; value = e.value } ∷ entries_in j i es else entries_in j i es) (ne_eqb e.row i d)

        value : e.row ≢ i → entry_at (e ∷ es) i ≡ entry_at es i
        value d = entry_at-cons e es i ∙ ap (λ z. z +ℚ entry_at es i) (at_other i e d) ∙ zero_add (entry_at es i)

-- so a list of columns begins with one entry more than the rest, or with none
gathered_cases : (s i : ℕ) (c : Column) (cs : List Column) → Rises c → ((gathered s i (c ∷ cs) ≡ gathered (suc s) i cs) × (entry_at c.entries i ≡ zero_ℚ)) ⊎ (gathered s i (c ∷ cs) ≡ record { column = s; value = entry_at c.entries i } ∷ gathered (suc s) i cs)
unfolding gathered HasOneOrNone
gathered_cases s i c cs r = of (one_or_none s i 0 r.0 c.entries r.1)
  where
    of : HasOneOrNone s i c.entries → ((entries_in s i c.entries ++ gathered (suc s) i cs ≡ gathered (suc s) i cs) × (entry_at c.entries i ≡ zero_ℚ)) ⊎ (entries_in s i c.entries ++ gathered (suc s) i cs ≡ record { column = s; value = entry_at c.entries i } ∷ gathered (suc s) i cs)
    of (inl h) = inl (ap (λ xs. xs ++ gathered (suc s) i cs) h.0, h.1)
    of (inr h) = inr (ap (λ xs. xs ++ gathered (suc s) i cs) h)

-- ---- what holds of each entry
abbrev pub none : Column
none = record { cost = zero_ℚ; lower = None; upper = None; ends = None; entries = [] }

-- its number is that of a column, and its value the column's at the row
pub record Stands (s i : ℕ) (cs : List Column) (e : RowEntry) : Type 0 where
  pub from : s ≤ e.column
  pub below : e.column < s + length cs
  pub value : e.value ≡ entry_at (get_or cs (e.column - s) none).entries i

later : (s i : ℕ) (c : Column) (cs : List Column) (e : RowEntry) → Stands (suc s) i cs e → Stands s i (c ∷ cs) e
later s i c cs e h =
    let place : e.column - s ≡ suc (e.column - suc s) = omega (arith, h.from) in
    record { from = omega (arith, h.from); below = omega (arith, h.below); value = h.value ∙ ap (λ k. entry_at (get_or (c ∷ cs) k none).entries i) (sym place) }

first : (s i : ℕ) (c : Column) (cs : List Column) → Stands s i (c ∷ cs) (record { column = s; value = entry_at c.entries i })
first s i c cs =
    let place : s - s ≡ 0 = omega arith in
    record { from = omega arith; below = omega arith; value = ap (λ k. entry_at (get_or (c ∷ cs) k none).entries i) (sym place) }

pub each_stands : (s i : ℕ) (cs : List Column) → All Rises cs → All (Stands s i cs) (gathered s i cs)
unfolding gathered
each_stands s i [] r = All-nil (Stands s i [])
each_stands s i (c ∷ cs) r = of (gathered_cases s i c cs (All-head Rises c cs r)) (All-weaker (Stands (suc s) i cs) (Stands s i (c ∷ cs)) (later s i c cs) (gathered (suc s) i cs) (each_stands (suc s) i cs (All-tail Rises c cs r)))
  where
    of : ((gathered s i (c ∷ cs) ≡ gathered (suc s) i cs) × (entry_at c.entries i ≡ zero_ℚ)) ⊎ (gathered s i (c ∷ cs) ≡ record { column = s; value = entry_at c.entries i } ∷ gathered (suc s) i cs) → All (Stands s i (c ∷ cs)) (gathered (suc s) i cs) → All (Stands s i (c ∷ cs)) (gathered s i (c ∷ cs))
    of (inl h) k = subst (All (Stands s i (c ∷ cs))) (sym h.0) k
    of (inr h) k = subst (All (Stands s i (c ∷ cs))) (sym h) (All-cons (Stands s i (c ∷ cs)) _ (gathered (suc s) i cs) (first s i c cs) k)

-- the numbers rise
abbrev NumbersRise : List RowEntry → Type 0
NumbersRise es = (k l : ℕ) → k < l → l < length es → (row_entry es k).column < (row_entry es l).column

rise-cons : (s : ℕ) (v : ℚ) (es : List RowEntry) → All (λ e. suc s ≤ e.column) es → NumbersRise es → NumbersRise (record { column = s; value = v } ∷ es)
rise-cons s v es above r zero zero h b = absurd (omega arith)
rise-cons s v es above r zero (suc l) h b = let a : suc s ≤ (row_entry es l).column = above l _ (omega arith) in omega (arith, a)
rise-cons s v es above r (suc k) zero h b = absurd (omega arith)
rise-cons s v es above r (suc k) (suc l) h b = r k l (omega arith) (omega arith)

pub numbers_rise : (s i : ℕ) (cs : List Column) → All Rises cs → NumbersRise (gathered s i cs)
unfolding gathered
numbers_rise s i [] r = λ k l h b. absurd (omega arith)
numbers_rise s i (c ∷ cs) r = of (gathered_cases s i c cs (All-head Rises c cs r)) (numbers_rise (suc s) i cs rest)
  where
    rest : All Rises cs
    rest = All-tail Rises c cs r

    of : ((gathered s i (c ∷ cs) ≡ gathered (suc s) i cs) × (entry_at c.entries i ≡ zero_ℚ)) ⊎ (gathered s i (c ∷ cs) ≡ record { column = s; value = entry_at c.entries i } ∷ gathered (suc s) i cs) → NumbersRise (gathered (suc s) i cs) → NumbersRise (gathered s i (c ∷ cs))
    of (inl h) k = subst NumbersRise (sym h.0) k
    of (inr h) k = subst NumbersRise (sym h) (rise-cons s (entry_at c.entries i) (gathered (suc s) i cs) (All-weaker (Stands (suc s) i cs) (λ e. suc s ≤ e.column) (λ e t. t.from) (gathered (suc s) i cs) (each_stands (suc s) i cs rest)) k)

-- ---- the sum over a row's list
total_gathered : (s i : ℕ) (w : ℕ → ℚ) (cs : List Column) → All Rises cs → total_ℚ (λ (e : RowEntry). e.value *ℚ w e.column) (gathered s i cs) ≡ sum_ℚ (length cs) (λ j. entry_at (get_or cs j none).entries i *ℚ w (s + j))
unfolding gathered
total_gathered s i w [] r = total-nil (λ (e : RowEntry). e.value *ℚ w e.column) ∙ sym (sum-zero _)
total_gathered s i w (c ∷ cs) r =
    of (gathered_cases s i c cs (All-head Rises c cs r)) (total_gathered (suc s) i w cs (All-tail Rises c cs r))
    ∙ ap₂ ◌+ℚ◌ (ap (λ k. entry_at c.entries i *ℚ w k) (let e : s ≡ s + 0 = omega arith in e)) (sum_same (length cs) _ _ (λ j b. ap (λ k. entry_at (get_or cs j none).entries i *ℚ w k) (let e : suc s + j ≡ s + suc j = omega arith in e)))
    ∙ sym (sum_front (length cs) (λ j. entry_at (get_or (c ∷ cs) j none).entries i *ℚ w (s + j)))
  where
    T : List RowEntry → ℚ
    T es = total_ℚ (λ (e : RowEntry). e.value *ℚ w e.column) es

    of : ((gathered s i (c ∷ cs) ≡ gathered (suc s) i cs) × (entry_at c.entries i ≡ zero_ℚ)) ⊎ (gathered s i (c ∷ cs) ≡ record { column = s; value = entry_at c.entries i } ∷ gathered (suc s) i cs) → total_ℚ (λ (e : RowEntry). e.value *ℚ w e.column) (gathered (suc s) i cs) ≡ sum_ℚ (length cs) (λ j. entry_at (get_or cs j none).entries i *ℚ w (suc s + j)) → total_ℚ (λ (e : RowEntry). e.value *ℚ w e.column) (gathered s i (c ∷ cs)) ≡ entry_at c.entries i *ℚ w s +ℚ sum_ℚ (length cs) (λ j. entry_at (get_or cs j none).entries i *ℚ w (suc s + j))
    of (inl h) ih = ap (total_ℚ (λ (e : RowEntry). e.value *ℚ w e.column)) h.0 ∙ ih ∙ sym (ap (λ z. z *ℚ w s +ℚ sum_ℚ (length cs) (λ j. entry_at (get_or cs j none).entries i *ℚ w (suc s + j))) h.1 ∙ ap (λ z. z +ℚ sum_ℚ (length cs) (λ j. entry_at (get_or cs j none).entries i *ℚ w (suc s + j))) (zero_mul (w s)) ∙ zero_add _)
    of (inr h) ih = ap (total_ℚ (λ (e : RowEntry). e.value *ℚ w e.column)) h ∙ total-cons (λ (e : RowEntry). e.value *ℚ w e.column) (record { column = s; value = entry_at c.entries i }) (gathered (suc s) i cs) ∙ ap (λ z. entry_at c.entries i *ℚ w s +ℚ z) ih

-- ---- a problem's row
pub all_rise : (p : LinearProgram) → IsProblem p → All Rises p.columns
all_rise p k = All-weaker (IsColumn p.nodes (length p.rows)) Rises (λ c h. (length p.rows, h.by_row)) p.columns k.each

-- the two factors that the loop takes
abbrev pub coefficient_taken : List RowEntry → ℕ → ℚ
coefficient_taken es k = (row_entry es k).value

abbrev pub number_taken : List ℚ → List RowEntry → ℕ → ℚ
number_taken x es k = at x ((row_entry es k).column - 1)

pub row_list_stands : (p : LinearProgram) (i k : ℕ) → IsProblem p → k < length (row_list p i) → Stands 1 i p.columns (row_entry (row_list p i) k)
row_list_stands p i k q h = All-get_or (Stands 1 i p.columns) (row_list p i) k (record { column = 0; value = zero_ℚ }) h (each_stands 1 i p.columns (all_rise p q))

pub row_sum_taken : (p : LinearProgram) (x : List ℚ) (i : ℕ) (es : List RowEntry) → IsProblem p → es ≡ row_list p i → sum_ℚ (length es) (λ k. coefficient_taken es k *ℚ number_taken x es k) ≡ row_sum p x i
row_sum_taken p x i es q same =
    ap (λ (l : List RowEntry). sum_ℚ (length l) (λ k. coefficient_taken l k *ℚ number_taken x l k)) same
    ∙ sym (total_by_index (λ (e : RowEntry). e.value *ℚ at x (e.column - 1)) (row_list p i) (record { column = 0; value = zero_ℚ }))
    ∙ total_gathered 1 i (λ c. at x (c - 1)) p.columns (all_rise p q)
    ∙ sum_same (length p.columns) _ _ (λ j b. ap (λ k. coefficient p i j *ℚ at x k) (let e : 1 + j - 1 ≡ j = omega arith in e))

-- each entry is in a column of the problem, and no two are in one
pub row_entries_in_range : (p : LinearProgram) (i : ℕ) (es : List RowEntry) → IsProblem p → es ≡ row_list p i → All (λ e. IsNumber e.column (length p.columns)) es
row_entries_in_range p i es q same = subst (All (λ e. IsNumber e.column (length p.columns))) (sym same)
    (All-weaker (Stands 1 i p.columns) (λ e. IsNumber e.column (length p.columns)) (λ e s. (omega (arith, s.from), omega (arith, s.below))) (row_list p i) (each_stands 1 i p.columns (all_rise p q)))

three_ways : (j k : ℕ) → (j < k) ⊎ ((j ≡ k) ⊎ (k < j))
three_ways j k = grind arith

columns_of_list_apart : (p : LinearProgram) (i : ℕ) → IsProblem p → AreApart (length (row_list p i)) (λ k. (row_entry (row_list p i) k).column)
columns_of_list_apart p i q j k a b e = of (three_ways j k)
  where
    of : (j < k) ⊎ ((j ≡ k) ⊎ (k < j)) → j ≡ k
    of (inl h) =
        let rises : (row_entry (row_list p i) j).column < (row_entry (row_list p i) k).column = numbers_rise 1 i p.columns (all_rise p q) j k h b in
        absurd (omega (arith, rises, e))
    of (inr (inl h)) = h
    of (inr (inr h)) =
        let rises : (row_entry (row_list p i) k).column < (row_entry (row_list p i) j).column = numbers_rise 1 i p.columns (all_rise p q) k j h a in
        absurd (omega (arith, rises, e))

pub columns_apart : (p : LinearProgram) (i : ℕ) (es : List RowEntry) → IsProblem p → es ≡ row_list p i → AreApart (length es) (λ k. (row_entry es k).column)
columns_apart p i es q same = subst (λ (l : List RowEntry). AreApart (length l) (λ k. (row_entry l k).column)) (sym same) (columns_of_list_apart p i q)

pub row_numbers_within : (p : LinearProgram) (x : List ℚ) (i : ℕ) (es : List RowEntry) → IsProblem p → length x ≡ length p.columns → es ≡ row_list p i → (k : ℕ) → k < length es → IsNumber (row_entry es k).column (length x)
row_numbers_within p x i es q len same k h = subst (IsNumber (row_entry es k).column) (sym len) (row_entries_in_range p i es q same k _ h)
