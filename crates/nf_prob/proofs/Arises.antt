-- The operations of the loops of a check arise in the rows that count in a check.
use Rattle.std.proofs.Common.{◌≡◌, ℕ, ◌<◌, ◌-◌, List, length, map, refl, sym, ◌∙◌, ap, subst, arith, false}
use Rattle.std.specs.List.{All}
use Rattle.std.proofs.lemmas.List.{length-map}
use Rattle.nf_num.specs.Rational.{ℚ, ◌*ℚ◌}
use Rattle.nf_num.specs.Sum.{sum_ℚ}
use Rattle.nf_frac.specs.declared.Passed.{Passed}
use Rattle.nf_frac.specs.declared.Op.TheVariants.{Sub}
use Rattle.nf_model.specs.Program.{Entry, LinearProgram, column, row, entry_at, coefficient, at}
use Rattle.nf_model.specs.Problem.{RiseBetween, IsProblem}
use Rattle.nf_model.specs.Certificate.{combined}
use Rattle.nf_model.specs.Farkas.{combined_right}
use Rattle.nf_prob.specs.declared.stored.Entry as stored
use Rattle.nf_prob.specs.declared.stored.RowEntry.{RowEntry}
use Rattle.nf_prob.specs.Numbers.{entry_of, row_list}
use Rattle.nf_prob.specs.Stored.{stored_entry, row_entry}
use Rattle.nf_frac.specs.Range.{Passes}
use Rattle.nf_sums.specs.Terms.{PassesIn, Is, Terms}
use Rattle.nf_sums.specs.Steps.{AddsProduct}
use Rattle.nf_sums.specs.Terms.Term.{Product}
use Rattle.nf_sums.specs.Rows.{product_terms, rest_terms}
use Rattle.nf_prob.specs.Arising.{BestTerms, FarkasTerms, RayTerms, RowTerms, CostTerms, CombinedTerms, TotalTerms, RightTerms, cost_row, combined_row, gap_row}
use Rattle.nf_prob.specs.Highest.{highest_at, highest_sum}
use Rattle.nf_prob.specs.Arising.BestTerms.{rest as best_rest, reduced_cost as best_reduced_cost, cost as best_cost}
use Rattle.nf_prob.specs.Arising.FarkasTerms.{combination as farkas_combination, gap as farkas_gap}
use Rattle.nf_prob.specs.Arising.RayTerms.{rest as ray_rest, ray_row, rate as ray_rate}
use Rattle.nf_sums.proofs.Part.{IsPartOf, same_term}
use Rattle.nf_sums.proofs.Laws.{carried, gap_passed, in_part, left_of_gap, passes_from, product_added, products_of_remainder, remainder_passed, right_of_gap, wider}
use Rattle.nf_prob.proofs.ColumnSums.{column_rises, rise_value, stored_is, entries_apart, weight_taken, value_taken}
use Rattle.nf_prob.proofs.Entries.{rise_below}
use Rattle.nf_prob.proofs.RowSums.{row_list_stands, columns_apart, coefficient_taken, number_taken}

-- ---- a row's loop
row_part : (p : LinearProgram) (x : List ℚ) (i : ℕ) (es : List RowEntry) → IsProblem p → es ≡ row_list p i → IsPartOf (product_terms (length es) (coefficient_taken es) (number_taken x es)) (product_terms (length p.columns) (coefficient p i) (at x))
row_part p x i es q same = subst (λ (l : List RowEntry). IsPartOf (product_terms (length l) (coefficient_taken l) (number_taken x l)) (product_terms (length p.columns) (coefficient p i) (at x))) (sym same) (record {
  place = λ k. (row_entry (row_list p i) k).column - 1;
  within = λ k h. let s = row_list_stands p i k q h in omega (arith, s.from, s.below);
  apart = λ j k a b e.
      let s = row_list_stands p i j q a in
      let t = row_list_stands p i k q b in
      columns_apart p i (row_list p i) q refl j k a b (omega (arith, s.from, t.from, e));
  turned = false;
  term = λ k h. same_term _ _ (ap (λ v. Product v (at x ((row_entry (row_list p i) k).column - 1))) (sym (row_list_stands p i k q h).value));
})

pub row_passed : (p : LinearProgram) (x : List ℚ) (i : ℕ) (es : List RowEntry) (c : Passed) → IsProblem p → i < length p.rows → es ≡ row_list p i → PassesIn (Is (product_terms (length es) (coefficient_taken es) (number_taken x es))) c → PassesIn (RowTerms p x) c
row_passed p x i es c q h same =
    carried (Is (product_terms (length es) (coefficient_taken es) (number_taken x es))) (RowTerms p x) c
    (λ part e. (product_terms (length p.columns) (coefficient p i) (at x), subst (λ t. IsPartOf t (product_terms (length p.columns) (coefficient p i) (at x))) (sym e) (row_part p x i es q same), (i, h, refl)))

-- ---- a column's loop
column_part : (p : LinearProgram) (y : List ℚ) (j : ℕ) (es : List stored.Entry) → IsProblem p → j < length p.columns → map entry_of es ≡ (column p j).entries → All (λ e. 0 < e.row) es → IsPartOf (product_terms (length es) (weight_taken y es) (value_taken es)) (product_terms (length p.rows) (at y) (λ i. coefficient p i j))
column_part p y j es q h same positive = record {
  place = λ k. (stored_entry es k).row - 1;
  within = λ k b. subst (λ (e : Entry). e.row < length p.rows) (stored_is es k b) (rise_below 0 (length p.rows) (map entry_of es) k _ rise (inside k b));
  apart = entries_apart p j es q h same;
  turned = false;
  term = λ k b. same_term _ _ (ap (λ v. Product (at y ((stored_entry es k).row - 1)) v) (value k b));
}
  where
    rise : RiseBetween 0 (length p.rows) (map entry_of es)
    rise = subst (RiseBetween 0 (length p.rows)) (sym same) (column_rises p j q h)

    inside : (k : ℕ) → k < length es → k < length (map entry_of es)
    inside k b = omega (arith, b, length-map es entry_of)

    value : (k : ℕ) → k < length es → entry_at (column p j).entries ((stored_entry es k).row - 1) ≡ (stored_entry es k).value
    value k b =
        ap (λ (l : List Entry). entry_at l ((stored_entry es k).row - 1)) (sym same)
        ∙ ap (λ (d : Entry). entry_at (map entry_of es) d.row) (sym (stored_is es k b))
        ∙ rise_value 0 (length p.rows) (map entry_of es) k rise (inside k b)
        ∙ ap (λ (d : Entry). d.value) (stored_is es k b)

-- the combination is what a reduced cost takes from the column's cost
pub combined_in_cost : (p : LinearProgram) (y : List ℚ) (c : Passed) → PassesIn (CombinedTerms p y) c → PassesIn (CostTerms p y) c
combined_in_cost p y c =
    carried (CombinedTerms p y) (CostTerms p y) c
    (λ part w. (cost_row p y w.0, subst (λ t. IsPartOf t (cost_row p y w.0)) (sym w.2) (products_of_remainder (column p w.0).cost (length p.rows) (at y) (λ i. coefficient p i w.0)), (w.0, w.1, refl)))

pub column_passed : (p : LinearProgram) (y : List ℚ) (j : ℕ) (es : List stored.Entry) (c : Passed) → IsProblem p → j < length p.columns → map entry_of es ≡ (column p j).entries → All (λ e. 0 < e.row) es → PassesIn (Is (product_terms (length es) (weight_taken y es) (value_taken es))) c → PassesIn (CombinedTerms p y) c
column_passed p y j es c q h same positive =
    carried (Is (product_terms (length es) (weight_taken y es) (value_taken es))) (CombinedTerms p y) c
    (λ part e. (combined_row p y j, subst (λ t. IsPartOf t (combined_row p y j)) (sym e) (column_part p y j es q h same positive), (j, h, refl)))

-- the cost less the products of its column
pub cost_passed : (p : LinearProgram) (y : List ℚ) (j : ℕ) (a b : ℚ) (c : Passed) → j < length p.columns → a ≡ (column p j).cost → b ≡ combined p y j → (c ≡ record { op = Sub; left = a; right = b }) × Passes Sub a b → PassesIn (CostTerms p y) c
cost_passed p y j a b c h e d is =
    wider (Is (cost_row p y j)) (CostTerms p y) c (λ t s. (j, h, s))
    (remainder_passed (column p j).cost (length p.rows) (at y) (λ i. coefficient p i j) a b c e d is.0 (subst (λ (z : Passed). Passes z.op z.left z.right) (sym is.0) is.1))

-- the total's products, over as many columns as there are
pub total_passed : (p : LinearProgram) (x : List ℚ) (n : ℕ) (c : Passed) → n ≡ length p.columns → PassesIn (Is (product_terms n (λ j. (column p j).cost) (at x))) c → PassesIn (TotalTerms p x) c
total_passed p x n c e = subst (λ m. PassesIn (Is (product_terms m (λ j. (column p j).cost) (at x))) c) e

-- the combined right sides, over as many rows as there are
pub right_passed : (p : LinearProgram) (y : List ℚ) (n : ℕ) (c : Passed) → n ≡ length p.rows → PassesIn (Is (product_terms n (at y) (λ i. (row p i).right))) c → PassesIn (RightTerms p y) c
right_passed p y n c e = subst (λ m. PassesIn (Is (product_terms m (at y) (λ i. (row p i).right))) c) e

-- ---- into the rows of a check
rest_in : (p : LinearProgram) (x : List ℚ) (R : Terms → Type 0) (c : Passed) → ((i : ℕ) → i < length p.rows → R (rest_terms (row p i).right (length p.columns) (coefficient p i) (at x))) → PassesIn (RowTerms p x) c → PassesIn R c
rest_in p x R c is_one =
    carried (RowTerms p x) R c
    (λ part w. (rest_terms (row p w.0).right (length p.columns) (coefficient p w.0) (at x), subst (λ t. IsPartOf t (rest_terms (row p w.0).right (length p.columns) (coefficient p w.0) (at x))) (sym w.2) (products_of_remainder (row p w.0).right (length p.columns) (coefficient p w.0) (at x)), is_one w.0 w.1))

pub rest_in_best : (p : LinearProgram) (x y : List ℚ) (c : Passed) → PassesIn (RowTerms p x) c → PassesIn (BestTerms p x y) c
rest_in_best p x y c = rest_in p x (BestTerms p x y) c best_rest

pub cost_in_best : (p : LinearProgram) (x y : List ℚ) (c : Passed) → PassesIn (CostTerms p y) c → PassesIn (BestTerms p x y) c
cost_in_best p x y c = wider (CostTerms p y) (BestTerms p x y) c (λ t w. subst (BestTerms p x y) (sym w.2) (best_reduced_cost w.0 w.1))

pub total_in_best : (p : LinearProgram) (x y : List ℚ) (c : Passed) → PassesIn (TotalTerms p x) c → PassesIn (BestTerms p x y) c
total_in_best p x y c = wider (TotalTerms p x) (BestTerms p x y) c (λ t w. subst (BestTerms p x y) (sym w) best_cost)

pub combined_in_farkas : (p : LinearProgram) (y : List ℚ) (c : Passed) → PassesIn (CombinedTerms p y) c → PassesIn (FarkasTerms p y) c
combined_in_farkas p y c = wider (CombinedTerms p y) (FarkasTerms p y) c (λ t w. subst (FarkasTerms p y) (sym w.2) (farkas_combination w.0 w.1))

-- the next column's greatest multiple
pub greatest_in_farkas : (p : LinearProgram) (y : List ℚ) (j : ℕ) (total a b : ℚ) (c : Passed) → j < length p.columns → total ≡ sum_ℚ j (λ k. combined p y k *ℚ highest_at p (combined p y) k) → a ≡ combined p y j → b ≡ highest_at p (combined p y) j → AddsProduct total a b c → PassesIn (FarkasTerms p y) c
greatest_in_farkas p y j total a b c h t e d s =
    in_part (product_terms (length p.columns) (combined p y) (highest_at p (combined p y))) (gap_row p y) (FarkasTerms p y) c
    (right_of_gap (length p.rows) (at y) (λ i. (row p i).right) (length p.columns) (combined p y) (highest_at p (combined p y)))
    farkas_gap
    (product_added (length p.columns) j (combined p y) (highest_at p (combined p y)) total a b c h t e d s)

pub right_in_farkas : (p : LinearProgram) (y : List ℚ) (c : Passed) → PassesIn (RightTerms p y) c → PassesIn (FarkasTerms p y) c
right_in_farkas p y c a =
    in_part (product_terms (length p.rows) (at y) (λ i. (row p i).right)) (gap_row p y) (FarkasTerms p y) c
    (left_of_gap (length p.rows) (at y) (λ i. (row p i).right) (length p.columns) (combined p y) (highest_at p (combined p y)))
    farkas_gap a

-- the combined right sides less the greatest value
pub gap_in_farkas : (p : LinearProgram) (y : List ℚ) (a b : ℚ) (c : Passed) → a ≡ combined_right p y → b ≡ highest_sum p (combined p y) → (c ≡ record { op = Sub; left = a; right = b }) × Passes Sub a b → PassesIn (FarkasTerms p y) c
gap_in_farkas p y a b c e d is =
    wider (Is (gap_row p y)) (FarkasTerms p y) c (λ t s. subst (FarkasTerms p y) (sym s) farkas_gap)
    (gap_passed (length p.rows) (at y) (λ i. (row p i).right) (length p.columns) (combined p y) (highest_at p (combined p y)) a b c e d is.0 (passes_from Sub a b c is.0 is.1))

pub rest_in_ray : (p : LinearProgram) (x r : List ℚ) (c : Passed) → PassesIn (RowTerms p x) c → PassesIn (RayTerms p x r) c
rest_in_ray p x r c = rest_in p x (RayTerms p x r) c ray_rest

pub row_in_ray : (p : LinearProgram) (x r : List ℚ) (c : Passed) → PassesIn (RowTerms p r) c → PassesIn (RayTerms p x r) c
row_in_ray p x r c = wider (RowTerms p r) (RayTerms p x r) c (λ t w. subst (RayTerms p x r) (sym w.2) (ray_row w.0 w.1))

pub rate_in_ray : (p : LinearProgram) (x r : List ℚ) (c : Passed) → PassesIn (TotalTerms p r) c → PassesIn (RayTerms p x r) c
rate_in_ray p x r c = wider (TotalTerms p r) (RayTerms p x r) c (λ t w. subst (RayTerms p x r) (sym w) ray_rate)
