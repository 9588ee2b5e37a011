-- The range law of stage one, by cases on the rows in which the numbers of a state arise.
use Rattle.std.proofs.Common.{◌≡◌, ℕ, ◌*◌, ◌<◌, ◌^◌, ◌⊎◌, inl, inr, Bool, Some, length, sym, ◌∙◌, subst, arith}
use Rattle.nf_num.specs.Rational.{ℚ}
use Rattle.nf_model.specs.Program.{LinearProgram, Ends, column}
use Rattle.nf_model.specs.Problem.{IsProblem, HaveEndsBelow}
use Rattle.nf_sums.specs.Terms.{Terms}
use Rattle.nf_sums.specs.Rows.{path_terms}
use Rattle.nf_simplex.specs.Layout.{layout_of}
use Rattle.nf_simplex.specs.Columns.{Col, number_of}
use Rattle.nf_simplex.specs.StageOf.{StageOne}
use Rattle.nf_simplex.specs.Standing.{Standing, rows_of, HasColumn, IsBasisOf, AreEntriesOf}
use Rattle.nf_basis.specs.Arising.{StateTerms, IsPathList, IsUpdated, IsMultiple, HasWeightAt, HasValueAt}
use Rattle.nf_basis.specs.Arising.StateTerms.{rest, standing_rest, path_sum, by_rows, by_columns, reduced_cost, arc_dual, ratio_distance, ratio, update, distance, flip, printed_factor, printed_dual, cost, artificials, rate, ray_row, gap}
use Rattle.nf_basis.specs.Arising.IsPathList.{costs, side_row, inverse_column, entries as entry_list, node_rests}
use Rattle.nf_basis.specs.Arising.IsUpdated.{value, bound, weight, dual}
use Rattle.nf_basis.specs.Arising.IsMultiple.{entry, one as by_one, weight as by_weight}
use Rattle.nf_tree.specs.Network.{IsTernary}
use Rattle.nf_tree.proofs.Slotted.{rows_are}
use Rattle.nf_width.specs.Amounts.{IsWhole, HasAmounts}
use Rattle.nf_width.specs.Fits.{RowFits, StageOneFits, StageOneLoadsFit}
use Rattle.nf_width.proofs.Whole.{whole_more}
use Rattle.nf_width.proofs.States.{bound_amount, value_bounded, dual_bounded, weight_is_ternary, ratio_distance_fits, distance_fits, cost_fits, artificials_fit}
use Rattle.nf_width.proofs.Priced.{ternary_whole, entry_is_ternary, flip_fits}
use Rattle.nf_width.proofs.Changed.{thousandths, present_within, ratio_fits, update_fits, by_columns_fit, cost_paths_fit, weight_paths_fit, entry_paths_fit}
use Rattle.nf_width.proofs.Rests.{rest_fits, rest_paths_fit, by_rows_fit, rate_fits}
use Rattle.nf_width.proofs.Printed.{printed_factor_fits, factor_parts, printed_dual_fits, pricing_parts, priced_fits, along_fits}
use Rattle.nf_width.proofs.Totals.{standing_rest_fits, ray_row_fits, gap_fits}

module _ (p : LinearProgram) (s : Standing) (ok : IsProblem p) (has : HasAmounts p) (one : s.stage ≡ StageOne) (basis : IsBasisOf p s) where
  -- ---- the parts of rows
  weight_ternary_at : (j : ℕ) (v : ℚ) → HasWeightAt p s j v → IsTernary v
  weight_ternary_at j v (h, r, w, l, i, e) = subst IsTernary (sym e) (weight_is_ternary p s ok has one basis r w l i j h)

  value_whole_at : (j : ℕ) (v : ℚ) → HasValueAt p s j v → IsWhole 1000 (35 * 10 ^ 16) v
  value_whole_at j v (h, x, are, e) = subst (IsWhole 1000 (35 * 10 ^ 16)) (sym e) (value_bounded p s ok has one basis x are j h)

  updated_whole : (n : ℚ) → IsUpdated p s n → IsWhole 1000 (35 * 10 ^ 16) n
  updated_whole n (value _ j v) = value_whole_at j n v
  updated_whole n (bound _ j h b) = whole_more 1000 (10 ^ 12) (35 * 10 ^ 16) n (omega arith) (bound_amount p s ok has one basis j h n b)
  updated_whole n (weight _ j w) = whole_more 1000 (1 * 1000) (35 * 10 ^ 16) n (omega arith) (thousandths 1 n (ternary_whole n (weight_ternary_at j n w)))
  updated_whole n (dual _ i (h, phase, y, are, e)) =
      whole_more 1000 (25 * 10 ^ 16) (35 * 10 ^ 16) n (omega arith) (subst (IsWhole 1000 (25 * 10 ^ 16)) (sym e) (dual_bounded p s ok has one basis phase y are i h))

  multiple_ternary : (e : Col) (l : ℕ) (w : ℕ → ℚ) (m : ℚ) → HasColumn p s e → AreEntriesOf p s e w → IsMultiple p s l w m → IsTernary m
  multiple_ternary e l w m here are (entry _ j h q) = subst IsTernary (sym q) (entry_is_ternary p s ok has one basis (number_of (layout_of p) e) w (present_within p s ok has one basis e here) are j h)
  multiple_ternary e l w m here are (by_one _ q) = inr (inl q)
  multiple_ternary e l w m here are (by_weight _ q) = weight_ternary_at l m q

  path_list_fits : (n : ℕ) (member : ℕ → ℚ) (negative : ℕ → Bool) (besides : Bool) → IsPathList p s n member → RowFits (path_terms n member negative besides)
  path_list_fits _ _ negative besides (costs phase) = cost_paths_fit p s ok has one basis phase negative besides
  path_list_fits _ _ negative besides (side_row i h l) = absurd (let e = rows_are p s one in omega arith)
  path_list_fits _ _ negative besides (inverse_column r w h i) = weight_paths_fit p s ok has one basis r w negative besides h i
  path_list_fits _ _ negative besides (entry_list c w h are) = entry_paths_fit p s ok has one basis c w negative besides h are
  path_list_fits _ _ negative besides (node_rests rests are) = rest_paths_fit p s ok has one basis rests negative besides are

  -- An end of an arc is a node.
  end_within : (j i : ℕ) (e : Ends) → j < p.arcs → (column p j).ends ≡ Some e → (i ≡ e.tail) ⊎ (i ≡ e.head) → i < rows_of p s
  end_within j i e h ends at_end = of at_end
    where
      below : (e.tail < p.nodes) × (e.head < p.nodes)
      below =
          let l : j < length p.columns = (let a = ok.arcs_within in omega arith) in
          let c = ok.each j _ l in
          subst (HaveEndsBelow p.nodes) ends c.ends_within

      of : (i ≡ e.tail) ⊎ (i ≡ e.head) → i < rows_of p s
      of (inl q) = let b = below.0 in let r = rows_are p s one in omega arith
      of (inr q) = let b = below.1 in let r = rows_are p s one in omega arith

  -- ---- the rows
  state_row_fits : (row : Terms) → StateTerms p s row → RowFits row
  state_row_fits _ (rest i x h are) = rest_fits p s ok has one basis i x (subst (λ n. i < n) (rows_are p s one) h) are
  state_row_fits _ (standing_rest i x h are) = standing_rest_fits p s ok has one basis i x h are
  state_row_fits _ (path_sum n member negative besides list) = path_list_fits n member negative besides list
  state_row_fits _ (by_rows j w f h inv each) = by_rows_fit p s ok has one basis j w f h inv each
  state_row_fits _ (by_columns r w phase f h inv each) = by_columns_fit p s ok has one basis r w phase f h inv each
  state_row_fits _ (reduced_cost j c y h priced) = priced_fits p s ok has one basis c y (pricing_parts p s ok has one basis c y priced) j h
  state_row_fits _ (arc_dual j i e c y negative h ends at_end priced) =
      along_fits p s ok has one basis c y (pricing_parts p s ok has one basis c y priced) j (let a = ok.arcs_within in omega arith) i negative _ _ (end_within j i e h ends at_end)
  state_row_fits _ (ratio_distance l v b is_value is_bound) = ratio_distance_fits p s ok has one basis l v b is_value is_bound
  state_row_fits _ (ratio e l w q pivot change) = ratio_fits p s ok has one basis e l w q pivot change
  state_row_fits _ (update e l w n m q negative pivot updated multiple change) =
      update_fits p s ok has one basis e l w n m q negative pivot (updated_whole n updated) (multiple_ternary e l w m pivot.entering pivot.are_entries multiple) change
  state_row_fits _ (distance j l u h at_l at_u) = distance_fits p s ok has one basis j l u h at_l at_u
  state_row_fits _ (flip e j w v l u negative here are is_value at_l at_u) =
      flip_fits p s ok has one basis (number_of (layout_of p) e) j w v l u negative (present_within p s ok has one basis e here) is_value.0 are (value_whole_at j v is_value) at_l at_u
  state_row_fits _ (printed_factor j y1 y2 h ended a b ne) = printed_factor_fits p s ok has one basis j y1 y2 h a b ne
  state_row_fits _ (printed_dual i y1 y2 m h ended a b f) = printed_dual_fits p s ok has one basis y1 y2 m a b (factor_parts p s ok has one basis y1 y2 m a b f) i h
  state_row_fits _ (cost x are) = cost_fits p s ok has one basis x are
  state_row_fits _ (artificials x are) = artificials_fit p s ok has one basis x are
  state_row_fits _ (rate r a) = rate_fits p s ok has one basis r a
  state_row_fits _ (ray_row i r h a) = ray_row_fits p s ok has one basis i r h a
  state_row_fits _ (gap y bounds are each) = gap_fits p s ok has one basis y bounds are each

pub stage_one_fits : StageOneFits
stage_one_fits p s ok has one basis row terms = state_row_fits p s ok has one basis row terms

pub stage_one_loads_fit : StageOneLoadsFit
stage_one_loads_fit p s ok has one row (t, load, terms) = stage_one_fits p t ok has (load.same_stage ∙ one) load.basis row terms
