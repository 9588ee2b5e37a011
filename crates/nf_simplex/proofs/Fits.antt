-- The layout of a problem is a layout.
use Rattle.std.proofs.Common.{◌≡◌, ◌≢◌, ℕ, ◌<◌, ◌≤◌, ◌⊎◌, inl, inr, [], length, Option, Some, None, refl, ap, ◌∙◌, arith}
use Rattle.std.proofs.lemmas.List.{get_or_past}
use Rattle.nf_num.specs.Rational.{ℚ, zero_ℚ}
use Rattle.nf_num.specs.Sum.{sum_ℚ}
use Rattle.nf_model.specs.Program.{LinearProgram, column, lower_of, entry_at}
use Rattle.nf_model.specs.Problem.{IsColumn, IsProblem, node_entry}
use Rattle.nf_simplex.specs.Layout.{IsLayout, layout_of}

less_or_not : (i n : ℕ) → (i < n) ⊎ (n ≤ i)
less_or_not i n = grind arith

each_column : (p : LinearProgram) → IsProblem p → (j : ℕ) → j < length p.columns → IsColumn p.nodes (length p.rows) (column p j)
each_column p ok j h = search arith

past_column : (p : LinearProgram) (j i : ℕ) → length p.columns ≤ j → entry_at (column p j).entries i ≡ zero_ℚ
unfolding entry_at sum_ℚ
past_column p j i h = ap (λ c. entry_at c.entries i) (get_or_past p.columns j (record { cost = zero_ℚ; lower = None; upper = None; ends = None; entries = [] }) h)

pub layout_fits : (p : LinearProgram) → IsProblem p → IsLayout (layout_of p)
layout_fits p ok = record {
  arcs_within = ok.arcs_within;
  arcs_lower = λ j h. there (lower_of (column p j)) (ok.arcs_have_lower j h);
  nonarcs_off = λ j i h m. of j i h m (less_or_not j (length p.columns));
  node_kind = ok.nodes_are_equal;
  ordered = λ j h. (each_column p ok j h).ordered;
}
  where
    there : (o : Option ℚ) → o ≢ None → (l : ℚ) × (o ≡ Some l)
    there None n = absurd (n refl)
    there (Some l) n = (l, refl)

    of : (j i : ℕ) → p.arcs ≤ j → i < p.nodes → (j < length p.columns) ⊎ (length p.columns ≤ j) → entry_at (column p j).entries i ≡ zero_ℚ
    of j i h m (inl l) = (each_column p ok j l).at_nodes i m ∙ ap (λ e. node_entry e i) (ok.others_last j h)
    of j i h m (inr l) = past_column p j i l
