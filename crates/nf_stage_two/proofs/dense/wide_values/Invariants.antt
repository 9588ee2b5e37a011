use Rattle.std.proofs.Common.{◌≡◌, ℕ, ◌<◌, length}
use Rattle.nf_model.specs.Program.{at}
use Rattle.nf_simplex.specs.Layout.{layout_of}
use Rattle.nf_simplex.specs.Starts.{second_rest}
use Rattle.nf_stage_two.proofs.WideLoops.{IsWideValue}
use Rattle.nf_stage_two.proofs.dense.wide_values.Given as goal

abbrev pub invariant-loop-k : goal.invariant-loop-k
invariant-loop-k g l =
    let x = g.B.Basis.values l.p l.first in
    (length l.values.items ≡ length l.p.rows) × ((k : ℕ) → k < l.k → IsWideValue l.p l.state.standing x (second_rest (layout_of l.p) x) l.slots k (at l.values.items k))
