use Rattle.std.proofs.Common.{◌≡◌, ℕ, suc, ◌+◌, ◌-◌, ◌*◌, ◌≤◌, length}
use Rattle.nf_basis.specs.Names.{col_of}
use Rattle.nf_ratio.specs.Ratios.{StandsAloneAfter}
use Rattle.nf_ratio.proofs.Looking.{HasLooked}
use Rattle.nf_ratio.proofs.ratio_test.winner.Given as goal

abbrev pub invariant-inverse : goal.invariant-inverse
invariant-inverse g l = record {
  numbers : g.B.Basis.HasNumbers l.p l.basis;
  standing : g.B.Basis.standing l.basis ≡ g.B.Basis.standing l.fn.basis;
  slots : g.B.Basis.slots l.basis ≡ g.B.Basis.slots l.fn.basis;
  values : g.B.Basis.values l.p l.basis ≡ g.B.Basis.values l.p l.fn.basis;
  looked : HasLooked l.p (g.B.Basis.standing l.fn.basis) (g.B.Basis.slots l.fn.basis) l.fn.entering l.down l.entries l.looked l.ties l.count;
  needed : (t : ℕ) → StandsAloneAfter l.p (g.B.Basis.standing l.fn.basis) (col_of l.fn.entering) l.down t → l.looked ≤ t;
  cost : l.steps ≤ l.fn.steps + (1 + 2 * length l.entries + l.looked * (g.B.Basis.unit l.p (g.B.Basis.standing l.fn.basis).stage + suc (length l.entries)));
}

abbrev pub decreases-inverse : goal.decreases-inverse
decreases-inverse g l = length l.entries - l.looked
