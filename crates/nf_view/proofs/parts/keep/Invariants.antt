use Rattle.std.proofs.Common.{◌≡◌, ℕ, suc, ◌++◌, length, drop}
use Rattle.std.specs.List.{All}
use Rattle.nf_view.specs.Keys.{both_ways, kept_from}
use Rattle.nf_view.specs.Parts.{IsBetween, IsUnion, LeadsDown}
use Rattle.nf_view.proofs.parts.keep.Given as goal

abbrev pub invariant-loop-link : goal.invariant-loop-link
invariant-loop-link l = record {
  room : length l.above.items ≡ suc l.n;
  down : LeadsDown l.above.items;
  between : All (IsBetween l.n) l.kept.items;
  parts : (part : ℕ → ℕ) × IsUnion part l.above.items × (both_ways (kept_from (λ v. v) l.links) ≡ l.kept.items ++ both_ways (kept_from part (drop l.link-index l.links)));
}
