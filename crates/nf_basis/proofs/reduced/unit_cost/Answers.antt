use Rattle.std.proofs.Common.{ℕ, length, refl, ◌≡◌, ◌∙◌}
use Rattle.nf_num.specs.Rational.{ℚ}
use Rattle.nf_sums.proofs.Up.{handed_on}
use Rattle.nf_basis.proofs.Entered.{unit_gives}
use Rattle.nf_basis.proofs.Priced.{paid_at, paid_in_all, price_passed}
use Rattle.nf_basis.proofs.reduced.unit_cost.Goals as goal

pub returns-in_err-d-clause-passed : goal.returns-in_err-d-clause-passed
returns-in_err-d-clause-passed g c =
    let y = c.args.duals.now in
    let own = λ (k : ℕ) (t : ℕ × ℚ). (t.0 ≡ c.args.row) × (t.1 ≡ c.args.value) in
    let entries = unit_gives own c.args.row (length y) c.args.value c.requires.within (λ k t q. q) in
    handed_on c.from_residual.result _ _ c.from_residual.ensures.1
    (price_passed own 1 c.args.cost y _ entries _ (c.in_err-d.ensures.passed _ _ (λ k t h q. paid_at own 1 c.args.cost y _ entries k c.args.row c.args.value t h (refl, refl) q)))

pub returns-clause-value : goal.returns-clause-value
returns-clause-value g c =
    let y = c.args.duals.now in
    let own = λ (k : ℕ) (t : ℕ × ℚ). (t.0 ≡ c.args.row) × (t.1 ≡ c.args.value) in
    let entries = unit_gives own c.args.row (length y) c.args.value c.requires.within (λ k t q. q) in
    c.in_ok-d.ensures.value _ _ (λ k t h q. paid_at own 1 c.args.cost y _ entries k c.args.row c.args.value t h (refl, refl) q) ∙ paid_in_all own 1 c.args.cost y _ entries
