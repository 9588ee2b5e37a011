use Rattle.std.proofs.Common.{ℕ, ◌≡◌, ◌+◌, ◌-◌, ◌∙◌, ap, arith}
use Rattle.nf_num.specs.Rational.{ℚ}
use Rattle.nf_model.specs.Certificate.{reduced_cost}
use Rattle.nf_simplex.specs.Standing.{place_at}
use Rattle.nf_figures.specs.Figures.{if_there}
use Rattle.nf_figures.proofs.Listed.{none, grown}
use Rattle.nf_figures.proofs.columns.reduced_costs.Goals as goal

pub loop-j-init : goal.loop-j-init
loop-j-init g c = none (λ j. if_there (place_at c.args.state.now.standing j) (reduced_cost c.args.p.now c.args.duals.now j)) _ c.new-costs.ensures

pub loop-j-preserved : goal.loop-j-preserved
loop-j-preserved g c =
    let f : ℕ → ℚ = λ j. if_there (place_at c.args.state.now.standing j) (reduced_cost c.args.p.now c.args.duals.now j) in
    let same : c.loop-j.j + 1 - 1 ≡ c.loop-j.j = omega arith in
    grown c.loop-j.j f c.loop-j.costs c.push.new.self c.in_ok-cost.cost c.loop-j.invariant (c.in_ok-cost.ensures.cost ∙ ap f same) c.in_ok-push.ensures.added
