use Rattle.std.proofs.Common.{◌≡◌, ◌∙◌, refl, sym}
use Rattle.nf_simplex.specs.Standing.{PhaseTwo, costs_of}
use Rattle.nf_figures.proofs.Arising.{pricing}
use Rattle.nf_figures.proofs.Whole.{costs-at, fault-at, given-at, given-length, handed_on, pricing-at, reduced-at, sums-at}
use Rattle.nf_figures.proofs.figures.list_figures.Goals as goal

pub flow_costs-requires : goal.flow_costs-requires
flow_costs-requires g c =
    let s = g.B.Basis.standing c.shown_duals.new.basis in
    record { values = given-length c.args.p.now s c.items.result.now (given-at c.args.p.now s s refl c.in_ok-flows.flows c.items.result.now (sym c.items.ensures) c.in_ok-flows.ensures.given) }

pub returns-in_err-costs-clause-fault : goal.returns-in_err-costs-clause-fault
returns-in_err-costs-clause-fault g c =
    let s = g.B.Basis.standing c.args.basis.now in
    handed_on c.from_residual-in_err-costs.result _ _ c.from_residual-in_err-costs.ensures.1
    (c.in_err-costs.ensures.fault s (given-at c.args.p.now (g.B.Basis.standing c.shown_duals.new.basis) s c.in_ok-duals.ensures.standing c.in_ok-flows.flows c.items.result.now (sym c.items.ensures) c.in_ok-flows.ensures.given))

pub returns-in_err-reduced-clause-fault : goal.returns-in_err-reduced-clause-fault
returns-in_err-reduced-clause-fault g c =
    let p = c.args.p.now in
    let s = g.B.Basis.standing c.args.basis.now in
    let t = c.state.result.now.standing in
    let same : t ≡ s = c.state.ensures.standing ∙ c.in_ok-duals.ensures.standing in
    let shown = c.in_ok-duals.ensures.duals in
    handed_on c.from_residual-in_err-reduced.result _ _ c.from_residual-in_err-reduced.ensures.1
    (fault-at p t s same _
    (c.in_err-reduced.ensures.fault
    (pricing-at p s t (sym same) (costs_of p PhaseTwo) c.in_ok-duals.duals c.items-2.result.now (sym c.items-2.ensures)
    (pricing p s (g.met.B.Basis.sound p c.args.basis.now c.requires.numbers).basis c.in_ok-duals.duals c.args.best shown.factor c.requires.ended shown.printed))))

pub row_sums-requires-clause-values : goal.row_sums-requires-clause-values
row_sums-requires-clause-values g c =
    let s = g.B.Basis.standing c.shown_duals.new.basis in
    given-length c.args.p.now s c.items-3.result.now (given-at c.args.p.now s s refl c.in_ok-flows.flows c.items-3.result.now (sym c.items-3.ensures) c.in_ok-flows.ensures.given)

pub returns-in_err-sums-clause-fault : goal.returns-in_err-sums-clause-fault
returns-in_err-sums-clause-fault g c =
    let p = c.args.p.now in
    let s = g.B.Basis.standing c.args.basis.now in
    let t = c.state-2.result.now.standing in
    let same : t ≡ s = c.state-2.ensures.standing ∙ c.in_ok-duals.ensures.standing in
    handed_on c.from_residual-in_err-sums.result _ _ c.from_residual-in_err-sums.ensures.1
    (fault-at p t s same _
    (c.in_err-sums.ensures.fault
    (given-at p (g.B.Basis.standing c.shown_duals.new.basis) t (sym c.state-2.ensures.standing) c.in_ok-flows.flows c.items-3.result.now (sym c.items-3.ensures) c.in_ok-flows.ensures.given)))

pub returns-clause-figures : goal.returns-clause-figures
returns-clause-figures g c =
    let p = c.args.p.now in
    let s = g.B.Basis.standing c.args.basis.now in
    let t = c.state.result.now.standing in
    let u = c.state-2.result.now.standing in
    record {
      flows = given-at p (g.B.Basis.standing c.shown_duals.new.basis) s c.in_ok-duals.ensures.standing c.in_ok-flows.flows c.in_ok-flows.flows refl c.in_ok-flows.ensures.given;
      costs = costs-at p c.items.result.now c.in_ok-flows.flows c.in_ok-costs.costs c.items.ensures c.in_ok-costs.ensures.costs;
      reduced = reduced-at p t s (c.state.ensures.standing ∙ c.in_ok-duals.ensures.standing) c.items-2.result.now c.in_ok-duals.duals c.in_ok-reduced.reduced c.items-2.ensures c.in_ok-reduced.ensures.costs;
      sums = sums-at p u s (c.state-2.ensures.standing ∙ c.in_ok-duals.ensures.standing) c.items-3.result.now c.in_ok-flows.flows c.in_ok-sums.sums c.items-3.ensures c.in_ok-sums.ensures.sums;
      duals = c.in_ok-duals.ensures.duals;
    }
