use Rattle.std.proofs.Common.{◌≡◌, ◌∙◌, length, rules, subst, sym}
use Rattle.std.proofs.lemmas.List.{take_at}
use Rattle.nf_simplex.specs.Standing.{rows_of}
use Rattle.nf_figures.specs.Figures.{AreShownDuals}
use Rattle.nf_figures.proofs.rows.shown_duals.Goals as goal

pub returns-clause-duals : goal.returns-clause-duals
returns-clause-duals g c =
    let s = g.B.Basis.standing c.args.basis.now in
    let ys = c.printed_duals.new.two in
    let long : length ys ≡ rows_of c.args.p.now s = search rules in
    let full : length ys ≡ c.in_ok-two.two.len = search rules in
    subst (AreShownDuals c.args.p.now s c.args.best) (sym (c.in_ok-duals.ensures ∙ (c.as_slice.ensures.value ∙ take_at ys _ c.in_ok-two.two.len full)))
    (record { one_each = long; factor = c.in_ok-printed_duals.field-0; printed = c.in_ok-printed_duals.ensures.printed })
