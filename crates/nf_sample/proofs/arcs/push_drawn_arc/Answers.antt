use Rattle.std.proofs.Common.{◌++◌, ap, ◌∙◌}
use Rattle.nf_sample.specs.Rows.{table_of}
use Rattle.nf_sample.specs.Sample.{arcs_header}
use Rattle.nf_sample.proofs.Drawn.{AreNext, always, arc_is_drawn, four_states, on_ok}
use Rattle.nf_sample.proofs.arcs.push_drawn_arc.Goals as goal

pub returns-clause-row : goal.returns-clause-row
returns-clause-row c =
    let s : AreNext c.args.draws.now c.below-tail.new.self c.below-head.new.self c.below.new.self c.below-2.new.self =
    record { first = c.below-tail.ensures.state; second = c.below-head.ensures.state; third = c.below.ensures.state; fourth = c.below-2.ensures.state } in
    on_ok c.push_arc.result
    (λ e. e ∙ ap (λ cells. table_of arcs_header (c.args.table.now.rows ++ cells))
    (arc_is_drawn c.args.draws.now c.args.nodes c.args.number _ _ _ _ c.below-tail.result c.below-head.result c.below.result c.below-2.result _ _ s
    c.below-tail.ensures.value c.below-head.ensures.value c.below.ensures.value c.below-2.ensures.value
    (c.as_str.ensures.value ∙ c.in_ok-cost.ensures.ok) (c.as_str-2.ensures.value ∙ c.in_ok-capacity.ensures.ok)))
    c.push_arc.ensures

pub returns-clause-drawn : goal.returns-clause-drawn
returns-clause-drawn c = always c.push_arc.result (four_states c.args.draws.now c.below-tail.new.self c.below-head.new.self c.below.new.self _ record { first = c.below-tail.ensures.state; second = c.below-head.ensures.state; third = c.below.ensures.state; fourth = c.below-2.ensures.state })
