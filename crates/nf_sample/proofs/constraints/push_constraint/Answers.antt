use Rattle.std.proofs.Common.{◌++◌, ap, ◌∙◌}
use Rattle.nf_sample.specs.Rows.{table_of}
use Rattle.nf_sample.specs.Sample.{constraints_header}
use Rattle.nf_sample.proofs.Drawn.{AreNext, always, constraint_is_drawn, four_states, on_ok}
use Rattle.nf_sample.proofs.Grown.{after}
use Rattle.nf_sample.proofs.constraints.push_constraint.Goals as goal

pub returns-clause-rows : goal.returns-clause-rows
returns-clause-rows c =
    let rows = c.args.table.now.rows in
    let s : AreNext c.args.draws.now c.below-first.new.self c.below-second.new.self c.below-third.new.self c.below-right.new.self =
    record { first = c.below-first.ensures.state; second = c.below-second.ensures.state; third = c.below-third.ensures.state; fourth = c.below-right.ensures.state } in
    let two = after constraints_header rows _ _ c.push_first_term.new.table c.push_term.new.table c.in_ok-push_first_term.ensures c.in_ok-push_term.ensures in
    let three = after constraints_header rows _ _ c.push_term.new.table c.push_term-2.new.table two c.in_ok-push_term-2.ensures in
    on_ok c.push_variable.result
    (λ e. after constraints_header rows _ _ c.push_term-2.new.table c.push_variable.new.table three e
    ∙ ap (λ cells. table_of constraints_header (rows ++ cells))
    (constraint_is_drawn c.args.draws.now c.args.arcs c.args.k _ _ _ _ c.below-first.result c.below-second.result c.below-third.result c.below-right.result s
    c.below-first.ensures.value c.below-second.ensures.value c.below-third.ensures.value c.below-right.ensures.value))
    c.push_variable.ensures

pub returns-clause-drawn : goal.returns-clause-drawn
returns-clause-drawn c = always c.push_variable.result (four_states c.args.draws.now c.below-first.new.self c.below-second.new.self c.below-third.new.self _ record { first = c.below-first.ensures.state; second = c.below-second.ensures.state; third = c.below-third.ensures.state; fourth = c.below-right.ensures.state })
