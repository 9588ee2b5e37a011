use Rattle.std.proofs.Common.{None, Some, subst, inr, arith}
use Rattle.nf_network.specs.Repeats.{IsFirstRepeat}
use Rattle.nf_network.specs.Rows.{arc_rows}
use Rattle.nf_network.proofs.FirstFacts.{IsTaken, keys-after, stopped-alone, taken-few, taken-repeat, whole-clear}
use Rattle.nf_network.proofs.PassFacts.{rows-length}
use Rattle.nf_network.proofs.pass.Arcs.take_all.Goals as goal

pub overflow_cast-result : goal.overflow_cast-result
overflow_cast-result c =
    let first : IsFirstRepeat c.take_rows-taken.new.self.keys (Some c.in-Some-default.j) = subst (IsFirstRepeat c.take_rows-taken.new.self.keys) c.in-Some-default.is-0 c.in-Ok.ensures in
    let few = taken-few c.args.defaults.now (arc_rows c.args.roles.now c.args.table.now.rows) _ _ _ c.take_rows-taken.result c.take_rows-taken.ensures in
    omega (arith, first.0, few, rows-length c.args.roles.now c.args.table.now.rows, c.requires.few)

pub overflow_add-result : goal.overflow_add-result
overflow_add-result c =
    let first : IsFirstRepeat c.take_rows-taken.new.self.keys (Some c.in-Some-default.j) = subst (IsFirstRepeat c.take_rows-taken.new.self.keys) c.in-Some-default.is-0 c.in-Ok.ensures in
    let few = taken-few c.args.defaults.now (arc_rows c.args.roles.now c.args.table.now.rows) _ _ _ c.take_rows-taken.result c.take_rows-taken.ensures in
    omega (arith, first.0, few, rows-length c.args.roles.now c.args.table.now.rows, c.requires.few)

pub returns-in-Some-default : goal.returns-in-Some-default
returns-in-Some-default c =
    let first : IsFirstRepeat c.take_rows-taken.new.self.keys (Some c.in-Some-default.j) = subst (IsFirstRepeat c.take_rows-taken.new.self.keys) c.in-Some-default.is-0 c.in-Ok.ensures in
    inr (taken-repeat c.args.defaults.now (arc_rows c.args.roles.now c.args.table.now.rows) _ _ _ c.take_rows-taken.result c.in-Some-default.j c.take_rows-taken.ensures first)

pub returns-in-None-Err : goal.returns-in-None-Err
returns-in-None-Err c =
    let none : IsFirstRepeat c.take_rows-taken.new.self.keys None = subst (IsFirstRepeat c.take_rows-taken.new.self.keys) c.in-None-Err.is-0 c.in-Ok.ensures in
    let stopped = subst (IsTaken c.args.defaults.now (arc_rows c.args.roles.now c.args.table.now.rows) c.take_rows-taken.new.self.nodes c.take_rows-taken.new.self.keys c.take_rows-taken.new.self.figures.items) c.in-None-Err.is-1 c.take_rows-taken.ensures in
    stopped-alone c.args.defaults.now (arc_rows c.args.roles.now c.args.table.now.rows) _ _ _ stopped none

pub returns-in-None-Ok : goal.returns-in-None-Ok
returns-in-None-Ok c =
    let none : IsFirstRepeat c.take_rows-taken.new.self.keys None = subst (IsFirstRepeat c.take_rows-taken.new.self.keys) c.in-None-Ok.is-0 c.in-Ok.ensures in
    let whole = subst (IsTaken c.args.defaults.now (arc_rows c.args.roles.now c.args.table.now.rows) c.take_rows-taken.new.self.nodes c.take_rows-taken.new.self.keys c.take_rows-taken.new.self.figures.items) c.in-None-Ok.is-1 c.take_rows-taken.ensures in
    (whole-clear c.args.defaults.now (arc_rows c.args.roles.now c.args.table.now.rows) _ whole.0 (keys-after c.args.defaults.now (arc_rows c.args.roles.now c.args.table.now.rows) _ _ _ whole.1) none, whole.1)
