use Rattle.std.proofs.Common.{◌≡◌, ◌∙◌, subst, sym, length, true, rules}
use Rattle.nf_model.specs.Program.{at}
use Rattle.nf_sums.proofs.Up.{handed_on}
use Rattle.nf_simplex.specs.Columns.{ones, twos}
use Rattle.nf_simplex.specs.Ends.{IsFactor}
use Rattle.nf_simplex.specs.Layout.{layout_of}
use Rattle.nf_simplex.specs.Moves.{HasEndedOptimalIn}
use Rattle.nf_simplex.specs.Numbers.{reduced}
use Rattle.nf_simplex.specs.Standing.{PhaseTwo, place_at, rows_of, stage_of, AreDualsOf}
use Rattle.nf_duals.specs.Printed.{ArePrintedBy}
use Rattle.nf_duals.proofs.PrintedFacts.{printed_in_state, printed_by}
use Rattle.nf_duals.proofs.printed.printed_duals.Goals as goal

pub factor-requires-clause-ended : goal.factor-requires-clause-ended
factor-requires-clause-ended g c =
    let p = c.args.p.now in
    let first : g.B.Basis.standing c.duals.new.self ≡ g.B.Basis.standing c.args.basis.now = c.in_ok-duals.ensures.standing in
    let second : g.B.Basis.standing c.duals-2.new.self ≡ g.B.Basis.standing c.duals.new.self = c.in_ok-duals-2.ensures.standing in
    let told : c.state.result.now.standing ≡ g.B.Basis.standing c.duals-2.new.self = c.state.ensures.standing in
    let best : c.args.best ≡ true = search rules in
    subst (HasEndedOptimalIn p) (sym (told ∙ second ∙ first)) (c.requires.ended best)

pub returns-in_err-add_multiple-clause-passed : goal.returns-in_err-add_multiple-clause-passed
returns-in_err-add_multiple-clause-passed g c =
    let p = c.args.p.now in
    let first : g.B.Basis.standing c.duals.new.self ≡ g.B.Basis.standing c.args.basis.now = c.in_ok-duals.ensures.standing in
    let second : g.B.Basis.standing c.duals-2.new.self ≡ g.B.Basis.standing c.duals.new.self = c.in_ok-duals-2.ensures.standing in
    let told : c.state.result.now.standing ≡ g.B.Basis.standing c.duals-2.new.self = c.state.ensures.standing in
    let same = told ∙ second ∙ first in
    let len : length c.duals-2.new.out ≡ rows_of p (g.B.Basis.standing c.args.basis.now) = search rules in
    let best : c.args.best ≡ true = search rules in
    handed_on c.from_residual-in_err-add_multiple.result _ _ c.from_residual-in_err-add_multiple.ensures.1
    (printed_in_state p (g.B.Basis.standing c.args.basis.now) c.in_ok-m.m c.duals.new.out c.duals-2.new.out c.in_err-add_multiple.field-0.0 len (c.requires.ended best)
    c.in_ok-duals.ensures.duals
    (subst (λ s. AreDualsOf p s PhaseTwo (at c.duals-2.new.out)) first c.in_ok-duals-2.ensures.duals)
    (subst (λ s. IsFactor (stage_of p s) (place_at s) (reduced (stage_of p s) (ones (layout_of p)) (at c.duals.new.out)) (reduced (stage_of p s) (twos (layout_of p)) (at c.duals-2.new.out)) c.in_ok-m.m) same c.in_ok-m.ensures.factor)
    c.in_err-add_multiple.ensures.passed)

pub returns-clause-printed : goal.returns-clause-printed
returns-clause-printed g c =
    let p = c.args.p.now in
    let first : g.B.Basis.standing c.duals.new.self ≡ g.B.Basis.standing c.args.basis.now = c.in_ok-duals.ensures.standing in
    let second : g.B.Basis.standing c.duals-2.new.self ≡ g.B.Basis.standing c.duals.new.self = c.in_ok-duals-2.ensures.standing in
    let told : c.state.result.now.standing ≡ g.B.Basis.standing c.duals-2.new.self = c.state.ensures.standing in
    let same = told ∙ second ∙ first in
    let best : c.args.best ≡ true = search rules in
    let len : length c.duals-2.new.out ≡ rows_of p (g.B.Basis.standing c.args.basis.now) = search rules in
    subst (λ b. ArePrintedBy p (g.B.Basis.standing c.args.basis.now) b c.in_ok-m.m c.add_multiple.new.two) (sym best)
    (printed_by p (g.B.Basis.standing c.args.basis.now) (g.B.Basis.values p c.args.basis.now) c.duals.new.out c.duals-2.new.out c.add_multiple.new.two c.in_ok-m.m
    (g.met.B.Basis.sound p c.args.basis.now c.requires.numbers).values
    c.in_ok-duals.ensures.duals
    (subst (λ s. AreDualsOf p s PhaseTwo (at c.duals-2.new.out)) first c.in_ok-duals-2.ensures.duals)
    len
    (subst (λ s. IsFactor (stage_of p s) (place_at s) (reduced (stage_of p s) (ones (layout_of p)) (at c.duals.new.out)) (reduced (stage_of p s) (twos (layout_of p)) (at c.duals-2.new.out)) c.in_ok-m.m) same c.in_ok-m.ensures.factor)
    c.in_ok-add_multiple.ensures.added)
