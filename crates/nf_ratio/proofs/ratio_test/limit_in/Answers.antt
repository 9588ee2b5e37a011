use Rattle.std.proofs.Common.{ℕ, suc, ◌+◌, ◌*◌, ◌<◌, ◌≤◌, length, sym, ◌∙◌, subst, subst₂}
use Rattle.nf_simplex.specs.Moves.{CanEnterIn}
use Rattle.nf_simplex.specs.Size.{size}
use Rattle.nf_basis.specs.Names.{col_of}
use Rattle.nf_basis.specs.Numbers.{AreEntriesBySlot}
use Rattle.nf_ratio.specs.Loops.{IsWinner}
use Rattle.nf_ratio.specs.Ratios.{StandsAloneAfter}
use Rattle.nf_ratio.proofs.Answered.{answered}
use Rattle.nf_ratio.proofs.Sizes.{column_cost, rows_small, test_cost}
use Rattle.nf_ratio.proofs.ratio_test.limit_in.Goals as goal

pub winner-requires-clause-enters : goal.winner-requires-clause-enters
winner-requires-clause-enters g c = subst (λ t. CanEnterIn c.args.p.now t (col_of c.args.entering) c.args.down) (sym c.in_ok-column.ensures.standing) c.requires.enters.enters

pub returns-in_err-column-clause-cost : goal.returns-in_err-column-clause-cost
returns-in_err-column-clause-cost g c = λ t alone. column_cost c.args.steps.now c.column.new.steps t _ _ c.column.ensures.cost

pub winner-requires-clause-entries : goal.winner-requires-clause-entries
winner-requires-clause-entries g c = subst₂ (λ t l. AreEntriesBySlot c.args.p.now t l c.args.entering c.column.new.out) (sym c.in_ok-column.ensures.standing) (sym c.in_ok-column.ensures.slots) c.in_ok-column.ensures.entries

pub returns-in_err-winner-clause-cost : goal.returns-in_err-winner-clause-cost
returns-in_err-winner-clause-cost g c = λ t alone.
    let s = g.B.Basis.standing c.args.basis.now in
    test_cost c.args.steps.now c.column.new.steps c.winner.new.steps (length c.column.new.out) t (g.B.Basis.unit c.args.p.now s.stage) (size c.args.p.now s.stage) c.column.ensures.cost
    (subst (λ m. m < size c.args.p.now s.stage) (sym (c.column.auto.out ∙ c.requires.places)) (rows_small c.args.p.now s.stage))
    (subst (λ q. (t : ℕ) → StandsAloneAfter c.args.p.now q (col_of c.args.entering) c.args.down t → c.winner.new.steps ≤ c.column.new.steps + (1 + 2 * length c.column.new.out + t * (g.B.Basis.unit c.args.p.now q.stage + suc (length c.column.new.out)))) c.in_ok-column.ensures.standing c.winner.ensures.cost t alone)

pub returns-clause-answer : goal.returns-clause-answer
returns-clause-answer g c =
    let s = g.B.Basis.standing c.args.basis.now in
    answered c.args.p.now s (g.B.Basis.slots c.args.basis.now) _ (g.met.B.Basis.sound c.args.p.now c.args.basis.now c.requires.numbers) c.args.entering c.args.down c.requires.enters c.column.new.out c.in_ok-column.ensures.entries c.in_ok-winner.winner c.answer.result (c.column.auto.out ∙ c.requires.places)
    (subst₂ (λ t l. IsWinner c.args.p.now t l c.args.entering c.args.down c.in_ok-winner.winner) c.in_ok-column.ensures.standing c.in_ok-column.ensures.slots c.in_ok-winner.ensures.winner)
    c.answer.ensures

pub returns-clause-cost : goal.returns-clause-cost
returns-clause-cost g c = λ t alone.
    let s = g.B.Basis.standing c.args.basis.now in
    test_cost c.args.steps.now c.column.new.steps c.winner.new.steps (length c.column.new.out) t (g.B.Basis.unit c.args.p.now s.stage) (size c.args.p.now s.stage) c.column.ensures.cost
    (subst (λ m. m < size c.args.p.now s.stage) (sym (c.column.auto.out ∙ c.requires.places)) (rows_small c.args.p.now s.stage))
    (subst (λ q. (t : ℕ) → StandsAloneAfter c.args.p.now q (col_of c.args.entering) c.args.down t → c.winner.new.steps ≤ c.column.new.steps + (1 + 2 * length c.column.new.out + t * (g.B.Basis.unit c.args.p.now q.stage + suc (length c.column.new.out)))) c.in_ok-column.ensures.standing c.winner.ensures.cost t alone)
