use Rattle.std.proofs.Common.{◌≡◌, ◌∙◌, false, sym}
use Rattle.std.proofs.lemmas.Bool.{false≢true}
use Rattle.nf_network.specs.Faults.{is_bad}
use Rattle.nf_cons_sparse.specs.Sparse.{is_right, line_now}
use Rattle.nf_cons_sparse.proofs.LineFacts.{column-same, name-fault, not-bad, pair-clear, pair-fault, taken-same}
use Rattle.nf_cons_sparse.proofs.first_round.Lines.take_column.Goals as goal
use Rattle.nf_cons_sparse.proofs.first_round.Lines.take_column.Goals.{in-Bad, in_default}

pub returns-in-Err-name_variable : goal.returns-in-Err-name_variable
returns-in-Err-name_variable c =
    name-fault c.args.self.now c.args.row c.args.number (line_now c.args.line.now) c.in-Err-name_variable.fault (sym c.is_right.ensures ∙ c.if-is_right.false) c.in-Err-name_variable.ensures

pub returns-in-Ok-add_pair : goal.returns-in-Ok-add_pair
returns-in-Ok-add_pair c =
    let h : is_right (line_now c.args.line.now) ≡ false = sym c.is_right.ensures ∙ c.if-is_right.false in
    let good : is_bad c.args.line.now.coef ≡ false = elim c.match-matches.branch [
      | in-Bad w ↦ absurd (false≢true (sym c.if-matches.false ∙ w.matches-is))
      | in_default w ↦ not-bad c.args.line.now.coef w.in_default.not-Bad
    ] in
    let named = c.in-Ok-name_variable.ensures in
    let added = rw (named.1, named.2, c.value_in.ensures) at c.in-Ok-add_pair.ensures in (
      pair-clear c.args.self.now c.args.row c.args.number (line_now c.args.line.now) h good named.0 added.0,
      rw (named.1, c.value_in.ensures) (taken-same c.args.self.now c.args.row (line_now c.args.line.now) h),
      added.1 ∙ column-same c.args.self.now c.args.row c.args.number (line_now c.args.line.now) h,
    )

pub returns-in-Err-add_pair : goal.returns-in-Err-add_pair
returns-in-Err-add_pair c =
    let h : is_right (line_now c.args.line.now) ≡ false = sym c.is_right.ensures ∙ c.if-is_right.false in
    let good : is_bad c.args.line.now.coef ≡ false = elim c.match-matches.branch [
      | in-Bad w ↦ absurd (false≢true (sym c.if-matches.false ∙ w.matches-is))
      | in_default w ↦ not-bad c.args.line.now.coef w.in_default.not-Bad
    ] in
    let named = c.in-Ok-name_variable.ensures in
    pair-fault c.args.self.now c.args.row c.args.number (line_now c.args.line.now) c.in-Err-add_pair.fault h good named.0 (rw (named.1, named.2, c.value_in.ensures) at c.in-Err-add_pair.ensures)
