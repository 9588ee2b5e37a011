use Rattle.std.proofs.Common.{◌≡◌, ◌<◌, ◌++◌, ◌∷◌, [], ◌∙◌, None, inl, refl, length, subst, ap}
use Rattle.nf_cons.specs.Places.{IsFaultOf, first_of}
use Rattle.nf_cons_sparse.specs.LineState.{LineState, given_with, line_faults_now, with_line}
use Rattle.nf_cons_sparse.specs.Sparse.{line_now, row_of}
use Rattle.nf_cons_sparse.proofs.StepFacts.{column-told, line-clear, line-left, right-told, type-told}
use Rattle.nf_cons_sparse.proofs.first_round.Lines.take_line.Goals as goal
use Rattle.nf_cons_sparse.proofs.first_round.Lines.take_line.Goals.{in-Ok-push, in-Err-push}

pub returns-in-Err-give_type : goal.returns-in-Err-give_type
returns-in-Err-give_type c =
    let s = c.args.self.now in
    let l = line_now c.read_line-line.result in
    let e = c.in-Ok.ensures in
    let below : c.in-Ok.row < length (given_with s (row_of l)) = rw e.3 at e.2 in
    subst (λ q. IsFaultOf (first_of (line_faults_now s c.args.number q)) c.in-Err-give_type.fault) c.read_line-line.ensures
    (type-told s c.args.number l c.requires.kept.each c.in-Ok.row e.1 below e.0 c.in-Err-give_type.fault (rw e.3 at c.in-Err-give_type.ensures))

pub returns-in-Err-take_column : goal.returns-in-Err-take_column
returns-in-Err-take_column c =
    let s = c.args.self.now in
    let l = line_now c.read_line-line.result in
    let e = c.in-Ok.ensures in
    let below : c.in-Ok.row < length (given_with s (row_of l)) = rw e.3 at e.2 in
    let t = rw e.3 at c.in-Ok-give_type.ensures in
    subst (λ q. IsFaultOf (first_of (line_faults_now s c.args.number q)) c.in-Err-take_column.fault) c.read_line-line.ensures
    (column-told s c.args.number l c.requires.kept.each c.in-Ok.row e.1 below e.0 t.0 c.in-Err-take_column.fault (rw t.1 at c.in-Err-take_column.ensures))

pub returns-in-Err-give_right : goal.returns-in-Err-give_right
returns-in-Err-give_right c =
    let s = c.args.self.now in
    let l = line_now c.read_line-line.result in
    let e = c.in-Ok.ensures in
    let below : c.in-Ok.row < length (given_with s (row_of l)) = rw e.3 at e.2 in
    let t = rw e.3 at c.in-Ok-give_type.ensures in
    let column = rw t.1 at c.in-Ok-take_column.ensures in
    subst (λ q. IsFaultOf (first_of (line_faults_now s c.args.number q)) c.in-Err-give_right.fault) c.read_line-line.ensures
    (right-told s c.args.number l c.requires.kept.each c.in-Ok.row e.1 below e.0 t.0 column.0 c.in-Err-give_right.fault (rw column.2 at c.in-Err-give_right.ensures))

pub returns : goal.returns
returns c =
    let s = c.args.self.now in
    let l = line_now c.read_line-line.result in
    let e = c.in-Ok.ensures in
    let below : c.in-Ok.row < length (given_with s (row_of l)) = rw e.3 at e.2 in
    let t = rw e.3 at c.in-Ok-give_type.ensures in
    let column = rw t.1 at c.in-Ok-take_column.ensures in
    let right = rw column.2 at c.in-Ok-give_right.ensures in
    elim c.match-push.branch [
      | in-Ok-push w ↦
          rw w.result-is (
            subst (λ q. first_of (line_faults_now s c.args.number q) ≡ None) c.read_line-line.ensures
                (line-clear s c.args.number l c.requires.kept.each c.in-Ok.row e.1 below e.0 t.0 column.0 right.0),
            rw w.in-Ok-push.ensures.items (ap {A = LineState} (λ q. record q { taken = q.taken ++ c.in-Ok-take_column.taken ∷ [] }) (c.self.view_is ∙ right.1))
                ∙ line-left s c.args.number l c.requires.kept.each c.in-Ok.row e.1 below c.in-Ok-take_column.taken column.1
                ∙ ap (with_line s c.args.number) c.read_line-line.ensures,
          )
      | in-Err-push w ↦ rw (w.result-is, w.at_role.ensures) (inl refl)
    ]
