use Rattle.std.proofs.Common.{◌≡◌, ◌∙◌, ◌<◌, length, ap, sym, subst}
use Rattle.nf_inverse.proofs.Stored.{long, row_long}
use Rattle.nf_inverse.proofs.inverse.Inverse.row.Goals as goal

pub returns-clause-one_each : goal.returns-clause-one_each
returns-clause-one_each c =
    let rows = c.self.inside.rows.items in
    let same : length c.args.self.now ≡ length rows = sym (ap length c.self.view_is) ∙ long rows in
    ap length c.as_slice.ensures.value ∙ (row_long rows c.args.slot c.index.result.now c.self.invariant.square (subst (λ n. c.args.slot < n) same c.requires.slot) c.index.ensures ∙ sym same)
