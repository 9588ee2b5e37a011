use Rattle.std.proofs.Common.{◌≡◌, length, sym, ap, ◌∙◌, rules}
use Rattle.nf_labels.proofs.TextFacts.{of-length}
use Rattle.nf_labels.proofs.texts.Texts.len.Goals as goal

pub returns : goal.returns
returns c =
    let s = c.self.inside in
    let ends : c.len.result ≡ length s.ends.items = search rules in
    ends ∙ sym (of-length 0 s.ends.items s.bytes.items) ∙ ap length c.self.view_is
