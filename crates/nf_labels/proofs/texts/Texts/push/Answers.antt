use Rattle.std.proofs.Common.{◌≡◌, ◌∙◌, ◌+◌, ◌++◌, ◌∷◌, [], ap, ap₂, length, length-append, arith}
use Rattle.std.proofs.lemmas.Grind.{common_steps}
use Rattle.nf_labels.specs.Texts.{texts_from}
use Rattle.nf_labels.proofs.TextFacts.{ends-pushed, pushed}
use Rattle.nf_labels.proofs.texts.Texts.push.Goals as goal

pub invariant_of-self-in-Ok : goal.invariant_of-self-in-Ok
invariant_of-self-in-Ok c =
    let s = c.self.inside in
    let size : length (s.bytes.items ++ c.args.text.now) ≡ length s.bytes.items + length c.args.text.now = length-append s.bytes.items c.args.text.now in
    let to : c.len.result ≡ length (s.bytes.items ++ c.args.text.now) = grind (arith, common_steps) in
    rw (c.in_ok-extend_from_slice.ensures.items, c.in-Ok.ensures.items, to) (ends-pushed 0 s.ends.items (length s.bytes.items) _ c.self.invariant (omega (arith, size)))

pub returns-in-Ok-clause-added : goal.returns-in-Ok-clause-added
returns-in-Ok-clause-added c =
    let s = c.self.inside in
    let to : c.len.result ≡ length s.bytes.items + length c.args.text.now = grind (arith, common_steps) in
    ap₂ (texts_from 0) c.in-Ok.ensures.items c.in_ok-extend_from_slice.ensures.items
    ∙ ap (λ end. texts_from 0 (s.ends.items ++ end ∷ []) (s.bytes.items ++ c.args.text.now)) to
    ∙ pushed s.bytes.items c.args.text.now 0 s.ends.items c.self.invariant
    ∙ ap (λ ts. ts ++ c.args.text.now ∷ []) c.self.view_is
