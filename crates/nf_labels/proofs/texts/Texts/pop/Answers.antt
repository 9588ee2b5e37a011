use Rattle.std.proofs.Common.{◌≡◌, ◌∙◌, ◌-◌, ◌∷◌, sym, ap, ap₂, length, take, get_or, vec_len, rules, arith}
use Rattle.nf_labels.specs.Texts.{texts_from}
use Rattle.nf_labels.proofs.TextFacts.{begin-taken, fill-taken, taken, of-length}
use Rattle.nf_labels.proofs.texts.Texts.pop.Goals as goal

pub invariant_of-self : goal.invariant_of-self
invariant_of-self c =
    let s = c.self.inside in
    let k = length s.ends.items - 1 in
    let count : vec_len s.ends ≡ length s.ends.items = search rules in
    let rest : c.pop.new.self.items ≡ take k s.ends.items = c.pop.ensures.rest ∙ ap (λ n. take (n - 1) s.ends.items) count in
    let to : c.begin-end.result ≡ get_or (0 ∷ s.ends.items) k 0 =
    c.begin-end.ensures
    ∙ ap (λ i. get_or (0 ∷ c.deref.result.now) i 0) (c.len.ensures ∙ sym c.deref.ensures.len)
    ∙ ap (λ es. get_or (0 ∷ es) (length es) 0) (c.deref.ensures.value ∙ rest)
    ∙ begin-taken 0 s.ends.items k (omega arith) in
    rw (rest, c.truncate.ensures.items, to) (fill-taken 0 s.ends.items s.bytes.items k c.self.invariant (omega arith))

pub returns : goal.returns
returns c =
    let s = c.self.inside in
    let k = length s.ends.items - 1 in
    let count : vec_len s.ends ≡ length s.ends.items = search rules in
    let rest : c.pop.new.self.items ≡ take k s.ends.items = c.pop.ensures.rest ∙ ap (λ n. take (n - 1) s.ends.items) count in
    let to : c.begin-end.result ≡ get_or (0 ∷ s.ends.items) k 0 =
    c.begin-end.ensures
    ∙ ap (λ i. get_or (0 ∷ c.deref.result.now) i 0) (c.len.ensures ∙ sym c.deref.ensures.len)
    ∙ ap (λ es. get_or (0 ∷ es) (length es) 0) (c.deref.ensures.value ∙ rest)
    ∙ begin-taken 0 s.ends.items k (omega arith) in
    let size = sym (of-length 0 s.ends.items s.bytes.items) ∙ ap length c.self.view_is in
    ap₂ (texts_from 0) rest (c.truncate.ensures.items ∙ ap (λ m. take m s.bytes.items) to)
    ∙ taken 0 s.ends.items s.bytes.items k c.self.invariant (omega arith)
    ∙ ap₂ take (ap (λ n. n - 1) size) c.self.view_is
