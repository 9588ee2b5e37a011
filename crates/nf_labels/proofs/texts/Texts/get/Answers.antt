use Rattle.std.proofs.Common.{◌≡◌, ◌∙◌, [], ◌∷◌, ◌<◌, ◌-◌, sym, ap, ap₂, length, take, drop, get_or, arith}
use Rattle.std.proofs.lemmas.List.{get_or_default}
use Rattle.nf_labels.proofs.TextFacts.{end-within, in-order, of-length, text-at}
use Rattle.nf_labels.proofs.texts.Texts.get.Goals as goal

pub begin-requires : goal.begin-requires
begin-requires c =
    let s = c.self.inside in
    let up : c.args.i < length s.ends.items = omega (arith, c.requires, sym (of-length 0 s.ends.items s.bytes.items) ∙ ap length c.self.view_is) in
    omega (arith, up, c.deref-2.ensures.len)

pub index-requires : goal.index-requires
index-requires c =
    let s = c.self.inside in
    let up : c.args.i < length s.ends.items = omega (arith, c.requires, sym (of-length 0 s.ends.items s.bytes.items) ∙ ap length c.self.view_is) in
    omega (arith, up, c.deref-2.ensures.len, ap length c.deref-2.ensures.value)

pub slice_bounds-result-count : goal.slice_bounds-result-count
slice_bounds-result-count c =
    let s = c.self.inside in
    let up : c.args.i < length s.ends.items = omega (arith, c.requires, sym (of-length 0 s.ends.items s.bytes.items) ∙ ap length c.self.view_is) in
    let from : c.begin.result ≡ get_or (0 ∷ s.ends.items) c.args.i 0 = c.begin.ensures ∙ ap (λ es. get_or (0 ∷ es) c.args.i 0) c.deref-2.ensures.value in
    let to : c.index.result.now ≡ get_or s.ends.items c.args.i 0 = c.index.ensures ∙ get_or_default s.ends.items c.args.i c.index.result.now 0 up in
    let order = in-order 0 s.ends.items (length s.bytes.items) c.args.i c.self.invariant up in
    let end = end-within 0 s.ends.items (length s.bytes.items) c.args.i c.self.invariant up in
    omega (arith, from, to, order)

pub slice_bounds-result-start : goal.slice_bounds-result-start
slice_bounds-result-start c =
    let s = c.self.inside in
    let up : c.args.i < length s.ends.items = omega (arith, c.requires, sym (of-length 0 s.ends.items s.bytes.items) ∙ ap length c.self.view_is) in
    let from : c.begin.result ≡ get_or (0 ∷ s.ends.items) c.args.i 0 = c.begin.ensures ∙ ap (λ es. get_or (0 ∷ es) c.args.i 0) c.deref-2.ensures.value in
    let to : c.index.result.now ≡ get_or s.ends.items c.args.i 0 = c.index.ensures ∙ get_or_default s.ends.items c.args.i c.index.result.now 0 up in
    let order = in-order 0 s.ends.items (length s.bytes.items) c.args.i c.self.invariant up in
    let end = end-within 0 s.ends.items (length s.bytes.items) c.args.i c.self.invariant up in
    omega (arith, from, to, order)

pub slice_bounds-result-end : goal.slice_bounds-result-end
slice_bounds-result-end c =
    let s = c.self.inside in
    let up : c.args.i < length s.ends.items = omega (arith, c.requires, sym (of-length 0 s.ends.items s.bytes.items) ∙ ap length c.self.view_is) in
    let from : c.begin.result ≡ get_or (0 ∷ s.ends.items) c.args.i 0 = c.begin.ensures ∙ ap (λ es. get_or (0 ∷ es) c.args.i 0) c.deref-2.ensures.value in
    let to : c.index.result.now ≡ get_or s.ends.items c.args.i 0 = c.index.ensures ∙ get_or_default s.ends.items c.args.i c.index.result.now 0 up in
    let order = in-order 0 s.ends.items (length s.bytes.items) c.args.i c.self.invariant up in
    let end = end-within 0 s.ends.items (length s.bytes.items) c.args.i c.self.invariant up in
    omega (arith, from, to, order, end, c.deref.ensures.len)

pub returns : goal.returns
returns c =
    let s = c.self.inside in
    let up : c.args.i < length s.ends.items = omega (arith, c.requires, sym (of-length 0 s.ends.items s.bytes.items) ∙ ap length c.self.view_is) in
    let from : c.begin.result ≡ get_or (0 ∷ s.ends.items) c.args.i 0 = c.begin.ensures ∙ ap (λ es. get_or (0 ∷ es) c.args.i 0) c.deref-2.ensures.value in
    let to : c.index.result.now ≡ get_or s.ends.items c.args.i 0 = c.index.ensures ∙ get_or_default s.ends.items c.args.i c.index.result.now 0 up in
    ap₂ (λ start end. take (end - start) (drop start c.deref.result.now)) from to
    ∙ ap (λ bytes. take (get_or s.ends.items c.args.i 0 - get_or (0 ∷ s.ends.items) c.args.i 0) (drop (get_or (0 ∷ s.ends.items) c.args.i 0) bytes)) c.deref.ensures.value
    ∙ sym (text-at 0 s.ends.items s.bytes.items c.args.i up)
    ∙ ap (λ ts. get_or ts c.args.i []) c.self.view_is
