use Rattle.std.proofs.Common.{◌≡◌, ◌∙◌, length, rules}
use Rattle.std.proofs.lemmas.List.{take_at}
use Rattle.nf_certify.proofs.ray.moves.Goals as goal

pub returns : goal.returns
returns g c =
    let rs = c.put_all.new.moves in
    let m = c.put_all.ensures.moves in
    let full : length rs ≡ c.in_ok-moves.moves.len = search rules in
    (m.0, m.1, c.in_ok-ray.ensures ∙ (c.as_slice.ensures.value ∙ (take_at rs _ c.in_ok-moves.moves.len full ∙ m.2)))
