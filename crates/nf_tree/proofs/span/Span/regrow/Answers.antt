use Rattle.std.proofs.Common.{◌≡◌, ◌<◌, ◌≤◌, length, get_or, ap, ◌∙◌, subst, arith}
use Rattle.nf_tree.proofs.Planted.{head_there, tail_there}
use Rattle.nf_tree.proofs.span.Span.regrow.Goals as goal

pub rebuild-requires-clause-few : goal.rebuild-requires-clause-few
rebuild-requires-clause-few g c =
    let a = c.requires.room.tails in
    let b : length c.as_slice.result.now ≡ length c.args.self.now.tails.items = ap length c.as_slice.ensures.value in
    let d = c.rows-rows.ensures.few in
    let e = c.rows-rows.ensures.number in
    let f = c.requires.state.problem.nodes_within in
    omega arith

pub rebuild-requires-clause-tails_within : goal.rebuild-requires-clause-tails_within
rebuild-requires-clause-tails_within g c q h =
    let same = c.as_slice.ensures.value in
    let many : length c.as_slice.result.now ≡ c.args.p.now.nodes = ap length same ∙ c.requires.room.tails in
    let below : get_or c.args.self.now.tails.items q 0 ≤ c.args.p.now.nodes = tail_there c.args.p.now c.args.state.now.standing c.requires.state.problem c.requires.stage c.args.keys.now c.requires.present _ _ _ c.requires.ends q (subst (λ n. q < n) many h) in
    let e : get_or c.as_slice.result.now q 0 ≡ get_or c.args.self.now.tails.items q 0 = ap (λ xs. get_or xs q 0) same in
    omega arith

pub rebuild-requires-clause-heads_within : goal.rebuild-requires-clause-heads_within
rebuild-requires-clause-heads_within g c q h =
    let same = c.as_slice-2.ensures.value in
    let many : length c.as_slice.result.now ≡ c.args.p.now.nodes = ap length c.as_slice.ensures.value ∙ c.requires.room.tails in
    let below : get_or c.args.self.now.heads.items q 0 ≤ c.args.p.now.nodes = head_there c.args.p.now c.args.state.now.standing c.requires.state.problem c.requires.stage c.args.keys.now c.requires.present _ _ _ c.requires.ends q (subst (λ n. q < n) many h) in
    let e : get_or c.as_slice-2.result.now q 0 ≡ get_or c.args.self.now.heads.items q 0 = ap (λ xs. get_or xs q 0) same in
    omega arith

pub returns-clause-joined : goal.returns-clause-joined
returns-clause-joined g c j =
    c.rebuild.ensures.joined (rw (c.as_slice.ensures.value, c.as_slice-2.ensures.value, c.requires.room.tails) j)
