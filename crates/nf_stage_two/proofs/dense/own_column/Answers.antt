use Rattle.std.proofs.Common.{◌≡◌, ◌≢◌, ℕ, suc, ◌+◌, arith, rules}
use Rattle.nf_basis.specs.declared.col.Place.TheVariants.{Basic}
use Rattle.nf_stage_two.proofs.OwnColumns.{own_slack_told, own_artificial_told}
use Rattle.nf_stage_two.proofs.dense.own_column.Goals as goal

row_is : (n m q : ℕ) → n ≡ m → n + q + 1 ≡ suc (m + q)
row_is n m q e = omega arith

pub returns-then-eq : goal.returns-then-eq
returns-then-eq c =
    let p = c.args.p.now in
    let b : c.place.result ≡ Basic = search rules in
    own_slack_told p c.args.state.now c.requires.state c.args.q c.requires.side _ (row_is _ _ c.args.q c.nodes.ensures.number) c.place.result (c.place.ensures.present p c.requires.state) (c.place.ensures.absent p c.requires.state) b

pub returns : goal.returns
returns c =
    let p = c.args.p.now in
    let b : c.place.result ≢ Basic = search rules in
    own_artificial_told p c.args.state.now c.requires.state c.args.q c.requires.side _ (row_is _ _ c.args.q c.nodes.ensures.number) c.place.result (c.place.ensures.present p c.requires.state) (c.place.ensures.absent p c.requires.state) b
