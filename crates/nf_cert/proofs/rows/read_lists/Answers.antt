use Rattle.std.proofs.Common.{◌≡◌, ◌≤◌, ◌<◌, ◌+◌, List, map, length, inl, inr, arith}
use Rattle.std.proofs.lemmas.List.{length-map}
use Rattle.nf_cert.specs.Items.{CertRow, cert_row}
use Rattle.nf_cert.proofs.WholeFacts.{values-found, others-found, much-found, none-found}
use Rattle.nf_cert.proofs.rows.read_lists.Goals as goal

pub returns-in-Err : goal.returns-in-Err
returns-in-Err c =
    let table : List CertRow = map (cert_row c.args.at) c.args.table.now.rows in
    elim c.in-Err.ensures [
      | inl e ↦ inl e
      | inr e ↦ inr (values-found table c.args.columns c.args.kind c.args.count _ c.requires.verdict e)
    ]

pub returns-in-Err-fracs_below : goal.returns-in-Err-fracs_below
returns-in-Err-fracs_below c =
    let table : List CertRow = map (cert_row c.args.at) c.args.table.now.rows in
    elim c.in-Err-fracs_below.ensures [
      | inl e ↦ inl e
      | inr e ↦ inr (others-found table c.args.columns c.args.kind c.args.count _ c.requires.verdict c.in-Ok.ensures.clear e)
    ]

pub returns-then-last-rows : goal.returns-then-last-rows
returns-then-last-rows c =
    let table : List CertRow = map (cert_row c.args.at) c.args.table.now.rows in
    let size : length table ≡ length c.args.table.now.rows = length-map c.args.table.now.rows (cert_row c.args.at) in
    let more : 1 + c.args.columns + c.args.count < length table = omega (arith, size, c.rows.ensures, c.if-last-rows.true) in
    inr (much-found table c.args.columns c.args.kind c.args.count c.requires.verdict c.in-Ok.ensures.clear c.in-Ok-fracs_below.ensures.clear more)

pub returns : goal.returns
returns c =
    let table : List CertRow = map (cert_row c.args.at) c.args.table.now.rows in
    let size : length table ≡ length c.args.table.now.rows = length-map c.args.table.now.rows (cert_row c.args.at) in
    let few : length table ≤ 1 + c.args.columns + c.args.count = omega (arith, size, c.rows.ensures, c.if-last-rows.false) in
    let values = c.in-Ok.ensures in
    let others = c.in-Ok-fracs_below.ensures in
    record {
      clear = none-found table c.args.columns c.args.kind c.args.count c.requires.verdict values.clear others.clear few;
      values = values.fracs;
      others = others.fracs;
      many_values = values.many;
      many_others = others.many;
    }
