use Rattle.std.proofs.Common.{◌≡◌, ◌∙◌, ◌≤◌, length, Err, inl, inr, refl, sym, ap, arith, rules}
use Rattle.nf_io.specs.Held.{most_bytes}
use Rattle.nf_table.proofs.HeaderFacts.{header-on, table-good, text-records}
use Rattle.nf_table.proofs.RecordFacts.{strip-shorter}
use Rattle.nf_table.proofs.reading.read_table.Goals as goal

pub read_header-requires-clause-few : goal.read_header-requires-clause-few
read_header-requires-clause-few c =
    let shorter = strip-shorter c.args.bytes.now in
    rw c.in_ok-records.ensures.left (omega (arith, shorter))

pub returns-in_err-rows : goal.returns-in_err-rows
returns-in_err-rows c =
    let fits : length c.args.bytes.now ≤ most_bytes = omega arith in
    let start = text-records _ c.in_ok-records.records fits c.in_ok-records.ensures.state c.in_ok-records.ensures.left in
    let on = header-on _ _ _ _ (rw c.in_ok-records.ensures.state refl) c.in_ok-width.ensures in
    let same : c.from_residual-in_err-rows.result ≡ Err c.in_err-rows.field-0.0 = search rules in
    elim c.in_err-rows.ensures [
      | inl want ↦ inl (same ∙ ap (λ e. Err e) want)
      | inr due ↦ inr (same ∙ sym (start ∙ on ∙ due))
    ]

pub returns : goal.returns
returns c =
    let fits : length c.args.bytes.now ≤ most_bytes = omega arith in
    let start = text-records _ c.in_ok-records.records fits c.in_ok-records.ensures.state c.in_ok-records.ensures.left in
    let good = table-good _ _ _ _ _ _ (rw c.in_ok-records.ensures.state refl) c.in_ok-width.ensures c.in_ok-rows.ensures in
    rw c.from_cells.ensures (inr (sym (start ∙ good)))
