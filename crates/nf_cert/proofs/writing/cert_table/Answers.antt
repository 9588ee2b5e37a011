use Rattle.std.proofs.Common.{◌≤◌, ◌^◌, ◌∙◌, ap, ap₂, subst, sym}
use Rattle.nf_prob.specs.declared.cert.Cert.TheVariants as cert
use Rattle.nf_cert.proofs.BackFacts.{best-answer, farkas-answer, ray-answer}
use Rattle.nf_cert.proofs.writing.cert_table.Goals as goal

pub returns-in-Best-clause-read_back : goal.returns-in-Best-clause-read_back
returns-in-Best-clause-read_back c =
    let columns = subst (λ n. n ≤ 2 ^ 30) c.columns.ensures.number c.columns.ensures.few in
    let rows = subst (λ n. n ≤ 2 ^ 30) c.rows.ensures.number c.rows.ensures.few in
    let t = c.lists_table.ensures in
    best-answer c.args.p.now columns rows _ c.args.cert.now _ _ c.requires.lengths (c.in-Best.is ∙ sym (ap₂ (λ a b. cert.Best a b) c.items.ensures c.items-in-Best.ensures)) t.table t.values_in_range t.others_in_range

pub returns-in-Farkas-clause-read_back : goal.returns-in-Farkas-clause-read_back
returns-in-Farkas-clause-read_back c =
    let columns = subst (λ n. n ≤ 2 ^ 30) c.columns.ensures.number c.columns.ensures.few in
    let rows = subst (λ n. n ≤ 2 ^ 30) c.rows.ensures.number c.rows.ensures.few in
    let t = c.lists_table-in-Farkas.ensures in
    farkas-answer c.args.p.now columns rows _ c.args.cert.now _ c.requires.lengths (c.in-Farkas.is ∙ sym (ap (λ a. cert.Farkas a) c.items-in-Farkas.ensures)) t.table t.others_in_range

pub returns-in-Ray-clause-read_back : goal.returns-in-Ray-clause-read_back
returns-in-Ray-clause-read_back c =
    let columns = subst (λ n. n ≤ 2 ^ 30) c.columns.ensures.number c.columns.ensures.few in
    let rows = subst (λ n. n ≤ 2 ^ 30) c.rows.ensures.number c.rows.ensures.few in
    let t = c.lists_table-in-Ray.ensures in
    ray-answer c.args.p.now columns rows _ c.args.cert.now _ _ c.requires.lengths (c.in-Ray.is ∙ sym (ap₂ (λ a b. cert.Ray a b) c.items-in-Ray.ensures c.items-in-Ray-2.ensures)) t.table t.values_in_range t.others_in_range
