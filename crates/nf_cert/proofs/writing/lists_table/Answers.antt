use Rattle.std.proofs.Common.{arith}
use Rattle.nf_cert.specs.declared.item.Kind.TheVariants as kind
use Rattle.nf_cert.proofs.GrowFacts.{first-size, rows-size}
use Rattle.nf_cert.proofs.writing.lists_table.Goals as goal

pub push_fracs-requires-2-clause-room : goal.push_fracs-requires-2-clause-room
push_fracs-requires-2-clause-room c =
    let first = first-size c.push_header.new.table c.push_row.new.table _ c.in_ok-push_header.ensures c.in_ok-push_row.ensures in
    let size = rows-size c.push_row.new.table.rows kind.Column c.args.values.now c.push_fracs.new.table c.in_ok-push_fracs.ensures.rows in
    omega (arith, first, size, c.requires.few_values)
