use Rattle.std.proofs.Common.{◌≡◌, Ok, subst, sym, rules}
use Rattle.std.specs.Prelude.{◌≤◌, length}
use Rattle.nf_io.specs.Held.{most_bytes}
use Rattle.nf_table.specs.Reading.{table_read}
use Rattle.nf_table.specs.Writing.{table_text}
use Rattle.nf_table.proofs.WriteFacts.{table-back}
use Rattle.nf_table.proofs.writing.write_table.Goals as goal

pub returns-in-Ok-clause-read_back : goal.returns-in-Ok-clause-read_back
returns-in-Ok-clause-read_back c =
    let same : c.from_vec.result ≡ table_text c.args.table.now = search rules in
    subst (λ t. length t ≤ most_bytes → table_read t ≡ Ok c.args.table.now) (sym same) (table-back c.args.table.now c.requires.header c.requires.no_mark c.requires.hand c.kept.ensures.even c.kept.ensures.text c.kept.ensures.names)
