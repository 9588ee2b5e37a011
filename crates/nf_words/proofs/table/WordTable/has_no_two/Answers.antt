use Rattle.nf_words.proofs.Tables.{no_two}
use Rattle.nf_words.proofs.table.WordTable.has_no_two.Goals as goal

pub returns : goal.returns
returns g c = record { apart = no_two _ c.args.self.now.apart }
