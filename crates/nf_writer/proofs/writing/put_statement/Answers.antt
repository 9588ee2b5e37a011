use Rattle.std.proofs.Common.{arith}
use Rattle.nf_words.specs.Lists.{statement_list}
use Rattle.nf_writer.proofs.Spelled.{known_at, statement_known}
use Rattle.nf_writer.proofs.writing.put_statement.Goals as goal

pub spelling-spelling-requires : goal.spelling-spelling-requires
spelling-spelling-requires c = (omega arith, known_at statement_list _ _ _ c.statement_words.ensures.list c.statement_number.ensures (statement_known c.args.word))
