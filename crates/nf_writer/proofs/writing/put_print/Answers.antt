use Rattle.std.proofs.Common.{arith}
use Rattle.nf_words.specs.Lists.{print_list}
use Rattle.nf_writer.proofs.Spelled.{known_at, print_known}
use Rattle.nf_writer.proofs.writing.put_print.Goals as goal

pub spelling-spelling-requires : goal.spelling-spelling-requires
spelling-spelling-requires c = (omega arith, known_at print_list _ _ _ c.print_words.ensures.list c.number.ensures (print_known c.args.item))
