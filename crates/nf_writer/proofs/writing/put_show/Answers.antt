use Rattle.std.proofs.Common.{arith}
use Rattle.nf_words.specs.Lists.{show_list}
use Rattle.nf_writer.proofs.Spelled.{known_at, show_known}
use Rattle.nf_writer.proofs.writing.put_show.Goals as goal

pub spelling-spelling-requires : goal.spelling-spelling-requires
spelling-spelling-requires c = (omega arith, known_at show_list _ _ _ c.show_words.ensures.list c.number.ensures (show_known c.args.item))
