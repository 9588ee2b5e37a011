use Rattle.std.proofs.Common.{arith}
use Rattle.nf_words.specs.Lists.{type_list}
use Rattle.nf_writer.proofs.Spelled.{known_at, con_type_known}
use Rattle.nf_writer.proofs.writing.put_con_type.Goals as goal

pub spelling-spelling-requires : goal.spelling-spelling-requires
spelling-spelling-requires c = (omega arith, known_at type_list _ _ _ c.type_words.ensures.list c.con_type_number.ensures (con_type_known c.args.kind))
