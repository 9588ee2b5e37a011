use Rattle.std.proofs.Common.{arith}
use Rattle.nf_words.specs.Lists.{option_list}
use Rattle.nf_writer.proofs.Spelled.{known_at, option_known}
use Rattle.nf_writer.proofs.writing.put_option.Goals as goal

pub spelling-spelling-requires : goal.spelling-spelling-requires
spelling-spelling-requires c = (omega arith, known_at option_list _ _ _ c.option_words.ensures.list c.option_number.ensures (option_known c.args.option))
