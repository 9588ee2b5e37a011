use Rattle.std.proofs.Common.{arith}
use Rattle.nf_words.specs.Lists.{price_list}
use Rattle.nf_writer.proofs.Spelled.{known_at, price_type_known}
use Rattle.nf_writer.proofs.writing.put_price_type.Goals as goal

pub spelling-spelling-requires : goal.spelling-spelling-requires
spelling-spelling-requires c = (omega arith, known_at price_list _ _ _ c.price_words.ensures.list c.price_type_number.ensures (price_type_known c.args.rule))
