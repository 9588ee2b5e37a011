use Rattle.std.proofs.Common.{refl}
use Rattle.nf_command.proofs.FourWords.{asks, four_plain, numbers_are_plain}
use Rattle.nf_command.proofs.words.size_read.Goals as goal

pub returns-then-has_form : goal.returns-then-has_form
returns-then-has_form c =
    let f = c.if-has_form.ensures.five refl in
    let k = c.requires.read f.0 f.1 f.2 f.3 f.4 (four_plain c.args.words.now f.0 f.1 f.2 f.3 c.requires.no_flag f.4) in
    let has = rw c.in-Some.is at k in
    asks c.size_in.result _ f.0 f.1 f.2 f.3 f.4 (c.size_in.ensures f.0 f.1 f.2 f.3 has)

pub returns-in-None : goal.returns-in-None
returns-in-None c = λ n x.
    let k = c.requires.read x.seed x.nodes x.arcs x.cons x.words_are (numbers_are_plain n x.seed x.nodes x.arcs x.cons x.numbers) in
    rw c.in-None.is at k
