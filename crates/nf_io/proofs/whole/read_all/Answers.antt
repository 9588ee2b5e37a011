use Rattle.std.proofs.Common.{◌+◌, ◌≤◌, ◌++◌, length, take, rules, length-append}
use Rattle.nf_io.proofs.KnownFacts.{consumes-more}
use Rattle.nf_io.proofs.whole.read_all.Goals as goal

pub returns-in_err-push-clause-no_memory : goal.returns-in_err-push-clause-no_memory
returns-in_err-push-clause-no_memory g c =
    let room : length c.loop-buf.text + c.in-Ok.count ≤ c.args.most + 1 = search rules in
    let piece = take c.in-Ok.count c.take.new.buf in
    let fits : length (c.loop-buf.text ++ piece) ≤ c.args.most + 1 = rw (length-append, ← c.in-Ok.ensures.bound.1) room in
    λ _. (c.loop-buf.text ++ piece, fits, consumes-more _ _ _ _ _ c.loop-buf.invariant.taken c.in-Ok.ensures.bytes.0)
