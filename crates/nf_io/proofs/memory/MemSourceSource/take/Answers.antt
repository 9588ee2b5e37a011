use Rattle.std.proofs.lemmas.List.{length-drop, take_rest}
use Rattle.nf_io.proofs.KnownFacts.{gives-next}
use Rattle.nf_io.proofs.memory.MemSourceSource.take.Goals as goal

pub returns-clause-bytes : goal.returns-clause-bytes
returns-clause-bytes c = rw (← c.self.view_is) (gives-next c.self.inside.at c.min-count.result c.self.inside.bytes.items c.args.buf.now c.copy_from_slice.new.self
    (rw (c.deref.ensures.value, take_rest, length-drop) at c.min-count.ensures)
    (rw (c.deref.ensures.value, take_rest) at c.copy_from_slice.ensures.after))
