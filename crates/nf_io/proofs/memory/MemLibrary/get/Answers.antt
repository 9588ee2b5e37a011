use Rattle.std.proofs.Common.{refl}
use Rattle.nf_io.proofs.HeldFacts.{found-held}
use Rattle.nf_io.proofs.memory.MemLibrary.get.Goals as goal

pub returns-in-Some : goal.returns-in-Some
returns-in-Some c = rw (← c.self.view_is, found-held, ← c.get.ensures.value, c.in-Some.is, c.as_slice.ensures.value) refl

pub returns-in-None : goal.returns-in-None
returns-in-None c = rw (← c.self.view_is, found-held, ← c.get.ensures.value, c.in-None.is) refl
