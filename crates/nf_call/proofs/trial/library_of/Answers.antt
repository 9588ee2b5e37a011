use Rattle.std.proofs.Common.{ap}
use Rattle.nf_io.specs.Memory.{LibraryState}
use Rattle.nf_call.proofs.Held.{texts_held}
use Rattle.nf_call.proofs.trial.library_of.Goals as goal

pub returns-clause-holds : goal.returns-clause-holds
returns-clause-holds c =
    texts_held c.args.texts.now c.in_ok-library.library.held c.give.new.self.held c.give-2.new.self.held c.give_if_any.new.library.held (ap (λ (l : LibraryState). l.held) c.in_ok-library.ensures)
    (rw c.bytes.ensures at c.in_ok-give.ensures.ok) (rw c.bytes-2.ensures at c.in_ok-give-2.ensures.ok) c.in_ok-give_if_any.ensures.given
