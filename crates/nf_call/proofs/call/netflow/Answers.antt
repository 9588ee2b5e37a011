use Rattle.std.proofs.Common.{inl, inr}
use Rattle.nf_command.specs.declared.plain.PlainCommand.TheVariants as plain
use Rattle.nf_program.specs.declared.program.Command.TheVariants as command
use Rattle.nf_call.proofs.Ends.{no_usage, plain_of}
use Rattle.nf_call.proofs.call.netflow.Goals as goal

pub returns-in-Ok-Some-clause-usage : goal.returns-in-Ok-Some-clause-usage
returns-in-Ok-Some-clause-usage g c = λ e. absurd (no_usage c.in-Ok-Some.size _ _ _ _ (rw e at c.sample.ensures.ends))

-- import
pub returns-in-Some-Import-clause-comes : goal.returns-in-Some-Import-clause-comes
returns-in-Some-Import-clause-comes g c = inr (inl (rw c.in-Some-Import.field-0-is at c.in-Some-Import.ensures, c.import.ensures.ends _))

pub returns-in-Some-Import-clause-usage : goal.returns-in-Some-Import-clause-usage
returns-in-Some-Import-clause-usage g c = λ e. absurd (rw e at c.import.ensures.status)

-- export
pub returns-in-Some-Export-clause-comes : goal.returns-in-Some-Export-clause-comes
returns-in-Some-Export-clause-comes g c = inr (inr (inl (rw c.in-Some-Export.field-0-is at c.in-Some-Export.ensures, c.export.ensures.ends _)))

pub returns-in-Some-Export-clause-usage : goal.returns-in-Some-Export-clause-usage
returns-in-Some-Export-clause-usage g c = λ e. absurd (rw e at c.export.ensures.status)

pub returns-in-Some-Export-clause-exports : goal.returns-in-Some-Export-clause-exports
returns-in-Some-Export-clause-exports g c = λ asked. c.export.ensures.complete _

-- run and check
pub returns-in-Some-Run-clause-comes : goal.returns-in-Some-Run-clause-comes
returns-in-Some-Run-clause-comes g c =
    inr (inr (inr (inl (command.Run, rw c.in-Some-Run.field-0-is at c.in-Some-Run.ensures, c.netflow.ensures.comes))))

pub returns-in-Some-Run-clause-usage : goal.returns-in-Some-Run-clause-usage
returns-in-Some-Run-clause-usage g c = λ e.
    let comes = rw e at c.netflow.ensures.comes in
    absurd (comes.0.0 command.Run (rw c.in-Some-Run.field-0-is at c.in-Some-Run.ensures))

pub returns-in-Some-Check-clause-comes : goal.returns-in-Some-Check-clause-comes
returns-in-Some-Check-clause-comes g c =
    inr (inr (inr (inl (command.Check, rw c.in-Some-Check.field-0-is at c.in-Some-Check.ensures, c.netflow-in-Some-Check.ensures.comes))))

pub returns-in-Some-Check-clause-usage : goal.returns-in-Some-Check-clause-usage
returns-in-Some-Check-clause-usage g c = λ e.
    let comes = rw e at c.netflow-in-Some-Check.ensures.comes in
    absurd (comes.0.0 command.Check (rw c.in-Some-Check.field-0-is at c.in-Some-Check.ensures))

-- no command
pub returns-in-None-clause-complete : goal.returns-in-None-clause-complete
returns-in-None-clause-complete g c = λ p x n k v. absurd (c.in-None.ensures plain.Check k.words)

pub returns-in-None-clause-ran : goal.returns-in-None-clause-ran
returns-in-None-clause-ran g c = λ p n w k. absurd (c.in-None.ensures plain.Run k.words)

pub returns-in-None-clause-refused : goal.returns-in-None-clause-refused
returns-in-None-clause-refused g c = λ d text n words told none. let asked = plain_of d _ words in absurd (c.in-None.ensures asked.0 asked.1)

pub returns-in-None-clause-imports : goal.returns-in-None-clause-imports
returns-in-None-clause-imports g c = λ asked. absurd (c.in-None.ensures plain.Import asked)

pub returns-in-None-clause-exports : goal.returns-in-None-clause-exports
returns-in-None-clause-exports g c = λ asked. absurd (c.in-None.ensures plain.Export asked)
