use Rattle.std.proofs.Common.{◌∙◌, inl, inr, refl, subst, sym}
use Rattle.nf_run.specs.Setting.{IsPlain}
use Rattle.nf_top.proofs.PlainFacts.{network_plain}
use Rattle.nf_program.specs.declared.program.Command.TheVariants.{Run}
use Rattle.nf_writer.proofs.Written.{names_are_text}
use Rattle.nf_top.proofs.StopFacts.{appends_nothing, refused-comes, runs-later, some-holds}
use Rattle.nf_top.proofs.top.run_words.Goals as goal

pub run-requires-clause-plain : goal.run-requires-clause-plain
run-requires-clause-plain g c =
    let posed = c.in-Ok.ensures.input.posed in
    subst IsPlain (sym posed.is) (network_plain _ _ posed.network posed.posed)

pub returns-in-Err-Refused-clause-comes : goal.returns-in-Err-Refused-clause-comes
returns-in-Err-Refused-clause-comes g c =
    let refused = rw c.in-Err-Refused.field-0-is at c.in-Err-Refused.ensures.input in
    c.conclude.ensures.comes _ _ _ _ _ c.line.ensures (inr (inl (c.in-Err-Refused.refusal, refused, refl))) c.run_input.ensures.held
    (λ l. rw c.status.ensures (refused-comes _ c.in-Err-Refused.refusal refused l c.run_input.ensures.held))

pub run-requires-clause-certout : goal.run-requires-clause-certout
run-requires-clause-certout g c =
    let reads = c.in-Ok.ensures.input.reads in
    some-holds c.in-Ok.loaded.program.proc.certout ((names_are_text Run reads.text c.in-Ok.loaded.program reads.spelled).certout)

pub returns-in-Ok-clause-comes : goal.returns-in-Ok-clause-comes
returns-in-Ok-clause-comes g c =
    let all = c.in-Ok.ensures.input.fetched in
    c.run.ensures.comes _ _
    (runs-later _ _ c.in-Ok.loaded.program c.in-Ok.loaded.problem refl refl refl refl (record { sound = c.run.ensures.fetches ∙ all.sound; there = λ q. c.run.ensures.misses q ∙ all.there q }) c.in-Ok.ensures.input)
    c.run_input.ensures.held c.run_input.ensures.stores

pub returns-in-Err-NoMemory-clause-comes : goal.returns-in-Err-NoMemory-clause-comes
returns-in-Err-NoMemory-clause-comes g c = inl (appends_nothing _, c.run_input.ensures.held)
