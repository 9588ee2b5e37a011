-- A text that no program has which the command takes is refused if nothing fails.
use Rattle.std.proofs.Common.{◌≡◌, ℕ, List, Some, inl, inr, refl, subst}
use Rattle.nf_program.specs.declared.program.Command.{Command}
use Rattle.nf_program.specs.declared.program.Command.TheVariants.{Run, Check}
use Rattle.nf_program.specs.declared.program.Program.{Program}
use Rattle.nf_program.specs.Grammar.{HasProgram}
use Rattle.nf_reader.proofs.Answered.{one_program, never_both}
use Rattle.nf_model.specs.Program.{LinearProgram}
use Rattle.nf_top.specs.declared.status.Status.{Status}
use Rattle.nf_top.specs.declared.status.Status.TheVariants as status
use Rattle.nf_top.specs.Headline.{IsNotTaken, RefusesNoProgram}
use Rattle.nf_top.specs.Outcome.{Call, Comes, Input, NamesSets, RunsOn}
use Rattle.nf_top.specs.Standing.{IsStanding, SetNames, StandsFor}
use Rattle.nf_top.specs.Words.{IsCommand}
use Rattle.nf_top.proofs.CompleteFacts.{all-consumed}
use Rattle.nf_top.proofs.WordFacts.{one-command}

stands-here : (c : Command) (p q : Program) → p ≡ q → (n : SetNames) → StandsFor c q n → IsStanding c p
stands-here c p q e n h = rw e (n, h)

not-taken : (c : Command) (text : List ℕ) (p : Program) (n : SetNames) → HasProgram c text p → StandsFor c p n → IsNotTaken c text → ⊥
not-taken c text p n has stands (inl (f, fault)) = never_both c text p f has fault
not-taken c text p n has stands (inr (q, other, none)) = none (stands-here c q p (one_program c text q p other has) n stands)

no-names : (i : Input) (e : Command) (text : List ℕ) → IsCommand e i.words → i.left ≡ Some text → IsNotTaken e text → (d : Command) (n : SetNames) → NamesSets i d n → ⊥
no-names i e text words told none d n h =
    let same : text ≡ h.reads.text = all-consumed i.rest text h.reads.text (rw told at h.reads.taken) h.reads.ended in
    let here : IsNotTaken d text = subst (λ x. IsNotTaken x text) (one-command i.words e d words h.reads.words) none in
    not-taken d text h.program n (rw same h.reads.spelled) h.stands here

no-run : (i : Input) (e : Command) (text : List ℕ) → IsCommand e i.words → i.left ≡ Some text → IsNotTaken e text → (p : Program) (problem : LinearProgram) → RunsOn i p problem → ⊥
no-run i e text words told none p problem h = no-names i e text words told none Run h.names (record { program = p; reads = h.reads; stands = h.stands })

pub refuses-none : (c : Call) (s : Status) → Comes c s → RefusesNoProgram c s
refuses-none c status.Finished (inl (line, a, l, kept)) = λ e text n words told none. absurd (no-names c.input e text words told none Check a.reads.poses.fetches.names a.reads.poses.fetches.named)
refuses-none c status.Finished (inr (program, problem, runs, ends)) = λ e text n words told none. absurd (no-run c.input e text words told none program problem runs)
refuses-none c status.Usage ((other, all), l, kept) = λ e text n words told none. absurd (other e words)
refuses-none c status.ProgramRefused h = λ e text n words told none. inl refl
refuses-none c status.DataRefused (inl (set, ((d, m, name, named, before, is, many, all), l, kept))) = λ e text n words told none. absurd (no-names c.input e text words told none d m named)
refuses-none c status.DataRefused (inr (inl (set, fault, ((d, sets, bytes, fetches, before, is, e), l, kept)))) = λ w text n words told none. absurd (no-names c.input w text words told none d fetches.names fetches.named)
refuses-none c status.DataRefused (inr (inr (inl (set, fault, ((d, sets, fetches, t, tables, e), l, kept))))) = λ w text n words told none. absurd (no-names c.input w text words told none d fetches.names fetches.named)
refuses-none c status.DataRefused (inr (inr (inr (fault, ((d, sets, fetches, t, tables, e), l, kept))))) = λ w text n words told none. absurd (no-names c.input w text words told none d fetches.names fetches.named)
refuses-none c status.ReadFault ((d, w, there, inl (rose, sound)), l, kept) = λ e text n words told none. absurd (n.source rose)
refuses-none c status.ReadFault ((d, w, there, inr (m, set, name, named, before, is, rose)), l, kept) = λ e text n words told none. absurd (n.library rose)
refuses-none c status.WriteFault (inl h) = λ e text n words told none. absurd (n.listing h.0)
refuses-none c status.WriteFault (inr (rose, (program, problem, runs, stops))) = λ e text n words told none. absurd (no-run c.input e text words told none program problem runs)
refuses-none c status.Absent (name, ((d, m, s, named, before, is, lacks, rose, sound), l, kept)) = λ e text n words told none. absurd (no-names c.input e text words told none d m named)
refuses-none c status.RangePassed (inl (passed, ((p, x, reads, passes), l, kept))) = λ e text n words told none. absurd (no-names c.input e text words told none Check reads.poses.fetches.names reads.poses.fetches.named)
refuses-none c status.RangePassed (inr (program, problem, runs, front, stage, pivots, passed, cut, of_two, listed, kept)) = λ e text n words told none. absurd (no-run c.input e text words told none program problem runs)
refuses-none c status.CheckRefused (inl (fault, ((sets, p, poses, table, is, e), l, kept))) = λ w text n words told none. absurd (no-names c.input w text words told none Check poses.fetches.names poses.fetches.named)
refuses-none c status.CheckRefused (inr (told_why, ((p, x, why, reads, answered, is), l, kept))) = λ e text n words told none. absurd (no-names c.input e text words told none Check reads.poses.fetches.names reads.poses.fetches.named)
refuses-none c status.NoMemory h = λ e text n words told none. inr refl
refuses-none c status.WarmRefused h = absurd h
