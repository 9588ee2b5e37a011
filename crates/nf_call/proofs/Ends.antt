-- How a sample ends, and which words it has.
use Rattle.std.proofs.Common.{◌≡◌, ◌∙◌, ◌∷◌, ℕ, List, [], Option, codes, arith, inl, inr, refl, sym}
use Rattle.nf_io.specs.Causes.{Rose}
use Rattle.nf_program.specs.declared.program.Command.{Command}
use Rattle.nf_program.specs.declared.program.Command.TheVariants.{Run, Check, Again, Export}
use Rattle.nf_top.specs.declared.status.Status.{Status}
use Rattle.nf_top.specs.declared.status.Status.TheVariants as status
use Rattle.nf_top.specs.Words.{IsCommand}
use Rattle.nf_command.specs.Words.{AsksPlain, AsksSample}
use Rattle.nf_command.specs.declared.plain.PlainCommand.{PlainCommand}
use Rattle.nf_command.specs.declared.plain.PlainCommand.TheVariants as plain
use Rattle.nf_command.specs.declared.size.SampleSize.{SampleSize}
use Rattle.nf_call.specs.Lines.{run_lines}
use Rattle.nf_call.specs.Sample.{SampleEnds}

-- a status that is not Finished has all lines
pub all_lines : (s : Status) (listed : List ℕ) → (s ≡ status.Finished → ⊥) → run_lines s listed ≡ listed
all_lines status.Finished listed h = absurd (h refl)
all_lines status.Usage listed h = refl
all_lines status.ProgramRefused listed h = refl
all_lines status.DataRefused listed h = refl
all_lines status.ReadFault listed h = refl
all_lines status.WriteFault listed h = refl
all_lines status.Absent listed h = refl
all_lines status.RangePassed listed h = refl
all_lines status.CheckRefused listed h = refl
all_lines status.NoMemory listed h = refl
all_lines status.WarmRefused listed h = refl

-- words that ask for a sample are no command
pub no_command : (c : Command) (n : SampleSize) (words : List (List ℕ)) → AsksSample n words → IsCommand c words → ⊥
no_command Check n words asks h = let e : codes "check" ∷ [] ≡ codes "sample" ∷ asks.seed ∷ asks.nodes ∷ asks.arcs ∷ asks.cons ∷ [] = sym h ∙ asks.words_are in cc
no_command Run n words asks h = let e : codes "run" ∷ [] ≡ codes "sample" ∷ asks.seed ∷ asks.nodes ∷ asks.arcs ∷ asks.cons ∷ [] = sym h ∙ asks.words_are in cc
no_command Again n words asks h = h
no_command Export n words asks h = h

-- the words of `run` and `check` are the one word of a command
pub plain_of : (d : Command) (words : List (List ℕ)) → IsCommand d words → (c : PlainCommand) × AsksPlain c words
plain_of Run words h = (plain.Run, h)
plain_of Check words h = (plain.Check, h)
plain_of Again words h = absurd h
plain_of Export words h = absurd h

-- a sample does not end with the usage line
pub no_usage : (n : SampleSize) (old new : Option (List ℕ)) (before after : ℕ) → SampleEnds n old new before after status.Usage → ⊥
no_usage n old new before after (inl (text, (rest, inl (listed, certificate, runs, k, e), w), put)) = runs.ends.0.0 Run runs.runs.words
no_usage n old new before after (inl (text, (rest, inr (listed, certificate, checked, runs, checks, e), w), put)) = checks.ends.0.0 Check checks.checks.words
no_usage n old new before after (inr (inl (e, x, y))) = cc e
no_usage n old new before after (inr (inr (e, x))) = cc e

-- a count that stays at 0 has not risen
pub calm_none : (before after : ℕ) → before ≡ 0 → after ≡ before → Rose before after → ⊥
calm_none before after e f h = omega (arith, e, f, h)
