-- The standing part of the language: which programs of the grammar a command accepts today. What a program names, and so
-- what is fetched, rests on it.
use Rattle.std.specs.Prelude.{◌≡◌, ◌==◌, ℕ, Bool, true, false, ◌||◌, not, List, Option, Some, None, is_some}
use Rattle.nf_program.specs.declared.program.Command.{Command}
use Rattle.nf_program.specs.declared.program.Command.TheVariants.{Run, Check, Again, Export}
use Rattle.nf_program.specs.declared.program.ProcOptions.{ProcOptions}
use Rattle.nf_program.specs.declared.program.Program.{Program}
use Rattle.nf_program.specs.declared.program.SessionOptions.{SessionOptions}
use Rattle.nf_run.specs.Stops.{are_standing}

-- The names of the data sets that a command fetches for a program. NODEDATA= and CONDATA= may be left out, and CERTDATA= is
-- of `check` only.
pub record SetNames : Type 0 where
  pub arcdata : List ℕ
  pub nodedata : Option (List ℕ)
  pub condata : Option (List ℕ)
  pub certdata : Option (List ℕ)

-- PROC asks for a greatest flow or a shortest path.
abbrev pub asks_path : ProcOptions → Bool
asks_path p = p.maxflow || p.shortpath

-- `check` accepts a program whose PROC names ARCDATA= and CERTDATA=, without MAXFLOW and SHORTPATH. WARM, CONIN=, DUALIN=,
-- SESSIONDATA=, output options and session options may stand there: they are not looked at. Of acts it has a QUIT or none,
-- by the grammar.
pub record StandsForCheck (p : Program) (n : SetNames) : Type 0 where
  pub arcdata : p.proc.arcdata ≡ Some n.arcdata
  pub nodedata : p.proc.nodedata ≡ n.nodedata
  pub condata : p.proc.condata ≡ n.condata
  pub certdata : p.proc.certdata ≡ n.certdata
  pub certified : is_some n.certdata ≡ true
  pub paths : asks_path p.proc ≡ false

-- PROC asks for saved tables, or for outputs other than CERTOUT=.
abbrev pub asks_tables : ProcOptions → Bool
asks_tables p =
    p.warm || is_some p.conin || is_some p.dualin || is_some p.sessiondata
    || is_some p.arcout || is_some p.nodeout || is_some p.conout || is_some p.dualout || is_some p.sessionout

-- A session option other than limits, rules and sizes of queues has not its default.
abbrev pub asks_more : SessionOptions → Bool
asks_more o =
    not (o.pause1 == 0) || not (o.pause2 == 0) || o.feasiblepause1 || o.feasiblepause2 || o.endpause1 || o.future1 || o.future2

-- `run` accepts a program whose PROC names ARCDATA=, has of outputs only CERTOUT= and of session options only MAXIT1=, MAXIT2=,
-- PRICETYPE1=, PRICETYPE2=, QUEUESIZE1= and QUEUESIZE2=, and which has of acts only RUN and QUIT. CERTDATA= may stand there: it
-- is neither fetched nor looked at.
pub record StandsForRun (p : Program) (n : SetNames) : Type 0 where
  pub arcdata : p.proc.arcdata ≡ Some n.arcdata
  pub nodedata : p.proc.nodedata ≡ n.nodedata
  pub condata : p.proc.condata ≡ n.condata
  pub certdata : n.certdata ≡ None
  pub paths : asks_path p.proc ≡ false
  pub tables : asks_tables p.proc ≡ false
  pub session : asks_more p.proc.session ≡ false
  pub acts : are_standing p.acts ≡ true

-- The command accepts the program, and fetches the data sets of these names.
abbrev pub StandsFor : Command → Program → SetNames → Type 0
StandsFor Check p n = StandsForCheck p n
StandsFor Run p n = StandsForRun p n
StandsFor Again p n = ⊥
StandsFor Export p n = ⊥

-- The command accepts the program.
abbrev pub IsStanding : Command → Program → Type 0
IsStanding c p = (n : SetNames) × StandsFor c p n

-- The most bytes of a program's text.
abbrev pub most_program : ℕ
most_program = 1048576
