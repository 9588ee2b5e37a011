-- The command line as `clap` knows it: five subcommands, and four words after `sample`.
-- That `clap` takes the words of each command rests on it.
use Rattle.std.specs.Prelude.{◌≡◌, ◌==◌, ℕ, Bool, true, false, List, [], ◌∷◌, Some, codes}
use Rattle.clap.specs.Simple.{App, new_app, new_rule, subcommand_rows_of, with_rule, with_subcommand}
use Rattle.clap.specs.Walk.{Row, first_of}
use Rattle.clap.specs.declared.parser.matches.ArgMatches.{ArgMatches}

-- A word that begins with `-`. No command has such a word.
abbrev pub is_flag : List ℕ → Bool
is_flag [] = false
is_flag (b ∷ bs) = b == 45

-- A word after `sample`.
abbrev pub with_word : App → List ℕ → App
with_word a name = with_rule a (new_rule name)

-- `sample` and its four words.
abbrev pub sample_line : App
sample_line = with_word (with_word (with_word (with_word (new_app (codes "sample")) (codes "SEED")) (codes "NODES")) (codes "ARCS")) (codes "CONS")

-- The line without subcommands: no name of a program stands before the words, and `help` is no command.
abbrev pub bare_line : App
bare_line = record (new_app (codes "netflow")) { top = record (new_app (codes "netflow")).top { no_binary_name = true; disable_help_subcommand = true; subcommand_required = true } }

-- `run` and `check`.
abbrev pub solving_line : App
solving_line = with_subcommand (with_subcommand bare_line (new_app (codes "run")).top) (new_app (codes "check")).top

abbrev pub command_line : App
command_line = with_subcommand (with_subcommand (with_subcommand solving_line sample_line.top) (new_app (codes "import")).top) (new_app (codes "export")).top

-- The parse came to `sample` with these four words.
pub record HasWords (m : ArgMatches) (seed nodes arcs cons : List ℕ) : Type 0 where
  pub rows : List Row
  pub sample : subcommand_rows_of m ≡ Some (codes "sample", rows)
  pub seed_is : first_of (codes "SEED") rows ≡ Some seed
  pub nodes_are : first_of (codes "NODES") rows ≡ Some nodes
  pub arcs_are : first_of (codes "ARCS") rows ≡ Some arcs
  pub cons_are : first_of (codes "CONS") rows ≡ Some cons
