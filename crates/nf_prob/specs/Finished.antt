-- The program that a finished problem stands for, and what its lists keep.
use Rattle.std.specs.Prelude.{◌≡◌, length, map}
use Rattle.nf_model.specs.Program.{LinearProgram}
use Rattle.nf_prob.specs.declared.problem.Problem.TheInside.{Inside}
use Rattle.nf_prob.specs.Lists.{AreGathered}
use Rattle.nf_prob.specs.Stored.{column_of, program_from, IsStored}

-- The program of a problem's lists.
abbrev pub program_of : Inside → LinearProgram
program_of s = program_from s.columns.items s.rows.items s.nodes s.arcs s.maximize

-- The lists are those of a network with side rows, and the lists by row have the entries of the columns.
pub record IsFinished (s : Inside) : Type 0 where
  pub stored : IsStored s.columns.items s.rows.items s.nodes s.arcs s.maximize
  pub len : length s.by_row.items ≡ length s.rows.items
  pub gathered : AreGathered (length s.rows.items) (map column_of s.columns.items) s.by_row.items
