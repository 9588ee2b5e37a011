-- The program that a builder stands for, and what its lists keep.
use Rattle.nf_model.specs.Program.{LinearProgram}
use Rattle.nf_prob.specs.declared.builder.ProblemBuilder.TheInside.{Inside}
use Rattle.nf_prob.specs.Stored.{program_from, IsStored}

-- The program of a builder's lists.
abbrev pub program_of : Inside → LinearProgram
program_of s = program_from s.columns.items s.rows.items s.nodes s.arcs s.maximize

-- The lists are those of a network with side rows.
abbrev pub IsUnfinished : Inside → Type 0
IsUnfinished s = IsStored s.columns.items s.rows.items s.nodes s.arcs s.maximize
