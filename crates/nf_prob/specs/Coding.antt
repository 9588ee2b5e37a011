-- A code of linear programs, by which a proof tells two of them apart.
use Rattle.std.specs.Coded.{Coded, codes}
use Rattle.nf_num.proofs.Coding.{ℚ_code}
use Rattle.nf_model.specs.Program.{LinearProgram}

pub program_code : Coded LinearProgram
program_code = hlevel (codes, ℚ_code)
