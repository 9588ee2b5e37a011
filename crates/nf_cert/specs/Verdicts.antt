-- The words of the verdicts.
-- What `read_cert` takes for a verdict rests on them, and what `cert_table` writes.
use Rattle.std.specs.Prelude.{ℕ, List, Option, Some, None, if◌then◌else◌, codes}
use Rattle.std.specs.Str.{bytes_eq}
use Rattle.nf_cert.specs.declared.verdict.Verdict.{Verdict}
use Rattle.nf_cert.specs.declared.verdict.Verdict.TheVariants as verdict

-- The word of a verdict.
abbrev pub verdict_word : Verdict → List ℕ
verdict_word verdict.Optimal = codes "OPTIMAL"
verdict_word verdict.Infeasible = codes "INFEASIBLE"
verdict_word verdict.Unbounded = codes "UNBOUNDED"

-- The verdict of a word.
abbrev pub verdict_read : List ℕ → Option Verdict
verdict_read word =
    if bytes_eq word (codes "OPTIMAL") then Some verdict.Optimal
    else if bytes_eq word (codes "INFEASIBLE") then Some verdict.Infeasible
    else if bytes_eq word (codes "UNBOUNDED") then Some verdict.Unbounded
    else None
