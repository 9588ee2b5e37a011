-- A summary by its parts.
use Rattle.std.proofs.Common.{◌≡◌, ◌≢◌, ◌∙◌, ◌⊎◌, ◌++◌, ℕ, List, Option, Some, None, ap, append_assoc, inl, inr, refl}
use Rattle.nf_top.specs.declared.status.Status.{Status}
use Rattle.nf_top.specs.declared.status.Status.TheVariants as status
use Rattle.nf_command.specs.declared.size.SampleSize.{SampleSize}
use Rattle.nf_call.specs.Lines.{but_last_line, check_lines, run_lines, sample_line}
use Rattle.nf_call.specs.Sample.{ChecksSample, IsSummary, RunsSample}

-- a run that did not finish, or stored no certificate
pub plain_summary : (n : SampleSize) (listed : List ℕ) (certificate : Option (List ℕ)) (text : List ℕ) (ended : Status) → RunsSample n ended listed certificate
    → ((certificate ≡ None) ⊎ (ended ≢ status.Finished)) → text ≡ sample_line n ++ run_lines ended listed → IsSummary n text ended
plain_summary n listed certificate text ended runs why is = (run_lines ended listed, inl (listed, certificate, runs, why, refl), is)

-- a run whose certificate was checked
pub checked_summary : (n : SampleSize) (listed certificate checked lines text : List ℕ) (ended : Status) → RunsSample n status.Finished listed (Some certificate) → ChecksSample n certificate ended checked
    → lines ≡ sample_line n ++ but_last_line listed → text ≡ lines ++ check_lines ended checked → IsSummary n text ended
checked_summary n listed certificate checked lines text ended runs checks front is = (
  but_last_line listed ++ check_lines ended checked,
  inr (listed, certificate, checked, runs, checks, refl),
  is ∙ ap (λ l. l ++ check_lines ended checked) front ∙ append_assoc (sample_line n) (but_last_line listed) (check_lines ended checked),
)
