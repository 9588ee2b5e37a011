-- The run and the check of a sample, as commands that were done in memory.
use Rattle.std.proofs.Common.{ℕ, List, Option, codes}
use Rattle.nf_io.specs.Held.{Given, Held}
use Rattle.nf_top.specs.declared.status.Status.{Status}
use Rattle.nf_command.specs.declared.size.SampleSize.{SampleSize}
use Rattle.nf_call.specs.declared.trial.SampleTexts.{SampleTexts}
use Rattle.nf_call.specs.Lines.{check_text, run_text}
use Rattle.nf_call.specs.Sample.{ChecksSample, RunsSample}
use Rattle.nf_call.specs.Steps.{AreTexts, HoldsTexts, IsTrial}
use Rattle.nf_call.proofs.Held.{sample_held, texts_stay}

pub runs : (n : SampleSize) (t : SampleTexts) (held : Held) (ended : Status) (listed : List ℕ) (certificate : Option (List ℕ)) → AreTexts n t → HoldsTexts t held
    → IsTrial (codes "run") (run_text n) held ended listed certificate → RunsSample n ended listed certificate
runs n t held ended listed certificate texts holds h = record {
  call = h.call;
  held = held;
  after = h.after;
  holds = sample_held n t held texts holds;
  runs = h.in_memory;
  ends = h.ends;
  left = h.left;
  explained = λ e. h.explained e h.in_memory.words;
  proved = λ e. h.stored e h.in_memory.words;
}

pub checks : (n : SampleSize) (t : SampleTexts) (before held : Held) (certificate : List ℕ) (ended : Status) (listed : List ℕ) (left : Option (List ℕ)) → AreTexts n t → HoldsTexts t before → Given before held (codes "k") certificate
    → IsTrial (codes "check") (check_text n) held ended listed left → ChecksSample n certificate ended listed
checks n t before held certificate ended listed left texts holds given h = record {
  call = h.call;
  held = held;
  after = h.after;
  holds = sample_held n t held texts (texts_stay t before held certificate given holds);
  certificate_is = given (codes "k");
  checks = h.in_memory;
  ends = h.ends;
  proved = λ e. h.accepted e h.in_memory.words;
}
