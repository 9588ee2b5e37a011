use Rattle.std.proofs.Common.{◌≡◌, ◌++◌, take}
use Rattle.std.specs.List.{flat_map}
use Rattle.nf_program.specs.Settings.{reset_setting}
use Rattle.nf_writer.specs.Canonical.{text_of, setting_pieces}
use Rattle.nf_writer.proofs.writing.put_resets.Given as goal

abbrev pub invariant-loop-option : goal.invariant-loop-option
invariant-loop-option l = l.out ≡ l.fn.out ++ text_of (flat_map (λ o. setting_pieces (reset_setting o)) (take l.option-index l.options))
