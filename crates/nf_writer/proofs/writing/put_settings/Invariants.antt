use Rattle.std.proofs.Common.{◌≡◌, ◌++◌, take}
use Rattle.std.specs.List.{flat_map}
use Rattle.nf_writer.specs.Canonical.{text_of, setting_pieces}
use Rattle.nf_writer.proofs.writing.put_settings.Given as goal

abbrev pub invariant-loop-setting : goal.invariant-loop-setting
invariant-loop-setting l = l.out ≡ l.fn.out ++ text_of (flat_map setting_pieces (take l.setting-index l.settings))
