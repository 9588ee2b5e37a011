use Rattle.std.proofs.Common.{◌≡◌, take}
use Rattle.std.specs.List.{flat_map}
use Rattle.nf_program.specs.Settings.{resets_in}
use Rattle.nf_program.proofs.settings.resets_of.Given as goal

abbrev pub invariant-loop-setting : goal.invariant-loop-setting
invariant-loop-setting l = l.list ≡ flat_map resets_in (take l.setting-index l.settings)
