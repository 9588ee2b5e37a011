use Rattle.std.proofs.Common.{◌≡◌, drop}
use Rattle.std.specs.List.{fold}
use Rattle.nf_program.specs.Settings.{with_setting, no_options}
use Rattle.nf_program.proofs.settings.options_of.Given as goal

abbrev pub invariant-loop-setting : goal.invariant-loop-setting
invariant-loop-setting l = fold with_setting l.p (drop l.setting-index l.settings) ≡ fold with_setting no_options l.settings
