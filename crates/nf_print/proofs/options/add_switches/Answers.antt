use Rattle.nf_print.specs.Options.{switch_lines}
use Rattle.nf_print.proofs.PartFacts.{five-added, on-carried}
use Rattle.nf_print.proofs.options.add_switches.Goals as goal

pub returns : goal.returns
unfolding switch_lines
returns c = on-carried c.add_switch-5.result (five-added c.args.text.now.items _ _ _ _ _ _ _ _ _ _ c.in_ok-add_switch.ensures c.in_ok-add_switch-2.ensures c.in_ok-add_switch-3.ensures c.in_ok-add_switch-4.ensures) c.add_switch-5.ensures
