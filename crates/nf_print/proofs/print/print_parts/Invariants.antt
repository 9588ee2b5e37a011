use Rattle.std.proofs.Common.{◌≡◌, take}
use Rattle.nf_print.specs.Parts.{parts_text}
use Rattle.nf_print.proofs.print.print_parts.Given as goal

abbrev pub invariant-loop-part : goal.invariant-loop-part
invariant-loop-part l = l.text.items ≡ parts_text l.p l.labels l.state.standing l.arcs l.rows l.full (take l.part-index l.parts)
