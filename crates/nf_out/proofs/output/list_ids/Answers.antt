use Rattle.std.proofs.Common.{◌≡◌, ◌∙◌, ◌++◌, ◌+◌, suc, sym, ap, length, arith}
use Rattle.nf_out.specs.Arcs.{id_fields}
use Rattle.nf_out.proofs.NameFacts.{ids-begun, ids-grown}
use Rattle.nf_out.proofs.output.list_ids.Goals as goal

pub loop-c-init : goal.loop-c-init
loop-c-init c = ids-begun c.args.labels.now c.args.fields.now.items

pub loop-c-preserved : goal.loop-c-preserved
loop-c-preserved c = ids-grown c.args.labels.now c.args.fields.now.items c.loop-c.fields.items c.list_id.new.fields.items c.loop-c.c c.loop-c.invariant c.in_ok-list_id.ensures
