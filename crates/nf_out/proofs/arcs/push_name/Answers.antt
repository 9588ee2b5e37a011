use Rattle.std.proofs.Common.{◌<◌, [], length, sym, subst}
use Rattle.std.specs.Str.{IsUtf8}
use Rattle.nf_out.specs.Arcs.{IsFieldOf}
use Rattle.nf_out.proofs.arcs.push_name.Goals as goal

pub push_cell-requires-clause-text : goal.push_cell-requires-clause-text
push_cell-requires-clause-text c =
    let within : c.in-Id.c < length c.args.labels.now.id_headers = subst (IsFieldOf c.args.labels.now) c.in-Id.is c.requires.field in
    subst IsUtf8 (sym c.id_header.ensures.name) (c.requires.labels.header_texts c.in-Id.c [] within)
