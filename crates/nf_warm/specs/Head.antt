-- Working definitions, on which the promise of `read_saved` does not rest: where a saved session stands, as the
-- definitions have it.
use Rattle.nf_basis.specs.Names.{stage_by}
use Rattle.nf_saved.specs.Rows as rows
use Rattle.nf_warm.specs.declared.head.Head.{Head}

-- The first rows of SESSIONDATA.
abbrev pub head_of : Head → rows.Head
head_of h = record { stage = stage_by h.two; counts = h.counts; cursor = h.cursor; last = h.last }
