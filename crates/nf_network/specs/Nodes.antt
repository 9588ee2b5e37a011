-- For a proof alone: the nodes so far, each with what it was given.
-- The contracts of `Nodes` rest on it.
use Rattle.std.specs.Prelude.{◌++◌, List, [], ◌∷◌, Option, None, if◌then◌else◌, get_or}
use Rattle.nf_cells.specs.Names.{Name, has_name, place_of}
use Rattle.nf_cells.specs.declared.values.Supply.{Supply}

-- Names in order, and as many values.
pub record NodeList : Type 0 where
  pub names : List Name
  pub given : List (Option Supply)

-- The nodes with one more, at the end if it is new.
abbrev pub with_node : NodeList → Name → NodeList
with_node ns n = if has_name n ns.names then ns else record { names = ns.names ++ n ∷ []; given = ns.given ++ None ∷ [] }

-- What a node was given.
abbrev pub given_at : NodeList → Name → Option Supply
given_at ns n = get_or ns.given (place_of n ns.names) None
