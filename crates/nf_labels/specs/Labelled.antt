-- What `Labels` keeps in its fields, and the labels that a clause sees of them.
-- The contracts of the methods of `Labels` rest on it.
use Rattle.std.specs.Prelude.{◌≡◌, ◌≤◌, ◌-◌, ◌^◌, ℕ, List, [], ◌∷◌, length}
use Rattle.nf_labels.specs.Labels.{LabelList, NodeText}
use Rattle.nf_labels.specs.declared.labels.Labels.TheInside.{Inside}

-- The nodes by their names, and their supplies beside them.
abbrev pub nodes_of : List (List ℕ) → List (List ℕ) → List NodeText
nodes_of [] supdems = []
nodes_of (n ∷ names) [] = []
nodes_of (n ∷ names) (s ∷ supdems) = record { name = n; supdem = s } ∷ nodes_of names supdems

-- The labels in the fields.
abbrev pub labels_inside : Inside → LabelList
labels_inside l = record {
  nodes = nodes_of l.nodes l.supdems;
  columns = l.columns;
  own_arcs = l.own_arcs;
  constraints = l.constraints;
  id_headers = l.id_headers;
  ids = l.ids;
}

-- Nodes, columns, arcs and ID headers can be counted, and there is one supply for each node.
pub record AreFew (l : Inside) : Type 0 where
  pub one_each : length l.nodes ≡ length l.supdems
  pub nodes : length l.nodes ≤ 2 ^ 30
  pub columns : length l.columns ≤ 2 ^ 30
  pub arcs : l.own_arcs ≤ 2 ^ 30
  pub headers : length l.id_headers ≤ 2 ^ 29
