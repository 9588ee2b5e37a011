-- The names of a problem's nodes, columns and constraints, and the ID columns of its arcs.
-- What the calls of `Labels` promise rests on it, and by them what is printed of a problem.
use Rattle.std.specs.Prelude.{◌≡◌, ◌≤◌, ◌<◌, ◌+◌, ◌-◌, ◌*◌, ℕ, false, List, [], length, get_or}
use Rattle.std.specs.List.{All}
use Rattle.std.specs.Str.{IsUtf8, str_eq_ignore_ascii_case}
use Rattle.nf_model.specs.Program.{LinearProgram}

-- A node has a name, and its supply as a text.
pub record NodeText : Type 0 where
  pub name : List ℕ
  pub supdem : List ℕ

abbrev pub no_node : NodeText
no_node = record { name = []; supdem = [] }

-- The labels: the first `own_arcs` columns are the arcs of ARCDATA, whose ID cells stand arc by arc.
pub record LabelList : Type 0 where
  pub nodes : List NodeText
  pub columns : List (List ℕ)
  pub own_arcs : ℕ
  pub constraints : List (List ℕ)
  pub id_headers : List (List ℕ)
  pub ids : List (List ℕ)

-- No labels.
abbrev pub no_labels : LabelList
no_labels = record { nodes = []; columns = []; own_arcs = 0; constraints = []; id_headers = []; ids = [] }

-- Where the cell of arc j in ID column c stands.
abbrev pub id_place : LabelList → ℕ → ℕ → ℕ
id_place l j c = (j - 1) * length l.id_headers + c

-- There is one name for each node, column and constraint of a problem, and the arcs of ARCDATA are among its arcs and have
-- one cell for each ID header.
pub record AreNumbered (l : LabelList) (p : LinearProgram) : Type 0 where
  pub nodes : length l.nodes ≡ p.nodes
  pub columns : length l.columns ≡ length p.columns
  pub constraints : p.nodes + length l.constraints ≡ length p.rows
  pub own_arcs : l.own_arcs ≤ p.arcs
  pub ids : length l.ids ≡ l.own_arcs * length l.id_headers

-- Labels are of a problem where they are so numbered, no two ID headers are the same, and all are text.
pub record AreLabelsOf (l : LabelList) (p : LinearProgram) : Type 0 where
  pub numbered : AreNumbered l p
  pub own_headers : (b c : ℕ) → b < c → c < length l.id_headers → str_eq_ignore_ascii_case (get_or l.id_headers b []) (get_or l.id_headers c []) ≡ false
  pub node_texts : All (λ n. IsUtf8 n.name × IsUtf8 n.supdem) l.nodes
  pub column_texts : All IsUtf8 l.columns
  pub constraint_texts : All IsUtf8 l.constraints
  pub header_texts : All IsUtf8 l.id_headers
  pub id_texts : All IsUtf8 l.ids
