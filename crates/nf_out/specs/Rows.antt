-- The columns of tables of nodes and constraints: which there are, their names, and their cells.
-- NODEOUT and DUALOUT are made of them, and so is what is printed of nodes and constraints.
use Rattle.std.specs.Prelude.{ℕ, suc, ◌-◌, Bool, true, false, List, [], ◌∷◌, ◌++◌, codes, decimal, get_or, nat_lt, if◌then◌else◌}
use Rattle.nf_num.specs.Rational.{ℚ}
use Rattle.nf_frac.specs.Texts.{frac_text}
use Rattle.nf_model.specs.Program.{LinearProgram, row, at}
use Rattle.nf_labels.specs.Labels.{LabelList, no_node}
use Rattle.nf_simplex.specs.Standing.{Standing}
use Rattle.nf_out.specs.declared.fields.RowField.{RowField}
use Rattle.nf_out.specs.declared.fields.RowField.TheVariants as field
use Rattle.nf_out.specs.Arcs.{under}
use Rattle.nf_out.specs.Words.{for_node, in_stage, kind_word, row_word}

-- The name of a column.
abbrev pub row_name : RowField → List ℕ
row_name field.Node = codes "_NODE_"
row_name field.Supply = codes "_SUPDEM_"
row_name field.Constraint = codes "_ROW_"
row_name field.Kind = codes "_TYPE_"
row_name field.Right = codes "_RHS_"
row_name field.Sum = codes "_VALUE_"
row_name field.Dual = codes "_DUAL_"
row_name field.Status = codes "_STATUS_"
row_name field.Number = codes "_NNUMB_"
row_name field.Predecessor = codes "_PRED_"
row_name field.Next = codes "_TRAV_"
row_name field.Size = codes "_SCESS_"
row_name field.Arc = codes "_ARCID_"

-- The place of each node in a spanning tree, by number: its predecessor, the next node in the preorder, the size of its
-- subtree, and the arc to its predecessor.
pub record TreeLists : Type 0 where
  pub predecessors : List ℕ
  pub next : List ℕ
  pub sizes : List ℕ
  pub arcs : List ℕ

-- The lists of no tree.
abbrev pub no_tree : TreeLists
no_tree = record { predecessors = []; next = []; sizes = []; arcs = [] }

-- Numbers by row of the stage: the sums of the rows over the given columns, and the printed duals.
pub record RowLists : Type 0 where
  pub sums : List ℚ
  pub duals : List ℚ

-- What a table shows of row i, from 0, of the problem.
abbrev pub row_cell : LinearProgram → LabelList → Standing → RowLists → TreeLists → RowField → ℕ → List ℕ
row_cell p l s n tree field.Node i = for_node p i (get_or l.nodes i no_node).name
row_cell p l s n tree field.Supply i = for_node p i (get_or l.nodes i no_node).supdem
row_cell p l s n tree field.Constraint i = if nat_lt i p.nodes then [] else get_or l.constraints (i - p.nodes) []
row_cell p l s n tree field.Kind i = kind_word (row p i).kind
row_cell p l s n tree field.Right i = frac_text (row p i).right
row_cell p l s n tree field.Sum i = in_stage p s i (frac_text (at n.sums i))
row_cell p l s n tree field.Dual i = in_stage p s i (frac_text (at n.duals i))
row_cell p l s n tree field.Status i = row_word p s i
row_cell p l s n tree field.Number i = for_node p i (decimal (suc i))
row_cell p l s n tree field.Predecessor i = for_node p i (decimal (get_or tree.predecessors i 0))
row_cell p l s n tree field.Next i = for_node p i (decimal (get_or tree.next i 0))
row_cell p l s n tree field.Size i = for_node p i (decimal (get_or tree.sizes i 0))
row_cell p l s n tree field.Arc i = for_node p i (decimal (get_or tree.arcs i 0))

-- ---- the columns of NODEOUT and DUALOUT
abbrev pub tree_fields : List RowField
tree_fields = field.Number ∷ field.Predecessor ∷ field.Next ∷ field.Size ∷ field.Arc ∷ []

-- The columns of NODEOUT under FUTURE1, and without.
abbrev pub node_fields : Bool → List RowField
node_fields future = field.Node ∷ field.Supply ∷ field.Dual ∷ under future tree_fields

-- The columns of DUALOUT under FUTURE2, and without.
abbrev pub dual_fields : Bool → List RowField
dual_fields future = field.Node ∷ field.Constraint ∷ field.Kind ∷ field.Right ∷ field.Sum ∷ field.Dual ∷ under future (field.Status ∷ tree_fields)
