-- The tables that PRINT prints, each below its word.
-- What a session prints of its problem and of its state rests on it.
use Rattle.std.specs.Prelude.{◌≡◌, ◌-◌, ℕ, Bool, true, false, List, [], ◌∷◌, ◌++◌, codes, flat_map, length}
use Rattle.nf_model.specs.Program.{LinearProgram}
use Rattle.nf_labels.specs.Labels.{LabelList}
use Rattle.nf_table.specs.Grid.{Grid}
use Rattle.nf_table.specs.Writing.{table_text}
use Rattle.nf_simplex.specs.Standing.{Standing}
use Rattle.nf_out.specs.declared.fields.ArcField.{ArcField}
use Rattle.nf_out.specs.declared.fields.ArcField.TheVariants as arc
use Rattle.nf_out.specs.declared.fields.RowField.{RowField}
use Rattle.nf_out.specs.declared.fields.RowField.TheVariants as row
use Rattle.nf_out.specs.Arcs.{ArcLists, arc_cell, arc_name, first_fields, flow_fields, under}
use Rattle.nf_out.specs.Rows.{RowLists, no_tree, row_cell, row_name}
use Rattle.nf_out.specs.Tables.{grid_of}
use Rattle.nf_results.specs.Results.{arc_lists, row_lists}
use Rattle.nf_results.specs.Tables.{Shown}
use Rattle.nf_print.specs.declared.parts.Part.{Part}
use Rattle.nf_print.specs.declared.parts.Part.TheVariants as part

-- ---- the columns: those of the problem, and after them, if `full` says so, those of a state
abbrev pub arc_columns : Bool → List ArcField
arc_columns full = first_fields ++ under full flow_fields

abbrev pub nonarc_columns : Bool → List ArcField
nonarc_columns full = arc.Name ∷ arc.Cost ∷ arc.Capacity ∷ arc.Lower ∷ under full flow_fields

abbrev pub node_columns : Bool → List RowField
node_columns full = row.Node ∷ row.Supply ∷ under full (row.Dual ∷ [])

abbrev pub constraint_columns : Bool → List RowField
constraint_columns full = row.Constraint ∷ row.Kind ∷ row.Right ∷ under full (row.Sum ∷ row.Dual ∷ [])

-- ---- the tables
-- The four tables in the order in which PRINT SOLUTION and PRINT PROBLEM print them.
abbrev pub all_parts : List Part
all_parts = part.Arcs ∷ part.Nonarcs ∷ part.Nodes ∷ part.Constraints ∷ []

-- The line over a table.
abbrev pub part_word : Part → List ℕ
part_word part.Arcs = codes "ARCS\n"
part_word part.Nonarcs = codes "NONARCS\n"
part_word part.Nodes = codes "NODES\n"
part_word part.Constraints = codes "CONSTRAINTS\n"

-- The table of a part, with these numbers by column and by row.
abbrev pub part_grid : LinearProgram → LabelList → Standing → ArcLists → RowLists → Bool → Part → Grid
part_grid p l s a r full part.Arcs = grid_of (arc_name l) (arc_cell p l s a) (arc_columns full) 0 p.arcs
part_grid p l s a r full part.Nonarcs = grid_of (arc_name l) (arc_cell p l s a) (nonarc_columns full) p.arcs (length p.columns - p.arcs)
part_grid p l s a r full part.Nodes = grid_of row_name (row_cell p l s r no_tree) (node_columns full) 0 p.nodes
part_grid p l s a r full part.Constraints = grid_of row_name (row_cell p l s r no_tree) (constraint_columns full) p.nodes (length p.rows - p.nodes)

-- Its text below its word.
abbrev pub part_text : LinearProgram → LabelList → Standing → ArcLists → RowLists → Bool → Part → List ℕ
part_text p l s a r full q = part_word q ++ table_text (part_grid p l s a r full q)

-- The texts of some parts, one after another.
abbrev pub parts_text : LinearProgram → LabelList → Standing → ArcLists → RowLists → Bool → List Part → List ℕ
parts_text p l s a r full parts = flat_map (part_text p l s a r full) parts

-- ---- what is printed
-- The text prints these parts with the numbers of a state; `best` says whether it has ended optimal.
abbrev pub PrintsResults : LinearProgram → LabelList → Standing → Bool → List Part → List ℕ → Type 0
PrintsResults p l s best parts text = (n : Shown p s best) × (text ≡ parts_text p l s (arc_lists n.figures) (row_lists n.figures) true parts)

-- The numbers of no state.
abbrev pub no_arcs : ArcLists
no_arcs = record { flows = []; costs = []; reduced = [] }

abbrev pub no_rows : RowLists
no_rows = record { sums = []; duals = [] }

-- The text prints all parts of the problem, with no number of a state: it is the same in each.
abbrev pub PrintsProblem : LinearProgram → LabelList → List ℕ → Type 0
PrintsProblem p l text = (s : Standing) → text ≡ parts_text p l s no_arcs no_rows false all_parts
