-- A network with constraints: a column for each nonarc variable, a row for each constraint, an entry for each coefficient.
-- The promise of `dense` and `sparse` rests on it; it knows nothing of how CONDATA is written.
use Rattle.std.specs.Prelude.{◌++◌, ◌+◌, ◌-◌, ◌&&◌, ℕ, nat_eq, List, [], ◌∷◌, None, if◌then◌else◌, length, map, get_or, option_map}
use Rattle.std.specs.Bool.{nat_lt}
use Rattle.std.specs.List.{flat_map, range_with_len}
use Rattle.nf_frac.specs.Amounts.{amount_value}
use Rattle.nf_model.specs.Program.{Column, Entry, LinearProgram, Row, column}
use Rattle.nf_prob.specs.Building.{new_column}
use Rattle.nf_labels.specs.Labels.{LabelList}
use Rattle.nf_cells.specs.Names.{Name}
use Rattle.nf_program.specs.declared.program.ProcOptions.{ProcOptions}
use Rattle.nf_network.specs.Excess.{joined_below}
use Rattle.nf_network.specs.Network.{Network, in_sense, upper_of}
use Rattle.nf_cons.specs.declared.taken.Coefficient.{Coefficient}
use Rattle.nf_cons.specs.declared.taken.Figures.{Figures}
use Rattle.nf_cons.specs.declared.taken.SideRow.{SideRow}
use Rattle.nf_cons.specs.Bounds.{nonarc_defaults, figures_of}
use Rattle.nf_cons.specs.Terms.{TermLists}

-- The column of a nonarc variable stands in no node row.
abbrev pub nonarc_column : ProcOptions → Figures → Column
nonarc_column o f = new_column None (in_sense o.maximize f.cost) (option_map amount_value f.lower) (upper_of f.upper)

-- The column of nonarc variable k, alone in a list, where so many arcs come before.
abbrev pub nonarc_column_at : ProcOptions → ℕ → TermLists → ℕ → List Column
nonarc_column_at o arcs ls k = nonarc_column o (figures_of (nonarc_defaults o) ls (arcs + k)) ∷ []

-- The row of a constraint.
abbrev pub side_row : SideRow → Row
side_row s = record { kind = s.kind; right = amount_value s.right }

-- A program with more columns, of nonarc variables, and with more rows.
abbrev pub with_columns : LinearProgram → List Column → LinearProgram
with_columns p cs = record p { columns = p.columns ++ cs }

abbrev pub with_rows : LinearProgram → List Row → LinearProgram
with_rows p rows = record p { rows = p.rows ++ rows }

-- The column of a variable: the first columns are the arcs of ARCDATA, and nonarc variables come after all columns that
-- there were.
abbrev pub column_of : ℕ → ℕ → ℕ → ℕ
column_of arcs columns v = if nat_lt v arcs then v else columns + (v - arcs)

-- The entry that a coefficient is, if it is of column j and of constraint i, where there were so many columns and rows.
abbrev pub entry_of : ℕ → ℕ → ℕ → ℕ → ℕ → Coefficient → List Entry
entry_of arcs columns rows j i c =
    if nat_eq j (column_of arcs columns c.variable) && nat_eq i c.constraint
    then record { row = rows + i; value = amount_value c.value } ∷ []
    else []

-- The entries of column j in so many constraints, by the number of the constraint.
abbrev pub side_entries : ℕ → ℕ → ℕ → ℕ → List Coefficient → ℕ → List Entry
side_entries arcs columns rows sides cs j = joined_below sides (λ i. flat_map (entry_of arcs columns rows j i) cs)

-- Column j with its entries in the constraints, which come after those at nodes.
abbrev pub column_with : ℕ → ℕ → ℕ → ℕ → List Coefficient → LinearProgram → ℕ → Column
column_with arcs columns rows sides cs p j = record (column p j) { entries = (column p j).entries ++ side_entries arcs columns rows sides cs j }

-- A program, each column with its entries in the constraints.
abbrev pub with_coefficients : ℕ → ℕ → ℕ → ℕ → List Coefficient → LinearProgram → LinearProgram
with_coefficients arcs columns rows sides cs p = record p { columns = map (column_with arcs columns rows sides cs p) (range_with_len 0 (length p.columns)) }

-- The program of a network of so many arcs with so many nonarc variables, with constraints and values.
abbrev pub constrained_program : ProcOptions → ℕ → LinearProgram → ℕ → List SideRow → TermLists → LinearProgram
constrained_program o arcs p nonarcs sides ls =
    with_coefficients arcs (length p.columns) (length p.rows) (length sides) ls.coefficients
    (with_rows (with_columns p (joined_below nonarcs (nonarc_column_at o arcs ls))) (map side_row sides))

-- What is read of CONDATA without a fault: the nonarc variables, the names of all rows, the constraints that are rows of
-- the problem, and what is given.
pub record Constraints : Type 0 where
  pub nonarcs : List Name
  pub names : List Name
  pub sides : List SideRow
  pub lists : TermLists

-- The labels: nonarc variables after all columns, and the constraints by the names of their rows.
abbrev pub side_name : List Name → SideRow → Name
side_name names s = get_or names s.name []

abbrev pub constrained_labels : LabelList → Constraints → LabelList
constrained_labels l c = record l { columns = l.columns ++ c.nonarcs; constraints = l.constraints ++ map (side_name c.names) c.sides }

-- The network with constraints.
abbrev pub constrained : ProcOptions → Network → Constraints → Network
constrained o n c = record {
  program = constrained_program o n.labels.own_arcs n.program (length c.nonarcs) c.sides c.lists;
  labels = constrained_labels n.labels c;
}
