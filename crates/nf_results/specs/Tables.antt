-- The output tables of a state: each is the table of its columns over the numbers of the state and its tree view.
-- What is stored of a state rests on it.
use Rattle.std.specs.Prelude.{◌≡◌, Bool, true, false}
use Rattle.nf_model.specs.Program.{LinearProgram}
use Rattle.nf_labels.specs.Labels.{LabelList}
use Rattle.nf_table.specs.Grid.{Grid}
use Rattle.nf_simplex.specs.Standing.{Standing}
use Rattle.nf_view.specs.declared.view.TreeView.{TreeView}
use Rattle.nf_view.specs.View.{IsTreeView}
use Rattle.nf_figures.specs.declared.figures.Figures.{Figures}
use Rattle.nf_figures.specs.Figures.{AreFigures}
use Rattle.nf_out.specs.Output.{arcout_grid, conout_grid, dualout_grid, nodeout_grid}
use Rattle.nf_out.specs.Rows.{TreeLists, no_tree}
use Rattle.nf_results.specs.Results.{arc_lists, places_of, row_lists}

-- The numbers that a table shows are those of the state; `best` says whether it has ended optimal.
pub record Shown (p : LinearProgram) (s : Standing) (best : Bool) : Type 0 where
  pub figures : Figures
  pub of_state : AreFigures p s best figures

-- The places that a table shows are those of the tree view of the state, or none without the columns of FUTURE.
abbrev pub ArePlaces : LinearProgram → Standing → Bool → TreeLists → Type 0
ArePlaces p s true places = (view : TreeView) × IsTreeView p s view × (places ≡ places_of view)
ArePlaces p s false places = places ≡ no_tree

-- The table is ARCOUT of the state.
abbrev pub IsArcout : LinearProgram → LabelList → Standing → Bool → Bool → Grid → Type 0
IsArcout p l s best future t = (n : Shown p s best) × (t ≡ arcout_grid p l s (arc_lists n.figures) future)

-- The table is CONOUT of the state.
abbrev pub IsConout : LinearProgram → LabelList → Standing → Bool → Bool → Grid → Type 0
IsConout p l s best future t = (n : Shown p s best) × (t ≡ conout_grid p l s (arc_lists n.figures) future)

-- The table is NODEOUT of the state.
abbrev pub IsNodeout : LinearProgram → LabelList → Standing → Bool → Bool → Grid → Type 0
IsNodeout p l s best future t =
    (n : Shown p s best) × (places : TreeLists) × ArePlaces p s future places × (t ≡ nodeout_grid p l s (row_lists n.figures) places future)

-- The table is DUALOUT of the state.
abbrev pub IsDualout : LinearProgram → LabelList → Standing → Bool → Bool → Grid → Type 0
IsDualout p l s best future t =
    (n : Shown p s best) × (places : TreeLists) × ArePlaces p s future places × (t ≡ dualout_grid p l s (row_lists n.figures) places future)
