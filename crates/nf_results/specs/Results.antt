-- The results of a state: its numbers as tables show them, and the places of its nodes in its tree view.
-- The output tables and what is printed of a state are made of them.
use Rattle.std.specs.Prelude.{Bool, true, false, drop, Option, Some, None, IfSome}
use Rattle.nf_model.specs.Program.{LinearProgram}
use Rattle.nf_simplex.specs.Standing.{Standing}
use Rattle.nf_view.specs.declared.view.TreeView.{TreeView}
use Rattle.nf_view.specs.View.{IsTreeView}
use Rattle.nf_figures.specs.declared.figures.Figures.{Figures}
use Rattle.nf_figures.specs.Figures.{AreFigures}
use Rattle.nf_out.specs.Arcs.{ArcLists}
use Rattle.nf_out.specs.Rows.{RowLists, TreeLists, no_tree}
use Rattle.nf_results.specs.declared.results.Results.{Results}

-- If there is a view, it is the tree view of the state.
abbrev pub HasView : LinearProgram → Standing → Option TreeView → Type 0
HasView p s view = IfSome view (IsTreeView p s)

-- They are the results of a state.
pub record AreResults (p : LinearProgram) (s : Standing) (r : Results) : Type 0 where
  pub figures : AreFigures p s r.best r.figures
  pub view : HasView p s r.tree

-- The numbers by column, and those by row.
abbrev pub arc_lists : Figures → ArcLists
arc_lists f = record { flows = f.flows; costs = f.costs; reduced = f.reduced }

abbrev pub row_lists : Figures → RowLists
row_lists f = record { sums = f.sums; duals = f.duals }

-- The places of the nodes in a tree view, whose lists have the root first.
abbrev pub places_of : TreeView → TreeLists
places_of t = record {
  predecessors = drop 1 t.pred.items;
  next = drop 1 t.next.items;
  sizes = drop 1 t.size.items;
  arcs = drop 1 t.arc.items;
}

-- The places that a table shows: none without the columns of the tree.
abbrev pub places_shown : Option TreeView → Bool → TreeLists
places_shown (Some t) true = places_of t
places_shown (Some t) false = no_tree
places_shown None future = no_tree
