-- The law of tree views: the basic columns determine them.
-- So tables that show a tree view are functions of the state, whatever made its lists.
use Rattle.std.specs.Prelude.{◌≡◌, drop}
use Rattle.nf_model.specs.Program.{LinearProgram}
use Rattle.nf_simplex.specs.Columns.{Col}
use Rattle.nf_simplex.specs.Standing.{Standing, place_of}
use Rattle.nf_view.specs.declared.view.TreeView.{TreeView}
use Rattle.nf_view.specs.Keys.{is_basic}
use Rattle.nf_view.specs.View.{IsTreeView}

-- The same columns are basic.
abbrev pub HaveSameBasics : LinearProgram → Standing → Standing → Type 0
HaveSameBasics p s t = (c : Col) → is_basic (place_of p s c) ≡ is_basic (place_of p t c)

-- Two tree views have the same lists of nodes.
pub record IsSameView (t u : TreeView) : Type 0 where
  pub preds : drop 1 t.pred.items ≡ drop 1 u.pred.items
  pub nexts : drop 1 t.next.items ≡ drop 1 u.next.items
  pub sizes : drop 1 t.size.items ≡ drop 1 u.size.items
  pub arcs : drop 1 t.arc.items ≡ drop 1 u.arc.items

-- States with the same basic columns have the same tree view; so a state has one.
abbrev pub SameBasicsSameView : Type 0
SameBasicsSameView = (p : LinearProgram) (s t : Standing) (x y : TreeView) → HaveSameBasics p s t → IsTreeView p s x → IsTreeView p t y → IsSameView x y
