-- The tree view of a state: the predecessor of each node, the next node in the preorder, the size of its subtree, and the
-- arc to its predecessor. The tree columns of output tables are these.
use Rattle.std.specs.Prelude.{◌≡◌, ℕ, suc, ◌<◌, ◌≤◌, ◌==◌, List, length, slice_index, if◌then◌else◌}
use Rattle.nf_model.specs.Program.{LinearProgram}
use Rattle.nf_simplex.specs.Standing.{Standing}
use Rattle.nf_view.specs.declared.links.Link.{Link}
use Rattle.nf_view.specs.declared.view.TreeView.{TreeView}
use Rattle.nf_view.specs.Keys.{Leads, key_links}
use Rattle.nf_view.specs.Sizes.{AreSizes}

-- Each of the nodes 1 to n is joined with its predecessor by a link, whose arc is its own, and the predecessors lead from
-- it to the root: a rank falls along them.
pub record IsRooted (n : ℕ) (links : List Link) (pred arc : ℕ → ℕ) : Type 0 where
  pub within : (v : ℕ) → 0 < v → v ≤ n → pred v ≤ n
  pub joins : (v : ℕ) → 0 < v → v ≤ n → Leads links (arc v) (pred v) v
  pub rank : ℕ → ℕ
  pub falls : (v : ℕ) → 0 < v → v ≤ n → rank (pred v) < rank v

-- c is the first child of v with a number above k, and 0 if there is none.
pub record IsNextChild (n : ℕ) (pred : ℕ → ℕ) (v k c : ℕ) : Type 0 where
  pub child : 0 < c → (k < c) × (c ≤ n) × (pred c ≡ v)
  pub least : (w : ℕ) → k < w → w ≤ n → pred w ≡ v → (0 < c) × (c ≤ w)

-- The preorder from the root with children by number. After the subtree of a node comes its next sibling, or if it has
-- none what comes after the subtree of its predecessor; after that of the root comes nothing. After a node itself comes
-- its first child, or if it has none what comes after its subtree.
pub record IsPreorder (n : ℕ) (pred next : ℕ → ℕ) : Type 0 where
  pub after : ℕ → ℕ
  pub last : after 0 ≡ 0
  pub sideways : (v c : ℕ) → 0 < v → v ≤ n → IsNextChild n pred (pred v) v c → after v ≡ (if c == 0 then after (pred v) else c)
  pub downwards : (v c : ℕ) → v ≤ n → IsNextChild n pred v 0 c → next v ≡ (if c == 0 then after v else c)

-- The tree of these links over the root and the nodes 1 to n.
pub record IsTree (n : ℕ) (links : List Link) (pred next size arc : ℕ → ℕ) : Type 0 where
  pub rooted : IsRooted n links pred arc
  pub preorder : IsPreorder n pred next
  pub sizes : AreSizes n pred size

-- The lists have a number for the root, at place 0, and for each node.
pub record HasVertices (n : ℕ) (t : TreeView) : Type 0 where
  pub preds : length t.pred.items ≡ suc n
  pub nexts : length t.next.items ≡ suc n
  pub sizes : length t.size.items ≡ suc n
  pub arcs : length t.arc.items ≡ suc n

-- They are the tree view of a state: the tree of its key columns.
pub record IsTreeView (p : LinearProgram) (s : Standing) (t : TreeView) : Type 0 where
  pub vertices : HasVertices p.nodes t
  pub tree : IsTree p.nodes (key_links p s) (slice_index t.pred.items) (slice_index t.next.items) (slice_index t.size.items) (slice_index t.arc.items)
