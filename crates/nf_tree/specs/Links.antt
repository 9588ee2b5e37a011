-- The spanning tree of the columns in slots as links, and paths and potentials in it.
-- `Tree::links`, `cycle` and `potentials` promise them.
use Rattle.std.specs.Prelude.{◌≡◌, ◌≢◌, ℕ, suc, ◌<◌, ◌≤◌, List, length, slice_index}
use Rattle.nf_num.specs.Rational.{ℚ, zero_ℚ, ◌+ℚ◌, ◌*ℚ◌, neg_ℚ}
use Rattle.nf_num.specs.Sum.{sum_ℚ, delta}
use Rattle.nf_model.specs.Program.{LinearProgram, at}
use Rattle.nf_links.specs.Map.{LinkMap, HasVertices}
use Rattle.nf_grove.specs.Order.{IsPreorder, IsThread}
use Rattle.nf_grove.specs.Sizes.{AreSizes}
use Rattle.nf_grove.specs.Tree.{IsTreeIn}
use Rattle.nf_grove.specs.Room.{HasEnds, HasLists}
use Rattle.nf_simplex.specs.Standing.{Standing, stage_of}
use Rattle.nf_basis.specs.declared.col.Col.{Col}
use Rattle.nf_basis.specs.Numbers.{in_slot, slot_number}
use Rattle.nf_tree.specs.declared.span.Span.{Span}
use Rattle.nf_frac.specs.declared.passed.Passed.{Passed}
use Rattle.nf_frac.specs.declared.passed.Op.TheVariants.{Add}
use Rattle.nf_frac.specs.Range.{Passes}
use Rattle.nf_tree.specs.Network.{IsRooted, turn}
use Rattle.nf_tree.specs.Vertices.{tail_at, head_at, link_name}

-- The predecessor of the node of row i.
abbrev pub pred_in : LinkMap → ℕ → ℕ
pred_in m i = slice_index m.pred (suc i)

-- The links are the predecessors, thread, depths, sizes and arcs of the spanning tree of the columns in the slots: slot i has
-- the column between node i + 1 and its predecessor. The order is the preorder of the thread. The root has itself as
-- predecessor, and no column.
pub record IsTreeOf (p : LinearProgram) (s : Standing) (slots : List Col) (order : List ℕ) (m : LinkMap) : Type 0 where
  pub vertices : HasVertices p.nodes m
  pub ordered : length order ≡ suc p.nodes
  pub rooted : IsRooted p.nodes (tail_at p s) (head_at p s) (pred_in m) (slice_index m.depth) (slot_number p slots)
  pub root_pred : slice_index m.pred 0 ≡ 0
  pub root_arc : slice_index m.arc 0 ≡ 0
  pub arcs : (i : ℕ) → i < p.nodes → slice_index m.arc (suc i) ≡ link_name p (in_slot slots i)
  pub preorder : IsPreorder p.nodes (slice_index m.pred) (slice_index m.depth) (slice_index order)
  pub thread : IsThread p.nodes (slice_index m.thread) (slice_index order)
  pub sizes : AreSizes p.nodes (slice_index m.pred) (slice_index m.size)

-- The lists have the tails, the heads and the names of the first n keys.
pub record AreEndsOf (p : LinearProgram) (s : Standing) (keys : List Col) (n : ℕ) (tails heads names : List ℕ) : Type 0 where
  pub tail : (q : ℕ) → q < n → slice_index tails q ≡ tail_at p s (slot_number p keys q)
  pub head : (q : ℕ) → q < n → slice_index heads q ≡ head_at p s (slot_number p keys q)
  pub name : (q : ℕ) → q < n → slice_index names q ≡ link_name p (in_slot keys q)

-- A span has room for n keys over the vertices 0 to n.
pub record HasSpan (n : ℕ) (a : Span) : Type 0 where
  pub tails : length a.tails.items ≡ n
  pub heads : length a.heads.items ≡ n
  pub names : length a.names.items ≡ n
  pub spare : length a.spare.items ≡ n
  pub out : HasEnds n a.out
  pub into : HasEnds n a.into
  pub lists : HasLists n a.grove

-- A span has the tree of the keys, in their order.
pub record SpansKeys (p : LinearProgram) (s : Standing) (keys : List Col) (a : Span) : Type 0 where
  pub ends : AreEndsOf p s keys p.nodes a.tails.items a.heads.items a.names.items
  pub tree : IsTreeIn a.tails.items a.heads.items a.names.items a.grove

-- ---- paths
-- The weights of the columns in the slots give 1 at vertex a and -1 at vertex b, and 0 at all other nodes.
abbrev pub GiveBetween : LinearProgram → Standing → List Col → ℕ → ℕ → List ℚ → Type 0
GiveBetween p s slots a b out =
    (r : ℕ) → r < p.nodes → sum_ℚ p.nodes (λ i. at out i *ℚ (stage_of p s).entry (slot_number p slots i) r) ≡ delta a (suc r) +ℚ neg_ℚ (delta b (suc r))

-- The path from a to b up to vertex u from the one side and vertex v from the other: only columns below both have a weight.
pub record IsMidway (p : LinearProgram) (s : Standing) (slots : List Col) (m : LinkMap) (a b u v : ℕ) (out : List ℚ) : Type 0 where
  pub long : length out ≡ p.nodes
  pub from_within : u ≤ p.nodes
  pub to_within : v ≤ p.nodes
  pub gives : (r : ℕ) → r < p.nodes → sum_ℚ p.nodes (λ i. at out i *ℚ (stage_of p s).entry (slot_number p slots i) r)
      ≡ (delta a (suc r) +ℚ neg_ℚ (delta b (suc r))) +ℚ neg_ℚ (delta u (suc r) +ℚ neg_ℚ (delta v (suc r)))
  pub below_from : (w : ℕ) → w < p.nodes → at out w ≢ zero_ℚ → slice_index m.depth u < slice_index m.depth (suc w)
  pub below_to : (w : ℕ) → w < p.nodes → at out w ≢ zero_ℚ → slice_index m.depth v ≤ slice_index m.depth (suc w)
  pub beside : (w : ℕ) → w < p.nodes → at out w ≢ zero_ℚ → suc w ≢ v

-- All of n weights are 0.
pub record AreZeros (n : ℕ) (out : List ℚ) : Type 0 where
  pub long : length out ≡ n
  pub zeros : (k : ℕ) → at out k ≡ zero_ℚ

-- The first of a trail are slots below n.
abbrev pub AreSlotsOf : ℕ → List ℕ → ℕ → Type 0
AreSlotsOf n trail count = (k : ℕ) → k < count → slice_index trail k < n

-- Each slot whose weight is not 0 stands in the trail, at a place from `done` on and below `count`.
abbrev pub ListsWeights : List ℕ → ℕ → ℕ → List ℚ → Type 0
ListsWeights trail done count out = (w : ℕ) → at out w ≢ zero_ℚ → (k : ℕ) × (done ≤ k) × (k < count) × (slice_index trail k ≡ w)

-- ---- potentials
-- The potentials of vertices: 0 at the root, and along the column of each slot its cost, by slot.
pub record ArePricesOf (p : LinearProgram) (s : Standing) (slots : List Col) (m : LinkMap) (costs pot : ℕ → ℚ) : Type 0 where
  pub at_root : pot 0 ≡ zero_ℚ
  pub along : (i : ℕ) → i < p.nodes → pot (suc i) ≡ pot (pred_in m i) +ℚ turn (tail_at p s) (slot_number p slots) i *ℚ costs i

-- The operation overflows: it adds the cost of the column of a node, or its negative, to the potential of a predecessor that is
-- not the root.
pub record PassesAlong (p : LinearProgram) (s : Standing) (slots : List Col) (m : LinkMap) (costs pot : ℕ → ℚ) (c : Passed) : Type 0 where
  pub node : ℕ
  pub within : node < p.nodes
  pub behind : pred_in m node ≢ 0
  pub is : c ≡ record { op = Add; left = pot (pred_in m node); right = turn (tail_at p s) (slot_number p slots) node *ℚ costs node }
  pub passes : Passes c.op c.left c.right
