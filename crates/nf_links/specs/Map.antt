-- Linked arrays as a map: for each field a list of numbers by vertex.
-- `Links::get` and `Links::set` promise it, and the links of a spanning tree are described over it.
use Rattle.std.specs.Prelude.{◌≡◌, ℕ, suc, List, length, slice_set}
use Rattle.nf_links.specs.declared.Field.{Field}
use Rattle.nf_links.specs.declared.Field.TheVariants.{Pred, Thread, Depth, Size, Arc}

-- The list of each field.
pub record LinkMap : Type 0 where
  pub pred : List ℕ
  pub thread : List ℕ
  pub depth : List ℕ
  pub size : List ℕ
  pub arc : List ℕ

-- The list of a field.
abbrev pub of_field : Field → LinkMap → List ℕ
of_field Pred m = m.pred
of_field Thread m = m.thread
of_field Depth m = m.depth
of_field Size m = m.size
of_field Arc m = m.arc

-- The map with the number x at a field of vertex v, and all else as before.
abbrev pub put : Field → ℕ → ℕ → LinkMap → LinkMap
put Pred v x m = record m { pred = slice_set m.pred v x }
put Thread v x m = record m { thread = slice_set m.thread v x }
put Depth v x m = record m { depth = slice_set m.depth v x }
put Size v x m = record m { size = slice_set m.size v x }
put Arc v x m = record m { arc = slice_set m.arc v x }

-- Each field has the vertices 0 to n.
pub record HasVertices (n : ℕ) (m : LinkMap) : Type 0 where
  pub preds : length m.pred ≡ suc n
  pub threads : length m.thread ≡ suc n
  pub depths : length m.depth ≡ suc n
  pub sizes : length m.size ≡ suc n
  pub arcs : length m.arc ≡ suc n
