-- Which fields a call leaves as they were.
-- The steps of a rebuild promise them.
use Rattle.std.specs.Prelude.{◌≡◌, ℕ, suc, length}
use Rattle.nf_links.specs.Map.{LinkMap}

-- All fields but the names of keys stay.
pub record KeepsAllButArcs (old new : LinkMap) : Type 0 where
  pub pred : new.pred ≡ old.pred
  pub thread : new.thread ≡ old.thread
  pub depth : new.depth ≡ old.depth
  pub size : new.size ≡ old.size

-- All fields but the thread stay.
pub record KeepsAllButThread (old new : LinkMap) : Type 0 where
  pub pred : new.pred ≡ old.pred
  pub depth : new.depth ≡ old.depth
  pub size : new.size ≡ old.size
  pub arc : new.arc ≡ old.arc

-- All fields but the sizes stay.
pub record KeepsAllButSizes (old new : LinkMap) : Type 0 where
  pub pred : new.pred ≡ old.pred
  pub thread : new.thread ≡ old.thread
  pub depth : new.depth ≡ old.depth
  pub arc : new.arc ≡ old.arc

-- The fields that the walk does not touch have room for the vertices 0 to n.
pub record HasRest (n : ℕ) (m : LinkMap) : Type 0 where
  pub threads : length m.thread ≡ suc n
  pub sizes : length m.size ≡ suc n
  pub arcs : length m.arc ≡ suc n

-- They stay as they were.
pub record KeepsRest (old new : LinkMap) : Type 0 where
  pub thread : new.thread ≡ old.thread
  pub size : new.size ≡ old.size
  pub arc : new.arc ≡ old.arc
