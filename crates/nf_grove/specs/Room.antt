-- The lists of a walk have room for the vertices.
-- `Grove::new` and `Adjacent::new` promise it, and `rebuild` keeps it.
use Rattle.std.specs.Prelude.{◌≡◌, ℕ, suc, length}
use Rattle.nf_links.specs.Map.{HasVertices}
use Rattle.nf_grove.specs.declared.adjacent.Adjacent.{Adjacent}
use Rattle.nf_grove.specs.declared.grove.Grove.{Grove}

-- There is room for the vertices 0 to n.
pub record HasLists (n : ℕ) (g : Grove) : Type 0 where
  pub seats : length g.seat.items ≡ suc n
  pub orders : length g.order.items ≡ suc n
  pub stacks : length g.stack.items ≡ suc n
  pub keys : length g.key.items ≡ suc n
  pub links : HasVertices n g.links

-- There is room for n keys at one end.
pub record HasEnds (n : ℕ) (a : Adjacent) : Type 0 where
  pub firsts : length a.first.items ≡ suc n
  pub nexts : length a.next.items ≡ n
