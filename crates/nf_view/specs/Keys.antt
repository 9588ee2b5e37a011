-- The key columns of a state: a spanning tree over the nodes and the root, chosen among the basic columns by number.
-- They define the tree view. The root is vertex 0, and the node with number i is vertex i.
use Rattle.std.specs.Prelude.{◌≡◌, ℕ, zero, suc, ◌<◌, ◌≤◌, ◌==◌, Bool, true, false, List, [], ◌∷◌, ◌++◌, length, slice_index_or, min, max, if◌then◌else◌}
use Rattle.nf_model.specs.Program.{LinearProgram, column}
use Rattle.nf_prob.specs.Numbers.{tail_number, head_number}
use Rattle.nf_simplex.specs.Place.{Place, Lower, Upper, Zero, Absent, Basic}
use Rattle.nf_simplex.specs.Columns.{Given, Artificial}
use Rattle.nf_simplex.specs.Standing.{Standing, place_of}
use Rattle.nf_view.specs.declared.links.Link.{Link}

abbrev pub is_basic : Place → Bool
is_basic Lower = false
is_basic Upper = false
is_basic Zero = false
is_basic Absent = false
is_basic Basic = true

-- The link of arc j, from 0, leads from its tail to its head; that of the artificial of row i from the root to the node.
abbrev pub arc_link : LinearProgram → ℕ → Link
arc_link p j = record { arc = suc j; «from» = tail_number (column p j).ends; to = head_number (column p j).ends }

abbrev pub root_link : ℕ → Link
root_link i = record { arc = 0; «from» = 0; to = suc i }

-- The links of the basic ones of the first n arcs, by number.
unfoldable pub basic_arcs : LinearProgram → Standing → ℕ → List Link
basic_arcs p s zero = []
basic_arcs p s (suc n) = basic_arcs p s n ++ (if is_basic (place_of p s (Given n)) then arc_link p n ∷ [] else [])

-- The links of the basic ones of the artificials of the first n nodes, by number.
unfoldable pub basic_roots : LinearProgram → Standing → ℕ → List Link
basic_roots p s zero = []
basic_roots p s (suc n) = basic_roots p s n ++ (if is_basic (place_of p s (Artificial n)) then root_link n ∷ [] else [])

-- The links of the basic arcs by number, and then of the basic artificials of nodes by number.
abbrev pub basic_links : LinearProgram → Standing → List Link
basic_links p s = basic_arcs p s p.arcs ++ basic_roots p s p.nodes

-- After a link is kept, the parts of its two ends are one. A part is named by the least of its vertices.
abbrev pub joined : (ℕ → ℕ) → Link → ℕ → ℕ
joined part e v = if part v == max (part e.«from») (part e.to) then min (part e.«from») (part e.to) else part v

-- Each link that closes no cycle with those kept before it: its ends are in two parts.
unfoldable pub kept_from : (ℕ → ℕ) → List Link → List Link
kept_from part [] = []
kept_from part (e ∷ es) = if part e.«from» == part e.to then kept_from part es else e ∷ kept_from (joined part e) es

abbrev pub turned : Link → Link
turned e = record { arc = e.arc; «from» = e.to; to = e.«from» }

-- Each link and the same in the other direction.
unfoldable pub both_ways : List Link → List Link
both_ways [] = []
both_ways (e ∷ es) = e ∷ (turned e ∷ both_ways es)

-- The links of the key columns, in both directions; at first each vertex is a part of its own.
abbrev pub key_links : LinearProgram → Standing → List Link
key_links p s = both_ways (kept_from (λ v. v) (basic_links p s))

abbrev pub no_link : Link
no_link = record { arc = 0; «from» = 0; to = 0 }

abbrev pub link_at : List Link → ℕ → Link
link_at links q = slice_index_or links q no_link

-- One of the links leads from u to v, and has this arc.
pub record Leads (links : List Link) (arc u v : ℕ) : Type 0 where
  pub place : ℕ
  pub within : place < length links
  pub same : link_at links place ≡ record { arc = arc; «from» = u; to = v }

-- The links join the root with the vertices 1 to n: a set that has the root, and the end of each link whose beginning it
-- has, has all of them.
abbrev pub AreJoined : ℕ → List Link → Type 0
AreJoined n links = (inside : ℕ → Bool) → inside 0 ≡ true → ((q : ℕ) → q < length links → inside (link_at links q).«from» ≡ true → inside (link_at links q).to ≡ true) → (v : ℕ) → v ≤ n → inside v ≡ true
