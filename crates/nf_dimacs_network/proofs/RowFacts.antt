-- What the rows of the tables say.
use Rattle.std.proofs.Common.{◌≡◌, ℕ, zero, suc, ◌+◌, ◌<◌, ◌≤◌, Bool, true, false, cond, nat_lt, List, [], ◌∷◌, ◌++◌, length, map, Option, None, Some, ℤ, refl, sym, ◌∙◌, ap, ap₂, subst, arith, codes, decimal}
use Rattle.std.specs.List.{AllByRecursion, list_all}
use Rattle.std.specs.Fmt.{signed_decimal}
use Rattle.std.proofs.lemmas.List.{length-map}
use Rattle.std.proofs.lemmas.Bool.Decides.{nat_tests}
use Rattle.nf_io.specs.Held.{most_bytes}
use Rattle.nf_table.specs.Grid.{Cells}
use Rattle.nf_cells.specs.Values.{name_in}
use Rattle.nf_cells.specs.declared.values.Cell.TheVariants.{Is}
use Rattle.nf_network.specs.Rows.{ArcRow, NodeRow, arc_row, node_row, arc_rows, node_rows}
use Rattle.nf_dimacs.specs.declared.fault.DimacsKind.TheVariants as kind
use Rattle.nf_dimacs.specs.declared.line.Arc.{Arc}
use Rattle.nf_dimacs.specs.declared.tables.DimacsTables.{DimacsTables}
use Rattle.nf_dimacs.specs.Faults.{fault_at, fault_in}
use Rattle.nf_dimacs.specs.Lines.{lines_of}
use Rattle.nf_dimacs.specs.Says.{said, said_by, size_of, supplies_of, arcs_of}
use Rattle.nf_dimacs.specs.Tables.{arc_row as arc_cells, node_row as node_cells, by_node, nodes_in, numbered, or_zero, table_of}
use Rattle.nf_dimacs.specs.Text.{AreTables, fault_of}
use Rattle.nf_dimacs.proofs.LineFacts.{few-lines}
use Rattle.nf_dimacs.proofs.SayFacts.{few-arcs}
use Rattle.nf_dimacs_network.specs.Rows.{arc_roles, node_roles, arc_said, node_said, ArcsSay, NodesSay}
use Rattle.nf_dimacs_network.proofs.PlainFacts.{is_plain, IsShort, name-plain, number-plain, number-some, number-few, digits-plain, digits-some, digits-few, amount-cell, bound-cell, supply-cell}
use Rattle.nf_dimacs_network.proofs.ShortFacts.{IsShortArc, arcs-short, supplies-short, few-nodes, by-node-short, length-by-node}

-- ---- names
number-name : (z : ℤ) → IsShort z → name_in (signed_decimal z) ≡ Is (signed_decimal z)
number-name z s = name-plain (signed_decimal z) (number-plain z s) (number-some z s) (omega (arith, number-few z s))

node-name : (n : ℕ) → n < 1_000_000_000 → name_in (decimal n) ≡ Is (decimal n)
node-name n small = name-plain (decimal n) (digits-plain n small) (digits-some n small) (omega (arith, digits-few n small))

arc-name : (k : ℕ) → k < 1_000_000_000 → name_in (codes "x" ++ decimal k) ≡ Is (codes "x" ++ decimal k)
arc-name k small = name-plain (codes "x" ++ decimal k) (digits-plain k small) (omega arith) (omega (arith, digits-few k small))

-- ---- rows
arc-row-says : (k : ℕ) (a : Arc) → k < 1_000_000_000 → IsShortArc a → arc_row arc_roles (arc_cells k a) ≡ arc_said k a
arc-row-says k a small s = λ j. record {
  tail = number-name a.tail s.tail j;
  head = number-name a.head s.head j;
  name = arc-name k small j;
  cost = amount-cell a.cost s.cost j;
  lower = amount-cell a.lower s.lower j;
  capacity = bound-cell a.capacity s.capacity j;
  supply = (arc_said k a).supply;
  demand = (arc_said k a).demand;
}

node-row-says : (node : ℕ) (given : Option ℤ) → node < 1_000_000_000 → IsShort (or_zero given) → node_row node_roles (node_cells node given) ≡ node_said node given
node-row-says node given small s = λ j. record {
  node = node-name node small j;
  supdem = supply-cell (or_zero given) s j;
}

-- rows that say the same one by one say the same all together
module _ {A B : Type 0} (P : A → Type 0) (cells_of : ℕ → A → Cells) (row_of : Cells → B) (says : ℕ → A → B) (one : (k : ℕ) (x : A) → k < 1_000_000_000 → P x → row_of (cells_of k x) ≡ says k x) where
  all-say : (k : ℕ) (xs : List A) → k + length xs ≤ 1_000_000_000 → AllByRecursion P xs → map row_of (numbered cells_of k xs) ≡ numbered says k xs
  unfolding numbered
  all-say k [] few all = refl
  all-say k (x ∷ xs) few all = ap₂ (λ (b : B) (bs : List B). b ∷ bs) (one k x (omega arith) all.0) (all-say (suc k) xs (omega arith) all.1)

-- ---- the tables
short-text : (text : List ℕ) → fault_of text ≡ None → length text ≤ most_bytes
short-text text e = by_cases (nat_lt most_bytes (length text)) refl e
  where
    by_cases : (b : Bool) → nat_lt most_bytes (length text) ≡ b → cond b (Some (fault_at 0 kind.TooLong)) (fault_in (said_by text)) ≡ None → length text ≤ most_bytes
    by_cases true is none = absurd cc
    by_cases false is none = grind (arith, nat_tests)

pub arcs-say : ArcsSay
arcs-say text t tables =
    let few : length (arcs_of (said_by text)) ≤ most_bytes = omega (arith, few-arcs (said_by text), length-map (lines_of text) said, few-lines text, short-text text tables.sound) in
    ap (λ g. arc_rows arc_roles g.rows) tables.arcs
    ∙ all-say IsShortArc arc_cells (arc_row arc_roles) arc_said arc-row-says 1 (arcs_of (said_by text)) (omega (arith, few)) (arcs-short (lines_of text))

pub nodes-say : NodesSay
nodes-say text t tables =
    let ss = supplies_of (said_by text) in
    let n : ℕ = nodes_in (size_of (said_by text)) in
    ap (λ g. node_rows node_roles g.rows) tables.nodes
    ∙ all-say (λ (o : Option ℤ). IsShort (or_zero o)) node_cells (node_row node_roles) node_said node-row-says 1 (by_node ss n) (omega (arith, length-by-node ss n, few-nodes (lines_of text)))
    (by-node-short ss (supplies-short (lines_of text)) n)
