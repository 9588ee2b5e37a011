-- For a proof alone: the problem as it is made: columns behind columns, and what a call of the builder asks for.
-- What each step of making the problem leaves is said by these words.
use Rattle.std.specs.Prelude.{◌≡◌, ◌+◌, ◌++◌, ◌≤◌, ◌<◌, ◌^◌, ℕ, Bool, false, List, [], ◌∷◌, Option, Some, length, map, get_or, pos, if◌then◌else◌}
use Rattle.std.specs.List.{All}
use Rattle.nf_cells.specs.Names.{Name}
use Rattle.nf_cells.specs.declared.values.Supply.{Supply}
use Rattle.nf_cells.specs.declared.values.Bound.TheVariants.{Infinite}
use Rattle.nf_frac.specs.Amounts.{amount_value}
use Rattle.nf_model.specs.Program.{Column, LinearProgram}
use Rattle.nf_prob.specs.Building.{new_column, with_node}
use Rattle.nf_network.specs.declared.rows.Figures.{Figures}
use Rattle.nf_network.specs.declared.excess.Balance.{Balance}
use Rattle.nf_network.specs.Excess.{has_excess}
use Rattle.nf_network.specs.Faults.{are_crossed, most_arcs, most_nodes}
use Rattle.nf_network.specs.Given.{IsEven}
use Rattle.nf_network.specs.Keys.{Key, no_key}
use Rattle.nf_network.specs.Network.{excess_value, in_sense, node_row, upper_of}
use Rattle.nf_network.specs.Nodes.{NodeList}

-- The program of nodes alone.
abbrev pub nodes_program : Bool → List (Option Supply) → LinearProgram
nodes_program maximizes vs = record { columns = []; rows = map node_row vs; nodes = length vs; arcs = 0; maximizes = maximizes }

-- A program with these arcs behind its columns.
abbrev pub with_arcs : LinearProgram → List Column → LinearProgram
with_arcs p cs = record p { columns = p.columns ++ cs; arcs = p.arcs + length cs }

-- A program of nodes with `_EXCESS_` behind them, where it is there.
abbrev pub with_excess : LinearProgram → Balance → List (Option Supply) → LinearProgram
with_excess p b vs = if has_excess b vs then with_node p (excess_value b) else p

-- The column of an arc by its numbers of nodes and its figures.
abbrev pub column_made : Bool → Key → Figures → Column
column_made maximize k f =
    new_column (Some (record { tail = k.tail; head = k.head })) (in_sense maximize f.cost) (Some (amount_value f.lower)) (upper_of f.upper)

abbrev pub no_figures : Figures
no_figures = record { cost = record { thousandths = pos 0 }; lower = record { thousandths = pos 0 }; upper = Infinite }

-- The column of arc i, alone in a list.
abbrev pub column_at : Bool → List Key → List Figures → ℕ → List Column
column_at maximize ks fs i = column_made maximize (get_or ks i no_key) (get_or fs i no_figures) ∷ []

-- The name of arc i, alone in a list.
abbrev pub name_at : List Key → ℕ → List Name
name_at ks i = (get_or ks i no_key).name ∷ []

-- The upper bound of an arc is not less than its lower bound.
abbrev pub IsInOrder : Figures → Type 0
IsInOrder f = are_crossed f.lower f.upper ≡ false

-- The ends of an arc are nodes below n.
abbrev pub HasEndsBelow : ℕ → Key → Type 0
HasEndsBelow n k = (k.tail < n) × (k.head < n)

-- Nodes and arcs can be made a problem.
pub record AreSound (ns : NodeList) (ks : List Key) (fs : List Figures) : Type 0 where
  pub even : IsEven ns
  pub few_nodes : length ns.names ≤ most_nodes
  pub few_arcs : length ks ≤ most_arcs
  pub one_each : length fs ≡ length ks
  pub ends : All (HasEndsBelow (length ns.names)) ks
  pub in_order : All IsInOrder fs

-- The nodes and arcs of a program of arcs alone, with room for more.
pub record IsOfArcs (p : LinearProgram) : Type 0 where
  pub rows : length p.rows ≡ p.nodes
  pub few_nodes : p.nodes ≤ 2 ^ 20
  pub arcs : p.arcs ≡ length p.columns
  pub few_arcs : p.arcs ≤ 2 ^ 20
