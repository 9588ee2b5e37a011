-- Working definitions, on which no promise of `dense` or `sparse` rests: what was read of CONDATA can be added to a network,
-- since its numbers are in range and no coefficient is given twice, and how the builder adds it.
use Rattle.std.specs.Prelude.{◌≡◌, ◌≤◌, ◌<◌, ◌^◌, ◌+◌, ◌&&◌, ℕ, zero, suc, Bool, true, false, not, List, [], ◌∷◌, length, nat_eq}
use Rattle.std.specs.List.{All, fold, list_any}
use Rattle.nf_frac.specs.Amounts.{amount_value}
use Rattle.nf_cells.specs.Names.{Name}
use Rattle.nf_model.specs.Program.{Column, LinearProgram}
use Rattle.nf_prob.specs.Building.{with_entry}
use Rattle.nf_labels.specs.Labels.{AreNumbered}
use Rattle.nf_network.specs.Network.{Network}
use Rattle.nf_cons.specs.declared.taken.Coefficient.{Coefficient}
use Rattle.nf_cons.specs.declared.taken.Figures.{Figures}
use Rattle.nf_cons.specs.declared.taken.SideRow.{SideRow}
use Rattle.nf_cons.specs.Bounds.{bounds_cross, figures_of}
use Rattle.nf_cons.specs.Constrained.{Constraints, column_of}
use Rattle.nf_cons.specs.Dense.{most_constraints}
use Rattle.nf_cons.specs.Naming.{IsSound, VariableList}
use Rattle.nf_cons.specs.Terms.{TermLists}

-- Two coefficients are of one variable in one constraint.
abbrev pub same_place : Coefficient → Coefficient → Bool
same_place c e = nat_eq c.variable e.variable && nat_eq c.constraint e.constraint

-- No two coefficients are.
unfoldable pub are_apart : List Coefficient → Bool
are_apart [] = true
are_apart (c ∷ cs) = not (list_any (same_place c) cs) && are_apart cs

-- A coefficient is of one of so many variables in one of so many constraints.
abbrev pub IsPlaced : ℕ → ℕ → Coefficient → Type 0
IsPlaced variables constraints c = (c.variable < variables) × (c.constraint < constraints)

-- What was read can be added.
pub record AreReady (v : VariableList) (names : List Name) (sides : List SideRow) (lists : TermLists) : Type 0 where
  pub sound : IsSound v
  pub few_sides : length sides ≤ most_constraints
  pub named : All (λ s. s.name < length names) sides
  pub placed : All (IsPlaced (v.arcs.count + length v.nonarcs) (length sides)) lists.coefficients
  pub apart : are_apart lists.coefficients ≡ true

-- What was read is this.
pub record AreConstraints (arcs : List Name) (c : Constraints) (v : VariableList) (names : List Name) (sides : List SideRow) (lists : TermLists) : Type 0 where
  pub nonarcs_are : v.nonarcs ≡ c.nonarcs
  pub arcs_are : v.arcs.count ≡ length arcs
  pub names_are : names ≡ c.names
  pub sides_are : sides ≡ c.sides
  pub lists_are : lists ≡ c.lists
  pub ready : AreReady v names sides lists

-- The bounds of nonarc variables do not cross.
abbrev pub AreInOrder : Figures → ℕ → TermLists → ℕ → Type 0
AreInOrder d arcs ls nonarcs = (k : ℕ) → k < nonarcs → bounds_cross (figures_of d ls (arcs + k)).lower (figures_of d ls (arcs + k)).upper ≡ false

-- How many there were before, where some were added; else another number.
abbrev pub before : ℕ → ℕ → ℕ → ℕ
before zero other n = other
before (suc k) other n = n

-- A program with the entry of one more coefficient, where there were so many columns and rows before, and with those of
-- some, one after the other: so the builder adds them.
abbrev pub with_entry_of : ℕ → ℕ → ℕ → LinearProgram → Coefficient → LinearProgram
with_entry_of arcs columns rows p c = with_entry p (column_of arcs columns c.variable) (rows + c.constraint) (amount_value c.value)

abbrev pub with_entries_of : ℕ → ℕ → ℕ → LinearProgram → List Coefficient → LinearProgram
with_entries_of arcs columns rows p cs = fold (with_entry_of arcs columns rows) p cs

-- A network without constraints: one label for each part, no side row, and entries at nodes alone.
abbrev pub HasEntriesBelow : ℕ → Column → Type 0
HasEntriesBelow n c = All (λ e. e.row < n) c.entries

pub record IsPlain (n : Network) : Type 0 where
  pub numbered : AreNumbered n.labels n.program
  pub no_sides : length n.program.rows ≡ n.program.nodes
  pub few_rows : length n.program.rows ≤ 2 ^ 20
  pub few_columns : length n.program.columns ≤ 2 ^ 20
  pub own_arcs : n.labels.own_arcs ≤ length n.program.columns
  pub entries : All (HasEntriesBelow (length n.program.rows)) n.program.columns
