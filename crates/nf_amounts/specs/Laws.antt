-- What is read of a planner's program and data has amounts, and is not too much.
-- The functions of this crate promise it; so the range law of stage one holds of every problem that is read.
use Rattle.std.specs.Prelude.{◌≡◌, ℕ, List, Ok, IfSome}
use Rattle.nf_frac.specs.Amounts.{IsAmount}
use Rattle.nf_table.specs.Grid.{Grid}
use Rattle.nf_program.specs.declared.program.Bound.{Bound}
use Rattle.nf_program.specs.declared.program.Bound.TheVariants.{Finite, Infinite}
use Rattle.nf_program.specs.declared.program.Command.{Command}
use Rattle.nf_program.specs.declared.program.ProcOptions.{ProcOptions}
use Rattle.nf_program.specs.declared.program.Program.{Program}
use Rattle.nf_program.specs.Grammar.{HasProgram}
use Rattle.nf_roles.specs.Roles.{RoleColumns}
use Rattle.nf_network.specs.Network.{Network}
use Rattle.nf_cons.specs.Due.{IsNetworkOf, dense_due}
use Rattle.nf_cons_sparse.specs.SparseDue.{sparse_due}
use Rattle.nf_simplex.specs.Layout.{layout_of}
use Rattle.nf_simplex.specs.StageOf.{HasStageTwo}
use Rattle.nf_width.specs.Amounts.{HasAmounts}

-- A bound is infinite, or an amount that a text can write.
abbrev pub IsBound : Bound → Type 0
IsBound (Finite a) = IsAmount a
IsBound Infinite = Unit {0}

-- The numbers of the options are amounts that a text can write.
pub record HasOptionAmounts (o : ProcOptions) : Type 0 where
  pub cost : IfSome o.defcost IsAmount
  pub lower : IfSome o.defminflow IsAmount
  pub upper : IfSome o.defcapacity IsBound
  pub supply : IfSome o.supply IsAmount
  pub demand : IfSome o.demand IsAmount

-- So are those of every program.
abbrev pub OptionsHaveAmounts : Type 0
OptionsHaveAmounts = (c : Command) (text : List ℕ) (p : Program) → HasProgram c text p → HasOptionAmounts p.proc

-- A network of ARCDATA and NODEDATA has amounts.
abbrev pub NetworksHaveAmounts : Type 0
NetworksHaveAmounts = (o : ProcOptions) (n : Network) → HasOptionAmounts o → IsNetworkOf o n → HasAmounts n.program

-- It has no stage two.
abbrev pub NetworksHaveOneStage : Type 0
NetworksHaveOneStage = (o : ProcOptions) (n : Network) → IsNetworkOf o n → HasStageTwo (layout_of n.program) → ⊥

-- Such a network with the constraints of dense CONDATA has amounts.
abbrev pub DenseHasAmounts : Type 0
DenseHasAmounts =
    (o : ProcOptions) (n : Network) (roles : RoleColumns) (table : Grid) (m : Network) → HasOptionAmounts o → IsNetworkOf o n
    → dense_due o n roles table ≡ Ok m → HasAmounts m.program

-- So it is with sparse CONDATA.
abbrev pub SparseHasAmounts : Type 0
SparseHasAmounts =
    (o : ProcOptions) (n : Network) (roles : RoleColumns) (table : Grid) (m : Network) → HasOptionAmounts o → IsNetworkOf o n
    → sparse_due o n roles table ≡ Ok m → HasAmounts m.program
