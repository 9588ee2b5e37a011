-- The numbers of a state that its tables show, and why they are not listed.
-- The calls of this crate promise them, and what is stored and printed of a state is made of them.
use Rattle.std.specs.Prelude.{◌≡◌, ℕ, Bool, List, length}
use Rattle.nf_num.specs.Rational.{ℚ, zero_ℚ, ◌*ℚ◌}
use Rattle.nf_model.specs.Program.{LinearProgram, column, at, row_sum}
use Rattle.nf_model.specs.Certificate.{reduced_cost}
use Rattle.nf_model.specs.Lists.{list_of}
use Rattle.nf_sums.specs.Terms.{PassesIn, with_sign}
use Rattle.nf_simplex.specs.Place.{Place, Lower, Upper, Zero, Absent, Basic}
use Rattle.nf_simplex.specs.Standing.{Standing, place_at, rows_of}
use Rattle.nf_basis.specs.Arising.{StateTerms}
use Rattle.nf_duals.specs.Printed.{ArePrintedBy}
use Rattle.nf_simplex.specs.Verdicts.{AreGivenValues}
use Rattle.nf_figures.specs.declared.figures.Figures.{Figures}
use Rattle.nf_figures.specs.declared.fault.FigureFault.{FigureFault}
use Rattle.nf_figures.specs.declared.fault.FigureFault.TheVariants as fault

-- ---- columns
-- What the flow of column j costs, in the program's own sense: a program that maximises has the costs negated.
abbrev pub flow_cost : LinearProgram → List ℚ → ℕ → ℚ
flow_cost p x j = with_sign p.maximizes (column p j).cost *ℚ at x j

-- The list has what the flow of each column costs.
abbrev pub AreFlowCosts : LinearProgram → List ℚ → List ℚ → Type 0
AreFlowCosts p x costs = costs ≡ list_of (length p.columns) (flow_cost p x)

-- A number of a column, and 0 if the column is absent.
abbrev pub if_there : Place → ℚ → ℚ
if_there Lower v = v
if_there Upper v = v
if_there Zero v = v
if_there Absent v = zero_ℚ
if_there Basic v = v

-- The list has the reduced cost of each column by these duals, and 0 for a column that the stage lacks.
abbrev pub AreReducedCosts : LinearProgram → Standing → List ℚ → List ℚ → Type 0
AreReducedCosts p s y costs = costs ≡ list_of (length p.columns) (λ j. if_there (place_at s j) (reduced_cost p y j))

-- ---- rows
-- The list has the sum of each row of the stage.
abbrev pub AreRowSums : LinearProgram → Standing → List ℚ → List ℚ → Type 0
AreRowSums p s x sums = sums ≡ list_of (rows_of p s) (row_sum p x)

-- The list has the printed dual of each row of the stage; `best` says whether the state has ended optimal.
pub record AreShownDuals (p : LinearProgram) (s : Standing) (best : Bool) (duals : List ℚ) : Type 0 where
  pub one_each : length duals ≡ rows_of p s
  pub factor : ℚ
  pub printed : ArePrintedBy p s best factor duals

-- ---- all of them
-- They are the figures of a state; `best` says whether it has ended optimal.
pub record AreFigures (p : LinearProgram) (s : Standing) (best : Bool) (f : Figures) : Type 0 where
  pub flows : AreGivenValues p s f.flows
  pub costs : AreFlowCosts p f.flows f.costs
  pub reduced : AreReducedCosts p s f.duals f.reduced
  pub sums : AreRowSums p s f.flows f.sums
  pub duals : AreShownDuals p s best f.duals

-- ---- faults
-- The numbers are not listed for want of memory, or since an operation overflows that arises from the state.
abbrev pub IsFigureFault : LinearProgram → Standing → FigureFault → Type 0
IsFigureFault p s (fault.Passed passed) = PassesIn (StateTerms p s) passed
IsFigureFault p s fault.NoMemory = Unit {0}
