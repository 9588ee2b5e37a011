-- The values that rows of CONDATA give variables: coefficients of constraints, and costs and bounds of nonarc variables.
-- The entries and columns of the constrained problem, and the faults of values, rest on these words.
use Rattle.std.specs.Prelude.{◌++◌, ◌&&◌, ℕ, Bool, not, List, [], ◌∷◌, Option, if◌then◌else◌, nat_eq, map}
use Rattle.std.specs.List.{flat_map}
use Rattle.std.specs.Map.{lookup}
use Rattle.std.specs.Option.{is_some}
use Rattle.nf_frac.specs.declared.amount.Amount.{Amount}
use Rattle.nf_roles.specs.declared.fault.DataKind.TheVariants as kind
use Rattle.nf_cons.specs.declared.places.PlacedFault.{PlacedFault}
use Rattle.nf_cons.specs.declared.taken.Coefficient.{Coefficient}
use Rattle.nf_cons.specs.declared.taken.Term.{Term}
use Rattle.nf_cons.specs.declared.row_type.RowType.{RowType}
use Rattle.nf_cons.specs.declared.row_type.RowType.TheVariants.{Le, Ge, Eq, Cost, Lower, Upper}
use Rattle.nf_cons.specs.declared.value.Value.{Value}
use Rattle.nf_cons.specs.declared.value.Value.TheVariants.{Finite, NoUpper, NoLower}
use Rattle.nf_cons.specs.Places.{fault_if}
use Rattle.nf_cons.specs.Types.{is_side, same_type}
use Rattle.nf_cons.specs.Values.{may_be}

-- A row of this type gives a variable a value. A constraint that is a row of the problem has a number, from 0.
pub record Given : Type 0 where
  pub row_type : RowType
  pub term : Term
  pub constraint : ℕ
  pub row : ℕ

-- A gift is a variable, what it is given, and the row that gives it.
abbrev pub Gift : Type 0
Gift = ℕ × (Value × ℕ)

-- The coefficients of constraints, and what rows of each type of data give.
pub record TermLists : Type 0 where
  pub coefficients : List Coefficient
  pub costs : List Gift
  pub lowers : List Gift
  pub uppers : List Gift

-- The amount that a value is, if it is one.
abbrev pub amount_in : Value → List Amount
amount_in (Finite a) = a ∷ []
amount_in NoUpper = []
amount_in NoLower = []

-- The coefficient that is given, if it is one of a constraint.
abbrev pub coefficient_of : Given → List Coefficient
coefficient_of g =
    if is_side g.row_type
    then map (λ a. record { variable = g.term.variable; constraint = g.constraint; value = a }) (amount_in g.term.value)
    else []

-- The gift of a row, if it is of this type.
abbrev pub gift_of : RowType → Given → List Gift
gift_of t g = if same_type t g.row_type then (g.term.variable, (g.term.value, g.row)) ∷ [] else []

-- All that is given.
abbrev pub lists_of : List Given → TermLists
lists_of gs = record {
  coefficients = flat_map coefficient_of gs;
  costs = flat_map (gift_of Cost) gs;
  lowers = flat_map (gift_of Lower) gs;
  uppers = flat_map (gift_of Upper) gs;
}

-- What rows of a type of data give.
abbrev pub gifts_for : RowType → TermLists → List Gift
gifts_for Le ls = []
gifts_for Ge ls = []
gifts_for Eq ls = []
gifts_for Cost ls = ls.costs
gifts_for Lower ls = ls.lowers
gifts_for Upper ls = ls.uppers

-- What a variable is given, with the row, if it is given anything.
abbrev pub gift_to : ℕ → List Gift → Option (Value × ℕ)
gift_to v gs = lookup (nat_eq v) gs

-- A variable is given something.
abbrev pub is_given : ℕ → List Gift → Bool
is_given v gs = is_some (gift_to v gs)

-- What was given, with a coefficient of a constraint.
abbrev pub with_coefficient : TermLists → Term → ℕ → TermLists
with_coefficient ls term constraint = record ls {
  coefficients = ls.coefficients ++ map (λ a. record { variable = term.variable; constraint = constraint; value = a }) (amount_in term.value);
}

-- What was given, with the gift of a row of this type.
abbrev pub with_gift : RowType → Gift → TermLists → TermLists
with_gift Le g ls = ls
with_gift Ge g ls = ls
with_gift Eq g ls = ls
with_gift Cost g ls = record ls { costs = ls.costs ++ g ∷ [] }
with_gift Lower g ls = record ls { lowers = ls.lowers ++ g ∷ [] }
with_gift Upper g ls = record ls { uppers = ls.uppers ++ g ∷ [] }

-- What was given, with one value more.
abbrev pub with_given : TermLists → Given → TermLists
with_given ls g = with_gift g.row_type (g.term.variable, (g.term.value, g.row)) (record ls { coefficients = ls.coefficients ++ coefficient_of g })

abbrev pub no_lists : TermLists
no_lists = record { coefficients = []; costs = []; lowers = []; uppers = [] }

-- The faults of a cost or bound, where these were given before.
abbrev pub gift_faults : Term → List Gift → List (Option PlacedFault)
gift_faults term before =
    fault_if term.is_arc term.named_at kind.ArcHere
    ∷ fault_if (is_given term.variable before) term.named_at kind.RepeatedCoefficient
    ∷ []

-- The faults of a value that a row of this type gives a variable, where so much was given before: the row may give it, costs
-- and bounds are those of nonarc variables, and each is given once.
abbrev pub term_faults : RowType → Term → TermLists → List (Option PlacedFault)
term_faults t term before =
    fault_if (not (may_be t term.value)) term.given_at kind.Amount
    ∷ fault_if (not (is_side t) && term.is_arc) term.named_at kind.ArcHere
    ∷ fault_if (is_given term.variable (gifts_for t before)) term.named_at kind.RepeatedCoefficient
    ∷ []
