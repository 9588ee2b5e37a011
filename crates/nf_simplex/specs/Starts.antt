-- The first states of both stages, by the names of their columns.
-- What a run starts from is said over them.
use Rattle.std.specs.Prelude.{◌≡◌, ℕ, ◌↔◌, Option, Some, None, Bool, true, false, cond, ltb}
use Rattle.nf_num.specs.Rational.{ℚ, zero_ℚ, ◌*ℚ◌, ◌-ℚ◌, ◌≤ℚ◌, ◌<ℚ◌}
use Rattle.nf_num.specs.Sum.{sum_ℚ}
use Rattle.nf_model.specs.declared.RowKind.{RowKind}
use Rattle.nf_model.specs.declared.RowKind.TheVariants.{Eq, Le, Ge}
use Rattle.nf_simplex.specs.Place.{Place, Lower, Upper, Zero, Absent, Basic}
use Rattle.nf_simplex.specs.Layout.{Layout}
use Rattle.nf_simplex.specs.Columns.{Col, Given, Slack, Artificial}

-- A bound as a number: 0 where there is none.
abbrev pub or_zero : Option ℚ → ℚ
or_zero None = zero_ℚ
or_zero (Some x) = x

-- Where a column stands at the start of stage one: arcs at their lower bounds, the node rows' artificials basic.
abbrev pub first_place : Layout → Col → Place
first_place p (Given j) = cond (ltb j p.arcs) Lower Absent
first_place p (Slack r) = Absent
first_place p (Artificial r) = cond (ltb r p.nodes) Basic Absent

-- What row i lacks with all arcs at their lower bounds: its right side less their entries times these bounds.
abbrev pub first_rest : Layout → ℕ → ℚ
first_rest p i = p.right i -ℚ sum_ℚ p.arcs (λ j. or_zero (p.lower j) *ℚ p.entry j i)

-- Where a nonarc variable starts: at its lower bound, else at its upper bound, else at zero.
abbrev pub nonarc_place : Option ℚ → Option ℚ → Place
nonarc_place (Some l) u = Lower
nonarc_place None (Some u) = Upper
nonarc_place None None = Zero

-- The number of a nonarc variable there.
abbrev pub nonarc_number : Option ℚ → Option ℚ → ℚ
nonarc_number (Some l) u = l
nonarc_number None (Some u) = u
nonarc_number None None = zero_ℚ

-- The number of a given column at the start of stage two: an arc keeps its value x of stage one.
abbrev pub second_number : Layout → (ℕ → ℚ) → ℕ → ℚ
second_number p x j = cond (ltb j p.arcs) (x j) (nonarc_number (p.lower j) (p.upper j))

-- What row i lacks with these numbers.
abbrev pub second_rest : Layout → (ℕ → ℚ) → ℕ → ℚ
second_rest p x i = p.right i -ℚ sum_ℚ p.columns (λ j. second_number p x j *ℚ p.entry j i)

-- The slack of a side row that lacks so much has a positive vector.
abbrev pub TakesSlack : RowKind → ℚ → Type 0
TakesSlack Eq rest = ⊥
TakesSlack Le rest = zero_ℚ ≤ℚ rest
TakesSlack Ge rest = rest <ℚ zero_ℚ

-- Where a slack stands that is not basic at the start of stage two.
abbrev pub idle_place : RowKind → Place
idle_place Eq = Absent
idle_place Le = Lower
idle_place Ge = Lower

-- How a side row of this kind that lacks so much starts: its slack is basic where its vector is positive, and its
-- artificial then at its lower bound; else the artificial is basic, and negative where the rest is.
pub record StartsRow (kind : RowKind) (rest : ℚ) (slack artificial : Place) (negative : Bool) : Type 0 where
  pub by_slack : TakesSlack kind rest → (slack ≡ Basic) × (artificial ≡ Lower) × (negative ≡ false)
  pub by_artificial : (TakesSlack kind rest → ⊥) → (slack ≡ idle_place kind) × (artificial ≡ Basic) × ((negative ≡ true) ↔ (rest <ℚ zero_ℚ))
