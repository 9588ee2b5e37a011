-- Changes of a state as data: one place or sign, a pivot, a flip; and the state in which nothing is basic.
-- The calls that change a state promise exactly these.
use Rattle.std.specs.Prelude.{◌≡◌, ℕ, Bool, false, set, cond, ltb}
use Rattle.nf_model.specs.Program.{LinearProgram, HoldsBelow}
use Rattle.nf_simplex.specs.Place.{Place, Lower, Upper, Zero, Absent, Basic}
use Rattle.nf_simplex.specs.Layout.{Layout, layout_of}
use Rattle.nf_simplex.specs.Columns.{Col, Given, Slack, Artificial}
use Rattle.nf_simplex.specs.StageOf.{StageNumber, StageOne, StageTwo}
use Rattle.nf_simplex.specs.Starts.{nonarc_place, idle_place}
use Rattle.nf_simplex.specs.Standing.{Standing, number_in, column_in, HoldsOfColumns, place_at, place_of, is_negative, rows_of, IsStateOf}

-- s with the column with number j in place a.
abbrev pub with_place : Standing → ℕ → Place → Standing
with_place s j a = record { stage = s.stage; places = set s.places j a; negative = s.negative }

-- s with the artificial of row r negative or not.
abbrev pub with_negative : Standing → ℕ → Bool → Standing
with_negative s r b = record { stage = s.stage; places = s.places; negative = set s.negative r b }

-- s after a pivot: one column is basic, and another one stands in place a.
abbrev pub exchanged : LinearProgram → Standing → Col → Col → Place → Standing
exchanged p s entering leaving a = with_place (with_place s (number_in p entering) Basic) (number_in p leaving) a

-- The other of two bounds; other places stay.
abbrev pub other_bound : Place → Place
other_bound Lower = Upper
other_bound Upper = Lower
other_bound Zero = Zero
other_bound Absent = Absent
other_bound Basic = Basic

-- s after a flip: the column stands at its other bound.
abbrev pub flipped : LinearProgram → Standing → Col → Standing
flipped p s c = with_place s (number_in p c) (other_bound (place_of p s c))

-- Where a column stands when nothing is basic: arcs, slacks and artificials at their lower bounds, nonarc variables
-- where stage two starts them.
abbrev pub resting_place : Layout → StageNumber → Col → Place
resting_place p StageOne (Given j) = cond (ltb j p.arcs) Lower Absent
resting_place p StageOne (Slack r) = Absent
resting_place p StageOne (Artificial r) = cond (ltb r p.nodes) Lower Absent
resting_place p StageTwo (Given j) = cond (ltb j p.arcs) Lower (nonarc_place (p.lower j) (p.upper j))
resting_place p StageTwo (Slack r) = idle_place (p.kind r)
resting_place p StageTwo (Artificial r) = Lower

-- s is the state of a stage in which nothing is basic and no artificial is negative.
pub record IsRestingState (p : LinearProgram) (n : StageNumber) (s : Standing) : Type 0 where
  pub state : IsStateOf p s
  pub stage : s.stage ≡ n
  pub places : HoldsOfColumns p (λ j. place_at s j ≡ resting_place (layout_of p) n (column_in p j))
  pub signs : HoldsBelow (rows_of p s) (λ r. is_negative s r ≡ false)
