-- A stage has no more rows than its problem, and its rows are fewer than its size.
use Rattle.std.proofs.Common.{◌≡◌, ℕ, suc, ◌+◌, ◌-◌, ◌*◌, ◌<◌, ◌≤◌, length, ap, ap₂, ◌∙◌, arith}
use Rattle.std.proofs.Math.Nat.{mul-le-mul_left, mul-le-mul_right}
use Rattle.nf_model.specs.Program.{LinearProgram}
use Rattle.nf_model.specs.Problem.{IsProblem}
use Rattle.nf_simplex.specs.Layout.{layout_of}
use Rattle.nf_simplex.specs.Size.{size}
use Rattle.nf_simplex.specs.Stage.{order, side_first}
use Rattle.nf_simplex.specs.Standing.{Standing, stage_of, rows_of}
use Rattle.nf_simplex.proofs.Orders.{order_within}
use Rattle.nf_simplex.specs.StageOf.{StageNumber, StageOne, StageTwo, rows_in, sides_in}

pub rows_within : (p : LinearProgram) → IsProblem p → (n : StageNumber) → rows_in (layout_of p) n ≤ length p.rows
rows_within p ok StageOne = ok.nodes_within
rows_within p ok StageTwo = let h = ok.nodes_within in omega arith

square : (k : ℕ) → k < suc k * suc k
square k = grind arith

pub rows_small : (p : LinearProgram) (n : StageNumber) → rows_in (layout_of p) n < size p n
rows_small p StageOne = omega arith
rows_small p StageTwo = let h = square (length p.rows - p.nodes) in omega arith

-- The row of the stage that stands at a place of a vector.
pub order_is : (p : LinearProgram) (n : StageNumber) (k : ℕ) → side_first p.nodes (rows_in (layout_of p) n - p.nodes) k ≡ side_first (rows_in (layout_of p) n - sides_in (layout_of p) n) (sides_in (layout_of p) n) k
order_is p StageOne k = ap₂ (λ a b. side_first a b k) (let e : p.nodes ≡ p.nodes - 0 = omega arith in e) (let e : p.nodes - p.nodes ≡ 0 = omega arith in e)
order_is p StageTwo k = ap₂ (λ a b. side_first a b k) (let e : p.nodes ≡ p.nodes + (length p.rows - p.nodes) - (length p.rows - p.nodes) = omega arith in e) (let e : p.nodes + (length p.rows - p.nodes) - p.nodes ≡ length p.rows - p.nodes = omega arith in e)

pub nodes_first : (p : LinearProgram) (n : StageNumber) → p.nodes ≤ rows_in (layout_of p) n
nodes_first p StageOne = omega arith
nodes_first p StageTwo = omega arith

-- What so many inverse columns cost, of as many as are needed.
pub kept_cost : (now first c k t u : ℕ) → now ≤ first + (c + k * u) → k ≤ t → now ≤ first + (c + t * u)
kept_cost now first c k t u h le = let m = mul-le-mul_right u le in omega (arith, m)

suc_times : (k u : ℕ) → (k + 1) * u ≡ k * u + u
suc_times k u = grind arith

pub next_cost : (now later first c k t u m : ℕ) → now ≤ first + (c + k * (u + m)) → later ≤ now + (u + m) → k < t → later ≤ first + (c + t * (u + m))
next_cost now later first c k t u m h g lt =
    let e : (k + 1) * (u + m) ≡ k * (u + m) + (u + m) = suc_times k (u + m) in
    let l : (k + 1) * (u + m) ≤ t * (u + m) = mul-le-mul_right (u + m) (omega arith) in omega (arith, e, l)

pub step_cost : (now later first c k u m : ℕ) → now ≤ first + (c + k * (u + m)) → later ≤ now + (u + m) → later ≤ first + (c + (k + 1) * (u + m))
step_cost now later first c k u m h g = let e : (k + 1) * (u + m) ≡ k * (u + m) + (u + m) = suc_times k (u + m) in omega (arith, e)

-- The row that the code looks at is the next one in the order of vectors.
pub row_order : (p : LinearProgram) (s : Standing) (rows k row : ℕ) → rows ≡ rows_of p s → row ≡ suc (side_first p.nodes (rows - p.nodes) k) → row ≡ suc (order (stage_of p s) k)
row_order p s rows k row e is = is ∙ ap suc (ap (λ r. side_first p.nodes (r - p.nodes) k) e ∙ order_is p s.stage k)

pub row_there : (p : LinearProgram) (s : Standing) (k row : ℕ) → k < rows_of p s → row ≡ suc (order (stage_of p s) k) → (0 < row) × (row ≤ rows_of p s)
row_there p s k row h is = let o : order (stage_of p s) k < rows_of p s = order_within (stage_of p s) k h in (omega arith, omega arith)

one_times : (t u : ℕ) → (1 + t) * u ≡ u + t * u
one_times t u = grind arith

-- What a ratio test costs: the column's entries, and then its ratios with so many inverse columns.
pub column_cost : (old now t u w : ℕ) → now ≤ old + u → now ≤ old + (1 + t) * (u + 4 * w)
column_cost old now t u w h = let e : (1 + t) * (u + 4 * w) ≡ u + 4 * w + t * (u + 4 * w) = one_times t (u + 4 * w) in omega (arith, e)

pub test_cost : (old now later m t u w : ℕ) → now ≤ old + u → m < w → later ≤ now + (1 + 2 * m + t * (u + suc m)) → later ≤ old + (1 + t) * (u + 4 * w)
test_cost old now later m t u w h small g =
    let e : (1 + t) * (u + 4 * w) ≡ u + 4 * w + t * (u + 4 * w) = one_times t (u + 4 * w) in
    let l : t * (u + suc m) ≤ t * (u + 4 * w) = mul-le-mul_left t (omega arith) in
    omega (arith, e, l)
