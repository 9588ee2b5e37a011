-- The steps of pricing, summed over the columns, are within a multiple of the size of the problem.
use Rattle.std.proofs.Common.{◌≡◌, ℕ, zero, suc, ◌<◌, ◌≤◌, ◌+◌, ◌*◌, ◌-◌, List, [], ◌∷◌, length, refl, sym, ◌∙◌, ap, subst, arith, take, lt-ltb, le-ltb, Bool, if◌then◌else◌}
use Rattle.std.specs.List.{All, sum_by}
use Rattle.std.proofs.lemmas.List.Sums.{sum_by-cons, sum_by_more, sum_by-take-le}
use Rattle.nf_num.specs.Rational.{zero_ℚ}
use Rattle.std.proofs.Common.{None}
use Rattle.nf_model.specs.Problem.{IsColumn, IsProblem, count_in_sides}
use Rattle.nf_model.specs.Program.{LinearProgram, Column, column}
use Rattle.nf_simplex.specs.Size.{coefficients, size}
use Rattle.nf_simplex.specs.StageOf.{StageNumber, sides_in}
use Rattle.nf_simplex.specs.Layout.{layout_of}
use Rattle.nf_basis.specs.declared.col.Phase.{Phase}
use Rattle.nf_basis.specs.declared.col.Phase.TheVariants.{One, Two}
use Rattle.nf_duals.specs.Priced.{count_priced, price}
use Rattle.nf_price.specs.Cost.{paid, price_in}

pub paid_none : (p : LinearProgram) (phase : Phase) → paid p phase 0 ≡ 0
unfolding paid
paid_none p phase = refl

paid_suc : (p : LinearProgram) (phase : Phase) (n : ℕ) → paid p phase (suc n) ≡ paid p phase n + price_in p phase n
unfolding paid
paid_suc p phase n = refl

pub paid_more : (p : LinearProgram) (phase : Phase) (n : ℕ) → paid p phase (n + 1) ≡ paid p phase n + price_in p phase n
paid_more p phase n = ap (paid p phase) (let e : n + 1 ≡ suc n = omega arith in e) ∙ paid_suc p phase n

pub paid_up : (p : LinearProgram) (phase : Phase) (m k : ℕ) → paid p phase m ≤ paid p phase (m + k)
paid_up p phase m zero = let e : paid p phase (m + 0) ≡ paid p phase m = ap (paid p phase) (omega arith) in omega (arith, e)
paid_up p phase m (suc k) =
    let e : paid p phase (m + suc k) ≡ paid p phase (m + k) + price_in p phase (m + k) = ap (paid p phase) (omega arith) ∙ paid_suc p phase (m + k) in
    omega (arith, e, paid_up p phase m k)

-- more columns cost no less
pub paid_within : (p : LinearProgram) (phase : Phase) (m n : ℕ) → m ≤ n → paid p phase m ≤ paid p phase n
paid_within p phase m n h = subst (λ k. paid p phase m ≤ paid p phase k) (let e : m + (n - m) ≡ n = omega arith in e) (paid_up p phase m (n - m))

-- phase two costs twice as much as phase one
paid_two : (p : LinearProgram) (n : ℕ) → paid p Two n ≡ paid p One n + paid p One n
paid_two p zero = let a = paid_none p Two in let b = paid_none p One in omega (arith, a, b)
paid_two p (suc n) = omega (arith, paid_suc p Two n, paid_suc p One n, paid_two p n)

pub paid_phase : (p : LinearProgram) (phase : Phase) (n : ℕ) → paid p phase n ≤ paid p Two n
paid_phase p One n = let a = paid_two p n in omega (arith, a)
paid_phase p Two n = omega arith

abbrev weight : Column → ℕ
weight c = 2 * length c.entries + 1

abbrev no_column : Column
no_column = record { cost = zero_ℚ; lower = None; upper = None; ends = None; entries = [] }

price_given : (p : LinearProgram) (k : ℕ) → k < length p.columns → price p k ≡ weight (column p k)
price_given p k h = ap (λ (b : Bool). if b then weight (column p k) else 0) (lt-ltb k (length p.columns) h)

price_slack : (p : LinearProgram) (k : ℕ) → length p.columns ≤ k → price p k ≡ 0
price_slack p k h = ap (λ (b : Bool). if b then weight (column p k) else 0) (le-ltb k (length p.columns) h)

paid_given : (p : LinearProgram) (n : ℕ) → n ≤ length p.columns → paid p One n ≤ sum_by weight (take n p.columns)
paid_given p zero h = let e = paid_none p One in omega (arith, e)
paid_given p (suc n) h =
    let more : sum_by weight (take (n + 1) p.columns) ≡ sum_by weight (take n p.columns) + weight (column p n) = sum_by_more weight p.columns n no_column (omega arith) in
    let same : sum_by weight (take (suc n) p.columns) ≡ sum_by weight (take (n + 1) p.columns) = ap (λ k. sum_by weight (take k p.columns)) (let e : suc n ≡ n + 1 = omega arith in e) in
    omega (arith, paid_suc p One n, price_given p n (omega arith), paid_given p n (omega arith), more, same)

paid_slacks : (p : LinearProgram) (k : ℕ) → paid p One (length p.columns + k) ≡ paid p One (length p.columns)
paid_slacks p zero = ap (paid p One) (omega arith)
paid_slacks p (suc k) =
    let e : paid p One (length p.columns + suc k) ≡ paid p One (length p.columns + k) + price p (length p.columns + k) = ap (paid p One) (omega arith) ∙ paid_suc p One (length p.columns + k) in
    omega (arith, e, price_slack p (length p.columns + k) (omega arith), paid_slacks p k)

-- a column costs 5 and twice its coefficients in side rows
columns_cost : (nodes rows : ℕ) (cs : List Column) → All (IsColumn nodes rows) cs → sum_by weight cs ≤ 5 * length cs + 2 * sum_by (λ c. count_in_sides nodes c.entries) cs
columns_cost nodes rows [] h = omega arith
columns_cost nodes rows (c ∷ cs) h =
    let few : length c.entries ≤ 2 + count_in_sides nodes c.entries = (h 0 c (omega arith)).few_at_nodes in
    let rest = columns_cost nodes rows cs (λ k d b. h (suc k) d (omega arith)) in
    omega (arith, sum_by-cons weight c cs, sum_by-cons (λ d. count_in_sides nodes d.entries) c cs, few, rest)

enough : (a b c d x : ℕ) → x ≤ 5 * a + 2 * b → x + (x + x) ≤ 16 * (a + b + c + d)
enough a b c d x h = omega arith

-- both phases together
pub paid_in_all : (p : LinearProgram) (n : StageNumber) → IsProblem p → paid p One (count_priced p) + paid p Two (count_priced p) ≤ 16 * size p n
paid_in_all p n q =
    let within : paid p One (length p.columns) ≤ sum_by weight (take (length p.columns) p.columns) = paid_given p (length p.columns) (omega arith) in
    let all : sum_by weight (take (length p.columns) p.columns) ≤ sum_by weight p.columns = sum_by-take-le weight p.columns (length p.columns) in
    let cost : sum_by weight p.columns ≤ 5 * length p.columns + 2 * coefficients p = columns_cost p.nodes (length p.rows) p.columns q.each in
    let slacks : paid p One (count_priced p) ≡ paid p One (length p.columns) = paid_slacks p (layout_of p).sides in
    let one : paid p One (count_priced p) ≤ 5 * length p.columns + 2 * coefficients p = omega (arith, within, all, cost, slacks) in
    subst (λ z. paid p One (count_priced p) + z ≤ 16 * size p n) (sym (paid_two p (count_priced p)))
    (enough (length p.columns) (coefficients p) p.nodes (suc (sides_in (layout_of p) n) * suc (sides_in (layout_of p) n)) (paid p One (count_priced p)) one)
