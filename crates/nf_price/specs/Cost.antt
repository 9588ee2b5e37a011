-- The steps that pricing may take at the columns that it looks at.
-- The bound on `choose` rests on their sum.
use Rattle.std.specs.Prelude.{ℕ, zero, suc, ◌+◌, ◌==◌, Bool, List, cond, ltb}
use Rattle.std.specs.List.{list_any, sum_by}
use Rattle.nf_model.specs.Program.{LinearProgram}
use Rattle.nf_basis.specs.declared.col.Phase.{Phase}
use Rattle.nf_basis.specs.declared.col.Phase.TheVariants.{One, Two}
use Rattle.nf_duals.specs.Priced.{count_priced, price}
use Rattle.nf_price.specs.Turns.{in_turn}

-- The steps that a phase may take at the column with a number: phase two looks at its reduced cost in both phases.
abbrev pub price_in : LinearProgram → Phase → ℕ → ℕ
price_in p One k = price p k
price_in p Two k = price p k + price p k

-- The steps that a phase may take at the first n columns.
unfoldable pub paid : LinearProgram → Phase → ℕ → ℕ
paid p phase zero = 0
paid p phase (suc n) = paid p phase n + price_in p phase n

-- ---- with a queue
-- The steps that a phase may take at the column with a number from 1.
abbrev pub price_of : LinearProgram → Phase → ℕ → ℕ
price_of p phase zero = 0
price_of p phase (suc k) = cond (ltb k (count_priced p)) (price_in p phase k) 0

-- The steps that it may take at the members of a queue.
abbrev pub paid_members : LinearProgram → Phase → List ℕ → ℕ
paid_members p phase queue = sum_by (price_of p phase) queue

-- A number is a member of the queue.
abbrev pub has_member : List ℕ → ℕ → Bool
has_member queue n = list_any (λ m. m == n) queue

-- The steps that it may take at the column with a number from 1 if members are left out.
abbrev pub price_but : LinearProgram → Phase → List ℕ → ℕ → ℕ
price_but p phase queue n = cond (has_member queue n) 0 (price_of p phase n)

-- The steps that it may take so at the first t columns in turn.
unfoldable pub paid_turns : LinearProgram → Phase → List ℕ → ℕ → ℕ → ℕ
paid_turns p phase queue from zero = 0
paid_turns p phase queue from (suc t) = paid_turns p phase queue from t + price_but p phase queue (suc (in_turn from (count_priced p) t))
