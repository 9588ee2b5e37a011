-- The order of the rows in a vector has the rows of the stage alone, and each of them.
use Rattle.std.specs.Prelude.{◌≡◌, ℕ, ◌+◌, ◌-◌, ◌<◌, ◌≤◌, ◌⊎◌, cond, ltb}
use Rattle.std.proofs.Common.{inl, inr, lt-ltb, le-ltb, sym, ap, ◌∙◌, subst, arith}
use Rattle.nf_simplex.specs.Stage.{Stage, side_first, order}

pub yes_less : {A : Type 0} (i n : ℕ) (x y : A) → i < n → cond (ltb i n) x y ≡ x
yes_less i n x y h = ap (λ b. cond b x y) (lt-ltb i n h)

pub not_less : {A : Type 0} (i n : ℕ) (x y : A) → n ≤ i → cond (ltb i n) x y ≡ y
not_less i n x y h = ap (λ b. cond b x y) (le-ltb i n h)

pub less_or_not : (i n : ℕ) → (i < n) ⊎ (n ≤ i)
less_or_not i n = grind arith

-- the k-th side row, and the k-th row behind the side rows
pub at_sides : (nodes sides k : ℕ) → k < sides → side_first nodes sides k ≡ nodes + k
at_sides nodes sides k l = yes_less k sides (nodes + k) (k - sides) l

pub past_sides : (nodes sides k : ℕ) → side_first nodes sides (sides + k) ≡ k
past_sides nodes sides k = not_less (sides + k) sides (nodes + (sides + k)) (sides + k - sides) (omega arith) ∙ omega arith

-- without side rows the order is that of the numbers
pub no_sides_order : (S : Stage) → S.sides ≡ 0 → (k : ℕ) → order S k ≡ k
no_sides_order S e k = not_less k S.sides (S.rows - S.sides + k) (k - S.sides) (omega arith) ∙ omega arith

pub order_within : (S : Stage) (k : ℕ) → k < S.rows → order S k < S.rows
order_within S k h = of (less_or_not k S.sides)
  where
    of : (k < S.sides) ⊎ (S.sides ≤ k) → order S k < S.rows
    of (inl l) = subst (λ y. y < S.rows) (sym (yes_less k S.sides (S.rows - S.sides + k) (k - S.sides) l)) (omega arith)
    of (inr l) = subst (λ y. y < S.rows) (sym (not_less k S.sides (S.rows - S.sides + k) (k - S.sides) l)) (omega arith)

pub order_onto : (S : Stage) (r : ℕ) → r < S.rows → (k : ℕ) × (k < S.rows) × (order S k ≡ r)
order_onto S r h = of (less_or_not S.rows S.sides) (less_or_not r (S.rows - S.sides))
  where
    of : (S.rows < S.sides) ⊎ (S.sides ≤ S.rows) → (r < S.rows - S.sides) ⊎ (S.rows - S.sides ≤ r) → (k : ℕ) × (k < S.rows) × (order S k ≡ r)
    of (inl m) x = (r, h, yes_less r S.sides (S.rows - S.sides + r) (r - S.sides) (omega arith) ∙ omega arith)
    of (inr m) (inl l) = (S.sides + r, omega arith, past_sides (S.rows - S.sides) S.sides r)
    of (inr m) (inr l) = (r - (S.rows - S.sides), omega arith, yes_less (r - (S.rows - S.sides)) S.sides (S.rows - S.sides + (r - (S.rows - S.sides))) (r - (S.rows - S.sides) - S.sides) (omega arith) ∙ omega arith)
