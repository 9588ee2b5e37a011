-- The candidate queue: what pricing carries from step to step, the tidied queue, and its front.
-- What the rule QUEUE picks, and the queue that it leaves, is said by it.
use Rattle.std.specs.Prelude.{◌≡◌, ◌≢◌, ◌⊎◌, ℕ, zero, suc, ◌<◌, ◌≤◌, List, [], ◌∷◌}

-- What pricing carries from step to step: the number of the column that was picked last, 0 where none was, and the
-- queue, a list of such numbers. Both count columns from 1.
pub record PricingState : Type 0 where
  pub cursor : ℕ
  pub queue : List ℕ

-- P holds of the column with this number, counted from 1.
abbrev pub OfNumber : (ℕ → Type 0) → ℕ → Type 0
OfNumber P zero = ⊥
OfNumber P (suc j) = P j

-- a comes before b in the order of the numbers greater than the cursor and then the rest.
abbrev pub ComesBefore : ℕ → ℕ → ℕ → Type 0
ComesBefore cursor a b = ((cursor < a) × (b ≤ cursor)) ⊎ ((a < b) × ((cursor < a) ⊎ (b ≤ cursor)))

-- ys are the members of xs with P, in their order.
abbrev pub AreKept : (ℕ → Type 0) → List ℕ → List ℕ → Type 0
AreKept P [] ys = ys ≡ []
AreKept P (x ∷ xs) [] = (P x → ⊥) × AreKept P xs []
AreKept P (x ∷ xs) (y ∷ ys) = (P x × (y ≡ x) × AreKept P xs ys) ⊎ ((P x → ⊥) × AreKept P xs (y ∷ ys))

-- y is the first number with P in the order of the cursor.
abbrev pub IsFirstNumber : ℕ → (ℕ → Type 0) → ℕ → Type 0
IsFirstNumber cursor P y = P y × ((i : ℕ) → P i → (i ≡ y) ⊎ ComesBefore cursor y i)

-- ys are the first numbers with P in the order of the cursor, as many as the size or all: the first of all, and then
-- the first ones of the others.
abbrev pub AreFirst : ℕ → ℕ → (ℕ → Type 0) → List ℕ → Type 0
AreFirst cursor size P [] = (size ≡ 0) ⊎ ((i : ℕ) → P i → ⊥)
AreFirst cursor zero P (y ∷ ys) = ⊥
AreFirst cursor (suc size) P (y ∷ ys) = IsFirstNumber cursor P y × AreFirst cursor size (λ i. P i × (i ≢ y)) ys

-- The queue tidied, if the columns with P are eligible: its eligible members, and if it has none, the first eligible
-- columns in the order of the cursor.
abbrev pub IsTidied : ℕ → PricingState → (ℕ → Type 0) → List ℕ → Type 0
IsTidied size at P ys = (AreKept (OfNumber P) at.queue ys × (ys ≢ [])) ⊎ (AreKept (OfNumber P) at.queue [] × AreFirst at.cursor size (OfNumber P) ys)

-- y is the first member of xs with P.
abbrev pub IsFirstMember : (ℕ → Type 0) → List ℕ → ℕ → Type 0
IsFirstMember P [] y = ⊥
IsFirstMember P (x ∷ xs) y = (P x × (y ≡ x)) ⊎ ((P x → ⊥) × IsFirstMember P xs y)

-- Column j is the front of the tidied queue: the first eligible member, and if there is none, the first eligible column
-- in the order of the cursor.
abbrev pub IsFront : PricingState → (ℕ → Type 0) → ℕ → Type 0
IsFront at P j = IsFirstMember (OfNumber P) at.queue (suc j) ⊎ (AreKept (OfNumber P) at.queue [] × IsFirstNumber at.cursor (OfNumber P) (suc j))

-- ys are the tidied queue without its front.
abbrev pub IsRestOfQueue : ℕ → PricingState → (ℕ → Type 0) → List ℕ → Type 0
IsRestOfQueue size at P ys = (front : ℕ) × IsTidied size at P (front ∷ ys)
