-- Lists of distinct numbers, which a candidate queue keeps.
-- The calls of a queue promise them; the bound on the steps of pricing rests on it that no member is priced twice.
use Rattle.std.specs.Prelude.{⊤, ◌≡◌, ◌⊎◌, ℕ, List, [], ◌∷◌}
use Rattle.nf_simplex.specs.Queue.{PricingState}

-- A number is among others.
abbrev pub IsAmong : ℕ → List ℕ → Type 0
IsAmong n [] = ⊥
IsAmong n (x ∷ xs) = (n ≡ x) ⊎ IsAmong n xs

-- No number comes twice.
abbrev pub AreDistinct : List ℕ → Type 0
AreDistinct [] = ⊤
AreDistinct (x ∷ xs) = (IsAmong x xs → ⊥) × AreDistinct xs

-- The cursor and the queue together.
abbrev pub pricing : ℕ → List ℕ → PricingState
pricing cursor queue = record { cursor = cursor; queue = queue }
