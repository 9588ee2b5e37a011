-- Facts on trimming.
use Rattle.std.proofs.Common.{◌≡◌, ◌≢◌, ◌≤◌, ◌<◌, ◌-◌, ℕ, zero, suc, List, [], ◌∷◌, ◌++◌, true, false, length, take, get_or, refl, sym, ap, ◌∙◌, arith}
use Rattle.std.proofs.Math.Seq.{take-suc}
use Rattle.std.specs.List.{list_all}
use Rattle.nf_cells.specs.Cells.{is_space, trim_end}

all-space : (xs : List ℕ) (b : ℕ) → is_space b ≡ true → list_all is_space (xs ++ b ∷ []) ≡ list_all is_space xs
all-space [] b h = grind (arith, h)
all-space (x ∷ xs) b h = rw (all-space xs b h) refl

not-all : (xs : List ℕ) (b : ℕ) → is_space b ≡ false → list_all is_space (xs ++ b ∷ []) ≡ false
not-all [] b h = grind (arith, h)
not-all (x ∷ xs) b h = rw (not-all xs b h) (grind (arith))

-- a space at the end does not count
pub trim_end-space : (xs : List ℕ) (b : ℕ) → is_space b ≡ true → trim_end (xs ++ b ∷ []) ≡ trim_end xs
trim_end-space [] b h = grind (arith, h)
trim_end-space (x ∷ xs) b h = rw (all-space xs b h, trim_end-space xs b h) refl

-- another byte at the end ends the value
pub trim_end-other : (xs : List ℕ) (b : ℕ) → is_space b ≡ false → trim_end (xs ++ b ∷ []) ≡ xs ++ b ∷ []
trim_end-other [] b h = grind (arith, h)
trim_end-other (x ∷ xs) b h = rw (trim_end-other xs b h, not-all xs b h) (grind (arith))

-- the step and the end of a loop that goes back over spaces
pub trim_end-back : (xs : List ℕ) (e : ℕ) → 0 < e → e ≤ length xs → get_or xs (e - 1) 0 ≡ 32 → trim_end (take (e - 1) xs) ≡ trim_end (take e xs)
trim_end-back xs zero h le is = absurd (omega arith)
trim_end-back xs (suc k) h le is =
    let e : take (suc k) xs ≡ take k xs ++ get_or xs k 0 ∷ [] = take-suc xs k 0 (omega arith) in
    let at : get_or xs k 0 ≡ 32 = ap (λ j. get_or xs j 0) (omega arith) ∙ is in
    let less : suc k - 1 ≡ k = omega arith in
    let space : is_space (get_or xs k 0) ≡ true = rw at refl in
    rw (less, e) (sym (trim_end-space (take k xs) (get_or xs k 0) space))

pub trim_end-stands : (xs : List ℕ) (e : ℕ) → 0 < e → e ≤ length xs → get_or xs (e - 1) 0 ≢ 32 → trim_end (take e xs) ≡ take e xs
trim_end-stands xs zero h le is = absurd (omega arith)
trim_end-stands xs (suc k) h le is =
    let e : take (suc k) xs ≡ take k xs ++ get_or xs k 0 ∷ [] = take-suc xs k 0 (omega arith) in
    let less : suc k - 1 ≡ k = omega arith in
    let not : get_or xs k 0 ≢ 32 = rw less at is in
    let other : is_space (get_or xs k 0) ≡ false = grind (arith, not) in
    rw e (trim_end-other (take k xs) (get_or xs k 0) other)

pub trim_end-none : (xs : List ℕ) (e : ℕ) → e ≤ 0 → trim_end (take e xs) ≡ take e xs
trim_end-none xs zero h = refl
trim_end-none xs (suc k) h = absurd (omega arith)
