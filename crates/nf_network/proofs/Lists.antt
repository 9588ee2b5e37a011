-- Facts on tests of lists, on joined lists and on sums.
use Rattle.std.proofs.Common.{◌≡◌, ◌+◌, ◌*◌, ◌++◌, ◌<◌, ◌≤◌, ◌+ℤ◌, ℕ, ℤ, zero, suc, unsigned_abs, Bool, true, false, List, [], ◌∷◌, length, map, take, drop, get_or, refl, sym, ap, ◌∙◌, arith}
use Rattle.std.proofs.lemmas.Int.{ints}
use Rattle.std.proofs.lemmas.List.{length-append, map-append, take-append-drop, take_more}
use Rattle.std.proofs.lemmas.List.Folds.{list_any-append}
use Rattle.std.specs.List.{list_any}
use Rattle.nf_network.specs.Excess.{joined_below}

-- ---- tests
pub any-next : {A : Type 0} (p : A → Bool) (xs : List A) (i : ℕ) (d : A) → i < length xs → list_any p (take i xs) ≡ false → p (get_or xs i d) ≡ false → list_any p (take (i + 1) xs) ≡ false
any-next p xs i d below none h = rw (take_more xs i d below, list_any-append p (take i xs) (get_or xs i d ∷ []), none, h) refl

pub any-here : {A : Type 0} (p : A → Bool) (xs : List A) (i : ℕ) (d : A) → i < length xs → list_any p (take i xs) ≡ false → p (get_or xs i d) ≡ true → list_any p xs ≡ true
any-here p xs i d below none h =
    let here : list_any p (take (i + 1) xs) ≡ true = rw (take_more xs i d below, list_any-append p (take i xs) (get_or xs i d ∷ []), none, h) refl in
    ap (list_any p) (sym (take-append-drop (i + 1) xs)) ∙ rw (list_any-append p (take (i + 1) xs) (drop (i + 1) xs), here) refl

-- ---- joined lists
pub joined-none : {A : Type 0} (f : ℕ → List A) → joined_below 0 f ≡ []
unfolding joined_below
joined-none f = refl

pub joined-more : {A : Type 0} (i : ℕ) (f : ℕ → List A) → joined_below (i + 1) f ≡ joined_below i f ++ f i
unfolding joined_below
joined-more i f = let s : i + 1 ≡ suc i = omega arith in rw s refl

pub joined-short : {A : Type 0} (n m : ℕ) (f : ℕ → List A) → ((k : ℕ) → length (f k) ≤ m) → length (joined_below n f) ≤ n * m
unfolding joined_below
joined-short zero m f h = omega arith
joined-short (suc n) m f h =
    let next : suc n * m ≡ n * m + m = omega arith in
    let all : length (joined_below n f ++ f n) ≡ length (joined_below n f) + length (f n) = length-append (joined_below n f) (f n) in
    omega (arith, next, all, h n, joined-short n m f h)

pub joined-ones : {A : Type 0} (n : ℕ) (f : ℕ → A) → length (joined_below n (λ k. f k ∷ [])) ≡ n
unfolding joined_below
joined-ones zero f = refl
joined-ones (suc n) f = length-append (joined_below n (λ k. f k ∷ [])) (f n ∷ []) ∙ omega (arith, joined-ones n f)

-- one for each is a map
pub joined-map : {A B : Type 0} (f : A → B) (g : ℕ → B) (xs : List A) (d : A) (n : ℕ) → n ≤ length xs → ((k : ℕ) → k < length xs → g k ≡ f (get_or xs k d)) → joined_below n (λ k. g k ∷ []) ≡ map f (take n xs)
unfolding joined_below
joined-map f g xs d zero h e = refl
joined-map f g xs d (suc n) h e =
    let s : n + 1 ≡ suc n = omega arith in
    let more : take (suc n) xs ≡ take n xs ++ get_or xs n d ∷ [] = rw s at (take_more xs n d (omega (arith, h))) in
    rw (more, map-append f (take n xs) (get_or xs n d ∷ []), joined-map f g xs d n (omega (arith, h)) e, e n (omega (arith, h))) refl

-- nothing for each is nothing
pub joined-empty : {A : Type 0} (n : ℕ) (f : ℕ → List A) → ((k : ℕ) → k < n → f k ≡ []) → joined_below n f ≡ []
unfolding joined_below
joined-empty zero f h = refl
joined-empty (suc n) f h = rw (joined-empty n f (λ k below. h k (omega (arith, below))), h n (omega arith)) refl

-- ---- sums
pub abs-add : (a b : ℤ) (n m : ℕ) → unsigned_abs a ≤ n → unsigned_abs b ≤ m → unsigned_abs (a +ℤ b) ≤ n + m
abs-add a b n m h k =
    let both : unsigned_abs (a +ℤ b) ≤ unsigned_abs a + unsigned_abs b = grind (arith, ints) in
    omega (arith, both, h, k)
