-- What a pivot of m rows may cost: the exchange, and the duals of one phase or of both.
use Rattle.std.proofs.Common.{◌≡◌, ℕ, ◌+◌, ◌*◌, ◌≤◌, ap, ◌∙◌, arith}

square : (m : ℕ) → (m + 1) * (m + 1) ≡ m * m + (2 * m + 1)
square m = grind arith

four_times : (m : ℕ) → m * (4 * m) ≡ 4 * (m * m)
four_times m = grind arith

pub first_phase : (m a b old mid new : ℕ) → a ≡ m → b ≡ m → mid ≤ old + (a * (4 * a) + (3 * a + 3)) → new ≤ mid + (4 * b + 1) → new ≤ old + 4 * (16 * ((m + 1) * (m + 1)))
first_phase m a b old mid new e f x y =
    let s = square m in
    let q : a * (4 * a) ≡ 4 * (m * m) = ap (λ n. n * (4 * n)) e ∙ four_times m in
    omega arith

pub second_phase : (m a b old mid new last : ℕ) → a ≡ m → b ≡ m → mid ≤ old + (a * (4 * a) + (3 * a + 3)) → new ≤ mid + (4 * b + 1) → last ≤ new + (4 * b + 1) → last ≤ old + 4 * (16 * ((m + 1) * (m + 1)))
second_phase m a b old mid new last e f x y z =
    let s = square m in
    let q : a * (4 * a) ≡ 4 * (m * m) = ap (λ n. n * (4 * n)) e ∙ four_times m in
    omega arith
