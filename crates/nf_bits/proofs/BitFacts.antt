-- What a set of numbers has after one more was added.
use Rattle.std.proofs.Common.{◌≡◌, ◌<◌, ◌/◌, ◌%◌, ◌^◌, ◌⊎◌, ℕ, true, List, length, get_or, nat_eq, ap, ◌∙◌, inl, inr, arith}
use Rattle.std.specs.Int.{bit_at}
use Rattle.std.specs.Prelude.{bit_or}
use Rattle.std.proofs.lemmas.Nat.Bits.{bit_at-lt, bit_at-pow_same, bit_at_or}
use Rattle.std.proofs.lemmas.Bool.Decides.{Decides-eqb, eqb_tells}
use Rattle.std.proofs.lemmas.List.{get_or-set_same, get_or-set_other}
use Rattle.nf_bits.specs.Bits.{has_number, with_number}

bit-one : (a b k : ℕ) → (bit_at a k ≡ 1) ⊎ (bit_at b k ≡ 1) → bit_at (bit_or a b) k ≡ 1
bit-one a b k h =
    let both = bit_at_or a b k in
    elim h [
      | inl e ↦ omega (arith, both, e, bit_at-lt b k)
      | inr e ↦ omega (arith, both, e, bit_at-lt a k)
    ]

is-one : (n : ℕ) → n ≡ 1 → nat_eq n 1 ≡ true
is-one n e = (Decides-eqb n 1).1 e

pub has-here : (words : List ℕ) (p : ℕ) → p / 64 < length words → has_number (with_number words p) p ≡ true
has-here words p within =
    let word = get_or-set_same words (p / 64) (bit_or (get_or words (p / 64) 0) (2 ^ (p % 64))) 0 within in
    is-one _ (ap (λ w. bit_at w (p % 64)) word ∙ bit-one (get_or words (p / 64) 0) (2 ^ (p % 64)) (p % 64) (inr (bit_at-pow_same (p % 64))))

pub has-still : (words : List ℕ) (p q : ℕ) → p / 64 < length words → has_number words q ≡ true → has_number (with_number words p) q ≡ true
has-still words p q within h =
    let one : bit_at (get_or words (q / 64) 0) (q % 64) ≡ 1 = (Decides-eqb (bit_at (get_or words (q / 64) 0) (q % 64)) 1).0 h in
    elim (eqb_tells (q / 64) (p / 64)) [
      | inl e ↦
          let word : get_or (with_number words p) (q / 64) 0 ≡ bit_or (get_or words (q / 64) 0) (2 ^ (p % 64)) = rw e.1 (get_or-set_same words (p / 64) (bit_or (get_or words (p / 64) 0) (2 ^ (p % 64))) 0 within) in
          is-one _ (ap (λ w. bit_at w (q % 64)) word ∙ bit-one (get_or words (q / 64) 0) (2 ^ (p % 64)) (q % 64) (inl one))
      | inr e ↦ is-one _ (ap (λ w. bit_at w (q % 64)) (get_or-set_other words (p / 64) (q / 64) (bit_or (get_or words (p / 64) 0) (2 ^ (p % 64))) 0 e.1) ∙ one)
    ]
