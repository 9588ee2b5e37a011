-- Lists that grow by a member.
use Rattle.std.proofs.Common.{◌≡◌, ◌∙◌, ℕ, ◌+◌, ◌++◌, List, [], ◌∷◌, refl, sym, ap₂, arith}
use Rattle.std.proofs.lemmas.List.FromFn.{map-range_with_len_more}
use Rattle.nf_num.specs.Rational.{ℚ}
use Rattle.nf_model.specs.Lists.{list_of}

pub none : (f : ℕ → ℚ) (xs : List ℚ) → xs ≡ [] → xs ≡ list_of 0 f
unfolding list_of
none f xs e = e

pub grown : (n : ℕ) (f : ℕ → ℚ) (xs ys : List ℚ) (v : ℚ) → xs ≡ list_of n f → v ≡ f n → ys ≡ xs ++ v ∷ [] → ys ≡ list_of (n + 1) f
unfolding list_of
grown n f xs ys v a b e = e ∙ ap₂ (λ s t. s ++ t ∷ []) a b ∙ sym (map-range_with_len_more f 0 n n (omega arith))
