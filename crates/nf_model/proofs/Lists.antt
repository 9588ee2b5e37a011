-- What a list made from a function has.
use Rattle.std.specs.Prelude.{◌≡◌, ℕ, ◌<◌, length, slice_index_or}
use Rattle.std.proofs.Common.{arith}
use Rattle.std.proofs.lemmas.List.FromFn.{length-map-range_with_len, get_or-map-range_with_len}
use Rattle.nf_num.specs.Rational.{ℚ, zero_ℚ}
use Rattle.nf_model.specs.Lists.{list_of}

pub length-list_of : (n : ℕ) (f : ℕ → ℚ) → length (list_of n f) ≡ n
unfolding list_of
length-list_of n f = length-map-range_with_len f 0 n

pub at-list_of : (n : ℕ) (f : ℕ → ℚ) (j : ℕ) → j < n → slice_index_or (list_of n f) j zero_ℚ ≡ f j
unfolding list_of
at-list_of n f j b = get_or-map-range_with_len f 0 n j j zero_ℚ b (omega arith)
