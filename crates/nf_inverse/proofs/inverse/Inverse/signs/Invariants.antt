use Rattle.std.proofs.Common.{◌≡◌, ℕ, ◌<◌, length, Bool, if◌then◌else◌}
use Rattle.std.specs.Prelude.{nat_eq}
use Rattle.nf_num.specs.Rational.{zero_ℚ, one_ℚ}
use Rattle.nf_sums.specs.Terms.{with_sign}
use Rattle.nf_inverse.specs.Weights.{GivesSign, rows_of, weight, weights_of}
use Rattle.nf_inverse.proofs.inverse.Inverse.signs.Given as goal

abbrev pub invariant-loop-s : goal.invariant-loop-s
invariant-loop-s g l = record {
  count : length l.rows.items ≡ l.s;
  long : (k : ℕ) → k < l.s → length (weights_of (rows_of l.rows.items) k) ≡ l.size;
  weights : (n : ℕ → Bool) → GivesSign (λ k. g.F.Fn.post l.negative (k, tt)) l.size n → (k i : ℕ) → k < l.s → weight (rows_of l.rows.items) k i ≡ (if nat_eq k i then with_sign (n k) one_ℚ else zero_ℚ);
}
