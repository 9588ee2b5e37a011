-- What the inverse makes of a column and of a row solves for them.
use Rattle.std.proofs.Common.{◌≡◌, ℕ, ◌<◌, List, length, ap, ◌∙◌}
use Rattle.nf_num.specs.Rational.{ℚ, ◌*ℚ◌}
use Rattle.nf_num.specs.Sum.{sum_ℚ}
use Rattle.nf_simplex.proofs.FieldLaws.{mul_comm}
use Rattle.nf_simplex.proofs.Sum.{sum_ext}
use Rattle.nf_inverse.specs.Weights.{weight}
use Rattle.nf_work.specs.Matrix.{Matrix, Combines, Prices}
use Rattle.nf_work.specs.Causes.{entries}
use Rattle.nf_work.specs.Changed.{IsInverseOf}
use Rattle.nf_work.proofs.Inverses.{solved, solved_left}

pub combines : (w : List (List ℚ)) (Q : Matrix) (c z : ℕ → ℚ) → IsInverseOf Q w → ((a : ℕ) → a < length w → z a ≡ entries w c a) → Combines (length w) Q z c
combines w Q c z inv is r h =
    sum_ext (length w) (λ a. z a *ℚ Q r a) (λ a. sum_ℚ (length w) (λ i. c i *ℚ weight w a i) *ℚ Q r a)
    (λ a l. ap (λ x. x *ℚ Q r a) (is a l ∙ sum_ext (length w) (λ i. weight w a i *ℚ c i) (λ i. c i *ℚ weight w a i) (λ i m. mul_comm (weight w a i) (c i))))
    ∙ solved (length w) Q (weight w) inv c r h

pub prices : (w : List (List ℚ)) (Q : Matrix) (c y : ℕ → ℚ) → IsInverseOf Q w → ((i : ℕ) → i < length w → y i ≡ sum_ℚ (length w) (λ s. weight w s i *ℚ c s)) → Prices (length w) Q y c
prices w Q c y inv is a h =
    sum_ext (length w) (λ r. y r *ℚ Q r a) (λ r. sum_ℚ (length w) (λ b. c b *ℚ weight w b r) *ℚ Q r a)
    (λ r l. ap (λ x. x *ℚ Q r a) (is r l ∙ sum_ext (length w) (λ b. weight w b r *ℚ c b) (λ b. c b *ℚ weight w b r) (λ b m. mul_comm (weight w b r) (c b))))
    ∙ solved_left (length w) Q (weight w) inv c a h
