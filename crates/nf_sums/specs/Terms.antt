-- Rows of terms, and the operations that arise in a row: those that a sum of its terms is made of.
-- An answer Passed always has an operation that passes and arises in a row that its function names.
use Rattle.std.specs.Prelude.{◌≡◌, ◌⊎◌, ℕ, ◌<◌, Bool, true, false, IsTrue, if◌then◌else◌}
use Rattle.nf_num.specs.Rational.{ℚ, zero_ℚ, ◌*ℚ◌, neg_ℚ, inv_ℚ}
use Rattle.nf_num.specs.Sum.{sum_ℚ}
use Rattle.nf_frac.specs.declared.Op.{Op}
use Rattle.nf_frac.specs.declared.Op.TheVariants.{Add, Sub, Mul, Div}
use Rattle.nf_frac.specs.declared.Passed.{Passed}
use Rattle.nf_frac.specs.Range.{Passes}

-- A term is a number, a product a * b, a quotient a / b, or a scaled product p * q / r.
pub data Term : Type 0 where
  Number : ℚ → Term
  Product : ℚ → ℚ → Term
  Quotient : ℚ → ℚ → Term
  Scaled : ℚ → ℚ → ℚ → Term

-- What a term comes to.
abbrev pub value_of : Term → ℚ
value_of (Number a) = a
value_of (Product a b) = a *ℚ b
value_of (Quotient a b) = a *ℚ inv_ℚ b
value_of (Scaled p q r) = p *ℚ q *ℚ inv_ℚ r

-- x is a, but perhaps for its sign.
abbrev pub IsUpToSign : ℚ → ℚ → Type 0
IsUpToSign a x = (x ≡ a) ⊎ (x ≡ neg_ℚ a)

-- x and y are a and b in this order, but perhaps for their signs.
abbrev pub AreInOrder : ℚ → ℚ → ℚ → ℚ → Type 0
AreInOrder a b x y = IsUpToSign a x × IsUpToSign b y

-- x and y are a and b in either order, but perhaps for their signs.
abbrev pub AreFactors : ℚ → ℚ → ℚ → ℚ → Type 0
AreFactors a b x y = AreInOrder a b x y ⊎ AreInOrder a b y x

-- The operation multiplies or divides two factors of the term. Of p * q / r these are any two, or one and the product
-- or the quotient of the other two.
abbrev pub IsOnFactors : Term → Op → ℚ → ℚ → Type 0
IsOnFactors (Product a b) Mul x y = AreFactors a b x y
IsOnFactors (Quotient a b) Div x y = AreInOrder a b x y
IsOnFactors (Scaled p q r) Mul x y = AreFactors p q x y ⊎ AreFactors p (q *ℚ inv_ℚ r) x y ⊎ AreFactors q (p *ℚ inv_ℚ r) x y
IsOnFactors (Scaled p q r) Div x y = AreInOrder (p *ℚ q) r x y ⊎ AreInOrder p r x y ⊎ AreInOrder q r x y
IsOnFactors _ _ x y = ⊥

-- A row of terms.
pub record Terms : Type 0 where
  pub count : ℕ
  pub term : ℕ → Term

-- The sum of the chosen terms.
abbrev pub chosen_sum : Terms → (ℕ → Bool) → ℚ
chosen_sum row chosen = sum_ℚ row.count (λ k. if chosen k then value_of (row.term k) else zero_ℚ)

-- A number, or it negated.
abbrev pub with_sign : Bool → ℚ → ℚ
with_sign true x = neg_ℚ x
with_sign false x = x

-- x is the sum of some terms and y the sum of some others, or so where the signs of all terms are turned.
pub record AreSums (row : Terms) (x y : ℚ) : Type 0 where
  pub some : ℕ → Bool
  pub others : ℕ → Bool
  pub apart : (k : ℕ) → IsTrue (some k) → IsTrue (others k) → ⊥
  pub turned : Bool
  pub left_is : x ≡ with_sign turned (chosen_sum row some)
  pub right_is : y ≡ with_sign turned (chosen_sum row others)

-- The operation multiplies or divides two factors of one term of the row, or adds two sums of its terms that have
-- no term in common. A subtraction is the addition of the negated right number.
abbrev pub ArisesIn : Terms → Op → ℚ → ℚ → Type 0
ArisesIn row Add x y = AreSums row x y
ArisesIn row Sub x y = AreSums row x (neg_ℚ y)
ArisesIn row Mul x y = (k : ℕ) × (k < row.count) × IsOnFactors (row.term k) Mul x y
ArisesIn row Div x y = (k : ℕ) × (k < row.count) × IsOnFactors (row.term k) Div x y

-- The operation passes, and it arises in one of these rows.
pub record PassesIn (IsOne : Terms → Type 0) (p : Passed) : Type 0 where
  pub passes : Passes p.op p.left p.right
  pub row : Terms
  pub is_one : IsOne row
  pub arises : ArisesIn row p.op p.left p.right

-- The rows that are this one.
abbrev pub Is : Terms → Terms → Type 0
Is row other = other ≡ row
