-- The rows of terms that the numbers of a network program come from, each over the numbers handed in.
-- The cause of every answer Passed names one of them.
use Rattle.std.specs.Prelude.{ℕ, zero, suc, ◌+◌, ◌-◌, nat_lt, if◌then◌else◌, Bool}
use Rattle.nf_num.specs.Rational.{ℚ, one_ℚ, neg_ℚ}
use Rattle.nf_sums.specs.Terms.{Term, Terms, with_sign}
use Rattle.nf_sums.specs.Terms.Term.{Number, Product, Quotient, Scaled}

-- A number before the terms.
abbrev pub first_then : ℚ → (ℕ → Term) → ℕ → Term
first_then a terms zero = Number a
first_then a terms (suc k) = terms k

-- Numbers alone.
abbrev pub number_terms : ℕ → (ℕ → ℚ) → Terms
number_terms n a = record { count = n; term = λ k. Number (a k) }

-- The products of one list's members with another's.
abbrev pub product_terms : ℕ → (ℕ → ℚ) → (ℕ → ℚ) → Terms
product_terms n a b = record { count = n; term = λ k. Product (a k) (b k) }

-- A number, and the negated products.
abbrev pub remainder_terms : ℚ → ℕ → (ℕ → ℚ) → (ℕ → ℚ) → Terms
remainder_terms first n a b = record { count = suc n; term = first_then first (λ k. Product (neg_ℚ (a k)) (b k)) }

-- The rest of a row: its right side, and -a * x for each column.
abbrev pub rest_terms : ℚ → ℕ → (ℕ → ℚ) → (ℕ → ℚ) → Terms
rest_terms right n entry x = remainder_terms right n entry x

-- A path sum: members of one list, each with a sign, and 1 or -1 besides.
abbrev pub path_terms : ℕ → (ℕ → ℚ) → (ℕ → Bool) → Bool → Terms
path_terms n member negative besides = record { count = suc n; term = first_then (with_sign besides one_ℚ) (λ k. Number (with_sign (negative k) (member k))) }

-- By the inverse: weight times p, over the rows for one basic column, or over the basic columns for one row.
abbrev pub inverse_terms : ℕ → (ℕ → ℚ) → (ℕ → ℚ) → Terms
inverse_terms n weight p = product_terms n weight p

-- The reduced cost of a column: its cost, and -y * a for each row.
abbrev pub reduced_cost_terms : ℚ → ℕ → (ℕ → ℚ) → (ℕ → ℚ) → Terms
reduced_cost_terms cost m y entry = remainder_terms cost m y entry

-- A dual along an arc: the dual of one end, or minus it, and the terms of the arc's reduced cost over side rows.
abbrev pub arc_dual_terms : ℚ → Bool → ℚ → ℕ → (ℕ → ℚ) → (ℕ → ℚ) → Terms
arc_dual_terms dual negative cost n y entry = record { count = suc (suc n); term = first_then (with_sign negative dual) (reduced_cost_terms cost n y entry).term }

-- The difference of two numbers: of a value and a bound in a ratio, or the distance of two bounds.
abbrev pub difference_terms : ℚ → ℚ → Terms
difference_terms a b = record { count = 2; term = first_then a (λ k. Number (neg_ℚ b)) }

-- A quotient: a ratio, or that of two reduced costs.
abbrev pub quotient_terms : ℚ → ℚ → Terms
quotient_terms a b = record { count = 1; term = λ k. Quotient a b }

-- An update: n, and p * q / r or -p * q / r.
abbrev pub update_terms : ℚ → Bool → ℚ → ℚ → ℚ → Terms
update_terms n negative p q r = record { count = 2; term = first_then n (λ k. Scaled (with_sign negative p) q r) }

-- A flip: a value, and an entry times the distance of the bounds, or that negated.
abbrev pub flip_terms : ℚ → Bool → ℚ → ℚ → Terms
flip_terms value negative entry distance = record { count = 2; term = first_then value (λ k. Product (with_sign negative entry) distance) }

-- A printed dual: the dual of phase two, and M times that of phase one.
abbrev pub printed_dual_terms : ℚ → ℚ → ℚ → Terms
printed_dual_terms second big first = record { count = 2; term = first_then second (λ k. Product big first) }

-- A total: the products over one row, or over all columns or rows.
abbrev pub total_terms : ℕ → (ℕ → ℚ) → (ℕ → ℚ) → Terms
total_terms n a b = product_terms n a b

-- The terms of two rows in one.
abbrev pub joined : Terms → Terms → Terms
joined a b = record { count = a.count + b.count; term = λ k. if nat_lt k a.count then a.term k else b.term (k - a.count) }

-- The gap of two totals: y * b over all rows, and -(yA) * bound over all columns.
abbrev pub gap_terms : ℕ → (ℕ → ℚ) → (ℕ → ℚ) → ℕ → (ℕ → ℚ) → (ℕ → ℚ) → Terms
gap_terms m y right n combined bound = joined (product_terms m y right) (product_terms n (λ j. neg_ℚ (combined j)) bound)
