-- Rows of a basis of stage one with duals of either kind, those of a phase and the printed ones: no operation that arises
-- in one of them passes. The factor of a printed dual is 0 or the quotient of two reduced costs of one column, so it is
-- a whole number of parts of one kind.
use Rattle.std.proofs.Common.{◌≡◌, ◌≢◌, ℕ, zero, suc, ◌+◌, ◌*◌, ◌-◌, ◌<◌, ◌≤◌, ◌^◌, ◌⊎◌, inl, inr, ℤ, pos, negsuc, neg_ℤ, nat_abs, Bool, [], ◌∷◌, refl, sym, ap, ◌∙◌, subst, arith}
use Rattle.nf_num.specs.Rational.{ℚ, zero_ℚ, one_ℚ, of_ℤ, ◌+ℚ◌, ◌*ℚ◌, neg_ℚ, inv_ℚ}
use Rattle.nf_num.proofs.Field.{ring, codes}
use Rattle.nf_frac.specs.declared.Op.TheVariants.{Add, Sub, Mul, Div}
use Rattle.nf_model.specs.Program.{LinearProgram}
use Rattle.nf_model.specs.Problem.{IsProblem}
use Rattle.nf_sums.specs.Terms.{value_of, with_sign}
use Rattle.nf_sums.specs.Terms.Term.{Quotient}
use Rattle.nf_sums.specs.Rows.{reduced_cost_terms, arc_dual_terms, quotient_terms, printed_dual_terms}
use Rattle.nf_simplex.specs.Layout.{layout_of}
use Rattle.nf_simplex.specs.Columns.{all_columns, cost_one, ones, twos}
use Rattle.nf_simplex.specs.Ends.{IsPriced, IsFactor}
use Rattle.nf_simplex.specs.Numbers.{reduced}
use Rattle.nf_simplex.specs.StageOf.{StageOne}
use Rattle.nf_simplex.specs.Standing.{Standing, PhaseOne, PhaseTwo, costs_of, place_at, stage_of, rows_of, IsBasisOf, AreDualsOf}
use Rattle.nf_simplex.proofs.FieldLaws.{mul-inverse}
use Rattle.nf_simplex.proofs.StageOf.{by_columns}
use Rattle.nf_simplex.proofs.Dimension.{inverse_of_basis}
use Rattle.nf_basis.specs.Arising.{ArePricing}
use Rattle.nf_basis.specs.Arising.ArePricing.{of_phase, of_print}
use Rattle.nf_tree.specs.Vertices.{tail_at, head_at}
use Rattle.nf_tree.proofs.Slotted.{rows_are}
use Rattle.nf_width.specs.Amounts.{IsWhole, HasAmounts}
use Rattle.nf_width.specs.Fits.{RowFits}
use Rattle.nf_width.proofs.Whole.{whole_one, whole_more, whole_add, whole_mul, whole_neg, product_fits, of_ℤ-same, of_ℤ-neg}
use Rattle.nf_width.proofs.Bounds.{whole_sum, dual_whole}
use Rattle.nf_width.proofs.Rows.{FactorsFit, with_sign_whole, up_to_sign, number_factors, product_factors, row_fits}
use Rattle.nf_width.proofs.States.{none_of, net, cost_amount, dual_bounded}
use Rattle.nf_width.proofs.Priced.{entry_whole}
use Rattle.nf_width.proofs.Changed.{reduced_whole}

-- ---- parts of parts
pub whole_parts : (k : ℕ) → IsWhole k k one_ℚ
whole_parts k = record { top = pos k; is = ring (of_ℤ (pos k) ∷ []) (search codes) refl; small = omega arith }

-- d-ths are so many (d * k)-ths.
pub finer : (d n k : ℕ) (x : ℚ) → IsWhole d n x → IsWhole (d * k) (n * k) x
finer d n k x w = subst (IsWhole (d * k) (n * k)) (ring (x ∷ []) (search codes) refl) (whole_mul d k n k x one_ℚ w (whole_parts k))

-- ---- inverses
-- The size of a whole number, with its sign taken by d.
upright : (d : ℕ) (t : ℤ) (x : ℚ) → of_ℤ t *ℚ x ≡ of_ℤ (pos d) → (z : ℤ) × (x *ℚ of_ℤ (pos (nat_abs t)) ≡ of_ℤ z) × (nat_abs z ≤ d)
upright d (pos n) x e = (pos d, ring (of_ℤ (pos n) ∷ x ∷ []) (search codes) refl ∙ e, omega arith)
upright d (negsuc n) x e = (neg_ℤ (pos d), turned, small d)
  where
    small : (d : ℕ) → nat_abs (neg_ℤ (pos d)) ≤ d
    small zero = omega arith
    small (suc k) = omega arith

    turned : x *ℚ of_ℤ (pos (suc n)) ≡ of_ℤ (neg_ℤ (pos d))
    turned =
        ap (λ z. x *ℚ z) (sym (of_ℤ-neg (negsuc n)))
        ∙ (ring (of_ℤ (negsuc n) ∷ x ∷ []) (search codes) refl ∙ (ap neg_ℚ e ∙ of_ℤ-neg (pos d)))

-- The inverse of a number that is not 0: a whole number of parts of one kind.
pub record HasInverse (d n : ℕ) (y : ℚ) : Type 0 where
  pub parts : ℕ
  pub some : 0 < parts
  pub few : parts ≤ n
  pub whole : IsWhole parts d (inv_ℚ y)

pub inverse_of : (d n : ℕ) (y : ℚ) → 0 < d → y ≢ zero_ℚ → IsWhole d n y → HasInverse d n y
inverse_of d n y pd ne w = record { parts = nat_abs w.top; some = not_none (nat_abs w.top) refl; few = w.small; whole = record { top = there.0; is = there.1; small = there.2 } }
  where
    times : of_ℤ w.top *ℚ inv_ℚ y ≡ of_ℤ (pos d)
    times =
        ap (λ z. z *ℚ inv_ℚ y) (sym w.is)
        ∙ (ring (y ∷ of_ℤ (pos d) ∷ inv_ℚ y ∷ []) (search codes) refl ∙ (ap (λ z. z *ℚ of_ℤ (pos d)) (mul-inverse y ne) ∙ ring (of_ℤ (pos d) ∷ []) (search codes) refl))

    there : (z : ℤ) × (inv_ℚ y *ℚ of_ℤ (pos (nat_abs w.top)) ≡ of_ℤ z) × (nat_abs z ≤ d)
    there = upright d w.top (inv_ℚ y) times

    not_none : (k : ℕ) → nat_abs w.top ≡ k → 0 < k
    not_none (suc k) e = omega arith
    not_none zero e = absurd (let z : 0 ≡ d = ap nat_abs (of_ℤ-same (pos 0) (pos d) none) in omega arith)
      where
        empty : (t : ℤ) → nat_abs t ≡ 0 → t ≡ pos 0
        empty (pos n) h = ap pos h
        empty (negsuc n) h = absurd (omega arith)

        none : of_ℤ (pos 0) ≡ of_ℤ (pos d)
        none = ring (inv_ℚ y ∷ []) (search codes) refl ∙ (ap (λ t. of_ℤ t *ℚ inv_ℚ y) (sym (empty w.top e)) ∙ times)

-- The quotient of two such numbers.
pub quotient_row_fits : (a b : ℚ) → IsWhole 1000 (2 * 10 ^ 22) a → IsWhole 1 (2 * 10 ^ 10) b → b ≢ zero_ℚ → RowFits (quotient_terms a b)
quotient_row_fits a b wa wb ne =
    row_fits (1000 * i.parts) (2 * 10 ^ 22 * 1) (quotient_terms a b) (let e = i.some in omega arith) (let e = i.few in omega arith) (omega arith)
    (λ k h. whole_mul 1000 i.parts (2 * 10 ^ 22) 1 a (inv_ℚ b) wa i.whole) (λ k h. factors)
  where
    i : HasInverse 1 (2 * 10 ^ 10) b
    i = inverse_of 1 (2 * 10 ^ 10) b (omega arith) ne wb

    not_zero : (y : ℚ) → (y ≡ b) ⊎ (y ≡ neg_ℚ b) → y ≢ zero_ℚ
    not_zero y (inl e) z = ne (sym e ∙ z)
    not_zero y (inr e) z = ne (ring (b ∷ []) (search codes) refl ∙ (ap neg_ℚ (sym e ∙ z) ∙ ring [] (search codes) refl))

    factors : FactorsFit (Quotient a b)
    factors Div x y (f, g) q =
        let k = inverse_of 1 (2 * 10 ^ 10) y (omega arith) (not_zero y g) (up_to_sign 1 (2 * 10 ^ 10) b y g wb) in
        q (product_fits 1000 k.parts (2 * 10 ^ 22) 1 x (inv_ℚ y) (omega arith) k.some (up_to_sign 1000 (2 * 10 ^ 22) a x f wa) k.whole (omega arith) (let e = k.few in omega arith))
    factors Add x y o q = absurd o
    factors Sub x y o q = absurd o
    factors Mul x y o q = absurd o

-- ---- printed duals
-- A factor is so many parts of a thousandth.
pub record IsFewParts (m : ℚ) : Type 0 where
  pub unit : ℕ
  pub some : 0 < unit
  pub few : unit ≤ 2 * 10 ^ 10
  pub whole : IsWhole (1000 * unit) (2 * 10 ^ 22) m

-- Costs and duals by which columns are priced are whole numbers of parts of one kind.
pub record HasPricing (p : LinearProgram) (s : Standing) (c y : ℕ → ℚ) : Type 0 where
  pub unit : ℕ
  pub some : 0 < unit
  pub few : unit ≤ 2 * 10 ^ 13
  pub costs : (j : ℕ) → j < all_columns (layout_of p) → IsWhole unit (10 ^ 28) (c j)
  pub duals : (i : ℕ) → i < rows_of p s → IsWhole unit (10 ^ 28) (y i)

times_one : (d : ℕ) → d * 1 ≡ d
times_one d = omega arith

module _ (p : LinearProgram) (s : Standing) (ok : IsProblem p) (has : HasAmounts p) (one : s.stage ≡ StageOne) (basis : IsBasisOf p s) where
  -- Duals of phase one are whole numbers, and so are its reduced costs.
  pub dual_one_whole : (y : ℕ → ℚ) → AreDualsOf p s PhaseOne y → (r : ℕ) → r < rows_of p s → IsWhole 1 250000 (y r)
  dual_one_whole y duals r h =
      whole_more 1 (all_columns (layout_of p) * 1) 250000 (y r) (let f = has.few_columns in omega arith)
      (dual_whole (stage_of p s) (tail_at p s) (head_at p s) (net p s ok has one basis) (place_at s) basis (inverse_of_basis (stage_of p s) (place_at s) basis).0 (inverse_of_basis (stage_of p s) (place_at s) basis).1 1 1 (costs_of p PhaseOne) y duals
      (by_columns (layout_of p) (λ c. IsWhole 1 1 (cost_one c)) (λ j l. none_of 1 1) (λ q l. none_of 1 1) (λ i l. whole_one)) r h)

  reduced_one_whole : (y : ℕ → ℚ) → AreDualsOf p s PhaseOne y → (j : ℕ) → j < all_columns (layout_of p) → IsWhole 1 (2 * 10 ^ 10) (reduced (stage_of p s) (costs_of p PhaseOne) y j)
  unfolding reduced
  reduced_one_whole y duals j h =
      whole_more 1 (1 + rows_of p s * (250000 * 2)) (2 * 10 ^ 10) _ (let f = has.few_nodes in let e = rows_are p s one in omega arith)
      (whole_add 1 1 (rows_of p s * (250000 * 2)) _ _ (by_columns (layout_of p) (λ c. IsWhole 1 1 (cost_one c)) (λ j l. none_of 1 1) (λ q l. none_of 1 1) (λ i l. whole_one) j h)
      (whole_neg 1 (rows_of p s * (250000 * 2)) _
      (whole_sum 1 (250000 * 2) (rows_of p s) (λ i. y i *ℚ (stage_of p s).entry j i)
      (λ i l. whole_mul 1 1 250000 2 (y i) ((stage_of p s).entry j i) (dual_one_whole y duals i l) (entry_whole p s ok has one basis j i h l)))))

  -- ---- the factor
  pub printed_factor_fits : (j : ℕ) (y1 y2 : ℕ → ℚ) → j < all_columns (layout_of p) → AreDualsOf p s PhaseOne y1 → AreDualsOf p s PhaseTwo y2 → reduced (stage_of p s) (ones (layout_of p)) y1 j ≢ zero_ℚ
      → RowFits (quotient_terms (reduced (stage_of p s) (twos (layout_of p)) y2 j) (reduced (stage_of p s) (ones (layout_of p)) y1 j))
  printed_factor_fits j y1 y2 h a b ne =
      quotient_row_fits (reduced (stage_of p s) (twos (layout_of p)) y2 j) (reduced (stage_of p s) (ones (layout_of p)) y1 j) (reduced_whole p s ok has one basis PhaseTwo y2 b j h) (reduced_one_whole y1 a j h) ne

  pub factor_parts : (y1 y2 : ℕ → ℚ) (m : ℚ) → AreDualsOf p s PhaseOne y1 → AreDualsOf p s PhaseTwo y2
      → IsFactor (stage_of p s) (place_at s) (reduced (stage_of p s) (ones (layout_of p)) y1) (reduced (stage_of p s) (twos (layout_of p)) y2) m → IsFewParts m
  factor_parts y1 y2 m a b f = of f.attained
    where
      of : (m ≡ zero_ℚ)
          ⊎ ((j : ℕ) × IsPriced (stage_of p s) (place_at s) j × (reduced (stage_of p s) (ones (layout_of p)) y1 j ≢ zero_ℚ)
          × (m ≡ neg_ℚ (reduced (stage_of p s) (twos (layout_of p)) y2 j) *ℚ inv_ℚ (reduced (stage_of p s) (ones (layout_of p)) y1 j))) → IsFewParts m
      of (inl e) = record { unit = 1; some = omega arith; few = omega arith; whole = subst (IsWhole 1000 (2 * 10 ^ 22)) (sym e) (none_of 1000 (2 * 10 ^ 22)) }
      of (inr (j, priced, ne, e)) =
          let i = inverse_of 1 (2 * 10 ^ 10) (reduced (stage_of p s) (ones (layout_of p)) y1 j) (omega arith) ne (reduced_one_whole y1 a j priced.0) in
          record {
            unit = i.parts;
            some = i.some;
            few = i.few;
            whole = subst (IsWhole (1000 * i.parts) (2 * 10 ^ 22)) (sym e)
                (whole_mul 1000 i.parts (2 * 10 ^ 22) 1 (neg_ℚ (reduced (stage_of p s) (twos (layout_of p)) y2 j)) (inv_ℚ (reduced (stage_of p s) (ones (layout_of p)) y1 j))
                (whole_neg 1000 (2 * 10 ^ 22) (reduced (stage_of p s) (twos (layout_of p)) y2 j) (reduced_whole p s ok has one basis PhaseTwo y2 b j priced.0)) i.whole);
          }

  -- ---- a printed dual
  module _ (y1 y2 : ℕ → ℚ) (m : ℚ) (a : AreDualsOf p s PhaseOne y1) (b : AreDualsOf p s PhaseTwo y2) (f : IsFewParts m) (i : ℕ) (h : i < rows_of p s) where
    second_whole : IsWhole (1000 * f.unit) (5 * 10 ^ 27) (y2 i)
    second_whole = whole_more (1000 * f.unit) (25 * 10 ^ 16 * f.unit) (5 * 10 ^ 27) (y2 i) (let e = f.few in omega arith) (finer 1000 (25 * 10 ^ 16) f.unit (y2 i) (dual_bounded p s ok has one basis PhaseTwo y2 b i h))

    first_whole : IsWhole (1000 * f.unit) (5 * 10 ^ 27) (m *ℚ y1 i)
    first_whole = subst (λ d. IsWhole d (5 * 10 ^ 27) (m *ℚ y1 i)) (times_one (1000 * f.unit)) (whole_mul (1000 * f.unit) 1 (2 * 10 ^ 22) 250000 m (y1 i) f.whole (dual_one_whole y1 a i h))

    pub printed_whole : IsWhole (1000 * f.unit) (10 ^ 28) (y2 i +ℚ m *ℚ y1 i)
    printed_whole = whole_add (1000 * f.unit) (5 * 10 ^ 27) (5 * 10 ^ 27) (y2 i) (m *ℚ y1 i) second_whole first_whole

    pub printed_dual_fits : RowFits (printed_dual_terms (y2 i) m (y1 i))
    printed_dual_fits = row_fits (1000 * f.unit) (5 * 10 ^ 27) (printed_dual_terms (y2 i) m (y1 i)) (let e = f.some in omega arith) (let e = f.few in omega arith) (omega arith) whole factors
      where
        whole : (k : ℕ) → k < 2 → IsWhole (1000 * f.unit) (5 * 10 ^ 27) (value_of ((printed_dual_terms (y2 i) m (y1 i)).term k))
        whole zero l = second_whole
        whole (suc k) l = first_whole

        factors : (k : ℕ) → k < 2 → FactorsFit ((printed_dual_terms (y2 i) m (y1 i)).term k)
        factors zero l = number_factors (y2 i)
        factors (suc k) l =
            product_factors (1000 * f.unit) 1 (2 * 10 ^ 22) 250000 m (y1 i) (let e = f.some in omega arith) (omega arith) f.whole (dual_one_whole y1 a i h) (omega arith) (let e = f.few in omega arith)

  -- ---- pricing
  pub pricing_parts : (c y : ℕ → ℚ) → ArePricing p s c y → HasPricing p s c y
  pricing_parts _ _ (of_phase phase y d) = record {
    unit = 1000;
    some = omega arith;
    few = omega arith;
    costs = λ j h. whole_more 1000 (10 ^ 12) (10 ^ 28) _ (omega arith) (cost_amount p s ok has one basis phase j h);
    duals = λ i h. whole_more 1000 (25 * 10 ^ 16) (10 ^ 28) (y i) (omega arith) (dual_bounded p s ok has one basis phase y d i h);
  }
  pricing_parts _ _ (of_print y a) =
      let f = factor_parts a.one a.two a.factor a.are_one a.are_two a.is_factor in
      record {
        unit = 1000 * f.unit;
        some = (let e = f.some in omega arith);
        few = (let e = f.few in omega arith);
        costs = λ j h. whole_more (1000 * f.unit) (10 ^ 12 * f.unit) (10 ^ 28) _ (let e = f.few in omega arith) (finer 1000 (10 ^ 12) f.unit _ (cost_amount p s ok has one basis PhaseTwo j h));
        duals = λ i h. subst (IsWhole (1000 * f.unit) (10 ^ 28)) (sym (a.are i h)) (printed_whole a.one a.two a.factor a.are_one a.are_two f i h);
      }

  module _ (c y : ℕ → ℚ) (u : HasPricing p s c y) (j : ℕ) (h : j < all_columns (layout_of p)) where
    -- A reduced cost.
    pub priced_fits : RowFits (reduced_cost_terms (c j) (rows_of p s) y ((stage_of p s).entry j))
    priced_fits =
        row_fits u.unit (2 * 10 ^ 28) (reduced_cost_terms (c j) (rows_of p s) y ((stage_of p s).entry j)) u.some (let e = u.few in omega arith)
        (let f = has.few_nodes in let e = rows_are p s one in omega arith) whole factors
      where
        whole : (k : ℕ) → k < suc (rows_of p s) → IsWhole u.unit (2 * 10 ^ 28) (value_of ((reduced_cost_terms (c j) (rows_of p s) y ((stage_of p s).entry j)).term k))
        whole zero l = whole_more u.unit (10 ^ 28) (2 * 10 ^ 28) (c j) (omega arith) (u.costs j h)
        whole (suc k) l =
            subst (λ d. IsWhole d (2 * 10 ^ 28) (neg_ℚ (y k) *ℚ (stage_of p s).entry j k)) (times_one u.unit)
            (whole_mul u.unit 1 (10 ^ 28) 2 (neg_ℚ (y k)) ((stage_of p s).entry j k) (whole_neg u.unit (10 ^ 28) (y k) (u.duals k (omega arith))) (entry_whole p s ok has one basis j k h (omega arith)))

        factors : (k : ℕ) → k < suc (rows_of p s) → FactorsFit ((reduced_cost_terms (c j) (rows_of p s) y ((stage_of p s).entry j)).term k)
        factors zero l = number_factors (c j)
        factors (suc k) l =
            product_factors u.unit 1 (10 ^ 28) 2 (neg_ℚ (y k)) ((stage_of p s).entry j k) u.some (omega arith) (whole_neg u.unit (10 ^ 28) (y k) (u.duals k (omega arith))) (entry_whole p s ok has one basis j k h (omega arith)) (omega arith)
            (let e = u.few in omega arith)

    -- A dual along an arc: stage one has no side rows.
    pub along_fits : (i : ℕ) (negative : Bool) (ys es : ℕ → ℚ) → i < rows_of p s → RowFits (arc_dual_terms (y i) negative (c j) (rows_of p s - p.nodes) ys es)
    along_fits i negative ys es l =
        row_fits u.unit (10 ^ 28) (arc_dual_terms (y i) negative (c j) (rows_of p s - p.nodes) ys es) u.some (let e = u.few in omega arith) (let e = no_sides in omega arith) whole factors
      where
        no_sides : rows_of p s - p.nodes ≡ 0
        no_sides = let e = rows_are p s one in omega arith

        whole : (k : ℕ) → k < suc (suc (rows_of p s - p.nodes)) → IsWhole u.unit (10 ^ 28) (value_of ((arc_dual_terms (y i) negative (c j) (rows_of p s - p.nodes) ys es).term k))
        whole zero m = with_sign_whole u.unit (10 ^ 28) negative (y i) (u.duals i l)
        whole (suc zero) m = u.costs j h
        whole (suc (suc k)) m = absurd (let e = no_sides in omega arith)

        factors : (k : ℕ) → k < suc (suc (rows_of p s - p.nodes)) → FactorsFit ((arc_dual_terms (y i) negative (c j) (rows_of p s - p.nodes) ys es).term k)
        factors zero m = number_factors (with_sign negative (y i))
        factors (suc zero) m = number_factors (c j)
        factors (suc (suc k)) m = absurd (let e = no_sides in omega arith)
