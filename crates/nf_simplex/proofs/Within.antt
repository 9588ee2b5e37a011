-- What a state's places and vectors say of its values: they are within their bounds, and reduced costs of the right sign fit them.
use Rattle.std.proofs.Common.{◌≡◌, ◌≢◌, ℕ, zero, suc, ◌<◌, ◌⊎◌, inl, inr, refl, sym, ap, ◌∙◌, subst, arith, Option, Some, None}
use Rattle.nf_num.specs.Rational.{ℚ, zero_ℚ, ◌+ℚ◌, neg_ℚ, ◌≤ℚ◌, ◌<ℚ◌}
use Rattle.nf_num.proofs.Laws.{le_of_lt}
use Rattle.nf_num.proofs.Order.{le_of_sub_nonneg, le_of_eq}
use Rattle.nf_model.specs.Certificate.{IsSignedByBounds}
use Rattle.nf_model.specs.Problem.{AreInOrder}
use Rattle.nf_model.specs.Program.{IsAtLeast, IsAtMost}
use Rattle.nf_simplex.specs.Lex.{vector, IsLexPositive, IsAbove, IsUnder, bound_vector, IsLexFeasible}
use Rattle.nf_simplex.specs.Numbers.{StandsAt}
use Rattle.nf_simplex.specs.Place.{Place, Lower, Upper, Zero, Absent, Basic}
use Rattle.nf_simplex.specs.Pricing.{HasWrongSign}
use Rattle.nf_simplex.specs.Stage.{Stage}
use Rattle.nf_simplex.proofs.FieldLaws.{less_cases, less_irrefl}

pub first_nonneg : (n : ℕ) (u : ℕ → ℚ) → IsLexPositive n u → zero_ℚ ≤ℚ u 0
first_nonneg n u p = of p.first p.positive p.zeros
  where
    of : (k : ℕ) → zero_ℚ <ℚ u k → ((i : ℕ) → i < k → u i ≡ zero_ℚ) → zero_ℚ ≤ℚ u 0
    of zero h z = le_of_lt zero_ℚ (u 0) h
    of (suc k) h z = le_of_eq zero_ℚ (u 0) (sym (z 0 (omega arith)))

above_first : (n : ℕ) (l : Option ℚ) (u : ℕ → ℚ) → IsAbove n l u → IsAtLeast l (u 0)
above_first n None u h = tt
above_first n (Some b) u h = le_of_sub_nonneg b (u 0) (first_nonneg n (λ k. u k +ℚ neg_ℚ (bound_vector b k)) h)

under_first : (n : ℕ) (l : Option ℚ) (u : ℕ → ℚ) → IsUnder n l u → IsAtMost l (u 0)
under_first n None u h = tt
under_first n (Some b) u h = le_of_sub_nonneg (u 0) b (first_nonneg n (λ k. bound_vector b k +ℚ neg_ℚ (u k)) h)

at_place : (a : Place) (l u : Option ℚ) (x : ℚ) → a ≢ Basic → a ≢ Absent → AreInOrder l u → StandsAt a l u x → IsAtLeast l x × IsAtMost u x
at_place Lower (Some l) u x nb na o e = (le_of_eq l x (sym e), subst (λ z. IsAtMost u z) (sym e) o)
at_place Lower None u x nb na o e = absurd e
at_place Upper (Some l) (Some u) x nb na o e = (subst (λ z. l ≤ℚ z) (sym e) o, le_of_eq x u e)
at_place Upper None (Some u) x nb na o e = (tt, le_of_eq x u e)
at_place Upper (Some l) None x nb na o e = absurd e
at_place Upper None None x nb na o e = absurd e
at_place Zero (Some l) u x nb na o e = absurd e
at_place Zero None (Some u) x nb na o e = absurd e
at_place Zero None None x nb na o e = (tt, tt)
at_place Absent l u x nb na o e = absurd (na refl)
at_place Basic l u x nb na o e = absurd (nb refl)

pub basic_or_other : (a : Place) → (a ≡ Basic) ⊎ (a ≢ Basic)
basic_or_other Lower = inr (λ e. cc)
basic_or_other Upper = inr (λ e. cc)
basic_or_other Zero = inr (λ e. cc)
basic_or_other Absent = inr (λ e. cc)
basic_or_other Basic = inl refl

-- A column that is there is within its bounds.
pub values_within : (S : Stage) (s : ℕ → Place) (f : IsLexFeasible S s) (j : ℕ) → j < S.columns → s j ≢ Absent → AreInOrder (S.lower j) (S.upper j) → IsAtLeast (S.lower j) (f.values j) × IsAtMost (S.upper j) (f.values j)
values_within S s f j h na o = of (basic_or_other (s j))
  where
    of : (s j ≡ Basic) ⊎ (s j ≢ Basic) → IsAtLeast (S.lower j) (f.values j) × IsAtMost (S.upper j) (f.values j)
    of (inl b) = (above_first (suc S.rows) (S.lower j) (vector S f.values f.inverse j) (f.above j h b), under_first (suc S.rows) (S.upper j) (vector S f.values f.inverse j) (f.under j h b))
    of (inr nb) = at_place (s j) (S.lower j) (S.upper j) (f.values j) nb na o (f.are_values.stands j h)

-- two bounds that are equal, or that can differ
equal_bounds : (l u : Option ℚ) → ((x : ℚ) × (l ≡ Some x) × (u ≡ Some x)) ⊎ ((a b : ℚ) → l ≡ Some a → u ≡ Some b → a ≢ b)
equal_bounds None u = inr (λ a b e d q. let x : None ≡ Some a = e in absurd (cc))
equal_bounds (Some l) None = inr (λ a b e d q. let x : None ≡ Some b = d in absurd (cc))
equal_bounds (Some l) (Some u) = of (less_cases l u)
  where
    of : (l <ℚ u) ⊎ ((l ≡ u) ⊎ (u <ℚ l)) → ((x : ℚ) × (Some l ≡ Some x) × (Some u ≡ Some x)) ⊎ ((a b : ℚ) → Some l ≡ Some a → Some u ≡ Some b → a ≢ b)
    of (inl h) = inr (λ a b e d q. less_irrefl l (subst (λ z. l <ℚ z) (let r : l ≡ u = cc in sym r) h))
    of (inr (inl e)) = inl (l, refl, ap Some (sym e))
    of (inr (inr h)) = inr (λ a b e d q. less_irrefl l (subst (λ z. z <ℚ l) (let r : l ≡ u = cc in sym r) h))

-- A reduced cost that is 0 at a basic column, and has no wrong sign where the bounds differ, fits the column's number.
pub signed_by_place : (a : Place) (l u : Option ℚ) (x d : ℚ) → StandsAt a l u x → a ≢ Absent → (a ≡ Basic → d ≡ zero_ℚ)
    → (((lo hi : ℚ) → l ≡ Some lo → u ≡ Some hi → lo ≢ hi) → HasWrongSign a d → ⊥) → IsSignedByBounds d l u x
signed_by_place Basic l u x d stands na basic right = (
  λ h. absurd (less_irrefl zero_ℚ (subst (λ z. zero_ℚ <ℚ z) (basic refl) h)),
  λ h. absurd (less_irrefl zero_ℚ (subst (λ z. z <ℚ zero_ℚ) (basic refl) h)),
)
signed_by_place Absent l u x d stands na basic right = absurd (na refl)
signed_by_place Zero (Some l) u x d stands na basic right = absurd stands
signed_by_place Zero None (Some u) x d stands na basic right = absurd stands
signed_by_place Zero None None x d stands na basic right = (λ h. absurd (right none (λ e. less_irrefl zero_ℚ (subst (λ z. zero_ℚ <ℚ z) e h))), λ h. absurd (right none (λ e. less_irrefl zero_ℚ (subst (λ z. z <ℚ zero_ℚ) e h))))
  where
    none : (lo hi : ℚ) → None ≡ Some lo → None ≡ Some hi → lo ≢ hi
    none lo hi e f q = absurd (cc)
signed_by_place Lower None u x d stands na basic right = absurd stands
signed_by_place Lower (Some l) u x d stands na basic right = (λ h. ap Some (sym stands), λ h. of h (equal_bounds (Some l) u))
  where
    of : d <ℚ zero_ℚ → ((y : ℚ) × (Some l ≡ Some y) × (u ≡ Some y)) ⊎ ((a b : ℚ) → Some l ≡ Some a → u ≡ Some b → a ≢ b) → u ≡ Some x
    of h (inl (y, e, f)) = let q : l ≡ y = cc in f ∙ ap Some (sym q ∙ sym stands)
    of h (inr n) = absurd (right n h)
signed_by_place Upper l None x d stands na basic right = absurd (no l stands)
  where
    no : (l : Option ℚ) → StandsAt Upper l None x → ⊥
    no None s = s
    no (Some l) s = s
signed_by_place Upper l (Some u) x d stands na basic right = (λ h. of h (equal_bounds l (Some u)), λ h. ap Some (sym (same l stands)))
  where
    same : (l : Option ℚ) → StandsAt Upper l (Some u) x → x ≡ u
    same None s = s
    same (Some l) s = s

    of : zero_ℚ <ℚ d → ((y : ℚ) × (l ≡ Some y) × (Some u ≡ Some y)) ⊎ ((a b : ℚ) → l ≡ Some a → Some u ≡ Some b → a ≢ b) → l ≡ Some x
    of h (inl (y, e, f)) = let q : u ≡ y = cc in e ∙ ap Some (sym q ∙ sym (same l stands))
    of h (inr n) = absurd (right n h)
