-- Linear inequalities between rational numbers, decided by computing. From facts h : x ≤ℚ y, k : y <ℚ z and e : u ≡ v,
--     linear_le (x ∷ y ∷ z ∷ []) (le h ∷ lt k ∷ []) (search codes depth 12) tt       proves x ≤ℚ z, and linear_lt x <ℚ z
--     linear_absurd (x ∷ y ∷ []) (le h ∷ lt k ∷ []) (search codes depth 12) tt       proves ⊥. An equation is two inequalities and `le_antisymm`.
-- Products of atoms count as atoms: hand over what is to be known of them, as `le (mul_nonneg x y h k)`.
-- The facts that make the goal follow are found by eliminating one atom after another, and only the sum that they end in is checked.
use Rattle.std.proofs.Common.{◌≡◌, ℕ, zero, suc, ◌+◌, ◌*◌, refl, sym, subst, Bool, true, false, ◌||◌, cond, T, List, [], ◌∷◌, ◌++◌, ℤ, pos, negsuc, inl, inr, ◌⊎◌, subst₂}
use mathlib.Core.Option.{Option, none, some}
use Rattle.nf_num.specs.Rational.{ℚ, of_ℤ, zero_ℚ, ◌+ℚ◌, ◌*ℚ◌, ◌-ℚ◌, ◌≤ℚ◌, ◌<ℚ◌}
use Rattle.nf_num.proofs.Laws as law
use Rattle.nf_num.proofs.Order as order
use borrow.Author.Differences.{ints}
use native.Mathlib.Omega.{arith}
use Rattle.nf_num.proofs.Ring as R
use Rattle.nf_num.proofs.Ring.{Expr, Poly, Term, Mono, plus, times, minus, con, normal, mono_eq}
use Rattle.nf_num.proofs.Field.{ℚ_ring, Sides, codes as sides, ring}

-- ---- facts

abbrev pub Holds : Bool → ℚ → ℚ → Type 0
Holds true x y = x <ℚ y
Holds false x y = x ≤ℚ y

pub record Fact : Type 0 where
  pub low : ℚ
  pub high : ℚ
  pub strict : Bool
  pub holds : Holds strict low high

abbrev pub le : {x y : ℚ} → x ≤ℚ y → Fact
le {x} {y} h = record { low = x; high = y; strict = false; holds = h }

abbrev pub lt : {x y : ℚ} → x <ℚ y → Fact
lt {x} {y} h = record { low = x; high = y; strict = true; holds = h }

-- the two halves of an equation
abbrev pub eq : {x y : ℚ} → x ≡ y → Fact
eq {x} {y} h = le (subst (λ z. x ≤ℚ z) h (law.le_refl x))

abbrev pub qe : {x y : ℚ} → x ≡ y → Fact
qe {x} {y} h = le (subst (λ z. z ≤ℚ x) h (law.le_refl x))

pub data Codes (env : List ℚ) : List Fact → Type 0 where
  no_more : Codes env []
  more : {f : Fact} {fs : List Fact} → Sides env f.low f.high → Codes env fs → Codes env (f ∷ fs)

pub record Problem (env : List ℚ) (facts : List Fact) (x y : ℚ) : Type 0 where
  pub goal : Sides env x y
  pub given : Codes env facts

abbrev pub problem : {env : List ℚ} {facts : List Fact} {x y : ℚ} → Sides env x y → Codes env facts → Problem env facts x y
problem s c = record { goal = s; given = c }

pub ruleset codes = (problem, no_more, more, sides)

-- ---- what is computed

-- 0 ≤ code, or 0 < code
pub record Shape : Type 0 where
  pub strict : Bool
  pub code : Expr

abbrev pub scaled : ℕ → Shape → Shape → Shape
scaled zero s rest = rest
scaled (suc k) s rest = record { strict = s.strict || rest.strict; code = plus (times (con (pos (suc k))) s.code) rest.code }

abbrev pub combined : List ℕ → List Shape → Shape
combined [] ss = record { strict = false; code = con (pos 0) }
combined (k ∷ ks) [] = record { strict = false; code = con (pos 0) }
combined (k ∷ ks) (s ∷ ss) = scaled k s (combined ks ss)

abbrev pub is_negative : ℤ → Bool
is_negative (pos n) = false
is_negative (negsuc n) = true

abbrev pub is_absurd : Bool → Poly → Bool
is_absurd strict [] = strict
is_absurd strict (t ∷ []) = cond (mono_eq t.mono []) (is_negative t.coef) false
is_absurd strict (t ∷ u ∷ p) = false

pub record Line : Type 0 where
  pub strict : Bool
  pub poly : Poly
  pub factors : List ℕ

abbrev pub factors_add : ℕ → List ℕ → ℕ → List ℕ → List ℕ
factors_add k [] l [] = []
factors_add k [] l (n ∷ ns) = (l * n) ∷ factors_add k [] l ns
factors_add k (m ∷ ms) l [] = (k * m) ∷ factors_add k ms l []
factors_add k (m ∷ ms) l (n ∷ ns) = (k * m + l * n) ∷ factors_add k ms l ns

abbrev pub line_add : ℕ → Line → ℕ → Line → Line
line_add k a l b = record { strict = a.strict || b.strict; poly = R.poly_add (R.scale (pos k) [] a.poly) (R.scale (pos l) [] b.poly); factors = factors_add k a.factors l b.factors }

abbrev pub coefficient : Mono → Poly → ℤ
coefficient m [] = pos 0
coefficient m (t ∷ p) = cond (mono_eq m t.mono) t.coef (coefficient m p)

abbrev pub with_neg : ℕ → Line → ℤ → Line → List Line → List Line
with_neg k a (pos n) b rest = rest
with_neg k a (negsuc n) b rest = line_add (suc n) a k b ∷ rest

abbrev pub with_all_neg : Mono → ℕ → Line → List Line → List Line
with_all_neg m k a [] = []
with_all_neg m k a (b ∷ bs) = with_neg k a (coefficient m b.poly) b (with_all_neg m k a bs)

abbrev pub pairs_of : Mono → ℤ → Line → List Line → List Line
pairs_of m (pos zero) a all = a ∷ []
pairs_of m (pos (suc n)) a all = with_all_neg m (suc n) a all
pairs_of m (negsuc n) a all = []

abbrev pub eliminated : Mono → List Line → List Line → List Line
eliminated m [] all = []
eliminated m (a ∷ ls) all = pairs_of m (coefficient m a.poly) a all ++ eliminated m ls all

abbrev pub atom_of : Poly → Option Mono
atom_of [] = none
atom_of (t ∷ p) = elim t.mono [ [] ↦ atom_of p | v ∷ m ↦ some (v ∷ m) ]

abbrev pub atom_in : List Line → Option Mono
atom_in [] = none
atom_in (a ∷ ls) = elim (atom_of a.poly) [ none ↦ atom_in ls | some m ↦ some m ]

abbrev pub absurd_in : List Line → Option (List ℕ)
absurd_in [] = none
absurd_in (a ∷ ls) = elim (is_absurd a.strict a.poly) [ true ↦ some a.factors | false ↦ absurd_in ls ]

abbrev pub search_lines : ℕ → List Line → List ℕ
search_lines zero ls = []
search_lines (suc fuel) ls =
    elim (absurd_in ls) [ some ks ↦ ks | none ↦ elim (atom_in ls) [ none ↦ [] | some m ↦ search_lines fuel (eliminated m ls ls) ] ]

abbrev pub zeros : ℕ → List ℕ
zeros zero = []
zeros (suc n) = 0 ∷ zeros n

abbrev pub lines_of : ℕ → List Shape → List Line
lines_of n [] = []
lines_of n (s ∷ ss) = record { strict = s.strict; poly = normal s.code; factors = zeros n ++ 1 ∷ [] } ∷ lines_of (suc n) ss

abbrev pub factors_of : List Shape → List ℕ
factors_of ss = search_lines 24 (lines_of 0 ss)

abbrev pub refutes_by : List ℕ → List Shape → Bool
refutes_by ks ss = is_absurd (combined ks ss).strict (normal (combined ks ss).code)

abbrev pub refutes : List Shape → Bool
refutes ss = refutes_by (factors_of ss) ss

-- ---- soundness

Is : List ℚ → Shape → Type 0
Is env s = Holds s.strict zero_ℚ (R.value ℚ_ring env s.code)

Holds_add : (s t : Bool) (x y : ℚ) → Holds s zero_ℚ x → Holds t zero_ℚ y → Holds (s || t) zero_ℚ (x +ℚ y)
Holds_add true true x y h k = order.add_pos x y h (law.le_of_lt zero_ℚ y k)
Holds_add true false x y h k = order.add_pos x y h k
Holds_add false true x y h k = order.add_pos_of_nonneg x y h k
Holds_add false false x y h k = order.add_nonneg x y h k

Holds_mul : (s : Bool) (c x : ℚ) → zero_ℚ <ℚ c → Holds s zero_ℚ x → Holds s zero_ℚ (c *ℚ x)
Holds_mul true c x h k = order.mul_pos c x h k
Holds_mul false c x h k = law.mul_nonneg c x (law.le_of_lt zero_ℚ c h) k

abbrev AllAre : List ℚ → List Shape → Type 0
AllAre env [] = Unit {0}
AllAre env (s ∷ ss) = Holds s.strict zero_ℚ (R.value ℚ_ring env s.code) × AllAre env ss

combined_is : (env : List ℚ) (ks : List ℕ) (ss : List Shape) → AllAre env ss → Is env (combined ks ss)
unfolding Is
combined_is env [] ss h = law.le_refl zero_ℚ
combined_is env (k ∷ ks) [] h = law.le_refl zero_ℚ
combined_is env (zero ∷ ks) (s ∷ ss) h = combined_is env ks ss h.1
combined_is env (suc k ∷ ks) (s ∷ ss) h =
    let c : ℚ = of_ℤ (pos (suc k)) in
    Holds_add s.strict (combined ks ss).strict (c *ℚ R.value ℚ_ring env s.code) (R.value ℚ_ring env (combined ks ss).code)
    (Holds_mul s.strict c (R.value ℚ_ring env s.code) (order.of_ℤ-lt (pos 0) (pos (suc k)) (omega (arith, ints))) h.0)
    (combined_is env ks ss h.1)

weaken : (s : Bool) (x y : ℚ) → Holds s x y → x ≤ℚ y
weaken true x y h = law.le_of_lt x y h
weaken false x y h = h

lone : (env : List ℚ) (strict : Bool) (c : ℤ) (m : Mono) → T (cond (mono_eq m []) (is_negative c) false) → Holds strict zero_ℚ (of_ℤ c *ℚ R.mono_value ℚ_ring env m +ℚ zero_ℚ) → ⊥
lone env strict c (v ∷ m) a h = absurd a
lone env strict (pos n) [] a h = absurd a
lone env strict (negsuc n) [] a h =
    (order.of_ℤ-le_out (pos 0) (negsuc n)
    (subst (λ z. zero_ℚ ≤ℚ z) (ring (of_ℤ (negsuc n) ∷ []) (search sides) refl) (weaken strict zero_ℚ (of_ℤ (negsuc n) *ℚ of_ℤ (pos 1) +ℚ zero_ℚ) h))).le

absurd_sum : (env : List ℚ) (strict : Bool) (p : Poly) → T (is_absurd strict p) → Holds strict zero_ℚ (R.poly_value ℚ_ring env p) → ⊥
absurd_sum env true [] t h = order.lt_irrefl zero_ℚ h
absurd_sum env false [] t h = absurd t
absurd_sum env strict (t ∷ u ∷ p) a h = absurd a
absurd_sum env strict (t ∷ []) a h = lone env strict t.coef t.mono a h

refute : (env : List ℚ) (ks : List ℕ) (ss : List Shape) → AllAre env ss → T (refutes_by ks ss) → ⊥
unfolding Is
refute env ks ss h t =
    let s : Shape = combined ks ss in
    absurd_sum env s.strict (normal s.code) t (subst (λ v. Holds s.strict zero_ℚ v) (sym (R.normal-sound ℚ_ring env s.code)) (combined_is env ks ss h))

-- ---- what is called

abbrev pub difference : {env : List ℚ} {x y : ℚ} → Bool → Sides env x y → Shape
difference strict s = record { strict = strict; code = plus s.right.code (minus s.left.code) }

abbrev pub shapes : {env : List ℚ} {fs : List Fact} → Codes env fs → List Shape
shapes no_more = []
shapes (more {f} s c) = difference f.strict s ∷ shapes c

apart : (strict : Bool) (x y : ℚ) → Holds strict x y → Holds strict zero_ℚ (y -ℚ x)
apart true x y h = order.sub_pos x y h
apart false x y h = order.sub_nonneg x y h

difference_is : (env : List ℚ) (x y : ℚ) (strict : Bool) (s : Sides env x y) → Holds strict x y → Is env (difference strict s)
unfolding Is
difference_is env x y strict s h = subst₂ (λ u v. Holds strict zero_ℚ (v -ℚ u)) (sym s.left.is) (sym s.right.is) (apart strict x y h)

shapes_are : (env : List ℚ) (fs : List Fact) (c : Codes env fs) → AllAre env (shapes c)
unfolding Is
shapes_are env [] no_more = tt
shapes_are env (f ∷ fs) (more s c) = (difference_is env f.low f.high f.strict s f.holds, shapes_are env fs c)

pub linear_le : (env : List ℚ) (facts : List Fact) {x y : ℚ} (p : Problem env facts x y) → T (refutes (record { strict = true; code = plus p.goal.left.code (minus p.goal.right.code) } ∷ shapes p.given)) → x ≤ℚ y
unfolding Is
linear_le env facts {x} {y} p t = go (law.le_or_lt x y)
  where
    back : Sides env y x
    back = record { left = p.goal.right; right = p.goal.left }

    go : (x ≤ℚ y) ⊎ (y <ℚ x) → x ≤ℚ y
    go (inl h) = h
    go (inr h) = absurd (refute env (factors_of (difference true back ∷ shapes p.given)) (difference true back ∷ shapes p.given) (difference_is env y x true back h, shapes_are env facts p.given) t)

pub linear_lt : (env : List ℚ) (facts : List Fact) {x y : ℚ} (p : Problem env facts x y) → T (refutes (record { strict = false; code = plus p.goal.left.code (minus p.goal.right.code) } ∷ shapes p.given)) → x <ℚ y
unfolding Is
linear_lt env facts {x} {y} p t = go (law.le_or_lt y x)
  where
    back : Sides env y x
    back = record { left = p.goal.right; right = p.goal.left }

    go : (y ≤ℚ x) ⊎ (x <ℚ y) → x <ℚ y
    go (inr h) = h
    go (inl h) = absurd (refute env (factors_of (difference false back ∷ shapes p.given)) (difference false back ∷ shapes p.given) (difference_is env y x false back h, shapes_are env facts p.given) t)

pub linear_absurd : (env : List ℚ) (facts : List Fact) (c : Codes env facts) → T (refutes (shapes c)) → ⊥
linear_absurd env facts c t = refute env (factors_of (shapes c)) (shapes c) (shapes_are env facts c) t
