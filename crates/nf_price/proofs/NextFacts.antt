-- The queue tidied by what the deciding phase wants is tidied by what is eligible.
use Rattle.std.proofs.Common.{◌≡◌, ◌≢◌, inl, inr, ℕ, suc, ◌<◌, ◌≤◌, Bool, true, false, List, [], ◌∷◌, length, MatchBool, refl, sym, ap, ◌∙◌, subst, arith}
use Rattle.nf_num.specs.Rational.{ℚ, zero_ℚ, ◌<ℚ◌}
use Rattle.nf_model.specs.Program.{LinearProgram}
use Rattle.nf_model.specs.Program.{at as number_at}
use Rattle.nf_simplex.specs.Columns.{ones, twos}
use Rattle.nf_simplex.specs.Layout.{layout_of}
use Rattle.nf_simplex.specs.Moves.{Prices, IsNextQueueIn}
use Rattle.nf_simplex.specs.Pricing.{Queue, IsEligible}
use Rattle.nf_simplex.specs.Queue.{PricingState, IsTidied}
use Rattle.nf_simplex.specs.Standing.{Standing, PhaseOne, PhaseTwo, AreDualsOf, place_at, stage_of}
use Rattle.nf_simplex.specs.Verdicts.{artificial_sum}
use Rattle.nf_simplex.proofs.Queue.{tidied_same}
use Rattle.nf_basis.specs.declared.col.Phase.{Phase}
use Rattle.nf_basis.specs.declared.col.Phase.TheVariants.{One, Two}
use Rattle.nf_price.specs.Choice.{Decides, HasEligible, TellsShort}
use Rattle.nf_price.specs.Wanted.{Wants, WantsNone, WantsSome}

-- ---- the deciding phase
pub decides_short : (p : LinearProgram) (s : Standing) (y1 y2 : List ℚ) (short : Bool) → short ≡ true → HasEligible p s y1 y2 short → Decides p s y1 y2 short One
decides_short p s y1 y2 short e (One, h) = h
decides_short p s y1 y2 short e (Two, h) = absurd (let z : true ≡ false = sym e ∙ h.0 in cc)

pub decides_two : (p : LinearProgram) (s : Standing) (y1 y2 : List ℚ) (short : Bool) → WantsNone p s One y1 y2 → HasEligible p s y1 y2 short → Decides p s y1 y2 short Two
decides_two p s y1 y2 short none (One, h) = absurd (none h.0 h.1)
decides_two p s y1 y2 short none (Two, h) = h

pub some_wanted : (p : LinearProgram) (s : Standing) (y1 y2 : List ℚ) (short : Bool) (phase : Phase) → Decides p s y1 y2 short phase → WantsSome p s phase y1 y2
some_wanted p s y1 y2 short One h = h
some_wanted p s y1 y2 short Two h = h.2

-- ---- a tidied queue has a front
pub not_none : (ys : List ℕ) → 0 < length ys → ys ≢ []
not_none ys h e = (let z : length ys ≡ 0 = ap length e in omega (arith, h, z))

pub none_of : (ys : List ℕ) → length ys ≤ 0 → ys ≡ []
none_of [] h = refl
none_of (y ∷ ys) h = absurd (omega (arith, h))

not_empty : (ys : List ℕ) → ys ≢ [] → 0 < length ys
not_empty [] h = absurd (h refl)
not_empty (y ∷ ys) h = omega arith

pub some_front : (size : ℕ) (at : PricingState) (P : ℕ → Type 0) (ys : List ℕ) → 0 < size → (j : ℕ) × P j → IsTidied size at P ys → 0 < length ys
some_front size at P ys h w (inl a) = not_empty ys a.1
some_front size at P [] h w (inr (a, inl e)) = absurd (omega (arith, h, e))
some_front size at P [] h w (inr (a, inr none)) = absurd (none (suc w.0) w.1)
some_front size at P (y ∷ ys) h w (inr a) = omega arith

-- ---- the next queue
module _ (p : LinearProgram) (s : Standing) (y1 y2 : List ℚ) (short : Bool) (d1 : AreDualsOf p s PhaseOne (number_at y1)) (d2 : AreDualsOf p s PhaseTwo (number_at y2)) (told : TellsShort p s short) where
  prices : Prices p s
  prices = record { values = told.0; one = number_at y1; two = number_at y2; are_values = told.1; are_duals_one = d1; are_duals_two = d2 }

  abbrev Eligible : ℕ → Type 0
  Eligible j = IsEligible (stage_of p s) (place_at s) told.0 (ones (layout_of p)) (twos (layout_of p)) (number_at y1) (number_at y2) j

  to : (phase : Phase) → Decides p s y1 y2 short phase → (j : ℕ) → Wants p s phase y1 y2 j → Eligible j
  to One h j w = inl w
  to Two h j w = inr (h.1, subst (λ b. MatchBool b (zero_ℚ <ℚ artificial_sum p told.0) (artificial_sum p told.0 ≡ zero_ℚ)) h.0 told.2, w)

  back : (phase : Phase) → Decides p s y1 y2 short phase → (j : ℕ) → Eligible j → Wants p s phase y1 y2 j
  back One h j (inl w) = w
  back One h j (inr w) = absurd (w.0 h.0 h.1)
  back Two h j (inl w) = absurd (h.1 j w)
  back Two h j (inr w) = w.2

  pub next_queue : (phase : Phase) (size : ℕ) (at : PricingState) (front : ℕ) (ys zs : List ℕ) → Decides p s y1 y2 short phase → zs ≡ front ∷ ys → IsTidied size at (Wants p s phase y1 y2) zs → IsNextQueueIn p s (Queue size) at ys
  unfolding prices
  next_queue phase size at front ys zs h e t = (prices, (front, tidied_same size at (Wants p s phase y1 y2) Eligible (to phase h) (back phase h) (front ∷ ys) (subst (IsTidied size at (Wants p s phase y1 y2)) e t)))
