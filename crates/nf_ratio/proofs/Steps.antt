-- What limits a move are the steps of the simplex method's laws; the least gives the next state, and no two tie.
use Rattle.std.proofs.Common.{◌≡◌, ◌≢◌, ℕ, zero, suc, ◌<◌, inl, inr, Bool, true, false, refl, sym, ap, ◌∙◌, subst, [], ◌∷◌}
use Rattle.nf_num.specs.Rational.{ℚ, zero_ℚ, ◌+ℚ◌, ◌-ℚ◌, ◌*ℚ◌, neg_ℚ, ◌<ℚ◌}
use Rattle.nf_num.specs.Sum.{sum_ℚ}
use Rattle.nf_num.proofs.Linear.{linear_lt, lt}
use Rattle.nf_num.proofs.Linear as linear
use Rattle.nf_model.specs.Program.{LinearProgram}
use Rattle.nf_simplex.specs.Place.{Basic}
use Rattle.nf_simplex.specs.Stage.{Stage}
use Rattle.nf_simplex.specs.Step.{signed}
use Rattle.nf_simplex.specs.Lex.{bound_vector}
use Rattle.nf_simplex.specs.Columns.{Col}
use Rattle.nf_simplex.specs.Moves.{CanEnterIn}
use Rattle.nf_simplex.specs.Standing.{Standing, number_in, place_at, stage_of, AreEntriesOf, IsFeasibleState}
use Rattle.nf_simplex.proofs.Terms.{v, nought, minus, ◌:-◌, ring}
use Rattle.nf_simplex.proofs.Sum.{unit_other}
use Rattle.nf_simplex.proofs.Basis.{weights_are}
use Rattle.nf_simplex.proofs.Next.{bound_of, rate}
use Rattle.nf_simplex.proofs.Ratio.{speed, IsBlock, IsSpan, IsStep, IsLeast, no_tie, no_tie_span}
use Rattle.nf_ratio.specs.Ratios.{MoveNumbers, IsTowards, bound_on, Meets, Spans, Limits, IsLeastIn}
use Rattle.nf_ratio.specs.Ratios as ratios
use Rattle.nf_ratio.specs.Loops.{numbers_by}

moving : (up : Bool) (r : ℚ) → IsTowards up r → zero_ℚ <ℚ neg_ℚ (signed up r)
moving true r h = linear_lt (r ∷ []) (lt h ∷ []) (search linear.codes depth 12) tt
moving false r h = linear_lt (r ∷ []) (lt h ∷ []) (search linear.codes depth 12) tt

towards : (up : Bool) (r : ℚ) → zero_ℚ <ℚ neg_ℚ (signed up r) → IsTowards up r
towards true r h = linear_lt (r ∷ []) (lt h ∷ []) (search linear.codes depth 12) tt
towards false r h = linear_lt (r ∷ []) (lt h ∷ []) (search linear.codes depth 12) tt

on_side : (S : Stage) (up : Bool) (j : ℕ) → bound_on S up j ≡ bound_of S up j
on_side S true j = refl
on_side S false j = refl

apart_by : (a b : ℚ) (k : ℕ) → bound_vector (a -ℚ b) k ≡ bound_vector a k +ℚ neg_ℚ (bound_vector b k)
apart_by a b zero = refl
apart_by a b (suc k) = ring [] nought (nought :- nought) refl

module _ (p : LinearProgram) (s : Standing) (c : Col) (down : Bool) (f : IsFeasibleState p s) (enters : CanEnterIn p s c down) (w : ℕ → ℚ) (are : AreEntriesOf p s c w) where
  abbrev S : Stage
  S = stage_of p s

  abbrev e : ℕ
  e = number_in p c

  abbrev n : MoveNumbers p s c
  n = numbers_by p s c f w are

  rate_is : (j : ℕ) → j < S.columns → place_at s j ≡ Basic → ratios.rate down (w j) ≡ speed S (place_at s) f.feasible e down enters j
  unfolding rate
  rate_is j h b = ap (signed down)
      (ap neg_ℚ (weights_are S (place_at s) f.feasible.inverse f.feasible.basis.independent f.feasible.are_inverse (S.entry e) w are j h)
      ∙ (ring (sum_ℚ S.rows (λ r. S.entry e r *ℚ f.feasible.inverse r j) ∷ []) (minus (v 0)) (nought :- v 0) refl
      ∙ ap (λ y. y +ℚ neg_ℚ (sum_ℚ S.rows (λ r. S.entry e r *ℚ f.feasible.inverse r j))) (sym (unit_other e j (λ q. enters.nonbasic (ap (place_at s) q ∙ b))))))

  pub block : (j : ℕ) (r : ℕ → ℚ) (t : Meets p s c down n j r) → IsBlock S (place_at s) f.feasible e down enters j t.up t.bound r
  block j r t = record {
    there = t.within;
    basic = t.basic;
    is_bound = sym (on_side S t.up j) ∙ t.is_bound;
    moves = moving t.up (speed S (place_at s) f.feasible e down enters j) (subst (IsTowards t.up) (rate_is j t.within t.basic) t.towards);
    ratio = λ k h. ap (λ y. r k *ℚ y) (sym (rate_is j t.within t.basic)) ∙ t.ratio k h;
  }

  pub span : (r : ℕ → ℚ) → Spans p s c r → IsSpan S (place_at s) f.feasible e down enters r
  span r t = record { low = t.low; high = t.high; is_low = t.is_low; is_high = t.is_high; ratio = λ k h. t.ratio k h ∙ apart_by t.high t.low k }

  pub step_of : (j : ℕ) (r : ℕ → ℚ) → Limits p s c down n j r → IsStep S (place_at s) f.feasible e down enters r
  step_of j r (inl t) = inl (j, t.up, t.bound, block j r t)
  step_of j r (inr t) = inr (span r t.1)

  pub limit_of : (r : ℕ → ℚ) → IsStep S (place_at s) f.feasible e down enters r → (j : ℕ) × Limits p s c down n j r
  limit_of r (inl (j, up, b, t)) = (
    j,
    inl (record {
      within = t.there;
      basic = t.basic;
      up = up;
      bound = b;
      is_bound = on_side S up j ∙ t.is_bound;
      towards = subst (IsTowards up) (sym (rate_is j t.there t.basic)) (towards up (speed S (place_at s) f.feasible e down enters j) t.moves);
      ratio = λ k h. ap (λ y. r k *ℚ y) (rate_is j t.there t.basic) ∙ t.ratio k h;
    }),
  )
  limit_of r (inr t) = (e, inr (refl, record { low = t.low; high = t.high; is_low = t.is_low; is_high = t.is_high; ratio = λ k h. t.ratio k h ∙ sym (apart_by t.high t.low k) }))

  pub least_step : (r : ℕ → ℚ) → IsLeastIn p s c down n (suc S.rows) r → IsLeast S (place_at s) f.feasible e down enters r
  least_step r least q step less = let l = limit_of q step in least l.0 q l.1 less

  -- Two columns whose ratios agree in all members are one.
  pub one_column : (j k : ℕ) (r q : ℕ → ℚ) → Limits p s c down n j r → Limits p s c down n k q → ((i : ℕ) → i < suc S.rows → r i ≡ q i) → j ≢ k → ⊥
  one_column j k r q (inl a) (inl b) same d = no_tie S (place_at s) f.feasible e down enters j k a.up b.up a.bound b.bound r d (block j r a) (block k r (moved k r q same b))
    where
      moved : (k : ℕ) (r q : ℕ → ℚ) → ((i : ℕ) → i < suc S.rows → r i ≡ q i) → Meets p s c down n k q → Meets p s c down n k r
      moved k r q same b = record { within = b.within; basic = b.basic; up = b.up; bound = b.bound; is_bound = b.is_bound; towards = b.towards; ratio = λ i h. ap (λ y. y *ℚ ratios.rate down (w k)) (same i h) ∙ b.ratio i h }
  one_column j k r q (inl a) (inr b) same d = no_tie_span S (place_at s) f.feasible e down enters j a.up a.bound r (block j r a) (span r (record { low = b.1.low; high = b.1.high; is_low = b.1.is_low; is_high = b.1.is_high; ratio = λ i h. same i h ∙ b.1.ratio i h }))
  one_column j k r q (inr a) (inl b) same d = no_tie_span S (place_at s) f.feasible e down enters k b.up b.bound q (block k q b) (span q (record { low = a.1.low; high = a.1.high; is_low = a.1.is_low; is_high = a.1.is_high; ratio = λ i h. sym (same i h) ∙ a.1.ratio i h }))
  one_column j k r q (inr a) (inr b) same d = d (a.0 ∙ sym b.0)
