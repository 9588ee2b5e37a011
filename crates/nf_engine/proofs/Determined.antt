-- A run has one halt and one end: of two runs one goes on from where the other has come, and where a halt is due no run
-- goes on.
use Rattle.std.proofs.Common.{◌≡◌, ◌⊎◌, inl, inr, ℕ, ◌<◌, ◌≤◌, refl, sym, ap, subst, arith}
use Rattle.nf_model.specs.Program.{LinearProgram}
use Rattle.nf_model.specs.Problem.{IsProblem}
use Rattle.nf_simplex.specs.Standing.{IsFeasibleState}
use Rattle.nf_price.specs.declared.rule.Rule.{Rule}
use Rattle.nf_engine.specs.declared.halt.Halt.{Halt}
use Rattle.nf_engine.specs.declared.halt.Halt.TheVariants.{Ended}
use Rattle.nf_engine.specs.declared.halt.Pauses.{Pauses}
use Rattle.nf_engine.specs.Point.{Point}
use Rattle.nf_engine.specs.Run.{GoesOn, GoesOnTo, Halts, IsFeasibleDue, IsPauseDue, RunsTo}
use Rattle.nf_engine.specs.Run.GoesOn.{here, further}
use Rattle.nf_engine.specs.Run.Halts.{ended, limit, pause, feasible}
use Rattle.nf_engine.proofs.Once.{end_once, step_no_end, step_once}

module _ (p : LinearProgram) (ok : IsProblem p) (rule : Rule) (most : ℕ) (pauses : Pauses) where
  -- A step without a halt is the only one.
  on_once : (a b e : Point) → IsFeasibleState p a.standing → GoesOnTo p rule most pauses a b → GoesOnTo p rule most pauses a e → b ≡ e
  on_once a b e f x y = (step_once p ok rule a f x.column y.column b e x.step y.step).1

  -- ---- paths
  on_feasible : (a b : Point) → IsFeasibleState p a.standing → GoesOn p rule most pauses a b → IsFeasibleState p b.standing
  on_feasible a _ f here = f
  on_feasible a _ f (further m b on to) = to.step.moves.feasible

  -- A path has a first step, or is none.
  first : (a b : Point) → GoesOn p rule most pauses a b → (a ≡ b) ⊎ ((m : Point) × GoesOnTo p rule most pauses a m × GoesOn p rule most pauses m b)
  first a _ here = inl refl
  first a _ (further m b on to) = of (first a m on)
    where
      of : (a ≡ m) ⊎ ((k : Point) × GoesOnTo p rule most pauses a k × GoesOn p rule most pauses k m) → (a ≡ b) ⊎ ((k : Point) × GoesOnTo p rule most pauses a k × GoesOn p rule most pauses k b)
      of (inl e) = inr (b, subst (λ z. GoesOnTo p rule most pauses z b) (sym e) to, here)
      of (inr (k, x, more)) = inr (k, x, further m b more to)

  -- Of two paths from a point one goes on from the end of the other.
  in_line : (a m n : Point) → IsFeasibleState p a.standing → GoesOn p rule most pauses a m → GoesOn p rule most pauses a n → GoesOn p rule most pauses m n ⊎ GoesOn p rule most pauses n m
  in_line a m _ f x here = inr x
  in_line a m _ f x (further k n on to) = of (in_line a m k f x on)
    where
      of : GoesOn p rule most pauses m k ⊎ GoesOn p rule most pauses k m → GoesOn p rule most pauses m n ⊎ GoesOn p rule most pauses n m
      of (inl y) = inl (further k n y to)
      of (inr y) = on_from (first k m y)
        where
          on_from : (k ≡ m) ⊎ ((l : Point) × GoesOnTo p rule most pauses k l × GoesOn p rule most pauses l m) → GoesOn p rule most pauses m n ⊎ GoesOn p rule most pauses n m
          on_from (inl e) = inl (subst (λ z. GoesOn p rule most pauses z n) e (further k n here to))
          on_from (inr (l, z, more)) = inr (subst (λ w. GoesOn p rule most pauses w m) (on_once k l n (on_feasible a k f on) z to) more)

  -- ---- halts
  -- Where a halt is due no path goes on.
  no_more : (a b e : Point) (h : Halt) → IsFeasibleState p a.standing → GoesOnTo p rule most pauses a b → Halts p rule most pauses a h e → ⊥
  no_more a b _ _ f x (ended m end) = step_no_end p ok rule a f x.column b.standing x.step.moves m end
  no_more a b _ _ f x (limit c e step full) = let h = x.below in omega (arith, h, full)
  no_more a b _ _ f x (pause c e below step due) = x.no_pause (subst (λ z. IsPauseDue pauses z.pivots) (sym (step_once p ok rule a f x.column c b e x.step step).1) due)
  no_more a b _ _ f x (feasible c e below step none due) = x.not_feasible (subst (λ z. IsFeasibleDue p pauses a z) (sym (step_once p ok rule a f x.column c b e x.step step).1) due)

  passed : {A : Type 0} (n : ℕ) → n < most → most ≤ n → A
  passed n below full = absurd (omega (arith, below, full))

  -- One halt is due, and leads to one point.
  halt_once : (a b e : Point) (h k : Halt) → IsFeasibleState p a.standing → Halts p rule most pauses a h b → Halts p rule most pauses a k e → (h ≡ k) × (b ≡ e)
  halt_once a _ _ _ _ f (ended m x) (ended n y) = (ap Ended (end_once p ok rule a f m n x y), refl)
  halt_once a _ _ _ _ f (ended m x) (limit c t step full) = absurd (step_no_end p ok rule a f c t step m x)
  halt_once a _ _ _ _ f (ended m x) (pause c b below step due) = absurd (step_no_end p ok rule a f c b.standing step.moves m x)
  halt_once a _ _ _ _ f (ended m x) (feasible c b below step none due) = absurd (step_no_end p ok rule a f c b.standing step.moves m x)
  halt_once a _ _ _ _ f (limit c t step full) (ended m x) = absurd (step_no_end p ok rule a f c t step m x)
  halt_once a _ _ _ _ f (limit c b step full) (limit d e other past) = (refl, refl)
  halt_once a _ _ _ _ f (limit c b step full) (pause d e below other due) = passed a.pivots below full
  halt_once a _ _ _ _ f (limit c b step full) (feasible d e below other none due) = passed a.pivots below full
  halt_once a _ _ _ _ f (pause c b below step due) (ended m x) = absurd (step_no_end p ok rule a f c b.standing step.moves m x)
  halt_once a _ _ _ _ f (pause c b below step due) (limit d e other full) = passed a.pivots below full
  halt_once a _ _ _ _ f (pause c b below step due) (pause d e less other again) = (refl, (step_once p ok rule a f c d b e step other).1)
  halt_once a _ _ _ _ f (pause c b below step due) (feasible d e less other none met) = absurd (none (subst (λ z. IsPauseDue pauses z.pivots) (step_once p ok rule a f c d b e step other).1 due))
  halt_once a _ _ _ _ f (feasible c b below step none met) (ended m x) = absurd (step_no_end p ok rule a f c b.standing step.moves m x)
  halt_once a _ _ _ _ f (feasible c b below step none met) (limit d e other full) = passed a.pivots below full
  halt_once a _ _ _ _ f (feasible c b below step none met) (pause d e less other due) = absurd (none (subst (λ z. IsPauseDue pauses z.pivots) (sym (step_once p ok rule a f c d b e step other).1) due))
  halt_once a _ _ _ _ f (feasible c b below step none met) (feasible d e less other not_due again) = (refl, (step_once p ok rule a f c d b e step other).1)

  -- ---- runs
  pub run_once : (a b e : Point) (h k : Halt) → IsFeasibleState p a.standing → RunsTo p rule most pauses a h b → RunsTo p rule most pauses a k e → (h ≡ k) × (b ≡ e)
  run_once a b e h k f x y = of (in_line a x.before y.before f x.steps y.steps)
    where
      same : x.before ≡ y.before → (h ≡ k) × (b ≡ e)
      same q = halt_once x.before b e h k (on_feasible a x.before f x.steps) x.last (subst (λ z. Halts p rule most pauses z k e) (sym q) y.last)

      of : GoesOn p rule most pauses x.before y.before ⊎ GoesOn p rule most pauses y.before x.before → (h ≡ k) × (b ≡ e)
      of (inl on) = at (first x.before y.before on)
        where
          at : (x.before ≡ y.before) ⊎ ((m : Point) × GoesOnTo p rule most pauses x.before m × GoesOn p rule most pauses m y.before) → (h ≡ k) × (b ≡ e)
          at (inl q) = same q
          at (inr (m, to, more)) = absurd (no_more x.before m b h (on_feasible a x.before f x.steps) to x.last)
      of (inr on) = at (first y.before x.before on)
        where
          at : (y.before ≡ x.before) ⊎ ((m : Point) × GoesOnTo p rule most pauses y.before m × GoesOn p rule most pauses m x.before) → (h ≡ k) × (b ≡ e)
          at (inl q) = same (sym q)
          at (inr (m, to, more)) = absurd (no_more y.before m e k (on_feasible a y.before f y.steps) to y.last)
