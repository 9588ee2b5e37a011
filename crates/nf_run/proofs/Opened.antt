-- A state whose basic columns are independent has no dependent one, and what passes at the start arises from the first
-- state.
use Rattle.std.proofs.Common.{◌≡◌, ◌≢◌, ℕ, ◌<◌, ◌≤◌, List, Bool, true, false, nat_lt, if◌then◌else◌, refl, sym, ◌∙◌, arith, subst}
use Rattle.std.proofs.lemmas.Bool.Decides.{nat_tests}
use Rattle.nf_num.specs.Rational.{ℚ, zero_ℚ, one_ℚ, ◌<ℚ◌}
use Rattle.nf_num.specs.Sum.{delta}
use Rattle.nf_num.proofs.Sums.{delta_same, delta_other, sum-delta}
use Rattle.nf_num.proofs.Laws.{zero_lt_one}
use Rattle.nf_num.proofs.Order.{lt_irrefl}
use Rattle.nf_frac.specs.declared.passed.Passed.{Passed}
use Rattle.nf_model.specs.Program.{LinearProgram}
use Rattle.nf_model.specs.Problem.{IsProblem}
use Rattle.nf_sums.specs.Terms.{PassesIn}
use Rattle.nf_simplex.specs.Moves.{IsFirstState}
use Rattle.nf_basis.specs.Arising.{StartTerms}
use Rattle.nf_basis.specs.declared.basis.RestoreFault.{RestoreFault}
use Rattle.nf_basis.specs.declared.basis.RestoreFault.TheVariants as restoring
use Rattle.nf_basis.proofs.FirstLoad.{first_exists, load_passes_in_first, start_passes_in_first}
use Rattle.nf_run.specs.declared.event.RunFault.{RunFault}
use Rattle.nf_run.specs.declared.event.RunFault.TheVariants as fault
use Rattle.nf_run.specs.Steps.{IsOpeningFault, opening_fault}
use Rattle.nf_simplex.specs.Place as model
use Rattle.nf_simplex.specs.Layout.{layout_of}
use Rattle.nf_simplex.specs.Columns.{all_columns}
use Rattle.nf_simplex.specs.Numbers.{AreWeights}
use Rattle.nf_simplex.specs.Standing.{Standing, place_at, stage_of, IsBasisOf}
use Rattle.nf_simplex.proofs.Basis.{weights_unique}
use Rattle.nf_simplex.proofs.Numbered.{number_within}
use Rattle.nf_basis.specs.declared.col.Col.{Col}
use Rattle.nf_basis.specs.Names.{col_of}
use Rattle.nf_basis.specs.Kept.{number}
use Rattle.nf_basis.specs.Restoring.{IsFaultOf, IsFirstDependent}

below_not : (j n : ℕ) (a : model.Place) → (a ≢ model.Basic) → (if nat_lt j n then a else model.Absent) ≢ model.Basic
below_not j n a h = of (nat_lt j n)
  where
    of : (b : Bool) → (if b then a else model.Absent) ≢ model.Basic
    of true = h
    of false = λ e. let q : model.Absent ≡ model.Basic = e in cc

itself_not : (n : ℕ) (a : model.Place) → (if nat_lt n n then a else model.Absent) ≢ model.Basic
itself_not n a = of (nat_lt n n) (grind (arith, nat_tests))
  where
    of : (b : Bool) → b ≡ false → (if b then a else model.Absent) ≢ model.Basic
    of true e = cc e
    of false e = λ k. let q : model.Absent ≡ model.Basic = k in cc

one_not_zero : one_ℚ ≡ zero_ℚ → ⊥
one_not_zero e = lt_irrefl zero_ℚ (subst (λ x. zero_ℚ <ℚ x) e zero_lt_one)

-- The first dependent column would have two lists of weights: its own, and 1 for itself.
pub never_dependent : (p : LinearProgram) (s : Standing) (c : Col) (ws : List (Col × ℚ)) → p.arcs ≤ (layout_of p).columns → IsBasisOf p s → IsFirstDependent p s c ws → ⊥
never_dependent p s c ws arcs basis d =
    let n = number p c in
    let w = d.combined.weights in
    let give = d.combined.give in
    let within : n < all_columns (layout_of p) = number_within (layout_of p) s.stage (col_of c) arcs d.present.1 in
    let mine : AreWeights (stage_of p s) (place_at s) ((stage_of p s).entry n) w = record {
      of_basics = λ j h k. give.of_basics j h (below_not j n (place_at s j) k);
      gives = give.gives;
    } in
    let other : AreWeights (stage_of p s) (place_at s) ((stage_of p s).entry n) (delta n) = record {
      of_basics = λ j h k. delta_other n j (λ e. k (subst (λ i. place_at s i ≡ model.Basic) e d.basic));
      gives = λ i h. sum-delta (all_columns (layout_of p)) n (λ j. (stage_of p s).entry j i) within;
    } in
    let one = weights_unique (stage_of p s) (place_at s) ((stage_of p s).entry n) w (delta n) basis.independent mine other n within in
    let nought : w n ≡ zero_ℚ = give.of_basics n within (itself_not n (place_at s n)) in
    one_not_zero (sym (delta_same n) ∙ (sym one ∙ nought))

-- ---- an operation passes at the start
pub start_fault : (p : LinearProgram) → IsProblem p → (passed : Passed) (f : RunFault) → PassesIn (StartTerms p) passed → f ≡ fault.Range 1 0 passed → IsOpeningFault p f
start_fault p ok passed f h e =
    let s = first_exists p ok in
    subst (IsOpeningFault p) (sym e) (refl, refl, (s.0, s.1, start_passes_in_first p s.0 ok s.1 passed h))

loads : (p : LinearProgram) (s : Standing) → IsProblem p → IsFirstState p s → (r : RestoreFault) → IsFaultOf p s r → IsOpeningFault p (opening_fault r)
loads p s ok first (restoring.Dependent column weights) h = tt
loads p s ok first (restoring.Passed passed) h = (refl, refl, (s, first, load_passes_in_first p s ok first passed h))
loads p s ok first restoring.NoMemory h = tt

pub load_fault : (p : LinearProgram) (s : Standing) → IsProblem p → IsFirstState p s → (r : RestoreFault) (f : RunFault) → IsFaultOf p s r → f ≡ opening_fault r → IsOpeningFault p f
load_fault p s ok first r f h e = subst (IsOpeningFault p) (sym e) (loads p s ok first r h)
