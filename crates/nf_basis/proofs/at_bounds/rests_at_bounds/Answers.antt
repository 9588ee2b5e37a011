use Rattle.std.proofs.Common.{◌≡◌, ◌⊎◌, inl, inr, ℕ, zero, suc, ◌+◌, ◌-◌, ◌<◌, ◌≤◌, ◌∙◌, ap, rules, arith}
use Rattle.nf_model.specs.Program.{LinearProgram}
use Rattle.std.proofs.lemmas.List.{length-set}
use Rattle.nf_sums.specs.Terms.{Is}
use Rattle.nf_sums.proofs.Laws.{wider}
use Rattle.nf_sums.proofs.Up.{handed_on}
use Rattle.nf_simplex.specs.Standing.{rows_of}
use Rattle.nf_basis.specs.Arising.{rest_at, rest_row}
use Rattle.nf_basis.specs.Dense.{bound_at}
use Rattle.nf_basis.specs.Rests.{rest_cost}
use Rattle.nf_basis.specs.AtBounds.{BoundTerms, rests_cost}
use Rattle.nf_basis.proofs.Restored.{number_put}
use Rattle.nf_basis.proofs.at_bounds.rests_at_bounds.Goals as goal

one_more : (p : LinearProgram) (n : ℕ) → rests_cost p (n + 1) ≡ rests_cost p n + rest_cost p n
one_more p n = let e : n + 1 ≡ suc n = omega arith in ap (rests_cost p) e

below_next : (n m : ℕ) → n ≤ suc m → (n ≤ m) ⊎ (n ≡ suc m)
below_next n m h = grind arith

costs_grow : (p : LinearProgram) (n m : ℕ) → n ≤ m → rests_cost p n ≤ rests_cost p m
costs_grow p n zero h = let e : n ≡ 0 = omega arith in let z = ap (rests_cost p) e in omega arith
costs_grow p n (suc m) h = of (below_next n m h) (costs_grow p n m)
  where
    of : (n ≤ m) ⊎ (n ≡ suc m) → (n ≤ m → rests_cost p n ≤ rests_cost p m) → rests_cost p n ≤ rests_cost p (suc m)
    of (inl l) ih = let x = ih l in omega arith
    of (inr e) ih = let z = ap (rests_cost p) e in omega arith

one_less : (n : ℕ) → n + 1 - 1 ≡ n
one_less n = omega arith

pub returns-in_err-out-clause-passed : goal.returns-in_err-out-clause-passed
returns-in_err-out-clause-passed g c =
    let p = c.args.p.now in
    let s = c.args.state.now.standing in
    let within : c.loop-row.row < rows_of c.args.p.now c.args.state.now.standing = search rules in
    handed_on c.from_residual.result _ _ c.from_residual.ensures.1
    (wider (Is (rest_row p (bound_at p s) (c.loop-row.row + 1 - 1))) (BoundTerms p s) c.in_err-out.field-0.0
    (λ row e. (c.loop-row.row, within, e ∙ ap (rest_row p (bound_at p s)) (one_less c.loop-row.row)))
    (c.in_err-out.ensures.passed (bound_at p s) (λ j t n q. q)))

pub returns-in_err-out-clause-cost : goal.returns-in_err-out-clause-cost
returns-in_err-out-clause-cost g c =
    let p = c.args.p.now in
    let s = c.args.state.now.standing in
    let within : c.loop-row.row < rows_of c.args.p.now c.args.state.now.standing = search rules in
    let x = c.loop-row.invariant.cost in
    let y = c.rest.ensures.cost in
    let z = ap (rest_cost p) (one_less c.loop-row.row) in
    let q = costs_grow p (suc c.loop-row.row) (rows_of p s) (omega arith) in
    omega arith

pub loop-row-preserved : goal.loop-row-preserved
loop-row-preserved g c =
    let p = c.args.p.now in
    let s = c.args.state.now.standing in
    let i = c.loop-row.invariant in
    let within : c.loop-row.row < rows_of c.args.p.now c.args.state.now.standing = search rules in
    record {
      long = length-set c.loop-row.out.items c.loop-row.row c.in_ok-out.field-0 ∙ i.long;
      rests = number_put c.loop-row.out.items c.loop-row.row (rows_of p s) (rest_at p (bound_at p s)) c.in_ok-out.field-0 within i.long i.rests
          (c.in_ok-out.ensures.value (bound_at p s) (λ j t n q. q) ∙ ap (rest_at p (bound_at p s)) (one_less c.loop-row.row));
      cost = (let x = i.cost in let y = c.rest.ensures.cost in let z = ap (rest_cost p) (one_less c.loop-row.row) in let q = one_more p c.loop-row.row in omega arith);
    }
