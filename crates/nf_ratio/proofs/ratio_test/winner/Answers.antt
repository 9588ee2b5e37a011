use Rattle.std.proofs.Common.{◌≡◌, ℕ, suc, ◌+◌, ◌<◌, ◌≤◌, length, refl, sym, ◌∙◌, subst, subst₂, arith}
use Rattle.nf_sums.proofs.Up.{handed_on}
use Rattle.nf_simplex.specs.Standing.{rows_of}
use Rattle.nf_ratio.specs.Loops.{AreTiedWeights}
use Rattle.nf_ratio.specs.Ties.{tie}
use Rattle.nf_ratio.proofs.Causes.{weights_passed}
use Rattle.nf_ratio.proofs.Looking.{entry_kept, looked_first, looked_next, nobody_free, one_least, places_within, several_left, several_needed}
use Rattle.nf_ratio.proofs.Sizes.{kept_cost, next_cost, row_order, row_there, step_cost}
use Rattle.nf_ratio.proofs.ratio_test.winner.Goals as goal

several_of : (n : ℕ) → (n ≡ 0 → ⊥) → (n ≡ 1 → ⊥) → 1 < n
several_of n a b = grind (arith, a, b)

pub inverse-init : goal.inverse-init
inverse-init g c = record {
  numbers = c.requires.numbers;
  standing = refl;
  slots = refl;
  values = refl;
  looked = looked_first c.args.p.now _ _ _ (g.met.B.Basis.sound c.args.p.now c.args.basis.now c.requires.numbers) c.requires.feasible c.args.entering c.requires.present c.args.down c.args.entries.now c.requires.entries
      c.first_ties.new.ties c.in_ok-first.first c.requires.places (c.first_ties.ensures.size ∙ c.requires.room) c.in_ok-first.ensures.ties;
  needed = λ t h. omega arith;
  cost = (let a = c.first_ties.ensures.cost in omega (arith, a));
}

pub returns-then-count-eq0-clause-winner : goal.returns-then-count-eq0-clause-winner
returns-then-count-eq0-clause-winner g c = nobody_free c.args.p.now _ _ _ (g.met.B.Basis.sound c.args.p.now c.args.basis.now c.requires.numbers) c.args.entering c.requires.present c.args.down c.args.entries.now c.inverse.looked c.inverse.ties c.inverse.count c.inverse.invariant.looked c.if-count-eq0.true

pub returns-then-count-eq0-clause-cost : goal.returns-then-count-eq0-clause-cost
returns-then-count-eq0-clause-cost g c = λ t alone. kept_cost c.inverse.steps c.args.steps.now _ c.inverse.looked t _ c.inverse.invariant.cost (c.inverse.invariant.needed t alone)

pub returns-then-count-eq1-clause-winner : goal.returns-then-count-eq1-clause-winner
returns-then-count-eq1-clause-winner g c =
    one_least c.args.p.now _ _ _ (g.met.B.Basis.sound c.args.p.now c.args.basis.now c.requires.numbers) c.args.entering c.requires.present c.args.down c.args.entries.now c.inverse.looked c.inverse.ties c.inverse.count c.inverse.invariant.looked c.if-count-eq1.true

pub returns-then-count-eq1-clause-cost : goal.returns-then-count-eq1-clause-cost
returns-then-count-eq1-clause-cost g c = λ t alone. kept_cost c.inverse.steps c.args.steps.now _ c.inverse.looked t _ c.inverse.invariant.cost (c.inverse.invariant.needed t alone)

pub row_at-row-requires-clause-within : goal.row_at-row-requires-clause-within
row_at-row-requires-clause-within g c = subst (λ n. c.inverse.looked < n) (sym c.requires.places) (several_left c.args.p.now _ _ _ (g.met.B.Basis.sound c.args.p.now c.args.basis.now c.requires.numbers) c.args.entering c.requires.present c.args.down c.args.entries.now c.inverse.looked c.inverse.ties c.inverse.count c.inverse.invariant.looked c.requires.enters (several_of c.inverse.count c.if-count-eq0.false c.if-count-eq1.false))

pub tied_weights-requires-clause-present : goal.tied_weights-requires-clause-present
tied_weights-requires-clause-present g c =
    subst (λ s. (0 < c.row_at-row.result) × (c.row_at-row.result ≤ rows_of c.args.p.now s)) (sym c.inverse.invariant.standing)
    (row_there c.args.p.now (g.B.Basis.standing c.args.basis.now) c.inverse.looked c.row_at-row.result
    (several_left c.args.p.now _ _ _ (g.met.B.Basis.sound c.args.p.now c.args.basis.now c.requires.numbers) c.args.entering c.requires.present c.args.down c.args.entries.now c.inverse.looked c.inverse.ties c.inverse.count c.inverse.invariant.looked c.requires.enters (several_of c.inverse.count c.if-count-eq0.false c.if-count-eq1.false))
    (row_order c.args.p.now (g.B.Basis.standing c.args.basis.now) (length c.args.entries.now) c.inverse.looked c.row_at-row.result c.requires.places c.row_at-row.ensures))

pub tied_weights-requires-clause-within : goal.tied_weights-requires-clause-within
tied_weights-requires-clause-within g c k h =
    subst (λ s. tie c.inverse.ties k ≤ rows_of c.args.p.now s) (sym c.inverse.invariant.standing)
    (subst (λ n. tie c.inverse.ties k ≤ n) c.requires.places
    (places_within c.args.p.now _ _ _ (g.met.B.Basis.sound c.args.p.now c.args.basis.now c.requires.numbers) c.args.entering c.requires.present c.args.down c.args.entries.now c.inverse.looked c.inverse.ties c.inverse.count c.inverse.invariant.looked c.requires.places k h))

pub returns-in_err-tied_weights-clause-cost : goal.returns-in_err-tied_weights-clause-cost
returns-in_err-tied_weights-clause-cost g c = λ t alone.
    next_cost c.inverse.steps c.tied_weights.new.steps c.args.steps.now _ c.inverse.looked t (g.B.Basis.unit c.args.p.now (g.B.Basis.standing c.args.basis.now).stage) (suc (length c.args.entries.now)) c.inverse.invariant.cost
    (let a : c.tied_weights.new.steps ≤ c.inverse.steps + g.B.Basis.unit c.args.p.now (g.B.Basis.standing c.args.basis.now).stage = subst (λ s. c.tied_weights.new.steps ≤ c.inverse.steps + g.B.Basis.unit c.args.p.now s.stage) c.inverse.invariant.standing c.tied_weights.ensures.cost in omega (arith, a))
    (several_needed c.args.p.now _ _ _ (g.met.B.Basis.sound c.args.p.now c.args.basis.now c.requires.numbers) c.args.entering c.requires.present c.args.down c.args.entries.now c.inverse.looked c.inverse.ties c.inverse.count c.inverse.invariant.looked c.requires.enters t alone (several_of c.inverse.count c.if-count-eq0.false c.if-count-eq1.false))

pub weight_ties-requires-clause-few : goal.weight_ties-requires-clause-few
weight_ties-requires-clause-few g c = let l = c.inverse.invariant.looked.long in let f = c.inverse.invariant.looked.fit in omega (arith, l, f)

pub weight_ties-requires-clause-in_order : goal.weight_ties-requires-clause-in_order
weight_ties-requires-clause-in_order g c = c.inverse.invariant.looked.in_order

pub weight_ties-requires-clause-within : goal.weight_ties-requires-clause-within
weight_ties-requires-clause-within g c = places_within c.args.p.now _ _ _ (g.met.B.Basis.sound c.args.p.now c.args.basis.now c.requires.numbers) c.args.entering c.requires.present c.args.down c.args.entries.now c.inverse.looked c.inverse.ties c.inverse.count c.inverse.invariant.looked c.requires.places

pub weight_ties-requires-clause-entries : goal.weight_ties-requires-clause-entries
weight_ties-requires-clause-entries g c = entry_kept c.args.p.now _ _ _ (g.met.B.Basis.sound c.args.p.now c.args.basis.now c.requires.numbers) c.args.entering c.requires.present c.args.down c.args.entries.now c.inverse.looked c.inverse.ties c.inverse.count c.inverse.invariant.looked c.requires.places

pub returns-in_err-next-clause-passed : goal.returns-in_err-next-clause-passed
returns-in_err-next-clause-passed g c =
    let there : (0 < c.row_at-row.result) × (c.row_at-row.result ≤ rows_of c.args.p.now (g.B.Basis.standing c.args.basis.now)) =
    row_there c.args.p.now (g.B.Basis.standing c.args.basis.now) c.inverse.looked c.row_at-row.result
    (several_left c.args.p.now _ _ _ (g.met.B.Basis.sound c.args.p.now c.args.basis.now c.requires.numbers) c.args.entering c.requires.present c.args.down c.args.entries.now c.inverse.looked c.inverse.ties c.inverse.count c.inverse.invariant.looked c.requires.enters (several_of c.inverse.count c.if-count-eq0.false c.if-count-eq1.false))
    (row_order c.args.p.now (g.B.Basis.standing c.args.basis.now) (length c.args.entries.now) c.inverse.looked c.row_at-row.result c.requires.places c.row_at-row.ensures) in
    handed_on c.from_residual-in_err-next.result _ _ c.from_residual-in_err-next.ensures.1
    (weights_passed c.args.p.now _ _ _ (g.met.B.Basis.sound c.args.p.now c.args.basis.now c.requires.numbers) c.args.entering c.requires.present c.args.entries.now c.tied_weights.new.weights c.inverse.ties c.inverse.count c.row_at-row.result c.requires.entries
    (subst₂ (λ s slots. AreTiedWeights c.args.p.now s slots c.row_at-row.result c.inverse.ties c.inverse.count c.tied_weights.new.weights) c.inverse.invariant.standing c.inverse.invariant.slots c.in_ok-tied_weights.ensures.weights) there.0 there.1 c.requires.places
    (entry_kept c.args.p.now _ _ _ (g.met.B.Basis.sound c.args.p.now c.args.basis.now c.requires.numbers) c.args.entering c.requires.present c.args.down c.args.entries.now c.inverse.looked c.inverse.ties c.inverse.count c.inverse.invariant.looked c.requires.places)
    _ c.in_err-next.ensures.passed)

pub returns-in_err-next-clause-cost : goal.returns-in_err-next-clause-cost
returns-in_err-next-clause-cost g c = λ t alone.
    next_cost c.inverse.steps c.weight_ties.new.steps c.args.steps.now _ c.inverse.looked t (g.B.Basis.unit c.args.p.now (g.B.Basis.standing c.args.basis.now).stage) (suc (length c.args.entries.now)) c.inverse.invariant.cost
    (let a : c.tied_weights.new.steps ≤ c.inverse.steps + g.B.Basis.unit c.args.p.now (g.B.Basis.standing c.args.basis.now).stage = subst (λ s. c.tied_weights.new.steps ≤ c.inverse.steps + g.B.Basis.unit c.args.p.now s.stage) c.inverse.invariant.standing c.tied_weights.ensures.cost in
    let b = c.weight_ties.ensures.cost in let f = c.inverse.invariant.looked.fit in let p = c.requires.places in omega (arith, a, b, f, p))
    (several_needed c.args.p.now _ _ _ (g.met.B.Basis.sound c.args.p.now c.args.basis.now c.requires.numbers) c.args.entering c.requires.present c.args.down c.args.entries.now c.inverse.looked c.inverse.ties c.inverse.count c.inverse.invariant.looked c.requires.enters t alone (several_of c.inverse.count c.if-count-eq0.false c.if-count-eq1.false))

pub inverse-smaller : goal.inverse-smaller
inverse-smaller g c =
    let left : c.inverse.looked < rows_of c.args.p.now (g.B.Basis.standing c.args.basis.now) = several_left c.args.p.now _ _ _ (g.met.B.Basis.sound c.args.p.now c.args.basis.now c.requires.numbers) c.args.entering c.requires.present c.args.down c.args.entries.now c.inverse.looked c.inverse.ties c.inverse.count c.inverse.invariant.looked c.requires.enters (several_of c.inverse.count c.if-count-eq0.false c.if-count-eq1.false) in
    let places : length c.args.entries.now ≡ rows_of c.args.p.now (g.B.Basis.standing c.args.basis.now) = c.requires.places in
    omega (arith, left, places)

pub inverse-preserved : goal.inverse-preserved
inverse-preserved g c =
    let left : c.inverse.looked < rows_of c.args.p.now (g.B.Basis.standing c.args.basis.now) = several_left c.args.p.now _ _ _ (g.met.B.Basis.sound c.args.p.now c.args.basis.now c.requires.numbers) c.args.entering c.requires.present c.args.down c.args.entries.now c.inverse.looked c.inverse.ties c.inverse.count c.inverse.invariant.looked c.requires.enters (several_of c.inverse.count c.if-count-eq0.false c.if-count-eq1.false) in
    let a : c.tied_weights.new.steps ≤ c.inverse.steps + g.B.Basis.unit c.args.p.now (g.B.Basis.standing c.args.basis.now).stage = subst (λ s. c.tied_weights.new.steps ≤ c.inverse.steps + g.B.Basis.unit c.args.p.now s.stage) c.inverse.invariant.standing c.tied_weights.ensures.cost in
    let b = c.weight_ties.ensures.cost in
    let f = c.inverse.invariant.looked.fit in
    let p = c.requires.places in
    record {
      numbers = c.in_ok-tied_weights.ensures.numbers;
      standing = c.in_ok-tied_weights.ensures.standing ∙ c.inverse.invariant.standing;
      slots = c.in_ok-tied_weights.ensures.slots ∙ c.inverse.invariant.slots;
      values = c.in_ok-tied_weights.ensures.values ∙ c.inverse.invariant.values;
      looked = looked_next c.args.p.now _ _ _ (g.met.B.Basis.sound c.args.p.now c.args.basis.now c.requires.numbers) c.args.entering c.requires.present c.args.down c.args.entries.now c.inverse.looked c.inverse.ties c.inverse.count c.inverse.invariant.looked c.row_at-row.result
          (row_order c.args.p.now (g.B.Basis.standing c.args.basis.now) (length c.args.entries.now) c.inverse.looked c.row_at-row.result c.requires.places c.row_at-row.ensures) c.tied_weights.new.weights c.weight_ties.new.ties c.in_ok-next.next left
          (subst₂ (λ s slots. AreTiedWeights c.args.p.now s slots c.row_at-row.result c.inverse.ties c.inverse.count c.tied_weights.new.weights) c.inverse.invariant.standing c.inverse.invariant.slots c.in_ok-tied_weights.ensures.weights)
          c.requires.places c.weight_ties.ensures.size c.in_ok-next.ensures.ties;
      needed = λ t alone. (let n : c.inverse.looked < t = several_needed c.args.p.now _ _ _ (g.met.B.Basis.sound c.args.p.now c.args.basis.now c.requires.numbers) c.args.entering c.requires.present c.args.down c.args.entries.now c.inverse.looked c.inverse.ties c.inverse.count c.inverse.invariant.looked c.requires.enters t alone (several_of c.inverse.count c.if-count-eq0.false c.if-count-eq1.false) in omega (arith, n));
      cost = step_cost c.inverse.steps c.weight_ties.new.steps c.args.steps.now _ c.inverse.looked (g.B.Basis.unit c.args.p.now (g.B.Basis.standing c.args.basis.now).stage) (suc (length c.args.entries.now)) c.inverse.invariant.cost (omega (arith, a, b, f, p));
    }
