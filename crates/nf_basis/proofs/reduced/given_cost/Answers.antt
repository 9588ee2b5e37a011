use Rattle.std.proofs.Common.{ℕ, ◌≡◌, ◌∙◌, ◌-◌, ◌<◌, ◌≤◌, length, refl, arith}
use Rattle.nf_num.specs.Rational.{ℚ}
use Rattle.nf_prob.specs.Stored.{stored_entry}
use Rattle.nf_sums.proofs.Up.{handed_on}
use Rattle.nf_basis.proofs.Entered.{given_gives, few_entries}
use Rattle.nf_basis.proofs.Priced.{paid_at, paid_in_all, price_passed}
use Rattle.nf_basis.proofs.reduced.given_cost.Goals as goal

below : (j n : ℕ) → 0 < j → j ≤ n → j - 1 < n
below j n a b = omega arith

pub returns-in_err-d-clause-passed : goal.returns-in_err-d-clause-passed
returns-in_err-d-clause-passed g c =
    let e = c.entries-entries in
    let n = c.count_within-count in
    let y = c.args.duals.now in
    let own = λ (k : ℕ) (t : ℕ × ℚ). (t.0 ≡ (stored_entry e.result.now k).row - 1) × (t.1 ≡ (stored_entry e.result.now k).value) in
    let entries = given_gives c.args.p.now (c.args.j - 1) e.result.now n.result (length y) (length y) refl e.ensures.problem (below c.args.j _ c.requires.column.0 c.requires.column.1) e.ensures.entries e.ensures.in_range n.ensures.most n.ensures.within n.ensures.next own (λ k t q. q) in
    handed_on c.from_residual.result _ _ c.from_residual.ensures.1
    (price_passed own n.result c.args.cost y _ entries _ (c.in_err-d.ensures.passed _ _ (λ k t h q. paid_at own n.result c.args.cost y _ entries k _ _ t h (refl, refl) q)))

pub returns-clause-value : goal.returns-clause-value
returns-clause-value g c =
    let e = c.entries-entries in
    let n = c.count_within-count in
    let y = c.args.duals.now in
    let own = λ (k : ℕ) (t : ℕ × ℚ). (t.0 ≡ (stored_entry e.result.now k).row - 1) × (t.1 ≡ (stored_entry e.result.now k).value) in
    let entries = given_gives c.args.p.now (c.args.j - 1) e.result.now n.result (length y) (length y) refl e.ensures.problem (below c.args.j _ c.requires.column.0 c.requires.column.1) e.ensures.entries e.ensures.in_range n.ensures.most n.ensures.within n.ensures.next own (λ k t q. q) in
    c.in_ok-d.ensures.value _ _ (λ k t h q. paid_at own n.result c.args.cost y _ entries k _ _ t h (refl, refl) q) ∙ paid_in_all own n.result c.args.cost y _ entries

pub returns-in_err-d-clause-cost : goal.returns-in_err-d-clause-cost
returns-in_err-d-clause-cost g c =
    let e = c.entries-entries in
    let n = c.count_within-count in
    let few : n.result ≤ length c.args.duals.now = few_entries c.args.p.now (c.args.j - 1) e.result.now n.result (length c.args.duals.now) (length c.args.duals.now) refl e.ensures.problem (below c.args.j _ c.requires.column.0 c.requires.column.1) e.ensures.entries e.ensures.in_range n.ensures.most n.ensures.within n.ensures.next in
    let steps = c.in_err-d.ensures.cost in
    omega arith

pub returns-clause-cost : goal.returns-clause-cost
returns-clause-cost g c =
    let e = c.entries-entries in
    let n = c.count_within-count in
    let few : n.result ≤ length c.args.duals.now = few_entries c.args.p.now (c.args.j - 1) e.result.now n.result (length c.args.duals.now) (length c.args.duals.now) refl e.ensures.problem (below c.args.j _ c.requires.column.0 c.requires.column.1) e.ensures.entries e.ensures.in_range n.ensures.most n.ensures.within n.ensures.next in
    let steps = c.in_ok-d.ensures.cost in
    omega arith
