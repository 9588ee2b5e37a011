use Rattle.std.proofs.Common.{◌≡◌, ◌≢◌, ℕ, ◌<◌, ◌*◌, length, ◌∙◌, ap, sym, subst, arith}
use Rattle.std.proofs.lemmas.List.{get_or_read}
use native.Mathlib.Nat.{suc-mul}
use Rattle.nf_sums.proofs.Up.{handed_on}
use Rattle.nf_inverse.specs.Weights.{IsSquare, at, rows_of, weight, weights_of}
use Rattle.nf_inverse.proofs.Lists.{subtracts_row}
use Rattle.nf_inverse.proofs.Steps.{done_more}
use Rattle.nf_inverse.proofs.rows.update_rows.Goals.{then-s-leaving+in_ok-update_row, else-s-leaving}
use Rattle.nf_inverse.proofs.rows.update_rows.Goals as goal

pub returns-in_err-update_row-clause-passed : goal.returns-in_err-update_row-clause-passed
returns-in_err-update_row-clause-passed g c =
    let within : c.loop-s.s < length c.args.rows.now = omega arith in
    let there : c.loop-s.s < length c.args.entries.now = omega (arith, c.requires.entries) in
    handed_on c.from_residual.result _ _ c.from_residual.ensures.1
    (c.loop-s.s, within, subtracts_row _ _ _ _ _ _ _ _ (c.loop-s.invariant.rest c.loop-s.s (omega arith)) c.loop-s.auto.rows (get_or_read c.args.entries.now c.loop-s.s _ there c.index-entries-s.is _) c.in_err-update_row.ensures.passed)

pub loop-s-preserved : goal.loop-s-preserved
loop-s-preserved g c = elim c.if-s-leaving.branch [
  | then-s-leaving+in_ok-update_row w ↦ (
      let within : c.loop-s.s < length c.args.rows.now = omega arith in
      let there : c.loop-s.s < length c.args.entries.now = omega (arith, c.requires.entries) in
      let long : length c.loop-s.rows ≡ length c.args.rows.now = c.loop-s.auto.rows in
      let other : c.args.leaving ≢ c.loop-s.s = omega arith in
      let kept = λ (k : ℕ) (n : k ≢ c.loop-s.s). ap (λ l. weights_of (rows_of l) k) w.rows-is ∙ w.update_row.ensures.others k n in
      record {
        square = subst (λ l. IsSquare (rows_of l)) (sym w.rows-is) w.update_row.ensures.square;
        rest = λ k h. kept k (let d : k ≢ c.loop-s.s = omega arith in d) ∙ c.loop-s.invariant.rest k (omega arith);
        kept = kept c.args.leaving other ∙ c.loop-s.invariant.kept;
        done = done_more (rows_of c.args.rows.now) (rows_of c.loop-s.rows) (rows_of c.if-s-leaving.rows) c.loop-s.s (length c.args.rows.now) c.args.leaving (at c.args.scaled.now) (at c.args.entries.now) w.index-entries-s.result (get_or_read c.args.entries.now c.loop-s.s _ there w.index-entries-s.is _) kept (c.loop-s.invariant.rest c.loop-s.s (omega arith))
            (λ i h. ap (λ l. weight (rows_of l) c.loop-s.s i) w.rows-is ∙ w.in_ok-update_row.ensures.value i (subst (λ n. i < n) (sym long) h))
            c.loop-s.invariant.done;
        cost = omega (arith, c.loop-s.invariant.cost, w.update_row.ensures.cost, long, w.steps-is, suc-mul c.loop-s.s (2 * length c.args.rows.now));
      })
  | else-s-leaving w ↦ (
      record {
        square = subst (λ l. IsSquare (rows_of l)) (sym w.rows-is) c.loop-s.invariant.square;
        rest = λ k h. ap (λ l. weights_of (rows_of l) k) w.rows-is ∙ c.loop-s.invariant.rest k (omega arith);
        kept = ap (λ l. weights_of (rows_of l) c.args.leaving) w.rows-is ∙ c.loop-s.invariant.kept;
        done = λ k i h b d. ap (λ l. weight (rows_of l) k i) w.rows-is ∙ c.loop-s.invariant.done k i (let r : k < c.loop-s.s = omega arith in r) b d;
        cost = omega (arith, c.loop-s.invariant.cost, w.steps-is, suc-mul c.loop-s.s (2 * length c.args.rows.now));
      })
]
