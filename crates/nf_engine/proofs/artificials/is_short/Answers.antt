use Rattle.std.proofs.Common.{◌≡◌, ◌<◌, ◌+◌, ◌-◌, false, true, sym, ap, ◌∙◌, subst, arith}
use Rattle.nf_simplex.specs.Columns.{Artificial}
use Rattle.nf_simplex.specs.Standing.{number_in, rows_of}
use Rattle.nf_engine.proofs.SumFacts.{none_short, short_found}
use Rattle.nf_engine.proofs.artificials.is_short.Goals as goal

pub returns-then-met : goal.returns-then-met
returns-then-met g c = record { short = c.requires.met c.if-met.true }

pub returns-then-not-is_zero : goal.returns-then-not-is_zero
returns-then-not-is_zero g c =
    let p = c.args.p.now in
    let s = g.B.Basis.standing c.args.basis.now in
    let x = g.B.Basis.values p c.args.basis.now in
    let sound = g.met.B.Basis.sound p c.args.basis.now c.requires.numbers in
    let rows : c.rows_in-rows.result ≡ rows_of p s = c.rows_in-rows.ensures ∙ ap (rows_of p) c.state.ensures.standing in
    let back : c.loop-i.i + 1 - 1 ≡ c.loop-i.i = omega arith in
    record {
      short = short_found p s x sound.problem c.requires.feasible sound.values c.loop-i.i (subst (λ n. c.loop-i.i < n) rows c.loop-i-test.true)
          (λ e. absurd (let y : false ≡ true = sym c.if-not-is_zero.true ∙ c.is_zero.ensures.1 (c.value.ensures.number ∙ (ap (λ k. x (number_in p (Artificial k))) back ∙ e)) in cc));
    }

pub returns : goal.returns
returns g c =
    let p = c.args.p.now in
    let s = g.B.Basis.standing c.args.basis.now in
    let sound = g.met.B.Basis.sound p c.args.basis.now c.requires.numbers in
    let rows : c.rows_in-rows.result ≡ rows_of p s = c.rows_in-rows.ensures ∙ ap (rows_of p) c.state.ensures.standing in
    let past = c.loop-i-test.false in
    record { short = none_short p s (g.B.Basis.values p c.args.basis.now) sound.state sound.values (λ i h. c.loop-i.invariant i (let below : i < c.rows_in-rows.result = subst (λ n. i < n) (sym rows) h in omega arith)) }
