use Rattle.std.proofs.Common.{◌≡◌, ◌<◌, ◌+◌, ◌-◌, ◌∷◌, ◌∙◌, [], false, None, length, sym, ap, arith}
use Rattle.std.proofs.lemmas.List.{length-append}
use Rattle.nf_prob.specs.Building.{new_column}
use Rattle.nf_network.specs.Excess.{joined_below}
use Rattle.nf_network.proofs.Lists.{joined-more, joined-none, joined-ones}
use Rattle.nf_cons.specs.Bounds.{bounds_cross, nonarc_defaults, figures_of}
use Rattle.nf_cons.specs.Constrained.{nonarc_column, nonarc_column_at}
use Rattle.nf_cons.proofs.BoundFacts.{ordered-values}
use Rattle.nf_cons.proofs.MakingFacts.{before-more, columns-next, columns-of-none}
use Rattle.nf_cons.proofs.making.add_nonarcs.Goals as goal

pub loop-k-init : goal.loop-k-init
loop-k-init c =
    let o = c.args.options.now in
    let v = c.args.constraints.now.variables in
    (rw (joined-none (nonarc_column_at o v.arcs.count c.args.constraints.now.terms)) (columns-of-none c.args.builder.now), c.arcs-before.ensures, c.nonarcs-k-end.ensures, c.nonarc_defaults-defaults.ensures)

pub add_column-requires-clause-room : goal.add_column-requires-clause-room
add_column-requires-clause-room c =
    let inv = c.loop-k.invariant in
    let o = c.args.options.now in
    let v = c.args.constraints.now.variables in
    let ls = c.args.constraints.now.terms in
    let size = ap (λ p. length p.columns) inv.0 ∙ length-append c.args.builder.now.columns (joined_below c.loop-k.k (nonarc_column_at o v.arcs.count ls)) in
    let ones = joined-ones c.loop-k.k (λ k. nonarc_column o (figures_of (nonarc_defaults o) ls (v.arcs.count + k))) in
    let rows = ap (λ p. length p.rows) inv.0 in
    (omega (arith, rows, c.requires.few_rows), omega (arith, size, ones, inv.2, c.loop-k-test.true, c.requires.sound.few_nonarcs, c.requires.few_columns))

pub add_column-requires-clause-ordered : goal.add_column-requires-clause-ordered
add_column-requires-clause-ordered c =
    let inv = c.loop-k.invariant in
    let below : c.loop-k.k < length c.args.constraints.now.variables.nonarcs = omega (arith, inv.2, c.loop-k-test.true) in
    let figures = rw (c.arcs.ensures, c.nonarc_defaults-defaults.ensures) at c.figures-figures.ensures in
    let ordered : bounds_cross c.figures-figures.result.lower c.figures-figures.result.upper ≡ false = rw figures (c.requires.in_order c.loop-k.k below) in
    rw (c.upper_of.ensures, c.lower_of-lower.ensures) (ordered-values c.figures-figures.result.lower c.figures-figures.result.upper ordered)

pub overflow_sub-before-in-loop-k : goal.overflow_sub-before-in-loop-k
overflow_sub-before-in-loop-k c =
    let inv = c.loop-k.invariant in
    let o = c.args.options.now in
    let v = c.args.constraints.now.variables in
    let ls = c.args.constraints.now.terms in
    let size = ap (λ p. length p.columns) inv.0 ∙ length-append c.args.builder.now.columns (joined_below c.loop-k.k (nonarc_column_at o v.arcs.count ls)) in
    let ones = joined-ones c.loop-k.k (λ k. nonarc_column o (figures_of (nonarc_defaults o) ls (v.arcs.count + k))) in
    let more = ap (λ p. length p.columns) c.in_ok-j.ensures.added ∙ length-append c.loop-k.builder.columns (new_column None c.in_sense-cost.result c.lower_of-lower.result c.upper_of.result ∷ []) in
    omega (arith, size, ones, more, c.in_ok-j.ensures.number)

pub loop-k-preserved : goal.loop-k-preserved
loop-k-preserved c =
    let inv = c.loop-k.invariant in
    let o = c.args.options.now in
    let v = c.args.constraints.now.variables in
    let ls = c.args.constraints.now.terms in
    let size = ap (λ p. length p.columns) inv.0 ∙ length-append c.args.builder.now.columns (joined_below c.loop-k.k (nonarc_column_at o v.arcs.count ls)) in
    let ones = joined-ones c.loop-k.k (λ k. nonarc_column o (figures_of (nonarc_defaults o) ls (v.arcs.count + k))) in
    let more = ap (λ p. length p.columns) c.in_ok-j.ensures.added ∙ length-append c.loop-k.builder.columns (new_column None c.in_sense-cost.result c.lower_of-lower.result c.upper_of.result ∷ []) in
    let figures = rw (c.arcs.ensures, c.nonarc_defaults-defaults.ensures) at c.figures-figures.ensures in
    let next = sym (joined-more c.loop-k.k (nonarc_column_at o v.arcs.count ls)) in (
      c.in_ok-j.ensures.added
          ∙ columns-next c.args.builder.now c.loop-k.builder (joined_below c.loop-k.k (nonarc_column_at o v.arcs.count ls)) (joined_below (c.loop-k.k + 1) (nonarc_column_at o v.arcs.count ls))
          (new_column None c.in_sense-cost.result c.lower_of-lower.result c.upper_of.result) inv.0 (rw (c.in_sense-cost.ensures, c.lower_of-lower.ensures, c.upper_of.ensures, figures) next),
      before-more c.loop-k.k v.arcs.count (length c.args.builder.now.columns) (c.in_ok-j.j - 1 - c.loop-k.k) (omega (arith, size, ones, more, c.in_ok-j.ensures.number)),
      inv.2,
      inv.3,
    )

pub returns-clause-columns : goal.returns-clause-columns
returns-clause-columns c =
    let inv = c.loop-k.invariant in
    let done : c.loop-k.k ≡ length c.args.constraints.now.variables.nonarcs = omega (arith, inv.2, c.loop-k-test.false, c.loop-k.auto.k-end) in
    rw done at inv.0

pub returns-clause-before : goal.returns-clause-before
returns-clause-before c =
    let inv = c.loop-k.invariant in
    let done : c.loop-k.k ≡ length c.args.constraints.now.variables.nonarcs = omega (arith, inv.2, c.loop-k-test.false, c.loop-k.auto.k-end) in
    rw done at inv.1
