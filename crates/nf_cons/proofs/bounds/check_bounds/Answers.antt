use Rattle.std.proofs.Common.{◌≡◌, ◌<◌, ◌+◌, ◌∙◌, true, false, Some, length, sym, ap, arith}
use Rattle.nf_roles.proofs.Lists.{found, none-more, none-yet}
use Rattle.nf_cons.specs.Bounds.{bound_fault_at, bounds_cross, figures_of}
use Rattle.nf_cons.proofs.BoundFacts.{crossed-is, in-order-is}
use Rattle.nf_cons.proofs.bounds.check_bounds.Goals as goal

pub loop-k-init : goal.loop-k-init
loop-k-init c = (none-yet _, c.nonarcs-k-end.ensures ∙ sym c.requires.sound.homes)

pub returns-then-bounds_cross : goal.returns-then-bounds_cross
returns-then-bounds_cross c =
    let v = c.args.constraints.now.variables in
    let ls = c.args.constraints.now.terms in
    let inv = c.loop-k.invariant in
    let below : c.loop-k.k < length c.args.constraints.now.variables.homes = omega (arith, inv.1, c.loop-k-test.true) in
    let figures = rw c.arcs.ensures at c.figures.ensures in
    let crossed : bounds_cross (figures_of c.args.defaults ls (v.arcs.count + c.loop-k.k)).lower (figures_of c.args.defaults ls (v.arcs.count + c.loop-k.k)).upper ≡ true =
    sym (rw figures at c.bounds_cross.ensures) ∙ c.if-bounds_cross.true in
    let told = (rw (c.home-home.ensures, c.bound_row.ensures, c.arcs.ensures) at c.crossed_at.ensures) in
    found (length v.homes) c.loop-k.k (bound_fault_at v.arcs.count c.args.defaults v.homes ls) c.crossed_at.result inv.0
    (crossed-is v.arcs.count c.args.defaults v.homes ls c.loop-k.k crossed ∙ ap Some (sym told)) below

pub loop-k-preserved : goal.loop-k-preserved
loop-k-preserved c =
    let v = c.args.constraints.now.variables in
    let ls = c.args.constraints.now.terms in
    let inv = c.loop-k.invariant in
    let figures = rw c.arcs.ensures at c.figures.ensures in
    let ordered : bounds_cross (figures_of c.args.defaults ls (v.arcs.count + c.loop-k.k)).lower (figures_of c.args.defaults ls (v.arcs.count + c.loop-k.k)).upper ≡ false =
    sym (rw figures at c.bounds_cross.ensures) ∙ c.if-bounds_cross.false in
    (none-more c.loop-k.k (bound_fault_at v.arcs.count c.args.defaults v.homes ls) inv.0 (in-order-is v.arcs.count c.args.defaults v.homes ls c.loop-k.k ordered), inv.1)

pub returns : goal.returns
returns c =
    let inv = c.loop-k.invariant in
    let done : c.loop-k.k ≡ length c.args.constraints.now.variables.homes = omega (arith, inv.1, c.loop-k-test.false, c.loop-k.auto.k-end) in
    rw done at inv.0
