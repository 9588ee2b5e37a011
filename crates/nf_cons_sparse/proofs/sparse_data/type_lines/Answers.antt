use Rattle.std.proofs.Common.{◌≡◌, ◌<◌, ◌+◌, ◌∙◌, None, length, get_or, sym, ap, subst, arith}
use Rattle.nf_roles.proofs.Lists.{none-yet}
use Rattle.nf_cons.specs.Places.{IsFaultOf, first_of}
use Rattle.nf_cons.proofs.FaultFacts.{row-found, rows-more}
use Rattle.nf_cons.proofs.TermFacts.{get-same}
use Rattle.nf_cons_sparse.specs.LineState.{no_given}
use Rattle.nf_cons_sparse.specs.TypedState.{given_line, no_taken, taken_line, typed_fault_to, typed_faults_now, typed_to, with_taken}
use Rattle.nf_cons_sparse.proofs.TypedFacts.{fault-now, kept-typed, typed-more, typed-none, typed_start}
use Rattle.nf_cons_sparse.proofs.sparse_data.type_lines.Goals as goal

pub loop-i-init : goal.loop-i-init
loop-i-init c = (
  rw (c.new.ensures.items, c.new-2.ensures, c.new-3.ensures.items) (ap typed_start c.lines.view_is ∙ sym (typed-none c.args.lines)),
  none-yet _,
  (let count : c.len-i-end.result ≡ length c.lines.inside.taken.items = grind (arith, c.len-i-end.ensures) in count ∙ ap (λ l. length l.taken) c.lines.view_is),
)

pub returns-in-Err : goal.returns-in-Err
returns-in-Err c =
    let inv = c.loop-i.invariant in
    let l = c.args.lines in
    let below : c.loop-i.i < length c.args.lines.taken = omega (arith, inv.2, c.loop-i-test.true) in
    let size : length c.lines.inside.taken.items ≡ length c.args.lines.taken = ap (λ q. length q.taken) c.lines.view_is in
    let line : c.index-line.result.now ≡ taken_line c.args.lines c.loop-i.i =
    c.index-line.ensures ∙ get-same c.lines.inside.taken.items c.loop-i.i _ no_taken (omega (arith, below, size)) ∙ ap (λ q. get_or q.taken c.loop-i.i no_taken) c.lines.view_is in
    let room : (taken_line c.args.lines c.loop-i.i).row < length c.args.lines.given = c.requires.ranked.given c.loop-i.i below in
    let rows : length c.lines.inside.given.items ≡ length c.args.lines.given = ap (λ q. length q.given) c.lines.view_is in
    let given : c.index.result.now ≡ given_line c.args.lines c.loop-i.i =
    c.index.ensures ∙ ap (λ i. get_or c.lines.inside.given.items i c.index.result.now) (ap (λ t. t.row) line)
    ∙ get-same c.lines.inside.given.items (taken_line c.args.lines c.loop-i.i).row c.index.result.now no_given (omega (arith, room, rows))
    ∙ ap (λ q. get_or q.given (taken_line c.args.lines c.loop-i.i).row no_given) c.lines.view_is in
    let told = subst (λ t. IsFaultOf (first_of (typed_faults_now c.loop-i.typed t c.index.result.now)) c.in-Err.fault) line c.in-Err.ensures in
    let told-2 = subst (λ g. IsFaultOf (first_of (typed_faults_now c.loop-i.typed (taken_line l c.loop-i.i) g)) c.in-Err.fault) given told in
    let told-3 = subst (λ s. IsFaultOf (first_of (typed_faults_now s (taken_line l c.loop-i.i) (given_line l c.loop-i.i))) c.in-Err.fault) inv.0 told-2 in
    rw c.in_row.ensures
    (row-found (length c.args.lines.taken) c.loop-i.i (λ k. k + 1) (typed_fault_to l) c.in-Err.fault inv.1 below (subst (λ o. IsFaultOf o c.in-Err.fault) (fault-now l c.loop-i.i) told-3))

pub loop-i-preserved : goal.loop-i-preserved
loop-i-preserved c =
    let inv = c.loop-i.invariant in
    let l = c.args.lines in
    let below : c.loop-i.i < length c.args.lines.taken = omega (arith, inv.2, c.loop-i-test.true) in
    let size : length c.lines.inside.taken.items ≡ length c.args.lines.taken = ap (λ q. length q.taken) c.lines.view_is in
    let line : c.index-line.result.now ≡ taken_line c.args.lines c.loop-i.i =
    c.index-line.ensures ∙ get-same c.lines.inside.taken.items c.loop-i.i _ no_taken (omega (arith, below, size)) ∙ ap (λ q. get_or q.taken c.loop-i.i no_taken) c.lines.view_is in
    let room : (taken_line c.args.lines c.loop-i.i).row < length c.args.lines.given = c.requires.ranked.given c.loop-i.i below in
    let rows : length c.lines.inside.given.items ≡ length c.args.lines.given = ap (λ q. length q.given) c.lines.view_is in
    let given : c.index.result.now ≡ given_line c.args.lines c.loop-i.i =
    c.index.ensures ∙ ap (λ i. get_or c.lines.inside.given.items i c.index.result.now) (ap (λ t. t.row) line)
    ∙ get-same c.lines.inside.given.items (taken_line c.args.lines c.loop-i.i).row c.index.result.now no_given (omega (arith, room, rows))
    ∙ ap (λ q. get_or q.given (taken_line c.args.lines c.loop-i.i).row no_given) c.lines.view_is in
    let clear = subst (λ t. first_of (typed_faults_now c.loop-i.typed t c.index.result.now) ≡ None) line c.in-Ok.ensures.0 in
    let clear-2 = subst (λ g. first_of (typed_faults_now c.loop-i.typed (taken_line l c.loop-i.i) g) ≡ None) given clear in
    let clear-3 = subst (λ s. first_of (typed_faults_now s (taken_line l c.loop-i.i) (given_line l c.loop-i.i)) ≡ None) inv.0 clear-2 in (
      c.in-Ok.ensures.1 ∙ ap (λ t. with_taken c.loop-i.typed t c.index.result.now (c.loop-i.i + 1)) line ∙ ap (λ g. with_taken c.loop-i.typed (taken_line l c.loop-i.i) g (c.loop-i.i + 1)) given
          ∙ ap (λ s. with_taken s (taken_line l c.loop-i.i) (given_line l c.loop-i.i) (c.loop-i.i + 1)) inv.0 ∙ typed-more l c.loop-i.i,
      rows-more c.loop-i.i 0 (λ k. k + 1) (typed_fault_to l) inv.1 (sym (fault-now l c.loop-i.i) ∙ clear-3),
      inv.2,
    )

pub returns : goal.returns
returns c =
    let inv = c.loop-i.invariant in
    let done : c.loop-i.i ≡ length c.args.lines.taken = omega (arith, inv.2, c.loop-i-test.false, c.loop-i.auto.i-end) in
    let kept = kept-typed c.args.lines c.loop-i.i in
    let is = c.typed-2.view_is ∙ inv.0 in (
      rw done at inv.1,
      ap (λ s. s.variables) is ∙ kept.0,
      ap (λ s. s.names) is ∙ kept.1,
      ap (λ s. s.sides) is ∙ ap (λ k. (typed_to c.args.lines k).sides) done,
      ap (λ s. s.lists) is ∙ ap (λ k. (typed_to c.args.lines k).lists) done,
    )
