use Rattle.std.specs.Prelude.{◌++◌, take, drop}
use Rattle.std.proofs.Common.{◌≡◌, length, sym, ap, ◌∙◌, subst, arith}
use Rattle.std.specs.List.{length_refill}
use Rattle.std.proofs.Math.Seq.{take-append_seam}
use Rattle.nf_simplex.specs.Changes.{flipped, other_bound, with_place}
use Rattle.nf_simplex.specs.Standing.{place_of}
use Rattle.nf_basis.specs.Names.{col_of}
use Rattle.nf_basis.specs.Kept.{MayStand, number}
use Rattle.nf_basis.proofs.Named.{nonbasic_rests, bounded_rests, other_may_stand}
use Rattle.nf_basis.specs.Dense.{HasBasics}
use Rattle.nf_simplex.proofs.Moving.{has_place}
use Rattle.nf_basis.specs.declared.col.Phase.TheVariants.{One, Two}
use Rattle.nf_tree.specs.Duals.{KeepsDuals}
use Rattle.nf_tree.specs.Links.{AreEndsOf, IsTreeOf}
use Rattle.nf_tree.proofs.Moved.{kept_by_flip}
use Rattle.nf_tree.proofs.Slotted.{ends_stay, rows_are, tree_placed}
use Rattle.nf_tree.proofs.tree.TreeBasis.flip.Goals as goal

pub set_place-requires-clause-place : goal.set_place-requires-clause-place
set_place-requires-clause-place g c =
    let place = c.place.ensures.present c.args.p.now c.requires.numbers.state c.requires.entering.nonbasic.0 in
    let rests = nonbasic_rests c.args.p.now c.args.self.now.state c.args.entering c.place.result c.requires.numbers.state c.requires.entering.nonbasic place in
    subst (MayStand c.args.p.now c.args.entering) (sym c.other_bound-to.ensures) (other_may_stand _ _ _ (bounded_rests _ _ _ rests.0 rests.1 c.requires.entering.lower) c.requires.entering.lower c.requires.entering.upper)

pub returns-clause-numbers : goal.returns-clause-numbers
returns-clause-numbers g c =
    let p = c.args.p.now in
    let b = c.args.self.now in
    let s = b.state.standing in
    let h = c.requires.numbers in
    let place = c.place.ensures.present p h.state c.requires.entering.nonbasic.0 in
    let same : c.set_place.new.self.standing ≡ flipped p s (col_of c.args.entering) =
    ap (λ k. k.standing) c.set_place.ensures.changed ∙ ap (λ a. with_place s (number p c.args.entering) a) (c.other_bound-to.ensures ∙ ap other_bound place) in
    let nodes = rows_are p s h.stage in
    let shifted : HasBasics p (flipped p s (col_of c.args.entering)) b.slots.items c.shift.new.values = rw c.as_slice.ensures.value at c.in_ok-shift.ensures.held in
    let long : length c.shift.new.values ≡ length b.values.items = c.in_ok-shift.ensures.long ∙ ap length c.as_mut_slice.ensures.value in
    let final = take b.values.len (c.shift.new.values ++ drop (length c.shift.new.values) b.values.items) in
    let m1 = c.as_mut_slice.ensures.len in
    let m2 = ap length c.as_mut_slice.ensures.value in
    let kept : b.values.len ≡ length c.shift.new.values = omega arith in
    let back : c.shift.new.values ≡ final =
    sym (ap (λ k. take k (c.shift.new.values ++ drop (length c.shift.new.values) b.values.items)) kept ∙ take-append_seam c.shift.new.values (drop (length c.shift.new.values) b.values.items)) in
    let n1 = c.as_mut_slice-2.ensures.len in
    let n2 = c.as_mut_slice-2.ensures.value in
    let n3 = ap length n2 in
    let len : b.work.len ≡ length b.work.items = omega arith in
    let has = has_place p s h.state.problem.arcs_within h.state.fits (col_of c.args.entering) c.requires.entering.nonbasic.0.1 in
    record {
      state = c.set_place.ensures.state;
      stage = ap (λ t. t.stage) same ∙ h.stage;
      held = subst (λ t. HasBasics p t b.slots.items final) (sym same) (subst (λ xs. HasBasics p (flipped p s (col_of c.args.entering)) b.slots.items xs) back shifted);
      tree = subst (λ t. IsTreeOf p t b.slots.items b.span.grove.order.items b.span.grove.links) (sym same) (tree_placed p s (number p c.args.entering) (other_bound (place_of p s (col_of c.args.entering))) b.slots.items b.span.grove.order.items b.span.grove.links h.tree);
      ends = subst (λ t. AreEndsOf p t b.slots.items p.nodes b.span.tails.items b.span.heads.items b.span.names.items) (sym same) (ends_stay p s (number p c.args.entering) (other_bound (place_of p s (col_of c.args.entering))) b.slots.items p.nodes _ _ _ h.ends);
      one = subst (λ t. KeepsDuals p t One b.one) (sym same) (kept_by_flip p s c.args.entering One b.one has c.requires.entering.nonbasic.1 h.one);
      two = subst (λ t. KeepsDuals p t Two b.two) (sym same) (kept_by_flip p s c.args.entering Two b.two has c.requires.entering.nonbasic.1 h.two);
      room = record { span = h.room.span; keys = h.room.keys; work = sym (length_refill b.work.len b.work.items c.shift.new.work len) ∙ (len ∙ h.room.work); weights = h.room.weights; trail = h.room.trail };
    }
