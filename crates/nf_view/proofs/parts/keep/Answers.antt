use Rattle.std.proofs.Common.{◌<◌, length, ◌∙◌, arith}
use Rattle.std.proofs.lemmas.List.Elements.{All-push}
use Rattle.nf_view.specs.Keys.{joined, link_at, no_link}
use Rattle.nf_view.specs.Parts.{IsBetween}
use Rattle.nf_view.proofs.PartFacts.{skip, take_both, all_looked}
use Rattle.nf_view.proofs.parts.keep.Goals as goal
use Rattle.nf_view.proofs.parts.keep.Goals.{then-unite+in_ok-push+in_ok-push-2, else-unite}

pub loop-link-preserved : goal.loop-link-preserved
loop-link-preserved c =
    let i = c.loop-link.invariant in
    let (part, u, e) = i.parts in
    let here : c.loop-link.link-index < length c.args.links.now = (let t = c.loop-link-test.true in omega arith) in
    elim c.if-unite.branch [
      | then-unite+in_ok-push+in_ok-push-2 w ↦
          let (ne, v) = c.unite.ensures.two part u w.if-unite.true in
          let b = c.requires.between c.loop-link.link-index no_link here in
          rw (w.kept-is, w.in_ok-push-2.ensures.items, w.in_ok-push.ensures.items, w.turned.ensures)
          record {
            room = c.unite.ensures.room ∙ i.room;
            down = c.unite.ensures.down;
            between = All-push (IsBetween c.args.n) _ _ (All-push (IsBetween c.args.n) c.loop-link.kept.items (link_at c.args.links.now c.loop-link.link-index) i.between b) (record { begins = b.ends; ends = b.begins });
            parts = (joined part (link_at c.args.links.now c.loop-link.link-index), v, take_both part c.args.links.now c.loop-link.kept.items _ c.loop-link.link-index here e ne);
          }
      | else-unite w ↦
          let (q, v) = c.unite.ensures.one part u w.if-unite.false in
          rw w.kept-is
          record {
            room = c.unite.ensures.room ∙ i.room;
            down = c.unite.ensures.down;
            between = i.between;
            parts = (part, v, skip part c.args.links.now c.loop-link.kept.items _ c.loop-link.link-index here e q);
          }
    ]

pub returns-clause-kept : goal.returns-clause-kept
returns-clause-kept c =
    let i = c.loop-link.invariant in
    let (part, u, e) = i.parts in
    all_looked part c.args.links.now c.loop-link.kept.items _ c.loop-link.link-index (let t = c.loop-link-test.false in let a = c.loop-link.auto.link-index-end in omega arith) e
