use Rattle.std.proofs.Common.{◌∙◌, ◌≤◌, length, ap, sym, subst}
use Rattle.nf_saved.proofs.BackFacts.{read-many, read-state}
use Rattle.nf_warm.specs.Inside.{rows_in, statuses_in, words_in}
use Rattle.nf_warm.specs.Recorded.{recorded_of}
use Rattle.nf_warm.proofs.saved.read_rows.Goals as goal

pub add_places-requires-clause-slacks : goal.add_places-requires-clause-slacks
add_places-requires-clause-slacks c =
    ap length c.as_slice.ensures.value
    ∙ (read-many c.args.p.now (rows_in c.args.session.now c.args.at.now) (words_in c.args.dualin.now c.args.at.now) (recorded_of c.in_ok-recorded.recorded) c.in_ok-slacks.slacks.items c.rows-problem.ensures.problem c.in_ok-recorded.ensures c.in_ok-slacks.ensures).1

pub add_places-requires-clause-artificials : goal.add_places-requires-clause-artificials
add_places-requires-clause-artificials c =
    subst (λ l. length l ≤ length c.args.p.now.rows) (sym c.as_slice-artificials.ensures.value)
    (read-many c.args.p.now (rows_in c.args.session.now c.args.at.now) (words_in c.args.dualin.now c.args.at.now) (recorded_of c.in_ok-recorded.recorded) c.in_ok-slacks.slacks.items c.rows-problem.ensures.problem c.in_ok-recorded.ensures c.in_ok-slacks.ensures).0

pub finish-requires : goal.finish-requires
finish-requires c = record {
  fits = rw (c.as_slice-2.ensures.value, c.in_ok-add_places.ensures, c.as_slice.ensures.value, c.as_slice-artificials.ensures.value)
      (read-state c.args.p.now (rows_in c.args.session.now c.args.at.now) (statuses_in c.args.conin.now c.args.at.now) (words_in c.args.dualin.now c.args.at.now) (recorded_of c.in_ok-recorded.recorded) c.in_ok-places.places.items c.in_ok-slacks.slacks.items c.rows-problem.ensures.problem c.in_ok-recorded.ensures c.in_ok-places.ensures c.in_ok-slacks.ensures);
}
