use Rattle.std.proofs.Common.{◌∙◌, ◌≤◌, ap, length, subst}
use Rattle.nf_saved.specs.Session.{session_of}
use Rattle.nf_saved.specs.SessionTable.{queue_rows}
use Rattle.nf_session_table.specs.Growing.{carried_of, with_more}
use Rattle.nf_session_table.proofs.GrowFacts.{after-head, after-options, after-queue, all-there}
use Rattle.nf_session_table.proofs.table.sessionout.Goals as goal

pub push_options-requires-clause-room : goal.push_options-requires-clause-room
push_options-requires-clause-room c = after-head (session_of c.args.state.now.standing (carried_of c.args.carried.now)) c.push_header.new.table c.push_head.new.table c.in_ok-push_header.ensures c.in_ok-push_head.ensures

pub push_queue-requires-clause-room : goal.push_queue-requires-clause-room
push_queue-requires-clause-room c =
    after-options (session_of c.args.state.now.standing (carried_of c.args.carried.now)) c.push_header.new.table c.push_head.new.table c.in_ok-push_header.ensures c.in_ok-push_head.ensures
    c.push_options.new.table c.in_ok-push_options.ensures

pub push_artificials-requires-clause-room : goal.push_artificials-requires-clause-room
push_artificials-requires-clause-room c =
    let queue = c.items.ensures.value in
    after-queue (session_of c.args.state.now.standing (carried_of c.args.carried.now)) c.push_header.new.table c.push_head.new.table c.in_ok-push_header.ensures c.in_ok-push_head.ensures
    c.push_options.new.table c.in_ok-push_options.ensures
    c.push_queue.new.table (c.in_ok-push_queue.ensures ∙ ap (λ q. with_more c.push_options.new.table (queue_rows q)) queue) (subst (λ q. length q ≤ 999) queue c.items.ensures.most)

pub returns : goal.returns
returns c = record {
  table = all-there (session_of c.args.state.now.standing (carried_of c.args.carried.now)) c.push_header.new.table c.push_head.new.table c.in_ok-push_header.ensures c.in_ok-push_head.ensures
      c.push_options.new.table c.in_ok-push_options.ensures
      c.push_queue.new.table (c.in_ok-push_queue.ensures ∙ ap (λ q. with_more c.push_options.new.table (queue_rows q)) c.items.ensures.value) c.args.p.now c.push_artificials.new.table c.in_ok-push_artificials.ensures;
}
