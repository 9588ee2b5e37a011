use Rattle.std.proofs.Common.{codes}
use Rattle.nf_command.proofs.FourWords.{got, none_got, some_got}
use Rattle.nf_command.proofs.words.size_in.Goals as goal

pub returns-in_err-get_str : goal.returns-in_err-get_str
returns-in_err-get_str c = λ a b c' d h.
    absurd (none_got c.get_str.result a c.in_err-get_str.was (got c.args.matches.now c.in_ok-sample.sample.now (codes "SEED") a h.rows c.get_str.result h.sample c.in_ok-sample.ensures.rows c.get_str.ensures h.seed_is))

pub returns-in_err-get_str-2 : goal.returns-in_err-get_str-2
returns-in_err-get_str-2 c = λ a b c' d h.
    absurd (none_got c.get_str-2.result b c.in_err-get_str-2.was (got c.args.matches.now c.in_ok-sample.sample.now (codes "NODES") b h.rows c.get_str-2.result h.sample c.in_ok-sample.ensures.rows c.get_str-2.ensures h.nodes_are))

pub returns-in_err-get_str-3 : goal.returns-in_err-get_str-3
returns-in_err-get_str-3 c = λ a b c' d h.
    absurd (none_got c.get_str-3.result c' c.in_err-get_str-3.was (got c.args.matches.now c.in_ok-sample.sample.now (codes "ARCS") c' h.rows c.get_str-3.result h.sample c.in_ok-sample.ensures.rows c.get_str-3.ensures h.arcs_are))

pub returns-in_err-get_str-4 : goal.returns-in_err-get_str-4
returns-in_err-get_str-4 c = λ a b c' d h.
    absurd (none_got c.get_str-4.result d c.in_err-get_str-4.was (got c.args.matches.now c.in_ok-sample.sample.now (codes "CONS") d h.rows c.get_str-4.result h.sample c.in_ok-sample.ensures.rows c.get_str-4.ensures h.cons_are))

pub returns : goal.returns
returns c = λ a b c' d h.
    let m = c.args.matches.now in
    let s = c.in_ok-sample.sample.now in
    let ea = some_got c.get_str.result c.in_ok-get_str.field-0 a c.in_ok-get_str.was (got m s (codes "SEED") a h.rows c.get_str.result h.sample c.in_ok-sample.ensures.rows c.get_str.ensures h.seed_is) in
    let eb = some_got c.get_str-2.result c.in_ok-get_str-2.field-0 b c.in_ok-get_str-2.was (got m s (codes "NODES") b h.rows c.get_str-2.result h.sample c.in_ok-sample.ensures.rows c.get_str-2.ensures h.nodes_are) in
    let ec = some_got c.get_str-3.result c.in_ok-get_str-3.field-0 c' c.in_ok-get_str-3.was (got m s (codes "ARCS") c' h.rows c.get_str-3.result h.sample c.in_ok-sample.ensures.rows c.get_str-3.ensures h.arcs_are) in
    let ed = some_got c.get_str-4.result c.in_ok-get_str-4.field-0 d c.in_ok-get_str-4.was (got m s (codes "CONS") d h.rows c.get_str-4.result h.sample c.in_ok-sample.ensures.rows c.get_str-4.ensures h.cons_are) in
    rw (ea, eb, ec, ed) at c.size_of.ensures
