use Rattle.std.proofs.Common.{take, ◌∙◌, sym, ap}
use Rattle.csv.specs.Records.{fields_of}
use Rattle.nf_table.proofs.CellFacts.{take-cell}
use Rattle.nf_table.proofs.NameFacts.{next-again, next-new, none-left}
use Rattle.nf_table.proofs.SharedFacts.{again-is, again-not, tells-more}
use Rattle.nf_table.proofs.header.repeated_among.Goals as goal

pub returns-then-branch : goal.returns-then-branch
returns-then-branch c =
    let inv = c.loop-name.invariant in
    let cell = rw (inv.2, c.in-Some.is) at (sym c.next.ensures.steps.1) in
    let again = again-is c.args.shared.now c.args.places c.loop-name.before (take c.loop-name.name-iterator.at (fields_of c.args.header.now)) c.in-Some.name.now inv.3 (sym c.in_ok-is_again.ensures.again ∙ c.if-branch.true) in
    sym (inv.4 ∙ next-again _ _ _ cell again)

pub loop-name-preserved : goal.loop-name-preserved
loop-name-preserved c =
    let inv = c.loop-name.invariant in
    let fields = fields_of c.args.header.now in
    let cell = rw (inv.2, c.in-Some.is) at (sym c.next.ensures.steps.1) in
    let at = rw c.in-Some.is at c.next.ensures.steps.2 in
    let row = ap (λ r. r.now) c.next.ensures.steps.0 ∙ inv.2 in
    let not_again = again-not c.args.shared.now c.args.places c.loop-name.before fields c.loop-name.name-iterator.at c.in-Some.name.now c.requires.shared cell inv.3 (sym c.in_ok-is_again.ensures.again ∙ c.if-branch.false) in
    let tells = tells-more c.args.shared.now c.args.places c.loop-name.before _ (take c.loop-name.name-iterator.at fields) c.in-Some.name.now inv.3 (c.in_ok-is_again.ensures.added c.if-branch.false) in
    (tt, tt, row, rw at (rw (take-cell fields _ _ cell) tells), rw at (inv.4 ∙ next-new _ _ _ cell not_again))

pub returns : goal.returns
returns c =
    let inv = c.loop-name.invariant in
    let none = rw (inv.2, c.in-None.is) at (sym c.next.ensures.steps.1) in
    sym (inv.4 ∙ none-left _ _ none)
