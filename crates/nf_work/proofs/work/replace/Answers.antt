use Rattle.std.proofs.Common.{◌<◌, length, ◌∙◌, arith}
use Rattle.std.proofs.lemmas.List.{get_or_read}
use Rattle.nf_sums.proofs.Laws.{wider}
use Rattle.nf_inverse.specs.Causes.{EntryTerms, ExchangeTerms}
use Rattle.nf_work.specs.Causes.{numbers, entries, ReplaceTerms}
use Rattle.nf_work.specs.Causes.ReplaceTerms.{entry, update}
use Rattle.nf_work.specs.Changed.{IsReplaceFault}
use Rattle.nf_work.proofs.Handed.{handed_as, not_true}
use Rattle.nf_work.proofs.Replaced.{singular, replaced, exchange_same}
use Rattle.nf_work.proofs.work.replace.Goals as goal

pub returns-in_err-entries_of-clause-fault : goal.returns-in_err-entries_of-clause-fault
returns-in_err-entries_of-clause-fault g c =
    let w = c.args.inverse.now in
    let xs = numbers c.args.column.now in
    handed_as c.from_residual.result _ (IsReplaceFault w c.args.at xs) c.from_residual.ensures.1
    (wider (EntryTerms w xs) (ReplaceTerms w c.args.at xs) _ (λ t e. entry t e) c.in_err-entries_of.ensures.passed)

pub returns-then-is_zero-clause-fault : goal.returns-then-is_zero-clause-fault
returns-then-is_zero-clause-fault g c =
    let w = c.args.inverse.now in
    let xs = numbers c.args.column.now in
    let below : c.args.at < length c.entries_of.new.out = omega (arith, c.requires, c.entries_of.auto) in
    singular w c.args.at xs c.index-room-at.result
    (get_or_read c.entries_of.new.out c.args.at _ below c.index-room-at.is _ ∙ c.in_ok-entries_of.ensures.value c.args.at c.requires.at)
    (c.is_zero.ensures.0 c.if-is_zero.true)

pub returns-in_err-exchange-clause-fault : goal.returns-in_err-exchange-clause-fault
returns-in_err-exchange-clause-fault g c =
    let w = c.args.inverse.now in
    let xs = numbers c.args.column.now in
    handed_as c.from_residual-in_err-exchange.result _ (IsReplaceFault w c.args.at xs) c.from_residual-in_err-exchange.ensures.1
    (wider (ExchangeTerms w (numbers c.entries_of.new.out) c.args.at) (ReplaceTerms w c.args.at xs) _
    (λ t e. update t (exchange_same w (numbers c.entries_of.new.out) (entries w xs) c.args.at c.requires.at c.in_ok-entries_of.ensures.value t e))
    c.in_err-exchange.ensures.passed)

pub returns-clause-value : goal.returns-clause-value
returns-clause-value g c =
    let w = c.args.inverse.now in
    let xs = numbers c.args.column.now in
    let below : c.args.at < length c.entries_of.new.out = omega (arith, c.requires, c.entries_of.auto) in
    let read = get_or_read c.entries_of.new.out c.args.at _ below c.index-room-at.is _ in
    replaced w c.exchange.new.self c.args.at xs (numbers c.entries_of.new.out) c.requires.at c.exchange.ensures.size c.in_ok-entries_of.ensures.value
    (λ z. not_true _ c.if-is_zero.false (c.is_zero.ensures.1 (read ∙ z)))
    c.in_ok-exchange.ensures.value
