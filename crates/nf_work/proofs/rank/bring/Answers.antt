use Rattle.std.proofs.Common.{◌≡◌, ◌<◌, ℕ, length, subst, arith}
use Rattle.nf_sums.specs.Terms.{PassesIn}
use Rattle.nf_sums.proofs.Up.{handed_on}
use Rattle.nf_sums.proofs.Laws.{wider}
use Rattle.nf_inverse.specs.Causes.{EntryTerms, ExchangeTerms}
use Rattle.nf_work.specs.Causes.{numbers, entries, ReplaceTerms}
use Rattle.nf_work.specs.Causes.ReplaceTerms.{entry, update}
use Rattle.nf_work.proofs.Replaced.{exchange_same}
use Rattle.nf_work.proofs.Ranked.{taken_more}
use Rattle.nf_work.proofs.rank.bring.Goals as goal

pub returns-in_err-entries_of-clause-passed : goal.returns-in_err-entries_of-clause-passed
returns-in_err-entries_of-clause-passed g c =
    let w = c.args.inverse.now in
    let xs = numbers c.args.column.now in
    handed_on c.from_residual.result _ (λ p. (a : ℕ) × PassesIn (ReplaceTerms w a xs) p) c.from_residual.ensures.1
    (c.args.at, wider (EntryTerms w xs) (ReplaceTerms w c.args.at xs) _ (λ t e. entry t e) c.in_err-entries_of.ensures.passed)

pub returns-in_err-exchange-clause-passed : goal.returns-in_err-exchange-clause-passed
returns-in_err-exchange-clause-passed g c =
    let w = c.args.inverse.now in
    let xs = numbers c.args.column.now in
    let out = c.entries_of.new.out in
    let place = c.in-Some.place in
    let long : length out ≡ length w = omega (arith, c.requires, c.entries_of.auto) in
    handed_on c.from_residual-in_err-exchange.result _ (λ p. (a : ℕ) × PassesIn (ReplaceTerms w a xs) p) c.from_residual-in_err-exchange.ensures.1 (
      place,
      wider (ExchangeTerms w (numbers out) place) (ReplaceTerms w place xs) _
          (λ t e. update t (exchange_same w (numbers out) (entries w xs) place (subst (λ n. place < n) long c.in-Some.ensures.free.0) c.in_ok-entries_of.ensures.value t e))
          c.in_err-exchange.ensures.passed,
    )

pub returns-clause-brought : goal.returns-clause-brought
returns-clause-brought g c = λ xs own h e.
    let w = c.args.inverse.now in
    let out = c.entries_of.new.out in
    let place = c.in-Some.place in
    let long : length out ≡ length w = omega (arith, c.requires, c.entries_of.auto) in
    taken_more xs c.args.at w c.exchange.new.self c.swap.new.inverse (numbers c.args.column.now) (numbers out) place h (subst (λ n. place < n) long c.in-Some.ensures.free.0) c.in-Some.ensures.free.1 own
    c.in_ok-entries_of.ensures.value c.in-Some.ensures.free.2 c.exchange.ensures.size c.in_ok-exchange.ensures.value c.swap.ensures.size c.swap.ensures.swapped
