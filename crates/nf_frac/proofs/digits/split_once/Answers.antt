use Rattle.std.proofs.Common.{◌==◌, rules, tests}
use Rattle.std.proofs.lemmas.Iterator.{YieldsList-from_slice}
use Rattle.std.proofs.lemmas.Iterator.Search.{position_from_yields_List}
use Rattle.nf_frac.proofs.DigitFacts.{none_found, one_found}
use Rattle.nf_frac.proofs.digits.split_once.Goals as goal

pub returns-in_err-at : goal.returns-in_err-at
returns-in_err-at c =
    let found = position_from_yields_List (λ b. b == c.args.mark) _ _ c.position.result c.position.ensures.ran (YieldsList-from_slice c.args.text.now cc) (λ x b q k. search (rules, tests)) in
    let none = none_found (λ b. b == c.args.mark) c.args.text.now c.position.result found c.in_err-at.was in
    rw c.from_residual.ensures none

pub returns : goal.returns
returns c =
    let found = position_from_yields_List (λ b. b == c.args.mark) _ _ c.position.result c.position.ensures.ran (YieldsList-from_slice c.args.text.now cc) (λ x b q k. search (rules, tests)) in
    one_found (λ b. b == c.args.mark) c.args.text.now c.position.result c.in_ok-at.at found c.in_ok-at.was
