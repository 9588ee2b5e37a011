use Rattle.std.proofs.Common.{◌≡◌, arith, subst, sym, true, false, rules}
use Rattle.std.specs.Prelude.{IfNone, IfSome, MatchBool}
use Rattle.nf_num.specs.Rational.{zero_ℚ, ◌<ℚ◌}
use Rattle.nf_simplex.specs.Verdicts.{artificial_sum}
use Rattle.nf_basis.specs.declared.col.Phase.TheVariants.{One, Two}
use Rattle.nf_price.specs.Choice.{HasEnded}
use Rattle.nf_price.specs.Queue.{pricing}
use Rattle.nf_price.specs.Rules.{rule_of}
use Rattle.nf_price.specs.Wanted.{IsChosen, WantsNone}
use Rattle.nf_price.proofs.ChoiceFacts.{ended_best, ended_short, lowers_one, lowers_two, picked_in, picked_one, picked_two, wanted_nonbasic}
use Rattle.nf_price.proofs.CostFacts.{paid_in_all}
use Rattle.nf_price.proofs.choice.choose.Goals as goal

pub returns-in_err-c-clause-cost : goal.returns-in_err-c-clause-cost
returns-in_err-c-clause-cost g c = omega (arith, c.chosen_one.ensures.cost, paid_in_all c.args.p.now c.args.state.now.standing.stage c.requires.state.problem)

pub returns-in-Some-clause-picked : goal.returns-in-Some-clause-picked
returns-in-Some-clause-picked g c =
    let p = c.args.p.now in
    let s = c.args.state.now.standing in
    let y1 = c.args.duals_one.now in
    let y2 = c.args.duals_two.now in
    let x = c.requires.short.0 in
    let v = c.requires.short.1 in
    let rule = rule_of c.args.rule in
    picked_in p s x y1 y2 v c.requires.duals_one c.requires.duals_two rule (pricing c.args.cursor c.args.queue.now) c.in-Some.c.number c.picked.result.col c.picked.ensures.number
    (picked_one p s x y1 y2 v c.requires.duals_one c.requires.duals_two rule (pricing c.args.cursor c.args.queue.now) c.in-Some.c (subst (λ r. IfSome r (IsChosen p s One y1 y2 rule (pricing c.args.cursor c.args.queue.now))) c.in-Some.is c.in_ok-c.ensures.some))

pub returns-in-Some-clause-lowers : goal.returns-in-Some-clause-lowers
returns-in-Some-clause-lowers g c =
    let p = c.args.p.now in
    let s = c.args.state.now.standing in
    let y1 = c.args.duals_one.now in
    let y2 = c.args.duals_two.now in
    let chosen : IsChosen p s One y1 y2 (rule_of c.args.rule) (pricing c.args.cursor c.args.queue.now) c.in-Some.c = subst (λ r. IfSome r (IsChosen p s One y1 y2 (rule_of c.args.rule) (pricing c.args.cursor c.args.queue.now))) c.in-Some.is c.in_ok-c.ensures.some in
    lowers_one p s c.requires.state.problem c.requires.short.0 y1 y2 c.requires.short.1 c.requires.duals_one c.requires.duals_two c.in-Some.c c.picked.result.col c.picked.result.down c.picked.ensures.number c.picked.ensures.down chosen.candidate

pub returns-in-Some-clause-nonbasic : goal.returns-in-Some-clause-nonbasic
returns-in-Some-clause-nonbasic g c =
    let p = c.args.p.now in
    let s = c.args.state.now.standing in
    let y1 = c.args.duals_one.now in
    let y2 = c.args.duals_two.now in
    let chosen : IsChosen p s One y1 y2 (rule_of c.args.rule) (pricing c.args.cursor c.args.queue.now) c.in-Some.c = subst (λ r. IfSome r (IsChosen p s One y1 y2 (rule_of c.args.rule) (pricing c.args.cursor c.args.queue.now))) c.in-Some.is c.in_ok-c.ensures.some in
    wanted_nonbasic p c.args.state.now One y1 y2 c.in-Some.c.number c.picked.result.col c.requires.state chosen.candidate.wanted c.picked.ensures.number c.picked.ensures.column c.picked.ensures.named

pub returns-in-Some-clause-cost : goal.returns-in-Some-clause-cost
returns-in-Some-clause-cost g c = omega (arith, c.chosen_one.ensures.cost, paid_in_all c.args.p.now c.args.state.now.standing.stage c.requires.state.problem)

pub returns-then-short-clause-ended : goal.returns-then-short-clause-ended
returns-then-short-clause-ended g c =
    let p = c.args.p.now in
    let s = c.args.state.now.standing in
    let y1 = c.args.duals_one.now in
    let y2 = c.args.duals_two.now in
    let x = c.requires.short.0 in
    let short : c.args.short ≡ true = search rules in
    let none : WantsNone p s One y1 y2 = subst (λ r. IfNone r (WantsNone p s One y1 y2)) c.in_default.is c.in_ok-c.ensures.none in
    subst (HasEnded p s) (sym short)
    (ended_short p s x y1 y2 c.requires.short.1 c.requires.duals_one c.requires.duals_two none (subst (λ b. MatchBool b (zero_ℚ <ℚ artificial_sum p x) (artificial_sum p x ≡ zero_ℚ)) short c.requires.short.2))

pub returns-then-short-clause-cost : goal.returns-then-short-clause-cost
returns-then-short-clause-cost g c = omega (arith, c.chosen_one.ensures.cost, paid_in_all c.args.p.now c.args.state.now.standing.stage c.requires.state.problem)

pub returns-in_err-c-2-clause-cost : goal.returns-in_err-c-2-clause-cost
returns-in_err-c-2-clause-cost g c = omega (arith, c.chosen_one.ensures.cost, c.chosen.ensures.cost, paid_in_all c.args.p.now c.args.state.now.standing.stage c.requires.state.problem)

pub returns-in-Some-2-clause-picked : goal.returns-in-Some-2-clause-picked
returns-in-Some-2-clause-picked g c =
    let p = c.args.p.now in
    let s = c.args.state.now.standing in
    let y1 = c.args.duals_one.now in
    let y2 = c.args.duals_two.now in
    let x = c.requires.short.0 in
    let v = c.requires.short.1 in
    let rule = rule_of c.args.rule in
    let short : c.args.short ≡ false = search rules in
    let none : WantsNone p s One y1 y2 = subst (λ r. IfNone r (WantsNone p s One y1 y2)) c.in_default.is c.in_ok-c.ensures.none in
    picked_in p s x y1 y2 v c.requires.duals_one c.requires.duals_two rule (pricing c.args.cursor c.args.queue.now) c.in-Some-2.c.number c.picked-in-Some-2.result.col c.picked-in-Some-2.ensures.number
    (picked_two p s x y1 y2 v c.requires.duals_one c.requires.duals_two rule (pricing c.args.cursor c.args.queue.now) c.in-Some-2.c none (subst (λ b. MatchBool b (zero_ℚ <ℚ artificial_sum p x) (artificial_sum p x ≡ zero_ℚ)) short c.requires.short.2)
    (subst (λ r. IfSome r (IsChosen p s Two y1 y2 rule (pricing c.args.cursor c.args.queue.now))) c.in-Some-2.is c.in_ok-c-2.ensures.some))

pub returns-in-Some-2-clause-nonbasic : goal.returns-in-Some-2-clause-nonbasic
returns-in-Some-2-clause-nonbasic g c =
    let p = c.args.p.now in
    let s = c.args.state.now.standing in
    let y1 = c.args.duals_one.now in
    let y2 = c.args.duals_two.now in
    let chosen : IsChosen p s Two y1 y2 (rule_of c.args.rule) (pricing c.args.cursor c.args.queue.now) c.in-Some-2.c = subst (λ r. IfSome r (IsChosen p s Two y1 y2 (rule_of c.args.rule) (pricing c.args.cursor c.args.queue.now))) c.in-Some-2.is c.in_ok-c-2.ensures.some in
    let told = c.picked-in-Some-2.ensures in
    wanted_nonbasic p c.args.state.now Two y1 y2 c.in-Some-2.c.number c.picked-in-Some-2.result.col c.requires.state chosen.candidate.wanted told.number told.column told.named

pub returns-in-Some-2-clause-lowers : goal.returns-in-Some-2-clause-lowers
returns-in-Some-2-clause-lowers g c =
    let p = c.args.p.now in
    let s = c.args.state.now.standing in
    let y1 = c.args.duals_one.now in
    let y2 = c.args.duals_two.now in
    let x = c.requires.short.0 in
    let short : c.args.short ≡ false = search rules in
    let none : WantsNone p s One y1 y2 = subst (λ r. IfNone r (WantsNone p s One y1 y2)) c.in_default.is c.in_ok-c.ensures.none in
    let chosen : IsChosen p s Two y1 y2 (rule_of c.args.rule) (pricing c.args.cursor c.args.queue.now) c.in-Some-2.c = subst (λ r. IfSome r (IsChosen p s Two y1 y2 (rule_of c.args.rule) (pricing c.args.cursor c.args.queue.now))) c.in-Some-2.is c.in_ok-c-2.ensures.some in
    lowers_two p s c.requires.state.problem x y1 y2 c.requires.short.1 c.requires.duals_one c.requires.duals_two c.in-Some-2.c c.picked-in-Some-2.result.col c.picked-in-Some-2.result.down c.picked-in-Some-2.ensures.number c.picked-in-Some-2.ensures.down none
    (subst (λ b. MatchBool b (zero_ℚ <ℚ artificial_sum p x) (artificial_sum p x ≡ zero_ℚ)) short c.requires.short.2) chosen.candidate

pub returns-in-Some-2-clause-cost : goal.returns-in-Some-2-clause-cost
returns-in-Some-2-clause-cost g c = omega (arith, c.chosen_one.ensures.cost, c.chosen.ensures.cost, paid_in_all c.args.p.now c.args.state.now.standing.stage c.requires.state.problem)

pub returns-in-None-clause-ended : goal.returns-in-None-clause-ended
returns-in-None-clause-ended g c =
    let p = c.args.p.now in
    let s = c.args.state.now.standing in
    let y1 = c.args.duals_one.now in
    let y2 = c.args.duals_two.now in
    let x = c.requires.short.0 in
    let short : c.args.short ≡ false = search rules in
    let none : WantsNone p s One y1 y2 = subst (λ r. IfNone r (WantsNone p s One y1 y2)) c.in_default.is c.in_ok-c.ensures.none in
    let none_two : WantsNone p s Two y1 y2 = subst (λ r. IfNone r (WantsNone p s Two y1 y2)) c.in-None.is c.in_ok-c-2.ensures.none in
    subst (HasEnded p s) (sym short)
    (ended_best p s x y1 y2 c.requires.short.1 c.requires.duals_one c.requires.duals_two none none_two (subst (λ b. MatchBool b (zero_ℚ <ℚ artificial_sum p x) (artificial_sum p x ≡ zero_ℚ)) short c.requires.short.2))

pub returns-in-None-clause-cost : goal.returns-in-None-clause-cost
returns-in-None-clause-cost g c = omega (arith, c.chosen_one.ensures.cost, c.chosen.ensures.cost, paid_in_all c.args.p.now c.args.state.now.standing.stage c.requires.state.problem)
