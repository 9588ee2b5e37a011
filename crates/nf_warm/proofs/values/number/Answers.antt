use Rattle.nf_frac.proofs.DigitFacts.{digits_text, parse_refused}
use Rattle.nf_warm.proofs.values.number.Goals as goal

pub returns-in_default : goal.returns-in_default
returns-in_default c = λ _. c.in_default.ensures.cases.0 (digits_text c.args.digits.now c.requires)

pub returns-in_default-parse-2 : goal.returns-in_default-parse-2
returns-in_default-parse-2 c = λ small. parse_refused c.args.digits.now c.in-Ok.text.now c.parse.result c.in_default-parse.field-0 c.requires c.in-Ok.ensures.cases.0 c.parse.ensures.value.0 c.in_default-parse.is small
