use Rattle.nf_num.proofs.Parts.{denom_pos, numer-denom_coprime}
use Rattle.nf_num.proofs.Laws.{frac_quotient, number_quotient}
use Rattle.nf_num.proofs.quotients.Goals as goal

pub returns : goal.returns
returns c = record { every_number = λ x. record { quotient = number_quotient x; positive = denom_pos x; lowest = numer-denom_coprime x }; every_quotient = frac_quotient }
