use Rattle.std.proofs.Common.{refl, sym}
use Rattle.nf_num.proofs.Laws.{le_of_lt, not_le_of_lt}
use Rattle.nf_num.proofs.Order.{le_of_eq}
use Rattle.nf_prob.proofs.fits.is_less.Goals as goal

pub returns-in-Less : goal.returns-in-Less
returns-in-Less c = (λ _. c.in-Less.ensures, λ _. refl)

pub returns-in-Equal : goal.returns-in-Equal
returns-in-Equal c = (λ t. cc, λ h. absurd (not_le_of_lt _ _ h (le_of_eq _ _ (sym c.in-Equal.ensures))))

pub returns-in-Greater : goal.returns-in-Greater
returns-in-Greater c = (λ t. cc, λ h. absurd (not_le_of_lt _ _ h (le_of_lt _ _ c.in-Greater.ensures)))
