use Rattle.std.proofs.Common.{subst}
use Rattle.nf_delivery.specs.Sets.{StoresAll}
use Rattle.nf_delivery.proofs.StoreFacts.{holds_all}
use Rattle.nf_delivery.proofs.delivery.deliver.Goals as goal

pub returns-clause-held : goal.returns-clause-held
returns-clause-held g c =
    let held = g.D.Library.held c.args.library.now in
    let now = g.D.Library.held c.store_all.new.library in
    holds_all c.args.report.now.sets.items held now (subst (λ v. StoresAll v held now) c.deref.ensures.value c.in_ok-store_all.ensures.stored)
