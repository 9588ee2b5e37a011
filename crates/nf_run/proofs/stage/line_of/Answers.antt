use Rattle.std.proofs.Common.{subst}
use Rattle.nf_run.specs.Steps.{IsHaltIn}
use Rattle.nf_run.specs.Turns.{IsOver}
use Rattle.nf_run.proofs.RunFacts.{ended_means, ended_so}
use Rattle.nf_run.proofs.stage.line_of.Goals as goal

pub end_of-requires : goal.end_of-requires
end_of-requires g c =
    let ended = subst (IsHaltIn c.args.p.now c.args.setting (g.B.Basis.standing c.args.basis.now)) c.in-Ended.is c.requires.halt in
    record { ended = ended_means c.args.p.now _ _ ended.0 c.in-Ended.moved ended.1 }

pub verdict-requires-clause-ended : goal.verdict-requires-clause-ended
verdict-requires-clause-ended g c =
    let s = g.B.Basis.standing c.args.basis.now in
    let ended = subst (IsHaltIn c.args.p.now c.args.setting s) c.in-Ended.is c.requires.halt in
    let not_over = subst (λ h. IsOver c.args.p.now s.stage h → ⊥) c.in-Ended.is c.requires.not_over in
    ended_so c.args.p.now _ s ended.0 c.in-Ended.moved c.end_of.result not_over ended.1 c.end_of.ensures.means
