use Rattle.std.proofs.Common.{◌∙◌, ap, subst}
use Rattle.nf_run.specs.declared.event.RunFault.TheVariants as fault
use Rattle.nf_basis.specs.Restoring.{IsFaultOf}
use Rattle.nf_run.proofs.Opened.{load_fault, never_dependent, start_fault}
use Rattle.nf_run.proofs.opening.open.Goals as goal

pub returns-in-Err-Passed-clause-fault : goal.returns-in-Err-Passed-clause-fault
returns-in-Err-Passed-clause-fault g c =
    let why = rw c.in-Err-Passed.field-0-is at c.in-Err-Passed.ensures.fault in
    start_fault c.args.p.now c.rows-rows.ensures.problem c.in-Err-Passed.passed c.at_start.result why (c.at_start.ensures ∙ ap (fault.Range 1 0) c.in-Err-Passed.passed-is)

pub returns-in-Err-clause-fault : goal.returns-in-Err-clause-fault
returns-in-Err-clause-fault g c = load_fault c.args.p.now c.in-Ok.state.standing c.rows-rows.ensures.problem c.in-Ok.ensures.first c.in-Err.fault c.fault_of.result c.in-Err.ensures.fault c.fault_of.ensures

pub fault_of-requires : goal.fault_of-requires
fault_of-requires g c =
    let s = c.in-Ok.state.standing in
    record {
      independent = λ column weights e.
          never_dependent c.args.p.now s column weights c.in-Ok.ensures.state.problem.arcs_within c.in-Ok.ensures.feasible.feasible.basis
          (subst (IsFaultOf c.args.p.now s) e c.in-Err.ensures.fault);
    }
