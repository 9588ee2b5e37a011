use Rattle.std.proofs.Common.{Some, inl, inr, sym, ap, ◌∙◌}
use Rattle.nf_network.proofs.OptionFacts.{option-alone, option-other, option-taken, option-unknown}
use Rattle.nf_network.proofs.options.give_option.Goals as goal

pub returns-in_default-find : goal.returns-in_default-find
returns-in_default-find c = elim c.option_fault.ensures [
  | inl m ↦ inl m
  | inr e ↦ inr (option-unknown c.args.nodes.now c.args.column.now c.in-Some.name c.args.named c.args.amount c.in-Some.is (rw c.bytes.ensures.bytes at c.in_default-find.ensures) ∙ ap Some (sym e))
]

pub returns-in_default-amount : goal.returns-in_default-amount
returns-in_default-amount c =
    option-alone c.args.nodes.now c.args.column.now c.in-Some.name c.args.named c.args.amount c.in-Some-find.number c.in-Some.is c.in_default-amount.is (rw c.bytes.ensures.bytes at c.in-Some-find.ensures)

pub returns-in-Ok : goal.returns-in-Ok
returns-in-Ok c =
    option-taken c.args.nodes.now c.args.column.now c.in-Some.name c.args.named c.args.amount c.in-Some-amount.amount c.in-Some-find.number _ c.in-Some.is c.in-Some-amount.is
    (rw c.bytes.ensures.bytes at c.in-Some-find.ensures) c.in-Ok.ensures

pub returns-in-Err : goal.returns-in-Err
returns-in-Err c = elim c.option_fault-in-Err.ensures [
  | inl m ↦ inl m
  | inr e ↦ inr (option-other c.args.nodes.now c.args.column.now c.in-Some.name c.args.named c.args.amount c.in-Some-amount.amount c.in-Some-find.number c.in-Err.field-0 c.in-Some.is c.in-Some-amount.is
      (rw c.bytes.ensures.bytes at c.in-Some-find.ensures) c.in-Err.ensures ∙ ap Some (sym e))
]
