use Rattle.std.proofs.Common.{◌≡◌, sym, subst, arith}
use Rattle.nf_table.specs.Inside.{IsTable, grid_inside}
use Rattle.nf_table.specs.Making.{RowMayEnd, with_row_ended}
use Rattle.nf_table.specs.declared.table.Table.TheInside.{Inside}
use Rattle.nf_table.proofs.MakeFacts.{header-kept, header-seen, row-counted, row-kept, row-seen}
use Rattle.nf_table.proofs.table.Table.end_row.Goals.{then-self-eq0, else-self-eq0}
use Rattle.nf_table.proofs.table.Table.end_row.Goals as goal

pub overflow_add-self : goal.overflow_add-self
overflow_add-self c =
    let m : RowMayEnd (grid_inside c.self.inside) = rw (← c.self.view_is) at c.requires.may_end in
    let few = row-counted c.self.inside c.self.invariant m (omega (arith, c.if-self-eq0.false)) in
    omega (arith, few)

pub invariant_of-self : goal.invariant_of-self
invariant_of-self c =
    let m : RowMayEnd (grid_inside c.self.inside) = rw (← c.self.view_is) at c.requires.may_end in
    elim c.if-self-eq0.branch [
      | then-self-eq0 w ↦ subst (λ (s : Inside). IsTable (record { cells = s.cells; width = s.width; rows = s.rows; hand = 0; spent = s.spent })) (sym w.self-inside-is) (header-kept c.self.inside c.self.invariant m w.if-self-eq0.true)
      | else-self-eq0 w ↦ subst (λ (s : Inside). IsTable (record { cells = s.cells; width = s.width; rows = s.rows; hand = 0; spent = s.spent })) (sym w.self-inside-is) (row-kept c.self.inside c.self.invariant m (omega (arith, w.if-self-eq0.false)))
    ]

pub returns-clause-added : goal.returns-clause-added
returns-clause-added c =
    let m : RowMayEnd (grid_inside c.self.inside) = rw (← c.self.view_is) at c.requires.may_end in
    rw (← c.self.view_is) (elim c.if-self-eq0.branch [
      | then-self-eq0 w ↦ subst (λ (s : Inside). grid_inside (record { cells = s.cells; width = s.width; rows = s.rows; hand = 0; spent = s.spent }) ≡ with_row_ended (grid_inside c.self.inside)) (sym w.self-inside-is) (header-seen c.self.inside c.self.invariant m w.if-self-eq0.true)
      | else-self-eq0 w ↦ subst (λ (s : Inside). grid_inside (record { cells = s.cells; width = s.width; rows = s.rows; hand = 0; spent = s.spent }) ≡ with_row_ended (grid_inside c.self.inside)) (sym w.self-inside-is) (row-seen c.self.inside c.self.invariant m (omega (arith, w.if-self-eq0.false)))
    ])
