use Rattle.std.proofs.Common.{inl, inr, arith, ◌≡◌, ◌⊎◌, ◌<◌, ◌≤◌, ◌-◌, get_or, sym, subst}
use Rattle.nf_prob.proofs.Entries.{inserted_stored}
use Rattle.nf_prob.specs.declared.stored.Entry.{Entry}
use Rattle.nf_prob.proofs.builder.insert_entry.Goals.{then-loop-k-test+else-e-as_slice, else-loop-k-test}
use Rattle.nf_prob.proofs.builder.insert_entry.Goals as goal

pub returns-clause-added : goal.returns-clause-added
returns-clause-added c = inserted_stored c.requires.by_row.0 c.args.entries.now.items _ c.args.e c.loop-k.k c.requires.by_row.1 c.requires.numbered c.requires.number c.requires.is_new c.loop-k.invariant.within before c.loop-k.invariant.after c.in_ok-insert.ensures.ok
  where
    before : (c.loop-k.k ≡ 0) ⊎ ((x : Entry) × (0 < c.loop-k.k) × (x ≡ get_or c.args.entries.now.items (c.loop-k.k - 1) x) × (x.row ≤ c.args.e.row))
    before = elim c.loop-k-test.branch [
      | then-loop-k-test+else-e-as_slice w ↦ inr (w.index-as_slice-k.result, omega (arith, w.loop-k-test.true), subst (λ es. w.index-as_slice-k.result ≡ get_or es (c.loop-k.k - 1) w.index-as_slice-k.result) w.as_slice.ensures w.index-as_slice-k.is, subst (λ (d : Entry). d.row ≤ c.args.e.row) (sym w.index-as_slice-k.is) w.if-e-as_slice.false)
      | else-loop-k-test w ↦ inl (omega (arith, w.loop-k-test.false))
    ]
