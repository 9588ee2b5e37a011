use Rattle.std.proofs.Common.{inl}
use Rattle.nf_exchange.proofs.ImportFacts.{stores-both}
use Rattle.nf_exchange.proofs.from_text.store_tables.Goals as goal

pub returns-clause-ends : goal.returns-clause-ends
returns-clause-ends g c = λ input held.
    inl (
      stores-both c.args.tables.now c.in-Ok.texts _ _ _ c.in-Ok.ensures held c.in_default-store_texts.ensures.ok,
      c.conclude.ensures.ends _ (rw (c.rows.ensures, c.rows-2.ensures) at c.imported-line.ensures),
    )
