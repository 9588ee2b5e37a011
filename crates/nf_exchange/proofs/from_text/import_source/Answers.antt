use Rattle.std.proofs.Common.{inl, inr, refl}
use Rattle.nf_top.specs.Outcome.{input_of}
use Rattle.nf_exchange.proofs.from_text.import_source.Goals as goal

pub returns-in-Ok-clause-ends : goal.returns-in-Ok-clause-ends
returns-in-Ok-clause-ends g c = λ words.
    let input = input_of words g.S.Source.left g.S.Source.faults c.args.source.now c.source_tables.new.source g.L.Library.held g.L.Library.fetch_faults g.L.Library.misses c.args.library.now c.store_tables.new.library in
    record {
      fetched = record { sound = c.store_tables.ensures.fetches; there = c.store_tables.ensures.misses };
      ends = inr (inl (c.in-Ok.tables, c.in-Ok.ensures.reads input (record { left = refl; rest = refl; faults = refl; faults_after = refl }), c.store_tables.ensures.ends input refl));
    }

pub returns-in-Err-Refused-clause-ends : goal.returns-in-Err-Refused-clause-ends
returns-in-Err-Refused-clause-ends g c = λ words.
    let input = input_of words g.S.Source.left g.S.Source.faults c.args.source.now c.source_tables.new.source g.L.Library.held g.L.Library.fetch_faults g.L.Library.misses c.args.library.now c.args.library.now in
    let refused = rw c.in-Err-Refused.field-0-is at (c.in-Err-Refused.ensures.stops input (record { left = refl; rest = refl; faults = refl; faults_after = refl })) in
    record {
      fetched = record { sound = refl; there = λ q. refl };
      ends = inl (c.in-Err-Refused.refusal, refused, rw c.status.ensures at (c.conclude.ensures.ends _ c.line.ensures), refl, refl);
    }
