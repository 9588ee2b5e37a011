use Rattle.std.proofs.Common.{inl, inr, refl}
use Rattle.nf_exchange.proofs.to_text.export_source.Goals as goal

pub returns-in-Ok-clause-ends : goal.returns-in-Ok-clause-ends
returns-in-Ok-clause-ends g c = λ words. record {
  kept = c.source_export.ensures.held;
  stores = c.source_export.ensures.stores;
  ends = inl (c.in-Ok.text, _, inl (c.in-Ok.ensures.answer words, refl), c.conclude.ensures.ends c.in-Ok.text refl);
}

pub returns-in-Err-Refused-clause-ends : goal.returns-in-Err-Refused-clause-ends
returns-in-Err-Refused-clause-ends g c = λ words.
    let refused = rw c.in-Err-Refused.field-0-is at (c.in-Err-Refused.ensures.answer words) in
    record {
      kept = c.source_export.ensures.held;
      stores = c.source_export.ensures.stores;
      ends = inl (_, _, inr (c.in-Err-Refused.refusal, refused, refl, c.status.ensures), c.conclude-in-Err-Refused.ensures.ends _ c.line.ensures);
    }
