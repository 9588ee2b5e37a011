use Rattle.std.proofs.Common.{◌∙◌, ◌≡◌, ◌∷◌, [], Some, ap, map, refl, rules, sym}
use Rattle.std.specs.String.{string_bytes}
use Rattle.nf_io.specs.Calls.{CallCount, none_fails}
use Rattle.nf_io.specs.Memory.{LibraryState, SinkState, SourceState}
use Rattle.nf_top.specs.Outcome.{call_of}
use Rattle.nf_call.proofs.Ends.{calm_none}
use Rattle.nf_call.proofs.trial.obey.Goals as goal

pub returns : goal.returns
returns c =
    let words : map string_bytes c.as_slice.result.now ≡ c.args.word.now ∷ [] = search rules in
    record {
      call = call_of c.as_slice.result.now (λ (s : SourceState). Some s.left) (λ (s : SourceState). s.takes.faults) c.in_ok-source.source c.netflow-status.new.program
          (λ (l : LibraryState). Some l.held) (λ (l : LibraryState). l.fetches.faults) (λ (l : LibraryState). l.stores.faults) (λ (l : LibraryState) q. l.misses) c.args.library c.netflow-status.new.library
          (λ (s : SinkState). Some s.written) (λ (s : SinkState). s.puts.faults) c.in_ok-listing.listing c.netflow-status.new.listing;
      after = c.netflow-status.new.library.held;
      in_memory = record {
        words = words;
        source = ap (λ (s : SourceState). Some s.left) c.in_ok-source.ensures ∙ ap Some c.as_bytes.ensures.value;
        library = refl;
        library_after = refl;
        empty = ap (λ (s : SinkState). Some s.written) c.in_ok-listing.ensures;
        listing = refl;
        calm = record {
          source = calm_none _ _ (ap (λ (s : SourceState). s.takes.faults) c.in_ok-source.ensures) (c.netflow-status.ensures.source_calm (ap (λ (s : SourceState). none_fails s.takes) c.in_ok-source.ensures));
          library = calm_none _ _ (ap (λ (k : CallCount). k.faults) c.requires.untouched.fetches) (c.netflow-status.ensures.library_calm (ap none_fails c.requires.untouched.fetches));
          listing = calm_none _ _ (ap (λ (s : SinkState). s.puts.faults) c.in_ok-listing.ensures) (c.netflow-status.ensures.listing_calm (ap (λ (s : SinkState). none_fails s.puts) c.in_ok-listing.ensures));
        };
        stores_calm = calm_none _ _ (ap (λ (k : CallCount). k.faults) c.requires.untouched.stores) (c.netflow-status.ensures.stores_calm (ap none_fails c.requires.untouched.stores));
      };
      ends = c.netflow-status.ensures.comes;
      left = sym c.in_ok-certificate.ensures;
      explained = c.netflow-status.ensures.planned;
      stored = c.netflow-status.ensures.stored;
      accepted = c.netflow-status.ensures.accepted;
    }
