use Rattle.std.proofs.Common.{◌≡◌, ◌≤◌, true, take}
use Rattle.nf_run.specs.Steps.{HasListed, IsReady, session_at}
use Rattle.nf_run.proofs.statements.obey_all.Given as goal

abbrev pub invariant-acts : goal.invariant-acts
invariant-acts g l =
    record {
      ready : IsReady l.p g.B.Basis.HasNumbers g.B.Basis.standing l.session.stage;
      later : g.K.Sink.faults l.fn.listing ≤ g.K.Sink.faults l.listing;
      quiet : g.K.Sink.quiet l.listing ≡ g.K.Sink.quiet l.fn.listing;
      calm : g.K.Sink.quiet l.fn.listing ≡ true → g.K.Sink.faults l.listing ≡ g.K.Sink.faults l.fn.listing;
      listed : HasListed l.p l.options (take l.act-index l.acts) (session_at g.B.Basis.standing l.session) (g.K.Sink.written l.fn.listing) (g.K.Sink.written l.listing);
    }
