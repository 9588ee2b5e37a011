use Rattle.std.proofs.Common.{◌≡◌, ◌≤◌, ℕ, List, true, take}
use Rattle.nf_delivery.specs.Sets.{StoresAll}
use Rattle.nf_delivery.proofs.delivery.store_all.Given as goal

abbrev pub invariant-sets : goal.invariant-sets
invariant-sets g l =
    record {
      stored : StoresAll (take l.set-index l.sets) (g.D.Library.held l.fn.library) (g.D.Library.held l.library);
      stores : g.D.Library.store_faults l.fn.library ≤ g.D.Library.store_faults l.library;
      fetches : g.D.Library.fetch_faults l.library ≡ g.D.Library.fetch_faults l.fn.library;
      misses : (q : List ℕ) → g.D.Library.misses l.library q ≡ g.D.Library.misses l.fn.library q;
      quiet_fetches : g.D.Library.quiet_fetches l.library ≡ g.D.Library.quiet_fetches l.fn.library;
      quiet_stores : g.D.Library.quiet_stores l.library ≡ g.D.Library.quiet_stores l.fn.library;
      calm : g.D.Library.quiet_stores l.fn.library ≡ true → g.D.Library.store_faults l.library ≡ g.D.Library.store_faults l.fn.library;
    }
