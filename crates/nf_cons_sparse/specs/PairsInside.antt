-- Working definitions, on which the promise of `sparse` does not rest: what `Pairs` keeps in its fields.
-- The contracts of its methods rest on it.
use Rattle.std.specs.Prelude.{ℕ, List}
use Rattle.nf_cons_sparse.specs.declared.pairs.Pairs.TheInside.{Inside}

abbrev pub pairs_inside : Inside → List (ℕ × ℕ)
pairs_inside p = p.set.keys
