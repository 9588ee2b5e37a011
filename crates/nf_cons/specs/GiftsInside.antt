-- Working definitions, on which no promise of `dense` or `sparse` rests: what `Gifts` keeps in its fields.
-- The contracts of its methods rest on it.
use Rattle.std.specs.Prelude.{List}
use Rattle.nf_cons.specs.Terms.{Gift}
use Rattle.nf_cons.specs.declared.gifts.Gifts.TheInside.{Inside}

abbrev pub gifts_inside : Inside → List Gift
gifts_inside g = g.map.entries
