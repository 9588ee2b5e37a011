-- The data sets that a library in memory keeps, as a map from names to bytes. What its calls say of the map rests on it.
use Rattle.std.specs.Prelude.{ℕ, String, Vec, map}
use Rattle.std.specs.String.{string_bytes}
use Rattle.std.specs.BTreeMap.{BTreeMap}
use Rattle.std.specs.declared.alloc.Global.{Global}
use Rattle.nf_io.specs.Held.{Held}

-- An ordered map's entries are names and bytes.
abbrev pub sets_held : BTreeMap (String Global) (Vec ℕ Global) → Held
sets_held m = map (λ e. (string_bytes e.0, e.1.items)) m.entries
