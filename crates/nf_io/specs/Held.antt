-- A finite map from names to bytes, and what a fetch and a store say of it where it is told. That a data set is what
-- was stored, and that no call touches another name, rests on it.
use Rattle.std.specs.Prelude.{◌≡◌, ◌<◌, ℕ, List, [], ◌∷◌, false, Option, Some, None, length, if◌then◌else◌, ⊤}
use Rattle.std.specs.Str.{bytes_eq}

-- A map is its entries, each a name and its bytes.
abbrev pub Held : Type 0
Held = List (List ℕ × List ℕ)

-- A name's bytes are those of its first entry.
unfoldable pub found : Held → List ℕ → Option (List ℕ)
found [] name = None
found (e ∷ es) name = if bytes_eq name e.0 then Some e.1 else found es name

-- A told map has these bytes under this name.
abbrev pub HasName : Option Held → List ℕ → List ℕ → Type 0
HasName None name bytes = ⊤
HasName (Some m) name bytes = found m name ≡ Some bytes

-- A told map lacks this name.
abbrev pub LacksName : Option Held → List ℕ → Type 0
LacksName None name = ⊤
LacksName (Some m) name = found m name ≡ None

-- A data set has at most 64 MiB.
abbrev pub most_bytes : ℕ
most_bytes = 67108864

-- A told map has more bytes under this name than a data set may have.
abbrev pub HasTooMany : Option Held → List ℕ → Type 0
HasTooMany None name = ⊤
HasTooMany (Some m) name = (bytes : List ℕ) × (found m name ≡ Some bytes) × (most_bytes < length bytes)

-- In one map a name has these bytes, and each other name what it has in the other map.
abbrev pub Given : Held → Held → List ℕ → List ℕ → Type 0
Given m n name bytes = (q : List ℕ) → found n q ≡ (if bytes_eq name q then Some bytes else found m q)

-- After a store a told map is told, its name has these bytes, and each other name has what it had.
abbrev pub Stored : Option Held → Option Held → List ℕ → List ℕ → Type 0
Stored None new name bytes = new ≡ None
Stored (Some m) None name bytes = ⊥
Stored (Some m) (Some n) name bytes = Given m n name bytes

-- After a store that failed a told map is told, and each name but this one has what it had.
abbrev pub OthersStay : Option Held → Option Held → List ℕ → Type 0
OthersStay None new name = new ≡ None
OthersStay (Some m) None name = ⊥
OthersStay (Some m) (Some n) name = (q : List ℕ) → bytes_eq name q ≡ false → found n q ≡ found m q
