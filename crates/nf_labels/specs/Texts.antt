-- What `Texts` keeps in its fields, and the texts that a clause sees of them.
-- The contracts of the methods of `Texts` rest on it.
use Rattle.std.specs.Prelude.{◌≡◌, ◌≤◌, ◌-◌, ℕ, List, [], ◌∷◌, length, take, drop}
use Rattle.nf_labels.specs.declared.texts.Texts.TheInside.{Inside}

-- The texts of the bytes from a place on, by where each ends: it begins where the one before it ends.
abbrev pub texts_from : ℕ → List ℕ → List ℕ → List (List ℕ)
texts_from start [] bytes = []
texts_from start (e ∷ ends) bytes = take (e - start) (drop start bytes) ∷ texts_from e ends bytes

-- The texts in the fields.
abbrev pub texts_inside : Inside → List (List ℕ)
texts_inside t = texts_from 0 t.ends.items t.bytes.items

-- Texts that stand one behind another from a place on up to `last` have such ends.
abbrev pub AreEnds : ℕ → List ℕ → ℕ → Type 0
AreEnds start [] last = start ≡ last
AreEnds start (e ∷ ends) last = (start ≤ e) × AreEnds e ends last

-- The texts fill the bytes.
abbrev pub FillTheBytes : Inside → Type 0
FillTheBytes t = AreEnds 0 t.ends.items (length t.bytes.items)
