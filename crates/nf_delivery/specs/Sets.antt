-- Sets that are stored in their order, and what a library then holds.
-- That a library has under each name the text of the last set of this name, and else what it had, rests on it.
use Rattle.std.specs.Prelude.{◌≡◌, ◌++◌, ℕ, false, List, [], ◌∷◌, Option, Some, None, if◌then◌else◌}
use Rattle.std.specs.Str.{bytes_eq}
use Rattle.std.specs.String.{string_bytes}
use Rattle.nf_io.specs.Held.{Held, OthersStay, Stored, found}
use Rattle.nf_delivery.specs.declared.report.OutSet.{OutSet}

-- The name of a set.
abbrev pub name_of : OutSet → List ℕ
name_of s = string_bytes s.name

-- ---- stores
-- The sets are stored one after another, and nothing else is.
abbrev pub StoresAll : List OutSet → Option Held → Option Held → Type 0
StoresAll [] held now = now ≡ held
StoresAll (s ∷ sets) held now = (mid : Option Held) × Stored held mid (name_of s) s.text × StoresAll sets mid now

-- The first sets are stored, none to all of them.
abbrev pub StoresFirst : List OutSet → Option Held → Option Held → Type 0
StoresFirst sets held now = (done rest : List OutSet) × (sets ≡ done ++ rest) × StoresAll done held now

-- ---- what a library then holds
-- What a name has after stores of sets: the text of the last set of this name; without one, what it had.
abbrev pub last_text : Option (List ℕ) → List OutSet → List ℕ → Option (List ℕ)
last_text had [] q = had
last_text had (s ∷ sets) q = last_text (if bytes_eq (name_of s) q then Some s.text else had) sets q

-- A told map is told, and each name has the text of the last set of this name, or what it had.
abbrev pub HoldsAll : List OutSet → Option Held → Option Held → Type 0
HoldsAll sets None now = now ≡ None
HoldsAll sets (Some m) None = ⊥
HoldsAll sets (Some m) (Some n) = (q : List ℕ) → found n q ≡ last_text (found m q) sets q

-- The same of each name but this one.
abbrev pub HoldsOthers : List OutSet → Option Held → Option Held → List ℕ → Type 0
HoldsOthers sets None now name = now ≡ None
HoldsOthers sets (Some m) None name = ⊥
HoldsOthers sets (Some m) (Some n) name = (q : List ℕ) → bytes_eq name q ≡ false → found n q ≡ last_text (found m q) sets q

-- ---- a store that fails
-- A store fails: the sets before it are stored, and then each name but its own has what it had.
pub record FailsAtStore (sets : List OutSet) (held now : Option Held) : Type 0 where
  pub done : List OutSet
  pub failed : OutSet
  pub rest : List OutSet
  pub split : sets ≡ done ++ failed ∷ rest
  pub before : Option Held
  pub stored : StoresAll done held before
  pub stays : OthersStay before now (name_of failed)
  pub others : HoldsOthers done held now (name_of failed)
