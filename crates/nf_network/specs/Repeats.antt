-- For a proof alone: which arc is the first that repeats another, by keys and by rows.
-- That `network` tells a repeated arc where it is the first fault rests on it.
use Rattle.std.specs.Prelude.{◌≡◌, ◌<◌, ◌+◌, ◌*◌, ◌%◌, ◌^◌, ◌⊎◌, ℕ, Bool, true, false, List, Option, Some, None, length, map, take, get_or, nat_eq}
use Rattle.std.specs.List.{list_any}
use Rattle.nf_bits.specs.Bits.{has_number}
use Rattle.nf_cells.specs.Names.{Name}
use Rattle.nf_program.specs.declared.program.Role.TheVariants as role
use Rattle.nf_roles.specs.declared.fault.CellFault.{CellFault}
use Rattle.nf_roles.specs.declared.fault.DataKind.TheVariants as kind
use Rattle.nf_roles.specs.First.{IsFaultOf, fault_if, or_else}
use Rattle.nf_network.specs.declared.rows.Defaults.{Defaults}
use Rattle.nf_network.specs.Arcs.{same_arc}
use Rattle.nf_network.specs.Faults.{arc_fault_at, empty_row}
use Rattle.nf_network.specs.Keys.{Key, has_key, key_in, no_key}
use Rattle.nf_network.specs.Pass.{AreNamed}
use Rattle.nf_network.specs.Rows.{ArcRow}

-- Arc k repeats one before it.
abbrev pub repeats : List Key → ℕ → Bool
repeats ks k = has_key (get_or ks k no_key) (take k ks)

-- The first arc that repeats one before it, or none.
abbrev pub IsFirstRepeat : List Key → Option ℕ → Type 0
IsFirstRepeat ks None = (k : ℕ) → k < length ks → repeats ks k ≡ false
IsFirstRepeat ks (Some j) = (j < length ks) × ((repeats ks j ≡ true) × ((k : ℕ) → k < j → repeats ks k ≡ false))

-- ---- places
-- The place of an arc's ends among so many.
abbrev pub place_of_ends : ℕ → ℕ → ℕ → ℕ
place_of_ends places tail head = (tail * 20_011 % 2 ^ 64 + head) % 2 ^ 64 % places

abbrev pub place_in : ℕ → Key → ℕ
place_in places k = place_of_ends places k.tail k.head

-- An arc's place is that of one of these.
abbrev pub is_met : ℕ → Key → List Key → Bool
is_met places k ks = list_any (λ l. nat_eq (place_in places k) (place_in places l)) ks

-- A set has the places of all these arcs.
abbrev pub AreTaken : List ℕ → ℕ → List Key → Type 0
AreTaken words places ks = (k : Key) → is_met places k ks ≡ true → has_number words (place_in places k) ≡ true

-- A set has the place of each of these arcs that has the place of one before it.
abbrev pub AreShared : List ℕ → ℕ → List Key → Type 0
AreShared words places ks = (j : ℕ) → j < length ks → is_met places (get_or ks j no_key) (take j ks) ≡ true → has_number words (place_in places (get_or ks j no_key)) ≡ true

-- ---- rows
-- The fault of row k of ARCDATA, counted from 0, where its arc repeats that of a row above it.
abbrev pub repeat_fault : List ArcRow → ℕ → Option CellFault
repeat_fault rows k = fault_if (list_any (same_arc (get_or rows k empty_row)) (take k rows)) role.ArcName kind.RepeatedArc

-- The first n rows have no fault, but for repeated arcs.
abbrev pub AreClearBut : Defaults → List ArcRow → ℕ → Type 0
AreClearBut d rows n = (k : ℕ) → k < n → arc_fault_at d rows k ≡ repeat_fault rows k

-- Keys are those of rows whose ends are among some nodes.
pub record AreKeysOf (rows : List ArcRow) (ks : List Key) : Type 0 where
  pub names : List Name
  pub keys : ks ≡ map (key_in names) rows
  pub named : AreNamed names rows

-- Row i has this fault before its arc is looked at, and its arc is not among the keys.
pub record IsStoppedBefore (d : Defaults) (rows : List ArcRow) (i : ℕ) (f : CellFault) (ks : List Key) : Type 0 where
  pub keys : AreKeysOf (take i rows) ks
  pub due : IsFaultOf (arc_fault_at d rows i) f

-- Row i has this fault unless its arc repeats another, and its arc is among the keys.
pub record IsStoppedBehind (d : Defaults) (rows : List ArcRow) (i : ℕ) (f : CellFault) (ks : List Key) : Type 0 where
  pub keys : AreKeysOf (take (i + 1) rows) ks
  pub rest : Option CellFault
  pub due : IsFaultOf rest f
  pub fault : arc_fault_at d rows i ≡ or_else (repeat_fault rows i) rest

-- A fault stopped the pass in row i.
abbrev pub IsStopped : Defaults → List ArcRow → ℕ → CellFault → List Key → Type 0
IsStopped d rows i f ks = IsStoppedBefore d rows i f ks ⊎ IsStoppedBehind d rows i f ks

-- It stopped the pass in the row of a number that counts from 1, and the rows above have no fault, but for repeated arcs.
pub record IsStoppedIn (d : Defaults) (rows : List ArcRow) (row : ℕ) (f : CellFault) (ks : List Key) : Type 0 where
  pub i : ℕ
  pub row_is : row ≡ i + 1
  pub below : i < length rows
  pub clear : AreClearBut d rows i
  pub stopped : IsStopped d rows i f ks
