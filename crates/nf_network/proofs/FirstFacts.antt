-- The first fault of ARCDATA, where arcs that repeat others are found after the pass.
use Rattle.std.proofs.Common.{◌≡◌, ◌≤◌, ◌<◌, ◌+◌, ◌++◌, ◌⊎◌, ℕ, zero, suc, true, false, List, [], ◌∷◌, Option, Some, None, Result, Ok, Err, length, map, take, get_or, refl, sym, ap, ◌∙◌, inl, inr, arith}
use Rattle.std.specs.Prelude.{MatchResult}
use Rattle.std.proofs.lemmas.Bool.{cases_lt}
use Rattle.std.proofs.lemmas.List.{get_or-map, get_or-take, length-take-le, take-take, take_all}
use Rattle.std.specs.List.{list_any}
use Rattle.nf_cells.specs.Names.{Name, has_name}
use Rattle.nf_program.specs.declared.program.Role.TheVariants as role
use Rattle.nf_roles.specs.declared.fault.CellFault.{CellFault}
use Rattle.nf_roles.specs.declared.fault.DataKind.TheVariants as kind
use Rattle.nf_roles.specs.First.{IsFaultOf, fault_if, first_below, first_of, in_row, or_else}
use Rattle.nf_roles.proofs.Lists.{found}
use Rattle.nf_network.specs.declared.pass.RowFault.{RowFault}
use Rattle.nf_network.specs.declared.rows.Defaults.{Defaults}
use Rattle.nf_network.specs.Rows.{ArcRow}
use Rattle.nf_network.specs.declared.rows.Figures.{Figures}
use Rattle.nf_network.specs.Nodes.{NodeList}
use Rattle.nf_network.specs.Arcs.{arc_name, head_of, same_arc, tail_of}
use Rattle.nf_network.specs.Faults.{arc_fault_at, arc_faults, empty_row, first_arc_fault, is_bad, most_arcs}
use Rattle.nf_network.specs.Keys.{Key, key_in, no_key}
use Rattle.nf_network.specs.Pass.{AreNamed, EndsNamed, IsAfter}
use Rattle.nf_network.specs.Repeats.{AreClearBut, AreKeysOf, IsFirstRepeat, IsStopped, IsStoppedBehind, IsStoppedIn, repeat_fault, repeats}
use Rattle.nf_network.proofs.KeyFacts.{same-any}
use Rattle.nf_network.proofs.PassFacts.{behind_name, fault-at, map-length, row-keys, row-rest}

-- ---- keys and rows
mapped-take : {A B : Type 0} (f : A → B) (n : ℕ) (xs : List A) → take n (map f xs) ≡ map f (take n xs)
mapped-take f zero xs = refl
mapped-take f (suc n) [] = refl
mapped-take f (suc n) (x ∷ xs) = ap (λ l. f x ∷ l) (mapped-take f n xs)

named-front : (names : List Name) (n : ℕ) (rows : List ArcRow) → AreNamed names rows → AreNamed names (take n rows)
named-front names zero rows a = tt
named-front names (suc n) [] a = tt
named-front names (suc n) (r ∷ rows) a = (a.0, (a.1.0, named-front names n rows a.1.1))

named-at : (names : List Name) (rows : List ArcRow) (k : ℕ) → AreNamed names rows → k < length rows
    → (has_name (tail_of (get_or rows k empty_row)) names ≡ true) × (has_name (head_of (get_or rows k empty_row)) names ≡ true)
named-at names [] k a below = absurd (omega (arith, below))
named-at names (r ∷ rows) zero a below = (a.0, a.1.0)
named-at names (r ∷ rows) (suc k) a below = named-at names rows k a.1.1 (omega (arith, below))

key-repeats : (rows : List ArcRow) (ks : List Key) (k : ℕ) → AreKeysOf rows ks → k < length rows → repeats ks k ≡ list_any (same_arc (get_or rows k empty_row)) (take k rows)
key-repeats rows ks k a below =
    let there = named-at a.names rows k a.named below in
    let key : get_or ks k no_key ≡ key_in a.names (get_or rows k empty_row) = ap (λ l. get_or l k no_key) a.keys ∙ get_or-map (key_in a.names) rows k empty_row no_key below in
    let front : take k ks ≡ map (key_in a.names) (take k rows) = ap (take k) a.keys ∙ mapped-take (key_in a.names) k rows in
    rw (key, front) (same-any a.names (get_or rows k empty_row) (take k rows) there.0 there.1 (named-front a.names k rows a.named))

pub clear-next : (d : Defaults) (rows : List ArcRow) (i : ℕ) → AreClearBut d rows i → arc_fault_at d rows i ≡ repeat_fault rows i → AreClearBut d rows (i + 1)
clear-next d rows i clear here k below = elim (cases_lt k i) [
  | inl less ↦ clear k less
  | inr last ↦ let is : k ≡ i = omega (arith, last, below) in rw is here
]

-- ---- the first fault
none-below : {A : Type 0} (n : ℕ) (f : ℕ → Option A) → ((k : ℕ) → k < n → f k ≡ None) → first_below n f ≡ None
unfolding first_below
none-below zero f h = refl
none-below (suc n) f h = rw (none-below n f (λ k below. h k (omega (arith, below)))) (h n (omega arith))

first-is : (d : Defaults) (rows : List ArcRow) (j : ℕ) (f : CellFault) → ((k : ℕ) → k < j → arc_fault_at d rows k ≡ None) → arc_fault_at d rows j ≡ Some f → j < length rows → first_arc_fault d rows ≡ Some (j + 1, f)
first-is d rows j f before here below =
    found (length rows) j (λ k. in_row (k + 1) (arc_fault_at d rows k)) (j + 1, f) (none-below j (λ k. in_row (k + 1) (arc_fault_at d rows k)) (λ k less. ap (in_row (k + 1)) (before k less)))
    (ap (in_row (j + 1)) here) below

-- the fault of a repeated arc
abbrev pub repeated : CellFault
repeated = record { role = role.ArcName; kind = kind.RepeatedArc }

module _ (d : Defaults) (rows : List ArcRow) (n : ℕ) (ks : List Key) (within : n ≤ length rows) (keys : AreKeysOf (take n rows) ks) where
  taken : length (take n rows) ≡ n
  taken = length-take-le n rows within

  pub keys-size : length ks ≡ n
  keys-size = ap length keys.keys ∙ map-length (key_in keys.names) (take n rows) ∙ taken

  fault-is : (k : ℕ) → k < n → repeat_fault rows k ≡ fault_if (repeats ks k) role.ArcName kind.RepeatedArc
  fault-is k below =
      let inside : k < length (take n rows) = omega (arith, taken, below) in
      let same : repeats ks k ≡ list_any (same_arc (get_or rows k empty_row)) (take k rows) =
      rw (get_or-take n rows k empty_row below, take-take k n rows (omega (arith, below))) at (key-repeats (take n rows) ks k keys inside) in
      rw same refl

  no-fault : (k : ℕ) → k < n → repeats ks k ≡ false → repeat_fault rows k ≡ None
  no-fault k below h = fault-is k below ∙ rw h refl

  a-fault : (k : ℕ) → k < n → repeats ks k ≡ true → repeat_fault rows k ≡ Some repeated
  a-fault k below h = fault-is k below ∙ rw h refl

  clear-before : (m j : ℕ) → AreClearBut d rows m → j ≤ m → j ≤ n → ((k : ℕ) → k < j → repeats ks k ≡ false) → (k : ℕ) → k < j → arc_fault_at d rows k ≡ None
  clear-before m j clear far in_keys none k below = clear k (omega (arith, below, far)) ∙ no-fault k (omega (arith, below, in_keys)) (none k below)

  repeat-told : (m j : ℕ) (rest : Option CellFault) → AreClearBut d rows m → j ≤ m → IsFirstRepeat ks (Some j) → arc_fault_at d rows j ≡ or_else (repeat_fault rows j) rest → first_arc_fault d rows ≡ Some (j + 1, repeated)
  repeat-told m j rest clear far r here =
      let below : j < n = omega (arith, r.0, keys-size) in
      first-is d rows j repeated (clear-before m j clear far (omega (arith, below)) r.1.1) (here ∙ rw (a-fault j below r.1.0) refl) (omega (arith, below, within))

only : (o : Option CellFault) → o ≡ or_else o None
only None = refl
only (Some f) = refl

-- ---- the pass stopped
pub stopped-few : (d : Defaults) (rows : List ArcRow) (row : ℕ) (f : CellFault) (ks : List Key) → IsStoppedIn d rows row f ks → length ks ≤ length rows
stopped-few d rows row f ks s = elim s.stopped [
  | inl b ↦ omega (arith, s.below, keys-size d rows s.i ks (omega (arith, s.below)) b.keys)
  | inr b ↦ omega (arith, s.below, keys-size d rows (s.i + 1) ks (omega (arith, s.below)) b.keys)
]

stopped-repeat : (d : Defaults) (rows : List ArcRow) (row : ℕ) (f : CellFault) (ks : List Key) (j : ℕ) → IsStoppedIn d rows row f ks → IsFirstRepeat ks (Some j) → first_arc_fault d rows ≡ Some (j + 1, repeated)
stopped-repeat d rows row f ks j s r = elim s.stopped [
  | inl b ↦
      let below : j < s.i = omega (arith, r.0, keys-size d rows s.i ks (omega (arith, s.below)) b.keys) in
      repeat-told d rows s.i ks (omega (arith, s.below)) b.keys s.i j None s.clear (omega (arith, below)) r (s.clear j below ∙ only (repeat_fault rows j))
  | inr b ↦ behind b (cases_lt j s.i)
]
  where
    behind : IsStoppedBehind d rows s.i f ks → (j < s.i) ⊎ (s.i ≤ j) → first_arc_fault d rows ≡ Some (j + 1, repeated)
    behind b (inl below) = repeat-told d rows (s.i + 1) ks (omega (arith, s.below)) b.keys s.i j None s.clear (omega (arith, below)) r (s.clear j below ∙ only (repeat_fault rows j))
    behind b (inr last) =
        let is : j ≡ s.i = omega (arith, last, r.0, keys-size d rows (s.i + 1) ks (omega (arith, s.below)) b.keys) in
        repeat-told d rows (s.i + 1) ks (omega (arith, s.below)) b.keys s.i j b.rest s.clear (omega (arith, is)) r (rw is b.fault)

pub stopped-alone : (d : Defaults) (rows : List ArcRow) (row : ℕ) (f : CellFault) (ks : List Key) → IsStoppedIn d rows row f ks → IsFirstRepeat ks None → (f.kind ≡ kind.NoMemory) ⊎ (first_arc_fault d rows ≡ Some (row, f))
stopped-alone d rows row f ks s r = elim s.stopped [
  | inl b ↦
      let size = keys-size d rows s.i ks (omega (arith, s.below)) b.keys in
      due b.due (clear-before d rows s.i ks (omega (arith, s.below)) b.keys s.i s.i s.clear (omega arith) (omega arith) (λ k less. r k (omega (arith, less, size))))
  | inr b ↦
      let size = keys-size d rows (s.i + 1) ks (omega (arith, s.below)) b.keys in
      let last : repeat_fault rows s.i ≡ None = no-fault d rows (s.i + 1) ks (omega (arith, s.below)) b.keys s.i (omega arith) (r s.i (omega (arith, size))) in
      let here : arc_fault_at d rows s.i ≡ b.rest = b.fault ∙ rw last refl in
      due (rw here b.due) (clear-before d rows (s.i + 1) ks (omega (arith, s.below)) b.keys s.i s.i s.clear (omega arith) (omega arith) (λ k less. r k (omega (arith, less, size))))
]
  where
    due : IsFaultOf (arc_fault_at d rows s.i) f → ((k : ℕ) → k < s.i → arc_fault_at d rows k ≡ None) → (f.kind ≡ kind.NoMemory) ⊎ (first_arc_fault d rows ≡ Some (row, f))
    due (inl m) before = inl m
    due (inr e) before = inr (rw s.row_is (first-is d rows s.i f before e s.below))

-- ---- or took all rows
module _ (d : Defaults) (rows : List ArcRow) (ks : List Key) (clear : AreClearBut d rows (length rows)) (keys : AreKeysOf rows ks) where
  front : AreKeysOf (take (length rows) rows) ks
  front = rw (take_all (length rows) rows (omega arith)) keys

  pub whole-few : length ks ≤ length rows
  whole-few = omega (arith, keys-size d rows (length rows) ks (omega arith) front)

  whole-repeat : (j : ℕ) → IsFirstRepeat ks (Some j) → first_arc_fault d rows ≡ Some (j + 1, repeated)
  whole-repeat j r =
      let below : j < length rows = omega (arith, r.0, whole-few) in
      repeat-told d rows (length rows) ks (omega arith) front (length rows) j None clear (omega (arith, below)) r (clear j below ∙ only (repeat_fault rows j))

  pub whole-clear : IsFirstRepeat ks None → first_arc_fault d rows ≡ None
  whole-clear r =
      let size = keys-size d rows (length rows) ks (omega arith) front in
      none-below (length rows) (λ k. in_row (k + 1) (arc_fault_at d rows k)) (λ k below. ap (in_row (k + 1))
      (clear-before d rows (length rows) ks (omega arith) front (length rows) (length rows) clear (omega arith) (omega arith) (λ i less. r i (omega (arith, less, size))) k below))

-- what the pass left are the keys of all rows
pub keys-after : (d : Defaults) (rows : List ArcRow) (ns : NodeList) (ks : List Key) (fs : List Figures) → IsAfter d rows ns ks fs → AreKeysOf rows ks
keys-after d rows ns ks fs s = record { names = ns.names; keys = s.keys; named = s.named }

-- ---- either
abbrev pub IsTaken : Defaults → List ArcRow → NodeList → List Key → List Figures → Result (Unit {0}) RowFault → Type 0
IsTaken d rows ns ks fs t = MatchResult t (λ _. AreClearBut d rows (length rows) × IsAfter d rows ns ks fs) (λ e. IsStoppedIn d rows e.row e.fault ks)

pub taken-few : (d : Defaults) (rows : List ArcRow) (ns : NodeList) (ks : List Key) (fs : List Figures) (t : Result (Unit {0}) RowFault) → IsTaken d rows ns ks fs t → length ks ≤ length rows
taken-few d rows ns ks fs (Ok u) h = whole-few d rows ks h.0 (keys-after d rows ns ks fs h.1)
taken-few d rows ns ks fs (Err e) h = stopped-few d rows e.row e.fault ks h

pub taken-repeat : (d : Defaults) (rows : List ArcRow) (ns : NodeList) (ks : List Key) (fs : List Figures) (t : Result (Unit {0}) RowFault) (j : ℕ) → IsTaken d rows ns ks fs t → IsFirstRepeat ks (Some j)
    → first_arc_fault d rows ≡ Some (j + 1, repeated)
taken-repeat d rows ns ks fs (Ok u) j h r = whole-repeat d rows ks h.0 (keys-after d rows ns ks fs h.1) j r
taken-repeat d rows ns ks fs (Err e) j h r = stopped-repeat d rows e.row e.fault ks j h r

-- ---- a row stops the pass
module _ (d : Defaults) (rows : List ArcRow) (i : ℕ) (r : ArcRow) (ns : NodeList) (ks : List Key) (fs : List Figures)
    (at : get_or rows i empty_row ≡ r) (s : IsAfter d (take i rows) ns ks fs) where
  pub before : (f : CellFault) → IsFaultOf (first_of (arc_faults d (take i rows) r)) f → IsStopped d rows i f ks
  before f due = inl (record { keys = record { names = ns.names; keys = s.keys; named = s.named }; due = rw (fault-at d rows i r at) due })

  repeat-at : repeat_fault rows i ≡ fault_if (list_any (same_arc r) (take i rows)) role.ArcName kind.RepeatedArc
  repeat-at = rw at refl

  module _ (new : NodeList) (t h : ℕ) (small : length ks < most_arcs) (e : EndsNamed ns r new t h) (good : is_bad r.name ≡ false) where
    rest-is : arc_fault_at d rows i ≡ or_else (repeat_fault rows i) (behind_name d (take i rows) r)
    rest-is = fault-at d rows i r at ∙ row-rest d (take i rows) r ns ks fs s new t h small e good ∙ ap (λ f. or_else f (behind_name d (take i rows) r)) (sym repeat-at)

    pub behind : (now : List Key) (f : CellFault) → take (i + 1) rows ≡ take i rows ++ r ∷ [] → now ≡ ks ++ record { tail = t; head = h; name = arc_name r } ∷ []
        → IsFaultOf (behind_name d (take i rows) r) f → IsStopped d rows i f now
    behind now f more is due = inr (record {
      keys = rw (more, is) (row-keys d (take i rows) r ns ks fs s new t h small e);
      rest = behind_name d (take i rows) r;
      due = due;
      fault = rest-is;
    })

    pub passed : behind_name d (take i rows) r ≡ None → arc_fault_at d rows i ≡ repeat_fault rows i
    passed none = rest-is ∙ rw none (sym (only (repeat_fault rows i)))
