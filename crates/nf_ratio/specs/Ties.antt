-- Lists of places that tie: of the candidates so far, the places of those whose ratio is the least.
-- The loops of the ratio test promise it.
use Rattle.std.specs.Prelude.{◌≡◌, ◌≢◌, ℕ, ◌+◌, ◌<◌, ◌≤◌, ◌⊎◌, List, set, slice_index_or, Option, Some, None}
use Rattle.std.specs.declared.cmp.Ordering.{Ordering}
use Rattle.std.specs.declared.cmp.Ordering.TheVariants.{Less}
use Rattle.nf_num.specs.Rational.{ℚ, ◌<ℚ◌}
use Rattle.nf_frac.specs.Compared.{IsOrder}
use Rattle.nf_ratio.specs.declared.tie.Found.{Found}

-- The place with an index in a list of places.
abbrev pub tie : List ℕ → ℕ → ℕ
tie ts k = slice_index_or ts k 0

-- Place i is one of the first n of a list.
abbrev pub IsAmong : List ℕ → ℕ → ℕ → Type 0
IsAmong ts n i = (k : ℕ) × (k < n) × (tie ts k ≡ i)

-- The first n places of a list rise.
abbrev pub AreInOrder : List ℕ → ℕ → Type 0
AreInOrder ts n = (k l : ℕ) → k < l → l < n → tie ts k < tie ts l

-- Of the first `count` places of a list, the first n are slots, which are below `rows`, and no other is.
pub record AreSlotsFirst (rows : ℕ) (ts : List ℕ) (count n : ℕ) : Type 0 where
  pub few : n ≤ count
  pub no_more : n ≤ rows
  pub slots : (k : ℕ) → k < n → tie ts k < rows
  pub every : (k : ℕ) → k < count → tie ts k < rows → k < n

-- Of n candidates, each with a place and some with a ratio, the list has the places of those whose ratio is the least,
-- in order.
pub record AreLeast (place : ℕ → ℕ) (ratio : ℕ → Option ℚ) (n : ℕ) (ts : List ℕ) (f : Found) : Type 0 where
  pub few : f.count ≤ n
  pub some : (v : ℚ) → f.least ≡ Some v → (j : ℕ) × (j < n) × (ratio j ≡ Some v)
  pub none : f.least ≡ None → (j : ℕ) → j < n → ratio j ≡ None
  pub least : (j : ℕ) (u v : ℚ) → j < n → ratio j ≡ Some u → f.least ≡ Some v → u <ℚ v → ⊥
  pub each : (k : ℕ) → k < f.count → (j : ℕ) × (j < n) × (tie ts k ≡ place j) × (ratio j ≢ None) × (ratio j ≡ f.least)
  pub every : (j : ℕ) → j < n → ratio j ≢ None → ratio j ≡ f.least → IsAmong ts f.count (place j)
  pub in_order : AreInOrder ts f.count

-- How a ratio compares with the least so far: the first one is less.
abbrev pub Compares : ℚ → Option ℚ → Ordering → Type 0
Compares r None o = o ≡ Less
Compares r (Some v) o = IsOrder o r v

-- A ratio is less than the least so far, or the first one.
abbrev pub IsBelow : ℚ → Option ℚ → Type 0
IsBelow r None = Unit {0}
IsBelow r (Some v) = r <ℚ v

-- A place is offered with its ratio: it begins the list anew, joins it, or is left out.
abbrev pub IsOffered : Found → List ℕ → ℕ → ℚ → Found → List ℕ → Type 0
IsOffered f ts place r g us =
    (IsBelow r f.least × (g ≡ record { count = 1; least = Some r }) × (us ≡ set ts 0 place))
    ⊎ ((f.least ≡ Some r) × (g ≡ record { count = f.count + 1; least = Some r }) × (us ≡ set ts f.count place))
    ⊎ ((v : ℚ) × (f.least ≡ Some v) × (v <ℚ r) × (g ≡ f) × (us ≡ ts))

-- It is offered if it has a ratio.
abbrev pub IsOfferedIf : Found → List ℕ → ℕ → Option ℚ → Found → List ℕ → Type 0
IsOfferedIf f ts place None g us = (g ≡ f) × (us ≡ ts)
IsOfferedIf f ts place (Some r) g us = IsOffered f ts place r g us
