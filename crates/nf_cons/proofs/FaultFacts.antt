-- Facts on the first of some faults.
use Rattle.std.proofs.Common.{◌≡◌, ◌++◌, ◌⊎◌, ◌+◌, ◌<◌, ◌≤◌, ℕ, zero, suc, Bool, true, false, List, [], ◌∷◌, Option, Some, None, refl, sym, ap, inl, inr, arith}
use Rattle.std.proofs.lemmas.Bool.{cases_lt}
use Rattle.nf_roles.specs.First.{first_below, or_else}
use Rattle.nf_roles.specs.declared.fault.DataKind.{DataKind}
use Rattle.nf_roles.proofs.Lists.{found, none-more}
use Rattle.nf_cons.specs.declared.places.DataColumn.{DataColumn}
use Rattle.nf_cons.specs.declared.places.PlacedFault.{PlacedFault}
use Rattle.nf_cons.specs.declared.places.RowFault.{RowFault}
use Rattle.nf_cons.specs.Places.{IsFaultOf, IsRowFaultOf, fault_if, first_of, in_row}

pub or-assoc : {A : Type 0} (a b c : Option A) → or_else (or_else a b) c ≡ or_else a (or_else b c)
or-assoc None b c = refl
or-assoc (Some x) b c = refl

pub first-append : (xs ys : List (Option PlacedFault)) → first_of (xs ++ ys) ≡ or_else (first_of xs) (first_of ys)
first-append [] ys = refl
first-append (x ∷ xs) ys = rw (first-append xs ys) (sym (or-assoc x (first_of xs) (first_of ys)))

pub or-first : {A : Type 0} (a b : Option A) → or_else a b ≡ None → a ≡ None
or-first None b h = refl
or-first (Some x) b h = absurd (cc)

pub or-second : {A : Type 0} (a b : Option A) → or_else a b ≡ None → b ≡ None
or-second None b h = h
or-second (Some x) b h = absurd (cc)

pub both : {A : Type 0} (a b : Option A) → a ≡ None → b ≡ None → or_else a b ≡ None
both a b n m = rw n m

pub left : (a b : Option PlacedFault) (f : PlacedFault) → IsFaultOf a f → IsFaultOf (or_else a b) f
left a b f (inl m) = inl m
left a b f (inr e) = inr (rw e refl)

pub right : (a b : Option PlacedFault) (f : PlacedFault) → a ≡ None → IsFaultOf b f → IsFaultOf (or_else a b) f
right a b f n h = rw n h

pub left-row : (a b : Option RowFault) (f : RowFault) → IsRowFaultOf a f → IsRowFaultOf (or_else a b) f
left-row a b f (inl m) = inl m
left-row a b f (inr e) = inr (rw e refl)

pub right-row : (a b : Option RowFault) (f : RowFault) → a ≡ None → IsRowFaultOf b f → IsRowFaultOf (or_else a b) f
right-row a b f n h = rw n h

-- A check that finds nothing did not fail.
pub passed : (b : Bool) (p : DataColumn) (k : DataKind) → fault_if b p k ≡ None → b ≡ false
passed false p k h = refl
passed true p k h = absurd (cc)

-- ---- rows
-- One row more without a fault, and the fault of a row below rows without one.
pub rows-more : (i n : ℕ) (g : ℕ → ℕ) (f : ℕ → Option PlacedFault) → first_below i (λ k. in_row (g k) (f k)) ≡ None → f i ≡ None → first_below (i + 1) (λ k. in_row (g k) (f k)) ≡ None
rows-more i n g f none h = none-more i (λ k. in_row (g k) (f k)) none (ap (in_row (g i)) h)

pub row-found : (n i : ℕ) (g : ℕ → ℕ) (f : ℕ → Option PlacedFault) (e : PlacedFault) → first_below i (λ k. in_row (g k) (f k)) ≡ None → i < n → IsFaultOf (f i) e
    → IsRowFaultOf (first_below n (λ k. in_row (g k) (f k))) (record { row = g i; fault = e })
row-found n i g f e none below (inl m) = inl m
row-found n i g f e none below (inr q) = inr (found n i (λ k. in_row (g k) (f k)) (record { row = g i; fault = e }) none (ap (in_row (g i)) q) below)

-- The fault of a cell below cells without one.
pub cell-found : (n i : ℕ) (f : ℕ → Option PlacedFault) (e : PlacedFault) → first_below i f ≡ None → i < n → IsFaultOf (f i) e → IsFaultOf (first_below n f) e
cell-found n i f e none below (inl m) = inl m
cell-found n i f e none below (inr q) = inr (found n i f e none q below)

-- Where nothing is found below n, there is nothing at k; and a row without a fault has none.
pub none-at : {A : Type 0} (n k : ℕ) (f : ℕ → Option A) → first_below n f ≡ None → k < n → f k ≡ None
unfolding first_below
none-at zero k f h below = absurd (omega arith)
none-at (suc n) k f h below = by_cases (cases_lt k n) (none-at n k f)
  where
    by_cases : (k < n) ⊎ (n ≤ k) → (first_below n f ≡ None → k < n → f k ≡ None) → f k ≡ None
    by_cases (inl less) ih = ih (or-first (first_below n f) (f n) h) less
    by_cases (inr more) ih =
        let same : n ≡ k = omega arith in
        rw (← same) (or-second (first_below n f) (f n) h)

pub no-row : (n : ℕ) (f : Option PlacedFault) → in_row n f ≡ None → f ≡ None
no-row n None h = refl
no-row n (Some x) h = absurd (cc)
