-- The first of some numbers or checks, and the numbers that pass a test.
-- The first fault of roles, of a row of data and of a data set are told by these words.
use Rattle.std.specs.Prelude.{◌≡◌, ◌⊎◌, ◌+◌, ◌++◌, ℕ, zero, suc, Bool, List, [], ◌∷◌, Option, Some, None, if◌then◌else◌}
use Rattle.nf_program.specs.declared.program.Role.{Role}
use Rattle.nf_roles.specs.declared.fault.CellFault.{CellFault}
use Rattle.nf_roles.specs.declared.fault.DataKind.{DataKind}
use Rattle.nf_roles.specs.declared.fault.DataKind.TheVariants as kind

-- The first where it is there, else the second.
abbrev pub or_else : {A : Type 0} → Option A → Option A → Option A
or_else None next = next
or_else (Some x) next = Some x

-- The first that is there of f 0, f 1 and so on, below n.
unfoldable pub first_below : {A : Type 0} → ℕ → (ℕ → Option A) → Option A
first_below zero f = None
first_below (suc n) f = or_else (first_below n f) (f n)

-- A number where it passes a test.
abbrev pub number_if : (ℕ → Bool) → ℕ → Option ℕ
number_if p k = if p k then Some k else None

-- The first number below n that passes a test.
abbrev pub first_with : ℕ → (ℕ → Bool) → Option ℕ
first_with n p = first_below n (number_if p)

-- All numbers below n that pass it, in their order.
unfoldable pub all_with : ℕ → (ℕ → Bool) → List ℕ
all_with zero p = []
all_with (suc n) p = all_with n p ++ (if p n then n ∷ [] else [])

-- A fault of a cell where a check fails.
abbrev pub fault_if : Bool → Role → DataKind → Option CellFault
fault_if fails r k = if fails then Some (record { role = r; kind = k }) else None

-- The first fault that is there.
abbrev pub first_of : List (Option CellFault) → Option CellFault
first_of [] = None
first_of (f ∷ fs) = or_else f (first_of fs)

-- A fault with the number of its row, from 1.
abbrev pub in_row : ℕ → Option CellFault → Option (ℕ × CellFault)
in_row n None = None
in_row n (Some f) = Some (n, f)

-- The first fault of n rows, where f k is that of the row k, counted from 0.
abbrev pub first_row_fault : ℕ → (ℕ → Option CellFault) → Option (ℕ × CellFault)
first_row_fault n f = first_below n (λ k. in_row (k + 1) (f k))

-- An answer is the fault that is due, or want of memory.
abbrev pub IsFaultOf : Option CellFault → CellFault → Type 0
IsFaultOf due f = (f.kind ≡ kind.NoMemory) ⊎ (due ≡ Some f)
