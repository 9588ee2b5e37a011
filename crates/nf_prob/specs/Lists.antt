-- The lists by row while they are made.
use Rattle.std.specs.Prelude.{◌≡◌, ℕ, ◌<◌, List, [], ◌∷◌, map, slice_index_or, nat_eq, if◌then◌else◌}
use Rattle.std.specs.declared.alloc.Global.{Global}
use Rattle.std.specs.declared.vec.Vec.{Vec}
use Rattle.nf_num.specs.Rational.{ℚ}
use Rattle.nf_model.specs.Program.{Column}
use Rattle.nf_prob.specs.declared.stored.RowEntry.{RowEntry}
use Rattle.nf_prob.specs.Numbers.{gathered}

-- The list of row i.
abbrev pub list_at : List (Vec RowEntry Global) → ℕ → List RowEntry
list_at lists i = slice_index_or (map (λ v. v.items) lists) i []

-- An entry in column j, if it is at row i.
abbrev pub one_at : ℕ → ℕ → ℕ → ℚ → List RowEntry
one_at i r j value = if nat_eq r i then record { column = j; value = value } ∷ [] else []

-- The list of each of n rows has the entries of these columns at the row, by column number.
abbrev pub AreGathered : ℕ → List Column → List (Vec RowEntry Global) → Type 0
AreGathered n columns lists = (i : ℕ) → i < n → list_at lists i ≡ gathered 1 i columns
