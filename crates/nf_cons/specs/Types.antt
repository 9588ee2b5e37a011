-- The types of the rows of CONDATA: what a cell says of them, and which are rows of the problem.
-- The constraints of both forms of CONDATA, and the faults of their types, rest on these words.
use Rattle.std.specs.Prelude.{Bool, nat_eq, ℕ, List, [], ◌∷◌, Option, Some, None, slice_get}
use Rattle.std.specs.Option.{option_and_then, is_some}
use Rattle.nf_words.specs.Lists.{type_list}
use Rattle.nf_words.specs.Words.{find_word}
use Rattle.nf_cells.specs.Values.{cell_by}
use Rattle.nf_cells.specs.declared.values.Cell.{Cell}
use Rattle.nf_model.specs.declared.RowKind.{RowKind}
use Rattle.nf_model.specs.declared.RowKind.TheVariants as side
use Rattle.nf_program.specs.declared.program.ConType.{ConType}
use Rattle.nf_program.specs.declared.program.ConType.TheVariants as option
use Rattle.nf_cons.specs.declared.row_type.RowType.{RowType}
use Rattle.nf_cons.specs.declared.row_type.RowType.TheVariants.{Le, Ge, Eq, Cost, Lower, Upper}

-- The types, in the order of the kinds of their words.
abbrev pub row_types : List RowType
row_types = Le ∷ Ge ∷ Eq ∷ Cost ∷ Lower ∷ Upper ∷ []

-- The type that a word spells, without regard to case.
unfoldable pub type_of : List ℕ → Option RowType
type_of word = option_and_then (λ k. slice_get row_types k) (find_word type_list word)

-- The type in a cell.
abbrev pub type_in : List ℕ → Cell RowType
type_in = cell_by type_of

-- The type of a row that gives none: DEFCONTYPE, or LE.
abbrev pub default_type : Option ConType → RowType
default_type None = Le
default_type (Some option.Le) = Le
default_type (Some option.Ge) = Ge
default_type (Some option.Eq) = Eq

-- How a constraint stands to its right side. A row of data is no row of the problem.
abbrev pub side_kind : RowType → Option RowKind
side_kind Le = Some side.Le
side_kind Ge = Some side.Ge
side_kind Eq = Some side.Eq
side_kind Cost = None
side_kind Lower = None
side_kind Upper = None

-- A type is that of a constraint that is a row of the problem.
abbrev pub is_side : RowType → Bool
is_side t = is_some (side_kind t)

-- The number of a type.
abbrev pub type_number : RowType → ℕ
type_number Le = 0
type_number Ge = 1
type_number Eq = 2
type_number Cost = 3
type_number Lower = 4
type_number Upper = 5

-- Two types are the same, however they are spelled.
abbrev pub same_type : RowType → RowType → Bool
same_type t u = nat_eq (type_number t) (type_number u)
