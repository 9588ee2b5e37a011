-- How the reader takes a value from a token. Private functions promise it.
use Rattle.std.specs.Prelude.{ℕ, ◌+◌, ◌-◌, ◌*◌, ◌&&◌, List, [], ◌∷◌, length, Option, Some, None, option_map, nat_le, if◌then◌else◌, codes}
use Rattle.std.specs.Result.{result_ok}
use Rattle.std.specs.List.{list_all}
use Rattle.std.specs.Char.{is_ascii_digit}
use Rattle.std.specs.Str.{str_eq_ignore_ascii_case}
use Rattle.nf_text.specs.declared.token.TokenKind.{TokenKind}
use Rattle.nf_text.specs.declared.token.TokenKind.TheVariants.{Word, Number, Quoted}
use Rattle.nf_frac.specs.declared.amount.Amount.{Amount}
use Rattle.nf_frac.specs.Amounts.{amount_read}
use Rattle.nf_program.specs.declared.program.Bound.{Bound}
use Rattle.nf_program.specs.declared.program.Bound.TheVariants.{Finite, Infinite}
use Rattle.nf_program.specs.declared.program.ConType.{ConType}
use Rattle.nf_program.specs.declared.program.PriceType.{PriceType}
use Rattle.nf_program.specs.declared.words.CountOption.{CountOption}
use Rattle.nf_program.specs.declared.words.CountOption.TheVariants as count
use Rattle.nf_program.specs.Words.{con_type_of, price_type_of}
use Rattle.nf_program.specs.Values.{lowered, inside, is_name_byte}

-- the name of these bytes
abbrev pub name_of : List ℕ → Option (List ℕ)
name_of bs = if nat_le 1 (length bs) && nat_le (length bs) 32 then Some bs else None

-- The name of a data set that a token is.
unfoldable pub set_name_of : TokenKind → List ℕ → Option (List ℕ)
set_name_of Word bs = option_map lowered (name_of bs)
set_name_of _ bs = None

-- The name of a column that a token is.
unfoldable pub column_of : TokenKind → List ℕ → Option (List ℕ)
column_of Word bs = name_of bs
column_of Quoted bs = name_of (inside bs)
column_of _ bs = None

-- The name of a node that has these bytes.
abbrev pub node_name : List ℕ → Option (List ℕ)
node_name bs = if list_all is_name_byte bs then name_of bs else None

-- The name of a node that a token is.
unfoldable pub node_of : TokenKind → List ℕ → Option (List ℕ)
node_of Word bs = node_name bs
node_of Number bs = node_name bs
node_of Quoted bs = node_name (inside bs)
node_of _ bs = None

-- The amount that a token is.
unfoldable pub amount_of : TokenKind → List ℕ → Option Amount
amount_of Number bs = result_ok (amount_read bs)
amount_of _ bs = None

-- No bound, if the word is INF.
abbrev pub infinite : List ℕ → Option Bound
infinite bs = if str_eq_ignore_ascii_case (codes "INF") bs then Some Infinite else None

-- The bound that a token is.
unfoldable pub bound_of : TokenKind → List ℕ → Option Bound
bound_of Number bs = option_map Finite (result_ok (amount_read bs))
bound_of Word bs = infinite bs
bound_of _ bs = None

-- the number that n becomes as these digits are written after it
abbrev pub digits_from : ℕ → List ℕ → Option ℕ
digits_from n [] = Some n
digits_from n (b ∷ bs) = if is_ascii_digit b then digits_from (10 * n + (b - 48)) bs else None

-- The count that a token is.
unfoldable pub count_of : TokenKind → List ℕ → Option ℕ
count_of Number bs = if nat_le 1 (length bs) && nat_le (length bs) 9 then digits_from 0 bs else None
count_of _ bs = None

-- The least and the most count of an option.
abbrev pub least_of : CountOption → ℕ
least_of count.QueueSize1 = 1
least_of count.QueueSize2 = 1
least_of _ = 0

abbrev pub most_of : CountOption → ℕ
most_of count.QueueSize1 = 999
most_of count.QueueSize2 = 999
most_of _ = 999_999_999

-- A count that the option accepts.
abbrev pub count_within : ℕ → ℕ → Option ℕ → Option ℕ
count_within least most None = None
count_within least most (Some n) = if nat_le least n && nat_le n most then Some n else None

-- The count of an option that a token is.
unfoldable pub count_for : CountOption → TokenKind → List ℕ → Option ℕ
count_for o k bs = count_within (least_of o) (most_of o) (count_of k bs)

-- The type of a constraint that a token is.
unfoldable pub type_of : TokenKind → List ℕ → Option ConType
type_of Word bs = con_type_of bs
type_of _ bs = None

-- The rule that a token is.
unfoldable pub rule_of : TokenKind → List ℕ → Option PriceType
rule_of Word bs = price_type_of bs
rule_of _ bs = None
