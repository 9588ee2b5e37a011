-- The values of options: which token is which name, node, amount, bound, count, type or rule. The grammar's options
-- rest on it.
use Rattle.std.specs.Prelude.{◌≡◌, ℕ, ◌-◌, ◌≤◌, ◌||◌, ◌==◌, Bool, true, ◌⊎◌, List, length, map, take, drop, Some, Ok, codes}
use Rattle.std.specs.List.{list_all}
use Rattle.std.specs.Char.{to_ascii_lowercase, is_ascii_digit, is_ascii_alphabetic}
use Rattle.nf_words.specs.Words.{Agree}
use Rattle.nf_text.specs.declared.token.TokenKind.TheVariants.{Word, Number, Quoted}
use Rattle.nf_text.specs.Tokens.{Lexeme}
use Rattle.nf_frac.specs.declared.amount.Amount.{Amount}
use Rattle.nf_frac.specs.Amounts.{amount_read}
use Rattle.nf_frac.specs.Digits.{are_digits, decimal_value}
use Rattle.nf_program.specs.declared.program.Bound.{Bound}
use Rattle.nf_program.specs.declared.program.Bound.TheVariants.{Finite, Infinite}
use Rattle.nf_program.specs.declared.program.ConType.{ConType}
use Rattle.nf_program.specs.declared.program.PriceType.{PriceType}
use Rattle.nf_program.specs.Words.{con_type_of, price_type_of}

-- in lower case
abbrev pub lowered : List ℕ → List ℕ
lowered bs = map to_ascii_lowercase bs

-- what stands between the quotes of a quoted text
abbrev pub inside : List ℕ → List ℕ
inside bs = take (length bs - 2) (drop 1 bs)

-- A name has 1 to 32 bytes.
abbrev pub Fits : List ℕ → Type 0
Fits name = (1 ≤ length name) × (length name ≤ 32)

-- the name of a data set: a word, in lower case
abbrev pub IsSetName : List ℕ → Lexeme → Type 0
IsSetName name v = (v.kind ≡ Word) × (name ≡ lowered v.bytes) × Fits v.bytes

-- the name of a column: a word, or a quoted text
abbrev pub IsColumn : List ℕ → Lexeme → Type 0
IsColumn name v = (((v.kind ≡ Word) × (name ≡ v.bytes)) ⊎ ((v.kind ≡ Quoted) × (name ≡ inside v.bytes))) × Fits name

-- what the names of nodes are made of: letters, digits, and `_` (95), space, `.` (46), `-` (45)
abbrev pub is_name_byte : ℕ → Bool
is_name_byte b = is_ascii_alphabetic b || is_ascii_digit b || b == 95 || b == 32 || b == 46 || b == 45

-- the name of a node: a word, a number, or a quoted text, of such bytes
abbrev pub IsNode : List ℕ → Lexeme → Type 0
IsNode name v =
    (((v.kind ≡ Word) × (name ≡ v.bytes)) ⊎ ((v.kind ≡ Number) × (name ≡ v.bytes)) ⊎ ((v.kind ≡ Quoted) × (name ≡ inside v.bytes)))
    × (list_all is_name_byte name ≡ true) × Fits name

-- The token is this amount.
abbrev pub IsAmount : Amount → Lexeme → Type 0
IsAmount a v = (v.kind ≡ Number) × (amount_read v.bytes ≡ Ok a)

-- an amount, or the word INF
abbrev pub IsBound : Bound → Lexeme → Type 0
IsBound (Finite a) v = IsAmount a v
IsBound Infinite v = (v.kind ≡ Word) × Agree (codes "INF") v.bytes

-- one to nine digits
abbrev pub IsCount : ℕ → Lexeme → Type 0
IsCount n v = (v.kind ≡ Number) × (are_digits v.bytes ≡ true) × (length v.bytes ≤ 9) × (n ≡ decimal_value v.bytes)

-- The token is a word of this type.
abbrev pub IsType : ConType → Lexeme → Type 0
IsType t v = (v.kind ≡ Word) × (con_type_of v.bytes ≡ Some t)

-- The token is the word of this rule.
abbrev pub IsRule : PriceType → Lexeme → Type 0
IsRule r v = (v.kind ≡ Word) × (price_type_of v.bytes ≡ Some r)
