-- The tokens of a text, and its first fault: a text is pieces, one after the other, up to its end or to where it is
-- stuck. What `tokens` promises rests on it.
use Rattle.std.specs.Prelude.{◌≡◌, ◌≢◌, ℕ, ◌+◌, Bool, true, false, ◌⊎◌, List, [], ◌∷◌, ◌++◌, length, take, drop, map, ◌-◌, ◌≤◌, Option, Some, None}
use Rattle.std.specs.List.{AllByRecursion}
use Rattle.nf_text.specs.declared.bytes.Class.TheVariants.{Space, Letter, Digit, Minus, Mark, Slash, Other}
use Rattle.nf_text.specs.declared.token.Token.{Token}
use Rattle.nf_text.specs.declared.token.TokenKind.{TokenKind}
use Rattle.nf_text.specs.declared.token.TokenKind.TheVariants.{Word, Number, Quoted, Equals, Semicolon}
use Rattle.nf_text.specs.declared.token.TextFault.{TextFault}
use Rattle.nf_text.specs.declared.token.TextFault.TheVariants.{BadByte, OpenComment, OpenQuote, NoMemory}
use Rattle.nf_text.specs.Bytes.{class_of, is_word_byte, is_number_byte, may_stand, differs}

-- Each of the bytes passes the test.
abbrev pub AllPass : (ℕ → Bool) → List ℕ → Type 0
AllPass p bs = AllByRecursion (λ b. p b ≡ true) bs

-- Nowhere in the bytes a `*` and a `/` stand side by side.
abbrev pub HasNoEnd : List ℕ → Type 0
HasNoEnd [] = Unit {0}
HasNoEnd (b ∷ []) = Unit {0}
HasNoEnd (b ∷ c ∷ bs) = ((b ≡ 42) × (c ≡ 47) → ⊥) × HasNoEnd (c ∷ bs)

-- a byte of white space
abbrev pub IsSpace : List ℕ → Type 0
IsSpace bs = (b : ℕ) × (bs ≡ b ∷ []) × (class_of b ≡ Space)

-- a comment: `/*` up to the next `*/`
abbrev pub IsComment : List ℕ → Type 0
IsComment bs = (inside : List ℕ) × (bs ≡ 47 ∷ 42 ∷ (inside ++ 42 ∷ 47 ∷ [])) × HasNoEnd (inside ++ 42 ∷ [])

-- a letter or `_`, and then letters, digits and `_`
abbrev pub IsWord : List ℕ → Type 0
IsWord bs = (b : ℕ) × (more : List ℕ) × (bs ≡ b ∷ more) × (class_of b ≡ Letter) × AllPass is_word_byte more

-- a digit, then digits and points, perhaps behind a `-`
abbrev pub IsNumber : List ℕ → Type 0
IsNumber bs = (b : ℕ) × (more : List ℕ) × ((bs ≡ b ∷ more) ⊎ (bs ≡ 45 ∷ b ∷ more)) × (class_of b ≡ Digit) × AllPass is_number_byte more

-- a mark, bytes 32 to 126 without it, and the mark again
abbrev pub IsQuoted : List ℕ → Type 0
IsQuoted bs = (mark : ℕ) × (inside : List ℕ) × (bs ≡ mark ∷ (inside ++ mark ∷ [])) × (class_of mark ≡ Mark) × AllPass (may_stand mark) inside

-- The bytes are a token of the kind; of no kind are white space and comments.
abbrev pub IsPiece : Option TokenKind → List ℕ → Type 0
IsPiece None bs = IsSpace bs ⊎ IsComment bs
IsPiece (Some Word) bs = IsWord bs
IsPiece (Some Number) bs = IsNumber bs
IsPiece (Some Quoted) bs = IsQuoted bs
IsPiece (Some Equals) bs = bs ≡ 61 ∷ []
IsPiece (Some Semicolon) bs = bs ≡ 59 ∷ []

-- A word and a number are as long as they can be: what follows them does not begin so.
abbrev pub Stops : (ℕ → Bool) → List ℕ → Type 0
Stops p [] = Unit {0}
Stops p (b ∷ bs) = p b ≡ false

-- What follows a piece of the kind lets it end there.
abbrev pub Ends : Option TokenKind → List ℕ → Type 0
Ends (Some Word) after = Stops is_word_byte after
Ends (Some Number) after = Stops is_number_byte after
Ends kind after = Unit {0}

-- A piece of the kind and of this many bytes stands at the front of the text.
abbrev pub Taken : List ℕ → Option TokenKind → ℕ → Type 0
Taken text k n = (piece : List ℕ) × (after : List ℕ) × (text ≡ piece ++ after) × (length piece ≡ n) × IsPiece k piece × Ends k after

-- a piece of a text: its bytes, and its kind where it is a token
pub record Piece : Type 0 where
  pub kind : Option TokenKind
  pub bytes : List ℕ

-- The text is these pieces one after the other, and then the rest.
abbrev pub IsCut : List Piece → List ℕ → List ℕ → Type 0
IsCut [] text rest = text ≡ rest
IsCut (p ∷ ps) text rest = (after : List ℕ) × (text ≡ p.bytes ++ after) × IsPiece p.kind p.bytes × Ends p.kind after × IsCut ps after rest

-- where the pieces end that begin here
abbrev pub end_of : ℕ → List Piece → ℕ
end_of at [] = at
end_of at (p ∷ ps) = end_of (at + length p.bytes) ps

-- a piece as a token, where it is one
abbrev pub token_at : Option TokenKind → ℕ → ℕ → List Token
token_at None start end = []
token_at (Some k) start end = record { kind = k; start = start; end = end } ∷ []

-- the tokens among the pieces that begin here
abbrev pub tokens_of : ℕ → List Piece → List Token
tokens_of at [] = []
tokens_of at (p ∷ ps) = token_at p.kind at (at + length p.bytes) ++ tokens_of (at + length p.bytes) ps

-- The byte comes among the bytes.
abbrev pub ComesIn : ℕ → List ℕ → Type 0
ComesIn b bs = (before : List ℕ) × (after : List ℕ) × (bs ≡ before ++ b ∷ after)

-- The byte begins no piece, with what follows it: no number behind a `-`, no comment behind a `/`.
abbrev pub BeginsNothing : ℕ → List ℕ → Type 0
BeginsNothing b bs =
    (class_of b ≡ Other)
    ⊎ ((class_of b ≡ Minus) × ((c : ℕ) (more : List ℕ) → bs ≡ c ∷ more → class_of c ≢ Digit))
    ⊎ ((class_of b ≡ Slash) × ((more : List ℕ) → bs ≢ 42 ∷ more))

-- The rest of the text, which begins here, has this fault at its front.
abbrev pub IsStuck : ℕ → List ℕ → TextFault → Type 0
IsStuck at rest (BadByte n) =
    ((b : ℕ) × (bs : List ℕ) × (rest ≡ b ∷ bs) × BeginsNothing b bs × (n ≡ at))
    ⊎ ((mark : ℕ) × (inside : List ℕ) × (b : ℕ) × (more : List ℕ) × (rest ≡ mark ∷ (inside ++ b ∷ more)) × (class_of mark ≡ Mark) × AllPass (may_stand mark) inside × (may_stand mark b ≡ false) × (b ≢ mark) × ComesIn mark more × (n ≡ at + 1 + length inside))
IsStuck at rest (OpenComment n) = (inside : List ℕ) × (rest ≡ 47 ∷ 42 ∷ inside) × HasNoEnd inside × (n ≡ at)
IsStuck at rest (OpenQuote n) = (mark : ℕ) × (inside : List ℕ) × (rest ≡ mark ∷ inside) × (class_of mark ≡ Mark) × AllPass (differs mark) inside × (n ≡ at)
IsStuck at rest NoMemory = ⊥

-- Where the pieces stop: at the end of the text, or at a fault.
abbrev pub IsEnd : ℕ → List ℕ → Option TextFault → Type 0
IsEnd at rest None = rest ≡ []
IsEnd at rest (Some f) = IsStuck at rest f

-- The text, which begins here, is pieces with these tokens up to its end or its first fault.
abbrev pub Reads : ℕ → List ℕ → List Token → Option TextFault → Type 0
Reads at text ts fault = (ps : List Piece) × (rest : List ℕ) × IsCut ps text rest × IsEnd (end_of at ps) rest fault × (ts ≡ tokens_of at ps)

-- These are the tokens of the text.
abbrev pub AreTokens : List ℕ → List Token → Type 0
AreTokens text ts = Reads 0 text ts None

-- This is the first fault of the text.
abbrev pub HasFault : List ℕ → TextFault → Type 0
HasFault text f = (ts : List Token) × Reads 0 text ts (Some f)

-- a token with its bytes, and where it begins
pub record Lexeme : Type 0 where
  pub kind : TokenKind
  pub bytes : List ℕ
  pub at : ℕ

abbrev pub lexeme : List ℕ → Token → Lexeme
lexeme text t = record { kind = t.kind; bytes = take (t.end - t.start) (drop t.start text); at = t.start }

-- the tokens as they stand in the text
abbrev pub lexemes : List ℕ → List Token → List Lexeme
lexemes text ts = map (lexeme text) ts

-- the token lies in the text
abbrev pub IsWithin : List ℕ → Token → Type 0
IsWithin text t = (t.start ≤ t.end) × (t.end ≤ length text)
