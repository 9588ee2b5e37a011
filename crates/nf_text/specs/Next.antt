-- The piece at the front of a text by the class of its first byte. Private functions promise it; that it is the
-- piece that the definition of tokens names is proved.
use Rattle.std.specs.Prelude.{ℕ, Bool, ◌+◌, List, [], ◌∷◌, drop, Option, Some, None, Result, Ok, Err, ◌==◌, ◌&&◌, if◌then◌else◌, option_map}
use Rattle.std.specs.List.{prefix_len, list_any}
use Rattle.nf_text.specs.declared.bytes.Class.{Class}
use Rattle.nf_text.specs.declared.bytes.Class.TheVariants.{Space, Letter, Digit, Minus, Mark, Slash, EqualsSign, Semicolon as SemicolonSign, Other}
use Rattle.nf_text.specs.declared.token.TokenKind.{TokenKind}
use Rattle.nf_text.specs.declared.token.TokenKind.TheVariants.{Word, Number, Quoted, Equals, Semicolon}
use Rattle.nf_text.specs.declared.token.TextFault.{TextFault}
use Rattle.nf_text.specs.declared.token.TextFault.TheVariants.{BadByte, OpenComment, OpenQuote}
use Rattle.nf_text.specs.Bytes.{class_of, is_word_byte, is_number_byte, may_stand}

-- how many bytes there are up to and with the first `*/`
abbrev pub comment_len : List ℕ → Option ℕ
comment_len [] = None
comment_len (b ∷ []) = None
comment_len (b ∷ c ∷ bs) = if b == 42 && c == 47 then Some 2 else option_map (λ n. 1 + n) (comment_len (c ∷ bs))

-- the comment that begins here, by the bytes up to its end
abbrev pub close_comment : ℕ → Option ℕ → Result (Option TokenKind × ℕ) TextFault
close_comment at None = Err (OpenComment at)
close_comment at (Some n) = Ok (None, 2 + n)

-- the mark comes again
abbrev pub comes : ℕ → List ℕ → Bool
comes mark bs = list_any (λ b. b == mark) bs

-- behind n bytes that may stand in quotes: the mark, or a byte that may not stand there
abbrev pub ends_quote : ℕ → ℕ → ℕ → ℕ → List ℕ → Result (Option TokenKind × ℕ) TextFault
ends_quote at mark n c cs =
    if c == mark then Ok (Some Quoted, 2 + n)
    else (if comes mark cs then Err (BadByte (at + 1 + n)) else Err (OpenQuote at))

-- the quoted text that begins here, by what follows its n good bytes
abbrev pub close_quote : ℕ → ℕ → ℕ → List ℕ → Result (Option TokenKind × ℕ) TextFault
close_quote at mark n [] = Err (OpenQuote at)
close_quote at mark n (c ∷ cs) = ends_quote at mark n c cs

-- a number behind a `-`, by the class of its first byte
abbrev pub after_minus : Class → ℕ → List ℕ → Result (Option TokenKind × ℕ) TextFault
after_minus Digit at bs = Ok (Some Number, 2 + prefix_len is_number_byte bs)
after_minus _ at bs = Err (BadByte at)

-- the kind and length of the piece, or its fault, by the class of the first byte
abbrev pub next_by : Class → ℕ → ℕ → List ℕ → Result (Option TokenKind × ℕ) TextFault
next_by Space at b bs = Ok (None, 1)
next_by Letter at b bs = Ok (Some Word, 1 + prefix_len is_word_byte bs)
next_by Digit at b bs = Ok (Some Number, 1 + prefix_len is_number_byte bs)
next_by Mark at b bs = close_quote at b (prefix_len (may_stand b) bs) (drop (prefix_len (may_stand b) bs) bs)
next_by Minus at b [] = Err (BadByte at)
next_by Minus at b (c ∷ bs) = after_minus (class_of c) at bs
next_by Slash at b [] = Err (BadByte at)
next_by Slash at b (c ∷ bs) = if c == 42 then close_comment at (comment_len bs) else Err (BadByte at)
next_by EqualsSign at b bs = Ok (Some Equals, 1)
next_by SemicolonSign at b bs = Ok (Some Semicolon, 1)
next_by Other at b bs = Err (BadByte at)

-- a text that begins here with this byte
abbrev pub next : ℕ → ℕ → List ℕ → Result (Option TokenKind × ℕ) TextFault
next at b bs = next_by (class_of b) at b bs
