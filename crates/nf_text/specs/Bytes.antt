-- What the bytes of a text are: classes where a token begins, and what words, numbers and quoted texts hold.
use Rattle.std.specs.Prelude.{ℕ, Bool, ◌&&◌, ◌||◌, not, ◌==◌, nat_le, if◌then◌else◌}
use Rattle.std.specs.Char.{is_ascii_digit, is_ascii_alphabetic}
use Rattle.nf_text.specs.declared.bytes.Class.{Class}
use Rattle.nf_text.specs.declared.bytes.Class.TheVariants.{Space, Letter, Digit, Minus, Mark, Slash, EqualsSign, Semicolon, Other}

-- space, tab, carriage return, line feed
abbrev pub is_space : ℕ → Bool
is_space b = b == 32 || b == 9 || b == 13 || b == 10

-- a letter or `_`
abbrev pub is_letter : ℕ → Bool
is_letter b = is_ascii_alphabetic b || b == 95

-- `'` or `"`
abbrev pub is_mark : ℕ → Bool
is_mark b = b == 39 || b == 34

-- What a byte is, where a token begins: 45 is `-`, 47 is `/`, 61 is `=`, 59 is `;`.
abbrev pub class_of : ℕ → Class
class_of b =
    if is_space b then Space
    else (if is_letter b then Letter
    else (if is_ascii_digit b then Digit
    else (if is_mark b then Mark
    else (if b == 45 then Minus
    else (if b == 47 then Slash
    else (if b == 61 then EqualsSign
    else (if b == 59 then Semicolon
    else Other)))))))

-- what a word goes on with
abbrev pub is_word_byte : ℕ → Bool
is_word_byte b = is_letter b || is_ascii_digit b

-- what a number goes on with: a digit or a point
abbrev pub is_number_byte : ℕ → Bool
is_number_byte b = is_ascii_digit b || b == 46

-- the byte is another than the mark
abbrev pub differs : ℕ → ℕ → Bool
differs mark b = not (b == mark)

-- what may stand between two of these marks
abbrev pub may_stand : ℕ → ℕ → Bool
may_stand mark b = nat_le 32 b && nat_le b 126 && differs mark b
