-- What a program of a text can be written with: its names are words or fit in quotes, its numbers are in range.
use Rattle.std.proofs.Common.{◌≡◌, ℕ, suc, ◌-◌, ◌==◌, ◌⊎◌, inl, inr, Bool, true, false, not, ◌&&◌, ◌||◌, nat_le, List, [], ◌∷◌, ◌++◌, length, take, Some, refl, sym, ap, ◌∙◌, subst, arith, length-append, if◌then◌else◌}
use Rattle.std.specs.List.{list_all, list_any}
use Rattle.std.specs.Char.{to_ascii_lowercase, is_ascii_digit}
use Rattle.std.proofs.lemmas.Bool.Decides.{nat_tests}
use Rattle.std.proofs.lemmas.Bool.{eqb-true}
use Rattle.std.proofs.lemmas.List.{take_at}
use Rattle.std.proofs.lemmas.Str.Ascii.{lowercase-lowercase}
use Rattle.nf_text.specs.declared.bytes.Class.TheVariants.{Space, Letter, Digit, Mark, Minus, Slash, EqualsSign, Semicolon as SemicolonSign, Other}
use Rattle.nf_text.specs.declared.token.TokenKind.{TokenKind}
use Rattle.nf_text.specs.Bytes.{class_of, is_space, is_letter, is_mark, is_word_byte, may_stand, differs}
use Rattle.nf_text.specs.Tokens.{AllPass, IsWord, IsQuoted, IsPiece, Lexeme}
use Rattle.nf_program.specs.Values.{lowered, inside, is_name_byte, IsColumn}
use Rattle.nf_writer.specs.Canonical.{is_plain, mark_for}
use Rattle.nf_program.proofs.Things.{split_and, split_or, not_true}

-- ---- words

letter_class : (b : ℕ) → is_letter b ≡ true → class_of b ≡ Letter
letter_class b h =
    let no_space : is_space b ≡ false = grind (arith, nat_tests, h) in
    rw (no_space, h) refl

class_letter : (b : ℕ) → class_of b ≡ Letter → is_letter b ≡ true
class_letter b h = by (is_letter b) refl where
  by : (t : Bool) → is_letter b ≡ t → is_letter b ≡ true
  by true e = e
  by false e = absurd (other (is_space b) (is_ascii_digit b) (is_mark b) (b == 45) (b == 47) (b == 61) (b == 59) (ap (λ (t : Bool). if is_space b then Space else (if t then Letter else (if is_ascii_digit b then Digit else (if is_mark b then Mark else (if b == 45 then Minus else (if b == 47 then Slash else (if b == 61 then EqualsSign else (if b == 59 then SemicolonSign else Other)))))))) (sym e) ∙ h)) where
    other : (s d m x y z w : Bool) → (if s then Space else (if d then Digit else (if m then Mark else (if x then Minus else (if y then Slash else (if z then EqualsSign else (if w then SemicolonSign else Other))))))) ≡ Letter → ⊥
    other true d m x y z w e = cc
    other false true m x y z w e = cc
    other false false true x y z w e = cc
    other false false false true y z w e = cc
    other false false false false true z w e = cc
    other false false false false false true w e = cc
    other false false false false false false true e = cc
    other false false false false false false false e = cc

all_pass : (p : ℕ → Bool) (bs : List ℕ) → list_all p bs ≡ true → AllPass p bs
all_pass p [] e = tt
all_pass p (b ∷ bs) e = let h = split_and (p b) (list_all p bs) e in (h.0, all_pass p bs h.1)

pass_all : (p : ℕ → Bool) (bs : List ℕ) → AllPass p bs → list_all p bs ≡ true
pass_all p [] h = refl
pass_all p (b ∷ bs) h = ap (λ (t : Bool). t && list_all p bs) h.0 ∙ pass_all p bs h.1

-- a plain word is a word token, and the other way round
pub plain_word : (bs : List ℕ) → is_plain bs ≡ true → IsWord bs
plain_word [] e = absurd cc
plain_word (b ∷ bs) e = let h = split_and (is_letter b) (list_all is_word_byte bs) e in (b, bs, refl, letter_class b h.0, all_pass is_word_byte bs h.1)

pub word_plain : (bs : List ℕ) → IsWord bs → is_plain bs ≡ true
word_plain bs h = ap is_plain h.2 ∙ ap (λ (t : Bool). t && list_all is_word_byte h.1) (class_letter h.0 h.3) ∙ pass_all is_word_byte h.1 h.4

letter_lower : (b : ℕ) → is_letter b ≡ true → is_letter (to_ascii_lowercase b) ≡ true
letter_lower b h = grind (arith, nat_tests, h)

word_byte_lower : (b : ℕ) → is_word_byte b ≡ true → is_word_byte (to_ascii_lowercase b) ≡ true
word_byte_lower b h = grind (arith, nat_tests, h)

both : (a b : Bool) → a ≡ true → b ≡ true → (a && b) ≡ true
both a b e f = ap (λ (t : Bool). t && b) e ∙ f

word_bytes_lower : (bs : List ℕ) → list_all is_word_byte bs ≡ true → list_all is_word_byte (lowered bs) ≡ true
word_bytes_lower [] h = refl
word_bytes_lower (b ∷ bs) h =
    let two = split_and (is_word_byte b) (list_all is_word_byte bs) h in
    both (is_word_byte (to_ascii_lowercase b)) (list_all is_word_byte (lowered bs)) (word_byte_lower b two.0) (word_bytes_lower bs two.1)

pub plain_lower : (bs : List ℕ) → is_plain bs ≡ true → is_plain (lowered bs) ≡ true
plain_lower [] h = absurd cc
plain_lower (b ∷ bs) h =
    let two = split_and (is_letter b) (list_all is_word_byte bs) h in
    both (is_letter (to_ascii_lowercase b)) (list_all is_word_byte (lowered bs)) (letter_lower b two.0) (word_bytes_lower bs two.1)

pub lower_twice : (bs : List ℕ) → lowered (lowered bs) ≡ lowered bs
lower_twice [] = refl
lower_twice (b ∷ bs) = (λ i. lowercase-lowercase b i ∷ lower_twice bs i)

pub length_lower : (bs : List ℕ) → length (lowered bs) ≡ length bs
length_lower [] = refl
length_lower (b ∷ bs) = ap suc (length_lower bs)

-- ---- quotes

-- the name can stand in its quotes
unfoldable pub Quotable : List ℕ → Type 0
Quotable name = AllPass (may_stand (mark_for name)) name

-- the name can be written
unfoldable pub Writable : List ℕ → Type 0
Writable name = (is_plain name ≡ true) ⊎ Quotable name

mark_class : (name : List ℕ) → class_of (mark_for name) ≡ Mark
mark_class name = by (list_any (λ b. b == 34) name) where
  by : (t : Bool) → class_of (if t then 39 else 34) ≡ Mark
  by true = refl
  by false = refl

pub quoted_piece : (name : List ℕ) → Quotable name → IsQuoted (mark_for name ∷ (name ++ mark_for name ∷ []))
unfolding Quotable
quoted_piece name h = (mark_for name, name, refl, mark_class name, h)

pub inside_quotes : (m : ℕ) (name : List ℕ) → inside (m ∷ (name ++ m ∷ [])) ≡ name
inside_quotes m name =
    let n : length (m ∷ (name ++ m ∷ [])) - 2 ≡ length name = omega (arith, length-append name (m ∷ [])) in
    ap (λ (k : ℕ). take k (name ++ m ∷ [])) n ∙ take_at name (m ∷ []) (length name) refl

-- what stood in quotes can stand in its quotes
no_mark : (m : ℕ) (name : List ℕ) → AllPass (may_stand m) name → list_any (λ b. b == m) name ≡ false
no_mark m [] h = refl
no_mark m (b ∷ bs) h =
    let other : (b == m) ≡ false = not_true (b == m) (split_and (nat_le 32 b && nat_le b 126) (differs m b) h.0).1 in
    (λ i. other i || no_mark m bs h.1 i)

change_mark : (m k : ℕ) (name : List ℕ) → AllPass (may_stand m) name → list_any (λ b. b == k) name ≡ false → AllPass (may_stand k) name
change_mark m k [] h e = tt
change_mark m k (b ∷ bs) h e =
    let two = split_or (b == k) (list_any (λ c. c == k) bs) e in
    let printed = (split_and (nat_le 32 b && nat_le b 126) (differs m b) h.0).0 in
    (both (nat_le 32 b && nat_le b 126) (differs k b) printed (ap not two.0), change_mark m k bs h.1 two.1)

mark_is : (m : ℕ) → class_of m ≡ Mark → (m ≡ 34) ⊎ (m ≡ 39)
mark_is m h = by (is_mark m) refl where
  only : (s l d t x y z w : Bool) → (if s then Space else (if l then Letter else (if d then Digit else (if t then Mark else (if x then Minus else (if y then Slash else (if z then EqualsSign else (if w then SemicolonSign else Other)))))))) ≡ Mark → t ≡ true
  only s l d true x y z w e = refl
  only true l d false x y z w e = absurd cc
  only false true d false x y z w e = absurd cc
  only false false true false x y z w e = absurd cc
  only false false false false true y z w e = absurd cc
  only false false false false false true z w e = absurd cc
  only false false false false false false true w e = absurd cc
  only false false false false false false false true e = absurd cc
  only false false false false false false false false e = absurd cc

  either : (a b : Bool) → (m == 39) ≡ a → (m == 34) ≡ b → (a || b) ≡ true → (m ≡ 34) ⊎ (m ≡ 39)
  either true b e f g = inr (eqb-true m 39 e)
  either false true e f g = inl (eqb-true m 34 f)
  either false false e f g = absurd cc

  by : (t : Bool) → is_mark m ≡ t → (m ≡ 34) ⊎ (m ≡ 39)
  by t e = either (m == 39) (m == 34) refl refl (only (is_space m) (is_letter m) (is_ascii_digit m) (is_mark m) (m == 45) (m == 47) (m == 61) (m == 59) h)

quotable_by : (t : Bool) (m : ℕ) (name : List ℕ) → (m ≡ 34) ⊎ (m ≡ 39) → AllPass (may_stand m) name → list_any (λ b. b == 34) name ≡ t → AllPass (may_stand (if t then 39 else 34)) name
quotable_by true m name (inl e) h q = let none = no_mark 34 name (subst (λ (k : ℕ). AllPass (may_stand k) name) e h) in absurd cc
quotable_by true m name (inr e) h q = subst (λ (k : ℕ). AllPass (may_stand k) name) e h
quotable_by false m name w h q = change_mark m 34 name h q

pub was_quoted : (m : ℕ) (name : List ℕ) → class_of m ≡ Mark → AllPass (may_stand m) name → Quotable name
unfolding Quotable
was_quoted m name class h = quotable_by (list_any (λ b. b == 34) name) m name (mark_is m class) h refl

-- the bytes of a node's name can stand in quotes
node_stands : (b : ℕ) → is_name_byte b ≡ true → may_stand 34 b ≡ true
node_stands b h = grind (arith, nat_tests, h)

nodes_stand : (name : List ℕ) → list_all is_name_byte name ≡ true → AllPass (may_stand 34) name
nodes_stand [] h = tt
nodes_stand (b ∷ bs) h = let two = split_and (is_name_byte b) (list_all is_name_byte bs) h in (node_stands b two.0, nodes_stand bs two.1)

pub node_quotable : (name : List ℕ) → list_all is_name_byte name ≡ true → Quotable name
node_quotable name h = was_quoted 34 name refl (nodes_stand name h)

-- the column's name, from its token
pub column_writable : (name : List ℕ) (v : Lexeme) → IsColumn name v → IsPiece (Some v.kind) v.bytes → Writable name
unfolding Writable
column_writable name v h piece =
    elim h.0 [
      | inl w ↦ inl (ap is_plain w.1 ∙ word_plain v.bytes (subst (λ (k : TokenKind). IsPiece (Some k) v.bytes) w.0 piece))
      | inr q ↦ let p = subst (λ (k : TokenKind). IsPiece (Some k) v.bytes) q.0 piece in
          let same : name ≡ p.1 = q.1 ∙ ap inside p.2 ∙ inside_quotes p.0 p.1 in
          inr (subst Quotable (sym same) (was_quoted p.0 p.1 p.3 p.4))
    ]
