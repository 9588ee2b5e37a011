-- The reader takes the values that the grammar names.
use Rattle.std.proofs.Common.{◌≡◌, ℕ, ◌+◌, ◌*◌, ◌-◌, ◌≤◌, inl, inr, Bool, true, false, cond, ◌&&◌, List, [], ◌∷◌, length, map, Option, Some, None, Result, Ok, Err, refl, sym, ap, ◌∙◌, subst, arith, le-leb}
use Rattle.std.specs.Prelude.{option_map, nat_le, codes}
use Rattle.std.specs.Result.{result_ok}
use Rattle.std.specs.List.{list_all}
use Rattle.std.specs.Char.{is_ascii_digit, digit_value, to_ascii_lowercase}
use Rattle.std.specs.Str.{str_eq_ignore_ascii_case}
use Rattle.std.specs.Str.Parse.{digits_value_after}
use Rattle.std.proofs.lemmas.Bool.{leb-true}
use Rattle.std.proofs.lemmas.Str.{digit_value_digit}
use Rattle.std.proofs.lemmas.Slice.Eq.{bytes_eq-Decides}
use Rattle.nf_words.specs.Words.{Agree}
use Rattle.nf_text.specs.declared.token.TokenKind.{TokenKind}
use Rattle.nf_text.specs.declared.token.TokenKind.TheVariants.{Word, Number, Quoted, Equals, Semicolon}
use Rattle.nf_text.specs.Tokens.{Lexeme}
use Rattle.nf_frac.specs.declared.amount.Amount.{Amount}
use Rattle.nf_frac.specs.declared.amount.AmountFault.{AmountFault}
use Rattle.nf_frac.specs.Amounts.{amount_read}
use Rattle.nf_program.specs.declared.program.Bound.{Bound}
use Rattle.nf_program.specs.declared.program.Bound.TheVariants.{Finite, Infinite}
use Rattle.nf_program.specs.declared.program.ConType.{ConType}
use Rattle.nf_program.specs.declared.program.PriceType.{PriceType}
use Rattle.nf_program.specs.Values.{lowered, inside, is_name_byte, Fits, IsSetName, IsColumn, IsNode, IsAmount, IsBound, IsCount, IsType, IsRule}
use Rattle.nf_program.specs.ReadValues.{name_of, set_name_of, column_of, node_name, node_of, amount_of, bound_of, digits_from, count_of, least_of, most_of, count_within, count_for, type_of, rule_of}
use Rattle.nf_program.specs.declared.words.CountOption.{CountOption}
use Rattle.nf_program.proofs.Things.{split_and}

-- ---- optional values

pub mapped : {A B : Type 0} (f : A → B) (m : Option A) (y : B) → option_map f m ≡ Some y → (x : A) × (m ≡ Some x) × (f x ≡ y)
mapped f None y e = absurd cc
mapped f (Some x) y e = (x, refl, cc)

passed : {A : Type 0} (b : Bool) (m : Option A) (y : A) → cond b m None ≡ Some y → (b ≡ true) × (m ≡ Some y)
passed true m y e = (refl, e)
passed false m y e = absurd cc

some_same : {A : Type 0} (x y : A) → Some x ≡ Some y → x ≡ y
some_same x y e = cc

read_ok : (r : Result Amount AmountFault) (a : Amount) → result_ok r ≡ Some a → r ≡ Ok a
read_ok (Ok b) a e = let same : b ≡ a = cc in ap (λ (x : Amount). Ok x) same
read_ok (Err f) a e = absurd cc

-- ---- names

fits_by : (bs : List ℕ) → (nat_le 1 (length bs) && nat_le (length bs) 32) ≡ true → Fits bs
fits_by bs h = let two = split_and (nat_le 1 (length bs)) (nat_le (length bs) 32) h in (leb-true 1 (length bs) two.0, leb-true (length bs) 32 two.1)

both : (a b : Bool) → a ≡ true → b ≡ true → (a && b) ≡ true
both a b e f = ap (λ (t : Bool). t && b) e ∙ f

name_sound : (bs name : List ℕ) → name_of bs ≡ Some name → (name ≡ bs) × Fits bs
name_sound bs name e =
    let h = passed (nat_le 1 (length bs) && nat_le (length bs) 32) (Some bs) name e in
    (sym (some_same bs name h.1), fits_by bs h.0)

name_complete : (bs : List ℕ) → Fits bs → name_of bs ≡ Some bs
name_complete bs h = ap (λ (t : Bool). cond t (Some bs) None) (both (nat_le 1 (length bs)) (nat_le (length bs) 32) (le-leb 1 (length bs) h.0) (le-leb (length bs) 32 h.1))

set_name_by : (k : TokenKind) (n : List ℕ) (t : Lexeme) → t.kind ≡ k → set_name_of k t.bytes ≡ Some n → IsSetName n t
unfolding set_name_of
set_name_by Word n t k e = let m = mapped lowered (name_of t.bytes) n e in let h = name_sound t.bytes m.0 m.1 in (k, sym m.2 ∙ ap lowered h.0, h.1)
set_name_by Number n t k e = absurd cc
set_name_by Quoted n t k e = absurd cc
set_name_by Equals n t k e = absurd cc
set_name_by Semicolon n t k e = absurd cc

pub set_name_sound : (n : List ℕ) (t : Lexeme) → set_name_of t.kind t.bytes ≡ Some n → IsSetName n t
set_name_sound n t e = set_name_by t.kind n t refl e

pub set_name_complete : (n : List ℕ) (t : Lexeme) → IsSetName n t → set_name_of t.kind t.bytes ≡ Some n
unfolding set_name_of
set_name_complete n t h =
    ap (λ (k : TokenKind). set_name_of k t.bytes) h.0 ∙ ap (option_map lowered) (name_complete t.bytes h.2) ∙ ap (λ (x : List ℕ). Some x) (sym h.1)

column_by : (k : TokenKind) (n : List ℕ) (t : Lexeme) → t.kind ≡ k → column_of k t.bytes ≡ Some n → IsColumn n t
unfolding column_of
column_by Word n t k e = let h = name_sound t.bytes n e in (inl (k, h.0), subst Fits (sym h.0) h.1)
column_by Quoted n t k e = let h = name_sound (inside t.bytes) n e in (inr (k, h.0), subst Fits (sym h.0) h.1)
column_by Number n t k e = absurd cc
column_by Equals n t k e = absurd cc
column_by Semicolon n t k e = absurd cc

pub column_sound : (n : List ℕ) (t : Lexeme) → column_of t.kind t.bytes ≡ Some n → IsColumn n t
column_sound n t e = column_by t.kind n t refl e

pub column_complete : (n : List ℕ) (t : Lexeme) → IsColumn n t → column_of t.kind t.bytes ≡ Some n
unfolding column_of
column_complete n t h =
    elim h.0 [
      | inl w ↦ ap (λ (k : TokenKind). column_of k t.bytes) w.0 ∙ ap name_of (sym w.1) ∙ name_complete n h.1
      | inr q ↦ ap (λ (k : TokenKind). column_of k t.bytes) q.0 ∙ ap name_of (sym q.1) ∙ name_complete n h.1
    ]

node_name_sound : (bs name : List ℕ) → node_name bs ≡ Some name → (name ≡ bs) × (list_all is_name_byte bs ≡ true) × Fits bs
node_name_sound bs name e =
    let h = passed (list_all is_name_byte bs) (name_of bs) name e in
    let n = name_sound bs name h.1 in
    (n.0, h.0, n.1)

node_name_complete : (bs : List ℕ) → list_all is_name_byte bs ≡ true → Fits bs → node_name bs ≡ Some bs
node_name_complete bs e h = ap (λ (t : Bool). cond t (name_of bs) None) e ∙ name_complete bs h

good_node : (bs name : List ℕ) → name ≡ bs → list_all is_name_byte bs ≡ true → Fits bs → (list_all is_name_byte name ≡ true) × Fits name
good_node bs name e a h = (ap (list_all is_name_byte) e ∙ a, subst Fits (sym e) h)

node_by : (k : TokenKind) (n : List ℕ) (t : Lexeme) → t.kind ≡ k → node_of k t.bytes ≡ Some n → IsNode n t
unfolding node_of
node_by Word n t k e = let h = node_name_sound t.bytes n e in (inl (k, h.0), (good_node t.bytes n h.0 h.1 h.2).0, (good_node t.bytes n h.0 h.1 h.2).1)
node_by Number n t k e = let h = node_name_sound t.bytes n e in (inr (inl (k, h.0)), (good_node t.bytes n h.0 h.1 h.2).0, (good_node t.bytes n h.0 h.1 h.2).1)
node_by Quoted n t k e = let h = node_name_sound (inside t.bytes) n e in (inr (inr (k, h.0)), (good_node (inside t.bytes) n h.0 h.1 h.2).0, (good_node (inside t.bytes) n h.0 h.1 h.2).1)
node_by Equals n t k e = absurd cc
node_by Semicolon n t k e = absurd cc

pub node_sound : (n : List ℕ) (t : Lexeme) → node_of t.kind t.bytes ≡ Some n → IsNode n t
node_sound n t e = node_by t.kind n t refl e

pub node_complete : (n : List ℕ) (t : Lexeme) → IsNode n t → node_of t.kind t.bytes ≡ Some n
unfolding node_of
node_complete n t h =
    elim h.0 [
      | inl w ↦ ap (λ (k : TokenKind). node_of k t.bytes) w.0 ∙ ap node_name (sym w.1) ∙ node_name_complete n h.1 h.2
      | inr (inl d) ↦ ap (λ (k : TokenKind). node_of k t.bytes) d.0 ∙ ap node_name (sym d.1) ∙ node_name_complete n h.1 h.2
      | inr (inr q) ↦ ap (λ (k : TokenKind). node_of k t.bytes) q.0 ∙ ap node_name (sym q.1) ∙ node_name_complete n h.1 h.2
    ]

-- ---- amounts and bounds

amount_by : (k : TokenKind) (a : Amount) (t : Lexeme) → t.kind ≡ k → amount_of k t.bytes ≡ Some a → IsAmount a t
unfolding amount_of
amount_by Number a t k e = (k, read_ok (amount_read t.bytes) a e)
amount_by Word a t k e = absurd cc
amount_by Quoted a t k e = absurd cc
amount_by Equals a t k e = absurd cc
amount_by Semicolon a t k e = absurd cc

pub amount_sound : (a : Amount) (t : Lexeme) → amount_of t.kind t.bytes ≡ Some a → IsAmount a t
amount_sound a t e = amount_by t.kind a t refl e

pub amount_complete : (a : Amount) (t : Lexeme) → IsAmount a t → amount_of t.kind t.bytes ≡ Some a
unfolding amount_of
amount_complete a t h = ap (λ (k : TokenKind). amount_of k t.bytes) h.0 ∙ ap (λ (r : Result Amount AmountFault). result_ok r) h.1

inf : List ℕ
inf = codes "INF"

same_word : (w v : List ℕ) → str_eq_ignore_ascii_case w v ≡ true → Agree w v
same_word w v h = (bytes_eq-Decides (map to_ascii_lowercase w) (map to_ascii_lowercase v)).0 h

word_same : (w v : List ℕ) → Agree w v → str_eq_ignore_ascii_case w v ≡ true
word_same w v h = (bytes_eq-Decides (map to_ascii_lowercase w) (map to_ascii_lowercase v)).1 h

bound_by : (k : TokenKind) (b : Bound) (t : Lexeme) → t.kind ≡ k → bound_of k t.bytes ≡ Some b → IsBound b t
unfolding bound_of
bound_by Number b t k e =
    let m = mapped Finite (result_ok (amount_read t.bytes)) b e in
    subst (λ (x : Bound). IsBound x t) m.2 (k, read_ok (amount_read t.bytes) m.0 m.1)
bound_by Word b t k e =
    let h = passed (str_eq_ignore_ascii_case (codes "INF") t.bytes) (Some Infinite) b e in
    subst (λ (x : Bound). IsBound x t) (some_same Infinite b h.1) (k, same_word (codes "INF") t.bytes h.0)
bound_by Quoted b t k e = absurd cc
bound_by Equals b t k e = absurd cc
bound_by Semicolon b t k e = absurd cc

pub bound_sound : (b : Bound) (t : Lexeme) → bound_of t.kind t.bytes ≡ Some b → IsBound b t
bound_sound b t e = bound_by t.kind b t refl e

pub bound_complete : (b : Bound) (t : Lexeme) → IsBound b t → bound_of t.kind t.bytes ≡ Some b
unfolding bound_of
bound_complete (Finite a) t h = ap (λ (k : TokenKind). bound_of k t.bytes) h.0 ∙ ap (λ (r : Result Amount AmountFault). option_map Finite (result_ok r)) h.1
bound_complete Infinite t h = ap (λ (k : TokenKind). bound_of k t.bytes) h.0 ∙ ap (λ (b : Bool). cond b (Some Infinite) None) (word_same (codes "INF") t.bytes h.1)

-- ---- counts

digit_is : (b : ℕ) → is_ascii_digit b ≡ true → digit_value b ≡ b - 48
digit_is b h =
    let two = split_and (nat_le 48 b) (nat_le b 57) h in
    let v = digit_value_digit b (leb-true 48 b two.0, leb-true b 57 two.1) in
    omega (arith, v)

all_by : (bs : List ℕ) (n m : ℕ) → digits_from n bs ≡ Some m → (list_all is_ascii_digit bs ≡ true) × (digits_value_after 10 n bs ≡ m)
all_by [] n m e = (refl, cc)
all_by (b ∷ bs) n m e =
    let h = passed (is_ascii_digit b) (digits_from (10 * n + (b - 48)) bs) m e in
    let k = all_by bs (10 * n + (b - 48)) m h.1 in
    let value : n * 10 + digit_value b ≡ 10 * n + (b - 48) = let d = digit_is b h.0 in omega (arith, d) in
    (both (is_ascii_digit b) (list_all is_ascii_digit bs) h.0 k.0, ap (λ (x : ℕ). digits_value_after 10 x bs) value ∙ k.1)

digits_by : (bs : List ℕ) (n : ℕ) → list_all is_ascii_digit bs ≡ true → digits_from n bs ≡ Some (digits_value_after 10 n bs)
digits_by [] n h = refl
digits_by (b ∷ bs) n h =
    let two = split_and (is_ascii_digit b) (list_all is_ascii_digit bs) h in
    let value : 10 * n + (b - 48) ≡ n * 10 + digit_value b = let d = digit_is b two.0 in omega (arith, d) in
    ap (λ (t : Bool). cond t (digits_from (10 * n + (b - 48)) bs) None) two.0 ∙ ap (λ (x : ℕ). digits_from x bs) value ∙ digits_by bs (n * 10 + digit_value b) two.1

count_by : (k : TokenKind) (n : ℕ) (t : Lexeme) → t.kind ≡ k → count_of k t.bytes ≡ Some n → IsCount n t
unfolding count_of
count_by Number n t k e =
    let h = passed (nat_le 1 (length t.bytes) && nat_le (length t.bytes) 9) (digits_from 0 t.bytes) n e in
    let two = split_and (nat_le 1 (length t.bytes)) (nat_le (length t.bytes) 9) h.0 in
    let d = all_by t.bytes 0 n h.1 in
    (k, both (nat_le 1 (length t.bytes)) (list_all is_ascii_digit t.bytes) two.0 d.0, leb-true (length t.bytes) 9 two.1, sym d.1)
count_by Word n t k e = absurd cc
count_by Quoted n t k e = absurd cc
count_by Equals n t k e = absurd cc
count_by Semicolon n t k e = absurd cc

pub count_sound : (n : ℕ) (t : Lexeme) → count_of t.kind t.bytes ≡ Some n → IsCount n t
count_sound n t e = count_by t.kind n t refl e

pub count_complete : (n : ℕ) (t : Lexeme) → IsCount n t → count_of t.kind t.bytes ≡ Some n
unfolding count_of
count_complete n t h =
    let two = split_and (nat_le 1 (length t.bytes)) (list_all is_ascii_digit t.bytes) h.1 in
    ap (λ (k : TokenKind). count_of k t.bytes) h.0
    ∙ ap (λ (b : Bool). cond b (digits_from 0 t.bytes) None) (both (nat_le 1 (length t.bytes)) (nat_le (length t.bytes) 9) two.0 (le-leb (length t.bytes) 9 h.2))
    ∙ digits_by t.bytes 0 two.1 ∙ ap (λ (x : ℕ). Some x) (sym h.3)

-- a count of an option
within_by : (least most : ℕ) (m : Option ℕ) (n : ℕ) → count_within least most m ≡ Some n → (m ≡ Some n) × (least ≤ n) × (n ≤ most)
within_by least most None n e = absurd cc
within_by least most (Some k) n e =
    let h = passed (nat_le least k && nat_le k most) (Some k) n e in
    let two = split_and (nat_le least k) (nat_le k most) h.0 in
    let same = some_same k n h.1 in
    (h.1, subst (λ (x : ℕ). least ≤ x) same (leb-true least k two.0), subst (λ (x : ℕ). x ≤ most) same (leb-true k most two.1))

pub count_for_sound : (o : CountOption) (n : ℕ) (t : Lexeme) → count_for o t.kind t.bytes ≡ Some n → IsCount n t × (least_of o ≤ n) × (n ≤ most_of o)
unfolding count_for
count_for_sound o n t e = let h = within_by (least_of o) (most_of o) (count_of t.kind t.bytes) n e in (count_sound n t h.0, h.1, h.2)

pub count_for_complete : (o : CountOption) (n : ℕ) (t : Lexeme) → IsCount n t × (least_of o ≤ n) × (n ≤ most_of o) → count_for o t.kind t.bytes ≡ Some n
unfolding count_for
count_for_complete o n t h =
    ap (count_within (least_of o) (most_of o)) (count_complete n t h.0)
    ∙ ap (λ (b : Bool). cond b (Some n) None) (both (nat_le (least_of o) n) (nat_le n (most_of o)) (le-leb (least_of o) n h.1) (le-leb n (most_of o) h.2))

-- ---- types and rules

type_by : (k : TokenKind) (c : ConType) (t : Lexeme) → t.kind ≡ k → type_of k t.bytes ≡ Some c → IsType c t
unfolding type_of
type_by Word c t k e = (k, e)
type_by Number c t k e = absurd cc
type_by Quoted c t k e = absurd cc
type_by Equals c t k e = absurd cc
type_by Semicolon c t k e = absurd cc

pub type_sound : (c : ConType) (t : Lexeme) → type_of t.kind t.bytes ≡ Some c → IsType c t
type_sound c t e = type_by t.kind c t refl e

pub type_complete : (c : ConType) (t : Lexeme) → IsType c t → type_of t.kind t.bytes ≡ Some c
unfolding type_of
type_complete c t h = ap (λ (k : TokenKind). type_of k t.bytes) h.0 ∙ h.1

rule_by : (k : TokenKind) (r : PriceType) (t : Lexeme) → t.kind ≡ k → rule_of k t.bytes ≡ Some r → IsRule r t
unfolding rule_of
rule_by Word r t k e = (k, e)
rule_by Number r t k e = absurd cc
rule_by Quoted r t k e = absurd cc
rule_by Equals r t k e = absurd cc
rule_by Semicolon r t k e = absurd cc

pub rule_sound : (r : PriceType) (t : Lexeme) → rule_of t.kind t.bytes ≡ Some r → IsRule r t
rule_sound r t e = rule_by t.kind r t refl e

pub rule_complete : (r : PriceType) (t : Lexeme) → IsRule r t → rule_of t.kind t.bytes ≡ Some r
unfolding rule_of
rule_complete r t h = ap (λ (k : TokenKind). rule_of k t.bytes) h.0 ∙ h.1
