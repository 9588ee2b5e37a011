-- Words that ask for a sample, and what `clap` gives for them.
use Rattle.std.proofs.Common.{◌≡◌, ◌∙◌, ◌∷◌, ◌==◌, ◌&&◌, ◌||◌, ◌≤◌, ◌<◌, ℕ, Bool, true, false, List, [], Option, None, Some, String, Global, Bor, arith, ap, codes, get_or, if◌then◌else◌, IfOk, MatchOption, OnOk, Result, Ok, Err, inl, inr, length, nat_le, map, refl, subst, sym}
use Rattle.std.specs.List.{list_any}
use Rattle.std.specs.Option.{option_map}
use Rattle.std.specs.String.{string_bytes}
use Rattle.clap.specs.Simple.{App, HasMatchesOf, subcommand_rows_of}
use Rattle.clap.specs.Walk.{Row, first_of, rows_of}
use Rattle.clap.specs.Matches.{first_value, found_of}
use Rattle.clap.specs.Faults.{fault_of, is_simple_and_free}
use Rattle.clap.specs.Kinds.{HasKind}
use Rattle.clap.specs.Values.{kind_of}
use Rattle.clap.specs.declared.error.Error.{Error}
use Rattle.clap.specs.declared.error.kind.ErrorKind.TheVariants as kind
use Rattle.clap.specs.declared.parser.matches.ArgMatches.{ArgMatches}
use Rattle.clap.proofs.WalkLemmas.{first_value-rows}
use Rattle.nf_program.specs.ReadValues.{count_of}
use Rattle.nf_command.specs.declared.size.SampleSize.{SampleSize}
use Rattle.nf_command.specs.Line.{HasWords, command_line, is_flag}
use Rattle.nf_command.specs.Words.{AreNumbers, AsksSample, IsNumber}
use Rattle.nf_command.proofs.Reading.{IsPlain, is_free_line, is_simple_line, read, rows, taken, texts}

-- ---- plain words
pub plain : (w : List ℕ) → is_flag w ≡ false → IsPlain w
plain [] h = record { no_dashes = refl; no_long = refl; no_short = refl }
plain (x ∷ xs) h = record { no_dashes = rw h refl; no_long = rw h refl; no_short = rw h refl }

-- a number is no flag
both_none : (t : Bool) (n : ℕ) → (if t then None else None) ≡ Some n → ⊥
both_none true n h = cc h
both_none false n h = cc h

no_number : (n : ℕ) (bs : List ℕ) → IsNumber n (45 ∷ bs) → ⊥
unfolding count_of
no_number n bs h = both_none (nat_le 1 (length (45 ∷ bs)) && nat_le (length (45 ∷ bs)) 9) n h

pub number_is_plain : (n : ℕ) (w : List ℕ) → IsNumber n w → is_flag w ≡ false
number_is_plain n [] h = refl
number_is_plain n (b ∷ bs) h = go (b == 45) refl
  where
    go : (t : Bool) → t ≡ (b == 45) → (b == 45) ≡ false
    go false e = sym e
    go true e = let is : b ≡ 45 = grind (arith, e) in absurd (no_number n bs (subst (λ x. IsNumber n (x ∷ bs)) is h))

pub numbers_are_plain : (n : SampleSize) (a b c d : List ℕ) → AreNumbers n a b c d → list_any is_flag (a ∷ b ∷ c ∷ d ∷ []) ≡ false
numbers_are_plain n a b c d h = rw (number_is_plain n.seed a h.seed_is, number_is_plain n.nodes b h.nodes_are, number_is_plain n.arcs c h.arcs_are, number_is_plain n.cons d h.cons_are) refl

any_map : (words : List (String Global)) → list_any (λ s. is_flag (string_bytes s)) words ≡ list_any is_flag (map string_bytes words)
any_map [] = refl
any_map (w ∷ ws) = ap (λ b. is_flag (string_bytes w) || b) (any_map ws)

-- words that ask for a sample have no flag
pub asks_no_flag : (n : SampleSize) (words : List (String Global)) → AsksSample n (map string_bytes words) → list_any (λ s. is_flag (string_bytes s)) words ≡ false
asks_no_flag n words asks = any_map words ∙ ap (list_any is_flag) asks.words_are ∙ numbers_are_plain n asks.seed asks.nodes asks.arcs asks.cons asks.numbers

-- ---- five words
pub five : (words : List (String Global)) (command : String Global) → 5 ≤ length words → length words < 6 → command ≡ get_or words 0 command → string_bytes command ≡ codes "sample"
    → (a b c d : List ℕ) × (map string_bytes words ≡ codes "sample" ∷ a ∷ b ∷ c ∷ d ∷ [])
five [] command l m e h = absurd (omega (arith, l))
five (w ∷ []) command l m e h = absurd (omega (arith, l))
five (w ∷ a ∷ []) command l m e h = absurd (omega (arith, l))
five (w ∷ a ∷ b ∷ []) command l m e h = absurd (omega (arith, l))
five (w ∷ a ∷ b ∷ c ∷ []) command l m e h = absurd (omega (arith, l))
five (w ∷ a ∷ b ∷ c ∷ d ∷ []) command l m e h = (string_bytes a, string_bytes b, string_bytes c, string_bytes d, ap (λ t. t ∷ string_bytes a ∷ string_bytes b ∷ string_bytes c ∷ string_bytes d ∷ []) (ap string_bytes (sym e) ∙ h))
five (w ∷ a ∷ b ∷ c ∷ d ∷ x ∷ xs) command l m e h = absurd (omega (arith, m))

-- ---- what is read
module _ (app : App) (words : List (List ℕ)) (a b c d : List ℕ) (app_is : app ≡ command_line) (words_are : words ≡ codes "sample" ∷ a ∷ b ∷ c ∷ d ∷ []) (flags : list_any is_flag (a ∷ b ∷ c ∷ d ∷ []) ≡ false) where
  first_plain : (x y : Bool) → (x || y) ≡ false → (x ≡ false) × (y ≡ false)
  first_plain false y h = (refl, h)
  first_plain true y h = cc h

  plains : IsPlain a × IsPlain b × IsPlain c × IsPlain d
  plains =
      let p = first_plain (is_flag a) _ flags in
      let q = first_plain (is_flag b) _ p.1 in
      let r = first_plain (is_flag c) _ q.1 in
      let s = first_plain (is_flag d) _ r.1 in
      (plain a p.0, plain b q.0, plain c r.0, plain d s.0)

  pub has_words : (m : ArgMatches) → HasMatchesOf app words m → HasWords m a b c d
  has_words m h =
      let k : HasMatchesOf command_line (codes "sample" ∷ a ∷ b ∷ c ∷ d ∷ []) m = subst (λ x. HasMatchesOf x (codes "sample" ∷ a ∷ b ∷ c ∷ d ∷ []) m) app_is (subst (λ w. HasMatchesOf app w m) words_are h) in
      let t = texts a b c d in
      record {
        rows = rows a b c d;
        sample = (k is_simple_line).1 ∙ read a b c d plains.0 plains.1 plains.2 plains.3;
        seed_is = t.0;
        nodes_are = t.1;
        arcs_are = t.2;
        cons_are = t.3;
      }

  -- only memory keeps them from being read
  pub only_memory : (e : Error) → (is_simple_and_free app ≡ true → HasKind (fault_of app words) e) → kind_of e ≡ kind.OutOfMemory
  only_memory e h =
      let f : fault_of app words ≡ [] = ap (fault_of app) words_are ∙ ap (λ x. fault_of x (codes "sample" ∷ a ∷ b ∷ c ∷ d ∷ [])) app_is ∙ taken a b c d plains.0 plains.1 plains.2 plains.3 in
      go (subst (λ ks. HasKind ks e) f (h (ap is_simple_and_free app_is ∙ is_free_line)))
    where
      go : HasKind [] e → kind_of e ≡ kind.OutOfMemory
      go (inl k) = k
      go (inr k) = absurd k

-- ---- the texts that are got
pub got : (m s : ArgMatches) (id a : List ℕ) (rs : List Row) (r : Option (Bor (List ℕ))) → subcommand_rows_of m ≡ Some (codes "sample", rs)
    → option_map (λ p. p.1) (subcommand_rows_of m) ≡ Some (rows_of (found_of s)) → option_map (λ t. t.now) r ≡ first_value (found_of s) id → first_of id rs ≡ Some a → option_map (λ t. t.now) r ≡ Some a
got m s id a rs r sample rows_are value is =
    let same : Some rs ≡ Some (rows_of (found_of s)) = ap (option_map (λ p. p.1)) (sym sample) ∙ rows_are in
    let rows_same : rs ≡ rows_of (found_of s) = cc same in
    value ∙ first_value-rows (found_of s) id ∙ ap (first_of id) (sym rows_same) ∙ is

pub none_got : (r : Option (Bor (List ℕ))) (a : List ℕ) → r ≡ None → option_map (λ t. t.now) r ≡ Some a → ⊥
none_got None a e h = cc h
none_got (Some x) a e h = cc e

pub some_got : (r : Option (Bor (List ℕ))) (x : Bor (List ℕ)) (a : List ℕ) → r ≡ Some x → option_map (λ t. t.now) r ≡ Some a → x.now ≡ a
some_got r x a e h = let k : Some x.now ≡ Some a = sym (ap (option_map (λ t. t.now)) e) ∙ h in cc k

-- ---- the sample that is asked for
pub no_ok : {T E : Type 0} (r : Result T E) (P : Type 0) (Q : T → Type 0) → OnOk r P → (P → (x : T) → Q x) → IfOk r Q
no_ok (Ok x) P Q p f = f p x
no_ok (Err e) P Q p f = tt

same_texts : (n : SampleSize) (words : List (List ℕ)) (a b c d : List ℕ) → words ≡ codes "sample" ∷ a ∷ b ∷ c ∷ d ∷ [] → AsksSample n words → AreNumbers n a b c d
same_texts n words a b c d e x =
    let same : codes "sample" ∷ x.seed ∷ x.nodes ∷ x.arcs ∷ x.cons ∷ [] ≡ codes "sample" ∷ a ∷ b ∷ c ∷ d ∷ [] = sym x.words_are ∙ e in
    let ea : x.seed ≡ a = cc same in
    let eb : x.nodes ≡ b = cc same in
    let ec : x.arcs ≡ c = cc same in
    let ed : x.cons ≡ d = cc same in
    subst (λ t. AreNumbers n a b c t) ed (subst (λ t. AreNumbers n a b t x.cons) ec (subst (λ t. AreNumbers n a t x.arcs x.cons) eb (subst (λ t. AreNumbers n t x.nodes x.arcs x.cons) ea x.numbers)))

pub asks : (r : Option SampleSize) (words : List (List ℕ)) (a b c d : List ℕ) → words ≡ codes "sample" ∷ a ∷ b ∷ c ∷ d ∷ []
    → MatchOption r ((n : SampleSize) → AreNumbers n a b c d → ⊥) (λ n. AreNumbers n a b c d) → MatchOption r ((n : SampleSize) → AsksSample n words → ⊥) (λ n. AsksSample n words)
asks None words a b c d e k = λ n x. k n (same_texts n words a b c d e x)
asks (Some n) words a b c d e k = record { seed = a; nodes = b; arcs = c; cons = d; words_are = e; numbers = k }

-- of words without a flag, the four after `sample` have none
pub four_plain : (words : List (String Global)) (a b c d : List ℕ) → list_any (λ s. is_flag (string_bytes s)) words ≡ false → map string_bytes words ≡ codes "sample" ∷ a ∷ b ∷ c ∷ d ∷ [] → list_any is_flag (a ∷ b ∷ c ∷ d ∷ []) ≡ false
four_plain words a b c d h e = ap (list_any is_flag) (sym e) ∙ sym (any_map words) ∙ h
