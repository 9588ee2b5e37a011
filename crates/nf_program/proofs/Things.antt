-- Things one after the other among tokens, and lists in which each stands once.
use Rattle.std.proofs.Common.{◌≡◌, ℕ, Bool, true, false, not, ◌&&◌, ◌||◌, nat_eq, List, [], ◌∷◌, ◌++◌, map, refl, sym, ap, ◌∙◌, append_assoc}
use Rattle.std.proofs.lemmas.List.{append-nil}
use Rattle.std.proofs.lemmas.List.Folds.{list_any-append}
use Rattle.std.specs.List.{AllByRecursion, list_any}
use Rattle.nf_text.specs.Tokens.{Lexeme}
use Rattle.nf_program.specs.Programs.{AreDistinct}
use Rattle.nf_program.specs.Grammar.{Each, AreSemicolons, Statements}

pub split_or : (a b : Bool) → (a || b) ≡ false → (a ≡ false) × (b ≡ false)
split_or true b h = absurd cc
split_or false b h = (refl, h)

pub split_and : (a b : Bool) → (a && b) ≡ true → (a ≡ true) × (b ≡ true)
split_and true b h = (refl, h)
split_and false b h = absurd cc

pub not_true : (a : Bool) → not a ≡ true → a ≡ false
not_true true h = absurd cc
not_true false h = refl

pub not_false : (a : Bool) → not a ≡ false → a ≡ true
not_false true h = refl
not_false false h = absurd cc

-- ---- tokens

-- a token behind two parts goes to the second
pub regroup : (before opened more ts : List Lexeme) → ts ≡ before ++ opened → ts ++ more ≡ before ++ (opened ++ more)
regroup before opened more ts e = ap (λ (x : List Lexeme). x ++ more) e ∙ append_assoc before opened more

pub semicolons_more : (ts lone : List Lexeme) → AreSemicolons ts → AreSemicolons lone → AreSemicolons (ts ++ lone)
semicolons_more [] lone h s = s
semicolons_more (u ∷ ts) lone h s = (h.0, semicolons_more ts lone h.1 s)

module _ {A : Type 0} (Is : A → List Lexeme → Type 0) where
  pub each_more : (xs : List A) (ts : List Lexeme) (x : A) (one : List Lexeme) → Each Is xs ts → Is x one → Each Is (xs ++ x ∷ []) (ts ++ one)
  each_more [] ts x one h is = (one, [], ap (λ (u : List Lexeme). u ++ one) h ∙ sym (append-nil one), is, refl)
  each_more (y ∷ xs) ts x one h is = (h.0, h.1 ++ one, regroup h.0 h.1 one ts h.2, h.3, each_more xs h.1 x one h.4 is)

  pub statements_more : (xs : List A) (ts : List Lexeme) (x : A) (one : List Lexeme) → Statements Is xs ts → Is x one → Statements Is (xs ++ x ∷ []) (ts ++ one)
  statements_more [] ts x one h is = (ts, one, [], ap (λ (u : List Lexeme). ts ++ u) (sym (append-nil one)), h, is, tt)
  statements_more (y ∷ xs) ts x one h is =
      (h.0, h.1, h.2 ++ one, regroup h.0 (h.1 ++ h.2) one ts h.3 ∙ ap (λ (u : List Lexeme). h.0 ++ u) (append_assoc h.1 h.2 one), h.4, h.5, statements_more xs h.2 x one h.6 is)

  pub statements_lone : (xs : List A) (ts more : List Lexeme) → Statements Is xs ts → AreSemicolons more → Statements Is xs (ts ++ more)
  statements_lone [] ts more h s = semicolons_more ts more h s
  statements_lone (y ∷ xs) ts more h s =
      (h.0, h.1, h.2 ++ more, regroup h.0 (h.1 ++ h.2) more ts h.3 ∙ ap (λ (u : List Lexeme). h.0 ++ u) (append_assoc h.1 h.2 more), h.4, h.5, statements_lone xs h.2 more h.6 s)

pub no_tokens : (ts : List Lexeme) (t : Lexeme) → ts ≡ [] → ts ++ t ∷ [] ≡ t ∷ []
no_tokens ts t e = ap (λ (x : List Lexeme). x ++ t ∷ []) e

-- ---- each once

module _ {A : Type 0} (key : A → ℕ) where
  differ_more : (k : ℕ) (xs : List A) (x : A) → AllByRecursion (λ y. nat_eq k y ≡ false) (map key xs) → nat_eq k (key x) ≡ false → AllByRecursion (λ y. nat_eq k y ≡ false) (map key (xs ++ x ∷ []))
  differ_more k [] x h e = (e, tt)
  differ_more k (y ∷ xs) x h e = (h.0, differ_more k xs x h.1 e)

  pub distinct_more : (xs : List A) (x : A) → AreDistinct (map key xs) → list_any (λ y. nat_eq (key y) (key x)) xs ≡ false → AreDistinct (map key (xs ++ x ∷ []))
  distinct_more [] x h e = (tt, tt)
  distinct_more (y ∷ xs) x h e =
      let two = split_or (nat_eq (key y) (key x)) (list_any (λ z. nat_eq (key z) (key x)) xs) e in
      (differ_more (key y) xs x h.0 two.0, distinct_more xs x h.1 two.1)

  differ_at : (k : ℕ) (xs : List A) (x : A) (back : List A) → AllByRecursion (λ y. nat_eq k y ≡ false) (map key (xs ++ x ∷ back)) → nat_eq k (key x) ≡ false
  differ_at k [] x back h = h.0
  differ_at k (y ∷ xs) x back h = differ_at k xs x back h.1

  or_false : (a b : Bool) → a ≡ false → b ≡ false → (a || b) ≡ false
  or_false a b e f = ap (λ (t : Bool). t || b) e ∙ f

  -- none before it has its key
  pub distinct_at : (xs : List A) (x : A) (back : List A) → AreDistinct (map key (xs ++ x ∷ back)) → list_any (λ y. nat_eq (key y) (key x)) xs ≡ false
  distinct_at [] x back h = refl
  distinct_at (y ∷ xs) x back h = or_false (nat_eq (key y) (key x)) (list_any (λ z. nat_eq (key z) (key x)) xs) (differ_at (key y) xs x back h.0) (distinct_at xs x back h.1)

-- ---- lists that go on

pub one_more : {A : Type 0} (before : List A) (x : A) (back : List A) → before ++ x ∷ back ≡ (before ++ x ∷ []) ++ back
one_more before x back = sym (append_assoc before (x ∷ []) back)

pub any_more : {A : Type 0} (p : A → Bool) (xs : List A) (x : A) → list_any p (xs ++ x ∷ []) ≡ (list_any p xs || p x)
any_more p xs x = list_any-append p xs (x ∷ []) ∙ ap (λ (b : Bool). list_any p xs || b) (or_none (p x)) where
  or_none : (b : Bool) → (b || false) ≡ b
  or_none true = refl
  or_none false = refl
