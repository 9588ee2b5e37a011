-- One word.
use Rattle.std.proofs.Common.{◌≡◌, ◌∙◌, ◌∷◌, Bool, true, false, ℕ, List, [], String, Global, length, map, get_or, codes, sym, ap, refl}
use Rattle.std.specs.Str.{bytes_eq}
use Rattle.std.specs.String.{string_bytes}
use Rattle.std.proofs.lemmas.Slice.Eq.{bytes_eq-Decides}
use Rattle.nf_program.specs.declared.program.Command.{Command}
use Rattle.nf_program.specs.declared.program.Command.TheVariants.{Run, Check, Again, Export}
use Rattle.nf_top.specs.Words.{IsCommand}

pub one-word : (words : List (String Global)) (word : String Global) → length words ≡ 1 → word ≡ get_or words 0 word → map string_bytes words ≡ string_bytes word ∷ []
one-word [] word h e = cc h
one-word (w ∷ []) word h e = ap (λ t. string_bytes t ∷ []) (sym e)
one-word (w ∷ v ∷ ws) word h e = cc h

pub word-test : (b : Bool) (xs ys : List ℕ) → b ≡ bytes_eq xs ys → (b ≡ true → xs ∷ [] ≡ ys ∷ []) × (xs ∷ [] ≡ ys ∷ [] → b ≡ true)
word-test b xs ys e = let d = bytes_eq-Decides xs ys in (λ t. ap (λ v. v ∷ []) (d.0 (sym e ∙ t)), λ t. e ∙ d.1 (cc t))

-- a word that is neither is no command
pub no-command : (a b : Bool) (word : List ℕ) → a ≡ bytes_eq word (codes "check") → b ≡ bytes_eq word (codes "run") → a ≡ false → b ≡ false → (c : Command) → IsCommand c (word ∷ []) → ⊥
no-command a b word ea eb fa fb Check h = let t = (word-test a word (codes "check") ea).1 h in cc
no-command a b word ea eb fa fb Run h = let t = (word-test b word (codes "run") eb).1 h in cc
no-command a b word ea eb fa fb Again h = h
no-command a b word ea eb fa fb Export h = h

-- words that are not one word are no command
pub no-words : (words : List (List ℕ)) → (length words ≡ 1 → ⊥) → (c : Command) → IsCommand c words → ⊥
no-words words h Check e = h (ap length e)
no-words words h Run e = h (ap length e)
no-words words h Again e = e
no-words words h Export e = e

-- the words of one command are not those of the other
pub not-both : (words : List (List ℕ)) → IsCommand Check words → IsCommand Run words → ⊥
not-both words h k = let e : codes "check" ∷ [] ≡ codes "run" ∷ [] = sym h ∙ k in cc

-- the words are those of one command
pub one-command : (words : List (List ℕ)) (c d : Command) → IsCommand c words → IsCommand d words → c ≡ d
one-command words Check Check h k = refl
one-command words Check Run h k = absurd (not-both words h k)
one-command words Check Again h k = absurd k
one-command words Check Export h k = absurd k
one-command words Run Check h k = absurd (not-both words k h)
one-command words Run Run h k = refl
one-command words Run Again h k = absurd k
one-command words Run Export h k = absurd k
one-command words Again d h k = absurd h
one-command words Export d h k = absurd h
