-- What `clap` makes of the words of `sample`: it takes them, and gives each of the four back.
use Rattle.std.proofs.Common.{◌≡◌, ◌∙◌, ◌∷◌, ℕ, true, false, List, [], None, Some, ap, ap₂, codes, refl}
use Rattle.std.specs.Prelude.{find, fold, unwrap_or}
use Rattle.std.specs.Str.{bytes_eq}
use Rattle.clap.specs.Lexer.{long_of, short_of}
use Rattle.clap.specs.Kinds.{Kinds, or_else}
use Rattle.clap.specs.Faults.{check_fault, defaults_fault, fault_of, is_simple_and_free, settle_fault, step_fault, turn_fault, walk_fault}
use Rattle.clap.specs.Walk.{Held, Row, Rule, Text, Walk, answers_to, arg_by_index, finished, first_of, idle, nothing_held, settled, to_positional, value, walk, walked, word_met}
use Rattle.clap.specs.Simple.{Shape, built, is_simple, label_of, new_shape, subcommand_of}
use Rattle.clap.proofs.OnLiterals.{clap_on_literals}
use Rattle.nf_command.specs.Line.{command_line}

-- The walk between two words, with no option that waits for a value.
abbrev at : Held → ℕ → Walk
at h p = record { held = h; waiting = idle; position = p; is_trailing = false; stopped = None }

-- A word that does not begin with `-`.
pub record IsPlain (word : Text) : Type 0 where
  pub no_dashes : bytes_eq word (45 ∷ 45 ∷ []) ≡ false
  pub no_long : long_of word ≡ None
  pub no_short : short_of word ≡ None

met : (c : List Rule) (p : ℕ) (h : Held) (word : Text) → IsPlain word → word_met c [] false idle p word h ≡ (h, value)
met c p h word plain = rw (plain.no_dashes, plain.no_long, plain.no_short) refl

walked_on : (c : List Rule) (p : ℕ) (h : Held) (word : Text) → IsPlain word → walked c [] (at h p) word ≡ to_positional c (arg_by_index c p) word (at h p) h
unfolding walked
walked_on c p h word plain = rw (plain.no_dashes, plain.no_long, plain.no_short) refl

turn_is : (s : Shape) (p : ℕ) (h : Held) (word : Text) → IsPlain word → turn_fault s [] (at h p) word ≡ step_fault s p h value
turn_is s p h word plain = rw (plain.no_dashes, plain.no_long, plain.no_short) refl

-- `sample` as `clap` builds it
abbrev leaf : Shape
leaf = unwrap_or (find (λ s. answers_to (codes "sample") (label_of s)) (built command_line).subs) (new_shape [])

abbrev step_on : Held → ℕ → Text → Walk
step_on h p word = to_positional leaf.rules (arg_by_index leaf.rules p) word (at h p) h

abbrev held1 : Text → Held
held1 a = (step_on nothing_held 1 a).held

abbrev held2 : Text → Text → Held
held2 a b = (step_on (held1 a) 2 b).held

abbrev held3 : Text → Text → Text → Held
held3 a b c = (step_on (held2 a b) 3 c).held

abbrev held4 : Text → Text → Text → Text → Held
held4 a b c d = (step_on (held3 a b c) 4 d).held

module _ (a b c d : Text) (pa : IsPlain a) (pb : IsPlain b) (pc : IsPlain c) (pd : IsPlain d) where
  step1 : walked leaf.rules [] (at nothing_held 1) a ≡ at (held1 a) 2
  step1 = walked_on leaf.rules 1 nothing_held a pa

  step2 : walked leaf.rules [] (at (held1 a) 2) b ≡ at (held2 a b) 3
  step2 = walked_on leaf.rules 2 (held1 a) b pb

  step3 : walked leaf.rules [] (at (held2 a b) 3) c ≡ at (held3 a b c) 4
  step3 = walked_on leaf.rules 3 (held2 a b) c pc

  step4 : walked leaf.rules [] (at (held3 a b c) 4) d ≡ at (held4 a b c d) 5
  step4 = walked_on leaf.rules 4 (held3 a b c) d pd

  walk4 : walk leaf.rules [] nothing_held (a ∷ b ∷ c ∷ d ∷ []) ≡ at (held4 a b c d) 5
  walk4 = ap (λ w. fold (walked leaf.rules []) w (b ∷ c ∷ d ∷ [])) step1 ∙ ap (λ w. fold (walked leaf.rules []) w (c ∷ d ∷ [])) step2
      ∙ ap (λ w. fold (walked leaf.rules []) w (d ∷ [])) step3 ∙ step4

  fault4 : walk_fault leaf [] (at nothing_held 1) (a ∷ b ∷ c ∷ d ∷ []) ≡ []
  unfolding walk_fault
  fault4 = ap₂ (λ t w. or_else t (walk_fault leaf [] w (b ∷ c ∷ d ∷ []))) (turn_is leaf 1 nothing_held a pa) step1
      ∙ ap₂ (λ t w. or_else t (walk_fault leaf [] w (c ∷ d ∷ []))) (turn_is leaf 2 (held1 a) b pb) step2
      ∙ ap₂ (λ t w. or_else t (walk_fault leaf [] w (d ∷ []))) (turn_is leaf 3 (held2 a b) c pc) step3
      ∙ ap₂ (λ t w. or_else t (walk_fault leaf [] w [])) (turn_is leaf 4 (held3 a b c) d pd) step4

-- what `sample` fails by, of its walk and of the faults of its words
abbrev level : Kinds → Walk → Kinds
level f w = or_else f (or_else [] (or_else (settle_fault leaf.rules leaf.args_override_self w.held)
    (or_else (defaults_fault (settled leaf.rules w.held).rows leaf.rules) (check_fault leaf (finished leaf.rules w.held) false))))

pub is_simple_line : is_simple command_line ≡ true
unfolding clap_on_literals
is_simple_line = refl

pub is_free_line : is_simple_and_free command_line ≡ true
unfolding clap_on_literals
is_free_line = refl

pub taken : (a b c d : Text) → IsPlain a → IsPlain b → IsPlain c → IsPlain d → fault_of command_line (codes "sample" ∷ a ∷ b ∷ c ∷ d ∷ []) ≡ []
unfolding clap_on_literals
taken a b c d pa pb pc pd = ap₂ (λ f w. or_else (level f w) []) (fault4 a b c d pa pb pc pd) (walk4 a b c d pa pb pc pd)

abbrev pub rows : Text → Text → Text → Text → List Row
rows a b c d = finished leaf.rules (held4 a b c d)

pub read : (a b c d : Text) → IsPlain a → IsPlain b → IsPlain c → IsPlain d → subcommand_of command_line (codes "sample" ∷ a ∷ b ∷ c ∷ d ∷ []) ≡ Some (codes "sample", rows a b c d)
unfolding clap_on_literals
read a b c d pa pb pc pd = ap (λ w. Some (codes "sample", finished leaf.rules w.held)) (walk4 a b c d pa pb pc pd)

pub texts : (a b c d : Text) → (first_of (codes "SEED") (rows a b c d) ≡ Some a) × (first_of (codes "NODES") (rows a b c d) ≡ Some b) × (first_of (codes "ARCS") (rows a b c d) ≡ Some c) × (first_of (codes "CONS") (rows a b c d) ≡ Some d)
texts a b c d = (refl, refl, refl, refl)
