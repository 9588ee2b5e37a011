-- Which words are a command, or ask for a sample. That the usage line comes exactly if the words are those of no command rests on it.
use Rattle.std.specs.Prelude.{◌≡◌, ◌∷◌, ℕ, List, [], Some, codes}
use Rattle.nf_text.specs.declared.token.TokenKind.TheVariants.{Number}
use Rattle.nf_program.specs.ReadValues.{count_of}
use Rattle.nf_sample.specs.Sample.{IsSize}
use Rattle.nf_command.specs.declared.size.SampleSize.{SampleSize}
use Rattle.nf_command.specs.declared.plain.PlainCommand.{PlainCommand}
use Rattle.nf_command.specs.declared.plain.PlainCommand.TheVariants.{Run, Check, Import, Export}

-- The word of a command.
abbrev pub word_of : PlainCommand → List ℕ
word_of Run = codes "run"
word_of Check = codes "check"
word_of Import = codes "import"
word_of Export = codes "export"

-- The words are the one word of this command.
abbrev pub AsksPlain : PlainCommand → List (List ℕ) → Type 0
AsksPlain c words = words ≡ word_of c ∷ []

-- The word is this number: one to nine decimal digits, which may begin with zeros.
abbrev pub IsNumber : ℕ → List ℕ → Type 0
IsNumber n word = count_of Number word ≡ Some n

-- Four words are the seed and the sizes of a sample, and there is a sample of these sizes.
pub record AreNumbers (n : SampleSize) (seed nodes arcs cons : List ℕ) : Type 0 where
  pub seed_is : IsNumber n.seed seed
  pub nodes_are : IsNumber n.nodes nodes
  pub arcs_are : IsNumber n.arcs arcs
  pub cons_are : IsNumber n.cons cons
  pub sizes : IsSize n.nodes n.arcs n.cons

-- The words ask for this sample.
pub record AsksSample (n : SampleSize) (words : List (List ℕ)) : Type 0 where
  pub seed : List ℕ
  pub nodes : List ℕ
  pub arcs : List ℕ
  pub cons : List ℕ
  pub words_are : words ≡ codes "sample" ∷ seed ∷ nodes ∷ arcs ∷ cons ∷ []
  pub numbers : AreNumbers n seed nodes arcs cons
