-- Which words are a command: what comes before anything is read rests on it.
use Rattle.std.specs.Prelude.{◌≡◌, ◌∷◌, ℕ, List, [], codes}
use Rattle.nf_program.specs.declared.program.Command.{Command}
use Rattle.nf_program.specs.declared.program.Command.TheVariants.{Run, Check, Again, Export}

-- The words of a command are one word. `again` and `export` are no commands yet.
abbrev pub IsCommand : Command → List (List ℕ) → Type 0
IsCommand Check words = words ≡ codes "check" ∷ []
IsCommand Run words = words ≡ codes "run" ∷ []
IsCommand Again words = ⊥
IsCommand Export words = ⊥
