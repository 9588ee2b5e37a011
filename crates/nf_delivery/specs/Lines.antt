-- The words of options that name data sets to be stored, and the line that tells a store.
-- What a listing has of the stored sets rests on it.
use Rattle.std.specs.Prelude.{◌++◌, ℕ, List, codes, decimal}
use Rattle.nf_delivery.specs.declared.report.OutSet.{OutSet}
use Rattle.nf_delivery.specs.declared.word.OutWord.{OutWord}
use Rattle.nf_delivery.specs.declared.word.OutWord.TheVariants as word
use Rattle.nf_delivery.specs.Sets.{name_of}

-- The word of an option.
abbrev pub word_text : OutWord → List ℕ
word_text word.Arcout = codes "ARCOUT"
word_text word.Nodeout = codes "NODEOUT"
word_text word.Conout = codes "CONOUT"
word_text word.Dualout = codes "DUALOUT"
word_text word.Sessionout = codes "SESSIONOUT"
word_text word.Certout = codes "CERTOUT"

-- The line of a stored set: its option, its name and its rows.
abbrev pub saved_line : OutSet → List ℕ
saved_line s = codes "SAVED " ++ (word_text s.word ++ (codes " " ++ (name_of s ++ (codes " ROWS " ++ (decimal s.rows ++ codes "\n")))))
