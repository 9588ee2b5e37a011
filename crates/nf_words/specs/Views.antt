-- How contracts see a table: as its list of words.
use Rattle.std.specs.Prelude.{ℕ, List, map}
use Rattle.nf_words.specs.declared.table.Entry.{Entry}
use Rattle.nf_words.specs.declared.table.WordTable.{WordTable}
use Rattle.nf_words.specs.Words.{Word}

-- an entry as a word
abbrev pub word_of : Entry → Word
word_of e = record { spelling = e.spelling.now; kind = e.kind.0 }

-- the table's words, in their order
abbrev pub words : {N : ℕ} → WordTable N → List Word
words t = map word_of t.entries.now
