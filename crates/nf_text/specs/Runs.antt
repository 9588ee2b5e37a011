-- What a word, a number or a quoted text goes on with. A private function counts such bytes.
use Rattle.std.specs.Prelude.{ℕ, Bool}
use Rattle.nf_text.specs.declared.bytes.Run.{Run}
use Rattle.nf_text.specs.declared.bytes.Run.TheVariants.{Word, Number, Quoted}
use Rattle.nf_text.specs.Bytes.{is_word_byte, is_number_byte, may_stand}

abbrev pub goes_on : Run → ℕ → Bool
goes_on Word b = is_word_byte b
goes_on Number b = is_number_byte b
goes_on (Quoted mark) b = may_stand mark b
