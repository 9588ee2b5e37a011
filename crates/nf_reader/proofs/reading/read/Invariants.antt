use Rattle.std.proofs.Common.{◌≡◌, drop, length}
use Rattle.nf_text.specs.Tokens.{lexemes}
use Rattle.nf_reader.specs.Turns.{read, start}
use Rattle.nf_reader.proofs.reading.read.Given as goal

abbrev pub invariant-loop-token : goal.invariant-loop-token
invariant-loop-token l = read l.command (length l.text) l.reader (lexemes l.text (drop l.token-index l.tokens)) ≡ read l.command (length l.text) start (lexemes l.text l.tokens)
