-- What a text is read as: the program that it has, or its first fault.
use Rattle.std.proofs.Common.{◌≡◌, ℕ, ◌≤◌, ◌⊎◌, inl, inr, Bool, true, false, List, [], ◌∷◌, ◌++◌, length, Ok, Err, refl, sym, ap, ◌∙◌, subst, arith, append_assoc}
use Rattle.std.specs.Prelude.{IfOk, IfErr, MatchResult}
use Rattle.std.proofs.lemmas.List.{append-nil}
use Rattle.nf_text.specs.declared.token.Token.{Token}
use Rattle.nf_text.specs.declared.token.TextFault.{TextFault}
use Rattle.nf_text.specs.declared.token.TextFault.TheVariants as lexer
use Rattle.nf_text.specs.Tokens as tokens
use Rattle.nf_text.specs.Tokens.{Lexeme, lexemes, AreTokens}
use Rattle.nf_text.proofs.Readings.{same_tokens, same_faults, not_both}
use Rattle.nf_program.specs.declared.program.Command.{Command}
use Rattle.nf_program.specs.declared.program.Program.{Program}
use Rattle.nf_program.specs.declared.program.StmtFault.{StmtFault}
use Rattle.nf_program.specs.declared.program.StmtKind.{StmtKind}
use Rattle.nf_program.specs.declared.program.StmtKind.TheVariants as kind
use Rattle.nf_reader.specs.declared.places.Place.{Place}
use Rattle.nf_reader.specs.declared.places.Place.TheVariants as place
use Rattle.nf_reader.specs.declared.places.Turn.{Turn}
use Rattle.nf_reader.specs.declared.places.Reader.{Reader}
use Rattle.nf_reader.specs.Gives.{FailsBy, GivesAt, is_memory}
use Rattle.nf_program.specs.Programs.{no_program}
use Rattle.nf_reader.specs.Turns.{◌>>=◌, Step, Reads, fault_at, here, turn_at, behind, read, start, end_at}
use Rattle.nf_reader.specs.Texts.{fault_of, Answers, Told}
use Rattle.nf_program.specs.Grammar.{IsProgram, HasProgram}
use Rattle.nf_reader.specs.Beginnings.{Stands}
use Rattle.nf_reader.specs.Faults.{IsEndFault, FaultOf, HasFault}
use Rattle.nf_reader.proofs.Sound.{Says, token_says}
use Rattle.nf_reader.proofs.Complete.{program_leads, stands_leads}
use Rattle.nf_reader.proofs.FaultSteps.{fault_fails}

abbrev good : Program → Reads
good p = Ok p

abbrev bad : StmtFault → Reads
bad f = Err f

same_program : (p q : Program) → good p ≡ good q → p ≡ q
same_program p q e = cc

same_fault : (f g : StmtFault) → bad f ≡ bad g → f ≡ g
same_fault f g e = cc

-- ---- what is read is so

-- what a reading of these tokens says
abbrev ReadSays : Command → List Lexeme → ℕ → Reads → Type 0
ReadSays c ts end (Ok p) = IsProgram c p ts
ReadSays c ts end (Err f) = FaultOf c ts end f

module _ (c : Command) (end : ℕ) where
  end_says : (q : Place) (p : Program) (ts : List Lexeme) → Stands c q p ts → ReadSays c ts end (here end (end_at q p))
  unfolding end_at
  end_says place.Start p ts h = inr (kind.NoProc, place.Start, p, h, tt, refl)
  end_says (place.Statement over) p ts h =
      let all : ts ≡ h.0 = h.2 ∙ ap (λ (x : List Lexeme). h.0 ++ x) h.5 ∙ append-nil h.0 in
      subst (IsProgram c p) (sym all) h.3
  end_says place.Netflow p ts h = inr (kind.MissingSemicolon, place.Netflow, p, h, tt, refl)
  end_says (place.Options o ss) p ts h = inr (kind.MissingSemicolon, place.Options o ss, p, h, tt, refl)
  end_says (place.Equals o ss w) p ts h = inr (kind.MissingSemicolon, place.Equals o ss w, p, h, tt, refl)
  end_says (place.Value o ss w) p ts h = inr (kind.MissingSemicolon, place.Value o ss w, p, h, tt, refl)
  end_says (place.Columns r ns) p ts h = inr (kind.MissingSemicolon, place.Columns r ns, p, h, tt, refl)
  end_says (place.Print is) p ts h = inr (kind.MissingSemicolon, place.Print is, p, h, tt, refl)
  end_says (place.Show is) p ts h = inr (kind.MissingSemicolon, place.Show is, p, h, tt, refl)
  end_says (place.Alone s) p ts h = inr (kind.MissingSemicolon, place.Alone s, p, h, tt, refl)

  Ih : List Lexeme → Type 0
  Ih ts = (r : Reader) (front : List Lexeme) → Stands c r.place r.program front → ReadSays c (front ++ ts) end (read c end r ts)

  step_says : (q : Place) (p : Program) (front : List Lexeme) (t : Lexeme) (ts : List Lexeme) (n : Step Turn) → Stands c q p front → Says c q p front t n → Ih ts
      → ReadSays c (front ++ t ∷ ts) end (here t.at (n >>= λ u. Ok (behind p u)) >>= λ r. read c end r ts)
  unfolding Ih
  step_says q p front t ts (Ok u) h says ih =
      subst (λ (x : List Lexeme). ReadSays c x end (read c end (behind p u) ts)) (append_assoc front (t ∷ []) ts) (ih (behind p u) (front ++ t ∷ []) says)
  step_says q p front t ts (Err k) h says ih = inl (front, t, ts, k, q, p, refl, h, says, refl)

  read_says : (ts : List Lexeme) (r : Reader) (front : List Lexeme) → Stands c r.place r.program front → ReadSays c (front ++ ts) end (read c end r ts)
  unfolding Ih
  read_says [] r front h = subst (λ (x : List Lexeme). ReadSays c x end (here end (end_at r.place r.program))) (sym (append-nil front)) (end_says r.place r.program front h)
  read_says (t ∷ ts) r front h =
      step_says r.place r.program front t ts (turn_at c r.place r.program t.kind t.bytes) h (token_says c r.program front t r.place h) (λ r front. read_says ts r front)

  starts : Stands c place.Start no_program []
  starts = ([], [], refl, refl, refl, refl)

  pub tokens_say : (ts : List Lexeme) → ReadSays c ts end (read c end start ts)
  tokens_say ts = read_says ts start [] starts

  -- ---- and what is so is read

  pub program_read : (p : Program) (ts : List Lexeme) → IsProgram c p ts → read c end start ts ≡ good p
  unfolding end_at
  program_read p ts h = ap (read c end start) (sym (append-nil ts)) ∙ program_leads c p ts h end []

  end_fails : (k : StmtKind) (q : Place) (p : Program) → IsEndFault k q → end_at q p ≡ Err k
  unfolding end_at
  end_fails kind.NoProc place.Start p h = refl
  end_fails kind.NoProc place.Netflow p h = absurd h
  end_fails kind.NoProc (place.Options o ss) p h = absurd h
  end_fails kind.NoProc (place.Equals o ss w) p h = absurd h
  end_fails kind.NoProc (place.Value o ss w) p h = absurd h
  end_fails kind.NoProc (place.Statement over) p h = absurd h
  end_fails kind.NoProc (place.Columns r ns) p h = absurd h
  end_fails kind.NoProc (place.Print is) p h = absurd h
  end_fails kind.NoProc (place.Show is) p h = absurd h
  end_fails kind.NoProc (place.Alone s) p h = absurd h
  end_fails kind.MissingSemicolon place.Start p h = absurd h
  end_fails kind.MissingSemicolon (place.Statement over) p h = absurd h
  end_fails kind.MissingSemicolon place.Netflow p h = refl
  end_fails kind.MissingSemicolon (place.Options o ss) p h = refl
  end_fails kind.MissingSemicolon (place.Equals o ss w) p h = refl
  end_fails kind.MissingSemicolon (place.Value o ss w) p h = refl
  end_fails kind.MissingSemicolon (place.Columns r ns) p h = refl
  end_fails kind.MissingSemicolon (place.Print is) p h = refl
  end_fails kind.MissingSemicolon (place.Show is) p h = refl
  end_fails kind.MissingSemicolon (place.Alone s) p h = refl
  end_fails kind.BadByte q p h = absurd h
  end_fails kind.OpenComment q p h = absurd h
  end_fails kind.OpenQuote q p h = absurd h
  end_fails kind.TooLong q p h = absurd h
  end_fails kind.UnknownWord q p h = absurd h
  end_fails kind.OptionNotHere q p h = absurd h
  end_fails kind.RepeatedOption q p h = absurd h
  end_fails kind.WrongValue q p h = absurd h
  end_fails kind.MissingOption q p h = absurd h
  end_fails kind.WrongTogether q p h = absurd h
  end_fails kind.StatementOrder q p h = absurd h
  end_fails kind.NoMemory q p h = absurd h

  pub fault_read : (f : StmtFault) (ts : List Lexeme) → FaultOf c ts end f → read c end start ts ≡ bad f
  fault_read f ts (inl h) =
      let front = h.0 in
      let t = h.1 in
      let q = h.4 in
      let p = h.5 in
      ap (read c end start) h.6 ∙ stands_leads c q p front h.7 end (t ∷ h.2)
      ∙ ap (λ (n : Step Turn). here t.at (n >>= λ u. Ok (behind p u)) >>= λ r. read c end r h.2) (fault_fails c p t h.3 q h.8) ∙ ap bad (sym h.9)
  fault_read f ts (inr h) =
      ap (read c end start) (sym (append-nil ts)) ∙ stands_leads c h.1 h.2 ts h.3 end []
      ∙ ap (λ (n : Step Program). here end n) (end_fails h.0 h.1 h.2 h.4) ∙ ap bad (sym h.5)

-- ---- texts

-- what the answer of a text says of it
abbrev TextSays : Command → List ℕ → Reads → Type 0
TextSays c text (Ok p) = HasProgram c text p
TextSays c text (Err f) = HasFault c text f

tokens_answer : (c : Command) (text : List ℕ) (ts : List Token) (r : Reads) → length text ≤ 1048576 → AreTokens text ts → r ≡ read c (length text) start (lexemes text ts) → TextSays c text r
tokens_answer c text ts (Ok p) le are e = (le, ts, are, subst (ReadSays c (lexemes text ts) (length text)) (sym e) (tokens_say c (length text) (lexemes text ts)))
tokens_answer c text ts (Err f) le are e = inr (inr (le, ts, are, subst (ReadSays c (lexemes text ts) (length text)) (sym e) (tokens_say c (length text) (lexemes text ts))))

pub answer_says : (c : Command) (text : List ℕ) (r : Reads) → Answers c text r → TextSays c text r
answer_says c text r (inl h) = subst (TextSays c text) (sym h.1) (inl (h.0, refl))
answer_says c text r (inr (inl h)) = subst (TextSays c text) (sym h.3) (inr (inl (h.0, h.1, h.2, refl)))
answer_says c text r (inr (inr h)) = tokens_answer c text h.1 r h.0 h.2 h.3

one_answer : (c : Command) (text : List ℕ) (r s : Reads) → Answers c text r → Answers c text s → r ≡ s
one_answer c text r s (inl a) (inl b) = a.1 ∙ sym b.1
one_answer c text r s (inl a) (inr (inl b)) = absurd (omega (arith, a.0, b.0))
one_answer c text r s (inl a) (inr (inr b)) = absurd (omega (arith, a.0, b.0))
one_answer c text r s (inr (inl a)) (inl b) = absurd (omega (arith, a.0, b.0))
one_answer c text r s (inr (inl a)) (inr (inl b)) = a.3 ∙ ap (λ (f : TextFault). bad (fault_of f)) (same_faults text a.1 b.1 a.2 b.2) ∙ sym b.3
one_answer c text r s (inr (inl a)) (inr (inr b)) = absurd (not_both text b.1 a.1 b.2 a.2)
one_answer c text r s (inr (inr a)) (inl b) = absurd (omega (arith, a.0, b.0))
one_answer c text r s (inr (inr a)) (inr (inl b)) = absurd (not_both text a.1 b.1 a.2 b.2)
one_answer c text r s (inr (inr a)) (inr (inr b)) = a.3 ∙ ap (λ (ts : List Token). read c (length text) start (lexemes text ts)) (same_tokens text a.1 b.1 a.2 b.2) ∙ sym b.3

program_answers : (c : Command) (text : List ℕ) (p : Program) → HasProgram c text p → Answers c text (good p)
program_answers c text p h = inr (inr (h.0, h.1, h.2, sym (program_read c (length text) p (lexemes text h.1) h.3)))

fault_answers : (c : Command) (text : List ℕ) (f : StmtFault) → HasFault c text f → Answers c text (bad f)
fault_answers c text f (inl h) = inl (h.0, ap bad h.1)
fault_answers c text f (inr (inl h)) = inr (inl (h.0, h.1, h.2, ap bad h.3))
fault_answers c text f (inr (inr h)) = inr (inr (h.0, h.1, h.2, sym (fault_read c (length text) f (lexemes text h.1) h.3)))

-- a text has one program, or one fault
pub one_program : (c : Command) (text : List ℕ) (p q : Program) → HasProgram c text p → HasProgram c text q → p ≡ q
one_program c text p q a b = same_program p q (one_answer c text (good p) (good q) (program_answers c text p a) (program_answers c text q b))

pub one_fault : (c : Command) (text : List ℕ) (f g : StmtFault) → HasFault c text f → HasFault c text g → f ≡ g
one_fault c text f g a b = same_fault f g (one_answer c text (bad f) (bad g) (fault_answers c text f a) (fault_answers c text g b))

pub never_both : (c : Command) (text : List ℕ) (p : Program) (f : StmtFault) → HasProgram c text p → HasFault c text f → ⊥
never_both c text p f a b = let e = one_answer c text (good p) (bad f) (program_answers c text p a) (fault_answers c text f b) in cc

-- ---- what was told

is_no_memory : (k : StmtKind) → is_memory k ≡ true → k ≡ kind.NoMemory
is_no_memory kind.NoMemory e = refl
is_no_memory kind.BadByte e = absurd cc
is_no_memory kind.OpenComment e = absurd cc
is_no_memory kind.OpenQuote e = absurd cc
is_no_memory kind.TooLong e = absurd cc
is_no_memory kind.NoProc e = absurd cc
is_no_memory kind.MissingSemicolon e = absurd cc
is_no_memory kind.UnknownWord e = absurd cc
is_no_memory kind.OptionNotHere e = absurd cc
is_no_memory kind.RepeatedOption e = absurd cc
is_no_memory kind.WrongValue e = absurd cc
is_no_memory kind.MissingOption e = absurd cc
is_no_memory kind.WrongTogether e = absurd cc
is_no_memory kind.StatementOrder e = absurd cc

-- a text of tokens is answered as they are read
pub of_tokens : (c : Command) (text : List ℕ) (ts : List Token) (r : Reads) → length text ≤ 1048576 → AreTokens text ts → GivesAt r (read c (length text) start (lexemes text ts)) → Told c text r
of_tokens c text ts (Ok p) le a g = inr (inr (le, ts, a, sym g))
of_tokens c text ts (Err f) le a g = by (is_memory f.kind) refl g where
  by : (b : Bool) → is_memory f.kind ≡ b → FailsBy {Y = Program} b f (read c (length text) start (lexemes text ts)) → (f ≡ fault_at 0 kind.NoMemory) ⊎ Answers c text (bad f)
  by true e h = inl (λ i. record { at = h i; kind = is_no_memory f.kind e i })
  by false e h = inr (inr (inr (le, ts, a, sym h)))

-- a fault of the tokens is the text's
pub of_fault : (c : Command) (text : List ℕ) (f : TextFault) → length text ≤ 1048576 → (f ≡ lexer.NoMemory) ⊎ tokens.HasFault text f → Told c text (bad (fault_of f))
of_fault c text f le (inl e) = inl (ap fault_of e)
of_fault c text f le (inr h) = inr (inr (inl (le, f, h, refl)))

pub told_program : (c : Command) (text : List ℕ) (r : Reads) → Told c text r → IfOk r (λ p. HasProgram c text p)
told_program c text (Ok p) h = answer_says c text (good p) h
told_program c text (Err f) h = tt

pub told_fault : (c : Command) (text : List ℕ) (r : Reads) → Told c text r → IfErr r (λ f. (f ≡ fault_at 0 kind.NoMemory) ⊎ HasFault c text f)
told_fault c text (Ok p) h = tt
told_fault c text (Err f) (inl h) = inl h
told_fault c text (Err f) (inr h) = inr (answer_says c text (bad f) h)

pub told_only : (c : Command) (text : List ℕ) (r : Reads) → Told c text r → (p : Program) → HasProgram c text p → MatchResult r (λ q. q ≡ p) (λ f. f ≡ fault_at 0 kind.NoMemory)
told_only c text (Ok q) h p has = one_program c text q p (answer_says c text (good q) h) has
told_only c text (Err f) (inl h) p has = h
told_only c text (Err f) (inr h) p has = absurd (never_both c text p f has (answer_says c text (bad f) h))
