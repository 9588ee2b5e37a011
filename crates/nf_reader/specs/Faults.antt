-- The faults of programs, kind by kind: which token is a fault in which place. What `read_program` promises of its
-- faults rests on it.
use Rattle.std.specs.Prelude.{◌≡◌, ◌≢◌, ℕ, ◌<◌, ◌≤◌, ◌⊎◌, Bool, true, false, List, [], ◌∷◌, ◌++◌, length, None}
use Rattle.nf_text.specs.declared.token.Token.{Token}
use Rattle.nf_text.specs.declared.token.TokenKind.TheVariants.{Word, Equals, Semicolon}
use Rattle.nf_text.specs.declared.token.TextFault.{TextFault}
use Rattle.nf_text.specs.Tokens as tokens
use Rattle.nf_text.specs.Tokens.{Lexeme, lexemes, AreTokens}
use Rattle.nf_program.specs.declared.program.Command.{Command}
use Rattle.nf_program.specs.declared.program.Program.{Program}
use Rattle.nf_program.specs.declared.program.Role.{Role}
use Rattle.nf_program.specs.declared.program.PrintItem.{PrintItem}
use Rattle.nf_program.specs.declared.program.ShowItem.{ShowItem}
use Rattle.nf_program.specs.declared.program.StmtFault.{StmtFault}
use Rattle.nf_program.specs.declared.program.StmtKind.{StmtKind}
use Rattle.nf_program.specs.declared.program.StmtKind.TheVariants as kind
use Rattle.nf_program.specs.declared.words.StatementWord.{StatementWord}
use Rattle.nf_program.specs.declared.words.StatementWord.TheVariants as word
use Rattle.nf_program.specs.declared.words.OptionWord.{OptionWord}
use Rattle.nf_program.specs.declared.settings.Setting.{Setting}
use Rattle.nf_reader.specs.declared.places.Head.TheVariants as head
use Rattle.nf_reader.specs.declared.places.Place.{Place}
use Rattle.nf_reader.specs.declared.places.Place.TheVariants as place
use Rattle.nf_program.specs.Words.{statement_of, option_of, print_of, show_of}
use Rattle.nf_program.specs.Values.{IsColumn}
use Rattle.nf_program.specs.Settings.{word_of, options_of, lacks, are_wrong_together}
use Rattle.nf_program.specs.Programs.{is_netflow, is_given, has_role, takes_list, has_print, has_show}
use Rattle.nf_reader.specs.Opened.{belongs}
use Rattle.nf_program.specs.Grammar.{NamesStatement, NamesOption, NamesPrint, NamesShow, IsSemicolon, IsValue}
use Rattle.nf_reader.specs.Beginnings.{Stands, serves}
use Rattle.nf_reader.specs.Turns.{fault_at}
use Rattle.nf_reader.specs.Texts.{fault_of}

-- UnknownWord: the word is in no list for this place.
abbrev pub IsUnknown : Place → List ℕ → Type 0
IsUnknown place.Netflow w = is_netflow w ≡ false
IsUnknown (place.Options h ss) w = option_of w ≡ None
IsUnknown (place.Statement over) w = statement_of w ≡ None
IsUnknown (place.Print is) w = print_of w ≡ None
IsUnknown (place.Show is) w = show_of w ≡ None
IsUnknown (place.Alone s) w = Unit {0}
IsUnknown _ w = ⊥

-- OptionNotHere: an option that the statement does not take after these.
abbrev pub IsNotHere : Place → Lexeme → Type 0
IsNotHere (place.Options h ss) t = (o : OptionWord) × NamesOption o t × (belongs h ss o ≡ false)
IsNotHere _ t = ⊥

-- RepeatedOption: an option, an item or a role once more.
abbrev pub IsRepeated : Place → Program → Lexeme → Type 0
IsRepeated (place.Options h ss) p t = (o : OptionWord) × NamesOption o t × (belongs h ss o ≡ true) × (is_given o ss ≡ true)
IsRepeated (place.Statement over) p t = (r : Role) × NamesStatement (word.Role r) t × (has_role r p.roles ≡ true)
IsRepeated (place.Print is) p t = (i : PrintItem) × NamesPrint i t × (has_print i is ≡ true)
IsRepeated (place.Show is) p t = (i : ShowItem) × NamesShow i t × (has_show i is ≡ true)
IsRepeated _ p t = ⊥

-- neither a word nor a semicolon
abbrev pub IsNoWord : Lexeme → Type 0
IsNoWord t = (t.kind ≢ Word) × (t.kind ≢ Semicolon)

-- WrongValue: a token that is not of the sort that its place needs.
abbrev pub IsWrong : Place → Lexeme → Type 0
IsWrong place.Start t = ⊥
IsWrong place.Netflow t = t.kind ≢ Word
IsWrong (place.Options h ss) t = IsNoWord t ⊎ ((h ≡ head.Save) × (ss ≡ []) × IsSemicolon t)
IsWrong (place.Equals h ss o) t = t.kind ≢ Equals
IsWrong (place.Value h ss o) t = (s : Setting) → word_of s ≡ o → IsValue s t → ⊥
IsWrong (place.Statement over) t = IsNoWord t
IsWrong (place.Columns r ns) t =
    ((ns ≡ []) × IsSemicolon t)
    ⊎ ((t.kind ≢ Semicolon) × (((ns ≢ []) × (takes_list r ≡ false)) ⊎ ((n : List ℕ) → IsColumn n t → ⊥)))
IsWrong (place.Print is) t = IsNoWord t ⊎ ((is ≡ []) × IsSemicolon t)
IsWrong (place.Show is) t = IsNoWord t ⊎ ((is ≡ []) × IsSemicolon t)
IsWrong (place.Alone s) t = IsNoWord t

-- MissingOption: PROC's semicolon if an option is missing.
abbrev pub IsMissing : Command → Place → Lexeme → Type 0
IsMissing c (place.Options head.Proc ss) t = IsSemicolon t × (lacks c (options_of ss) ≡ true)
IsMissing c _ t = ⊥

-- WrongTogether: PROC's semicolon if nothing is missing, and options stand together that may not.
abbrev pub IsTogether : Command → Place → Lexeme → Type 0
IsTogether c (place.Options head.Proc ss) t = IsSemicolon t × (lacks c (options_of ss) ≡ false) × (are_wrong_together (options_of ss) ≡ true)
IsTogether c _ t = ⊥

-- A statement that may not stand here: PROC; a role after an act; an act after QUIT, and for each command but `run` an
-- act other than QUIT.
abbrev pub IsTooLate : Command → Bool → Program → StatementWord → Type 0
IsTooLate c over p word.Proc = Unit {0}
IsTooLate c over p (word.Role r) = (has_role r p.roles ≡ false) × (p.acts ≢ [])
IsTooLate c over p word.Quit = over ≡ true
IsTooLate c over p _ = (over ≡ true) ⊎ (serves c false ≡ false)

-- StatementOrder: such a statement's word.
abbrev pub IsMisplaced : Command → Place → Program → Lexeme → Type 0
IsMisplaced c (place.Statement over) p t = (s : StatementWord) × NamesStatement s t × IsTooLate c over p s
IsMisplaced c _ p t = ⊥

-- The token is a fault of this kind in this place.
abbrev pub IsFault : Command → StmtKind → Place → Program → Lexeme → Type 0
IsFault c kind.NoProc q p t = (q ≡ place.Start) × (NamesStatement word.Proc t → ⊥)
IsFault c kind.UnknownWord q p t = (t.kind ≡ Word) × IsUnknown q t.bytes
IsFault c kind.OptionNotHere q p t = IsNotHere q t
IsFault c kind.RepeatedOption q p t = IsRepeated q p t
IsFault c kind.WrongValue q p t = IsWrong q t
IsFault c kind.MissingOption q p t = IsMissing c q t
IsFault c kind.WrongTogether q p t = IsTogether c q t
IsFault c kind.StatementOrder q p t = IsMisplaced c q p t
IsFault c _ q p t = ⊥

-- The end of the text is a fault of this kind in this place: no PROC, or a statement that is open.
abbrev pub IsEndFault : StmtKind → Place → Type 0
IsEndFault kind.NoProc place.Start = Unit {0}
IsEndFault kind.NoProc _ = ⊥
IsEndFault kind.MissingSemicolon place.Start = ⊥
IsEndFault kind.MissingSemicolon (place.Statement over) = ⊥
IsEndFault kind.MissingSemicolon _ = Unit {0}
IsEndFault _ q = ⊥

-- The first fault of the tokens, at a token after a beginning of a program or at the end.
abbrev pub FaultOf : Command → List Lexeme → ℕ → StmtFault → Type 0
FaultOf c ts end f =
    ((front : List Lexeme) × (t : Lexeme) × (back : List Lexeme) × (k : StmtKind) × (q : Place) × (p : Program)
    × (ts ≡ front ++ t ∷ back) × Stands c q p front × IsFault c k q p t × (f ≡ fault_at t.at k))
    ⊎ ((k : StmtKind) × (q : Place) × (p : Program) × Stands c q p ts × IsEndFault k q × (f ≡ fault_at end k))

-- The text has this as its first fault: it is too long, has a fault of tokens, or one of programs.
abbrev pub HasFault : Command → List ℕ → StmtFault → Type 0
HasFault c text f =
    ((1048576 < length text) × (f ≡ fault_at 1048576 kind.TooLong))
    ⊎ ((length text ≤ 1048576) × (g : TextFault) × tokens.HasFault text g × (f ≡ fault_of g))
    ⊎ ((length text ≤ 1048576) × (ts : List Token) × AreTokens text ts × FaultOf c (lexemes text ts) (length text) f)
