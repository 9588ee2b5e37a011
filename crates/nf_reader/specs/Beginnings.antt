-- The beginnings of programs: what stands before each place where a token is wanted. The table of faults rests on it.
use Rattle.std.specs.Prelude.{◌≡◌, ℕ, Bool, true, false, List, [], ◌∷◌, ◌++◌, map, None}
use Rattle.std.specs.List.{list_any}
use Rattle.nf_text.specs.declared.token.TokenKind.TheVariants.{Word, Equals}
use Rattle.nf_text.specs.Tokens.{Lexeme}
use Rattle.nf_program.specs.declared.program.Command.{Command}
use Rattle.nf_program.specs.declared.program.Command.TheVariants.{Run, Check, Again, Export}
use Rattle.nf_program.specs.declared.program.Program.{Program}
use Rattle.nf_program.specs.declared.program.Role.{Role}
use Rattle.nf_program.specs.declared.program.ResetOption.{ResetOption}
use Rattle.nf_program.specs.declared.program.SaveItem.{SaveItem}
use Rattle.nf_program.specs.declared.words.StatementWord.{StatementWord}
use Rattle.nf_program.specs.declared.words.StatementWord.TheVariants as word
use Rattle.nf_program.specs.declared.words.OptionWord.{OptionWord}
use Rattle.nf_program.specs.declared.settings.Setting.{Setting}
use Rattle.nf_reader.specs.declared.places.Head.{Head}
use Rattle.nf_reader.specs.declared.places.Head.TheVariants as head
use Rattle.nf_reader.specs.declared.places.Plain.{Plain}
use Rattle.nf_reader.specs.declared.places.Plain.TheVariants as plain
use Rattle.nf_reader.specs.declared.places.Place.{Place}
use Rattle.nf_reader.specs.declared.places.Place.TheVariants as place
use Rattle.nf_program.specs.Values.{IsColumn}
use Rattle.nf_program.specs.Settings.{flag_of, is_apart, reset_setting, save_setting}
use Rattle.nf_program.specs.Programs.{no_program, is_netflow, is_given, has_role, is_quit}
use Rattle.nf_reader.specs.Opened.{belongs, plain_act}
use Rattle.nf_program.specs.Grammar.{NamesStatement, NamesOption, One, Each, AreSettings, ArePrints, AreShows, HasColumns, IsProgram}

-- the words before the options of a statement
abbrev pub IsHead : Head → List Lexeme → Type 0
IsHead head.Proc ts = (w : Lexeme) × (n : Lexeme) × (ts ≡ w ∷ n ∷ []) × NamesStatement word.Proc w × (n.kind ≡ Word) × (is_netflow n.bytes ≡ true)
IsHead head.Reset ts = One NamesStatement word.Reset ts
IsHead head.Save ts = One NamesStatement word.Save ts

-- The statement takes these options together.
abbrev pub Suits : Head → List Setting → Type 0
Suits head.Proc ss = is_apart ss ≡ true
Suits head.Reset ss = (os : List ResetOption) × (ss ≡ map reset_setting os)
Suits head.Save ss = (is : List SaveItem) × (ss ≡ map save_setting is)

-- The tokens are the beginning of a statement up to and with these options.
abbrev pub BeginsOptions : Head → List Setting → List Lexeme → Type 0
BeginsOptions h ss ts = (front : List Lexeme) × (back : List Lexeme) × (ts ≡ front ++ back) × IsHead h front × AreSettings ss back × Suits h ss

-- An option with a value may come after these.
abbrev pub MayCome : Head → List Setting → OptionWord → Type 0
MayCome h ss o = (belongs h ss o ≡ true) × (is_given o ss ≡ false) × (flag_of o ≡ None)

-- a statement's word and a part of its body
abbrev pub BeginsWith : StatementWord → (List Lexeme → Type 0) → List Lexeme → Type 0
BeginsWith s Body ts = (w : Lexeme) × (body : List Lexeme) × (ts ≡ w ∷ body) × NamesStatement s w × Body body

-- The names that are read leave the role statement in its form.
abbrev pub HasRoom : Role → List (List ℕ) → Type 0
HasRoom r [] = Unit {0}
HasRoom r (n ∷ ns) = HasColumns r (n ∷ ns)

-- The word of a statement that is its word alone.
abbrev pub plain_word : Plain → StatementWord
plain_word plain.Pivot = word.Pivot
plain_word plain.Run = word.Run
plain_word plain.Quit = word.Quit

-- The tokens are the open statement up to this place.
abbrev pub Begins : Place → List Lexeme → Type 0
Begins place.Start ts = ts ≡ []
Begins place.Netflow ts = One NamesStatement word.Proc ts
Begins (place.Options h ss) ts = BeginsOptions h ss ts
Begins (place.Equals h ss o) ts = (front : List Lexeme) × (w : Lexeme) × (ts ≡ front ++ w ∷ []) × BeginsOptions h ss front × NamesOption o w × MayCome h ss o
Begins (place.Value h ss o) ts = (front : List Lexeme) × (w : Lexeme) × (e : Lexeme) × (ts ≡ front ++ w ∷ e ∷ []) × BeginsOptions h ss front × NamesOption o w × MayCome h ss o × (e.kind ≡ Equals)
Begins (place.Statement over) ts = ts ≡ []
Begins (place.Columns r ns) ts = BeginsWith (word.Role r) (Each (One IsColumn) ns) ts × HasRoom r ns
Begins (place.Print is) ts = BeginsWith word.Print (ArePrints is) ts
Begins (place.Show is) ts = BeginsWith word.Show (AreShows is) ts
Begins (place.Alone s) ts = One NamesStatement (plain_word s) ts

-- an act may come: none after QUIT, and for each command but `run` none but QUIT
abbrev pub serves : Command → Bool → Bool
serves Run quit = true
serves Check quit = quit
serves Again quit = quit
serves Export quit = quit

-- An act may come after the statements of this program.
abbrev pub MayAct : Command → Bool → Program → Type 0
MayAct c quit p = (list_any is_quit p.acts ≡ false) × (serves c quit ≡ true)

-- A statement of options may come after the statements of this program.
abbrev pub MayHead : Command → Head → Program → Type 0
MayHead c head.Proc p = p ≡ no_program
MayHead c head.Reset p = MayAct c false p
MayHead c head.Save p = MayAct c false p

-- The open statement may stand after the statements of this program.
abbrev pub MayStand : Command → Place → Program → Type 0
MayStand c place.Start p = p ≡ no_program
MayStand c place.Netflow p = p ≡ no_program
MayStand c (place.Options h ss) p = MayHead c h p
MayStand c (place.Equals h ss o) p = MayHead c h p
MayStand c (place.Value h ss o) p = MayHead c h p
MayStand c (place.Statement over) p = over ≡ list_any is_quit p.acts
MayStand c (place.Columns r ns) p = (has_role r p.roles ≡ false) × (p.acts ≡ [])
MayStand c (place.Print is) p = MayAct c false p
MayStand c (place.Show is) p = MayAct c false p
MayStand c (place.Alone s) p = MayAct c (is_quit (plain_act s)) p

-- The statement is PROC.
abbrev pub is_proc : Head → Bool
is_proc head.Proc = true
is_proc head.Reset = false
is_proc head.Save = false

-- The place is in the PROC statement.
abbrev pub in_proc : Place → Bool
in_proc place.Start = true
in_proc place.Netflow = true
in_proc (place.Options h ss) = is_proc h
in_proc (place.Equals h ss o) = is_proc h
in_proc (place.Value h ss o) = is_proc h
in_proc _ = false

-- what stands before the open statement: nothing before PROC, else the statements of this program
abbrev pub IsBefore : Bool → Command → Program → List Lexeme → Type 0
IsBefore true c p ts = ts ≡ []
IsBefore false c p ts = IsProgram c p ts

-- The tokens are the beginning of a program up to this place: ended statements, which make this program, and the
-- open one.
abbrev pub Stands : Command → Place → Program → List Lexeme → Type 0
Stands c q p ts = (before : List Lexeme) × (opened : List Lexeme) × (ts ≡ before ++ opened) × IsBefore (in_proc q) c p before × MayStand c q p × Begins q opened
