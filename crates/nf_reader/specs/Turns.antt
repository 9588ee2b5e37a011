-- How the reader goes from token to token. Private functions promise it; that it reads the programs of the grammar and
-- finds the faults of the table is proved.
use Rattle.std.specs.Prelude.{ℕ, Bool, true, false, ◌&&◌, not, List, [], ◌∷◌, ◌++◌, Option, Some, None, option_map, Result, Ok, Err, if◌then◌else◌}
use Rattle.nf_text.specs.declared.token.TokenKind.{TokenKind}
use Rattle.nf_text.specs.declared.token.TokenKind.TheVariants.{Word, Equals, Semicolon}
use Rattle.nf_text.specs.Tokens.{Lexeme}
use Rattle.nf_program.specs.declared.program.Command.{Command}
use Rattle.nf_program.specs.declared.program.Command.TheVariants.{Run, Check, Again, Export}
use Rattle.nf_program.specs.declared.program.Program.{Program}
use Rattle.nf_program.specs.declared.program.Statement.TheVariants as act
use Rattle.nf_program.specs.declared.program.PrintItem.{PrintItem}
use Rattle.nf_program.specs.declared.program.ShowItem.{ShowItem}
use Rattle.nf_program.specs.declared.program.Role.{Role}
use Rattle.nf_program.specs.declared.program.StmtFault.{StmtFault}
use Rattle.nf_program.specs.declared.program.StmtKind.{StmtKind}
use Rattle.nf_program.specs.declared.program.StmtKind.TheVariants as kind
use Rattle.nf_program.specs.declared.words.StatementWord.{StatementWord}
use Rattle.nf_program.specs.declared.words.StatementWord.TheVariants as word
use Rattle.nf_program.specs.declared.words.OptionWord.{OptionWord}
use Rattle.nf_program.specs.declared.words.OptionWord.TheVariants as option
use Rattle.nf_program.specs.declared.settings.Setting.{Setting}
use Rattle.nf_program.specs.declared.settings.Setting.TheVariants as setting
use Rattle.nf_reader.specs.declared.places.Head.{Head}
use Rattle.nf_reader.specs.declared.places.Head.TheVariants as head
use Rattle.nf_reader.specs.declared.places.Plain.{Plain}
use Rattle.nf_reader.specs.declared.places.Plain.TheVariants as plain
use Rattle.nf_reader.specs.declared.places.Place.{Place}
use Rattle.nf_reader.specs.declared.places.Place.TheVariants as place
use Rattle.nf_reader.specs.declared.places.Turn.{Turn}
use Rattle.nf_reader.specs.declared.places.Turn.TheVariants as turn
use Rattle.nf_reader.specs.declared.places.Reader.{Reader}
use Rattle.nf_program.specs.Words.{statement_of, option_of, print_of, show_of}
use Rattle.nf_program.specs.ReadValues.{set_name_of, column_of, node_of, amount_of, bound_of, count_for, type_of, rule_of}
use Rattle.nf_program.specs.Settings.{flag_of, options_of, lacks, are_wrong_together, resets_of, saves_of}
use Rattle.nf_program.specs.Programs.{is_empty, has_role, takes_list, has_print, has_show, is_quit, is_netflow, no_program, is_given}
use Rattle.nf_reader.specs.Opened.{plain_act, belongs}

-- What a token brings, or the kind of its fault.
abbrev pub Step : Type 0 → Type 0
Step A = Result A StmtKind

-- the fault if the test holds, else this
abbrev pub unless : {A : Type 0} → Bool → StmtKind → Step A → Step A
unless b k x = if b then Err k else x

-- the fault if nothing is found, else this of what is found
abbrev pub found_or : {A B : Type 0} → StmtKind → Option A → (A → Step B) → Step B
found_or k None f = Err k
found_or k (Some a) f = f a

-- ---- PROC's first words

-- The word PROC begins a program, and no other does.
abbrev pub first_word : Option StatementWord → Step Turn
first_word (Some word.Proc) = Ok (turn.Goes place.Netflow)
first_word _ = Err kind.NoProc

-- A token where PROC must stand.
unfoldable pub at_start : TokenKind → List ℕ → Step Turn
at_start Word bytes = first_word (statement_of bytes)
at_start _ bytes = Err kind.NoProc

-- A token where NETFLOW must stand.
unfoldable pub at_netflow : TokenKind → List ℕ → Step Turn
at_netflow Word bytes = unless (not (is_netflow bytes)) kind.UnknownWord (Ok (turn.Goes (place.Options head.Proc [])))
at_netflow _ bytes = Err kind.WrongValue

-- ---- options

-- a flag counts at once, the others wait for `=`
abbrev pub next_place : Head → List Setting → OptionWord → Option Setting → Place
next_place h ss o None = place.Equals h ss o
next_place h ss o (Some s) = place.Options h (ss ++ s ∷ [])

-- An option that the statement takes, if it is not given yet.
abbrev pub new_option : Head → List Setting → OptionWord → Step Turn
new_option h ss o = unless (is_given o ss) kind.RepeatedOption (Ok (turn.Goes (next_place h ss o (flag_of o))))

-- A word where an option may stand.
unfoldable pub option_word : Head → List Setting → Option OptionWord → Step Turn
option_word h ss m = found_or kind.UnknownWord m (λ o. unless (not (belongs h ss o)) kind.OptionNotHere (new_option h ss o))

-- The semicolon after the options.
unfoldable pub end_options : Command → Head → List Setting → Step Turn
end_options c head.Proc ss = unless (lacks c (options_of ss)) kind.MissingOption (unless (are_wrong_together (options_of ss)) kind.WrongTogether (Ok (turn.Proc (options_of ss))))
end_options c head.Reset ss = Ok (turn.Act (act.Reset (resets_of ss)))
end_options c head.Save ss = unless (is_empty ss) kind.WrongValue (Ok (turn.Act (act.Save (saves_of ss))))

-- A token where an option or the semicolon may stand.
unfoldable pub at_options : Command → Head → List Setting → TokenKind → List ℕ → Step Turn
at_options c h ss Word bytes = option_word h ss (option_of bytes)
at_options c h ss Semicolon bytes = end_options c h ss
at_options c h ss _ bytes = Err kind.WrongValue

-- A token where `=` must stand.
unfoldable pub at_equals : Head → List Setting → OptionWord → TokenKind → Step Turn
at_equals h ss o Equals = Ok (turn.Goes (place.Value h ss o))
at_equals h ss o _ = Err kind.WrongValue

-- the setting that a token makes of an option
unfoldable pub value_of : OptionWord → TokenKind → List ℕ → Option Setting
value_of (option.Input o) k bytes = option_map (setting.Input o) (set_name_of k bytes)
value_of (option.Amount o) k bytes = option_map (setting.Amount o) (amount_of k bytes)
value_of option.DefCapacity k bytes = option_map setting.DefCapacity (bound_of k bytes)
value_of option.DefConType k bytes = option_map setting.DefConType (type_of k bytes)
value_of (option.Node o) k bytes = option_map (setting.Node o) (node_of k bytes)
value_of (option.Output o) k bytes = option_map (setting.Output o) (set_name_of k bytes)
value_of (option.Count o) k bytes = option_map (setting.Count o) (count_for o k bytes)
value_of (option.Rule o) k bytes = option_map (setting.Rule o) (rule_of k bytes)
value_of (option.Flag o) k bytes = None
value_of (option.Switch o b) k bytes = None

-- A token where the option's value must stand.
unfoldable pub at_value : Head → List Setting → OptionWord → TokenKind → List ℕ → Step Turn
at_value h ss o k bytes = found_or kind.WrongValue (value_of o k bytes) (λ s. Ok (turn.Goes (place.Options h (ss ++ s ∷ []))))

-- ---- statements

-- The place after the word of an act that may come.
abbrev pub act_place : Bool → Place → Step Turn
act_place late p = unless late kind.StatementOrder (Ok (turn.Goes p))

-- an act other than QUIT comes too late after QUIT, and for each command but `run` in every place
abbrev pub is_late : Command → Bool → Bool
is_late Run over = over
is_late Check over = true
is_late Again over = true
is_late Export over = true

-- The place after a statement's word.
unfoldable pub opens : Command → Bool → Program → StatementWord → Step Turn
opens c over p word.Proc = Err kind.StatementOrder
opens c over p (word.Role r) = unless (has_role r p.roles) kind.RepeatedOption (unless (not (is_empty p.acts)) kind.StatementOrder (Ok (turn.Goes (place.Columns r []))))
opens c over p word.Reset = act_place (is_late c over) (place.Options head.Reset [])
opens c over p word.Pivot = act_place (is_late c over) (place.Alone plain.Pivot)
opens c over p word.Print = act_place (is_late c over) (place.Print [])
opens c over p word.Show = act_place (is_late c over) (place.Show [])
opens c over p word.Save = act_place (is_late c over) (place.Options head.Save [])
opens c over p word.Run = act_place (is_late c over) (place.Alone plain.Run)
opens c over p word.Quit = act_place over (place.Alone plain.Quit)

-- A token where a statement may stand.
unfoldable pub at_statement : Command → Bool → Program → TokenKind → List ℕ → Step Turn
at_statement c over p Word bytes = found_or kind.UnknownWord (statement_of bytes) (opens c over p)
at_statement c over p Semicolon bytes = Ok (turn.Goes (place.Statement over))
at_statement c over p _ bytes = Err kind.WrongValue

-- one column name is enough for most roles
abbrev pub is_full : Role → List (List ℕ) → Bool
is_full r ns = not (is_empty ns) && not (takes_list r)

-- A column name after those read.
abbrev pub add_column : Role → List (List ℕ) → TokenKind → List ℕ → Step Turn
add_column r ns k bytes = unless (is_full r ns) kind.WrongValue (found_or kind.WrongValue (column_of k bytes) (λ n. Ok (turn.Goes (place.Columns r (ns ++ n ∷ [])))))

-- A token where a column name or the semicolon may stand.
unfoldable pub at_columns : Role → List (List ℕ) → TokenKind → List ℕ → Step Turn
at_columns r ns Semicolon bytes = unless (is_empty ns) kind.WrongValue (Ok (turn.Role r ns))
at_columns r ns k bytes = add_column r ns k bytes

-- A word where an item of PRINT may stand.
unfoldable pub print_word : List PrintItem → Option PrintItem → Step Turn
print_word is m = found_or kind.UnknownWord m (λ i. unless (has_print i is) kind.RepeatedOption (Ok (turn.Goes (place.Print (is ++ i ∷ [])))))

-- A token where an item of PRINT or the semicolon may stand.
unfoldable pub at_print : List PrintItem → TokenKind → List ℕ → Step Turn
at_print is Word bytes = print_word is (print_of bytes)
at_print is Semicolon bytes = unless (is_empty is) kind.WrongValue (Ok (turn.Act (act.Print is)))
at_print is _ bytes = Err kind.WrongValue

-- A word where an item of SHOW may stand.
unfoldable pub show_word : List ShowItem → Option ShowItem → Step Turn
show_word is m = found_or kind.UnknownWord m (λ i. unless (has_show i is) kind.RepeatedOption (Ok (turn.Goes (place.Show (is ++ i ∷ [])))))

-- A token where an item of SHOW or the semicolon may stand.
unfoldable pub at_show : List ShowItem → TokenKind → List ℕ → Step Turn
at_show is Word bytes = show_word is (show_of bytes)
at_show is Semicolon bytes = unless (is_empty is) kind.WrongValue (Ok (turn.Act (act.Show is)))
at_show is _ bytes = Err kind.WrongValue

-- A token after a statement that is its word alone.
unfoldable pub at_alone : Plain → TokenKind → Step Turn
at_alone s Semicolon = Ok (turn.Act (plain_act s))
at_alone s Word = Err kind.UnknownWord
at_alone s _ = Err kind.WrongValue

-- ---- a token

-- what the token brings in this place
unfoldable pub turn_at : Command → Place → Program → TokenKind → List ℕ → Step Turn
turn_at c place.Start p k bytes = at_start k bytes
turn_at c place.Netflow p k bytes = at_netflow k bytes
turn_at c (place.Options h ss) p k bytes = at_options c h ss k bytes
turn_at c (place.Equals h ss o) p k bytes = at_equals h ss o k
turn_at c (place.Value h ss o) p k bytes = at_value h ss o k bytes
turn_at c (place.Statement over) p k bytes = at_statement c over p k bytes
turn_at c (place.Columns r ns) p k bytes = at_columns r ns k bytes
turn_at c (place.Print is) p k bytes = at_print is k bytes
turn_at c (place.Show is) p k bytes = at_show is k bytes
turn_at c (place.Alone s) p k bytes = at_alone s k

-- the reader after it
abbrev pub behind : Program → Turn → Reader
behind p (turn.Goes q) = record { place = q; program = p }
behind p (turn.Proc o) = record { place = place.Statement false; program = record p { proc = o } }
behind p (turn.Role r ns) = record { place = place.Statement false; program = record p { roles = p.roles ++ (r, ns) ∷ [] } }
behind p (turn.Act a) = record { place = place.Statement (is_quit a); program = record p { acts = p.acts ++ a ∷ [] } }

-- what the end of the text brings
unfoldable pub end_at : Place → Program → Step Program
end_at place.Start p = Err kind.NoProc
end_at (place.Statement over) p = Ok p
end_at _ p = Err kind.MissingSemicolon

-- ---- tokens

-- A program, or the first fault with its place.
abbrev pub Reads : Type 0
Reads = Result Program StmtFault

-- the fault of this kind, here
abbrev pub fault_at : ℕ → StmtKind → StmtFault
fault_at at k = record { at = at; kind = k }

infixl 10 ◌>>=◌
abbrev pub ◌>>=◌ : {A B E : Type 0} → Result A E → (A → Result B E) → Result B E
(Ok x) >>= f = f x
(Err e) >>= f = Err e

-- the same, here
abbrev pub here : {A : Type 0} → ℕ → Step A → Result A StmtFault
here at (Ok x) = Ok x
here at (Err k) = Err (fault_at at k)

-- the reader after the token
abbrev pub step : Command → Reader → TokenKind → List ℕ → Step Reader
step c r k bytes = turn_at c r.place r.program k bytes >>= λ u. Ok (behind r.program u)

-- the program of the tokens, or their first fault; the text ends at `end`
abbrev pub read : Command → ℕ → Reader → List Lexeme → Reads
read c end r [] = here end (end_at r.place r.program)
read c end r (t ∷ ts) = here t.at (step c r t.kind t.bytes) >>= λ q. read c end q ts

-- The reader before the first token.
abbrev pub start : Reader
start = record { place = place.Start; program = no_program }
