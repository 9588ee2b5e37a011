-- What the table calls a fault is one for the reader.
use Rattle.std.proofs.Common.{◌≡◌, ◌≢◌, ℕ, ◌⊎◌, inl, inr, Bool, true, false, not, List, [], ◌∷◌, ◌++◌, Option, Some, None, Ok, refl, ap, ◌∙◌}
use Rattle.nf_text.specs.declared.token.TokenKind.{TokenKind}
use Rattle.nf_text.specs.declared.token.TokenKind.TheVariants.{Word, Number, Quoted, Equals, Semicolon}
use Rattle.nf_text.specs.Tokens.{Lexeme}
use Rattle.nf_program.specs.declared.program.Command.{Command}
use Rattle.nf_program.specs.declared.program.Command.TheVariants.{Run, Check, Again, Export}
use Rattle.nf_program.specs.declared.program.Program.{Program}
use Rattle.nf_program.specs.declared.program.Role.{Role}
use Rattle.nf_program.specs.declared.program.Statement.TheVariants as act
use Rattle.nf_program.specs.declared.program.PrintItem.{PrintItem}
use Rattle.nf_program.specs.declared.program.ShowItem.{ShowItem}
use Rattle.nf_program.specs.declared.program.StmtKind.{StmtKind}
use Rattle.nf_program.specs.declared.program.StmtKind.TheVariants as kind
use Rattle.nf_program.specs.declared.words.StatementWord.{StatementWord}
use Rattle.nf_program.specs.declared.words.StatementWord.TheVariants as word
use Rattle.nf_program.specs.declared.words.OptionWord.{OptionWord}
use Rattle.nf_program.specs.declared.settings.Setting.{Setting}
use Rattle.nf_reader.specs.declared.places.Head.{Head}
use Rattle.nf_reader.specs.declared.places.Head.TheVariants as head
use Rattle.nf_reader.specs.declared.places.Plain.{Plain}
use Rattle.nf_reader.specs.declared.places.Plain.TheVariants as plain
use Rattle.nf_reader.specs.declared.places.Place.{Place}
use Rattle.nf_reader.specs.declared.places.Place.TheVariants as place
use Rattle.nf_reader.specs.declared.places.Turn.TheVariants as turn
use Rattle.nf_program.specs.Words.{statement_of}
use Rattle.nf_program.specs.ReadValues.{column_of}
use Rattle.nf_program.specs.Values.{IsColumn}
use Rattle.nf_program.specs.Settings.{flag_of, options_of, are_wrong_together}
use Rattle.nf_program.specs.Programs.{is_empty, takes_list}
use Rattle.nf_reader.specs.Opened.{belongs}
use Rattle.nf_reader.specs.Turns.{unless, found_or, first_word, at_start, at_netflow, next_place, new_option, option_word, end_options, at_options, at_equals, value_of, at_value, act_place, is_late, opens, at_statement, is_full, add_column, at_columns, print_word, at_print, show_word, at_show, at_alone, turn_at}
use Rattle.nf_program.specs.Grammar.{NamesStatement, NamesOption}
use Rattle.nf_reader.specs.Beginnings.{serves}
use Rattle.nf_reader.specs.Faults.{IsUnknown, IsNotHere, IsRepeated, IsNoWord, IsWrong, IsMissing, IsTogether, IsTooLate, IsMisplaced, IsFault}
use Rattle.nf_program.proofs.ValueFacts.{column_sound}
use Rattle.nf_reader.proofs.SettingFacts.{value_sound}
use Rattle.nf_reader.proofs.Sound.{failed}

module _ (c : Command) (p : Program) (t : Lexeme) where
  -- the token is this fault here
  Fails : Place → StmtKind → Type 0
  Fails q k = turn_at c q p t.kind t.bytes ≡ failed k

  no_proc_by : (m : Option StatementWord) → (m ≡ Some word.Proc → ⊥) → first_word m ≡ failed kind.NoProc
  no_proc_by (Some word.Proc) h = absurd (h refl)
  no_proc_by None h = refl
  no_proc_by (Some (word.Role r)) h = refl
  no_proc_by (Some word.Reset) h = refl
  no_proc_by (Some word.Pivot) h = refl
  no_proc_by (Some word.Print) h = refl
  no_proc_by (Some word.Show) h = refl
  no_proc_by (Some word.Save) h = refl
  no_proc_by (Some word.Run) h = refl
  no_proc_by (Some word.Quit) h = refl

  no_proc : (k : TokenKind) → t.kind ≡ k → (NamesStatement word.Proc t → ⊥) → at_start k t.bytes ≡ failed kind.NoProc
  unfolding at_start
  no_proc Word k h = no_proc_by (statement_of t.bytes) (λ e. h (k, e))
  no_proc Number k h = refl
  no_proc Quoted k h = refl
  no_proc Equals k h = refl
  no_proc Semicolon k h = refl

  unknown : (q : Place) → t.kind ≡ Word → IsUnknown q t.bytes → Fails q kind.UnknownWord
  unfolding Fails turn_at at_netflow at_options option_word at_statement at_print print_word at_show show_word at_alone
  unknown place.Start k h = absurd h
  unknown place.Netflow k h = ap (λ (x : TokenKind). at_netflow x t.bytes) k ∙ ap (λ (b : Bool). unless (not b) kind.UnknownWord (Ok (turn.Goes (place.Options head.Proc [])))) h
  unknown (place.Options o ss) k h = ap (λ (x : TokenKind). at_options c o ss x t.bytes) k ∙ ap (option_word o ss) h
  unknown (place.Equals o ss w) k h = absurd h
  unknown (place.Value o ss w) k h = absurd h
  unknown (place.Statement over) k h = ap (λ (x : TokenKind). at_statement c over p x t.bytes) k ∙ ap (λ (m : Option StatementWord). found_or kind.UnknownWord m (opens c over p)) h
  unknown (place.Columns r ns) k h = absurd h
  unknown (place.Print is) k h = ap (λ (x : TokenKind). at_print is x t.bytes) k ∙ ap (print_word is) h
  unknown (place.Show is) k h = ap (λ (x : TokenKind). at_show is x t.bytes) k ∙ ap (show_word is) h
  unknown (place.Alone s) k h = ap (at_alone s) k

  option_step : (o : Head) (ss : List Setting) (w : OptionWord) → NamesOption w t → turn_at c (place.Options o ss) p t.kind t.bytes ≡ unless (not (belongs o ss w)) kind.OptionNotHere (new_option o ss w)
  unfolding turn_at at_options option_word
  option_step o ss w names = ap (λ (x : TokenKind). at_options c o ss x t.bytes) names.0 ∙ ap (option_word o ss) names.1

  word_step : (over : Bool) (s : StatementWord) → NamesStatement s t → turn_at c (place.Statement over) p t.kind t.bytes ≡ opens c over p s
  unfolding turn_at at_statement
  word_step over s names = ap (λ (k : TokenKind). at_statement c over p k t.bytes) names.0 ∙ ap (λ (m : Option StatementWord). found_or kind.UnknownWord m (opens c over p)) names.1

  not_here : (q : Place) → IsNotHere q t → Fails q kind.OptionNotHere
  unfolding Fails
  not_here (place.Options o ss) h = option_step o ss h.0 h.1 ∙ ap (λ (b : Bool). unless (not b) kind.OptionNotHere (new_option o ss h.0)) h.2
  not_here place.Start h = absurd h
  not_here place.Netflow h = absurd h
  not_here (place.Equals o ss w) h = absurd h
  not_here (place.Value o ss w) h = absurd h
  not_here (place.Statement over) h = absurd h
  not_here (place.Columns r ns) h = absurd h
  not_here (place.Print is) h = absurd h
  not_here (place.Show is) h = absurd h
  not_here (place.Alone s) h = absurd h

  repeated : (q : Place) → IsRepeated q p t → Fails q kind.RepeatedOption
  unfolding Fails turn_at opens at_print print_word at_show show_word
  repeated (place.Options o ss) h =
      option_step o ss h.0 h.1 ∙ ap (λ (b : Bool). unless (not b) kind.OptionNotHere (new_option o ss h.0)) h.2 ∙ ap (λ (b : Bool). unless b kind.RepeatedOption (Ok (turn.Goes (next_place o ss h.0 (flag_of h.0))))) h.3
  repeated (place.Statement over) h =
      word_step over (word.Role h.0) h.1 ∙ ap (λ (b : Bool). unless b kind.RepeatedOption (unless (not (is_empty p.acts)) kind.StatementOrder (Ok (turn.Goes (place.Columns h.0 []))))) h.2
  repeated (place.Print is) h =
      ap (λ (x : TokenKind). at_print is x t.bytes) h.1.0 ∙ ap (print_word is) h.1.1 ∙ ap (λ (b : Bool). unless b kind.RepeatedOption (Ok (turn.Goes (place.Print (is ++ h.0 ∷ []))))) h.2
  repeated (place.Show is) h =
      ap (λ (x : TokenKind). at_show is x t.bytes) h.1.0 ∙ ap (show_word is) h.1.1 ∙ ap (λ (b : Bool). unless b kind.RepeatedOption (Ok (turn.Goes (place.Show (is ++ h.0 ∷ []))))) h.2
  repeated place.Start h = absurd h
  repeated place.Netflow h = absurd h
  repeated (place.Equals o ss w) h = absurd h
  repeated (place.Value o ss w) h = absurd h
  repeated (place.Columns r ns) h = absurd h
  repeated (place.Alone s) h = absurd h

  -- ---- wrong values

  wrong : StmtKind
  wrong = kind.WrongValue

  wrong_netflow : (k : TokenKind) → t.kind ≡ k → t.kind ≢ Word → at_netflow k t.bytes ≡ failed kind.WrongValue
  unfolding at_netflow
  wrong_netflow Word k h = absurd (h k)
  wrong_netflow Number k h = refl
  wrong_netflow Quoted k h = refl
  wrong_netflow Equals k h = refl
  wrong_netflow Semicolon k h = refl

  wrong_options : (k : TokenKind) (o : Head) (ss : List Setting) → t.kind ≡ k → IsNoWord t → at_options c o ss k t.bytes ≡ failed kind.WrongValue
  unfolding at_options
  wrong_options Word o ss k h = absurd (h.0 k)
  wrong_options Semicolon o ss k h = absurd (h.1 k)
  wrong_options Number o ss k h = refl
  wrong_options Quoted o ss k h = refl
  wrong_options Equals o ss k h = refl

  wrong_equals : (k : TokenKind) (o : Head) (ss : List Setting) (w : OptionWord) → t.kind ≡ k → t.kind ≢ Equals → at_equals o ss w k ≡ failed kind.WrongValue
  unfolding at_equals
  wrong_equals Equals o ss w k h = absurd (h k)
  wrong_equals Word o ss w k h = refl
  wrong_equals Number o ss w k h = refl
  wrong_equals Quoted o ss w k h = refl
  wrong_equals Semicolon o ss w k h = refl

  wrong_value : (o : Head) (ss : List Setting) (w : OptionWord) (m : Option Setting) → value_of w t.kind t.bytes ≡ m → IsWrong (place.Value o ss w) t → found_or kind.WrongValue m (λ s. Ok (turn.Goes (place.Options o (ss ++ s ∷ [])))) ≡ failed kind.WrongValue
  wrong_value o ss w None e h = refl
  wrong_value o ss w (Some s) e h = let v = value_sound w s t e in absurd (h s v.0 v.1)

  wrong_statement : (k : TokenKind) (over : Bool) → t.kind ≡ k → IsNoWord t → at_statement c over p k t.bytes ≡ failed kind.WrongValue
  unfolding at_statement
  wrong_statement Word over k h = absurd (h.0 k)
  wrong_statement Semicolon over k h = absurd (h.1 k)
  wrong_statement Number over k h = refl
  wrong_statement Quoted over k h = refl
  wrong_statement Equals over k h = refl

  no_column : (r : Role) (ns : List (List ℕ)) (m : Option (List ℕ)) → column_of t.kind t.bytes ≡ m → ((n : List ℕ) → IsColumn n t → ⊥) → found_or kind.WrongValue m (λ n. Ok (turn.Goes (place.Columns r (ns ++ n ∷ [])))) ≡ failed kind.WrongValue
  no_column r ns None e h = refl
  no_column r ns (Some n) e h = absurd (h n (column_sound n t e))

  full_by : (r : Role) (ns : List (List ℕ)) → ns ≢ [] → takes_list r ≡ false → is_full r ns ≡ true
  full_by r [] some e = absurd (some refl)
  full_by r (n ∷ ns) some e = ap not e

  wrong_column : (r : Role) (ns : List (List ℕ)) (b : Bool) → is_full r ns ≡ b → ((ns ≢ []) × (takes_list r ≡ false)) ⊎ ((n : List ℕ) → IsColumn n t → ⊥) → unless b kind.WrongValue (found_or kind.WrongValue (column_of t.kind t.bytes) (λ n. Ok (turn.Goes (place.Columns r (ns ++ n ∷ []))))) ≡ failed kind.WrongValue
  wrong_column r ns true e h = refl
  wrong_column r ns false e (inl full) = let yes_full = full_by r ns full.0 full.1 in absurd cc
  wrong_column r ns false e (inr none) = no_column r ns (column_of t.kind t.bytes) refl none

  other_column : (k : TokenKind) (r : Role) (ns : List (List ℕ)) → t.kind ≡ k → t.kind ≢ Semicolon → at_columns r ns k t.bytes ≡ add_column r ns k t.bytes
  unfolding at_columns
  other_column Semicolon r ns k h = absurd (h k)
  other_column Word r ns k h = refl
  other_column Number r ns k h = refl
  other_column Quoted r ns k h = refl
  other_column Equals r ns k h = refl

  wrong_print : (k : TokenKind) (is : List PrintItem) → t.kind ≡ k → IsNoWord t → at_print is k t.bytes ≡ failed kind.WrongValue
  unfolding at_print
  wrong_print Word is k h = absurd (h.0 k)
  wrong_print Semicolon is k h = absurd (h.1 k)
  wrong_print Number is k h = refl
  wrong_print Quoted is k h = refl
  wrong_print Equals is k h = refl

  wrong_show : (k : TokenKind) (is : List ShowItem) → t.kind ≡ k → IsNoWord t → at_show is k t.bytes ≡ failed kind.WrongValue
  unfolding at_show
  wrong_show Word is k h = absurd (h.0 k)
  wrong_show Semicolon is k h = absurd (h.1 k)
  wrong_show Number is k h = refl
  wrong_show Quoted is k h = refl
  wrong_show Equals is k h = refl

  wrong_alone : (k : TokenKind) (s : Plain) → t.kind ≡ k → IsNoWord t → at_alone s k ≡ failed kind.WrongValue
  unfolding at_alone
  wrong_alone Word s k h = absurd (h.0 k)
  wrong_alone Semicolon s k h = absurd (h.1 k)
  wrong_alone Number s k h = refl
  wrong_alone Quoted s k h = refl
  wrong_alone Equals s k h = refl

  wrong_fails : (q : Place) → IsWrong q t → Fails q kind.WrongValue
  unfolding Fails turn_at at_value at_options end_options at_columns at_print at_show
  wrong_fails place.Start h = absurd h
  wrong_fails place.Netflow h = wrong_netflow t.kind refl h
  wrong_fails (place.Options o ss) (inl h) = wrong_options t.kind o ss refl h
  wrong_fails (place.Options o ss) (inr h) =
      ap (λ (x : TokenKind). at_options c o ss x t.bytes) h.2 ∙ (λ i. end_options c (h.0 i) (h.1 i))
  wrong_fails (place.Equals o ss w) h = wrong_equals t.kind o ss w refl h
  wrong_fails (place.Value o ss w) h = wrong_value o ss w (value_of w t.kind t.bytes) refl h
  wrong_fails (place.Statement over) h = wrong_statement t.kind over refl h
  wrong_fails (place.Columns r ns) (inl h) = ap (λ (x : TokenKind). at_columns r ns x t.bytes) h.1 ∙ ap (λ (x : List (List ℕ)). unless (is_empty x) kind.WrongValue (Ok (turn.Role r x))) h.0
  wrong_fails (place.Columns r ns) (inr h) = other_column t.kind r ns refl h.0 ∙ wrong_column r ns (is_full r ns) refl h.1
  wrong_fails (place.Print is) (inl h) = wrong_print t.kind is refl h
  wrong_fails (place.Print is) (inr h) = ap (λ (x : TokenKind). at_print is x t.bytes) h.1 ∙ ap (λ (x : List PrintItem). unless (is_empty x) kind.WrongValue (Ok (turn.Act (act.Print x)))) h.0
  wrong_fails (place.Show is) (inl h) = wrong_show t.kind is refl h
  wrong_fails (place.Show is) (inr h) = ap (λ (x : TokenKind). at_show is x t.bytes) h.1 ∙ ap (λ (x : List ShowItem). unless (is_empty x) kind.WrongValue (Ok (turn.Act (act.Show x)))) h.0
  wrong_fails (place.Alone s) h = wrong_alone t.kind s refl h

  -- ---- missing options, and statements in the wrong place

  missing : (q : Place) → IsMissing c q t → Fails q kind.MissingOption
  unfolding Fails turn_at at_options end_options
  missing (place.Options head.Proc ss) h =
      ap (λ (x : TokenKind). at_options c head.Proc ss x t.bytes) h.0 ∙ ap (λ (b : Bool). unless b kind.MissingOption (unless (are_wrong_together (options_of ss)) kind.WrongTogether (Ok (turn.Proc (options_of ss))))) h.1
  missing (place.Options head.Reset ss) h = absurd h
  missing (place.Options head.Save ss) h = absurd h
  missing place.Start h = absurd h
  missing place.Netflow h = absurd h
  missing (place.Equals o ss w) h = absurd h
  missing (place.Value o ss w) h = absurd h
  missing (place.Statement over) h = absurd h
  missing (place.Columns r ns) h = absurd h
  missing (place.Print is) h = absurd h
  missing (place.Show is) h = absurd h
  missing (place.Alone s) h = absurd h

  together : (q : Place) → IsTogether c q t → Fails q kind.WrongTogether
  unfolding Fails turn_at at_options end_options
  together (place.Options head.Proc ss) h =
      ap (λ (x : TokenKind). at_options c head.Proc ss x t.bytes) h.0
      ∙ ap (λ (b : Bool). unless b kind.MissingOption (unless (are_wrong_together (options_of ss)) kind.WrongTogether (Ok (turn.Proc (options_of ss))))) h.1
      ∙ ap (λ (b : Bool). unless b kind.WrongTogether (Ok (turn.Proc (options_of ss)))) h.2
  together (place.Options head.Reset ss) h = absurd h
  together (place.Options head.Save ss) h = absurd h
  together place.Start h = absurd h
  together place.Netflow h = absurd h
  together (place.Equals o ss w) h = absurd h
  together (place.Value o ss w) h = absurd h
  together (place.Statement over) h = absurd h
  together (place.Columns r ns) h = absurd h
  together (place.Print is) h = absurd h
  together (place.Show is) h = absurd h
  together (place.Alone s) h = absurd h

  late_by : (c : Command) (over : Bool) → (over ≡ true) ⊎ (serves c false ≡ false) → is_late c over ≡ true
  late_by Run over (inl e) = e
  late_by Run over (inr e) = absurd cc
  late_by Check over h = refl
  late_by Again over h = refl
  late_by Export over h = refl

  late_act : (over : Bool) (r : Place) → (over ≡ true) ⊎ (serves c false ≡ false) → act_place (is_late c over) r ≡ failed kind.StatementOrder
  late_act over r h = ap (λ (b : Bool). unless b kind.StatementOrder (Ok (turn.Goes r))) (late_by c over h)

  not_empty : {A : Type 0} (xs : List A) → xs ≢ [] → is_empty xs ≡ false
  not_empty [] h = absurd (h refl)
  not_empty (x ∷ xs) h = refl

  too_late : (over : Bool) (s : StatementWord) → IsTooLate c over p s → opens c over p s ≡ failed kind.StatementOrder
  unfolding opens
  too_late over word.Proc h = refl
  too_late over (word.Role r) h =
      ap (λ (b : Bool). unless b kind.RepeatedOption (unless (not (is_empty p.acts)) kind.StatementOrder (Ok (turn.Goes (place.Columns r []))))) h.0
      ∙ ap (λ (b : Bool). unless (not b) kind.StatementOrder (Ok (turn.Goes (place.Columns r [])))) (not_empty p.acts h.1)
  too_late over word.Reset h = late_act over (place.Options head.Reset []) h
  too_late over word.Pivot h = late_act over (place.Alone plain.Pivot) h
  too_late over word.Print h = late_act over (place.Print []) h
  too_late over word.Show h = late_act over (place.Show []) h
  too_late over word.Save h = late_act over (place.Options head.Save []) h
  too_late over word.Run h = late_act over (place.Alone plain.Run) h
  too_late over word.Quit h = ap (λ (b : Bool). unless b kind.StatementOrder (Ok (turn.Goes (place.Alone plain.Quit)))) h

  misplaced : (q : Place) → IsMisplaced c q p t → Fails q kind.StatementOrder
  unfolding Fails
  misplaced (place.Statement over) h = word_step over h.0 h.1 ∙ too_late over h.0 h.2
  misplaced place.Start h = absurd h
  misplaced place.Netflow h = absurd h
  misplaced (place.Options o ss) h = absurd h
  misplaced (place.Equals o ss w) h = absurd h
  misplaced (place.Value o ss w) h = absurd h
  misplaced (place.Columns r ns) h = absurd h
  misplaced (place.Print is) h = absurd h
  misplaced (place.Show is) h = absurd h
  misplaced (place.Alone s) h = absurd h

  -- a fault of the table
  pub fault_fails : (k : StmtKind) (q : Place) → IsFault c k q p t → turn_at c q p t.kind t.bytes ≡ failed k
  unfolding Fails turn_at
  fault_fails kind.NoProc q h = ap (λ (x : Place). turn_at c x p t.kind t.bytes) h.0 ∙ no_proc t.kind refl h.1
  fault_fails kind.UnknownWord q h = unknown q h.0 h.1
  fault_fails kind.OptionNotHere q h = not_here q h
  fault_fails kind.RepeatedOption q h = repeated q h
  fault_fails kind.WrongValue q h = wrong_fails q h
  fault_fails kind.MissingOption q h = missing q h
  fault_fails kind.WrongTogether q h = together q h
  fault_fails kind.StatementOrder q h = misplaced q h
  fault_fails kind.BadByte q h = absurd h
  fault_fails kind.OpenComment q h = absurd h
  fault_fails kind.OpenQuote q h = absurd h
  fault_fails kind.TooLong q h = absurd h
  fault_fails kind.MissingSemicolon q h = absurd h
  fault_fails kind.NoMemory q h = absurd h
