-- From any beginning of a program the reader goes on: what is a program is read.
use Rattle.std.proofs.Common.{◌≡◌, ◌≢◌, ℕ, inl, inr, Bool, true, false, not, ◌||◌, List, [], ◌∷◌, ◌++◌, map, Option, Some, None, Ok, refl, sym, ap, ◌∙◌, subst, append_assoc}
use Rattle.std.proofs.lemmas.List.{append-nil}
use Rattle.std.specs.List.{list_any}
use Rattle.nf_text.specs.declared.token.TokenKind.{TokenKind}
use Rattle.nf_text.specs.declared.token.TokenKind.TheVariants.{Word, Number, Quoted, Equals, Semicolon}
use Rattle.nf_text.specs.Tokens.{Lexeme}
use Rattle.nf_program.specs.declared.program.Command.{Command}
use Rattle.nf_program.specs.declared.program.Command.TheVariants.{Run, Check, Again, Export}
use Rattle.nf_program.specs.declared.program.ProcOptions.{ProcOptions}
use Rattle.nf_program.specs.declared.program.Program.{Program}
use Rattle.nf_program.specs.declared.program.Role.{Role}
use Rattle.nf_program.specs.declared.program.Statement.{Statement}
use Rattle.nf_program.specs.declared.program.Statement.TheVariants as act
use Rattle.nf_program.specs.declared.program.PrintItem.{PrintItem}
use Rattle.nf_program.specs.declared.program.ShowItem.{ShowItem}
use Rattle.nf_program.specs.declared.program.StmtKind.TheVariants as kind
use Rattle.nf_program.specs.declared.words.StatementWord.{StatementWord}
use Rattle.nf_program.specs.declared.words.StatementWord.TheVariants as word
use Rattle.nf_program.specs.declared.words.OptionWord.{OptionWord}
use Rattle.nf_program.specs.declared.settings.Setting.{Setting}
use Rattle.nf_reader.specs.declared.places.Head.{Head}
use Rattle.nf_reader.specs.declared.places.Head.TheVariants as head
use Rattle.nf_reader.specs.declared.places.Plain.{Plain}
use Rattle.nf_reader.specs.declared.places.Plain.TheVariants as plain
use Rattle.nf_reader.specs.declared.places.Place.{Place}
use Rattle.nf_reader.specs.declared.places.Place.TheVariants as place
use Rattle.nf_reader.specs.declared.places.Turn.{Turn}
use Rattle.nf_reader.specs.declared.places.Turn.TheVariants as turn
use Rattle.nf_reader.specs.declared.places.Reader.{Reader}
use Rattle.nf_program.specs.ReadValues.{column_of}
use Rattle.nf_program.specs.Values.{IsColumn}
use Rattle.nf_program.specs.Settings.{word_of, flag_of, options_of, lacks, are_wrong_together, reset_setting, saves_of, save_setting}
use Rattle.nf_program.specs.Programs.{is_empty, no_program, is_given, has_role, print_number, has_print, show_number, has_show, is_quit}
use Rattle.nf_reader.specs.Opened.{belongs, plain_act}
use Rattle.nf_reader.specs.Turns.{Step, unless, found_or, first_word, at_start, at_netflow, next_place, new_option, option_word, end_options, at_options, at_equals, at_value, act_place, is_late, opens, at_statement, is_full, add_column, at_columns, print_word, at_print, show_word, at_show, at_alone, turn_at, behind}
use Rattle.nf_program.specs.Grammar.{NamesStatement, NamesOption, NamesPrint, NamesShow, IsSemicolon, One, Each, IsSetting, IsStatement, IsNetflow, HasColumns, IsRole, IsNothing, IsAct, AreSemicolons, Statements, QuitIsLast, Serves, role_key, IsProgram}
use Rattle.nf_reader.specs.Beginnings.{IsHead, Suits, BeginsOptions, MayCome, HasRoom, plain_word, Begins, serves, MayAct, MayHead, MayStand, is_proc, in_proc, IsBefore, Stands}
use Rattle.nf_reader.specs.Turns.{◌>>=◌, here, read, start}
use Rattle.nf_program.proofs.Things.{one_more, any_more, distinct_at}
use Rattle.nf_program.proofs.ValueFacts.{column_complete}
use Rattle.nf_reader.proofs.Sound.{done}
use Rattle.nf_reader.proofs.SettingFacts.{value_complete, flag_is, suits_at, resets_are, saves_are}
use Rattle.nf_program.specs.Settings.{key_of}
use Rattle.nf_program.specs.Programs.{AreDistinct, RoleColumns}
use Rattle.nf_program.specs.Grammar.{IsSettingBy, IsValue}

abbrev pub reader : Place → Program → Reader
reader q p = record { place = q; program = p }

-- These tokens lead from one reader to another, as far as any reading goes on.
abbrev pub Leads : Command → Reader → List Lexeme → Reader → Type 0
Leads c r ts q = (end : ℕ) (more : List Lexeme) → read c end r (ts ++ more) ≡ read c end q more

module _ (c : Command) where
  leads_on : (r : Reader) (a : List Lexeme) (q : Reader) (b : List Lexeme) (s : Reader) → Leads c r a q → Leads c q b s → Leads c r (a ++ b) s
  leads_on r a q b s f g end more = ap (read c end r) (append_assoc a b more) ∙ f end (b ++ more) ∙ g end more

  leads_none : (r : Reader) → Leads c r [] r
  leads_none r end more = refl

  along : (r : Reader) (ts us : List Lexeme) (q : Reader) → ts ≡ us → Leads c r us q → Leads c r ts q
  along r ts us q e f end more = ap (λ (t : List Lexeme). read c end r (t ++ more)) e ∙ f end more

  -- one token
  pub turn_leads : (q : Place) (p : Program) (t : Lexeme) (u : Turn) → turn_at c q p t.kind t.bytes ≡ Ok u → Leads c (reader q p) (t ∷ []) (behind p u)
  turn_leads q p t u e end more = ap (λ (n : Step Turn). here t.at (n >>= λ u. Ok (behind p u)) >>= λ q. read c end q more) e

  to : (r : Reader) (ts : List Lexeme) (q s : Reader) → q ≡ s → Leads c r ts q → Leads c r ts s
  to r ts q s e f = subst (λ (x : Reader). Leads c r ts x) e f

  -- a token that leads to a place of the same statement
  goes : (q : Place) (p : Program) (t : Lexeme) (r : Place) → turn_at c q p t.kind t.bytes ≡ Ok (turn.Goes r) → Leads c (reader q p) (t ∷ []) (reader r p)
  goes q p t r e = turn_leads q p t (turn.Goes r) e

  -- ---- options

  option_turn : (p : Program) (h : Head) (ss : List Setting) (o : OptionWord) (t : Lexeme) → NamesOption o t → belongs h ss o ≡ true → is_given o ss ≡ false
      → turn_at c (place.Options h ss) p t.kind t.bytes ≡ Ok (turn.Goes (next_place h ss o (flag_of o)))
  unfolding turn_at at_options option_word
  option_turn p h ss o t names here new =
      ap (λ (k : TokenKind). at_options c h ss k t.bytes) names.0 ∙ ap (option_word h ss) names.1
      ∙ ap (λ (b : Bool). unless (not b) kind.OptionNotHere (new_option h ss o)) here
      ∙ ap (λ (b : Bool). unless b kind.RepeatedOption (Ok (turn.Goes (next_place h ss o (flag_of o))))) new

  equals_turn : (p : Program) (h : Head) (ss : List Setting) (o : OptionWord) (t : Lexeme) → t.kind ≡ Equals → turn_at c (place.Equals h ss o) p t.kind t.bytes ≡ Ok (turn.Goes (place.Value h ss o))
  unfolding turn_at at_equals
  equals_turn p h ss o t e = ap (at_equals h ss o) e

  value_turn : (p : Program) (h : Head) (ss : List Setting) (s : Setting) (t : Lexeme) → IsValue s t → turn_at c (place.Value h ss (word_of s)) p t.kind t.bytes ≡ Ok (turn.Goes (place.Options h (ss ++ s ∷ [])))
  unfolding turn_at at_value
  value_turn p h ss s t value = ap (λ (m : Option Setting). found_or kind.WrongValue m (λ s. Ok (turn.Goes (place.Options h (ss ++ s ∷ []))))) (value_complete s t value)

  setting_by : (p : Program) (h : Head) (ss : List Setting) (s : Setting) (ts : List Lexeme) (m : Option Setting) → flag_of (word_of s) ≡ m → IsSettingBy m s ts → belongs h ss (word_of s) ≡ true → is_given (word_of s) ss ≡ false
      → Leads c (reader (place.Options h ss) p) ts (reader (place.Options h (ss ++ s ∷ [])) p)
  setting_by p h ss s ts (Some f) flag is here new =
      let next : next_place h ss (word_of s) (flag_of (word_of s)) ≡ place.Options h (ss ++ s ∷ []) =
      ap (next_place h ss (word_of s)) flag ∙ ap (λ (x : Setting). place.Options h (ss ++ x ∷ [])) (flag_is s f flag) in
      along (reader (place.Options h ss) p) ts (is.0 ∷ []) (reader (place.Options h (ss ++ s ∷ [])) p) is.1
      (goes (place.Options h ss) p is.0 (place.Options h (ss ++ s ∷ [])) (option_turn p h ss (word_of s) is.0 is.2 here new ∙ ap (λ (x : Place). done (turn.Goes x)) next))
  setting_by p h ss s ts None flag is here new =
      let a = reader (place.Options h ss) p in
      let b = reader (place.Equals h ss (word_of s)) p in
      let d = reader (place.Value h ss (word_of s)) p in
      let q = reader (place.Options h (ss ++ s ∷ [])) p in
      let next : next_place h ss (word_of s) (flag_of (word_of s)) ≡ place.Equals h ss (word_of s) = ap (next_place h ss (word_of s)) flag in
      along a ts (is.0 ∷ is.1 ∷ is.2 ∷ []) q is.3
      (leads_on a (is.0 ∷ []) b (is.1 ∷ is.2 ∷ []) q
      (goes (place.Options h ss) p is.0 (place.Equals h ss (word_of s)) (option_turn p h ss (word_of s) is.0 is.4 here new ∙ ap (λ (x : Place). done (turn.Goes x)) next))
      (leads_on b (is.1 ∷ []) d (is.2 ∷ []) q
      (goes (place.Equals h ss (word_of s)) p is.1 (place.Value h ss (word_of s)) (equals_turn p h ss (word_of s) is.1 is.5))
      (goes (place.Value h ss (word_of s)) p is.2 (place.Options h (ss ++ s ∷ [])) (value_turn p h ss s is.2 is.6))))

  settings_lead : (p : Program) (h : Head) (ss before : List Setting) (ts : List Lexeme) → Each IsSetting ss ts → AreDistinct (map key_of (before ++ ss)) → Suits h (before ++ ss)
      → Leads c (reader (place.Options h before) p) ts (reader (place.Options h (before ++ ss)) p)
  settings_lead p h [] before ts is distinct suits =
      along (reader (place.Options h before) p) ts [] (reader (place.Options h (before ++ [])) p) is
      (to (reader (place.Options h before) p) [] (reader (place.Options h before) p) (reader (place.Options h (before ++ [])) p) (ap (λ (x : List Setting). reader (place.Options h x) p) (sym (append-nil before))) (leads_none (reader (place.Options h before) p)))
  settings_lead p h (s ∷ ss) before ts is distinct suits =
      let r = reader (place.Options h before) p in
      let q = reader (place.Options h (before ++ s ∷ [])) p in
      let z = reader (place.Options h (before ++ s ∷ ss)) p in
      let whole : before ++ s ∷ ss ≡ (before ++ s ∷ []) ++ ss = one_more before s ss in
      along r ts (is.0 ++ is.1) z is.2
      (leads_on r is.0 q is.1 z (setting_by p h before s is.0 (flag_of (word_of s)) refl is.3 (suits_at h before s ss suits) (distinct_at key_of before s ss distinct))
      (to q is.1 (reader (place.Options h ((before ++ s ∷ []) ++ ss)) p) z (ap (λ (x : List Setting). reader (place.Options h x) p) (sym whole))
      (settings_lead p h ss (before ++ s ∷ []) is.1 is.4 (subst (λ (x : List Setting). AreDistinct (map key_of x)) whole distinct) (subst (Suits h) whole suits))))

  -- ---- items and columns

  print_turn : (p : Program) (is : List PrintItem) (i : PrintItem) (t : Lexeme) → NamesPrint i t → has_print i is ≡ false → turn_at c (place.Print is) p t.kind t.bytes ≡ Ok (turn.Goes (place.Print (is ++ i ∷ [])))
  unfolding turn_at at_print print_word
  print_turn p is i t names new =
      ap (λ (k : TokenKind). at_print is k t.bytes) names.0 ∙ ap (print_word is) names.1 ∙ ap (λ (b : Bool). unless b kind.RepeatedOption (Ok (turn.Goes (place.Print (is ++ i ∷ []))))) new

  prints_lead : (p : Program) (is before : List PrintItem) (ts : List Lexeme) → Each (One NamesPrint) is ts → AreDistinct (map print_number (before ++ is)) → Leads c (reader (place.Print before) p) ts (reader (place.Print (before ++ is)) p)
  prints_lead p [] before ts h distinct =
      along (reader (place.Print before) p) ts [] (reader (place.Print (before ++ [])) p) h
      (to (reader (place.Print before) p) [] (reader (place.Print before) p) (reader (place.Print (before ++ [])) p) (ap (λ (x : List PrintItem). reader (place.Print x) p) (sym (append-nil before))) (leads_none (reader (place.Print before) p)))
  prints_lead p (i ∷ is) before ts h distinct =
      let r = reader (place.Print before) p in
      let q = reader (place.Print (before ++ i ∷ [])) p in
      let z = reader (place.Print (before ++ i ∷ is)) p in
      let whole : before ++ i ∷ is ≡ (before ++ i ∷ []) ++ is = one_more before i is in
      along r ts (h.0 ++ h.1) z h.2
      (leads_on r h.0 q h.1 z
      (along r h.0 (h.3.0 ∷ []) q h.3.1 (goes (place.Print before) p h.3.0 (place.Print (before ++ i ∷ [])) (print_turn p before i h.3.0 h.3.2 (distinct_at print_number before i is distinct))))
      (to q h.1 (reader (place.Print ((before ++ i ∷ []) ++ is)) p) z (ap (λ (x : List PrintItem). reader (place.Print x) p) (sym whole))
      (prints_lead p is (before ++ i ∷ []) h.1 h.4 (subst (λ (x : List PrintItem). AreDistinct (map print_number x)) whole distinct))))

  show_turn : (p : Program) (is : List ShowItem) (i : ShowItem) (t : Lexeme) → NamesShow i t → has_show i is ≡ false → turn_at c (place.Show is) p t.kind t.bytes ≡ Ok (turn.Goes (place.Show (is ++ i ∷ [])))
  unfolding turn_at at_show show_word
  show_turn p is i t names new =
      ap (λ (k : TokenKind). at_show is k t.bytes) names.0 ∙ ap (show_word is) names.1 ∙ ap (λ (b : Bool). unless b kind.RepeatedOption (Ok (turn.Goes (place.Show (is ++ i ∷ []))))) new

  shows_lead : (p : Program) (is before : List ShowItem) (ts : List Lexeme) → Each (One NamesShow) is ts → AreDistinct (map show_number (before ++ is)) → Leads c (reader (place.Show before) p) ts (reader (place.Show (before ++ is)) p)
  shows_lead p [] before ts h distinct =
      along (reader (place.Show before) p) ts [] (reader (place.Show (before ++ [])) p) h
      (to (reader (place.Show before) p) [] (reader (place.Show before) p) (reader (place.Show (before ++ [])) p) (ap (λ (x : List ShowItem). reader (place.Show x) p) (sym (append-nil before))) (leads_none (reader (place.Show before) p)))
  shows_lead p (i ∷ is) before ts h distinct =
      let r = reader (place.Show before) p in
      let q = reader (place.Show (before ++ i ∷ [])) p in
      let z = reader (place.Show (before ++ i ∷ is)) p in
      let whole : before ++ i ∷ is ≡ (before ++ i ∷ []) ++ is = one_more before i is in
      along r ts (h.0 ++ h.1) z h.2
      (leads_on r h.0 q h.1 z
      (along r h.0 (h.3.0 ∷ []) q h.3.1 (goes (place.Show before) p h.3.0 (place.Show (before ++ i ∷ [])) (show_turn p before i h.3.0 h.3.2 (distinct_at show_number before i is distinct))))
      (to q h.1 (reader (place.Show ((before ++ i ∷ []) ++ is)) p) z (ap (λ (x : List ShowItem). reader (place.Show x) p) (sym whole))
      (shows_lead p is (before ++ i ∷ []) h.1 h.4 (subst (λ (x : List ShowItem). AreDistinct (map show_number x)) whole distinct))))

  -- no column is a semicolon
  column_kind : (k : TokenKind) (r : Role) (ns : List (List ℕ)) (n : List ℕ) (t : Lexeme) → t.kind ≡ k → IsColumn n t → at_columns r ns k t.bytes ≡ add_column r ns k t.bytes
  unfolding at_columns
  column_kind Semicolon r ns n t k is = elim is.0 [ inl w ↦ let e = w.0 in absurd cc | inr q ↦ let e = q.0 in absurd cc ]
  column_kind Word r ns n t k is = refl
  column_kind Number r ns n t k is = refl
  column_kind Quoted r ns n t k is = refl
  column_kind Equals r ns n t k is = refl

  column_turn : (p : Program) (r : Role) (ns : List (List ℕ)) (n : List ℕ) (t : Lexeme) → IsColumn n t → is_full r ns ≡ false → turn_at c (place.Columns r ns) p t.kind t.bytes ≡ Ok (turn.Goes (place.Columns r (ns ++ n ∷ [])))
  unfolding turn_at
  column_turn p r ns n t is full =
      let next : List ℕ → Step Turn = λ n. Ok (turn.Goes (place.Columns r (ns ++ n ∷ []))) in
      column_kind t.kind r ns n t refl is
      ∙ ap (λ (b : Bool). unless b kind.WrongValue (found_or kind.WrongValue (column_of t.kind t.bytes) next)) full
      ∙ ap (λ (m : Option (List ℕ)). found_or kind.WrongValue m next) (column_complete n t is)

  room_at : (r : Role) (before : List (List ℕ)) (n : List ℕ) (ns : List (List ℕ)) → HasRoom r (before ++ n ∷ ns) → is_full r before ≡ false
  room_at r [] n ns h = refl
  room_at r (m ∷ []) n ns h = ap not h
  room_at r (m ∷ l ∷ before) n ns h = ap not h

  columns_lead : (p : Program) (r : Role) (ns before : List (List ℕ)) (ts : List Lexeme) → Each (One IsColumn) ns ts → HasRoom r (before ++ ns) → Leads c (reader (place.Columns r before) p) ts (reader (place.Columns r (before ++ ns)) p)
  columns_lead p r [] before ts h room =
      along (reader (place.Columns r before) p) ts [] (reader (place.Columns r (before ++ [])) p) h
      (to (reader (place.Columns r before) p) [] (reader (place.Columns r before) p) (reader (place.Columns r (before ++ [])) p) (ap (λ (x : List (List ℕ)). reader (place.Columns r x) p) (sym (append-nil before))) (leads_none (reader (place.Columns r before) p)))
  columns_lead p r (n ∷ ns) before ts h room =
      let a = reader (place.Columns r before) p in
      let q = reader (place.Columns r (before ++ n ∷ [])) p in
      let z = reader (place.Columns r (before ++ n ∷ ns)) p in
      let whole : before ++ n ∷ ns ≡ (before ++ n ∷ []) ++ ns = one_more before n ns in
      along a ts (h.0 ++ h.1) z h.2
      (leads_on a h.0 q h.1 z
      (along a h.0 (h.3.0 ∷ []) q h.3.1 (goes (place.Columns r before) p h.3.0 (place.Columns r (before ++ n ∷ [])) (column_turn p r before n h.3.0 h.3.2 (room_at r before n ns room))))
      (to q h.1 (reader (place.Columns r ((before ++ n ∷ []) ++ ns)) p) z (ap (λ (x : List (List ℕ)). reader (place.Columns r x) p) (sym whole))
      (columns_lead p r ns (before ++ n ∷ []) h.1 h.4 (subst (HasRoom r) whole room))))

  -- ---- the open statement

  abbrev between : Program → Reader
  between p = reader (place.Statement (list_any is_quit p.acts)) p

  -- where the open statement begins
  abbrev entry : Bool → Program → Reader
  entry true p = start
  entry false p = between p

  word_turn : (over : Bool) (p : Program) (s : StatementWord) (t : Lexeme) → NamesStatement s t → turn_at c (place.Statement over) p t.kind t.bytes ≡ opens c over p s
  unfolding turn_at at_statement
  word_turn over p s t names = ap (λ (k : TokenKind). at_statement c over p k t.bytes) names.0 ∙ ap (λ (m : Option StatementWord). found_or kind.UnknownWord m (opens c over p)) names.1

  in_time : (c : Command) (over : Bool) → over ≡ false → serves c false ≡ true → is_late c over ≡ false
  in_time Run over e s = e
  in_time Check over e s = absurd cc
  in_time Again over e s = absurd cc
  in_time Export over e s = absurd cc

  act_turn : (over : Bool) (r : Place) (late : Bool) → late ≡ false → act_place late r ≡ Ok (turn.Goes r)
  act_turn over r late e = ap (λ (b : Bool). unless b kind.StatementOrder (Ok (turn.Goes r))) e

  -- an act's word
  act_opens : (p : Program) (s : StatementWord) (r : Place) (t : Lexeme) → NamesStatement s t → MayAct c false p → ((over : Bool) → opens c over p s ≡ act_place (is_late c over) r) → Leads c (between p) (t ∷ []) (reader r p)
  act_opens p s r t names may opening =
      let over = list_any is_quit p.acts in
      goes (place.Statement over) p t r (word_turn over p s t names ∙ opening over ∙ act_turn over r (is_late c over) (in_time c over may.0 may.1))

  head_leads : (p : Program) (h : Head) (ts : List Lexeme) → IsHead h ts → MayHead c h p → Leads c (entry (is_proc h) p) ts (reader (place.Options h []) p)
  unfolding opens turn_at at_start at_netflow
  head_leads p head.Proc ts is none =
      let w = is.0 in
      let n = is.1 in
      let s1 = reader place.Netflow no_program in
      let s2 = reader (place.Options head.Proc []) no_program in
      let first : turn_at c place.Start no_program w.kind w.bytes ≡ Ok (turn.Goes place.Netflow) = ap (λ (k : TokenKind). at_start k w.bytes) is.3.0 ∙ ap first_word is.3.1 in
      let second : turn_at c place.Netflow no_program n.kind n.bytes ≡ Ok (turn.Goes (place.Options head.Proc [])) =
      ap (λ (k : TokenKind). at_netflow k n.bytes) is.4 ∙ ap (λ (b : Bool). unless (not b) kind.UnknownWord (Ok (turn.Goes (place.Options head.Proc [])))) is.5 in
      subst (λ (x : Program). Leads c start ts (reader (place.Options head.Proc []) x)) (sym none)
      (along start ts (w ∷ n ∷ []) s2 is.2 (leads_on start (w ∷ []) s1 (n ∷ []) s2 (goes place.Start no_program w place.Netflow first) (goes place.Netflow no_program n (place.Options head.Proc []) second)))
  head_leads p head.Reset ts is may = along (between p) ts (is.0 ∷ []) (reader (place.Options head.Reset []) p) is.1 (act_opens p word.Reset (place.Options head.Reset []) is.0 is.2 may (λ over. refl))
  head_leads p head.Save ts is may = along (between p) ts (is.0 ∷ []) (reader (place.Options head.Save []) p) is.1 (act_opens p word.Save (place.Options head.Save []) is.0 is.2 may (λ over. refl))

  options_lead : (p : Program) (h : Head) (ss : List Setting) (ts : List Lexeme) → BeginsOptions h ss ts → MayHead c h p → Leads c (entry (is_proc h) p) ts (reader (place.Options h ss) p)
  options_lead p h ss ts b may =
      along (entry (is_proc h) p) ts (b.0 ++ b.1) (reader (place.Options h ss) p) b.2
      (leads_on (entry (is_proc h) p) b.0 (reader (place.Options h []) p) b.1 (reader (place.Options h ss) p) (head_leads p h b.0 b.3 may) (settings_lead p h ss [] b.1 b.4.0 b.4.1 b.5))

  equals_lead : (p : Program) (h : Head) (ss : List Setting) (o : OptionWord) (front : List Lexeme) (w : Lexeme) → BeginsOptions h ss front → NamesOption o w → MayCome h ss o → MayHead c h p
      → Leads c (entry (is_proc h) p) (front ++ w ∷ []) (reader (place.Equals h ss o) p)
  equals_lead p h ss o front w b names come may =
      leads_on (entry (is_proc h) p) front (reader (place.Options h ss) p) (w ∷ []) (reader (place.Equals h ss o) p) (options_lead p h ss front b may)
      (goes (place.Options h ss) p w (place.Equals h ss o) (option_turn p h ss o w names come.0 come.1 ∙ ap (λ (m : Option Setting). done (turn.Goes (next_place h ss o m))) come.2))

  role_opens : (p : Program) (r : Role) (t : Lexeme) → NamesStatement (word.Role r) t → has_role r p.roles ≡ false → p.acts ≡ [] → Leads c (between p) (t ∷ []) (reader (place.Columns r []) p)
  unfolding opens
  role_opens p r t names new none =
      let over = list_any is_quit p.acts in
      goes (place.Statement over) p t (place.Columns r [])
      (word_turn over p (word.Role r) t names
      ∙ ap (λ (b : Bool). unless b kind.RepeatedOption (unless (not (is_empty p.acts)) kind.StatementOrder (Ok (turn.Goes (place.Columns r []))))) new
      ∙ ap (λ (x : List Statement). unless (not (is_empty x)) kind.StatementOrder (Ok (turn.Goes (place.Columns r [])))) none)

  alone_opens : (p : Program) (s : Plain) (t : Lexeme) → NamesStatement (plain_word s) t → MayAct c (is_quit (plain_act s)) p → Leads c (between p) (t ∷ []) (reader (place.Alone s) p)
  unfolding opens
  alone_opens p plain.Pivot t names may = act_opens p word.Pivot (place.Alone plain.Pivot) t names may (λ over. refl)
  alone_opens p plain.Run t names may = act_opens p word.Run (place.Alone plain.Run) t names may (λ over. refl)
  alone_opens p plain.Quit t names may =
      let over = list_any is_quit p.acts in
      goes (place.Statement over) p t (place.Alone plain.Quit) (word_turn over p word.Quit t names ∙ act_turn over (place.Alone plain.Quit) over may.0)

  -- the open statement is read up to its place
  pub begins_lead : (q : Place) (p : Program) (opened : List Lexeme) → Begins q opened → MayStand c q p → Leads c (entry (in_proc q) p) opened (reader q p)
  unfolding turn_at at_start opens
  begins_lead place.Start p opened b may =
      along start opened [] (reader place.Start p) b (to start [] start (reader place.Start p) (ap (reader place.Start) (sym may)) (leads_none start))
  begins_lead place.Netflow p opened b may =
      let w = b.0 in
      let first : turn_at c place.Start no_program w.kind w.bytes ≡ Ok (turn.Goes place.Netflow) = ap (λ (k : TokenKind). at_start k w.bytes) b.2.0 ∙ ap first_word b.2.1 in
      along start opened (w ∷ []) (reader place.Netflow p) b.1
      (to start (w ∷ []) (reader place.Netflow no_program) (reader place.Netflow p) (ap (reader place.Netflow) (sym may)) (goes place.Start no_program w place.Netflow first))
  begins_lead (place.Options h ss) p opened b may = options_lead p h ss opened b may
  begins_lead (place.Equals h ss o) p opened b may = along (entry (is_proc h) p) opened (b.0 ++ b.1 ∷ []) (reader (place.Equals h ss o) p) b.2 (equals_lead p h ss o b.0 b.1 b.3 b.4 b.5 may)
  begins_lead (place.Value h ss o) p opened b may =
      let r = entry (is_proc h) p in
      let q = reader (place.Equals h ss o) p in
      let z = reader (place.Value h ss o) p in
      along r opened ((b.0 ++ b.1 ∷ []) ++ b.2 ∷ []) z (b.3 ∙ sym (append_assoc b.0 (b.1 ∷ []) (b.2 ∷ [])))
      (leads_on r (b.0 ++ b.1 ∷ []) q (b.2 ∷ []) z (equals_lead p h ss o b.0 b.1 b.4 b.5 b.6 may) (goes (place.Equals h ss o) p b.2 (place.Value h ss o) (equals_turn p h ss o b.2 b.7)))
  begins_lead (place.Statement over) p opened b may =
      along (between p) opened [] (reader (place.Statement over) p) b (to (between p) [] (between p) (reader (place.Statement over) p) (ap (λ (x : Bool). reader (place.Statement x) p) (sym may)) (leads_none (between p)))
  begins_lead (place.Columns r ns) p opened b may =
      let a = b.0 in
      along (between p) opened (a.0 ∷ a.1) (reader (place.Columns r ns) p) a.2
      (leads_on (between p) (a.0 ∷ []) (reader (place.Columns r []) p) a.1 (reader (place.Columns r ns) p) (role_opens p r a.0 a.3 may.0 may.1) (columns_lead p r ns [] a.1 a.4 b.1))
  begins_lead (place.Print is) p opened b may =
      along (between p) opened (b.0 ∷ b.1) (reader (place.Print is) p) b.2
      (leads_on (between p) (b.0 ∷ []) (reader (place.Print []) p) b.1 (reader (place.Print is) p) (act_opens p word.Print (place.Print []) b.0 b.3 may (λ over. refl)) (prints_lead p is [] b.1 b.4.0 b.4.1))
  begins_lead (place.Show is) p opened b may =
      along (between p) opened (b.0 ∷ b.1) (reader (place.Show is) p) b.2
      (leads_on (between p) (b.0 ∷ []) (reader (place.Show []) p) b.1 (reader (place.Show is) p) (act_opens p word.Show (place.Show []) b.0 b.3 may (λ over. refl)) (shows_lead p is [] b.1 b.4.0 b.4.1))
  begins_lead (place.Alone s) p opened b may = along (between p) opened (b.0 ∷ []) (reader (place.Alone s) p) b.1 (alone_opens p s b.0 b.2 may)

  -- ---- whole statements

  empty_no : {A : Type 0} (xs : List A) → xs ≢ [] → is_empty xs ≡ false
  empty_no [] h = absurd (h refl)
  empty_no (x ∷ xs) h = refl

  -- a beginning and a semicolon
  ends : (q : Place) (p : Program) (front : List Lexeme) (t : Lexeme) (ts : List Lexeme) (u : Turn) → Begins q front → MayStand c q p → ts ≡ front ++ t ∷ [] → turn_at c q p t.kind t.bytes ≡ Ok u → Leads c (entry (in_proc q) p) ts (behind p u)
  ends q p front t ts u b may e made =
      along (entry (in_proc q) p) ts (front ++ t ∷ []) (behind p u) e (leads_on (entry (in_proc q) p) front (reader q p) (t ∷ []) (behind p u) (begins_lead q p front b may) (turn_leads q p t u made))

  proc_leads : (o : ProcOptions) (ts : List Lexeme) → IsStatement word.Proc (IsNetflow c o) ts → Leads c start ts (reader (place.Statement false) (record no_program { proc = o }))
  unfolding turn_at at_options end_options
  proc_leads o ts h =
      let w = h.0 in
      let t = h.2 in
      let b = h.6 in
      let ss = b.2 in
      let q = place.Options head.Proc ss in
      let made : turn_at c q no_program t.kind t.bytes ≡ Ok (turn.Proc o) =
      ap (λ (k : TokenKind). at_options c head.Proc ss k t.bytes) h.5
      ∙ ap (λ (x : Bool). unless x kind.MissingOption (unless (are_wrong_together (options_of ss)) kind.WrongTogether (Ok (turn.Proc (options_of ss))))) (ap (lacks c) (sym b.8) ∙ b.9.0)
      ∙ ap (λ (x : Bool). unless x kind.WrongTogether (Ok (turn.Proc (options_of ss)))) (ap are_wrong_together (sym b.8) ∙ b.9.1)
      ∙ ap (λ (x : ProcOptions). done (turn.Proc x)) (sym b.8) in
      ends q no_program (w ∷ h.1) t ts (turn.Proc o) (w ∷ b.0 ∷ [], b.1, ap (λ (x : List Lexeme). w ∷ x) b.3, (w, b.0, refl, h.4, b.4, b.5), b.6, b.7) refl h.3 made

  role_leads : (p : Program) (x : RoleColumns) (ts : List Lexeme) → IsRole x ts → has_role x.0 p.roles ≡ false → p.acts ≡ [] → Leads c (between p) ts (reader (place.Statement false) (record p { roles = p.roles ++ x ∷ [] }))
  unfolding turn_at at_columns
  role_leads p x ts h new none =
      let b = h.0 in
      let t = b.2 in
      let q = place.Columns x.0 x.1 in
      let made : turn_at c q p t.kind t.bytes ≡ Ok (turn.Role x.0 x.1) =
      ap (λ (k : TokenKind). at_columns x.0 x.1 k t.bytes) b.5 ∙ ap (λ (y : Bool). unless y kind.WrongValue (Ok (turn.Role x.0 x.1))) (some_columns x.0 x.1 h.1) in
      ends q p (b.0 ∷ b.1) t ts (turn.Role x.0 x.1) ((b.0, b.1, refl, b.4, b.6), has_room x.0 x.1 h.1) (new, none) b.3 made where
        some_columns : (r : Role) (ns : List (List ℕ)) → HasColumns r ns → is_empty ns ≡ false
        some_columns r [] h = absurd h
        some_columns r (n ∷ ns) h = refl

        has_room : (r : Role) (ns : List (List ℕ)) → HasColumns r ns → HasRoom r ns
        has_room r [] h = tt
        has_room r (n ∷ ns) h = h

  alone_leads : (p : Program) (s : Plain) (ts : List Lexeme) → IsStatement (plain_word s) IsNothing ts → MayAct c (is_quit (plain_act s)) p → Leads c (between p) ts (behind p (turn.Act (plain_act s)))
  unfolding turn_at at_alone
  alone_leads p s ts h may =
      ends (place.Alone s) p (h.0 ∷ []) h.2 ts (turn.Act (plain_act s)) (h.0, refl, h.4) may (h.3 ∙ ap (λ (x : List Lexeme). h.0 ∷ (x ++ h.2 ∷ [])) h.6) (ap (at_alone s) h.5)

  act_leads : (p : Program) (a : Statement) (ts : List Lexeme) → IsAct a ts → MayAct c (is_quit a) p → Leads c (between p) ts (behind p (turn.Act a))
  unfolding turn_at at_options end_options at_print at_show
  act_leads p act.Pivot ts h may = alone_leads p plain.Pivot ts h may
  act_leads p act.Run ts h may = alone_leads p plain.Run ts h may
  act_leads p act.Quit ts h may = alone_leads p plain.Quit ts h may
  act_leads p (act.Reset os) ts h may =
      let ss = map reset_setting os in
      let q = place.Options head.Reset ss in
      ends q p (h.0 ∷ h.1) h.2 ts (turn.Act (act.Reset os)) (h.0 ∷ [], h.1, refl, (h.0, refl, h.4), h.6, (os, refl)) may h.3
      (ap (λ (k : TokenKind). at_options c head.Reset ss k h.2.bytes) h.5 ∙ ap (λ (x : List _). done (turn.Act (act.Reset x))) (resets_are os))
  act_leads p (act.Save is) ts h may =
      let b = h.0 in
      let ss = map save_setting is in
      let q = place.Options head.Save ss in
      ends q p (b.0 ∷ b.1) b.2 ts (turn.Act (act.Save is)) (b.0 ∷ [], b.1, refl, (b.0, refl, b.4), b.6, (is, refl)) may b.3
      (ap (λ (k : TokenKind). at_options c head.Save ss k b.2.bytes) b.5
      ∙ ap (λ (x : Bool). unless x kind.WrongValue (Ok (turn.Act (act.Save (saves_of ss))))) (some_saves is h.1) ∙ ap (λ (x : List _). done (turn.Act (act.Save x))) (saves_are is)) where
        some_saves : (is : List _) → is ≢ [] → is_empty (map save_setting is) ≡ false
        some_saves [] h = absurd (h refl)
        some_saves (i ∷ is) h = refl
  act_leads p (act.Print is) ts h may =
      let b = h.0 in
      ends (place.Print is) p (b.0 ∷ b.1) b.2 ts (turn.Act (act.Print is)) (b.0, b.1, refl, b.4, b.6) may b.3
      (ap (λ (k : TokenKind). at_print is k b.2.bytes) b.5 ∙ ap (λ (x : Bool). unless x kind.WrongValue (Ok (turn.Act (act.Print is)))) (empty_no is h.1))
  act_leads p (act.Show is) ts h may =
      let b = h.0 in
      ends (place.Show is) p (b.0 ∷ b.1) b.2 ts (turn.Act (act.Show is)) (b.0, b.1, refl, b.4, b.6) may b.3
      (ap (λ (k : TokenKind). at_show is k b.2.bytes) b.5 ∙ ap (λ (x : Bool). unless x kind.WrongValue (Ok (turn.Act (act.Show is)))) (empty_no is h.1))

  -- ---- programs

  lone_turn : (over : Bool) (p : Program) (t : Lexeme) → IsSemicolon t → turn_at c (place.Statement over) p t.kind t.bytes ≡ Ok (turn.Goes (place.Statement over))
  unfolding turn_at at_statement
  lone_turn over p t e = ap (λ (k : TokenKind). at_statement c over p k t.bytes) e

  lone_lead : (over : Bool) (p : Program) (ts : List Lexeme) → AreSemicolons ts → Leads c (reader (place.Statement over) p) ts (reader (place.Statement over) p)
  lone_lead over p [] h = leads_none (reader (place.Statement over) p)
  lone_lead over p (t ∷ ts) h =
      let r = reader (place.Statement over) p in
      leads_on r (t ∷ []) r ts r (goes (place.Statement over) p t (place.Statement over) (lone_turn over p t h.0)) (lone_lead over p ts h.1)

  abbrev with_roles : ProcOptions → List RoleColumns → Reader
  with_roles o roles = reader (place.Statement false) (record { proc = o; roles = roles; acts = [] })

  roles_lead : (o : ProcOptions) (roles before : List RoleColumns) (ts : List Lexeme) → Statements IsRole roles ts → AreDistinct (map role_key (before ++ roles)) → Leads c (with_roles o before) ts (with_roles o (before ++ roles))
  roles_lead o [] before ts h distinct = to (with_roles o before) ts (with_roles o before) (with_roles o (before ++ [])) (ap (with_roles o) (sym (append-nil before))) (lone_lead false (record { proc = o; roles = before; acts = [] }) ts h)
  roles_lead o (x ∷ roles) before ts h distinct =
      let r = with_roles o before in
      let q = with_roles o (before ++ x ∷ []) in
      let z = with_roles o (before ++ x ∷ roles) in
      let p : Program = record { proc = o; roles = before; acts = [] } in
      let whole : before ++ x ∷ roles ≡ (before ++ x ∷ []) ++ roles = one_more before x roles in
      along r ts (h.0 ++ (h.1 ++ h.2)) z h.3
      (leads_on r h.0 r (h.1 ++ h.2) z (lone_lead false p h.0 h.4)
      (leads_on r h.1 q h.2 z (role_leads p x h.1 h.5 (distinct_at role_key before x roles distinct) refl)
      (to q h.2 (with_roles o ((before ++ x ∷ []) ++ roles)) z (ap (with_roles o) (sym whole)) (roles_lead o roles (before ++ x ∷ []) h.2 h.6 (subst (λ (y : List RoleColumns). AreDistinct (map role_key y)) whole distinct)))))

  serves_one : (c : Command) (a : Statement) (acts : List Statement) → Serves c (a ∷ acts) → (serves c (is_quit a) ≡ true) × Serves c acts
  serves_one Run a acts h = (refl, tt)
  serves_one Check a acts h = (h.0, h.1)
  serves_one Again a acts h = (h.0, h.1)
  serves_one Export a acts h = (h.0, h.1)

  abbrev with_acts : ProcOptions → List RoleColumns → List Statement → Reader
  with_acts o roles acts = between (record { proc = o; roles = roles; acts = acts })

  no_quit_yet : (before : List Statement) (a : Statement) (others : List Statement) (b : Bool) → is_quit a ≡ b → list_any is_quit before ≡ false → (is_quit a ≡ true → others ≡ []) → others ≢ [] → list_any is_quit (before ++ a ∷ []) ≡ false
  no_quit_yet before a others true e none last some = absurd (some (last e))
  no_quit_yet before a others false e none last some = any_more is_quit before a ∙ (λ i. none i || e i)

  acts_lead : (o : ProcOptions) (roles : List RoleColumns) (acts before : List Statement) (ts : List Lexeme) → Statements IsAct acts ts → (acts ≢ [] → list_any is_quit before ≡ false) → QuitIsLast acts → Serves c acts
      → Leads c (with_acts o roles before) ts (with_acts o roles (before ++ acts))
  acts_lead o roles [] before ts h none last serve =
      to (with_acts o roles before) ts (with_acts o roles before) (with_acts o roles (before ++ [])) (ap (with_acts o roles) (sym (append-nil before))) (lone_lead (list_any is_quit before) (record { proc = o; roles = roles; acts = before }) ts h)
  acts_lead o roles (a ∷ others) before ts h none last serve =
      let r = with_acts o roles before in
      let q = with_acts o roles (before ++ a ∷ []) in
      let z = with_acts o roles (before ++ a ∷ others) in
      let p : Program = record { proc = o; roles = roles; acts = before } in
      let early : list_any is_quit before ≡ false = none (λ e. cc) in
      let one = serves_one c a others serve in
      let whole : before ++ a ∷ others ≡ (before ++ a ∷ []) ++ others = one_more before a others in
      let quit : is_quit a ≡ list_any is_quit (before ++ a ∷ []) = sym (any_more is_quit before a ∙ ap (λ (b : Bool). b || is_quit a) early) in
      along r ts (h.0 ++ (h.1 ++ h.2)) z h.3
      (leads_on r h.0 r (h.1 ++ h.2) z (lone_lead (list_any is_quit before) p h.0 h.4)
      (leads_on r h.1 q h.2 z
      (to r h.1 (behind p (turn.Act a)) q (ap (λ (b : Bool). reader (place.Statement b) (record { proc = o; roles = roles; acts = before ++ a ∷ [] })) quit) (act_leads p a h.1 h.5 (early, one.0)))
      (to q h.2 (with_acts o roles ((before ++ a ∷ []) ++ others)) z (ap (with_acts o roles) (sym whole))
      (acts_lead o roles others (before ++ a ∷ []) h.2 h.6 (no_quit_yet before a others (is_quit a) refl early last.0) last.1 one.1))))

  -- a program is read
  pub program_leads : (p : Program) (ts : List Lexeme) → IsProgram c p ts → Leads c start ts (between p)
  program_leads p ts h =
      let s1 = with_roles p.proc [] in
      let s2 = with_roles p.proc p.roles in
      along start ts (h.0 ++ (h.1 ++ h.2)) (between p) h.3
      (leads_on start h.0 s1 (h.1 ++ h.2) (between p) (proc_leads p.proc h.0 h.4)
      (leads_on s1 h.1 s2 h.2 (between p) (roles_lead p.proc p.roles [] h.1 h.5 h.6) (acts_lead p.proc p.roles p.acts [] h.2 h.7 (λ some. refl) h.8 h.9)))

  before_leads : (b : Bool) (p : Program) (ts : List Lexeme) → IsBefore b c p ts → Leads c start ts (entry b p)
  before_leads true p ts h = along start ts [] start h (leads_none start)
  before_leads false p ts h = program_leads p ts h

  -- any beginning is read
  pub stands_leads : (q : Place) (p : Program) (ts : List Lexeme) → Stands c q p ts → Leads c start ts (reader q p)
  stands_leads q p ts h =
      along start ts (h.0 ++ h.1) (reader q p) h.2 (leads_on start h.0 (entry (in_proc q) p) h.1 (reader q p) (before_leads (in_proc q) p h.0 h.3) (begins_lead q p h.1 h.5 h.4))
