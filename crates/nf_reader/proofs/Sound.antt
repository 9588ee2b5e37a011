-- Behind each token the reader stands at a beginning of a program, or the token is a fault there.
use Rattle.std.proofs.Common.{◌≡◌, ◌≢◌, ℕ, ◌⊎◌, inl, inr, Bool, true, false, not, ◌||◌, List, [], ◌∷◌, ◌++◌, map, Option, Some, None, Ok, Err, refl, sym, ap, ◌∙◌, subst, append_assoc}
use Rattle.std.proofs.lemmas.List.{append-nil}
use Rattle.std.specs.List.{list_any}
use Rattle.nf_text.specs.declared.token.TokenKind.{TokenKind}
use Rattle.nf_text.specs.declared.token.TokenKind.TheVariants.{Word, Number, Quoted, Equals, Semicolon}
use Rattle.nf_text.specs.Tokens.{Lexeme}
use Rattle.nf_program.specs.declared.program.Command.{Command}
use Rattle.nf_program.specs.declared.program.Command.TheVariants.{Run, Check, Again, Export}
use Rattle.nf_program.specs.declared.program.Program.{Program}
use Rattle.nf_program.specs.declared.program.Role.{Role}
use Rattle.nf_program.specs.declared.program.Statement.{Statement}
use Rattle.nf_program.specs.declared.program.Statement.TheVariants as act
use Rattle.nf_program.specs.declared.program.PrintItem.{PrintItem}
use Rattle.nf_program.specs.declared.program.ShowItem.{ShowItem}
use Rattle.nf_program.specs.declared.program.StmtKind.{StmtKind}
use Rattle.nf_program.specs.declared.program.StmtKind.TheVariants as kind
use Rattle.nf_program.specs.declared.words.StatementWord.{StatementWord}
use Rattle.nf_program.specs.declared.words.StatementWord.TheVariants as word
use Rattle.nf_program.specs.declared.words.OptionWord.{OptionWord}
use Rattle.nf_program.specs.declared.settings.Setting.{Setting}
use Rattle.nf_reader.specs.declared.places.Head.{Head}
use Rattle.nf_reader.specs.declared.places.Head.TheVariants as head
use Rattle.nf_reader.specs.declared.places.Plain.{Plain}
use Rattle.nf_reader.specs.declared.places.Plain.TheVariants as plain
use Rattle.nf_reader.specs.declared.places.Place.{Place}
use Rattle.nf_reader.specs.declared.places.Place.TheVariants as place
use Rattle.nf_reader.specs.declared.places.Turn.{Turn}
use Rattle.nf_reader.specs.declared.places.Turn.TheVariants as turn
use Rattle.nf_program.specs.Words.{statement_of, option_of, print_of, show_of}
use Rattle.nf_program.specs.ReadValues.{column_of}
use Rattle.nf_program.specs.Values.{IsColumn}
use Rattle.nf_program.specs.Settings.{word_of, flag_of, options_of, lacks, are_wrong_together, resets_of, reset_setting, saves_of, save_setting}
use Rattle.nf_program.specs.Programs.{is_empty, no_program, is_netflow, is_given, has_role, takes_list, print_number, has_print, show_number, has_show, is_quit}
use Rattle.nf_reader.specs.Opened.{belongs, plain_act}
use Rattle.nf_reader.specs.Turns.{Step, unless, found_or, first_word, at_start, at_netflow, next_place, new_option, option_word, end_options, at_options, at_equals, value_of, at_value, act_place, is_late, opens, at_statement, is_full, add_column, at_columns, print_word, at_print, show_word, at_show, at_alone, turn_at, behind}
use Rattle.nf_program.specs.Grammar.{NamesStatement, NamesOption, NamesPrint, NamesShow, IsSemicolon, One, AreSettings, HasColumns, IsRole, IsAct, AreSemicolons, Statements, QuitIsLast, Serves, role_key, IsProgram}
use Rattle.nf_reader.specs.Beginnings.{BeginsOptions, HasRoom, plain_word, Begins, serves, MayAct, MayStand, in_proc, IsBefore, Stands}
use Rattle.nf_reader.specs.Faults.{IsNoWord, IsWrong, IsTooLate, IsFault}
use Rattle.nf_program.proofs.Things.{split_or, split_and, not_true, not_false, regroup, no_tokens, each_more, statements_more, statements_lone, distinct_more, any_more}
use Rattle.nf_program.proofs.ValueFacts.{column_sound, column_complete}
use Rattle.nf_reader.proofs.SettingFacts.{value_sound, value_complete, flag_sound, flag_setting, valued_setting, suits_more, settings_more, resets_are, saves_are}

-- ---- steps

abbrev pub done : Turn → Step Turn
done u = Ok u

abbrev pub failed : StmtKind → Step Turn
failed k = Err k

pub same_turn : (u v : Turn) → done u ≡ done v → u ≡ v
same_turn u v e = cc

pub same_kind : (k l : StmtKind) → failed k ≡ failed l → k ≡ l
same_kind k l e = cc

-- what a step says of its answer: the reader stands at a beginning, or the token is a fault
abbrev pub Says : Command → Place → Program → List Lexeme → Lexeme → Step Turn → Type 0
Says c q p ts t (Ok u) = Stands c (behind p u).place (behind p u).program (ts ++ t ∷ [])
Says c q p ts t (Err k) = IsFault c k q p t

empty_is : {A : Type 0} (xs : List A) → is_empty xs ≡ true → xs ≡ []
empty_is [] e = refl
empty_is (x ∷ xs) e = absurd cc

empty_not : {A : Type 0} (xs : List A) → is_empty xs ≡ false → xs ≢ []
empty_not [] e same = absurd cc
empty_not (x ∷ xs) e same = absurd cc

module _ (c : Command) (p : Program) (ts : List Lexeme) (t : Lexeme) where
  -- a test that is passed, or a fault
  says_unless : (q : Place) (b : Bool) (k : StmtKind) (x : Step Turn) → (b ≡ true → IsFault c k q p t) → (b ≡ false → Says c q p ts t x) → Says c q p ts t (unless b k x)
  says_unless q true k x bad good = bad refl
  says_unless q false k x bad good = good refl

  says_found : {A : Type 0} (q : Place) (k : StmtKind) (m : Option A) (f : A → Step Turn) → (m ≡ None → IsFault c k q p t) → ((a : A) → m ≡ Some a → Says c q p ts t (f a)) → Says c q p ts t (found_or k m f)
  says_found q k None f bad good = bad refl
  says_found q k (Some a) f bad good = good a refl

  -- ---- the open statement goes on

  goes_on : (q r : Place) → Stands c q p ts → in_proc q ≡ in_proc r → (MayStand c q p → MayStand c r p) → ((opened : List Lexeme) → Begins q opened → Begins r (opened ++ t ∷ [])) → Stands c r p (ts ++ t ∷ [])
  goes_on q r h same may begins =
      (h.0, h.1 ++ t ∷ [], regroup h.0 h.1 (t ∷ []) ts h.2, subst (λ (b : Bool). IsBefore b c p h.0) same h.3, may h.4, begins h.1 h.5)

  option_goes : (h : Head) (ss : List Setting) (o : OptionWord) (f : Option Setting) → Stands c (place.Options h ss) p ts → NamesOption o t → belongs h ss o ≡ true → is_given o ss ≡ false → flag_of o ≡ f
      → Stands c (next_place h ss o f) p (ts ++ t ∷ [])
  option_goes h ss o None stands names here new flag =
      goes_on (place.Options h ss) (place.Equals h ss o) stands refl (λ m. m) (λ opened b. (opened, t, refl, b, names, (here, new, flag)))
  option_goes h ss o (Some s) stands names here new flag =
      let same : word_of s ≡ o = flag_sound o s flag in
      goes_on (place.Options h ss) (place.Options h (ss ++ s ∷ [])) stands refl (λ m. m)
      (λ opened b. (
        b.0,
        b.1 ++ t ∷ [],
        regroup b.0 b.1 (t ∷ []) opened b.2,
        b.3,
        settings_more ss b.1 s (t ∷ []) b.4 (flag_setting o s t flag names) (ap (λ (x : OptionWord). is_given x ss) same ∙ new),
        suits_more h ss s b.5 (ap (belongs h ss) same ∙ here),
      ))

  equals_goes : (h : Head) (ss : List Setting) (o : OptionWord) → Stands c (place.Equals h ss o) p ts → t.kind ≡ Equals → Stands c (place.Value h ss o) p (ts ++ t ∷ [])
  equals_goes h ss o stands e =
      goes_on (place.Equals h ss o) (place.Value h ss o) stands refl (λ m. m) (λ opened b. (b.0, b.1, t, regroup b.0 (b.1 ∷ []) (t ∷ []) opened b.2, b.3, b.4, b.5, e))

  value_goes : (h : Head) (ss : List Setting) (o : OptionWord) (s : Setting) → Stands c (place.Value h ss o) p ts → value_of o t.kind t.bytes ≡ Some s → Stands c (place.Options h (ss ++ s ∷ [])) p (ts ++ t ∷ [])
  value_goes h ss o s stands made =
      let v = value_sound o s t made in
      goes_on (place.Value h ss o) (place.Options h (ss ++ s ∷ [])) stands refl (λ m. m)
      (λ opened b. (
        b.4.0,
        b.4.1 ++ b.1 ∷ b.2 ∷ t ∷ [],
        regroup b.0 (b.1 ∷ b.2 ∷ []) (t ∷ []) opened b.3 ∙ regroup b.4.0 b.4.1 (b.1 ∷ b.2 ∷ t ∷ []) b.0 b.4.2,
        b.4.3,
        settings_more ss b.4.1 s (b.1 ∷ b.2 ∷ t ∷ []) b.4.4 (valued_setting o s b.1 b.2 t b.6.2 v.0 b.5 b.7 v.1) (ap (λ (x : OptionWord). is_given x ss) v.0 ∙ b.6.1),
        suits_more h ss s b.4.5 (ap (belongs h ss) v.0 ∙ b.6.0),
      ))

  room_more : (r : Role) (ns : List (List ℕ)) (n : List ℕ) → HasRoom r ns → is_full r ns ≡ false → HasRoom r (ns ++ n ∷ [])
  room_more r [] n h e = tt
  room_more r (m ∷ []) n h e = not_false (takes_list r) e
  room_more r (m ∷ l ∷ ns) n h e = h

  column_goes : (r : Role) (ns : List (List ℕ)) (n : List ℕ) → Stands c (place.Columns r ns) p ts → is_full r ns ≡ false → IsColumn n t → Stands c (place.Columns r (ns ++ n ∷ [])) p (ts ++ t ∷ [])
  column_goes r ns n stands full is =
      goes_on (place.Columns r ns) (place.Columns r (ns ++ n ∷ [])) stands refl (λ m. m)
      (λ opened b. (
        (b.0.0, b.0.1 ++ t ∷ [], ap (λ (x : List Lexeme). x ++ t ∷ []) b.0.2, b.0.3, each_more (One IsColumn) ns b.0.1 n (t ∷ []) b.0.4 (t, refl, is)),
        room_more r ns n b.1 full,
      ))

  print_goes : (is : List PrintItem) (i : PrintItem) → Stands c (place.Print is) p ts → NamesPrint i t → has_print i is ≡ false → Stands c (place.Print (is ++ i ∷ [])) p (ts ++ t ∷ [])
  print_goes is i stands names new =
      goes_on (place.Print is) (place.Print (is ++ i ∷ [])) stands refl (λ m. m)
      (λ opened b. (b.0, b.1 ++ t ∷ [], ap (λ (x : List Lexeme). x ++ t ∷ []) b.2, b.3, (each_more (One NamesPrint) is b.1 i (t ∷ []) b.4.0 (t, refl, names), distinct_more print_number is i b.4.1 new)))

  show_goes : (is : List ShowItem) (i : ShowItem) → Stands c (place.Show is) p ts → NamesShow i t → has_show i is ≡ false → Stands c (place.Show (is ++ i ∷ [])) p (ts ++ t ∷ [])
  show_goes is i stands names new =
      goes_on (place.Show is) (place.Show (is ++ i ∷ [])) stands refl (λ m. m)
      (λ opened b. (b.0, b.1 ++ t ∷ [], ap (λ (x : List Lexeme). x ++ t ∷ []) b.2, b.3, (each_more (One NamesShow) is b.1 i (t ∷ []) b.4.0 (t, refl, names), distinct_more show_number is i b.4.1 new)))

-- ---- a statement ends

none_quits : (acts : List Statement) (a : Statement) → list_any is_quit acts ≡ false → QuitIsLast (acts ++ a ∷ [])
none_quits [] a e = ((λ q. refl), tt)
none_quits (b ∷ acts) a e = let two = split_or (is_quit b) (list_any is_quit acts) e in ((λ q. let no_quit = two.0 in absurd cc), none_quits acts a two.1)

serves_more : (c : Command) (acts : List Statement) (a : Statement) → Serves c acts → serves c (is_quit a) ≡ true → Serves c (acts ++ a ∷ [])
serves_more Run acts a h e = tt
serves_more Check [] a h e = (e, tt)
serves_more Check (b ∷ acts) a h e = (h.0, serves_more Check acts a h.1 e)
serves_more Again [] a h e = (e, tt)
serves_more Again (b ∷ acts) a h e = (h.0, serves_more Again acts a h.1 e)
serves_more Export [] a h e = (e, tt)
serves_more Export (b ∷ acts) a h e = (h.0, serves_more Export acts a h.1 e)

nothing_open : (c : Command) (over : Bool) (p : Program) (ts : List Lexeme) → IsProgram c p ts → over ≡ list_any is_quit p.acts → Stands c (place.Statement over) p ts
nothing_open c over p ts h e = (ts, [], sym (append-nil ts), h, e, refl)

proc_ends : (c : Command) (ss : List Setting) (ts : List Lexeme) (t : Lexeme) → BeginsOptions head.Proc ss ts → IsSemicolon t → (lacks c (options_of ss) ≡ false) × (are_wrong_together (options_of ss) ≡ false) → IsProgram c (record no_program { proc = options_of ss }) (ts ++ t ∷ [])
proc_ends c ss ts t b semi whole =
    let w = b.3.0 in
    let n = b.3.1 in
    let parts : ts ≡ w ∷ n ∷ b.1 = b.2 ∙ ap (λ (x : List Lexeme). x ++ b.1) b.3.2 in (
      ts ++ t ∷ [],
      [],
      [],
      sym (append-nil (ts ++ t ∷ [])),
      (w, n ∷ b.1, t, ap (λ (x : List Lexeme). x ++ t ∷ []) parts, b.3.3, semi, (n, b.1, ss, refl, b.3.4, b.3.5, b.4, b.5, refl, whole)),
      tt,
      tt,
      tt,
      tt,
      none_serves c,
    ) where
      none_serves : (c : Command) → Serves c []
      none_serves Run = tt
      none_serves Check = tt
      none_serves Again = tt
      none_serves Export = tt

role_ends : (c : Command) (p : Program) (before ts : List Lexeme) (r : Role) (ns : List (List ℕ)) → IsProgram c p before → has_role r p.roles ≡ false → p.acts ≡ [] → IsRole (r, ns) ts
    → IsProgram c (record p { roles = p.roles ++ (r, ns) ∷ [] }) (before ++ ts)
role_ends c p before ts r ns h new none is =
    let lone : AreSemicolons h.2 = subst (λ (x : List Statement). Statements IsAct x h.2) none h.7 in (
      h.0,
      (h.1 ++ h.2) ++ ts,
      [],
      regroup h.0 (h.1 ++ h.2) ts before h.3 ∙ ap (λ (x : List Lexeme). h.0 ++ x) (sym (append-nil ((h.1 ++ h.2) ++ ts))),
      h.4,
      statements_more IsRole p.roles (h.1 ++ h.2) (r, ns) ts (statements_lone IsRole p.roles h.1 h.2 h.5 lone) is,
      distinct_more role_key p.roles (r, ns) h.6 new,
      subst (λ (x : List Statement). Statements IsAct x []) (sym none) tt,
      h.8,
      h.9,
    )

act_ends : (c : Command) (p : Program) (before ts : List Lexeme) (a : Statement) → IsProgram c p before → MayAct c (is_quit a) p → IsAct a ts → IsProgram c (record p { acts = p.acts ++ a ∷ [] }) (before ++ ts)
act_ends c p before ts a h may is = (
  h.0,
  h.1,
  h.2 ++ ts,
  regroup h.0 (h.1 ++ h.2) ts before h.3 ∙ ap (λ (x : List Lexeme). h.0 ++ x) (append_assoc h.1 h.2 ts),
  h.4,
  h.5,
  h.6,
  statements_more IsAct p.acts h.2 a ts h.7 is,
  none_quits p.acts a may.0,
  serves_more c p.acts a h.9 may.1,
)

lone_ends : (c : Command) (p : Program) (before : List Lexeme) (t : Lexeme) → IsProgram c p before → IsSemicolon t → IsProgram c p (before ++ t ∷ [])
lone_ends c p before t h s =
    (h.0, h.1, h.2 ++ t ∷ [], regroup h.0 (h.1 ++ h.2) (t ∷ []) before h.3 ∙ ap (λ (x : List Lexeme). h.0 ++ x) (append_assoc h.1 h.2 (t ∷ [])), h.4, h.5, h.6, statements_lone IsAct p.acts h.2 (t ∷ []) h.7 (s, tt), h.8, h.9)

module _ (c : Command) (p : Program) (ts : List Lexeme) (t : Lexeme) where
  -- an act that is open ends
  act_done : (q : Place) (a : Statement) → Stands c q p ts → in_proc q ≡ false → (MayStand c q p → MayAct c (is_quit a) p) → ((opened : List Lexeme) → Begins q opened → IsAct a (opened ++ t ∷ []))
      → Says c q p ts t (Ok (turn.Act a))
  act_done q a h proc may is =
      let acts : is_quit a ≡ list_any is_quit (p.acts ++ a ∷ []) = sym (any_more is_quit p.acts a ∙ ap (λ (b : Bool). b || is_quit a) (may h.4).0) in
      nothing_open c (is_quit a) (record p { acts = p.acts ++ a ∷ [] }) (ts ++ t ∷ [])
      (subst (IsProgram c (record p { acts = p.acts ++ a ∷ [] })) (sym (regroup h.0 h.1 (t ∷ []) ts h.2)) (act_ends c p h.0 (h.1 ++ t ∷ []) a (subst (λ (b : Bool). IsBefore b c p h.0) proc h.3) (may h.4) (is h.1 h.5)))
      acts

  -- a statement's word opens it
  opens_to : (over : Bool) (r : Place) → Stands c (place.Statement over) p ts → in_proc r ≡ false → MayStand c r p → Begins r (t ∷ []) → Stands c r p (ts ++ t ∷ [])
  opens_to over r h proc may begins =
      (h.0, t ∷ [], regroup h.0 h.1 (t ∷ []) ts h.2 ∙ ap (λ (x : List Lexeme). h.0 ++ x) (no_tokens h.1 t h.5), subst (λ (b : Bool). IsBefore b c p h.0) (sym proc) h.3, may, begins)

  -- ---- each place

  no_word : (k : TokenKind) → t.kind ≡ k → (k ≡ Word → ⊥) → (k ≡ Semicolon → ⊥) → IsNoWord t
  no_word k e a b = ((λ x. a (sym e ∙ x)), (λ x. b (sym e ∙ x)))

  not_proc : (m : Option StatementWord) → statement_of t.bytes ≡ m → (m ≡ Some word.Proc → ⊥) → NamesStatement word.Proc t → ⊥
  not_proc m e other names = other (sym e ∙ names.1)

  first_says : (m : Option StatementWord) → t.kind ≡ Word → statement_of t.bytes ≡ m → Stands c place.Start p ts → Says c place.Start p ts t (first_word m)
  first_says (Some word.Proc) k e h =
      goes_on c p ts t place.Start place.Netflow h refl (λ m. m) (λ opened b. (t, no_tokens opened t b, (k, e)))
  first_says None k e h = (refl, not_proc None e (λ x. cc))
  first_says (Some (word.Role r)) k e h = (refl, not_proc (Some (word.Role r)) e (λ x. cc))
  first_says (Some word.Reset) k e h = (refl, not_proc (Some word.Reset) e (λ x. cc))
  first_says (Some word.Pivot) k e h = (refl, not_proc (Some word.Pivot) e (λ x. cc))
  first_says (Some word.Print) k e h = (refl, not_proc (Some word.Print) e (λ x. cc))
  first_says (Some word.Show) k e h = (refl, not_proc (Some word.Show) e (λ x. cc))
  first_says (Some word.Save) k e h = (refl, not_proc (Some word.Save) e (λ x. cc))
  first_says (Some word.Run) k e h = (refl, not_proc (Some word.Run) e (λ x. cc))
  first_says (Some word.Quit) k e h = (refl, not_proc (Some word.Quit) e (λ x. cc))

  start_says : (k : TokenKind) → t.kind ≡ k → Stands c place.Start p ts → Says c place.Start p ts t (at_start k t.bytes)
  unfolding at_start
  start_says Word k h = first_says (statement_of t.bytes) k refl h
  start_says Number k h = (refl, λ names. let w = names.0 in cc)
  start_says Quoted k h = (refl, λ names. let w = names.0 in cc)
  start_says Equals k h = (refl, λ names. let w = names.0 in cc)
  start_says Semicolon k h = (refl, λ names. let w = names.0 in cc)

  netflow_says : (k : TokenKind) → t.kind ≡ k → Stands c place.Netflow p ts → Says c place.Netflow p ts t (at_netflow k t.bytes)
  unfolding at_netflow
  netflow_says Word k h =
      says_unless c p ts t place.Netflow (not (is_netflow t.bytes)) kind.UnknownWord (Ok (turn.Goes (place.Options head.Proc []))) (λ e. (k, not_true (is_netflow t.bytes) e))
      (λ e. goes_on c p ts t place.Netflow (place.Options head.Proc []) h refl (λ m. m)
      (λ opened b. (b.0 ∷ t ∷ [], [], ap (λ (x : List Lexeme). x ++ t ∷ []) b.1, (b.0, t, refl, b.2, k, not_false (is_netflow t.bytes) e), (refl, tt), refl)))
  netflow_says Number k h = λ e. cc
  netflow_says Quoted k h = λ e. cc
  netflow_says Equals k h = λ e. cc
  netflow_says Semicolon k h = λ e. cc

  options_end : (h : Head) (ss : List Setting) → IsSemicolon t → Stands c (place.Options h ss) p ts → Says c (place.Options h ss) p ts t (end_options c h ss)
  unfolding end_options
  options_end head.Proc ss semi h =
      says_unless c p ts t (place.Options head.Proc ss) (lacks c (options_of ss)) kind.MissingOption (unless (are_wrong_together (options_of ss)) kind.WrongTogether (Ok (turn.Proc (options_of ss)))) (λ e. (semi, e))
      (λ none. says_unless c p ts t (place.Options head.Proc ss) (are_wrong_together (options_of ss)) kind.WrongTogether (Ok (turn.Proc (options_of ss))) (λ e. (semi, none, e))
      (λ e.
      let all : ts ≡ h.1 = h.2 ∙ ap (λ (x : List Lexeme). x ++ h.1) h.3 in
      let made : IsProgram c (record no_program { proc = options_of ss }) (ts ++ t ∷ []) = subst (λ (x : List Lexeme). IsProgram c (record no_program { proc = options_of ss }) (x ++ t ∷ [])) (sym all) (proc_ends c ss h.1 t h.5 semi (none, e)) in
      subst (λ (x : Program). Stands c (place.Statement false) (record x { proc = options_of ss }) (ts ++ t ∷ [])) (sym h.4)
      (nothing_open c false (record no_program { proc = options_of ss }) (ts ++ t ∷ []) made refl)))
  options_end head.Reset ss semi h =
      act_done (place.Options head.Reset ss) (act.Reset (resets_of ss)) h refl (λ m. m)
      (λ opened b.
      let os : resets_of ss ≡ b.5.0 = ap resets_of b.5.1 ∙ resets_are b.5.0 in
      let parts : opened ≡ b.3.0 ∷ b.1 = b.2 ∙ ap (λ (x : List Lexeme). x ++ b.1) b.3.1 in
      (b.3.0, b.1, t, ap (λ (x : List Lexeme). x ++ t ∷ []) parts, b.3.2, semi, subst (λ (x : List Setting). AreSettings x b.1) (b.5.1 ∙ ap (map reset_setting) (sym os)) b.4))
  options_end head.Save ss semi h =
      says_unless c p ts t (place.Options head.Save ss) (is_empty ss) kind.WrongValue (Ok (turn.Act (act.Save (saves_of ss)))) (λ e. inr (refl, empty_is ss e, semi))
      (λ e. act_done (place.Options head.Save ss) (act.Save (saves_of ss)) h refl (λ m. m)
      (λ opened b.
      let is : saves_of ss ≡ b.5.0 = ap saves_of b.5.1 ∙ saves_are b.5.0 in
      let all : ss ≡ map save_setting (saves_of ss) = b.5.1 ∙ ap (map save_setting) (sym is) in
      let parts : opened ≡ b.3.0 ∷ b.1 = b.2 ∙ ap (λ (x : List Lexeme). x ++ b.1) b.3.1 in (
        (b.3.0, b.1, t, ap (λ (x : List Lexeme). x ++ t ∷ []) parts, b.3.2, semi, subst (λ (x : List Setting). AreSettings x b.1) all b.4),
        λ none. empty_not ss e (all ∙ ap (map save_setting) none),
      )))

  options_says : (k : TokenKind) (h : Head) (ss : List Setting) → t.kind ≡ k → Stands c (place.Options h ss) p ts → Says c (place.Options h ss) p ts t (at_options c h ss k t.bytes)
  unfolding at_options option_word
  options_says Word h ss k stands =
      let q = place.Options h ss in
      says_found c p ts t q kind.UnknownWord (option_of t.bytes) (λ o. unless (not (belongs h ss o)) kind.OptionNotHere (new_option h ss o)) (λ e. (k, e))
      (λ o e. says_unless c p ts t q (not (belongs h ss o)) kind.OptionNotHere (new_option h ss o) (λ b. (o, (k, e), not_true (belongs h ss o) b))
      (λ b. says_unless c p ts t q (is_given o ss) kind.RepeatedOption (Ok (turn.Goes (next_place h ss o (flag_of o)))) (λ g. (o, (k, e), not_false (belongs h ss o) b, g))
      (λ g. option_goes c p ts t h ss o (flag_of o) stands (k, e) (not_false (belongs h ss o) b) g refl)))
  options_says Semicolon h ss k stands = options_end h ss k stands
  options_says Number h ss k stands = inl (no_word Number k (λ x. cc) (λ x. cc))
  options_says Quoted h ss k stands = inl (no_word Quoted k (λ x. cc) (λ x. cc))
  options_says Equals h ss k stands = inl (no_word Equals k (λ x. cc) (λ x. cc))

  equals_says : (k : TokenKind) (h : Head) (ss : List Setting) (o : OptionWord) → t.kind ≡ k → Stands c (place.Equals h ss o) p ts → Says c (place.Equals h ss o) p ts t (at_equals h ss o k)
  unfolding at_equals
  equals_says Equals h ss o k stands = equals_goes c p ts t h ss o stands k
  equals_says Word h ss o k stands = λ e. cc
  equals_says Number h ss o k stands = λ e. cc
  equals_says Quoted h ss o k stands = λ e. cc
  equals_says Semicolon h ss o k stands = λ e. cc

  no_value : (o : OptionWord) (m : Option Setting) → value_of o t.kind t.bytes ≡ m → m ≡ None → IsWrong (place.Value head.Proc [] o) t
  no_value o m e none = λ s same value. let made : value_of o t.kind t.bytes ≡ Some s = ap (λ (x : OptionWord). value_of x t.kind t.bytes) (sym same) ∙ value_complete s t value in cc

  value_says : (h : Head) (ss : List Setting) (o : OptionWord) → Stands c (place.Value h ss o) p ts → Says c (place.Value h ss o) p ts t (at_value h ss o t.kind t.bytes)
  unfolding at_value
  value_says h ss o stands =
      says_found c p ts t (place.Value h ss o) kind.WrongValue (value_of o t.kind t.bytes) (λ s. Ok (turn.Goes (place.Options h (ss ++ s ∷ [])))) (λ e. no_value o (value_of o t.kind t.bytes) refl e)
      (λ s e. value_goes c p ts t h ss o s stands e)

  -- an act's word
  late_is : (c : Command) (over : Bool) → is_late c over ≡ true → (over ≡ true) ⊎ (serves c false ≡ false)
  late_is Run over e = inl e
  late_is Check over e = inr refl
  late_is Again over e = inr refl
  late_is Export over e = inr refl

  may_act : (c : Command) (over : Bool) → over ≡ list_any is_quit p.acts → is_late c over ≡ false → MayAct c false p
  may_act Run over same e = (sym same ∙ e, refl)
  may_act Check over same e = absurd cc
  may_act Again over same e = absurd cc
  may_act Export over same e = absurd cc

  act_says : (over : Bool) (s : StatementWord) (r : Place) (late : Bool) → NamesStatement s t → Stands c (place.Statement over) p ts → in_proc r ≡ false → (late ≡ true → IsTooLate c over p s) → (late ≡ false → MayStand c r p) → Begins r (t ∷ [])
      → Says c (place.Statement over) p ts t (act_place late r)
  act_says over s r late names h proc bad good begins =
      says_unless c p ts t (place.Statement over) late kind.StatementOrder (Ok (turn.Goes r)) (λ e. (s, names, bad e)) (λ e. opens_to over r h proc (good e) begins)

  quit_serves : (c : Command) → serves c true ≡ true
  quit_serves Run = refl
  quit_serves Check = refl
  quit_serves Again = refl
  quit_serves Export = refl

  run_serves : (c : Command) → MayAct c false p → MayAct c false p
  run_serves c m = m

  opens_says : (over : Bool) (s : StatementWord) → NamesStatement s t → Stands c (place.Statement over) p ts → Says c (place.Statement over) p ts t (opens c over p s)
  unfolding opens
  opens_says over word.Proc names h = (word.Proc, names, tt)
  opens_says over (word.Role r) names h =
      says_unless c p ts t (place.Statement over) (has_role r p.roles) kind.RepeatedOption (unless (not (is_empty p.acts)) kind.StatementOrder (Ok (turn.Goes (place.Columns r [])))) (λ e. (r, names, e))
      (λ new. says_unless c p ts t (place.Statement over) (not (is_empty p.acts)) kind.StatementOrder (Ok (turn.Goes (place.Columns r []))) (λ e. (word.Role r, names, (new, empty_not p.acts (not_true (is_empty p.acts) e))))
      (λ e. opens_to over (place.Columns r []) h refl (new, empty_is p.acts (not_false (is_empty p.acts) e)) ((t, [], refl, names, refl), tt)))
  opens_says over word.Reset names h =
      act_says over word.Reset (place.Options head.Reset []) (is_late c over) names h refl (late_is c over) (may_act c over h.4) (t ∷ [], [], refl, (t, refl, names), (refl, tt), ([], refl))
  opens_says over word.Save names h =
      act_says over word.Save (place.Options head.Save []) (is_late c over) names h refl (late_is c over) (may_act c over h.4) (t ∷ [], [], refl, (t, refl, names), (refl, tt), ([], refl))
  opens_says over word.Print names h = act_says over word.Print (place.Print []) (is_late c over) names h refl (late_is c over) (may_act c over h.4) (t, [], refl, names, (refl, tt))
  opens_says over word.Show names h = act_says over word.Show (place.Show []) (is_late c over) names h refl (late_is c over) (may_act c over h.4) (t, [], refl, names, (refl, tt))
  opens_says over word.Pivot names h = act_says over word.Pivot (place.Alone plain.Pivot) (is_late c over) names h refl (late_is c over) (may_act c over h.4) (t, refl, names)
  opens_says over word.Run names h = act_says over word.Run (place.Alone plain.Run) (is_late c over) names h refl (late_is c over) (may_act c over h.4) (t, refl, names)
  opens_says over word.Quit names h = act_says over word.Quit (place.Alone plain.Quit) over names h refl (λ e. e) (λ e. (sym h.4 ∙ e, quit_serves c)) (t, refl, names)

  statement_says : (k : TokenKind) (over : Bool) → t.kind ≡ k → Stands c (place.Statement over) p ts → Says c (place.Statement over) p ts t (at_statement c over p k t.bytes)
  unfolding at_statement
  statement_says Word over k h = says_found c p ts t (place.Statement over) kind.UnknownWord (statement_of t.bytes) (opens c over p) (λ e. (k, e)) (λ s e. opens_says over s (k, e) h)
  statement_says Semicolon over k h =
      let made = lone_ends c p h.0 t h.3 k in
      let whole : ts ++ t ∷ [] ≡ h.0 ++ t ∷ [] = regroup h.0 h.1 (t ∷ []) ts h.2 ∙ ap (λ (x : List Lexeme). h.0 ++ x) (no_tokens h.1 t h.5) in
      nothing_open c over p (ts ++ t ∷ []) (subst (IsProgram c p) (sym whole) made) h.4
  statement_says Number over k h = no_word Number k (λ x. cc) (λ x. cc)
  statement_says Quoted over k h = no_word Quoted k (λ x. cc) (λ x. cc)
  statement_says Equals over k h = no_word Equals k (λ x. cc) (λ x. cc)

  -- ---- roles

  full_is : (r : Role) (ns : List (List ℕ)) → is_full r ns ≡ true → (ns ≢ []) × (takes_list r ≡ false)
  full_is r ns e = let two = split_and (not (is_empty ns)) (not (takes_list r)) e in (empty_not ns (not_true (is_empty ns) two.0), not_true (takes_list r) two.1)

  column_says : (r : Role) (ns : List (List ℕ)) → (t.kind ≡ Semicolon → ⊥) → Stands c (place.Columns r ns) p ts → Says c (place.Columns r ns) p ts t (add_column r ns t.kind t.bytes)
  column_says r ns other h =
      let q = place.Columns r ns in
      let next : List ℕ → Step Turn = λ n. Ok (turn.Goes (place.Columns r (ns ++ n ∷ []))) in
      says_unless c p ts t q (is_full r ns) kind.WrongValue (found_or kind.WrongValue (column_of t.kind t.bytes) next) (λ e. inr (other, inl (full_is r ns e)))
      (λ full. says_found c p ts t q kind.WrongValue (column_of t.kind t.bytes) next (λ e. inr (other, inr (λ n is. let made = column_complete n t is in cc)))
      (λ n e. column_goes c p ts t r ns n h full (column_sound n t e)))

  role_done : (r : Role) (ns : List (List ℕ)) → IsSemicolon t → Stands c (place.Columns r ns) p ts → is_empty ns ≡ false → Says c (place.Columns r ns) p ts t (Ok (turn.Role r ns))
  role_done r ns semi h some =
      let b = h.5 in
      let is : IsRole (r, ns) (h.1 ++ t ∷ []) = ((b.0.0, b.0.1, t, ap (λ (x : List Lexeme). x ++ t ∷ []) b.0.2, b.0.3, semi, b.0.4), has_columns r ns b.1 some) in
      let made : IsProgram c (record p { roles = p.roles ++ (r, ns) ∷ [] }) (ts ++ t ∷ []) =
      subst (IsProgram c (record p { roles = p.roles ++ (r, ns) ∷ [] })) (sym (regroup h.0 h.1 (t ∷ []) ts h.2)) (role_ends c p h.0 (h.1 ++ t ∷ []) r ns h.3 h.4.0 h.4.1 is) in
      nothing_open c false (record p { roles = p.roles ++ (r, ns) ∷ [] }) (ts ++ t ∷ []) made (sym (ap (list_any is_quit) h.4.1)) where
        has_columns : (r : Role) (ns : List (List ℕ)) → HasRoom r ns → is_empty ns ≡ false → HasColumns r ns
        has_columns r [] h e = absurd cc
        has_columns r (n ∷ ns) h e = h

  columns_says : (k : TokenKind) (r : Role) (ns : List (List ℕ)) → t.kind ≡ k → Stands c (place.Columns r ns) p ts → Says c (place.Columns r ns) p ts t (at_columns r ns k t.bytes)
  unfolding at_columns
  columns_says Semicolon r ns k h =
      says_unless c p ts t (place.Columns r ns) (is_empty ns) kind.WrongValue (Ok (turn.Role r ns)) (λ e. inl (empty_is ns e, k)) (λ e. role_done r ns k h e)
  columns_says Word r ns k h = subst (λ (x : TokenKind). Says c (place.Columns r ns) p ts t (add_column r ns x t.bytes)) k (column_says r ns (λ e. cc) h)
  columns_says Number r ns k h = subst (λ (x : TokenKind). Says c (place.Columns r ns) p ts t (add_column r ns x t.bytes)) k (column_says r ns (λ e. cc) h)
  columns_says Quoted r ns k h = subst (λ (x : TokenKind). Says c (place.Columns r ns) p ts t (add_column r ns x t.bytes)) k (column_says r ns (λ e. cc) h)
  columns_says Equals r ns k h = subst (λ (x : TokenKind). Says c (place.Columns r ns) p ts t (add_column r ns x t.bytes)) k (column_says r ns (λ e. cc) h)

  -- ---- PRINT, SHOW and what stands alone

  print_says : (k : TokenKind) (is : List PrintItem) → t.kind ≡ k → Stands c (place.Print is) p ts → Says c (place.Print is) p ts t (at_print is k t.bytes)
  unfolding at_print print_word
  print_says Word is k h =
      says_found c p ts t (place.Print is) kind.UnknownWord (print_of t.bytes) (λ i. unless (has_print i is) kind.RepeatedOption (Ok (turn.Goes (place.Print (is ++ i ∷ []))))) (λ e. (k, e))
      (λ i e. says_unless c p ts t (place.Print is) (has_print i is) kind.RepeatedOption (Ok (turn.Goes (place.Print (is ++ i ∷ [])))) (λ g. (i, (k, e), g)) (λ g. print_goes c p ts t is i h (k, e) g))
  print_says Semicolon is k h =
      says_unless c p ts t (place.Print is) (is_empty is) kind.WrongValue (Ok (turn.Act (act.Print is))) (λ e. inr (empty_is is e, k))
      (λ e. act_done (place.Print is) (act.Print is) h refl (λ m. m) (λ opened b. ((b.0, b.1, t, ap (λ (x : List Lexeme). x ++ t ∷ []) b.2, b.3, k, b.4), empty_not is e)))
  print_says Number is k h = inl (no_word Number k (λ x. cc) (λ x. cc))
  print_says Quoted is k h = inl (no_word Quoted k (λ x. cc) (λ x. cc))
  print_says Equals is k h = inl (no_word Equals k (λ x. cc) (λ x. cc))

  show_says : (k : TokenKind) (is : List ShowItem) → t.kind ≡ k → Stands c (place.Show is) p ts → Says c (place.Show is) p ts t (at_show is k t.bytes)
  unfolding at_show show_word
  show_says Word is k h =
      says_found c p ts t (place.Show is) kind.UnknownWord (show_of t.bytes) (λ i. unless (has_show i is) kind.RepeatedOption (Ok (turn.Goes (place.Show (is ++ i ∷ []))))) (λ e. (k, e))
      (λ i e. says_unless c p ts t (place.Show is) (has_show i is) kind.RepeatedOption (Ok (turn.Goes (place.Show (is ++ i ∷ [])))) (λ g. (i, (k, e), g)) (λ g. show_goes c p ts t is i h (k, e) g))
  show_says Semicolon is k h =
      says_unless c p ts t (place.Show is) (is_empty is) kind.WrongValue (Ok (turn.Act (act.Show is))) (λ e. inr (empty_is is e, k))
      (λ e. act_done (place.Show is) (act.Show is) h refl (λ m. m) (λ opened b. ((b.0, b.1, t, ap (λ (x : List Lexeme). x ++ t ∷ []) b.2, b.3, k, b.4), empty_not is e)))
  show_says Number is k h = inl (no_word Number k (λ x. cc) (λ x. cc))
  show_says Quoted is k h = inl (no_word Quoted k (λ x. cc) (λ x. cc))
  show_says Equals is k h = inl (no_word Equals k (λ x. cc) (λ x. cc))

  plain_is : (s : Plain) (opened : List Lexeme) → IsSemicolon t → One NamesStatement (plain_word s) opened → IsAct (plain_act s) (opened ++ t ∷ [])
  plain_is plain.Pivot opened semi b = (b.0, [], t, ap (λ (x : List Lexeme). x ++ t ∷ []) b.1, b.2, semi, refl)
  plain_is plain.Run opened semi b = (b.0, [], t, ap (λ (x : List Lexeme). x ++ t ∷ []) b.1, b.2, semi, refl)
  plain_is plain.Quit opened semi b = (b.0, [], t, ap (λ (x : List Lexeme). x ++ t ∷ []) b.1, b.2, semi, refl)

  alone_says : (k : TokenKind) (s : Plain) → t.kind ≡ k → Stands c (place.Alone s) p ts → Says c (place.Alone s) p ts t (at_alone s k)
  unfolding at_alone
  alone_says Semicolon s k h = act_done (place.Alone s) (plain_act s) h refl (λ m. m) (λ opened b. plain_is s opened k b)
  alone_says Word s k h = (k, tt)
  alone_says Number s k h = no_word Number k (λ x. cc) (λ x. cc)
  alone_says Quoted s k h = no_word Quoted k (λ x. cc) (λ x. cc)
  alone_says Equals s k h = no_word Equals k (λ x. cc) (λ x. cc)

  -- ---- any place

  pub token_says : (q : Place) → Stands c q p ts → Says c q p ts t (turn_at c q p t.kind t.bytes)
  unfolding turn_at
  token_says place.Start h = start_says t.kind refl h
  token_says place.Netflow h = netflow_says t.kind refl h
  token_says (place.Options h ss) stands = options_says t.kind h ss refl stands
  token_says (place.Equals h ss o) stands = equals_says t.kind h ss o refl stands
  token_says (place.Value h ss o) stands = value_says h ss o stands
  token_says (place.Statement over) h = statement_says t.kind over refl h
  token_says (place.Columns r ns) h = columns_says t.kind r ns refl h
  token_says (place.Print is) h = print_says t.kind is refl h
  token_says (place.Show is) h = show_says t.kind is refl h
  token_says (place.Alone s) h = alone_says t.kind s refl h
