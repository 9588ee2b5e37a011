-- The canonical text of a program that a text has is a text of it.
use Rattle.std.proofs.Common.{◌≡◌, ◌≢◌, ℕ, ◌+◌, ◌≤◌, Bool, true, false, List, [], ◌∷◌, ◌++◌, length, map, Option, Some, None, refl, sym, ap, ◌∙◌, subst, append_assoc, ◌⊎◌, inl, inr, if◌then◌else◌}
use Rattle.std.specs.Prelude.{codes}
use Rattle.std.specs.List.{AllByRecursion, flat_map, list_all}
use Rattle.std.proofs.lemmas.List.{append-nil}
use Rattle.std.proofs.lemmas.Grind.{flat_map-append}
use Rattle.nf_text.specs.declared.token.Token.{Token}
use Rattle.nf_text.specs.declared.token.TokenKind.{TokenKind}
use Rattle.nf_text.specs.declared.token.TokenKind.TheVariants.{Word, Quoted, Equals, Semicolon}
use Rattle.nf_text.specs.Bytes.{is_word_byte, is_number_byte}
use Rattle.nf_text.specs.Tokens.{IsPiece, Ends, Stops, Piece, IsCut, Lexeme, lexemes, AreTokens, tokens_of, end_of}
use Rattle.nf_text.proofs.Readings.{lexeme_at, lexemes_of, lexemes_are}
use Rattle.nf_program.specs.declared.program.Command.{Command}
use Rattle.nf_program.specs.declared.program.Program.{Program}
use Rattle.nf_program.specs.declared.program.ProcOptions.{ProcOptions}
use Rattle.nf_program.specs.declared.program.ResetOption.{ResetOption}
use Rattle.nf_program.specs.declared.program.SaveItem.{SaveItem}
use Rattle.nf_program.specs.declared.program.PrintItem.{PrintItem}
use Rattle.nf_program.specs.declared.program.ShowItem.{ShowItem}
use Rattle.nf_program.specs.declared.program.Statement.{Statement}
use Rattle.nf_program.specs.declared.program.Statement.TheVariants as act
use Rattle.nf_program.specs.declared.program.Bound.TheVariants.{Finite, Infinite}
use Rattle.nf_program.specs.declared.words.StatementWord.{StatementWord}
use Rattle.nf_program.specs.declared.words.StatementWord.TheVariants as word
use Rattle.nf_program.specs.declared.settings.Setting.{Setting}
use Rattle.nf_program.specs.declared.settings.Setting.TheVariants as setting
use Rattle.nf_program.specs.Values.{Fits, is_name_byte, IsColumn, IsNode}
use Rattle.nf_program.specs.Settings.{word_of, key_of, is_apart, lacks, are_wrong_together, reset_setting, save_setting}
use Rattle.nf_program.specs.Programs.{AreDistinct, RoleColumns, print_number, show_number}
use Rattle.nf_program.specs.Grammar.{NamesPrint, NamesShow, One, Each, IsSetting, AreSettings, IsStatement, IsNetflow, HasColumns, IsRole, ArePrints, AreShows, IsNothing, IsAct, Statements, QuitIsLast, Serves, role_key, IsProgram, HasProgram}
use Rattle.nf_writer.specs.Canonical.{statement_text, option_text, print_text, show_text, a_word, space, newline, semicolon, is_plain, mark_for, name_piece, value_pieces, setting_pieces, settings_of, line, proc_pieces, column_pieces, role_pieces, print_pieces, show_pieces, act_pieces, program_pieces, text_of, canonical}
use Rattle.nf_writer.proofs.Spellings.{statement_spelled, option_spelled, print_spelled, show_spelled, con_type_spelled, price_type_spelled}
use Rattle.nf_writer.proofs.Numbers.{count_number, count_digits, count_short, count_value, amount_number, amount_back}
use Rattle.nf_writer.proofs.Names.{Quotable, Writable, plain_word, quoted_piece, inside_quotes, node_quotable, column_writable}
use Rattle.nf_writer.proofs.Canon.{settings_distinct, settings_make}
use Rattle.nf_writer.proofs.Apart.{settings_apart}
use Rattle.nf_writer.proofs.Writable.{SetOk, SettingOk, SettingsOk, ArePieces, pieces_front, pieces_back, settings_ok, ProcOk, options_ok, proc_settings_ok}
use Rattle.nf_writer.proofs.OptionTexts.{SetsAreText, sets_text, HasAmounts, options_have_amounts}

-- ---- the pieces are a cut of the text

-- each is a piece, and as long as it can be
Good : List Piece → List ℕ → Type 0
Good [] after = Unit {0}
Good (p ∷ ps) after = IsPiece p.kind p.bytes × Ends p.kind (text_of ps ++ after) × Good ps after

cut_of : (ps : List Piece) (after : List ℕ) → Good ps after → IsCut ps (text_of ps ++ after) after
unfolding Good
cut_of [] after g = refl
cut_of (p ∷ ps) after g = (text_of ps ++ after, append_assoc p.bytes (text_of ps) after, g.0, g.1, cut_of ps after g.2)

text_append : (a b : List Piece) (after : List ℕ) → text_of (a ++ b) ++ after ≡ text_of a ++ (text_of b ++ after)
text_append a b after = ap (λ (t : List ℕ). t ++ after) (flat_map-append (λ p. p.bytes) a b) ∙ append_assoc (text_of a) (text_of b) after

good_append : (a b : List Piece) (after : List ℕ) → Good a (text_of b ++ after) → Good b after → Good (a ++ b) after
unfolding Good
good_append [] b after g h = h
good_append (p ∷ a) b after g h = (g.0, subst (Ends p.kind) (sym (text_append a b after)) g.1, good_append a b after g.2 h)

abbrev line_end : List Piece
line_end = semicolon ∷ newline ∷ []

-- what neither a word nor a number goes on with
record Apart (after : List ℕ) : Type 0 where
  no_word : Stops is_word_byte after
  no_number : Stops is_number_byte after

module _ {A : Type 0} (rest : A → List Piece) where
  abbrev body : List A → List Piece
  body xs = flat_map (λ x. space ∷ rest x) xs

  body_apart : (xs : List A) (after : List ℕ) → Apart (text_of (body xs ++ line_end) ++ after)
  body_apart [] after = record { no_word = refl; no_number = refl }
  body_apart (x ∷ xs) after = record { no_word = refl; no_number = refl }

  body_good : (Fine : A → Type 0) → ((x : A) (after : List ℕ) → Fine x → Apart after → Good (rest x) after) → (xs : List A) (after : List ℕ) → AllByRecursion Fine xs → Good (body xs ++ line_end) after
  unfolding Good
  body_good Fine one [] after h = (refl, tt, (inl (10, refl, refl), tt, tt))
  body_good Fine one (x ∷ xs) after h = (
    inl (32, refl, refl),
    tt,
    subst (λ (ps : List Piece). Good ps after) (sym (append_assoc (rest x) (body xs) line_end))
        (good_append (rest x) (body xs ++ line_end) after (one x (text_of (body xs ++ line_end) ++ after) h.0 (body_apart xs after)) (body_good Fine one xs after h.1)),
  )

line_good : (s : StatementWord) (pieces : List Piece) (after : List ℕ) → Apart (text_of (pieces ++ line_end) ++ after) → Good (pieces ++ line_end) after → Good (line s pieces) after
unfolding Good
line_good s pieces after apart good = (plain_word (statement_text s) (statement_spelled s).0, apart.no_word, good)

-- ---- names and values

-- how a name is written
name_by : (t : Bool) (n : List ℕ) → is_plain n ≡ t → Writable n → ((is_plain n ≡ true) × (name_piece n ≡ a_word n)) ⊎ (Quotable n × (name_piece n ≡ record { kind = Some Quoted; bytes = mark_for n ∷ (n ++ mark_for n ∷ []) }))
unfolding name_piece Writable
name_by true n e w = inl (e, ap (λ (t : Bool). if t then a_word n else record { kind = Some Quoted; bytes = mark_for n ∷ (n ++ mark_for n ∷ []) }) e)
name_by false n e (inl p) = absurd cc
name_by false n e (inr q) = inr (q, ap (λ (t : Bool). if t then a_word n else record { kind = Some Quoted; bytes = mark_for n ∷ (n ++ mark_for n ∷ []) }) e)

-- the piece stands, before what is apart
Stands : Piece → List ℕ → Type 0
Stands p after = IsPiece p.kind p.bytes × Ends p.kind after

name_stands : (n after : List ℕ) → Writable n → Apart after → Stands (name_piece n) after
unfolding Stands
name_stands n after w apart =
    elim (name_by (is_plain n) n refl w) [
      | inl h ↦ subst (λ (p : Piece). Stands p after) (sym h.1) (plain_word n h.0, apart.no_word)
      | inr h ↦ subst (λ (p : Piece). Stands p after) (sym h.1) (quoted_piece n h.0, tt)
    ]

node_writable : (n : List ℕ) → list_all is_name_byte n ≡ true → Writable n
unfolding Writable
node_writable n h = inr (node_quotable n h)

inf_word : is_plain (codes "inf") ≡ true
inf_word = refl

setting_good : (s : Setting) (after : List ℕ) → SettingOk s → Apart after → Good (a_word (option_text (word_of s)) ∷ value_pieces s) after
unfolding Good SettingOk SetOk Stands
setting_good (setting.Flag o) after h apart = (plain_word _ (option_spelled (word_of (setting.Flag o))).0, apart.no_word, tt)
setting_good (setting.Switch o b) after h apart = (plain_word _ (option_spelled (word_of (setting.Switch o b))).0, apart.no_word, tt)
setting_good (setting.Input o n) after h apart = (plain_word _ (option_spelled (word_of (setting.Input o n))).0, refl, (refl, tt, (plain_word n h.0, apart.no_word, tt)))
setting_good (setting.Output o n) after h apart = (plain_word _ (option_spelled (word_of (setting.Output o n))).0, refl, (refl, tt, (plain_word n h.0, apart.no_word, tt)))
setting_good (setting.Amount o a) after h apart = (plain_word _ (option_spelled (word_of (setting.Amount o a))).0, refl, (refl, tt, (amount_number a h, apart.no_number, tt)))
setting_good (setting.DefCapacity (Finite a)) after h apart = (plain_word _ (option_spelled (word_of (setting.DefCapacity (Finite a)))).0, refl, (refl, tt, (amount_number a h, apart.no_number, tt)))
setting_good (setting.DefCapacity Infinite) after h apart = (plain_word _ (option_spelled (word_of (setting.DefCapacity Infinite))).0, refl, (refl, tt, (plain_word (codes "inf") inf_word, apart.no_word, tt)))
setting_good (setting.DefConType t) after h apart = (plain_word _ (option_spelled (word_of (setting.DefConType t))).0, refl, (refl, tt, (plain_word _ (con_type_spelled t).0, apart.no_word, tt)))
setting_good (setting.Node o n) after h apart =
    let stands = name_stands n after (node_writable n h.0) apart in
    (plain_word _ (option_spelled (word_of (setting.Node o n))).0, refl, (refl, tt, (stands.0, stands.1, tt)))
setting_good (setting.Count o n) after h apart = (plain_word _ (option_spelled (word_of (setting.Count o n))).0, refl, (refl, tt, (count_number n h.0, apart.no_number, tt)))
setting_good (setting.Rule o r) after h apart = (plain_word _ (option_spelled (word_of (setting.Rule o r))).0, refl, (refl, tt, (plain_word _ (price_type_spelled r).0, apart.no_word, tt)))

column_good : (n after : List ℕ) → Writable n → Apart after → Good (name_piece n ∷ []) after
unfolding Good Stands
column_good n after w apart = let stands = name_stands n after w apart in (stands.0, stands.1, tt)

print_good : (i : PrintItem) (after : List ℕ) → Unit {0} → Apart after → Good (a_word (print_text i) ∷ []) after
unfolding Good
print_good i after h apart = (plain_word (print_text i) (print_spelled i).0, apart.no_word, tt)

show_good : (i : ShowItem) (after : List ℕ) → Unit {0} → Apart after → Good (a_word (show_text i) ∷ []) after
unfolding Good
show_good i after h apart = (plain_word (show_text i) (show_spelled i).0, apart.no_word, tt)

all_fine : {A : Type 0} (xs : List A) → AllByRecursion (λ (x : A). Unit {0}) xs
all_fine [] = tt
all_fine (x ∷ xs) = (tt, all_fine xs)

-- ---- the tokens are the program's

lexemes_append : (at : ℕ) (a b : List Piece) → lexemes_of at (a ++ b) ≡ lexemes_of at a ++ lexemes_of (end_of at a) b
unfolding lexemes_of
lexemes_append at [] b = refl
lexemes_append at (p ∷ a) b = ap (λ (t : List Lexeme). lexeme_at p.kind at p.bytes ++ t) (lexemes_append (at + length p.bytes) a b) ∙ sym (append_assoc (lexeme_at p.kind at p.bytes) _ _)

each_are : {A : Type 0} (Fine : A → Type 0) (Is : A → List Lexeme → Type 0) (pieces : A → List Piece) → ((x : A) (at : ℕ) → Fine x → Is x (lexemes_of at (pieces x))) → (xs : List A) (at : ℕ) → AllByRecursion Fine xs → Each Is xs (lexemes_of at (flat_map pieces xs))
unfolding lexemes_of
each_are Fine Is pieces one [] at h = refl
each_are Fine Is pieces one (x ∷ xs) at h =
    (lexemes_of at (pieces x), lexemes_of (end_of at (pieces x)) (flat_map pieces xs), lexemes_append at (pieces x) (flat_map pieces xs), one x at h.0, each_are Fine Is pieces one xs (end_of at (pieces x)) h.1)

statements_are : {A : Type 0} (Fine : A → Type 0) (Is : A → List Lexeme → Type 0) (pieces : A → List Piece) → ((x : A) (at : ℕ) → Fine x → Is x (lexemes_of at (pieces x))) → (xs : List A) (at : ℕ) → AllByRecursion Fine xs → Statements Is xs (lexemes_of at (flat_map pieces xs))
unfolding lexemes_of
statements_are Fine Is pieces one [] at h = tt
statements_are Fine Is pieces one (x ∷ xs) at h =
    ([], lexemes_of at (pieces x), lexemes_of (end_of at (pieces x)) (flat_map pieces xs), lexemes_append at (pieces x) (flat_map pieces xs), tt, one x at h.0, statements_are Fine Is pieces one xs (end_of at (pieces x)) h.1)

line_is : (s : StatementWord) (pieces : List Piece) (Body : List Lexeme → Type 0) (at : ℕ) → ((at : ℕ) → Body (lexemes_of at pieces)) → IsStatement s Body (lexemes_of at (line s pieces))
unfolding lexemes_of lexeme_at
line_is s pieces Body at h =
    let behind = at + length (statement_text s) in (
      record { kind = Word; bytes = statement_text s; at = at },
      lexemes_of behind pieces,
      record { kind = Semicolon; bytes = 59 ∷ []; at = end_of behind pieces },
      ap (λ (t : List Lexeme). record { kind = Word; bytes = statement_text s; at = at } ∷ t) (lexemes_append behind pieces line_end),
      (refl, (statement_spelled s).1),
      refl,
      h behind,
    )

node_is : (n : List ℕ) (at : ℕ) (P : List Lexeme → Type 0) → (list_all is_name_byte n ≡ true) × Fits n → ((v : Lexeme) → IsNode n v → P (v ∷ [])) → P (lexeme_at (name_piece n).kind at (name_piece n).bytes)
unfolding lexeme_at
node_is n at P h use_it =
    elim (name_by (is_plain n) n refl (node_writable n h.0)) [
      | inl w ↦ subst (λ (p : Piece). P (lexeme_at p.kind at p.bytes)) (sym w.1) (use_it (record { kind = Word; bytes = n; at = at }) (inl (refl, refl), h.0, h.1))
      | inr q ↦ subst (λ (p : Piece). P (lexeme_at p.kind at p.bytes)) (sym q.1)
          (use_it (record { kind = Quoted; bytes = mark_for n ∷ (n ++ mark_for n ∷ []); at = at }) (inr (inr (refl, sym (inside_quotes (mark_for n) n))), h.0, h.1))
    ]

setting_is : (s : Setting) (at : ℕ) → SettingOk s → IsSetting s (lexemes_of at (setting_pieces s))
unfolding lexemes_of lexeme_at SettingOk SetOk
setting_is (setting.Flag o) at h = (_, refl, (refl, (option_spelled (word_of (setting.Flag o))).1))
setting_is (setting.Switch o b) at h = (_, refl, (refl, (option_spelled (word_of (setting.Switch o b))).1))
setting_is (setting.Input o n) at h = (_, _, _, refl, (refl, (option_spelled (word_of (setting.Input o n))).1), refl, (refl, h.1, h.2))
setting_is (setting.Output o n) at h = (_, _, _, refl, (refl, (option_spelled (word_of (setting.Output o n))).1), refl, (refl, h.1, h.2))
setting_is (setting.Amount o a) at h = (_, _, _, refl, (refl, (option_spelled (word_of (setting.Amount o a))).1), refl, (refl, amount_back a h))
setting_is (setting.DefCapacity (Finite a)) at h = (_, _, _, refl, (refl, (option_spelled (word_of (setting.DefCapacity (Finite a)))).1), refl, (refl, amount_back a h))
setting_is (setting.DefCapacity Infinite) at h = (_, _, _, refl, (refl, (option_spelled (word_of (setting.DefCapacity Infinite))).1), refl, (refl, refl))
setting_is (setting.DefConType t) at h = (_, _, _, refl, (refl, (option_spelled (word_of (setting.DefConType t))).1), refl, (refl, (con_type_spelled t).1))
setting_is (setting.Node o n) at h =
    let text = option_text (word_of (setting.Node o n)) in
    let w : Lexeme = record { kind = Word; bytes = text; at = at + 1 } in
    let e : Lexeme = record { kind = Equals; bytes = 61 ∷ []; at = at + 1 + length text } in
    node_is n (at + 1 + length text + 1) (λ ts. IsSetting (setting.Node o n) (w ∷ e ∷ (ts ++ []))) h
    (λ v is. (w, e, v, refl, (refl, (option_spelled (word_of (setting.Node o n))).1), refl, is))
setting_is (setting.Count o n) at h = (_, _, _, refl, (refl, (option_spelled (word_of (setting.Count o n))).1), refl, ((refl, count_digits n h.0, count_short n h.0, count_value n h.0), h.1, h.2))
setting_is (setting.Rule o r) at h = (_, _, _, refl, (refl, (option_spelled (word_of (setting.Rule o r))).1), refl, (refl, (price_type_spelled r).1))

-- ---- what a program of a text has

abbrev ColumnFine : List ℕ → Type 0
ColumnFine n = Writable n × Fits n

columns_fine : (ns : List (List ℕ)) (ts : List Lexeme) → Each (One IsColumn) ns ts → ArePieces ts → AllByRecursion ColumnFine ns
columns_fine [] ts h pieces = tt
columns_fine (n ∷ ns) ts h pieces =
    let all = subst ArePieces h.2 pieces in
    let mine = subst ArePieces h.3.1 (pieces_front h.0 h.1 all) in
    ((column_writable n h.3.0 h.3.2 mine.0, h.3.2.1), columns_fine ns h.1 h.4 (pieces_back h.0 h.1 all))

abbrev RoleFine : RoleColumns → Type 0
RoleFine x = AllByRecursion ColumnFine x.1 × HasColumns x.0 x.1

-- the body of a statement is pieces too
body_pieces : (s : StatementWord) (Body : List Lexeme → Type 0) (ts : List Lexeme) (h : IsStatement s Body ts) → ArePieces ts → ArePieces h.1
body_pieces s Body ts h pieces = let all = subst ArePieces h.3 pieces in pieces_front h.1 (h.2 ∷ []) all.1

role_fine : (x : RoleColumns) (ts : List Lexeme) → IsRole x ts → ArePieces ts → RoleFine x
role_fine x ts h pieces = (columns_fine x.1 h.0.1 h.0.6 (body_pieces (word.Role x.0) (Each (One IsColumn) x.1) ts h.0 pieces), h.1)

SettingsFine : List Setting → Type 0
SettingsFine ss = SettingsOk ss × AreDistinct (map key_of ss)

ActFine : Statement → Type 0
ActFine (act.Reset os) = SettingsFine (map reset_setting os)
ActFine (act.Save is) = SettingsFine (map save_setting is) × (is ≢ [])
ActFine (act.Print is) = AreDistinct (map print_number is) × (is ≢ [])
ActFine (act.Show is) = AreDistinct (map show_number is) × (is ≢ [])
ActFine act.Pivot = Unit {0}
ActFine act.Run = Unit {0}
ActFine act.Quit = Unit {0}

act_fine : (a : Statement) (ts : List Lexeme) → IsAct a ts → ArePieces ts → ActFine a
unfolding ActFine SettingsFine
act_fine (act.Reset os) ts h pieces = (settings_ok (map reset_setting os) h.1 h.6.0 (body_pieces word.Reset (AreSettings (map reset_setting os)) ts h pieces), h.6.1)
act_fine (act.Save is) ts h pieces =
    let b = h.0 in
    ((settings_ok (map save_setting is) b.1 b.6.0 (body_pieces word.Save (AreSettings (map save_setting is)) ts b pieces), b.6.1), h.1)
act_fine (act.Print is) ts h pieces = (h.0.6.1, h.1)
act_fine (act.Show is) ts h pieces = (h.0.6.1, h.1)
act_fine act.Pivot ts h pieces = tt
act_fine act.Run ts h pieces = tt
act_fine act.Quit ts h pieces = tt

statements_fine : {A : Type 0} (Is : A → List Lexeme → Type 0) (Fine : A → Type 0) → ((x : A) (ts : List Lexeme) → Is x ts → ArePieces ts → Fine x) → (xs : List A) (ts : List Lexeme) → Statements Is xs ts → ArePieces ts → AllByRecursion Fine xs
statements_fine Is Fine one [] ts h pieces = tt
statements_fine Is Fine one (x ∷ xs) ts h pieces =
    let all = pieces_back h.0 (h.1 ++ h.2) (subst ArePieces h.3 pieces) in
    (one x h.1 h.5 (pieces_front h.1 h.2 all), statements_fine Is Fine one xs h.2 h.6 (pieces_back h.1 h.2 all))

lexeme_pieces : (k : Option TokenKind) (at : ℕ) (bytes : List ℕ) → IsPiece k bytes → (ts : List Lexeme) → ArePieces ts → ArePieces (lexeme_at k at bytes ++ ts)
unfolding lexeme_at
lexeme_pieces None at bytes is ts h = h
lexeme_pieces (Some k) at bytes is ts h = (is, h)

-- the tokens of a text are pieces of their kinds
cut_pieces : (at : ℕ) (ps : List Piece) (text rest : List ℕ) → IsCut ps text rest → ArePieces (lexemes_of at ps)
unfolding lexemes_of
cut_pieces at [] text rest c = tt
cut_pieces at (p ∷ ps) text rest c = lexeme_pieces p.kind at p.bytes c.2 (lexemes_of (at + length p.bytes) ps) (cut_pieces (at + length p.bytes) ps c.0 rest c.4)

text_pieces : (text : List ℕ) (ts : List Token) → AreTokens text ts → ArePieces (lexemes text ts)
text_pieces text ts h =
    let cut : IsCut h.0 text [] = subst (IsCut h.0 text) h.3 h.2 in
    subst ArePieces (sym (ap (lexemes text) h.4 ∙ lexemes_are text h.0 cut)) (cut_pieces 0 h.0 text [] cut)

-- ---- its canonical text is one of it

flat_all : {A : Type 0} (f : A → Setting) (xs : List A) → SettingsOk (map f xs) → AllByRecursion (λ x. SettingOk (f x)) xs
flat_all f [] h = tt
flat_all f (x ∷ xs) h = (h.0, flat_all f xs h.1)

each_mapped : {A : Type 0} (f : A → Setting) (xs : List A) (ts : List Lexeme) → Each (λ x. IsSetting (f x)) xs ts → Each IsSetting (map f xs) ts
each_mapped f [] ts h = h
each_mapped f (x ∷ xs) ts h = (h.0, h.1, h.2, h.3, each_mapped f xs h.1 h.4)

after_setting : Setting → List Piece
after_setting s = a_word (option_text (word_of s)) ∷ value_pieces s

proc_good : (p : ProcOptions) (after : List ℕ) → SettingsOk (settings_of p) → Good (proc_pieces p) after
unfolding Good after_setting
proc_good p after h =
    let ss = settings_of p in
    let rest = body_good after_setting SettingOk setting_good ss after h in
    line_good word.Proc (space ∷ a_word (codes "netflow") ∷ flat_map setting_pieces ss) after (record { no_word = refl; no_number = refl })
    (inl (32, refl, refl), tt, (plain_word (codes "netflow") refl, (body_apart after_setting ss after).no_word, rest))

role_good : (x : RoleColumns) (after : List ℕ) → RoleFine x → Good (role_pieces x) after
role_good x after h =
    let rest : List ℕ → List Piece = λ n. name_piece n ∷ [] in
    line_good (word.Role x.0) (flat_map column_pieces x.1) after (body_apart rest x.1 after) (body_good rest ColumnFine (λ n after w apart. column_good n after w.0 apart) x.1 after h.0)

act_good : (a : Statement) (after : List ℕ) → ActFine a → Good (act_pieces a) after
unfolding Good ActFine SettingsFine after_setting
act_good (act.Reset os) after h =
    let rest : ResetOption → List Piece = λ o. after_setting (reset_setting o) in
    line_good word.Reset (flat_map (λ o. setting_pieces (reset_setting o)) os) after (body_apart rest os after)
    (body_good rest (λ o. SettingOk (reset_setting o)) (λ o after k. setting_good (reset_setting o) after k) os after (flat_all reset_setting os h.0))
act_good (act.Save is) after h =
    let rest : SaveItem → List Piece = λ i. after_setting (save_setting i) in
    line_good word.Save (flat_map (λ i. setting_pieces (save_setting i)) is) after (body_apart rest is after)
    (body_good rest (λ i. SettingOk (save_setting i)) (λ i after k. setting_good (save_setting i) after k) is after (flat_all save_setting is h.0.0))
act_good (act.Print is) after h =
    let rest : PrintItem → List Piece = λ i. a_word (print_text i) ∷ [] in
    line_good word.Print (flat_map print_pieces is) after (body_apart rest is after) (body_good rest (λ i. Unit {0}) print_good is after (all_fine is))
act_good (act.Show is) after h =
    let rest : ShowItem → List Piece = λ i. a_word (show_text i) ∷ [] in
    line_good word.Show (flat_map show_pieces is) after (body_apart rest is after) (body_good rest (λ i. Unit {0}) show_good is after (all_fine is))
act_good act.Pivot after h = line_good word.Pivot [] after (record { no_word = refl; no_number = refl }) (refl, tt, (inl (10, refl, refl), tt, tt))
act_good act.Run after h = line_good word.Run [] after (record { no_word = refl; no_number = refl }) (refl, tt, (inl (10, refl, refl), tt, tt))
act_good act.Quit after h = line_good word.Quit [] after (record { no_word = refl; no_number = refl }) (refl, tt, (inl (10, refl, refl), tt, tt))

flat_good : {A : Type 0} (Fine : A → Type 0) (pieces : A → List Piece) → ((x : A) (after : List ℕ) → Fine x → Good (pieces x) after) → (xs : List A) (after : List ℕ) → AllByRecursion Fine xs → Good (flat_map pieces xs) after
unfolding Good
flat_good Fine pieces one [] after h = tt
flat_good Fine pieces one (x ∷ xs) after h = good_append (pieces x) (flat_map pieces xs) after (one x (text_of (flat_map pieces xs) ++ after) h.0) (flat_good Fine pieces one xs after h.1)

proc_is : (c : Command) (p : ProcOptions) (at : ℕ) → SettingsOk (settings_of p) → is_apart (settings_of p) ≡ true → (lacks c p ≡ false) × (are_wrong_together p ≡ false) → IsStatement word.Proc (IsNetflow c p) (lexemes_of at (proc_pieces p))
unfolding lexemes_of lexeme_at
proc_is c p at h apart whole =
    line_is word.Proc (space ∷ a_word (codes "netflow") ∷ flat_map setting_pieces (settings_of p)) (IsNetflow c p) at
    (λ at. (
      record { kind = Word; bytes = codes "netflow"; at = at + 1 },
      lexemes_of (at + 1 + 7) (flat_map setting_pieces (settings_of p)),
      settings_of p,
      refl,
      refl,
      refl,
      (each_are SettingOk IsSetting setting_pieces setting_is (settings_of p) (at + 1 + 7) h, settings_distinct p),
      apart,
      sym (settings_make p),
      whole,
    ))

column_is : (n : List ℕ) (at : ℕ) → Writable n × Fits n → One IsColumn n (lexemes_of at (column_pieces n))
unfolding lexemes_of lexeme_at
column_is n at h =
    elim (name_by (is_plain n) n refl h.0) [
      | inl w ↦ subst (λ (p : Piece). One IsColumn n (lexeme_at p.kind (at + 1) p.bytes ++ [])) (sym w.1) (record { kind = Word; bytes = n; at = at + 1 }, refl, (inl (refl, refl), h.1))
      | inr q ↦ subst (λ (p : Piece). One IsColumn n (lexeme_at p.kind (at + 1) p.bytes ++ [])) (sym q.1)
          (record { kind = Quoted; bytes = mark_for n ∷ (n ++ mark_for n ∷ []); at = at + 1 }, refl, (inr (refl, sym (inside_quotes (mark_for n) n)), h.1))
    ]

print_is : (i : PrintItem) (at : ℕ) → Unit {0} → One NamesPrint i (lexemes_of at (print_pieces i))
unfolding lexemes_of lexeme_at
print_is i at h = (_, refl, (refl, (print_spelled i).1))

show_is : (i : ShowItem) (at : ℕ) → Unit {0} → One NamesShow i (lexemes_of at (show_pieces i))
unfolding lexemes_of lexeme_at
show_is i at h = (_, refl, (refl, (show_spelled i).1))

act_is : (a : Statement) (at : ℕ) → ActFine a → IsAct a (lexemes_of at (act_pieces a))
unfolding ActFine SettingsFine lexemes_of
act_is (act.Reset os) at h =
    line_is word.Reset (flat_map (λ o. setting_pieces (reset_setting o)) os) (AreSettings (map reset_setting os)) at
    (λ at. (
      each_mapped reset_setting os (lexemes_of at (flat_map (λ o. setting_pieces (reset_setting o)) os))
          (each_are (λ o. SettingOk (reset_setting o)) (λ o. IsSetting (reset_setting o)) (λ o. setting_pieces (reset_setting o)) (λ o at k. setting_is (reset_setting o) at k) os at (flat_all reset_setting os h.0)),
      h.1,
    ))
act_is (act.Save is) at h = (
  line_is word.Save (flat_map (λ i. setting_pieces (save_setting i)) is) (AreSettings (map save_setting is)) at
      (λ at. (
        each_mapped save_setting is (lexemes_of at (flat_map (λ i. setting_pieces (save_setting i)) is))
            (each_are (λ i. SettingOk (save_setting i)) (λ i. IsSetting (save_setting i)) (λ i. setting_pieces (save_setting i)) (λ i at k. setting_is (save_setting i) at k) is at (flat_all save_setting is h.0.0)),
        h.0.1,
      )),
  h.1,
)
act_is (act.Print is) at h =
    (line_is word.Print (flat_map print_pieces is) (ArePrints is) at (λ at. (each_are (λ i. Unit {0}) (One NamesPrint) print_pieces print_is is at (all_fine is), h.0)), h.1)
act_is (act.Show is) at h =
    (line_is word.Show (flat_map show_pieces is) (AreShows is) at (λ at. (each_are (λ i. Unit {0}) (One NamesShow) show_pieces show_is is at (all_fine is), h.0)), h.1)
act_is act.Pivot at h = line_is word.Pivot [] IsNothing at (λ at. refl)
act_is act.Run at h = line_is word.Run [] IsNothing at (λ at. refl)
act_is act.Quit at h = line_is word.Quit [] IsNothing at (λ at. refl)

role_is : (x : RoleColumns) (at : ℕ) → RoleFine x → IsRole x (lexemes_of at (role_pieces x))
role_is x at h =
    (line_is (word.Role x.0) (flat_map column_pieces x.1) (Each (One IsColumn) x.1) at (λ at. each_are ColumnFine (One IsColumn) column_pieces column_is x.1 at h.0), h.1)

-- what the canonical text rests on
record Fine (c : Command) (p : Program) : Type 0 where
  settings : SettingsOk (settings_of p.proc)
  apart : is_apart (settings_of p.proc) ≡ true
  whole : (lacks c p.proc ≡ false) × (are_wrong_together p.proc ≡ false)
  roles : AllByRecursion RoleFine p.roles
  once : AreDistinct (map role_key p.roles)
  acts : AllByRecursion ActFine p.acts
  last : QuitIsLast p.acts
  serves : Serves c p.acts

proc_ok : (c : Command) (p : Program) (ts : List Lexeme) → IsProgram c p ts → ArePieces ts → ProcOk p.proc
proc_ok c p ts h pieces =
    let body = body_pieces word.Proc (IsNetflow c p.proc) h.0 h.4 (pieces_front h.0 (h.1 ++ h.2) (subst ArePieces h.3 pieces)) in
    let n = h.4.6 in
    subst ProcOk (sym n.8) (options_ok n.2 (settings_ok n.2 n.1 n.6.0 (subst ArePieces n.3 body).1))

fine_of : (c : Command) (p : Program) (ts : List Lexeme) → IsProgram c p ts → ArePieces ts → Fine c p
fine_of c p ts h pieces =
    let n = h.4.6 in
    let back = pieces_back h.0 (h.1 ++ h.2) (subst ArePieces h.3 pieces) in
    record {
      settings = proc_settings_ok p.proc (proc_ok c p ts h pieces);
      apart = settings_apart p.proc n.2 n.8 n.7;
      whole = n.9;
      roles = statements_fine IsRole RoleFine role_fine p.roles h.1 h.5 (pieces_front h.1 h.2 back);
      once = h.6;
      acts = statements_fine IsAct ActFine act_fine p.acts h.2 h.7 (pieces_back h.1 h.2 back);
      last = h.8;
      serves = h.9;
    }

program_good : (c : Command) (p : Program) → Fine c p → Good (program_pieces p) []
program_good c p h =
    let roles = flat_map role_pieces p.roles in
    let acts = flat_map act_pieces p.acts in
    good_append (proc_pieces p.proc) (roles ++ acts) [] (proc_good p.proc (text_of (roles ++ acts) ++ []) h.settings)
    (good_append roles acts [] (flat_good RoleFine role_pieces role_good p.roles (text_of acts ++ []) h.roles) (flat_good ActFine act_pieces act_good p.acts [] h.acts))

program_is : (c : Command) (p : Program) → Fine c p → IsProgram c p (lexemes_of 0 (program_pieces p))
program_is c p h =
    let proc = proc_pieces p.proc in
    let roles = flat_map role_pieces p.roles in
    let acts = flat_map act_pieces p.acts in
    let at_roles = end_of 0 proc in
    let at_acts = end_of at_roles roles in (
      lexemes_of 0 proc,
      lexemes_of at_roles roles,
      lexemes_of at_acts acts,
      lexemes_append 0 proc (roles ++ acts) ∙ ap (λ (t : List Lexeme). lexemes_of 0 proc ++ t) (lexemes_append at_roles roles acts),
      proc_is c p.proc 0 h.settings h.apart h.whole,
      statements_are RoleFine IsRole role_pieces role_is p.roles at_roles h.roles,
      h.once,
      statements_are ActFine IsAct act_pieces act_is p.acts at_acts h.acts,
      h.last,
      h.serves,
    )

pub written : (c : Command) (text : List ℕ) (p : Program) → HasProgram c text p → length (canonical p) ≤ 1048576 → HasProgram c (canonical p) p
written c text p h le =
    let fine = fine_of c p (lexemes text h.1) h.3 (text_pieces text h.1 h.2) in
    let ps = program_pieces p in
    let cut : IsCut ps (canonical p) [] = subst (λ (t : List ℕ). IsCut ps t []) (append-nil (text_of ps)) (cut_of ps [] (program_good c p fine)) in
    (le, tokens_of 0 ps, (ps, [], cut, refl, refl), subst (IsProgram c p) (sym (lexemes_are (canonical p) ps cut)) (program_is c p fine))

pub names_are_text : (c : Command) (text : List ℕ) (p : Program) → HasProgram c text p → SetsAreText p.proc
names_are_text c text p h = sets_text p.proc (proc_ok c p (lexemes text h.1) h.3 (text_pieces text h.1 h.2))

pub amounts_are_in_range : (c : Command) (text : List ℕ) (p : Program) → HasProgram c text p → HasAmounts p.proc
amounts_are_in_range c text p h = options_have_amounts p.proc (proc_ok c p (lexemes text h.1) h.3 (text_pieces text h.1 h.2))
