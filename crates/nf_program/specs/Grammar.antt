-- The programs of the statement language: which tokens are which program. It goes by cases on statements, options and
-- values, over whole lists of tokens. What `read_program` and `write_program` promise rests on it.
use Rattle.std.specs.Prelude.{◌≡◌, ◌≢◌, ℕ, ◌≤◌, true, false, List, [], ◌∷◌, ◌++◌, length, map, Option, Some, None}
use Rattle.std.specs.List.{AllByRecursion}
use Rattle.nf_text.specs.declared.token.Token.{Token}
use Rattle.nf_text.specs.declared.token.TokenKind.TheVariants.{Word, Equals, Semicolon}
use Rattle.nf_text.specs.Tokens.{Lexeme, lexemes, AreTokens}
use Rattle.nf_program.specs.declared.program.Command.{Command}
use Rattle.nf_program.specs.declared.program.Command.TheVariants.{Run, Check, Again, Export}
use Rattle.nf_program.specs.declared.program.ProcOptions.{ProcOptions}
use Rattle.nf_program.specs.declared.program.Program.{Program}
use Rattle.nf_program.specs.declared.program.Role.{Role}
use Rattle.nf_program.specs.declared.program.Statement.{Statement}
use Rattle.nf_program.specs.declared.program.Statement.TheVariants as act
use Rattle.nf_program.specs.declared.program.PrintItem.{PrintItem}
use Rattle.nf_program.specs.declared.program.ShowItem.{ShowItem}
use Rattle.nf_program.specs.declared.words.StatementWord.{StatementWord}
use Rattle.nf_program.specs.declared.words.StatementWord.TheVariants as word
use Rattle.nf_program.specs.declared.words.OptionWord.{OptionWord}
use Rattle.nf_program.specs.declared.settings.Setting.{Setting}
use Rattle.nf_program.specs.declared.settings.Setting.TheVariants as setting
use Rattle.nf_program.specs.Words.{statement_of, option_of, print_of, show_of}
use Rattle.nf_program.specs.Values.{IsSetName, IsColumn, IsNode, IsAmount, IsBound, IsCount, IsType, IsRule}
use Rattle.nf_program.specs.ReadValues.{least_of, most_of}
use Rattle.nf_program.specs.Settings.{word_of, flag_of, key_of, is_apart, options_of, lacks, are_wrong_together, reset_setting, save_setting}
use Rattle.nf_program.specs.Programs.{AreDistinct, RoleColumns, is_netflow, role_number, takes_list, print_number, show_number, is_quit}

-- ---- tokens

-- The token is the word of this statement.
abbrev pub NamesStatement : StatementWord → Lexeme → Type 0
NamesStatement s t = (t.kind ≡ Word) × (statement_of t.bytes ≡ Some s)

-- The token is the word of this option.
abbrev pub NamesOption : OptionWord → Lexeme → Type 0
NamesOption o t = (t.kind ≡ Word) × (option_of t.bytes ≡ Some o)

-- The token is this item of PRINT.
abbrev pub NamesPrint : PrintItem → Lexeme → Type 0
NamesPrint i t = (t.kind ≡ Word) × (print_of t.bytes ≡ Some i)

-- The token is this item of SHOW.
abbrev pub NamesShow : ShowItem → Lexeme → Type 0
NamesShow i t = (t.kind ≡ Word) × (show_of t.bytes ≡ Some i)

-- The token is a semicolon.
abbrev pub IsSemicolon : Lexeme → Type 0
IsSemicolon t = t.kind ≡ Semicolon

-- The tokens are one token, which is this thing.
abbrev pub One : {A : Type 0} → (A → Lexeme → Type 0) → A → List Lexeme → Type 0
One Is x ts = (t : Lexeme) × (ts ≡ t ∷ []) × Is x t

-- The tokens are these things, one after the other.
abbrev pub Each : {A : Type 0} → (A → List Lexeme → Type 0) → List A → List Lexeme → Type 0
Each Is [] ts = ts ≡ []
Each Is (x ∷ xs) ts = (front : List Lexeme) × (back : List Lexeme) × (ts ≡ front ++ back) × Is x front × Each Is xs back

-- ---- options

-- The token is the value of this setting.
abbrev pub IsValue : Setting → Lexeme → Type 0
IsValue (setting.Input o n) v = IsSetName n v
IsValue (setting.Amount o a) v = IsAmount a v
IsValue (setting.DefCapacity b) v = IsBound b v
IsValue (setting.DefConType t) v = IsType t v
IsValue (setting.Node o n) v = IsNode n v
IsValue (setting.Output o n) v = IsSetName n v
IsValue (setting.Count o n) v = IsCount n v × (least_of o ≤ n) × (n ≤ most_of o)
IsValue (setting.Rule o r) v = IsRule r v
IsValue (setting.Flag o) v = ⊥
IsValue (setting.Switch o b) v = ⊥

-- An option is its word alone, or its word, `=` and its value.
abbrev pub IsSettingBy : Option Setting → Setting → List Lexeme → Type 0
IsSettingBy (Some flag) s ts = One NamesOption (word_of s) ts
IsSettingBy None s ts = (w : Lexeme) × (e : Lexeme) × (v : Lexeme) × (ts ≡ w ∷ e ∷ v ∷ []) × NamesOption (word_of s) w × (e.kind ≡ Equals) × IsValue s v

-- The tokens are this option.
abbrev pub IsSetting : Setting → List Lexeme → Type 0
IsSetting s ts = IsSettingBy (flag_of (word_of s)) s ts

-- The tokens are these options, each once.
abbrev pub AreSettings : List Setting → List Lexeme → Type 0
AreSettings ss ts = Each IsSetting ss ts × AreDistinct (map key_of ss)

-- ---- statements

-- A statement is its word, its body and a semicolon.
abbrev pub IsStatement : StatementWord → (List Lexeme → Type 0) → List Lexeme → Type 0
IsStatement s Body ts = (w : Lexeme) × (body : List Lexeme) × (end : Lexeme) × (ts ≡ w ∷ (body ++ end ∷ [])) × NamesStatement s w × IsSemicolon end × Body body

-- NETFLOW and options, which make these options of PROC
abbrev pub IsNetflow : Command → ProcOptions → List Lexeme → Type 0
IsNetflow c p body =
    (n : Lexeme) × (options : List Lexeme) × (ss : List Setting)
    × (body ≡ n ∷ options) × (n.kind ≡ Word) × (is_netflow n.bytes ≡ true)
    × AreSettings ss options × (is_apart ss ≡ true) × (p ≡ options_of ss) × ((lacks c p ≡ false) × (are_wrong_together p ≡ false))

-- A role takes one column, VAR and ID one or more.
abbrev pub HasColumns : Role → List (List ℕ) → Type 0
HasColumns r [] = ⊥
HasColumns r (n ∷ []) = Unit {0}
HasColumns r (n ∷ m ∷ ns) = takes_list r ≡ true

-- The tokens are the statement of this role.
abbrev pub IsRole : RoleColumns → List Lexeme → Type 0
IsRole x ts = IsStatement (word.Role x.0) (Each (One IsColumn) x.1) ts × HasColumns x.0 x.1

-- The tokens are these items of PRINT, each once.
abbrev pub ArePrints : List PrintItem → List Lexeme → Type 0
ArePrints is ts = Each (One NamesPrint) is ts × AreDistinct (map print_number is)

-- The tokens are these items of SHOW, each once.
abbrev pub AreShows : List ShowItem → List Lexeme → Type 0
AreShows is ts = Each (One NamesShow) is ts × AreDistinct (map show_number is)

-- There are no tokens.
abbrev pub IsNothing : List Lexeme → Type 0
IsNothing ts = ts ≡ []

-- The tokens are this act.
abbrev pub IsAct : Statement → List Lexeme → Type 0
IsAct (act.Reset os) ts = IsStatement word.Reset (AreSettings (map reset_setting os)) ts
IsAct (act.Save is) ts = IsStatement word.Save (AreSettings (map save_setting is)) ts × (is ≢ [])
IsAct (act.Print is) ts = IsStatement word.Print (ArePrints is) ts × (is ≢ [])
IsAct (act.Show is) ts = IsStatement word.Show (AreShows is) ts × (is ≢ [])
IsAct act.Pivot ts = IsStatement word.Pivot IsNothing ts
IsAct act.Run ts = IsStatement word.Run IsNothing ts
IsAct act.Quit ts = IsStatement word.Quit IsNothing ts

-- ---- programs

-- All the tokens are semicolons.
abbrev pub AreSemicolons : List Lexeme → Type 0
AreSemicolons ts = AllByRecursion IsSemicolon ts

-- The tokens are these statements in their order, with lone semicolons before each and after the last.
abbrev pub Statements : {A : Type 0} → (A → List Lexeme → Type 0) → List A → List Lexeme → Type 0
Statements Is [] ts = AreSemicolons ts
Statements Is (x ∷ xs) ts =
    (lone : List Lexeme) × (front : List Lexeme) × (back : List Lexeme) × (ts ≡ lone ++ (front ++ back)) × AreSemicolons lone × Is x front × Statements Is xs back

-- Nothing stands after QUIT.
abbrev pub QuitIsLast : List Statement → Type 0
QuitIsLast [] = Unit {0}
QuitIsLast (a ∷ others) = (is_quit a ≡ true → others ≡ []) × QuitIsLast others

-- Each command but `run` accepts no other act than QUIT.
abbrev pub Serves : Command → List Statement → Type 0
Serves Run acts = Unit {0}
Serves Check acts = AllByRecursion (λ a. is_quit a ≡ true) acts
Serves Again acts = AllByRecursion (λ a. is_quit a ≡ true) acts
Serves Export acts = AllByRecursion (λ a. is_quit a ≡ true) acts

-- the number of a role statement's role
abbrev pub role_key : RoleColumns → ℕ
role_key x = role_number x.0

-- The tokens are this program: PROC, then roles, each once, then acts.
abbrev pub IsProgram : Command → Program → List Lexeme → Type 0
IsProgram c p ts =
    (proc : List Lexeme) × (roles : List Lexeme) × (acts : List Lexeme) × (ts ≡ proc ++ (roles ++ acts))
    × IsStatement word.Proc (IsNetflow c p.proc) proc
    × Statements IsRole p.roles roles × AreDistinct (map role_key p.roles)
    × Statements IsAct p.acts acts × QuitIsLast p.acts × Serves c p.acts

-- The text is a text of this program under the command.
abbrev pub HasProgram : Command → List ℕ → Program → Type 0
HasProgram c text p = (length text ≤ 1048576) × (ts : List Token) × AreTokens text ts × IsProgram c p (lexemes text ts)
