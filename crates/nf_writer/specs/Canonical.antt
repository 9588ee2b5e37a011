-- The canonical text of a program: one statement a line, words in lower case by their first spelling, one space between
-- parts and none round `=`. What `write_program` promises rests on it.
use Rattle.std.specs.Prelude.{ℕ, ◌+◌, ◌/◌, ◌%◌, Bool, true, false, ◌&&◌, ◌==◌, List, [], ◌∷◌, ◌++◌, Option, Some, None, if◌then◌else◌, codes, decimal, ℤ, pos, negsuc, unsigned_abs}
use Rattle.std.specs.List.{list_any, list_all, flat_map}
use Rattle.nf_words.specs.Words.{Word as Spelling, first_spelling}
use Rattle.nf_words.specs.Lists.{statement_list, option_list, print_list, show_list, type_list, price_list}
use Rattle.nf_text.specs.declared.token.TokenKind.TheVariants.{Word, Number, Quoted, Equals, Semicolon}
use Rattle.nf_text.specs.Bytes.{is_letter, is_word_byte}
use Rattle.nf_text.specs.Tokens.{Piece}
use Rattle.nf_frac.specs.declared.amount.Amount.{Amount}
use Rattle.nf_program.specs.declared.program.Program.{Program}
use Rattle.nf_program.specs.declared.program.ProcOptions.{ProcOptions}
use Rattle.nf_program.specs.declared.program.SessionOptions.{SessionOptions}
use Rattle.nf_program.specs.declared.program.Bound.{Bound}
use Rattle.nf_program.specs.declared.program.Bound.TheVariants.{Finite, Infinite}
use Rattle.nf_program.specs.declared.program.ConType.{ConType}
use Rattle.nf_program.specs.declared.program.ConType.TheVariants as con
use Rattle.nf_program.specs.declared.program.PriceType.{PriceType}
use Rattle.nf_program.specs.declared.program.PriceType.TheVariants as price
use Rattle.nf_program.specs.declared.program.PrintItem.{PrintItem}
use Rattle.nf_program.specs.declared.program.ShowItem.{ShowItem}
use Rattle.nf_program.specs.declared.program.OutOption.TheVariants as out
use Rattle.nf_program.specs.declared.program.Statement.{Statement}
use Rattle.nf_program.specs.declared.program.Statement.TheVariants as act
use Rattle.nf_program.specs.declared.words.StatementWord.{StatementWord}
use Rattle.nf_program.specs.declared.words.StatementWord.TheVariants as word
use Rattle.nf_program.specs.declared.words.OptionWord.{OptionWord}
use Rattle.nf_program.specs.declared.words.OptionWord.TheVariants as option
use Rattle.nf_program.specs.declared.words.InputOption.TheVariants as input
use Rattle.nf_program.specs.declared.words.FlagOption.{FlagOption}
use Rattle.nf_program.specs.declared.words.FlagOption.TheVariants as flag
use Rattle.nf_program.specs.declared.words.AmountOption.TheVariants as amount
use Rattle.nf_program.specs.declared.words.NodeOption.TheVariants as node
use Rattle.nf_program.specs.declared.words.CountOption.{CountOption}
use Rattle.nf_program.specs.declared.words.CountOption.TheVariants as count
use Rattle.nf_program.specs.declared.words.SwitchOption.{SwitchOption}
use Rattle.nf_program.specs.declared.words.SwitchOption.TheVariants as switch
use Rattle.nf_program.specs.declared.words.RuleOption.{RuleOption}
use Rattle.nf_program.specs.declared.words.RuleOption.TheVariants as rule
use Rattle.nf_program.specs.declared.settings.Setting.{Setting}
use Rattle.nf_program.specs.declared.settings.Setting.TheVariants as setting
use Rattle.nf_program.specs.Values.{lowered}
use Rattle.nf_program.specs.Settings.{word_of, option_key, switch_key, reset_setting, save_setting}
use Rattle.nf_program.specs.Programs.{RoleColumns, role_number, print_number, show_number}

-- ---- words

-- The word, or no bytes.
abbrev pub or_none : Option (List ℕ) → List ℕ
or_none None = []
or_none (Some w) = w

-- the first spelling of a kind in lower case
abbrev pub spelled : List Spelling → ℕ → List ℕ
spelled list k = lowered (or_none (first_spelling list k))

-- The number of a statement in its list of words.
abbrev pub statement_number : StatementWord → ℕ
statement_number word.Proc = 0
statement_number (word.Role r) = 1 + role_number r
statement_number word.Reset = 18
statement_number word.Pivot = 19
statement_number word.Print = 20
statement_number word.Show = 21
statement_number word.Save = 22
statement_number word.Run = 23
statement_number word.Quit = 24

-- the number of an option's word in its list, in which a NO form stands after its flag
abbrev pub option_number : OptionWord → ℕ
option_number (option.Switch o false) = switch_key o + 1
option_number o = option_key o

-- The number of a type in its list of words.
abbrev pub con_type_number : ConType → ℕ
con_type_number con.Le = 0
con_type_number con.Ge = 1
con_type_number con.Eq = 2

-- The number of a rule in its list of words.
abbrev pub price_type_number : PriceType → ℕ
price_type_number price.First = 0
price_type_number price.Best = 1
price_type_number price.Bland = 2
price_type_number price.Queue = 3

-- The word of a statement.
unfoldable pub statement_text : StatementWord → List ℕ
statement_text s = spelled statement_list (statement_number s)

-- The word of an option.
unfoldable pub option_text : OptionWord → List ℕ
option_text o = spelled option_list (option_number o)

-- The word of an item of PRINT.
unfoldable pub print_text : PrintItem → List ℕ
print_text i = spelled print_list (print_number i)

-- The word of an item of SHOW.
unfoldable pub show_text : ShowItem → List ℕ
show_text i = spelled show_list (show_number i)

-- The word of a type.
unfoldable pub con_type_text : ConType → List ℕ
con_type_text t = spelled type_list (con_type_number t)

-- The word of a rule.
unfoldable pub price_type_text : PriceType → List ℕ
price_type_text r = spelled price_list (price_type_number r)

-- ---- amounts

-- up to three digits after a point, without trailing zeros
abbrev pub fraction_text : ℕ → List ℕ
fraction_text n =
    if n == 0 then []
    else (if n % 100 == 0 then 46 ∷ (48 + n / 100) ∷ []
    else (if n % 10 == 0 then 46 ∷ (48 + n / 100) ∷ (48 + n / 10 % 10) ∷ []
    else 46 ∷ (48 + n / 100) ∷ (48 + n / 10 % 10) ∷ (48 + n % 10) ∷ []))

-- A `-` before a number below 0.
abbrev pub sign_text : ℤ → List ℕ
sign_text (pos n) = []
sign_text (negsuc n) = 45 ∷ []

-- thousandths without their sign
abbrev pub size_text : ℕ → List ℕ
size_text n = decimal (n / 1000) ++ fraction_text (n % 1000)

-- An amount, without trailing zeros after the point.
unfoldable pub amount_text : Amount → List ℕ
amount_text a = sign_text a.thousandths ++ size_text (unsigned_abs a.thousandths)

-- ---- pieces

-- A word as a piece.
abbrev pub a_word : List ℕ → Piece
a_word bytes = record { kind = Some Word; bytes = bytes }

-- A number as a piece.
abbrev pub a_number : List ℕ → Piece
a_number bytes = record { kind = Some Number; bytes = bytes }

-- A space as a piece.
abbrev pub space : Piece
space = record { kind = None; bytes = 32 ∷ [] }

-- A line feed as a piece.
abbrev pub newline : Piece
newline = record { kind = None; bytes = 10 ∷ [] }

-- The piece `=`.
abbrev pub equals : Piece
equals = record { kind = Some Equals; bytes = 61 ∷ [] }

-- The piece `;`.
abbrev pub semicolon : Piece
semicolon = record { kind = Some Semicolon; bytes = 59 ∷ [] }

-- A name is a plain word.
abbrev pub is_plain : List ℕ → Bool
is_plain [] = false
is_plain (b ∷ bs) = is_letter b && list_all is_word_byte bs

-- double quotes, or single ones if the name has a double one
abbrev pub mark_for : List ℕ → ℕ
mark_for name = if list_any (λ b. b == 34) name then 39 else 34

-- a name as a plain word if it is one, else in quotes
unfoldable pub name_piece : List ℕ → Piece
name_piece name = if is_plain name then a_word name else record { kind = Some Quoted; bytes = mark_for name ∷ (name ++ mark_for name ∷ []) }

-- A bound: its amount, or INF.
abbrev pub bound_piece : Bound → Piece
bound_piece (Finite a) = a_number (amount_text a)
bound_piece Infinite = a_word (codes "inf")

-- The option has a value.
abbrev pub has_value : OptionWord → Bool
has_value (option.Flag o) = false
has_value (option.Switch o b) = false
has_value _ = true

-- the value of a setting that has one
abbrev pub value_piece : Setting → Piece
value_piece (setting.Input o n) = a_word n
value_piece (setting.Amount o a) = a_number (amount_text a)
value_piece (setting.DefCapacity b) = bound_piece b
value_piece (setting.DefConType t) = a_word (con_type_text t)
value_piece (setting.Node o n) = name_piece n
value_piece (setting.Output o n) = a_word n
value_piece (setting.Count o n) = a_number (decimal n)
value_piece (setting.Rule o r) = a_word (price_type_text r)
value_piece (setting.Flag o) = a_word []
value_piece (setting.Switch o b) = a_word []

-- The bytes of the value of a setting.
abbrev pub value_text : Setting → List ℕ
value_text s = (value_piece s).bytes

-- what stands after an option's word: `=` and its value
abbrev pub value_pieces : Setting → List Piece
value_pieces s = if has_value (word_of s) then equals ∷ value_piece s ∷ [] else []

-- A setting after a space: its word, and its value if it has one.
abbrev pub setting_pieces : Setting → List Piece
setting_pieces s = space ∷ a_word (option_text (word_of s)) ∷ value_pieces s

-- ---- the options of PROC in their order, those of the session if they are not the default

-- The setting of an option that has a value, if it is given.
abbrev pub given : {A : Type 0} → (A → Setting) → Option A → List Setting
given f None = []
given f (Some a) = f a ∷ []

-- A flag of PROC, if it is given.
abbrev pub flag_given : FlagOption → Bool → List Setting
flag_given o b = if b then setting.Flag o ∷ [] else []

-- A count, if it is not the default.
abbrev pub count_given : CountOption → ℕ → ℕ → List Setting
count_given o default n = if n == default then [] else setting.Count o n ∷ []

-- A flag of the session, if it is set.
abbrev pub switch_given : SwitchOption → Bool → List Setting
switch_given o b = if b then setting.Switch o true ∷ [] else []

-- A rule, if it is not FIRST.
abbrev pub rule_given : RuleOption → PriceType → List Setting
rule_given o price.First = []
rule_given o r = setting.Rule o r ∷ []

-- The data sets that are read, in their order.
unfoldable pub inputs_of : ProcOptions → List Setting
inputs_of p =
    given (setting.Input input.Arcdata) p.arcdata ++ (given (setting.Input input.Nodedata) p.nodedata ++ (given (setting.Input input.Condata) p.condata
    ++ (given (setting.Input input.Certdata) p.certdata ++ (given (setting.Input input.Conin) p.conin ++ (given (setting.Input input.Dualin) p.dualin
    ++ given (setting.Input input.Sessiondata) p.sessiondata)))))

-- The flags of PROC, in their order.
unfoldable pub flags_of : ProcOptions → List Setting
flags_of p = flag_given flag.SparseConData p.sparsecondata ++ (flag_given flag.Thrunet p.thrunet ++ (flag_given flag.Maximize p.maximize ++ (flag_given flag.Warm p.warm ++ (flag_given flag.MaxFlow p.maxflow ++ flag_given flag.ShortPath p.shortpath))))

-- The other options of PROC, in their order.
unfoldable pub others_of : ProcOptions → List Setting
others_of p =
    given (setting.Amount amount.DefCost) p.defcost ++ (given (setting.Amount amount.DefMinFlow) p.defminflow ++ (given setting.DefCapacity p.defcapacity
    ++ (given setting.DefConType p.defcontype ++ (given (setting.Node node.Source) p.source ++ (given (setting.Node node.Sink) p.sink
    ++ (given (setting.Amount amount.Supply) p.supply ++ given (setting.Amount amount.Demand) p.demand))))))

-- The output options, in their order.
unfoldable pub outputs_of : ProcOptions → List Setting
outputs_of p =
    given (setting.Output out.Arcout) p.arcout ++ (given (setting.Output out.Nodeout) p.nodeout ++ (given (setting.Output out.Conout) p.conout
    ++ (given (setting.Output out.Dualout) p.dualout ++ (given (setting.Output out.Sessionout) p.sessionout ++ given (setting.Output out.Certout) p.certout))))

-- The counts of the session, in their order.
unfoldable pub counts_of : SessionOptions → List Setting
counts_of s = count_given count.Maxit1 1000000 s.maxit1 ++ (count_given count.Maxit2 1000000 s.maxit2 ++ (count_given count.Pause1 0 s.pause1 ++ count_given count.Pause2 0 s.pause2))

-- The flags of the session, in their order.
unfoldable pub switches_of : SessionOptions → List Setting
switches_of s =
    switch_given switch.FeasiblePause1 s.feasiblepause1 ++ (switch_given switch.FeasiblePause2 s.feasiblepause2 ++ (switch_given switch.EndPause1 s.endpause1
    ++ (switch_given switch.Future1 s.future1 ++ switch_given switch.Future2 s.future2)))

-- The rules of the session, in their order.
unfoldable pub rules_of : SessionOptions → List Setting
rules_of s = rule_given rule.PriceType1 s.pricetype1 ++ rule_given rule.PriceType2 s.pricetype2

-- The sizes of the queue, in their order.
unfoldable pub sizes_of : SessionOptions → List Setting
sizes_of s = count_given count.QueueSize1 10 s.queuesize1 ++ count_given count.QueueSize2 10 s.queuesize2

-- The options of the session, in their order.
abbrev pub session_of : SessionOptions → List Setting
session_of s = counts_of s ++ (switches_of s ++ (rules_of s ++ sizes_of s))

-- The options of PROC, in the order of their lists.
unfoldable pub settings_of : ProcOptions → List Setting
settings_of p = inputs_of p ++ (flags_of p ++ (others_of p ++ (outputs_of p ++ session_of p.session)))

-- ---- statements

-- a statement on its line: what stands after its word, and a semicolon
abbrev pub line : StatementWord → List Piece → List Piece
line s body = a_word (statement_text s) ∷ (body ++ semicolon ∷ newline ∷ [])

-- The PROC statement.
abbrev pub proc_pieces : ProcOptions → List Piece
proc_pieces p = line word.Proc (space ∷ a_word (codes "netflow") ∷ flat_map setting_pieces (settings_of p))

-- A column name after a space.
abbrev pub column_pieces : List ℕ → List Piece
column_pieces n = space ∷ name_piece n ∷ []

-- A role statement.
abbrev pub role_pieces : RoleColumns → List Piece
role_pieces x = line (word.Role x.0) (flat_map column_pieces x.1)

-- An item of PRINT after a space.
abbrev pub print_pieces : PrintItem → List Piece
print_pieces i = space ∷ a_word (print_text i) ∷ []

-- An item of SHOW after a space.
abbrev pub show_pieces : ShowItem → List Piece
show_pieces i = space ∷ a_word (show_text i) ∷ []

-- The word of an act.
abbrev pub act_word : Statement → StatementWord
act_word (act.Reset os) = word.Reset
act_word act.Pivot = word.Pivot
act_word (act.Print is) = word.Print
act_word (act.Show is) = word.Show
act_word (act.Save is) = word.Save
act_word act.Run = word.Run
act_word act.Quit = word.Quit

-- what stands between an act's word and its semicolon
abbrev pub act_body : Statement → List Piece
act_body (act.Reset os) = flat_map (λ o. setting_pieces (reset_setting o)) os
act_body (act.Print is) = flat_map print_pieces is
act_body (act.Show is) = flat_map show_pieces is
act_body (act.Save is) = flat_map (λ i. setting_pieces (save_setting i)) is
act_body _ = []

-- An act.
abbrev pub act_pieces : Statement → List Piece
act_pieces a = line (act_word a) (act_body a)

-- A program: PROC, its roles, its acts.
abbrev pub program_pieces : Program → List Piece
program_pieces p = proc_pieces p.proc ++ (flat_map role_pieces p.roles ++ flat_map act_pieces p.acts)

-- the bytes of the pieces
abbrev pub text_of : List Piece → List ℕ
text_of ps = flat_map (λ p. p.bytes) ps

-- the canonical text of a program
abbrev pub canonical : Program → List ℕ
canonical p = text_of (program_pieces p)
