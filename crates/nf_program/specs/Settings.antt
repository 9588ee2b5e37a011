-- Options with their values, and what they make of PROC. The grammar's PROC, RESET and SAVE statements rest on it.
use Rattle.std.specs.Prelude.{ℕ, Bool, true, false, ◌&&◌, ◌||◌, not, List, [], ◌∷◌, Option, Some, None, is_some, if◌then◌else◌}
use Rattle.std.specs.List.{list_any, fold, flat_map}
use Rattle.nf_frac.specs.declared.amount.Amount.{Amount}
use Rattle.nf_program.specs.declared.program.Command.{Command}
use Rattle.nf_program.specs.declared.program.Command.TheVariants.{Run, Check, Again, Export}
use Rattle.nf_program.specs.declared.program.ProcOptions.{ProcOptions}
use Rattle.nf_program.specs.declared.program.SessionOptions.{SessionOptions}
use Rattle.nf_program.specs.declared.program.ResetOption.{ResetOption}
use Rattle.nf_program.specs.declared.program.ResetOption.TheVariants as reset
use Rattle.nf_program.specs.declared.program.SaveItem.{SaveItem}
use Rattle.nf_program.specs.declared.program.OutOption.{OutOption}
use Rattle.nf_program.specs.declared.program.OutOption.TheVariants as out
use Rattle.nf_program.specs.declared.program.PriceType.{PriceType}
use Rattle.nf_program.specs.declared.program.PriceType.TheVariants as price
use Rattle.nf_program.specs.declared.words.OptionWord.{OptionWord}
use Rattle.nf_program.specs.declared.words.OptionWord.TheVariants as option
use Rattle.nf_program.specs.declared.words.InputOption.{InputOption}
use Rattle.nf_program.specs.declared.words.InputOption.TheVariants as input
use Rattle.nf_program.specs.declared.words.FlagOption.{FlagOption}
use Rattle.nf_program.specs.declared.words.FlagOption.TheVariants as flag
use Rattle.nf_program.specs.declared.words.AmountOption.{AmountOption}
use Rattle.nf_program.specs.declared.words.AmountOption.TheVariants as amount
use Rattle.nf_program.specs.declared.words.NodeOption.{NodeOption}
use Rattle.nf_program.specs.declared.words.NodeOption.TheVariants as node
use Rattle.nf_program.specs.declared.words.CountOption.{CountOption}
use Rattle.nf_program.specs.declared.words.CountOption.TheVariants as count
use Rattle.nf_program.specs.declared.words.SwitchOption.{SwitchOption}
use Rattle.nf_program.specs.declared.words.SwitchOption.TheVariants as switch
use Rattle.nf_program.specs.declared.words.RuleOption.{RuleOption}
use Rattle.nf_program.specs.declared.words.RuleOption.TheVariants as rule
use Rattle.nf_program.specs.declared.settings.Setting.{Setting}
use Rattle.nf_program.specs.declared.settings.Setting.TheVariants as setting

-- ---- options

-- the word of a setting
abbrev pub word_of : Setting → OptionWord
word_of (setting.Input o n) = option.Input o
word_of (setting.Flag o) = option.Flag o
word_of (setting.Amount o a) = option.Amount o
word_of (setting.DefCapacity b) = option.DefCapacity
word_of (setting.DefConType t) = option.DefConType
word_of (setting.Node o n) = option.Node o
word_of (setting.Output o n) = option.Output o
word_of (setting.Count o n) = option.Count o
word_of (setting.Switch o b) = option.Switch o b
word_of (setting.Rule o r) = option.Rule o

-- the setting that a word is alone, if it takes no value
abbrev pub flag_of : OptionWord → Option Setting
flag_of (option.Flag o) = Some (setting.Flag o)
flag_of (option.Switch o b) = Some (setting.Switch o b)
flag_of _ = None

-- The number of an option that names a data set to be read.
abbrev pub input_key : InputOption → ℕ
input_key input.Arcdata = 0
input_key input.Nodedata = 1
input_key input.Condata = 2
input_key input.Certdata = 3
input_key input.Conin = 4
input_key input.Dualin = 5
input_key input.Sessiondata = 6

-- The number of a flag of PROC.
abbrev pub flag_key : FlagOption → ℕ
flag_key flag.SparseConData = 7
flag_key flag.Thrunet = 8
flag_key flag.Maximize = 9
flag_key flag.Warm = 10
flag_key flag.MaxFlow = 11
flag_key flag.ShortPath = 12

-- The number of an option with an amount.
abbrev pub amount_key : AmountOption → ℕ
amount_key amount.DefCost = 13
amount_key amount.DefMinFlow = 14
amount_key amount.Supply = 19
amount_key amount.Demand = 20

-- The number of an option with a node.
abbrev pub node_key : NodeOption → ℕ
node_key node.Source = 17
node_key node.Sink = 18

-- The number of an output option.
abbrev pub out_key : OutOption → ℕ
out_key out.Arcout = 21
out_key out.Nodeout = 22
out_key out.Conout = 23
out_key out.Dualout = 24
out_key out.Sessionout = 25
out_key out.Certout = 26

-- The number of an option with a count.
abbrev pub count_key : CountOption → ℕ
count_key count.Maxit1 = 27
count_key count.Maxit2 = 28
count_key count.Pause1 = 29
count_key count.Pause2 = 30
count_key count.QueueSize1 = 43
count_key count.QueueSize2 = 44

-- The number of a flag of the session.
abbrev pub switch_key : SwitchOption → ℕ
switch_key switch.FeasiblePause1 = 31
switch_key switch.FeasiblePause2 = 33
switch_key switch.EndPause1 = 35
switch_key switch.Future1 = 37
switch_key switch.Future2 = 39

-- The number of an option with a rule.
abbrev pub rule_key : RuleOption → ℕ
rule_key rule.PriceType1 = 41
rule_key rule.PriceType2 = 42

-- The number of an option, in the order of PROC's canonical text. A flag and its NO form are one option.
abbrev pub option_key : OptionWord → ℕ
option_key (option.Input o) = input_key o
option_key (option.Flag o) = flag_key o
option_key (option.Amount o) = amount_key o
option_key option.DefCapacity = 15
option_key option.DefConType = 16
option_key (option.Node o) = node_key o
option_key (option.Output o) = out_key o
option_key (option.Count o) = count_key o
option_key (option.Switch o b) = switch_key o
option_key (option.Rule o) = rule_key o

-- the number of a setting's option
abbrev pub key_of : Setting → ℕ
key_of s = option_key (word_of s)

-- The option is one of the session.
abbrev pub is_session : OptionWord → Bool
is_session (option.Count o) = true
is_session (option.Switch o b) = true
is_session (option.Rule o) = true
is_session _ = false

-- The option stores a table.
abbrev pub is_output : OptionWord → Bool
is_output (option.Output o) = true
is_output _ = false

-- The option is WARM.
abbrev pub is_warm : OptionWord → Bool
is_warm (option.Flag flag.Warm) = true
is_warm _ = false

-- The setting is of an option of the session.
abbrev pub is_session_setting : Setting → Bool
is_session_setting s = is_session (word_of s)

-- The setting is WARM.
abbrev pub is_warm_setting : Setting → Bool
is_warm_setting s = is_warm (word_of s)

-- WARM and session options do not stand in one PROC statement.
abbrev pub is_apart : List Setting → Bool
is_apart ss = not (list_any is_warm_setting ss && list_any is_session_setting ss)

-- ---- the options of PROC

-- the session options if none is given
abbrev pub defaults : SessionOptions
defaults = record {
  maxit1 = 1000000;
  maxit2 = 1000000;
  pause1 = 0;
  pause2 = 0;
  feasiblepause1 = false;
  feasiblepause2 = false;
  endpause1 = false;
  future1 = false;
  future2 = false;
  pricetype1 = price.First;
  pricetype2 = price.First;
  queuesize1 = 10;
  queuesize2 = 10;
}

-- the options of PROC if none is given
abbrev pub no_options : ProcOptions
no_options = record {
  arcdata = None;
  nodedata = None;
  condata = None;
  certdata = None;
  conin = None;
  dualin = None;
  sessiondata = None;
  arcout = None;
  nodeout = None;
  conout = None;
  dualout = None;
  sessionout = None;
  certout = None;
  sparsecondata = false;
  thrunet = false;
  maximize = false;
  warm = false;
  maxflow = false;
  shortpath = false;
  defcost = None;
  defminflow = None;
  defcapacity = None;
  defcontype = None;
  source = None;
  sink = None;
  supply = None;
  demand = None;
  session = defaults;
}

-- PROC with the name of a data set that is read.
abbrev pub with_input : InputOption → List ℕ → ProcOptions → ProcOptions
with_input input.Arcdata n p = record p { arcdata = Some n }
with_input input.Nodedata n p = record p { nodedata = Some n }
with_input input.Condata n p = record p { condata = Some n }
with_input input.Certdata n p = record p { certdata = Some n }
with_input input.Conin n p = record p { conin = Some n }
with_input input.Dualin n p = record p { dualin = Some n }
with_input input.Sessiondata n p = record p { sessiondata = Some n }

-- PROC with a flag.
abbrev pub with_flag : FlagOption → ProcOptions → ProcOptions
with_flag flag.SparseConData p = record p { sparsecondata = true }
with_flag flag.Thrunet p = record p { thrunet = true }
with_flag flag.Maximize p = record p { maximize = true }
with_flag flag.Warm p = record p { warm = true }
with_flag flag.MaxFlow p = record p { maxflow = true }
with_flag flag.ShortPath p = record p { shortpath = true }

-- PROC with an amount.
abbrev pub with_amount : AmountOption → Amount → ProcOptions → ProcOptions
with_amount amount.DefCost a p = record p { defcost = Some a }
with_amount amount.DefMinFlow a p = record p { defminflow = Some a }
with_amount amount.Supply a p = record p { supply = Some a }
with_amount amount.Demand a p = record p { demand = Some a }

-- PROC with a node.
abbrev pub with_node : NodeOption → List ℕ → ProcOptions → ProcOptions
with_node node.Source n p = record p { source = Some n }
with_node node.Sink n p = record p { sink = Some n }

-- PROC with the name of a data set that is stored.
abbrev pub with_output : OutOption → List ℕ → ProcOptions → ProcOptions
with_output out.Arcout n p = record p { arcout = Some n }
with_output out.Nodeout n p = record p { nodeout = Some n }
with_output out.Conout n p = record p { conout = Some n }
with_output out.Dualout n p = record p { dualout = Some n }
with_output out.Sessionout n p = record p { sessionout = Some n }
with_output out.Certout n p = record p { certout = Some n }

-- The session with a count.
abbrev pub with_count : CountOption → ℕ → SessionOptions → SessionOptions
with_count count.Maxit1 n s = record s { maxit1 = n }
with_count count.Maxit2 n s = record s { maxit2 = n }
with_count count.Pause1 n s = record s { pause1 = n }
with_count count.Pause2 n s = record s { pause2 = n }
with_count count.QueueSize1 n s = record s { queuesize1 = n }
with_count count.QueueSize2 n s = record s { queuesize2 = n }

-- The session with a flag, or with its NO form.
abbrev pub with_switch : SwitchOption → Bool → SessionOptions → SessionOptions
with_switch switch.FeasiblePause1 b s = record s { feasiblepause1 = b }
with_switch switch.FeasiblePause2 b s = record s { feasiblepause2 = b }
with_switch switch.EndPause1 b s = record s { endpause1 = b }
with_switch switch.Future1 b s = record s { future1 = b }
with_switch switch.Future2 b s = record s { future2 = b }

-- The session with a rule.
abbrev pub with_rule : RuleOption → PriceType → SessionOptions → SessionOptions
with_rule rule.PriceType1 r s = record s { pricetype1 = r }
with_rule rule.PriceType2 r s = record s { pricetype2 = r }

-- the options of PROC with one more setting
abbrev pub with_setting : ProcOptions → Setting → ProcOptions
with_setting p (setting.Input o n) = with_input o n p
with_setting p (setting.Flag o) = with_flag o p
with_setting p (setting.Amount o a) = with_amount o a p
with_setting p (setting.DefCapacity b) = record p { defcapacity = Some b }
with_setting p (setting.DefConType t) = record p { defcontype = Some t }
with_setting p (setting.Node o n) = with_node o n p
with_setting p (setting.Output o n) = with_output o n p
with_setting p (setting.Count o n) = record p { session = with_count o n p.session }
with_setting p (setting.Switch o b) = record p { session = with_switch o b p.session }
with_setting p (setting.Rule o r) = record p { session = with_rule o r p.session }

-- the options of PROC that these settings make
unfoldable pub options_of : List Setting → ProcOptions
options_of ss = fold with_setting no_options ss

-- WARM comes with its three data sets, and they with it.
abbrev pub lacks_warm : ProcOptions → Bool
lacks_warm p =
    if p.warm then not (is_some p.conin && is_some p.dualin && is_some p.sessiondata)
    else is_some p.conin || is_some p.dualin || is_some p.sessiondata

-- An amount comes with its node, and SPARSECONDATA with CONDATA=.
abbrev pub lacks_partner : ProcOptions → Bool
lacks_partner p =
    (is_some p.supply && not (is_some p.source)) || (is_some p.demand && not (is_some p.sink)) || (p.sparsecondata && not (is_some p.condata))
    || ((p.maxflow || p.shortpath) && not (is_some p.source && is_some p.sink))

-- What a command needs is not there: ARCDATA=, for `check` CERTDATA=, and for `again` WARM.
abbrev pub lacks_set : Command → ProcOptions → Bool
lacks_set Run p = not (is_some p.arcdata)
lacks_set Check p = not (is_some p.arcdata) || not (is_some p.certdata)
lacks_set Again p = not (is_some p.arcdata) || not p.warm
lacks_set Export p = not (is_some p.arcdata)

-- PROC lacks an option that it may not end without.
unfoldable pub lacks : Command → ProcOptions → Bool
lacks c p = lacks_set c p || lacks_warm p || lacks_partner p

-- MAXFLOW and SHORTPATH do not stand together, nor one of them beside an option that speaks of another problem.
unfoldable pub are_wrong_together : ProcOptions → Bool
are_wrong_together p =
    (p.maxflow && p.shortpath)
    || ((p.maxflow || p.shortpath)
    && (is_some p.condata || is_some p.nodedata || is_some p.supply || is_some p.demand || p.thrunet || p.maximize || p.warm))

-- ---- the options of RESET and SAVE

-- An option of RESET with a count.
abbrev pub reset_count : CountOption → ℕ → ResetOption
reset_count count.Maxit1 n = reset.Maxit1 n
reset_count count.Maxit2 n = reset.Maxit2 n
reset_count count.Pause1 n = reset.Pause1 n
reset_count count.Pause2 n = reset.Pause2 n
reset_count count.QueueSize1 n = reset.QueueSize1 n
reset_count count.QueueSize2 n = reset.QueueSize2 n

-- An option of RESET that is a flag.
abbrev pub reset_switch : SwitchOption → Bool → ResetOption
reset_switch switch.FeasiblePause1 b = reset.FeasiblePause1 b
reset_switch switch.FeasiblePause2 b = reset.FeasiblePause2 b
reset_switch switch.EndPause1 b = reset.EndPause1 b
reset_switch switch.Future1 b = reset.Future1 b
reset_switch switch.Future2 b = reset.Future2 b

-- An option of RESET with a rule.
abbrev pub reset_rule : RuleOption → PriceType → ResetOption
reset_rule rule.PriceType1 r = reset.PriceType1 r
reset_rule rule.PriceType2 r = reset.PriceType2 r

-- the setting as an option of RESET, if it is one
abbrev pub resets_in : Setting → List ResetOption
resets_in (setting.Count o n) = reset_count o n ∷ []
resets_in (setting.Switch o b) = reset_switch o b ∷ []
resets_in (setting.Rule o r) = reset_rule o r ∷ []
resets_in _ = []

-- The options of RESET among these settings.
unfoldable pub resets_of : List Setting → List ResetOption
resets_of ss = flat_map resets_in ss

-- an option of RESET as a setting
abbrev pub reset_setting : ResetOption → Setting
reset_setting (reset.Maxit1 n) = setting.Count count.Maxit1 n
reset_setting (reset.Maxit2 n) = setting.Count count.Maxit2 n
reset_setting (reset.Pause1 n) = setting.Count count.Pause1 n
reset_setting (reset.Pause2 n) = setting.Count count.Pause2 n
reset_setting (reset.FeasiblePause1 b) = setting.Switch switch.FeasiblePause1 b
reset_setting (reset.FeasiblePause2 b) = setting.Switch switch.FeasiblePause2 b
reset_setting (reset.EndPause1 b) = setting.Switch switch.EndPause1 b
reset_setting (reset.Future1 b) = setting.Switch switch.Future1 b
reset_setting (reset.Future2 b) = setting.Switch switch.Future2 b
reset_setting (reset.PriceType1 r) = setting.Rule rule.PriceType1 r
reset_setting (reset.PriceType2 r) = setting.Rule rule.PriceType2 r
reset_setting (reset.QueueSize1 n) = setting.Count count.QueueSize1 n
reset_setting (reset.QueueSize2 n) = setting.Count count.QueueSize2 n

-- the setting as an option of SAVE, if it is one
abbrev pub saves_in : Setting → List SaveItem
saves_in (setting.Output o n) = record { option = o; name = n } ∷ []
saves_in _ = []

-- The options of SAVE among these settings.
unfoldable pub saves_of : List Setting → List SaveItem
saves_of ss = flat_map saves_in ss

-- an option of SAVE as a setting
abbrev pub save_setting : SaveItem → Setting
save_setting i = setting.Output i.option i.name
