-- The words of statements, options, items, types and rules, by their lists. The grammar names words by it.
use Rattle.std.specs.Prelude.{ℕ, true, false, List, [], ◌∷◌, Option, option_and_then, slice_get}
use Rattle.nf_words.specs.Words.{Word, find_word}
use Rattle.nf_words.specs.Lists.{statement_list, option_list, print_list, show_list, type_list, price_list}
use Rattle.nf_program.specs.declared.program.Role.TheVariants as role
use Rattle.nf_program.specs.declared.program.OutOption.TheVariants as out
use Rattle.nf_program.specs.declared.program.PrintItem.{PrintItem}
use Rattle.nf_program.specs.declared.program.PrintItem.TheVariants as print
use Rattle.nf_program.specs.declared.program.ShowItem.{ShowItem}
use Rattle.nf_program.specs.declared.program.ShowItem.TheVariants as show
use Rattle.nf_program.specs.declared.program.ConType.{ConType}
use Rattle.nf_program.specs.declared.program.ConType.TheVariants as con
use Rattle.nf_program.specs.declared.program.PriceType.{PriceType}
use Rattle.nf_program.specs.declared.program.PriceType.TheVariants as price
use Rattle.nf_program.specs.declared.words.StatementWord.{StatementWord}
use Rattle.nf_program.specs.declared.words.StatementWord.TheVariants as word
use Rattle.nf_program.specs.declared.words.OptionWord.{OptionWord}
use Rattle.nf_program.specs.declared.words.OptionWord.TheVariants as option
use Rattle.nf_program.specs.declared.words.InputOption.TheVariants as input
use Rattle.nf_program.specs.declared.words.FlagOption.TheVariants as flag
use Rattle.nf_program.specs.declared.words.AmountOption.TheVariants as amount
use Rattle.nf_program.specs.declared.words.NodeOption.TheVariants as node
use Rattle.nf_program.specs.declared.words.CountOption.TheVariants as count
use Rattle.nf_program.specs.declared.words.SwitchOption.TheVariants as switch
use Rattle.nf_program.specs.declared.words.RuleOption.TheVariants as rule

-- ---- what the kinds of each list are, in its order

-- The statements of the statement words.
unfoldable pub statements : List StatementWord
statements =
    word.Proc
    ∷ word.Role role.TailNode ∷ word.Role role.HeadNode ∷ word.Role role.Cost ∷ word.Role role.Capacity ∷ word.Role role.Lo ∷ word.Role role.ArcName
    ∷ word.Role role.Supply ∷ word.Role role.Demand ∷ word.Role role.Node ∷ word.Role role.Supdem ∷ word.Role role.Var ∷ word.Role role.ConKind
    ∷ word.Role role.Rhs ∷ word.Role role.Row ∷ word.Role role.Column ∷ word.Role role.Coef ∷ word.Role role.Id
    ∷ word.Reset ∷ word.Pivot ∷ word.Print ∷ word.Show ∷ word.Save ∷ word.Run ∷ word.Quit ∷ []

-- The options of the option words.
unfoldable pub options : List OptionWord
options =
    option.Input input.Arcdata ∷ option.Input input.Nodedata ∷ option.Input input.Condata ∷ option.Input input.Certdata
    ∷ option.Input input.Conin ∷ option.Input input.Dualin ∷ option.Input input.Sessiondata
    ∷ option.Flag flag.SparseConData ∷ option.Flag flag.Thrunet ∷ option.Flag flag.Maximize ∷ option.Flag flag.Warm
    ∷ option.Flag flag.MaxFlow ∷ option.Flag flag.ShortPath
    ∷ option.Amount amount.DefCost ∷ option.Amount amount.DefMinFlow ∷ option.DefCapacity ∷ option.DefConType
    ∷ option.Node node.Source ∷ option.Node node.Sink ∷ option.Amount amount.Supply ∷ option.Amount amount.Demand
    ∷ option.Output out.Arcout ∷ option.Output out.Nodeout ∷ option.Output out.Conout ∷ option.Output out.Dualout
    ∷ option.Output out.Sessionout ∷ option.Output out.Certout
    ∷ option.Count count.Maxit1 ∷ option.Count count.Maxit2 ∷ option.Count count.Pause1 ∷ option.Count count.Pause2
    ∷ option.Switch switch.FeasiblePause1 true ∷ option.Switch switch.FeasiblePause1 false
    ∷ option.Switch switch.FeasiblePause2 true ∷ option.Switch switch.FeasiblePause2 false
    ∷ option.Switch switch.EndPause1 true ∷ option.Switch switch.EndPause1 false
    ∷ option.Switch switch.Future1 true ∷ option.Switch switch.Future1 false
    ∷ option.Switch switch.Future2 true ∷ option.Switch switch.Future2 false
    ∷ option.Rule rule.PriceType1 ∷ option.Rule rule.PriceType2 ∷ option.Count count.QueueSize1 ∷ option.Count count.QueueSize2 ∷ []

-- The items of the PRINT words.
unfoldable pub print_items : List PrintItem
print_items = print.Problem ∷ print.Solution ∷ print.Arcs ∷ print.Nonarcs ∷ print.Nodes ∷ print.Constraints ∷ print.Costranges ∷ print.Rhsranges ∷ []

-- The items of the SHOW words.
unfoldable pub show_items : List ShowItem
show_items = show.Status ∷ show.Problem ∷ show.Options ∷ []

-- the types of constraints; the kinds after them are types of data rows
unfoldable pub con_types : List ConType
con_types = con.Le ∷ con.Ge ∷ con.Eq ∷ []

-- The rules of the rule words.
unfoldable pub price_types : List PriceType
price_types = price.First ∷ price.Best ∷ price.Bland ∷ price.Queue ∷ []

-- ---- what a word is

-- what the word is in the list, whose kinds are these things
abbrev pub word_in : {A : Type 0} → List Word → List A → List ℕ → Option A
word_in list kinds w = option_and_then (λ k. slice_get kinds k) (find_word list w)

-- The statement that a word begins.
unfoldable pub statement_of : List ℕ → Option StatementWord
statement_of w = word_in statement_list statements w

-- The option of a word.
unfoldable pub option_of : List ℕ → Option OptionWord
option_of w = word_in option_list options w

-- The item of PRINT of a word.
unfoldable pub print_of : List ℕ → Option PrintItem
print_of w = word_in print_list print_items w

-- The item of SHOW of a word.
unfoldable pub show_of : List ℕ → Option ShowItem
show_of w = word_in show_list show_items w

-- The type of a constraint of a word.
unfoldable pub con_type_of : List ℕ → Option ConType
con_type_of w = word_in type_list con_types w

-- The rule of a word.
unfoldable pub price_type_of : List ℕ → Option PriceType
price_type_of w = word_in price_list price_types w
