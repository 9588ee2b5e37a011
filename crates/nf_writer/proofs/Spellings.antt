-- Each word of a canonical text is a plain word, and names what it stands for.
use Rattle.std.proofs.Common.{◌≡◌, true, false, Some, refl}
use Rattle.nf_words.specs.Lists.{statement_list, option_list, print_list, show_list, type_list, price_list}
use Rattle.nf_program.specs.declared.program.Role.TheVariants as role
use Rattle.nf_program.specs.declared.program.OutOption.TheVariants as out
use Rattle.nf_program.specs.declared.program.ConType.{ConType}
use Rattle.nf_program.specs.declared.program.ConType.TheVariants as con
use Rattle.nf_program.specs.declared.program.PriceType.{PriceType}
use Rattle.nf_program.specs.declared.program.PriceType.TheVariants as price
use Rattle.nf_program.specs.declared.program.PrintItem.{PrintItem}
use Rattle.nf_program.specs.declared.program.PrintItem.TheVariants as print
use Rattle.nf_program.specs.declared.program.ShowItem.{ShowItem}
use Rattle.nf_program.specs.declared.program.ShowItem.TheVariants as show
use Rattle.nf_program.specs.declared.words.StatementWord.{StatementWord}
use Rattle.nf_program.specs.declared.words.StatementWord.TheVariants as word
use Rattle.nf_program.specs.declared.words.OptionWord.{OptionWord}
use Rattle.nf_program.specs.declared.words.OptionWord.TheVariants as option
use Rattle.nf_program.specs.declared.words.InputOption.TheVariants as input
use Rattle.nf_program.specs.declared.words.FlagOption.TheVariants as flag
use Rattle.nf_program.specs.declared.words.AmountOption.TheVariants as amount
use Rattle.nf_program.specs.declared.words.NodeOption.TheVariants as node
use Rattle.nf_program.specs.declared.words.CountOption.TheVariants as count
use Rattle.nf_program.specs.declared.words.SwitchOption.TheVariants as switch
use Rattle.nf_program.specs.declared.words.RuleOption.TheVariants as rule
use Rattle.nf_program.specs.Words.{statements, options, print_items, show_items, con_types, price_types, statement_of, option_of, print_of, show_of, con_type_of, price_type_of}
use Rattle.nf_writer.specs.Canonical.{is_plain, statement_text, option_text, print_text, show_text, con_type_text, price_type_text}

pub statement_spelled : (x : StatementWord) → (is_plain (statement_text x) ≡ true) × (statement_of (statement_text x) ≡ Some x)
unfolding statement_text statement_of statement_list statements
statement_spelled word.Proc = (refl, refl)
statement_spelled (word.Role role.TailNode) = (refl, refl)
statement_spelled (word.Role role.HeadNode) = (refl, refl)
statement_spelled (word.Role role.Cost) = (refl, refl)
statement_spelled (word.Role role.Capacity) = (refl, refl)
statement_spelled (word.Role role.Lo) = (refl, refl)
statement_spelled (word.Role role.ArcName) = (refl, refl)
statement_spelled (word.Role role.Supply) = (refl, refl)
statement_spelled (word.Role role.Demand) = (refl, refl)
statement_spelled (word.Role role.Node) = (refl, refl)
statement_spelled (word.Role role.Supdem) = (refl, refl)
statement_spelled (word.Role role.Var) = (refl, refl)
statement_spelled (word.Role role.ConKind) = (refl, refl)
statement_spelled (word.Role role.Rhs) = (refl, refl)
statement_spelled (word.Role role.Row) = (refl, refl)
statement_spelled (word.Role role.Column) = (refl, refl)
statement_spelled (word.Role role.Coef) = (refl, refl)
statement_spelled (word.Role role.Id) = (refl, refl)
statement_spelled word.Reset = (refl, refl)
statement_spelled word.Pivot = (refl, refl)
statement_spelled word.Print = (refl, refl)
statement_spelled word.Show = (refl, refl)
statement_spelled word.Save = (refl, refl)
statement_spelled word.Run = (refl, refl)
statement_spelled word.Quit = (refl, refl)

pub option_spelled : (x : OptionWord) → (is_plain (option_text x) ≡ true) × (option_of (option_text x) ≡ Some x)
unfolding option_text option_of option_list options
option_spelled (option.Input input.Arcdata) = (refl, refl)
option_spelled (option.Input input.Nodedata) = (refl, refl)
option_spelled (option.Input input.Condata) = (refl, refl)
option_spelled (option.Input input.Certdata) = (refl, refl)
option_spelled (option.Input input.Conin) = (refl, refl)
option_spelled (option.Input input.Dualin) = (refl, refl)
option_spelled (option.Input input.Sessiondata) = (refl, refl)
option_spelled (option.Flag flag.SparseConData) = (refl, refl)
option_spelled (option.Flag flag.Thrunet) = (refl, refl)
option_spelled (option.Flag flag.Maximize) = (refl, refl)
option_spelled (option.Flag flag.Warm) = (refl, refl)
option_spelled (option.Flag flag.MaxFlow) = (refl, refl)
option_spelled (option.Flag flag.ShortPath) = (refl, refl)
option_spelled (option.Amount amount.DefCost) = (refl, refl)
option_spelled (option.Amount amount.DefMinFlow) = (refl, refl)
option_spelled (option.Amount amount.Supply) = (refl, refl)
option_spelled (option.Amount amount.Demand) = (refl, refl)
option_spelled option.DefCapacity = (refl, refl)
option_spelled option.DefConType = (refl, refl)
option_spelled (option.Node node.Source) = (refl, refl)
option_spelled (option.Node node.Sink) = (refl, refl)
option_spelled (option.Output out.Arcout) = (refl, refl)
option_spelled (option.Output out.Nodeout) = (refl, refl)
option_spelled (option.Output out.Conout) = (refl, refl)
option_spelled (option.Output out.Dualout) = (refl, refl)
option_spelled (option.Output out.Sessionout) = (refl, refl)
option_spelled (option.Output out.Certout) = (refl, refl)
option_spelled (option.Count count.Maxit1) = (refl, refl)
option_spelled (option.Count count.Maxit2) = (refl, refl)
option_spelled (option.Count count.Pause1) = (refl, refl)
option_spelled (option.Count count.Pause2) = (refl, refl)
option_spelled (option.Count count.QueueSize1) = (refl, refl)
option_spelled (option.Count count.QueueSize2) = (refl, refl)
option_spelled (option.Switch switch.FeasiblePause1 true) = (refl, refl)
option_spelled (option.Switch switch.FeasiblePause1 false) = (refl, refl)
option_spelled (option.Switch switch.FeasiblePause2 true) = (refl, refl)
option_spelled (option.Switch switch.FeasiblePause2 false) = (refl, refl)
option_spelled (option.Switch switch.EndPause1 true) = (refl, refl)
option_spelled (option.Switch switch.EndPause1 false) = (refl, refl)
option_spelled (option.Switch switch.Future1 true) = (refl, refl)
option_spelled (option.Switch switch.Future1 false) = (refl, refl)
option_spelled (option.Switch switch.Future2 true) = (refl, refl)
option_spelled (option.Switch switch.Future2 false) = (refl, refl)
option_spelled (option.Rule rule.PriceType1) = (refl, refl)
option_spelled (option.Rule rule.PriceType2) = (refl, refl)

pub print_spelled : (x : PrintItem) → (is_plain (print_text x) ≡ true) × (print_of (print_text x) ≡ Some x)
unfolding print_text print_of print_list print_items
print_spelled print.Problem = (refl, refl)
print_spelled print.Solution = (refl, refl)
print_spelled print.Arcs = (refl, refl)
print_spelled print.Nonarcs = (refl, refl)
print_spelled print.Nodes = (refl, refl)
print_spelled print.Constraints = (refl, refl)
print_spelled print.Costranges = (refl, refl)
print_spelled print.Rhsranges = (refl, refl)

pub show_spelled : (x : ShowItem) → (is_plain (show_text x) ≡ true) × (show_of (show_text x) ≡ Some x)
unfolding show_text show_of show_list show_items
show_spelled show.Status = (refl, refl)
show_spelled show.Problem = (refl, refl)
show_spelled show.Options = (refl, refl)

pub con_type_spelled : (x : ConType) → (is_plain (con_type_text x) ≡ true) × (con_type_of (con_type_text x) ≡ Some x)
unfolding con_type_text con_type_of type_list con_types
con_type_spelled con.Le = (refl, refl)
con_type_spelled con.Ge = (refl, refl)
con_type_spelled con.Eq = (refl, refl)

pub price_type_spelled : (x : PriceType) → (is_plain (price_type_text x) ≡ true) × (price_type_of (price_type_text x) ≡ Some x)
unfolding price_type_text price_type_of price_list price_types
price_type_spelled price.First = (refl, refl)
price_type_spelled price.Best = (refl, refl)
price_type_spelled price.Bland = (refl, refl)
price_type_spelled price.Queue = (refl, refl)
