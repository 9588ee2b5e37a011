-- Each word that a canonical text has is in its list.
use Rattle.std.proofs.Common.{◌≡◌, ℕ, true, false, List, refl, ap, ◌∙◌}
use Rattle.std.specs.Prelude.{IsSome, is_some}
use Rattle.nf_words.specs.Words.{Word, first_spelling}
use Rattle.nf_words.specs.Lists.{statement_list, option_list, print_list, show_list, type_list, price_list}
use Rattle.nf_program.specs.declared.program.Role.TheVariants as role
use Rattle.nf_program.specs.declared.program.OutOption.TheVariants as out
use Rattle.nf_program.specs.declared.program.ConType.{ConType}
use Rattle.nf_program.specs.declared.program.ConType.TheVariants as con
use Rattle.nf_program.specs.declared.program.PriceType.{PriceType}
use Rattle.nf_program.specs.declared.program.PriceType.TheVariants as price
use Rattle.nf_program.specs.declared.program.PrintItem.{PrintItem}
use Rattle.nf_program.specs.declared.program.PrintItem.TheVariants as print
use Rattle.nf_program.specs.declared.program.ShowItem.{ShowItem}
use Rattle.nf_program.specs.declared.program.ShowItem.TheVariants as show
use Rattle.nf_program.specs.declared.words.StatementWord.{StatementWord}
use Rattle.nf_program.specs.declared.words.StatementWord.TheVariants as word
use Rattle.nf_program.specs.declared.words.OptionWord.{OptionWord}
use Rattle.nf_program.specs.declared.words.OptionWord.TheVariants as option
use Rattle.nf_program.specs.declared.words.InputOption.TheVariants as input
use Rattle.nf_program.specs.declared.words.FlagOption.TheVariants as flag
use Rattle.nf_program.specs.declared.words.AmountOption.TheVariants as amount
use Rattle.nf_program.specs.declared.words.NodeOption.TheVariants as node
use Rattle.nf_program.specs.declared.words.CountOption.TheVariants as count
use Rattle.nf_program.specs.declared.words.SwitchOption.TheVariants as switch
use Rattle.nf_program.specs.declared.words.RuleOption.TheVariants as rule
use Rattle.nf_program.specs.Programs.{print_number, show_number}
use Rattle.nf_writer.specs.Canonical.{statement_number, option_number, con_type_number, price_type_number}

pub statement_known : (s : StatementWord) → IsSome (first_spelling statement_list (statement_number s))
unfolding statement_list
statement_known word.Proc = refl
statement_known (word.Role role.TailNode) = refl
statement_known (word.Role role.HeadNode) = refl
statement_known (word.Role role.Cost) = refl
statement_known (word.Role role.Capacity) = refl
statement_known (word.Role role.Lo) = refl
statement_known (word.Role role.ArcName) = refl
statement_known (word.Role role.Supply) = refl
statement_known (word.Role role.Demand) = refl
statement_known (word.Role role.Node) = refl
statement_known (word.Role role.Supdem) = refl
statement_known (word.Role role.Var) = refl
statement_known (word.Role role.ConKind) = refl
statement_known (word.Role role.Rhs) = refl
statement_known (word.Role role.Row) = refl
statement_known (word.Role role.Column) = refl
statement_known (word.Role role.Coef) = refl
statement_known (word.Role role.Id) = refl
statement_known word.Reset = refl
statement_known word.Pivot = refl
statement_known word.Print = refl
statement_known word.Show = refl
statement_known word.Save = refl
statement_known word.Run = refl
statement_known word.Quit = refl

pub option_known : (o : OptionWord) → IsSome (first_spelling option_list (option_number o))
unfolding option_list
option_known (option.Input input.Arcdata) = refl
option_known (option.Input input.Nodedata) = refl
option_known (option.Input input.Condata) = refl
option_known (option.Input input.Certdata) = refl
option_known (option.Input input.Conin) = refl
option_known (option.Input input.Dualin) = refl
option_known (option.Input input.Sessiondata) = refl
option_known (option.Flag flag.SparseConData) = refl
option_known (option.Flag flag.Thrunet) = refl
option_known (option.Flag flag.Maximize) = refl
option_known (option.Flag flag.Warm) = refl
option_known (option.Flag flag.MaxFlow) = refl
option_known (option.Flag flag.ShortPath) = refl
option_known (option.Amount amount.DefCost) = refl
option_known (option.Amount amount.DefMinFlow) = refl
option_known (option.Amount amount.Supply) = refl
option_known (option.Amount amount.Demand) = refl
option_known option.DefCapacity = refl
option_known option.DefConType = refl
option_known (option.Node node.Source) = refl
option_known (option.Node node.Sink) = refl
option_known (option.Output out.Arcout) = refl
option_known (option.Output out.Nodeout) = refl
option_known (option.Output out.Conout) = refl
option_known (option.Output out.Dualout) = refl
option_known (option.Output out.Sessionout) = refl
option_known (option.Output out.Certout) = refl
option_known (option.Count count.Maxit1) = refl
option_known (option.Count count.Maxit2) = refl
option_known (option.Count count.Pause1) = refl
option_known (option.Count count.Pause2) = refl
option_known (option.Count count.QueueSize1) = refl
option_known (option.Count count.QueueSize2) = refl
option_known (option.Switch switch.FeasiblePause1 true) = refl
option_known (option.Switch switch.FeasiblePause1 false) = refl
option_known (option.Switch switch.FeasiblePause2 true) = refl
option_known (option.Switch switch.FeasiblePause2 false) = refl
option_known (option.Switch switch.EndPause1 true) = refl
option_known (option.Switch switch.EndPause1 false) = refl
option_known (option.Switch switch.Future1 true) = refl
option_known (option.Switch switch.Future1 false) = refl
option_known (option.Switch switch.Future2 true) = refl
option_known (option.Switch switch.Future2 false) = refl
option_known (option.Rule rule.PriceType1) = refl
option_known (option.Rule rule.PriceType2) = refl

pub print_known : (i : PrintItem) → IsSome (first_spelling print_list (print_number i))
unfolding print_list
print_known print.Problem = refl
print_known print.Solution = refl
print_known print.Arcs = refl
print_known print.Nonarcs = refl
print_known print.Nodes = refl
print_known print.Constraints = refl
print_known print.Costranges = refl
print_known print.Rhsranges = refl

pub show_known : (i : ShowItem) → IsSome (first_spelling show_list (show_number i))
unfolding show_list
show_known show.Status = refl
show_known show.Problem = refl
show_known show.Options = refl

pub con_type_known : (t : ConType) → IsSome (first_spelling type_list (con_type_number t))
unfolding type_list
con_type_known con.Le = refl
con_type_known con.Ge = refl
con_type_known con.Eq = refl

pub price_type_known : (r : PriceType) → IsSome (first_spelling price_list (price_type_number r))
unfolding price_list
price_type_known price.First = refl
price_type_known price.Best = refl
price_type_known price.Bland = refl
price_type_known price.Queue = refl

-- so its table can spell it
pub known_at : (list words : List Word) (k j : ℕ) → words ≡ list → j ≡ k → IsSome (first_spelling list k) → IsSome (first_spelling words j)
known_at list words k j same number h = ap is_some (λ i. first_spelling (same i) (number i)) ∙ h
