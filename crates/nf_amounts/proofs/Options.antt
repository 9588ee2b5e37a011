-- The options of a program have amounts: its grammar has no other numbers.
use Rattle.std.proofs.Common.{◌≡◌, ℕ, List, [], ◌∷◌, Ok, IfOk, sym, subst}
use Rattle.std.specs.List.{fold}
use Rattle.nf_text.specs.Tokens.{Lexeme}
use Rattle.nf_frac.specs.declared.amount.Amount.{Amount}
use Rattle.nf_frac.specs.Amounts.{IsAmount, amount_read}
use Rattle.nf_program.specs.declared.program.Bound.{Bound}
use Rattle.nf_program.specs.declared.program.Bound.TheVariants.{Finite, Infinite}
use Rattle.nf_program.specs.declared.program.OutOption.{OutOption}
use Rattle.nf_program.specs.declared.program.OutOption.TheVariants as out
use Rattle.nf_program.specs.declared.program.ProcOptions.{ProcOptions}
use Rattle.nf_program.specs.declared.settings.Setting.{Setting}
use Rattle.nf_program.specs.declared.settings.Setting.TheVariants as setting
use Rattle.nf_program.specs.declared.words.AmountOption.{AmountOption}
use Rattle.nf_program.specs.declared.words.AmountOption.TheVariants as amount
use Rattle.nf_program.specs.declared.words.FlagOption.{FlagOption}
use Rattle.nf_program.specs.declared.words.FlagOption.TheVariants as flag
use Rattle.nf_program.specs.declared.words.InputOption.{InputOption}
use Rattle.nf_program.specs.declared.words.InputOption.TheVariants as input
use Rattle.nf_program.specs.declared.words.NodeOption.{NodeOption}
use Rattle.nf_program.specs.declared.words.NodeOption.TheVariants as node
use Rattle.nf_program.specs.Grammar.{Each, IsSetting}
use Rattle.nf_program.specs.Settings.{no_options, options_of, with_amount, with_flag, with_input, with_node, with_output, with_setting}
use Rattle.nf_program.specs.Values.{IsBound as IsBoundOf}
use Rattle.nf_amounts.specs.Laws.{HasOptionAmounts, IsBound, OptionsHaveAmounts}
use Rattle.nf_amounts.proofs.Reading.{amount_range}

-- ---- the number of a token
amount_of_text : (a : Amount) (text : List ℕ) → amount_read text ≡ Ok a → IsAmount a
amount_of_text a text e = subst (λ r. IfOk r IsAmount) e (amount_range text)

bound_of_text : (b : Bound) (v : Lexeme) → IsBoundOf b v → IsBound b
bound_of_text (Finite a) v h = amount_of_text a v.bytes h.1
bound_of_text Infinite v h = tt

-- ---- one option more
module _ (p : ProcOptions) (h : HasOptionAmounts p) where
  input_keeps : (o : InputOption) (n : List ℕ) → HasOptionAmounts (with_input o n p)
  input_keeps input.Arcdata n = record { cost = h.cost; lower = h.lower; upper = h.upper; supply = h.supply; demand = h.demand }
  input_keeps input.Nodedata n = record { cost = h.cost; lower = h.lower; upper = h.upper; supply = h.supply; demand = h.demand }
  input_keeps input.Condata n = record { cost = h.cost; lower = h.lower; upper = h.upper; supply = h.supply; demand = h.demand }
  input_keeps input.Certdata n = record { cost = h.cost; lower = h.lower; upper = h.upper; supply = h.supply; demand = h.demand }
  input_keeps input.Conin n = record { cost = h.cost; lower = h.lower; upper = h.upper; supply = h.supply; demand = h.demand }
  input_keeps input.Dualin n = record { cost = h.cost; lower = h.lower; upper = h.upper; supply = h.supply; demand = h.demand }
  input_keeps input.Sessiondata n = record { cost = h.cost; lower = h.lower; upper = h.upper; supply = h.supply; demand = h.demand }

  flag_keeps : (o : FlagOption) → HasOptionAmounts (with_flag o p)
  flag_keeps flag.SparseConData = record { cost = h.cost; lower = h.lower; upper = h.upper; supply = h.supply; demand = h.demand }
  flag_keeps flag.Thrunet = record { cost = h.cost; lower = h.lower; upper = h.upper; supply = h.supply; demand = h.demand }
  flag_keeps flag.Maximize = record { cost = h.cost; lower = h.lower; upper = h.upper; supply = h.supply; demand = h.demand }
  flag_keeps flag.Warm = record { cost = h.cost; lower = h.lower; upper = h.upper; supply = h.supply; demand = h.demand }
  flag_keeps flag.MaxFlow = record { cost = h.cost; lower = h.lower; upper = h.upper; supply = h.supply; demand = h.demand }
  flag_keeps flag.ShortPath = record { cost = h.cost; lower = h.lower; upper = h.upper; supply = h.supply; demand = h.demand }

  output_keeps : (o : OutOption) (n : List ℕ) → HasOptionAmounts (with_output o n p)
  output_keeps out.Arcout n = record { cost = h.cost; lower = h.lower; upper = h.upper; supply = h.supply; demand = h.demand }
  output_keeps out.Nodeout n = record { cost = h.cost; lower = h.lower; upper = h.upper; supply = h.supply; demand = h.demand }
  output_keeps out.Conout n = record { cost = h.cost; lower = h.lower; upper = h.upper; supply = h.supply; demand = h.demand }
  output_keeps out.Dualout n = record { cost = h.cost; lower = h.lower; upper = h.upper; supply = h.supply; demand = h.demand }
  output_keeps out.Sessionout n = record { cost = h.cost; lower = h.lower; upper = h.upper; supply = h.supply; demand = h.demand }
  output_keeps out.Certout n = record { cost = h.cost; lower = h.lower; upper = h.upper; supply = h.supply; demand = h.demand }

  node_keeps : (o : NodeOption) (n : List ℕ) → HasOptionAmounts (with_node o n p)
  node_keeps node.Source n = record { cost = h.cost; lower = h.lower; upper = h.upper; supply = h.supply; demand = h.demand }
  node_keeps node.Sink n = record { cost = h.cost; lower = h.lower; upper = h.upper; supply = h.supply; demand = h.demand }

  amount_keeps : (o : AmountOption) (a : Amount) → IsAmount a → HasOptionAmounts (with_amount o a p)
  amount_keeps amount.DefCost a k = record { cost = k; lower = h.lower; upper = h.upper; supply = h.supply; demand = h.demand }
  amount_keeps amount.DefMinFlow a k = record { cost = h.cost; lower = k; upper = h.upper; supply = h.supply; demand = h.demand }
  amount_keeps amount.Supply a k = record { cost = h.cost; lower = h.lower; upper = h.upper; supply = k; demand = h.demand }
  amount_keeps amount.Demand a k = record { cost = h.cost; lower = h.lower; upper = h.upper; supply = h.supply; demand = k }

  setting_keeps : (s : Setting) (ts : List Lexeme) → IsSetting s ts → HasOptionAmounts (with_setting p s)
  setting_keeps (setting.Input o n) ts k = input_keeps o n
  setting_keeps (setting.Flag o) ts k = flag_keeps o
  setting_keeps (setting.Amount o a) ts k = amount_keeps o a (amount_of_text a k.2.bytes k.6.1)
  setting_keeps (setting.DefCapacity b) ts k = record { cost = h.cost; lower = h.lower; upper = bound_of_text b k.2 k.6; supply = h.supply; demand = h.demand }
  setting_keeps (setting.DefConType t) ts k = record { cost = h.cost; lower = h.lower; upper = h.upper; supply = h.supply; demand = h.demand }
  setting_keeps (setting.Node o n) ts k = node_keeps o n
  setting_keeps (setting.Output o n) ts k = output_keeps o n
  setting_keeps (setting.Count o n) ts k = record { cost = h.cost; lower = h.lower; upper = h.upper; supply = h.supply; demand = h.demand }
  setting_keeps (setting.Switch o b) ts k = record { cost = h.cost; lower = h.lower; upper = h.upper; supply = h.supply; demand = h.demand }
  setting_keeps (setting.Rule o r) ts k = record { cost = h.cost; lower = h.lower; upper = h.upper; supply = h.supply; demand = h.demand }

-- ---- all options
settings_keep : (ss : List Setting) (p : ProcOptions) (ts : List Lexeme) → HasOptionAmounts p → Each IsSetting ss ts → HasOptionAmounts (fold with_setting p ss)
settings_keep [] p ts h k = h
settings_keep (s ∷ ss) p ts h k = settings_keep ss (with_setting p s) k.1 (setting_keeps p h s k.0 k.3) k.4

none_have : HasOptionAmounts no_options
none_have = record { cost = tt; lower = tt; upper = tt; supply = tt; demand = tt }

made_have : (ss : List Setting) (ts : List Lexeme) → Each IsSetting ss ts → HasOptionAmounts (options_of ss)
unfolding options_of
made_have ss ts k = settings_keep ss no_options ts none_have k

pub options_have_amounts : OptionsHaveAmounts
options_have_amounts c text p h = let n = h.3.4.6 in subst HasOptionAmounts (sym n.8) (made_have n.2 n.1 n.6.0)
