-- The names of data sets that options give are text, and their amounts are in range.
use Rattle.std.proofs.Common.{◌≡◌, ℕ, ◌<◌, true, List, [], ◌∷◌, Option, Some, None, subst, arith, rules, zero, suc}
use Rattle.std.proofs.lemmas.Bool.Decides.{nat_tests}
use Rattle.std.proofs.lemmas.Str.{IsUtf8-from_ascii}
use Rattle.std.specs.Str.{IsAscii, IsUtf8}
use Rattle.nf_program.specs.declared.program.ProcOptions.{ProcOptions}
use Rattle.nf_program.specs.declared.program.OutOption.{OutOption}
use Rattle.nf_program.specs.declared.program.OutOption.TheVariants as out
use Rattle.nf_program.specs.declared.words.InputOption.{InputOption}
use Rattle.nf_program.specs.declared.words.InputOption.TheVariants as input
use Rattle.nf_program.specs.declared.words.AmountOption.TheVariants as amount
use Rattle.nf_program.specs.declared.settings.Setting.TheVariants as setting
use Rattle.std.specs.Prelude.{IfSome}
use Rattle.nf_frac.specs.declared.amount.Amount.{Amount}
use Rattle.nf_frac.specs.Amounts.{IsAmount}
use Rattle.nf_program.specs.declared.words.AmountOption.{AmountOption}
use Rattle.std.specs.List.{list_all}
use Rattle.nf_writer.specs.Canonical.{is_plain}
use Rattle.nf_text.specs.Bytes.{is_letter, is_word_byte}
use Rattle.nf_program.proofs.Things.{split_and}
use Rattle.nf_writer.proofs.Writable.{Given, ProcOk, SetOk, SettingOk}

-- ---- names of data sets as text

letter_small : (b : ℕ) → is_letter b ≡ true → b < 128
letter_small b h = grind (arith, nat_tests)

word_byte_small : (b : ℕ) → is_word_byte b ≡ true → b < 128
word_byte_small b h = grind (arith, nat_tests)

words_ascii : (bs : List ℕ) → list_all is_word_byte bs ≡ true → IsAscii bs
words_ascii [] h i = search rules
words_ascii (b ∷ bs) h zero = word_byte_small b (split_and (is_word_byte b) (list_all is_word_byte bs) h).0
words_ascii (b ∷ bs) h (suc i) = words_ascii bs (split_and (is_word_byte b) (list_all is_word_byte bs) h).1 i

plain_ascii : (bs : List ℕ) → is_plain bs ≡ true → IsAscii bs
plain_ascii [] h i = search rules
plain_ascii (b ∷ bs) h zero = letter_small b (split_and (is_letter b) (list_all is_word_byte bs) h).0
plain_ascii (b ∷ bs) h (suc i) = words_ascii bs (split_and (is_letter b) (list_all is_word_byte bs) h).1 i

input_text : (o : InputOption) (m : Option (List ℕ)) → Given (setting.Input o) m → (n : List ℕ) → m ≡ Some n → IsUtf8 n
unfolding Given SettingOk SetOk
input_text o None h n e = cc e
input_text o (Some a) h n e = subst IsUtf8 (cc e) (IsUtf8-from_ascii a (plain_ascii a h.0))

output_text : (o : OutOption) (m : Option (List ℕ)) → Given (setting.Output o) m → (n : List ℕ) → m ≡ Some n → IsUtf8 n
unfolding Given SettingOk SetOk
output_text o None h n e = cc e
output_text o (Some a) h n e = subst IsUtf8 (cc e) (IsUtf8-from_ascii a (plain_ascii a h.0))

-- The names of data sets are text.
pub record SetsAreText (p : ProcOptions) : Type 0 where
  pub arcdata : (n : List ℕ) → p.arcdata ≡ Some n → IsUtf8 n
  pub nodedata : (n : List ℕ) → p.nodedata ≡ Some n → IsUtf8 n
  pub condata : (n : List ℕ) → p.condata ≡ Some n → IsUtf8 n
  pub certdata : (n : List ℕ) → p.certdata ≡ Some n → IsUtf8 n
  pub conin : (n : List ℕ) → p.conin ≡ Some n → IsUtf8 n
  pub dualin : (n : List ℕ) → p.dualin ≡ Some n → IsUtf8 n
  pub sessiondata : (n : List ℕ) → p.sessiondata ≡ Some n → IsUtf8 n
  pub arcout : (n : List ℕ) → p.arcout ≡ Some n → IsUtf8 n
  pub nodeout : (n : List ℕ) → p.nodeout ≡ Some n → IsUtf8 n
  pub conout : (n : List ℕ) → p.conout ≡ Some n → IsUtf8 n
  pub dualout : (n : List ℕ) → p.dualout ≡ Some n → IsUtf8 n
  pub sessionout : (n : List ℕ) → p.sessionout ≡ Some n → IsUtf8 n
  pub certout : (n : List ℕ) → p.certout ≡ Some n → IsUtf8 n

pub sets_text : (p : ProcOptions) → ProcOk p → SetsAreText p
sets_text p h = record {
  arcdata = input_text input.Arcdata p.arcdata h.arcdata_ok;
  nodedata = input_text input.Nodedata p.nodedata h.nodedata_ok;
  condata = input_text input.Condata p.condata h.condata_ok;
  certdata = input_text input.Certdata p.certdata h.certdata_ok;
  conin = input_text input.Conin p.conin h.conin_ok;
  dualin = input_text input.Dualin p.dualin h.dualin_ok;
  sessiondata = input_text input.Sessiondata p.sessiondata h.sessiondata_ok;
  arcout = output_text out.Arcout p.arcout h.arcout_ok;
  nodeout = output_text out.Nodeout p.nodeout h.nodeout_ok;
  conout = output_text out.Conout p.conout h.conout_ok;
  dualout = output_text out.Dualout p.dualout h.dualout_ok;
  sessionout = output_text out.Sessionout p.sessionout h.sessionout_ok;
  certout = output_text out.Certout p.certout h.certout_ok;
}

-- ---- the amounts of options are in range

amount_given : (o : AmountOption) (m : Option Amount) → Given (setting.Amount o) m → IfSome m IsAmount
unfolding Given SettingOk
amount_given o None h = tt
amount_given o (Some a) h = h

-- The amounts that options give are in range.
pub record HasAmounts (p : ProcOptions) : Type 0 where
  pub defcost : IfSome p.defcost IsAmount
  pub defminflow : IfSome p.defminflow IsAmount
  pub supply : IfSome p.supply IsAmount
  pub demand : IfSome p.demand IsAmount

pub options_have_amounts : (p : ProcOptions) → ProcOk p → HasAmounts p
options_have_amounts p h = record {
  defcost = amount_given amount.DefCost p.defcost h.defcost_ok;
  defminflow = amount_given amount.DefMinFlow p.defminflow h.defminflow_ok;
  supply = amount_given amount.Supply p.supply h.supply_ok;
  demand = amount_given amount.Demand p.demand h.demand_ok;
}
