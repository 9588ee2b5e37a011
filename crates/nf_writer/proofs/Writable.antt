-- Each option of a text can be written, and so can those of PROC in the canonical order.
use Rattle.std.proofs.Common.{◌≡◌, ℕ, ◌≤◌, ◌<◌, ◌==◌, Bool, true, false, List, [], ◌∷◌, ◌++◌, Option, Some, None, refl, sym, ap, ◌∙◌, subst, arith, length, if◌then◌else◌}
use Rattle.std.proofs.lemmas.List.{append-nil}
use Rattle.std.specs.List.{AllByRecursion, fold}
use Rattle.nf_program.specs.declared.program.ProcOptions.{ProcOptions}
use Rattle.nf_program.specs.declared.program.OutOption.TheVariants as out
use Rattle.nf_program.specs.declared.program.PriceType.{PriceType}
use Rattle.nf_program.specs.declared.program.PriceType.TheVariants as price
use Rattle.nf_program.specs.declared.words.InputOption.TheVariants as input
use Rattle.nf_program.specs.declared.words.FlagOption.{FlagOption}
use Rattle.nf_program.specs.declared.words.FlagOption.TheVariants as flag
use Rattle.nf_program.specs.declared.words.AmountOption.TheVariants as amount
use Rattle.nf_program.specs.declared.words.NodeOption.TheVariants as node
use Rattle.nf_program.specs.declared.words.CountOption.{CountOption}
use Rattle.nf_program.specs.declared.words.CountOption.TheVariants as count
use Rattle.nf_program.specs.declared.words.SwitchOption.{SwitchOption}
use Rattle.nf_program.specs.declared.words.SwitchOption.TheVariants as switch
use Rattle.nf_program.specs.declared.words.RuleOption.{RuleOption}
use Rattle.nf_program.specs.declared.words.RuleOption.TheVariants as rule
use Rattle.nf_program.specs.declared.settings.Setting.{Setting}
use Rattle.nf_program.specs.declared.settings.Setting.TheVariants as setting
use Rattle.nf_program.specs.Settings.{with_setting, options_of, no_options}
use Rattle.nf_writer.specs.Canonical.{given, flag_given, count_given, switch_given, rule_given, settings_of}
use Rattle.std.specs.Prelude.{unsigned_abs}
use Rattle.std.specs.List.{list_all}
use Rattle.nf_text.specs.declared.token.TokenKind.{TokenKind}
use Rattle.nf_text.specs.Tokens.{IsPiece, Lexeme}
use Rattle.nf_frac.proofs.AmountFacts.{whole_small}
use Rattle.nf_program.specs.declared.program.Bound.TheVariants.{Finite, Infinite}
use Rattle.nf_program.specs.Values.{lowered, Fits, is_name_byte, IsSetName}
use Rattle.nf_program.specs.Settings.{word_of, flag_of}
use Rattle.nf_program.specs.ReadValues.{least_of, most_of}
use Rattle.nf_program.specs.Grammar.{IsValue, IsSettingBy, IsSetting, Each}
use Rattle.nf_writer.specs.Canonical.{is_plain}
use Rattle.nf_writer.proofs.Names.{word_plain, plain_lower, lower_twice, length_lower}
use Rattle.nf_writer.proofs.Numbers.{amount_small}
use Rattle.nf_writer.proofs.Canon.{all_settings, flat, r0, r1, r2, r3, r4, r5, r6, r7, r8, r9, r10, r11, r12, r13, r14, r15, r16, r17, r18, r19, r20, r21, r22, r23, r24, r25, r26, r27, r28, r29, r30, r31, r32, r33, r34, r35, r36, r37, r38}

-- ---- each option can be written

unfoldable pub SetOk : List ℕ → Type 0
SetOk n = (is_plain n ≡ true) × (n ≡ lowered n) × Fits n

abbrev pub CountOk : CountOption → ℕ → Type 0
CountOk o n = (n < 1_000_000_000) × (least_of o ≤ n) × (n ≤ most_of o)

unfoldable pub SettingOk : Setting → Type 0
SettingOk (setting.Input o n) = SetOk n
SettingOk (setting.Output o n) = SetOk n
SettingOk (setting.Amount o a) = unsigned_abs a.thousandths ≤ 999_999_999_999
SettingOk (setting.DefCapacity (Finite a)) = unsigned_abs a.thousandths ≤ 999_999_999_999
SettingOk (setting.DefCapacity Infinite) = Unit {0}
SettingOk (setting.DefConType t) = Unit {0}
SettingOk (setting.Node o n) = (list_all is_name_byte n ≡ true) × Fits n
SettingOk (setting.Count o n) = CountOk o n
SettingOk (setting.Flag o) = Unit {0}
SettingOk (setting.Switch o b) = Unit {0}
SettingOk (setting.Rule o r) = Unit {0}

set_ok : (n : List ℕ) (v : Lexeme) → IsSetName n v → IsPiece (Some v.kind) v.bytes → SetOk n
unfolding SetOk
set_ok n v h piece =
    let plain : is_plain v.bytes ≡ true = word_plain v.bytes (subst (λ (k : TokenKind). IsPiece (Some k) v.bytes) h.0 piece) in
    let len : length v.bytes ≡ length n = sym (ap length h.1 ∙ length_lower v.bytes) in
    (ap is_plain h.1 ∙ plain_lower v.bytes plain, h.1 ∙ sym (lower_twice v.bytes) ∙ ap lowered (sym h.1), (subst (λ (k : ℕ). 1 ≤ k) len h.2.0, subst (λ (k : ℕ). k ≤ 32) len h.2.1))

pub value_ok : (s : Setting) (v : Lexeme) → IsValue s v → IsPiece (Some v.kind) v.bytes → SettingOk s
unfolding SettingOk
value_ok (setting.Input o n) v h piece = set_ok n v h piece
value_ok (setting.Output o n) v h piece = set_ok n v h piece
value_ok (setting.Amount o a) v h piece = amount_small v.bytes a h.1
value_ok (setting.DefCapacity (Finite a)) v h piece = amount_small v.bytes a h.1
value_ok (setting.DefCapacity Infinite) v h piece = tt
value_ok (setting.DefConType t) v h piece = tt
value_ok (setting.Node o n) v h piece = (h.1, h.2)
value_ok (setting.Count o n) v h piece = (subst (λ (k : ℕ). k < 1_000_000_000) (sym h.0.3) (whole_small v.bytes h.0.1 h.0.2), h.1, h.2)
value_ok (setting.Rule o r) v h piece = tt
value_ok (setting.Flag o) v h piece = tt
value_ok (setting.Switch o b) v h piece = tt

-- the tokens are pieces of their kinds
abbrev pub ArePieces : List Lexeme → Type 0
ArePieces ts = AllByRecursion (λ t. IsPiece (Some t.kind) t.bytes) ts

pub pieces_front : (a b : List Lexeme) → ArePieces (a ++ b) → ArePieces a
pieces_front [] b h = tt
pieces_front (t ∷ a) b h = (h.0, pieces_front a b h.1)

pub pieces_back : (a b : List Lexeme) → ArePieces (a ++ b) → ArePieces b
pieces_back [] b h = h
pieces_back (t ∷ a) b h = pieces_back a b h.1

flag_ok : (s f : Setting) → flag_of (word_of s) ≡ Some f → SettingOk s
unfolding SettingOk
flag_ok (setting.Flag o) f e = tt
flag_ok (setting.Switch o b) f e = tt
flag_ok (setting.Input o n) f e = absurd cc
flag_ok (setting.Output o n) f e = absurd cc
flag_ok (setting.Amount o a) f e = absurd cc
flag_ok (setting.DefCapacity b) f e = absurd cc
flag_ok (setting.DefConType t) f e = absurd cc
flag_ok (setting.Node o n) f e = absurd cc
flag_ok (setting.Count o n) f e = absurd cc
flag_ok (setting.Rule o r) f e = absurd cc

setting_ok : (s : Setting) (ts : List Lexeme) → IsSetting s ts → ArePieces ts → SettingOk s
setting_ok s ts h pieces = by (flag_of (word_of s)) refl h where
  by : (m : Option Setting) → flag_of (word_of s) ≡ m → IsSettingBy m s ts → SettingOk s
  by (Some f) e is = flag_ok s f e
  by None e is = let all = subst ArePieces is.3 pieces in value_ok s is.2 is.6 all.1.1.0

abbrev pub SettingsOk : List Setting → Type 0
SettingsOk ss = AllByRecursion SettingOk ss

pub settings_ok : (ss : List Setting) (ts : List Lexeme) → Each IsSetting ss ts → ArePieces ts → SettingsOk ss
settings_ok [] ts h pieces = tt
settings_ok (s ∷ ss) ts h pieces =
    let all = subst ArePieces h.2 pieces in
    (setting_ok s h.0 h.3 (pieces_front h.0 h.1 all), settings_ok ss h.1 h.4 (pieces_back h.0 h.1 all))

-- ---- the options of PROC can be written

-- An option that is given can be written.
unfoldable pub Given : {A : Type 0} → (A → Setting) → Option A → Type 0
Given f None = Unit {0}
Given f (Some a) = SettingOk (f a)

-- Each option that PROC has can be written.
pub record ProcOk (p : ProcOptions) : Type 0 where
  pub arcdata_ok : Given (setting.Input input.Arcdata) p.arcdata
  pub nodedata_ok : Given (setting.Input input.Nodedata) p.nodedata
  pub condata_ok : Given (setting.Input input.Condata) p.condata
  pub certdata_ok : Given (setting.Input input.Certdata) p.certdata
  pub conin_ok : Given (setting.Input input.Conin) p.conin
  pub dualin_ok : Given (setting.Input input.Dualin) p.dualin
  pub sessiondata_ok : Given (setting.Input input.Sessiondata) p.sessiondata
  pub defcost_ok : Given (setting.Amount amount.DefCost) p.defcost
  pub defminflow_ok : Given (setting.Amount amount.DefMinFlow) p.defminflow
  pub defcapacity_ok : Given setting.DefCapacity p.defcapacity
  pub defcontype_ok : Given setting.DefConType p.defcontype
  pub source_ok : Given (setting.Node node.Source) p.source
  pub sink_ok : Given (setting.Node node.Sink) p.sink
  pub supply_ok : Given (setting.Amount amount.Supply) p.supply
  pub demand_ok : Given (setting.Amount amount.Demand) p.demand
  pub arcout_ok : Given (setting.Output out.Arcout) p.arcout
  pub nodeout_ok : Given (setting.Output out.Nodeout) p.nodeout
  pub conout_ok : Given (setting.Output out.Conout) p.conout
  pub dualout_ok : Given (setting.Output out.Dualout) p.dualout
  pub sessionout_ok : Given (setting.Output out.Sessionout) p.sessionout
  pub certout_ok : Given (setting.Output out.Certout) p.certout
  pub maxit1_ok : CountOk count.Maxit1 p.session.maxit1
  pub maxit2_ok : CountOk count.Maxit2 p.session.maxit2
  pub pause1_ok : CountOk count.Pause1 p.session.pause1
  pub pause2_ok : CountOk count.Pause2 p.session.pause2
  pub queuesize1_ok : CountOk count.QueueSize1 p.session.queuesize1
  pub queuesize2_ok : CountOk count.QueueSize2 p.session.queuesize2

none_ok : ProcOk no_options
unfolding Given
none_ok = record { arcdata_ok = tt; nodedata_ok = tt; condata_ok = tt; certdata_ok = tt; conin_ok = tt; dualin_ok = tt; sessiondata_ok = tt; defcost_ok = tt; defminflow_ok = tt; defcapacity_ok = tt; defcontype_ok = tt; source_ok = tt; sink_ok = tt; supply_ok = tt; demand_ok = tt; arcout_ok = tt; nodeout_ok = tt; conout_ok = tt; dualout_ok = tt; sessionout_ok = tt; certout_ok = tt; maxit1_ok = (omega arith, omega arith, omega arith); maxit2_ok = (omega arith, omega arith, omega arith); pause1_ok = (omega arith, omega arith, omega arith); pause2_ok = (omega arith, omega arith, omega arith); queuesize1_ok = (omega arith, omega arith, omega arith); queuesize2_ok = (omega arith, omega arith, omega arith) }

with_ok : (p : ProcOptions) (s : Setting) → ProcOk p → SettingOk s → ProcOk (with_setting p s)
unfolding Given SettingOk
with_ok p (setting.Input input.Arcdata n) h k = record { arcdata_ok = k; nodedata_ok = h.nodedata_ok; condata_ok = h.condata_ok; certdata_ok = h.certdata_ok; conin_ok = h.conin_ok; dualin_ok = h.dualin_ok; sessiondata_ok = h.sessiondata_ok; defcost_ok = h.defcost_ok; defminflow_ok = h.defminflow_ok; defcapacity_ok = h.defcapacity_ok; defcontype_ok = h.defcontype_ok; source_ok = h.source_ok; sink_ok = h.sink_ok; supply_ok = h.supply_ok; demand_ok = h.demand_ok; arcout_ok = h.arcout_ok; nodeout_ok = h.nodeout_ok; conout_ok = h.conout_ok; dualout_ok = h.dualout_ok; sessionout_ok = h.sessionout_ok; certout_ok = h.certout_ok; maxit1_ok = h.maxit1_ok; maxit2_ok = h.maxit2_ok; pause1_ok = h.pause1_ok; pause2_ok = h.pause2_ok; queuesize1_ok = h.queuesize1_ok; queuesize2_ok = h.queuesize2_ok }
with_ok p (setting.Input input.Nodedata n) h k = record { arcdata_ok = h.arcdata_ok; nodedata_ok = k; condata_ok = h.condata_ok; certdata_ok = h.certdata_ok; conin_ok = h.conin_ok; dualin_ok = h.dualin_ok; sessiondata_ok = h.sessiondata_ok; defcost_ok = h.defcost_ok; defminflow_ok = h.defminflow_ok; defcapacity_ok = h.defcapacity_ok; defcontype_ok = h.defcontype_ok; source_ok = h.source_ok; sink_ok = h.sink_ok; supply_ok = h.supply_ok; demand_ok = h.demand_ok; arcout_ok = h.arcout_ok; nodeout_ok = h.nodeout_ok; conout_ok = h.conout_ok; dualout_ok = h.dualout_ok; sessionout_ok = h.sessionout_ok; certout_ok = h.certout_ok; maxit1_ok = h.maxit1_ok; maxit2_ok = h.maxit2_ok; pause1_ok = h.pause1_ok; pause2_ok = h.pause2_ok; queuesize1_ok = h.queuesize1_ok; queuesize2_ok = h.queuesize2_ok }
with_ok p (setting.Input input.Condata n) h k = record { arcdata_ok = h.arcdata_ok; nodedata_ok = h.nodedata_ok; condata_ok = k; certdata_ok = h.certdata_ok; conin_ok = h.conin_ok; dualin_ok = h.dualin_ok; sessiondata_ok = h.sessiondata_ok; defcost_ok = h.defcost_ok; defminflow_ok = h.defminflow_ok; defcapacity_ok = h.defcapacity_ok; defcontype_ok = h.defcontype_ok; source_ok = h.source_ok; sink_ok = h.sink_ok; supply_ok = h.supply_ok; demand_ok = h.demand_ok; arcout_ok = h.arcout_ok; nodeout_ok = h.nodeout_ok; conout_ok = h.conout_ok; dualout_ok = h.dualout_ok; sessionout_ok = h.sessionout_ok; certout_ok = h.certout_ok; maxit1_ok = h.maxit1_ok; maxit2_ok = h.maxit2_ok; pause1_ok = h.pause1_ok; pause2_ok = h.pause2_ok; queuesize1_ok = h.queuesize1_ok; queuesize2_ok = h.queuesize2_ok }
with_ok p (setting.Input input.Certdata n) h k = record { arcdata_ok = h.arcdata_ok; nodedata_ok = h.nodedata_ok; condata_ok = h.condata_ok; certdata_ok = k; conin_ok = h.conin_ok; dualin_ok = h.dualin_ok; sessiondata_ok = h.sessiondata_ok; defcost_ok = h.defcost_ok; defminflow_ok = h.defminflow_ok; defcapacity_ok = h.defcapacity_ok; defcontype_ok = h.defcontype_ok; source_ok = h.source_ok; sink_ok = h.sink_ok; supply_ok = h.supply_ok; demand_ok = h.demand_ok; arcout_ok = h.arcout_ok; nodeout_ok = h.nodeout_ok; conout_ok = h.conout_ok; dualout_ok = h.dualout_ok; sessionout_ok = h.sessionout_ok; certout_ok = h.certout_ok; maxit1_ok = h.maxit1_ok; maxit2_ok = h.maxit2_ok; pause1_ok = h.pause1_ok; pause2_ok = h.pause2_ok; queuesize1_ok = h.queuesize1_ok; queuesize2_ok = h.queuesize2_ok }
with_ok p (setting.Input input.Conin n) h k = record { arcdata_ok = h.arcdata_ok; nodedata_ok = h.nodedata_ok; condata_ok = h.condata_ok; certdata_ok = h.certdata_ok; conin_ok = k; dualin_ok = h.dualin_ok; sessiondata_ok = h.sessiondata_ok; defcost_ok = h.defcost_ok; defminflow_ok = h.defminflow_ok; defcapacity_ok = h.defcapacity_ok; defcontype_ok = h.defcontype_ok; source_ok = h.source_ok; sink_ok = h.sink_ok; supply_ok = h.supply_ok; demand_ok = h.demand_ok; arcout_ok = h.arcout_ok; nodeout_ok = h.nodeout_ok; conout_ok = h.conout_ok; dualout_ok = h.dualout_ok; sessionout_ok = h.sessionout_ok; certout_ok = h.certout_ok; maxit1_ok = h.maxit1_ok; maxit2_ok = h.maxit2_ok; pause1_ok = h.pause1_ok; pause2_ok = h.pause2_ok; queuesize1_ok = h.queuesize1_ok; queuesize2_ok = h.queuesize2_ok }
with_ok p (setting.Input input.Dualin n) h k = record { arcdata_ok = h.arcdata_ok; nodedata_ok = h.nodedata_ok; condata_ok = h.condata_ok; certdata_ok = h.certdata_ok; conin_ok = h.conin_ok; dualin_ok = k; sessiondata_ok = h.sessiondata_ok; defcost_ok = h.defcost_ok; defminflow_ok = h.defminflow_ok; defcapacity_ok = h.defcapacity_ok; defcontype_ok = h.defcontype_ok; source_ok = h.source_ok; sink_ok = h.sink_ok; supply_ok = h.supply_ok; demand_ok = h.demand_ok; arcout_ok = h.arcout_ok; nodeout_ok = h.nodeout_ok; conout_ok = h.conout_ok; dualout_ok = h.dualout_ok; sessionout_ok = h.sessionout_ok; certout_ok = h.certout_ok; maxit1_ok = h.maxit1_ok; maxit2_ok = h.maxit2_ok; pause1_ok = h.pause1_ok; pause2_ok = h.pause2_ok; queuesize1_ok = h.queuesize1_ok; queuesize2_ok = h.queuesize2_ok }
with_ok p (setting.Input input.Sessiondata n) h k = record { arcdata_ok = h.arcdata_ok; nodedata_ok = h.nodedata_ok; condata_ok = h.condata_ok; certdata_ok = h.certdata_ok; conin_ok = h.conin_ok; dualin_ok = h.dualin_ok; sessiondata_ok = k; defcost_ok = h.defcost_ok; defminflow_ok = h.defminflow_ok; defcapacity_ok = h.defcapacity_ok; defcontype_ok = h.defcontype_ok; source_ok = h.source_ok; sink_ok = h.sink_ok; supply_ok = h.supply_ok; demand_ok = h.demand_ok; arcout_ok = h.arcout_ok; nodeout_ok = h.nodeout_ok; conout_ok = h.conout_ok; dualout_ok = h.dualout_ok; sessionout_ok = h.sessionout_ok; certout_ok = h.certout_ok; maxit1_ok = h.maxit1_ok; maxit2_ok = h.maxit2_ok; pause1_ok = h.pause1_ok; pause2_ok = h.pause2_ok; queuesize1_ok = h.queuesize1_ok; queuesize2_ok = h.queuesize2_ok }
with_ok p (setting.Flag flag.SparseConData) h k = record { arcdata_ok = h.arcdata_ok; nodedata_ok = h.nodedata_ok; condata_ok = h.condata_ok; certdata_ok = h.certdata_ok; conin_ok = h.conin_ok; dualin_ok = h.dualin_ok; sessiondata_ok = h.sessiondata_ok; defcost_ok = h.defcost_ok; defminflow_ok = h.defminflow_ok; defcapacity_ok = h.defcapacity_ok; defcontype_ok = h.defcontype_ok; source_ok = h.source_ok; sink_ok = h.sink_ok; supply_ok = h.supply_ok; demand_ok = h.demand_ok; arcout_ok = h.arcout_ok; nodeout_ok = h.nodeout_ok; conout_ok = h.conout_ok; dualout_ok = h.dualout_ok; sessionout_ok = h.sessionout_ok; certout_ok = h.certout_ok; maxit1_ok = h.maxit1_ok; maxit2_ok = h.maxit2_ok; pause1_ok = h.pause1_ok; pause2_ok = h.pause2_ok; queuesize1_ok = h.queuesize1_ok; queuesize2_ok = h.queuesize2_ok }
with_ok p (setting.Flag flag.Thrunet) h k = record { arcdata_ok = h.arcdata_ok; nodedata_ok = h.nodedata_ok; condata_ok = h.condata_ok; certdata_ok = h.certdata_ok; conin_ok = h.conin_ok; dualin_ok = h.dualin_ok; sessiondata_ok = h.sessiondata_ok; defcost_ok = h.defcost_ok; defminflow_ok = h.defminflow_ok; defcapacity_ok = h.defcapacity_ok; defcontype_ok = h.defcontype_ok; source_ok = h.source_ok; sink_ok = h.sink_ok; supply_ok = h.supply_ok; demand_ok = h.demand_ok; arcout_ok = h.arcout_ok; nodeout_ok = h.nodeout_ok; conout_ok = h.conout_ok; dualout_ok = h.dualout_ok; sessionout_ok = h.sessionout_ok; certout_ok = h.certout_ok; maxit1_ok = h.maxit1_ok; maxit2_ok = h.maxit2_ok; pause1_ok = h.pause1_ok; pause2_ok = h.pause2_ok; queuesize1_ok = h.queuesize1_ok; queuesize2_ok = h.queuesize2_ok }
with_ok p (setting.Flag flag.Maximize) h k = record { arcdata_ok = h.arcdata_ok; nodedata_ok = h.nodedata_ok; condata_ok = h.condata_ok; certdata_ok = h.certdata_ok; conin_ok = h.conin_ok; dualin_ok = h.dualin_ok; sessiondata_ok = h.sessiondata_ok; defcost_ok = h.defcost_ok; defminflow_ok = h.defminflow_ok; defcapacity_ok = h.defcapacity_ok; defcontype_ok = h.defcontype_ok; source_ok = h.source_ok; sink_ok = h.sink_ok; supply_ok = h.supply_ok; demand_ok = h.demand_ok; arcout_ok = h.arcout_ok; nodeout_ok = h.nodeout_ok; conout_ok = h.conout_ok; dualout_ok = h.dualout_ok; sessionout_ok = h.sessionout_ok; certout_ok = h.certout_ok; maxit1_ok = h.maxit1_ok; maxit2_ok = h.maxit2_ok; pause1_ok = h.pause1_ok; pause2_ok = h.pause2_ok; queuesize1_ok = h.queuesize1_ok; queuesize2_ok = h.queuesize2_ok }
with_ok p (setting.Flag flag.Warm) h k = record { arcdata_ok = h.arcdata_ok; nodedata_ok = h.nodedata_ok; condata_ok = h.condata_ok; certdata_ok = h.certdata_ok; conin_ok = h.conin_ok; dualin_ok = h.dualin_ok; sessiondata_ok = h.sessiondata_ok; defcost_ok = h.defcost_ok; defminflow_ok = h.defminflow_ok; defcapacity_ok = h.defcapacity_ok; defcontype_ok = h.defcontype_ok; source_ok = h.source_ok; sink_ok = h.sink_ok; supply_ok = h.supply_ok; demand_ok = h.demand_ok; arcout_ok = h.arcout_ok; nodeout_ok = h.nodeout_ok; conout_ok = h.conout_ok; dualout_ok = h.dualout_ok; sessionout_ok = h.sessionout_ok; certout_ok = h.certout_ok; maxit1_ok = h.maxit1_ok; maxit2_ok = h.maxit2_ok; pause1_ok = h.pause1_ok; pause2_ok = h.pause2_ok; queuesize1_ok = h.queuesize1_ok; queuesize2_ok = h.queuesize2_ok }
with_ok p (setting.Flag flag.MaxFlow) h k = record { arcdata_ok = h.arcdata_ok; nodedata_ok = h.nodedata_ok; condata_ok = h.condata_ok; certdata_ok = h.certdata_ok; conin_ok = h.conin_ok; dualin_ok = h.dualin_ok; sessiondata_ok = h.sessiondata_ok; defcost_ok = h.defcost_ok; defminflow_ok = h.defminflow_ok; defcapacity_ok = h.defcapacity_ok; defcontype_ok = h.defcontype_ok; source_ok = h.source_ok; sink_ok = h.sink_ok; supply_ok = h.supply_ok; demand_ok = h.demand_ok; arcout_ok = h.arcout_ok; nodeout_ok = h.nodeout_ok; conout_ok = h.conout_ok; dualout_ok = h.dualout_ok; sessionout_ok = h.sessionout_ok; certout_ok = h.certout_ok; maxit1_ok = h.maxit1_ok; maxit2_ok = h.maxit2_ok; pause1_ok = h.pause1_ok; pause2_ok = h.pause2_ok; queuesize1_ok = h.queuesize1_ok; queuesize2_ok = h.queuesize2_ok }
with_ok p (setting.Flag flag.ShortPath) h k = record { arcdata_ok = h.arcdata_ok; nodedata_ok = h.nodedata_ok; condata_ok = h.condata_ok; certdata_ok = h.certdata_ok; conin_ok = h.conin_ok; dualin_ok = h.dualin_ok; sessiondata_ok = h.sessiondata_ok; defcost_ok = h.defcost_ok; defminflow_ok = h.defminflow_ok; defcapacity_ok = h.defcapacity_ok; defcontype_ok = h.defcontype_ok; source_ok = h.source_ok; sink_ok = h.sink_ok; supply_ok = h.supply_ok; demand_ok = h.demand_ok; arcout_ok = h.arcout_ok; nodeout_ok = h.nodeout_ok; conout_ok = h.conout_ok; dualout_ok = h.dualout_ok; sessionout_ok = h.sessionout_ok; certout_ok = h.certout_ok; maxit1_ok = h.maxit1_ok; maxit2_ok = h.maxit2_ok; pause1_ok = h.pause1_ok; pause2_ok = h.pause2_ok; queuesize1_ok = h.queuesize1_ok; queuesize2_ok = h.queuesize2_ok }
with_ok p (setting.Amount amount.DefCost a) h k = record { arcdata_ok = h.arcdata_ok; nodedata_ok = h.nodedata_ok; condata_ok = h.condata_ok; certdata_ok = h.certdata_ok; conin_ok = h.conin_ok; dualin_ok = h.dualin_ok; sessiondata_ok = h.sessiondata_ok; defcost_ok = k; defminflow_ok = h.defminflow_ok; defcapacity_ok = h.defcapacity_ok; defcontype_ok = h.defcontype_ok; source_ok = h.source_ok; sink_ok = h.sink_ok; supply_ok = h.supply_ok; demand_ok = h.demand_ok; arcout_ok = h.arcout_ok; nodeout_ok = h.nodeout_ok; conout_ok = h.conout_ok; dualout_ok = h.dualout_ok; sessionout_ok = h.sessionout_ok; certout_ok = h.certout_ok; maxit1_ok = h.maxit1_ok; maxit2_ok = h.maxit2_ok; pause1_ok = h.pause1_ok; pause2_ok = h.pause2_ok; queuesize1_ok = h.queuesize1_ok; queuesize2_ok = h.queuesize2_ok }
with_ok p (setting.Amount amount.DefMinFlow a) h k = record { arcdata_ok = h.arcdata_ok; nodedata_ok = h.nodedata_ok; condata_ok = h.condata_ok; certdata_ok = h.certdata_ok; conin_ok = h.conin_ok; dualin_ok = h.dualin_ok; sessiondata_ok = h.sessiondata_ok; defcost_ok = h.defcost_ok; defminflow_ok = k; defcapacity_ok = h.defcapacity_ok; defcontype_ok = h.defcontype_ok; source_ok = h.source_ok; sink_ok = h.sink_ok; supply_ok = h.supply_ok; demand_ok = h.demand_ok; arcout_ok = h.arcout_ok; nodeout_ok = h.nodeout_ok; conout_ok = h.conout_ok; dualout_ok = h.dualout_ok; sessionout_ok = h.sessionout_ok; certout_ok = h.certout_ok; maxit1_ok = h.maxit1_ok; maxit2_ok = h.maxit2_ok; pause1_ok = h.pause1_ok; pause2_ok = h.pause2_ok; queuesize1_ok = h.queuesize1_ok; queuesize2_ok = h.queuesize2_ok }
with_ok p (setting.Amount amount.Supply a) h k = record { arcdata_ok = h.arcdata_ok; nodedata_ok = h.nodedata_ok; condata_ok = h.condata_ok; certdata_ok = h.certdata_ok; conin_ok = h.conin_ok; dualin_ok = h.dualin_ok; sessiondata_ok = h.sessiondata_ok; defcost_ok = h.defcost_ok; defminflow_ok = h.defminflow_ok; defcapacity_ok = h.defcapacity_ok; defcontype_ok = h.defcontype_ok; source_ok = h.source_ok; sink_ok = h.sink_ok; supply_ok = k; demand_ok = h.demand_ok; arcout_ok = h.arcout_ok; nodeout_ok = h.nodeout_ok; conout_ok = h.conout_ok; dualout_ok = h.dualout_ok; sessionout_ok = h.sessionout_ok; certout_ok = h.certout_ok; maxit1_ok = h.maxit1_ok; maxit2_ok = h.maxit2_ok; pause1_ok = h.pause1_ok; pause2_ok = h.pause2_ok; queuesize1_ok = h.queuesize1_ok; queuesize2_ok = h.queuesize2_ok }
with_ok p (setting.Amount amount.Demand a) h k = record { arcdata_ok = h.arcdata_ok; nodedata_ok = h.nodedata_ok; condata_ok = h.condata_ok; certdata_ok = h.certdata_ok; conin_ok = h.conin_ok; dualin_ok = h.dualin_ok; sessiondata_ok = h.sessiondata_ok; defcost_ok = h.defcost_ok; defminflow_ok = h.defminflow_ok; defcapacity_ok = h.defcapacity_ok; defcontype_ok = h.defcontype_ok; source_ok = h.source_ok; sink_ok = h.sink_ok; supply_ok = h.supply_ok; demand_ok = k; arcout_ok = h.arcout_ok; nodeout_ok = h.nodeout_ok; conout_ok = h.conout_ok; dualout_ok = h.dualout_ok; sessionout_ok = h.sessionout_ok; certout_ok = h.certout_ok; maxit1_ok = h.maxit1_ok; maxit2_ok = h.maxit2_ok; pause1_ok = h.pause1_ok; pause2_ok = h.pause2_ok; queuesize1_ok = h.queuesize1_ok; queuesize2_ok = h.queuesize2_ok }
with_ok p (setting.DefCapacity b) h k = record { arcdata_ok = h.arcdata_ok; nodedata_ok = h.nodedata_ok; condata_ok = h.condata_ok; certdata_ok = h.certdata_ok; conin_ok = h.conin_ok; dualin_ok = h.dualin_ok; sessiondata_ok = h.sessiondata_ok; defcost_ok = h.defcost_ok; defminflow_ok = h.defminflow_ok; defcapacity_ok = k; defcontype_ok = h.defcontype_ok; source_ok = h.source_ok; sink_ok = h.sink_ok; supply_ok = h.supply_ok; demand_ok = h.demand_ok; arcout_ok = h.arcout_ok; nodeout_ok = h.nodeout_ok; conout_ok = h.conout_ok; dualout_ok = h.dualout_ok; sessionout_ok = h.sessionout_ok; certout_ok = h.certout_ok; maxit1_ok = h.maxit1_ok; maxit2_ok = h.maxit2_ok; pause1_ok = h.pause1_ok; pause2_ok = h.pause2_ok; queuesize1_ok = h.queuesize1_ok; queuesize2_ok = h.queuesize2_ok }
with_ok p (setting.DefConType t) h k = record { arcdata_ok = h.arcdata_ok; nodedata_ok = h.nodedata_ok; condata_ok = h.condata_ok; certdata_ok = h.certdata_ok; conin_ok = h.conin_ok; dualin_ok = h.dualin_ok; sessiondata_ok = h.sessiondata_ok; defcost_ok = h.defcost_ok; defminflow_ok = h.defminflow_ok; defcapacity_ok = h.defcapacity_ok; defcontype_ok = k; source_ok = h.source_ok; sink_ok = h.sink_ok; supply_ok = h.supply_ok; demand_ok = h.demand_ok; arcout_ok = h.arcout_ok; nodeout_ok = h.nodeout_ok; conout_ok = h.conout_ok; dualout_ok = h.dualout_ok; sessionout_ok = h.sessionout_ok; certout_ok = h.certout_ok; maxit1_ok = h.maxit1_ok; maxit2_ok = h.maxit2_ok; pause1_ok = h.pause1_ok; pause2_ok = h.pause2_ok; queuesize1_ok = h.queuesize1_ok; queuesize2_ok = h.queuesize2_ok }
with_ok p (setting.Node node.Source n) h k = record { arcdata_ok = h.arcdata_ok; nodedata_ok = h.nodedata_ok; condata_ok = h.condata_ok; certdata_ok = h.certdata_ok; conin_ok = h.conin_ok; dualin_ok = h.dualin_ok; sessiondata_ok = h.sessiondata_ok; defcost_ok = h.defcost_ok; defminflow_ok = h.defminflow_ok; defcapacity_ok = h.defcapacity_ok; defcontype_ok = h.defcontype_ok; source_ok = k; sink_ok = h.sink_ok; supply_ok = h.supply_ok; demand_ok = h.demand_ok; arcout_ok = h.arcout_ok; nodeout_ok = h.nodeout_ok; conout_ok = h.conout_ok; dualout_ok = h.dualout_ok; sessionout_ok = h.sessionout_ok; certout_ok = h.certout_ok; maxit1_ok = h.maxit1_ok; maxit2_ok = h.maxit2_ok; pause1_ok = h.pause1_ok; pause2_ok = h.pause2_ok; queuesize1_ok = h.queuesize1_ok; queuesize2_ok = h.queuesize2_ok }
with_ok p (setting.Node node.Sink n) h k = record { arcdata_ok = h.arcdata_ok; nodedata_ok = h.nodedata_ok; condata_ok = h.condata_ok; certdata_ok = h.certdata_ok; conin_ok = h.conin_ok; dualin_ok = h.dualin_ok; sessiondata_ok = h.sessiondata_ok; defcost_ok = h.defcost_ok; defminflow_ok = h.defminflow_ok; defcapacity_ok = h.defcapacity_ok; defcontype_ok = h.defcontype_ok; source_ok = h.source_ok; sink_ok = k; supply_ok = h.supply_ok; demand_ok = h.demand_ok; arcout_ok = h.arcout_ok; nodeout_ok = h.nodeout_ok; conout_ok = h.conout_ok; dualout_ok = h.dualout_ok; sessionout_ok = h.sessionout_ok; certout_ok = h.certout_ok; maxit1_ok = h.maxit1_ok; maxit2_ok = h.maxit2_ok; pause1_ok = h.pause1_ok; pause2_ok = h.pause2_ok; queuesize1_ok = h.queuesize1_ok; queuesize2_ok = h.queuesize2_ok }
with_ok p (setting.Output out.Arcout n) h k = record { arcdata_ok = h.arcdata_ok; nodedata_ok = h.nodedata_ok; condata_ok = h.condata_ok; certdata_ok = h.certdata_ok; conin_ok = h.conin_ok; dualin_ok = h.dualin_ok; sessiondata_ok = h.sessiondata_ok; defcost_ok = h.defcost_ok; defminflow_ok = h.defminflow_ok; defcapacity_ok = h.defcapacity_ok; defcontype_ok = h.defcontype_ok; source_ok = h.source_ok; sink_ok = h.sink_ok; supply_ok = h.supply_ok; demand_ok = h.demand_ok; arcout_ok = k; nodeout_ok = h.nodeout_ok; conout_ok = h.conout_ok; dualout_ok = h.dualout_ok; sessionout_ok = h.sessionout_ok; certout_ok = h.certout_ok; maxit1_ok = h.maxit1_ok; maxit2_ok = h.maxit2_ok; pause1_ok = h.pause1_ok; pause2_ok = h.pause2_ok; queuesize1_ok = h.queuesize1_ok; queuesize2_ok = h.queuesize2_ok }
with_ok p (setting.Output out.Nodeout n) h k = record { arcdata_ok = h.arcdata_ok; nodedata_ok = h.nodedata_ok; condata_ok = h.condata_ok; certdata_ok = h.certdata_ok; conin_ok = h.conin_ok; dualin_ok = h.dualin_ok; sessiondata_ok = h.sessiondata_ok; defcost_ok = h.defcost_ok; defminflow_ok = h.defminflow_ok; defcapacity_ok = h.defcapacity_ok; defcontype_ok = h.defcontype_ok; source_ok = h.source_ok; sink_ok = h.sink_ok; supply_ok = h.supply_ok; demand_ok = h.demand_ok; arcout_ok = h.arcout_ok; nodeout_ok = k; conout_ok = h.conout_ok; dualout_ok = h.dualout_ok; sessionout_ok = h.sessionout_ok; certout_ok = h.certout_ok; maxit1_ok = h.maxit1_ok; maxit2_ok = h.maxit2_ok; pause1_ok = h.pause1_ok; pause2_ok = h.pause2_ok; queuesize1_ok = h.queuesize1_ok; queuesize2_ok = h.queuesize2_ok }
with_ok p (setting.Output out.Conout n) h k = record { arcdata_ok = h.arcdata_ok; nodedata_ok = h.nodedata_ok; condata_ok = h.condata_ok; certdata_ok = h.certdata_ok; conin_ok = h.conin_ok; dualin_ok = h.dualin_ok; sessiondata_ok = h.sessiondata_ok; defcost_ok = h.defcost_ok; defminflow_ok = h.defminflow_ok; defcapacity_ok = h.defcapacity_ok; defcontype_ok = h.defcontype_ok; source_ok = h.source_ok; sink_ok = h.sink_ok; supply_ok = h.supply_ok; demand_ok = h.demand_ok; arcout_ok = h.arcout_ok; nodeout_ok = h.nodeout_ok; conout_ok = k; dualout_ok = h.dualout_ok; sessionout_ok = h.sessionout_ok; certout_ok = h.certout_ok; maxit1_ok = h.maxit1_ok; maxit2_ok = h.maxit2_ok; pause1_ok = h.pause1_ok; pause2_ok = h.pause2_ok; queuesize1_ok = h.queuesize1_ok; queuesize2_ok = h.queuesize2_ok }
with_ok p (setting.Output out.Dualout n) h k = record { arcdata_ok = h.arcdata_ok; nodedata_ok = h.nodedata_ok; condata_ok = h.condata_ok; certdata_ok = h.certdata_ok; conin_ok = h.conin_ok; dualin_ok = h.dualin_ok; sessiondata_ok = h.sessiondata_ok; defcost_ok = h.defcost_ok; defminflow_ok = h.defminflow_ok; defcapacity_ok = h.defcapacity_ok; defcontype_ok = h.defcontype_ok; source_ok = h.source_ok; sink_ok = h.sink_ok; supply_ok = h.supply_ok; demand_ok = h.demand_ok; arcout_ok = h.arcout_ok; nodeout_ok = h.nodeout_ok; conout_ok = h.conout_ok; dualout_ok = k; sessionout_ok = h.sessionout_ok; certout_ok = h.certout_ok; maxit1_ok = h.maxit1_ok; maxit2_ok = h.maxit2_ok; pause1_ok = h.pause1_ok; pause2_ok = h.pause2_ok; queuesize1_ok = h.queuesize1_ok; queuesize2_ok = h.queuesize2_ok }
with_ok p (setting.Output out.Sessionout n) h k = record { arcdata_ok = h.arcdata_ok; nodedata_ok = h.nodedata_ok; condata_ok = h.condata_ok; certdata_ok = h.certdata_ok; conin_ok = h.conin_ok; dualin_ok = h.dualin_ok; sessiondata_ok = h.sessiondata_ok; defcost_ok = h.defcost_ok; defminflow_ok = h.defminflow_ok; defcapacity_ok = h.defcapacity_ok; defcontype_ok = h.defcontype_ok; source_ok = h.source_ok; sink_ok = h.sink_ok; supply_ok = h.supply_ok; demand_ok = h.demand_ok; arcout_ok = h.arcout_ok; nodeout_ok = h.nodeout_ok; conout_ok = h.conout_ok; dualout_ok = h.dualout_ok; sessionout_ok = k; certout_ok = h.certout_ok; maxit1_ok = h.maxit1_ok; maxit2_ok = h.maxit2_ok; pause1_ok = h.pause1_ok; pause2_ok = h.pause2_ok; queuesize1_ok = h.queuesize1_ok; queuesize2_ok = h.queuesize2_ok }
with_ok p (setting.Output out.Certout n) h k = record { arcdata_ok = h.arcdata_ok; nodedata_ok = h.nodedata_ok; condata_ok = h.condata_ok; certdata_ok = h.certdata_ok; conin_ok = h.conin_ok; dualin_ok = h.dualin_ok; sessiondata_ok = h.sessiondata_ok; defcost_ok = h.defcost_ok; defminflow_ok = h.defminflow_ok; defcapacity_ok = h.defcapacity_ok; defcontype_ok = h.defcontype_ok; source_ok = h.source_ok; sink_ok = h.sink_ok; supply_ok = h.supply_ok; demand_ok = h.demand_ok; arcout_ok = h.arcout_ok; nodeout_ok = h.nodeout_ok; conout_ok = h.conout_ok; dualout_ok = h.dualout_ok; sessionout_ok = h.sessionout_ok; certout_ok = k; maxit1_ok = h.maxit1_ok; maxit2_ok = h.maxit2_ok; pause1_ok = h.pause1_ok; pause2_ok = h.pause2_ok; queuesize1_ok = h.queuesize1_ok; queuesize2_ok = h.queuesize2_ok }
with_ok p (setting.Count count.Maxit1 n) h k = record { arcdata_ok = h.arcdata_ok; nodedata_ok = h.nodedata_ok; condata_ok = h.condata_ok; certdata_ok = h.certdata_ok; conin_ok = h.conin_ok; dualin_ok = h.dualin_ok; sessiondata_ok = h.sessiondata_ok; defcost_ok = h.defcost_ok; defminflow_ok = h.defminflow_ok; defcapacity_ok = h.defcapacity_ok; defcontype_ok = h.defcontype_ok; source_ok = h.source_ok; sink_ok = h.sink_ok; supply_ok = h.supply_ok; demand_ok = h.demand_ok; arcout_ok = h.arcout_ok; nodeout_ok = h.nodeout_ok; conout_ok = h.conout_ok; dualout_ok = h.dualout_ok; sessionout_ok = h.sessionout_ok; certout_ok = h.certout_ok; maxit1_ok = k; maxit2_ok = h.maxit2_ok; pause1_ok = h.pause1_ok; pause2_ok = h.pause2_ok; queuesize1_ok = h.queuesize1_ok; queuesize2_ok = h.queuesize2_ok }
with_ok p (setting.Count count.Maxit2 n) h k = record { arcdata_ok = h.arcdata_ok; nodedata_ok = h.nodedata_ok; condata_ok = h.condata_ok; certdata_ok = h.certdata_ok; conin_ok = h.conin_ok; dualin_ok = h.dualin_ok; sessiondata_ok = h.sessiondata_ok; defcost_ok = h.defcost_ok; defminflow_ok = h.defminflow_ok; defcapacity_ok = h.defcapacity_ok; defcontype_ok = h.defcontype_ok; source_ok = h.source_ok; sink_ok = h.sink_ok; supply_ok = h.supply_ok; demand_ok = h.demand_ok; arcout_ok = h.arcout_ok; nodeout_ok = h.nodeout_ok; conout_ok = h.conout_ok; dualout_ok = h.dualout_ok; sessionout_ok = h.sessionout_ok; certout_ok = h.certout_ok; maxit1_ok = h.maxit1_ok; maxit2_ok = k; pause1_ok = h.pause1_ok; pause2_ok = h.pause2_ok; queuesize1_ok = h.queuesize1_ok; queuesize2_ok = h.queuesize2_ok }
with_ok p (setting.Count count.Pause1 n) h k = record { arcdata_ok = h.arcdata_ok; nodedata_ok = h.nodedata_ok; condata_ok = h.condata_ok; certdata_ok = h.certdata_ok; conin_ok = h.conin_ok; dualin_ok = h.dualin_ok; sessiondata_ok = h.sessiondata_ok; defcost_ok = h.defcost_ok; defminflow_ok = h.defminflow_ok; defcapacity_ok = h.defcapacity_ok; defcontype_ok = h.defcontype_ok; source_ok = h.source_ok; sink_ok = h.sink_ok; supply_ok = h.supply_ok; demand_ok = h.demand_ok; arcout_ok = h.arcout_ok; nodeout_ok = h.nodeout_ok; conout_ok = h.conout_ok; dualout_ok = h.dualout_ok; sessionout_ok = h.sessionout_ok; certout_ok = h.certout_ok; maxit1_ok = h.maxit1_ok; maxit2_ok = h.maxit2_ok; pause1_ok = k; pause2_ok = h.pause2_ok; queuesize1_ok = h.queuesize1_ok; queuesize2_ok = h.queuesize2_ok }
with_ok p (setting.Count count.Pause2 n) h k = record { arcdata_ok = h.arcdata_ok; nodedata_ok = h.nodedata_ok; condata_ok = h.condata_ok; certdata_ok = h.certdata_ok; conin_ok = h.conin_ok; dualin_ok = h.dualin_ok; sessiondata_ok = h.sessiondata_ok; defcost_ok = h.defcost_ok; defminflow_ok = h.defminflow_ok; defcapacity_ok = h.defcapacity_ok; defcontype_ok = h.defcontype_ok; source_ok = h.source_ok; sink_ok = h.sink_ok; supply_ok = h.supply_ok; demand_ok = h.demand_ok; arcout_ok = h.arcout_ok; nodeout_ok = h.nodeout_ok; conout_ok = h.conout_ok; dualout_ok = h.dualout_ok; sessionout_ok = h.sessionout_ok; certout_ok = h.certout_ok; maxit1_ok = h.maxit1_ok; maxit2_ok = h.maxit2_ok; pause1_ok = h.pause1_ok; pause2_ok = k; queuesize1_ok = h.queuesize1_ok; queuesize2_ok = h.queuesize2_ok }
with_ok p (setting.Count count.QueueSize1 n) h k = record { arcdata_ok = h.arcdata_ok; nodedata_ok = h.nodedata_ok; condata_ok = h.condata_ok; certdata_ok = h.certdata_ok; conin_ok = h.conin_ok; dualin_ok = h.dualin_ok; sessiondata_ok = h.sessiondata_ok; defcost_ok = h.defcost_ok; defminflow_ok = h.defminflow_ok; defcapacity_ok = h.defcapacity_ok; defcontype_ok = h.defcontype_ok; source_ok = h.source_ok; sink_ok = h.sink_ok; supply_ok = h.supply_ok; demand_ok = h.demand_ok; arcout_ok = h.arcout_ok; nodeout_ok = h.nodeout_ok; conout_ok = h.conout_ok; dualout_ok = h.dualout_ok; sessionout_ok = h.sessionout_ok; certout_ok = h.certout_ok; maxit1_ok = h.maxit1_ok; maxit2_ok = h.maxit2_ok; pause1_ok = h.pause1_ok; pause2_ok = h.pause2_ok; queuesize1_ok = k; queuesize2_ok = h.queuesize2_ok }
with_ok p (setting.Count count.QueueSize2 n) h k = record { arcdata_ok = h.arcdata_ok; nodedata_ok = h.nodedata_ok; condata_ok = h.condata_ok; certdata_ok = h.certdata_ok; conin_ok = h.conin_ok; dualin_ok = h.dualin_ok; sessiondata_ok = h.sessiondata_ok; defcost_ok = h.defcost_ok; defminflow_ok = h.defminflow_ok; defcapacity_ok = h.defcapacity_ok; defcontype_ok = h.defcontype_ok; source_ok = h.source_ok; sink_ok = h.sink_ok; supply_ok = h.supply_ok; demand_ok = h.demand_ok; arcout_ok = h.arcout_ok; nodeout_ok = h.nodeout_ok; conout_ok = h.conout_ok; dualout_ok = h.dualout_ok; sessionout_ok = h.sessionout_ok; certout_ok = h.certout_ok; maxit1_ok = h.maxit1_ok; maxit2_ok = h.maxit2_ok; pause1_ok = h.pause1_ok; pause2_ok = h.pause2_ok; queuesize1_ok = h.queuesize1_ok; queuesize2_ok = k }
with_ok p (setting.Switch switch.FeasiblePause1 b) h k = record { arcdata_ok = h.arcdata_ok; nodedata_ok = h.nodedata_ok; condata_ok = h.condata_ok; certdata_ok = h.certdata_ok; conin_ok = h.conin_ok; dualin_ok = h.dualin_ok; sessiondata_ok = h.sessiondata_ok; defcost_ok = h.defcost_ok; defminflow_ok = h.defminflow_ok; defcapacity_ok = h.defcapacity_ok; defcontype_ok = h.defcontype_ok; source_ok = h.source_ok; sink_ok = h.sink_ok; supply_ok = h.supply_ok; demand_ok = h.demand_ok; arcout_ok = h.arcout_ok; nodeout_ok = h.nodeout_ok; conout_ok = h.conout_ok; dualout_ok = h.dualout_ok; sessionout_ok = h.sessionout_ok; certout_ok = h.certout_ok; maxit1_ok = h.maxit1_ok; maxit2_ok = h.maxit2_ok; pause1_ok = h.pause1_ok; pause2_ok = h.pause2_ok; queuesize1_ok = h.queuesize1_ok; queuesize2_ok = h.queuesize2_ok }
with_ok p (setting.Switch switch.FeasiblePause2 b) h k = record { arcdata_ok = h.arcdata_ok; nodedata_ok = h.nodedata_ok; condata_ok = h.condata_ok; certdata_ok = h.certdata_ok; conin_ok = h.conin_ok; dualin_ok = h.dualin_ok; sessiondata_ok = h.sessiondata_ok; defcost_ok = h.defcost_ok; defminflow_ok = h.defminflow_ok; defcapacity_ok = h.defcapacity_ok; defcontype_ok = h.defcontype_ok; source_ok = h.source_ok; sink_ok = h.sink_ok; supply_ok = h.supply_ok; demand_ok = h.demand_ok; arcout_ok = h.arcout_ok; nodeout_ok = h.nodeout_ok; conout_ok = h.conout_ok; dualout_ok = h.dualout_ok; sessionout_ok = h.sessionout_ok; certout_ok = h.certout_ok; maxit1_ok = h.maxit1_ok; maxit2_ok = h.maxit2_ok; pause1_ok = h.pause1_ok; pause2_ok = h.pause2_ok; queuesize1_ok = h.queuesize1_ok; queuesize2_ok = h.queuesize2_ok }
with_ok p (setting.Switch switch.EndPause1 b) h k = record { arcdata_ok = h.arcdata_ok; nodedata_ok = h.nodedata_ok; condata_ok = h.condata_ok; certdata_ok = h.certdata_ok; conin_ok = h.conin_ok; dualin_ok = h.dualin_ok; sessiondata_ok = h.sessiondata_ok; defcost_ok = h.defcost_ok; defminflow_ok = h.defminflow_ok; defcapacity_ok = h.defcapacity_ok; defcontype_ok = h.defcontype_ok; source_ok = h.source_ok; sink_ok = h.sink_ok; supply_ok = h.supply_ok; demand_ok = h.demand_ok; arcout_ok = h.arcout_ok; nodeout_ok = h.nodeout_ok; conout_ok = h.conout_ok; dualout_ok = h.dualout_ok; sessionout_ok = h.sessionout_ok; certout_ok = h.certout_ok; maxit1_ok = h.maxit1_ok; maxit2_ok = h.maxit2_ok; pause1_ok = h.pause1_ok; pause2_ok = h.pause2_ok; queuesize1_ok = h.queuesize1_ok; queuesize2_ok = h.queuesize2_ok }
with_ok p (setting.Switch switch.Future1 b) h k = record { arcdata_ok = h.arcdata_ok; nodedata_ok = h.nodedata_ok; condata_ok = h.condata_ok; certdata_ok = h.certdata_ok; conin_ok = h.conin_ok; dualin_ok = h.dualin_ok; sessiondata_ok = h.sessiondata_ok; defcost_ok = h.defcost_ok; defminflow_ok = h.defminflow_ok; defcapacity_ok = h.defcapacity_ok; defcontype_ok = h.defcontype_ok; source_ok = h.source_ok; sink_ok = h.sink_ok; supply_ok = h.supply_ok; demand_ok = h.demand_ok; arcout_ok = h.arcout_ok; nodeout_ok = h.nodeout_ok; conout_ok = h.conout_ok; dualout_ok = h.dualout_ok; sessionout_ok = h.sessionout_ok; certout_ok = h.certout_ok; maxit1_ok = h.maxit1_ok; maxit2_ok = h.maxit2_ok; pause1_ok = h.pause1_ok; pause2_ok = h.pause2_ok; queuesize1_ok = h.queuesize1_ok; queuesize2_ok = h.queuesize2_ok }
with_ok p (setting.Switch switch.Future2 b) h k = record { arcdata_ok = h.arcdata_ok; nodedata_ok = h.nodedata_ok; condata_ok = h.condata_ok; certdata_ok = h.certdata_ok; conin_ok = h.conin_ok; dualin_ok = h.dualin_ok; sessiondata_ok = h.sessiondata_ok; defcost_ok = h.defcost_ok; defminflow_ok = h.defminflow_ok; defcapacity_ok = h.defcapacity_ok; defcontype_ok = h.defcontype_ok; source_ok = h.source_ok; sink_ok = h.sink_ok; supply_ok = h.supply_ok; demand_ok = h.demand_ok; arcout_ok = h.arcout_ok; nodeout_ok = h.nodeout_ok; conout_ok = h.conout_ok; dualout_ok = h.dualout_ok; sessionout_ok = h.sessionout_ok; certout_ok = h.certout_ok; maxit1_ok = h.maxit1_ok; maxit2_ok = h.maxit2_ok; pause1_ok = h.pause1_ok; pause2_ok = h.pause2_ok; queuesize1_ok = h.queuesize1_ok; queuesize2_ok = h.queuesize2_ok }
with_ok p (setting.Rule rule.PriceType1 r) h k = record { arcdata_ok = h.arcdata_ok; nodedata_ok = h.nodedata_ok; condata_ok = h.condata_ok; certdata_ok = h.certdata_ok; conin_ok = h.conin_ok; dualin_ok = h.dualin_ok; sessiondata_ok = h.sessiondata_ok; defcost_ok = h.defcost_ok; defminflow_ok = h.defminflow_ok; defcapacity_ok = h.defcapacity_ok; defcontype_ok = h.defcontype_ok; source_ok = h.source_ok; sink_ok = h.sink_ok; supply_ok = h.supply_ok; demand_ok = h.demand_ok; arcout_ok = h.arcout_ok; nodeout_ok = h.nodeout_ok; conout_ok = h.conout_ok; dualout_ok = h.dualout_ok; sessionout_ok = h.sessionout_ok; certout_ok = h.certout_ok; maxit1_ok = h.maxit1_ok; maxit2_ok = h.maxit2_ok; pause1_ok = h.pause1_ok; pause2_ok = h.pause2_ok; queuesize1_ok = h.queuesize1_ok; queuesize2_ok = h.queuesize2_ok }
with_ok p (setting.Rule rule.PriceType2 r) h k = record { arcdata_ok = h.arcdata_ok; nodedata_ok = h.nodedata_ok; condata_ok = h.condata_ok; certdata_ok = h.certdata_ok; conin_ok = h.conin_ok; dualin_ok = h.dualin_ok; sessiondata_ok = h.sessiondata_ok; defcost_ok = h.defcost_ok; defminflow_ok = h.defminflow_ok; defcapacity_ok = h.defcapacity_ok; defcontype_ok = h.defcontype_ok; source_ok = h.source_ok; sink_ok = h.sink_ok; supply_ok = h.supply_ok; demand_ok = h.demand_ok; arcout_ok = h.arcout_ok; nodeout_ok = h.nodeout_ok; conout_ok = h.conout_ok; dualout_ok = h.dualout_ok; sessionout_ok = h.sessionout_ok; certout_ok = h.certout_ok; maxit1_ok = h.maxit1_ok; maxit2_ok = h.maxit2_ok; pause1_ok = h.pause1_ok; pause2_ok = h.pause2_ok; queuesize1_ok = h.queuesize1_ok; queuesize2_ok = h.queuesize2_ok }

made_ok : (ss : List Setting) (p : ProcOptions) → ProcOk p → SettingsOk ss → ProcOk (fold with_setting p ss)
made_ok [] p h k = h
made_ok (s ∷ ss) p h k = made_ok ss (with_setting p s) (with_ok p s h k.0) k.1

pub options_ok : (ss : List Setting) → SettingsOk ss → ProcOk (options_of ss)
unfolding options_of
options_ok ss k = made_ok ss no_options none_ok k

given_ok : {A : Type 0} (m : Option A) (f : A → Setting) (rest : List Setting) → Given f m → SettingsOk rest → SettingsOk (given f m ++ rest)
unfolding Given
given_ok None f rest h k = k
given_ok (Some a) f rest h k = (h, k)

flag_given_ok : (b : Bool) (o : FlagOption) (rest : List Setting) → SettingsOk rest → SettingsOk (flag_given o b ++ rest)
unfolding SettingOk
flag_given_ok false o rest k = k
flag_given_ok true o rest k = (tt, k)

switch_given_ok : (b : Bool) (o : SwitchOption) (rest : List Setting) → SettingsOk rest → SettingsOk (switch_given o b ++ rest)
unfolding SettingOk
switch_given_ok false o rest k = k
switch_given_ok true o rest k = (tt, k)

rule_given_ok : (r : PriceType) (o : RuleOption) (rest : List Setting) → SettingsOk rest → SettingsOk (rule_given o r ++ rest)
unfolding SettingOk
rule_given_ok price.First o rest k = k
rule_given_ok price.Best o rest k = (tt, k)
rule_given_ok price.Bland o rest k = (tt, k)
rule_given_ok price.Queue o rest k = (tt, k)

count_given_ok : (b : Bool) (n : ℕ) (o : CountOption) (rest : List Setting) → CountOk o n → SettingsOk rest → SettingsOk ((if b then [] else setting.Count o n ∷ []) ++ rest)
unfolding SettingOk
count_given_ok true n o rest h k = k
count_given_ok false n o rest h k = (h, k)

pub proc_settings_ok : (p : ProcOptions) → ProcOk p → SettingsOk (settings_of p)
unfolding all_settings
proc_settings_ok p h = subst SettingsOk (sym (flat p)) (
    given_ok p.arcdata (setting.Input input.Arcdata) (r0 p) h.arcdata_ok
    (given_ok p.nodedata (setting.Input input.Nodedata) (r1 p) h.nodedata_ok
    (given_ok p.condata (setting.Input input.Condata) (r2 p) h.condata_ok
    (given_ok p.certdata (setting.Input input.Certdata) (r3 p) h.certdata_ok
    (given_ok p.conin (setting.Input input.Conin) (r4 p) h.conin_ok
    (given_ok p.dualin (setting.Input input.Dualin) (r5 p) h.dualin_ok
    (given_ok p.sessiondata (setting.Input input.Sessiondata) (r6 p) h.sessiondata_ok
    (flag_given_ok p.sparsecondata flag.SparseConData (r7 p)
    (flag_given_ok p.thrunet flag.Thrunet (r8 p)
    (flag_given_ok p.maximize flag.Maximize (r9 p)
    (flag_given_ok p.warm flag.Warm (r10 p)
    (flag_given_ok p.maxflow flag.MaxFlow (r11 p)
    (flag_given_ok p.shortpath flag.ShortPath (r12 p)
    (given_ok p.defcost (setting.Amount amount.DefCost) (r13 p) h.defcost_ok
    (given_ok p.defminflow (setting.Amount amount.DefMinFlow) (r14 p) h.defminflow_ok
    (given_ok p.defcapacity setting.DefCapacity (r15 p) h.defcapacity_ok
    (given_ok p.defcontype setting.DefConType (r16 p) h.defcontype_ok
    (given_ok p.source (setting.Node node.Source) (r17 p) h.source_ok
    (given_ok p.sink (setting.Node node.Sink) (r18 p) h.sink_ok
    (given_ok p.supply (setting.Amount amount.Supply) (r19 p) h.supply_ok
    (given_ok p.demand (setting.Amount amount.Demand) (r20 p) h.demand_ok
    (given_ok p.arcout (setting.Output out.Arcout) (r21 p) h.arcout_ok
    (given_ok p.nodeout (setting.Output out.Nodeout) (r22 p) h.nodeout_ok
    (given_ok p.conout (setting.Output out.Conout) (r23 p) h.conout_ok
    (given_ok p.dualout (setting.Output out.Dualout) (r24 p) h.dualout_ok
    (given_ok p.sessionout (setting.Output out.Sessionout) (r25 p) h.sessionout_ok
    (given_ok p.certout (setting.Output out.Certout) (r26 p) h.certout_ok
    (count_given_ok (p.session.maxit1 == 1000000) p.session.maxit1 count.Maxit1 (r27 p) h.maxit1_ok
    (count_given_ok (p.session.maxit2 == 1000000) p.session.maxit2 count.Maxit2 (r28 p) h.maxit2_ok
    (count_given_ok (p.session.pause1 == 0) p.session.pause1 count.Pause1 (r29 p) h.pause1_ok
    (count_given_ok (p.session.pause2 == 0) p.session.pause2 count.Pause2 (r30 p) h.pause2_ok
    (switch_given_ok p.session.feasiblepause1 switch.FeasiblePause1 (r31 p)
    (switch_given_ok p.session.feasiblepause2 switch.FeasiblePause2 (r32 p)
    (switch_given_ok p.session.endpause1 switch.EndPause1 (r33 p)
    (switch_given_ok p.session.future1 switch.Future1 (r34 p)
    (switch_given_ok p.session.future2 switch.Future2 (r35 p)
    (rule_given_ok p.session.pricetype1 rule.PriceType1 (r36 p)
    (rule_given_ok p.session.pricetype2 rule.PriceType2 (r37 p)
    (count_given_ok (p.session.queuesize1 == 10) p.session.queuesize1 count.QueueSize1 (r38 p) h.queuesize1_ok
    (subst SettingsOk (append-nil (count_given count.QueueSize2 10 p.session.queuesize2)) (count_given_ok (p.session.queuesize2 == 10) p.session.queuesize2 count.QueueSize2 [] h.queuesize2_ok tt)))))))))))))))))))))))))))))))))))))))))
