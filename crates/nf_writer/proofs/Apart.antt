-- WARM and session options are apart in the canonical order if they were apart in the text.
use Rattle.std.proofs.Common.{◌≡◌, ℕ, ◌==◌, Bool, true, false, not, ◌&&◌, ◌||◌, List, [], ◌∷◌, ◌++◌, Option, Some, None, refl, sym, ap, ◌∙◌, if◌then◌else◌}
use Rattle.std.proofs.lemmas.List.{append-nil}
use Rattle.std.specs.List.{fold, list_any}
use Rattle.nf_program.specs.declared.program.ProcOptions.{ProcOptions}
use Rattle.nf_program.specs.declared.program.SessionOptions.{SessionOptions}
use Rattle.nf_program.specs.declared.program.OutOption.TheVariants as out
use Rattle.nf_program.specs.declared.program.PriceType.{PriceType}
use Rattle.nf_program.specs.declared.program.PriceType.TheVariants as price
use Rattle.nf_program.specs.declared.words.InputOption.TheVariants as input
use Rattle.nf_program.specs.declared.words.FlagOption.{FlagOption}
use Rattle.nf_program.specs.declared.words.FlagOption.TheVariants as flag
use Rattle.nf_program.specs.declared.words.AmountOption.TheVariants as amount
use Rattle.nf_program.specs.declared.words.NodeOption.TheVariants as node
use Rattle.nf_program.specs.declared.words.CountOption.{CountOption}
use Rattle.nf_program.specs.declared.words.CountOption.TheVariants as count
use Rattle.nf_program.specs.declared.words.SwitchOption.{SwitchOption}
use Rattle.nf_program.specs.declared.words.SwitchOption.TheVariants as switch
use Rattle.nf_program.specs.declared.words.RuleOption.{RuleOption}
use Rattle.nf_program.specs.declared.words.RuleOption.TheVariants as rule
use Rattle.nf_program.specs.declared.settings.Setting.{Setting}
use Rattle.nf_program.specs.declared.settings.Setting.TheVariants as setting
use Rattle.nf_program.specs.Settings.{is_session_setting, is_warm_setting, is_apart, with_setting, options_of, no_options, defaults}
use Rattle.nf_writer.specs.Canonical.{given, flag_given, count_given, switch_given, rule_given, settings_of}
use Rattle.nf_program.proofs.Things.{split_or}
use Rattle.nf_writer.proofs.Canon.{all_settings, flat, r0, r1, r2, r3, r4, r5, r6, r7, r8, r9, r10, r11, r12, r13, r14, r15, r16, r17, r18, r19, r20, r21, r22, r23, r24, r25, r26, r27, r28, r29, r30, r31, r32, r33, r34, r35, r36, r37, r38}

-- ---- passing over options

any_given : {A : Type 0} (q : Setting → Bool) (m : Option A) (f : A → Setting) (rest : List Setting) → ((a : A) → q (f a) ≡ false) → list_any q (given f m ++ rest) ≡ list_any q rest
any_given q None f rest h = refl
any_given q (Some a) f rest h = ap (λ (b : Bool). b || list_any q rest) (h a)

any_flag : (q : Setting → Bool) (b : Bool) (o : FlagOption) (rest : List Setting) → q (setting.Flag o) ≡ false → list_any q (flag_given o b ++ rest) ≡ list_any q rest
any_flag q false o rest h = refl
any_flag q true o rest h = ap (λ (b : Bool). b || list_any q rest) h

any_switch : (q : Setting → Bool) (b : Bool) (o : SwitchOption) (rest : List Setting) → q (setting.Switch o true) ≡ false → list_any q (switch_given o b ++ rest) ≡ list_any q rest
any_switch q false o rest h = refl
any_switch q true o rest h = ap (λ (b : Bool). b || list_any q rest) h

any_rule : (q : Setting → Bool) (r : PriceType) (o : RuleOption) (rest : List Setting) → ((r : PriceType) → q (setting.Rule o r) ≡ false) → list_any q (rule_given o r ++ rest) ≡ list_any q rest
any_rule q price.First o rest h = refl
any_rule q price.Best o rest h = ap (λ (b : Bool). b || list_any q rest) (h price.Best)
any_rule q price.Bland o rest h = ap (λ (b : Bool). b || list_any q rest) (h price.Bland)
any_rule q price.Queue o rest h = ap (λ (b : Bool). b || list_any q rest) (h price.Queue)

any_count : (q : Setting → Bool) (b : Bool) (n : ℕ) (o : CountOption) (rest : List Setting) → q (setting.Count o n) ≡ false → list_any q ((if b then [] else setting.Count o n ∷ []) ++ rest) ≡ list_any q rest
any_count q true n o rest h = refl
any_count q false n o rest h = ap (λ (b : Bool). b || list_any q rest) h

warm_flag : (b : Bool) (rest : List Setting) → list_any is_warm_setting rest ≡ false → list_any is_warm_setting (flag_given flag.Warm b ++ rest) ≡ b
warm_flag false rest h = h
warm_flag true rest h = refl

module _ (p : ProcOptions) where
  not_warm : list_any is_warm_setting (r10 p) ≡ false
  not_warm =
      any_flag is_warm_setting p.maxflow flag.MaxFlow (r11 p) refl
      ∙ any_flag is_warm_setting p.shortpath flag.ShortPath (r12 p) refl
      ∙ any_given is_warm_setting p.defcost (setting.Amount amount.DefCost) (r13 p) (λ a. refl)
      ∙ any_given is_warm_setting p.defminflow (setting.Amount amount.DefMinFlow) (r14 p) (λ a. refl)
      ∙ any_given is_warm_setting p.defcapacity setting.DefCapacity (r15 p) (λ a. refl)
      ∙ any_given is_warm_setting p.defcontype setting.DefConType (r16 p) (λ a. refl)
      ∙ any_given is_warm_setting p.source (setting.Node node.Source) (r17 p) (λ a. refl)
      ∙ any_given is_warm_setting p.sink (setting.Node node.Sink) (r18 p) (λ a. refl)
      ∙ any_given is_warm_setting p.supply (setting.Amount amount.Supply) (r19 p) (λ a. refl)
      ∙ any_given is_warm_setting p.demand (setting.Amount amount.Demand) (r20 p) (λ a. refl)
      ∙ any_given is_warm_setting p.arcout (setting.Output out.Arcout) (r21 p) (λ a. refl)
      ∙ any_given is_warm_setting p.nodeout (setting.Output out.Nodeout) (r22 p) (λ a. refl)
      ∙ any_given is_warm_setting p.conout (setting.Output out.Conout) (r23 p) (λ a. refl)
      ∙ any_given is_warm_setting p.dualout (setting.Output out.Dualout) (r24 p) (λ a. refl)
      ∙ any_given is_warm_setting p.sessionout (setting.Output out.Sessionout) (r25 p) (λ a. refl)
      ∙ any_given is_warm_setting p.certout (setting.Output out.Certout) (r26 p) (λ a. refl)
      ∙ any_count is_warm_setting (p.session.maxit1 == 1000000) p.session.maxit1 count.Maxit1 (r27 p) refl
      ∙ any_count is_warm_setting (p.session.maxit2 == 1000000) p.session.maxit2 count.Maxit2 (r28 p) refl
      ∙ any_count is_warm_setting (p.session.pause1 == 0) p.session.pause1 count.Pause1 (r29 p) refl
      ∙ any_count is_warm_setting (p.session.pause2 == 0) p.session.pause2 count.Pause2 (r30 p) refl
      ∙ any_switch is_warm_setting p.session.feasiblepause1 switch.FeasiblePause1 (r31 p) refl
      ∙ any_switch is_warm_setting p.session.feasiblepause2 switch.FeasiblePause2 (r32 p) refl
      ∙ any_switch is_warm_setting p.session.endpause1 switch.EndPause1 (r33 p) refl
      ∙ any_switch is_warm_setting p.session.future1 switch.Future1 (r34 p) refl
      ∙ any_switch is_warm_setting p.session.future2 switch.Future2 (r35 p) refl
      ∙ any_rule is_warm_setting p.session.pricetype1 rule.PriceType1 (r36 p) (λ r. refl)
      ∙ any_rule is_warm_setting p.session.pricetype2 rule.PriceType2 (r37 p) (λ r. refl)
      ∙ any_count is_warm_setting (p.session.queuesize1 == 10) p.session.queuesize1 count.QueueSize1 (r38 p) refl
      ∙ ap (list_any is_warm_setting) (sym (append-nil (count_given count.QueueSize2 10 p.session.queuesize2))) ∙ any_count is_warm_setting (p.session.queuesize2 == 10) p.session.queuesize2 count.QueueSize2 [] refl

  pub any_warm : list_any is_warm_setting (all_settings p) ≡ p.warm
  unfolding all_settings
  any_warm =
      any_given is_warm_setting p.arcdata (setting.Input input.Arcdata) (r0 p) (λ a. refl)
      ∙ any_given is_warm_setting p.nodedata (setting.Input input.Nodedata) (r1 p) (λ a. refl)
      ∙ any_given is_warm_setting p.condata (setting.Input input.Condata) (r2 p) (λ a. refl)
      ∙ any_given is_warm_setting p.certdata (setting.Input input.Certdata) (r3 p) (λ a. refl)
      ∙ any_given is_warm_setting p.conin (setting.Input input.Conin) (r4 p) (λ a. refl)
      ∙ any_given is_warm_setting p.dualin (setting.Input input.Dualin) (r5 p) (λ a. refl)
      ∙ any_given is_warm_setting p.sessiondata (setting.Input input.Sessiondata) (r6 p) (λ a. refl)
      ∙ any_flag is_warm_setting p.sparsecondata flag.SparseConData (r7 p) refl
      ∙ any_flag is_warm_setting p.thrunet flag.Thrunet (r8 p) refl
      ∙ any_flag is_warm_setting p.maximize flag.Maximize (r9 p) refl
      ∙ warm_flag p.warm (r10 p) not_warm

  pub no_session : p.session ≡ defaults → list_any is_session_setting (all_settings p) ≡ false
  unfolding all_settings
  no_session e =
      any_given is_session_setting p.arcdata (setting.Input input.Arcdata) (r0 p) (λ a. refl)
      ∙ any_given is_session_setting p.nodedata (setting.Input input.Nodedata) (r1 p) (λ a. refl)
      ∙ any_given is_session_setting p.condata (setting.Input input.Condata) (r2 p) (λ a. refl)
      ∙ any_given is_session_setting p.certdata (setting.Input input.Certdata) (r3 p) (λ a. refl)
      ∙ any_given is_session_setting p.conin (setting.Input input.Conin) (r4 p) (λ a. refl)
      ∙ any_given is_session_setting p.dualin (setting.Input input.Dualin) (r5 p) (λ a. refl)
      ∙ any_given is_session_setting p.sessiondata (setting.Input input.Sessiondata) (r6 p) (λ a. refl)
      ∙ any_flag is_session_setting p.sparsecondata flag.SparseConData (r7 p) refl
      ∙ any_flag is_session_setting p.thrunet flag.Thrunet (r8 p) refl
      ∙ any_flag is_session_setting p.maximize flag.Maximize (r9 p) refl
      ∙ any_flag is_session_setting p.warm flag.Warm (r10 p) refl
      ∙ any_flag is_session_setting p.maxflow flag.MaxFlow (r11 p) refl
      ∙ any_flag is_session_setting p.shortpath flag.ShortPath (r12 p) refl
      ∙ any_given is_session_setting p.defcost (setting.Amount amount.DefCost) (r13 p) (λ a. refl)
      ∙ any_given is_session_setting p.defminflow (setting.Amount amount.DefMinFlow) (r14 p) (λ a. refl)
      ∙ any_given is_session_setting p.defcapacity setting.DefCapacity (r15 p) (λ a. refl)
      ∙ any_given is_session_setting p.defcontype setting.DefConType (r16 p) (λ a. refl)
      ∙ any_given is_session_setting p.source (setting.Node node.Source) (r17 p) (λ a. refl)
      ∙ any_given is_session_setting p.sink (setting.Node node.Sink) (r18 p) (λ a. refl)
      ∙ any_given is_session_setting p.supply (setting.Amount amount.Supply) (r19 p) (λ a. refl)
      ∙ any_given is_session_setting p.demand (setting.Amount amount.Demand) (r20 p) (λ a. refl)
      ∙ any_given is_session_setting p.arcout (setting.Output out.Arcout) (r21 p) (λ a. refl)
      ∙ any_given is_session_setting p.nodeout (setting.Output out.Nodeout) (r22 p) (λ a. refl)
      ∙ any_given is_session_setting p.conout (setting.Output out.Conout) (r23 p) (λ a. refl)
      ∙ any_given is_session_setting p.dualout (setting.Output out.Dualout) (r24 p) (λ a. refl)
      ∙ any_given is_session_setting p.sessionout (setting.Output out.Sessionout) (r25 p) (λ a. refl)
      ∙ any_given is_session_setting p.certout (setting.Output out.Certout) (r26 p) (λ a. refl)
      ∙ ap (λ (s : SessionOptions). list_any is_session_setting (count_given count.Maxit1 1000000 s.maxit1 ++ (count_given count.Maxit2 1000000 s.maxit2 ++ (count_given count.Pause1 0 s.pause1 ++ (count_given count.Pause2 0 s.pause2 ++ (switch_given switch.FeasiblePause1 s.feasiblepause1 ++ (switch_given switch.FeasiblePause2 s.feasiblepause2 ++ (switch_given switch.EndPause1 s.endpause1 ++ (switch_given switch.Future1 s.future1 ++ (switch_given switch.Future2 s.future2 ++ (rule_given rule.PriceType1 s.pricetype1 ++ (rule_given rule.PriceType2 s.pricetype2 ++ (count_given count.QueueSize1 10 s.queuesize1 ++ (count_given count.QueueSize2 10 s.queuesize2)))))))))))))) e

-- ---- what the options of a text make of PROC

or_right : (a b c : Bool) → b ≡ c → (a || b) ≡ (a || c)
or_right a b c e = ap (λ (x : Bool). a || x) e

or_assoc : (a b c : Bool) → ((a || b) || c) ≡ (a || (b || c))
or_assoc true b c = refl
or_assoc false b c = refl

or_nothing : (a : Bool) → a ≡ (a || false)
or_nothing true = refl
or_nothing false = refl

warm_step : (o : ProcOptions) (s : Setting) → (with_setting o s).warm ≡ (o.warm || is_warm_setting s)
warm_step o (setting.Input input.Arcdata n) = or_nothing o.warm
warm_step o (setting.Input input.Nodedata n) = or_nothing o.warm
warm_step o (setting.Input input.Condata n) = or_nothing o.warm
warm_step o (setting.Input input.Certdata n) = or_nothing o.warm
warm_step o (setting.Input input.Conin n) = or_nothing o.warm
warm_step o (setting.Input input.Dualin n) = or_nothing o.warm
warm_step o (setting.Input input.Sessiondata n) = or_nothing o.warm
warm_step o (setting.Flag flag.SparseConData) = or_nothing o.warm
warm_step o (setting.Flag flag.Thrunet) = or_nothing o.warm
warm_step o (setting.Flag flag.Maximize) = or_nothing o.warm
warm_step o (setting.Flag flag.MaxFlow) = or_nothing o.warm
warm_step o (setting.Flag flag.ShortPath) = or_nothing o.warm
warm_step o (setting.Amount amount.DefCost a) = or_nothing o.warm
warm_step o (setting.Amount amount.DefMinFlow a) = or_nothing o.warm
warm_step o (setting.Amount amount.Supply a) = or_nothing o.warm
warm_step o (setting.Amount amount.Demand a) = or_nothing o.warm
warm_step o (setting.DefCapacity b) = or_nothing o.warm
warm_step o (setting.DefConType t) = or_nothing o.warm
warm_step o (setting.Node node.Source n) = or_nothing o.warm
warm_step o (setting.Node node.Sink n) = or_nothing o.warm
warm_step o (setting.Output out.Arcout n) = or_nothing o.warm
warm_step o (setting.Output out.Nodeout n) = or_nothing o.warm
warm_step o (setting.Output out.Conout n) = or_nothing o.warm
warm_step o (setting.Output out.Dualout n) = or_nothing o.warm
warm_step o (setting.Output out.Sessionout n) = or_nothing o.warm
warm_step o (setting.Output out.Certout n) = or_nothing o.warm
warm_step o (setting.Count count.Maxit1 n) = or_nothing o.warm
warm_step o (setting.Count count.Maxit2 n) = or_nothing o.warm
warm_step o (setting.Count count.Pause1 n) = or_nothing o.warm
warm_step o (setting.Count count.Pause2 n) = or_nothing o.warm
warm_step o (setting.Count count.QueueSize1 n) = or_nothing o.warm
warm_step o (setting.Count count.QueueSize2 n) = or_nothing o.warm
warm_step o (setting.Switch switch.FeasiblePause1 b) = or_nothing o.warm
warm_step o (setting.Switch switch.FeasiblePause2 b) = or_nothing o.warm
warm_step o (setting.Switch switch.EndPause1 b) = or_nothing o.warm
warm_step o (setting.Switch switch.Future1 b) = or_nothing o.warm
warm_step o (setting.Switch switch.Future2 b) = or_nothing o.warm
warm_step o (setting.Rule rule.PriceType1 r) = or_nothing o.warm
warm_step o (setting.Rule rule.PriceType2 r) = or_nothing o.warm
warm_step o (setting.Flag flag.Warm) = or_true o.warm where
  or_true : (a : Bool) → true ≡ (a || true)
  or_true true = refl
  or_true false = refl

pub warm_made : (ss : List Setting) (o : ProcOptions) → (fold with_setting o ss).warm ≡ (o.warm || list_any is_warm_setting ss)
warm_made [] o = or_nothing o.warm
warm_made (s ∷ ss) o = warm_made ss (with_setting o s) ∙ ap (λ (b : Bool). b || list_any is_warm_setting ss) (warm_step o s) ∙ or_assoc o.warm (is_warm_setting s) (list_any is_warm_setting ss)

session_step : (o : ProcOptions) (s : Setting) → is_session_setting s ≡ false → (with_setting o s).session ≡ o.session
session_step o (setting.Input input.Arcdata n) e = refl
session_step o (setting.Input input.Nodedata n) e = refl
session_step o (setting.Input input.Condata n) e = refl
session_step o (setting.Input input.Certdata n) e = refl
session_step o (setting.Input input.Conin n) e = refl
session_step o (setting.Input input.Dualin n) e = refl
session_step o (setting.Input input.Sessiondata n) e = refl
session_step o (setting.Flag flag.SparseConData) e = refl
session_step o (setting.Flag flag.Thrunet) e = refl
session_step o (setting.Flag flag.Maximize) e = refl
session_step o (setting.Amount amount.DefCost a) e = refl
session_step o (setting.Amount amount.DefMinFlow a) e = refl
session_step o (setting.Amount amount.Supply a) e = refl
session_step o (setting.Amount amount.Demand a) e = refl
session_step o (setting.DefCapacity b) e = refl
session_step o (setting.DefConType t) e = refl
session_step o (setting.Node node.Source n) e = refl
session_step o (setting.Node node.Sink n) e = refl
session_step o (setting.Output out.Arcout n) e = refl
session_step o (setting.Output out.Nodeout n) e = refl
session_step o (setting.Output out.Conout n) e = refl
session_step o (setting.Output out.Dualout n) e = refl
session_step o (setting.Output out.Sessionout n) e = refl
session_step o (setting.Output out.Certout n) e = refl
session_step o (setting.Flag flag.Warm) e = refl
session_step o (setting.Flag flag.MaxFlow) e = refl
session_step o (setting.Flag flag.ShortPath) e = refl
session_step o (setting.Count c n) e = absurd cc
session_step o (setting.Switch c b) e = absurd cc
session_step o (setting.Rule c r) e = absurd cc

pub session_made : (ss : List Setting) (o : ProcOptions) → list_any is_session_setting ss ≡ false → (fold with_setting o ss).session ≡ o.session
session_made [] o e = refl
session_made (s ∷ ss) o e = let two = split_or (is_session_setting s) (list_any is_session_setting ss) e in session_made ss (with_setting o s) two.1 ∙ session_step o s two.0

apart_of : (a b : Bool) → (a ≡ true → b ≡ false) → not (a && b) ≡ true
apart_of true b h = ap not (h refl)
apart_of false b h = refl

session_none : (w s : Bool) → w ≡ true → not (w && s) ≡ true → s ≡ false
session_none true true e h = absurd cc
session_none true false e h = refl
session_none false s e h = absurd cc

-- what was apart is apart in the canonical order
pub settings_apart : (p : ProcOptions) (ss : List Setting) → p ≡ options_of ss → is_apart ss ≡ true → is_apart (settings_of p) ≡ true
unfolding options_of
settings_apart p ss made apart =
    apart_of (list_any is_warm_setting (settings_of p)) (list_any is_session_setting (settings_of p))
    (λ w.
    let warm : p.warm ≡ true = sym (any_warm p) ∙ sym (ap (list_any is_warm_setting) (flat p)) ∙ w in
    let had : list_any is_warm_setting ss ≡ true = sym (warm_made ss no_options) ∙ ap (λ (x : ProcOptions). x.warm) (sym made) ∙ warm in
    let none = session_none (list_any is_warm_setting ss) (list_any is_session_setting ss) had apart in
    let plain : p.session ≡ defaults = ap (λ (x : ProcOptions). x.session) made ∙ session_made ss no_options none in
    ap (list_any is_session_setting) (flat p) ∙ no_session p plain)
