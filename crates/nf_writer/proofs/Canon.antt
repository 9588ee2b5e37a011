-- The options of PROC in the order of the canonical text: they make PROC's options again, each stands once, and WARM
-- and session options are apart where they were.
use Rattle.std.proofs.Common.{◌≡◌, ℕ, suc, ◌≤◌, ◌<◌, ◌==◌, Bool, true, false, nat_eq, List, [], ◌∷◌, ◌++◌, map, Option, Some, None, refl, sym, ap, ◌∙◌, subst, arith, append_assoc, ◌⊎◌, inl, inr, if◌then◌else◌}
use Rattle.std.proofs.lemmas.List.{append-nil}
use Rattle.std.proofs.lemmas.Bool.{eqb-true, false_from_ne_true}
use Rattle.std.specs.List.{AllByRecursion, fold}
use Rattle.nf_program.specs.declared.program.ProcOptions.{ProcOptions}
use Rattle.nf_program.specs.declared.program.SessionOptions.{SessionOptions}
use Rattle.nf_program.specs.declared.program.OutOption.TheVariants as out
use Rattle.nf_program.specs.declared.program.PriceType.{PriceType}
use Rattle.nf_program.specs.declared.program.PriceType.TheVariants as price
use Rattle.nf_program.specs.declared.words.InputOption.TheVariants as input
use Rattle.nf_program.specs.declared.words.FlagOption.{FlagOption}
use Rattle.nf_program.specs.declared.words.FlagOption.TheVariants as flag
use Rattle.nf_program.specs.declared.words.AmountOption.TheVariants as amount
use Rattle.nf_program.specs.declared.words.NodeOption.TheVariants as node
use Rattle.nf_program.specs.declared.words.CountOption.{CountOption}
use Rattle.nf_program.specs.declared.words.CountOption.TheVariants as count
use Rattle.nf_program.specs.declared.words.SwitchOption.{SwitchOption}
use Rattle.nf_program.specs.declared.words.SwitchOption.TheVariants as switch
use Rattle.nf_program.specs.declared.words.RuleOption.{RuleOption}
use Rattle.nf_program.specs.declared.words.RuleOption.TheVariants as rule
use Rattle.nf_program.specs.declared.settings.Setting.{Setting}
use Rattle.nf_program.specs.declared.settings.Setting.TheVariants as setting
use Rattle.nf_program.specs.Settings.{key_of, count_key, switch_key, rule_key, flag_key, with_setting, with_flag, options_of, no_options, defaults}
use Rattle.nf_program.specs.Programs.{AreDistinct}
use Rattle.nf_writer.specs.Canonical.{given, flag_given, count_given, switch_given, rule_given, inputs_of, flags_of, others_of, outputs_of, counts_of, switches_of, rules_of, sizes_of, settings_of}

-- ---- the options one after the other

module _ (p : ProcOptions) where
  unfoldable pub all_settings : List Setting
  all_settings =
      given (setting.Input input.Arcdata) p.arcdata
      ++ (given (setting.Input input.Nodedata) p.nodedata
      ++ (given (setting.Input input.Condata) p.condata
      ++ (given (setting.Input input.Certdata) p.certdata
      ++ (given (setting.Input input.Conin) p.conin
      ++ (given (setting.Input input.Dualin) p.dualin
      ++ (given (setting.Input input.Sessiondata) p.sessiondata
      ++ (flag_given flag.SparseConData p.sparsecondata
      ++ (flag_given flag.Thrunet p.thrunet
      ++ (flag_given flag.Maximize p.maximize
      ++ (flag_given flag.Warm p.warm
      ++ (flag_given flag.MaxFlow p.maxflow
      ++ (flag_given flag.ShortPath p.shortpath
      ++ (given (setting.Amount amount.DefCost) p.defcost
      ++ (given (setting.Amount amount.DefMinFlow) p.defminflow
      ++ (given setting.DefCapacity p.defcapacity
      ++ (given setting.DefConType p.defcontype
      ++ (given (setting.Node node.Source) p.source
      ++ (given (setting.Node node.Sink) p.sink
      ++ (given (setting.Amount amount.Supply) p.supply
      ++ (given (setting.Amount amount.Demand) p.demand
      ++ (given (setting.Output out.Arcout) p.arcout
      ++ (given (setting.Output out.Nodeout) p.nodeout
      ++ (given (setting.Output out.Conout) p.conout
      ++ (given (setting.Output out.Dualout) p.dualout
      ++ (given (setting.Output out.Sessionout) p.sessionout
      ++ (given (setting.Output out.Certout) p.certout
      ++ (count_given count.Maxit1 1000000 p.session.maxit1
      ++ (count_given count.Maxit2 1000000 p.session.maxit2
      ++ (count_given count.Pause1 0 p.session.pause1
      ++ (count_given count.Pause2 0 p.session.pause2
      ++ (switch_given switch.FeasiblePause1 p.session.feasiblepause1
      ++ (switch_given switch.FeasiblePause2 p.session.feasiblepause2
      ++ (switch_given switch.EndPause1 p.session.endpause1
      ++ (switch_given switch.Future1 p.session.future1
      ++ (switch_given switch.Future2 p.session.future2
      ++ (rule_given rule.PriceType1 p.session.pricetype1
      ++ (rule_given rule.PriceType2 p.session.pricetype2
      ++ (count_given count.QueueSize1 10 p.session.queuesize1
      ++ count_given count.QueueSize2 10 p.session.queuesize2))))))))))))))))))))))))))))))))))))))

  -- the groups are these options
  pub flat : settings_of p ≡ all_settings
  unfolding all_settings settings_of inputs_of flags_of others_of outputs_of counts_of switches_of rules_of sizes_of
  flat = simp append_assoc

-- ---- what they make

given_fold : {A : Type 0} (m : Option A) (f : A → Setting) (rest : List Setting) (set : Option A → ProcOptions) → ((a : A) → with_setting (set None) (f a) ≡ set (Some a)) → fold with_setting (set None) (given f m ++ rest) ≡ fold with_setting (set m) rest
given_fold None f rest set h = refl
given_fold (Some a) f rest set h = ap (λ (o : ProcOptions). fold with_setting o rest) (h a)

flag_fold : (b : Bool) (o : FlagOption) (rest : List Setting) (set : Bool → ProcOptions) → with_flag o (set false) ≡ set true → fold with_setting (set false) (flag_given o b ++ rest) ≡ fold with_setting (set b) rest
flag_fold false o rest set h = refl
flag_fold true o rest set h = ap (λ (x : ProcOptions). fold with_setting x rest) h

switch_fold : (b : Bool) (o : SwitchOption) (rest : List Setting) (set : Bool → ProcOptions) → with_setting (set false) (setting.Switch o true) ≡ set true → fold with_setting (set false) (switch_given o b ++ rest) ≡ fold with_setting (set b) rest
switch_fold false o rest set h = refl
switch_fold true o rest set h = ap (λ (x : ProcOptions). fold with_setting x rest) h

rule_fold : (r : PriceType) (o : RuleOption) (rest : List Setting) (set : PriceType → ProcOptions) → ((r : PriceType) → with_setting (set price.First) (setting.Rule o r) ≡ set r) → fold with_setting (set price.First) (rule_given o r ++ rest) ≡ fold with_setting (set r) rest
rule_fold price.First o rest set h = refl
rule_fold price.Best o rest set h = ap (λ (x : ProcOptions). fold with_setting x rest) (h price.Best)
rule_fold price.Bland o rest set h = ap (λ (x : ProcOptions). fold with_setting x rest) (h price.Bland)
rule_fold price.Queue o rest set h = ap (λ (x : ProcOptions). fold with_setting x rest) (h price.Queue)

count_by : (b : Bool) (n default : ℕ) (o : CountOption) (rest : List Setting) (set : ℕ → ProcOptions) → (n == default) ≡ b → with_setting (set default) (setting.Count o n) ≡ set n → fold with_setting (set default) ((if b then [] else setting.Count o n ∷ []) ++ rest) ≡ fold with_setting (set n) rest
count_by true n default o rest set e h = ap (λ (k : ℕ). fold with_setting (set k) rest) (sym (eqb-true n default e))
count_by false n default o rest set e h = ap (λ (x : ProcOptions). fold with_setting x rest) h

count_fold : (n default : ℕ) (o : CountOption) (rest : List Setting) (set : ℕ → ProcOptions) → with_setting (set default) (setting.Count o n) ≡ set n → fold with_setting (set default) (count_given o default n ++ rest) ≡ fold with_setting (set n) rest
count_fold n default o rest set h = count_by (n == default) n default o rest set refl h

module _ (p : ProcOptions) where
  abbrev o0 : ProcOptions
  o0 = record no_options { arcdata = p.arcdata }

  abbrev o1 : ProcOptions
  o1 = record o0 { nodedata = p.nodedata }

  abbrev o2 : ProcOptions
  o2 = record o1 { condata = p.condata }

  abbrev o3 : ProcOptions
  o3 = record o2 { certdata = p.certdata }

  abbrev o4 : ProcOptions
  o4 = record o3 { conin = p.conin }

  abbrev o5 : ProcOptions
  o5 = record o4 { dualin = p.dualin }

  abbrev o6 : ProcOptions
  o6 = record o5 { sessiondata = p.sessiondata }

  abbrev o7 : ProcOptions
  o7 = record o6 { sparsecondata = p.sparsecondata }

  abbrev o8 : ProcOptions
  o8 = record o7 { thrunet = p.thrunet }

  abbrev o9 : ProcOptions
  o9 = record o8 { maximize = p.maximize }

  abbrev o10 : ProcOptions
  o10 = record o9 { warm = p.warm }

  abbrev o11 : ProcOptions
  o11 = record o10 { maxflow = p.maxflow }

  abbrev o12 : ProcOptions
  o12 = record o11 { shortpath = p.shortpath }

  abbrev o13 : ProcOptions
  o13 = record o12 { defcost = p.defcost }

  abbrev o14 : ProcOptions
  o14 = record o13 { defminflow = p.defminflow }

  abbrev o15 : ProcOptions
  o15 = record o14 { defcapacity = p.defcapacity }

  abbrev o16 : ProcOptions
  o16 = record o15 { defcontype = p.defcontype }

  abbrev o17 : ProcOptions
  o17 = record o16 { source = p.source }

  abbrev o18 : ProcOptions
  o18 = record o17 { sink = p.sink }

  abbrev o19 : ProcOptions
  o19 = record o18 { supply = p.supply }

  abbrev o20 : ProcOptions
  o20 = record o19 { demand = p.demand }

  abbrev o21 : ProcOptions
  o21 = record o20 { arcout = p.arcout }

  abbrev o22 : ProcOptions
  o22 = record o21 { nodeout = p.nodeout }

  abbrev o23 : ProcOptions
  o23 = record o22 { conout = p.conout }

  abbrev o24 : ProcOptions
  o24 = record o23 { dualout = p.dualout }

  abbrev o25 : ProcOptions
  o25 = record o24 { sessionout = p.sessionout }

  abbrev o26 : ProcOptions
  o26 = record o25 { certout = p.certout }

  abbrev s27 : SessionOptions
  s27 = record defaults { maxit1 = p.session.maxit1 }

  abbrev o27 : ProcOptions
  o27 = record o26 { session = s27 }

  abbrev s28 : SessionOptions
  s28 = record s27 { maxit2 = p.session.maxit2 }

  abbrev o28 : ProcOptions
  o28 = record o27 { session = s28 }

  abbrev s29 : SessionOptions
  s29 = record s28 { pause1 = p.session.pause1 }

  abbrev o29 : ProcOptions
  o29 = record o28 { session = s29 }

  abbrev s30 : SessionOptions
  s30 = record s29 { pause2 = p.session.pause2 }

  abbrev o30 : ProcOptions
  o30 = record o29 { session = s30 }

  abbrev s31 : SessionOptions
  s31 = record s30 { feasiblepause1 = p.session.feasiblepause1 }

  abbrev o31 : ProcOptions
  o31 = record o30 { session = s31 }

  abbrev s32 : SessionOptions
  s32 = record s31 { feasiblepause2 = p.session.feasiblepause2 }

  abbrev o32 : ProcOptions
  o32 = record o31 { session = s32 }

  abbrev s33 : SessionOptions
  s33 = record s32 { endpause1 = p.session.endpause1 }

  abbrev o33 : ProcOptions
  o33 = record o32 { session = s33 }

  abbrev s34 : SessionOptions
  s34 = record s33 { future1 = p.session.future1 }

  abbrev o34 : ProcOptions
  o34 = record o33 { session = s34 }

  abbrev s35 : SessionOptions
  s35 = record s34 { future2 = p.session.future2 }

  abbrev o35 : ProcOptions
  o35 = record o34 { session = s35 }

  abbrev s36 : SessionOptions
  s36 = record s35 { pricetype1 = p.session.pricetype1 }

  abbrev o36 : ProcOptions
  o36 = record o35 { session = s36 }

  abbrev s37 : SessionOptions
  s37 = record s36 { pricetype2 = p.session.pricetype2 }

  abbrev o37 : ProcOptions
  o37 = record o36 { session = s37 }

  abbrev s38 : SessionOptions
  s38 = record s37 { queuesize1 = p.session.queuesize1 }

  abbrev o38 : ProcOptions
  o38 = record o37 { session = s38 }

  abbrev pub r38 : List Setting
  r38 = count_given count.QueueSize2 10 p.session.queuesize2

  abbrev pub r37 : List Setting
  r37 = count_given count.QueueSize1 10 p.session.queuesize1 ++ r38

  abbrev pub r36 : List Setting
  r36 = rule_given rule.PriceType2 p.session.pricetype2 ++ r37

  abbrev pub r35 : List Setting
  r35 = rule_given rule.PriceType1 p.session.pricetype1 ++ r36

  abbrev pub r34 : List Setting
  r34 = switch_given switch.Future2 p.session.future2 ++ r35

  abbrev pub r33 : List Setting
  r33 = switch_given switch.Future1 p.session.future1 ++ r34

  abbrev pub r32 : List Setting
  r32 = switch_given switch.EndPause1 p.session.endpause1 ++ r33

  abbrev pub r31 : List Setting
  r31 = switch_given switch.FeasiblePause2 p.session.feasiblepause2 ++ r32

  abbrev pub r30 : List Setting
  r30 = switch_given switch.FeasiblePause1 p.session.feasiblepause1 ++ r31

  abbrev pub r29 : List Setting
  r29 = count_given count.Pause2 0 p.session.pause2 ++ r30

  abbrev pub r28 : List Setting
  r28 = count_given count.Pause1 0 p.session.pause1 ++ r29

  abbrev pub r27 : List Setting
  r27 = count_given count.Maxit2 1000000 p.session.maxit2 ++ r28

  abbrev pub r26 : List Setting
  r26 = count_given count.Maxit1 1000000 p.session.maxit1 ++ r27

  abbrev pub r25 : List Setting
  r25 = given (setting.Output out.Certout) p.certout ++ r26

  abbrev pub r24 : List Setting
  r24 = given (setting.Output out.Sessionout) p.sessionout ++ r25

  abbrev pub r23 : List Setting
  r23 = given (setting.Output out.Dualout) p.dualout ++ r24

  abbrev pub r22 : List Setting
  r22 = given (setting.Output out.Conout) p.conout ++ r23

  abbrev pub r21 : List Setting
  r21 = given (setting.Output out.Nodeout) p.nodeout ++ r22

  abbrev pub r20 : List Setting
  r20 = given (setting.Output out.Arcout) p.arcout ++ r21

  abbrev pub r19 : List Setting
  r19 = given (setting.Amount amount.Demand) p.demand ++ r20

  abbrev pub r18 : List Setting
  r18 = given (setting.Amount amount.Supply) p.supply ++ r19

  abbrev pub r17 : List Setting
  r17 = given (setting.Node node.Sink) p.sink ++ r18

  abbrev pub r16 : List Setting
  r16 = given (setting.Node node.Source) p.source ++ r17

  abbrev pub r15 : List Setting
  r15 = given setting.DefConType p.defcontype ++ r16

  abbrev pub r14 : List Setting
  r14 = given setting.DefCapacity p.defcapacity ++ r15

  abbrev pub r13 : List Setting
  r13 = given (setting.Amount amount.DefMinFlow) p.defminflow ++ r14

  abbrev pub r12 : List Setting
  r12 = given (setting.Amount amount.DefCost) p.defcost ++ r13

  abbrev pub r11 : List Setting
  r11 = flag_given flag.ShortPath p.shortpath ++ r12

  abbrev pub r10 : List Setting
  r10 = flag_given flag.MaxFlow p.maxflow ++ r11

  abbrev pub r9 : List Setting
  r9 = flag_given flag.Warm p.warm ++ r10

  abbrev pub r8 : List Setting
  r8 = flag_given flag.Maximize p.maximize ++ r9

  abbrev pub r7 : List Setting
  r7 = flag_given flag.Thrunet p.thrunet ++ r8

  abbrev pub r6 : List Setting
  r6 = flag_given flag.SparseConData p.sparsecondata ++ r7

  abbrev pub r5 : List Setting
  r5 = given (setting.Input input.Sessiondata) p.sessiondata ++ r6

  abbrev pub r4 : List Setting
  r4 = given (setting.Input input.Dualin) p.dualin ++ r5

  abbrev pub r3 : List Setting
  r3 = given (setting.Input input.Conin) p.conin ++ r4

  abbrev pub r2 : List Setting
  r2 = given (setting.Input input.Certdata) p.certdata ++ r3

  abbrev pub r1 : List Setting
  r1 = given (setting.Input input.Condata) p.condata ++ r2

  abbrev pub r0 : List Setting
  r0 = given (setting.Input input.Nodedata) p.nodedata ++ r1

  -- they make the options of PROC
  pub made_again : fold with_setting no_options (all_settings p) ≡ p
  unfolding all_settings
  made_again =
      given_fold p.arcdata (setting.Input input.Arcdata) r0 (λ x. record no_options { arcdata = x }) (λ a. refl)
      ∙ given_fold p.nodedata (setting.Input input.Nodedata) r1 (λ x. record o0 { nodedata = x }) (λ a. refl)
      ∙ given_fold p.condata (setting.Input input.Condata) r2 (λ x. record o1 { condata = x }) (λ a. refl)
      ∙ given_fold p.certdata (setting.Input input.Certdata) r3 (λ x. record o2 { certdata = x }) (λ a. refl)
      ∙ given_fold p.conin (setting.Input input.Conin) r4 (λ x. record o3 { conin = x }) (λ a. refl)
      ∙ given_fold p.dualin (setting.Input input.Dualin) r5 (λ x. record o4 { dualin = x }) (λ a. refl)
      ∙ given_fold p.sessiondata (setting.Input input.Sessiondata) r6 (λ x. record o5 { sessiondata = x }) (λ a. refl)
      ∙ flag_fold p.sparsecondata flag.SparseConData r7 (λ x. record o6 { sparsecondata = x }) refl
      ∙ flag_fold p.thrunet flag.Thrunet r8 (λ x. record o7 { thrunet = x }) refl
      ∙ flag_fold p.maximize flag.Maximize r9 (λ x. record o8 { maximize = x }) refl
      ∙ flag_fold p.warm flag.Warm r10 (λ x. record o9 { warm = x }) refl
      ∙ flag_fold p.maxflow flag.MaxFlow r11 (λ x. record o10 { maxflow = x }) refl
      ∙ flag_fold p.shortpath flag.ShortPath r12 (λ x. record o11 { shortpath = x }) refl
      ∙ given_fold p.defcost (setting.Amount amount.DefCost) r13 (λ x. record o12 { defcost = x }) (λ a. refl)
      ∙ given_fold p.defminflow (setting.Amount amount.DefMinFlow) r14 (λ x. record o13 { defminflow = x }) (λ a. refl)
      ∙ given_fold p.defcapacity setting.DefCapacity r15 (λ x. record o14 { defcapacity = x }) (λ a. refl)
      ∙ given_fold p.defcontype setting.DefConType r16 (λ x. record o15 { defcontype = x }) (λ a. refl)
      ∙ given_fold p.source (setting.Node node.Source) r17 (λ x. record o16 { source = x }) (λ a. refl)
      ∙ given_fold p.sink (setting.Node node.Sink) r18 (λ x. record o17 { sink = x }) (λ a. refl)
      ∙ given_fold p.supply (setting.Amount amount.Supply) r19 (λ x. record o18 { supply = x }) (λ a. refl)
      ∙ given_fold p.demand (setting.Amount amount.Demand) r20 (λ x. record o19 { demand = x }) (λ a. refl)
      ∙ given_fold p.arcout (setting.Output out.Arcout) r21 (λ x. record o20 { arcout = x }) (λ a. refl)
      ∙ given_fold p.nodeout (setting.Output out.Nodeout) r22 (λ x. record o21 { nodeout = x }) (λ a. refl)
      ∙ given_fold p.conout (setting.Output out.Conout) r23 (λ x. record o22 { conout = x }) (λ a. refl)
      ∙ given_fold p.dualout (setting.Output out.Dualout) r24 (λ x. record o23 { dualout = x }) (λ a. refl)
      ∙ given_fold p.sessionout (setting.Output out.Sessionout) r25 (λ x. record o24 { sessionout = x }) (λ a. refl)
      ∙ given_fold p.certout (setting.Output out.Certout) r26 (λ x. record o25 { certout = x }) (λ a. refl)
      ∙ count_fold p.session.maxit1 1000000 count.Maxit1 r27 (λ x. record o26 { session = record defaults { maxit1 = x } }) refl
      ∙ count_fold p.session.maxit2 1000000 count.Maxit2 r28 (λ x. record o27 { session = record s27 { maxit2 = x } }) refl
      ∙ count_fold p.session.pause1 0 count.Pause1 r29 (λ x. record o28 { session = record s28 { pause1 = x } }) refl
      ∙ count_fold p.session.pause2 0 count.Pause2 r30 (λ x. record o29 { session = record s29 { pause2 = x } }) refl
      ∙ switch_fold p.session.feasiblepause1 switch.FeasiblePause1 r31 (λ x. record o30 { session = record s30 { feasiblepause1 = x } }) refl
      ∙ switch_fold p.session.feasiblepause2 switch.FeasiblePause2 r32 (λ x. record o31 { session = record s31 { feasiblepause2 = x } }) refl
      ∙ switch_fold p.session.endpause1 switch.EndPause1 r33 (λ x. record o32 { session = record s32 { endpause1 = x } }) refl
      ∙ switch_fold p.session.future1 switch.Future1 r34 (λ x. record o33 { session = record s33 { future1 = x } }) refl
      ∙ switch_fold p.session.future2 switch.Future2 r35 (λ x. record o34 { session = record s34 { future2 = x } }) refl
      ∙ rule_fold p.session.pricetype1 rule.PriceType1 r36 (λ x. record o35 { session = record s35 { pricetype1 = x } }) (λ r. refl)
      ∙ rule_fold p.session.pricetype2 rule.PriceType2 r37 (λ x. record o36 { session = record s36 { pricetype2 = x } }) (λ r. refl)
      ∙ count_fold p.session.queuesize1 10 count.QueueSize1 r38 (λ x. record o37 { session = record s37 { queuesize1 = x } }) refl
      ∙ ap (fold with_setting o38) (sym (append-nil (count_given count.QueueSize2 10 p.session.queuesize2))) ∙ count_fold p.session.queuesize2 10 count.QueueSize2 [] (λ x. record o38 { session = record s38 { queuesize2 = x } }) refl

-- ---- each once

Above : ℕ → List ℕ → Type 0
Above k [] = Unit {0}
Above k (n ∷ ns) = (k ≤ n) × Above (suc n) ns

above_less : (j k : ℕ) (ns : List ℕ) → k ≤ j → Above j ns → Above k ns
unfolding Above
above_less j k [] le h = tt
above_less j k (n ∷ ns) le h = let first = h.0 in (omega arith, h.1)

differs : (k n : ℕ) → k < n → nat_eq k n ≡ false
differs k n lt = false_from_ne_true _ (λ e. let same = eqb-true k n e in omega arith)

above_differ : (k j : ℕ) (ns : List ℕ) → k < j → Above j ns → AllByRecursion (λ m. nat_eq k m ≡ false) ns
unfolding Above
above_differ k j [] lt h = tt
above_differ k j (n ∷ ns) lt h = let first = h.0 in (differs k n (omega arith), above_differ k (suc n) ns (omega arith) h.1)

above_distinct : (k : ℕ) (ns : List ℕ) → Above k ns → AreDistinct ns
unfolding Above
above_distinct k [] h = tt
above_distinct k (n ∷ ns) h = (above_differ n (suc n) ns (omega arith) h.1, above_distinct (suc n) ns h.1)

rises : (k j : ℕ) (front rest : List Setting) → k < j → (front ≡ []) ⊎ ((s : Setting) × (front ≡ s ∷ []) × (key_of s ≡ k)) → Above j (map key_of rest) → Above k (map key_of (front ++ rest))
unfolding Above
rises k j front rest lt (inl e) h = subst (λ (x : List Setting). Above k (map key_of (x ++ rest))) (sym e) (above_less j k (map key_of rest) (omega arith) h)
rises k j front rest lt (inr e) h =
    subst (λ (x : List Setting). Above k (map key_of (x ++ rest))) (sym e.1)
    (subst (λ (n : ℕ). (k ≤ n) × Above (suc n) (map key_of rest)) (sym e.2) (omega arith, above_less j (suc k) (map key_of rest) (omega arith) h))

given_is : {A : Type 0} (m : Option A) (f : A → Setting) (k : ℕ) → ((a : A) → key_of (f a) ≡ k) → (given f m ≡ []) ⊎ ((s : Setting) × (given f m ≡ s ∷ []) × (key_of s ≡ k))
given_is None f k h = inl refl
given_is (Some a) f k h = inr (f a, refl, h a)

flag_is : (b : Bool) (o : FlagOption) → (flag_given o b ≡ []) ⊎ ((s : Setting) × (flag_given o b ≡ s ∷ []) × (key_of s ≡ flag_key o))
flag_is false o = inl refl
flag_is true o = inr (setting.Flag o, refl, refl)

switch_is : (b : Bool) (o : SwitchOption) → (switch_given o b ≡ []) ⊎ ((s : Setting) × (switch_given o b ≡ s ∷ []) × (key_of s ≡ switch_key o))
switch_is false o = inl refl
switch_is true o = inr (setting.Switch o true, refl, refl)

rule_is : (r : PriceType) (o : RuleOption) → (rule_given o r ≡ []) ⊎ ((s : Setting) × (rule_given o r ≡ s ∷ []) × (key_of s ≡ rule_key o))
rule_is price.First o = inl refl
rule_is price.Best o = inr (setting.Rule o price.Best, refl, refl)
rule_is price.Bland o = inr (setting.Rule o price.Bland, refl, refl)
rule_is price.Queue o = inr (setting.Rule o price.Queue, refl, refl)

count_is_by : (b : Bool) (n : ℕ) (o : CountOption) → ((if b then [] else setting.Count o n ∷ []) ≡ []) ⊎ ((s : Setting) × ((if b then [] else setting.Count o n ∷ []) ≡ s ∷ []) × (key_of s ≡ count_key o))
count_is_by true n o = inl refl
count_is_by false n o = inr (setting.Count o n, refl, refl)

module _ (p : ProcOptions) where
  rising : Above 0 (map key_of (all_settings p))
  unfolding all_settings Above
  rising =
      rises 0 1 (given (setting.Input input.Arcdata) p.arcdata) (r0 p) (omega arith) (given_is p.arcdata (setting.Input input.Arcdata) 0 (λ a. refl))
      (rises 1 2 (given (setting.Input input.Nodedata) p.nodedata) (r1 p) (omega arith) (given_is p.nodedata (setting.Input input.Nodedata) 1 (λ a. refl))
      (rises 2 3 (given (setting.Input input.Condata) p.condata) (r2 p) (omega arith) (given_is p.condata (setting.Input input.Condata) 2 (λ a. refl))
      (rises 3 4 (given (setting.Input input.Certdata) p.certdata) (r3 p) (omega arith) (given_is p.certdata (setting.Input input.Certdata) 3 (λ a. refl))
      (rises 4 5 (given (setting.Input input.Conin) p.conin) (r4 p) (omega arith) (given_is p.conin (setting.Input input.Conin) 4 (λ a. refl))
      (rises 5 6 (given (setting.Input input.Dualin) p.dualin) (r5 p) (omega arith) (given_is p.dualin (setting.Input input.Dualin) 5 (λ a. refl))
      (rises 6 7 (given (setting.Input input.Sessiondata) p.sessiondata) (r6 p) (omega arith) (given_is p.sessiondata (setting.Input input.Sessiondata) 6 (λ a. refl))
      (rises 7 8 (flag_given flag.SparseConData p.sparsecondata) (r7 p) (omega arith) (flag_is p.sparsecondata flag.SparseConData)
      (rises 8 9 (flag_given flag.Thrunet p.thrunet) (r8 p) (omega arith) (flag_is p.thrunet flag.Thrunet)
      (rises 9 10 (flag_given flag.Maximize p.maximize) (r9 p) (omega arith) (flag_is p.maximize flag.Maximize)
      (rises 10 11 (flag_given flag.Warm p.warm) (r10 p) (omega arith) (flag_is p.warm flag.Warm)
      (rises 11 12 (flag_given flag.MaxFlow p.maxflow) (r11 p) (omega arith) (flag_is p.maxflow flag.MaxFlow)
      (rises 12 13 (flag_given flag.ShortPath p.shortpath) (r12 p) (omega arith) (flag_is p.shortpath flag.ShortPath)
      (rises 13 14 (given (setting.Amount amount.DefCost) p.defcost) (r13 p) (omega arith) (given_is p.defcost (setting.Amount amount.DefCost) 13 (λ a. refl))
      (rises 14 15 (given (setting.Amount amount.DefMinFlow) p.defminflow) (r14 p) (omega arith) (given_is p.defminflow (setting.Amount amount.DefMinFlow) 14 (λ a. refl))
      (rises 15 16 (given setting.DefCapacity p.defcapacity) (r15 p) (omega arith) (given_is p.defcapacity setting.DefCapacity 15 (λ a. refl))
      (rises 16 17 (given setting.DefConType p.defcontype) (r16 p) (omega arith) (given_is p.defcontype setting.DefConType 16 (λ a. refl))
      (rises 17 18 (given (setting.Node node.Source) p.source) (r17 p) (omega arith) (given_is p.source (setting.Node node.Source) 17 (λ a. refl))
      (rises 18 19 (given (setting.Node node.Sink) p.sink) (r18 p) (omega arith) (given_is p.sink (setting.Node node.Sink) 18 (λ a. refl))
      (rises 19 20 (given (setting.Amount amount.Supply) p.supply) (r19 p) (omega arith) (given_is p.supply (setting.Amount amount.Supply) 19 (λ a. refl))
      (rises 20 21 (given (setting.Amount amount.Demand) p.demand) (r20 p) (omega arith) (given_is p.demand (setting.Amount amount.Demand) 20 (λ a. refl))
      (rises 21 22 (given (setting.Output out.Arcout) p.arcout) (r21 p) (omega arith) (given_is p.arcout (setting.Output out.Arcout) 21 (λ a. refl))
      (rises 22 23 (given (setting.Output out.Nodeout) p.nodeout) (r22 p) (omega arith) (given_is p.nodeout (setting.Output out.Nodeout) 22 (λ a. refl))
      (rises 23 24 (given (setting.Output out.Conout) p.conout) (r23 p) (omega arith) (given_is p.conout (setting.Output out.Conout) 23 (λ a. refl))
      (rises 24 25 (given (setting.Output out.Dualout) p.dualout) (r24 p) (omega arith) (given_is p.dualout (setting.Output out.Dualout) 24 (λ a. refl))
      (rises 25 26 (given (setting.Output out.Sessionout) p.sessionout) (r25 p) (omega arith) (given_is p.sessionout (setting.Output out.Sessionout) 25 (λ a. refl))
      (rises 26 27 (given (setting.Output out.Certout) p.certout) (r26 p) (omega arith) (given_is p.certout (setting.Output out.Certout) 26 (λ a. refl))
      (rises 27 28 (count_given count.Maxit1 1000000 p.session.maxit1) (r27 p) (omega arith) (count_is_by (p.session.maxit1 == 1000000) p.session.maxit1 count.Maxit1)
      (rises 28 29 (count_given count.Maxit2 1000000 p.session.maxit2) (r28 p) (omega arith) (count_is_by (p.session.maxit2 == 1000000) p.session.maxit2 count.Maxit2)
      (rises 29 30 (count_given count.Pause1 0 p.session.pause1) (r29 p) (omega arith) (count_is_by (p.session.pause1 == 0) p.session.pause1 count.Pause1)
      (rises 30 31 (count_given count.Pause2 0 p.session.pause2) (r30 p) (omega arith) (count_is_by (p.session.pause2 == 0) p.session.pause2 count.Pause2)
      (rises 31 33 (switch_given switch.FeasiblePause1 p.session.feasiblepause1) (r31 p) (omega arith) (switch_is p.session.feasiblepause1 switch.FeasiblePause1)
      (rises 33 35 (switch_given switch.FeasiblePause2 p.session.feasiblepause2) (r32 p) (omega arith) (switch_is p.session.feasiblepause2 switch.FeasiblePause2)
      (rises 35 37 (switch_given switch.EndPause1 p.session.endpause1) (r33 p) (omega arith) (switch_is p.session.endpause1 switch.EndPause1)
      (rises 37 39 (switch_given switch.Future1 p.session.future1) (r34 p) (omega arith) (switch_is p.session.future1 switch.Future1)
      (rises 39 41 (switch_given switch.Future2 p.session.future2) (r35 p) (omega arith) (switch_is p.session.future2 switch.Future2)
      (rises 41 42 (rule_given rule.PriceType1 p.session.pricetype1) (r36 p) (omega arith) (rule_is p.session.pricetype1 rule.PriceType1)
      (rises 42 43 (rule_given rule.PriceType2 p.session.pricetype2) (r37 p) (omega arith) (rule_is p.session.pricetype2 rule.PriceType2)
      (rises 43 44 (count_given count.QueueSize1 10 p.session.queuesize1) (r38 p) (omega arith) (count_is_by (p.session.queuesize1 == 10) p.session.queuesize1 count.QueueSize1)
      (subst (λ (x : List Setting). Above 44 (map key_of x)) (append-nil (count_given count.QueueSize2 10 p.session.queuesize2)) (rises 44 45 (count_given count.QueueSize2 10 p.session.queuesize2) [] (omega arith) (count_is_by (p.session.queuesize2 == 10) p.session.queuesize2 count.QueueSize2) tt))))))))))))))))))))))))))))))))))))))))

  pub settings_distinct : AreDistinct (map key_of (settings_of p))
  settings_distinct = subst (λ (x : List Setting). AreDistinct (map key_of x)) (sym (flat p)) (above_distinct 0 (map key_of (all_settings p)) rising)

  pub settings_make : options_of (settings_of p) ≡ p
  unfolding options_of
  settings_make = ap (fold with_setting no_options) (flat p) ∙ made_again p
