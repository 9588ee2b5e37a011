-- Options by their words and values, and lists of them.
use Rattle.std.proofs.Common.{◌≡◌, Bool, true, false, not, ◌&&◌, ◌||◌, List, [], ◌∷◌, ◌++◌, map, Option, Some, None, refl, sym, ap, ◌∙◌, subst, append_assoc}
use Rattle.std.specs.Prelude.{option_map}
use Rattle.std.specs.List.{list_any}
use Rattle.std.proofs.lemmas.List.{map-append}
use Rattle.std.proofs.lemmas.List.Folds.{list_any-append}
use Rattle.nf_text.specs.declared.token.TokenKind.TheVariants.{Equals}
use Rattle.nf_text.specs.Tokens.{Lexeme}
use Rattle.nf_program.specs.declared.program.ResetOption.{ResetOption}
use Rattle.nf_program.specs.declared.program.ResetOption.TheVariants as reset
use Rattle.nf_program.specs.declared.program.SaveItem.{SaveItem}
use Rattle.nf_program.specs.declared.words.OptionWord.{OptionWord}
use Rattle.nf_program.specs.declared.words.OptionWord.TheVariants as option
use Rattle.nf_program.specs.declared.words.FlagOption.TheVariants as flag
use Rattle.nf_program.specs.declared.words.CountOption.TheVariants as count
use Rattle.nf_program.specs.declared.words.SwitchOption.TheVariants as switch
use Rattle.nf_program.specs.declared.words.RuleOption.TheVariants as rule
use Rattle.nf_program.specs.declared.settings.Setting.{Setting}
use Rattle.nf_program.specs.declared.settings.Setting.TheVariants as setting
use Rattle.nf_reader.specs.declared.places.Head.{Head}
use Rattle.nf_reader.specs.declared.places.Head.TheVariants as head
use Rattle.nf_program.specs.ReadValues.{set_name_of, node_of, amount_of, bound_of, count_for, type_of, rule_of}
use Rattle.nf_program.specs.Settings.{word_of, flag_of, key_of, is_session, is_output, is_warm, is_session_setting, is_warm_setting, is_apart, resets_in, resets_of, reset_setting, saves_of, save_setting}
use Rattle.nf_program.specs.Programs.{is_given}
use Rattle.nf_reader.specs.Opened.{belongs}
use Rattle.nf_reader.specs.Turns.{value_of}
use Rattle.nf_program.specs.Grammar.{NamesOption, IsValue, IsSettingBy, IsSetting, AreSettings}
use Rattle.nf_reader.specs.Beginnings.{Suits}
use Rattle.nf_program.proofs.Things.{each_more, distinct_more, any_more}
use Rattle.nf_program.proofs.ValueFacts.{mapped, set_name_sound, set_name_complete, node_sound, node_complete, amount_sound, amount_complete, bound_sound, bound_complete, count_for_sound, count_for_complete, type_sound, type_complete, rule_sound, rule_complete}

-- ---- one option

-- what a token makes of an option is a setting of it
pub value_sound : (o : OptionWord) (s : Setting) (t : Lexeme) → value_of o t.kind t.bytes ≡ Some s → (word_of s ≡ o) × IsValue s t
unfolding value_of
value_sound (option.Input o) s t e = let m = mapped (setting.Input o) (set_name_of t.kind t.bytes) s e in (ap word_of (sym m.2), subst (λ (x : Setting). IsValue x t) m.2 (set_name_sound m.0 t m.1))
value_sound (option.Amount o) s t e = let m = mapped (setting.Amount o) (amount_of t.kind t.bytes) s e in (ap word_of (sym m.2), subst (λ (x : Setting). IsValue x t) m.2 (amount_sound m.0 t m.1))
value_sound option.DefCapacity s t e = let m = mapped setting.DefCapacity (bound_of t.kind t.bytes) s e in (ap word_of (sym m.2), subst (λ (x : Setting). IsValue x t) m.2 (bound_sound m.0 t m.1))
value_sound option.DefConType s t e = let m = mapped setting.DefConType (type_of t.kind t.bytes) s e in (ap word_of (sym m.2), subst (λ (x : Setting). IsValue x t) m.2 (type_sound m.0 t m.1))
value_sound (option.Node o) s t e = let m = mapped (setting.Node o) (node_of t.kind t.bytes) s e in (ap word_of (sym m.2), subst (λ (x : Setting). IsValue x t) m.2 (node_sound m.0 t m.1))
value_sound (option.Output o) s t e = let m = mapped (setting.Output o) (set_name_of t.kind t.bytes) s e in (ap word_of (sym m.2), subst (λ (x : Setting). IsValue x t) m.2 (set_name_sound m.0 t m.1))
value_sound (option.Count o) s t e = let m = mapped (setting.Count o) (count_for o t.kind t.bytes) s e in (ap word_of (sym m.2), subst (λ (x : Setting). IsValue x t) m.2 (count_for_sound o m.0 t m.1))
value_sound (option.Rule o) s t e = let m = mapped (setting.Rule o) (rule_of t.kind t.bytes) s e in (ap word_of (sym m.2), subst (λ (x : Setting). IsValue x t) m.2 (rule_sound m.0 t m.1))
value_sound (option.Flag o) s t e = absurd cc
value_sound (option.Switch o b) s t e = absurd cc

pub value_complete : (s : Setting) (t : Lexeme) → IsValue s t → value_of (word_of s) t.kind t.bytes ≡ Some s
unfolding value_of
value_complete (setting.Input o n) t h = ap (option_map (setting.Input o)) (set_name_complete n t h)
value_complete (setting.Amount o a) t h = ap (option_map (setting.Amount o)) (amount_complete a t h)
value_complete (setting.DefCapacity b) t h = ap (option_map setting.DefCapacity) (bound_complete b t h)
value_complete (setting.DefConType c) t h = ap (option_map setting.DefConType) (type_complete c t h)
value_complete (setting.Node o n) t h = ap (option_map (setting.Node o)) (node_complete n t h)
value_complete (setting.Output o n) t h = ap (option_map (setting.Output o)) (set_name_complete n t h)
value_complete (setting.Count o n) t h = ap (option_map (setting.Count o)) (count_for_complete o n t h)
value_complete (setting.Rule o r) t h = ap (option_map (setting.Rule o)) (rule_complete r t h)
value_complete (setting.Flag o) t h = absurd h
value_complete (setting.Switch o b) t h = absurd h

-- a word that takes no value is the setting
pub flag_sound : (o : OptionWord) (s : Setting) → flag_of o ≡ Some s → word_of s ≡ o
flag_sound (option.Flag o) s e = let same : setting.Flag o ≡ s = cc in ap word_of (sym same)
flag_sound (option.Switch o b) s e = let same : setting.Switch o b ≡ s = cc in ap word_of (sym same)
flag_sound (option.Input o) s e = absurd cc
flag_sound (option.Amount o) s e = absurd cc
flag_sound option.DefCapacity s e = absurd cc
flag_sound option.DefConType s e = absurd cc
flag_sound (option.Node o) s e = absurd cc
flag_sound (option.Output o) s e = absurd cc
flag_sound (option.Count o) s e = absurd cc
flag_sound (option.Rule o) s e = absurd cc

pub flag_is : (s f : Setting) → flag_of (word_of s) ≡ Some f → f ≡ s
flag_is (setting.Flag o) f e = cc
flag_is (setting.Switch o b) f e = cc
flag_is (setting.Input o n) f e = absurd cc
flag_is (setting.Amount o a) f e = absurd cc
flag_is (setting.DefCapacity b) f e = absurd cc
flag_is (setting.DefConType t) f e = absurd cc
flag_is (setting.Node o n) f e = absurd cc
flag_is (setting.Output o n) f e = absurd cc
flag_is (setting.Count o n) f e = absurd cc
flag_is (setting.Rule o r) f e = absurd cc

pub flag_setting : (o : OptionWord) (s : Setting) (t : Lexeme) → flag_of o ≡ Some s → NamesOption o t → IsSetting s (t ∷ [])
flag_setting o s t e h =
    let same : word_of s ≡ o = flag_sound o s e in
    let flag : flag_of (word_of s) ≡ Some s = ap flag_of same ∙ e in
    subst (λ (m : Option Setting). IsSettingBy m s (t ∷ [])) (sym flag) (t, refl, subst (λ (x : OptionWord). NamesOption x t) (sym same) h)

pub valued_setting : (o : OptionWord) (s : Setting) (w e v : Lexeme) → flag_of o ≡ None → word_of s ≡ o → NamesOption o w → e.kind ≡ Equals → IsValue s v → IsSetting s (w ∷ e ∷ v ∷ [])
valued_setting o s w e v none same names eq value =
    let flag : flag_of (word_of s) ≡ None = ap flag_of same ∙ none in
    subst (λ (m : Option Setting). IsSettingBy m s (w ∷ e ∷ v ∷ [])) (sym flag) (w, e, v, refl, subst (λ (x : OptionWord). NamesOption x w) (sym same) names, eq, value)

-- ---- options together

-- an option is not both WARM and one of the session
apart_word : (o : OptionWord) → (is_warm o && is_session o) ≡ false
apart_word (option.Flag flag.SparseConData) = refl
apart_word (option.Flag flag.Thrunet) = refl
apart_word (option.Flag flag.Maximize) = refl
apart_word (option.Flag flag.Warm) = refl
apart_word (option.Flag flag.MaxFlow) = refl
apart_word (option.Flag flag.ShortPath) = refl
apart_word (option.Switch o b) = refl
apart_word (option.Input o) = refl
apart_word (option.Amount o) = refl
apart_word option.DefCapacity = refl
apart_word option.DefConType = refl
apart_word (option.Node o) = refl
apart_word (option.Output o) = refl
apart_word (option.Count o) = refl
apart_word (option.Rule o) = refl

apart_by : (had_warm had_session warm session : Bool) → not (had_warm && had_session) ≡ true → (not (warm && had_session) && not (session && had_warm)) ≡ true → (warm && session) ≡ false
    → not ((had_warm || warm) && (had_session || session)) ≡ true
apart_by true true w s a b c = absurd cc
apart_by true false true true a b c = absurd cc
apart_by true false false true a b c = absurd cc
apart_by true false true false a b c = refl
apart_by true false false false a b c = refl
apart_by false true true s a b c = absurd cc
apart_by false true false s a b c = refl
apart_by false false true true a b c = absurd cc
apart_by false false true false a b c = refl
apart_by false false false s a b c = refl

apart_back : (had_warm had_session warm session : Bool) → not ((had_warm || warm) && (had_session || session)) ≡ true → (not (warm && had_session) && not (session && had_warm)) ≡ true
apart_back true true w s a = absurd cc
apart_back true false w true a = absurd cc
apart_back true false true false a = refl
apart_back true false false false a = refl
apart_back false true true s a = absurd cc
apart_back false true false true a = refl
apart_back false true false false a = refl
apart_back false false true true a = absurd cc
apart_back false false true false a = refl
apart_back false false false true a = refl
apart_back false false false false a = refl

apart_more : (ss : List Setting) (s : Setting) → is_apart ss ≡ true → belongs head.Proc ss (word_of s) ≡ true → is_apart (ss ++ s ∷ []) ≡ true
apart_more ss s a b =
    (λ i. not (any_more is_warm_setting ss s i && any_more is_session_setting ss s i))
    ∙ apart_by (list_any is_warm_setting ss) (list_any is_session_setting ss) (is_warm (word_of s)) (is_session (word_of s)) a b (apart_word (word_of s))

-- fewer options are apart too
less_apart : (w s w2 s2 : Bool) → not ((w || w2) && (s || s2)) ≡ true → not (w && s) ≡ true
less_apart true true w2 s2 a = absurd cc
less_apart true false w2 s2 a = refl
less_apart false s w2 s2 a = refl

apart_less : (xs ys : List Setting) → is_apart (xs ++ ys) ≡ true → is_apart xs ≡ true
apart_less xs ys a =
    less_apart (list_any is_warm_setting xs) (list_any is_session_setting xs) (list_any is_warm_setting ys) (list_any is_session_setting ys)
    (sym (λ i. not (list_any-append is_warm_setting xs ys i && list_any-append is_session_setting xs ys i)) ∙ a)

apart_at : (xs : List Setting) (s : Setting) → is_apart (xs ++ s ∷ []) ≡ true → belongs head.Proc xs (word_of s) ≡ true
apart_at xs s a =
    apart_back (list_any is_warm_setting xs) (list_any is_session_setting xs) (is_warm (word_of s)) (is_session (word_of s))
    (sym (λ i. not (any_more is_warm_setting xs s i && any_more is_session_setting xs s i)) ∙ a)

-- an option of the session is one of RESET
pub reset_is : (s : Setting) → is_session (word_of s) ≡ true → (r : ResetOption) × (s ≡ reset_setting r)
reset_is (setting.Count count.Maxit1 n) e = (reset.Maxit1 n, refl)
reset_is (setting.Count count.Maxit2 n) e = (reset.Maxit2 n, refl)
reset_is (setting.Count count.Pause1 n) e = (reset.Pause1 n, refl)
reset_is (setting.Count count.Pause2 n) e = (reset.Pause2 n, refl)
reset_is (setting.Count count.QueueSize1 n) e = (reset.QueueSize1 n, refl)
reset_is (setting.Count count.QueueSize2 n) e = (reset.QueueSize2 n, refl)
reset_is (setting.Switch switch.FeasiblePause1 b) e = (reset.FeasiblePause1 b, refl)
reset_is (setting.Switch switch.FeasiblePause2 b) e = (reset.FeasiblePause2 b, refl)
reset_is (setting.Switch switch.EndPause1 b) e = (reset.EndPause1 b, refl)
reset_is (setting.Switch switch.Future1 b) e = (reset.Future1 b, refl)
reset_is (setting.Switch switch.Future2 b) e = (reset.Future2 b, refl)
reset_is (setting.Rule rule.PriceType1 r) e = (reset.PriceType1 r, refl)
reset_is (setting.Rule rule.PriceType2 r) e = (reset.PriceType2 r, refl)
reset_is (setting.Flag o) e = absurd cc
reset_is (setting.Input o n) e = absurd cc
reset_is (setting.Amount o a) e = absurd cc
reset_is (setting.DefCapacity b) e = absurd cc
reset_is (setting.DefConType t) e = absurd cc
reset_is (setting.Node o n) e = absurd cc
reset_is (setting.Output o n) e = absurd cc

reset_session : (r : ResetOption) → is_session (word_of (reset_setting r)) ≡ true
reset_session (reset.Maxit1 n) = refl
reset_session (reset.Maxit2 n) = refl
reset_session (reset.Pause1 n) = refl
reset_session (reset.Pause2 n) = refl
reset_session (reset.FeasiblePause1 b) = refl
reset_session (reset.FeasiblePause2 b) = refl
reset_session (reset.EndPause1 b) = refl
reset_session (reset.Future1 b) = refl
reset_session (reset.Future2 b) = refl
reset_session (reset.PriceType1 r) = refl
reset_session (reset.PriceType2 r) = refl
reset_session (reset.QueueSize1 n) = refl
reset_session (reset.QueueSize2 n) = refl

resets_back : (r : ResetOption) → resets_in (reset_setting r) ≡ r ∷ []
resets_back (reset.Maxit1 n) = refl
resets_back (reset.Maxit2 n) = refl
resets_back (reset.Pause1 n) = refl
resets_back (reset.Pause2 n) = refl
resets_back (reset.FeasiblePause1 b) = refl
resets_back (reset.FeasiblePause2 b) = refl
resets_back (reset.EndPause1 b) = refl
resets_back (reset.Future1 b) = refl
resets_back (reset.Future2 b) = refl
resets_back (reset.PriceType1 r) = refl
resets_back (reset.PriceType2 r) = refl
resets_back (reset.QueueSize1 n) = refl
resets_back (reset.QueueSize2 n) = refl

-- the options of RESET that these settings are
pub resets_are : (os : List ResetOption) → resets_of (map reset_setting os) ≡ os
unfolding resets_of
resets_are [] = refl
resets_are (o ∷ os) = (λ i. resets_back o i ++ resets_are os i)

save_is : (s : Setting) → is_output (word_of s) ≡ true → (x : SaveItem) × (s ≡ save_setting x)
save_is (setting.Output o n) e = (record { option = o; name = n }, refl)
save_is (setting.Flag o) e = absurd cc
save_is (setting.Switch o b) e = absurd cc
save_is (setting.Input o n) e = absurd cc
save_is (setting.Amount o a) e = absurd cc
save_is (setting.DefCapacity b) e = absurd cc
save_is (setting.DefConType t) e = absurd cc
save_is (setting.Node o n) e = absurd cc
save_is (setting.Count o n) e = absurd cc
save_is (setting.Rule o r) e = absurd cc

pub saves_are : (is : List SaveItem) → saves_of (map save_setting is) ≡ is
unfolding saves_of
saves_are [] = refl
saves_are (i ∷ is) = ap (λ (x : List SaveItem). i ∷ x) (saves_are is)

-- one more option
pub suits_more : (h : Head) (ss : List Setting) (s : Setting) → Suits h ss → belongs h ss (word_of s) ≡ true → Suits h (ss ++ s ∷ [])
suits_more head.Proc ss s a b = apart_more ss s a b
suits_more head.Reset ss s a b =
    let r = reset_is s b in
    (a.0 ++ r.0 ∷ [], (λ i. a.1 i ++ r.1 i ∷ []) ∙ sym (map-append reset_setting a.0 (r.0 ∷ [])))
suits_more head.Save ss s a b =
    let r = save_is s b in
    (a.0 ++ r.0 ∷ [], (λ i. a.1 i ++ r.1 i ∷ []) ∙ sym (map-append save_setting a.0 (r.0 ∷ [])))

resets_at : (os : List ResetOption) (xs : List Setting) (s : Setting) (ys : List Setting) → xs ++ s ∷ ys ≡ map reset_setting os → is_session (word_of s) ≡ true
resets_at [] [] s ys e = absurd cc
resets_at [] (x ∷ xs) s ys e = absurd cc
resets_at (o ∷ os) [] s ys e = let same : s ≡ reset_setting o = cc in ap (λ (x : Setting). is_session (word_of x)) same ∙ reset_session o
resets_at (o ∷ os) (x ∷ xs) s ys e = let rest : xs ++ s ∷ ys ≡ map reset_setting os = cc in resets_at os xs s ys rest

saves_at : (is : List SaveItem) (xs : List Setting) (s : Setting) (ys : List Setting) → xs ++ s ∷ ys ≡ map save_setting is → is_output (word_of s) ≡ true
saves_at [] [] s ys e = absurd cc
saves_at [] (x ∷ xs) s ys e = absurd cc
saves_at (o ∷ is) [] s ys e = let same : s ≡ save_setting o = cc in ap (λ (x : Setting). is_output (word_of x)) same
saves_at (o ∷ is) (x ∷ xs) s ys e = let rest : xs ++ s ∷ ys ≡ map save_setting is = cc in saves_at is xs s ys rest

-- each option of a statement may come behind those before it
pub suits_at : (h : Head) (xs : List Setting) (s : Setting) (ys : List Setting) → Suits h (xs ++ s ∷ ys) → belongs h xs (word_of s) ≡ true
suits_at head.Proc xs s ys a = apart_at xs s (apart_less (xs ++ s ∷ []) ys (ap is_apart (append_assoc xs (s ∷ []) ys) ∙ a))
suits_at head.Reset xs s ys a = resets_at a.0 xs s ys a.1
suits_at head.Save xs s ys a = saves_at a.0 xs s ys a.1

pub settings_more : (ss : List Setting) (ts : List Lexeme) (s : Setting) (one : List Lexeme) → AreSettings ss ts → IsSetting s one → is_given (word_of s) ss ≡ false → AreSettings (ss ++ s ∷ []) (ts ++ one)
settings_more ss ts s one h is new = (each_more IsSetting ss ts s one h.0 is, distinct_more key_of ss s h.1 new)
