-- What is written is read back: counts, flags, rules, last halts, places and artificials.
use Rattle.std.proofs.Common.{◌≡◌, ◌∙◌, ◌<◌, ◌≤◌, ◌^◌, ◌+◌, ◌%◌, ◌⊎◌, inl, inr, ℕ, Bool, true, false, List, [], ◌∷◌, Some, refl, ap, arith, decimal, le-leb}
use Rattle.std.specs.Prelude.{codes}
use Rattle.std.specs.List.{All}
use Rattle.std.proofs.lemmas.Bool.{ne_eqb}
use Rattle.std.proofs.lemmas.Fmt.{decimal_by_steps_wide}
use Rattle.std.proofs.lemmas.List.Elements.{All-cons, All-head, All-nil, All-push, All-tail}
use Rattle.nf_frac.proofs.NumeralFacts.{numeral_decimal, value_decimal}
use Rattle.nf_cells.specs.Cells.{is_space, trim_end, trim_start, value_of}
use Rattle.nf_program.specs.declared.program.PriceType.{PriceType}
use Rattle.nf_program.specs.declared.program.PriceType.TheVariants as price
use Rattle.nf_simplex.specs.Place as model
use Rattle.nf_simplex.specs.StageOf.{StageNumber, StageOne, StageTwo}
use Rattle.nf_basis.specs.declared.col.Place.{Place}
use Rattle.nf_basis.specs.declared.col.Place.TheVariants as place
use Rattle.nf_basis.specs.Names.{place_of}
use Rattle.nf_print.specs.declared.status.Last.{Last}
use Rattle.nf_print.specs.declared.status.Last.TheVariants as last
use Rattle.nf_print.specs.Lines.{last_word}
use Rattle.nf_print.specs.Options.{rule_word}
use Rattle.nf_out.specs.Words.{place_word}
use Rattle.nf_saved.specs.SessionTable.{artificial_word, flag_word, stage_word}
use Rattle.nf_saved.specs.Values.{artificial, artificial_said, count_from, flag_said, last_said, place_said, rule_said, says_none, stage_said, version_said}

-- ---- words
pub flag-back : (b : Bool) → flag_said (value_of (flag_word b)) ≡ Some b
unfolding flag_said
flag-back true = refl
flag-back false = refl

pub rule-back : (r : PriceType) → rule_said true (value_of (rule_word r)) ≡ Some r
unfolding rule_said
rule-back price.First = refl
rule-back price.Best = refl
rule-back price.Bland = refl
rule-back price.Queue = refl

-- The name of a place.
abbrev pub named : model.Place → Place
named model.Lower = place.Lower
named model.Upper = place.Upper
named model.Zero = place.Zero
named model.Basic = place.Basic
named model.Absent = place.Absent

pub of-named : (a : model.Place) → place_of (named a) ≡ a
of-named model.Lower = refl
of-named model.Upper = refl
of-named model.Zero = refl
of-named model.Basic = refl
of-named model.Absent = refl

pub place-back : (a : model.Place) → place_said (value_of (place_word a)) ≡ Some (named a)
unfolding place_said
place-back model.Lower = refl
place-back model.Upper = refl
place-back model.Zero = refl
place-back model.Basic = refl
place-back model.Absent = refl

pub none-back : says_none (value_of (codes "NONE")) ≡ true
none-back = refl

-- An artificial is basic or at its lower bound.
abbrev pub is_basic : model.Place → Bool
is_basic model.Lower = false
is_basic model.Upper = false
is_basic model.Zero = false
is_basic model.Basic = true
is_basic model.Absent = false

basic-back : (b : Bool) → artificial_said (value_of (artificial_word b model.Basic)) ≡ Some (artificial b true)
unfolding artificial_said
basic-back true = refl
basic-back false = refl

lower-back : (b : Bool) → artificial_said (value_of (artificial_word b model.Lower)) ≡ Some (artificial b false)
unfolding artificial_said
lower-back true = refl
lower-back false = refl

pub artificial-back : (b : Bool) (a : model.Place) → (a ≡ model.Basic) ⊎ (a ≡ model.Lower) → artificial_said (value_of (artificial_word b a)) ≡ Some (artificial b (is_basic a))
artificial-back b a (inl e) = rw e (basic-back b)
artificial-back b a (inr e) = rw e (lower-back b)

pub version-back : version_said (value_of (codes "2")) ≡ Some true
unfolding version_said
version-back = refl

pub stage-back : (has_two : Bool) (stage : StageNumber) → (stage ≡ StageTwo → has_two ≡ true) → stage_said has_two (value_of (stage_word stage)) ≡ Some stage
unfolding stage_said
stage-back has_two StageOne h = refl
stage-back has_two StageTwo h = rw (h refl) refl

pub last-back : (to_come : Bool) (l : Last) → (l ≡ last.StageOne → to_come ≡ true) → last_said to_come (value_of (last_word l)) ≡ Some l
unfolding last_said
last-back true last.Unset h = refl
last-back false last.Unset h = refl
last-back true last.Optimal h = refl
last-back false last.Optimal h = refl
last-back true last.Infeasible h = refl
last-back false last.Infeasible h = refl
last-back true last.Unbounded h = refl
last-back false last.Unbounded h = refl
last-back true last.Limit h = refl
last-back false last.Limit h = refl
last-back true last.Pause h = refl
last-back false last.Pause h = refl
last-back true last.Feasible h = refl
last-back false last.Feasible h = refl
last-back true last.StageOne h = refl
last-back false last.StageOne h = absurd (let e : false ≡ true = h refl in cc)
last-back true last.Pivot h = refl
last-back false last.Pivot h = refl

-- ---- decimals
-- a byte of ASCII that is no space
abbrev IsPlain : ℕ → Type 0
IsPlain b = 32 < b

plain-decimal : (n : ℕ) → n < 10 ^ 64 → All IsPlain (decimal n)
plain-decimal n h =
    decimal_by_steps_wide (λ m ds. All IsPlain ds)
    (λ m l. All-cons IsPlain (48 + m) [] (omega (arith, l)) (All-nil IsPlain))
    (λ m ds l k. All-push IsPlain ds (48 + m % 10) k (omega arith))
    n h

not-space : (b : ℕ) → 32 < b → is_space b ≡ false
not-space b h = ne_eqb b 32 (omega (arith, h))

end-kept : (text : List ℕ) → All IsPlain text → trim_end text ≡ text
end-kept [] h = refl
end-kept (b ∷ text) h = rw (not-space b (All-head IsPlain b text h)) (ap (λ (t : List ℕ). b ∷ t) (end-kept text (All-tail IsPlain b text h)))

start-kept : (text : List ℕ) → All IsPlain text → trim_start text ≡ text
start-kept [] h = refl
start-kept (b ∷ text) h = rw (not-space b (All-head IsPlain b text h)) refl

pub decimal-kept : (n : ℕ) → n < 10 ^ 64 → value_of (decimal n) ≡ decimal n
decimal-kept n h = ap trim_end (start-kept (decimal n) (plain-decimal n h)) ∙ end-kept (decimal n) (plain-decimal n h)

pub count-back : (least most n : ℕ) → least ≤ n → n ≤ most → n < 10 ^ 64 → count_from least most (value_of (decimal n)) ≡ Some n
unfolding count_from
count-back least most n some h small = rw (decimal-kept n small, numeral_decimal n small, value_decimal n small, le-leb least n some, le-leb n most h) refl
