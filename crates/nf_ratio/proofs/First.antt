-- The ratios of the values by place: those of the slots, and then that of the column that enters.
use Rattle.std.proofs.Common.{◌≡◌, ℕ, suc, ◌+◌, ◌<◌, ◌≤◌, Bool, List, length, if◌then◌else◌, lt-ltb, le-ltb, sym, ap, subst, arith}
use Rattle.nf_num.specs.Rational.{ℚ}
use Rattle.nf_model.specs.Program.{LinearProgram}
use Rattle.nf_basis.specs.declared.col.Col.{Col}
use Rattle.nf_ratio.specs.declared.tie.Found.{Found}
use Rattle.nf_ratio.specs.Loops.{first_ratio, span_of, value_ratio_at}
use Rattle.nf_ratio.specs.Ties.{AreLeast, IsOfferedIf}
use Rattle.nf_ratio.proofs.Offers.{offered_if, same_ratios}

module _ (p : LinearProgram) (slots : List Col) (x : ℕ → ℚ) (c : Col) (down : Bool) (entries : List ℚ) where
  pub ratio_slot : (i : ℕ) → i < length entries → value_ratio_at p slots x c down entries i ≡ first_ratio p slots x down entries i
  ratio_slot i h = ap (λ (b : Bool). if b then first_ratio p slots x down entries i else span_of p c) (lt-ltb i (length entries) h)

  pub ratio_last : (i : ℕ) → length entries ≤ i → value_ratio_at p slots x c down entries i ≡ span_of p c
  ratio_last i h = ap (λ (b : Bool). if b then first_ratio p slots x down entries i else span_of p c) (le-ltb i (length entries) h)

  module _ (ts : List ℕ) (f : Found) (a : AreLeast (λ i. i) (first_ratio p slots x down entries) (length entries) ts f) where
    by_place : AreLeast (λ i. i) (value_ratio_at p slots x c down entries) (length entries) ts f
    by_place = same_ratios (λ i. i) (first_ratio p slots x down entries) (value_ratio_at p slots x c down entries) (length entries) ts f (λ j h. sym (ratio_slot j h)) a

    one_more : length entries + 1 ≡ suc (length entries)
    one_more = omega arith

    -- The column that enters is offered after the slots.
    pub with_own : f.count < length ts → (g : Found) (us : List ℕ) → IsOfferedIf f ts (length entries) (span_of p c) g us → AreLeast (λ i. i) (value_ratio_at p slots x c down entries) (suc (length entries)) us g
    with_own room g us o = subst (λ n. AreLeast (λ i. i) (value_ratio_at p slots x c down entries) n us g) one_more
        (offered_if (λ i. i) (value_ratio_at p slots x c down entries) (length entries) ts f by_place (span_of p c) (ratio_last (length entries) (omega arith)) (λ j h. h) room g us o)
