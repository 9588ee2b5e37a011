-- The first refusal, item by item.
use Rattle.std.proofs.Common.{◌≡◌, ℕ, suc, ◌+◌, ◌-◌, ◌<◌, ◌≤◌, List, length, drop, get_or, Option, None, Some, sym, ◌∙◌, ap, arith}
use Rattle.std.proofs.Math.Seq.{drop-cons}
use Rattle.std.proofs.lemmas.List.{length-drop, nil_from_length}
use Rattle.nf_dimacs_writer.specs.declared.fault.ExportFault.{ExportFault}
use Rattle.nf_dimacs_writer.specs.Refusal.{first_refusal, or_else}

module _ {A : Type 0} (refuse : ℕ → A → Option ExportFault) (xs : List A) where
  here : (i : ℕ) (d : A) → i < length xs → first_refusal refuse (i + 1) (drop i xs) ≡ or_else (refuse (i + 1) (get_or xs (i + 1 - 1) d)) (first_refusal refuse (suc (i + 1)) (drop (suc i) xs))
  unfolding first_refusal
  here i d within =
      let back : i ≡ i + 1 - 1 = omega arith in
      ap (first_refusal refuse (i + 1)) (drop-cons xs i d within) ∙ ap (λ k. or_else (refuse (i + 1) (get_or xs k d)) (first_refusal refuse (suc (i + 1)) (drop (suc i) xs))) back

  pub refused : (i : ℕ) (d : A) (fault : ExportFault) → i < length xs → refuse (i + 1) (get_or xs (i + 1 - 1) d) ≡ Some fault → first_refusal refuse 1 xs ≡ first_refusal refuse (i + 1) (drop i xs) → first_refusal refuse 1 xs ≡ Some fault
  refused i d fault within e so_far = so_far ∙ here i d within ∙ ap (λ (r : Option ExportFault). or_else r (first_refusal refuse (suc (i + 1)) (drop (suc i) xs))) e

  pub passed : (i : ℕ) (d : A) → i < length xs → refuse (i + 1) (get_or xs (i + 1 - 1) d) ≡ None → first_refusal refuse 1 xs ≡ first_refusal refuse (i + 1) (drop i xs) → first_refusal refuse 1 xs ≡ first_refusal refuse (i + 1 + 1) (drop (i + 1) xs)
  passed i d within e so_far =
      let one : suc i ≡ i + 1 = omega arith in
      let two : suc (i + 1) ≡ i + 1 + 1 = omega arith in
      so_far ∙ here i d within ∙ ap (λ (r : Option ExportFault). or_else r (first_refusal refuse (suc (i + 1)) (drop (suc i) xs))) e
      ∙ (λ j. first_refusal refuse (two j) (drop (one j) xs))

  pub none_refused : (i : ℕ) → length xs ≤ i → first_refusal refuse 1 xs ≡ first_refusal refuse (i + 1) (drop i xs) → None ≡ first_refusal refuse 1 xs
  unfolding first_refusal
  none_refused i all so_far =
      let left : length (drop i xs) ≡ 0 = omega (arith, length-drop i xs) in
      sym (so_far ∙ ap (first_refusal refuse (i + 1)) (nil_from_length (drop i xs) left))
