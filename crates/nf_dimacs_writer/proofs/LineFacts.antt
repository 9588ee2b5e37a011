-- The lines of a text, one by one.
use Rattle.std.proofs.Common.{◌≡◌, ℕ, suc, ◌+◌, ◌-◌, ◌<◌, ◌≤◌, List, [], ◌∷◌, ◌++◌, length, take, get_or, sym, ◌∙◌, ap, arith, append_assoc}
use Rattle.std.proofs.lemmas.List.{append-nil, length-take-le, take_more, take_all}
use Rattle.nf_dimacs_writer.specs.Written.{lines_from}

module _ {A : Type 0} (line_of : ℕ → A → List ℕ) where
  lines-push : (k : ℕ) (xs : List A) (x : A) → lines_from line_of k (xs ++ x ∷ []) ≡ lines_from line_of k xs ++ line_of (k + length xs) x
  unfolding lines_from
  lines-push k [] x = append-nil (line_of k x) ∙ ap (λ m. line_of m x) (let e : k ≡ k + 0 = omega arith in e)
  lines-push k (y ∷ xs) x =
      ap (λ (t : List ℕ). line_of k y ++ t) (lines-push (suc k) xs x ∙ ap (λ m. lines_from line_of (suc k) xs ++ line_of m x) (let e : suc k + length xs ≡ k + suc (length xs) = omega arith in e))
      ∙ sym (append_assoc (line_of k y) (lines_from line_of (suc k) xs) (line_of (k + suc (length xs)) x))

  pub written-none : (start : List ℕ) (xs : List A) → start ≡ start ++ lines_from line_of 1 (take 0 xs)
  unfolding lines_from
  written-none start xs = sym (append-nil start)

  pub written-more : (start now next : List ℕ) (xs : List A) (i : ℕ) (d : A) → i < length xs → now ≡ start ++ lines_from line_of 1 (take i xs) → next ≡ now ++ line_of (i + 1) (get_or xs (i + 1 - 1) d) → next ≡ start ++ lines_from line_of 1 (take (i + 1) xs)
  written-more start now next xs i d within so_far e =
      let back : i + 1 - 1 ≡ i = omega arith in
      let more : take (i + 1) xs ≡ take i xs ++ get_or xs i d ∷ [] = take_more xs i d within in
      let here : i + 1 ≡ 1 + length (take i xs) = omega (arith, length-take-le i xs (omega (arith, within))) in
      e ∙ (λ j. so_far j ++ line_of (here j) (get_or xs (back j) d))
      ∙ append_assoc start (lines_from line_of 1 (take i xs)) (line_of (1 + length (take i xs)) (get_or xs i d))
      ∙ ap (λ (t : List ℕ). start ++ t) (sym (lines-push 1 (take i xs) (get_or xs i d)) ∙ ap (lines_from line_of 1) (sym more))

  pub written-all : (start now : List ℕ) (xs : List A) (i : ℕ) → length xs ≤ i → now ≡ start ++ lines_from line_of 1 (take i xs) → now ≡ start ++ lines_from line_of 1 xs
  written-all start now xs i all so_far = so_far ∙ ap (λ (t : List A). start ++ lines_from line_of 1 t) (take_all i xs all)
