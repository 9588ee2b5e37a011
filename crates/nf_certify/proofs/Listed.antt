-- Lists that grow by a member, and what a list has that is padded behind its end.
use Rattle.std.proofs.Common.{◌≡◌, ℕ, ◌+◌, ◌<◌, ◌≤◌, ◌⊎◌, inl, inr, ◌++◌, List, [], ◌∷◌, length, replicate, refl, sym, ◌∙◌, ap, ap₂, subst, arith}
use Rattle.std.proofs.lemmas.List.{get_or_past, get_or-replicate, length-replicate}
use Rattle.std.proofs.lemmas.List.FromFn.{map-range_with_len_more}
use Rattle.nf_num.specs.Rational.{ℚ, zero_ℚ}
use Rattle.nf_model.specs.Program.{LinearProgram, at}
use Rattle.nf_model.specs.Lists.{list_of}
use Rattle.nf_simplex.specs.Lists.{padded}
use Rattle.nf_simplex.specs.Standing.{Standing, rows_of}
use Rattle.nf_simplex.specs.Verdicts.{IsRowList}
use Rattle.nf_simplex.proofs.Orders.{yes_less, not_less, less_or_not}

pub none : (f : ℕ → ℚ) → list_of 0 f ≡ []
unfolding list_of
none f = refl

pub grown : (n : ℕ) (f : ℕ → ℚ) (xs ys : List ℚ) (v : ℚ) → xs ≡ list_of n f → v ≡ f n → ys ≡ xs ++ v ∷ [] → ys ≡ list_of (n + 1) f
unfolding list_of
grown n f xs ys v a b e = e ∙ ap₂ (λ s t. s ++ t ∷ []) a b ∙ sym (map-range_with_len_more f 0 n n (omega arith))

pub padded_at : (ys : List ℚ) (i : ℕ) → padded (length ys) (at ys) i ≡ at ys i
padded_at ys i = of (less_or_not i (length ys))
  where
    of : (i < length ys) ⊎ (length ys ≤ i) → padded (length ys) (at ys) i ≡ at ys i
    of (inl h) = yes_less i (length ys) (at ys i) zero_ℚ h
    of (inr h) = not_less i (length ys) (at ys i) zero_ℚ h ∙ sym (get_or_past ys i zero_ℚ h)

-- ---- a list by row
pub row_list : (p : LinearProgram) (s : Standing) (ys shown zs : List ℚ) → length ys ≡ rows_of p s → shown ≡ ys → zs ≡ list_of (length p.rows) (padded (length shown) (at shown)) → IsRowList p s (at ys) zs
row_list p s ys shown zs long same e = e ∙ (ap (λ (l : List ℚ). list_of (length p.rows) (padded (length l) (at l))) same ∙ ap (λ m. list_of (length p.rows) (padded m (at ys))) long)

pub zeros_at : (n : ℕ) (zs : List ℚ) (z : ℚ) → z ≡ zero_ℚ → zs ≡ replicate n z → (j : ℕ) → at zs j ≡ zero_ℚ
zeros_at n zs z is same j = ap (λ l. at l j) same ∙ of (less_or_not j n)
  where
    of : (j < n) ⊎ (n ≤ j) → at (replicate n z) j ≡ zero_ℚ
    of (inl h) = get_or-replicate n j z zero_ℚ h ∙ is
    of (inr h) = get_or_past (replicate n z) j zero_ℚ (subst (λ m. m ≤ j) (sym (length-replicate n z)) h)
