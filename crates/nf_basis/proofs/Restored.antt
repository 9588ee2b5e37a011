-- A load that has taken all wanted columns is the state's own basis; its values, and where their operations arise.
use Rattle.std.proofs.Common.{◌≡◌, ◌≢◌, ◌⊎◌, inl, inr, ℕ, zero, suc, ◌+◌, ◌-◌, ◌<◌, ◌≤◌, Bool, List, [], ◌∷◌, length, set, Option, Some, None, refl, sym, ap, ap₂, ◌∙◌, subst, arith}
use Rattle.std.proofs.lemmas.List.{get_or-set_same, get_or-set_other}
use Rattle.nf_num.specs.Rational.{ℚ, zero_ℚ, ◌+ℚ◌, ◌*ℚ◌, neg_ℚ}
use Rattle.nf_num.specs.Sum.{sum_ℚ, delta}
use Rattle.nf_frac.specs.declared.Passed.{Passed}
use Rattle.nf_model.specs.Program.{LinearProgram, at, row}
use Rattle.nf_model.specs.Problem.{IsProblem}
use Rattle.nf_sums.specs.Terms.{PassesIn}
use Rattle.nf_sums.proofs.Laws.{wider}
use Rattle.nf_inverse.specs.Weights.{weight, GivesEntries}
use Rattle.nf_inverse.specs.Causes.{EntryTerms}
use Rattle.nf_simplex.specs.Place as model
use Rattle.nf_simplex.specs.Place.{Place, Basic, count_basic, one_if_basic}
use Rattle.nf_simplex.specs.Stage.{Stage}
use Rattle.nf_simplex.specs.Layout.{layout_of}
use Rattle.nf_simplex.specs.Columns.{all_columns, col_at, col_lower, col_upper, slack_sign, sign}
use Rattle.nf_simplex.specs.Numbers.{StandsAt}
use Rattle.nf_simplex.specs.StageOf.{StageNumber, StageOne, StageTwo, rows_in}
use Rattle.nf_simplex.specs.Standing.{Standing, place_at, is_negative, stage_of, rows_of, IsStateOf, IsBasisOf, AreValuesOf}
use Rattle.nf_simplex.proofs.FieldLaws.{mul_comm}
use Rattle.nf_simplex.proofs.Terms.{v, nought, ◌:+◌, ◌:*◌, ring, mul-zero}
use Rattle.nf_simplex.proofs.Sum.{sum_ext, sum_zero, equal_or_not}
use Rattle.nf_simplex.proofs.Count.{not_basic_none}
use Rattle.nf_simplex.proofs.Basis.{basic_or_not, values_by_inverse}
use Rattle.nf_simplex.proofs.Fits.{layout_fits}
use Rattle.nf_simplex.proofs.Rows.{row_parts, given_sum}
use Rattle.nf_simplex.proofs.Slots.{spread, spread_at, spread_off}
use Rattle.nf_simplex.proofs.StageOf.{column_slack, column_artificial, column_cases}
use Rattle.nf_basis.specs.declared.col.Col.{Col}
use Rattle.nf_basis.specs.Arising.{IsLoadBasis, LoadTerms, StateTerms, IsRestNumber, AreRestNumbers, rest_at}
use Rattle.nf_basis.specs.Arising.StateTerms.{rest as rest_term}
use Rattle.nf_basis.specs.Arising.IsRestNumber.{bound as at_bound}
use Rattle.nf_basis.specs.Arising.IsRowFactor.{rest as rest_factor}
use Rattle.nf_basis.specs.Numbers.{slot_number, ListBasics}
use Rattle.nf_basis.specs.Dense.{IsInverseOf, HasParts, bound_number, bound_at, spread_values}
use Rattle.nf_basis.specs.Loading.{with_places, IsLoaded}
use Rattle.nf_basis.specs.Products.{AreProducts}
use Rattle.nf_basis.specs.AtBounds.{BoundTerms}
use Rattle.nf_basis.proofs.Inverse.{slots_are, inverse_column, are_inverse, inverse_at, entries_arise}
use Rattle.nf_basis.proofs.Pivoted.{values_by_one}
use Rattle.nf_basis.proofs.RestNumbers.{zero_number}
use Rattle.nf_basis.proofs.Spread.{value_off, values_stand}

-- ---- as many basic columns, and all of one among those of the other
one_less : (a b : Place) → (a ≡ Basic → b ≡ Basic) → one_if_basic a ≤ one_if_basic b
one_less a b f = of (basic_or_not a)
  where
    of : (a ≡ Basic) ⊎ (a ≢ Basic) → one_if_basic a ≤ one_if_basic b
    of (inl e) = let x : one_if_basic b ≡ 1 = ap one_if_basic (f e) in let y : one_if_basic a ≡ 1 = ap one_if_basic e in omega arith
    of (inr n) = let y = not_basic_none a n in omega arith

count_less : (n : ℕ) (s t : ℕ → Place) → ((j : ℕ) → j < n → s j ≡ Basic → t j ≡ Basic) → count_basic n s ≤ count_basic n t
count_less zero s t f = omega arith
count_less (suc n) s t f = let a = count_less n s t (λ j h. f j (omega arith)) in let b = one_less (s n) (t n) (f n (omega arith)) in omega arith

-- so they are the same.
pub same_basics : (n : ℕ) (s t : ℕ → Place) → ((j : ℕ) → j < n → s j ≡ Basic → t j ≡ Basic) → count_basic n t ≤ count_basic n s → (j : ℕ) → j < n → t j ≡ Basic → s j ≡ Basic
same_basics zero s t f most j h b = absurd (omega arith)
same_basics (suc n) s t f most j h b = of (below_last j n h) (same_basics n s t (λ i l. f i (omega arith)) less)
  where
    below_last : (j n : ℕ) → j < suc n → (j < n) ⊎ (j ≡ n)
    below_last j n h = grind arith

    less : count_basic n t ≤ count_basic n s
    less = let a = one_less (s n) (t n) (f n (omega arith)) in omega arith

    of : (j < n) ⊎ (j ≡ n) → ((i : ℕ) → i < n → t i ≡ Basic → s i ≡ Basic) → s j ≡ Basic
    of (inl l) ih = ih j l b
    of (inr e) ih = at (basic_or_not (s n))
      where
        at : (s n ≡ Basic) ⊎ (s n ≢ Basic) → s j ≡ Basic
        at (inl c) = ap s e ∙ c
        at (inr c) =
            let x = not_basic_none (s n) c in
            let y : one_if_basic (t n) ≡ 1 = ap one_if_basic (ap t (sym e) ∙ b) in
            let z = count_less n s t (λ i l. f i (omega arith)) in absurd (omega arith)

-- a number put after those that are right
pub number_put : (xs : List ℚ) (n m : ℕ) (f : ℕ → ℚ) (x : ℚ) → n < m → length xs ≡ m → ((i : ℕ) → i < n → at xs i ≡ f i) → x ≡ f n → (i : ℕ) → i < n + 1 → at (set xs n x) i ≡ f i
number_put xs n m f x h len before new i l = of (equal_or_not i n)
  where
    of : (i ≡ n) ⊎ (i ≢ n) → at (set xs n x) i ≡ f i
    of (inl e) = ap (at (set xs n x)) e ∙ (get_or-set_same xs n x zero_ℚ (subst (λ k. n < k) (sym len) h) ∙ (new ∙ ap f (sym e)))
    of (inr d) = get_or-set_other xs n i x zero_ℚ d ∙ before i (omega arith)

-- each number at its own place gives an inverse the list
pub own_entries : (gives : ℕ → ℕ × ℚ → Type 0) (count n : ℕ) (a : ℕ → ℚ) → count ≡ n → ((k : ℕ) (t : ℕ × ℚ) → gives k t → (t.0 ≡ k) × (t.1 ≡ a k)) → GivesEntries gives count n a
own_entries gives count n a same told = record {
  row = λ k. k;
  entries = λ k t h q. told k t q;
  within = λ k h. subst (λ m. k < m) same h;
  apart = λ j k h l e. e;
  rest = λ i h none. absurd (none i (subst (λ m. i < m) (sym same) h) refl);
}

idle_bound : (a : Place) → bound_number a (Some zero_ℚ) None ≡ zero_ℚ
idle_bound model.Lower = refl
idle_bound model.Upper = refl
idle_bound model.Zero = refl
idle_bound model.Absent = refl
idle_bound model.Basic = refl

bound_or_zero : (P : ℚ → Type 0) (a : Place) (l u : Option ℚ) → ((x : ℚ) → (l ≡ Some x) ⊎ (u ≡ Some x) → P x) → P zero_ℚ → P (bound_number a l u)
bound_or_zero P model.Lower (Some x) u f z = f x (inl refl)
bound_or_zero P model.Lower None u f z = z
bound_or_zero P model.Upper l (Some x) f z = f x (inr refl)
bound_or_zero P model.Upper l None f z = z
bound_or_zero P model.Zero l u f z = z
bound_or_zero P model.Absent l u f z = z
bound_or_zero P model.Basic l u f z = z

rows_within : (p : LinearProgram) (n : StageNumber) → p.nodes ≤ length p.rows → rows_in (layout_of p) n ≤ length p.rows
rows_within p StageOne h = h
rows_within p StageTwo h = omega arith

module _ (p : LinearProgram) (s : Standing) (ok : IsProblem p) (slots : List Col) (taken : List Bool) (w : List (List ℚ)) (h : IsLoaded p s (all_columns (layout_of p)) slots taken w)
    (as_many : count_basic (all_columns (layout_of p)) (place_at s) ≡ rows_of p s) where
  abbrev t : Standing
  t = with_places s h.places

  forth : (j : ℕ) → j < all_columns (layout_of p) → place_at s j ≡ Basic → place_at t j ≡ Basic
  forth j l b = let (k, m, a, e) = h.every j l b in subst (λ i. place_at t i ≡ Basic) e (h.listed.basic k m)

  back : (j : ℕ) → j < all_columns (layout_of p) → place_at t j ≡ Basic → place_at s j ≡ Basic
  back = same_basics (all_columns (layout_of p)) (place_at s) (place_at t) forth (let a = h.basis.as_many in omega arith)

  pub basis_end : IsBasisOf p s
  basis_end = record {
    as_many = as_many;
    independent = λ x of_basics null. h.basis.independent x (λ j l n. of_basics j l (λ b. n (forth j l b))) null;
  }

  pub listed_end : ListBasics p s slots
  listed_end = record {
    as_many = h.listed.as_many;
    present = h.listed.present;
    basic = λ k m. back (slot_number p slots k) ((slots_are p t slots ok h.listed).within k m) (h.listed.basic k m);
    distinct = h.listed.distinct;
    every = λ j l b. h.listed.every j l (forth j l b);
  }

  pub inverse_end : IsInverseOf p s slots w
  inverse_end = record { size = h.inverse.size; right = h.inverse.right; left = h.inverse.left }

-- A basis is a basis of its own load: its values, and where their operations arise.
module _ (p : LinearProgram) (s : Standing) (ok : IsProblem p) (slots : List Col) (w : List (List ℚ)) (basis : IsBasisOf p s) (listed : ListBasics p s slots) (inverse : IsInverseOf p s slots w) (st : IsStateOf p s) where
  own_load : IsLoadBasis p s s
  own_load = record {
    same_stage = refl;
    same_signs = refl;
    state = st;
    basis = basis;
    keeps = record { nonbasic = λ j l n o. refl; waiting = λ j l n b. absurd (n b) };
    wanted = λ j l b. inl b;
  }

  pub in_load : (c : Passed) → PassesIn (StateTerms p s) c → PassesIn (LoadTerms p s) c
  in_load c = wider (StateTerms p s) (LoadTerms p s) c (λ row a. (s, own_load, a))

  S : Stage
  S = stage_of p s

  abbrev z : ℕ → ℚ
  z = bound_at p s

  abbrev W : ℕ → ℕ → ℚ
  W = inverse_column p s slots w ok listed inverse basis.independent

  stands : (j : ℕ) → j < all_columns (layout_of p) → StandsAt (place_at s j) ((stage_of p s).lower j) ((stage_of p s).upper j) (bound_at p s j)
  stands j l = of (basic_or_not (place_at s j))
    where
      of : (place_at s j ≡ Basic) ⊎ (place_at s j ≢ Basic) → StandsAt (place_at s j) ((stage_of p s).lower j) ((stage_of p s).upper j) (bound_at p s j)
      of (inl b) = subst (λ a. StandsAt a ((stage_of p s).lower j) ((stage_of p s).upper j) (bound_at p s j)) (sym b) tt
      of (inr n) = subst (StandsAt (place_at s j) ((stage_of p s).lower j) ((stage_of p s).upper j)) (value_off p s slots ok listed [] j n) (values_stand p s slots ok listed [] st j l)

  lack : ℕ → ℚ
  lack r = (stage_of p s).right r +ℚ neg_ℚ (sum_ℚ (all_columns (layout_of p)) (λ q. bound_at p s q *ℚ (stage_of p s).entry q r))

  found : ℕ → ℚ
  found j = bound_at p s j +ℚ sum_ℚ (rows_of p s) (λ r. lack r *ℚ W r j)

  are_found : AreValuesOf p s found
  unfolding found lack
  are_found = values_by_inverse (stage_of p s) (place_at s) W (are_inverse p s slots w ok listed inverse basis.independent) (bound_at p s) stands

  -- ---- the rests
  idle : (j : ℕ) → (layout_of p).columns ≤ j → j < all_columns (layout_of p) → bound_at p s j ≡ zero_ℚ
  idle j a l = of (column_cases (layout_of p) j l)
    where
      of : (j < (layout_of p).columns) ⊎ (((q : ℕ) × (j ≡ (layout_of p).columns + q) × (q < (layout_of p).sides)) ⊎ ((i : ℕ) × (j ≡ (layout_of p).columns + (layout_of p).sides + i) × (i < (layout_of p).nodes + (layout_of p).sides))) → bound_at p s j ≡ zero_ℚ
      of (inl x) = absurd (omega arith)
      of (inr (inl (q, e, x))) = ap (λ c. bound_number (place_at s j) (col_lower (layout_of p) c) (col_upper (layout_of p) c)) (ap (col_at (layout_of p)) e ∙ column_slack (layout_of p) q x) ∙ idle_bound (place_at s j)
      of (inr (inr (i, e, x))) = ap (λ c. bound_number (place_at s j) (col_lower (layout_of p) c) (col_upper (layout_of p) c)) (ap (col_at (layout_of p)) e ∙ column_artificial (layout_of p) i) ∙ idle_bound (place_at s j)

  few_rows : rows_of p s ≤ length p.rows
  few_rows = rows_within p s.stage ok.nodes_within

  lack_is : (r : ℕ) → r < rows_of p s → lack r ≡ rest_at p (bound_at p s) r
  unfolding lack
  lack_is r l =
      ap (λ x. (row p r).right +ℚ neg_ℚ x)
      (row_parts (layout_of p) (layout_fits p ok) (is_negative s) (bound_at p s) r inside
      ∙ (ap₂ (λ x y. given_sum (layout_of p) (bound_at p s) r +ℚ slack_sign ((layout_of p).kind r) *ℚ x +ℚ sign (is_negative s r) *ℚ y) (idle ((layout_of p).columns + (r - p.nodes)) (omega arith) (let i = inside in omega arith)) (idle ((layout_of p).columns + (layout_of p).sides + r) (omega arith) (let i = inside in omega arith))
      ∙ ring (given_sum (layout_of p) (bound_at p s) r ∷ slack_sign ((layout_of p).kind r) ∷ sign (is_negative s r) ∷ []) (v 0 :+ v 1 :* nought :+ v 2 :* nought) (v 0) refl))
    where
      inside : r < (layout_of p).nodes + (layout_of p).sides
      inside = let a = few_rows in let b = ok.nodes_within in omega arith

  pub numbers : AreRestNumbers p s (bound_at p s)
  numbers j l = bound_or_zero (IsRestNumber p s j) (place_at s j) ((stage_of p s).lower j) ((stage_of p s).upper j) (λ x b. at_bound x b) (zero_number p s found are_found j)

  pub rests_arise : (c : Passed) → PassesIn (BoundTerms p s) c → PassesIn (LoadTerms p s) c
  rests_arise c x = in_load c (wider (BoundTerms p s) (StateTerms p s) c (λ row (i, l, e). subst (StateTerms p s) (sym e) (rest_term i (bound_at p s) l numbers)) x)

  module _ (rests : List ℚ) (are_rests : (i : ℕ) → i < rows_of p s → at rests i ≡ rest_at p (bound_at p s) i) where
    pub values_arise : (c : Passed) → PassesIn (EntryTerms w (at rests)) c → PassesIn (LoadTerms p s) c
    values_arise c x = in_load c (entries_arise p s slots w ok listed inverse basis.independent (at rests) c (λ r l. rest_factor (at rests r) (bound_at p s) numbers (are_rests r l)) x)

    pub parts_end : (xs : List ℚ) → length xs ≡ rows_of p s → AreProducts w (at rests) xs → HasParts p s slots w xs
    unfolding spread found
    parts_end xs size products = record {
      basics = record {
        basis = basis;
        listed = listed;
        value_each = size;
        values = values_by_one p s found (spread_values p s slots xs) (λ j l. ap (λ x. bound_at p s j +ℚ x) (inner j l (basic_or_not (place_at s j)))) are_found;
      };
      inverse = inverse;
    }
      where
        inner : (j : ℕ) → j < all_columns (layout_of p) → (place_at s j ≡ Basic) ⊎ (place_at s j ≢ Basic) → sum_ℚ (rows_of p s) (λ k. delta (slot_number p slots k) j *ℚ at xs k) ≡ sum_ℚ (rows_of p s) (λ r. lack r *ℚ W r j)
        inner j l (inr n) = spread_off (rows_of p s) (all_columns (layout_of p)) (place_at s) (slot_number p slots) (slots_are p s slots ok listed) (at xs) j n
            ∙ sym (sum_zero (rows_of p s) _ (λ r m. ap (λ x. lack r *ℚ x) ((are_inverse p s slots w ok listed inverse basis.independent r m).of_basics j l n) ∙ mul-zero (lack r)))
        inner j l (inl b) = let (k, m, e) = listed.every j l b in subst (λ i. sum_ℚ (rows_of p s) (λ k. delta (slot_number p slots k) i *ℚ at xs k) ≡ sum_ℚ (rows_of p s) (λ r. lack r *ℚ W r i)) e
            (spread_at (rows_of p s) (all_columns (layout_of p)) (place_at s) (slot_number p slots) (slots_are p s slots ok listed) (at xs) k m
            ∙ (products k (subst (λ n. k < n) (sym inverse.size) m)
            ∙ (ap (λ n. sum_ℚ n (λ i. weight w k i *ℚ at rests i)) inverse.size
            ∙ sum_ext (rows_of p s) _ _ (λ i x. mul_comm (weight w k i) (at rests i) ∙ ap₂ (λ a b. a *ℚ b) (are_rests i x ∙ sym (lack_is i x)) (sym (inverse_at p s slots w ok listed inverse basis.independent i k m))))))
