-- Coefficients that are added one after the other are the entries of the columns in the constraints.
use Rattle.std.proofs.Common.{◌≡◌, ◌≢◌, ◌<◌, ◌≤◌, ◌+◌, ◌++◌, ◌&&◌, ◌⊎◌, ◌∙◌, ℕ, zero, suc, Bool, true, false, cond, List, [], ◌∷◌, None, length, take, get_or, nat_eq, nat_lt, refl, sym, ap, ap₂, inl, inr, arith}
use Rattle.std.proofs.lemmas.Bool.{false≢true, cases_Bool, cases_lt}
use Rattle.std.proofs.lemmas.Bool.Decides.{Decides-eqb}
use Rattle.std.proofs.lemmas.Grind.{flat_map-append}
use Rattle.std.proofs.lemmas.List.{append-nil, get_or-set_same, get_or-set_other, take_all, take_more}
use Rattle.std.proofs.lemmas.List.Elements.{All-append, All-cons, All-get_or, All-head, All-nil, All-tail, All-weaker}
use Rattle.std.proofs.lemmas.List.FromFn.{fill_by_all}
use Rattle.std.specs.List.{All, flat_map, list_any}
use Rattle.nf_num.specs.Rational.{zero_ℚ}
use Rattle.nf_frac.specs.Amounts.{amount_value}
use Rattle.nf_model.specs.Program.{Column, Entry, LinearProgram, column}
use Rattle.nf_prob.specs.Building.{inserted}
use Rattle.nf_network.specs.Excess.{joined_below}
use Rattle.nf_network.proofs.Lists.{joined-empty}
use Rattle.nf_cons.specs.declared.taken.Coefficient.{Coefficient}
use Rattle.nf_cons.specs.Constrained.{column_of, column_with, entry_of, side_entries, with_coefficients}
use Rattle.nf_cons.specs.Making.{HasEntriesBelow, IsPlaced, are_apart, same_place, with_entries_of, with_entry_of}
use Rattle.nf_cons.proofs.EntryFacts.{apart-at, coef-columns, coef-more, coef-shape, column-inside, columns-apart}

abbrev no_column : Column
no_column = record { cost = zero_ℚ; lower = None; upper = None; ends = None; entries = [] }

-- ---- an entry among others
-- An entry is put after those of lower rows, and before those of higher rows.
after-lower : (e : Entry) (xs ys : List Entry) → All (λ d. d.row < e.row) xs → inserted (xs ++ ys) e ≡ xs ++ inserted ys e
unfolding inserted
after-lower e [] ys h = refl
after-lower e (x ∷ xs) ys h =
    let less : x.row < e.row = All-head (λ d. d.row < e.row) x xs h in
    let no : nat_lt e.row x.row ≡ false = grind (arith, less) in
    rw no (ap (λ (l : List Entry). x ∷ l) (after-lower e xs ys (All-tail (λ d. d.row < e.row) x xs h)))

before-higher : (e : Entry) (xs ys : List Entry) → All (λ d. e.row < d.row) ys → inserted (xs ++ ys) e ≡ inserted xs e ++ ys
unfolding inserted
before-higher e [] [] h = refl
before-higher e [] (y ∷ ys) h =
    let less : e.row < y.row = All-head (λ d. e.row < d.row) y ys h in
    let yes : nat_lt e.row y.row ≡ true = grind (arith, less) in
    rw yes refl
before-higher e (x ∷ xs) ys h = by_test (nat_lt e.row x.row) (before-higher e xs ys h)
  where
    by_test : (b : Bool) → inserted (xs ++ ys) e ≡ inserted xs e ++ ys → cond b (e ∷ x ∷ xs ++ ys) (x ∷ inserted (xs ++ ys) e) ≡ cond b (e ∷ x ∷ xs) (x ∷ inserted xs e) ++ ys
    by_test true rest = refl
    by_test false rest = ap (λ (l : List Entry). x ∷ l) rest

same-joined : (n : ℕ) (f g : ℕ → List Entry) → ((k : ℕ) → k < n → f k ≡ g k) → joined_below n f ≡ joined_below n g
unfolding joined_below
same-joined zero f g h = refl
same-joined (suc n) f g h = ap₂ (λ (xs ys : List Entry). xs ++ ys) (same-joined n f g (λ k below. h k (omega (arith, below)))) (h n (omega arith))

all-joined : (P : Entry → Type 0) (n : ℕ) (f : ℕ → List Entry) → ((k : ℕ) → k < n → All P (f k)) → All P (joined_below n f)
unfolding joined_below
all-joined P zero f h = All-nil P
all-joined P (suc n) f h = All-append P (joined_below n f) (f n) (all-joined P n f (λ k below. h k (omega (arith, below)))) (h n (omega arith))

-- Where list k has entries of row r + k alone, an entry of an empty list is put there.
insert-joined : (r n i : ℕ) (f g : ℕ → List Entry) (e : Entry) → i < n → e.row ≡ r + i → ((k : ℕ) → All (λ d. d.row ≡ r + k) (f k)) → f i ≡ [] → g i ≡ e ∷ [] → ((k : ℕ) → k ≢ i → f k ≡ g k)
    → inserted (joined_below n f) e ≡ joined_below n g
unfolding joined_below inserted
insert-joined r zero i f g e inside row rows none one others = absurd (omega (arith, inside))
insert-joined r (suc n) i f g e inside row rows none one others = by_cases (cases_lt i n) (insert-joined r n i f g e)
  where
    by_cases : (i < n) ⊎ (n ≤ i)
        → (i < n → e.row ≡ r + i → ((k : ℕ) → All (λ d. d.row ≡ r + k) (f k)) → f i ≡ [] → g i ≡ e ∷ [] → ((k : ℕ) → k ≢ i → f k ≡ g k) → inserted (joined_below n f) e ≡ joined_below n g)
        → inserted (joined_below n f ++ f n) e ≡ joined_below n g ++ g n
    by_cases (inl less) before =
        let high : All (λ d. e.row < d.row) (f n) = All-weaker (λ d. d.row ≡ r + n) (λ d. e.row < d.row) (λ d q. omega (arith, q, row, less)) (f n) (rows n) in
        before-higher e (joined_below n f) (f n) high ∙ ap₂ (λ (xs ys : List Entry). xs ++ ys) (before less row rows none one others) (others n (λ q. omega (arith, q, less)))
    by_cases (inr more) before =
        let here : i ≡ n = omega (arith, more, inside) in
        let low : All (λ d. d.row < e.row) (joined_below n f) =
        all-joined (λ d. d.row < e.row) n f (λ k below. All-weaker (λ d. d.row ≡ r + k) (λ d. d.row < e.row) (λ d q. omega (arith, q, row, below, here)) (f k) (rows k)) in
        after-lower e (joined_below n f) (f n) low ∙ ap (λ (l : List Entry). joined_below n f ++ inserted l e) (ap f (sym here) ∙ none)
        ∙ ap₂ (λ (xs ys : List Entry). xs ++ ys) (same-joined n f g (λ k below. others k (λ q. omega (arith, q, here, below)))) (sym (ap g (sym here) ∙ one))

-- ---- the entries of coefficients
module _ (a n r : ℕ) where
  entries-rows : (j i : ℕ) (cs : List Coefficient) → All (λ d. d.row ≡ r + i) (flat_map (entry_of a n r j i) cs)
  entries-rows j i [] = All-nil (λ d. d.row ≡ r + i)
  entries-rows j i (c ∷ cs) =
      All-append (λ d. d.row ≡ r + i) (entry_of a n r j i c) (flat_map (entry_of a n r j i) cs) (by_test (nat_eq j (column_of a n c.variable) && nat_eq i c.constraint)) (entries-rows j i cs)
    where
      by_test : (b : Bool) → All {X = Entry} (λ d. d.row ≡ r + i) (cond b (record { row = r + i; value = amount_value c.value } ∷ []) [])
      by_test true = All-cons (λ d. d.row ≡ r + i) (record { row = r + i; value = amount_value c.value }) [] refl (All-nil (λ d. d.row ≡ r + i))
      by_test false = All-nil (λ d. d.row ≡ r + i)

  -- Coefficients of other places are no entries of this place.
  none-apart : (c : Coefficient) (cs : List Coefficient) → a ≤ n → list_any (λ e. same_place e c) cs ≡ false → flat_map (entry_of a n r (column_of a n c.variable) c.constraint) cs ≡ []
  none-apart c [] few h = refl
  none-apart c (e ∷ es) few h =
      by_cases (cases_Bool (same_place e c)) (cases_Bool (nat_eq (column_of a n c.variable) (column_of a n e.variable) && nat_eq c.constraint e.constraint)) (none-apart c es few)
    where
      both : (s t : Bool) → (s && t) ≡ true → (s ≡ true) × (t ≡ true)
      both true true q = (refl, refl)
      both true false q = absurd (false≢true q)
      both false t q = absurd (false≢true q)

      by_cases : (same_place e c ≡ true) ⊎ (same_place e c ≡ false)
          → ((nat_eq (column_of a n c.variable) (column_of a n e.variable) && nat_eq c.constraint e.constraint) ≡ true) ⊎ ((nat_eq (column_of a n c.variable) (column_of a n e.variable) && nat_eq c.constraint e.constraint) ≡ false)
          → (list_any (λ q. same_place q c) es ≡ false → flat_map (entry_of a n r (column_of a n c.variable) c.constraint) es ≡ [])
          → flat_map (entry_of a n r (column_of a n c.variable) c.constraint) (e ∷ es) ≡ []
      by_cases (inl s) t before = absurd (false≢true (sym (rw s at h)))
      by_cases (inr s) (inl t) before =
          let parts = both (nat_eq (column_of a n c.variable) (column_of a n e.variable)) (nat_eq c.constraint e.constraint) t in
          let variables : e.variable ≡ c.variable = columns-apart a n e.variable c.variable few (sym ((Decides-eqb (column_of a n c.variable) (column_of a n e.variable)).0 parts.0)) in
          let v : nat_eq e.variable c.variable ≡ true = (Decides-eqb e.variable c.variable).1 variables in
          let q : nat_eq e.constraint c.constraint ≡ true = (Decides-eqb e.constraint c.constraint).1 (sym ((Decides-eqb c.constraint e.constraint).0 parts.1)) in
          let place : same_place e c ≡ true = rw (v, q) refl in
          absurd (false≢true (sym s ∙ place))
      by_cases (inr s) (inr t) before = rw t (before (rw s at h))

  -- One coefficient more is an entry of its place, and of no other.
  entry-more : (j i : ℕ) (cs : List Coefficient) (c : Coefficient) → flat_map (entry_of a n r j i) (cs ++ c ∷ []) ≡ flat_map (entry_of a n r j i) cs ++ entry_of a n r j i c
  entry-more j i cs c = flat_map-append (entry_of a n r j i) cs (c ∷ []) ∙ ap (λ (l : List Entry). flat_map (entry_of a n r j i) cs ++ l) (append-nil (entry_of a n r j i c))

  other-entry : (j i : ℕ) (cs : List Coefficient) (c : Coefficient) → (nat_eq j (column_of a n c.variable) && nat_eq i c.constraint) ≡ false
      → flat_map (entry_of a n r j i) cs ≡ flat_map (entry_of a n r j i) (cs ++ c ∷ [])
  other-entry j i cs c h =
      let none : flat_map (entry_of a n r j i) cs ++ entry_of a n r j i c ≡ flat_map (entry_of a n r j i) cs = rw h (append-nil (flat_map (entry_of a n r j i) cs)) in
      sym (entry-more j i cs c ∙ none)

  same-test : (k : ℕ) → nat_eq k k ≡ true
  same-test k = (Decides-eqb k k).1 refl

  other-test : (k l : ℕ) → k ≢ l → nat_eq k l ≡ false
  other-test k l h = by_cases (cases_Bool (nat_eq k l))
    where
      by_cases : (nat_eq k l ≡ true) ⊎ (nat_eq k l ≡ false) → nat_eq k l ≡ false
      by_cases (inl e) = absurd (h ((Decides-eqb k l).0 e))
      by_cases (inr e) = e

  and-false : (b : Bool) → (b && false) ≡ false
  and-false true = refl
  and-false false = refl

  -- The entries of a column with one coefficient more, of this column or of another.
  entries-here : (q : ℕ) (cs : List Coefficient) (c : Coefficient) → a ≤ n → c.constraint < q → list_any (λ e. same_place e c) cs ≡ false
      → inserted (side_entries a n r q cs (column_of a n c.variable)) (record { row = r + c.constraint; value = amount_value c.value }) ≡ side_entries a n r q (cs ++ c ∷ []) (column_of a n c.variable)
  entries-here q cs c few inside apart =
      let j = column_of a n c.variable in
      let none = none-apart c cs few apart in
      let v : nat_eq (column_of a n c.variable) (column_of a n c.variable) ≡ true = same-test (column_of a n c.variable) in
      let w : nat_eq c.constraint c.constraint ≡ true = same-test c.constraint in
      let e : Entry = record { row = r + c.constraint; value = amount_value c.value } in
      let last : flat_map (entry_of a n r (column_of a n c.variable) c.constraint) cs ++ entry_of a n r (column_of a n c.variable) c.constraint c ≡ e ∷ [] = rw (none, v, w) refl in
      insert-joined r q c.constraint (λ i. flat_map (entry_of a n r j i) cs) (λ i. flat_map (entry_of a n r j i) (cs ++ c ∷ [])) e inside refl
      (λ k. entries-rows j k cs) none (entry-more j c.constraint cs c ∙ last)
      (λ k d. other-entry j k cs c (ap (λ b. nat_eq j j && b) (other-test k c.constraint d) ∙ and-false (nat_eq j j)))

  entries-other : (q : ℕ) (cs : List Coefficient) (c : Coefficient) (j : ℕ) → nat_eq j (column_of a n c.variable) ≡ false → side_entries a n r q cs j ≡ side_entries a n r q (cs ++ c ∷ []) j
  entries-other q cs c j h =
      same-joined q (λ i. flat_map (entry_of a n r j i) cs) (λ i. flat_map (entry_of a n r j i) (cs ++ c ∷ [])) (λ k below. other-entry j k cs c (ap (λ b. b && nat_eq k c.constraint) h))

-- ---- the program
module _ (a n r m q : ℕ) (p : LinearProgram) (cs : List Coefficient) (few : a ≤ n) (wide : n + m ≤ length p.columns) (placed : All (IsPlaced (a + m) q) cs) (apart : are_apart cs ≡ true)
    (entries : 0 < q → All (HasEntriesBelow r) p.columns) (d : Coefficient) where
  place : (k : ℕ) → k < length cs → IsPlaced (a + m) q (get_or cs k d)
  place k below = All-get_or (IsPlaced (a + m) q) cs k d below placed

  inside : (k : ℕ) → k < length cs → column_of a n (get_or cs k d).variable < length p.columns
  inside k below = omega (arith, column-inside a n m (get_or cs k d).variable few (place k below).0, wide)

  -- The column of a coefficient, with it.
  put-here : (k : ℕ) → k < length cs → (c : Column) → c ≡ column_with a n r q (take k cs) p (column_of a n (get_or cs k d).variable)
      → record c { entries = inserted c.entries (record { row = r + (get_or cs k d).constraint; value = amount_value (get_or cs k d).value }) }
      ≡ column_with a n r q (take k cs ++ get_or cs k d ∷ []) p (column_of a n (get_or cs k d).variable)
  put-here k below c is =
      let j = column_of a n (get_or cs k d).variable in
      let e : Entry = record { row = r + (get_or cs k d).constraint; value = amount_value (get_or cs k d).value } in
      let some : 0 < q = omega (arith, (place k below).1) in
      let low : All (λ x. x.row < r + (get_or cs k d).constraint) (column p j).entries =
      All-weaker (λ x. x.row < r) (λ x. x.row < r + (get_or cs k d).constraint) (λ x h. omega (arith, h)) (column p j).entries (All-get_or (HasEntriesBelow r) p.columns j no_column (inside k below) (entries some)) in
      ap (λ (b : Column). record b { entries = inserted b.entries e }) is
      ∙ ap (λ (l : List Entry). record (column p j) { entries = l })
      (after-lower e (column p j).entries (side_entries a n r q (take k cs) j) low
      ∙ ap (λ (l : List Entry). (column p j).entries ++ l) (entries-here a n r q (take k cs) (get_or cs k d) few (place k below).1 (apart-at cs k d apart below)))

  filled-to : (k : ℕ) → k ≤ length cs → (j : ℕ) → j < length p.columns → column (with_entries_of a n r p (take k cs)) j ≡ column_with a n r q (take k cs) p j
  filled-to zero most j below = rw (joined-empty {A = Entry} q (λ i. []) (λ i h. refl), append-nil (column p j).entries) refl
  filled-to (suc k) most j below =
      rw next
      (sym (ap (λ b. column b j) (coef-more a n r p cs k d here)) ∙ by_cases (cases_Bool (nat_eq j (column_of a n (get_or cs k d).variable))) (filled-to k (omega (arith, most)))
      ∙ ap (λ (l : List Coefficient). column_with a n r q l p j) (sym (take_more cs k d here)))
    where
      next : suc k ≡ k + 1
      next = omega arith

      here : k < length cs
      here = omega (arith, most)

      by_cases : (nat_eq j (column_of a n (get_or cs k d).variable) ≡ true) ⊎ (nat_eq j (column_of a n (get_or cs k d).variable) ≡ false)
          → ((i : ℕ) → i < length p.columns → column (with_entries_of a n r p (take k cs)) i ≡ column_with a n r q (take k cs) p i)
          → column (with_entry_of a n r (with_entries_of a n r p (take k cs)) (get_or cs k d)) j ≡ column_with a n r q (take k cs ++ get_or cs k d ∷ []) p j
      by_cases (inl e) before =
          let same : j ≡ column_of a n (get_or cs k d).variable = (Decides-eqb j (column_of a n (get_or cs k d).variable)).0 e in
          let size = coef-columns a n r p (take k cs) in
          rw same
          (get_or-set_same (with_entries_of a n r p (take k cs)).columns (column_of a n (get_or cs k d).variable) _ no_column (omega (arith, size, inside k here))
          ∙ put-here k here (column (with_entries_of a n r p (take k cs)) (column_of a n (get_or cs k d).variable)) (before (column_of a n (get_or cs k d).variable) (inside k here)))
      by_cases (inr e) before =
          let away : j ≢ column_of a n (get_or cs k d).variable = λ s. false≢true (sym e ∙ (Decides-eqb j (column_of a n (get_or cs k d).variable)).1 s) in
          get_or-set_other (with_entries_of a n r p (take k cs)).columns (column_of a n (get_or cs k d).variable) j _ no_column away
          ∙ before j below
          ∙ ap (λ (l : List Entry). record (column p j) { entries = (column p j).entries ++ l }) (entries-other a n r q (take k cs) (get_or cs k d) j e)

  pub filled : with_entries_of a n r p cs ≡ with_coefficients a n r q cs p
  filled =
      let all : take (length cs) cs ≡ cs = take_all (length cs) cs (omega arith) in
      coef-shape a n r p cs
      ∙ ap (λ (l : List Column). record p { columns = l })
      (fill_by_all (column_with a n r q cs p) (with_entries_of a n r p cs).columns (length p.columns) no_column (coef-columns a n r p cs)
      (λ j below. rw all at (filled-to (length cs) (omega arith) j below)))
