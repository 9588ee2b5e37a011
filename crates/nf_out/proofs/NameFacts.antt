-- The columns of ARCOUT and CONOUT: no name stands among them twice.
use Rattle.std.proofs.Common.{◌≡◌, ◌∙◌, ◌<◌, ◌≤◌, ◌+◌, ◌^◌, ◌++◌, ◌∷◌, ◌⊎◌, inl, inr, ℕ, zero, suc, Bool, true, false, List, [], length, map, None, refl, ap, sym, subst, arith, append_assoc, length-append}
use Rattle.std.specs.Prelude.{codes, filter, get_or, not}
use Rattle.std.specs.List.{All, list_any, range_with_len}
use Rattle.std.specs.Str.{str_to_ascii_lowercase}
use Rattle.std.proofs.lemmas.Bool.{cases_Bool}
use Rattle.std.proofs.lemmas.List.{append-nil, map-append}
use Rattle.std.proofs.lemmas.List.Elements.{All-append, All-cons, All-from_recursion, All-nil}
use Rattle.std.proofs.lemmas.Slice.Eq.{bytes_eq-Decides}
use Rattle.nf_labels.specs.Labels.{LabelList}
use Rattle.nf_table.specs.Grid.{Cells, same_name}
use Rattle.nf_table.specs.Reading.{repeated_after, repeated_column}
use Rattle.nf_out.specs.declared.fields.ArcField.{ArcField}
use Rattle.nf_out.specs.declared.fields.ArcField.TheVariants as field
use Rattle.nf_out.specs.Arcs.{IsFieldOf, arc_fields, arc_name, first_fields, flow_fields, id_fields, is_copied, one_id, own_names, status_fields, under}

-- ---- names
same-back : (x y : List ℕ) → same_name x y ≡ false → same_name y x ≡ false
same-back x y e = of (cases_Bool (same_name y x))
  where
    of : (same_name y x ≡ true) ⊎ (same_name y x ≡ false) → same_name y x ≡ false
    of (inr f) = f
    of (inl t) = cc (sym e ∙ (bytes_eq-Decides (str_to_ascii_lowercase x) (str_to_ascii_lowercase y)).1 (sym ((bytes_eq-Decides (str_to_ascii_lowercase y) (str_to_ascii_lowercase x)).0 t)))

module _ {A : Type 0} (test : A → Bool) where
  any-at : (xs : List A) (k : ℕ) (d : A) → list_any test xs ≡ false → k < length xs → test (get_or xs k d) ≡ false
  any-at [] k d e h = absurd (omega (arith, h))
  any-at (x ∷ xs) k d e h = of (cases_Bool (test x)) k h (λ r j l. any-at xs j d r l)
    where
      of : (test x ≡ true) ⊎ (test x ≡ false) → (k : ℕ) → k < suc (length xs) → (list_any test xs ≡ false → (j : ℕ) → j < length xs → test (get_or xs j d) ≡ false) → test (get_or (x ∷ xs) k d) ≡ false
      of (inl t) k h again = cc (rw t at e)
      of (inr f) zero h again = f
      of (inr f) (suc k) h again = again (rw f at e) k (omega (arith, h))

  any-append : (xs ys : List A) → list_any test xs ≡ false → list_any test ys ≡ false → list_any test (xs ++ ys) ≡ false
  any-append [] ys h k = k
  any-append (x ∷ xs) ys h k = of (cases_Bool (test x)) (λ g. any-append xs ys g k)
    where
      of : (test x ≡ true) ⊎ (test x ≡ false) → (list_any test xs ≡ false → list_any test (xs ++ ys) ≡ false) → list_any test (x ∷ (xs ++ ys)) ≡ false
      of (inl t) again = absurd (let e : true ≡ false = (rw t at h) in cc)
      of (inr f) again = rw f (again (rw f at h))

  any-first : (xs ys : List A) → list_any test (xs ++ ys) ≡ false → list_any test xs ≡ false
  any-first [] ys e = refl
  any-first (x ∷ xs) ys e = of (cases_Bool (test x)) e (any-first xs ys)
    where
      of : (test x ≡ true) ⊎ (test x ≡ false) → list_any test (x ∷ (xs ++ ys)) ≡ false → (list_any test (xs ++ ys) ≡ false → list_any test xs ≡ false) → list_any test (x ∷ xs) ≡ false
      of (inl t) k again = cc (rw t at k)
      of (inr f) k again = rw f (again (rw f at k))

  any-second : (xs ys : List A) → list_any test (xs ++ ys) ≡ false → list_any test ys ≡ false
  any-second [] ys e = e
  any-second (x ∷ xs) ys e = of (cases_Bool (test x)) e (any-second xs ys)
    where
      of : (test x ≡ true) ⊎ (test x ≡ false) → list_any test (x ∷ (xs ++ ys)) ≡ false → (list_any test (xs ++ ys) ≡ false → list_any test ys ≡ false) → list_any test ys ≡ false
      of (inl t) k again = cc (rw t at k)
      of (inr f) k again = again (rw f at k)

-- ---- lists without repeated names
after-append : (before xs ys : Cells) → repeated_after before xs ≡ None → repeated_after (before ++ xs) ys ≡ None → repeated_after before (xs ++ ys) ≡ None
unfolding repeated_after
after-append before [] ys a b = ap (λ l. repeated_after l ys) (sym (append-nil before)) ∙ b
after-append before (x ∷ xs) ys a b =
    of (cases_Bool (list_any (same_name x) before)) a (λ r. after-append (before ++ x ∷ []) xs ys r (ap (λ l. repeated_after l ys) (append_assoc before (x ∷ []) xs) ∙ b))
  where
    of : (list_any (same_name x) before ≡ true) ⊎ (list_any (same_name x) before ≡ false) → repeated_after before (x ∷ xs) ≡ None
        → (repeated_after (before ++ x ∷ []) xs ≡ None → repeated_after (before ++ x ∷ []) (xs ++ ys) ≡ None) → repeated_after before (x ∷ (xs ++ ys)) ≡ None
    of (inl t) r again = cc (rw t at r)
    of (inr f) r again = rw f (again (rw f at r))

after-front : (before xs ys : Cells) → repeated_after before (xs ++ ys) ≡ None → repeated_after before xs ≡ None
unfolding repeated_after
after-front before [] ys a = refl
after-front before (x ∷ xs) ys a = of (cases_Bool (list_any (same_name x) before)) a (after-front (before ++ x ∷ []) xs ys)
  where
    of : (list_any (same_name x) before ≡ true) ⊎ (list_any (same_name x) before ≡ false) → repeated_after before (x ∷ (xs ++ ys)) ≡ None
        → (repeated_after (before ++ x ∷ []) (xs ++ ys) ≡ None → repeated_after (before ++ x ∷ []) xs ≡ None) → repeated_after before (x ∷ xs) ≡ None
    of (inl t) r again = cc (rw t at r)
    of (inr f) r again = rw f (again (rw f at r))

nothing-after : (before : Cells) → repeated_after before [] ≡ None
unfolding repeated_after
nothing-after before = refl

one-after : (before : Cells) (x : List ℕ) → list_any (same_name x) before ≡ false → repeated_after before (x ∷ []) ≡ None
unfolding repeated_after
one-after before x f = rw f refl

-- Other names between do not matter if none is repeated among them.
after-between : (before mid after xs : Cells) → repeated_after (before ++ after) xs ≡ None → ((k : ℕ) → k < length xs → list_any (same_name (get_or xs k [])) mid ≡ false) → repeated_after (before ++ (mid ++ after)) xs ≡ None
unfolding repeated_after
after-between before mid after [] a n = refl
after-between before mid after (x ∷ xs) a n =
    of (cases_Bool (list_any (same_name x) (before ++ after))) a
    (λ r. after-between before mid (after ++ x ∷ []) xs (ap (λ l. repeated_after l xs) (sym (append_assoc before after (x ∷ []))) ∙ r) (λ k h. n (suc k) (omega (arith, h))))
  where
    of : (list_any (same_name x) (before ++ after) ≡ true) ⊎ (list_any (same_name x) (before ++ after) ≡ false) → repeated_after (before ++ after) (x ∷ xs) ≡ None
        → (repeated_after ((before ++ after) ++ x ∷ []) xs ≡ None → repeated_after (before ++ (mid ++ (after ++ x ∷ []))) xs ≡ None) → repeated_after (before ++ (mid ++ after)) (x ∷ xs) ≡ None
    of (inl t) r again = cc (rw t at r)
    of (inr f) r again =
        rw (any-append (same_name x) before (mid ++ after) (any-first (same_name x) before after f) (any-append (same_name x) mid after (n 0 (omega arith)) (any-second (same_name x) before after f)))
        (ap (λ l. repeated_after l xs) (append_assoc before (mid ++ after) (x ∷ []) ∙ ap (λ l. before ++ l) (append_assoc mid after (x ∷ []))) ∙ again (rw f at r))

-- ---- the ID columns that are copied
pub range-more : (a n : ℕ) → range_with_len a (suc n) ≡ range_with_len a n ++ (a + n) ∷ []
range-more a zero = ap (λ k. k ∷ []) (let e : a ≡ a + 0 = omega arith in e)
range-more a (suc n) = ap (λ l. a ∷ l) (range-more (a + 1) n ∙ ap (λ k. range_with_len (a + 1) n ++ k ∷ []) (let e : a + 1 + n ≡ a + suc n = omega arith in e))

filter-append : {A : Type 0} (test : A → Bool) (xs ys : List A) → filter test (xs ++ ys) ≡ filter test xs ++ filter test ys
filter-append test [] ys = refl
filter-append test (x ∷ xs) ys = of (cases_Bool (test x)) (filter-append test xs ys)
  where
    of : (test x ≡ true) ⊎ (test x ≡ false) → filter test (xs ++ ys) ≡ filter test xs ++ filter test ys → filter test (x ∷ (xs ++ ys)) ≡ filter test (x ∷ xs) ++ filter test ys
    of (inl t) again = rw t (ap (λ l. x ∷ l) again)
    of (inr f) again = rw f again

module _ (l : LabelList) where
  pub no-ids : id_fields l 0 ≡ []
  unfolding id_fields
  no-ids = refl

  pub more-ids : (n : ℕ) → id_fields l (suc n) ≡ id_fields l n ++ one_id l n
  unfolding id_fields
  more-ids n =
      ap (λ r. map (λ c. field.Id c) (filter (is_copied l) r)) (range-more 0 n ∙ ap (λ k. range_with_len 0 n ++ k ∷ []) (let e : 0 + n ≡ n = omega arith in e))
      ∙ (ap (map (λ c. field.Id c)) (filter-append (is_copied l) (range_with_len 0 n) (n ∷ []))
      ∙ map-append (λ c. field.Id c) (filter (is_copied l) (range_with_len 0 n)) (filter (is_copied l) (n ∷ [])))

  pub ids-begun : (old : List ArcField) → old ≡ old ++ id_fields l 0
  ids-begun old = sym (ap (λ fs. old ++ fs) no-ids ∙ append-nil old)

  pub ids-grown : (old now next : List ArcField) (n : ℕ) → now ≡ old ++ id_fields l n → next ≡ now ++ one_id l n → next ≡ old ++ id_fields l (n + 1)
  ids-grown old now next n e d =
      d ∙ (ap (λ fs. fs ++ one_id l n) e
      ∙ (append_assoc old (id_fields l n) (one_id l n)
      ∙ ap (λ fs. old ++ fs) (sym (more-ids n) ∙ ap (id_fields l) (let q : suc n ≡ n + 1 = omega arith in q))))

  pub few-ids : (n : ℕ) → length (id_fields l n) ≤ n
  few-ids zero = rw no-ids (omega arith)
  few-ids (suc n) = let again = few-ids n in let e : length (id_fields l (suc n)) ≡ length (id_fields l n) + length (one_id l n) = ap length (more-ids n) ∙ length-append (id_fields l n) (one_id l n) in omega (arith, e, again, of (cases_Bool (is_copied l n)))
    where
      of : (is_copied l n ≡ true) ⊎ (is_copied l n ≡ false) → length (one_id l n) ≤ 1
      of (inl t) = rw t (omega arith)
      of (inr f) = rw f (omega arith)

  pub ids-there : (n : ℕ) → n ≤ length l.id_headers → All (IsFieldOf l) (id_fields l n)
  ids-there zero h = rw no-ids (All-nil (IsFieldOf l))
  ids-there (suc n) h = rw (more-ids n) (All-append (IsFieldOf l) (id_fields l n) (one_id l n) (ids-there n (omega (arith, h))) (of (cases_Bool (is_copied l n))))
    where
      of : (is_copied l n ≡ true) ⊎ (is_copied l n ≡ false) → All (IsFieldOf l) (one_id l n)
      of (inl t) = rw t (All-cons (IsFieldOf l) (field.Id n) [] (omega (arith, h)) (All-nil (IsFieldOf l)))
      of (inr f) = rw f (All-nil (IsFieldOf l))

  -- ---- their names
  abbrev header : ℕ → List ℕ
  header c = get_or l.id_headers c []

  abbrev names : List ArcField → Cells
  names fields = map (arc_name l) fields

  more-names : (n : ℕ) → names (id_fields l (suc n)) ≡ names (id_fields l n) ++ names (one_id l n)
  more-names n = ap names (more-ids n) ∙ map-append (arc_name l) (id_fields l n) (one_id l n)

  no-names : names (id_fields l 0) ≡ []
  no-names = ap names no-ids

  own-none : (c : ℕ) → is_copied l c ≡ true → list_any (λ name. same_name name (header c)) own_names ≡ false
  own-none c t = of (cases_Bool (list_any (λ name. same_name name (header c)) own_names))
    where
      of : (list_any (λ name. same_name name (header c)) own_names ≡ true) ⊎ (list_any (λ name. same_name name (header c)) own_names ≡ false) → list_any (λ name. same_name name (header c)) own_names ≡ false
      of (inl e) = cc (sym t ∙ ap not e)
      of (inr f) = f

  own-not : (c k : ℕ) → is_copied l c ≡ true → k < 12 → same_name (get_or own_names k []) (header c) ≡ false
  own-not c k t h = any-at (λ name. same_name name (header c)) own_names k [] (own-none c t) h

  not-copied : (x : List ℕ) (n : ℕ) → ((c : ℕ) → c < n → is_copied l c ≡ true → same_name x (header c) ≡ false) → list_any (same_name x) (names (id_fields l n)) ≡ false
  not-copied x zero h = ap (list_any (same_name x)) no-names
  not-copied x (suc n) h =
      ap (list_any (same_name x)) (more-names n)
      ∙ any-append (same_name x) (names (id_fields l n)) (names (one_id l n)) (not-copied x n (λ c k t. h c (omega (arith, k)) t)) (of (cases_Bool (is_copied l n)))
    where
      of : (is_copied l n ≡ true) ⊎ (is_copied l n ≡ false) → list_any (same_name x) (names (one_id l n)) ≡ false
      of (inl t) = rw (t, h n (omega arith) t) refl
      of (inr f) = rw f refl

  any-first-names : (test : List ℕ → Bool) → ((k : ℕ) → k < 12 → test (get_or own_names k []) ≡ false) → list_any test (names first_fields) ≡ false
  any-first-names test h = rw (h 0 (omega arith), h 1 (omega arith), h 2 (omega arith), h 3 (omega arith), h 4 (omega arith), h 5 (omega arith)) refl

  firsts : repeated_after [] (names first_fields) ≡ None
  unfolding repeated_after
  firsts = refl

  lasts : repeated_after (names first_fields ++ []) (names (flow_fields ++ status_fields)) ≡ None
  unfolding repeated_after
  lasts = refl

  module _ (own : (b c : ℕ) → b < c → c < length l.id_headers → same_name (header b) (header c) ≡ false) where
    copied-once : (n : ℕ) → n ≤ length l.id_headers → repeated_after (names first_fields) (names (id_fields l n)) ≡ None
    copied-once zero h = ap (repeated_after (names first_fields)) no-names ∙ nothing-after (names first_fields)
    copied-once (suc n) h =
        ap (repeated_after (names first_fields)) (more-names n)
        ∙ after-append (names first_fields) (names (id_fields l n)) (names (one_id l n)) (copied-once n (omega (arith, h))) (of (cases_Bool (is_copied l n)))
      where
        of : (is_copied l n ≡ true) ⊎ (is_copied l n ≡ false) → repeated_after (names first_fields ++ names (id_fields l n)) (names (one_id l n)) ≡ None
        of (inr f) = rw f (nothing-after (names first_fields ++ names (id_fields l n)))
        of (inl t) =
            rw t
            (one-after (names first_fields ++ names (id_fields l n)) (header n)
            (any-append (same_name (header n)) (names first_fields) (names (id_fields l n)) (any-first-names (same_name (header n)) (λ k h. same-back (get_or own_names k []) (header n) (own-not n k t h)))
            (not-copied (header n) n (λ c k u. same-back (header c) (header n) (own c n k (omega (arith, h)))))))

    future-once : repeated_column (names first_fields ++ (names (id_fields l (length l.id_headers)) ++ names (flow_fields ++ status_fields))) ≡ None
    future-once =
        after-append [] (names first_fields) (names (id_fields l (length l.id_headers)) ++ names (flow_fields ++ status_fields)) firsts
        (after-append (names first_fields) (names (id_fields l (length l.id_headers))) (names (flow_fields ++ status_fields)) (copied-once (length l.id_headers) (omega arith))
        (ap (λ r. repeated_after (names first_fields ++ r) (names (flow_fields ++ status_fields))) (sym (append-nil (names (id_fields l (length l.id_headers)))))
        ∙ after-between (names first_fields) (names (id_fields l (length l.id_headers))) [] (names (flow_fields ++ status_fields)) lasts
        (λ k h. not-copied (get_or (names (flow_fields ++ status_fields)) k []) (length l.id_headers) (λ c m t. own-not c (suc (suc (suc (suc (suc (suc k)))))) t (omega (arith, h))))))

    plain-once : repeated_column (names first_fields ++ (names (id_fields l (length l.id_headers)) ++ names flow_fields)) ≡ None
    plain-once =
        after-front [] (names first_fields ++ (names (id_fields l (length l.id_headers)) ++ names flow_fields)) (names status_fields)
        (ap repeated_column (append_assoc (names first_fields) (names (id_fields l (length l.id_headers)) ++ names flow_fields) (names status_fields) ∙ ap (λ r. names first_fields ++ r) (append_assoc (names (id_fields l (length l.id_headers))) (names flow_fields) (names status_fields))) ∙ future-once)

    -- No name stands among the columns twice.
    pub names-once : (future : Bool) → repeated_column (names (arc_fields l future)) ≡ None
    names-once true = ap (λ r. repeated_column (names first_fields ++ r)) (map-append (arc_name l) (id_fields l (length l.id_headers)) (flow_fields ++ status_fields)) ∙ future-once
    names-once false = ap (λ r. repeated_column (names first_fields ++ r)) (map-append (arc_name l) (id_fields l (length l.id_headers)) (flow_fields ++ [])) ∙ plain-once

  -- ---- the list of columns
  own-there : All (IsFieldOf l) first_fields
  own-there = All-from_recursion (IsFieldOf l) first_fields (tt, (tt, (tt, (tt, (tt, (tt, tt))))))

  abbrev last_fields : Bool → List ArcField
  last_fields future = flow_fields ++ under future status_fields

  last-there : (future : Bool) → All (IsFieldOf l) (last_fields future)
  last-there true = All-from_recursion (IsFieldOf l) (last_fields true) (tt, (tt, (tt, (tt, (tt, (tt, tt))))))
  last-there false = All-from_recursion (IsFieldOf l) (last_fields false) (tt, (tt, (tt, tt)))

  -- Each column is there.
  pub fields-there : (future : Bool) → All (IsFieldOf l) (arc_fields l future)
  fields-there future =
      All-append (IsFieldOf l) first_fields (id_fields l (length l.id_headers) ++ last_fields future) own-there
      (All-append (IsFieldOf l) (id_fields l (length l.id_headers)) (last_fields future) (ids-there (length l.id_headers) (omega arith)) (last-there future))

  last-few : (future : Bool) → length (last_fields future) ≤ 6
  last-few true = omega arith
  last-few false = omega arith

  -- There are some, and they are few.
  pub fields-few : (future : Bool) → length l.id_headers ≤ 2 ^ 30 → length (arc_fields l future) < 2 ^ 31
  fields-few future h =
      let ids = few-ids (length l.id_headers) in
      let ends = last-few future in
      omega (arith, h, ids, ends, length-append (id_fields l (length l.id_headers)) (last_fields future))

  pub fields-some : (future : Bool) → 0 < length (arc_fields l future)
  fields-some future = omega arith
