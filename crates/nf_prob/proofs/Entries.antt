-- Lists of entries: what they have at a row, rising rows, and one more entry in its place.
use Rattle.std.proofs.Common.{◌≡◌, ◌≢◌, ◌⊎◌, inl, inr, ⊎_elim, ℕ, zero, suc, ◌<◌, ◌≤◌, ◌-◌, List, [], ◌∷◌, ◌++◌, length, map, take, drop, get_or, refl, sym, ◌∙◌, ap, ap₂, subst, arith, Bool, true, false, eq-eqb, ne_eqb, lt-ltb, le-ltb, eq-or-lt_of_le}
use Rattle.std.specs.Prelude.{nat_eq, nat_lt, if◌then◌else◌}
use Rattle.std.specs.List.{All, insert}
use Rattle.std.proofs.lemmas.List.Elements.{All-head, All-tail}
use Rattle.std.proofs.lemmas.List.{map-append, take-map, drop-map, length-map, get_or-map}
use Rattle.nf_num.specs.Rational.{ℚ, zero_ℚ, ◌+ℚ◌}
use Rattle.nf_num.specs.Sum.{total_ℚ}
use Rattle.nf_num.proofs.Sums.{total_by_index, total-nil, total-cons}
use Rattle.nf_num.proofs.Rewrites.{add_zero, add_left_comm}
use Rattle.nf_model.specs.Program.{Entry, entry_at}
use Rattle.nf_model.specs.Problem.{RiseBetween}
use Rattle.nf_prob.specs.declared.stored.Entry as stored
use Rattle.nf_prob.specs.Building.{inserted}
use Rattle.nf_prob.specs.Numbers.{entry_of}
use Rattle.nf_prob.specs.Stored.{stored_entry}

-- what one entry has at a row
abbrev pub value_at : ℕ → Entry → ℚ
value_at i e = if nat_eq e.row i then e.value else zero_ℚ

pub at_same : (i : ℕ) (e : Entry) → e.row ≡ i → value_at i e ≡ e.value
at_same i e h = ap (λ b. if b then e.value else zero_ℚ) (eq-eqb e.row i h)

pub at_other : (i : ℕ) (e : Entry) → e.row ≢ i → value_at i e ≡ zero_ℚ
at_other i e h = ap (λ b. if b then e.value else zero_ℚ) (ne_eqb e.row i h)

pub entry_total : (es : List Entry) (i : ℕ) → entry_at es i ≡ total_ℚ (value_at i) es
unfolding entry_at
entry_total es i = sym (total_by_index (value_at i) es (record { row = 0; value = zero_ℚ }))

pub entry_at-nil : (i : ℕ) → entry_at [] i ≡ zero_ℚ
entry_at-nil i = entry_total [] i ∙ total-nil (value_at i)

pub entry_at-cons : (e : Entry) (es : List Entry) (i : ℕ) → entry_at (e ∷ es) i ≡ value_at i e +ℚ entry_at es i
entry_at-cons e es i = entry_total (e ∷ es) i ∙ total-cons (value_at i) e es ∙ ap (λ z. value_at i e +ℚ z) (sym (entry_total es i))

-- ---- rising rows
pub rise_more : (lo n m : ℕ) (es : List Entry) → n ≤ m → RiseBetween lo n es → RiseBetween lo m es
rise_more lo n m [] h r = tt
rise_more lo n m (e ∷ es) h r = (r.0, omega (arith, r.1), rise_more (suc e.row) n m es h r.2)

pub rise_lower : (lo low n : ℕ) (es : List Entry) → low ≤ lo → RiseBetween lo n es → RiseBetween low n es
rise_lower lo low n [] h r = tt
rise_lower lo low n (e ∷ es) h r = (omega (arith, r.0), r.1, r.2)

-- no entry stands at a row past the end
pub entry_at-past : (lo n : ℕ) (es : List Entry) (i : ℕ) → RiseBetween lo n es → n ≤ i → entry_at es i ≡ zero_ℚ
entry_at-past lo n [] i r h = entry_at-nil i
entry_at-past lo n (e ∷ es) i r h =
    entry_at-cons e es i ∙ ap₂ ◌+ℚ◌ (at_other i e (omega (arith, r.1))) (entry_at-past (suc e.row) n es i r.2 h) ∙ add_zero zero_ℚ

-- nor at one before them
pub entry_at-before : (lo n : ℕ) (es : List Entry) (i : ℕ) → RiseBetween lo n es → i < lo → entry_at es i ≡ zero_ℚ
entry_at-before lo n [] i r h = entry_at-nil i
entry_at-before lo n (e ∷ es) i r h =
    entry_at-cons e es i ∙ ap₂ ◌+ℚ◌ (at_other i e (omega (arith, r.0))) (entry_at-before (suc e.row) n es i r.2 (omega (arith, r.0))) ∙ add_zero zero_ℚ

less_or_not : (a b : ℕ) → (a < b) ⊎ (b ≤ a)
less_or_not a b = grind arith

pub test_lt : (a b : ℕ) → nat_lt a b ≡ true → a < b
test_lt a b t = ⊎_elim (λ h. h) (λ h. cc (le-ltb a b h)) (less_or_not a b)

pub test_le : (a b : ℕ) → nat_lt a b ≡ false → b ≤ a
test_le a b t = ⊎_elim (λ h. cc (lt-ltb a b h)) (λ h. h) (less_or_not a b)

-- ---- one more entry in its place
swap : (a b c : ℚ) → a +ℚ (b +ℚ c) ≡ b +ℚ (a +ℚ c)
swap a b c = add_left_comm a b c

pub entry_at-inserted : (es : List Entry) (e : Entry) (i : ℕ) → entry_at (inserted es e) i ≡ value_at i e +ℚ entry_at es i
unfolding inserted
entry_at-inserted [] e i = entry_at-cons e [] i
entry_at-inserted (d ∷ ds) e i = go (nat_lt e.row d.row) (entry_at-inserted ds e i)
  where
    go : (b : Bool) → entry_at (inserted ds e) i ≡ value_at i e +ℚ entry_at ds i → entry_at (if b then e ∷ d ∷ ds else d ∷ inserted ds e) i ≡ value_at i e +ℚ entry_at (d ∷ ds) i
    go true ih = entry_at-cons e (d ∷ ds) i
    go false ih = entry_at-cons d (inserted ds e) i ∙ ap (λ z. value_at i d +ℚ z) ih ∙ swap (value_at i d) (value_at i e) (entry_at ds i) ∙ ap (λ z. value_at i e +ℚ z) (sym (entry_at-cons d ds i))

pub rise_inserted : (lo n : ℕ) (es : List Entry) (e : Entry) → RiseBetween lo n es → lo ≤ e.row → e.row < n → All (λ d. d.row ≢ e.row) es → RiseBetween lo n (inserted es e)
unfolding inserted
rise_inserted lo n [] e r h k fresh = (h, k, tt)
rise_inserted lo n (d ∷ ds) e r h k fresh = go (nat_lt e.row d.row) refl (λ l. rise_inserted (suc d.row) n ds e r.2 l k (All-tail (λ d. d.row ≢ e.row) d ds fresh))
  where
    apart : d.row ≢ e.row
    apart = All-head (λ d. d.row ≢ e.row) d ds fresh

    go : (b : Bool) → nat_lt e.row d.row ≡ b → (suc d.row ≤ e.row → RiseBetween (suc d.row) n (inserted ds e)) → RiseBetween lo n (if b then e ∷ d ∷ ds else d ∷ inserted ds e)
    go true t ih = let below : e.row < d.row = test_lt e.row d.row t in (h, k, (below, r.1, r.2))
    go false t ih = let above : d.row ≤ e.row = test_le e.row d.row t in (r.0, r.1, ih (omega (arith, above, apart)))

-- the first row is at least the lowest
pub rise_at : (lo n : ℕ) (es : List Entry) (m : ℕ) (d : Entry) → RiseBetween lo n es → m < length es → lo ≤ (get_or es m d).row
rise_at lo n [] m d r h = absurd (omega arith)
rise_at lo n (e ∷ es) zero d r h = r.0
rise_at lo n (e ∷ es) (suc m) d r h = let l : suc e.row ≤ (get_or es m d).row = rise_at (suc e.row) n es m d r.2 (omega arith) in omega (arith, l, r.0)

-- the place is behind the entries of lower rows and before those of higher rows
pub inserted_at : (lo n : ℕ) (es : List Entry) (e d : Entry) (k : ℕ) → RiseBetween lo n es → k ≤ length es → (k ≡ 0) ⊎ ((m : ℕ) × (k ≡ suc m) × ((get_or es m d).row < e.row)) → (k ≡ length es) ⊎ (e.row < (get_or es k d).row) → insert es k e ≡ inserted es e
unfolding inserted
inserted_at lo n [] e d zero r h before after = refl
inserted_at lo n [] e d (suc k) r h before after = absurd (omega arith)
inserted_at lo n (x ∷ xs) e d zero r h before after = sym (ap (λ (b : Bool). if b then e ∷ x ∷ xs else x ∷ inserted xs e) (lt-ltb e.row x.row (of after)))
  where
    of : (0 ≡ suc (length xs)) ⊎ (e.row < x.row) → e.row < x.row
    of (inl a) = absurd (omega arith)
    of (inr b) = b
inserted_at lo n (x ∷ xs) e d (suc k) r h before after =
    ap (λ es. x ∷ es) (inserted_at (suc x.row) n xs e d k r.2 (omega arith) (earlier before) (later after))
    ∙ sym (ap (λ (b : Bool). if b then e ∷ x ∷ xs else x ∷ inserted xs e) (le-ltb e.row x.row (above before)))
  where
    at_least : (m : ℕ) → k ≡ m → (get_or (x ∷ xs) m d).row < e.row → x.row ≤ e.row
    at_least zero s l = omega (arith, l)
    at_least (suc m) s l = let b : suc x.row ≤ (get_or xs m d).row = rise_at (suc x.row) n xs m d r.2 (omega arith) in omega (arith, b, l)

    above : (suc k ≡ 0) ⊎ ((m : ℕ) × (suc k ≡ suc m) × ((get_or (x ∷ xs) m d).row < e.row)) → x.row ≤ e.row
    above (inl a) = absurd (omega arith)
    above (inr b) = let s : suc k ≡ suc b.0 = b.1 in at_least b.0 (omega (arith, s)) b.2

    earlier_from : (m : ℕ) → k ≡ m → (get_or (x ∷ xs) m d).row < e.row → (k ≡ 0) ⊎ ((m : ℕ) × (k ≡ suc m) × ((get_or xs m d).row < e.row))
    earlier_from zero s l = inl s
    earlier_from (suc m) s l = inr (m, s, l)

    earlier : (suc k ≡ 0) ⊎ ((m : ℕ) × (suc k ≡ suc m) × ((get_or (x ∷ xs) m d).row < e.row)) → (k ≡ 0) ⊎ ((m : ℕ) × (k ≡ suc m) × ((get_or xs m d).row < e.row))
    earlier (inl a) = absurd (omega arith)
    earlier (inr b) = let s : suc k ≡ suc b.0 = b.1 in earlier_from b.0 (omega (arith, s)) b.2

    later : (suc k ≡ suc (length xs)) ⊎ (e.row < (get_or (x ∷ xs) (suc k) d).row) → (k ≡ length xs) ⊎ (e.row < (get_or xs k d).row)
    later (inl a) = inl (omega (arith, a))
    later (inr b) = inr b

pub rise_below : (lo n : ℕ) (es : List Entry) (m : ℕ) (d : Entry) → RiseBetween lo n es → m < length es → (get_or es m d).row < n
rise_below lo n [] m d r h = absurd (omega arith)
rise_below lo n (e ∷ es) zero d r h = r.1
rise_below lo n (e ∷ es) (suc m) d r h = rise_below (suc e.row) n es m d r.2 (omega arith)

-- ---- stored entries
map-insert : (es : List stored.Entry) (k : ℕ) (e : stored.Entry) → map entry_of (insert es k e) ≡ insert (map entry_of es) k (entry_of e)
map-insert es k e = map-append entry_of (take k es) (e ∷ drop k es) ∙ ap₂ (λ xs ys. xs ++ entry_of e ∷ ys) (sym (take-map entry_of k es)) (sym (drop-map entry_of k es))

-- what the search for the place found: the entry before it, if there is one, and that behind it
pub inserted_stored : (n : ℕ) (es new : List stored.Entry) (e : stored.Entry) (k : ℕ) → RiseBetween 0 n (map entry_of es) → All (λ x. 0 < x.row) es → 0 < e.row → All (λ x. x.row ≢ e.row - 1) (map entry_of es) → k ≤ length es → (k ≡ 0) ⊎ ((x : stored.Entry) × (0 < k) × (x ≡ get_or es (k - 1) x) × (x.row ≤ e.row)) → (k ≡ length es) ⊎ (e.row < (stored_entry es k).row) → new ≡ insert es k e → map entry_of new ≡ inserted (map entry_of es) (entry_of e)
inserted_stored n es new e k r positive some fresh within before after made =
    ap (map entry_of) made
    ∙ map-insert es k e
    ∙ inserted_at 0 n (map entry_of es) (entry_of e) none k r (omega (arith, within, len)) (⊎_elim inl found before) (⊎_elim (λ h. inl (omega (arith, h, len))) behind after)
  where
    len : length (map entry_of es) ≡ length es
    len = length-map es entry_of

    none : Entry
    none = record { row = 0; value = zero_ℚ }

    read : (m : ℕ) (x : stored.Entry) → m < length es → x ≡ get_or es m x → get_or (map entry_of es) m none ≡ entry_of x
    read m x h s = get_or-map entry_of es m x none h ∙ ap entry_of (sym s)

    found : (x : stored.Entry) × (0 < k) × (x ≡ get_or es (k - 1) x) × (x.row ≤ e.row) → (k ≡ 0) ⊎ ((m : ℕ) × (k ≡ suc m) × ((get_or (map entry_of es) m none).row < (entry_of e).row))
    found h =
        let small : 0 < k = h.1 in
        let there : k - 1 < length es = omega (arith, small, within) in
        let same : get_or (map entry_of es) (k - 1) none ≡ entry_of h.0 = read (k - 1) h.0 there h.2 in
        let above : 0 < (h.0).row = subst (λ (x : stored.Entry). 0 < x.row) (sym h.2) (positive (k - 1) h.0 there) in
        let low : (h.0).row ≤ e.row = h.3 in
        let other : (h.0).row - 1 ≢ e.row - 1 = subst (λ (x : Entry). x.row ≢ e.row - 1) same (fresh (k - 1) none (omega (arith, there, len))) in
        inr (k - 1, omega (arith, small), subst (λ (x : Entry). x.row < e.row - 1) (sym same) (omega (arith, above, low, other)))

    behind : e.row < (stored_entry es k).row → (k ≡ length (map entry_of es)) ⊎ ((entry_of e).row < (get_or (map entry_of es) k none).row)
    behind h = ⊎_elim (λ s. inl (omega (arith, s, len))) (λ b. inr (subst (λ (x : Entry). e.row - 1 < x.row) (sym (get_or-map entry_of es k (record { row = 0; value = zero_ℚ }) none b)) (omega (arith, h, some)))) (eq-or-lt_of_le within)
