-- What is kept after some lines: it finds the faults that the lines have, and one line more keeps it so.
use Rattle.std.proofs.Common.{◌≡◌, ◌⊎◌, inl, inr, ◌++◌, ◌∷◌, ◌∙◌, ◌<◌, ◌≤◌, ◌+◌, ◌||◌, ℕ, zero, suc, true, false, List, [], Option, Some, None, if◌then◌else◌, length, map, get_or, slice_set, refl, sym, ap, arith, append_assoc}
use Rattle.std.proofs.lemmas.Bool.{false≢true, cases_Bool, cases_lt}
use Rattle.std.proofs.lemmas.List.{append-nil, map-append, get_or-map}
use Rattle.std.proofs.lemmas.List.Folds.{list_any-append}
use Rattle.std.specs.Str.{bytes_eq}
use Rattle.nf_frac.specs.declared.amount.Amount.{Amount}
use Rattle.nf_cells.specs.Names.{Name, first_seen, has_name, is_once, place_of, with_name}
use Rattle.nf_cells.proofs.SeenFacts.{at-place, differs-sym, eq-self, first_seen-push, has-added, once-with, place-less, same}
use Rattle.nf_cells.specs.declared.values.Cell.{Cell}
use Rattle.nf_roles.specs.First.{first_below, or_else}
use Rattle.nf_network.specs.Excess.{joined_below}
use Rattle.nf_network.proofs.Lists.{joined-more}
use Rattle.nf_network.proofs.PassFacts.{map-length, place-added}
use Rattle.nf_cons.specs.declared.row_type.RowType.{RowType}
use Rattle.nf_cons.specs.Naming.{VariableList, number_now}
use Rattle.nf_cons.specs.Passing.{AreNamed}
use Rattle.nf_cons.specs.Variables.{nonarcs, number_in}
use Rattle.nf_cons.proofs.FaultFacts.{or-assoc}
use Rattle.nf_cons.proofs.NameFacts.{agree, has-seen, not-same, place-front}
use Rattle.nf_cons.proofs.NamingFacts.{absent-place, number-front, number-same, seen-front, there-next}
use Rattle.nf_cons_sparse.specs.declared.given.GivenRow.{GivenRow}
use Rattle.nf_cons_sparse.specs.LineState.{IsAfterLines, LineState, given_now, given_to, given_with, no_given, righted, typed, with_line}
use Rattle.nf_cons_sparse.specs.Sparse.{Sparse, coef_right, given_right, given_type, has_variable, line_at, mention_at, mention_of, mentions, right_said, row_name_at, row_names, row_number, row_of, type_said, value_if, variable_number, variable_of}
use Rattle.nf_cons_sparse.proofs.GivenFacts.{set-there}

-- ---- the lines in front of a line
pub joined-front : {A : Type 0} (k n : ℕ) (f : ℕ → List A) → k ≤ n → (zs : List A) × (joined_below n f ≡ joined_below k f ++ zs)
unfolding joined_below
joined-front {A = A} k zero f h = let e : k ≡ 0 = omega (arith, h) in ([], rw e refl)
joined-front {A = A} k (suc n) f h = by_cases (cases_lt k (suc n)) (joined-front k n f)
  where
    by_cases : (k < suc n) ⊎ (suc n ≤ k) → (k ≤ n → (zs : List A) × (joined_below n f ≡ joined_below k f ++ zs)) → (zs : List A) × (joined_below (suc n) f ≡ joined_below k f ++ zs)
    by_cases (inl less) before =
        let rest = before (omega (arith, less)) in
        (rest.0 ++ f n, ap (λ xs. xs ++ f n) rest.1 ∙ append_assoc (joined_below k f) rest.0 (f n))
    by_cases (inr more) before =
        let e : k ≡ suc n = omega (arith, more, h) in
        ([], rw e (sym (append-nil (joined_below (suc n) f))))

pub names-more : (s : Sparse) (k : ℕ) → row_names s (k + 1) ≡ with_name (row_names s k) (row_of (line_at s k))
names-more s k = ap first_seen (joined-more k (row_name_at s)) ∙ first_seen-push (joined_below k (row_name_at s)) (row_of (line_at s k))

pub names-front : (s : Sparse) (k n : ℕ) → k ≤ n → (zs : List Name) × (row_names s n ≡ row_names s k ++ zs)
names-front s k n h =
    let rest = joined-front k n (row_name_at s) h in
    let seen = seen-front (joined_below k (row_name_at s)) rest.0 in
    (seen.0, ap first_seen rest.1 ∙ seen.1)

pub name-there : (s : Sparse) (k : ℕ) → has_name (row_of (line_at s k)) (row_names s (k + 1)) ≡ true
name-there s k = rw (names-more s k) (has-added (row_of (line_at s k)) (row_names s k))

-- A constraint keeps its number, and so does a variable.
pub row-number : (s : Sparse) (k : ℕ) → k < length s.lines → row_number s k ≡ place_of (row_of (line_at s k)) (row_names s k)
row-number s k below =
    let r = row_of (line_at s k) in
    let rest = names-front s (k + 1) (length s.lines) (omega (arith, below)) in
    ap (place_of r) rest.1 ∙ place-front r (row_names s (k + 1)) rest.0 (name-there s k) ∙ ap (place_of r) (names-more s k) ∙ place-added r (row_names s k)

pub row-next : (s : Sparse) (k : ℕ) → k < length s.lines → row_number s k ≡ place_of (row_of (line_at s k)) (row_names s (k + 1))
row-next s k below =
    let rest = names-front s (k + 1) (length s.lines) (omega (arith, below)) in
    ap (place_of (row_of (line_at s k))) rest.1 ∙ place-front (row_of (line_at s k)) (row_names s (k + 1)) rest.0 (name-there s k)

pub mentions-more : (s : Sparse) (k : ℕ) → has_variable (line_at s k) ≡ true → mentions s (k + 1) ≡ mentions s k ++ mention_of (k + 1) (line_at s k) ∷ []
mentions-more s k has = joined-more k (mention_at s) ∙ ap (λ b. mentions s k ++ (if b then mention_of (k + 1) (line_at s k) ∷ [] else [])) has

pub variable-number : (s : Sparse) (k : ℕ) (v : VariableList) → AreNamed s.arcs (mentions s k) v → k < length s.lines → has_variable (line_at s k) ≡ true
    → number_now v (variable_of (line_at s k)) ≡ variable_number s k
variable-number s k v named below has =
    let m = mention_of (k + 1) (line_at s k) in
    let here = mentions-more s k has in
    let rest = joined-front (k + 1) (length s.lines) (mention_at s) (omega (arith, below)) in
    let there : has_name m.variable (s.arcs ++ nonarcs s.arcs (mentions s (k + 1))) ≡ true = rw here (there-next s.arcs (mentions s k) v false m named) in
    number-same s.arcs (mentions s k) v false m named
    ∙ ap (λ ms. number_in s.arcs ms m.variable) (sym here)
    ∙ sym (number-front s.arcs (mentions s (k + 1)) rest.0 m.variable there)
    ∙ ap (λ ms. number_in s.arcs ms m.variable) (sym rest.1)

-- ---- what constraints are given
said-none : (s : Sparse) (r : Name) (k : ℕ) → has_name r (joined_below k (row_name_at s)) ≡ false → (given_type s k r ≡ None) × (given_right s k r ≡ None)
unfolding joined_below first_below
said-none s r zero h = (refl, refl)
said-none s r (suc k) h = by_cases (cases_Bool (has_name r (joined_below k (row_name_at s)))) (cases_Bool (bytes_eq r (row_of (line_at s k)))) (said-none s r k)
  where
    whole : (has_name r (joined_below k (row_name_at s)) || (bytes_eq r (row_of (line_at s k)) || false)) ≡ false
    whole = sym (list_any-append (bytes_eq r) (joined_below k (row_name_at s)) (row_of (line_at s k) ∷ [])) ∙ h

    by_cases : (has_name r (joined_below k (row_name_at s)) ≡ true) ⊎ (has_name r (joined_below k (row_name_at s)) ≡ false)
        → (bytes_eq r (row_of (line_at s k)) ≡ true) ⊎ (bytes_eq r (row_of (line_at s k)) ≡ false)
        → (has_name r (joined_below k (row_name_at s)) ≡ false → (given_type s k r ≡ None) × (given_right s k r ≡ None)) → (given_type s (suc k) r ≡ None) × (given_right s (suc k) r ≡ None)
    by_cases (inl e) d before = absurd (false≢true (sym (rw e at whole)))
    by_cases (inr e) (inl d) before = absurd (false≢true (sym (rw (e, d) at whole)))
    by_cases (inr e) (inr d) before = let b = before e in (rw (b.0, d) refl, rw (b.1, d) refl)

given-none : (s : Sparse) (k : ℕ) (r : Name) → has_name r (row_names s k) ≡ false → given_to s k r ≡ no_given
given-none s k r h =
    let none = said-none s r k (sym (has-seen r (joined_below k (row_name_at s))) ∙ h) in
    rw (none.0, none.1) refl

get-end : {A : Type 0} (xs : List A) (d : A) → get_or xs (length xs) d ≡ d
get-end [] d = refl
get-end (x ∷ xs) d = get-end xs d

pub given-is : (s : Sparse) (k : ℕ) (st : LineState) → IsAfterLines s k st → (r : Name) → given_now st r ≡ given_to s k r
given-is s k st after r = by_cases (cases_Bool (has_name r st.names))
  where
    by_cases : (has_name r st.names ≡ true) ⊎ (has_name r st.names ≡ false) → given_now st r ≡ given_to s k r
    by_cases (inl e) =
        ap (λ gs. get_or gs (place_of r st.names) no_given) after.given_are ∙ get_or-map (given_to s k) st.names (place_of r st.names) [] no_given (place-less r st.names e)
        ∙ ap (given_to s k) (at-place r st.names [] e)
    by_cases (inr e) =
        let absent : has_name r (row_names s k) ≡ false = ap (has_name r) (sym after.names_are) ∙ e in
        let end : place_of r st.names ≡ length (map (given_to s k) st.names) = absent-place r st.names e ∙ sym (map-length (given_to s k) st.names) in
        ap (λ gs. get_or gs (place_of r st.names) no_given) after.given_are ∙ ap (λ i. get_or (map (given_to s k) st.names) i no_given) end
        ∙ get-end (map (given_to s k) st.names) no_given ∙ sym (given-none s k r absent)

given-with : (s : Sparse) (k : ℕ) (st : LineState) → IsAfterLines s k st → (r : Name) → given_with st r ≡ map (given_to s k) (with_name st.names r)
given-with s k st after r = by_cases (cases_Bool (has_name r st.names))
  where
    by_cases : (has_name r st.names ≡ true) ⊎ (has_name r st.names ≡ false) → given_with st r ≡ map (given_to s k) (with_name st.names r)
    by_cases (inl e) = rw e after.given_are
    by_cases (inr e) =
        let absent : has_name r (row_names s k) ≡ false = ap (has_name r) (sym after.names_are) ∙ e in
        rw e (ap (λ gs. gs ++ no_given ∷ []) after.given_are ∙ ap (λ g. map (given_to s k) st.names ++ g ∷ []) (sym (given-none s k r absent)) ∙ sym (map-append (given_to s k) st.names (r ∷ [])))

-- What is set twice is set once.
set-twice : {A : Type 0} (xs : List A) (i : ℕ) (x y : A) → slice_set (slice_set xs i x) i y ≡ slice_set xs i y
set-twice [] zero x y = refl
set-twice [] (suc i) x y = refl
set-twice (z ∷ xs) zero x y = refl
set-twice (z ∷ xs) (suc i) x y = ap (λ ys. z ∷ ys) (set-twice xs i x y)

righted-set : (gs : List GivenRow) (i : ℕ) (t : GivenRow) (cell : Cell Amount) → i < length gs
    → righted (slice_set gs i t) i cell ≡ slice_set gs i (record { row_type = t.row_type; right = or_else t.right (value_if cell) })
righted-set gs i t cell below =
    ap (λ g. slice_set (slice_set gs i t) i (record { row_type = g.row_type; right = or_else g.right (value_if cell) })) (set-there gs i t no_given below)
    ∙ set-twice gs i t (record { row_type = t.row_type; right = or_else t.right (value_if cell) })

given-steps : (gs : List GivenRow) (i : ℕ) (a : Cell RowType) (b c : Cell Amount) → i < length gs
    → righted (righted (typed gs i a) i b) i c
    ≡ slice_set gs i (record { row_type = or_else (get_or gs i no_given).row_type (value_if a); right = or_else (or_else (get_or gs i no_given).right (value_if b)) (value_if c) })
given-steps gs i a b c below =
    let t : GivenRow = record { row_type = or_else (get_or gs i no_given).row_type (value_if a); right = (get_or gs i no_given).right } in
    let u : GivenRow = record { row_type = t.row_type; right = or_else t.right (value_if b) } in
    ap (λ hs. righted hs i c) (righted-set gs i t b below) ∙ righted-set gs i u c below

-- What is set at the place of a name.
set-name : {A : Type 0} (f g : Name → A) (n : Name) (v : A) (ks : List Name) → is_once ks ≡ true → has_name n ks ≡ true → g n ≡ v
    → ((x : Name) → bytes_eq n x ≡ false → g x ≡ f x) → slice_set (map f ks) (place_of n ks) v ≡ map g ks
unfolding is_once
set-name f g n v [] once h is o = absurd (false≢true h)
set-name f g n v (k ∷ ks) once h is o = by_cases (cases_Bool (bytes_eq n k)) (cases_Bool (has_name k ks)) (set-name f g n v ks)
  where
    by_cases : (bytes_eq n k ≡ true) ⊎ (bytes_eq n k ≡ false) → (has_name k ks ≡ true) ⊎ (has_name k ks ≡ false)
        → (is_once ks ≡ true → has_name n ks ≡ true → g n ≡ v → ((x : Name) → bytes_eq n x ≡ false → g x ≡ f x) → slice_set (map f ks) (place_of n ks) v ≡ map g ks)
        → slice_set (map f (k ∷ ks)) (place_of n (k ∷ ks)) v ≡ map g (k ∷ ks)
    by_cases d (inl r) before = absurd (false≢true (rw r at once))
    by_cases (inl e) (inr r) before =
        let k_is : n ≡ k = same n k e in
        let absent : has_name n ks ≡ false = rw (← k_is) at r in
        let head : g k ≡ v = rw (← k_is) is in
        rw (e, head, agree f g ks (λ x hx. o x (not-same ks n x absent hx))) refl
    by_cases (inr e) (inr r) before =
        let rest : has_name n ks ≡ true = rw e at h in
        let after : is_once ks ≡ true = rw r at once in
        let s : 1 + place_of n ks ≡ suc (place_of n ks) = omega arith in
        let head : g k ≡ f k = o k e in
        rw (e, s, before after rest is o, head) refl

first-more : {A : Type 0} (k : ℕ) (f : ℕ → Option A) → first_below (k + 1) f ≡ or_else (first_below k f) (f k)
unfolding first_below
first-more k f = let s : k + 1 ≡ suc k = omega arith in rw s refl

or-nothing : {A : Type 0} (b : Option A) → or_else b None ≡ b
or-nothing None = refl
or-nothing (Some x) = refl

given-more : (s : Sparse) (k : ℕ) (x : Name) → given_to s (k + 1) x ≡ record { row_type = or_else (given_type s k x) (type_said s x k); right = or_else (given_right s k x) (right_said s x k) }
given-more s k x = rw (first-more k (type_said s x), first-more k (right_said s x)) refl

pub given-after : (s : Sparse) (k : ℕ) (st : LineState) → IsAfterLines s k st → (n : ℕ) → (with_line st n (line_at s k)).given ≡ map (given_to s (k + 1)) (with_name st.names (row_of (line_at s k)))
given-after s k st after n =
    rw (given-with s k st after (row_of (line_at s k))) (given-steps (map (given_to s k) (with_name st.names (row_of (line_at s k)))) (place_of (row_of (line_at s k)) st.names) (line_at s k).row_type (coef_right (line_at s k)) (line_at s k).right below
    ∙ ap (λ g. slice_set (map (given_to s k) (with_name st.names (row_of (line_at s k)))) (place_of (row_of (line_at s k)) st.names) (record { row_type = or_else g.row_type (value_if (line_at s k).row_type); right = or_else (or_else g.right (value_if (coef_right (line_at s k)))) (value_if (line_at s k).right) })) now
    ∙ ap (λ i. slice_set (map (given_to s k) (with_name st.names (row_of (line_at s k)))) i (record { row_type = or_else (given_type s k (row_of (line_at s k))) (value_if (line_at s k).row_type); right = or_else (or_else (given_right s k (row_of (line_at s k))) (value_if (coef_right (line_at s k)))) (value_if (line_at s k).right) })) (sym (place-added (row_of (line_at s k)) st.names))
    ∙ set-name (given_to s k) (given_to s (k + 1)) (row_of (line_at s k)) (record { row_type = or_else (given_type s k (row_of (line_at s k))) (value_if (line_at s k).row_type); right = or_else (or_else (given_right s k (row_of (line_at s k))) (value_if (coef_right (line_at s k)))) (value_if (line_at s k).right) }) (with_name st.names (row_of (line_at s k))) (once-with st.names (row_of (line_at s k)) after.once) (has-added (row_of (line_at s k)) st.names) new others)
  where
    below : place_of (row_of (line_at s k)) st.names < length (map (given_to s k) (with_name st.names (row_of (line_at s k))))
    below =
        let less = place-less (row_of (line_at s k)) (with_name st.names (row_of (line_at s k))) (has-added (row_of (line_at s k)) st.names) in
        let size = map-length (given_to s k) (with_name st.names (row_of (line_at s k))) in
        let place = place-added (row_of (line_at s k)) st.names in
        omega (arith, less, size, place)

    now : get_or (map (given_to s k) (with_name st.names (row_of (line_at s k)))) (place_of (row_of (line_at s k)) st.names) no_given ≡ given_to s k (row_of (line_at s k))
    now =
        ap (λ i. get_or (map (given_to s k) (with_name st.names (row_of (line_at s k)))) i no_given) (sym (place-added (row_of (line_at s k)) st.names)) ∙ get_or-map (given_to s k) (with_name st.names (row_of (line_at s k))) (place_of (row_of (line_at s k)) (with_name st.names (row_of (line_at s k)))) [] no_given (place-less (row_of (line_at s k)) (with_name st.names (row_of (line_at s k))) (has-added (row_of (line_at s k)) st.names))
        ∙ ap (given_to s k) (at-place (row_of (line_at s k)) (with_name st.names (row_of (line_at s k))) [] (has-added (row_of (line_at s k)) st.names))

    new : given_to s (k + 1) (row_of (line_at s k)) ≡ (record { row_type = or_else (given_type s k (row_of (line_at s k))) (value_if (line_at s k).row_type); right = or_else (or_else (given_right s k (row_of (line_at s k))) (value_if (coef_right (line_at s k)))) (value_if (line_at s k).right) })
    new = given-more s k (row_of (line_at s k)) ∙ rw (eq-self (row_of (line_at s k)), or-assoc (given_right s k (row_of (line_at s k))) (value_if (coef_right (line_at s k))) (value_if (line_at s k).right)) refl

    others : (x : Name) → bytes_eq (row_of (line_at s k)) x ≡ false → given_to s (k + 1) x ≡ given_to s k x
    others x d =
        let back : bytes_eq x (row_of (line_at s k)) ≡ false = differs-sym (row_of (line_at s k)) x d in
        given-more s k x ∙ rw (back, or-nothing (given_type s k x), or-nothing (given_right s k x)) refl
