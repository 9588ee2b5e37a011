-- The lists by row: one more entry, one more column's entries, all columns' entries.
use Rattle.std.proofs.Common.{◌≡◌, ◌≢◌, ℕ, suc, ◌<◌, ◌≤◌, ◌+◌, ◌-◌, List, [], ◌∷◌, ◌++◌, length, map, take, get_or, set, refl, sym, ◌∙◌, ap, ap₂, subst, arith, Vec, Global, Bool, true, false, eq-eqb, ne_eqb}
use Rattle.std.specs.Prelude.{nat_eq, if◌then◌else◌}
use Rattle.std.proofs.lemmas.List.{append-nil, append_assoc, get_or-map, get_or-set_same, get_or-set_other, map-set, length-map, take_more, length-take-le, take_all}
use native.Mathlib.Decide.{ℕ_discrete}
use Rattle.nf_num.specs.Rational.{ℚ}
use Rattle.nf_model.specs.Program.{Column, Entry}
use Rattle.nf_prob.specs.declared.stored.RowEntry.{RowEntry}
use Rattle.nf_prob.specs.declared.stored.Entry as stored
use Rattle.nf_prob.specs.declared.stored.StoredColumn.{StoredColumn}
use Rattle.nf_prob.specs.Lists.{list_at, one_at}
use Rattle.nf_prob.specs.Numbers.{entry_of, entries_in, gathered}
use Rattle.nf_prob.specs.Stored.{column_of}

-- ---- one more entry
here : (i r j : ℕ) (v : ℚ) → r ≡ i → one_at i r j v ≡ record { column = j; value = v } ∷ []
here i r j v e = ap (λ (b : Bool). if b then record { column = j; value = v } ∷ [] else []) (eq-eqb r i e)

elsewhere : (i r j : ℕ) (v : ℚ) → r ≢ i → one_at i r j v ≡ []
elsewhere i r j v d = ap (λ (b : Bool). if b then record { column = j; value = v } ∷ [] else []) (ne_eqb r i d)

pushed_at : (L : List (List RowEntry)) (r : ℕ) (es : List RowEntry) (e : RowEntry) (i : ℕ) → r < length L → es ≡ get_or L r [] → get_or (set L r (es ++ e ∷ [])) i [] ≡ get_or L i [] ++ one_at i r e.column e.value
pushed_at L r es e i b read = elim (ℕ_discrete i r) [
  | yes s ↦ subst (λ m. get_or (set L r (es ++ e ∷ [])) m [] ≡ get_or L m [] ++ one_at m r e.column e.value) (sym s)
      (get_or-set_same L r (es ++ e ∷ []) [] b ∙ ap₂ ◌++◌ read (sym (here r r e.column e.value refl)))
  | no d ↦ get_or-set_other L r i (es ++ e ∷ []) [] d ∙ sym (ap (λ xs. get_or L i [] ++ xs) (elsewhere i r e.column e.value (λ q. d (sym q))) ∙ append-nil (get_or L i []))
]

pub pushed : (L : List (Vec RowEntry Global)) (r : ℕ) (old new : Vec RowEntry Global) (e : RowEntry) (i : ℕ) → r < length L → old ≡ get_or L r old → new.items ≡ old.items ++ e ∷ [] → list_at (set L r new) i ≡ list_at L i ++ one_at i r e.column e.value
pushed L r old new e i b read items =
    let f : Vec RowEntry Global → List RowEntry = λ v. v.items in
    let within : r < length (map f L) = omega (arith, b, length-map L f) in
    let from : old.items ≡ get_or (map f L) r [] = ap f read ∙ sym (get_or-map f L r old [] b) in
    ap (λ l. get_or l i []) (map-set f L r new ∙ ap (λ l. set (map f L) r l) items) ∙ pushed_at (map f L) r old.items e i within from

-- ---- a column's entries
entries_in-append : (j i : ℕ) (xs ys : List Entry) → entries_in j i (xs ++ ys) ≡ entries_in j i xs ++ entries_in j i ys
unfolding entries_in
entries_in-append j i [] ys = refl
entries_in-append j i (x ∷ xs) ys = go (nat_eq x.row i) (entries_in-append j i xs ys)
  where
    go : (b : Bool) → entries_in j i (xs ++ ys) ≡ entries_in j i xs ++ entries_in j i ys → (if b then record { column = j; value = x.value } ∷ entries_in j i (xs ++ ys) else entries_in j i (xs ++ ys)) ≡ (if b then record { column = j; value = x.value } ∷ entries_in j i xs else entries_in j i xs) ++ entries_in j i ys
    go true ih = ap (λ zs. record { column = j; value = x.value } ∷ zs) ih
    go false ih = ih

pub entries_in-nil : (j i : ℕ) → entries_in j i [] ≡ []
unfolding entries_in
entries_in-nil j i = refl

entries_in-one : (j i : ℕ) (e : Entry) → entries_in j i (e ∷ []) ≡ one_at i e.row j e.value
unfolding entries_in
entries_in-one j i e = refl

pub entries_more : (j i : ℕ) (es : List stored.Entry) (k : ℕ) (e : stored.Entry) → k < length es → e ≡ get_or es k e → entries_in j i (take (k + 1) (map entry_of es)) ≡ entries_in j i (take k (map entry_of es)) ++ one_at i (e.row - 1) j e.value
entries_more j i es k e b read =
    let within : k < length (map entry_of es) = omega (arith, b, length-map es entry_of) in
    let this : get_or (map entry_of es) k (entry_of e) ≡ entry_of e = get_or-map entry_of es k e (entry_of e) b ∙ ap entry_of (sym read) in
    ap (λ xs. entries_in j i xs) (take_more (map entry_of es) k (entry_of e) within ∙ ap (λ x. take k (map entry_of es) ++ x ∷ []) this)
    ∙ entries_in-append j i (take k (map entry_of es)) (entry_of e ∷ [])
    ∙ ap (λ xs. entries_in j i (take k (map entry_of es)) ++ xs) (entries_in-one j i (entry_of e))

-- the loop's step and end
pub column_step : (j i : ℕ) (es : List stored.Entry) (k : ℕ) (e : stored.Entry) (start now next : List RowEntry) → k < length es → e ≡ get_or es k e → now ≡ start ++ entries_in j i (take k (map entry_of es)) → next ≡ now ++ one_at i (e.row - 1) j e.value → next ≡ start ++ entries_in j i (take (k + 1) (map entry_of es))
column_step j i es k e start now next b read h d =
    d
    ∙ ap (λ xs. xs ++ one_at i (e.row - 1) j e.value) h
    ∙ append_assoc start (entries_in j i (take k (map entry_of es))) (one_at i (e.row - 1) j e.value)
    ∙ ap (λ xs. start ++ xs) (sym (entries_more j i es k e b read))

pub column_all : (j i : ℕ) (es : List stored.Entry) (k : ℕ) (start now : List RowEntry) → k ≤ length es → length es ≤ k → now ≡ start ++ entries_in j i (take k (map entry_of es)) → now ≡ start ++ entries_in j i (map entry_of es)
column_all j i es k start now a b h =
    let all : k ≡ length (map entry_of es) = omega (arith, a, b, length-map es entry_of) in
    h ∙ ap (λ n. start ++ entries_in j i (take n (map entry_of es))) all ∙ ap (λ xs. start ++ entries_in j i xs) (take_all (length (map entry_of es)) (map entry_of es) (omega arith))

pub column_none : (j i : ℕ) (es : List Entry) (start : List RowEntry) → start ≡ start ++ entries_in j i (take 0 es)
column_none j i es start = sym (ap (λ xs. start ++ xs) (entries_in-nil j i) ∙ append-nil start)

-- ---- all columns
pub gathered-nil : (s i : ℕ) → gathered s i [] ≡ []
unfolding gathered
gathered-nil s i = refl

gathered-one : (s i : ℕ) (c : Column) → gathered s i (c ∷ []) ≡ entries_in s i c.entries
unfolding gathered
gathered-one s i c = append-nil (entries_in s i c.entries)

gathered-append : (s i : ℕ) (xs ys : List Column) → gathered s i (xs ++ ys) ≡ gathered s i xs ++ gathered (s + length xs) i ys
unfolding gathered
gathered-append s i [] ys = ap (λ n. gathered n i ys) (let e : s ≡ s + 0 = omega arith in e)
gathered-append s i (x ∷ xs) ys =
    ap (λ zs. entries_in s i x.entries ++ zs) (gathered-append (suc s) i xs ys ∙ ap (λ n. gathered (suc s) i xs ++ gathered n i ys) (let e : suc s + length xs ≡ s + suc (length xs) = omega arith in e))
    ∙ sym (append_assoc (entries_in s i x.entries) (gathered (suc s) i xs) (gathered (s + suc (length xs)) i ys))

pub gathered_more : (i : ℕ) (cs : List Column) (k : ℕ) (d : Column) → k < length cs → gathered 1 i (take (k + 1) cs) ≡ gathered 1 i (take k cs) ++ entries_in (k + 1) i (get_or cs k d).entries
gathered_more i cs k d b =
    ap (λ xs. gathered 1 i xs) (take_more cs k d b)
    ∙ gathered-append 1 i (take k cs) (get_or cs k d ∷ [])
    ∙ ap (λ xs. gathered 1 i (take k cs) ++ xs)
    (ap (λ n. gathered n i (get_or cs k d ∷ [])) (let e : 1 + length (take k cs) ≡ k + 1 = omega (arith, length-take-le k cs (let h : k ≤ length cs = omega arith in h)) in e) ∙ gathered-one (k + 1) i (get_or cs k d))

pub column_gathered : (i : ℕ) (columns : List StoredColumn) (j : ℕ) (c : StoredColumn) (es : List stored.Entry) (now next : List RowEntry) → j < length columns → c ≡ get_or columns j c → es ≡ c.entries.items → now ≡ gathered 1 i (take j (map column_of columns)) → next ≡ now ++ entries_in (j + 1) i (map entry_of es) → next ≡ gathered 1 i (take (j + 1) (map column_of columns))
column_gathered i columns j c es now next b read items h d =
    let within : j < length (map column_of columns) = omega (arith, b, length-map columns column_of) in
    let this : get_or (map column_of columns) j (column_of c) ≡ column_of c = get_or-map column_of columns j c (column_of c) b ∙ ap column_of (sym read) in
    d
    ∙ ap₂ (λ xs (ys : List stored.Entry). xs ++ entries_in (j + 1) i (map entry_of ys)) h items
    ∙ ap (λ (x : Column). gathered 1 i (take j (map column_of columns)) ++ entries_in (j + 1) i x.entries) (sym this)
    ∙ sym (gathered_more i (map column_of columns) j (column_of c) within)
