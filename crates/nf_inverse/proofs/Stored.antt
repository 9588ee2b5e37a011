-- Rows that are stored as vectors, as lists of weights.
use Rattle.std.proofs.Common.{◌≡◌, ◌≢◌, ℕ, List, [], ◌<◌, length, map, set, get_or, sym, ◌∙◌, ap, subst, Vec, Global}
use Rattle.std.proofs.lemmas.List.{get_or-map, get_or_read, get_or-set_same, get_or-set_other, map-set, length-map, length-set, with_items_is}
use Rattle.std.specs.Vec.{with_items}
use native.Mathlib.Decide.{ℕ_discrete}
use Rattle.nf_num.specs.Rational.{ℚ, zero_ℚ}
use Rattle.nf_frac.specs.declared.frac.Frac.{Frac}
use Rattle.nf_inverse.specs.Exchanged.{IsPut}
use Rattle.nf_inverse.specs.Weights.{IsSquare, at, rows_of, weight, weights_of}

pub long : (rows : List (Vec Frac Global)) → length (rows_of rows) ≡ length rows
long rows = length-map rows (λ (v : Vec Frac Global). v.items)

-- a row that was read
pub row_at : (rows : List (Vec Frac Global)) (s : ℕ) (v : Vec Frac Global) → s < length rows → (get_or rows s v).items ≡ weights_of (rows_of rows) s
row_at rows s v b = let f : Vec Frac Global → List ℚ = λ w. w.items in sym (get_or-map f rows s v [] b)

pub row_read : (rows : List (Vec Frac Global)) (s : ℕ) (v : Vec Frac Global) → s < length rows → v ≡ get_or rows s v → v.items ≡ weights_of (rows_of rows) s
row_read rows s v b read = let f : Vec Frac Global → List ℚ = λ w. w.items in ap f read ∙ row_at rows s v b

pub square_at : (rows : List (Vec Frac Global)) (s : ℕ) → IsSquare (rows_of rows) → s < length rows → length (weights_of (rows_of rows) s) ≡ length rows
square_at rows s q h = q s (subst (λ n. s < n) (sym (long rows)) h) ∙ long rows

pub row_long : (rows : List (Vec Frac Global)) (s : ℕ) (v : Vec Frac Global) → IsSquare (rows_of rows) → s < length rows → v ≡ get_or rows s v → length v.items ≡ length rows
row_long rows s v q h read = ap length (row_read rows s v h read) ∙ square_at rows s q h

-- a weight that was read
pub cell_read : (rows : List (Vec Frac Global)) (s i : ℕ) (row : Vec Frac Global) (v : ℚ) → IsSquare (rows_of rows) → s < length rows → i < length rows → row ≡ get_or rows s row → v ≡ get_or row.items i v → v ≡ weight (rows_of rows) s i
cell_read rows s i row v q hs hi read vis =
    get_or_read row.items i v (subst (λ n. i < n) (sym (row_long rows s row q hs read)) hi) vis zero_ℚ ∙ ap (λ (l : List ℚ). at l i) (row_read rows s row hs read)

-- a row that was put
pub row_put : (rows : List (Vec Frac Global)) (s : ℕ) (v : Vec Frac Global) → s < length rows → weights_of (rows_of (set rows s v)) s ≡ v.items
row_put rows s v h = let f : Vec Frac Global → List ℚ = λ w. w.items in ap (λ (l : List (List ℚ)). get_or l s []) (map-set f rows s v) ∙ get_or-set_same (map f rows) s v.items [] (subst (λ n. s < n) (sym (long rows)) h)

pub row_kept : (rows : List (Vec Frac Global)) (s k : ℕ) (v : Vec Frac Global) → k ≢ s → weights_of (rows_of (set rows s v)) k ≡ weights_of (rows_of rows) k
row_kept rows s k v n = let f : Vec Frac Global → List ℚ = λ w. w.items in ap (λ (l : List (List ℚ)). get_or l k []) (map-set f rows s v) ∙ get_or-set_other (map f rows) s k v.items [] n

pub long_put : (rows : List (Vec Frac Global)) (s : ℕ) (v : Vec Frac Global) → length (rows_of (set rows s v)) ≡ length rows
long_put rows s v = long (set rows s v) ∙ length-set rows s v

pub square_put : (rows : List (Vec Frac Global)) (s : ℕ) (v : Vec Frac Global) → IsSquare (rows_of rows) → s < length rows → length v.items ≡ length rows → IsSquare (rows_of (set rows s v))
square_put rows s v q h e = λ k b. elim (ℕ_discrete k s) [
  | yes d ↦ ap (λ (j : ℕ). length (weights_of (rows_of (set rows s v)) j)) d ∙ ap length (row_put rows s v h) ∙ e ∙ sym (long_put rows s v)
  | no d ↦ ap length (row_kept rows s k v d) ∙ square_at rows k q (subst (λ n. k < n) (long_put rows s v) b) ∙ sym (long_put rows s v)
]

-- one weight of a row
pub cell_put : (rows : List (Vec Frac Global)) (s i : ℕ) (number : ℚ) (v : Vec Frac Global) → s < length rows → i < length (weights_of (rows_of rows) s) → v.items ≡ set (weights_of (rows_of rows) s) i number → IsPut (rows_of rows) (rows_of (set rows s v)) s i number
cell_put rows s i number v h b e = record {
  there = ap (λ (l : List ℚ). at l i) here ∙ get_or-set_same (weights_of (rows_of rows) s) i number zero_ℚ b;
  same_slot = λ j d. ap (λ (l : List ℚ). at l j) here ∙ get_or-set_other (weights_of (rows_of rows) s) i j number zero_ℚ d;
  other_slots = λ k j d. ap (λ (l : List ℚ). at l j) (row_kept rows s k v d);
}
  where
    here : weights_of (rows_of (set rows s v)) s ≡ set (weights_of (rows_of rows) s) i number
    here = row_put rows s v h ∙ e

-- as many numbers in place of a row's
items_put : (rows : List (Vec Frac Global)) (s : ℕ) (v : Vec Frac Global) (xs : List ℚ) → IsSquare (rows_of rows) → s < length rows → length xs ≡ length rows → (with_items (get_or rows s v) xs).items ≡ xs
items_put rows s v xs q h e = with_items_is (get_or rows s v) xs (e ∙ sym (ap length (row_at rows s v h) ∙ square_at rows s q h) ∙ sym (get_or rows s v).ok.0)

pub square_items : (rows : List (Vec Frac Global)) (s : ℕ) (v : Vec Frac Global) (xs : List ℚ) → IsSquare (rows_of rows) → s < length rows → length xs ≡ length rows → IsSquare (rows_of (set rows s (with_items (get_or rows s v) xs)))
square_items rows s v xs q h e = square_put rows s (with_items (get_or rows s v) xs) q h (ap length (items_put rows s v xs q h e) ∙ e)

pub row_items : (rows : List (Vec Frac Global)) (s : ℕ) (v : Vec Frac Global) (xs : List ℚ) → IsSquare (rows_of rows) → s < length rows → length xs ≡ length rows → weights_of (rows_of (set rows s (with_items (get_or rows s v) xs))) s ≡ xs
row_items rows s v xs q h e = row_put rows s (with_items (get_or rows s v) xs) h ∙ items_put rows s v xs q h e
