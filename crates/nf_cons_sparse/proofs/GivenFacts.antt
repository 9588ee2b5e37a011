-- Facts on what constraints are given, by their numbers.
use Rattle.std.proofs.Common.{◌≡◌, ◌⊎◌, inl, inr, ◌++◌, ◌∷◌, ◌∙◌, ◌<◌, ℕ, zero, suc, true, false, List, [], length, get_or, slice_set, refl, sym, ap, arith}
use Rattle.std.proofs.lemmas.Bool.{cases_Bool}
use Rattle.nf_cells.specs.Names.{Name, has_name, place_of}
use Rattle.nf_cons.proofs.NamingFacts.{absent-place}
use Rattle.nf_cons_sparse.specs.LineState.{LineState, given_now, given_with, no_given}

-- What is set is there, and nothing gets longer.
pub set-there : {A : Type 0} (xs : List A) (i : ℕ) (x d : A) → i < length xs → get_or (slice_set xs i x) i d ≡ x
set-there [] i x d h = absurd (grind (arith, h))
set-there (y ∷ ys) zero x d h = refl
set-there (y ∷ ys) (suc i) x d h = set-there ys i x d (grind (arith, h))

pub set-length : {A : Type 0} (xs : List A) (i : ℕ) (x : A) → length (slice_set xs i x) ≡ length xs
set-length [] zero x = refl
set-length [] (suc i) x = refl
set-length (y ∷ ys) zero x = refl
set-length (y ∷ ys) (suc i) x = ap suc (set-length ys i x)

at-end : {A : Type 0} (xs : List A) (d : A) → get_or (xs ++ d ∷ []) (length xs) d ≡ get_or xs (length xs) d
at-end [] d = refl
at-end (x ∷ xs) d = at-end xs d

-- A constraint that may be new is given what it was given before.
pub given-before : (s : LineState) (r : Name) → length s.given ≡ length s.names → get_or (given_with s r) (place_of r s.names) no_given ≡ given_now s r
given-before s r each = by_cases (cases_Bool (has_name r s.names))
  where
    by_cases : (has_name r s.names ≡ true) ⊎ (has_name r s.names ≡ false) → get_or (given_with s r) (place_of r s.names) no_given ≡ given_now s r
    by_cases (inl e) = rw e refl
    by_cases (inr e) =
        let end : place_of r s.names ≡ length s.given = absent-place r s.names e ∙ sym each in
        rw (e, end) (at-end s.given no_given)
