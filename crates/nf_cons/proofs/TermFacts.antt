-- Facts on the values that rows give variables.
use Rattle.std.proofs.Common.{◌≡◌, ◌<◌, ◌++◌, ℕ, zero, suc, false, List, [], ◌∷◌, Option, Some, None, length, get_or, refl, arith}
use Rattle.std.proofs.lemmas.List.{append-nil}
use Rattle.std.proofs.lemmas.Grind.{flat_map-append}
use Rattle.std.specs.List.{fold}
use Rattle.nf_cells.specs.declared.values.Cell.TheVariants.{Is}
use Rattle.nf_cons.specs.declared.places.PlacedFault.{PlacedFault}
use Rattle.nf_cons.specs.declared.row_type.RowType.{RowType}
use Rattle.nf_cons.specs.declared.value.Value.{Value}
use Rattle.nf_cons.specs.declared.row_type.RowType.TheVariants.{Le, Ge, Eq, Cost, Lower, Upper}
use Rattle.nf_cons.specs.Places.{IsFaultOf, first_of}
use Rattle.nf_cons.specs.Terms.{Gift, Given, TermLists, coefficient_of, gift_of, gift_to, is_given, lists_of, term_faults, with_given}
use Rattle.nf_cons.specs.Dense.{cell_faults, cell_term}
use Rattle.nf_cons.proofs.FaultFacts.{first-append, left}

-- A variable that is given nothing has no gift.
pub none-given : (v : ℕ) (gs : List Gift) → is_given v gs ≡ false → gift_to v gs ≡ None
none-given v gs h = by_cases (gift_to v gs) h
  where
    by_cases : (o : Option (Value × ℕ)) → Rattle.std.specs.Option.is_some o ≡ false → o ≡ None
    by_cases None e = refl
    by_cases (Some x) e = absurd (cc)

-- ---- one value more
pub lists-more : (gs : List Given) (g : Given) → lists_of (gs ++ g ∷ []) ≡ with_given (lists_of gs) g
lists-more gs g =
    rw (
      flat_map-append coefficient_of gs (g ∷ []),
      flat_map-append (gift_of Cost) gs (g ∷ []),
      flat_map-append (gift_of Lower) gs (g ∷ []),
      flat_map-append (gift_of Upper) gs (g ∷ []),
      append-nil (coefficient_of g),
      append-nil (gift_of Cost g),
      append-nil (gift_of Lower g),
      append-nil (gift_of Upper g),
    )
    (by_type g.row_type refl)
  where
    by_type : (t : RowType) → g.row_type ≡ t
        → record { coefficients = (lists_of gs).coefficients ++ coefficient_of g; costs = (lists_of gs).costs ++ gift_of Cost g; lowers = (lists_of gs).lowers ++ gift_of Lower g; uppers = (lists_of gs).uppers ++ gift_of Upper g }
        ≡ with_given (lists_of gs) g
    by_type Le e = rw e (rw (append-nil (lists_of gs).costs, append-nil (lists_of gs).lowers, append-nil (lists_of gs).uppers) refl)
    by_type Ge e = rw e (rw (append-nil (lists_of gs).costs, append-nil (lists_of gs).lowers, append-nil (lists_of gs).uppers) refl)
    by_type Eq e = rw e (rw (append-nil (lists_of gs).costs, append-nil (lists_of gs).lowers, append-nil (lists_of gs).uppers) refl)
    by_type Cost e = rw e (rw (append-nil (lists_of gs).coefficients, append-nil (lists_of gs).lowers, append-nil (lists_of gs).uppers) refl)
    by_type Lower e = rw e (rw (append-nil (lists_of gs).coefficients, append-nil (lists_of gs).costs, append-nil (lists_of gs).uppers) refl)
    by_type Upper e = rw e (rw (append-nil (lists_of gs).coefficients, append-nil (lists_of gs).costs, append-nil (lists_of gs).lowers) refl)

-- ---- cells of dense rows
pub cell-term-fault : (t : RowType) (arcs c v : ℕ) (before : TermLists) (count : ℕ) (x : Value) (f : PlacedFault) → IsFaultOf (first_of (term_faults t (cell_term arcs c v x) before)) f
    → IsFaultOf (first_of (cell_faults t arcs c v before count (Is x))) f
cell-term-fault t arcs c v before count x f h = rw (first-append (term_faults t (cell_term arcs c v x) before) _) (left _ _ f h)

-- A member is the same whatever stands for one that is not there.
pub get-same : {A : Type 0} (xs : List A) (i : ℕ) (d e : A) → i < length xs → get_or xs i d ≡ get_or xs i e
get-same [] i d e h = absurd (omega arith)
get-same (x ∷ xs) zero d e h = refl
get-same (x ∷ xs) (suc i) d e h = get-same xs i d e (omega (arith, h))
