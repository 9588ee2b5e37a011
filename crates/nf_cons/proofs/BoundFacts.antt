-- Facts on the bounds of nonarc variables.
use Rattle.std.proofs.Common.{◌≡◌, ◌+◌, ℕ, true, false, List, Option, Some, None, get_or, refl}
use Rattle.std.specs.Prelude.{option_map}
use Rattle.nf_frac.specs.declared.amount.Amount.{Amount}
use Rattle.nf_frac.specs.Amounts.{amount_value}
use Rattle.nf_model.specs.Problem.{AreInOrder}
use Rattle.nf_cells.specs.declared.values.Bound.{Bound}
use Rattle.nf_network.specs.Network.{upper_of}
use Rattle.nf_network.proofs.MakingFacts.{in-order}
use Rattle.nf_cons.specs.declared.places.Home.{Home}
use Rattle.nf_cons.specs.declared.taken.Figures.{Figures}
use Rattle.nf_cons.specs.Bounds.{bound_fault_at, bound_row, bounds_cross, crossed_at, figures_of, no_home}
use Rattle.nf_cons.specs.Terms.{TermLists}

-- Bounds that do not cross are in order.
pub ordered-values : (lower : Option Amount) (upper : Bound) → bounds_cross lower upper ≡ false → AreInOrder (option_map amount_value lower) (upper_of upper)
ordered-values None upper h = tt
ordered-values (Some l) upper h = in-order l upper h

pub crossed-is : (arcs : ℕ) (d : Figures) (hs : List Home) (ls : TermLists) (k : ℕ) → bounds_cross (figures_of d ls (arcs + k)).lower (figures_of d ls (arcs + k)).upper ≡ true
    → bound_fault_at arcs d hs ls k ≡ Some (crossed_at (get_or hs k no_home) (bound_row ls (arcs + k)))
crossed-is arcs d hs ls k h = rw h refl

pub in-order-is : (arcs : ℕ) (d : Figures) (hs : List Home) (ls : TermLists) (k : ℕ) → bounds_cross (figures_of d ls (arcs + k)).lower (figures_of d ls (arcs + k)).upper ≡ false
    → bound_fault_at arcs d hs ls k ≡ None
in-order-is arcs d hs ls k h = rw h refl

-- Bounds without a fault do not cross.
pub not-crossed : (arcs : ℕ) (d : Figures) (hs : List Home) (ls : TermLists) (k : ℕ) → bound_fault_at arcs d hs ls k ≡ None
    → bounds_cross (figures_of d ls (arcs + k)).lower (figures_of d ls (arcs + k)).upper ≡ false
not-crossed arcs d hs ls k h = by_test _ refl
  where
    by_test : (b : _) → bounds_cross (figures_of d ls (arcs + k)).lower (figures_of d ls (arcs + k)).upper ≡ b → bounds_cross (figures_of d ls (arcs + k)).lower (figures_of d ls (arcs + k)).upper ≡ false
    by_test true e = absurd (none-some (rw e at h))
      where
        none-some : {A : Type 0} {x : A} → Some x ≡ None → ⊥
        none-some p = absurd (cc)
    by_test false e = e
