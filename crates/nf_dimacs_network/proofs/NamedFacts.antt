-- The names of the nodes, numbered from k on.
use Rattle.std.proofs.Common.{◌≡◌, ℕ, zero, suc, ◌+◌, ◌-◌, ◌<◌, ◌≤◌, ◌&&◌, ◌||◌, Bool, true, false, not, List, [], ◌∷◌, length, map, Option, None, ℤ, pos, unsigned_abs, refl, sym, ◌∙◌, ap, ap₂, arith, decimal}
use Rattle.std.specs.List.{AllByRecursion}
use Rattle.std.specs.Fmt.{signed_decimal}
use Rattle.nf_cells.specs.Names.{Name, has_name, is_once}
use Rattle.nf_network.specs.Arcs.{ends}
use Rattle.nf_network.specs.NodeData.{node_name}
use Rattle.nf_dimacs.specs.declared.line.Arc.{Arc}
use Rattle.nf_dimacs.specs.Tables.{numbered}
use Rattle.nf_dimacs_network.specs.Rows.{arc_said, node_said}
use Rattle.nf_dimacs_network.proofs.FigureFacts.{has-node, other-number}
use Rattle.nf_dimacs_network.proofs.SoundFacts.{IsEnd, IsArcOf}

abbrev pub names_from : ℕ → List (Option ℤ) → List Name
names_from k xs = map node_name (numbered node_said k xs)

pub not-later : (m k : ℕ) (xs : List (Option ℤ)) → m < k → k + length xs ≤ 1_000_000_000 → has_name (decimal m) (names_from k xs) ≡ false
unfolding numbered
not-later m k [] before few = refl
not-later m k (x ∷ xs) before few =
    ap₂ (λ (a b : Bool). a || b) (other-number m k (omega arith) (omega arith) (λ e. absurd (omega (arith, e)))) (not-later m (suc k) xs (omega arith) (omega arith))

pub once-named : (k : ℕ) (xs : List (Option ℤ)) → k + length xs ≤ 1_000_000_000 → is_once (names_from k xs) ≡ true
unfolding numbered is_once
once-named k [] few = refl
once-named k (x ∷ xs) few = ap₂ (λ (a b : Bool). not a && b) (not-later k (suc k) xs (omega arith) (omega arith)) (once-named (suc k) xs (omega arith))

pub length-named : (k : ℕ) (xs : List (Option ℤ)) → length (names_from k xs) ≡ length xs
unfolding numbered
length-named k [] = refl
length-named k (x ∷ xs) = ap suc (length-named (suc k) xs)

module _ (xs : List (Option ℤ)) where
  pub end-named : (z : ℤ) → IsEnd (length xs) z → has_name (signed_decimal z) (names_from 1 xs) ≡ true
  end-named z e =
      let number : suc (unsigned_abs z - 1) ≡ 1 + (unsigned_abs z - 1) = omega arith in
      ap (λ (y : ℤ). has_name (signed_decimal y) (names_from 1 xs)) (e.is ∙ ap pos number) ∙ has-node 1 xs (unsigned_abs z - 1) e.within

  pub ends-named : (k : ℕ) (arcs : List Arc) → AllByRecursion (IsArcOf (length xs)) arcs → AllByRecursion (λ n. has_name n (names_from 1 xs) ≡ true) (ends (numbered arc_said k arcs))
  unfolding numbered
  ends-named k [] all = tt
  ends-named k (a ∷ arcs) all = (end-named a.tail all.0.tail, (end-named a.head all.0.head, ends-named (suc k) arcs all.1))
