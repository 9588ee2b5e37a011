-- The balance of the nodes, one node after another.
use Rattle.std.proofs.Common.{◌≡◌, ◌+◌, ◌++◌, ◌<◌, ◌+ℤ◌, ℕ, pos, Bool, true, false, List, [], ◌∷◌, Option, None, length, take, get_or, refl, ap, ◌∙◌, ◌||◌}
use Rattle.std.proofs.lemmas.List.{take_more}
use Rattle.std.proofs.lemmas.List.Folds.{list_any-append}
use Rattle.std.proofs.lemmas.List.Sums.{fold-append}
use Rattle.nf_cells.specs.declared.values.Supply.{Supply}
use Rattle.nf_network.specs.Balanced.{with_value}
use Rattle.nf_network.specs.Excess.{balance_of, is_open_demand, is_open_supply, thousandths_of}

or-false : (b : Bool) → (b || false) ≡ b
or-false true = refl
or-false false = refl

push : (t : Bool) (vs : List (Option Supply)) (v : Option Supply) → balance_of t (vs ++ v ∷ []) ≡ with_value (balance_of t vs) v
push t vs v =
    rw (
      fold-append (λ total u. total +ℤ thousandths_of u) (pos 0) vs (v ∷ []),
      list_any-append is_open_supply vs (v ∷ []),
      list_any-append is_open_demand vs (v ∷ []),
      or-false (is_open_supply v),
      or-false (is_open_demand v),
    ) refl

pub balance-more : (t : Bool) (vs : List (Option Supply)) (i : ℕ) → i < length vs → balance_of t (take (i + 1) vs) ≡ with_value (balance_of t (take i vs)) (get_or vs i None)
balance-more t vs i below = ap (balance_of t) (take_more vs i None below) ∙ push t (take i vs) (get_or vs i None)
