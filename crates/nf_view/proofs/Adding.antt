-- One vertex is added to its predecessor, over the lists.
use Rattle.std.proofs.Common.{◌≡◌, ℕ, suc, ◌+◌, ◌<◌, ◌≤◌, List, length, get_or, sym, ap, ap₂, ◌∙◌, subst, arith}
use Rattle.std.proofs.Math.ListN.{set}
use Rattle.std.proofs.lemmas.List.{get_or-set_same, get_or-set_other}
use Rattle.nf_view.specs.Order.{IsOrder}
use Rattle.nf_view.specs.Sizes.{AreSummed}
use Rattle.nf_view.proofs.Totals.{total_two, summed_more}

module _ (n : ℕ) (pred order size : List ℕ) (k : ℕ) (o : IsOrder n (λ v. get_or pred v 0) (λ i. get_or order i 0)) (room : length size ≡ suc n)
    (p : AreSummed n (λ v. get_or pred v 0) (λ i. get_or order i 0) (λ v. get_or size v 0) k) (some : 0 < k) (within : k ≤ n)
    (u : ℕ) (is_before : u ≡ get_or pred (get_or order k 0) 0) where
  pub before_within : u ≤ n
  before_within =
      let (i, l, e) = o.before k some within in
      let a = o.within i (omega arith) in
      omega arith

  -- What the two count together is within the whole.
  pub both_fit : get_or size u 0 + get_or size (get_or order k 0) 0 ≤ suc n
  both_fit =
      let (i, l, e) = o.before k some within in
      let a = total_two k (λ i. get_or size (get_or order i 0) 0) i l in
      let b : get_or size u 0 ≡ get_or size (get_or order i 0) 0 = ap (λ v. get_or size v 0) (is_before ∙ sym e) in
      let c = p.whole in
      omega arith

  pub added : (size' : List ℕ) → size' ≡ set size u (get_or size u 0 + get_or size (get_or order k 0) 0)
      → (j : ℕ) → k ≡ suc j → AreSummed n (λ v. get_or pred v 0) (λ i. get_or order i 0) (λ v. get_or size' v 0) j
  added size' es j e =
      rw es
      (summed_more n (λ v. get_or pred v 0) (λ i. get_or order i 0) (λ v. get_or size v 0) (λ v. get_or (set size u (get_or size u 0 + get_or size (get_or order k 0) 0)) v 0) o j (let a = within in omega arith)
      (subst (λ z. AreSummed n (λ v. get_or pred v 0) (λ i. get_or order i 0) (λ v. get_or size v 0) z) e p)
      (ap (λ v. get_or (set size u (get_or size u 0 + get_or size (get_or order k 0) 0)) v 0) (sym at_u)
      ∙ (get_or-set_same size u _ 0 (let a = before_within in let b = room in omega arith)
      ∙ ap₂ (λ v w. get_or size v 0 + get_or size (get_or order w 0) 0) at_u e))
      (λ v ne. get_or-set_other size u v _ 0 (λ q. ne (q ∙ at_u))))
    where
      at_u : u ≡ get_or pred (get_or order (suc j) 0) 0
      at_u = is_before ∙ ap (λ i. get_or pred (get_or order i 0) 0) e
