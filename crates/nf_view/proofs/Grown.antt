-- A vertex is met: the tree stays one.
use Rattle.std.proofs.Common.{◌≡◌, ◌≢◌, ℕ, suc, ◌+◌, ◌-◌, ◌<◌, ◌≤◌, ◌⊎◌, inl, inr, min, List, sym, ap, ◌∙◌, subst, arith}
use Rattle.nf_view.specs.declared.links.Link.{Link}
use Rattle.nf_view.specs.Keys.{Leads}
use Rattle.nf_view.specs.Walk.{IsGrown}
use Rattle.nf_view.specs.Order.{IsOrder}
use Rattle.nf_view.specs.View.{IsRooted}
use Rattle.nf_view.proofs.Totals.{total_more, total_ones, total_most, total_less}

equal_or_not : (a b : ℕ) → (a ≡ b) ⊎ (a ≢ b)
equal_or_not a b = grind arith

one : (s : ℕ) → 0 < s → min s 1 ≡ 1
one s h = omega arith

-- f is g but at u, where it is x.
pub record IsChanged (f g : ℕ → ℕ) (u x : ℕ) : Type 0 where
  pub here : f u ≡ x
  pub off : (w : ℕ) → w ≢ u → f w ≡ g w

module _ (n : ℕ) (links : List Link) (seat order pred arc : ℕ → ℕ) (met : ℕ) (p : IsGrown n links seat order pred arc met) where
  pub met_most : met ≤ suc n
  met_most = let a = total_most (suc n) (λ v. min (seat v) 1) (λ k h. omega arith) in let b = p.counted in omega arith

  pub has_place : (t : ℕ) → t ≤ n → seat t ≡ 0 → met ≤ n
  has_place t l z = let a = total_less (suc n) (λ v. min (seat v) 1) t (omega arith) (ap (λ s. min s 1) z) (λ k h. omega arith) in let b = p.counted in omega arith

  pub met_grown : (seat' order' pred' arc' : ℕ → ℕ) (u t a : ℕ) → u ≤ n → t ≤ n → 0 < seat u → seat t ≡ 0 → Leads links a u t
      → IsChanged seat' seat t (met + 1) → IsChanged order' order met t → IsChanged pred' pred t u → IsChanged arc' arc t a
      → IsGrown n links seat' order' pred' arc' (met + 1)
  met_grown seat' order' pred' arc' u t a un tn su st joins cs co cp ca = record {
    some = omega arith;
    root_seat = cs.off 0 root-not ∙ p.root_seat;
    order_seat = λ i h. at_order i h (equal_or_not i met);
    seat_order = λ v l k. at_seat v l k (equal_or_not v t);
    pred_before = λ v l m k. at_before v l m k (equal_or_not v t);
    joins = λ v l m k. at_joins v l m k (equal_or_not v t);
    counted = total_more (suc n) (λ v. min (seat v) 1) (λ v. min (seat' v) 1) t 1 (omega arith)
        (let x : min (seat t) 1 ≡ 0 = ap (λ s. min s 1) st in let y = one (seat' t) (let z = cs.here in omega arith) in omega arith)
        (λ k h ne. ap (λ s. min s 1) (cs.off k ne))
        ∙ ap (λ x. x + 1) p.counted;
  }
    where
      root-not : 0 ≢ t
      root-not e = let x = p.root_seat in let b : seat t ≡ seat 0 = ap seat (sym e) in absurd (omega arith)

      not_t : (w : ℕ) → 0 < seat w → w ≢ t
      not_t w h e = let b : seat w ≡ seat t = ap seat e in absurd (omega arith)

      seen : (w : ℕ) → w ≢ t → 0 < seat' w → 0 < seat w
      seen w e k = let x = cs.off w e in omega arith

      at_order : (i : ℕ) → i < met + 1 → (i ≡ met) ⊎ (i ≢ met) → (order' i ≤ n) × (seat' (order' i) ≡ suc i)
      at_order i h (inl e) =
          let x : order' i ≡ t = ap order' e ∙ co.here in
          let y : seat' (order' i) ≡ met + 1 = ap seat' x ∙ cs.here in
          (omega arith, omega arith)
      at_order i h (inr e) =
          let (x, y) = p.order_seat i (omega arith) in
          let z = co.off i e in
          let w : seat' (order' i) ≡ seat (order i) = ap seat' z ∙ cs.off (order i) (not_t (order i) (omega arith)) in
          (omega arith, omega arith)

      at_seat : (v : ℕ) → v ≤ n → 0 < seat' v → (v ≡ t) ⊎ (v ≢ t) → (seat' v ≤ met + 1) × (order' (seat' v - 1) ≡ v)
      at_seat v l k (inl e) =
          let x : seat' v ≡ met + 1 = ap seat' e ∙ cs.here in
          let y : seat' v - 1 ≡ met = omega arith in
          (omega arith, ap order' y ∙ (co.here ∙ sym e))
      at_seat v l k (inr e) =
          let x = cs.off v e in
          let (y, z) = p.seat_order v l (seen v e k) in
          let w : seat' v - 1 ≢ met = (λ q. absurd (omega arith)) in
          (omega arith, co.off (seat' v - 1) w ∙ (ap (λ s. order (s - 1)) x ∙ z))

      at_before : (v : ℕ) → v ≤ n → 0 < v → 0 < seat' v → (v ≡ t) ⊎ (v ≢ t) → (pred' v ≤ n) × (0 < seat' (pred' v)) × (seat' (pred' v) < seat' v)
      at_before v l m k (inl e) =
          let x : pred' v ≡ u = ap pred' e ∙ cp.here in
          let y : seat' (pred' v) ≡ seat u = ap seat' x ∙ cs.off u (not_t u su) in
          let z : seat' v ≡ met + 1 = ap seat' e ∙ cs.here in
          let (a1, b1) = p.seat_order u un su in
          (omega arith, omega arith, omega arith)
      at_before v l m k (inr e) =
          let x = cp.off v e in
          let (a1, b1, c1) = p.pred_before v l m (seen v e k) in
          let y : seat' (pred' v) ≡ seat (pred v) = ap seat' x ∙ cs.off (pred v) (not_t (pred v) b1) in
          let z = cs.off v e in
          (omega arith, omega arith, omega arith)

      at_joins : (v : ℕ) → v ≤ n → 0 < v → 0 < seat' v → (v ≡ t) ⊎ (v ≢ t) → Leads links (arc' v) (pred' v) v
      at_joins v l m k (inl e) =
          subst (λ x. Leads links (arc' x) (pred' x) x) (sym e)
          (subst (λ x. Leads links x (pred' t) t) (sym ca.here) (subst (λ x. Leads links a x t) (sym cp.here) joins))
      at_joins v l m k (inr e) =
          subst (λ x. Leads links x (pred' v) v) (sym (ca.off v e)) (subst (λ x. Leads links (arc v) x v) (sym (cp.off v e)) (p.joins v l m (seen v e k)))

  -- Where all were met,
  module _ (all : (v : ℕ) → v ≤ n → 0 < seat v) where
    many : met ≡ suc n
    many = sym p.counted ∙ total_ones (suc n) (λ v. min (seat v) 1) (λ k h. one (seat k) (all k (omega arith)))

    pub ordered : IsOrder n pred order
    ordered = record {
      first = (let (a, b) = p.seat_order 0 (omega arith) (let r = p.root_seat in omega arith) in let z : seat 0 - 1 ≡ 0 = (let r = p.root_seat in omega arith) in sym (ap order z) ∙ b);
      within = λ k h. (p.order_seat k (let m = many in omega arith)).0;
      distinct = λ i k l h e. (let m = many in let (a, b) = p.order_seat i (omega arith) in let (c, d) = p.order_seat k (omega arith) in let s : seat (order i) ≡ seat (order k) = ap seat e in absurd (omega arith));
      every = λ v h. (let (a, b) = p.seat_order v h (all v h) in let m = many in let s = all v h in (seat v - 1, omega arith, b));
      before = λ k l h. before k l h;
    }
      where
        before : (k : ℕ) → 0 < k → k ≤ n → (i : ℕ) × (i < k) × (order i ≡ pred (order k))
        before k l h =
            let m = many in
            let (a, b) = p.order_seat k (omega arith) in
            let r = p.root_seat in
            let pos : 0 < order k = positive (order k) (λ e. (let s : seat (order k) ≡ seat 0 = ap seat e in absurd (omega arith))) in
            let (x, y, z) = p.pred_before (order k) a pos (all (order k) a) in
            let (c, d) = p.seat_order (pred (order k)) x y in
            (seat (pred (order k)) - 1, omega arith, d)
          where
            positive : (v : ℕ) → v ≢ 0 → 0 < v
            positive v ne = omega arith

    pub is_rooted : IsRooted n links pred arc
    is_rooted = record {
      within = λ v l h. (p.pred_before v h l (all v h)).0;
      joins = λ v l h. p.joins v h l (all v h);
      rank = seat;
      falls = λ v l h. (p.pred_before v h l (all v h)).2;
    }
