-- The predecessors of a rooted tree determine its preorder and its sizes, and so a state has one tree view.
use Rattle.std.proofs.Common.{◌≡◌, ◌≢◌, ℕ, zero, suc, ◌+◌, ◌-◌, ◌<◌, ◌≤◌, ◌⊎◌, inl, inr, ◌==◌, ◌++◌, List, [], ◌∷◌, length, get_or, drop, if◌then◌else◌, refl, sym, ap, ap₂, ◌∙◌, subst, arith}
use Rattle.std.proofs.lemmas.List.{ext_get_or}
use Rattle.nf_model.specs.Program.{LinearProgram}
use Rattle.nf_simplex.specs.Columns.{Given, Artificial}
use Rattle.nf_simplex.specs.Standing.{Standing}
use Rattle.nf_view.specs.Keys.{arc_link, root_link, basic_arcs, basic_roots, basic_links, both_ways, kept_from, key_links}
use Rattle.nf_view.specs.View.{IsNextChild, IsPreorder, IsRooted}
use Rattle.nf_view.specs.Sizes.{AreSizes, where_same}
use Rattle.nf_view.specs.Laws.{HaveSameBasics, SameBasicsSameView}
use Rattle.nf_view.proofs.Sides.{cut}
use Rattle.nf_view.proofs.Totals.{total_ext, same_is, other_is}
use Rattle.nf_view.proofs.Unique.{same_pred}

equal_or_not : (a b : ℕ) → (a ≡ b) ⊎ (a ≢ b)
equal_or_not a b = grind arith

less_or_not : (a b : ℕ) → (a < b) ⊎ (b ≤ a)
less_or_not a b = grind arith

-- Each vertex has a next child, or none.
next_child : (n : ℕ) (pred : ℕ → ℕ) (v m k : ℕ) → n ≤ m + k → (c : ℕ) × IsNextChild n pred v k c
next_child n pred v zero k h = (0, record { child = λ p. absurd (omega arith); least = λ w a b e. absurd (omega arith) })
next_child n pred v (suc m) k h = of (less_or_not k n) (equal_or_not (pred (suc k)) v) (next_child n pred v m (suc k) (omega arith))
  where
    of : (k < n) ⊎ (n ≤ k) → (pred (suc k) ≡ v) ⊎ (pred (suc k) ≢ v) → (c : ℕ) × IsNextChild n pred v (suc k) c → (c : ℕ) × IsNextChild n pred v k c
    of (inr l) o rest = (0, record { child = λ p. absurd (omega arith); least = λ w a b e. absurd (omega arith) })
    of (inl l) (inl q) rest = (suc k, record { child = λ p. (omega arith, omega arith, q); least = λ w a b e. (omega arith, omega arith) })
    of (inl l) (inr q) (c, x) = (
      c,
      record {
        child = λ p. (let (a, b, d) = x.child p in (omega arith, b, d));
        least = λ w a b e. least w a b e (equal_or_not w (suc k));
      },
    )
      where
        least : (w : ℕ) → k < w → w ≤ n → pred w ≡ v → (w ≡ suc k) ⊎ (w ≢ suc k) → (0 < c) × (c ≤ w)
        least w a b e (inl z) = absurd (q (ap pred (sym z) ∙ e))
        least w a b e (inr z) = x.least w (omega arith) b e

greatest : (n : ℕ) (f : ℕ → ℕ) → (m : ℕ) × ((v : ℕ) → v ≤ n → f v ≤ m)
greatest zero f = (f 0, λ v h. (let e : f v ≡ f 0 = ap f (let z : v ≡ 0 = omega arith in z) in omega arith))
greatest (suc n) f = of (greatest n f)
  where
    of : (m : ℕ) × ((v : ℕ) → v ≤ n → f v ≤ m) → (m : ℕ) × ((v : ℕ) → v ≤ suc n → f v ≤ m)
    of (m, g) = (m + f (suc n), λ v h. at v h (less_or_not v (suc n)))
      where
        at : (v : ℕ) → v ≤ suc n → (v < suc n) ⊎ (suc n ≤ v) → f v ≤ m + f (suc n)
        at v h (inl l) = let a = g v (omega arith) in omega arith
        at v h (inr l) = let e : f v ≡ f (suc n) = ap f (let z : v ≡ suc n = omega arith in z) in omega arith

module _ (n : ℕ) (pred pred' rank : ℕ → ℕ) (within : (v : ℕ) → 0 < v → v ≤ n → pred v ≤ n) (falls : (v : ℕ) → 0 < v → v ≤ n → rank (pred v) < rank v)
    (same : (v : ℕ) → 0 < v → v ≤ n → pred' v ≡ pred v) where
  also_child : (v k c : ℕ) → IsNextChild n pred v k c → IsNextChild n pred' v k c
  also_child v k c x = record {
    child = λ p. (let (a, b, d) = x.child p in (a, b, same c p b ∙ d));
    least = λ w a b e. x.least w a b (sym (same w (omega arith) b) ∙ e);
  }

  module _ (next next' : ℕ → ℕ) (x : IsPreorder n pred next) (y : IsPreorder n pred' next') where
    same_after : (fuel v : ℕ) → rank v < fuel → v ≤ n → x.after v ≡ y.after v
    same_after zero v f h = absurd (omega arith)
    same_after (suc fuel) v f h = of v f h (λ u g k. same_after fuel u g k)
      where
        of : (v : ℕ) → rank v < suc fuel → v ≤ n → ((u : ℕ) → rank u < fuel → u ≤ n → x.after u ≡ y.after u) → x.after v ≡ y.after v
        of zero f h rest = x.last ∙ sym y.last
        of (suc v) f h rest =
            let (c, z) = next_child n pred (pred (suc v)) n (suc v) (omega arith) in
            let p = same (suc v) (omega arith) h in
            let l = falls (suc v) (omega arith) h in
            x.sideways (suc v) c (omega arith) h z
            ∙ (ap (λ b. if c == 0 then b else c) (rest (pred (suc v)) (omega arith) (within (suc v) (omega arith) h) ∙ ap y.after (sym p))
            ∙ sym (y.sideways (suc v) c (omega arith) h (subst (λ u. IsNextChild n pred' u (suc v) c) (sym p) (also_child (pred (suc v)) (suc v) c z))))

    pub same_next : (v : ℕ) → v ≤ n → next v ≡ next' v
    same_next v h =
        let (c, z) = next_child n pred v n 0 (omega arith) in
        x.downwards v c h z ∙ (ap (λ b. if c == 0 then b else c) (same_after (suc (rank v)) v (omega arith) h) ∙ sym (y.downwards v c h (also_child v 0 c z)))

  module _ (size size' : ℕ → ℕ) (x : AreSizes n pred size) (y : AreSizes n pred' size') where
    same_below : (m : ℕ) → ((v : ℕ) → v ≤ n → rank v ≤ m) → (fuel v : ℕ) → m - rank v < fuel → v ≤ n → size v ≡ size' v
    same_below m most zero v f h = absurd (omega arith)
    same_below m most (suc fuel) v f h = of (λ u g k. same_below m most fuel u g k)
      where
        of : ((u : ℕ) → m - rank u < fuel → u ≤ n → size u ≡ size' u) → size v ≡ size' v
        of rest = x v h ∙ (ap (λ t. 1 + t) (total_ext n (λ i. where_same (pred (suc i)) v (size (suc i))) (λ i. where_same (pred' (suc i)) v (size' (suc i))) (λ i l. at i l (equal_or_not (pred (suc i)) v))) ∙ sym (y v h))
          where
            at : (i : ℕ) → i < n → (pred (suc i) ≡ v) ⊎ (pred (suc i) ≢ v) → where_same (pred (suc i)) v (size (suc i)) ≡ where_same (pred' (suc i)) v (size' (suc i))
            at i l (inl q) =
                let p = same (suc i) (omega arith) (omega arith) in
                let g = falls (suc i) (omega arith) (omega arith) in
                let r : rank (pred (suc i)) ≡ rank v = ap rank q in
                let b = most (suc i) (omega arith) in
                same_is (pred (suc i)) v (size (suc i)) q ∙ (rest (suc i) (omega arith) (omega arith) ∙ sym (same_is (pred' (suc i)) v (size' (suc i)) (p ∙ q)))
            at i l (inr q) =
                let p = same (suc i) (omega arith) (omega arith) in
                other_is (pred (suc i)) v (size (suc i)) q ∙ sym (other_is (pred' (suc i)) v (size' (suc i)) (λ z. q (sym p ∙ z)))

    pub same_size : (v : ℕ) → v ≤ n → size v ≡ size' v
    same_size v h = let (m, most) = greatest n rank in same_below m most (suc (m - rank v)) v (omega arith) h

-- The same basic columns give the same links.
module _ (p : LinearProgram) (s t : Standing) (b : HaveSameBasics p s t) where
  same_arcs : (n : ℕ) → basic_arcs p s n ≡ basic_arcs p t n
  unfolding basic_arcs
  same_arcs zero = refl
  same_arcs (suc n) = ap₂ (λ xs x. xs ++ (if x then arc_link p n ∷ [] else [])) (same_arcs n) (b (Given n))

  same_roots : (n : ℕ) → basic_roots p s n ≡ basic_roots p t n
  unfolding basic_roots
  same_roots zero = refl
  same_roots (suc n) = ap₂ (λ xs x. xs ++ (if x then root_link n ∷ [] else [])) (same_roots n) (b (Artificial n))

  same_keys : key_links p s ≡ key_links p t
  same_keys = ap₂ (λ xs ys. both_ways (kept_from (λ v. v) (xs ++ ys))) (same_arcs p.arcs) (same_roots p.nodes)

-- Two lists that are equal after their first place.
same_rest : (n : ℕ) (xs ys : List ℕ) → length xs ≡ suc n → length ys ≡ suc n → ((v : ℕ) → 0 < v → v ≤ n → get_or xs v 0 ≡ get_or ys v 0) → drop 1 xs ≡ drop 1 ys
same_rest n [] ys l m h = absurd (omega arith)
same_rest n (x ∷ xs) [] l m h = absurd (omega arith)
same_rest n (x ∷ xs) (y ∷ ys) l m h = ext_get_or 0 xs ys (omega arith) (λ i g. h (suc i) (omega arith) (omega arith))

pub same_basics_same_view : SameBasicsSameView
same_basics_same_view p s s' t t' b x y =
    let n = p.nodes in
    let links = kept_from (λ v. v) (basic_links p s') in
    let rx : IsRooted p.nodes (key_links p s') (λ v. get_or t.pred.items v 0) (λ v. get_or t.arc.items v 0) =
    subst (λ ks. IsRooted p.nodes ks (λ v. get_or t.pred.items v 0) (λ v. get_or t.arc.items v 0)) (same_keys p s s' b) x.tree.rooted in
    let ry = y.tree.rooted in
    let one = same_pred p.nodes (kept_from (λ v. v) (basic_links p s')) (λ v. v) (cut (λ v. v) (basic_links p s')) (λ v. get_or t.pred.items v 0) (λ v. get_or t.arc.items v 0) (λ v. get_or t'.pred.items v 0) (λ v. get_or t'.arc.items v 0) rx ry in
    record {
      preds = same_rest p.nodes t.pred.items t'.pred.items x.vertices.preds y.vertices.preds (λ v a h. sym (one v a h).0);
      nexts = same_rest p.nodes t.next.items t'.next.items x.vertices.nexts y.vertices.nexts
          (λ v a h. same_next p.nodes (λ v. get_or t.pred.items v 0) (λ v. get_or t'.pred.items v 0) rx.rank rx.within rx.falls (λ v a h. (one v a h).0) (λ v. get_or t.next.items v 0) (λ v. get_or t'.next.items v 0) x.tree.preorder y.tree.preorder v h);
      sizes = same_rest p.nodes t.size.items t'.size.items x.vertices.sizes y.vertices.sizes
          (λ v a h. same_size p.nodes (λ v. get_or t.pred.items v 0) (λ v. get_or t'.pred.items v 0) rx.rank rx.within rx.falls (λ v a h. (one v a h).0) (λ v. get_or t.size.items v 0) (λ v. get_or t'.size.items v 0) x.tree.sizes y.tree.sizes v h);
      arcs = same_rest p.nodes t.arc.items t'.arc.items x.vertices.arcs y.vertices.arcs (λ v a h. sym (one v a h).1);
    }
