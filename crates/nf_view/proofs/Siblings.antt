-- Children are linked by number, and the preorder follows.
use Rattle.std.proofs.Common.{◌≡◌, ◌≢◌, ℕ, zero, suc, ◌+◌, ◌-◌, ◌<◌, ◌≤◌, ◌⊎◌, inl, inr, ◌==◌, List, length, get_or, if◌then◌else◌, refl, sym, ap, ◌∙◌, subst, arith}
use Rattle.std.proofs.Math.ListN.{set, length-set}
use Rattle.nf_view.specs.Order.{AreSiblings, HasChildren, IsOrder, IsThreaded}
use Rattle.nf_view.specs.View.{IsNextChild, IsPreorder}
use Rattle.nf_view.proofs.Grown.{IsChanged}
use Rattle.nf_view.proofs.Steps.{changed}

equal_or_not : (a b : ℕ) → (a ≡ b) ⊎ (a ≢ b)
equal_or_not a b = grind arith

zero_or_more : (a : ℕ) → (a ≡ 0) ⊎ (0 < a)
zero_or_more a = grind arith

pub none_linked : (n : ℕ) (pred first sibling : ℕ → ℕ) → ((v : ℕ) → v ≤ n → first v ≡ 0) → AreSiblings n pred first sibling n
none_linked n pred first sibling none = record {
  firsts = λ v h. (let z = none v h in record { child = λ p. absurd (omega arith); least = λ w a b e. absurd (omega arith) });
  nexts = λ w a b. absurd (omega arith);
}

module _ (n : ℕ) (pred first sibling first' sibling' : ℕ → ℕ) (w : ℕ) (within : w < n) (p : AreSiblings n pred first sibling (suc w))
    (cf : IsChanged first' first (pred (suc w)) (suc w)) (cs : IsChanged sibling' sibling (suc w) (first (pred (suc w)))) (pred_in : pred (suc w) ≤ n) where
  pub linked_more : AreSiblings n pred first' sibling' w
  linked_more = record { firsts = λ v h. at_first v h (equal_or_not v (pred (suc w))); nexts = λ x l h. at_next x l h (equal_or_not x (suc w)) }
    where
      at_first : (v : ℕ) → v ≤ n → (v ≡ pred (suc w)) ⊎ (v ≢ pred (suc w)) → IsNextChild n pred v w (first' v)
      at_first v h (inl e) =
          let a : first' v ≡ suc w = ap first' e ∙ cf.here in
          record { child = λ z. (omega arith, omega arith, ap pred a ∙ sym e); least = λ x l b q. (omega arith, omega arith) }
      at_first v h (inr ne) =
          let a = cf.off v ne in
          let o = p.firsts v h in
          record {
            child = λ z. (let (b, c, d) = o.child (omega arith) in (omega arith, omega arith, ap pred a ∙ d));
            least = λ x l b q. at_least x l b q (equal_or_not x (suc w));
          }
        where
          at_least : (x : ℕ) → w < x → x ≤ n → pred x ≡ v → (x ≡ suc w) ⊎ (x ≢ suc w) → (0 < first' v) × (first' v ≤ x)
          at_least x l b q (inl z) = absurd (ne (sym q ∙ ap pred z))
          at_least x l b q (inr z) = let (c, d) = (p.firsts v h).least x (omega arith) b q in let a = cf.off v ne in (omega arith, omega arith)

      at_next : (x : ℕ) → w < x → x ≤ n → (x ≡ suc w) ⊎ (x ≢ suc w) → IsNextChild n pred (pred x) x (sibling' x)
      at_next x l h (inl e) =
          subst (λ y. IsNextChild n pred (pred y) y (sibling' y)) (sym e)
          (subst (λ c. IsNextChild n pred (pred (suc w)) (suc w) c) (sym cs.here) (p.firsts (pred (suc w)) pred_in))
      at_next x l h (inr ne) = subst (λ c. IsNextChild n pred (pred x) x c) (sym (cs.off x ne)) (p.nexts x (omega arith) h)

-- The next child is one.
pub child_once : (n : ℕ) (pred : ℕ → ℕ) (v k c d : ℕ) → IsNextChild n pred v k c → IsNextChild n pred v k d → c ≡ d
child_once n pred v k c d x y = of (zero_or_more c) (zero_or_more d)
  where
    of : (c ≡ 0) ⊎ (0 < c) → (d ≡ 0) ⊎ (0 < d) → c ≡ d
    of (inl a) (inl b) = omega arith
    of (inl a) (inr b) = let (p, q, r) = y.child b in let (s, t) = x.least d p q r in absurd (omega arith)
    of (inr a) (inl b) = let (p, q, r) = x.child a in let (s, t) = y.least c p q r in absurd (omega arith)
    of (inr a) (inr b) = let (p, q, r) = x.child a in let (s, t) = y.least c p q r in let (p2, q2, r2) = y.child b in let (s2, t2) = x.least d p2 q2 r2 in omega arith

-- The children and what comes after each vertex make the preorder.
pub preorder_of : (n : ℕ) (pred first sibling after next : ℕ → ℕ) → AreSiblings n pred first sibling 0 → ((v : ℕ) → v ≤ n → IsThreaded pred first sibling after next v) → IsPreorder n pred next
preorder_of n pred first sibling after next s t = record {
  after = after;
  last = (t 0 (omega arith)).root refl;
  sideways = λ v c l h x. (t v h).sideways l ∙ ap (λ d. if d == 0 then after (pred v) else d) (child_once n pred (pred v) v (sibling v) c (s.nexts v l h) x);
  downwards = λ v c h x. (t v h).downwards ∙ ap (λ d. if d == 0 then after v else d) (child_once n pred v 0 (first v) c (s.firsts v h) x);
}

-- One more vertex of the order is threaded.
module _ (n : ℕ) (pred first sibling order after next after' next' : ℕ → ℕ) (o : IsOrder n pred order) (k : ℕ) (pos : 0 < k) (within : k ≤ n)
    (p : (i : ℕ) → i < k → IsThreaded pred first sibling after next (order i)) where
  pub threaded_more : (follows : ℕ) → follows ≡ (if sibling (order k) == 0 then after (pred (order k)) else sibling (order k)) → IsChanged after' after (order k) follows
      → IsChanged next' next (order k) (if first (order k) == 0 then follows else first (order k)) → (i : ℕ) → i < k + 1 → IsThreaded pred first sibling after' next' (order i)
  threaded_more follows is_it cb cn i h = of (last_or_not i k h)
    where
      last_or_not : (a b : ℕ) → a < b + 1 → (a ≡ b) ⊎ (a < b)
      last_or_not a b h = grind arith

      -- a vertex at an earlier place keeps what comes after it
      stays : (j : ℕ) → j < k → order j ≢ order k
      stays j l = o.distinct j k l within

      pred_stays : (i : ℕ) → 0 < i → i ≤ k → after' (pred (order i)) ≡ after (pred (order i))
      pred_stays i l m = let (j, a, e) = o.before i l (omega arith) in cb.off (pred (order i)) (λ q. stays j (omega arith) (e ∙ q))

      not_first : (i : ℕ) → i ≤ k → 0 < order i → 0 < i
      not_first zero m l = let f = o.first in absurd (omega arith)
      not_first (suc i) m l = omega arith

      of : (i ≡ k) ⊎ (i < k) → IsThreaded pred first sibling after' next' (order i)
      of (inl e) =
          subst (λ i. IsThreaded pred first sibling after' next' (order i)) (sym e)
          record {
            root = λ z. absurd (o.distinct 0 k pos within (o.first ∙ sym z));
            sideways = λ l. cb.here ∙ (is_it ∙ ap (λ b. if sibling (order k) == 0 then b else sibling (order k)) (sym (pred_stays k pos (omega arith))));
            downwards = cn.here ∙ ap (λ b. if first (order k) == 0 then b else first (order k)) (sym cb.here);
          }
      of (inr l) =
          let t = p i l in
          let b = cb.off (order i) (stays i l) in
          record {
            root = λ z. b ∙ t.root z;
            sideways = λ m. b ∙ (t.sideways m ∙ ap (λ b. if sibling (order i) == 0 then b else sibling (order i)) (sym (pred_stays i (not_first i (omega arith) m) (omega arith))));
            downwards = cn.off (order i) (stays i l) ∙ (t.downwards ∙ ap (λ b. if first (order i) == 0 then b else first (order i)) (sym b));
          }

-- The same over the lists.
pub children_more : (n : ℕ) (pred : ℕ → ℕ) (first sibling : List ℕ) (w after : ℕ) → 0 < w → w ≤ n → pred w ≤ n → HasChildren n pred first sibling w → after ≡ get_or first (pred w) 0
    → HasChildren n pred (set first (pred w) w) (set sibling w after) (w - 1)
children_more n pred first sibling zero after pos within inside h e = absurd (omega arith)
children_more n pred first sibling (suc w) after pos within inside h e =
    let z : w ≡ suc w - 1 = omega arith in
    record {
      firsts = length-set _ _ _ ∙ h.firsts;
      siblings = length-set _ _ _ ∙ h.siblings;
      linked = subst (λ k. AreSiblings n pred (λ v. get_or (set first (pred (suc w)) (suc w)) v 0) (λ v. get_or (set sibling (suc w) after) v 0) k) z
          (linked_more n pred (λ v. get_or first v 0) (λ v. get_or sibling v 0) _ _ w (omega arith) h.linked
          (changed first (pred (suc w)) (suc w) (let a = h.firsts in omega arith))
          (subst (λ x. IsChanged (λ v. get_or (set sibling (suc w) after) v 0) (λ v. get_or sibling v 0) (suc w) x) e (changed sibling (suc w) after (let a = h.siblings in omega arith)))
          inside);
    }

pub pred_within : (n : ℕ) (pred order : ℕ → ℕ) → IsOrder n pred order → (k : ℕ) → 0 < k → k ≤ n → pred (order k) ≤ n
pred_within n pred order o k a b = let (i, l, e) = o.before k a b in let d = o.within i (omega arith) in omega arith

pub threaded_lists : (n : ℕ) (pred : ℕ → ℕ) (first sibling after next : List ℕ) (order : ℕ → ℕ) → IsOrder n pred order → length after ≡ suc n → length next ≡ suc n → (k : ℕ) → 0 < k → k ≤ n
    → ((i : ℕ) → i < k → IsThreaded pred (λ v. get_or first v 0) (λ v. get_or sibling v 0) (λ v. get_or after v 0) (λ v. get_or next v 0) (order i))
    → (follows there : ℕ) → follows ≡ (if get_or sibling (order k) 0 == 0 then get_or after (pred (order k)) 0 else get_or sibling (order k) 0)
    → there ≡ (if get_or first (order k) 0 == 0 then follows else get_or first (order k) 0)
    → (i : ℕ) → i < k + 1 → IsThreaded pred (λ v. get_or first v 0) (λ v. get_or sibling v 0) (λ v. get_or (set after (order k) follows) v 0) (λ v. get_or (set next (order k) there) v 0) (order i)
threaded_lists n pred first sibling after next order o lb ln k pos within p follows there ea et =
    let v = o.within k within in
    threaded_more n pred (λ v. get_or first v 0) (λ v. get_or sibling v 0) order (λ v. get_or after v 0) (λ v. get_or next v 0) _ _ o k pos within p follows ea
    (changed after (order k) follows (omega arith))
    (subst (λ x. IsChanged (λ v. get_or (set next (order k) there) v 0) (λ v. get_or next v 0) (order k) x) et (changed next (order k) there (omega arith)))
