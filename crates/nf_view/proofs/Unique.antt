-- There is one tree view only: two rooted trees of the kept links are one.
use Rattle.std.proofs.Common.{◌≡◌, ◌≢◌, ℕ, zero, suc, ◌<◌, ◌≤◌, ◌⊎◌, inl, inr, Bool, List, [], ◌∷◌, length, refl, sym, ap, ◌∙◌, subst, arith}
use Rattle.nf_view.specs.declared.links.Link.{Link}
use Rattle.nf_view.specs.Keys.{Leads, both_ways, link_at, turned}
use Rattle.nf_view.specs.View.{IsRooted}
use Rattle.nf_view.proofs.Sides.{IsCut}

equal_or_not : (a b : ℕ) → (a ≡ b) ⊎ (a ≢ b)
equal_or_not a b = grind arith

-- A link joins two vertices, in one direction or the other.
pub Joins : Link → ℕ → ℕ → Type 0
Joins e u v = ((e.«from» ≡ u) × (e.to ≡ v)) ⊎ ((e.«from» ≡ v) × (e.to ≡ u))

same_ends : (e : Link) (u v x y : ℕ) → Joins e u v → Joins e x y → ((u ≡ x) × (v ≡ y)) ⊎ ((u ≡ y) × (v ≡ x))
unfolding Joins
same_ends e u v x y (inl (a, b)) (inl (c, d)) = inl (sym a ∙ c, sym b ∙ d)
same_ends e u v x y (inl (a, b)) (inr (c, d)) = inr (sym a ∙ c, sym b ∙ d)
same_ends e u v x y (inr (a, b)) (inl (c, d)) = inr (sym b ∙ d, sym a ∙ c)
same_ends e u v x y (inr (a, b)) (inr (c, d)) = inl (sym b ∙ d, sym a ∙ c)

one_side : (s : ℕ → Bool) (e : Link) (u v : ℕ) → Joins e u v → s e.«from» ≡ s e.to → s u ≡ s v
unfolding Joins
one_side s e u v (inl (a, b)) q = ap s (sym a) ∙ (q ∙ ap s b)
one_side s e u v (inr (a, b)) q = ap s (sym b) ∙ (sym q ∙ ap s a)

two_sides : (s : ℕ → Bool) (e : Link) (u v : ℕ) → Joins e u v → s u ≡ s v → s e.«from» ≡ s e.to
unfolding Joins
two_sides s e u v (inl (a, b)) q = ap s a ∙ (q ∙ ap s (sym b))
two_sides s e u v (inr (a, b)) q = ap s a ∙ (sym q ∙ ap s (sym b))

-- One of the links, by its number, has this arc and joins u and v.
record HasLink (links : List Link) (arc u v : ℕ) : Type 0 where
  place : ℕ
  within : place < length links
  its : (link_at links place).arc ≡ arc
  ends : Joins (link_at links place) u v

one_way : (links : List Link) (q : ℕ) → q < length (both_ways links) → (i : ℕ) × (i < length links) × ((link_at (both_ways links) q ≡ link_at links i) ⊎ (link_at (both_ways links) q ≡ turned (link_at links i)))
unfolding both_ways
one_way [] q h = absurd (omega arith)
one_way (e ∷ es) zero h = (0, omega arith, inl refl)
one_way (e ∷ es) (suc zero) h = (0, omega arith, inr refl)
one_way (e ∷ es) (suc (suc q)) h = let (i, l, x) = one_way es q (omega arith) in (suc i, omega arith, x)

link_of : (links : List Link) (arc u v : ℕ) → Leads (both_ways links) arc u v → HasLink links arc u v
unfolding Joins
link_of links arc u v p = let (i, l, x) = one_way links p.place p.within in of i l x
  where
    of : (i : ℕ) → i < length links → (link_at (both_ways links) p.place ≡ link_at links i) ⊎ (link_at (both_ways links) p.place ≡ turned (link_at links i)) → HasLink links arc u v
    of i l (inl x) = let e = sym x ∙ p.same in record { place = i; within = l; its = ap (λ k. k.arc) e; ends = inl (ap (λ k. k.«from») e, ap (λ k. k.to) e) }
    of i l (inr x) = let e = sym x ∙ p.same in record { place = i; within = l; its = ap (λ k. k.arc) e; ends = inr (ap (λ k. k.to) e, ap (λ k. k.«from») e) }

module _ (n : ℕ) (links : List Link) (pred arc : ℕ → ℕ) (r : IsRooted n (both_ways links) pred arc) where
  link : (v : ℕ) → 0 < v → v ≤ n → HasLink links (arc v) (pred v) v
  link v a b = link_of links (arc v) (pred v) v (r.joins v a b)

  -- Where the vertices have two sides, and all links but the one of v have their ends on one: what is nearer to the root than v is on the root's side.
  module _ (i : ℕ) (s : ℕ → Bool) (others : (k : ℕ) → k < length links → k ≢ i → s (link_at links k).«from» ≡ s (link_at links k).to) where
    nearer : (v : ℕ) (a : 0 < v) (b : v ≤ n) → (link v a b).place ≡ i → (fuel w : ℕ) → r.rank w < fuel → r.rank w < r.rank v → w ≤ n → s w ≡ s 0
    nearer v a b e zero w f l h = absurd (omega arith)
    nearer v a b e (suc fuel) w f l h = of w f l h (λ u g m k. nearer v a b e fuel u g m k)
      where
        off : (w : ℕ) (c : 0 < w) (h : w ≤ n) → r.rank w < r.rank v → (link w c h).place ≢ i
        off w c h l q =
            let x = subst (λ k. Joins (link_at links k) (pred w) w) (q ∙ sym e) (link w c h).ends in
            let o = same_ends (link_at links (link v a b).place) (pred w) w (pred v) v x (link v a b).ends in
            neither o
          where
            neither : ((pred w ≡ pred v) × (w ≡ v)) ⊎ ((pred w ≡ v) × (w ≡ pred v)) → ⊥
            neither (inl (y, z)) = let g : r.rank w ≡ r.rank v = ap r.rank z in omega arith
            neither (inr (y, z)) = let g : r.rank (pred w) ≡ r.rank v = ap r.rank y in let k = r.falls w c h in omega arith

        of : (w : ℕ) → r.rank w < suc fuel → r.rank w < r.rank v → w ≤ n → ((u : ℕ) → r.rank u < fuel → r.rank u < r.rank v → u ≤ n → s u ≡ s 0) → s w ≡ s 0
        of zero f l h rest = refl
        of (suc w) f l h rest =
            let c : 0 < suc w = omega arith in
            let k = r.falls (suc w) c h in
            sym (one_side s (link_at links (link (suc w) c h).place) (pred (suc w)) (suc w) (link (suc w) c h).ends (others (link (suc w) c h).place (link (suc w) c h).within (off (suc w) c h l)))
            ∙ rest (pred (suc w)) (omega arith) (omega arith) (r.within (suc w) c h)

    pred_side : (v : ℕ) (a : 0 < v) (b : v ≤ n) → (link v a b).place ≡ i → s (pred v) ≡ s 0
    pred_side v a b e = nearer v a b e (suc (r.rank (pred v))) (pred v) (omega arith) (r.falls v a b) (r.within v a b)

    -- The way to the root from the other side has the link.
    crossing : (fuel w : ℕ) → r.rank w < fuel → w ≤ n → s w ≢ s 0 → (x : ℕ) × (c : 0 < x) × (h : x ≤ n) × ((link x c h).place ≡ i)
    crossing zero w f h ne = absurd (omega arith)
    crossing (suc fuel) w f h ne = of w f h ne (λ u g k m. crossing fuel u g k m)
      where
        of : (w : ℕ) → r.rank w < suc fuel → w ≤ n → s w ≢ s 0 → ((u : ℕ) → r.rank u < fuel → u ≤ n → s u ≢ s 0 → (x : ℕ) × (c : 0 < x) × (h : x ≤ n) × ((link x c h).place ≡ i))
            → (x : ℕ) × (c : 0 < x) × (h : x ≤ n) × ((link x c h).place ≡ i)
        of zero f h ne rest = absurd (ne refl)
        of (suc w) f h ne rest = here (equal_or_not (link (suc w) (omega arith) h).place i)
          where
            here : ((link (suc w) (omega arith) h).place ≡ i) ⊎ ((link (suc w) (omega arith) h).place ≢ i) → (x : ℕ) × (c : 0 < x) × (h : x ≤ n) × ((link x c h).place ≡ i)
            here (inl q) = (suc w, omega arith, h, q)
            here (inr q) =
                let k = r.falls (suc w) (omega arith) h in
                rest (pred (suc w)) (omega arith) (r.within (suc w) (omega arith) h)
                (λ z. ne (sym (one_side s (link_at links (link (suc w) (omega arith) h).place) (pred (suc w)) (suc w) (link (suc w) (omega arith) h).ends (others (link (suc w) (omega arith) h).place (link (suc w) (omega arith) h).within q)) ∙ z))

module _ (n : ℕ) (links : List Link) (part : ℕ → ℕ) (cuts : (i : ℕ) → i < length links → (s : ℕ → Bool) × IsCut part links i s) (pred arc pred' arc' : ℕ → ℕ)
    (r : IsRooted n (both_ways links) pred arc) (r' : IsRooted n (both_ways links) pred' arc') where
  pub same_pred : (v : ℕ) → 0 < v → v ≤ n → (pred' v ≡ pred v) × (arc' v ≡ arc v)
  same_pred v a b =
      let j = link n links pred arc r v a b in
      let (s, c) = cuts j.place j.within in
      let near = pred_side n links pred arc r j.place s c.others v a b refl in
      let far : s v ≢ s 0 = (λ z. c.apart (two_sides s (link_at links j.place) (pred v) v j.ends (near ∙ sym z))) in
      let (x, xa, xb, q) = crossing n links pred' arc' r' j.place s c.others (suc (r'.rank v)) v (omega arith) b far in
      let k = link n links pred' arc' r' x xa xb in
      let ends = subst (λ z. Joins (link_at links z) (pred' x) x) q k.ends in
      let its : (link_at links j.place).arc ≡ arc' x = subst (λ z. (link_at links z).arc ≡ arc' x) q k.its in
      of s x (pred_side n links pred' arc' r' j.place s c.others x xa xb q) far (sym its ∙ j.its) (same_ends (link_at links j.place) (pred' x) x (pred v) v ends j.ends)
    where
      of : (s : ℕ → Bool) (x : ℕ) → s (pred' x) ≡ s 0 → s v ≢ s 0 → arc' x ≡ arc v → ((pred' x ≡ pred v) × (x ≡ v)) ⊎ ((pred' x ≡ v) × (x ≡ pred v)) → (pred' v ≡ pred v) × (arc' v ≡ arc v)
      of s x near far e (inl (y, z)) = (ap pred' (sym z) ∙ y, ap arc' (sym z) ∙ e)
      of s x near far e (inr (y, z)) = absurd (far (ap s (sym y) ∙ near))
