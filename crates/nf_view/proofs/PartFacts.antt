-- Ways to the name of a part are halved, and two parts become one.
use Rattle.std.proofs.Common.{◌≡◌, ◌≢◌, ℕ, ◌+◌, ◌<◌, ◌≤◌, ◌⊎◌, inl, inr, ◌==◌, List, [], ◌∷◌, ◌++◌, length, get_or, drop, min, max, if◌then◌else◌, refl, sym, ap, ap₂, ◌∙◌, subst, arith, eq-eqb, ne_eqb}
use Rattle.std.proofs.Math.ListN.{set, length-set}
use Rattle.std.proofs.lemmas.List.{get_or-set_same, get_or-set_other, get_or_push, get_or_append_left, append-nil, append_assoc, drop_all, drop_more}
use Rattle.nf_view.specs.declared.links.Link.{Link}
use Rattle.nf_view.specs.Keys.{joined, kept_from, turned, both_ways, link_at, no_link}
use Rattle.nf_view.specs.Parts.{IsUnion, LeadsDown}

equal_or_not : (a b : ℕ) → (a ≡ b) ⊎ (a ≢ b)
equal_or_not a b = grind arith

-- A vertex leads to what the one leads to, to which it leads.
module _ (above : List ℕ) (v up : ℕ) (inside : v < length above) (down : LeadsDown above) (is_up : up ≡ get_or above (get_or above v 0) 0) where
  pub up_within : up ≤ get_or above v 0
  up_within = let a = down v inside in let b = down (get_or above v 0) (omega arith) in omega arith

  pub halved_down : LeadsDown (set above v up)
  halved_down w h = of (equal_or_not w v)
    where
      of : (w ≡ v) ⊎ (w ≢ v) → get_or (set above v up) w 0 ≤ w
      of (inl e) = let a : get_or (set above v up) w 0 ≡ up = ap (λ k. get_or (set above v up) k 0) e ∙ get_or-set_same above v up 0 inside in let b = up_within in let d = down v inside in omega arith
      of (inr ne) = let a = get_or-set_other above v w up 0 ne in let l = length-set above v up in let d = down w (omega arith) in omega arith

  module _ (part : ℕ → ℕ) (u : IsUnion part above) where
    pub up_same : part up ≡ part v
    up_same = ap part is_up ∙ (u.same (get_or above v 0) (let a = down v inside in omega arith) ∙ u.same v inside)

    pub halved : IsUnion part (set above v up)
    halved = record { same = λ w h. same w (let l = length-set above v up in omega arith) (equal_or_not w v); top = λ w h e. top w (let l = length-set above v up in omega arith) e (equal_or_not w v) }
      where
        same : (w : ℕ) → w < length above → (w ≡ v) ⊎ (w ≢ v) → part (get_or (set above v up) w 0) ≡ part w
        same w h (inl e) = ap part (ap (λ k. get_or (set above v up) k 0) e ∙ get_or-set_same above v up 0 inside) ∙ (up_same ∙ ap part (sym e))
        same w h (inr ne) = ap part (get_or-set_other above v w up 0 ne) ∙ u.same w h

        top : (w : ℕ) → w < length above → get_or (set above v up) w 0 ≡ w → (w ≡ v) ⊎ (w ≢ v) → part w ≡ w
        top w h e (inr ne) = u.top w h (sym (get_or-set_other above v w up 0 ne) ∙ e)
        top w h e (inl q) =
            let a : get_or (set above v up) w 0 ≡ up = ap (λ k. get_or (set above v up) k 0) q ∙ get_or-set_same above v up 0 inside in
            let b = up_within in
            let d = down v inside in
            let f : get_or above w 0 ≡ get_or above v 0 = ap (λ k. get_or above k 0) q in
            u.top w h (omega arith)

-- The greater of two names leads to the lesser.
module _ (part : ℕ → ℕ) (above : List ℕ) (low high : ℕ) (u : IsUnion part above) (down : LeadsDown above) (differ : low < high) (inside : high < length above)
    (low_named : part low ≡ low) (high_named : part high ≡ high) where
  after : ℕ → ℕ
  after v = if part v == high then low else part v

  at_high : (v : ℕ) → part v ≡ high → after v ≡ low
  unfolding after
  at_high v q = ap (λ b. if b then low else part v) (eq-eqb (part v) high q)

  at_other : (v : ℕ) → part v ≢ high → after v ≡ part v
  unfolding after
  at_other v q = ap (λ b. if b then low else part v) (ne_eqb (part v) high q)

  after_same : (v w : ℕ) → part v ≡ part w → after v ≡ after w
  unfolding after
  after_same v w q = ap (λ x. if x == high then low else x) q

  pub led_down : LeadsDown (set above high low)
  led_down w h = of (equal_or_not w high)
    where
      of : (w ≡ high) ⊎ (w ≢ high) → get_or (set above high low) w 0 ≤ w
      of (inl q) = let a : get_or (set above high low) w 0 ≡ low = ap (λ k. get_or (set above high low) k 0) q ∙ get_or-set_same above high low 0 inside in omega arith
      of (inr ne) = let a = get_or-set_other above high w low 0 ne in let l = length-set above high low in let d = down w (omega arith) in omega arith

  led : IsUnion after (set above high low)
  led = record { same = λ w h. same w (let l = length-set above high low in omega arith) (equal_or_not w high); top = λ w h q. top w (let l = length-set above high low in omega arith) q (equal_or_not w high) }
    where
      same : (w : ℕ) → w < length above → (w ≡ high) ⊎ (w ≢ high) → after (get_or (set above high low) w 0) ≡ after w
      same w h (inl q) =
          ap after (ap (λ k. get_or (set above high low) k 0) q ∙ get_or-set_same above high low 0 inside)
          ∙ (at_other low (λ z. (let a = low_named in absurd (omega arith))) ∙ (low_named ∙ sym (at_high w (ap part q ∙ high_named))))
      same w h (inr ne) = ap after (get_or-set_other above high w low 0 ne) ∙ after_same (get_or above w 0) w (u.same w h)

      top : (w : ℕ) → w < length above → get_or (set above high low) w 0 ≡ w → (w ≡ high) ⊎ (w ≢ high) → after w ≡ w
      top w h q (inl z) = let a : get_or (set above high low) w 0 ≡ low = ap (λ k. get_or (set above high low) k 0) z ∙ get_or-set_same above high low 0 inside in absurd (omega arith)
      top w h q (inr ne) =
          let a = u.top w h (sym (get_or-set_other above high w low 0 ne) ∙ q) in
          at_other w (λ z. ne (sym a ∙ z)) ∙ a

  pub united_after : IsUnion (λ v. if part v == high then low else part v) (set above high low)
  unfolding after
  united_after = led

pub united : (part : ℕ → ℕ) (above : List ℕ) (e : Link) (low high : ℕ) → IsUnion part above → LeadsDown above → low ≡ min (part e.«from») (part e.to) → high ≡ max (part e.«from») (part e.to) → low < high → high < length above
    → part low ≡ low → part high ≡ high → IsUnion (joined part e) (set above high low)
united part above e low high u down is_low is_high differ inside low_named high_named =
    subst (λ x. IsUnion (λ v. if part v == x then min (part e.«from») (part e.to) else part v) (set above high low)) is_high
    (subst (λ x. IsUnion (λ v. if part v == high then x else part v) (set above high low)) is_low (united_after part above low high u down differ inside low_named high_named))

-- The ends of a link are in two parts, which become one.
pub united_ends : (part : ℕ → ℕ) (above : List ℕ) (e : Link) (one other low high : ℕ) → IsUnion part above → LeadsDown above → one ≡ part e.«from» → other ≡ part e.to → part one ≡ one → part other ≡ other
    → one ≢ other → low ≡ min one other → high ≡ max one other → one < length above → other < length above → (part e.«from» ≢ part e.to) × IsUnion (joined part e) (set above high low)
united_ends part above e one other low high u down a b named_one named_other ne is_low is_high in_one in_other = (
  λ z. ne (a ∙ (z ∙ sym b)),
  united part above e low high u down (is_low ∙ ap₂ min a b) (is_high ∙ ap₂ max a b) (omega arith) (omega arith) (of_low (less one other)) (of_high (less one other)),
)
  where
    less : (x y : ℕ) → (x ≤ y) ⊎ (y < x)
    less x y = grind arith

    at : (v w : ℕ) → v ≡ w → part w ≡ w → part v ≡ v
    at v w q p = ap part q ∙ (p ∙ sym q)

    of_low : (one ≤ other) ⊎ (other < one) → part low ≡ low
    of_low (inl l) = at low one (omega arith) named_one
    of_low (inr l) = at low other (omega arith) named_other

    of_high : (one ≤ other) ⊎ (other < one) → part high ≡ high
    of_high (inl l) = at high other (omega arith) named_other
    of_high (inr l) = at high one (omega arith) named_one

-- The rest of the links, with one dropped, and with one kept.
pub none_kept : (part : ℕ → ℕ) → [] ≡ both_ways (kept_from part [])
unfolding both_ways kept_from
none_kept part = refl

pub dropped : (part : ℕ → ℕ) (e : Link) (es : List Link) → part e.«from» ≡ part e.to → both_ways (kept_from part (e ∷ es)) ≡ both_ways (kept_from part es)
unfolding kept_from
dropped part e es q = ap (λ b. both_ways (if b then kept_from part es else e ∷ kept_from (joined part e) es)) (eq-eqb (part e.«from») (part e.to) q)

pub kept : (part : ℕ → ℕ) (e : Link) (es : List Link) → part e.«from» ≢ part e.to → both_ways (kept_from part (e ∷ es)) ≡ e ∷ (turned e ∷ both_ways (kept_from (joined part e) es))
unfolding kept_from both_ways
kept part e es q = ap (λ b. both_ways (if b then kept_from part es else e ∷ kept_from (joined part e) es)) (ne_eqb (part e.«from») (part e.to) q)

-- One more vertex is a part of its own.
pub alone_more : (above : List ℕ) (v : ℕ) → length above ≡ v → ((k : ℕ) → k < v → get_or above k 0 ≡ k) → (k : ℕ) → k < v + 1 → get_or (above ++ v ∷ []) k 0 ≡ k
alone_more above v room alone k h = of (last_or_not k v h)
  where
    last_or_not : (a b : ℕ) → a < b + 1 → (a ≡ b) ⊎ (a < b)
    last_or_not a b h = grind arith

    of : (k ≡ v) ⊎ (k < v) → get_or (above ++ v ∷ []) k 0 ≡ k
    of (inl e) = get_or_push above v 0 k (room ∙ sym e) ∙ sym e
    of (inr l) = get_or_append_left above (v ∷ []) 0 k (omega arith) ∙ alone k l

pub alone_down : (above : List ℕ) → ((k : ℕ) → k < length above → get_or above k 0 ≡ k) → LeadsDown above
alone_down above alone v h = let a = alone v h in omega arith

pub alone_union : (above : List ℕ) → ((k : ℕ) → k < length above → get_or above k 0 ≡ k) → IsUnion (λ v. v) above
alone_union above alone = record { same = alone; top = λ v h e. refl }

-- One link more was looked at, and kept or not.
module _ (part : ℕ → ℕ) (links done all : List Link) (i : ℕ) (here : i < length links) (p : all ≡ done ++ both_ways (kept_from part (drop i links))) where
  rest_is : drop i links ≡ link_at links i ∷ drop (i + 1) links
  rest_is = drop_more links i no_link here

  pub skip : part (link_at links i).«from» ≡ part (link_at links i).to → all ≡ done ++ both_ways (kept_from part (drop (i + 1) links))
  skip q = p ∙ ap (λ es. done ++ es) (ap (λ es. both_ways (kept_from part es)) rest_is ∙ dropped part (link_at links i) (drop (i + 1) links) q)

  pub take_both : part (link_at links i).«from» ≢ part (link_at links i).to
      → all ≡ ((done ++ link_at links i ∷ []) ++ turned (link_at links i) ∷ []) ++ both_ways (kept_from (joined part (link_at links i)) (drop (i + 1) links))
  take_both q =
      p
      ∙ (ap (λ es. done ++ es) (ap (λ es. both_ways (kept_from part es)) rest_is ∙ kept part (link_at links i) (drop (i + 1) links) q)
      ∙ sym (append_assoc (done ++ link_at links i ∷ []) (turned (link_at links i) ∷ []) (both_ways (kept_from (joined part (link_at links i)) (drop (i + 1) links)))
      ∙ append_assoc done (link_at links i ∷ []) (turned (link_at links i) ∷ both_ways (kept_from (joined part (link_at links i)) (drop (i + 1) links)))))

-- All links were looked at.
pub all_looked : (part : ℕ → ℕ) (links done all : List Link) (i : ℕ) → length links ≤ i → all ≡ done ++ both_ways (kept_from part (drop i links)) → done ≡ all
all_looked part links done all i h p =
    sym (p ∙ (ap (λ es. done ++ both_ways (kept_from part es)) (drop_all i links h) ∙ (ap (λ es. done ++ es) (sym (none_kept part)) ∙ append-nil done)))
