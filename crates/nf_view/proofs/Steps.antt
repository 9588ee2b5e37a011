-- The steps of the walk, over the lists.
use Rattle.std.proofs.Common.{◌≡◌, ◌≢◌, ℕ, zero, suc, ◌+◌, ◌-◌, ◌<◌, ◌≤◌, ◌⊎◌, inl, inr, Bool, true, false, List, length, get_or, replicate, ◌^◌, min, refl, sym, ap, ap₂, ◌∙◌, subst, arith}
use Rattle.std.specs.List.{All}
use Rattle.std.proofs.Math.ListN.{set, length-set}
use Rattle.std.proofs.lemmas.List.{get_or-set_same, get_or-set_other, get_or-replicate, length-replicate}
use Rattle.nf_view.specs.declared.links.Link.{Link}
use Rattle.nf_view.specs.declared.walk.Walk.{Walk}
use Rattle.nf_view.specs.Keys.{AreJoined, link_at, no_link}
use Rattle.nf_view.specs.Parts.{IsBetween}
use Rattle.nf_view.specs.Walk.{IsGrown, IsWalk, HasRoom, IsFollowed, IsLast, Keeps, begins}
use Rattle.nf_view.proofs.Totals.{total_pick}
use Rattle.nf_view.proofs.Grown.{IsChanged, met_grown, has_place}

equal_or_not : (a b : ℕ) → (a ≡ b) ⊎ (a ≢ b)
equal_or_not a b = grind arith

zero_or_more : (a : ℕ) → (a ≡ 0) ⊎ (0 < a)
zero_or_more a = grind arith

low_or_high : (a b : ℕ) → (a ≤ b) ⊎ (b < a)
low_or_high a b = grind arith

pub changed : (xs : List ℕ) (i x : ℕ) → i < length xs → IsChanged (λ k. get_or (set xs i x) k 0) (λ k. get_or xs k 0) i x
changed xs i x h = record { here = get_or-set_same xs i x 0 h; off = λ w ne. get_or-set_other xs i w x 0 ne }

pub between_at : (n : ℕ) (links : List Link) (q : ℕ) → q < length links → All (IsBetween n) links → IsBetween n (link_at links q)
between_at n links q h all = all q no_link h

module _ (n : ℕ) (links : List Link) (w w' : Walk) (p : IsWalk n links w) where
  pub room_to_meet : (t : ℕ) → t ≤ n → get_or w.seat.items t 0 ≡ 0 → w.met ≤ n
  room_to_meet t l z = has_place n links _ _ _ _ w.met p.grown t l z

  pub meet_step : (q : ℕ) → q < length links → All (IsBetween n) links → 0 < get_or w.seat.items (link_at links q).«from» 0 → get_or w.seat.items (link_at links q).to 0 ≡ 0
      → w'.seat.items ≡ set w.seat.items (link_at links q).to (w.met + 1) → w'.order.items ≡ set w.order.items w.met (link_at links q).to
      → w'.pred.items ≡ set w.pred.items (link_at links q).to (link_at links q).«from» → w'.arc.items ≡ set w.arc.items (link_at links q).to (link_at links q).arc
      → w'.met ≡ w.met + 1 → IsWalk n links w' × Keeps w w'
  meet_step q h all su st es eo ep ea em = (walk, keeps)
    where
      e : Link
      e = link_at links q

      b : IsBetween n (link_at links q)
      b = between_at n links q h all

      r : HasRoom n w
      r = p.room

      cs : IsChanged (λ k. get_or (set w.seat.items (link_at links q).to (w.met + 1)) k 0) (λ k. get_or w.seat.items k 0) (link_at links q).to (w.met + 1)
      cs = changed w.seat.items (link_at links q).to (w.met + 1) (let x = b.ends in let y = r.seats in omega arith)

      grown : IsGrown n links (λ k. get_or (set w.seat.items (link_at links q).to (w.met + 1)) k 0) (λ k. get_or (set w.order.items w.met (link_at links q).to) k 0)
          (λ k. get_or (set w.pred.items (link_at links q).to (link_at links q).«from») k 0) (λ k. get_or (set w.arc.items (link_at links q).to (link_at links q).arc) k 0) (w.met + 1)
      grown = met_grown n links _ _ _ _ w.met p.grown _ _ _ _ (link_at links q).«from» (link_at links q).to (link_at links q).arc b.begins b.ends su st
          (record { place = q; within = h; same = refl })
          cs
          (changed w.order.items w.met (link_at links q).to (let x = room_to_meet (link_at links q).to b.ends st in let y = r.orders in omega arith))
          (changed w.pred.items (link_at links q).to (link_at links q).«from» (let x = b.ends in let y = r.preds in omega arith))
          (changed w.arc.items (link_at links q).to (link_at links q).arc (let x = b.ends in let y = r.arcs in omega arith))

      walk : IsWalk n links w'
      walk = record {
        room = record {
          few = r.few;
          seats = ap length es ∙ (length-set _ _ _ ∙ r.seats);
          orders = ap length eo ∙ (length-set _ _ _ ∙ r.orders);
          preds = ap length ep ∙ (length-set _ _ _ ∙ r.preds);
          arcs = ap length ea ∙ (length-set _ _ _ ∙ r.arcs);
        };
        grown = rw (es, eo, ep, ea, em) grown;
      }

      keeps : Keeps w w'
      keeps = record {
        more = omega arith;
        met_stays = λ v s. ap (λ l. get_or l v 0) es ∙ cs.off v (λ z. (let d : get_or w.seat.items v 0 ≡ get_or w.seat.items (link_at links q).to 0 = ap (λ k. get_or w.seat.items k 0) z in absurd (omega arith)));
        fresh = λ v s k. fresh v s k (equal_or_not v (link_at links q).to);
      }
        where
          fresh : (v : ℕ) → get_or w.seat.items v 0 ≡ 0 → 0 < get_or w'.seat.items v 0 → (v ≡ (link_at links q).to) ⊎ (v ≢ (link_at links q).to) → w.met < get_or w'.seat.items v 0
          fresh v s k (inl z) = let a : get_or w'.seat.items v 0 ≡ w.met + 1 = ap₂ (λ l i. get_or l i 0) es z ∙ cs.here in omega arith
          fresh v s k (inr z) = let a : get_or w'.seat.items v 0 ≡ get_or w.seat.items v 0 = ap (λ l. get_or l v 0) es ∙ cs.off v z in absurd (omega arith)

pub keeps_same : (w : Walk) → Keeps w w
keeps_same w = record { more = omega arith; met_stays = λ v s. refl; fresh = λ v s k. absurd (omega arith) }

pub keeps_more : (a b c : Walk) → Keeps a b → Keeps b c → Keeps a c
keeps_more a b c k m = record {
  more = (let x = k.more in let y = m.more in omega arith);
  met_stays = λ v s. m.met_stays v (let x = k.met_stays v s in omega arith) ∙ k.met_stays v s;
  fresh = λ v s t. fresh v s t (zero_or_more (get_or b.seat.items v 0));
}
  where
    fresh : (v : ℕ) → get_or a.seat.items v 0 ≡ 0 → 0 < get_or c.seat.items v 0 → (get_or b.seat.items v 0 ≡ 0) ⊎ (0 < get_or b.seat.items v 0) → a.met < get_or c.seat.items v 0
    fresh v s t (inl z) = let x = m.fresh v z t in let y = k.more in omega arith
    fresh v s t (inr z) = let x = k.fresh v s z in let y = m.met_stays v z in omega arith

-- One more link of v was followed.
pub followed_more : (links : List Link) (w w' : Walk) (v q c : ℕ) → Keeps w w' → IsLast (begins links) v q c → 0 < get_or w'.seat.items (link_at links q).to 0
    → ((r : ℕ) → q < r → r < length links → begins links r ≡ v → 0 < get_or w.seat.items (link_at links r).to 0)
    → (r : ℕ) → c ≤ r → r < length links → begins links r ≡ v → 0 < get_or w'.seat.items (link_at links r).to 0
followed_more links w w' v q c k last here above r a b e = of (side r q)
  where
    side : (r q : ℕ) → (r < q) ⊎ ((r ≡ q) ⊎ (q < r))
    side r q = grind arith

    of : (r < q) ⊎ ((r ≡ q) ⊎ (q < r)) → 0 < get_or w'.seat.items (link_at links r).to 0
    of (inl l) = absurd (last.none r a l e)
    of (inr (inl z)) = subst (λ x. 0 < get_or w'.seat.items (link_at links x).to 0) (sym z) here
    of (inr (inr g)) = let x = above r g b e in let y = k.met_stays (link_at links r).to x in omega arith

-- All links of the vertex at place `done` were followed.
pub followed_next : (n : ℕ) (links : List Link) (w w' : Walk) (done v : ℕ) → All (IsBetween n) links → IsWalk n links w → Keeps w w' → done < w.met → v ≡ get_or w.order.items done 0
    → IsFollowed links w.seat.items done → ((q : ℕ) → q < length links → begins links q ≡ v → 0 < get_or w'.seat.items (link_at links q).to 0) → IsFollowed links w'.seat.items (done + 1)
followed_next n links w w' done v all p k l is_v before here q h some low = of (zero_or_more (get_or w.seat.items (link_at links q).«from» 0))
  where
    b : IsBetween n (link_at links q)
    b = between_at n links q h all

    at : 0 < get_or w.seat.items (link_at links q).«from» 0 → (get_or w.seat.items (link_at links q).«from» 0 ≤ done) ⊎ (done < get_or w.seat.items (link_at links q).«from» 0) → 0 < get_or w'.seat.items (link_at links q).to 0
    at s (inl x) = let y = before q h s x in let z = k.met_stays (link_at links q).to y in omega arith
    at s (inr x) =
        here q h
        (let e = k.met_stays (link_at links q).«from» s in
        let (y, z) = p.grown.seat_order (link_at links q).«from» b.begins s in
        let f : get_or w.seat.items (link_at links q).«from» 0 - 1 ≡ done = omega arith in
        sym z ∙ (ap (λ i. get_or w.order.items i 0) f ∙ sym is_v))

    of : (get_or w.seat.items (link_at links q).«from» 0 ≡ 0) ⊎ (0 < get_or w.seat.items (link_at links q).«from» 0) → 0 < get_or w'.seat.items (link_at links q).to 0
    of (inl z) = let x = k.fresh (link_at links q).«from» z some in absurd (omega arith)
    of (inr s) = at s (low_or_high (get_or w.seat.items (link_at links q).«from» 0) done)

abbrev positive : ℕ → Bool
positive zero = false
positive (suc k) = true

positive_true : (a : ℕ) → 0 < a → positive a ≡ true
positive_true zero h = absurd (omega arith)
positive_true (suc k) h = refl

true_positive : (a : ℕ) → positive a ≡ true → 0 < a
true_positive zero h = absurd (cc)
true_positive (suc k) h = omega arith

-- Where all links were followed, all vertices were met.
pub all_met : (n : ℕ) (links : List Link) (w : Walk) (done : ℕ) → All (IsBetween n) links → AreJoined n links → IsWalk n links w → w.met ≤ done → IsFollowed links w.seat.items done → (v : ℕ) → v ≤ n → 0 < get_or w.seat.items v 0
all_met n links w done all joined p l f v h =
    true_positive (get_or w.seat.items v 0)
    (joined (λ u. positive (get_or w.seat.items u 0)) (positive_true (get_or w.seat.items 0 0) (let a = p.grown.root_seat in omega arith))
    (λ q k e. positive_true (get_or w.seat.items (link_at links q).to 0)
    (let s = true_positive (get_or w.seat.items (link_at links q).«from» 0) e in
    let b = between_at n links q k all in
    let (x, y) = p.grown.seat_order (link_at links q).«from» b.begins s in
    f q k s (omega arith)))
    v h)

-- The root alone.
pub begun : (n : ℕ) (links : List Link) (w : Walk) → n < 2 ^ 31 → w.seat.items ≡ set (replicate (n + 1) 0) 0 1 → w.order.items ≡ replicate (n + 1) 0 → w.pred.items ≡ replicate (n + 1) 0 → w.arc.items ≡ replicate (n + 1) 0 → w.met ≡ 1
    → IsWalk n links w
begun n links w few es eo ep ea em = record {
  room = record {
    few = few;
    seats = ap length es ∙ (length-set _ _ _ ∙ size);
    orders = ap length eo ∙ size;
    preds = ap length ep ∙ size;
    arcs = ap length ea ∙ size;
  };
  grown = record {
    some = omega arith;
    root_seat = here;
    order_seat = λ i h. (let z : i ≡ 0 = omega arith in let o = first i (omega arith) in (omega arith, ap (λ v. get_or w.seat.items v 0) (o) ∙ (here ∙ ap suc (sym z))));
    seat_order = λ v l k. of v l k (equal_or_not v 0);
    pred_before = λ v l m k. absurd (let a = off v (λ e. absurd (omega arith)) l in omega arith);
    joins = λ v l m k. absurd (let a = off v (λ e. absurd (omega arith)) l in omega arith);
    counted = total_pick (suc n) (λ v. min (get_or w.seat.items v 0) 1) 0 (omega arith) (λ k h ne. ap (λ s. min s 1) (off k ne (omega arith))) ∙ (ap (λ s. min s 1) here ∙ sym em);
  };
}
  where
    size : length {A = ℕ} (replicate (n + 1) 0) ≡ suc n
    size = length-replicate (n + 1) 0 ∙ (let e : n + 1 ≡ suc n = omega arith in e)

    here : get_or w.seat.items 0 0 ≡ 1
    here = ap (λ l. get_or l 0 0) es ∙ get_or-set_same (replicate (n + 1) 0) 0 1 0 (let a = size in omega arith)

    off : (v : ℕ) → v ≢ 0 → v ≤ n → get_or w.seat.items v 0 ≡ 0
    off v ne l = ap (λ l. get_or l v 0) es ∙ (get_or-set_other (replicate (n + 1) 0) 0 v 1 0 ne ∙ get_or-replicate (n + 1) v 0 0 (omega arith))

    first : (i : ℕ) → i ≤ n → get_or w.order.items i 0 ≡ 0
    first i l = ap (λ l. get_or l i 0) eo ∙ get_or-replicate (n + 1) i 0 0 (omega arith)

    of : (v : ℕ) → v ≤ n → 0 < get_or w.seat.items v 0 → (v ≡ 0) ⊎ (v ≢ 0) → (get_or w.seat.items v 0 ≤ w.met) × (get_or w.order.items (get_or w.seat.items v 0 - 1) 0 ≡ v)
    of v l k (inr ne) = absurd (let a = off v ne l in omega arith)
    of v l k (inl e) =
        let a : get_or w.seat.items v 0 ≡ 1 = ap (λ v. get_or w.seat.items v 0) e ∙ here in
        let b : get_or w.seat.items v 0 - 1 ≡ 0 = omega arith in
        (omega arith, ap (λ i. get_or w.order.items i 0) b ∙ (first 0 (omega arith) ∙ sym e))
