-- The members of a queue and the other columns together cost no more than all columns.
use Rattle.std.proofs.Common.{◌≡◌, ◌⊎◌, inl, inr, ℕ, zero, suc, ◌+◌, ◌-◌, ◌<◌, ◌≤◌, ◌==◌, ◌||◌, Bool, true, false, List, [], ◌∷◌, length, take, refl, sym, ap, ◌∙◌, subst, arith, lt-ltb, le-ltb, cond}
use Rattle.std.specs.List.{sum_by}
use Rattle.std.specs.Prelude.{slice_index_or}
use Rattle.std.proofs.lemmas.List.{take_all}
use Rattle.std.proofs.lemmas.List.Sums.{sum_by-cons, sum_by_more, sum_by-take-le}
use Rattle.nf_model.specs.Program.{LinearProgram}
use Rattle.nf_simplex.proofs.Orders.{less_or_not}
use Rattle.nf_basis.specs.declared.col.Phase.{Phase}
use Rattle.nf_duals.specs.Priced.{count_priced}
use Rattle.nf_price.specs.Cost.{paid, price_in, price_of, price_but, paid_members, paid_turns, has_member}
use Rattle.nf_price.specs.Queue.{IsAmong, AreDistinct}
use Rattle.nf_price.specs.Turns.{in_turn}
use Rattle.nf_price.proofs.CostFacts.{paid_more, paid_none}
use Rattle.nf_price.proofs.TurnFacts.{turn_after, turn_of, turn_round}

-- ---- a member more
none_left : (b : Bool) (x : ℕ) → b ≡ true → cond b 0 x ≡ 0
none_left b x e = ap (λ z. cond z 0 x) e

all_left : (b : Bool) (x : ℕ) → b ≡ false → cond b 0 x ≡ x
all_left b x e = ap (λ z. cond z 0 x) e

less_left : (a b : Bool) (x : ℕ) → cond (a || b) 0 x ≤ cond b 0 x
less_left true true x = omega arith
less_left true false x = omega arith
less_left false true x = omega arith
less_left false false x = omega arith

or_first : (a b : Bool) → a ≡ true → (a || b) ≡ true
or_first a b e = ap (λ z. z || b) e

or_second : (a b : Bool) → a ≡ false → (a || b) ≡ b
or_second a b e = ap (λ z. z || b) e

is_itself : (m : ℕ) → (m == m) ≡ true
is_itself m = grind arith

apart : (x m : ℕ) → (m ≡ x → ⊥) → (x == m) ≡ false
apart x m h = of (x == m) refl
  where
    of : (b : Bool) → (x == m) ≡ b → b ≡ false
    of true e = absurd (h (grind (arith, e)))
    of false e = refl

not_among : (m : ℕ) (queue : List ℕ) → (IsAmong m queue → ⊥) → has_member queue m ≡ false
not_among m [] h = refl
not_among m (x ∷ queue) h = or_second (x == m) (has_member queue m) (apart x m (λ e. h (inl e))) ∙ not_among m queue (λ a. h (inr a))

module _ (p : LinearProgram) (phase : Phase) (from : ℕ) where
  abbrev count : ℕ
  count = count_priced p

  abbrev turn : ℕ → ℕ
  turn t = suc (in_turn from (count_priced p) t)

  pub turns_none : (queue : List ℕ) → paid_turns p phase queue from 0 ≡ 0
  unfolding paid_turns
  turns_none queue = refl

  turns_suc : (queue : List ℕ) (t : ℕ) → paid_turns p phase queue from (suc t) ≡ paid_turns p phase queue from t + price_but p phase queue (turn t)
  unfolding paid_turns
  turns_suc queue t = refl

  pub turns_more : (queue : List ℕ) (t : ℕ) → paid_turns p phase queue from (t + 1) ≡ paid_turns p phase queue from t + price_but p phase queue (turn t)
  turns_more queue t = ap (paid_turns p phase queue from) (let e : t + 1 ≡ suc t = omega arith in e) ∙ turns_suc queue t

  turns_up : (queue : List ℕ) (t k : ℕ) → paid_turns p phase queue from t ≤ paid_turns p phase queue from (t + k)
  turns_up queue t zero = let e : paid_turns p phase queue from (t + 0) ≡ paid_turns p phase queue from t = ap (paid_turns p phase queue from) (omega arith) in omega (arith, e)
  turns_up queue t (suc k) =
      let e : paid_turns p phase queue from (t + suc k) ≡ paid_turns p phase queue from (t + k) + price_but p phase queue (turn (t + k)) = ap (paid_turns p phase queue from) (omega arith) ∙ turns_suc queue (t + k) in
      omega (arith, e, turns_up queue t k)

  pub turns_within : (queue : List ℕ) (t n : ℕ) → t ≤ n → paid_turns p phase queue from t ≤ paid_turns p phase queue from n
  turns_within queue t n h = subst (λ k. paid_turns p phase queue from t ≤ paid_turns p phase queue from k) (let e : t + (n - t) ≡ n = omega arith in e) (turns_up queue t (n - t))

  price_there : (k : ℕ) → k < count → price_of p phase (suc k) ≡ price_in p phase k
  price_there k h = ap (λ b. cond b (price_in p phase k) 0) (lt-ltb k (count_priced p) h)

  price_past : (k : ℕ) → count ≤ k → price_of p phase (suc k) ≡ 0
  price_past k h = ap (λ b. cond b (price_in p phase k) 0) (le-ltb k (count_priced p) h)

  -- ---- without members
  after : (t : ℕ) → t ≤ count - from → paid_turns p phase [] from t + paid p phase from ≡ paid p phase (from + t)
  after zero h = let e : paid p phase (from + 0) ≡ paid p phase from = ap (paid p phase) (omega arith) in omega (arith, turns_none [], e)
  after (suc t) h =
      let a = after t (omega (arith, h)) in
      let b = turns_suc [] t in
      let c : price_of p phase (turn t) ≡ price_in p phase (from + t) = ap (λ k. price_of p phase (suc k)) (turn_after from count t (omega (arith, h))) ∙ price_there (from + t) (omega (arith, h)) in
      let d : paid p phase (from + suc t) ≡ paid p phase (from + t + 1) = ap (paid p phase) (omega arith) in
      omega (arith, a, b, c, d, paid_more p phase (from + t))

  round : (t : ℕ) → from ≤ count → t ≤ from → paid_turns p phase [] from (count - from + t) + paid p phase from ≡ paid p phase count + paid p phase t
  round zero g h =
      let a = after (count - from) (omega arith) in
      let b : paid_turns p phase [] from (count - from + 0) ≡ paid_turns p phase [] from (count - from) = ap (paid_turns p phase [] from) (omega arith) in
      let c : paid p phase (from + (count - from)) ≡ paid p phase count = ap (paid p phase) (omega (arith, g)) in
      omega (arith, a, b, c, paid_none p phase)
  round (suc t) g h =
      let a = round t g (omega (arith, h)) in
      let b : paid_turns p phase [] from (count - from + suc t) ≡ paid_turns p phase [] from (suc (count - from + t)) = ap (paid_turns p phase [] from) (omega arith) in
      let c = turns_suc [] (count - from + t) in
      let d : price_of p phase (turn (count - from + t)) ≡ price_in p phase t = ap (λ k. price_of p phase (suc k)) (turn_round from count (count - from + t) (omega arith) ∙ omega arith) ∙ price_there t (omega (arith, g, h)) in
      let e : paid p phase (suc t) ≡ paid p phase (t + 1) = ap (paid p phase) (omega arith) in
      omega (arith, a, b, c, d, e, paid_more p phase t)

  turns_in_all : from ≤ count → paid_turns p phase [] from count ≡ paid p phase count
  turns_in_all g =
      let a = round from g (omega arith) in
      let b : paid_turns p phase [] from (count - from + from) ≡ paid_turns p phase [] from count = ap (paid_turns p phase [] from) (omega (arith, g)) in
      omega (arith, a, b)

  -- ---- with one member more
  turns_less : (m : ℕ) (queue : List ℕ) (t : ℕ) → paid_turns p phase (m ∷ queue) from t ≤ paid_turns p phase queue from t
  turns_less m queue zero = let a = turns_none (m ∷ queue) in omega (arith, a)
  turns_less m queue (suc t) =
      let a = turns_suc (m ∷ queue) t in
      let b = turns_suc queue t in
      let c = turns_less m queue t in
      let d : price_but p phase (m ∷ queue) (turn t) ≤ price_but p phase queue (turn t) = less_left (m == turn t) (has_member queue (turn t)) (price_of p phase (turn t)) in
      omega (arith, a, b, c, d)

  one_less : (m : ℕ) (queue : List ℕ) (t u : ℕ) → (IsAmong m queue → ⊥) → u < t → m ≡ turn u → price_of p phase m + paid_turns p phase (m ∷ queue) from t ≤ paid_turns p phase queue from t
  one_less m queue zero u fresh h e = absurd (omega (arith, h))
  one_less m queue (suc t) u fresh h e = of (less_or_not u t) (λ b. one_less m queue t u fresh b e)
    where
      of : (u < t) ⊎ (t ≤ u) → (u < t → price_of p phase m + paid_turns p phase (m ∷ queue) from t ≤ paid_turns p phase queue from t) → price_of p phase m + paid_turns p phase (m ∷ queue) from (suc t) ≤ paid_turns p phase queue from (suc t)
      of (inl b) rest =
          let a = turns_suc (m ∷ queue) t in
          let c = turns_suc queue t in
          let d = rest b in
          let f : price_but p phase (m ∷ queue) (turn t) ≤ price_but p phase queue (turn t) = less_left (m == turn t) (has_member queue (turn t)) (price_of p phase (turn t)) in
          omega (arith, a, c, d, f)
      of (inr b) rest =
          let here : m ≡ turn t = subst (λ w. m ≡ turn w) (let q : u ≡ t = omega (arith, h, b) in q) e in
          let a = turns_suc (m ∷ queue) t in
          let c = turns_suc queue t in
          let d = turns_less m queue t in
          let gone : price_but p phase (m ∷ queue) (turn t) ≡ 0 = subst (λ n. price_but p phase (m ∷ queue) n ≡ 0) here (none_left ((m == m) || has_member queue m) (price_of p phase m) (or_first (m == m) (has_member queue m) (is_itself m))) in
          let there : price_but p phase queue (turn t) ≡ price_of p phase m = subst (λ n. price_but p phase queue n ≡ price_of p phase m) here (all_left (has_member queue m) (price_of p phase m) (not_among m queue fresh)) in
          omega (arith, a, c, d, gone, there)

  member_less : (m : ℕ) (queue : List ℕ) → from ≤ count → (IsAmong m queue → ⊥) → price_of p phase m + paid_turns p phase (m ∷ queue) from count ≤ paid_turns p phase queue from count
  member_less zero queue g fresh = let a = turns_less 0 queue count in omega (arith, a)
  member_less (suc j) queue g fresh = of (less_or_not j count)
    where
      of : (j < count) ⊎ (count ≤ j) → price_of p phase (suc j) + paid_turns p phase (suc j ∷ queue) from count ≤ paid_turns p phase queue from count
      of (inl l) = let u = turn_of from count j g l in one_less (suc j) queue count u.0 fresh u.1 (ap suc (sym u.2))
      of (inr l) =
          let a = turns_less (suc j) queue count in
          let f = price_past j l in
          omega (arith, a, f)

  -- No column is paid twice.
  pub members_and_others : (queue : List ℕ) → from ≤ count → AreDistinct queue → paid_members p phase queue + paid_turns p phase queue from count ≤ paid p phase count
  members_and_others [] g d = let a = turns_in_all g in omega (arith, a)
  members_and_others (m ∷ queue) g d =
      let a = member_less m queue g d.0 in
      let b = members_and_others queue g d.1 in
      let c : sum_by (price_of p phase) (m ∷ queue) ≡ price_of p phase m + sum_by (price_of p phase) queue = sum_by-cons (price_of p phase) m queue in
      omega (arith, a, b, c)

  -- What has been paid at the next column in turn, and in all.
  pub paid_at : (queue : List ℕ) → from ≤ count → AreDistinct queue → (t number a b c : ℕ) → t < count → number ≡ turn t → b ≤ a + paid_turns p phase queue from t → c ≤ b + price_but p phase queue number
      → (c ≤ a + paid_turns p phase queue from (t + 1)) × (c + paid_members p phase queue ≤ a + paid p phase count)
  paid_at queue g d t number a b c h e x y =
      let here : price_but p phase queue number ≡ price_but p phase queue (turn t) = ap (price_but p phase queue) e in
      let more = turns_more queue t in
      let within = turns_within queue (t + 1) count (omega (arith, h)) in
      let all = members_and_others queue g d in
      (omega (arith, x, y, here, more), omega (arith, x, y, here, more, within, all))

  pub paid_so_far : (queue : List ℕ) → from ≤ count → AreDistinct queue → (t a b : ℕ) → t ≤ count → b ≤ a + paid_turns p phase queue from t → b + paid_members p phase queue ≤ a + paid p phase count
  paid_so_far queue g d t a b h x =
      let within = turns_within queue t count h in
      let all = members_and_others queue g d in
      omega (arith, x, within, all)

-- ---- members one by one
pub members_more : (p : LinearProgram) (phase : Phase) (k d : ℕ) (xs : List ℕ) → k < length xs → paid_members p phase (take (k + 1) xs) ≡ paid_members p phase (take k xs) + price_of p phase (slice_index_or xs k d)
members_more p phase k d xs h = sum_by_more (price_of p phase) xs k d h

pub members_within : (p : LinearProgram) (phase : Phase) (k : ℕ) (xs : List ℕ) → paid_members p phase (take k xs) ≤ paid_members p phase xs
members_within p phase k xs = sum_by-take-le (price_of p phase) xs k

pub members_whole : (p : LinearProgram) (phase : Phase) (k : ℕ) (xs : List ℕ) → length xs ≤ k → paid_members p phase (take k xs) ≡ paid_members p phase xs
members_whole p phase k xs h = ap (paid_members p phase) (take_all k xs h)

pub members_in_all : (p : LinearProgram) (phase : Phase) (queue : List ℕ) → AreDistinct queue → paid_members p phase queue ≤ paid p phase (count_priced p)
members_in_all p phase queue d = let all = members_and_others p phase 0 queue (omega arith) d in omega (arith, all)
