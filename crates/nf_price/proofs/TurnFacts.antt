-- Columns in turn come in the order of the cursor, and each of them comes.
use Rattle.std.proofs.Common.{◌≡◌, ◌⊎◌, inl, inr, ℕ, zero, suc, ◌+◌, ◌-◌, ◌<◌, ◌≤◌, Bool, true, false, List, [], ◌∷◌, ◌++◌, length, MatchBool, refl, sym, ap, ◌∙◌, subst, subst₂, arith, lt-ltb, le-ltb, cond}
use Rattle.nf_num.specs.Rational.{ℚ}
use Rattle.nf_model.specs.Program.{LinearProgram}
use Rattle.nf_simplex.specs.Queue.{ComesBefore, AreFirst, IsFirstNumber}
use Rattle.nf_simplex.specs.Standing.{Standing}
use Rattle.nf_simplex.proofs.Orders.{less_or_not}
use Rattle.nf_simplex.proofs.Queue.{first_same}
use Rattle.nf_basis.specs.declared.col.Phase.{Phase}
use Rattle.nf_duals.specs.Priced.{count_priced}
use Rattle.nf_price.specs.Turns.{IsStart, IsSeen, in_turn}
use Rattle.nf_price.specs.Wanted.{Wants, WantsNumber, WantsNone}
use Rattle.nf_price.specs.Queue.{IsAmong}
use Rattle.nf_price.proofs.QueueFacts.{first_among, first_full, first_more}
use Rattle.nf_price.proofs.ScanFacts.{wanted_within}

pub turn_after : (from count t : ℕ) → t < count - from → in_turn from count t ≡ from + t
turn_after from count t h = ap (λ b. cond b (from + t) (t - (count - from))) (lt-ltb t (count - from) h)

pub turn_round : (from count t : ℕ) → count - from ≤ t → in_turn from count t ≡ t - (count - from)
turn_round from count t h = ap (λ b. cond b (from + t) (t - (count - from))) (le-ltb t (count - from) h)

pub start_here : (cursor count from : ℕ) → (from ≡ cursor) ⊎ ((from ≡ count) × (from ≤ cursor)) → from ≤ count → IsStart cursor count from
start_here cursor count from e h = (h, e)

-- Each column comes once.
pub turn_of : (from count j : ℕ) → from ≤ count → j < count → (u : ℕ) × (u < count) × (in_turn from count u ≡ j)
turn_of from count j h l = of (less_or_not j from)
  where
    of : (j < from) ⊎ (from ≤ j) → (u : ℕ) × (u < count) × (in_turn from count u ≡ j)
    of (inl b) = ((count - from) + j, omega (arith, h, l, b), turn_round from count ((count - from) + j) (omega arith) ∙ omega arith)
    of (inr b) = (j - from, omega (arith, l), turn_after from count (j - from) (omega (arith, l, b)) ∙ omega (arith, b))

-- An earlier column comes before a later one in the order of the cursor.
pub turns_in_order : (cursor count from u v : ℕ) → IsStart cursor count from → u < v → v < count → ComesBefore cursor (suc (in_turn from count u)) (suc (in_turn from count v))
turns_in_order cursor count from u v start l b = of (less_or_not u (count - from)) (less_or_not v (count - from))
  where
    below : from ≤ count
    below = start.0

    low : from ≤ cursor
    low = at start.1
      where
        at : (from ≡ cursor) ⊎ ((from ≡ count) × (from ≤ cursor)) → from ≤ cursor
        at (inl e) = omega (arith, e)
        at (inr e) = e.1

    after : u < count - from → cursor ≤ from
    after h = at start.1
      where
        at : (from ≡ cursor) ⊎ ((from ≡ count) × (from ≤ cursor)) → cursor ≤ from
        at (inl e) = omega (arith, e)
        at (inr e) = let z = e.0 in absurd (omega (arith, z, h))

    of : (u < count - from) ⊎ (count - from ≤ u) → (v < count - from) ⊎ (count - from ≤ v) → ComesBefore cursor (suc (in_turn from count u)) (suc (in_turn from count v))
    of (inl x) (inl y) = let e = turn_after from count u x in let f = turn_after from count v y in let z = after x in inr (omega (arith, e, f, l), inl (omega (arith, e, z)))
    of (inl x) (inr y) = let e = turn_after from count u x in let f = turn_round from count v y in let z = after x in inl (omega (arith, e, z), omega (arith, f, b, low, below))
    of (inr x) (inl y) = absurd (omega (arith, x, y, l))
    of (inr x) (inr y) = let e = turn_round from count u x in let f = turn_round from count v y in inr (omega (arith, e, f, l, x), inr (omega (arith, f, b, low, below)))

-- A place more, by what the phase wants there.
module _ (cursor size : ℕ) (A Q : ℕ → Type 0) (n : ℕ) (xs ys : List ℕ) where
  pub by_want : (b : Bool) → MatchBool b (A n) (A n → ⊥) → (b ≡ true → ys ≡ xs ++ n ∷ []) → (b ≡ false → ys ≡ xs) → (A n → AreFirst cursor size Q (xs ++ n ∷ [])) → ((A n → ⊥) → AreFirst cursor size Q xs) → AreFirst cursor size Q ys
  by_want true w added kept more same = subst (AreFirst cursor size Q) (sym (added refl)) (more w)
  by_want false w added kept more same = subst (AreFirst cursor size Q) (sym (kept refl)) (same w)

-- What holds of none before place t, nor there, holds of none before the next place.
pub none_before_next : (A : ℕ → Type 0) (t : ℕ) → ((u : ℕ) → u < t → A u → ⊥) → (A t → ⊥) → (u : ℕ) → u < t + 1 → A u → ⊥
none_before_next A t none here u l w = of (less_or_not u t)
  where
    of : (u < t) ⊎ (t ≤ u) → ⊥
    of (inl b) = none u b w
    of (inr b) = here (subst A (let e : u ≡ t = omega (arith, l, b) in e) w)

-- ---- what has been seen
seen_more : (from count t n : ℕ) → IsSeen from count (t + 1) n → IsSeen from count t n ⊎ (n ≡ suc (in_turn from count t))
seen_more from count t n (u, l, e) = of (less_or_not u t)
  where
    of : (u < t) ⊎ (t ≤ u) → IsSeen from count t n ⊎ (n ≡ suc (in_turn from count t))
    of (inl b) = inl (u, b, e)
    of (inr b) = inr (subst (λ w. n ≡ suc (in_turn from count w)) (let q : u ≡ t = omega (arith, l, b) in q) e)

module _ (p : LinearProgram) (s : Standing) (phase : Phase) (y1 y2 : List ℚ) (cursor from : ℕ) (start : IsStart cursor (count_priced p) from) where
  -- Of the columns looked at before place t, the wanted ones.
  abbrev pub WantedSeen : ℕ → ℕ → Type 0
  WantedSeen t n = WantsNumber p s phase y1 y2 n × IsSeen from (count_priced p) t n

  -- Each wanted column is looked at.
  seen_in_all : (n : ℕ) → WantsNumber p s phase y1 y2 n → IsSeen from (count_priced p) (count_priced p) n
  seen_in_all zero w = absurd w
  seen_in_all (suc j) w = let u = turn_of from (count_priced p) j start.0 (wanted_within p s phase y1 y2 j w) in (u.0, u.1, ap suc (sym u.2))

  pub found_none : (size : ℕ) → AreFirst cursor size (WantedSeen 0) []
  found_none size = inr (λ i w. let h = w.1.1 in omega (arith, h))

  before_next : (t : ℕ) → t < count_priced p → (i : ℕ) → WantedSeen t i → ComesBefore cursor i (suc (in_turn from (count_priced p) t))
  before_next t h i (w, (u, l, e)) = subst (λ n. ComesBefore cursor n (suc (in_turn from (count_priced p) t))) (sym e) (turns_in_order cursor (count_priced p) from u t start l h)

  pub found_more : (size t : ℕ) (ys : List ℕ) → t < count_priced p → length ys < size → Wants p s phase y1 y2 (in_turn from (count_priced p) t) → AreFirst cursor size (WantedSeen t) ys
      → AreFirst cursor size (WantedSeen (t + 1)) (ys ++ suc (in_turn from (count_priced p) t) ∷ [])
  found_more size t ys h l w a =
      first_more cursor size (WantedSeen t) (WantedSeen (t + 1)) (suc (in_turn from (count_priced p) t)) ys l (λ i x. (x.0, (x.1.0, (let b = x.1.1 in omega (arith, b)), x.1.2))) (λ i x. back i x.0 (seen_more from (count_priced p) t i x.1)) (w, (t, omega arith, refl)) (before_next t h) a
    where
      back : (i : ℕ) → WantsNumber p s phase y1 y2 i → IsSeen from (count_priced p) t i ⊎ (i ≡ suc (in_turn from (count_priced p) t)) → WantedSeen t i ⊎ (i ≡ suc (in_turn from (count_priced p) t))
      back i x (inl z) = inl (x, z)
      back i x (inr e) = inr e

  pub found_skip : (size t : ℕ) (ys : List ℕ) → (Wants p s phase y1 y2 (in_turn from (count_priced p) t) → ⊥) → AreFirst cursor size (WantedSeen t) ys → AreFirst cursor size (WantedSeen (t + 1)) ys
  found_skip size t ys un a = first_same cursor size (WantedSeen t) (WantedSeen (t + 1)) (λ i x. (x.0, (x.1.0, (let b = x.1.1 in omega (arith, b)), x.1.2))) (λ i x. back i x.0 (seen_more from (count_priced p) t i x.1)) ys a
    where
      back : (i : ℕ) → WantsNumber p s phase y1 y2 i → IsSeen from (count_priced p) t i ⊎ (i ≡ suc (in_turn from (count_priced p) t)) → WantedSeen t i
      back i x (inl z) = (x, z)
      back i x (inr e) = absurd (un (subst (WantsNumber p s phase y1 y2) e x))

  pub found_all : (size : ℕ) (ys : List ℕ) → AreFirst cursor size (WantedSeen (count_priced p)) ys → AreFirst cursor size (WantsNumber p s phase y1 y2) ys
  found_all size ys a = first_same cursor size (WantedSeen (count_priced p)) (WantsNumber p s phase y1 y2) (λ i x. x.0) (λ i x. (x, seen_in_all i x)) ys a

  pub found_full : (size t : ℕ) (ys : List ℕ) → size ≤ length ys → AreFirst cursor size (WantedSeen t) ys → AreFirst cursor size (WantsNumber p s phase y1 y2) ys
  found_full size t ys h a = first_full cursor size (WantedSeen t) (WantsNumber p s phase y1 y2) ys h (λ i x. x.0) (λ i x. back i x (seen_in_all i x)) a
    where
      back : (i : ℕ) → WantsNumber p s phase y1 y2 i → IsSeen from (count_priced p) (count_priced p) i → WantedSeen t i ⊎ ((j : ℕ) → WantedSeen t j → ComesBefore cursor j i)
      back i x (u, l, e) = of (less_or_not u t)
        where
          of : (u < t) ⊎ (t ≤ u) → WantedSeen t i ⊎ ((j : ℕ) → WantedSeen t j → ComesBefore cursor j i)
          of (inl b) = inl (x, (u, b, e))
          of (inr b) = inr (λ j w. subst₂ (λ m n. ComesBefore cursor m n) (sym w.1.2) (sym e) (turns_in_order cursor (count_priced p) from w.1.0 u start (let c = w.1.1 in omega (arith, b, c)) l))

  -- The column in turn is not among those found before.
  pub found_fresh : (size t : ℕ) (ys : List ℕ) → t < count_priced p → AreFirst cursor size (WantedSeen t) ys → IsAmong (suc (in_turn from (count_priced p) t)) ys → ⊥
  found_fresh size t ys h a b = irreflexive (before_next t h (suc (in_turn from (count_priced p) t)) (first_among cursor size (WantedSeen t) (suc (in_turn from (count_priced p) t)) ys a b))
    where
      irreflexive : ComesBefore cursor (suc (in_turn from (count_priced p) t)) (suc (in_turn from (count_priced p) t)) → ⊥
      irreflexive (inl x) = let c = x.0 in let d = x.1 in omega (arith, c, d)
      irreflexive (inr x) = let c = x.0 in omega (arith, c)

  -- The first one in turn is the first.
  pub first_in_turn : (t : ℕ) → t < count_priced p → ((u : ℕ) → u < t → Wants p s phase y1 y2 (in_turn from (count_priced p) u) → ⊥) → Wants p s phase y1 y2 (in_turn from (count_priced p) t)
      → IsFirstNumber cursor (WantsNumber p s phase y1 y2) (suc (in_turn from (count_priced p) t))
  first_in_turn t h none w = (w, λ i x. of i x (seen_in_all i x))
    where
      of : (i : ℕ) → WantsNumber p s phase y1 y2 i → IsSeen from (count_priced p) (count_priced p) i → (i ≡ suc (in_turn from (count_priced p) t)) ⊎ ComesBefore cursor (suc (in_turn from (count_priced p) t)) i
      of i x (u, l, e) = at (less_or_not u t) (less_or_not t u)
        where
          at : (u < t) ⊎ (t ≤ u) → (t < u) ⊎ (u ≤ t) → (i ≡ suc (in_turn from (count_priced p) t)) ⊎ ComesBefore cursor (suc (in_turn from (count_priced p) t)) i
          at (inl b) c = absurd (none u b (subst (WantsNumber p s phase y1 y2) e x))
          at (inr b) (inl c) = inr (subst (λ n. ComesBefore cursor (suc (in_turn from (count_priced p) t)) n) (sym e) (turns_in_order cursor (count_priced p) from t u start c l))
          at (inr b) (inr c) = inl (e ∙ ap (λ w. suc (in_turn from (count_priced p) w)) (let q : u ≡ t = omega (arith, b, c) in q))

  pub none_in_turn : ((u : ℕ) → u < count_priced p → Wants p s phase y1 y2 (in_turn from (count_priced p) u) → ⊥) → WantsNone p s phase y1 y2
  none_in_turn none j w = let u = turn_of from (count_priced p) j start.0 (wanted_within p s phase y1 y2 j w) in none u.0 u.1 (subst (Wants p s phase y1 y2) (sym u.2) w)
