-- Each kept link can be cut: the vertices have two sides, its ends are on both, and those of each other kept link on one.
use Rattle.std.proofs.Common.{◌≡◌, ◌≢◌, ℕ, zero, suc, ◌<◌, ◌⊎◌, inl, inr, Bool, true, false, not, ◌==◌, List, [], ◌∷◌, length, min, max, if◌then◌else◌, refl, sym, ap, ◌∙◌, subst, arith, eq-eqb, ne_eqb}
use Rattle.nf_view.specs.declared.links.Link.{Link}
use Rattle.nf_view.specs.Keys.{joined, kept_from, link_at}
use Rattle.nf_view.proofs.Agreeing.{Agrees}

equal_or_not : (a b : ℕ) → (a ≡ b) ⊎ (a ≢ b)
equal_or_not a b = grind arith

IsOn : Bool → Type 0
IsOn true = Unit {0}
IsOn false = ⊥

true-not-false : true ≢ false
unfolding IsOn
true-not-false e = subst IsOn e tt

same_or_not : (a b : Bool) → (a ≡ b) ⊎ (a ≢ b)
same_or_not true true = inl refl
same_or_not false false = inl refl
same_or_not true false = inr true-not-false
same_or_not false true = inr (λ e. true-not-false (sym e))

not_same : (a b : Bool) → a ≢ b → not a ≡ b
not_same true true ne = absurd (ne refl)
not_same false false ne = absurd (ne refl)
not_same true false ne = refl
not_same false true ne = refl

not_back : (a b : Bool) → not a ≡ not b → a ≡ b
not_back true true e = refl
not_back false false e = refl
not_back true false e = sym e
not_back false true e = sym e

lesser : (a b x : ℕ) → (x ≡ a) ⊎ (x ≡ b) → x ≢ max a b → x ≡ min a b
lesser a b x o ne = grind arith

pub kept_drop : (part : ℕ → ℕ) (e : Link) (es : List Link) → part e.«from» ≡ part e.to → kept_from part (e ∷ es) ≡ kept_from part es
unfolding kept_from
kept_drop part e es q = ap (λ b. if b then kept_from part es else e ∷ kept_from (joined part e) es) (eq-eqb (part e.«from») (part e.to) q)

pub kept_take : (part : ℕ → ℕ) (e : Link) (es : List Link) → part e.«from» ≢ part e.to → kept_from part (e ∷ es) ≡ e ∷ kept_from (joined part e) es
unfolding kept_from
kept_take part e es q = ap (λ b. if b then kept_from part es else e ∷ kept_from (joined part e) es) (ne_eqb (part e.«from») (part e.to) q)

none_kept : (part : ℕ → ℕ) → kept_from part [] ≡ []
unfolding kept_from
none_kept part = refl

module _ (part : ℕ → ℕ) (e : Link) where
  joined_same : (v w : ℕ) → part v ≡ part w → joined part e v ≡ joined part e w
  joined_same v w q = ap (λ x. if x == max (part e.«from») (part e.to) then min (part e.«from») (part e.to) else x) q

  at_end : (x : ℕ) → (x ≡ part e.«from») ⊎ (x ≡ part e.to) → (if x == max (part e.«from») (part e.to) then min (part e.«from») (part e.to) else x) ≡ min (part e.«from») (part e.to)
  at_end x o = of (equal_or_not x (max (part e.«from») (part e.to)))
    where
      of : (x ≡ max (part e.«from») (part e.to)) ⊎ (x ≢ max (part e.«from») (part e.to)) → (if x == max (part e.«from») (part e.to) then min (part e.«from») (part e.to) else x) ≡ min (part e.«from») (part e.to)
      of (inl q) = ap (λ b. if b then min (part e.«from») (part e.to) else x) (eq-eqb x (max (part e.«from») (part e.to)) q)
      of (inr q) = ap (λ b. if b then min (part e.«from») (part e.to) else x) (ne_eqb x (max (part e.«from») (part e.to)) q) ∙ lesser (part e.«from») (part e.to) x o q

  joined_ends : joined part e e.«from» ≡ joined part e e.to
  joined_ends = at_end (part e.«from») (inl refl) ∙ sym (at_end (part e.to) (inr refl))

-- Within each part what is on one side in one way of sides is so in the other.
record IsResided (part : ℕ → ℕ) (s t : ℕ → Bool) : Type 0 where
  same : (v w : ℕ) → part v ≡ part w → s v ≡ s w → t v ≡ t w
  other : (v w : ℕ) → part v ≡ part w → t v ≡ t w → s v ≡ s w

resided : (part : ℕ → ℕ) (s : ℕ → Bool) → IsResided part s s
resided part s = record { same = λ v w p q. q; other = λ v w p q. q }

-- The part of c changes its side.
module _ (part : ℕ → ℕ) (s : ℕ → Bool) (c : ℕ) where
  turned_over : ℕ → Bool
  turned_over v = if part v == part c then not (s v) else s v

  of_part : (v : ℕ) → part v ≡ part c → turned_over v ≡ not (s v)
  unfolding turned_over
  of_part v q = ap (λ b. if b then not (s v) else s v) (eq-eqb (part v) (part c) q)

  off_part : (v : ℕ) → part v ≢ part c → turned_over v ≡ s v
  unfolding turned_over
  off_part v q = ap (λ b. if b then not (s v) else s v) (ne_eqb (part v) (part c) q)

  turned_resided : IsResided part s turned_over
  turned_resided = record { same = λ v w p q. same v w p q (equal_or_not (part v) (part c)); other = λ v w p q. other v w p q (equal_or_not (part v) (part c)) }
    where
      same : (v w : ℕ) → part v ≡ part w → s v ≡ s w → (part v ≡ part c) ⊎ (part v ≢ part c) → turned_over v ≡ turned_over w
      same v w p q (inl a) = of_part v a ∙ (ap not q ∙ sym (of_part w (sym p ∙ a)))
      same v w p q (inr a) = off_part v a ∙ (q ∙ sym (off_part w (λ z. a (p ∙ z))))

      other : (v w : ℕ) → part v ≡ part w → turned_over v ≡ turned_over w → (part v ≡ part c) ⊎ (part v ≢ part c) → s v ≡ s w
      other v w p q (inl a) = not_back (s v) (s w) (sym (of_part v a) ∙ (q ∙ of_part w (sym p ∙ a)))
      other v w p q (inr a) = sym (off_part v a) ∙ (q ∙ off_part w (λ z. a (p ∙ z)))

-- The ends of a link between two parts come to one side.
one_side : (part : ℕ → ℕ) (e : Link) (s : ℕ → Bool) → part e.«from» ≢ part e.to → (t : ℕ → Bool) × IsResided part s t × (t e.«from» ≡ t e.to)
one_side part e s ne = of (same_or_not (s e.«from») (s e.to))
  where
    of : (s e.«from» ≡ s e.to) ⊎ (s e.«from» ≢ s e.to) → (t : ℕ → Bool) × IsResided part s t × (t e.«from» ≡ t e.to)
    of (inl q) = (s, resided part s, q)
    of (inr q) = (
      turned_over part s e.«from»,
      turned_resided part s e.«from»,
      of_part part s e.«from» e.«from» refl ∙ (not_same (s e.«from») (s e.to) q ∙ sym (off_part part s e.«from» e.to (λ z. ne (sym z)))),
    )

-- The ends of all kept links come to one side each.
all_one_side : (part : ℕ → ℕ) (es : List Link) (s : ℕ → Bool) → (t : ℕ → Bool) × IsResided part s t × Agrees t (kept_from part es)
all_one_side part [] s = (s, resided part s, subst (Agrees s) (sym (none_kept part)) tt)
all_one_side part (e ∷ es) s = of (equal_or_not (part e.«from») (part e.to)) (λ other u. all_one_side other es u)
  where
    of : (part e.«from» ≡ part e.to) ⊎ (part e.«from» ≢ part e.to) → ((other : ℕ → ℕ) (u : ℕ → Bool) → (t : ℕ → Bool) × IsResided other u t × Agrees t (kept_from other es))
        → (t : ℕ → Bool) × IsResided part s t × Agrees t (kept_from part (e ∷ es))
    of (inl q) rest = let (t, r, a) = rest part s in (t, r, subst (Agrees t) (sym (kept_drop part e es q)) a)
    of (inr q) rest =
        let (u, ru, h) = one_side part e s q in
        let (t, r, a) = rest (joined part e) u in (
          t,
          record {
            same = λ v w p z. r.same v w (joined_same part e v w p) (ru.same v w p z);
            other = λ v w p z. ru.other v w p (r.other v w (joined_same part e v w p) z);
          },
          subst (Agrees t) (sym (kept_take part e es q)) (r.same e.«from» e.to (joined_ends part e) h, a),
        )

agrees_at : (s : ℕ → Bool) (es : List Link) → Agrees s es → (k : ℕ) → k < length es → s (link_at es k).«from» ≡ s (link_at es k).to
agrees_at s [] a k h = absurd (omega arith)
agrees_at s (e ∷ es) a zero h = a.0
agrees_at s (e ∷ es) a (suc k) h = agrees_at s es a.1 k (omega arith)

-- Link i is cut: its ends are on two sides, and those of each other link on one.
pub record IsCut (part : ℕ → ℕ) (links : List Link) (i : ℕ) (s : ℕ → Bool) : Type 0 where
  pub whole : (v w : ℕ) → part v ≡ part w → s v ≡ s w
  pub apart : s (link_at links i).«from» ≢ s (link_at links i).to
  pub others : (k : ℕ) → k < length links → k ≢ i → s (link_at links k).«from» ≡ s (link_at links k).to

cut_first : (part : ℕ → ℕ) (e : Link) (es : List Link) → part e.«from» ≢ part e.to → (s : ℕ → Bool) × IsCut part (e ∷ kept_from (joined part e) es) 0 s
cut_first part e es ne =
    let (t, r, a) = all_one_side (joined part e) es (λ v. part v == part e.«from») in (
      t,
      record {
        whole = λ v w p. r.same v w (joined_same part e v w p) (ap (λ x. x == part e.«from») p);
        apart = λ q. true-not-false (sym (eq-eqb (part e.«from») (part e.«from») refl) ∙ (r.other e.«from» e.to (joined_ends part e) q ∙ ne_eqb (part e.to) (part e.«from») (λ z. ne (sym z))));
        others = λ k h z. others t a k h z;
      },
    )
  where
    others : (t : ℕ → Bool) → Agrees t (kept_from (joined part e) es) → (k : ℕ) → k < suc (length (kept_from (joined part e) es)) → k ≢ 0
        → t (link_at (e ∷ kept_from (joined part e) es) k).«from» ≡ t (link_at (e ∷ kept_from (joined part e) es) k).to
    others t a zero h z = absurd (z refl)
    others t a (suc k) h z = agrees_at t (kept_from (joined part e) es) a k (omega arith)

cut_later : (part : ℕ → ℕ) (e : Link) (links : List Link) (i : ℕ) → (s : ℕ → Bool) × IsCut (joined part e) links i s → (s : ℕ → Bool) × IsCut part (e ∷ links) (suc i) s
cut_later part e links i (s, c) = (
  s,
  record { whole = λ v w p. c.whole v w (joined_same part e v w p); apart = c.apart; others = λ k h z. others k h z },
)
  where
    others : (k : ℕ) → k < suc (length links) → k ≢ suc i → s (link_at (e ∷ links) k).«from» ≡ s (link_at (e ∷ links) k).to
    others zero h z = c.whole e.«from» e.to (joined_ends part e)
    others (suc k) h z = c.others k (omega arith) (λ q. z (ap suc q))

pub cut : (part : ℕ → ℕ) (es : List Link) (i : ℕ) → i < length (kept_from part es) → (s : ℕ → Bool) × IsCut part (kept_from part es) i s
cut part [] i h = absurd (let l : length (kept_from part []) ≡ 0 = ap length (none_kept part) in omega arith)
cut part (e ∷ es) i h = of (equal_or_not (part e.«from») (part e.to)) (λ other k l. cut other es k l)
  where
    at_place : (k : ℕ) → part e.«from» ≢ part e.to → k < suc (length (kept_from (joined part e) es)) → ((other : ℕ → ℕ) (k : ℕ) → k < length (kept_from other es) → (s : ℕ → Bool) × IsCut other (kept_from other es) k s)
        → (s : ℕ → Bool) × IsCut part (e ∷ kept_from (joined part e) es) k s
    at_place zero q l rest = cut_first part e es q
    at_place (suc k) q l rest = cut_later part e (kept_from (joined part e) es) k (rest (joined part e) k (omega arith))

    of : (part e.«from» ≡ part e.to) ⊎ (part e.«from» ≢ part e.to) → ((other : ℕ → ℕ) (k : ℕ) → k < length (kept_from other es) → (s : ℕ → Bool) × IsCut other (kept_from other es) k s)
        → (s : ℕ → Bool) × IsCut part (kept_from part (e ∷ es)) i s
    of (inl q) rest = subst (λ ks. (s : ℕ → Bool) × IsCut part ks i s) (sym (kept_drop part e es q)) (rest part i (subst (λ ks. i < length ks) (kept_drop part e es q) h))
    of (inr q) rest = subst (λ ks. (s : ℕ → Bool) × IsCut part ks i s) (sym (kept_take part e es q)) (at_place i q (subst (λ ks. i < length ks) (kept_take part e es q) h) rest)
