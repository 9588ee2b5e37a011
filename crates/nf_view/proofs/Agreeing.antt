-- A set that has both ends of each kept link, or none, has both ends of each basic link, or none.
use Rattle.std.proofs.Common.{◌≡◌, ◌≢◌, ℕ, zero, suc, ◌<◌, ◌⊎◌, inl, inr, Bool, true, false, ◌==◌, List, [], ◌∷◌, ◌++◌, length, min, max, if◌then◌else◌, refl, sym, ap, ◌∙◌, subst, arith, eq-eqb, ne_eqb}
use Rattle.nf_model.specs.Program.{LinearProgram, column}
use Rattle.nf_prob.specs.Numbers.{tail_number, head_number}
use Rattle.nf_simplex.specs.Place.{Basic}
use Rattle.nf_simplex.specs.Columns.{Given, Artificial}
use Rattle.nf_simplex.specs.Standing.{Standing, place_of}
use Rattle.nf_view.specs.declared.links.Link.{Link}
use Rattle.nf_view.specs.Keys.{is_basic, arc_link, root_link, basic_arcs, basic_roots, joined, kept_from, both_ways, link_at}

equal_or_not : (a b : ℕ) → (a ≡ b) ⊎ (a ≢ b)
equal_or_not a b = grind arith

max_one : (a b : ℕ) → (max a b ≡ a) ⊎ (max a b ≡ b)
max_one a b = grind arith

min_one : (a b : ℕ) → (min a b ≡ a) ⊎ (min a b ≡ b)
min_one a b = grind arith

both_equal : (a b : Bool) → (a ≡ true → b ≡ true) → (b ≡ true → a ≡ true) → a ≡ b
both_equal true true f g = refl
both_equal true false f g = sym (f refl)
both_equal false true f g = g refl
both_equal false false f g = refl

module _ (inside : ℕ → Bool) where
  -- Both ends of each link of the list are inside, or none.
  abbrev pub Agrees : List Link → Type 0
  Agrees [] = Unit {0}
  Agrees (e ∷ es) = (inside e.«from» ≡ inside e.to) × Agrees es

  abbrev pub IsClosed : List Link → Type 0
  IsClosed links = (q : ℕ) → q < length links → inside (link_at links q).«from» ≡ true → inside (link_at links q).to ≡ true

  pub agree : (es : List Link) → IsClosed (both_ways es) → Agrees es
  unfolding both_ways
  agree [] c = tt
  agree (e ∷ es) c = (
    both_equal (inside e.«from») (inside e.to) (c 0 (omega arith)) (c 1 (omega arith)),
    agree es (λ q h. c (suc (suc q)) (omega arith)),
  )

  module _ (part : ℕ → ℕ) (same : (v w : ℕ) → part v ≡ part w → inside v ≡ inside w) (e : Link) (here : inside e.«from» ≡ inside e.to) where
    at_high : (v : ℕ) → part v ≡ max (part e.«from») (part e.to) → inside v ≡ inside e.«from»
    at_high v q = of (max_one (part e.«from») (part e.to))
      where
        of : (max (part e.«from») (part e.to) ≡ part e.«from») ⊎ (max (part e.«from») (part e.to) ≡ part e.to) → inside v ≡ inside e.«from»
        of (inl z) = same v e.«from» (q ∙ z)
        of (inr z) = same v e.to (q ∙ z) ∙ sym here

    at_low : (v : ℕ) → part v ≡ min (part e.«from») (part e.to) → inside v ≡ inside e.«from»
    at_low v q = of (min_one (part e.«from») (part e.to))
      where
        of : (min (part e.«from») (part e.to) ≡ part e.«from») ⊎ (min (part e.«from») (part e.to) ≡ part e.to) → inside v ≡ inside e.«from»
        of (inl z) = same v e.«from» (q ∙ z)
        of (inr z) = same v e.to (q ∙ z) ∙ sym here

    yes : (v : ℕ) → part v ≡ max (part e.«from») (part e.to) → joined part e v ≡ min (part e.«from») (part e.to)
    yes v q = ap (λ b. if b then min (part e.«from») (part e.to) else part v) (eq-eqb (part v) (max (part e.«from») (part e.to)) q)

    not_so : (v : ℕ) → part v ≢ max (part e.«from») (part e.to) → joined part e v ≡ part v
    not_so v q = ap (λ b. if b then min (part e.«from») (part e.to) else part v) (ne_eqb (part v) (max (part e.«from») (part e.to)) q)

    next_same : (v w : ℕ) → joined part e v ≡ joined part e w → inside v ≡ inside w
    next_same v w q = of (equal_or_not (part v) (max (part e.«from») (part e.to))) (equal_or_not (part w) (max (part e.«from») (part e.to)))
      where
        of : (part v ≡ max (part e.«from») (part e.to)) ⊎ (part v ≢ max (part e.«from») (part e.to)) → (part w ≡ max (part e.«from») (part e.to)) ⊎ (part w ≢ max (part e.«from») (part e.to)) → inside v ≡ inside w
        of (inl a) (inl b) = at_high v a ∙ sym (at_high w b)
        of (inl a) (inr b) = at_high v a ∙ sym (at_low w (sym (not_so w b) ∙ (sym q ∙ yes v a)))
        of (inr a) (inl b) = at_low v (sym (not_so v a) ∙ (q ∙ yes w b)) ∙ sym (at_high w b)
        of (inr a) (inr b) = same v w (sym (not_so v a) ∙ (q ∙ not_so w b))

  pub all_agree : (part : ℕ → ℕ) → ((v w : ℕ) → part v ≡ part w → inside v ≡ inside w) → (es : List Link) → Agrees (kept_from part es) → Agrees es
  unfolding kept_from
  all_agree part same [] a = tt
  all_agree part same (e ∷ es) a = of (equal_or_not (part e.«from») (part e.to)) (λ other h b. all_agree other h es b)
    where
      dropped : part e.«from» ≡ part e.to → (if part e.«from» == part e.to then kept_from part es else e ∷ kept_from (joined part e) es) ≡ kept_from part es
      dropped q = ap (λ b. if b then kept_from part es else e ∷ kept_from (joined part e) es) (eq-eqb (part e.«from») (part e.to) q)

      kept : part e.«from» ≢ part e.to → (if part e.«from» == part e.to then kept_from part es else e ∷ kept_from (joined part e) es) ≡ e ∷ kept_from (joined part e) es
      kept q = ap (λ b. if b then kept_from part es else e ∷ kept_from (joined part e) es) (ne_eqb (part e.«from») (part e.to) q)

      of : (part e.«from» ≡ part e.to) ⊎ (part e.«from» ≢ part e.to) → ((other : ℕ → ℕ) → ((v w : ℕ) → other v ≡ other w → inside v ≡ inside w) → Agrees (kept_from other es) → Agrees es)
          → (inside e.«from» ≡ inside e.to) × Agrees es
      of (inl q) rest = (same e.«from» e.to q, rest part same (subst Agrees (dropped q) a))
      of (inr q) rest = let b : Agrees (e ∷ kept_from (joined part e) es) = subst Agrees (kept q) a in (b.0, rest (joined part e) (next_same part same e b.0) b.1)

  pub front : (xs ys : List Link) → Agrees (xs ++ ys) → Agrees xs
  front [] ys a = tt
  front (x ∷ xs) ys a = (a.0, front xs ys a.1)

  pub back : (xs ys : List Link) → Agrees (xs ++ ys) → Agrees ys
  back [] ys a = a
  back (x ∷ xs) ys a = back xs ys a.1

  module _ (p : LinearProgram) (s : Standing) where
    below_last : (k n : ℕ) → k < suc n → (k < n) ⊎ (k ≡ n)
    below_last k n h = grind arith

    pub arcs_agree : (n : ℕ) → Agrees (basic_arcs p s n) → (j : ℕ) → j < n → place_of p s (Given j) ≡ Basic → inside (tail_number (column p j).ends) ≡ inside (head_number (column p j).ends)
    unfolding basic_arcs
    arcs_agree zero a j h b = absurd (omega arith)
    arcs_agree (suc n) a j h b = of (below_last j n h) (λ l. arcs_agree n (front (basic_arcs p s n) _ a) j l b)
      where
        of : (j < n) ⊎ (j ≡ n) → (j < n → inside (tail_number (column p j).ends) ≡ inside (head_number (column p j).ends)) → inside (tail_number (column p j).ends) ≡ inside (head_number (column p j).ends)
        of (inl l) below = below l
        of (inr e) below =
            let c : Agrees (if is_basic (place_of p s (Given n)) then arc_link p n ∷ [] else []) = back (basic_arcs p s n) _ a in
            let d : place_of p s (Given n) ≡ Basic = ap (λ k. place_of p s (Given k)) (sym e) ∙ b in
            let f : Agrees (arc_link p n ∷ []) = subst (λ x. Agrees (if is_basic x then arc_link p n ∷ [] else [])) d c in
            subst (λ k. inside (tail_number (column p k).ends) ≡ inside (head_number (column p k).ends)) (sym e) f.0

    pub roots_agree : (n : ℕ) → Agrees (basic_roots p s n) → (i : ℕ) → i < n → place_of p s (Artificial i) ≡ Basic → inside 0 ≡ inside (suc i)
    unfolding basic_roots
    roots_agree zero a i h b = absurd (omega arith)
    roots_agree (suc n) a i h b = of (below_last i n h) (λ l. roots_agree n (front (basic_roots p s n) _ a) i l b)
      where
        of : (i < n) ⊎ (i ≡ n) → (i < n → inside 0 ≡ inside (suc i)) → inside 0 ≡ inside (suc i)
        of (inl l) below = below l
        of (inr e) below =
            let c : Agrees (if is_basic (place_of p s (Artificial n)) then root_link n ∷ [] else []) = back (basic_roots p s n) _ a in
            let d : place_of p s (Artificial n) ≡ Basic = ap (λ k. place_of p s (Artificial k)) (sym e) ∙ b in
            let f : Agrees (root_link n ∷ []) = subst (λ x. Agrees (if is_basic x then root_link n ∷ [] else [])) d c in
            subst (λ k. inside 0 ≡ inside (suc k)) (sym e) f.0
