-- The names of a list, each once where it first stands, in front of a list that has each of them once: they are as many, and
-- weigh as much.
use Rattle.std.proofs.Common.{◌≡◌, ℕ, zero, suc, ◌+◌, ◌<◌, ◌≤◌, ◌&&◌, ◌||◌, Bool, true, false, cond, not, List, [], ◌∷◌, ◌++◌, length, filter, ℤ, pos, ◌+ℤ◌, refl, sym, ◌∙◌, ap, ap₂, subst, arith}
use Rattle.std.specs.Str.{bytes_eq}
use Rattle.std.specs.List.{AllByRecursion}
use Rattle.std.proofs.lemmas.Int.{ints}
use Rattle.nf_cells.specs.Names.{Name, has_name, first_seen, is_once}
use Rattle.nf_cells.proofs.SeenFacts.{same, eq-self, differs-sym}
use Rattle.nf_dimacs_network.proofs.ListFacts.{both, false-from}

abbrev pub others : Name → List Name → List Name
others n ns = filter (λ m. not (bytes_eq n m)) ns

neither : (a b : Bool) → a || b ≡ false → (a ≡ false) × (b ≡ false)
neither false false e = (refl, refl)
neither false true e = absurd cc
neither true b e = absurd cc

not-false : (b : Bool) → not b ≡ true → b ≡ false
not-false true e = absurd cc
not-false false e = refl

-- where a name is not, there are only others
all-others : (n : Name) (ns : List Name) → has_name n ns ≡ false → others n ns ≡ ns
all-others n [] h = refl
all-others n (k ∷ ns) h =
    let parts = neither (bytes_eq n k) (has_name n ns) h in
    ap (λ (b : Bool). cond (not b) (k ∷ others n ns) (others n ns)) parts.0 ∙ ap (λ (ms : List Name). k ∷ ms) (all-others n ns parts.1)

no-other : (n x : Name) (ns : List Name) → has_name x ns ≡ false → has_name x (others n ns) ≡ false
no-other n x [] h = refl
no-other n x (k ∷ ns) h =
    let parts = neither (bytes_eq x k) (has_name x ns) h in
    by_cases (bytes_eq n k) parts.0 (no-other n x ns parts.1)
  where
    by_cases : (b : Bool) → bytes_eq x k ≡ false → has_name x (others n ns) ≡ false → has_name x (cond (not b) (k ∷ others n ns) (others n ns)) ≡ false
    by_cases true e g = g
    by_cases false e g = ap₂ (λ (a b : Bool). a || b) e g

itself-gone : (n : Name) (ns : List Name) → has_name n (others n ns) ≡ false
itself-gone n [] = refl
itself-gone n (k ∷ ns) = by_cases (bytes_eq n k) refl (itself-gone n ns)
  where
    by_cases : (b : Bool) → bytes_eq n k ≡ b → has_name n (others n ns) ≡ false → has_name n (cond (not b) (k ∷ others n ns) (others n ns)) ≡ false
    by_cases true e g = g
    by_cases false e g = ap₂ (λ (a b : Bool). a || b) e g

once-others : (n : Name) (ns : List Name) → is_once ns ≡ true → is_once (others n ns) ≡ true
unfolding is_once
once-others n [] h = refl
once-others n (k ∷ ns) h =
    let parts = both (not (has_name k ns)) (is_once ns) h in
    by_cases (bytes_eq n k) (not-false (has_name k ns) parts.0) (once-others n ns parts.1)
  where
    by_cases : (b : Bool) → has_name k ns ≡ false → is_once (others n ns) ≡ true → is_once (cond (not b) (k ∷ others n ns) (others n ns)) ≡ true
    by_cases true e g = g
    by_cases false e g = ap₂ (λ (a b : Bool). not a && b) (no-other n k ns e) g

pub once-seen : (ns : List Name) → is_once (first_seen ns) ≡ true
unfolding is_once first_seen
once-seen [] = refl
once-seen (n ∷ ns) = ap₂ (λ (a b : Bool). not a && b) (itself-gone n (first_seen ns)) (once-others n (first_seen ns) (once-seen ns))

seen-once : (ns : List Name) → is_once ns ≡ true → first_seen ns ≡ ns
unfolding is_once first_seen
seen-once [] h = refl
seen-once (n ∷ ns) h =
    let parts = both (not (has_name n ns)) (is_once ns) h in
    ap (λ (ms : List Name). n ∷ others n ms) (seen-once ns parts.1) ∙ ap (λ (ms : List Name). n ∷ ms) (all-others n ns (not-false (has_name n ns) parts.0))

-- ---- names that are there
module _ (x n : Name) (other : bytes_eq n x ≡ false) where
  has-kept : (ns : List Name) → has_name x ns ≡ true → has_name x (filter (λ m. not (bytes_eq n m)) ns) ≡ true
  has-kept [] h = absurd cc
  has-kept (k ∷ ns) h = by_cases (bytes_eq n k) refl (bytes_eq x k) refl h (has-kept ns)
    where
      by_cases : (b : Bool) → bytes_eq n k ≡ b → (c : Bool) → bytes_eq x k ≡ c → c || has_name x ns ≡ true → (has_name x ns ≡ true → has_name x (filter (λ m. not (bytes_eq n m)) ns) ≡ true)
          → has_name x (cond (not b) (k ∷ filter (λ m. not (bytes_eq n m)) ns) (filter (λ m. not (bytes_eq n m)) ns)) ≡ true
      by_cases true nb true xb g rest = absurd (let n_x : bytes_eq n x ≡ true = subst (λ (y : Name). bytes_eq n y ≡ true) (sym (same x k xb)) nb in cc)
      by_cases true nb false xb g rest = rest g
      by_cases false nb true xb g rest = ap (λ (c : Bool). c || has_name x (filter (λ m. not (bytes_eq n m)) ns)) xb
      by_cases false nb false xb g rest = ap (λ (c : Bool). c || has_name x (filter (λ m. not (bytes_eq n m)) ns)) xb ∙ rest g

pub has-seen : (x : Name) (ns : List Name) → has_name x ns ≡ true → has_name x (first_seen ns) ≡ true
unfolding first_seen
has-seen x [] h = absurd cc
has-seen x (n ∷ ns) h = by_cases (bytes_eq x n) refl h (has-seen x ns)
  where
    by_cases : (c : Bool) → bytes_eq x n ≡ c → c || has_name x ns ≡ true → (has_name x ns ≡ true → has_name x (first_seen ns) ≡ true) → has_name x (n ∷ filter (λ m. not (bytes_eq n m)) (first_seen ns)) ≡ true
    by_cases true xb g rest = ap (λ (c : Bool). c || has_name x (filter (λ m. not (bytes_eq n m)) (first_seen ns))) xb
    by_cases false xb g rest =
        let other : bytes_eq n x ≡ false = false-from (bytes_eq n x) (λ e. let x_n : bytes_eq x n ≡ true = subst (λ (y : Name). bytes_eq y n ≡ true) (same n x e) (eq-self n) in absurd cc) in
        ap (λ (c : Bool). c || has_name x (filter (λ m. not (bytes_eq n m)) (first_seen ns))) xb ∙ has-kept x n other (first_seen ns) (rest g)

pub has-behind : (x : Name) (ns ms : List Name) → has_name x ms ≡ true → has_name x (ns ++ ms) ≡ true
has-behind x [] ms h = h
has-behind x (n ∷ ns) ms h = by_cases (bytes_eq x n) (has-behind x ns ms h)
  where
    by_cases : (c : Bool) → has_name x (ns ++ ms) ≡ true → c || has_name x (ns ++ ms) ≡ true
    by_cases true g = refl
    by_cases false g = g

-- ---- weights
abbrev pub weigh : (Name → ℤ) → List Name → ℤ
weigh w [] = pos 0
weigh w (n ∷ ns) = w n +ℤ weigh w ns

module _ (w : Name → ℤ) (n : Name) where
  -- a list with a name once, without it
  pub without : (ns : List Name) → is_once ns ≡ true → has_name n ns ≡ true → (w n +ℤ weigh w (others n ns) ≡ weigh w ns) × (suc (length (others n ns)) ≡ length ns)
  unfolding is_once
  without [] once h = absurd cc
  without (k ∷ ns) once h =
      let parts = both (not (has_name k ns)) (is_once ns) once in
      by_cases (bytes_eq n k) refl h (not-false (has_name k ns) parts.0) (without ns parts.1)
    where
      by_cases : (b : Bool) → bytes_eq n k ≡ b → b || has_name n ns ≡ true → has_name k ns ≡ false
          → (has_name n ns ≡ true → (w n +ℤ weigh w (others n ns) ≡ weigh w ns) × (suc (length (others n ns)) ≡ length ns))
          → (w n +ℤ weigh w (cond (not b) (k ∷ others n ns) (others n ns)) ≡ w k +ℤ weigh w ns) × (suc (length (cond (not b) (k ∷ others n ns) (others n ns))) ≡ suc (length ns))
      by_cases true e h gone rest =
          let n_k : n ≡ k = same n k e in
          let all : others n ns ≡ ns = all-others n ns (subst (λ (x : Name). has_name x ns ≡ false) (sym n_k) gone) in
          (ap₂ (λ (x : Name) (ms : List Name). w x +ℤ weigh w ms) n_k all, ap (λ (ms : List Name). suc (length ms)) all)
      by_cases false e h gone rest =
          let r = rest h in
          let a : ℤ = w n in
          let b : ℤ = w k in
          let c : ℤ = weigh w (others n ns) in
          let d : ℤ = weigh w ns in
          let more : a +ℤ c ≡ d = r.0 in
          ((let z : a +ℤ (b +ℤ c) ≡ b +ℤ d = omega (arith, ints, more) in z), ap suc r.1)

-- Names in front of a list that has each of them.
module _ (w : Name → ℤ) (ds : List Name) (once : is_once ds ≡ true) where
  pub in-front : (ns : List Name) → AllByRecursion (λ n. has_name n ds ≡ true) ns → (weigh w (first_seen (ns ++ ds)) ≡ weigh w ds) × (length (first_seen (ns ++ ds)) ≡ length ds)
  unfolding first_seen
  in-front [] all = (ap (weigh w) (seen-once ds once), ap length (seen-once ds once))
  in-front (n ∷ ns) all =
      let rest = in-front ns all.1 in
      let here = without w n (first_seen (ns ++ ds)) (once-seen (ns ++ ds)) (has-seen n (ns ++ ds) (has-behind n ns ds all.0)) in
      (here.0 ∙ rest.0, here.1 ∙ rest.1)
