-- Values that are read in a loop: none, one more, a fault, all.
use Rattle.std.proofs.Common.{◌≡◌, ◌∙◌, ◌<◌, ◌≤◌, ◌+◌, ◌-◌, ◌==◌, ◌++◌, ◌∷◌, inl, inr, ℕ, suc, Bool, true, false, List, [], length, Result, Ok, Err, refl, ap, sym, arith, length-append}
use Rattle.std.specs.Prelude.{codes, ◌||◌}
use Rattle.std.specs.List.{list_any}
use Rattle.std.proofs.lemmas.Bool.{eq-eqb}
use Rattle.nf_model.specs.Program.{LinearProgram}
use Rattle.nf_simplex.specs.StageOf.{StageNumber}
use Rattle.nf_price.specs.Queue.{IsAmong}
use Rattle.nf_saved.specs.declared.fault.SavedFault.{SavedFault}
use Rattle.nf_saved.specs.Rows.{SavedRow, and_then, each_read, member_read, member_said}
use Rattle.nf_saved.proofs.BackFacts.{from-member, from-row}

module _ {A : Type 0} (f : List A → ℕ → Result A SavedFault) where
  -- So many of n values are read: what is left are the others.
  pub record HasRead (n i : ℕ) (xs : List A) : Type 0 where
    pub rest : each_read f n 0 [] ≡ each_read f (n - i) i xs
    pub many : length xs ≡ i

  one-more : (m i : ℕ) (xs : List A) → each_read f (suc m) i xs ≡ and_then (f xs i) (λ x. each_read f m (suc i) (xs ++ x ∷ []))
  unfolding each_read
  one-more m i xs = refl

  no-more : (i : ℕ) (xs : List A) → each_read f 0 i xs ≡ Ok xs
  unfolding each_read
  no-more i xs = refl

  next : (n i : ℕ) (xs : List A) → i < n → each_read f (n - i) i xs ≡ and_then (f xs i) (λ x. each_read f (n - (i + 1)) (i + 1) (xs ++ x ∷ []))
  next n i xs h =
      ap (λ m. each_read f m i xs) (let e : n - i ≡ suc (n - (i + 1)) = omega (arith, h) in e)
      ∙ (one-more (n - (i + 1)) i xs ∙ ap (λ k. and_then (f xs i) (λ x. each_read f (n - (i + 1)) k (xs ++ x ∷ []))) (let e : suc i ≡ i + 1 = omega arith in e))

  pub read-none : (n : ℕ) (xs : List A) → xs ≡ [] → HasRead n 0 xs
  read-none n xs e = record { rest = ap (λ m. each_read f m 0 []) (let d : n ≡ n - 0 = omega arith in d) ∙ ap (λ (l : List A). each_read f (n - 0) 0 l) (sym e); many = ap length e }

  pub read-more : (n i : ℕ) (xs ys : List A) (x : A) → i < n → HasRead n i xs → f xs i ≡ Ok x → ys ≡ xs ++ x ∷ [] → HasRead n (i + 1) ys
  unfolding and_then
  read-more n i xs ys x b h e d = record {
    rest = h.rest ∙ (next n i xs b ∙ (ap (λ r. and_then r (λ x. each_read f (n - (i + 1)) (i + 1) (xs ++ x ∷ []))) e ∙ ap (λ (l : List A). each_read f (n - (i + 1)) (i + 1) l) (sym d)));
    many = ap length d ∙ (let n = length-append xs (x ∷ []) in let m = h.many in omega (arith, n, m));
  }

  pub read-stops : (n i : ℕ) (xs : List A) (e : SavedFault) → i < n → HasRead n i xs → f xs i ≡ Err e → each_read f n 0 [] ≡ Err e
  unfolding and_then
  read-stops n i xs e b h d = h.rest ∙ (next n i xs b ∙ ap (λ r. and_then r (λ x. each_read f (n - (i + 1)) (i + 1) (xs ++ x ∷ []))) d)

  pub read-all : (n i : ℕ) (xs : List A) → n ≤ i → HasRead n i xs → each_read f n 0 [] ≡ Ok xs
  read-all n i xs b h = h.rest ∙ (ap (λ m. each_read f m i xs) (let e : n - i ≡ 0 = omega (arith, b) in e) ∙ no-more i xs)

-- ---- members of the queue
among-test : (n : ℕ) (xs : List ℕ) → IsAmong n xs → list_any (λ m. m == n) xs ≡ true
among-test n [] h = absurd h
among-test n (x ∷ xs) (inl e) = rw (eq-eqb x n (sym e)) refl
among-test n (x ∷ xs) (inr h) = of (x == n) (among-test n xs h)
  where
    of : (b : Bool) → list_any (λ m. m == n) xs ≡ true → (b || list_any (λ m. m == n) xs) ≡ true
    of true e = refl
    of false e = e

-- A member that is read is none of those before it.
pub member-fresh : (p : LinearProgram) (stage : StageNumber) (rows : List SavedRow) (before : List ℕ) (i n : ℕ) → member_read p stage rows before i ≡ Ok n → IsAmong n before → ⊥
member-fresh p stage rows before i n e h =
    let s = from-row rows (20 + i) (codes "QUEUE") (suc i) (member_said p stage before) n e in
    let m = from-member p stage before s.0 n s.1 in
    let z : true ≡ false = sym (among-test n before h) ∙ m.new in
    cc
