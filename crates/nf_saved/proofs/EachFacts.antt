-- Values that are read one after the other: what was written is read, what is read, and one more value.
use Rattle.std.proofs.Common.{◌≡◌, ◌∙◌, ◌<◌, ◌+◌, ◌-◌, ◌++◌, ◌∷◌, ℕ, zero, suc, List, [], length, get_or, take, Result, Ok, Err, refl, ap, sym, subst, arith, append_assoc, append-nil}
use Rattle.nf_saved.specs.declared.fault.SavedFault.{SavedFault}
use Rattle.nf_saved.specs.Rows.{and_then, each_read}
use Rattle.nf_saved.proofs.ListFacts.{add-zero}

-- ---- an answer that is no fault
pub err-ok : {A : Type 0} (e : SavedFault) (x : A) → Err e ≡ Ok x → ⊥
err-ok {A = A} e x h = subst (λ (r : Result A SavedFault). elim r as (λ _. Type 0) [ Ok z ↦ ⊥ | Err z ↦ Unit {0} ]) h tt

pub ok-same : {A : Type 0} (x y : A) (r : Result A SavedFault) → r ≡ Ok x → r ≡ Ok y → x ≡ y
ok-same {A = A} x y r d e = ap (λ (q : Result A SavedFault). elim q as (λ _. A) [ Ok z ↦ z | Err z ↦ x ]) (sym d ∙ e)

-- What goes on and ends well has a value to go on with.
pub from-both : {A B : Type 0} (a : Result A SavedFault) (next : A → Result B SavedFault) (r : B) → and_then a next ≡ Ok r → (x : A) × (a ≡ Ok x) × (next x ≡ Ok r)
unfolding and_then
from-both (Err e) next r h = absurd (err-ok e r h)
from-both (Ok x) next r h = (x, refl, h)

pub in-both : {A B C : Type 0} (a : Result A SavedFault) (next : A → Result B SavedFault) (r : B) → and_then a next ≡ Ok r → ((x : A) → a ≡ Ok x → next x ≡ Ok r → C) → C
in-both a next r e go = let x = from-both a next r e in go x.0 x.1 x.2

-- n values after some were read: each is what is read at its number.
pub record AreRead {A : Type 0} (f : List A → ℕ → Result A SavedFault) (d : A) (n i : ℕ) (before ys : List A) : Type 0 where
  pub many : length ys ≡ n
  pub each : (k : ℕ) → k < n → f (before ++ take k ys) (i + k) ≡ Ok (get_or ys k d)

module _ {A : Type 0} (f : List A → ℕ → Result A SavedFault) (d : A) where
  -- They are read.
  pub each-back : (ys : List A) (i : ℕ) (before : List A) → ((k : ℕ) → k < length ys → f (before ++ take k ys) (i + k) ≡ Ok (get_or ys k d)) → each_read f (length ys) i before ≡ Ok (before ++ ys)
  unfolding each_read and_then
  each-back [] i before h = ap Ok (sym (append-nil before))
  each-back (y ∷ ys) i before h =
      rw here
      (each-back ys (suc i) (before ++ y ∷ []) (λ k b. rw (append_assoc before (y ∷ []) (take k ys), (let e : suc i + k ≡ i + suc k = omega arith in e)) (h (suc k) (omega (arith, b))))
      ∙ ap Ok (append_assoc before (y ∷ []) ys))
    where
      here : f before i ≡ Ok y
      here = rw (append-nil before, add-zero i) at (h 0 (omega arith))

  -- What is read.
  pub from-each : (n i : ℕ) (before xs : List A) → each_read f n i before ≡ Ok xs → (ys : List A) × (xs ≡ before ++ ys) × AreRead f d n i before ys
  unfolding each_read
  from-each zero i before xs e = ([], sym (ok-same before xs (Ok before) refl e) ∙ sym (append-nil before), record { many = refl; each = λ k b. absurd (omega (arith, b)) })
  from-each (suc n) i before xs e =
      let a = from-both (f before i) (λ x. each_read f n (suc i) (before ++ x ∷ [])) xs e in
      let b = from-each n (suc i) (before ++ a.0 ∷ []) xs a.2 in
      (a.0 ∷ b.0, b.1 ∙ append_assoc before (a.0 ∷ []) b.0, record { many = ap suc b.2.many; each = of a.0 b.0 a.1 b.2 })
    where
      of : (x : A) (ys : List A) → f before i ≡ Ok x → AreRead f d n (suc i) (before ++ x ∷ []) ys → (k : ℕ) → k < suc n → f (before ++ take k (x ∷ ys)) (i + k) ≡ Ok (get_or (x ∷ ys) k d)
      of x ys h rest zero b = rw (append-nil before, add-zero i) h
      of x ys h rest (suc k) b =
          let g = rest.each k (omega (arith, b)) in
          rw (append_assoc before (x ∷ []) (take k ys), (let e : suc i + k ≡ i + suc k = omega arith in e)) at g

  -- One more value.
  one-more-read : (m i : ℕ) (before : List A) → each_read f (suc m) i before ≡ and_then (f before i) (λ x. each_read f m (suc i) (before ++ x ∷ []))
  unfolding each_read
  one-more-read m i before = refl

  none-read : (i : ℕ) (before : List A) → each_read f 0 i before ≡ Ok before
  unfolding each_read
  none-read i before = refl

  pub each-step : (n i : ℕ) (before : List A) → i < n → each_read f (n - i) i before ≡ and_then (f before i) (λ x. each_read f (n - suc i) (suc i) (before ++ x ∷ []))
  each-step n i before h = ap (λ m. each_read f m i before) (let e : n - i ≡ suc (n - suc i) = omega (arith, h) in e) ∙ one-more-read (n - suc i) i before

  pub each-none : (n : ℕ) (before : List A) → each_read f (n - n) n before ≡ Ok before
  each-none n before = ap (λ m. each_read f m n before) (let e : n - n ≡ 0 = omega arith in e) ∙ none-read n before
