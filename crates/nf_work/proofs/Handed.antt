-- A fault that a `?` hands on under another name, and a closure that gives a list's own numbers.
use Rattle.std.proofs.Common.{◌≡◌, ℕ, ◌<◌, Result, Ok, Err, refl, sym, subst, Bool, true, false}
use Rattle.std.specs.Prelude.{IfOk, IfErr, IsErrAnd, IsTrue}
use Rattle.nf_num.specs.Rational.{ℚ}
use Rattle.nf_inverse.specs.Weights.{GivesEntries}

pub handed_as : {T E : Type 0} (r : Result T E) (e : E) (P : E → Type 0) → IsErrAnd r (λ q. q ≡ e) → P e → IfErr r P
handed_as (Ok x) e P is h = tt
handed_as (Err q) e P is h = subst P (sym is) h

pub own_entries : (gives : ℕ → ℕ × ℚ → Type 0) (count n : ℕ) (a : ℕ → ℚ) → count ≡ n → ((k : ℕ) (t : ℕ × ℚ) → gives k t → (t.0 ≡ k) × (t.1 ≡ a k)) → GivesEntries gives count n a
own_entries gives count n a same told = record {
  row = λ k. k;
  entries = λ k t h q. told k t q;
  within = λ k h. subst (λ m. k < m) same h;
  apart = λ j k h l e. e;
  rest = λ i h none. absurd (none i (subst (λ m. i < m) (sym same) h) refl);
}

pub ok_as : {T E : Type 0} (r : Result T E) (P Q : T → Type 0) → ((x : T) → P x → Q x) → IfOk r P → IfOk r Q
ok_as (Ok x) P Q f h = f x h
ok_as (Err q) P Q f h = tt

pub err_as : {T E : Type 0} (r : Result T E) (P Q : E → Type 0) → ((e : E) → P e → Q e) → IfErr r P → IfErr r Q
err_as (Ok x) P Q f h = tt
err_as (Err q) P Q f h = f q h

pub not_true : (b : Bool) → b ≡ false → IsTrue b → ⊥
not_true true e t = cc
not_true false e t = cc
