-- Texts in one buffer: more bytes leave those that are there, a new one stands behind them, and the first ones stay where the others leave.
use Rattle.std.proofs.Common.{◌≡◌, ◌<◌, ◌≤◌, ◌+◌, ◌-◌, ◌++◌, ℕ, suc, zero, List, [], ◌∷◌, length, get_or, take, drop, take-append-drop, refl, sym, subst, ap, ap₂, ◌∙◌, arith}
use Rattle.std.proofs.lemmas.List.{take-append-le, drop-append-le, length-drop, length-take-le, take_all}
use Rattle.std.proofs.Math.Seq.{drop-append_seam}
use Rattle.nf_labels.specs.Texts.{AreEnds, texts_from}

-- ---- where a text begins and ends
pub below : (s : ℕ) (es : List ℕ) (n : ℕ) → AreEnds s es n → s ≤ n
below s [] n h = omega (arith, h)
below s (e ∷ es) n h = omega (arith, h.0, below e es n h.1)

pub begin-within : (s : ℕ) (es : List ℕ) (n k : ℕ) → AreEnds s es n → k ≤ length es → get_or (s ∷ es) k 0 ≤ n
begin-within s es n zero h up = below s es n h
begin-within s [] n (suc k) h up = absurd (omega (arith, up))
begin-within s (e ∷ es) n (suc k) h up = begin-within e es n k h.1 (omega (arith, up))

pub end-within : (s : ℕ) (es : List ℕ) (n i : ℕ) → AreEnds s es n → i < length es → get_or es i 0 ≤ n
end-within s es n i h up = begin-within s es n (suc i) h (omega (arith, up))

pub in-order : (s : ℕ) (es : List ℕ) (n i : ℕ) → AreEnds s es n → i < length es → get_or (s ∷ es) i 0 ≤ get_or es i 0
in-order s [] n i h up = absurd (omega (arith, up))
in-order s (e ∷ es) n zero h up = h.0
in-order s (e ∷ es) n (suc i) h up = in-order e es n i h.1 (omega (arith, up))

-- ---- texts by number
pub of-length : (s : ℕ) (es bytes : List ℕ) → length (texts_from s es bytes) ≡ length es
of-length s [] bytes = refl
of-length s (e ∷ es) bytes = ap suc (of-length e es bytes)

pub text-at : (s : ℕ) (es bytes : List ℕ) (i : ℕ) → i < length es
    → get_or (texts_from s es bytes) i [] ≡ take (get_or es i 0 - get_or (s ∷ es) i 0) (drop (get_or (s ∷ es) i 0) bytes)
text-at s [] bytes i up = absurd (omega (arith, up))
text-at s (e ∷ es) bytes zero up = refl
text-at s (e ∷ es) bytes (suc i) up = text-at e es bytes i (omega (arith, up))

-- ---- one more
module _ (bytes more : List ℕ) where
  same-text : (s e : ℕ) → s ≤ e → e ≤ length bytes → take (e - s) (drop s (bytes ++ more)) ≡ take (e - s) (drop s bytes)
  same-text s e order up =
      ap (take (e - s)) (drop-append-le s bytes more (omega (arith, order, up)))
      ∙ take-append-le (e - s) (drop s bytes) more (omega (arith, length-drop s bytes, up))

  pub same-texts : (s : ℕ) (es : List ℕ) → AreEnds s es (length bytes) → texts_from s es (bytes ++ more) ≡ texts_from s es bytes
  same-texts s [] h = refl
  same-texts s (e ∷ es) h =
      ap₂ ◌∷◌ (same-text s e h.0 (below e es (length bytes) h.1)) (same-texts e es h.1)

  new-text : (s : ℕ) → s ≡ length bytes → take (length bytes + length more - s) (drop s (bytes ++ more)) ≡ more
  new-text s h = rw h (ap (take (length bytes + length more - length bytes)) (drop-append_seam bytes more) ∙ take_all (length bytes + length more - length bytes) more (omega arith))

  pub pushed : (s : ℕ) (es : List ℕ) → AreEnds s es (length bytes)
      → texts_from s (es ++ (length bytes + length more) ∷ []) (bytes ++ more) ≡ texts_from s es bytes ++ more ∷ []
  pushed s [] h = ap (λ t. t ∷ []) (new-text s h)
  pushed s (e ∷ es) h =
      ap₂ ◌∷◌ (same-text s e h.0 (below e es (length bytes) h.1)) (pushed e es h.1)

pub ends-pushed : (s : ℕ) (es : List ℕ) (n m : ℕ) → AreEnds s es n → n ≤ m → AreEnds s (es ++ m ∷ []) m
ends-pushed s [] n m h up = (omega (arith, h, up), refl)
ends-pushed s (e ∷ es) n m h up = (h.0, ends-pushed e es n m h.1 up)

-- ---- the first ones alone
pub ends-taken : (s : ℕ) (es : List ℕ) (n k : ℕ) → AreEnds s es n → k ≤ length es → AreEnds s (take k es) (get_or (s ∷ es) k 0)
ends-taken s es n zero h up = refl
ends-taken s [] n (suc k) h up = absurd (omega (arith, up))
ends-taken s (e ∷ es) n (suc k) h up = (h.0, ends-taken e es n k h.1 (omega (arith, up)))

pub begin-taken : (s : ℕ) (es : List ℕ) (k : ℕ) → k ≤ length es → get_or (s ∷ take k es) (length (take k es)) 0 ≡ get_or (s ∷ es) k 0
begin-taken s es zero up = refl
begin-taken s [] (suc k) up = absurd (omega (arith, up))
begin-taken s (e ∷ es) (suc k) up = begin-taken e es k (omega (arith, up))

texts-taken : (s : ℕ) (es bytes : List ℕ) (k : ℕ) → texts_from s (take k es) bytes ≡ take k (texts_from s es bytes)
texts-taken s es bytes zero = refl
texts-taken s [] bytes (suc k) = refl
texts-taken s (e ∷ es) bytes (suc k) = ap (λ ts. take (e - s) (drop s bytes) ∷ ts) (texts-taken e es bytes k)

module _ (s : ℕ) (es bytes : List ℕ) (k : ℕ) (h : AreEnds s es (length bytes)) (up : k ≤ length es) where
  pub fill-taken : AreEnds s (take k es) (length (take (get_or (s ∷ es) k 0) bytes))
  fill-taken =
      let size = length-take-le (get_or (s ∷ es) k 0) bytes (begin-within s es (length bytes) k h up) in
      subst (λ n. AreEnds s (take k es) n) (sym size) (ends-taken s es (length bytes) k h up)

  pub taken : texts_from s (take k es) (take (get_or (s ∷ es) k 0) bytes) ≡ take k (texts_from s es bytes)
  taken =
      let m = get_or (s ∷ es) k 0 in
      sym (same-texts (take m bytes) (drop m bytes) s (take k es) fill-taken)
      ∙ ap (texts_from s (take k es)) (take-append-drop m bytes)
      ∙ texts-taken s es bytes k
