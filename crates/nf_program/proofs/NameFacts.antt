-- The bytes of a name and the zeros behind them.
use Rattle.std.proofs.Common.{◌≡◌, ℕ, suc, ◌+◌, ◌-◌, ◌<◌, List, [], ◌∷◌, ◌++◌, length, map, take, get_or, set, replicate, refl, sym, ap, ◌∙◌, arith, append_assoc}
use Rattle.std.proofs.lemmas.List.{take_at, length-map, length-take-le, map-append}
use Rattle.std.proofs.lemmas.Grind.{take_at_read}
use Rattle.std.proofs.Math.Seq.{set-append_seam}
use Rattle.std.specs.Char.{to_ascii_lowercase}
use Rattle.nf_program.specs.declared.items.Name.TheInside.{Inside}
use Rattle.nf_program.specs.Names.{bytes_of, filled, IsName}

bytes_back : (bs all : List ℕ) → all ≡ filled bs → take (length bs) all ≡ bs
bytes_back bs all e = ap (take (length bs)) e ∙ take_at bs (replicate (32 - length bs) 0) (length bs) refl

module _ (n : Inside) (all : List ℕ) (h : IsName n) (e : all ≡ map to_ascii_lowercase (bytes_of n) ++ replicate (32 - n.len) 0) where
  lower : List ℕ
  lower = map to_ascii_lowercase (bytes_of n)

  same_length : length lower ≡ n.len
  unfolding lower
  same_length = length-map (bytes_of n) to_ascii_lowercase ∙ h.length_is

  whole : all ≡ filled lower
  unfolding lower
  whole = e ∙ ap (λ (k : ℕ). map to_ascii_lowercase (bytes_of n) ++ replicate (32 - k) 0) (sym same_length)

  -- the bytes of a name in lower case
  pub lower_bytes : take n.len all ≡ map to_ascii_lowercase (bytes_of n)
  unfolding lower
  lower_bytes = ap (λ (k : ℕ). take k all) (sym same_length) ∙ bytes_back lower all whole

  pub lower_is : IsName (record { all = all; len = n.len })
  unfolding lower
  lower_is = record { some = h.some; short = h.short; length_is = ap length lower_bytes ∙ same_length; bytes_are = ap filled lower_bytes ∙ sym whole }

-- one more byte in lower case
pub lower_more : (bs all : List ℕ) (i b : ℕ) → i < length bs → i < 32 → b ≡ to_ascii_lowercase (get_or bs i 0) → all ≡ map to_ascii_lowercase (take i bs) ++ replicate (32 - i) 0
    → set all i b ≡ map to_ascii_lowercase (take (i + 1) bs) ++ replicate (32 - (i + 1)) 0
lower_more bs all i b lt small is e =
    let front = map to_ascii_lowercase (take i bs) in
    let len : length front ≡ i = length-map (take i bs) to_ascii_lowercase ∙ length-take-le i bs (omega arith) in
    let left : 32 - i ≡ suc (32 - (i + 1)) = omega arith in
    let before : all ≡ front ++ 0 ∷ replicate (32 - (i + 1)) 0 = e ∙ ap (λ (k : ℕ). front ++ replicate k 0) left in
    let more : map to_ascii_lowercase (take (i + 1) bs) ≡ front ++ b ∷ [] =
    ap (map to_ascii_lowercase) (take_at_read bs i 0 lt).1 ∙ map-append to_ascii_lowercase (take i bs) (get_or bs i 0 ∷ []) ∙ ap (λ (c : ℕ). front ++ c ∷ []) (sym is) in
    (λ j. set (before j) (sym len j) b) ∙ set-append_seam front 0 (replicate (32 - (i + 1)) 0) b ∙ sym (append_assoc front (b ∷ []) (replicate (32 - (i + 1)) 0))
    ∙ ap (λ (t : List ℕ). t ++ replicate (32 - (i + 1)) 0) (sym more)
