-- Reads and writes one after the other, of bytes that are told or not.
use Rattle.std.proofs.Common.{◌≡◌, ◌∙◌, ◌++◌, ◌+◌, ◌-◌, ◌<◌, ◌≤◌, ℕ, min, length, take, drop, List, [], Option, Some, None, sym, refl, ap, append_assoc, arith, length-append}
use Rattle.std.proofs.lemmas.List.{drop-drop, length-drop, length-take-le, take-append-drop, take_at}
use Rattle.std.proofs.Math.ListN.{drop_of_length-le}
use Rattle.std.specs.Io.KnownBytes.{Appends, Consumes, Keeps}

-- a read, and then another, took the bytes of both
pub consumes-more : (a b c : Option (List ℕ)) (xs ys : List ℕ) → Consumes a b xs → Consumes b c ys → Consumes a c (xs ++ ys)
consumes-more None b c xs ys h k = tt
consumes-more (Some u) None c xs ys h k = absurd h
consumes-more (Some u) (Some v) None xs ys h k = absurd k
consumes-more (Some u) (Some v) (Some w) xs ys h k = h ∙ ap (λ t. xs ++ t) k ∙ sym (append_assoc xs ys w)

-- a write, and then another, added the bytes of both
pub appends-more : (a b c : Option (List ℕ)) (xs ys : List ℕ) → Appends a b xs → Appends b c ys → Appends a c (xs ++ ys)
appends-more None b c xs ys h k = tt
appends-more (Some u) None c xs ys h k = absurd h
appends-more (Some u) (Some v) None xs ys h k = absurd k
appends-more (Some u) (Some v) (Some w) xs ys h k = k ∙ ap (λ t. t ++ ys) h ∙ append_assoc u xs ys

-- the bytes that a source over a list gives
pub gives-next : (at n : ℕ) (xs buf front : List ℕ) → n ≡ min (length xs - at) (length buf) → front ≡ take n (drop at xs)
    → (drop at xs ≡ take n (front ++ drop n buf) ++ drop (at + n) xs) × (n ≡ 0 → 0 < length (front ++ drop n buf) → drop (at + n) xs ≡ [])
gives-next at n xs buf front e f =
    let bound : n ≤ length (drop at xs) = rw length-drop (omega (arith, e)) in
    let long : length front ≡ n = rw (f, length-take-le n (drop at xs) bound) refl in (
      rw (take_at front (drop n buf) n long, f, ← drop-drop n at xs, take-append-drop) refl,
      λ none room. drop_of_length-le xs (omega (arith, e, none, rw (length-append, long, length-drop) at room)),
    )

-- what is kept, and then kept, is kept
pub keeps_on : (a b c : Option (List ℕ)) → Keeps a b → Keeps b c → Keeps a c
keeps_on None b c h k = tt
keeps_on (Some u) None c h k = absurd h
keeps_on (Some u) (Some v) None h k = absurd k
keeps_on (Some u) (Some v) (Some w) h k = k ∙ h

-- what is kept, and then read, is read from the first
pub keeps_consumes : (a b c : Option (List ℕ)) (xs : List ℕ) → Keeps a b → Consumes b c xs → Consumes a c xs
keeps_consumes None b c xs h k = tt
keeps_consumes (Some u) None c xs h k = absurd h
keeps_consumes (Some u) (Some v) None xs h k = absurd k
keeps_consumes (Some u) (Some v) (Some w) xs h k = sym h ∙ k

-- what is kept, and then written to, is written to from the first
pub keeps_appends : (a b c : Option (List ℕ)) (xs : List ℕ) → Keeps a b → Appends b c xs → Appends a c xs
keeps_appends None b c xs h k = tt
keeps_appends (Some u) None c xs h k = absurd h
keeps_appends (Some u) (Some v) None xs h k = absurd k
keeps_appends (Some u) (Some v) (Some w) xs h k = k ∙ ap (λ t. t ++ xs) h

-- it is kept from the start
pub keeps_same : (a : Option (List ℕ)) → Keeps a a
keeps_same None = tt
keeps_same (Some u) = refl
