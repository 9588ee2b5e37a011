-- One more link is listed by the vertex at which it begins.
use Rattle.std.proofs.Common.{◌≡◌, ◌≢◌, ℕ, ◌+◌, ◌-◌, ◌<◌, ◌≤◌, ◌⊎◌, inl, inr, List, length, get_or, sym, ap, ◌∙◌, subst, arith}
use Rattle.std.proofs.Math.ListN.{set, length-set}
use Rattle.std.proofs.lemmas.List.{get_or-set_same, get_or-set_other}
use Rattle.nf_view.specs.Walk.{IsLast, AreListed}

equal_or_not : (a b : ℕ) → (a ≡ b) ⊎ (a ≢ b)
equal_or_not a b = grind arith

last_or_not : (a b : ℕ) → a < b + 1 → (a ≡ b) ⊎ (a < b)
last_or_not a b h = grind arith

pub none_listed : (begin : ℕ → ℕ) (first next : List ℕ) → ((v : ℕ) → v < length first → get_or first v 0 ≡ 0) → AreListed begin first next 0
none_listed begin first next h = record {
  firsts = λ v l. let z = h v l in record { within = omega arith; here = λ p. absurd (omega arith); none = λ q a b. absurd (omega arith) };
  nexts = λ q l. absurd (omega arith);
}

pub listed_more : (begin : ℕ → ℕ) (first next : List ℕ) (q : ℕ) → q < length next → begin q < length first → AreListed begin first next q
    → AreListed begin (set first (begin q) (q + 1)) (set next q (get_or first (begin q) 0)) (q + 1)
listed_more begin first next q same inside p = record {
  firsts = λ v l. of_first v (let e = length-set first (begin q) (q + 1) in omega arith) (equal_or_not v (begin q));
  nexts = λ r l. of_next r (last_or_not r q l);
}
  where
    of_first : (v : ℕ) → v < length first → (v ≡ begin q) ⊎ (v ≢ begin q) → IsLast begin v (q + 1) (get_or (set first (begin q) (q + 1)) v 0)
    of_first v l (inl e) =
        subst (λ c. IsLast begin v (q + 1) c) (sym (ap (λ z. get_or (set first (begin q) (q + 1)) z 0) e ∙ get_or-set_same first (begin q) (q + 1) 0 inside))
        record { within = omega arith; here = λ z. (let x : q + 1 - 1 ≡ q = omega arith in ap begin x ∙ sym e); none = λ r a b. absurd (omega arith) }
    of_first v l (inr e) =
        subst (λ c. IsLast begin v (q + 1) c) (sym (get_or-set_other first (begin q) v (q + 1) 0 e))
        (let o = p.firsts v l in record { within = (let x = o.within in omega arith); here = o.here; none = λ r a b. at_none r a (last_or_not r q b) })
      where
        at_none : (r : ℕ) → get_or first v 0 ≤ r → (r ≡ q) ⊎ (r < q) → begin r ≢ v
        at_none r a (inl z) y = e (sym (sym (ap begin z) ∙ y))
        at_none r a (inr z) y = (p.firsts v l).none r a z y

    of_next : (r : ℕ) → (r ≡ q) ⊎ (r < q) → IsLast begin (begin r) r (get_or (set next q (get_or first (begin q) 0)) r 0)
    of_next r (inl e) =
        subst (λ z. IsLast begin (begin z) z (get_or (set next q (get_or first (begin q) 0)) z 0)) (sym e)
        (subst (λ c. IsLast begin (begin q) q c) (sym (get_or-set_same next q (get_or first (begin q) 0) 0 same)) (p.firsts (begin q) inside))
    of_next r (inr l) = subst (λ c. IsLast begin (begin r) r c) (sym (get_or-set_other next q r (get_or first (begin q) 0) 0 (omega arith))) (p.nexts r l)
