-- Nodes by their names and supplies: as many as the names, and each has its own.
use Rattle.std.proofs.Common.{◌≡◌, ◌<◌, ◌++◌, ℕ, suc, zero, List, [], ◌∷◌, length, get_or, refl, ap, arith}
use Rattle.nf_labels.specs.Labels.{no_node}
use Rattle.nf_labels.specs.Labelled.{nodes_of}

pub of-length : (ns ss : List (List ℕ)) → length ns ≡ length ss → length (nodes_of ns ss) ≡ length ns
of-length [] ss h = refl
of-length (n ∷ ns) [] h = absurd (omega (arith, h))
of-length (n ∷ ns) (s ∷ ss) h = ap suc (of-length ns ss (omega (arith, h)))

pub of-push : (ns ss : List (List ℕ)) (n s : List ℕ) → length ns ≡ length ss → nodes_of (ns ++ n ∷ []) (ss ++ s ∷ []) ≡ nodes_of ns ss ++ record { name = n; supdem = s } ∷ []
of-push [] [] n s h = refl
of-push [] (t ∷ ss) n s h = absurd (omega (arith, h))
of-push (m ∷ ns) [] n s h = absurd (omega (arith, h))
of-push (m ∷ ns) (t ∷ ss) n s h = ap (λ ls. record { name = m; supdem = t } ∷ ls) (of-push ns ss n s (omega (arith, h)))

pub of-at : (ns ss : List (List ℕ)) (i : ℕ) → length ns ≡ length ss → i < length ns → get_or (nodes_of ns ss) i no_node ≡ record { name = get_or ns i []; supdem = get_or ss i [] }
of-at [] ss i h below = absurd (omega (arith, below))
of-at (n ∷ ns) [] i h below = absurd (omega (arith, h))
of-at (n ∷ ns) (s ∷ ss) zero h below = refl
of-at (n ∷ ns) (s ∷ ss) (suc i) h below = of-at ns ss i (omega (arith, h)) (omega (arith, below))
