-- A column has few entries besides those in side rows.
use Rattle.std.proofs.Common.{◌≡◌, ℕ, suc, ◌<◌, ◌≤◌, ◌+◌, List, [], ◌∷◌, length, refl, ap, arith, Bool, true, false, cond}
use Rattle.std.specs.Prelude.{nat_lt, nat_le, nat_eq, if◌then◌else◌}
use Rattle.std.proofs.lemmas.Bool.{le-leb, lt-leb}
use Rattle.std.proofs.lemmas.List.Sums.{sum_by-cons}
use Rattle.nf_num.specs.Rational.{one_ℚ, neg_ℚ}
use Rattle.nf_model.specs.Program.{Entry}
use Rattle.nf_model.specs.Problem.{RiseBetween, count_in_sides}
use Rattle.nf_prob.specs.Building.{arc_entries, inserted}

abbrev one_if_side : ℕ → Entry → ℕ
one_if_side nodes e = cond (nat_le nodes e.row) 1 0

count-cons : (nodes : ℕ) (e : Entry) (es : List Entry) → count_in_sides nodes (e ∷ es) ≡ one_if_side nodes e + count_in_sides nodes es
count-cons nodes e es = sum_by-cons (one_if_side nodes) e es

counts_side : (nodes : ℕ) (e : Entry) → nodes ≤ e.row → one_if_side nodes e ≡ 1
counts_side nodes e h = ap (λ b. cond b 1 0) (le-leb nodes e.row h)

counts_node : (nodes : ℕ) (e : Entry) → e.row < nodes → one_if_side nodes e ≡ 0
counts_node nodes e h = ap (λ b. cond b 1 0) (lt-leb nodes e.row h)

-- entries below the nodes are in no side row
pub none_in_sides : (lo nodes : ℕ) (es : List Entry) → RiseBetween lo nodes es → count_in_sides nodes es ≡ 0
none_in_sides lo nodes [] r = refl
none_in_sides lo nodes (e ∷ es) r = omega (arith, count-cons nodes e es, counts_node nodes e r.1, none_in_sides (suc e.row) nodes es r.2)

-- an arc has two entries at most
pub few_of_arc : (tail head : ℕ) → length (arc_entries tail head) ≤ 2
few_of_arc tail head = sides (nat_eq tail head) (nat_lt tail head)
  where
    from : Entry
    from = record { row = tail; value = one_ℚ }

    to : Entry
    to = record { row = head; value = neg_ℚ one_ℚ }

    sides : (a b : Bool) → length (if a then [] else (if b then from ∷ to ∷ [] else to ∷ from ∷ [])) ≤ 2
    sides true b = omega arith
    sides false true = omega arith
    sides false false = omega arith

pub length-inserted : (es : List Entry) (e : Entry) → length (inserted es e) ≡ suc (length es)
unfolding inserted
length-inserted [] e = refl
length-inserted (d ∷ ds) e = sides (nat_lt e.row d.row) (length-inserted ds e)
  where
    sides : (b : Bool) → length (inserted ds e) ≡ suc (length ds) → length (if b then e ∷ d ∷ ds else d ∷ inserted ds e) ≡ suc (suc (length ds))
    sides true h = refl
    sides false h = ap suc h

-- an entry put into a side row counts there
pub inserted_in_sides : (nodes : ℕ) (es : List Entry) (e : Entry) → nodes ≤ e.row → count_in_sides nodes (inserted es e) ≡ suc (count_in_sides nodes es)
unfolding inserted
inserted_in_sides nodes [] e h = omega (arith, count-cons nodes e [], counts_side nodes e h)
inserted_in_sides nodes (d ∷ ds) e h = sides (nat_lt e.row d.row) (inserted_in_sides nodes ds e h)
  where
    sides : (b : Bool) → count_in_sides nodes (inserted ds e) ≡ suc (count_in_sides nodes ds) → count_in_sides nodes (if b then e ∷ d ∷ ds else d ∷ inserted ds e) ≡ suc (count_in_sides nodes (d ∷ ds))
    sides true more = omega (arith, count-cons nodes e (d ∷ ds), counts_side nodes e h)
    sides false more = omega (arith, count-cons nodes d (inserted ds e), count-cons nodes d ds, more)
