-- The problem as it is made: arcs behind arcs, and what the calls of the builder ask for.
use Rattle.std.proofs.Common.{◌≡◌, ◌≤◌, ◌<◌, ◌+◌, ◌++◌, ◌||◌, ◌⊎◌, ◌^◌, ◌≤ℤ◌, ◌*ℤ◌, ◌-◌, ℕ, zero, suc, pos, Bool, true, false, cond, List, [], ◌∷◌, Option, Some, None, length, map, get_or, refl, sym, ap, ◌∙◌, inl, inr, arith, append_assoc}
use Rattle.std.proofs.lemmas.Bool.{false≢true, cases_Bool}
use Rattle.std.proofs.lemmas.Int.{ints}
use Rattle.std.proofs.lemmas.List.{append-nil, length-append}
use Rattle.std.specs.List.{list_any}
use lib.Signed.{lt_z}
use Rattle.nf_model.specs.declared.RowKind.TheVariants.{Eq}
use Rattle.nf_num.specs.Rational.{ℚ}
use Rattle.nf_num.proofs.Laws.{frac_le}
use Rattle.nf_frac.specs.declared.amount.Amount.{Amount}
use Rattle.nf_frac.specs.Amounts.{amount_value}
use Rattle.nf_cells.specs.declared.values.Bound.{Bound}
use Rattle.nf_cells.specs.declared.values.Bound.TheVariants.{Finite, Infinite}
use Rattle.nf_cells.specs.declared.values.Supply.{Supply}
use Rattle.nf_program.specs.declared.program.ProcOptions.{ProcOptions}
use Rattle.nf_model.specs.Program.{Column, LinearProgram, IsAtMost}
use Rattle.nf_prob.specs.Building.{AreEnds, HasRoom, new_column, with_column, with_node}
use Rattle.nf_prob.specs.Numbers.{ends_of}
use Rattle.nf_network.specs.declared.excess.Balance.{Balance}
use Rattle.nf_network.specs.Excess.{balance_of, gets, has_excess, is_met, joined_below, sends}
use Rattle.nf_network.specs.Faults.{are_crossed, most_nodes}
use Rattle.nf_network.specs.Making.{IsOfArcs, column_at, no_figures, nodes_program, with_arcs, with_excess}
use Rattle.nf_network.specs.Keys.{Key, no_key}
use Rattle.nf_network.specs.declared.rows.Figures.{Figures}
use Rattle.nf_network.specs.Network.{excess_column, excess_columns, excess_columns_at, in_sense, excess_value, node_row, program_of, upper_of}
use Rattle.nf_network.proofs.Lists.{joined-empty, joined-more}
use Rattle.nf_network.proofs.PassFacts.{map-length}

-- ---- arcs behind arcs
pub arcs-none : (p : LinearProgram) → with_arcs p [] ≡ p
arcs-none p = let n : p.arcs + 0 ≡ p.arcs = omega arith in rw (append-nil p.columns, n) refl

pub arcs-join : (p : LinearProgram) (a b : List Column) → with_arcs (with_arcs p a) b ≡ with_arcs p (a ++ b)
arcs-join p a b =
    let l : length (a ++ b) ≡ length a + length b = length-append a b in
    let n : (p.arcs + length a) + length b ≡ p.arcs + length (a ++ b) = omega (arith, l) in
    rw (append_assoc p.columns a b, n) refl

-- numbers from 1 stand for nodes from 0
ends-are : (t h : ℕ) → ends_of (t + 1) (h + 1) ≡ Some (record { tail = t; head = h })
ends-are t h =
    let s : t + 1 ≡ suc t = omega arith in
    let less : h + 1 - 1 ≡ h = omega arith in
    rw (s, less) refl

pub column-added : (p : LinearProgram) (t h : ℕ) (cost lower : ℚ) (upper : Option ℚ)
    → with_column p (t + 1) (h + 1) cost (Some lower) upper ≡ with_arcs p (new_column (Some (record { tail = t; head = h })) cost (Some lower) upper ∷ [])
column-added p t h cost lower upper = let n : suc p.arcs ≡ p.arcs + 1 = omega arith in rw (ends-are t h, n) refl

-- ---- what the builder asks for
pub room : (p : LinearProgram) → IsOfArcs p → HasRoom p
room p o = (omega (arith, o.rows, o.few_nodes), omega (arith, o.arcs, o.few_arcs))

pub are-ends : (p : LinearProgram) (t h : ℕ) → IsOfArcs p → t < p.nodes → h < p.nodes → AreEnds p (t + 1) (h + 1)
are-ends p t h o a b = inl ((omega arith, omega (arith, a)), (omega arith, omega (arith, b)), o.arcs)

pub of-arcs : (p : LinearProgram) (cs : List Column) → IsOfArcs p → p.arcs + length cs ≤ 2 ^ 20 → IsOfArcs (with_arcs p cs)
of-arcs p cs o few = record { rows = o.rows; few_nodes = o.few_nodes; arcs = ap (λ n. n + length cs) o.arcs ∙ sym (length-append p.columns cs); few_arcs = few }

-- ---- bounds in order
at-most : (l u : Amount) → lt_z u.thousandths l.thousandths ≡ false → IsAtMost (Some (amount_value u)) (amount_value l)
at-most l u h =
    let le : (l.thousandths *ℤ pos 1000) ≤ℤ (u.thousandths *ℤ pos 1000) = grind (arith, ints, h) in
    (frac_le l.thousandths u.thousandths 1000 1000 (omega arith) (omega arith)).1 le

pub in-order : (l : Amount) (b : Bound) → are_crossed l b ≡ false → IsAtMost (upper_of b) (amount_value l)
in-order l (Finite u) h = at-most l u h
in-order l Infinite h = tt

-- ---- the whole program
any-false : {A : Type 0} (p : A → Bool) (xs : List A) (i : ℕ) (d : A) → list_any p xs ≡ false → i < length xs → p (get_or xs i d) ≡ false
any-false p [] i d h below = absurd (omega arith)
any-false p (x ∷ xs) i d h below = by_cases (cases_Bool (p x)) i below (λ j. any-false p xs j d)
  where
    by_cases : (p x ≡ true) ⊎ (p x ≡ false) → (j : ℕ) → j < suc (length xs) → ((k : ℕ) → list_any p xs ≡ false → k < length xs → p (get_or xs k d) ≡ false) → p (get_or (x ∷ xs) j d) ≡ false
    by_cases (inl e) j b before = absurd (false≢true (sym (rw e at h)))
    by_cases (inr e) zero b before = e
    by_cases (inr e) (suc j) b before = before j (rw e at h) (omega (arith, b))

either-false : (a b : Bool) → (a || b) ≡ false → (a ≡ false) × (b ≡ false)
either-false false b h = (refl, h)
either-false true b h = absurd (false≢true (sym h))

pub no-excess : (b : Balance) (vs : List (Option Supply)) → has_excess b vs ≡ false → excess_columns b vs ≡ []
no-excess b vs h = joined-empty (length vs) (excess_columns_at b vs) none
  where
    none : (k : ℕ) → k < length vs → excess_columns_at b vs k ≡ []
    none k below =
        let unmet = any-false (is_met b) vs k None (either-false (list_any (is_met b) vs) _ h).0 below in
        let both = either-false (sends b (get_or vs k None)) (gets b (get_or vs k None)) unmet in
        rw (both.0, both.1) refl

made-with : (o : ProcOptions) (arcs : List Column) (vs : List (Option Supply)) → has_excess (balance_of o.thrunet vs) vs ≡ true
    → with_arcs (with_arcs (with_node (nodes_program o.maximize vs) (excess_value (balance_of o.thrunet vs))) arcs) (excess_columns (balance_of o.thrunet vs) vs) ≡ program_of o arcs vs
made-with o arcs vs h =
    let rows : length (map node_row vs ++ record { kind = Eq; right = excess_value (balance_of o.thrunet vs) } ∷ []) ≡ suc (length vs) =
    length-append (map node_row vs) (record { kind = Eq; right = excess_value (balance_of o.thrunet vs) } ∷ []) ∙ omega (arith, map-length node_row vs) in
    let columns : length (arcs ++ excess_columns (balance_of o.thrunet vs) vs) ≡ length arcs + length (excess_columns (balance_of o.thrunet vs) vs) =
    length-append arcs (excess_columns (balance_of o.thrunet vs) vs) in
    let none : 0 + length arcs ≡ length arcs = omega arith in
    rw (h, rows, columns, none) refl

made-without : (o : ProcOptions) (arcs : List Column) (vs : List (Option Supply)) → has_excess (balance_of o.thrunet vs) vs ≡ false
    → with_arcs (with_arcs (nodes_program o.maximize vs) arcs) (excess_columns (balance_of o.thrunet vs) vs) ≡ program_of o arcs vs
made-without o arcs vs h =
    let rows : length (map node_row vs) ≡ length vs = map-length node_row vs in
    let none : 0 + length arcs ≡ length arcs = omega arith in
    let more : length arcs + 0 ≡ length arcs = omega arith in
    rw (h, no-excess (balance_of o.thrunet vs) vs h, append-nil arcs, append-nil (map node_row vs), rows, none, more) refl

pub made : (o : ProcOptions) (arcs : List Column) (vs : List (Option Supply))
    → with_arcs (with_arcs (with_excess (nodes_program o.maximize vs) (balance_of o.thrunet vs) vs) arcs) (excess_columns (balance_of o.thrunet vs) vs) ≡ program_of o arcs vs
made o arcs vs = by_cases (cases_Bool (has_excess (balance_of o.thrunet vs) vs))
  where
    by_cases : (has_excess (balance_of o.thrunet vs) vs ≡ true) ⊎ (has_excess (balance_of o.thrunet vs) vs ≡ false)
        → with_arcs (with_arcs (with_excess (nodes_program o.maximize vs) (balance_of o.thrunet vs) vs) arcs) (excess_columns (balance_of o.thrunet vs) vs) ≡ program_of o arcs vs
    by_cases (inl h) = ap (λ p. with_arcs (with_arcs p arcs) (excess_columns (balance_of o.thrunet vs) vs)) (with-is h) ∙ made-with o arcs vs h
      where
        with-is : has_excess (balance_of o.thrunet vs) vs ≡ true → with_excess (nodes_program o.maximize vs) (balance_of o.thrunet vs) vs ≡ with_node (nodes_program o.maximize vs) (excess_value (balance_of o.thrunet vs))
        with-is e = rw e refl
    by_cases (inr h) = ap (λ p. with_arcs (with_arcs p arcs) (excess_columns (balance_of o.thrunet vs) vs)) (without-is h) ∙ made-without o arcs vs h
      where
        without-is : has_excess (balance_of o.thrunet vs) vs ≡ false → with_excess (nodes_program o.maximize vs) (balance_of o.thrunet vs) vs ≡ nodes_program o.maximize vs
        without-is e = rw e refl

-- ---- the program of all nodes
pub nodes-of : (m : Bool) (vs : List (Option Supply)) → length vs ≤ most_nodes → IsOfArcs (nodes_program m vs)
nodes-of m vs few = record { rows = map-length node_row vs; few_nodes = omega (arith, few); arcs = refl; few_arcs = omega arith }

module _ (m : Bool) (b : Balance) (vs : List (Option Supply)) where
  pub excess-of : length vs ≤ most_nodes → IsOfArcs (with_excess (nodes_program m vs) b vs)
  excess-of few = by_test (has_excess b vs)
    where
      by_test : (t : Bool) → IsOfArcs (cond t (with_node (nodes_program m vs) (excess_value b)) (nodes_program m vs))
      by_test true = record {
        rows = length-append (map node_row vs) (record { kind = Eq; right = excess_value b } ∷ []) ∙ omega (arith, map-length node_row vs);
        few_nodes = omega (arith, few);
        arcs = refl;
        few_arcs = omega arith;
      }
      by_test false = nodes-of m vs few

  pub excess-columns : (with_excess (nodes_program m vs) b vs).columns ≡ []
  excess-columns = by_test (has_excess b vs)
    where
      by_test : (t : Bool) → (cond t (with_node (nodes_program m vs) (excess_value b)) (nodes_program m vs)).columns ≡ []
      by_test true = refl
      by_test false = refl

  pub excess-nodes : length vs ≤ (with_excess (nodes_program m vs) b vs).nodes
  excess-nodes = by_test (has_excess b vs)
    where
      by_test : (t : Bool) → length vs ≤ (cond t (with_node (nodes_program m vs) (excess_value b)) (nodes_program m vs)).nodes
      by_test true = omega arith
      by_test false = omega arith

  pub excess-more : has_excess b vs ≡ true → length vs < (with_excess (nodes_program m vs) b vs).nodes
  excess-more h = rw h (omega arith)

-- ---- one arc more
get-same : {A : Type 0} (xs : List A) (i : ℕ) (d e : A) → i < length xs → get_or xs i d ≡ get_or xs i e
get-same [] i d e h = absurd (omega arith)
get-same (x ∷ xs) zero d e h = refl
get-same (x ∷ xs) (suc i) d e h = get-same xs i d e (omega (arith, h))

pub made-at : (m : Bool) (ks : List Key) (fs : List Figures) (i t h : ℕ) (cost lower : ℚ) (upper : Option ℚ) (f : Figures) → i < length fs → f ≡ get_or fs i f
    → t ≡ (get_or ks i no_key).tail → h ≡ (get_or ks i no_key).head → cost ≡ in_sense m f.cost → lower ≡ amount_value f.lower → upper ≡ upper_of f.upper
    → (new_column (Some (record { tail = t; head = h })) cost (Some lower) upper ∷ []) ≡ column_at m ks fs i
made-at m ks fs i t h cost lower upper f below is et eh ec el eu =
    let same : get_or fs i no_figures ≡ f = get-same fs i no_figures f below ∙ sym is in
    rw (et, eh, ec, el, eu, same) refl

pub arcs-more : (p b new : LinearProgram) (f : ℕ → List Column) (i : ℕ) (cs : List Column) → b ≡ with_arcs p (joined_below i f) → new ≡ with_arcs b cs → cs ≡ f i → new ≡ with_arcs p (joined_below (i + 1) f)
arcs-more p b new f i cs hb hn hc =
    hn ∙ ap (λ q. with_arcs q cs) hb ∙ arcs-join p (joined_below i f) cs ∙ ap (λ l. with_arcs p (joined_below i f ++ l)) hc ∙ ap (with_arcs p) (sym (joined-more i f))

pub one-short : {A : Type 0} (t : Bool) (x : A) → length (cond t (x ∷ []) []) ≤ 1
one-short true x = omega arith
one-short false x = omega arith

pub two-short : {A : Type 0} (s t : Bool) (x y : A) → length (cond s (x ∷ []) [] ++ cond t (y ∷ []) []) ≤ 2
two-short true true x y = omega arith
two-short true false x y = omega arith
two-short false true x y = omega arith
two-short false false x y = omega arith

pub excess-at : (b : Balance) (vs : List (Option Supply)) (i n m : ℕ) (v : Option Supply) (s g : Bool) → v ≡ get_or vs i None → s ≡ sends b v → g ≡ gets b v → n ≡ length vs → m ≡ length vs
    → (cond s (excess_column i n ∷ []) [] ++ cond g (excess_column m i ∷ []) []) ≡ excess_columns_at b vs i
excess-at b vs i n m v s g ev es eg en em = rw (es, eg, ev, en, em) refl

pub few-columns : (p : LinearProgram) (cs : List Column) (n : ℕ) → p.columns ≡ [] → length cs ≤ n → length (with_arcs p cs).columns ≤ n
few-columns p cs n h few =
    let none : length p.columns ≡ 0 = ap length h in
    let all = length-append p.columns cs in
    omega (arith, none, all, few)
