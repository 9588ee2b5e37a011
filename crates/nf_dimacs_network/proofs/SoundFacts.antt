-- What holds of the lines of a text without fault: the supplies by node add up to their total, and the ends of arcs are nodes.
use Rattle.std.proofs.Common.{◌≡◌, ℕ, zero, suc, ◌+◌, ◌-◌, ◌<◌, ◌≤◌, ◌==◌, ◌&&◌, ◌||◌, Bool, true, false, cond, not, List, [], ◌∷◌, ◌++◌, length, Option, None, Some, ℤ, pos, ◌+ℤ◌, unsigned_abs, refl, sym, ◌∙◌, ap, ap₂, subst, arith, append_assoc, inl, inr}
use Rattle.std.specs.List.{filter_map, fold, AllByRecursion}
use Rattle.std.specs.Prelude.{int_lt}
use Rattle.std.specs.Option.{option_or, option_map, is_some}
use Rattle.std.specs.Ordering.{int_eq}
use Rattle.std.proofs.lemmas.Int.{ints}
use Rattle.std.proofs.lemmas.Bool.{cases_eq, eqb-true}
use Rattle.std.proofs.lemmas.Bool.Decides.{Decides-int_eq, nat_tests}
use Rattle.std.proofs.lemmas.List.{append-nil}
use Rattle.std.proofs.lemmas.List.Sums.{fold_push}
use Rattle.nf_dimacs.specs.declared.fault.DimacsFault.{DimacsFault}
use Rattle.nf_dimacs.specs.declared.fault.DimacsKind.{DimacsKind}
use Rattle.nf_dimacs.specs.declared.fault.DimacsKind.TheVariants as kind
use Rattle.nf_dimacs.specs.declared.line.Line.{Line}
use Rattle.nf_dimacs.specs.declared.line.Line.TheVariants.{Skipped, Problem, Node, Arc as ArcLine, Bad}
use Rattle.nf_dimacs.specs.declared.line.Size.{Size}
use Rattle.nf_dimacs.specs.declared.line.Supply.{Supply}
use Rattle.nf_dimacs.specs.declared.line.Arc.{Arc}
use Rattle.nf_dimacs.specs.Says.{size_in, supply_in, arc_in, first_of, size_of, supplies_of, arcs_of, flow_of, total_of}
use Rattle.nf_dimacs.specs.Faults.{next_fault, line_fault, problem_fault, size_fault, node_fault, arc_fault, ends_fault, is_node, first_fault, fault_at, sums_fault, end_fault, whole_fault, fault_in, most_nodes, most_arcs}
use Rattle.nf_dimacs.specs.Tables.{by_node, nodes_in, or_zero}
use Rattle.nf_dimacs.proofs.SayFacts.{none-more, some-more, no-first, no-size, few-nodes, place-of, Fresh, fresh, flow-more, or-none, total-more, differs}
use Rattle.nf_dimacs_network.proofs.ListFacts.{both, all-push}

-- ---- the supplies by node
abbrev pub sum_of : List (Option ℤ) → ℤ
sum_of given = fold (λ t o. t +ℤ or_zero o) (pos 0) given

sum-suc : (ss : List Supply) (n : ℕ) → sum_of (by_node ss (suc n)) ≡ sum_of (by_node ss n) +ℤ or_zero (flow_of ss (pos (suc n)))
unfolding by_node
sum-suc ss n = fold_push (λ t o. t +ℤ or_zero o) (pos 0) (by_node ss n) (flow_of ss (pos (suc n)))

sum-zero : (ss : List Supply) → sum_of (by_node ss 0) ≡ pos 0
unfolding by_node
sum-zero ss = refl

sum-none : (n : ℕ) → sum_of (by_node [] n) ≡ pos 0
sum-none zero = sum-zero []
sum-none (suc n) = sum-suc [] n ∙ ap (λ t. t +ℤ pos 0) (sum-none n)

module _ (ss : List Supply) (s : Supply) (k : ℕ) (is : s.node ≡ pos (suc k)) where
  flow-other : (i : ℕ) → (i ≡ k → ⊥) → flow_of (ss ++ s ∷ []) (pos (suc i)) ≡ flow_of ss (pos (suc i))
  flow-other i other =
      flow-more ss s (pos (suc i))
      ∙ ap (λ (b : Bool). option_or (flow_of ss (pos (suc i))) (cond b (Some s.flow) None)) (differs s.node k i is other)
      ∙ or-none (flow_of ss (pos (suc i)))

  flow-here : flow_of ss (pos (suc k)) ≡ None → flow_of (ss ++ s ∷ []) (pos (suc k)) ≡ Some s.flow
  flow-here none =
      flow-more ss s (pos (suc k))
      ∙ ap₂ (λ (o : Option ℤ) (b : Bool). option_or o (cond b (Some s.flow) None)) none ((Decides-int_eq s.node (pos (suc k))).1 is)

  sum-below : (n : ℕ) → n ≤ k → sum_of (by_node (ss ++ s ∷ []) n) ≡ sum_of (by_node ss n)
  sum-below zero below = sum-zero (ss ++ s ∷ []) ∙ sym (sum-zero ss)
  sum-below (suc n) below =
      sum-suc (ss ++ s ∷ []) n
      ∙ ap₂ (λ (t : ℤ) (o : Option ℤ). t +ℤ or_zero o) (sum-below n (omega arith)) (flow-other n (λ e. absurd (omega (arith, e))))
      ∙ sym (sum-suc ss n)

  sum-more : flow_of ss (pos (suc k)) ≡ None → (n : ℕ) → k < n → sum_of (by_node (ss ++ s ∷ []) n) ≡ sum_of (by_node ss n) +ℤ s.flow
  sum-more none zero within = absurd (omega arith)
  sum-more none (suc n) within = elim (cases_eq n k) [ inl e ↦ last e | inr e ↦ before e (sum-more none n) ]
    where
      last : n ≡ k → sum_of (by_node (ss ++ s ∷ []) (suc n)) ≡ sum_of (by_node ss (suc n)) +ℤ s.flow
      last e =
          let here : flow_of (ss ++ s ∷ []) (pos (suc n)) ≡ Some s.flow = ap (λ m. flow_of (ss ++ s ∷ []) (pos (suc m))) e ∙ flow-here none in
          let nothing : flow_of ss (pos (suc n)) ≡ None = ap (λ m. flow_of ss (pos (suc m))) e ∙ none in
          sum-suc (ss ++ s ∷ []) n
          ∙ ap₂ (λ (t : ℤ) (o : Option ℤ). t +ℤ or_zero o) (sum-below n (omega (arith, e))) here
          ∙ ap (λ (t : ℤ). t +ℤ s.flow) (let z : sum_of (by_node ss n) ≡ sum_of (by_node ss n) +ℤ pos 0 = omega (arith, ints) in z)
          ∙ ap (λ (o : Option ℤ). (sum_of (by_node ss n) +ℤ or_zero o) +ℤ s.flow) (sym nothing)
          ∙ ap (λ (t : ℤ). t +ℤ s.flow) (sym (sum-suc ss n))

      before : (n ≡ k → ⊥) → (k < n → sum_of (by_node (ss ++ s ∷ []) n) ≡ sum_of (by_node ss n) +ℤ s.flow) → sum_of (by_node (ss ++ s ∷ []) (suc n)) ≡ sum_of (by_node ss (suc n)) +ℤ s.flow
      before e earlier =
          sum-suc (ss ++ s ∷ []) n
          ∙ ap₂ (λ (t : ℤ) (o : Option ℤ). t +ℤ or_zero o) (earlier (omega (arith, e))) (flow-other n e)
          ∙ (let x : ℤ = sum_of (by_node ss n) in let y : ℤ = or_zero (flow_of ss (pos (suc n))) in let z : (x +ℤ s.flow) +ℤ y ≡ (x +ℤ y) +ℤ s.flow = omega (arith, ints) in z)
          ∙ ap (λ (t : ℤ). t +ℤ s.flow) (sym (sum-suc ss n))

-- ---- lines without fault
-- One of the nodes from 1 to n.
pub record IsEnd (n : ℕ) (z : ℤ) : Type 0 where
  pub is : z ≡ pos (suc (unsigned_abs z - 1))
  pub within : unsigned_abs z - 1 < n

pub record IsArcOf (n : ℕ) (a : Arc) : Type 0 where
  pub tail : IsEnd n a.tail
  pub head : IsEnd n a.head
  pub ordered : int_lt a.capacity a.lower ≡ false

-- The number of arcs that the counts say.
abbrev pub arcs_in : Option Size → ℕ
arcs_in None = 0
arcs_in (Some size) = unsigned_abs size.arcs

few-arcs : (counts : Size) → size_fault counts ≡ None → unsigned_abs counts.arcs ≤ most_arcs
few-arcs counts e = grind (arith, ints, nat_tests)

pub record Sound (ls : List Line) : Type 0 where
  pub first : size_of ls ≡ None → (supplies_of ls ≡ []) × (arcs_of ls ≡ [])
  pub balanced : sum_of (by_node (supplies_of ls) (nodes_in (size_of ls))) ≡ total_of (supplies_of ls)
  pub ends : AllByRecursion (IsArcOf (nodes_in (size_of ls))) (arcs_of ls)
  pub few : nodes_in (size_of ls) ≤ most_nodes
  pub counts : arcs_in (size_of ls) ≤ most_arcs

-- What lines say together stays the same with a line that says nothing of it.
same-say : (ls ms : List Line) → size_of ms ≡ size_of ls → supplies_of ms ≡ supplies_of ls → arcs_of ms ≡ arcs_of ls → Sound ls → Sound ms
same-say ls ms z s a sound = record {
  first = λ none. let f = sound.first (sym z ∙ none) in (s ∙ f.0, a ∙ f.1);
  balanced = ap₂ (λ (ss : List Supply) (o : Option Size). sum_of (by_node ss (nodes_in o))) s z ∙ sound.balanced ∙ ap total_of (sym s);
  ends = subst (λ (o : Option Size). AllByRecursion (IsArcOf (nodes_in o)) (arcs_of ms)) (sym z) (subst (AllByRecursion (IsArcOf (nodes_in (size_of ls)))) (sym a) sound.ends);
  few = subst (λ (o : Option Size). nodes_in o ≤ most_nodes) (sym z) sound.few;
  counts = subst (λ (o : Option Size). arcs_in o ≤ most_arcs) (sym z) sound.counts;
}

no-numbers : (size : Option Size) → problem_fault size None ≡ None → ⊥
no-numbers None e = cc
no-numbers (Some s) e = cc

no-supply : (size : Option Size) (given : ℤ → Option ℤ) → node_fault size given None ≡ None → ⊥
no-supply None given e = cc
no-supply (Some s) given e = cc

no-arc : (size : Option Size) → arc_fault size None ≡ None → ⊥
no-arc None e = cc
no-arc (Some s) e = cc

clear : (a b c : Bool) → cond (not a) (Some kind.Node) (cond b (Some kind.Negative) (cond c (Some kind.Crossed) None)) ≡ None → (a ≡ true) × (c ≡ false)
clear true false false e = (refl, refl)
clear true false true e = absurd cc
clear true true c e = absurd cc
clear false b c e = absurd cc

pub arc-of : (size : Option Size) (a : Arc) → arc_fault size (Some a) ≡ None → (IsArcOf (nodes_in size) a) × (size ≡ None → ⊥)
arc-of None a e = absurd cc
arc-of (Some counts) a e =
    let good = clear (is_node counts a.tail && is_node counts a.head) (int_lt a.capacity (pos 0)) (int_lt a.capacity a.lower) e in
    let ends = both (is_node counts a.tail) (is_node counts a.head) good.0 in
    let tail = place-of counts a.tail ends.0 in
    let head = place-of counts a.head ends.1 in
    (record { tail = record { is = tail.0; within = tail.1 }; head = record { is = head.0; within = head.1 }; ordered = good.1 }, λ none. absurd cc)

-- one line more
step : (ls : List Line) (l : Line) → Sound ls → next_fault ls l ≡ None → Sound (ls ++ l ∷ [])
step ls Skipped sound e = same-say ls (ls ++ Skipped ∷ []) (ap first_of (none-more size_in ls Skipped refl)) (none-more supply_in ls Skipped refl) (none-more arc_in ls Skipped refl) sound
step ls Bad sound e = absurd cc
step ls (Problem None) sound e = absurd (no-numbers (size_of ls) e)
step ls (Problem (Some counts)) sound e =
    let l : Line = Problem (Some counts) in
    let none : size_of ls ≡ None = no-size (size_of ls) (Some counts) e in
    let counted : size_fault counts ≡ None = ap (λ (z : Option Size). problem_fault z (Some counts)) (sym none) ∙ e in
    let no_sizes : filter_map size_in ls ≡ [] = no-first (filter_map size_in ls) (sym none) in
    let size : size_of (ls ++ l ∷ []) ≡ Some counts = ap first_of (some-more size_in ls l counts refl) ∙ ap (λ (sizes : List Size). first_of (sizes ++ counts ∷ [])) no_sizes in
    let supplies : supplies_of (ls ++ l ∷ []) ≡ [] = none-more supply_in ls l refl ∙ (sound.first none).0 in
    let arcs : arcs_of (ls ++ l ∷ []) ≡ [] = none-more arc_in ls l refl ∙ (sound.first none).1 in
    record {
      first = λ no. (supplies, arcs);
      balanced = ap₂ (λ (ss : List Supply) (o : Option Size). sum_of (by_node ss (nodes_in o))) supplies size ∙ sum-none (unsigned_abs counts.nodes) ∙ ap total_of (sym supplies);
      ends = subst (AllByRecursion (IsArcOf (nodes_in (size_of (ls ++ l ∷ []))))) (sym arcs) tt;
      few = subst (λ (o : Option Size). nodes_in o ≤ most_nodes) (sym size) (few-nodes counts counted);
      counts = subst (λ (o : Option Size). arcs_in o ≤ most_arcs) (sym size) (few-arcs counts counted);
    }
step ls (Node None) sound e = absurd (no-supply (size_of ls) (flow_of (supplies_of ls)) e)
step ls (Node (Some s)) sound e =
    let l : Line = Node (Some s) in
    let n : ℕ = nodes_in (size_of ls) in
    let ss : List Supply = supplies_of ls in
    let new = fresh (size_of ls) (flow_of ss) s e in
    let k : ℕ = unsigned_abs s.node - 1 in
    let size : size_of (ls ++ l ∷ []) ≡ size_of ls = ap first_of (none-more size_in ls l refl) in
    let supplies : supplies_of (ls ++ l ∷ []) ≡ ss ++ s ∷ [] = some-more supply_in ls l s refl in
    let arcs : arcs_of (ls ++ l ∷ []) ≡ arcs_of ls = none-more arc_in ls l refl in
    let nothing : flow_of ss (pos (suc k)) ≡ None = ap (flow_of ss) (sym new.node_is) ∙ new.none in
    record {
      first = λ none. absurd (new.some (sym size ∙ none));
      balanced = ap₂ (λ (ss : List Supply) (o : Option Size). sum_of (by_node ss (nodes_in o))) supplies size
          ∙ sum-more ss s k new.node_is nothing n new.within
          ∙ ap (λ (t : ℤ). t +ℤ s.flow) sound.balanced
          ∙ sym (total-more ss s) ∙ ap total_of (sym supplies);
      ends = subst (λ (o : Option Size). AllByRecursion (IsArcOf (nodes_in o)) (arcs_of (ls ++ l ∷ []))) (sym size) (subst (AllByRecursion (IsArcOf n)) (sym arcs) sound.ends);
      few = subst (λ (o : Option Size). nodes_in o ≤ most_nodes) (sym size) sound.few;
      counts = subst (λ (o : Option Size). arcs_in o ≤ most_arcs) (sym size) sound.counts;
    }
step ls (ArcLine None) sound e = absurd (no-arc (size_of ls) e)
step ls (ArcLine (Some a)) sound e =
    let l : Line = ArcLine (Some a) in
    let n : ℕ = nodes_in (size_of ls) in
    let new = arc-of (size_of ls) a e in
    let size : size_of (ls ++ l ∷ []) ≡ size_of ls = ap first_of (none-more size_in ls l refl) in
    let supplies : supplies_of (ls ++ l ∷ []) ≡ supplies_of ls = none-more supply_in ls l refl in
    let arcs : arcs_of (ls ++ l ∷ []) ≡ arcs_of ls ++ a ∷ [] = some-more arc_in ls l a refl in
    record {
      first = λ none. absurd (new.1 (sym size ∙ none));
      balanced = ap₂ (λ (ss : List Supply) (o : Option Size). sum_of (by_node ss (nodes_in o))) supplies size ∙ sound.balanced ∙ ap total_of (sym supplies);
      ends = subst (λ (o : Option Size). AllByRecursion (IsArcOf (nodes_in o)) (arcs_of (ls ++ l ∷ []))) (sym size)
          (subst (AllByRecursion (IsArcOf n)) (sym arcs) (all-push (IsArcOf n) (arcs_of ls) a sound.ends new.0));
      few = subst (λ (o : Option Size). nodes_in o ≤ most_nodes) (sym size) sound.few;
      counts = subst (λ (o : Option Size). arcs_in o ≤ most_arcs) (sym size) sound.counts;
    }

start : Sound []
start = record { first = λ e. (refl, refl); balanced = sum-none 0; ends = tt; few = omega arith; counts = omega arith }

-- neither of two faults is there
neither : (a b : Option DimacsFault) → option_or a b ≡ None → (a ≡ None) × (b ≡ None)
neither None b e = (refl, e)
neither (Some f) b e = absurd cc

unmapped : {A B : Type 0} (f : A → B) (o : Option A) → option_map f o ≡ None → o ≡ None
unmapped f None e = refl
unmapped f (Some x) e = absurd cc

goes-on : (before rest : List Line) → Sound before → first_fault before rest ≡ None → Sound (before ++ rest)
unfolding first_fault
goes-on before [] sound e = subst Sound (sym (append-nil before)) sound
goes-on before (l ∷ rest) sound e =
    let parts = neither (option_map (fault_at (length before + 1)) (next_fault before l)) (first_fault (before ++ l ∷ []) rest) e in
    subst Sound (append_assoc before (l ∷ []) rest)
    (goes-on (before ++ l ∷ []) rest (step before l sound (unmapped (fault_at (length before + 1)) (next_fault before l) parts.0)) parts.1)

-- A text without fault has as many arcs as it may have, and a total of 0.
pub record Whole (ls : List Line) : Type 0 where
  pub sound : Sound ls
  pub total : total_of (supplies_of ls) ≡ pos 0
  pub few_arcs : length (arcs_of ls) ≤ most_arcs

no-end : (size : Option Size) (arcs : ℕ) (total : ℤ) → end_fault size arcs total ≡ None → (total ≡ pos 0) × (arcs ≡ arcs_in size)
no-end None arcs total e = absurd cc
no-end (Some s) arcs total e = by_cases (arcs == unsigned_abs s.arcs) refl (int_eq total (pos 0)) refl e
  where
    by_cases : (a : Bool) → (arcs == unsigned_abs s.arcs) ≡ a → (b : Bool) → int_eq total (pos 0) ≡ b → cond (not a) (Some kind.WrongCount) (cond (not b) (Some kind.Unbalanced) None) ≡ None
        → (total ≡ pos 0) × (arcs ≡ unsigned_abs s.arcs)
    by_cases true count true is f = ((Decides-int_eq total (pos 0)).0 is, eqb-true arcs (unsigned_abs s.arcs) count)
    by_cases true count false is f = absurd cc
    by_cases false count b is f = absurd cc

pub whole-text : (ls : List Line) → fault_in ls ≡ None → Whole ls
whole-text ls e =
    let parts = neither (first_fault [] ls) (whole_fault ls) e in
    let sound : Sound ls = goes-on [] ls start parts.0 in
    let end = no-end (size_of ls) (length (arcs_of ls)) (total_of (supplies_of ls)) (unmapped (fault_at (length ls + 1)) (end_fault (size_of ls) (length (arcs_of ls)) (total_of (supplies_of ls))) parts.1) in
    record { sound = sound; total = end.0; few_arcs = omega (arith, end.1, sound.counts) }
