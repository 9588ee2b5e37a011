-- Data without a fault has few rows and nodes, and bounds that do not cross.
use Rattle.std.proofs.Common.{◌≡◌, ◌≤◌, ◌<◌, ◌+◌, ◌++◌, ◌⊎◌, ℕ, zero, suc, Bool, true, false, not, List, [], ◌∷◌, Option, Some, None, length, map, take, get_or, refl, sym, ap, ◌∙◌, inl, inr, arith}
use Rattle.std.proofs.lemmas.Bool.{cases_lt}
use Rattle.std.proofs.lemmas.List.{append-nil, take_all, take_more}
use Rattle.std.specs.Bool.{nat_le, nat_lt}
use Rattle.std.specs.List.{list_any}
use Rattle.std.specs.Str.{bytes_eq}
use Rattle.nf_cells.specs.Names.{first_seen, has_name, with_name}
use Rattle.nf_cells.proofs.SeenFacts.{first_seen-push}
use Rattle.nf_program.specs.declared.program.Role.{Role}
use Rattle.nf_program.specs.declared.program.Role.TheVariants as role
use Rattle.nf_roles.specs.declared.fault.CellFault.{CellFault}
use Rattle.nf_roles.specs.declared.fault.DataKind.{DataKind}
use Rattle.nf_roles.specs.declared.fault.DataKind.TheVariants as kind
use Rattle.nf_roles.specs.First.{fault_if, first_below, first_of, first_row_fault, in_row, or_else}
use Rattle.nf_network.specs.declared.rows.Defaults.{Defaults}
use Rattle.nf_network.specs.Rows.{ArcRow, NodeRow}
use Rattle.nf_network.specs.Arcs.{ends, figures_of, gift, gifts, given, head_of, nodes_in, same_arc, tail_of}
use Rattle.nf_network.specs.Faults.{arc_fault_at, arc_faults, are_crossed, empty_row, excess, figure_faults, first_arc_fault, gift_faults, is_bad, is_said, most_arcs, most_nodes, name_faults, node_faults}
use Rattle.nf_network.specs.NodeData.{all_gifts, all_nodes, first_node_fault, no_node_row, node_fault_at, node_name, node_row_faults}
use Rattle.nf_network.proofs.PassFacts.{ends-push, first-append, first-none, second-none, split}
use Rattle.nf_network.proofs.NodePassFacts.{names-push}

-- ---- parts of what is not there
or-first : {A : Type 0} (a b : Option A) → or_else a b ≡ None → a ≡ None
or-first None b e = refl
or-first (Some x) b e = absurd (cc)

or-second : {A : Type 0} (a b : Option A) → or_else a b ≡ None → b ≡ None
or-second None b e = e
or-second (Some x) b e = absurd (cc)

none-at : {A : Type 0} (n k : ℕ) (f : ℕ → Option A) → first_below n f ≡ None → k < n → f k ≡ None
unfolding first_below
none-at zero k f h below = absurd (omega arith)
none-at (suc n) k f h below = by_cases (cases_lt k n) (none-at n k f)
  where
    by_cases : (k < n) ⊎ (n ≤ k) → (first_below n f ≡ None → k < n → f k ≡ None) → f k ≡ None
    by_cases (inl less) ih = ih (or-first (first_below n f) (f n) h) less
    by_cases (inr more) ih =
        let same : n ≡ k = omega arith in
        rw (← same) (or-second (first_below n f) (f n) h)

row-none : (n k : ℕ) (f : ℕ → Option CellFault) → first_row_fault n f ≡ None → k < n → f k ≡ None
row-none n k f h below = no-row (f k) (none-at n k (λ j. in_row (j + 1) (f j)) h below)
  where
    no-row : (o : Option CellFault) → in_row (k + 1) o ≡ None → o ≡ None
    no-row None e = refl
    no-row (Some x) e = absurd (cc)

passed : (b : Bool) (r : Role) (q : DataKind) → fault_if b r q ≡ None → b ≡ false
passed false r q h = refl
passed true r q h = absurd (cc)

third : (a b c d : Option CellFault) → or_else a (or_else b (or_else c d)) ≡ None → c ≡ None
third a b c d h = or-first c d (or-second b (or_else c d) (or-second a (or_else b (or_else c d)) h))

fourth : (a b c d e : Option CellFault) → or_else a (or_else b (or_else c (or_else d e))) ≡ None → d ≡ None
fourth a b c d e h = third b c d e (or-second a (or_else b (or_else c (or_else d e))) h)

-- ---- a row of ARCDATA without a fault
module _ (d : Defaults) (above : List ArcRow) (r : ArcRow) (clear : first_of (arc_faults d above r) ≡ None) where
  parts : or_else (fault_if (nat_le most_arcs (length above)) role.TailNode kind.LimitPassed)
      (or_else (first_of (node_faults role.TailNode (nodes_in above) r.tail ++ node_faults role.HeadNode (with_name (nodes_in above) (tail_of r)) r.head))
      (or_else (first_of (name_faults r (list_any (same_arc r) above))) (or_else (first_of (figure_faults d r))
      (first_of (gift_faults role.Supply (given (gifts above) (tail_of r)) r.supply ++ gift_faults role.Demand (given (gifts above ++ gift (tail_of r) r.supply) (head_of r)) r.demand))))) ≡ None
  parts = sym (split (fault_if (nat_le most_arcs (length above)) role.TailNode kind.LimitPassed) (node_faults role.TailNode (nodes_in above) r.tail)
      (node_faults role.HeadNode (with_name (nodes_in above) (tail_of r)) r.head) (name_faults r (list_any (same_arc r) above)) (figure_faults d r)
      (gift_faults role.Supply (given (gifts above) (tail_of r)) r.supply) (gift_faults role.Demand (given (gifts above ++ gift (tail_of r) r.supply) (head_of r)) r.demand)) ∙ clear

  few-above : length above < most_arcs
  few-above =
      let no : nat_le most_arcs (length above) ≡ false = passed _ _ _ (first-none _ _ parts) in
      grind (arith, no)

  head-clear : first_of (node_faults role.HeadNode (with_name (nodes_in above) (tail_of r)) r.head) ≡ None
  head-clear = second-none (first_of (node_faults role.TailNode (nodes_in above) r.tail)) _
      (sym (first-append (node_faults role.TailNode (nodes_in above) r.tail) (node_faults role.HeadNode (with_name (nodes_in above) (tail_of r)) r.head)) ∙ first-none _ _ (second-none _ _ parts))

  few-named : length (with_name (with_name (nodes_in above) (tail_of r)) (head_of r)) ≤ most_nodes
  few-named =
      let no : nat_lt most_nodes (length (with_name (with_name (nodes_in above) (tail_of r)) (head_of r))) ≡ false =
      passed (nat_lt most_nodes (length (with_name (with_name (nodes_in above) (tail_of r)) (head_of r)))) role.HeadNode kind.LimitPassed
      (third (fault_if (not (is_said r.head)) role.HeadNode kind.BadName) (fault_if (bytes_eq (head_of r) excess) role.HeadNode kind.ReservedName)
      (fault_if (nat_lt most_nodes (length (with_name (with_name (nodes_in above) (tail_of r)) (head_of r)))) role.HeadNode kind.LimitPassed) None head-clear) in
      grind (arith, no)

  nodes-are : nodes_in (above ++ r ∷ []) ≡ with_name (with_name (nodes_in above) (tail_of r)) (head_of r)
  nodes-are = ap first_seen (ends-push above r) ∙ first_seen-push (ends above ++ tail_of r ∷ []) (head_of r) ∙ ap (λ ns. with_name ns (head_of r)) (first_seen-push (ends above) (tail_of r))

  few-here : length (nodes_in (above ++ r ∷ [])) ≤ most_nodes
  few-here = rw nodes-are few-named

  figures-clear : first_of (figure_faults d r) ≡ None
  figures-clear = fourth (fault_if (nat_le most_arcs (length above)) role.TailNode kind.LimitPassed)
      (first_of (node_faults role.TailNode (nodes_in above) r.tail ++ node_faults role.HeadNode (with_name (nodes_in above) (tail_of r)) r.head))
      (first_of (name_faults r (list_any (same_arc r) above))) (first_of (figure_faults d r))
      (first_of (gift_faults role.Supply (given (gifts above) (tail_of r)) r.supply ++ gift_faults role.Demand (given (gifts above ++ gift (tail_of r) r.supply) (head_of r)) r.demand)) parts

  in-order : are_crossed (figures_of d r).lower (figures_of d r).upper ≡ false
  in-order = passed (are_crossed (figures_of d r).lower (figures_of d r).upper) role.Capacity kind.CrossedBounds
      (fourth (fault_if (is_bad r.cost) role.Cost kind.Amount) (fault_if (is_bad r.lower) role.Lo kind.Amount) (fault_if (is_bad r.capacity) role.Capacity kind.Amount)
      (fault_if (are_crossed (figures_of d r).lower (figures_of d r).upper) role.Capacity kind.CrossedBounds) None figures-clear)

clear-at : (d : Defaults) (rows : List ArcRow) (k : ℕ) → first_arc_fault d rows ≡ None → k < length rows → first_of (arc_faults d (take k rows) (get_or rows k empty_row)) ≡ None
unfolding arc_fault_at
clear-at d rows k h below = row-none (length rows) k (arc_fault_at d rows) h below

last : {A : Type 0} (xs : List A) (e : A) (k : ℕ) → length xs ≡ k + 1 → take k xs ++ get_or xs k e ∷ [] ≡ xs
last xs e k h = sym (take_more xs k e (omega (arith, h))) ∙ take_all (k + 1) xs (omega (arith, h))

-- ---- all rows
pub rows-in-order : (d : Defaults) (rows : List ArcRow) (k : ℕ) → first_arc_fault d rows ≡ None → k < length rows
    → are_crossed (figures_of d (get_or rows k empty_row)).lower (figures_of d (get_or rows k empty_row)).upper ≡ false
rows-in-order d rows k h below = in-order d (take k rows) (get_or rows k empty_row) (clear-at d rows k h below)

pub few-arcs : (d : Defaults) (rows : List ArcRow) → first_arc_fault d rows ≡ None → length rows ≤ most_arcs
few-arcs d rows h = by_cases (length rows) refl
  where
    by_cases : (n : ℕ) → length rows ≡ n → length rows ≤ most_arcs
    by_cases zero e = omega (arith, e)
    by_cases (suc k) e =
        let below : k < length rows = omega (arith, e) in
        let few = few-above d (take k rows) (get_or rows k empty_row) (clear-at d rows k h below) in
        let size : length (take k rows) ≡ k = length-take-below rows k below in
        omega (arith, few, size, e)
      where
        length-take-below : {A : Type 0} (xs : List A) (i : ℕ) → i < length xs → length (take i xs) ≡ i
        length-take-below [] i b = absurd (omega arith)
        length-take-below (x ∷ xs) zero b = refl
        length-take-below (x ∷ xs) (suc i) b = ap suc (length-take-below xs i (omega (arith, b)))

pub few-nodes-in : (d : Defaults) (rows : List ArcRow) → first_arc_fault d rows ≡ None → length (nodes_in rows) ≤ most_nodes
unfolding first_seen
few-nodes-in d rows h = by_cases (length rows) refl
  where
    empty : (qs : List ArcRow) → length qs ≡ 0 → length (nodes_in qs) ≤ most_nodes
    empty [] e = omega arith
    empty (q ∷ qs) e = absurd (omega (arith, e))

    by_cases : (n : ℕ) → length rows ≡ n → length (nodes_in rows) ≤ most_nodes
    by_cases zero e = empty rows e
    by_cases (suc k) e =
        let below : k < length rows = omega (arith, e) in
        let whole : take k rows ++ get_or rows k empty_row ∷ [] ≡ rows = last rows empty_row k (omega (arith, e)) in
        rw whole at (few-here d (take k rows) (get_or rows k empty_row) (clear-at d rows k h below))

-- ---- NODEDATA
few-with : (arcs : List ArcRow) (above : List NodeRow) (r : NodeRow) → first_of (node_row_faults arcs above r) ≡ None → length (all_nodes arcs (above ++ r ∷ [])) ≤ most_nodes
few-with arcs above r clear =
    let no : nat_lt most_nodes (length (with_name (all_nodes arcs above) (node_name r))) ≡ false =
    passed (nat_lt most_nodes (length (with_name (all_nodes arcs above) (node_name r)))) role.Node kind.LimitPassed
    (fourth (fault_if (not (is_said r.node)) role.Node kind.BadName) (fault_if (bytes_eq (node_name r) excess) role.Node kind.ReservedName)
    (fault_if (has_name (node_name r) (map node_name above)) role.Node kind.RepeatedNode)
    (fault_if (nat_lt most_nodes (length (with_name (all_nodes arcs above) (node_name r)))) role.Node kind.LimitPassed)
    (first_of (gift_faults role.Supdem (given (all_gifts arcs above) (node_name r)) r.supdem)) clear) in
    let are : all_nodes arcs (above ++ r ∷ []) ≡ with_name (all_nodes arcs above) (node_name r) =
    ap first_seen (names-push arcs above r) ∙ first_seen-push (ends arcs ++ map node_name above) (node_name r) in
    rw are (grind (arith, no))

node-clear-at : (arcs : List ArcRow) (rows : List NodeRow) (k : ℕ) → first_node_fault arcs rows ≡ None → k < length rows → first_of (node_row_faults arcs (take k rows) (get_or rows k no_node_row)) ≡ None
unfolding node_fault_at
node-clear-at arcs rows k h below = row-none (length rows) k (node_fault_at arcs rows) h below

pub few-nodes : (d : Defaults) (arcs : List ArcRow) (rows : List NodeRow) → first_arc_fault d arcs ≡ None → first_node_fault arcs rows ≡ None → length (all_nodes arcs rows) ≤ most_nodes
few-nodes d arcs rows a h = by_cases (length rows) refl
  where
    empty : (qs : List NodeRow) → length qs ≡ 0 → length (all_nodes arcs qs) ≤ most_nodes
    empty [] e = rw (append-nil (ends arcs)) (few-nodes-in d arcs a)
    empty (q ∷ qs) e = absurd (omega (arith, e))

    by_cases : (n : ℕ) → length rows ≡ n → length (all_nodes arcs rows) ≤ most_nodes
    by_cases zero e = empty rows e
    by_cases (suc k) e =
        let below : k < length rows = omega (arith, e) in
        let whole : take k rows ++ get_or rows k no_node_row ∷ [] ≡ rows = last rows no_node_row k (omega (arith, e)) in
        rw whole at (few-with arcs (take k rows) (get_or rows k no_node_row) (node-clear-at arcs rows k h below))
