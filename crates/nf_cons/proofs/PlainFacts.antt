-- A network of two tables is without constraints: its parts are numbered, it is small, and its entries stand at nodes.
use Rattle.std.proofs.Common.{◌≡◌, ◌<◌, ◌≤◌, ◌*◌, ◌++◌, ◌⊎◌, ℕ, zero, suc, Bool, true, false, cond, List, [], ◌∷◌, Option, Some, None, Ok, length, map, get_or, nat_eq, nat_lt, refl, sym, ◌∙◌, inl, inr, arith}
use Rattle.std.proofs.lemmas.Bool.{cases_Bool}
use Rattle.std.proofs.lemmas.List.{append-nil, length-append}
use Rattle.std.proofs.lemmas.List.Elements.{All-append, All-cons, All-map, All-nil, All-weaker}
use Rattle.std.specs.List.{All}
use Rattle.nf_num.specs.Rational.{one_ℚ, neg_ℚ}
use Rattle.nf_model.specs.declared.RowKind.TheVariants.{Eq}
use Rattle.nf_model.specs.Program.{Entry, Row}
use Rattle.nf_prob.specs.Building.{arc_entries}
use Rattle.nf_table.specs.Grid.{Grid}
use Rattle.nf_cells.specs.Names.{Name, has_name, place_of}
use Rattle.nf_cells.specs.declared.values.Supply.{Supply}
use Rattle.nf_cells.proofs.SeenFacts.{eq-self, place-less}
use Rattle.nf_program.specs.declared.program.ProcOptions.{ProcOptions}
use Rattle.nf_program.specs.declared.program.SetName.{SetName}
use Rattle.nf_program.specs.declared.program.SetName.TheVariants as set
use Rattle.nf_roles.specs.declared.fault.CellFault.{CellFault}
use Rattle.nf_roles.specs.declared.fault.DataFault.{DataFault}
use Rattle.nf_roles.specs.Roles.{RoleColumns}
use Rattle.nf_table.specs.Grid.{Cells}
use Rattle.nf_network.specs.Rows.{ArcRow, NodeRow, arc_row, arc_rows, node_rows}
use Rattle.nf_network.specs.Arcs.{arc_name, ends, given, head_of, tail_of}
use Rattle.nf_network.specs.Excess.{balance_of, gets, has_excess, joined_below, sends}
use Rattle.nf_network.specs.Faults.{first_arc_fault, most_nodes}
use Rattle.nf_network.specs.NodeData.{all_nodes, first_node_fault, gifts_to, node_name}
use Rattle.nf_network.specs.Network.{Network, arc_column, defaults_of, excess_column, excess_columns, excess_columns_at, excess_value, first_fault, if_excess, in_set, network_due, network_of, node_row, unless_fault, values}
use Rattle.nf_network.proofs.FitFacts.{fit}
use Rattle.nf_network.proofs.LimitFacts.{few-arcs, few-nodes}
use Rattle.nf_network.proofs.Lists.{joined-short}
use Rattle.nf_network.proofs.MakingFacts.{no-excess, two-short}
use Rattle.nf_network.proofs.PassFacts.{map-length}
use Rattle.nf_cons.specs.Due.{IsNetworkOf}
use Rattle.nf_cons.specs.Making.{HasEntriesBelow, IsPlain}
use Rattle.nf_cons.proofs.FaultFacts.{or-first, or-second}
use Rattle.nf_cons.proofs.NameFacts.{has-front, has-rest, has-seen}

-- ---- the network that is due
no-fault : (s : SetName) (roles : RoleColumns) (header : Cells) (f : Option (ℕ × CellFault)) → in_set s roles header f ≡ None → f ≡ None
no-fault s roles header None h = refl
no-fault s roles header (Some f) h = absurd (cc)

fault-free : (f : Option DataFault) (m n : Network) → unless_fault f m ≡ Ok n → (f ≡ None) × (m ≡ n)
fault-free None m n h = (refl, (cc))
fault-free (Some f) m n h = absurd (cc)

-- ---- entries
entries-below : (t h n : ℕ) → t < n → h < n → All (λ e. e.row < n) (arc_entries t h)
entries-below t h n bt bh = by_cases (nat_eq t h) (nat_lt t h)
  where
    two : (d e : Entry) → d.row < n → e.row < n → All {X = Entry} (λ q. q.row < n) (d ∷ e ∷ [])
    two d e hd he = All-cons (λ q. q.row < n) d (e ∷ []) hd (All-cons (λ q. q.row < n) e [] he (All-nil (λ q. q.row < n)))

    by_cases : (a b : Bool) → All {X = Entry} (λ e. e.row < n) (cond a [] (cond b (record { row = t; value = one_ℚ } ∷ record { row = h; value = neg_ℚ one_ℚ } ∷ []) (record { row = h; value = neg_ℚ one_ℚ } ∷ record { row = t; value = one_ℚ } ∷ [])))
    by_cases true b = All-nil (λ e. e.row < n)
    by_cases false true = two (record { row = t; value = one_ℚ }) (record { row = h; value = neg_ℚ one_ℚ }) bt bh
    by_cases false false = two (record { row = h; value = neg_ℚ one_ℚ }) (record { row = t; value = one_ℚ }) bh bt

-- The ends of arcs are among the ends.
abbrev HasEnds : List Name → ArcRow → Type 0
HasEnds ns r = (has_name (tail_of r) ns ≡ true) × (has_name (head_of r) ns ≡ true)

all-ends : (arcs : List ArcRow) → All (HasEnds (ends arcs)) arcs
all-ends [] = All-nil (HasEnds [])
all-ends (q ∷ qs) =
    All-cons (HasEnds (ends (q ∷ qs))) q qs (rw (eq-self (tail_of q)) refl, has-rest (head_of q) (tail_of q) (head_of q ∷ ends qs) (rw (eq-self (head_of q)) refl))
    (All-weaker (HasEnds (ends qs)) (HasEnds (ends (q ∷ qs)))
    (λ r h. (has-rest (tail_of r) (tail_of q) (head_of q ∷ ends qs) (has-rest (tail_of r) (head_of q) (ends qs) h.0), has-rest (head_of r) (tail_of q) (head_of q ∷ ends qs) (has-rest (head_of r) (head_of q) (ends qs) h.1)))
    qs (all-ends qs))

arcs-below : (o : ProcOptions) (arcs : List ArcRow) (nodes : List NodeRow) (n : ℕ) → length (all_nodes arcs nodes) ≤ n → All (HasEntriesBelow n) (map (arc_column o (all_nodes arcs nodes)) arcs)
arcs-below o arcs nodes n few =
    All-map (HasEntriesBelow n) (arc_column o (all_nodes arcs nodes)) arcs
    (All-weaker (HasEnds (ends arcs)) (λ r. HasEntriesBelow n (arc_column o (all_nodes arcs nodes) r)) one arcs (all-ends arcs))
  where
    seen : (x : Name) → has_name x (ends arcs) ≡ true → has_name x (all_nodes arcs nodes) ≡ true
    seen x h = has-seen x (ends arcs ++ map node_name nodes) ∙ has-front x (ends arcs) (map node_name nodes) h

    one : (r : ArcRow) → HasEnds (ends arcs) r → HasEntriesBelow n (arc_column o (all_nodes arcs nodes) r)
    one r h =
        let t = place-less (tail_of r) (all_nodes arcs nodes) (seen (tail_of r) h.0) in
        let q = place-less (head_of r) (all_nodes arcs nodes) (seen (head_of r) h.1) in
        entries-below (place_of (tail_of r) (all_nodes arcs nodes)) (place_of (head_of r) (all_nodes arcs nodes)) n (omega (arith, t, few)) (omega (arith, q, few))

excess-below : (t : Bool) (ws vs : List (Option Supply)) (n k : ℕ) → length vs < n → k ≤ length vs → All (HasEntriesBelow n) (joined_below k (excess_columns_at (balance_of t ws) vs))
unfolding joined_below
excess-below t ws vs n zero room few = All-nil (HasEntriesBelow n)
excess-below t ws vs n (suc k) room few =
    let b = balance_of t ws in
    All-append (HasEntriesBelow n) (joined_below k (excess_columns_at b vs)) (excess_columns_at b vs k) (excess-below t ws vs n k room (omega (arith, few))) (by_tests (sends b (get_or vs k None)) (gets b (get_or vs k None)))
  where
    to : HasEntriesBelow n (excess_column k (length vs))
    to = entries-below k (length vs) n (omega (arith, few, room)) room

    from : HasEntriesBelow n (excess_column (length vs) k)
    from = entries-below (length vs) k n room (omega (arith, few, room))

    by_tests : (s g : Bool) → All (HasEntriesBelow n) (cond s (excess_column k (length vs) ∷ []) [] ++ cond g (excess_column (length vs) k ∷ []) [])
    by_tests true true = All-cons (HasEntriesBelow n) (excess_column k (length vs)) (excess_column (length vs) k ∷ []) to (All-cons (HasEntriesBelow n) (excess_column (length vs) k) [] from (All-nil (HasEntriesBelow n)))
    by_tests true false = All-cons (HasEntriesBelow n) (excess_column k (length vs)) [] to (All-nil (HasEntriesBelow n))
    by_tests false true = All-cons (HasEntriesBelow n) (excess_column (length vs) k) [] from (All-nil (HasEntriesBelow n))
    by_tests false false = All-nil (HasEntriesBelow n)

-- The entries of the program of arcs and nodes.
program-below : (o : ProcOptions) (arcs : List ArcRow) (nodes : List NodeRow) (vs : List (Option Supply)) → length vs ≡ length (all_nodes arcs nodes)
    → All (HasEntriesBelow (length (map node_row vs ++ if_excess (balance_of o.thrunet vs) vs (record { kind = Eq; right = excess_value (balance_of o.thrunet vs) }))))
    (map (arc_column o (all_nodes arcs nodes)) arcs ++ excess_columns (balance_of o.thrunet vs) vs)
program-below o arcs nodes vs each = by_cases (cases_Bool (has_excess (balance_of o.thrunet vs) vs))
  where
    row : Row
    row = record { kind = Eq; right = excess_value (balance_of o.thrunet vs) }

    by_cases : (has_excess (balance_of o.thrunet vs) vs ≡ true) ⊎ (has_excess (balance_of o.thrunet vs) vs ≡ false)
        → All (HasEntriesBelow (length (map node_row vs ++ if_excess (balance_of o.thrunet vs) vs (record { kind = Eq; right = excess_value (balance_of o.thrunet vs) }))))
        (map (arc_column o (all_nodes arcs nodes)) arcs ++ excess_columns (balance_of o.thrunet vs) vs)
    by_cases (inl e) =
        let rows = length-append (map node_row vs) (record { kind = Eq; right = excess_value (balance_of o.thrunet vs) } ∷ []) in
        let count = map-length node_row vs in
        rw e
        (All-append (HasEntriesBelow (length (map node_row vs ++ record { kind = Eq; right = excess_value (balance_of o.thrunet vs) } ∷ []))) (map (arc_column o (all_nodes arcs nodes)) arcs) (excess_columns (balance_of o.thrunet vs) vs)
        (arcs-below o arcs nodes _ (omega (arith, rows, count, each)))
        (excess-below o.thrunet vs vs _ (length vs) (omega (arith, rows, count)) (omega arith)))
    by_cases (inr e) =
        let count = map-length node_row vs in
        rw (e, append-nil (map node_row vs), no-excess (balance_of o.thrunet vs) vs e, append-nil (map (arc_column o (all_nodes arcs nodes)) arcs))
        (arcs-below o arcs nodes _ (omega (arith, count, each)))

module _ (o : ProcOptions) (roles : RoleColumns) (table : Grid) (node_roles : RoleColumns) (nodes : Grid) (clear : first_fault o roles table node_roles nodes ≡ None) where
  arcs : List ArcRow
  arcs = arc_rows roles table.rows

  arcs-clear : first_arc_fault (defaults_of o) (arc_rows roles table.rows) ≡ None
  arcs-clear = no-fault set.Arcdata roles table.header _ (or-first _ _ clear)

  nodes-clear : first_node_fault (arc_rows roles table.rows) (node_rows node_roles nodes.rows) ≡ None
  nodes-clear = no-fault set.Nodedata node_roles nodes.header _ (or-first _ _ (or-second _ _ clear))

  few : length (all_nodes (arc_rows roles table.rows) (node_rows node_roles nodes.rows)) ≤ most_nodes
  few = few-nodes (defaults_of o) (arc_rows roles table.rows) (node_rows node_roles nodes.rows) arcs-clear nodes-clear

  each : length (values o (arc_rows roles table.rows) (node_rows node_roles nodes.rows)) ≡ length (all_nodes (arc_rows roles table.rows) (node_rows node_roles nodes.rows))
  each = map-length (given (gifts_to o (arc_rows roles table.rows) (node_rows node_roles nodes.rows))) (all_nodes (arc_rows roles table.rows) (node_rows node_roles nodes.rows))

  size : length (map (arc_column o (all_nodes (arc_rows roles table.rows) (node_rows node_roles nodes.rows))) (arc_rows roles table.rows)) ≡ length (arc_rows roles table.rows)
  size = map-length (arc_column o (all_nodes (arc_rows roles table.rows) (node_rows node_roles nodes.rows))) (arc_rows roles table.rows)

  vs-few : (t : Bool) (vs : List (Option Supply)) → length (excess_columns (balance_of t vs) vs) ≤ length vs * 2
  vs-few t vs = let b = balance_of t vs in joined-short (length vs) 2 (excess_columns_at b vs) (λ k. two-short (sends b (get_or vs k None)) (gets b (get_or vs k None)) (excess_column k (length vs)) (excess_column (length vs) k))

  pub plain : IsPlain (network_of o (arc_rows roles table.rows) (node_rows node_roles nodes.rows) roles.ids table)
  plain =
      let vs = values o (arc_rows roles table.rows) (node_rows node_roles nodes.rows) in
      let b = balance_of o.thrunet vs in
      let cs = map (arc_column o (all_nodes (arc_rows roles table.rows) (node_rows node_roles nodes.rows))) (arc_rows roles table.rows) in
      let rows = length-append (map node_row vs) (if_excess b vs (record { kind = Eq; right = excess_value b })) in
      let row_count = map-length node_row vs in
      let columns = length-append cs (excess_columns b vs) in
      let arcs_few = few-arcs (defaults_of o) (arc_rows roles table.rows) arcs-clear in
      let names = map-length arc_name (arc_rows roles table.rows) in
      record {
        numbered = fit o cs vs (all_nodes (arc_rows roles table.rows) (node_rows node_roles nodes.rows)) (map arc_name (arc_rows roles table.rows)) roles.ids table each (size ∙ sym names) (names ∙ map-length (arc_row roles) table.rows);
        no_sides = refl;
        few_rows = omega (arith, rows, row_count, each, few, one_row o.thrunet vs);
        few_columns = omega (arith, columns, size, arcs_few, vs-few o.thrunet vs, each, few);
        own_arcs = omega (arith, columns, size, names);
        entries = entries-all;
      }
    where
      one_row : (t : Bool) (vs : List (Option Supply)) → length {A = Row} (if_excess (balance_of t vs) vs (record { kind = Eq; right = excess_value (balance_of t vs) })) ≤ 1
      one_row t vs = by_test (has_excess (balance_of t vs) vs)
        where
          by_test : (q : Bool) → length {A = Row} (cond q (record { kind = Eq; right = excess_value (balance_of t vs) } ∷ []) []) ≤ 1
          by_test true = omega arith
          by_test false = omega arith

      entries-all : All (HasEntriesBelow (length (network_of o (arc_rows roles table.rows) (node_rows node_roles nodes.rows) roles.ids table).program.rows))
          (network_of o (arc_rows roles table.rows) (node_rows node_roles nodes.rows) roles.ids table).program.columns
      entries-all = program-below o (arc_rows roles table.rows) (node_rows node_roles nodes.rows) (values o (arc_rows roles table.rows) (node_rows node_roles nodes.rows)) each

pub plain-of : (o : ProcOptions) (n : Network) → IsNetworkOf o n → IsPlain n
unfolding network_due
plain-of o n h =
    let free = fault-free (first_fault o h.arc_roles h.arcs h.node_roles h.nodes) _ n h.answered in
    rw free.1 at (plain o h.arc_roles h.arcs h.node_roles h.nodes free.0)
