-- A network of the tables of a DIMACS text has no excess arcs, and its program is the problem of the text.
use Rattle.std.proofs.Common.{◌≡◌, ℕ, zero, suc, ◌+◌, ◌-◌, ◌<◌, ◌≤◌, ◌&&◌, ◌||◌, Bool, true, false, cond, not, nat_lt, List, [], ◌∷◌, ◌++◌, length, map, get_or, Option, None, Some, Ok, Err, Result, ℤ, pos, ◌+ℤ◌, ◌*ℤ◌, unsigned_abs, refl, sym, ◌∙◌, ap, ap₂, subst, arith, decimal, append-nil}
use Rattle.std.specs.List.{flat_map, list_any, fold, AllByRecursion}
use Rattle.std.specs.Fmt.{signed_decimal}
use Rattle.std.specs.Str.{bytes_eq}
use Rattle.std.specs.Ordering.{int_eq}
use lib.Signed.{lt_z}
use Rattle.std.proofs.lemmas.Int.{ints}
use Rattle.std.proofs.lemmas.List.{length-map, get_or-map}
use Rattle.nf_io.specs.Held.{most_bytes}
use Rattle.nf_num.specs.Rational.{ℚ, of_ℤ, zero_ℚ}
use Rattle.nf_model.specs.declared.RowKind.TheVariants.{Eq}
use Rattle.nf_model.specs.Program.{Row, Column, LinearProgram, row}
use Rattle.nf_cells.specs.Names.{Name, has_name, first_seen, is_once, place_of}
use Rattle.nf_cells.specs.declared.values.Supply.{Supply as Value}
use Rattle.nf_cells.specs.declared.values.Supply.TheVariants as value
use Rattle.nf_cells.proofs.SeenFacts.{place-less, at-place}
use Rattle.nf_program.specs.declared.program.ProcOptions.{ProcOptions}
use Rattle.nf_program.specs.declared.program.SetName.TheVariants as set
use Rattle.nf_roles.specs.declared.fault.CellFault.{CellFault}
use Rattle.nf_roles.specs.declared.fault.DataFault.{DataFault}
use Rattle.nf_roles.specs.First.{or_else}
use Rattle.nf_network.specs.Arcs.{given, gifts, ends, Gift}
use Rattle.nf_network.specs.Excess.{thousandths_of, total, balance_of, is_open_supply, is_open_demand, is_positive, is_negative, sends, gets, is_met, has_excess, for_each, joined_below}
use Rattle.nf_network.specs.Network.{Network, arc_column, excess_columns, excess_columns_at, excess_column, if_excess, excess_value, node_row, program_of, values, network_of, network_due, unless_fault, first_fault, in_set, defaults_of}
use Rattle.nf_network.specs.Faults.{first_arc_fault}
use Rattle.nf_network.specs.NodeData.{node_name, node_gift, all_nodes, gifts_to, first_node_fault, first_option_fault}
use Rattle.nf_network.specs.Rows.{ArcRow, NodeRow, arc_rows, node_rows}
use Rattle.nf_dimacs.specs.declared.fault.DimacsKind.TheVariants as kind
use Rattle.nf_dimacs.specs.declared.line.Line.{Line}
use Rattle.nf_dimacs.specs.declared.line.Arc.{Arc}
use Rattle.nf_dimacs.specs.declared.line.Supply.{Supply}
use Rattle.nf_dimacs.specs.declared.tables.DimacsTables.{DimacsTables}
use Rattle.nf_dimacs.specs.Faults.{fault_at, fault_in}
use Rattle.nf_dimacs.specs.Lines.{lines_of}
use Rattle.nf_dimacs.specs.Says.{said, said_by, size_of, supplies_of, arcs_of, flow_of}
use Rattle.nf_dimacs.specs.Tables.{by_node, nodes_in, numbered, or_zero}
use Rattle.nf_dimacs.specs.Text.{AreTables, fault_of}
use Rattle.nf_dimacs_network.specs.Rows.{arc_roles, node_roles, arc_said, node_said, whole}
use Rattle.nf_dimacs_network.specs.Figures.{column_by, GivesNode}
use Rattle.nf_dimacs_network.specs.Problem.{row_of, IsProblemOf, AreSimple, AreTheProblem, TablesAreTheProblem}
use Rattle.nf_dimacs_network.proofs.ShortFacts.{IsShortArc, few-nodes, length-by-node, arcs-short}
use Rattle.nf_dimacs_network.proofs.RowFacts.{arcs-say, nodes-say}
use Rattle.nf_dimacs_network.proofs.FigureFacts.{give-columns, give-nodes, has-node, other-number, no-gifts, all-own, by-node-at, amount-whole}
use Rattle.nf_dimacs_network.proofs.SoundFacts.{sum_of, IsEnd, IsArcOf, Sound, Whole, whole-text}
use Rattle.nf_dimacs_network.proofs.SeenWeights.{weigh, in-front, once-seen}
use Rattle.nf_dimacs_network.proofs.FaultFacts.{no-arc-fault, no-node-fault}
use Rattle.nf_dimacs_network.proofs.NamedFacts.{names_from, once-named, length-named, ends-named}
use Rattle.nf_dimacs_network.proofs.ListFacts.{all-both}

-- ---- values that are amounts
pub record Closed (v : Option Value) : Type 0 where
  pub supply : is_open_supply v ≡ false
  pub demand : is_open_demand v ≡ false

given-closed : (k : ℕ) (xs : List (Option ℤ)) (x : Name) → Closed (given (flat_map node_gift (numbered node_said k xs)) x)
unfolding numbered
given-closed k [] x = record { supply = refl; demand = refl }
given-closed k (g ∷ xs) x = by_cases (bytes_eq x (decimal k)) (given-closed (suc k) xs x)
  where
    by_cases : (b : Bool) → Closed (given (flat_map node_gift (numbered node_said (suc k) xs)) x)
        → Closed (cond b (Some (value.Amount (whole (or_zero g)))) (given (flat_map node_gift (numbered node_said (suc k) xs)) x))
    by_cases true rest = record { supply = refl; demand = refl }
    by_cases false rest = rest

all-closed : (f : Name → Option Value) → ((x : Name) → Closed (f x)) → (ns : List Name) → AllByRecursion Closed (map f ns)
all-closed f closed [] = tt
all-closed f closed (n ∷ ns) = (closed n, all-closed f closed ns)

closed-at : (vs : List (Option Value)) → AllByRecursion Closed vs → (k : ℕ) → Closed (get_or vs k None)
closed-at [] all k = record { supply = refl; demand = refl }
closed-at (v ∷ vs) all zero = all.0
closed-at (v ∷ vs) all (suc k) = closed-at vs all.1 k

-- ---- no excess
module _ (thrunet : Bool) (us : List (Option Value)) (none : total us ≡ pos 0) where
  no-sends : (v : Option Value) → Closed v → sends (balance_of thrunet us) v ≡ false
  no-sends v c = ap₂ (λ (d : Bool) (t : ℤ). d || (lt_z (pos 0) t && not (list_any is_open_demand us) && cond thrunet (is_negative v) (is_positive v))) c.demand none

  no-gets : (v : Option Value) → Closed v → gets (balance_of thrunet us) v ≡ false
  no-gets v c = ap₂ (λ (d : Bool) (t : ℤ). d || (lt_z t (pos 0) && not (list_any is_open_supply us) && cond thrunet (is_positive v) (is_negative v))) c.supply none

  none-met : (vs : List (Option Value)) → AllByRecursion Closed vs → list_any (is_met (balance_of thrunet us)) vs ≡ false
  none-met [] all = refl
  none-met (v ∷ vs) all = ap₂ (λ (a c : Bool). a || c) (ap₂ (λ (a c : Bool). a || c) (no-sends v all.0) (no-gets v all.0)) (none-met vs all.1)

  pub no-excess : (vs : List (Option Value)) → AllByRecursion Closed vs → has_excess (balance_of thrunet us) vs ≡ false
  no-excess vs all = ap₂ (λ (a : Bool) (t : ℤ). a || not (int_eq t (pos 0))) (none-met vs all) none

  none-for : {A : Type 0} (v : Option Value) (to from : A) → Closed v → for_each (balance_of thrunet us) v to from ≡ []
  none-for v to from c = ap₂ (λ (a d : Bool). cond a (to ∷ []) [] ++ cond d (from ∷ []) []) (no-sends v c) (no-gets v c)

  joined-none : {A : Type 0} (n : ℕ) (f : ℕ → List A) → ((k : ℕ) → f k ≡ []) → joined_below n f ≡ []
  unfolding joined_below
  joined-none zero f e = refl
  joined-none (suc n) f e = ap₂ (λ xs ys. xs ++ ys) (joined-none n f e) (e n)

  pub no-excess-columns : (vs : List (Option Value)) → AllByRecursion Closed vs → excess_columns (balance_of thrunet us) vs ≡ []
  no-excess-columns vs all =
      joined-none (length vs) (excess_columns_at (balance_of thrunet us) vs) (λ k. none-for (get_or vs k None) (excess_column k (length vs)) (excess_column (length vs) k) (closed-at vs all k))

-- ---- the total
total-from : (f : Name → Option Value) (a : ℤ) (ns : List Name) → fold (λ t v. t +ℤ thousandths_of v) a (map f ns) ≡ a +ℤ weigh (λ n. thousandths_of (f n)) ns
total-from f a [] = let z : a ≡ a +ℤ pos 0 = omega (arith, ints) in z
total-from f a (n ∷ ns) =
    total-from f (a +ℤ thousandths_of (f n)) ns
    ∙ (let x : ℤ = thousandths_of (f n) in let y : ℤ = weigh (λ n. thousandths_of (f n)) ns in let z : (a +ℤ x) +ℤ y ≡ a +ℤ (x +ℤ y) = omega (arith, ints) in z)

abbrev sum_right : List (Option ℤ) → ℤ
sum_right [] = pos 0
sum_right (x ∷ xs) = or_zero x +ℤ sum_right xs

sum-from : (a : ℤ) (xs : List (Option ℤ)) → fold (λ t o. t +ℤ or_zero o) a xs ≡ a +ℤ sum_right xs
sum-from a [] = let z : a ≡ a +ℤ pos 0 = omega (arith, ints) in z
sum-from a (x ∷ xs) =
    sum-from (a +ℤ or_zero x) xs
    ∙ (let y : ℤ = or_zero x in let w : ℤ = sum_right xs in let z : (a +ℤ y) +ℤ w ≡ a +ℤ (y +ℤ w) = omega (arith, ints) in z)

weigh-named : (w : Name → ℤ) (k : ℕ) (xs : List (Option ℤ)) → ((i : ℕ) → i < length xs → w (decimal (k + i)) ≡ or_zero (get_or xs i None) *ℤ pos 1000) → weigh w (names_from k xs) ≡ sum_right xs *ℤ pos 1000
unfolding numbered
weigh-named w k [] e = refl
weigh-named w k (x ∷ xs) e =
    let here : w (decimal k) ≡ or_zero x *ℤ pos 1000 = ap (λ m. w (decimal m)) (let z : k ≡ k + 0 = omega arith in z) ∙ e 0 (omega arith) in
    let rest : weigh w (names_from (suc k) xs) ≡ sum_right xs *ℤ pos 1000 =
    weigh-named w (suc k) xs (λ i within. ap (λ m. w (decimal m)) (let z : suc k + i ≡ k + suc i = omega arith in z) ∙ e (suc i) (omega arith)) in
    ap₂ ◌+ℤ◌ here rest ∙ (let y : ℤ = or_zero x in let s : ℤ = sum_right xs in let z : y *ℤ pos 1000 +ℤ s *ℤ pos 1000 ≡ (y +ℤ s) *ℤ pos 1000 = omega (arith, ints) in z)

-- ---- the problem
short-text : (text : List ℕ) → fault_of text ≡ None → fault_in (said_by text) ≡ None
short-text text e = by_cases (nat_lt most_bytes (length text)) e
  where
    by_cases : (b : Bool) → cond b (Some (fault_at 0 kind.TooLong)) (fault_in (said_by text)) ≡ None → fault_in (said_by text) ≡ None
    by_cases true none = absurd cc
    by_cases false none = none

module _ (text : List ℕ) (t : DimacsTables) (o : ProcOptions) (tables : AreTables text t) (simple : AreSimple o) where
  lines : List Line
  lines = said_by text

  abbrev given_to : List (Option ℤ)
  given_to = by_node (supplies_of (said_by text)) (nodes_in (size_of (said_by text)))

  abbrev arcs : List ArcRow
  arcs = arc_rows arc_roles t.arcs.rows

  abbrev nodes : List NodeRow
  nodes = node_rows node_roles t.nodes.rows

  abbrev names : List Name
  names = all_nodes arcs nodes

  abbrev value_of_node : Name → Option Value
  value_of_node = given (gifts_to o arcs nodes)

  arcs-are : arcs ≡ numbered arc_said 1 (arcs_of (said_by text))
  arcs-are = arcs-say text t tables

  nodes-are : nodes ≡ numbered node_said 1 given_to
  nodes-are = nodes-say text t tables

  long : length given_to ≡ nodes_in (size_of (said_by text))
  long = length-by-node (supplies_of (said_by text)) (nodes_in (size_of (said_by text)))

  few : 1 + length given_to ≤ 1_000_000_000
  few = omega (arith, long, few-nodes (lines_of text))

  whole-of : Whole (said_by text)
  whole-of = whole-text (said_by text) (short-text text tables.sound)

  own-gifts : gifts_to o arcs nodes ≡ flat_map node_gift (numbered node_said 1 given_to)
  own-gifts =
      all-own o (gifts arcs) (flat_map node_gift nodes) (ap gifts arcs-are ∙ no-gifts 1 (arcs_of (said_by text))) simple.no_node
      ∙ ap (flat_map node_gift) nodes-are

  closed : AllByRecursion Closed (map value_of_node names)
  closed = all-closed value_of_node (λ x. subst (λ (gs : List Gift). Closed (given gs x)) (sym own-gifts) (given-closed 1 given_to x)) names

  named-are : map node_name nodes ≡ names_from 1 given_to
  named-are = ap (map node_name) nodes-are

  ends-are : AllByRecursion (λ n. has_name n (names_from 1 given_to) ≡ true) (ends arcs)
  ends-are = subst (λ (rows : List ArcRow). AllByRecursion (λ n. has_name n (names_from 1 given_to) ≡ true) (ends rows)) (sym arcs-are)
      (ends-named given_to 1 (arcs_of (said_by text)) (subst (λ (m : ℕ). AllByRecursion (IsArcOf m) (arcs_of (said_by text))) (sym long) whole-of.sound.ends))

  weight : Name → ℤ
  weight n = thousandths_of (value_of_node n)

  all-in : (weigh (λ n. thousandths_of (value_of_node n)) names ≡ weigh (λ n. thousandths_of (value_of_node n)) (names_from 1 given_to)) × (length names ≡ length (names_from 1 given_to))
  all-in = subst (λ (ms : List Name). (weigh (λ n. thousandths_of (value_of_node n)) (first_seen (ends arcs ++ ms)) ≡ weigh (λ n. thousandths_of (value_of_node n)) (names_from 1 given_to)) × (length (first_seen (ends arcs ++ ms)) ≡ length (names_from 1 given_to)))
      (sym named-are) (in-front (λ n. thousandths_of (value_of_node n)) (names_from 1 given_to) (once-named 1 given_to few) (ends arcs) ends-are)

  count-names : length names ≡ nodes_in (size_of (said_by text))
  count-names = all-in.1 ∙ length-named 1 given_to ∙ long

  node-given : (node : ℕ) → 0 < node → node ≤ nodes_in (size_of (said_by text)) → GivesNode text t o node
  node-given node some within = give-nodes text t o node tables simple.no_node some within

  value-at : (i : ℕ) → i < length given_to → thousandths_of (value_of_node (decimal (1 + i))) ≡ or_zero (get_or given_to i None) *ℤ pos 1000
  value-at i within =
      ap thousandths_of (node-given (1 + i) (omega arith) (omega (arith, long))).value
      ∙ ap (λ (g : Option ℤ). or_zero g *ℤ pos 1000)
      (ap (λ m. flow_of (supplies_of (said_by text)) (pos m)) (let z : 1 + i ≡ suc i = omega arith in z)
      ∙ sym (by-node-at (supplies_of (said_by text)) (nodes_in (size_of (said_by text))) i (omega (arith, long))))

  total-none : total (map value_of_node names) ≡ pos 0
  total-none =
      total-from value_of_node (pos 0) names
      ∙ ap (λ (w : ℤ). pos 0 +ℤ w) (all-in.0 ∙ weigh-named (λ n. thousandths_of (value_of_node n)) 1 given_to value-at)
      ∙ (let s : ℤ = sum_right given_to in let none : pos 0 +ℤ s ≡ pos 0 = sym (sum-from (pos 0) given_to) ∙ whole-of.sound.balanced ∙ whole-of.total in
      let z : pos 0 +ℤ s *ℤ pos 1000 ≡ pos 0 = omega (arith, ints, none) in z)

  abbrev program : LinearProgram
  program = program_of o (map (arc_column o names) arcs) (map value_of_node names)

  columns-are : program.columns ≡ map (column_by names) (arcs_of (said_by text))
  columns-are =
      ap (λ cs. map (arc_column o names) arcs ++ cs) (no-excess-columns o.thrunet (map value_of_node names) total-none (map value_of_node names) closed)
      ∙ append-nil (map (arc_column o names) arcs)
      ∙ give-columns text t o names tables simple.minimises

  rows-are : program.rows ≡ map node_row (map value_of_node names)
  rows-are =
      ap (λ (b : Bool). map node_row (map value_of_node names) ++ cond b (record { kind = Eq; right = excess_value (balance_of o.thrunet (map value_of_node names)) } ∷ []) [])
      (no-excess o.thrunet (map value_of_node names) total-none (map value_of_node names) closed)
      ∙ append-nil (map node_row (map value_of_node names))

  count-rows : length program.rows ≡ length names
  count-rows = ap length rows-are ∙ length-map (map value_of_node names) node_row ∙ length-map names value_of_node

  place-in : (node : ℕ) → 0 < node → node ≤ nodes_in (size_of (said_by text)) → place_of (decimal node) names < length names
  place-in node some within = place-less (decimal node) names (node-given node some within).named

  row-at : (node : ℕ) → 0 < node → node ≤ nodes_in (size_of (said_by text)) → row program (place_of (decimal node) names) ≡ row_of (flow_of (supplies_of (said_by text)) (pos node))
  row-at node some within =
      let place : ℕ = place_of (decimal node) names in
      let inside : place < length names = place-in node some within in
      let blank : Row = record { kind = Eq; right = zero_ℚ } in
      let own = node-given node some within in
      ap (λ (rows : List Row). get_or rows place blank) rows-are
      ∙ get_or-map node_row (map value_of_node names) place None blank (omega (arith, length-map names value_of_node))
      ∙ ap node_row (get_or-map value_of_node names place [] None inside)
      ∙ ap (λ (n : Name). node_row (value_of_node n)) (at-place (decimal node) names [] own.named)
      ∙ ap node_row own.value
      ∙ ap (λ (r : ℚ). record { kind = Eq; right = r }) (amount-whole (or_zero (flow_of (supplies_of (said_by text)) (pos node))))

  pub is-problem : IsProblemOf names (said_by text) program
  is-problem = record {
    columns = columns-are;
    count = count-rows ∙ count-names;
    places = λ node some within. subst (λ m. place_of (decimal node) names < m) (sym count-rows) (place-in node some within);
    rows = row-at;
    once = once-seen (ends arcs ++ map node_name nodes);
    nodes = refl;
    arcs = refl;
    minimises = simple.minimises;
  }

  -- ---- no fault
  good : AllByRecursion (λ (a : Arc). IsArcOf (length given_to) a × IsShortArc a) (arcs_of (said_by text))
  good = all-both (IsArcOf (length given_to)) IsShortArc (arcs_of (said_by text))
      (subst (λ (m : ℕ). AllByRecursion (IsArcOf m) (arcs_of (said_by text))) (sym long) whole-of.sound.ends) (arcs-short (lines_of text))

  not-too-many : length given_to ≤ 20_000
  not-too-many = omega (arith, long, whole-of.sound.few)

  arcs-clear : first_arc_fault (defaults_of o) arcs ≡ None
  arcs-clear = ap (first_arc_fault (defaults_of o)) arcs-are ∙ no-arc-fault given_to not-too-many (defaults_of o) (arcs_of (said_by text)) good whole-of.few_arcs

  nodes-clear : first_node_fault arcs nodes ≡ None
  nodes-clear = ap₂ first_node_fault arcs-are nodes-are ∙ no-node-fault given_to not-too-many (arcs_of (said_by text)) good

  options-clear : first_option_fault o arcs nodes ≡ None
  options-clear = rw (simple.no_node.source, simple.no_node.sink) refl

  clear : first_fault o arc_roles t.arcs node_roles t.nodes ≡ None
  clear =
      ap (λ (f : Option (ℕ × CellFault)). or_else (in_set set.Arcdata arc_roles t.arcs.header f) (or_else (in_set set.Nodedata node_roles t.nodes.header (first_node_fault arcs nodes)) (first_option_fault o arcs nodes))) arcs-clear
      ∙ ap₂ (λ (f : Option (ℕ × CellFault)) (g : Option DataFault). or_else (in_set set.Nodedata node_roles t.nodes.header f) g) nodes-clear options-clear

  is-due : network_due o arc_roles t.arcs node_roles t.nodes ≡ Ok (network_of o arcs nodes [] t.arcs)
  unfolding network_due
  is-due = ap (λ (f : Option DataFault). unless_fault f (network_of o arcs nodes [] t.arcs)) clear

  pub all-together : AreTheProblem text t o
  all-together = record { network = network_of o arcs nodes [] t.arcs; due = is-due; problem = is-problem }

pub the-problem : TablesAreTheProblem
the-problem text t o tables simple = all-together text t o tables simple
