-- The columns and values of a network of the tables.
use Rattle.std.proofs.Common.{◌≡◌, ℕ, zero, suc, ◌+◌, ◌-◌, ◌<◌, ◌≤◌, ◌^◌, ◌&&◌, ◌||◌, Bool, true, false, cond, not, List, [], ◌∷◌, ◌++◌, length, map, filter, get_or, Option, None, Some, ℤ, pos, ◌+ℤ◌, ◌*ℤ◌, refl, sym, ◌∙◌, ap, ap₂, subst, arith, decimal, append-nil}
use Rattle.std.specs.List.{flat_map, list_any}
use Rattle.std.specs.Str.{bytes_eq}
use Rattle.std.specs.Fmt.{signed_decimal}
use Rattle.std.proofs.Common.{inl, inr}
use Rattle.std.proofs.lemmas.Bool.{cases_eq}
use Rattle.std.proofs.lemmas.Int.{ints}
use Rattle.std.proofs.lemmas.List.{map-append, get_or_append_left, get_or_push}
use Rattle.std.proofs.lemmas.Fmt.{decimal_injective}
use Rattle.nf_num.specs.Rational.{ℚ, of_ℤ}
use Rattle.nf_frac.specs.Amounts.{amount_value}
use Rattle.nf_frac.proofs.AmountFacts.{whole_value}
use Rattle.nf_cells.specs.Names.{Name, has_name, first_seen}
use Rattle.nf_cells.specs.declared.values.Supply.{Supply as Value}
use Rattle.nf_cells.specs.declared.values.Supply.TheVariants as supply
use Rattle.nf_cells.proofs.SeenFacts.{same, eq-self}
use Rattle.nf_program.specs.declared.program.ProcOptions.{ProcOptions}
use Rattle.nf_network.specs.Arcs.{given, gifts, gifts_of, ends, Gift}
use Rattle.nf_network.specs.Network.{arc_column}
use Rattle.nf_network.specs.NodeData.{node_name, node_gift, all_nodes, all_gifts, gifts_to, option_gift, negated}
use Rattle.nf_network.specs.Rows.{ArcRow, NodeRow, arc_rows, node_rows}
use Rattle.nf_dimacs.specs.declared.line.Arc.{Arc}
use Rattle.nf_dimacs.specs.declared.line.Supply.{Supply}
use Rattle.nf_dimacs.specs.declared.tables.DimacsTables.{DimacsTables}
use Rattle.nf_dimacs.specs.Lines.{lines_of}
use Rattle.nf_dimacs.specs.Says.{said, said_by, size_of, supplies_of, arcs_of, flow_of}
use Rattle.nf_dimacs.specs.Tables.{by_node, nodes_in, numbered, or_zero}
use Rattle.nf_dimacs.specs.Text.{AreTables}
use Rattle.nf_dimacs_network.specs.Rows.{arc_roles, node_roles, arc_said, node_said, whole}
use Rattle.nf_dimacs_network.specs.Figures.{column_by, GiveColumns, GiveNodes, NameNoNode, GivesNode}
use Rattle.nf_dimacs_network.proofs.ShortFacts.{few-nodes, length-by-node}
use Rattle.nf_dimacs_network.proofs.RowFacts.{arcs-say, nodes-say}
use Rattle.nf_dimacs_network.proofs.ListFacts.{false-from}
use Rattle.nf_dimacs_network.proofs.SeenWeights.{has-seen, has-behind}

-- ---- columns
pub amount-whole : (z : ℤ) → amount_value (whole z) ≡ of_ℤ z
amount-whole z = sym (whole_value (z *ℤ pos 1000) z (pos 0) (let e : z *ℤ pos 1000 +ℤ pos 0 ≡ z *ℤ pos 1000 = omega (arith, ints) in e) refl)

column-is : (o : ProcOptions) (names : List Name) (k : ℕ) (a : Arc) → o.maximize ≡ false → arc_column o names (arc_said k a) ≡ column_by names a
column-is o names k a least = rw (least, amount-whole a.cost, amount-whole a.lower, amount-whole a.capacity) refl

pub columns-are : (o : ProcOptions) (names : List Name) → o.maximize ≡ false → (k : ℕ) (arcs : List Arc) → map (arc_column o names) (numbered arc_said k arcs) ≡ map (column_by names) arcs
unfolding numbered
columns-are o names least k [] = refl
columns-are o names least k (a ∷ arcs) = ap₂ (λ c cs. c ∷ cs) (column-is o names k a least) (columns-are o names least (suc k) arcs)

pub give-columns : GiveColumns
give-columns text t o names tables least = ap (map (arc_column o names)) (arcs-say text t tables) ∙ columns-are o names least 1 (arcs_of (said_by text))

-- ---- names
pub other-number : (m n : ℕ) → m < 1_000_000_000 → n < 1_000_000_000 → (m ≡ n → ⊥) → bytes_eq (decimal m) (decimal n) ≡ false
other-number m n sm sn other = false-from (bytes_eq (decimal m) (decimal n)) (λ e. other (decimal_injective m n (omega (arith, sm)) (omega (arith, sn)) (same (decimal m) (decimal n) e)))

-- ---- nodes, numbered from k on
pub has-node : (k : ℕ) (xs : List (Option ℤ)) (i : ℕ) → i < length xs → has_name (decimal (k + i)) (map node_name (numbered node_said k xs)) ≡ true
unfolding numbered
has-node k [] i within = absurd (omega arith)
has-node k (x ∷ xs) zero within = ap (λ (c : Bool). c || has_name (decimal (k + 0)) (map node_name (numbered node_said (suc k) xs)))
    (ap (λ (m : ℕ). bytes_eq (decimal (k + 0)) (decimal m)) (let e : k ≡ k + 0 = omega arith in e) ∙ eq-self (decimal (k + 0)))
has-node k (x ∷ xs) (suc i) within = either (bytes_eq (decimal (k + suc i)) (decimal k)) (ap (λ (m : ℕ). has_name (decimal m) (map node_name (numbered node_said (suc k) xs))) (let e : k + suc i ≡ suc k + i = omega arith in e) ∙ has-node (suc k) xs i (omega arith))
  where
    either : (c : Bool) → has_name (decimal (k + suc i)) (map node_name (numbered node_said (suc k) xs)) ≡ true → c || has_name (decimal (k + suc i)) (map node_name (numbered node_said (suc k) xs)) ≡ true
    either true g = refl
    either false g = g

pub given-node : (k : ℕ) (xs : List (Option ℤ)) (i : ℕ) → i < length xs → k + length xs ≤ 1_000_000_000
    → given (flat_map node_gift (numbered node_said k xs)) (decimal (k + i)) ≡ Some (supply.Amount (whole (or_zero (get_or xs i None))))
unfolding numbered
given-node k [] i within few = absurd (omega arith)
given-node k (x ∷ xs) zero within few =
    ap (λ (c : Bool). cond c (Some (supply.Amount (whole (or_zero x)))) (given (flat_map node_gift (numbered node_said (suc k) xs)) (decimal (k + 0))))
    (ap (λ (m : ℕ). bytes_eq (decimal (k + 0)) (decimal m)) (let e : k ≡ k + 0 = omega arith in e) ∙ eq-self (decimal (k + 0)))
given-node k (x ∷ xs) (suc i) within few =
    ap (λ (c : Bool). cond c (Some (supply.Amount (whole (or_zero x)))) (given (flat_map node_gift (numbered node_said (suc k) xs)) (decimal (k + suc i))))
    (other-number (k + suc i) k (omega arith) (omega arith) (λ e. absurd (omega (arith, e))))
    ∙ ap (λ (m : ℕ). given (flat_map node_gift (numbered node_said (suc k) xs)) (decimal m)) (let e : k + suc i ≡ suc k + i = omega arith in e)
    ∙ given-node (suc k) xs i (omega arith) (omega arith)

pub no-gifts : (k : ℕ) (arcs : List Arc) → gifts (numbered arc_said k arcs) ≡ []
unfolding numbered
no-gifts k [] = refl
no-gifts k (a ∷ arcs) = no-gifts (suc k) arcs

pub by-node-at : (ss : List Supply) (n i : ℕ) → i < n → get_or (by_node ss n) i None ≡ flow_of ss (pos (suc i))
unfolding by_node
by-node-at ss zero i within = absurd (omega arith)
by-node-at ss (suc n) i within = elim (cases_eq i n) [ inl e ↦ last e | inr e ↦ before e (by-node-at ss n i (omega (arith, e))) ]
  where
    last : i ≡ n → get_or (by_node ss n ++ flow_of ss (pos (suc n)) ∷ []) i None ≡ flow_of ss (pos (suc i))
    last e = get_or_push (by_node ss n) (flow_of ss (pos (suc n))) None i (length-by-node ss n ∙ sym e) ∙ ap (λ m. flow_of ss (pos (suc m))) (sym e)

    before : (i ≡ n → ⊥) → get_or (by_node ss n) i None ≡ flow_of ss (pos (suc i)) → get_or (by_node ss n ++ flow_of ss (pos (suc n)) ∷ []) i None ≡ flow_of ss (pos (suc i))
    before e earlier = get_or_append_left (by_node ss n) (flow_of ss (pos (suc n)) ∷ []) None i (omega (arith, length-by-node ss n)) ∙ earlier

-- without options that name nodes all gifts are those of the rows
pub all-own : (o : ProcOptions) (before own : List Gift) → before ≡ [] → NameNoNode o → ((before ++ own) ++ option_gift o.source o.supply) ++ option_gift o.sink (negated o.demand) ≡ own
all-own o before own none no_node =
    (λ j. ((none j ++ own) ++ option_gift (no_node.source j) o.supply) ++ option_gift (no_node.sink j) (negated o.demand))
    ∙ ap (λ (gs : List Gift). gs ++ []) (append-nil own) ∙ append-nil own

pub give-nodes : GiveNodes
give-nodes text t o node tables no_node some within =
    let ss : List Supply = supplies_of (said_by text) in
    let n : ℕ = nodes_in (size_of (said_by text)) in
    let xs : List (Option ℤ) = by_node ss n in
    let i : ℕ = node - 1 in
    let inside : i < length xs = omega (arith, length-by-node ss n) in
    let few : 1 + length xs ≤ 1_000_000_000 = omega (arith, length-by-node ss n, few-nodes (lines_of text)) in
    let number : node ≡ 1 + i = omega arith in
    let next : suc i ≡ node = omega arith in
    let arcs : List ArcRow = arc_rows arc_roles t.arcs.rows in
    let nodes : List NodeRow = node_rows node_roles t.nodes.rows in
    let rows : nodes ≡ numbered node_said 1 xs = nodes-say text t tables in
    let none : gifts arcs ≡ [] = ap gifts (arcs-say text t tables) ∙ no-gifts 1 (arcs_of (said_by text)) in
    let own : gifts_to o arcs nodes ≡ flat_map node_gift nodes = all-own o (gifts arcs) (flat_map node_gift nodes) none no_node in
    record {
      named = has-seen (decimal node) (ends arcs ++ map node_name nodes) (has-behind (decimal node) (ends arcs) (map node_name nodes)
          (ap (λ (ns : List NodeRow). has_name (decimal node) (map node_name ns)) rows
          ∙ ap (λ (m : ℕ). has_name (decimal m) (map node_name (numbered node_said 1 xs))) number
          ∙ has-node 1 xs i inside));
      value = ap (λ (gs : List Gift). given gs (decimal node)) own
          ∙ ap (λ (ns : List NodeRow). given (flat_map node_gift ns) (decimal node)) rows
          ∙ ap (λ (m : ℕ). given (flat_map node_gift (numbered node_said 1 xs)) (decimal m)) number
          ∙ given-node 1 xs i inside few
          ∙ ap (λ (g : Option ℤ). Some (supply.Amount (whole (or_zero g)))) (by-node-at ss n i (omega (arith, length-by-node ss n)) ∙ ap (λ (m : ℕ). flow_of ss (pos m)) next);
    }
