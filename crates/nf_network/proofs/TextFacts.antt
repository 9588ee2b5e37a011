-- The labels of the network are of its program: all are UTF-8, and no two ID headers are the same.
use Rattle.std.proofs.Common.{◌≡◌, ◌<◌, ◌++◌, ◌∷◌, ℕ, suc, Bool, true, false, cond, List, [], Option, Some, None, Ok, length, map, get_or, codes, refl, subst, arith}
use Rattle.std.specs.List.{All, flat_map}
use Rattle.std.specs.Str.{IsUtf8, str_eq_ignore_ascii_case, str_to_ascii_lowercase}
use Rattle.std.proofs.lemmas.List.{get_or-map, length-map}
use Rattle.std.proofs.lemmas.List.Elements.{All-append, All-cons, All-from_get_or, All-map, All-nil, All-weaker}
use Rattle.nf_frac.specs.Amounts.{amount_value}
use Rattle.nf_frac.specs.Texts.{frac_text}
use Rattle.nf_num.specs.Rational.{zero_ℚ}
use Rattle.nf_labels.specs.Labels.{AreLabelsOf, AreNumbered, NodeText}
use Rattle.nf_table.specs.Grid.{Cells, Grid, HasOwnNames, IsText}
use Rattle.nf_cells.specs.Names.{Name}
use Rattle.nf_cells.specs.declared.values.Supply.{Supply}
use Rattle.nf_cells.specs.declared.values.Supply.TheVariants as supply
use Rattle.nf_cells.proofs.SeenFacts.{differs-sym}
use Rattle.nf_program.specs.declared.program.ProcOptions.{ProcOptions}
use Rattle.nf_program.specs.declared.program.Role.TheVariants as role
use Rattle.nf_roles.specs.declared.fault.DataFault.{DataFault}
use Rattle.nf_roles.specs.Roles.{AreFromLeft, RoleColumns, cell_for}
use Rattle.nf_network.specs.declared.excess.Balance.{Balance}
use Rattle.nf_network.specs.Rows.{arc_row, arc_rows, node_row, node_rows}
use Rattle.nf_network.specs.Arcs.{arc_name, ends, ends_of, head_of, tail_of}
use Rattle.nf_network.specs.Excess.{balance_of, gets, has_excess, sends}
use Rattle.nf_network.specs.Faults.{excess}
use Rattle.nf_network.specs.NodeData.{all_nodes, node_name}
use Rattle.nf_network.specs.Network.{Network, cells_at, excess_names, excess_names_at, excess_value, first_fault, if_excess, network_due, network_of, node_text_at, node_texts, supdem_text, unless_fault, values}
use Rattle.nf_network.proofs.AsciiFacts.{IsPlain, all-flat, all-joined, all-seen, plain-append, plain-at, plain-cons, plain-frac, plain-name, plain-nil, plain-said, plain-utf8, two-all}

-- ---- names of rows
ends-plain : (roles : RoleColumns) (rows : List Cells) → All IsPlain (ends (arc_rows roles rows))
ends-plain roles rows = all-flat IsPlain ends_of (arc_rows roles rows) (All-map (λ r. All IsPlain (ends_of r)) (arc_row roles) rows (λ i d below. two (get_or rows i d)))
  where
    two : (cells : Cells) → All IsPlain (ends_of (arc_row roles cells))
    two cells =
        All-cons IsPlain (tail_of (arc_row roles cells)) (head_of (arc_row roles cells) ∷ []) (plain-said [] (cell_for roles role.TailNode cells) plain-nil)
        (All-cons IsPlain (head_of (arc_row roles cells)) [] (plain-said [] (cell_for roles role.HeadNode cells) plain-nil) (All-nil IsPlain))

nodes-plain : (roles : RoleColumns) (rows : List Cells) (node_roles : RoleColumns) (nodes : List Cells) → All IsPlain (all_nodes (arc_rows roles rows) (node_rows node_roles nodes))
nodes-plain roles rows node_roles nodes =
    all-seen IsPlain (ends (arc_rows roles rows) ++ map node_name (node_rows node_roles nodes))
    (All-append IsPlain (ends (arc_rows roles rows)) (map node_name (node_rows node_roles nodes)) (ends-plain roles rows)
    (All-map IsPlain node_name (node_rows node_roles nodes)
    (All-map (λ r. IsPlain (node_name r)) (node_row node_roles) nodes (λ i d below. plain-said [] (cell_for node_roles role.Node (get_or nodes i d)) plain-nil))))

arcs-plain : (roles : RoleColumns) (rows : List Cells) → All IsPlain (map arc_name (arc_rows roles rows))
arcs-plain roles rows = All-map IsPlain arc_name (arc_rows roles rows) (All-map (λ r. IsPlain (arc_name r)) (arc_row roles) rows (λ i d below. one (get_or rows i d)))
  where
    one : (cells : Cells) → IsPlain (arc_name (arc_row roles cells))
    one cells =
        plain-said (tail_of (arc_row roles cells) ++ 95 ∷ head_of (arc_row roles cells)) (cell_for roles role.ArcName cells)
        (plain-append (tail_of (arc_row roles cells)) (95 ∷ head_of (arc_row roles cells)) (plain-said [] (cell_for roles role.TailNode cells) plain-nil)
        (plain-cons 95 (head_of (arc_row roles cells)) (omega arith) (plain-said [] (cell_for roles role.HeadNode cells) plain-nil)))

-- ---- nodes
excess-plain : IsPlain excess
excess-plain = plain-name excess refl

supdem-plain : (v : Option Supply) → IsPlain (supdem_text v)
supdem-plain None = plain-frac zero_ℚ
supdem-plain (Some (supply.Amount a)) = plain-frac (amount_value a)
supdem-plain (Some supply.OpenSupply) = plain-name (codes ".S") refl
supdem-plain (Some supply.OpenDemand) = plain-name (codes ".D") refl

abbrev IsNodeText : NodeText → Type 0
IsNodeText n = IsUtf8 n.name × IsUtf8 n.supdem

if-all : {A : Type 0} (P : A → Type 0) (b : Balance) (vs : List (Option Supply)) (x : A) → P x → All P (if_excess b vs x)
if-all {A = A} P b vs x h = by_test (has_excess b vs)
  where
    by_test : (t : Bool) → All P (cond {A = List A} t (x ∷ []) [])
    by_test true = All-cons P x [] h (All-nil P)
    by_test false = All-nil P

nodes-text : (b : Balance) (names : List Name) (vs : List (Option Supply)) → All IsPlain names
    → All IsNodeText (node_texts names vs ++ if_excess b vs (record { name = excess; supdem = frac_text (excess_value b) }))
nodes-text b names vs h =
    All-append IsNodeText (node_texts names vs) (if_excess b vs (record { name = excess; supdem = frac_text (excess_value b) }))
    (all-joined IsNodeText (length names) (node_text_at names vs)
    (λ k below. All-cons IsNodeText (record { name = get_or names k []; supdem = supdem_text (get_or vs k None) }) []
    (plain-utf8 (get_or names k []) (plain-at names k h), plain-utf8 (supdem_text (get_or vs k None)) (supdem-plain (get_or vs k None))) (All-nil IsNodeText)))
    (if-all IsNodeText b vs (record { name = excess; supdem = frac_text (excess_value b) }) (plain-utf8 excess excess-plain, plain-utf8 (frac_text (excess_value b)) (plain-frac (excess_value b))))

-- ---- columns
columns-plain : (b : Balance) (names : List Name) (vs : List (Option Supply)) (arcs : List Name) → All IsPlain names → All IsPlain arcs → All IsPlain (arcs ++ excess_names b names vs)
columns-plain b names vs arcs h k =
    All-append IsPlain arcs (excess_names b names vs) k
    (all-joined IsPlain (length vs) (excess_names_at b names vs)
    (λ i below. two-all IsPlain (sends b (get_or vs i None)) (gets b (get_or vs i None)) (get_or names i [] ++ 95 ∷ excess) (excess ++ 95 ∷ get_or names i [])
    (plain-append (get_or names i []) (95 ∷ excess) (plain-at names i h) (plain-cons 95 excess (omega arith) excess-plain))
    (plain-append excess (95 ∷ get_or names i []) excess-plain (plain-cons 95 (get_or names i []) (omega arith) (plain-at names i h)))))

-- ---- ID columns
headers-text : (ids : List ℕ) (table : Grid) → IsText table → All IsUtf8 (cells_at ids table.header)
headers-text ids table h = All-map IsUtf8 (λ c. get_or table.header c []) ids (λ i d below. h 0 (get_or ids i d))

ids-text : (ids : List ℕ) (table : Grid) → IsText table → All IsUtf8 (flat_map (cells_at ids) table.rows)
ids-text ids table h =
    all-flat IsUtf8 (cells_at ids) table.rows
    (All-from_get_or (λ r. All IsUtf8 (cells_at ids r)) table.rows [] (λ r below. All-map IsUtf8 (λ c. get_or (get_or table.rows r []) c []) ids (λ i d within. h (suc r) (get_or ids i d))))

headers-apart : (ids : List ℕ) (header : Cells) → HasOwnNames header → All (λ c. c < length header) ids → AreFromLeft ids
    → (b c : ℕ) → b < c → c < length (cells_at ids header) → str_eq_ignore_ascii_case (get_or (cells_at ids header) b []) (get_or (cells_at ids header) c []) ≡ false
headers-apart ids header own below left b c before within =
    let size : length (cells_at ids header) ≡ length ids = length-map ids (λ k. get_or header k []) in
    let inside : c < length ids = omega (arith, size, within) in
    let first = get_or-map (λ k. get_or header k []) ids b 0 [] (omega (arith, before, inside)) in
    let second = get_or-map (λ k. get_or header k []) ids c 0 [] inside in
    rw (first, second)
    (differs-sym (str_to_ascii_lowercase (get_or header (get_or ids c 0) [])) (str_to_ascii_lowercase (get_or header (get_or ids b 0) []))
    (own (get_or ids b 0) (get_or ids c 0) (left b c 0 before inside) (below c 0 inside)))

-- ---- the labels
-- What the table of arcs and the ID columns keep.
pub record HasOwnIds (roles : RoleColumns) (table : Grid) : Type 0 where
  pub text : IsText table
  pub own : HasOwnNames table.header
  pub below : All (λ c. c < length table.header) roles.ids
  pub left : AreFromLeft roles.ids

unless-none : (f : Option DataFault) (m n : Network) → unless_fault f m ≡ Ok n → m ≡ n
unless-none None m n h = cc
unless-none (Some f) m n h = absurd (cc)

pub labels-due : (o : ProcOptions) (roles : RoleColumns) (table : Grid) (node_roles : RoleColumns) (nodes : Grid) (n : Network)
    → network_due o roles table node_roles nodes ≡ Ok n → AreNumbered n.labels n.program → HasOwnIds roles table → AreLabelsOf n.labels n.program
unfolding network_due
labels-due o roles table node_roles nodes n due numbered own =
    let vs = values o (arc_rows roles table.rows) (node_rows node_roles nodes.rows) in
    let names = all_nodes (arc_rows roles table.rows) (node_rows node_roles nodes.rows) in
    let arcs = map arc_name (arc_rows roles table.rows) in
    let plain = nodes-plain roles table.rows node_roles nodes.rows in
    subst (λ (m : Network). AreNumbered m.labels m.program → AreLabelsOf m.labels m.program)
    (unless-none (first_fault o roles table node_roles nodes) (network_of o (arc_rows roles table.rows) (node_rows node_roles nodes.rows) roles.ids table) n due)
    (λ all. record {
      numbered = all;
      own_headers = headers-apart roles.ids table.header own.own own.below own.left;
      node_texts = nodes-text (balance_of o.thrunet vs) names vs plain;
      column_texts = All-weaker IsPlain IsUtf8 plain-utf8 (arcs ++ excess_names (balance_of o.thrunet vs) names vs) (columns-plain (balance_of o.thrunet vs) names vs arcs plain (arcs-plain roles table.rows));
      constraint_texts = All-nil IsUtf8;
      header_texts = headers-text roles.ids table own.text;
      id_texts = ids-text roles.ids table own.text;
    })
    numbered
