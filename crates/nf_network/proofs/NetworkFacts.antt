-- What was read is sound, and what is made of it is the network of the rows.
use Rattle.std.proofs.Common.{◌≡◌, ◌<◌, ℕ, List, [], ◌∷◌, Option, Some, None, Ok, Err, length, map, take, get_or, refl, sym, ap, ◌∙◌, arith}
use Rattle.std.proofs.lemmas.List.{get_or-map, take_all}
use Rattle.std.proofs.lemmas.List.Elements.{All-cons, All-from_get_or, All-map, All-nil}
use Rattle.std.specs.List.{All}
use Rattle.nf_table.specs.Grid.{Grid}
use Rattle.nf_cells.specs.Names.{Name}
use Rattle.nf_cells.proofs.SeenFacts.{place-less}
use Rattle.nf_program.specs.declared.program.ProcOptions.{ProcOptions}
use Rattle.nf_program.specs.declared.program.SetName.TheVariants as set
use Rattle.nf_roles.specs.declared.fault.DataFault.{DataFault}
use Rattle.nf_roles.specs.First.{or_else}
use Rattle.nf_roles.specs.Roles.{RoleColumns}
use Rattle.nf_network.specs.declared.rows.Figures.{Figures}
use Rattle.nf_network.specs.Rows.{ArcRow, arc_rows, node_rows}
use Rattle.nf_network.specs.Arcs.{arc_name, figures_of, given}
use Rattle.nf_network.specs.Excess.{joined_below}
use Rattle.nf_network.specs.Faults.{empty_row, first_arc_fault}
use Rattle.nf_network.specs.NodeData.{all_nodes, first_node_fault, gifts_to}
use Rattle.nf_network.specs.Nodes.{NodeList}
use Rattle.nf_network.specs.Keys.{Key, key_in, no_key}
use Rattle.nf_network.specs.Making.{AreSound, HasEndsBelow, IsInOrder, column_at, column_made, name_at, no_figures}
use Rattle.nf_network.specs.Pass.{AreNamed}
use Rattle.nf_network.specs.Network.{arc_column, defaults_of, first_fault, in_set, labels_of, network_due, program_of}
use Rattle.nf_network.specs.Whole.{IsWhole}
use Rattle.nf_network.proofs.LimitFacts.{few-arcs, few-nodes, rows-in-order}
use Rattle.nf_network.proofs.Lists.{joined-map}
use Rattle.nf_network.proofs.PassFacts.{map-length}

first : {A : Type 0} (a b : Option A) → or_else a b ≡ None → a ≡ None
first None b h = refl
first (Some x) b h = absurd (cc)

second : {A : Type 0} (a b : Option A) → or_else a b ≡ None → b ≡ None
second None b h = h
second (Some x) b h = absurd (cc)

no-fault : (s : _) (roles : RoleColumns) (header : _) (f : _) → in_set s roles header f ≡ None → f ≡ None
no-fault s roles header None h = refl
no-fault s roles header (Some f) h = absurd (cc)

ends-below : (names : List Name) (qs : List ArcRow) → AreNamed names qs → All (HasEndsBelow (length names)) (map (key_in names) qs)
ends-below names [] a = All-nil (HasEndsBelow (length names))
ends-below names (q ∷ qs) a =
    All-cons (HasEndsBelow (length names)) (key_in names q) (map (key_in names) qs) (place-less _ names a.0, place-less _ names a.1.0) (ends-below names qs a.1.1)

module _ (o : ProcOptions) (roles : RoleColumns) (table : Grid) (node_roles : RoleColumns) (nodes : Grid) (ns : NodeList) (ks : List Key) (fs : List Figures)
    (clear : first_fault o roles table node_roles nodes ≡ None) (w : IsWhole o (arc_rows roles table.rows) (node_rows node_roles nodes.rows) ns ks fs) where
  arcs : List ArcRow
  arcs = arc_rows roles table.rows

  arcs-clear : first_arc_fault (defaults_of o) (arc_rows roles table.rows) ≡ None
  arcs-clear = no-fault set.Arcdata roles table.header _ (first _ _ clear)

  nodes-clear : first_node_fault (arc_rows roles table.rows) (node_rows node_roles nodes.rows) ≡ None
  nodes-clear = no-fault set.Nodedata node_roles nodes.header _ (first _ _ (second _ _ clear))

  pub keys-length : length ks ≡ length (arc_rows roles table.rows)
  keys-length = ap length w.keys ∙ map-length (key_in ns.names) (arc_rows roles table.rows)

  figures-length : length fs ≡ length (arc_rows roles table.rows)
  figures-length = ap length w.figures ∙ map-length (figures_of (defaults_of o)) (arc_rows roles table.rows)

  pub even : length ns.given ≡ length ns.names
  even = ap length w.given_each ∙ map-length (given (gifts_to o (arc_rows roles table.rows) (node_rows node_roles nodes.rows))) (all_nodes (arc_rows roles table.rows) (node_rows node_roles nodes.rows))
      ∙ ap length (sym w.names)

  -- what was read can be made a problem
  pub sound : AreSound ns ks fs
  sound = record {
    even = record { same_length = even };
    few_nodes = rw w.names (few-nodes (defaults_of o) (arc_rows roles table.rows) (node_rows node_roles nodes.rows) arcs-clear nodes-clear);
    few_arcs = rw keys-length (few-arcs (defaults_of o) (arc_rows roles table.rows) arcs-clear);
    one_each = figures-length ∙ sym keys-length;
    ends = rw w.keys (ends-below ns.names (arc_rows roles table.rows) w.named);
    in_order = rw w.figures (All-map IsInOrder (figures_of (defaults_of o)) (arc_rows roles table.rows)
        (All-from_get_or (λ r. IsInOrder (figures_of (defaults_of o) r)) (arc_rows roles table.rows) empty_row (λ k below. rows-in-order (defaults_of o) (arc_rows roles table.rows) k arcs-clear below)));
  }

  key-at : (k : ℕ) → k < length (arc_rows roles table.rows) → get_or ks k no_key ≡ key_in ns.names (get_or (arc_rows roles table.rows) k empty_row)
  key-at k below = ap (λ l. get_or l k no_key) w.keys ∙ get_or-map (key_in ns.names) (arc_rows roles table.rows) k empty_row no_key below

  figures-at : (k : ℕ) → k < length (arc_rows roles table.rows) → get_or fs k no_figures ≡ figures_of (defaults_of o) (get_or (arc_rows roles table.rows) k empty_row)
  figures-at k below = ap (λ l. get_or l k no_figures) w.figures ∙ get_or-map (figures_of (defaults_of o)) (arc_rows roles table.rows) k empty_row no_figures below

  whole : take (length ks) (arc_rows roles table.rows) ≡ arc_rows roles table.rows
  whole = take_all (length ks) (arc_rows roles table.rows) (omega (arith, keys-length))

  -- the columns that are made are those of the rows
  pub columns-are : joined_below (length ks) (column_at o.maximize ks fs) ≡ map (arc_column o ns.names) (arc_rows roles table.rows)
  columns-are =
      joined-map (arc_column o ns.names) (λ k. column_made o.maximize (get_or ks k no_key) (get_or fs k no_figures)) (arc_rows roles table.rows) empty_row (length ks) (omega (arith, keys-length))
      (λ k below. rw (key-at k below, figures-at k below) refl)
      ∙ ap (map (arc_column o ns.names)) whole

  -- and so are their names
  pub names-are : joined_below (length ks) (name_at ks) ≡ map arc_name (arc_rows roles table.rows)
  names-are =
      joined-map arc_name (λ k. (get_or ks k no_key).name) (arc_rows roles table.rows) empty_row (length ks) (omega (arith, keys-length)) (λ k below. rw (key-at k below) refl)
      ∙ ap (map arc_name) whole

  -- the network that is due
  pub network-is : network_due o roles table node_roles nodes ≡ Ok (record {
    program = program_of o (joined_below (length ks) (column_at o.maximize ks fs)) ns.given;
    labels = labels_of o.thrunet ns.names ns.given (joined_below (length ks) (name_at ks)) roles.ids table;
  })
  unfolding network_due
  network-is = rw (clear, columns-are, names-are, w.given_each, w.names) refl

-- the fault that is due
pub fault-is : (o : ProcOptions) (roles : RoleColumns) (table : Grid) (node_roles : RoleColumns) (nodes : Grid) (f : DataFault)
    → first_fault o roles table node_roles nodes ≡ Some f → network_due o roles table node_roles nodes ≡ Err f
unfolding network_due
fault-is o roles table node_roles nodes f h = rw h refl
