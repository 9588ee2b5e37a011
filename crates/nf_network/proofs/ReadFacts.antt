-- Reading the data: the faults that are told, and what both tables and the options leave.
use Rattle.std.proofs.Common.{◌≡◌, ◌++◌, ◌⊎◌, ℕ, List, Option, Some, None, map, refl, sym, ap, ◌∙◌, inl, inr}
use Rattle.std.specs.Prelude.{codes}
use Rattle.nf_table.specs.Grid.{Cells, Grid}
use Rattle.nf_cells.specs.Names.{Name}
use Rattle.nf_program.specs.declared.program.ProcOptions.{ProcOptions}
use Rattle.nf_program.specs.declared.program.SetName.{SetName}
use Rattle.nf_program.specs.declared.program.SetName.TheVariants as set
use Rattle.nf_roles.specs.declared.fault.CellFault.{CellFault}
use Rattle.nf_roles.specs.declared.fault.DataFault.{DataFault}
use Rattle.nf_roles.specs.declared.fault.DataKind.TheVariants as kind
use Rattle.nf_roles.specs.Faults.{out_of_memory}
use Rattle.nf_roles.specs.First.{or_else}
use Rattle.nf_roles.specs.Roles.{RoleColumns, column_text}
use Rattle.nf_roles.proofs.Lists.{none-yet}
use Rattle.nf_network.specs.declared.rows.Defaults.{Defaults}
use Rattle.nf_network.specs.declared.rows.Figures.{Figures}
use Rattle.nf_network.specs.Rows.{ArcRow, NodeRow, arc_rows, node_rows}
use Rattle.nf_network.specs.Arcs.{ends}
use Rattle.nf_network.specs.Faults.{first_arc_fault}
use Rattle.nf_network.specs.NodeData.{all_gifts, all_nodes, first_node_fault, first_option_fault, negated, node_name, option_faults, sink_gift, source_gift}
use Rattle.nf_network.specs.Nodes.{NodeList}
use Rattle.nf_network.specs.Keys.{Key}
use Rattle.nf_network.specs.Pass.{Stands}
use Rattle.nf_network.specs.NodePass.{IsRead}
use Rattle.nf_network.specs.OptionPass.{option_fault_now, option_given, options_fault_now, options_given}
use Rattle.nf_network.specs.Network.{defaults_of, first_fault, in_set, no_table}
use Rattle.nf_network.specs.Whole.{IsWhole, rows_fault}
use Rattle.nf_network.proofs.OptionFacts.{option-same, option-stands}

-- ---- faults
first : {A : Type 0} (a b : Option A) → or_else a b ≡ None → a ≡ None
first None b h = refl
first (Some x) b h = absurd (cc)

second : {A : Type 0} (a b : Option A) → or_else a b ≡ None → b ≡ None
second None b h = h
second (Some x) b h = absurd (cc)

assoc : {A : Type 0} (a b c : Option A) → or_else a (or_else b c) ≡ or_else (or_else a b) c
assoc None b c = refl
assoc (Some x) b c = refl

same-after : {A : Type 0} (a b c : Option A) → (a ≡ None → b ≡ c) → or_else a b ≡ or_else a c
same-after None b c h = h refl
same-after (Some x) b c h = refl

-- a fault of a cell is told by its set, row and column
pub told : (s : SetName) (roles : RoleColumns) (header : Cells) (n : ℕ) (f : CellFault) (e : DataFault) (due : Option (ℕ × CellFault)) → (f.kind ≡ kind.NoMemory) ⊎ (due ≡ Some (n, f))
    → (e ≡ out_of_memory) ⊎ (e ≡ record { set = s; row = n; column = column_text roles header f.role; kind = f.kind }) → (f.kind ≡ kind.NoMemory → e ≡ out_of_memory) → (e ≡ out_of_memory) ⊎ (in_set s roles header due ≡ Some e)
told s roles header n f e due (inl m) is memory = inl (memory m)
told s roles header n f e due (inr d) (inl m) memory = inl m
told s roles header n f e due (inr d) (inr is) memory = inr (rw d (ap Some (sym is)))

module _ (d : Defaults) (arc_roles : RoleColumns) (arcs : Grid) (node_roles : RoleColumns) (nodes : Grid) where
  pub rows-arc : (e : DataFault) → (e ≡ out_of_memory) ⊎ (in_set set.Arcdata arc_roles arcs.header (first_arc_fault d (arc_rows arc_roles arcs.rows)) ≡ Some e)
      → (e ≡ out_of_memory) ⊎ (rows_fault d arc_roles arcs node_roles nodes ≡ Some e)
  rows-arc e (inl m) = inl m
  rows-arc e (inr h) = inr (rw h refl)

  pub rows-node : (e : DataFault) → first_arc_fault d (arc_rows arc_roles arcs.rows) ≡ None
      → (e ≡ out_of_memory) ⊎ (in_set set.Nodedata node_roles nodes.header (first_node_fault (arc_rows arc_roles arcs.rows) (node_rows node_roles nodes.rows)) ≡ Some e)
      → (e ≡ out_of_memory) ⊎ (rows_fault d arc_roles arcs node_roles nodes ≡ Some e)
  rows-node e a (inl m) = inl m
  rows-node e a (inr h) = inr (rw a h)

  pub rows-clear : first_arc_fault d (arc_rows arc_roles arcs.rows) ≡ None → first_node_fault (arc_rows arc_roles arcs.rows) (node_rows node_roles nodes.rows) ≡ None
      → rows_fault d arc_roles arcs node_roles nodes ≡ None
  rows-clear a n = rw (a, n) refl

-- without NODEDATA
pub alone-clear : (d : Defaults) (arc_roles : RoleColumns) (arcs : Grid) (node_roles : RoleColumns) → first_arc_fault d (arc_rows arc_roles arcs.rows) ≡ None → rows_fault d arc_roles arcs node_roles no_table ≡ None
alone-clear d arc_roles arcs node_roles a = rows-clear d arc_roles arcs node_roles no_table a (none-yet _)

-- ---- the options
module _ (o : ProcOptions) (arcs : List ArcRow) (nodes : List NodeRow) (ns : NodeList) (ks : List Key) (fs : List Figures) (s : IsRead (defaults_of o) arcs nodes ns ks fs) where
  named : List Name
  named = ends arcs ++ map node_name nodes

  source-fault : Option DataFault
  source-fault = option_fault_now ns (codes "SOURCE") o.source o.supply

  stands1 : option_fault_now ns (codes "SOURCE") o.source o.supply ≡ None
      → Stands (option_given ns o.source o.supply) (ends arcs ++ map node_name nodes) (all_gifts arcs nodes ++ source_gift o)
  stands1 h = option-stands ns (ends arcs ++ map node_name nodes) (all_gifts arcs nodes) s.nodes (codes "SOURCE") o.source o.supply h

  stands2 : options_fault_now ns o ≡ None → Stands (options_given ns o) (ends arcs ++ map node_name nodes) ((all_gifts arcs nodes ++ source_gift o) ++ sink_gift o)
  stands2 h = option-stands (option_given ns o.source o.supply) (ends arcs ++ map node_name nodes) (all_gifts arcs nodes ++ source_gift o) (stands1 (first _ _ h)) (codes "SINK") o.sink (negated o.demand) (second _ _ h)

  sink-same : option_fault_now ns (codes "SOURCE") o.source o.supply ≡ None
      → option_fault_now (option_given ns o.source o.supply) (codes "SINK") o.sink (negated o.demand)
      ≡ option_faults (all_nodes arcs nodes) (codes "SINK") o.sink (all_gifts arcs nodes ++ source_gift o) (sink_gift o)
  sink-same h =
      option-same (option_given ns o.source o.supply) (ends arcs ++ map node_name nodes) (all_gifts arcs nodes ++ source_gift o) (stands1 h) (codes "SINK") o.sink (negated o.demand)
      ∙ ap (λ names. option_faults names (codes "SINK") o.sink (all_gifts arcs nodes ++ source_gift o) (sink_gift o)) (stands1 h).names

  -- the options' faults are the same, by the nodes so far and by the gifts
  pub options-same : options_fault_now ns o ≡ first_option_fault o arcs nodes
  options-same =
      same-after (option_fault_now ns (codes "SOURCE") o.source o.supply) _ _ sink-same
      ∙ ap (λ f. or_else f (option_faults (all_nodes arcs nodes) (codes "SINK") o.sink (all_gifts arcs nodes ++ source_gift o) (sink_gift o)))
      (option-same ns (ends arcs ++ map node_name nodes) (all_gifts arcs nodes) s.nodes (codes "SOURCE") o.source o.supply
      ∙ ap (λ names. option_faults names (codes "SOURCE") o.source (all_gifts arcs nodes) (source_gift o)) s.nodes.names)

  -- what the options leave
  pub options-whole : options_fault_now ns o ≡ None → IsWhole o arcs nodes (options_given ns o) ks fs
  options-whole h =
      let t = stands2 h in
      let same : (options_given ns o).names ≡ ns.names = t.names ∙ sym s.nodes.names in
      record {
        names = t.names;
        given_each = rw t.names at t.given_each;
        keys = rw same s.keys;
        figures = s.figures;
        named = rw same s.named;
      }

module _ (o : ProcOptions) (arc_roles : RoleColumns) (arcs : Grid) (node_roles : RoleColumns) (nodes : Grid) where
  pub rows-told : (e : DataFault) → rows_fault (defaults_of o) arc_roles arcs node_roles nodes ≡ Some e → first_fault o arc_roles arcs node_roles nodes ≡ Some e
  rows-told e h = assoc (in_set set.Arcdata arc_roles arcs.header (first_arc_fault (defaults_of o) (arc_rows arc_roles arcs.rows)))
      (in_set set.Nodedata node_roles nodes.header (first_node_fault (arc_rows arc_roles arcs.rows) (node_rows node_roles nodes.rows))) (first_option_fault o (arc_rows arc_roles arcs.rows) (node_rows node_roles nodes.rows)) ∙ rw h refl

  after-rows : rows_fault (defaults_of o) arc_roles arcs node_roles nodes ≡ None → first_fault o arc_roles arcs node_roles nodes ≡ first_option_fault o (arc_rows arc_roles arcs.rows) (node_rows node_roles nodes.rows)
  after-rows h = assoc (in_set set.Arcdata arc_roles arcs.header (first_arc_fault (defaults_of o) (arc_rows arc_roles arcs.rows)))
      (in_set set.Nodedata node_roles nodes.header (first_node_fault (arc_rows arc_roles arcs.rows) (node_rows node_roles nodes.rows))) (first_option_fault o (arc_rows arc_roles arcs.rows) (node_rows node_roles nodes.rows)) ∙ rw h refl

  module _ (clear : rows_fault (defaults_of o) arc_roles arcs node_roles nodes ≡ None) (ns : NodeList) (ks : List Key) (fs : List Figures)
      (s : IsRead (defaults_of o) (arc_rows arc_roles arcs.rows) (node_rows node_roles nodes.rows) ns ks fs) where
    pub options-told : (e : DataFault) → options_fault_now ns o ≡ Some e → first_fault o arc_roles arcs node_roles nodes ≡ Some e
    options-told e h = after-rows clear ∙ sym (options-same o (arc_rows arc_roles arcs.rows) (node_rows node_roles nodes.rows) ns ks fs s) ∙ h

    pub all-clear : options_fault_now ns o ≡ None → first_fault o arc_roles arcs node_roles nodes ≡ None
    all-clear h = after-rows clear ∙ sym (options-same o (arc_rows arc_roles arcs.rows) (node_rows node_roles nodes.rows) ns ks fs s) ∙ h
