-- The network with constraints is the one that is due.
use Rattle.std.proofs.Common.{◌≡◌, ◌⊎◌, ◌≤◌, List, None, Ok, Err, length, map, refl, inl, inr, arith}
use Rattle.std.proofs.lemmas.List.{length-append, length-take-le}
use Rattle.std.proofs.lemmas.List.FromFn.{length-map-range_with_len}
use Rattle.nf_labels.specs.Labels.{AreNumbered, LabelList}
use Rattle.nf_table.specs.Grid.{Grid}
use Rattle.nf_cells.specs.Names.{Name}
use Rattle.nf_program.specs.declared.program.ProcOptions.{ProcOptions}
use Rattle.nf_roles.specs.declared.fault.DataFault.{DataFault}
use Rattle.nf_roles.specs.declared.fault.DataKind.TheVariants as kind
use Rattle.nf_roles.specs.Faults.{out_of_memory}
use Rattle.nf_roles.specs.Roles.{RoleColumns}
use Rattle.nf_network.specs.Network.{Network}
use Rattle.nf_network.proofs.PassFacts.{map-length}
use Rattle.nf_cons.specs.declared.places.RowFault.{RowFault}
use Rattle.nf_cons.specs.declared.taken.SideRow.{SideRow}
use Rattle.nf_cons.specs.Bounds.{bound_fault_at, nonarc_defaults}
use Rattle.nf_cons.specs.Constrained.{column_with, constrained_labels, constrained_program, nonarc_column_at, side_name, side_row, with_columns, with_rows}
use Rattle.nf_cons.specs.Dense.{first_header_fault, first_row_fault, mentions}
use Rattle.nf_cons.specs.Due.{bounds_fault, dense_constraints, dense_due, dense_fault, dense_of}
use Rattle.nf_cons.specs.Making.{AreConstraints, AreInOrder, IsPlain}
use Rattle.nf_cons.specs.Naming.{VariableList}
use Rattle.nf_cons.specs.Places.{IsRowFaultOf, told}
use Rattle.nf_cons.specs.Terms.{TermLists}
use Rattle.nf_cons.specs.Variables.{Mention, arcs_of, homes, home_in, nonarcs}
use Rattle.nf_cons.proofs.BoundFacts.{not-crossed}
use Rattle.nf_cons.proofs.FaultFacts.{none-at, or-second}
use Rattle.nf_cons.proofs.MakingFacts.{nonarcs-length}
use Rattle.nf_network.specs.Excess.{joined_below}

-- The arcs of labels are as many as they say.
pub arcs-number : (l : LabelList) → l.own_arcs ≤ length l.columns → length (arcs_of l) ≡ l.own_arcs
arcs-number l h = length-take-le l.own_arcs l.columns h

-- ---- faults
pub dense-told : (o : ProcOptions) (n : Network) (roles : RoleColumns) (table : Grid) (f : RowFault) (e : DataFault) → IsRowFaultOf (dense_fault o (arcs_of n.labels) roles table) f
    → (e ≡ out_of_memory) ⊎ (e ≡ told roles table.header f) → (f.fault.kind ≡ kind.NoMemory → e ≡ out_of_memory) → (e ≡ out_of_memory) ⊎ (dense_due o n roles table ≡ Err e)
unfolding dense_due
dense-told o n roles table f e h (inl m) memory = inl m
dense-told o n roles table f e (inl m) (inr t) memory = inl (memory m)
dense-told o n roles table f e (inr q) (inr t) memory = inr (rw (q, t) refl)

-- ---- bounds
-- Without a fault of bounds, no bounds cross.
pub ordered-of : (o : ProcOptions) (arcs : List Name) (ms : List Mention) (ls : TermLists) → bounds_fault o arcs ms ls ≡ None → AreInOrder (nonarc_defaults o) (length arcs) ls (length (nonarcs arcs ms))
ordered-of o arcs ms ls h = λ k below.
    let size : length (homes arcs ms) ≡ length (nonarcs arcs ms) = map-length (home_in ms) (nonarcs arcs ms) in
    not-crossed (length arcs) (nonarc_defaults o) (homes arcs ms) ls k (none-at (length (homes arcs ms)) k (bound_fault_at (length arcs) (nonarc_defaults o) (homes arcs ms) ls) h (omega (arith, size, below)))

pub dense-ordered : (o : ProcOptions) (arcs : List Name) (roles : RoleColumns) (table : Grid) → dense_fault o arcs roles table ≡ None
    → (v : VariableList) (ns : List Name) (ss : List SideRow) (ls : TermLists) → AreConstraints arcs (dense_constraints o arcs roles table) v ns ss ls
    → AreInOrder (nonarc_defaults o) v.arcs.count ls (length v.nonarcs)
dense-ordered o arcs roles table clear v ns ss ls e =
    rw (e.arcs_are, e.lists_are, e.nonarcs_are)
    (ordered-of o arcs (mentions roles table.header) (dense_constraints o arcs roles table).lists
    (or-second (first_row_fault (dense_of o arcs roles table)) _ (or-second (first_header_fault arcs (mentions roles table.header)) _ clear)))

-- ---- the network
pub dense-answered : (o : ProcOptions) (n : Network) (roles : RoleColumns) (table : Grid) → dense_fault o (arcs_of n.labels) roles table ≡ None
    → (v : VariableList) (ns : List Name) (ss : List SideRow) (ls : TermLists) → AreConstraints (arcs_of n.labels) (dense_constraints o (arcs_of n.labels) roles table) v ns ss ls
    → (new : Network) → new.program ≡ constrained_program o n.labels.own_arcs n.program (length v.nonarcs) ss ls
    → new.labels ≡ constrained_labels n.labels (record { nonarcs = v.nonarcs; names = ns; sides = ss; lists = ls }) → dense_due o n roles table ≡ Ok new
unfolding dense_due
dense-answered o n roles table clear v ns ss ls e new program labels =
    let p = rw (e.nonarcs_are, e.sides_are, e.lists_are) at program in
    let l = rw (e.nonarcs_are, e.names_are, e.sides_are) at labels in
    rw (clear, ← p, ← l) refl

-- The labels stay numbered as the problem is.
pub constrained-fit : (o : ProcOptions) (n : Network) → IsPlain n → (v : VariableList) (ns : List Name) (ss : List SideRow) (ls : TermLists)
    → AreNumbered (constrained_labels n.labels (record { nonarcs = v.nonarcs; names = ns; sides = ss; lists = ls })) (constrained_program o n.labels.own_arcs n.program (length v.nonarcs) ss ls)
constrained-fit o n plain v ns ss ls =
    let arcs = n.labels.own_arcs in
    let base = with_rows (with_columns n.program (joined_below (length v.nonarcs) (nonarc_column_at o arcs ls))) (map side_row ss) in
    let columns = length-map-range_with_len (column_with arcs (length n.program.columns) (length n.program.rows) (length ss) ls.coefficients base) 0 (length base.columns) in
    let made = length-append n.program.columns (joined_below (length v.nonarcs) (nonarc_column_at o arcs ls)) in
    let ones = nonarcs-length o arcs ls (length v.nonarcs) in
    let named = length-append n.labels.columns v.nonarcs in
    let sides = length-append n.program.rows (map side_row ss) in
    let side_count = map-length side_row ss in
    let labelled = length-append n.labels.constraints (map (side_name ns) ss) in
    let label_count = map-length (side_name ns) ss in
    record {
      nodes = plain.numbered.nodes;
      columns = omega (arith, columns, made, ones, named, plain.numbered.columns);
      constraints = omega (arith, sides, side_count, labelled, label_count, plain.numbered.constraints);
      own_arcs = plain.numbered.own_arcs;
      ids = plain.numbered.ids;
    }
