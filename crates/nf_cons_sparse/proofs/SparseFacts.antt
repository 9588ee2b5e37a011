-- The network with the constraints of sparse CONDATA is the one that is due.
use Rattle.std.proofs.Common.{◌≡◌, ◌⊎◌, List, None, Ok, Err, length, refl, inl, inr}
use Rattle.nf_table.specs.Grid.{Grid}
use Rattle.nf_cells.specs.Names.{Name}
use Rattle.nf_program.specs.declared.program.ProcOptions.{ProcOptions}
use Rattle.nf_roles.specs.declared.fault.DataFault.{DataFault}
use Rattle.nf_roles.specs.declared.fault.DataKind.TheVariants as kind
use Rattle.nf_roles.specs.Faults.{out_of_memory}
use Rattle.nf_roles.specs.Roles.{RoleColumns}
use Rattle.nf_network.specs.Network.{Network}
use Rattle.nf_network.proofs.PassFacts.{map-length}
use Rattle.nf_cons.specs.declared.places.RowFault.{RowFault}
use Rattle.nf_cons.specs.declared.taken.SideRow.{SideRow}
use Rattle.nf_cons.specs.Bounds.{nonarc_defaults}
use Rattle.nf_cons.specs.Constrained.{constrained_labels, constrained_program}
use Rattle.nf_cons.specs.Making.{AreConstraints, AreInOrder}
use Rattle.nf_cons.specs.Naming.{VariableList}
use Rattle.nf_cons.specs.Places.{IsRowFaultOf, told}
use Rattle.nf_cons.specs.Terms.{TermLists}
use Rattle.nf_cons.specs.Variables.{arcs_of}
use Rattle.nf_cons.proofs.DueFacts.{ordered-of}
use Rattle.nf_cons.proofs.FaultFacts.{or-second}
use Rattle.nf_cons_sparse.specs.Sparse.{first_line_fault, first_typed_fault, mentions, sparse_line}
use Rattle.nf_cons_sparse.specs.SparseDue.{sparse_constraints, sparse_due, sparse_fault, sparse_of}

pub sparse-told : (o : ProcOptions) (n : Network) (roles : RoleColumns) (table : Grid) (f : RowFault) (e : DataFault) → IsRowFaultOf (sparse_fault o (arcs_of n.labels) roles table) f
    → (e ≡ out_of_memory) ⊎ (e ≡ told roles table.header f) → (f.fault.kind ≡ kind.NoMemory → e ≡ out_of_memory) → (e ≡ out_of_memory) ⊎ (sparse_due o n roles table ≡ Err e)
unfolding sparse_due
sparse-told o n roles table f e h (inl m) memory = inl m
sparse-told o n roles table f e (inl m) (inr t) memory = inl (memory m)
sparse-told o n roles table f e (inr q) (inr t) memory = inr (rw (q, t) refl)

-- Without a fault of bounds, no bounds cross.
pub sparse-ordered : (o : ProcOptions) (arcs : List Name) (roles : RoleColumns) (table : Grid) → sparse_fault o arcs roles table ≡ None
    → (v : VariableList) (ns : List Name) (ss : List SideRow) (ls : TermLists) → AreConstraints arcs (sparse_constraints o arcs roles table) v ns ss ls
    → AreInOrder (nonarc_defaults o) v.arcs.count ls (length v.nonarcs)
sparse-ordered o arcs roles table clear v ns ss ls e =
    let s = sparse_of o arcs roles table in
    let size : length (sparse_of o arcs roles table).lines ≡ length table.rows = map-length (sparse_line roles) table.rows in
    let all = ordered-of o arcs (mentions s (length table.rows)) (sparse_constraints o arcs roles table).lists (or-second (first_typed_fault s) _ (or-second (first_line_fault s) _ clear)) in
    rw (e.arcs_are, e.lists_are, e.nonarcs_are, size) (rw size at all)

pub sparse-answered : (o : ProcOptions) (n : Network) (roles : RoleColumns) (table : Grid) → sparse_fault o (arcs_of n.labels) roles table ≡ None
    → (v : VariableList) (ns : List Name) (ss : List SideRow) (ls : TermLists) → AreConstraints (arcs_of n.labels) (sparse_constraints o (arcs_of n.labels) roles table) v ns ss ls
    → (new : Network) → new.program ≡ constrained_program o n.labels.own_arcs n.program (length v.nonarcs) ss ls
    → new.labels ≡ constrained_labels n.labels (record { nonarcs = v.nonarcs; names = ns; sides = ss; lists = ls }) → sparse_due o n roles table ≡ Ok new
unfolding sparse_due
sparse-answered o n roles table clear v ns ss ls e new program labels =
    let p = rw (e.nonarcs_are, e.sides_are, e.lists_are) at program in
    let l = rw (e.nonarcs_are, e.names_are, e.sides_are) at labels in
    rw (clear, ← p, ← l) refl
