-- The problem of a program's tables, and that it has few rows if it has a stage two.
use Rattle.std.proofs.Common.{◌≡◌, ◌<◌, ◌≤◌, ℕ, Bool, true, false, List, [], Option, None, Some, length, Result, Ok, Err, if◌then◌else◌, refl, ap, ◌∙◌, subst, arith, inl, inr}
use Rattle.std.proofs.lemmas.Bool.Decides.{nat_tests}
use Rattle.std.specs.Bool.{nat_lt}
use Rattle.nf_table.specs.Grid.{Grid}
use Rattle.nf_table.specs.Reading.{table_read}
use Rattle.nf_table.specs.declared.table.TableFault.{TableFault}
use Rattle.nf_program.specs.declared.program.ProcOptions.{ProcOptions}
use Rattle.nf_program.specs.declared.program.Program.{Program}
use Rattle.nf_program.specs.declared.program.SetName.{SetName}
use Rattle.nf_program.specs.declared.program.SetName.TheVariants.{Arcdata, Nodedata, Condata}
use Rattle.nf_roles.specs.declared.columns.SetKind.TheVariants.{Arcs, Nodes}
use Rattle.nf_roles.specs.declared.fault.DataFault.{DataFault}
use Rattle.nf_roles.specs.declared.fault.RoleFault.{RoleFault}
use Rattle.nf_roles.specs.Assigned.{roles_due}
use Rattle.nf_roles.specs.Roles.{RoleColumns}
use Rattle.nf_network.specs.Network.{Network, first_fault, network_due, network_of, no_roles, no_table, unless_fault}
use Rattle.nf_network.specs.Rows.{arc_rows, node_rows}
use Rattle.nf_model.specs.Program.{LinearProgram}
use Rattle.nf_simplex.specs.Layout.{layout_of}
use Rattle.nf_simplex.specs.StageOf.{HasStageTwo}
use Rattle.nf_run.specs.Setting.{IsPlain}
use Rattle.nf_top.specs.ProblemOf.{Refusal, Sets as ProblemSets, OfData, OfTable, header_in, in_data, in_roles, in_set, in_size, layout, most_rows, problem_in, problem_of, size_fault, table_of, then_with, where_there, with_cons, with_constraints, with_nodes}
use Rattle.nf_top.specs.Data.{AreTables, Grids, IsTableOrNone, Sets, data_of}

-- ---- what follows an answer
pub then_step : {A B : Type 0} (r : Result A Refusal) (x : A) (next : A → Result B Refusal) → r ≡ Ok x → then_with r next ≡ next x
then_step r x next h = ap (λ q. then_with q next) h

pub then_stop : {A B : Type 0} (r : Result A Refusal) (f : Refusal) (next : A → Result B Refusal) → r ≡ Err f → then_with r next ≡ Err f
then_stop r f next h = ap (λ q. then_with q next) h

then_ok : {A B : Type 0} (r : Result A Refusal) (next : A → Result B Refusal) (y : B) → then_with r next ≡ Ok y → (x : A) × (r ≡ Ok x) × (next x ≡ Ok y)
then_ok (Ok x) next y h = (x, refl, h)
then_ok (Err f) next y h = cc h

-- ---- the problem of tables
there_or_none : (q : SetName) (bytes : Option (List ℕ)) (t : Option Grid) → IsTableOrNone bytes t → table_of q bytes ≡ Ok t
there_or_none q None None h = refl
there_or_none q None (Some t) h = absurd h
there_or_none q (Some b) None h = absurd h
there_or_none q (Some b) (Some t) h = ap (λ r. where_there (in_set q r)) h

pub posed_by_tables : (s : Sets) (t : Grids) (p : Program) → AreTables s t → problem_of p (data_of s) ≡ problem_in p t.arcdata t.nodedata t.condata
unfolding problem_of
posed_by_tables s t p h =
    then_step (in_set Arcdata (table_read s.arcdata)) t.arcdata _ (ap (in_set Arcdata) h.arcdata)
    ∙ (then_step (table_of Nodedata s.nodedata) t.nodedata _ (there_or_none Nodedata s.nodedata t.nodedata h.nodedata)
    ∙ then_step (table_of Condata s.condata) t.condata _ (there_or_none Condata s.condata t.condata h.condata))

-- tables are given, so that no refusal is one of a table
no-size : (n : Network) (s : SetName) (f : TableFault) → in_size n ≡ Err (OfTable s f) → ⊥
no-size n s f h = by (nat_lt most_rows (length n.program.rows)) h
  where
    by : (b : Bool) → (if b then Err (OfData size_fault) else Ok n) ≡ Err (OfTable s f) → ⊥
    by true k = cc k
    by false k = cc k

no-data : (r : Result Network DataFault) (next : Network → Result Network Refusal) (s : SetName) (f : TableFault)
    → ((n : Network) → next n ≡ Err (OfTable s f) → ⊥) → then_with (in_data r) next ≡ Err (OfTable s f) → ⊥
no-data (Ok n) next s f none h = none n h
no-data (Err e) next s f none h = cc h

data-only : (r : Result Network DataFault) (s : SetName) (f : TableFault) → in_data r ≡ Err (OfTable s f) → ⊥
data-only (Ok n) s f h = cc h
data-only (Err e) s f h = cc h

no-roles : (q : SetName) (r : Result RoleColumns RoleFault) (next : RoleColumns → Result Network Refusal) (s : SetName) (f : TableFault)
    → ((x : RoleColumns) → next x ≡ Err (OfTable s f) → ⊥) → then_with (in_roles q r) next ≡ Err (OfTable s f) → ⊥
no-roles q (Ok x) next s f none h = none x h
no-roles q (Err e) next s f none h = cc h

no-cons : (p : Program) (ar : RoleColumns) (a : Grid) (nr : RoleColumns) (t : Grid) (cons : Option Grid) (s : SetName) (f : TableFault) → with_cons p ar a nr t cons ≡ Err (OfTable s f) → ⊥
no-cons p ar a nr t None s f h = data-only (network_due p.proc ar a nr t) s f h
no-cons p ar a nr t (Some g) s f h =
    no-roles Condata (roles_due (layout p.proc) g.header [] p.roles) _ s f
    (λ r k. no-data (network_due p.proc ar a nr t) _ s f (λ n l. no-data (with_constraints p.proc n r g) in_size s f (λ m j. no-size m s f j) l) k) h

no-nodes : (p : Program) (ar : RoleColumns) (a : Grid) (nodes cons : Option Grid) (s : SetName) (f : TableFault) → with_nodes p ar a nodes cons ≡ Err (OfTable s f) → ⊥
no-nodes p ar a None cons s f h = no-cons p ar a no_roles no_table cons s f h
no-nodes p ar a (Some t) cons s f h =
    no-roles Nodedata (roles_due Nodes t.header [] p.roles) _ s f (λ nr k. no-cons p ar a nr t cons s f k) h

pub no-table : (p : Program) (a : Grid) (nodes cons : Option Grid) (s : SetName) (f : TableFault) → problem_in p a nodes cons ≡ Err (OfTable s f) → ⊥
unfolding problem_in
no-table p a nodes cons s f h = no-roles Arcdata (roles_due Arcs a.header (header_in cons) p.roles) _ s f (λ ar k. no-nodes p ar a nodes cons s f k) h

-- ---- it has no stage two, or few rows
pub too-many : (n : Network) → most_rows < length n.program.rows → in_size n ≡ Err (OfData size_fault)
too-many n many =
    let e : nat_lt most_rows (length n.program.rows) ≡ true = grind (arith, nat_tests, many) in
    ap (λ b. if b then Err (OfData size_fault) else Ok n) e

sized_ok : (m n : Network) → in_size m ≡ Ok n → (m ≡ n) × (length m.program.rows ≤ most_rows)
sized_ok m n h = by (nat_lt most_rows (length m.program.rows)) refl h
  where
    by : (b : Bool) → nat_lt most_rows (length m.program.rows) ≡ b → (if b then Err (OfData size_fault) else Ok m) ≡ Ok n → (m ≡ n) × (length m.program.rows ≤ most_rows)
    by true e k = cc k
    by false e k = (cc k, grind (arith, nat_tests, e))

plain_sized : (d : Result Network Refusal) (n : Network) → then_with d in_size ≡ Ok n → IsPlain n.program
plain_sized d n h =
    let e = then_ok d in_size n h in
    let s = sized_ok e.0 n e.2 in
    subst (λ m. IsPlain m.program) s.0 (record { few_rows = λ two. s.1 })

-- A network alone has no side rows and no nonarc variables.
no_second : (q : LinearProgram) → length q.rows ≡ q.nodes → q.arcs ≡ length q.columns → HasStageTwo (layout_of q) → ⊥
no_second q rows columns (inl side) = omega (arith, rows, side)
no_second q rows columns (inr nonarc) = omega (arith, columns, nonarc)

unless_ok : (f : Option DataFault) (m n : Network) → unless_fault f m ≡ Ok n → m ≡ n
unless_ok None m n h = cc h
unless_ok (Some f) m n h = cc h

plain_network : (o : ProcOptions) (ar : RoleColumns) (a : Grid) (nr : RoleColumns) (t : Grid) (n : Network) → network_due o ar a nr t ≡ Ok n → IsPlain n.program
unfolding network_due
plain_network o ar a nr t n h =
    let m = network_of o (arc_rows ar a.rows) (node_rows nr t.rows) ar.ids a in
    subst (λ (q : Network). IsPlain q.program) (unless_ok (first_fault o ar a nr t) m n h) (record { few_rows = λ two. absurd (no_second m.program refl refl two) })

data_ok : (r : Result Network DataFault) (n : Network) → in_data r ≡ Ok n → r ≡ Ok n
data_ok (Ok m) n h = ap Ok (cc h)
data_ok (Err f) n h = cc h

plain_cons : (p : Program) (ar : RoleColumns) (a : Grid) (nr : RoleColumns) (t : Grid) (cons : Option Grid) (n : Network) → with_cons p ar a nr t cons ≡ Ok n → IsPlain n.program
plain_cons p ar a nr t None n h = plain_network p.proc ar a nr t n (data_ok (network_due p.proc ar a nr t) n h)
plain_cons p ar a nr t (Some g) n h =
    let r = then_ok (in_roles Condata (roles_due (layout p.proc) g.header [] p.roles)) _ n h in
    let d = then_ok (in_data (network_due p.proc ar a nr t)) _ n r.2 in
    plain_sized (in_data (with_constraints p.proc d.0 r.0 g)) n d.2

plain_with : (p : Program) (ar : RoleColumns) (a : Grid) (nodes cons : Option Grid) (n : Network) → with_nodes p ar a nodes cons ≡ Ok n → IsPlain n.program
plain_with p ar a None cons n h = plain_cons p ar a no_roles no_table cons n h
plain_with p ar a (Some t) cons n h = let d = then_ok (in_roles Nodedata (roles_due Nodes t.header [] p.roles)) _ n h in plain_cons p ar a d.0 t cons n d.2

plain_in : (p : Program) (a : Grid) (nodes cons : Option Grid) (n : Network) → problem_in p a nodes cons ≡ Ok n → IsPlain n.program
unfolding problem_in
plain_in p a nodes cons n h = let d = then_ok (in_roles Arcdata (roles_due Arcs a.header (header_in cons) p.roles)) _ n h in plain_with p d.0 a nodes cons n d.2

pub network_plain : (p : Program) (s : ProblemSets) (n : Network) → problem_of p s ≡ Ok n → IsPlain n.program
unfolding problem_of
network_plain p s n h =
    let a = then_ok (in_set Arcdata (table_read s.arcdata)) _ n h in
    let b = then_ok (table_of Nodedata s.nodedata) _ n a.2 in
    let c = then_ok (table_of Condata s.condata) _ n b.2 in
    plain_in p a.0 b.0 c.0 n c.2

-- ---- its data sets are tables
in_set_ok : (s : SetName) (r : Result Grid TableFault) (g : Grid) → in_set s r ≡ Ok g → r ≡ Ok g
in_set_ok s (Ok t) g h = ap Ok (cc h)
in_set_ok s (Err f) g h = cc h

there_ok : (r : Result Grid Refusal) (o : Option Grid) → where_there r ≡ Ok o → (g : Grid) × (r ≡ Ok g)
there_ok (Ok g) o h = (g, refl)
there_ok (Err f) o h = cc h

pub arcs_table : (p : Program) (s : ProblemSets) (n : Network) → problem_of p s ≡ Ok n → (g : Grid) × (table_read s.arcdata ≡ Ok g)
unfolding problem_of
arcs_table p s n h = let a = then_ok (in_set Arcdata (table_read s.arcdata)) _ n h in (a.0, in_set_ok Arcdata (table_read s.arcdata) a.0 a.1)

pub nodes_table : (p : Program) (s : ProblemSets) (n : Network) → problem_of p s ≡ Ok n → (b : List ℕ) → s.nodedata ≡ Some b → (g : Grid) × (table_read b ≡ Ok g)
unfolding problem_of
nodes_table p s n h b e =
    let a = then_ok (in_set Arcdata (table_read s.arcdata)) _ n h in
    let c = then_ok (table_of Nodedata s.nodedata) _ n a.2 in
    let t = there_ok (in_set Nodedata (table_read b)) c.0 (subst (λ o. table_of Nodedata o ≡ Ok c.0) e c.1) in
    (t.0, in_set_ok Nodedata (table_read b) t.0 t.1)

pub cons_table : (p : Program) (s : ProblemSets) (n : Network) → problem_of p s ≡ Ok n → (b : List ℕ) → s.condata ≡ Some b → (g : Grid) × (table_read b ≡ Ok g)
unfolding problem_of
cons_table p s n h b e =
    let a = then_ok (in_set Arcdata (table_read s.arcdata)) _ n h in
    let d = then_ok (table_of Nodedata s.nodedata) _ n a.2 in
    let c = then_ok (table_of Condata s.condata) _ n d.2 in
    let t = there_ok (in_set Condata (table_read b)) c.0 (subst (λ o. table_of Condata o ≡ Ok c.0) e c.1) in
    (t.0, in_set_ok Condata (table_read b) t.0 t.1)
