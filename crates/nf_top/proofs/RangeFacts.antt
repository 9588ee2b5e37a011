-- An operation that overflows in a run is of stage two, and its program names CONDATA: data that are read have amounts.
use Rattle.std.proofs.Common.{◌≡◌, inl, inr, ◌++◌, ℕ, Bool, true, false, List, [], Option, Some, None, Result, Ok, Err, is_some, if◌then◌else◌, refl, sym, ap, ◌∙◌, subst}
use Rattle.nf_frac.specs.declared.passed.Passed.{Passed}
use Rattle.nf_io.specs.Held.{Held}
use Rattle.nf_model.specs.Program.{LinearProgram}
use Rattle.nf_model.specs.Problem.{IsProblem}
use Rattle.nf_simplex.specs.Layout.{layout_of}
use Rattle.nf_simplex.specs.StageOf.{HasStageTwo}
use Rattle.nf_table.specs.Grid.{Grid}
use Rattle.nf_table.specs.Reading.{table_read}
use Rattle.nf_program.specs.declared.program.Command.TheVariants.{Run}
use Rattle.nf_program.specs.declared.program.ProcOptions.{ProcOptions}
use Rattle.nf_program.specs.declared.program.Program.{Program}
use Rattle.nf_program.specs.declared.program.SetName.TheVariants.{Arcdata, Nodedata, Condata}
use Rattle.nf_roles.specs.Assigned.{roles_due}
use Rattle.nf_roles.specs.Roles.{RoleColumns}
use Rattle.nf_roles.specs.declared.columns.SetKind.TheVariants.{Arcs, Nodes}
use Rattle.nf_roles.specs.declared.fault.DataFault.{DataFault}
use Rattle.nf_network.specs.Network.{Network, network_due, no_roles, no_table}
use Rattle.nf_cons.specs.Due.{IsNetworkOf, dense_due}
use Rattle.nf_cons_sparse.specs.SparseDue.{sparse_due}
use Rattle.nf_width.specs.Amounts.{HasAmounts}
use Rattle.nf_amounts.specs.Laws.{HasOptionAmounts}
use Rattle.nf_amounts.proofs.Dense.{dense_has_amounts}
use Rattle.nf_amounts.proofs.Networks.{networks_have_amounts, networks_have_one_stage}
use Rattle.nf_amounts.proofs.Options.{options_have_amounts}
use Rattle.nf_amounts.proofs.Sparse.{sparse_has_amounts}
use Rattle.nf_run.specs.Runs.{IsCut}
use Rattle.nf_no_range.specs.Law.{IsOfStageTwo}
use Rattle.nf_no_range.proofs.Ranges.{range_is_of_stage_two}
use Rattle.nf_top.specs.Data.{data_of}
use Rattle.nf_top.specs.Headline.{OverflowsInStageTwo}
use Rattle.nf_top.specs.Lines.{step_range_line}
use Rattle.nf_top.specs.Outcome.{Call, Comes, Input, IsHeldOrNone, Lists, RunsOn}
use Rattle.nf_top.specs.ProblemOf.{OfData, Refusal, Sets, header_in, in_data, in_roles, in_set, in_size, layout, problem_in, problem_of, table_of, then_with, with_cons, with_constraints, with_nodes}
use Rattle.nf_top.specs.Words.{IsCommand}
use Rattle.nf_top.specs.declared.status.Status.TheVariants as status
use Rattle.nf_top.proofs.WordFacts.{not-both}

-- ---- what was read without a refusal
then_ok : {A B : Type 0} (r : Result A Refusal) (next : A → Result B Refusal) (y : B) → then_with r next ≡ Ok y → (x : A) × (r ≡ Ok x) × (next x ≡ Ok y)
then_ok (Ok x) next y h = (x, refl, h)
then_ok (Err f) next y h = cc h

in_data_ok : (r : Result Network DataFault) (n : Network) → in_data r ≡ Ok n → r ≡ Ok n
in_data_ok (Ok m) n h = ap Ok (cc h)
in_data_ok (Err f) n h = cc h

sized_same : (m n : Network) → in_size m ≡ Ok n → m ≡ n
sized_same m n h = by _ _ h
  where
    by : (b : Bool) (f : DataFault) → (if b then Err (OfData f) else Ok m) ≡ Ok n → m ≡ n
    by true f k = cc k
    by false f k = cc k

-- A network that the data give has amounts if the options have, and no stage two without CONDATA.
pub record IsRead (o : ProcOptions) (cons : Option Grid) (n : Network) : Type 0 where
  pub amounts : HasOptionAmounts o → HasAmounts n.program
  pub plain : cons ≡ None → HasStageTwo (layout_of n.program) → ⊥

constraints_amounts : (o : ProcOptions) (d : Network) (roles : RoleColumns) (g : Grid) (m : Network) → HasOptionAmounts o → IsNetworkOf o d → with_constraints o d roles g ≡ Ok m → HasAmounts m.program
constraints_amounts o d roles g m has is h = by o.sparsecondata h
  where
    by : (b : Bool) → (if b then sparse_due o d roles g else dense_due o d roles g) ≡ Ok m → HasAmounts m.program
    by true k = sparse_has_amounts o d roles g m has is k
    by false k = dense_has_amounts o d roles g m has is k

cons_read : (p : Program) (ar : RoleColumns) (a : Grid) (nr : RoleColumns) (t : Grid) (cons : Option Grid) (n : Network) → with_cons p ar a nr t cons ≡ Ok n → IsRead p.proc cons n
cons_read p ar a nr t None n h =
    let is : IsNetworkOf p.proc n = record { arc_roles = ar; arcs = a; node_roles = nr; nodes = t; answered = in_data_ok (network_due p.proc ar a nr t) n h } in
    record { amounts = λ has. networks_have_amounts p.proc n has is; plain = λ e. networks_have_one_stage p.proc n is }
cons_read p ar a nr t (Some g) n h =
    let r = then_ok (in_roles Condata (roles_due (layout p.proc) g.header [] p.roles)) _ n h in
    let d = then_ok (in_data (network_due p.proc ar a nr t)) _ n r.2 in
    let m = then_ok (in_data (with_constraints p.proc d.0 r.0 g)) in_size n d.2 in
    let is : IsNetworkOf p.proc d.0 = record { arc_roles = ar; arcs = a; node_roles = nr; nodes = t; answered = in_data_ok (network_due p.proc ar a nr t) d.0 d.1 } in
    subst (IsRead p.proc (Some g)) (sized_same m.0 n m.2) (record {
      amounts = λ has. constraints_amounts p.proc d.0 r.0 g m.0 has is (in_data_ok (with_constraints p.proc d.0 r.0 g) m.0 m.1);
      plain = λ e. cc e;
    })

nodes_read : (p : Program) (ar : RoleColumns) (a : Grid) (nodes cons : Option Grid) (n : Network) → with_nodes p ar a nodes cons ≡ Ok n → IsRead p.proc cons n
nodes_read p ar a None cons n h = cons_read p ar a no_roles no_table cons n h
nodes_read p ar a (Some t) cons n h = let d = then_ok (in_roles Nodedata (roles_due Nodes t.header [] p.roles)) _ n h in cons_read p ar a d.0 t cons n d.2

tables_read : (p : Program) (a : Grid) (nodes cons : Option Grid) (n : Network) → problem_in p a nodes cons ≡ Ok n → IsRead p.proc cons n
unfolding problem_in
tables_read p a nodes cons n h = let d = then_ok (in_roles Arcdata (roles_due Arcs a.header (header_in cons) p.roles)) _ n h in nodes_read p d.0 a nodes cons n d.2

none_read : (condata : Option (List ℕ)) (c : Option Grid) → table_of Condata condata ≡ Ok c → condata ≡ None → c ≡ None
none_read condata c h e = let k : Ok None ≡ Ok c = subst (λ s. table_of Condata s ≡ Ok c) e h in cc k

-- The problem of the data: its amounts, and that it has one stage without CONDATA.
pub record IsPosedSo (p : Program) (s : Sets) (n : Network) : Type 0 where
  pub amounts : HasOptionAmounts p.proc → HasAmounts n.program
  pub plain : s.condata ≡ None → HasStageTwo (layout_of n.program) → ⊥

posed_so : (p : Program) (s : Sets) (n : Network) → problem_of p s ≡ Ok n → IsPosedSo p s n
unfolding problem_of
posed_so p s n h =
    let a = then_ok (in_set Arcdata (table_read s.arcdata)) _ n h in
    let b = then_ok (table_of Nodedata s.nodedata) _ n a.2 in
    let c = then_ok (table_of Condata s.condata) _ n b.2 in
    let read = tables_read p a.0 b.0 c.0 n c.2 in
    record { amounts = read.amounts; plain = λ e. read.plain (none_read s.condata c.0 c.1 e) }

-- ---- a run
module _ (i : Input) (program : Program) (problem : LinearProgram) (runs : RunsOn i program problem) where
  run_amounts : HasAmounts problem
  run_amounts =
      subst HasAmounts (sym runs.posed.is)
      ((posed_so program (data_of runs.sets) runs.posed.network runs.posed.posed).amounts (options_have_amounts Run runs.reads.text program runs.reads.spelled))

  no_bytes : (held : Option Held) (name bytes : Option (List ℕ)) → name ≡ None → IsHeldOrNone held name bytes → bytes ≡ None
  no_bytes held None None e h = refl
  no_bytes held None (Some b) e h = absurd h
  no_bytes held (Some n) bytes e h = cc e

  pub run_names : HasStageTwo (layout_of problem) → is_some program.proc.condata ≡ true
  run_names two = by program.proc.condata refl
    where
      by : (o : Option (List ℕ)) → program.proc.condata ≡ o → is_some o ≡ true
      by (Some n) e = refl
      by None e =
          let none = no_bytes i.held runs.names.condata runs.sets.condata (sym runs.stands.condata ∙ e) runs.held.condata in
          absurd ((posed_so program (data_of runs.sets) runs.posed.network runs.posed.posed).plain none (subst (λ p. HasStageTwo (layout_of p)) runs.posed.is two))

  pub range_of_two : (front : List ℕ) (stage pivots : ℕ) (passed : Passed) → IsProblem problem → IsCut problem program.proc.session program.acts front stage pivots passed → IsOfStageTwo problem stage passed
  range_of_two front stage pivots passed ok cut = range_is_of_stage_two problem program.proc.session program.acts front stage pivots passed ok run_amounts cut

pub overflows-in-two : (c : Call) → IsCommand Run c.input.words → Comes c status.RangePassed → OverflowsInStageTwo c
overflows-in-two c words (inl (passed, ((p, x, reads, passes), l, kept))) = absurd (not-both c.input.words reads.poses.fetches.named.reads.words words)
overflows-in-two c words (inr (program, problem, runs, front, stage, pivots, passed, cut, of_two, listed, kept)) = record {
  program = program;
  problem = problem;
  runs = runs;
  condata = run_names c.input program problem runs of_two.exists;
  front = front;
  pivots = pivots;
  passed = passed;
  cut = subst (λ n. IsCut problem program.proc.session program.acts front n pivots passed) of_two.number cut;
  of_two = subst (λ n. IsOfStageTwo problem n passed) of_two.number of_two;
  listed = subst (λ n. Lists c (front ++ step_range_line n pivots passed)) of_two.number listed;
}
