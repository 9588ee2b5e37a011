-- Reading the lines of a text, one by one.
use Rattle.std.proofs.Common.{◌≡◌, ℕ, suc, ◌+◌, ◌-◌, ◌<◌, ◌≤◌, Bool, true, false, cond, not, List, [], ◌∷◌, ◌++◌, length, get_or, Option, None, Some, ℤ, pos, unsigned_abs, refl, sym, ◌∙◌, ap, ap₂, subst, arith, append_assoc}
use Rattle.std.specs.Option.{option_or, option_map, is_some}
use Rattle.std.proofs.lemmas.List.{append-nil, length_push}
use Rattle.nf_dimacs.specs.declared.fault.DimacsFault.{DimacsFault}
use Rattle.nf_dimacs.specs.declared.fault.DimacsKind.{DimacsKind}
use Rattle.nf_dimacs.specs.declared.fault.DimacsKind.TheVariants as kind
use Rattle.nf_dimacs.specs.declared.line.Line.{Line}
use Rattle.nf_dimacs.specs.declared.line.Line.TheVariants.{Skipped, Problem, Node, Arc as ArcLine, Bad}
use Rattle.nf_dimacs.specs.declared.line.Size.{Size}
use Rattle.nf_dimacs.specs.declared.line.Supply.{Supply}
use Rattle.nf_dimacs.specs.declared.line.Arc.{Arc}
use Rattle.nf_dimacs.specs.declared.reading.Reading.{Reading}
use Rattle.nf_dimacs.specs.Says.{supplies_of, flow_of}
use Rattle.nf_dimacs.specs.Faults.{line_fault, next_fault, node_fault, supply_fault, is_node, problem_fault, arc_fault, first_fault, fault_at, end_fault, whole_fault, fault_in}
use Rattle.nf_dimacs.specs.Progress.{Say, HasRead, ReadOn, IsSmall, given_at}
use Rattle.nf_io.specs.Held.{most_bytes}
use Rattle.nf_dimacs.specs.Tables.{nodes_in}
use Rattle.nf_dimacs.proofs.SayFacts.{place-of}

-- ---- the fault of the next line
module _ (supplies : List (Option ℤ)) (ss : List Supply) (given : (node : ℕ) → node < length supplies → get_or supplies node None ≡ flow_of ss (pos (suc node))) where
  same-supply : (counts : Size) (node : ℤ) (b : Bool) → is_node counts node ≡ b → length supplies ≡ unsigned_abs counts.nodes
      → supply_fault counts (given_at supplies node) node ≡ supply_fault counts (flow_of ss node) node
  same-supply counts node false is long = ap (λ (b : Bool). cond (not b) (Some kind.Node) (cond (is_some (given_at supplies node)) (Some kind.RepeatedNode) None)) is
      ∙ sym (ap (λ (b : Bool). cond (not b) (Some kind.Node) (cond (is_some (flow_of ss node)) (Some kind.RepeatedNode) None)) is)
  same-supply counts node true is long =
      let place = place-of counts node is in
      let same : given_at supplies node ≡ flow_of ss node = given (unsigned_abs node - 1) (subst (λ n. unsigned_abs node - 1 < n) (sym long) place.1) ∙ ap (flow_of ss) (sym place.0) in
      ap (λ (g : Option ℤ). supply_fault counts g node) same

  same-node : (size : Option Size) (s : Option Supply) → length supplies ≡ nodes_in size → node_fault size (given_at supplies) s ≡ node_fault size (flow_of ss) s
  same-node None s long = refl
  same-node (Some counts) None long = refl
  same-node (Some counts) (Some s) long = same-supply counts s.node (is_node counts s.node) refl long

pub same-fault : (ls : List Line) (size : Option Size) (supplies : List (Option ℤ)) (arcs : List Arc) (total : ℤ) → Say ls size supplies arcs total → (l : Line) → line_fault size (given_at supplies) l ≡ next_fault ls l
same-fault ls size supplies arcs total say Skipped = refl
same-fault ls size supplies arcs total say (Problem counts) = ap (λ (z : Option Size). problem_fault z counts) say.size_is
same-fault ls size supplies arcs total say (Node s) = same-node supplies (supplies_of ls) say.given size s say.nodes ∙ ap (λ (z : Option Size). node_fault z (flow_of (supplies_of ls)) s) say.size_is
same-fault ls size supplies arcs total say (ArcLine arc) = ap (λ (z : Option Size). arc_fault z arc) say.size_is
same-fault ls size supplies arcs total say Bad = refl

-- ---- the first fault
module _ (before : List Line) (l : Line) (rest : List Line) where
  fault-here : (f : DimacsFault) → option_map (fault_at (length before + 1)) (next_fault before l) ≡ Some f → first_fault before (l ∷ rest) ≡ Some f
  unfolding first_fault
  fault-here f e = ap (λ (o : Option DimacsFault). option_or o (first_fault (before ++ l ∷ []) rest)) e

  no-fault-here : next_fault before l ≡ None → first_fault before (l ∷ rest) ≡ first_fault (before ++ l ∷ []) rest
  unfolding first_fault
  no-fault-here e = ap (λ (o : Option DimacsKind). option_or (option_map (fault_at (length before + 1)) o) (first_fault (before ++ l ∷ []) rest)) e

no-more : (before : List Line) → first_fault before [] ≡ None
unfolding first_fault
no-more before = refl

-- ---- the start
pub read-none : (all : List Line) (r : Reading) → HasRead [] r → IsSmall r.balance r.lines → length all ≤ most_bytes → ReadOn all all r
read-none all r read small few = record {
  before = [];
  parts = refl;
  read = read;
  same = refl;
  small = small;
  few = omega (arith, read.count, few);
}

-- ---- one line more
module _ (all rest : List Line) (l : Line) (r : Reading) (on : ReadOn all (l ∷ rest) r) where
  same : line_fault r.size (given_at r.supplies.items) l ≡ next_fault on.before l
  same = same-fault on.before r.size r.supplies.items r.arcs.items r.balance on.read.say l

  pub read-more : (s : Reading) → line_fault r.size (given_at r.supplies.items) l ≡ None → ((before : List Line) → HasRead before r → HasRead (before ++ l ∷ []) s) → IsSmall s.balance s.lines → ReadOn all rest s
  read-more s sound next small =
      let read : HasRead (on.before ++ l ∷ []) s = next on.before on.read in
      record {
        before = on.before ++ l ∷ [];
        parts = on.parts ∙ sym (append_assoc on.before (l ∷ []) rest);
        read = read;
        same = on.same ∙ no-fault-here on.before l rest (sym same ∙ sound);
        small = small;
        few = omega (arith, on.few, read.count, on.read.count, length_push on.before l);
      }

  pub refused : (f : DimacsFault) → option_map (fault_at (r.lines + 1)) (line_fault r.size (given_at r.supplies.items) l) ≡ Some f → fault_in all ≡ Some f
  refused f e =
      let here : option_map (fault_at (length on.before + 1)) (next_fault on.before l) ≡ Some f = ap₂ (λ (n : ℕ) (o : Option DimacsKind). option_map (fault_at (n + 1)) o) (sym on.read.count) (sym same) ∙ e in
      ap (λ (o : Option DimacsFault). option_or o (whole_fault all)) (on.same ∙ fault-here on.before l rest f here)

-- ---- the end
module _ (all : List Line) (r : Reading) (on : ReadOn all [] r) where
  whole : on.before ≡ all
  whole = sym (on.parts ∙ append-nil on.before)

  pub read-all : HasRead all r
  read-all = subst (λ (ls : List Line). HasRead ls r) whole on.read

  end-is : fault_in all ≡ option_map (fault_at (r.lines + 1)) (end_fault r.size (length r.arcs.items) r.balance)
  end-is =
      let read : HasRead all r = read-all in
      ap (λ (o : Option DimacsFault). option_or o (whole_fault all)) (on.same ∙ no-more on.before)
      ∙ rw (read.count, read.say.size_is, read.say.arcs_are, read.say.total_is)

  pub sound-all : end_fault r.size (length r.arcs.items) r.balance ≡ None → fault_in all ≡ None
  sound-all e = end-is ∙ ap (option_map (fault_at (r.lines + 1))) e

  pub refused-all : (f : DimacsFault) → option_map (fault_at (r.lines + 1)) (end_fault r.size (length r.arcs.items) r.balance) ≡ Some f → fault_in all ≡ Some f
  refused-all f e = end-is ∙ e
