use Rattle.std.proofs.Common.{◌≡◌, ◌≤◌, ◌∙◌, ℕ, ap, arith, length, nat_lt, Bool, false, cond, Option, Some, List, ℤ}
use Rattle.std.proofs.lemmas.Bool.Decides.{nat_tests}
use Rattle.nf_io.specs.Held.{most_bytes}
use Rattle.nf_dimacs.specs.declared.fault.DimacsKind.TheVariants as kind
use Rattle.nf_dimacs.specs.Faults.{fault_at, fault_in}
use Rattle.nf_dimacs.specs.Text.{fault_of}
use Rattle.std.proofs.lemmas.List.{length-map}
use Rattle.nf_dimacs.specs.Lines.{lines_of}
use Rattle.nf_dimacs.specs.Says.{said, said_by}
use Rattle.nf_dimacs.specs.Tables.{arcs_table, nodes_header, node_row, numbered, table_of}
use Rattle.nf_dimacs.proofs.LineFacts.{few-lines}
use Rattle.nf_dimacs.proofs.SayFacts.{all-supplies, few-arcs}
use Rattle.nf_dimacs.proofs.tables.read_dimacs.Goals as goal

pub arcs_table-requires : goal.arcs_table-requires
arcs_table-requires c =
    let read = c.in_ok-reading.ensures.read in
    record { few = omega (arith, ap length c.deref.ensures.value, ap length read.say.arcs_are, few-arcs (said_by c.args.text.now), length-map (lines_of c.args.text.now) said, few-lines c.args.text.now) }

-- a text that is not too long has the fault of what its lines say
short-fault : (text : List ℕ) → length text ≤ most_bytes → fault_of text ≡ fault_in (said_by text)
short-fault text few =
    let short : nat_lt most_bytes (length text) ≡ false = grind (arith, nat_tests) in
    ap (λ (b : Bool). cond b (Some (fault_at 0 kind.TooLong)) (fault_in (said_by text))) short

pub returns-clause-tables : goal.returns-clause-tables
returns-clause-tables c =
    let read = c.in_ok-reading.ensures.read in
    record {
      sound = short-fault c.args.text.now (omega arith) ∙ c.in_ok-reading.ensures.sound;
      arcs = c.in_ok-arcs.ensures ∙ ap arcs_table (c.deref.ensures.value ∙ read.say.arcs_are);
      nodes = c.in_ok-nodes.ensures ∙ ap (λ (ss : List (Option ℤ)). table_of nodes_header (numbered node_row 1 ss)) (c.deref-2.ensures.value ∙ all-supplies _ _ _ _ _ read.say);
    }
