-- What is read of dense CONDATA is what it says, and it can be added.
use Rattle.std.proofs.Common.{◌≡◌, ◌<◌, ◌+◌, ℕ, List, None, length, map, get_or, refl, ap, ◌∙◌, arith}
use Rattle.nf_table.specs.Grid.{Grid}
use Rattle.nf_cells.specs.Names.{Name}
use Rattle.nf_program.specs.declared.program.ProcOptions.{ProcOptions}
use Rattle.nf_roles.specs.Roles.{RoleColumns}
use Rattle.nf_network.proofs.PassFacts.{map-length}
use Rattle.nf_cons.specs.declared.taken.SideRow.{SideRow}
use Rattle.nf_cons.specs.Bounds.{nonarc_defaults, first_bound_fault}
use Rattle.nf_cons.specs.Dense.{dense_row, first_header_fault, first_row_fault, givens, mentions, names, sides}
use Rattle.nf_cons.specs.Due.{bounds_fault, dense_constraints, dense_fault, dense_of}
use Rattle.nf_cons.specs.Making.{AreConstraints, AreReady}
use Rattle.nf_cons.specs.Naming.{VariableList}
use Rattle.nf_cons.specs.Passing.{IsHeaderRead}
use Rattle.nf_cons.specs.Terms.{TermLists, lists_of}
use Rattle.nf_cons.specs.Types.{default_type}
use Rattle.nf_cons.specs.Variables.{nonarcs, number_in}
use Rattle.nf_cons.proofs.DenseFacts.{names-length}
use Rattle.nf_cons.proofs.FaultFacts.{both}
use Rattle.nf_cons.proofs.HeaderFacts.{numbers-apart, number-below}
use Rattle.nf_cons.proofs.ReadyFacts.{apart-to, clear-of, few-sides, placed-to, sides-named}

-- The table by the variables of a header that was read.
pub table-is : (o : ProcOptions) (arcs : List Name) (roles : RoleColumns) (table : Grid) (h : VariableList) (numbers : List ℕ) → IsHeaderRead arcs (mentions roles table.header) h numbers
    → record { columns = roles.variables; variables = numbers; arcs = h.arcs.count; default = default_type o.defcontype; rows = map (dense_row roles) table.rows } ≡ dense_of o arcs roles table
table-is o arcs roles table h numbers r = rw (r.numbers_are, r.named.arcs_are.count) refl

module _ (o : ProcOptions) (arcs : List Name) (roles : RoleColumns) (table : Grid) (h : VariableList) (numbers : List ℕ) (r : IsHeaderRead arcs (mentions roles table.header) h numbers)
    (head : first_header_fault arcs (mentions roles table.header) ≡ None) (rows : first_row_fault (dense_of o arcs roles table) ≡ None) where
  size : length (dense_of o arcs roles table).variables ≡ length (mentions roles table.header)
  size = map-length (λ m. number_in arcs (mentions roles table.header) m.variable) (mentions roles table.header)

  inside : (i : ℕ) → i < length (dense_of o arcs roles table).variables → get_or (dense_of o arcs roles table).variables i 0 < length arcs + length (nonarcs arcs (mentions roles table.header))
  inside i below = number-below arcs (mentions roles table.header) i (omega (arith, size, below))

  ready : AreReady h (names (dense_of o arcs roles table) (length (dense_of o arcs roles table).rows)) (sides (dense_of o arcs roles table) (length (dense_of o arcs roles table).rows))
      (lists_of (givens (dense_of o arcs roles table) (length (dense_of o arcs roles table).rows)))
  ready = record {
    sound = r.named.sound;
    few_sides = few-sides (dense_of o arcs roles table) (length (dense_of o arcs roles table).rows) (clear-of (dense_of o arcs roles table) rows) (omega arith);
    named = rw (names-length (dense_of o arcs roles table) (length (dense_of o arcs roles table).rows)) (sides-named (dense_of o arcs roles table) (length (dense_of o arcs roles table).rows));
    placed = rw (r.named.arcs_are.count, r.named.nonarcs_are)
        (placed-to (dense_of o arcs roles table) (length arcs + length (nonarcs arcs (mentions roles table.header))) inside (length (dense_of o arcs roles table).rows));
    apart = apart-to (dense_of o arcs roles table) (λ j i less below. numbers-apart arcs (mentions roles table.header) head j i less (omega (arith, size, below)))
        (length arcs + length (nonarcs arcs (mentions roles table.header))) inside (length (dense_of o arcs roles table).rows);
  }

  pub whole : (v : VariableList) (ns : List Name) (ss : List SideRow) (ls : TermLists) → v ≡ h → ns ≡ names (dense_of o arcs roles table) (length (dense_of o arcs roles table).rows)
      → ss ≡ sides (dense_of o arcs roles table) (length (dense_of o arcs roles table).rows) → ls ≡ lists_of (givens (dense_of o arcs roles table) (length (dense_of o arcs roles table).rows))
      → first_bound_fault v.arcs.count (nonarc_defaults o) v.homes ls ≡ None
      → (dense_fault o arcs roles table ≡ None) × AreConstraints arcs (dense_constraints o arcs roles table) v ns ss ls
  whole v ns ss ls ev en es el bounds =
      let last : bounds_fault o arcs (mentions roles table.header) (lists_of (givens (dense_of o arcs roles table) (length (dense_of o arcs roles table).rows))) ≡ None =
      rw (ev, el, r.named.arcs_are.count, r.named.homes_are) at bounds in (
        both (first_header_fault arcs (mentions roles table.header)) _ head (both (first_row_fault (dense_of o arcs roles table)) _ rows last),
        record {
          nonarcs_are = ap (λ q. q.nonarcs) ev ∙ r.named.nonarcs_are;
          arcs_are = ap (λ q. q.arcs.count) ev ∙ r.named.arcs_are.count;
          names_are = en;
          sides_are = es;
          lists_are = el;
          ready = rw (ev, en, es, el) ready;
        },
      )
