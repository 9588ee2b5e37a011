-- What is read of sparse CONDATA is what it says, and it can be added.
use Rattle.std.proofs.Common.{◌≡◌, ◌⊎◌, inl, inr, ◌<◌, ◌+◌, ◌^◌, ◌++◌, ◌∷◌, ◌&&◌, ℕ, zero, suc, Bool, true, false, List, [], Option, Some, None, length, refl, sym, ap, subst, ◌∙◌, arith}
use Rattle.std.proofs.lemmas.Bool.{cases_Bool}
use Rattle.std.proofs.lemmas.List.{length-append, map-append}
use Rattle.std.proofs.lemmas.List.Elements.{All-weaker}
use Rattle.nf_table.specs.Grid.{Grid}
use Rattle.nf_cells.specs.Names.{Name, has_name}
use Rattle.nf_cells.proofs.SeenFacts.{place-less}
use Rattle.nf_program.specs.declared.program.ProcOptions.{ProcOptions}
use Rattle.nf_program.specs.declared.program.Role.TheVariants as role
use Rattle.nf_roles.specs.declared.fault.DataKind.TheVariants as kind
use Rattle.nf_roles.specs.First.{first_below, or_else}
use Rattle.nf_roles.specs.Roles.{RoleColumns}
use Rattle.nf_network.proofs.PassFacts.{map-length}
use Rattle.nf_cons.specs.declared.places.DataColumn.TheVariants.{OfRole}
use Rattle.nf_cons.specs.declared.places.RowFault.{RowFault}
use Rattle.nf_cons.specs.declared.taken.SideRow.{SideRow}
use Rattle.nf_cons.specs.Bounds.{nonarc_defaults, first_bound_fault}
use Rattle.nf_cons.specs.Due.{bounds_fault}
use Rattle.nf_cons.specs.Making.{AreConstraints, AreReady, IsPlaced}
use Rattle.nf_cons.specs.Naming.{VariableList}
use Rattle.nf_cons.specs.Places.{IsRowFaultOf, first_of, in_row}
use Rattle.nf_cons.specs.Terms.{TermLists, lists_of}
use Rattle.nf_cons.specs.Variables.{is_arc, names_in, nonarcs}
use Rattle.nf_cons.proofs.FaultFacts.{both, first-append, no-row, none-at, or-first, or-second, passed, right-row}
use Rattle.nf_cons.proofs.NameFacts.{has-back, has-end, has-front}
use Rattle.nf_cons.proofs.NamingFacts.{has-nonarc, place-most}
use Rattle.nf_cons.proofs.ReadyFacts.{coefs}
use Rattle.nf_cons_sparse.specs.LineState.{IsAfterLines, LineState}
use Rattle.nf_cons_sparse.specs.Sparse.{Sparse, coef_faults, coef_right, first_line_fault, first_typed_fault, given_right, given_type, givens, has_coefficient, has_pair, has_variable, line_at, line_fault_at, mention_at, mention_of, mentions, name_faults, pairs, right_faults, row_faults, row_names, row_number, row_of, sides, sparse_line, type_faults, typed_fault_at, value_if, variable_number, variable_of}
use Rattle.nf_cons_sparse.specs.SparseDue.{sparse_constraints, sparse_fault, sparse_of}
use Rattle.nf_cons_sparse.specs.TypedState.{AreRanked, first_typed_to, typed_fault_to, typed_to}
use Rattle.nf_cons_sparse.proofs.AfterFacts.{joined-front, mentions-more, row-number}
use Rattle.nf_cons_sparse.proofs.ApartLines.{IsPaired, apart-to, paired-to}
use Rattle.nf_cons_sparse.proofs.ReadyLines.{few-sides, sides-named}
use Rattle.nf_cons_sparse.proofs.TypedFacts.{numbers-length, row-given, taken-is, taken-length, typed-fault, typed-is}

first-same : {A : Type 0} (n : ℕ) (f g : ℕ → Option A) → ((k : ℕ) → k < n → f k ≡ g k) → first_below n f ≡ first_below n g
unfolding first_below
first-same zero f g h = refl
first-same (suc n) f g h = rw (first-same n f g (λ k less. h k (omega (arith, less))), h n (omega arith)) refl

-- ---- lines without a fault
module _ (s : Sparse) (first : first_line_fault s ≡ None) (k : ℕ) (below : k < length s.lines) where
  clear : line_fault_at s k ≡ None
  clear = no-row (k + 1) (line_fault_at s k) (none-at (length s.lines) k (λ j. in_row (j + 1) (line_fault_at s j)) first below)

  coefs-clear : first_of (coef_faults (pairs s k) (row_number s k, variable_number s k) (line_at s k)) ≡ None
  unfolding line_fault_at
  coefs-clear =
      let l = line_at s k in
      let last = right_faults role.Rhs (or_else (given_right s k (row_of l)) (value_if (coef_right l))) l.right in
      let coef = coef_faults (pairs s k) (row_number s k, variable_number s k) l in
      let right = right_faults role.Coef (given_right s k (row_of l)) (coef_right l) in
      let name = name_faults s.arcs (mentions s k) (k + 1) l in
      let type = type_faults (given_type s k (row_of l)) l.row_type in
      let row = row_faults l.row in
      let a = or-second (first_of row) _ (sym (first-append row (type ++ name ++ right ++ coef ++ last)) ∙ clear) in
      let b = or-second (first_of type) _ (sym (first-append type (name ++ right ++ coef ++ last)) ∙ a) in
      let c = or-first (first_of (name ++ right ++ coef)) (first_of last) (sym (first-append (name ++ right ++ coef) last) ∙ b) in
      or-second (first_of (name ++ right)) (first_of coef) (sym (first-append (name ++ right) coef) ∙ c)

  -- A pair stands in one line.
  pub distinct : has_coefficient (line_at s k) ≡ true → has_pair (row_number s k, variable_number s k) (pairs s k) ≡ false
  distinct g = passed _ (OfRole role.Column) kind.RepeatedCoefficient (or-first _ _ (or-second _ _ (rw g at coefs-clear)))

typed-clear : (s : Sparse) → first_typed_fault s ≡ None → (k : ℕ) → k < length s.lines → typed_fault_at s k ≡ None
typed-clear s none k below = no-row (k + 1) (typed_fault_at s k) (none-at (length s.lines) k (λ j. in_row (j + 1) (typed_fault_at s j)) none below)

-- ---- numbers of variables
variable-inside : (s : Sparse) (k : ℕ) → k < length s.lines → has_variable (line_at s k) ≡ true → variable_number s k < length s.arcs + length (nonarcs s.arcs (mentions s (length s.lines)))
variable-inside s k below has =
    let less = place-less (variable_of (line_at s k)) (s.arcs ++ nonarcs s.arcs (mentions s (length s.lines))) (there (cases_Bool (is_arc s.arcs (variable_of (line_at s k))))) in
    let size = length-append s.arcs (nonarcs s.arcs (mentions s (length s.lines))) in
    omega (arith, less, size)
  where
    mentioned : has_name (variable_of (line_at s k)) (names_in (mentions s (length s.lines))) ≡ true
    mentioned =
        let rest = joined-front (k + 1) (length s.lines) (mention_at s) (omega (arith, below)) in
        let m = mention_of (k + 1) (line_at s k) in
        rw (rest.1, map-append (λ q. q.variable) (mentions s (k + 1)) rest.0, mentions-more s k has, map-append (λ q. q.variable) (mentions s k) (m ∷ []))
        (has-front (variable_of (line_at s k)) (names_in (mentions s k) ++ (variable_of (line_at s k)) ∷ []) (names_in rest.0) (has-end (variable_of (line_at s k)) (names_in (mentions s k))))

    there : (is_arc s.arcs (variable_of (line_at s k)) ≡ true) ⊎ (is_arc s.arcs (variable_of (line_at s k)) ≡ false) → has_name (variable_of (line_at s k)) (s.arcs ++ nonarcs s.arcs (mentions s (length s.lines))) ≡ true
    there (inl e) = has-front (variable_of (line_at s k)) s.arcs _ e
    there (inr e) = has-back (variable_of (line_at s k)) s.arcs _ (has-nonarc s.arcs (variable_of (line_at s k)) (mentions s (length s.lines)) e ∙ mentioned)

and-first : (a b : Bool) → a && b ≡ true → a ≡ true
and-first true b h = refl
and-first false b h = absurd (cc)

-- ---- the whole
module _ (s : Sparse) (l : LineState) (after : IsAfterLines s (length s.lines) l) where
  pub ranked-of : length s.lines < 2 ^ 32 → AreRanked l
  ranked-of few =
      let size = taken-length s l after in
      record {
        few = omega (arith, size, few);
        given = λ k below. let line = taken-is s l after k (omega (arith, size, below)) in rw line (row-given s l after k (omega (arith, size, below)));
        ranked = λ k below.
            let inside : k < length s.lines = omega (arith, size, below) in
            let line = taken-is s l after k inside in
            let typed = typed-is s l after k (omega (arith, inside)) in
            let place = row-number s k inside in
            let most = place-most (row_of (line_at s k)) (row_names s k) in
            let count = numbers-length s k in
            rw (line, typed) (omega (arith, place, most, count));
      }

  pub typed-same : first_typed_to l ≡ first_typed_fault s
  typed-same =
      rw (taken-length s l after)
      (first-same (length s.lines) (λ k. in_row (k + 1) (typed_fault_to l k)) (λ k. in_row (k + 1) (typed_fault_at s k)) (λ k below. ap (in_row (k + 1)) (typed-fault s l after k below)))

  module _ (lines : first_line_fault s ≡ None) (typed : first_typed_fault s ≡ None) where
    inside : (k : ℕ) → k < length s.lines → has_coefficient (line_at s k) ≡ true → variable_number s k < length s.arcs + length (nonarcs s.arcs (mentions s (length s.lines)))
    inside k below g = variable-inside s k below (and-first (has_variable (line_at s k)) _ g)

    pub ready : AreReady l.variables l.names (sides s (length s.lines)) (lists_of (givens s (length s.lines)))
    ready =
        let m = length s.arcs + length (nonarcs s.arcs (mentions s (length s.lines))) in
        let size : l.variables.arcs.count + length l.variables.nonarcs ≡ m = rw (after.variables_are.arcs_are.count, after.variables_are.nonarcs_are) refl in
        record {
          sound = after.variables_are.sound;
          few_sides = few-sides s (length s.lines) (λ k below. typed-clear s typed k below);
          named = rw after.names_are (sides-named s (length s.lines));
          placed = rw size
              (All-weaker (IsPaired s m (length s.lines)) (IsPlaced m (length (sides s (length s.lines)))) (λ c h. (h.0, h.1)) (coefs (givens s (length s.lines))) (paired-to s m inside (length s.lines) (omega arith)));
          apart = apart-to s m inside (λ k below g. distinct s lines k below g) (length s.lines) (omega arith);
        }

pub whole : (o : ProcOptions) (arcs : List Name) (roles : RoleColumns) (table : Grid) (l : LineState) → IsAfterLines (sparse_of o arcs roles table) (length (sparse_of o arcs roles table).lines) l
    → first_line_fault (sparse_of o arcs roles table) ≡ None → first_typed_to l ≡ None
    → (v : VariableList) (ns : List Name) (ss : List SideRow) (ls : TermLists) → v ≡ l.variables → ns ≡ l.names → ss ≡ (typed_to l (length l.taken)).sides → ls ≡ (typed_to l (length l.taken)).lists
    → first_bound_fault v.arcs.count (nonarc_defaults o) v.homes ls ≡ None
    → (sparse_fault o arcs roles table ≡ None) × AreConstraints arcs (sparse_constraints o arcs roles table) v ns ss ls
whole o arcs roles table l after lines found v ns ss ls ev en es el bounds =
    let s = sparse_of o arcs roles table in
    let n = length (sparse_of o arcs roles table).lines in
    let typed : first_typed_fault s ≡ None = sym (typed-same s l after) ∙ found in
    let state = ap (typed_to l) (taken-length s l after) ∙ typed-is s l after n (omega arith) in
    let sides_are : ss ≡ sides s n = es ∙ ap (λ t. t.sides) state in
    let lists_are : ls ≡ lists_of (givens s n) = el ∙ ap (λ t. t.lists) state in
    let size : length table.rows ≡ n = sym (map-length (sparse_line roles) table.rows) in
    let found_last : bounds_fault o arcs (mentions s (length table.rows)) (lists_of (givens s (length table.rows))) ≡ None =
    rw (ev, lists_are, after.variables_are.arcs_are.count, after.variables_are.homes_are, ← size) at bounds in
    let last = subst (λ j. bounds_fault o arcs (mentions s (length table.rows)) (lists_of (givens s j)) ≡ None) size found_last in (
      both (first_line_fault s) _ lines (both (first_typed_fault s) _ typed last),
      record {
        nonarcs_are = ap (λ q. q.nonarcs) ev ∙ after.variables_are.nonarcs_are;
        arcs_are = ap (λ q. q.arcs.count) ev ∙ after.variables_are.arcs_are.count;
        names_are = en ∙ after.names_are;
        sides_are = sides_are;
        lists_are = lists_are;
        ready = rw (ev, en, sides_are, lists_are) (ready s l after lines typed);
      },
    )

-- The fault of bounds is the first.
pub bounds-told : (o : ProcOptions) (arcs : List Name) (roles : RoleColumns) (table : Grid) (l : LineState) → IsAfterLines (sparse_of o arcs roles table) (length (sparse_of o arcs roles table).lines) l
    → first_line_fault (sparse_of o arcs roles table) ≡ None → first_typed_to l ≡ None
    → (v : VariableList) (ls : TermLists) → v ≡ l.variables → ls ≡ (typed_to l (length l.taken)).lists
    → (f : RowFault) → first_bound_fault v.arcs.count (nonarc_defaults o) v.homes ls ≡ Some f → IsRowFaultOf (sparse_fault o arcs roles table) f
bounds-told o arcs roles table l after lines found v ls ev el f bounds =
    let s = sparse_of o arcs roles table in
    let n = length (sparse_of o arcs roles table).lines in
    let typed : first_typed_fault s ≡ None = sym (typed-same s l after) ∙ found in
    let state = ap (typed_to l) (taken-length s l after) ∙ typed-is s l after n (omega arith) in
    let lists_are : ls ≡ lists_of (givens s n) = el ∙ ap (λ t. t.lists) state in
    let size : length table.rows ≡ n = sym (map-length (sparse_line roles) table.rows) in
    let found_last : bounds_fault o arcs (mentions s (length table.rows)) (lists_of (givens s (length table.rows))) ≡ Some f =
    rw (ev, lists_are, after.variables_are.arcs_are.count, after.variables_are.homes_are, ← size) at bounds in
    let last = subst (λ j. bounds_fault o arcs (mentions s (length table.rows)) (lists_of (givens s j)) ≡ Some f) size found_last in
    right-row (first_line_fault s) _ f lines (right-row (first_typed_fault s) _ f typed (inr last))
