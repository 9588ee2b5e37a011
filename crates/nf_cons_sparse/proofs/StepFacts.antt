-- The steps of one line of sparse CONDATA, put together: what they find and leave is what the line finds and leaves.
use Rattle.std.proofs.Common.{◌≡◌, ◌++◌, ◌∷◌, ◌∙◌, ◌<◌, ℕ, [], None, if◌then◌else◌, length, get_or, refl, sym, ap, subst}
use Rattle.nf_cells.specs.Names.{place_of, with_name}
use Rattle.nf_program.specs.declared.program.Role.TheVariants as role
use Rattle.nf_roles.specs.First.{or_else}
use Rattle.nf_cons.specs.declared.places.PlacedFault.{PlacedFault}
use Rattle.nf_cons.specs.Naming.{number_now}
use Rattle.nf_cons.specs.Places.{IsFaultOf, first_of}
use Rattle.nf_cons.proofs.FaultFacts.{both, left, right}
use Rattle.nf_cons_sparse.specs.declared.given.TakenLine.{TakenLine}
use Rattle.nf_cons_sparse.specs.LineState.{LineState, column_faults, given_now, given_with, line_faults_now, line_taken, no_given, righted, typed, variables_with, with_line}
use Rattle.nf_cons_sparse.specs.Sparse.{SparseLine, coef_right, has_coefficient, right_faults, row_faults, row_of, type_faults, value_if, variable_of}
use Rattle.nf_cons_sparse.proofs.GivenFacts.{given-before, set-length, set-there}
use Rattle.nf_cons_sparse.proofs.SplitFacts.{by-steps, column_part, right_part}

-- What is kept with the constraint, and then with its type.
abbrev pub with_row : LineState → SparseLine → LineState
with_row s l = record s { names = with_name s.names (row_of l); given = given_with s (row_of l) }

abbrev pub with_type : LineState → ℕ → SparseLine → LineState
with_type s i l = record (with_row s l) { given = typed (given_with s (row_of l)) i l.row_type }

module _ (s : LineState) (n : ℕ) (l : SparseLine) (each : length s.given ≡ length s.names) (i : ℕ) (place : i ≡ place_of (row_of l) s.names) (below : i < length (given_with s (row_of l))) where
  before : get_or (given_with s (row_of l)) i no_given ≡ given_now s (row_of l)
  before = ap (λ k. get_or (given_with s (row_of l)) k no_given) place ∙ given-before s (row_of l) each

  -- The constraint is there at each step.
  pub type-below : i < length (typed (given_with s (row_of l)) i l.row_type)
  type-below = rw (set-length (given_with s (row_of l)) i (record { row_type = or_else (get_or (given_with s (row_of l)) i no_given).row_type (value_if l.row_type); right = (get_or (given_with s (row_of l)) i no_given).right })) below

  pub column-below : i < length (righted (typed (given_with s (row_of l)) i l.row_type) i (coef_right l))
  column-below =
      let gs = typed (given_with s (row_of l)) i l.row_type in
      rw (set-length gs i (record { row_type = (get_or gs i no_given).row_type; right = or_else (get_or gs i no_given).right (value_if (coef_right l)) })) type-below

  right-typed : (get_or (typed (given_with s (row_of l)) i l.row_type) i no_given).right ≡ (given_now s (row_of l)).right
  right-typed =
      ap (λ g. g.right) (set-there (given_with s (row_of l)) i (record { row_type = or_else (get_or (given_with s (row_of l)) i no_given).row_type (value_if l.row_type); right = (get_or (given_with s (row_of l)) i no_given).right }) no_given below)
      ∙ ap (λ g. g.right) before

  right-column : (get_or (righted (typed (given_with s (row_of l)) i l.row_type) i (coef_right l)) i no_given).right ≡ or_else (given_now s (row_of l)).right (value_if (coef_right l))
  right-column =
      let gs = typed (given_with s (row_of l)) i l.row_type in
      ap (λ g. g.right) (set-there gs i (record { row_type = (get_or gs i no_given).row_type; right = or_else (get_or gs i no_given).right (value_if (coef_right l)) }) no_given type-below)
      ∙ ap (λ b. or_else b (value_if (coef_right l))) right-typed

  -- The faults of the steps.
  types : first_of (type_faults (get_or (given_with s (row_of l)) i no_given).row_type l.row_type) ≡ first_of (type_faults (given_now s (row_of l)).row_type l.row_type)
  types = ap (λ g. first_of (type_faults g.row_type l.row_type)) before

  columns : first_of (column_faults (with_type s i l) i n l) ≡ first_of (column_part s n l)
  columns = rw (right-typed, place) refl

  rights : first_of (right_faults role.Rhs (get_or (righted (typed (given_with s (row_of l)) i l.row_type) i (coef_right l)) i no_given).right l.right) ≡ first_of (right_part s l)
  rights = ap (λ b. first_of (right_faults role.Rhs b l.right)) right-column

  pub row-told : (f : PlacedFault) → IsFaultOf (first_of (row_faults l.row)) f → IsFaultOf (first_of (line_faults_now s n l)) f
  row-told f h = subst (λ o. IsFaultOf o f) (sym (by-steps s n l)) (left (first_of (row_faults l.row)) _ f h)

  pub type-told : first_of (row_faults l.row) ≡ None → (f : PlacedFault) → IsFaultOf (first_of (type_faults (get_or (given_with s (row_of l)) i no_given).row_type l.row_type)) f
      → IsFaultOf (first_of (line_faults_now s n l)) f
  type-told row f h =
      let t = first_of (type_faults (given_now s (row_of l)).row_type l.row_type) in
      subst (λ o. IsFaultOf o f) (sym (by-steps s n l))
      (right (first_of (row_faults l.row)) _ f row (left t _ f (subst (λ o. IsFaultOf o f) types h)))

  pub column-told : first_of (row_faults l.row) ≡ None → first_of (type_faults (get_or (given_with s (row_of l)) i no_given).row_type l.row_type) ≡ None
      → (f : PlacedFault) → IsFaultOf (first_of (column_faults (with_type s i l) i n l)) f → IsFaultOf (first_of (line_faults_now s n l)) f
  column-told row type f h =
      let t = first_of (type_faults (given_now s (row_of l)).row_type l.row_type) in
      subst (λ o. IsFaultOf o f) (sym (by-steps s n l))
      (right (first_of (row_faults l.row)) _ f row (right t _ f (sym types ∙ type) (left (first_of (column_part s n l)) _ f (subst (λ o. IsFaultOf o f) columns h))))

  pub right-told : first_of (row_faults l.row) ≡ None → first_of (type_faults (get_or (given_with s (row_of l)) i no_given).row_type l.row_type) ≡ None
      → first_of (column_faults (with_type s i l) i n l) ≡ None
      → (f : PlacedFault) → IsFaultOf (first_of (right_faults role.Rhs (get_or (righted (typed (given_with s (row_of l)) i l.row_type) i (coef_right l)) i no_given).right l.right)) f
      → IsFaultOf (first_of (line_faults_now s n l)) f
  right-told row type column f h =
      let t = first_of (type_faults (given_now s (row_of l)).row_type l.row_type) in
      subst (λ o. IsFaultOf o f) (sym (by-steps s n l))
      (right (first_of (row_faults l.row)) _ f row (right t _ f (sym types ∙ type) (right (first_of (column_part s n l)) _ f (sym columns ∙ column) (subst (λ o. IsFaultOf o f) rights h))))

  pub line-clear : first_of (row_faults l.row) ≡ None → first_of (type_faults (get_or (given_with s (row_of l)) i no_given).row_type l.row_type) ≡ None
      → first_of (column_faults (with_type s i l) i n l) ≡ None
      → first_of (right_faults role.Rhs (get_or (righted (typed (given_with s (row_of l)) i l.row_type) i (coef_right l)) i no_given).right l.right) ≡ None
      → first_of (line_faults_now s n l) ≡ None
  line-clear row type column right =
      by-steps s n l
      ∙ both (first_of (row_faults l.row)) _ row
      (both (first_of (type_faults (given_now s (row_of l)).row_type l.row_type)) _ (sym types ∙ type) (both (first_of (column_part s n l)) _ (sym columns ∙ column) (sym rights ∙ right)))

  -- What the steps leave.
  pub line-left : (t : TakenLine) → t ≡ line_taken (with_type s i l) i l
      → ◌≡◌ {A = LineState} (record {
        default = s.default;
        names = with_name s.names (row_of l);
        given = righted (righted (typed (given_with s (row_of l)) i l.row_type) i (coef_right l)) i l.right;
        variables = variables_with s.variables n l;
        pairs = if has_coefficient l then s.pairs ++ (i, number_now s.variables (variable_of l)) ∷ [] else s.pairs;
        taken = s.taken ++ t ∷ [];
      }) (with_line s n l)
  line-left t h = rw (h, place) refl
