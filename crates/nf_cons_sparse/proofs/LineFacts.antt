-- Facts on one line of sparse CONDATA: what COLUMN and COEF find and leave.
use Rattle.std.proofs.Common.{◌≡◌, ◌++◌, ◌∷◌, ◌∙◌, ◌&&◌, ℕ, zero, suc, Bool, true, false, not, List, [], Option, Some, None, if◌then◌else◌, get_or, slice_set, refl, sym, ap, subst}
use Rattle.nf_frac.specs.declared.amount.Amount.{Amount}
use Rattle.nf_cells.specs.Names.{Name}
use Rattle.nf_cells.specs.declared.values.Cell.{Cell}
use Rattle.nf_cells.specs.declared.values.Cell.TheVariants.{Missing, Bad, Is}
use Rattle.nf_program.specs.declared.program.Role.TheVariants as role
use Rattle.nf_roles.specs.First.{or_else}
use Rattle.nf_network.specs.Faults.{is_bad, is_said}
use Rattle.nf_cons.specs.declared.value.Value.{Value}
use Rattle.nf_cons.specs.declared.places.PlacedFault.{PlacedFault}
use Rattle.nf_cons.specs.declared.row_type.RowType.{RowType}
use Rattle.nf_cons.specs.Naming.{VariableList, faults_now, number_now, with_mention}
use Rattle.nf_cons.specs.Places.{IsFaultOf, first_of}
use Rattle.nf_cons.proofs.FaultFacts.{both, first-append, left, right}
use Rattle.nf_cons_sparse.specs.declared.given.GivenRow.{GivenRow}
use Rattle.nf_cons_sparse.specs.declared.given.TakenLine.{TakenLine}
use Rattle.nf_cons_sparse.specs.LineState.{LineState, cell_faults, cell_number, cell_variables, column_faults, gives_pair, line_taken, name_faults_now, no_given, pair_faults, pair_of, righted, variables_with, with_column}
use Rattle.nf_cons_sparse.specs.Sparse.{SparseLine, as_right, coef_faults, coef_right, has_coefficient, has_variable, is_right, mention_of, right_differs, right_faults, value_if, variable_of}

and-true : (b : Bool) → b && true ≡ b
and-true true = refl
and-true false = refl

-- A line that has no right side in the place of a variable has a variable where COLUMN is said.
has-said : (l : SparseLine) → is_right l ≡ false → has_variable l ≡ is_said l.column
has-said l h = ap (λ b. is_said l.column && not b) h ∙ and-true (is_said l.column)

names-said : (v : VariableList) (n : ℕ) (l : SparseLine) → is_right l ≡ false → name_faults_now v n l ≡ cell_faults v n l.column
names-said v n l h = ap (λ b. if b then faults_now v false (mention_of n l) else []) (has-said l h)

-- The fault of COLUMN is that of the line.
pub name-fault : (s : LineState) (i n : ℕ) (l : SparseLine) (f : PlacedFault) → is_right l ≡ false → IsFaultOf (first_of (cell_faults s.variables n l.column)) f
    → IsFaultOf (first_of (column_faults s i n l)) f
name-fault s i n l f h fault =
    let rest = right_faults role.Coef (get_or s.given i no_given).right (coef_right l) ++ coef_faults s.pairs (i, number_now s.variables (variable_of l)) l in
    let named : IsFaultOf (first_of (name_faults_now s.variables n l)) f = subst (λ fs. IsFaultOf (first_of fs) f) (sym (names-said s.variables n l h)) fault in
    subst (λ o. IsFaultOf o f) (sym (first-append (name_faults_now s.variables n l) rest)) (left (first_of (name_faults_now s.variables n l)) (first_of rest) f named)

-- A missing right side differs from none.
no-differs : (b : Option Amount) → right_differs b Missing ≡ false
no-differs None = refl
no-differs (Some a) = refl

-- What is said by numbers.
pub taken-same : (s : LineState) (i : ℕ) (l : SparseLine) → is_right l ≡ false
    → ◌≡◌ {A = TakenLine} (record { row = i; variable = cell_number s.variables l.column; coef = value_if l.coef }) (line_taken s i l)
taken-same s i l h =
    ap (λ b. record { row = i; variable = if b then Some (number_now s.variables (variable_of l)) else None; coef = value_if l.coef }) (sym (has-said l h))
    ∙ ap (λ b. record { row = i; variable = if has_variable l then Some (number_now s.variables (variable_of l)) else None; coef = value_if (if b then Missing else l.coef) }) (sym h)

-- The faults of the pair are those of COEF, which is not bad.
pairs-same : (s : LineState) (before : Option Amount) (i : ℕ) (r : Cell Name) (t : Cell RowType) (column : Cell Name) (coef : Cell Value) (g : Cell Amount)
    → is_right (record { row = r; row_type = t; column = column; coef = coef; right = g }) ≡ false → is_bad coef ≡ false
    → first_of (right_faults role.Coef before (coef_right (record { row = r; row_type = t; column = column; coef = coef; right = g }))
    ++ coef_faults s.pairs (i, number_now s.variables (variable_of (record { row = r; row_type = t; column = column; coef = coef; right = g }))) (record { row = r; row_type = t; column = column; coef = coef; right = g }))
    ≡ first_of (pair_faults s.pairs (record { row = i; variable = cell_number s.variables column; coef = value_if coef }))
pairs-same s before i r t Missing Missing g h good = rw (no-differs before) refl
pairs-same s before i r t Missing (Is y) g h good = rw (no-differs before) refl
pairs-same s before i r t Missing Bad g h good = absurd (cc)
pairs-same s before i r t Bad Missing g h good = rw (no-differs before) refl
pairs-same s before i r t Bad (Is y) g h good = rw (no-differs before) refl
pairs-same s before i r t Bad Bad g h good = absurd (cc)
pairs-same s before i r t (Is x) Missing g h good = rw (h, no-differs before) refl
pairs-same s before i r t (Is x) (Is y) g h good = rw (h, no-differs before) refl
pairs-same s before i r t (Is x) Bad g h good = absurd (cc)

pub pair-fault : (s : LineState) (i n : ℕ) (l : SparseLine) (f : PlacedFault) → is_right l ≡ false → is_bad l.coef ≡ false → first_of (cell_faults s.variables n l.column) ≡ None
    → IsFaultOf (first_of (pair_faults s.pairs (record { row = i; variable = cell_number s.variables l.column; coef = value_if l.coef }))) f
    → IsFaultOf (first_of (column_faults s i n l)) f
pair-fault s i n l f h good clear fault =
    let rest = right_faults role.Coef (get_or s.given i no_given).right (coef_right l) ++ coef_faults s.pairs (i, number_now s.variables (variable_of l)) l in
    let named : first_of (name_faults_now s.variables n l) ≡ None = ap first_of (names-said s.variables n l h) ∙ clear in
    let same : first_of rest ≡ first_of (pair_faults s.pairs (record { row = i; variable = cell_number s.variables l.column; coef = value_if l.coef })) =
    pairs-same s (get_or s.given i no_given).right i l.row l.row_type l.column l.coef l.right h good in
    subst (λ o. IsFaultOf o f) (sym (first-append (name_faults_now s.variables n l) rest))
    (right (first_of (name_faults_now s.variables n l)) (first_of rest) f named (subst (λ o. IsFaultOf o f) (sym same) fault))

pub pair-clear : (s : LineState) (i n : ℕ) (l : SparseLine) → is_right l ≡ false → is_bad l.coef ≡ false → first_of (cell_faults s.variables n l.column) ≡ None
    → first_of (pair_faults s.pairs (record { row = i; variable = cell_number s.variables l.column; coef = value_if l.coef })) ≡ None
    → first_of (column_faults s i n l) ≡ None
pair-clear s i n l h good clear none =
    let rest = right_faults role.Coef (get_or s.given i no_given).right (coef_right l) ++ coef_faults s.pairs (i, number_now s.variables (variable_of l)) l in
    let named : first_of (name_faults_now s.variables n l) ≡ None = ap first_of (names-said s.variables n l h) ∙ clear in
    let same : first_of rest ≡ first_of (pair_faults s.pairs (record { row = i; variable = cell_number s.variables l.column; coef = value_if l.coef })) =
    pairs-same s (get_or s.given i no_given).right i l.row l.row_type l.column l.coef l.right h good in
    first-append (name_faults_now s.variables n l) rest ∙ both (first_of (name_faults_now s.variables n l)) (first_of rest) named (same ∙ none)

-- A cell that is not bad.
pub not-bad : {A : Type 0} (c : Cell A) → (c ≡ Bad → ⊥) → is_bad c ≡ false
not-bad Missing h = refl
not-bad (Is x) h = refl
not-bad Bad h = absurd (h refl)

-- A missing right side leaves what is given as it is.
same-set : {A : Type 0} (xs : List A) (i : ℕ) (d : A) → slice_set xs i (get_or xs i d) ≡ xs
same-set [] zero d = refl
same-set [] (suc i) d = refl
same-set (x ∷ xs) zero d = refl
same-set (x ∷ xs) (suc i) d = ap (λ ys. x ∷ ys) (same-set xs i d)

or-none : {A : Type 0} (b : Option A) → or_else b None ≡ b
or-none None = refl
or-none (Some x) = refl

righted-none : (gs : List GivenRow) (i : ℕ) → righted gs i Missing ≡ gs
righted-none gs i =
    ap (λ r. slice_set gs i (record { row_type = (get_or gs i no_given).row_type; right = r })) (or-none (get_or gs i no_given).right) ∙ same-set gs i no_given

-- The pairs with a line.
pairs-left : (s : LineState) (i : ℕ) (r : Cell Name) (t : Cell RowType) (column : Cell Name) (coef : Cell Value) (g : Cell Amount)
    → is_right (record { row = r; row_type = t; column = column; coef = coef; right = g }) ≡ false
    → (if gives_pair (record { row = i; variable = cell_number s.variables column; coef = value_if coef }) then s.pairs ++ pair_of (record { row = i; variable = cell_number s.variables column; coef = value_if coef }) ∷ [] else s.pairs)
    ≡ (if has_coefficient (record { row = r; row_type = t; column = column; coef = coef; right = g })
    then s.pairs ++ (i, number_now s.variables (variable_of (record { row = r; row_type = t; column = column; coef = coef; right = g }))) ∷ [] else s.pairs)
pairs-left s i r t Missing coef g h = refl
pairs-left s i r t Bad coef g h = refl
pairs-left s i r t (Is x) Missing g h = rw h refl
pairs-left s i r t (Is x) Bad g h = rw h refl
pairs-left s i r t (Is x) (Is y) g h = rw h refl

-- What is kept with other givens, variables and pairs.
abbrev state_of : LineState → List GivenRow → VariableList → List (ℕ × ℕ) → LineState
state_of s gs v ps = record { default = s.default; names = s.names; given = gs; variables = v; pairs = ps; taken = s.taken }

pub column-same : (s : LineState) (i n : ℕ) (l : SparseLine) → is_right l ≡ false
    → ◌≡◌ {A = LineState} (record {
      default = s.default;
      names = s.names;
      given = s.given;
      variables = cell_variables s.variables n l.column;
      pairs = if gives_pair (record { row = i; variable = cell_number s.variables l.column; coef = value_if l.coef }) then s.pairs ++ pair_of (record { row = i; variable = cell_number s.variables l.column; coef = value_if l.coef }) ∷ [] else s.pairs;
      taken = s.taken;
    }) (with_column s i n l)
column-same s i n l h =
    let variables : cell_variables s.variables n l.column ≡ variables_with s.variables n l = ap (λ b. if b then with_mention s.variables (mention_of n l) else s.variables) (sym (has-said l h)) in
    let missing : coef_right l ≡ Missing = ap (λ b. if b then as_right l.coef else Missing) h in
    let given : righted s.given i (coef_right l) ≡ s.given = ap (righted s.given i) missing ∙ righted-none s.given i in
    let ps = pairs-left s i l.row l.row_type l.column l.coef l.right h in
    ap (λ v. state_of s s.given v (if gives_pair (record { row = i; variable = cell_number s.variables l.column; coef = value_if l.coef }) then s.pairs ++ pair_of (record { row = i; variable = cell_number s.variables l.column; coef = value_if l.coef }) ∷ [] else s.pairs)) variables
    ∙ ap (state_of s s.given (variables_with s.variables n l)) ps
    ∙ ap (λ gs. state_of s gs (variables_with s.variables n l) (if has_coefficient l then s.pairs ++ (i, number_now s.variables (variable_of l)) ∷ [] else s.pairs)) (sym given)
