-- The second pass over lines that were read: what is kept is what the lines say, and the faults are theirs.
use Rattle.std.proofs.Common.{◌≡◌, ◌⊎◌, inl, inr, ◌++◌, ◌∷◌, ◌∙◌, ◌<◌, ◌≤◌, ◌+◌, ◌&&◌, ℕ, zero, suc, Bool, true, false, not, List, [], Option, Some, None, Result, Ok, Err, MatchResult, if◌then◌else◌, length, get_or, refl, sym, ap, subst, arith}
use Rattle.std.proofs.lemmas.Bool.{cases_Bool, cases_lt}
use Rattle.std.proofs.lemmas.List.{append-nil, get_or-map, length-append}
use Rattle.std.specs.Bool.{nat_le, nat_lt}
use Rattle.nf_cells.specs.Names.{first_seen, has_name, place_of}
use Rattle.nf_cells.specs.declared.values.Cell.{Cell}
use Rattle.nf_cells.specs.declared.values.Cell.TheVariants.{Missing, Bad, Is}
use Rattle.nf_cells.proofs.SeenFacts.{at-place, place-less}
use Rattle.nf_program.specs.declared.program.Role.TheVariants as role
use Rattle.nf_roles.specs.declared.fault.DataKind.TheVariants as kind
use Rattle.nf_roles.specs.First.{or_else}
use Rattle.nf_network.specs.Arcs.{said}
use Rattle.nf_network.specs.Excess.{joined_below}
use Rattle.nf_network.specs.Faults.{is_said}
use Rattle.nf_network.proofs.Lists.{joined-more, joined-none, joined-ones}
use Rattle.nf_network.proofs.PassFacts.{map-length}
use Rattle.nf_cons.specs.declared.value.Value.{Value}
use Rattle.nf_cons.specs.declared.value.Value.TheVariants.{NoUpper}
use Rattle.nf_cons.specs.declared.row_type.RowType.{RowType}
use Rattle.nf_cons.specs.Dense.{most_constraints}
use Rattle.nf_cons.specs.declared.places.DataColumn.TheVariants.{OfRole}
use Rattle.nf_cons.specs.declared.places.PlacedFault.{PlacedFault}
use Rattle.nf_cons.specs.Places.{IsFaultOf, fault_if, first_of}
use Rattle.nf_cons.proofs.FaultFacts.{both, first-append, right}
use Rattle.nf_cons.specs.Terms.{Given, lists_of, no_lists, term_faults, with_given}
use Rattle.nf_cons.specs.Types.{is_side}
use Rattle.nf_cons.proofs.NameFacts.{has-front}
use Rattle.nf_cons.proofs.NamingFacts.{absent-place, place-tells-there}
use Rattle.nf_cons.proofs.TermFacts.{lists-more}
use Rattle.nf_cons_sparse.specs.declared.given.GivenRow.{GivenRow}
use Rattle.nf_cons_sparse.specs.declared.given.TakenLine.{TakenLine}
use Rattle.nf_cons_sparse.specs.LineState.{IsAfterLines, LineState, given_to, no_given}
use Rattle.nf_cons_sparse.specs.Sparse.{Sparse, coef_of, constraint_at, given_at, givens, has_coefficient, has_variable, is_right, line_at, line_term, row_name_at, row_names, row_number, row_of, side_at, side_number_at, side_numbers, sides, term_at, type_at, number_faults, typed_fault_at, value_faults, value_if, variable_number}
use Rattle.nf_cons_sparse.specs.TypedState.{TypedState, given_line, lists_with, no_taken, number_faults_now, numbers_with, sides_with, taken_faults, taken_line, typed_fault_to, typed_faults_now, typed_to, type_now, with_number, with_taken}
use Rattle.nf_cons_sparse.proofs.AfterFacts.{name-there, names-front, names-more, row-number}

-- ---- one for each
pub get-front : {A : Type 0} (xs ys : List A) (i : ℕ) (d : A) → i < length xs → get_or (xs ++ ys) i d ≡ get_or xs i d
get-front [] ys i d h = absurd (omega (arith, h))
get-front (x ∷ xs) ys zero d h = refl
get-front (x ∷ xs) ys (suc i) d h = get-front xs ys i d (omega (arith, h))

pub get-last : {A : Type 0} (xs : List A) (x d : A) → get_or (xs ++ x ∷ []) (length xs) d ≡ x
get-last [] x d = refl
get-last (y ∷ xs) x d = get-last xs x d

get-joined : {A : Type 0} (n k : ℕ) (f : ℕ → A) (d : A) → k < n → get_or (joined_below n (λ j. f j ∷ [])) k d ≡ f k
unfolding joined_below
get-joined zero k f d h = absurd (omega (arith, h))
get-joined (suc n) k f d h = by_cases (cases_lt k n) (get-joined n k f d)
  where
    by_cases : (k < n) ⊎ (n ≤ k) → (k < n → get_or (joined_below n (λ j. f j ∷ [])) k d ≡ f k) → get_or (joined_below n (λ j. f j ∷ []) ++ f n ∷ []) k d ≡ f k
    by_cases (inl less) before =
        let size = joined-ones n f in
        get-front (joined_below n (λ j. f j ∷ [])) (f n ∷ []) k d (omega (arith, size, less)) ∙ before less
    by_cases (inr more) before =
        let size = joined-ones n f in
        let last : k ≡ length (joined_below n (λ j. f j ∷ [])) = omega (arith, size, more, h) in
        let same : n ≡ k = omega (arith, more, h) in
        ap (λ i. get_or (joined_below n (λ j. f j ∷ []) ++ f n ∷ []) i d) last ∙ get-last (joined_below n (λ j. f j ∷ [])) (f n) d ∙ ap f same

abbrev pub taken_of : Sparse → ℕ → TakenLine
taken_of s k = record {
  row = row_number s k;
  variable = if has_variable (line_at s k) then Some (variable_number s k) else None;
  coef = value_if (coef_of (line_at s k));
}

-- ---- numbers of constraints
-- There is a number for each constraint.
pub numbers-length : (s : Sparse) (k : ℕ) → length (side_numbers s k) ≡ length (row_names s k)
unfolding first_seen
numbers-length s zero = rw (joined-none (side_number_at s), joined-none (row_name_at s)) refl
numbers-length s (suc k) = by_cases (cases_Bool (has_name (row_of (line_at s k)) (row_names s k))) (numbers-length s k)
  where
    next : suc k ≡ k + 1
    next = omega arith

    by_cases : (has_name (row_of (line_at s k)) (row_names s k) ≡ true) ⊎ (has_name (row_of (line_at s k)) (row_names s k) ≡ false) → length (side_numbers s k) ≡ length (row_names s k)
        → length (side_numbers s (suc k)) ≡ length (row_names s (suc k))
    by_cases (inl e) before = rw (next, joined-more k (side_number_at s), names-more s k, e, append-nil (side_numbers s k)) before
    by_cases (inr e) before =
        rw (next, joined-more k (side_number_at s), names-more s k, e)
        (length-append (side_numbers s k) (length (sides s k) ∷ []) ∙ ap (λ n. n + 1) before ∙ sym (length-append (row_names s k) (row_of (line_at s k) ∷ [])))

-- A constraint has a number where a line above has it.
pub first-tells : (s : Sparse) (k : ℕ) → k < length s.lines → nat_lt (row_number s k) (length (side_numbers s k)) ≡ has_name (row_of (line_at s k)) (row_names s k)
first-tells s k below =
    ap (λ i. nat_lt i (length (side_numbers s k))) (row-number s k below) ∙ ap (nat_lt (place_of (row_of (line_at s k)) (row_names s k))) (numbers-length s k)
    ∙ place-tells-there (row_of (line_at s k)) (row_names s k)

-- ---- what a line gives
not-right : (b c : Bool) → b && not c ≡ true → c ≡ false
not-right true false h = refl
not-right true true h = absurd (cc)
not-right false c h = absurd (cc)

coef-is : (s : Sparse) (k : ℕ) → has_variable (line_at s k) ≡ true → coef_of (line_at s k) ≡ (line_at s k).coef
coef-is s k e = ap (λ b. if b then Missing else (line_at s k).coef) (not-right (is_said (line_at s k).column) (is_right (line_at s k)) e)

given-said : (s : Sparse) (k : ℕ) (x : Value) → has_variable (line_at s k) ≡ true → (line_at s k).coef ≡ Is x
    → given_at s k ≡ record { row_type = type_at s k; term = line_term (length s.arcs) (variable_number s k) x; constraint = constraint_at s k; row = k + 1 } ∷ []
unfolding given_at
given-said s k x e q = rw (e, q) refl

given-missing : (s : Sparse) (k : ℕ) → has_variable (line_at s k) ≡ true → is_said (line_at s k).coef ≡ false → given_at s k ≡ []
unfolding given_at
given-missing s k e q = rw (e, q) refl

given-other : (s : Sparse) (k : ℕ) → has_variable (line_at s k) ≡ false → given_at s k ≡ []
unfolding given_at
given-other s k e = rw e refl

lists-none : (st : TypedState) (t : RowType) (c n : ℕ) (x : Option Value) → lists_with st t c n None x ≡ st.lists
lists-none st t c n None = refl
lists-none st t c n (Some x) = refl

faults-none : (st : TypedState) (t : RowType) (cell : Cell Value) → first_of (taken_faults st t None (value_if cell)) ≡ first_of (value_faults t cell)
faults-none st t Missing = refl
faults-none st t Bad = refl
faults-none st t (Is x) = refl

module _ (s : Sparse) (l : LineState) (after : IsAfterLines s (length s.lines) l) where
  pub taken-length : length l.taken ≡ length s.lines
  taken-length = ap length after.taken_are ∙ joined-ones (length s.lines) (taken_of s)

  pub taken-is : (k : ℕ) → k < length s.lines → taken_line l k ≡ taken_of s k
  taken-is k below = ap (λ ts. get_or ts k no_taken) after.taken_are ∙ get-joined (length s.lines) k (taken_of s) no_taken below

  name-in : (k : ℕ) → k < length s.lines → has_name (row_of (line_at s k)) l.names ≡ true
  name-in k below =
      let rest = names-front s (k + 1) (length s.lines) (omega (arith, below)) in
      ap (has_name (row_of (line_at s k))) (after.names_are ∙ rest.1) ∙ has-front (row_of (line_at s k)) (row_names s (k + 1)) rest.0 (name-there s k)

  place-is : (k : ℕ) → row_number s k ≡ place_of (row_of (line_at s k)) l.names
  place-is k = ap (place_of (row_of (line_at s k))) (sym after.names_are)

  pub row-given : (k : ℕ) → k < length s.lines → row_number s k < length l.given
  row-given k below =
      let less = place-less (row_of (line_at s k)) l.names (name-in k below) in
      let place = place-is k in
      let size = ap length after.given_are ∙ map-length (given_to s (length s.lines)) l.names in
      omega (arith, less, place, size)

  pub given-line : (k : ℕ) → k < length s.lines → given_line l k ≡ given_to s (length s.lines) (row_of (line_at s k))
  given-line k below =
      ap (λ t. get_or l.given t.row no_given) (taken-is k below) ∙ ap (λ i. get_or l.given i no_given) (place-is k)
      ∙ ap (λ gs. get_or gs (place_of (row_of (line_at s k)) l.names) no_given) after.given_are
      ∙ get_or-map (given_to s (length s.lines)) l.names (place_of (row_of (line_at s k)) l.names) [] no_given (place-less (row_of (line_at s k)) l.names (name-in k below))
      ∙ ap (given_to s (length s.lines)) (at-place (row_of (line_at s k)) l.names [] (name-in k below))

  -- What is kept of the first k lines.
  abbrev pub state_to : ℕ → TypedState
  state_to k = record { default = s.default; variables = l.variables; names = l.names; sides = sides s k; lists = lists_of (givens s k); numbers = side_numbers s k }

  numbers-next : (k : ℕ) → k < length s.lines → numbers_with (state_to k) (row_number s k) ≡ side_numbers s (k + 1)
  numbers-next k below = by_cases (cases_Bool (has_name (row_of (line_at s k)) (row_names s k)))
    where
      by_cases : (has_name (row_of (line_at s k)) (row_names s k) ≡ true) ⊎ (has_name (row_of (line_at s k)) (row_names s k) ≡ false) → numbers_with (state_to k) (row_number s k) ≡ side_numbers s (k + 1)
      by_cases (inl e) = rw (first-tells s k below, joined-more k (side_number_at s), e) (sym (append-nil (side_numbers s k)))
      by_cases (inr e) = rw (first-tells s k below, joined-more k (side_number_at s), e) refl

  sides-next : (k : ℕ) → k < length s.lines
      → sides_with (state_to k) (row_number s k) (type_at s k) (given_to s (length s.lines) (row_of (line_at s k))).right ≡ sides s (k + 1)
  sides-next k below = by_cases (cases_Bool (has_name (row_of (line_at s k)) (row_names s k)))
    where
      by_cases : (has_name (row_of (line_at s k)) (row_names s k) ≡ true) ⊎ (has_name (row_of (line_at s k)) (row_names s k) ≡ false)
          → sides_with (state_to k) (row_number s k) (type_at s k) (given_to s (length s.lines) (row_of (line_at s k))).right ≡ sides s (k + 1)
      by_cases (inl e) = rw (first-tells s k below, joined-more k (side_at s), e) (sym (append-nil (sides s k)))
      by_cases (inr e) =
          let place : row_number s k ≡ length (row_names s k) = row-number s k below ∙ absent-place (row_of (line_at s k)) (row_names s k) e in
          rw (first-tells s k below, joined-more k (side_at s), e, place) refl

  arcs-are : l.variables.arcs.count ≡ length s.arcs
  arcs-are = after.variables_are.arcs_are.count

  lists-next : (k : ℕ) → lists_with (state_to k) (type_at s k) (constraint_at s k) (k + 1) (taken_of s k).variable (taken_of s k).coef ≡ lists_of (givens s (k + 1))
  lists-next k = by_cases (cases_Bool (has_variable (line_at s k)))
    where
      more : (gs : List Given) → given_at s k ≡ gs → lists_of (givens s (k + 1)) ≡ lists_of (givens s k ++ gs)
      more gs h = ap lists_of (joined-more k (given_at s) ∙ ap (λ hs. givens s k ++ hs) h)

      none : given_at s k ≡ [] → lists_of (givens s (k + 1)) ≡ lists_of (givens s k)
      none h = more [] h ∙ ap lists_of (append-nil (givens s k))

      by_coef : has_variable (line_at s k) ≡ true → (c : Cell Value) → (line_at s k).coef ≡ c
          → lists_with (state_to k) (type_at s k) (constraint_at s k) (k + 1) (Some (variable_number s k)) (value_if c) ≡ lists_of (givens s (k + 1))
      by_coef e Missing q = sym (none (given-missing s k e (ap is_said q)))
      by_coef e Bad q = sym (none (given-missing s k e (ap is_said q)))
      by_coef e (Is x) q =
          let g : Given = record { row_type = type_at s k; term = line_term (length s.arcs) (variable_number s k) x; constraint = constraint_at s k; row = k + 1 } in
          ap (λ a. with_given (lists_of (givens s k)) (record { row_type = type_at s k; term = line_term a (variable_number s k) x; constraint = constraint_at s k; row = k + 1 })) arcs-are
          ∙ sym (lists-more (givens s k) g) ∙ sym (more (g ∷ []) (given-said s k x e q))

      by_cases : (has_variable (line_at s k) ≡ true) ⊎ (has_variable (line_at s k) ≡ false)
          → lists_with (state_to k) (type_at s k) (constraint_at s k) (k + 1) (taken_of s k).variable (taken_of s k).coef ≡ lists_of (givens s (k + 1))
      by_cases (inl e) = rw (e, coef-is s k e) (by_coef e (line_at s k).coef refl)
      by_cases (inr e) = rw e (lists-none (state_to k) (type_at s k) (constraint_at s k) (k + 1) (value_if (coef_of (line_at s k))) ∙ sym (none (given-other s k e)))

  pub typed-is : (k : ℕ) → k ≤ length s.lines → typed_to l k ≡ state_to k
  unfolding typed_to
  typed-is zero h = rw (after.default_is, joined-none (side_at s), joined-none (given_at s), joined-none (side_number_at s)) refl
  typed-is (suc k) h =
      let below : k < length s.lines = omega (arith, h) in
      let next : suc k ≡ k + 1 = omega arith in
      let line = taken-is k below in
      let given = given-line k below in
      let numbers = numbers-next k below in
      let constraint : get_or (numbers_with (state_to k) (row_number s k)) (row_number s k) 0 ≡ constraint_at s k = ap (λ ns. get_or ns (row_number s k) 0) numbers in
      ap (λ st. with_taken st (taken_line l k) (given_line l k) (k + 1)) (typed-is k (omega (arith, h)))
      ∙ ap (λ t. with_taken (state_to k) t (given_line l k) (k + 1)) line
      ∙ ap (λ g. with_taken (state_to k) (taken_of s k) g (k + 1)) given
      ∙ ap (λ ls. record {
        default = s.default;
        variables = l.variables;
        names = l.names;
        sides = sides_with (state_to k) (row_number s k) (type_at s k) (given_to s (length s.lines) (row_of (line_at s k))).right;
        lists = lists_with (state_to k) (type_at s k) ls (k + 1) (taken_of s k).variable (taken_of s k).coef;
        numbers = numbers_with (state_to k) (row_number s k);
      }) constraint
      ∙ rw (sides-next k below, lists-next k, numbers, next) refl

  pub typed-fault : (k : ℕ) → k < length s.lines → typed_fault_to l k ≡ typed_fault_at s k
  unfolding typed_fault_to typed_fault_at
  typed-fault k below =
      ap (λ st. first_of (typed_faults_now st (taken_line l k) (given_line l k))) (typed-is k (omega (arith, below)))
      ∙ ap (λ t. first_of (typed_faults_now (state_to k) t (given_line l k))) (taken-is k below)
      ∙ ap (λ g. first_of (typed_faults_now (state_to k) (taken_of s k) g)) (given-line k below)
      ∙ ap (λ b. first_of ((fault_if (not b && is_side (type_at s k) && nat_le most_constraints (length (sides s k))) (OfRole role.Row) kind.LimitPassed ∷ [])
      ++ taken_faults (state_to k) (type_at s k) (taken_of s k).variable (taken_of s k).coef)) (first-tells s k below)
      ∙ by_cases (cases_Bool (has_variable (line_at s k)))
    where
      by_cases : (has_variable (line_at s k) ≡ true) ⊎ (has_variable (line_at s k) ≡ false)
          → first_of (number_faults s k ++ taken_faults (state_to k) (type_at s k) (taken_of s k).variable (taken_of s k).coef)
          ≡ first_of (number_faults s k ++ (if has_coefficient (line_at s k) then term_faults (type_at s k) (term_at s k) (lists_of (givens s k)) else value_faults (type_at s k) (coef_of (line_at s k))))
      by_cases (inl e) =
          ap (λ b. first_of (number_faults s k ++ taken_faults (state_to k) (type_at s k) (if b then Some (variable_number s k) else None) (value_if (coef_of (line_at s k))))) e
          ∙ ap (λ c. first_of (number_faults s k ++ taken_faults (state_to k) (type_at s k) (Some (variable_number s k)) (value_if c))) (coef-is s k e)
          ∙ by_coef (line_at s k).coef
          ∙ ap (λ c. first_of (number_faults s k ++ (if is_said (line_at s k).coef then term_faults (type_at s k) (term_at s k) (lists_of (givens s k)) else value_faults (type_at s k) c))) (sym (coef-is s k e))
          ∙ ap (λ b. first_of (number_faults s k ++ (if b && is_said (line_at s k).coef then term_faults (type_at s k) (term_at s k) (lists_of (givens s k)) else value_faults (type_at s k) (coef_of (line_at s k))))) (sym e)
        where
          by_coef : (c : Cell Value) → first_of (number_faults s k ++ taken_faults (state_to k) (type_at s k) (Some (variable_number s k)) (value_if c))
              ≡ first_of (number_faults s k ++ (if is_said c then term_faults (type_at s k) (line_term (length s.arcs) (variable_number s k) (said NoUpper c)) (lists_of (givens s k)) else value_faults (type_at s k) c))
          by_coef Missing = refl
          by_coef Bad = refl
          by_coef (Is x) = ap (λ a. first_of (number_faults s k ++ term_faults (type_at s k) (line_term a (variable_number s k) x) (lists_of (givens s k)))) arcs-are
      by_cases (inr e) =
          ap (λ b. first_of (number_faults s k ++ taken_faults (state_to k) (type_at s k) (if b then Some (variable_number s k) else None) (value_if (coef_of (line_at s k))))) e
          ∙ first-append (number_faults s k) (taken_faults (state_to k) (type_at s k) None (value_if (coef_of (line_at s k))))
          ∙ ap (or_else (first_of (number_faults s k))) (faults-none (state_to k) (type_at s k) (coef_of (line_at s k)))
          ∙ sym (first-append (number_faults s k) (value_faults (type_at s k) (coef_of (line_at s k))))
          ∙ ap (λ b. first_of (number_faults s k ++ (if b && is_said (line_at s k).coef then term_faults (type_at s k) (term_at s k) (lists_of (givens s k)) else value_faults (type_at s k) (coef_of (line_at s k))))) (sym e)

-- ---- the lines of the first pass, one by one
pub typed-more : (l : LineState) (k : ℕ) → with_taken (typed_to l k) (taken_line l k) (given_line l k) (k + 1) ≡ typed_to l (k + 1)
unfolding typed_to
typed-more l k = let next : suc k ≡ k + 1 = omega arith in ap (typed_to l) next

abbrev pub typed_start : LineState → TypedState
typed_start l = record { default = l.default; variables = l.variables; names = l.names; sides = []; lists = no_lists; numbers = [] }

pub typed-none : (l : LineState) → typed_to l 0 ≡ typed_start l
unfolding typed_to
typed-none l = refl

pub fault-now : (l : LineState) (k : ℕ) → first_of (typed_faults_now (typed_to l k) (taken_line l k) (given_line l k)) ≡ typed_fault_to l k
unfolding typed_fault_to
fault-now l k = refl

pub kept-typed : (l : LineState) (k : ℕ) → ((typed_to l k).variables ≡ l.variables) × ((typed_to l k).names ≡ l.names)
unfolding typed_to
kept-typed l zero = (refl, refl)
kept-typed l (suc k) = kept-typed l k

-- ---- one line
pub map-match : {A B : Type 0} (r : Result A B) {P Q : A → Type 0} {S T : B → Type 0} → MatchResult r P S → ((x : A) → P x → Q x) → ((e : B) → S e → T e) → MatchResult r Q T
map-match (Ok x) h f g = f x h
map-match (Err e) h f g = g e h

pub take-clear : (s : TypedState) (l : TakenLine) (g : GivenRow) (n : ℕ) (t : RowType) (v : ℕ) (x : Value) (a new : TypedState) → t ≡ type_now s g → l.variable ≡ Some v → l.coef ≡ Some x
    → first_of (number_faults_now s l.row t) ≡ None → a ≡ with_number s l.row t g.right
    → (first_of (term_faults t (line_term a.variables.arcs.count v x) a.lists) ≡ None)
    × (new ≡ record a { lists = with_given a.lists (record { row_type = t; term = line_term a.variables.arcs.count v x; constraint = get_or a.numbers l.row 0; row = n }) })
    → (first_of (typed_faults_now s l g) ≡ None) × (new ≡ with_taken s l g n)
take-clear s l g n t v x a new et ev ex number ea h =
    let k = rw (ea, et) at h in
    let c : first_of (number_faults_now s l.row (type_now s g)) ≡ None = rw et at number in
    let d : first_of (taken_faults s (type_now s g) l.variable l.coef) ≡ None = rw (ev, ex) k.0 in (
      first-append (number_faults_now s l.row (type_now s g)) (taken_faults s (type_now s g) l.variable l.coef)
          ∙ both (first_of (number_faults_now s l.row (type_now s g))) (first_of (taken_faults s (type_now s g) l.variable l.coef)) c d,
      k.1 ∙ rw (ev, ex) refl,
    )

pub take-told : (s : TypedState) (l : TakenLine) (g : GivenRow) (t : RowType) (v : ℕ) (x : Value) (a : TypedState) (f : PlacedFault) → t ≡ type_now s g → l.variable ≡ Some v → l.coef ≡ Some x
    → first_of (number_faults_now s l.row t) ≡ None → a ≡ with_number s l.row t g.right
    → IsFaultOf (first_of (term_faults t (line_term a.variables.arcs.count v x) a.lists)) f → IsFaultOf (first_of (typed_faults_now s l g)) f
take-told s l g t v x a f et ev ex number ea h =
    let k = rw (ea, et) at h in
    let c : first_of (number_faults_now s l.row (type_now s g)) ≡ None = rw et at number in
    let d : IsFaultOf (first_of (taken_faults s (type_now s g) l.variable l.coef)) f = rw (ev, ex) k in
    subst (λ o. IsFaultOf o f) (sym (first-append (number_faults_now s l.row (type_now s g)) (taken_faults s (type_now s g) l.variable l.coef)))
    (right (first_of (number_faults_now s l.row (type_now s g))) (first_of (taken_faults s (type_now s g) l.variable l.coef)) f c d)

-- The same for a line that gives no variable a value.
pub value-clear : (s : TypedState) (l : TakenLine) (g : GivenRow) (n : ℕ) (t : RowType) (x : Value) (a new : TypedState) → t ≡ type_now s g → l.variable ≡ None → l.coef ≡ Some x
    → first_of (number_faults_now s l.row t) ≡ None → a ≡ with_number s l.row t g.right → new ≡ a → first_of (value_faults t (Is x)) ≡ None
    → (first_of (typed_faults_now s l g) ≡ None) × (new ≡ with_taken s l g n)
value-clear s l g n t x a new et ev ex number ea en h =
    let c : first_of (number_faults_now s l.row (type_now s g)) ≡ None = rw et at number in
    let k : first_of (value_faults (type_now s g) (Is x)) ≡ None = rw et at h in
    let d : first_of (taken_faults s (type_now s g) l.variable l.coef) ≡ None = rw (ev, ex) k in
    let m : a ≡ with_number s l.row (type_now s g) g.right = rw et at ea in (
      first-append (number_faults_now s l.row (type_now s g)) (taken_faults s (type_now s g) l.variable l.coef)
          ∙ both (first_of (number_faults_now s l.row (type_now s g))) (first_of (taken_faults s (type_now s g) l.variable l.coef)) c d,
      en ∙ m ∙ rw (ev, ex) refl,
    )

pub value-told : (s : TypedState) (l : TakenLine) (g : GivenRow) (t : RowType) (x : Value) (f : PlacedFault) → t ≡ type_now s g → l.variable ≡ None → l.coef ≡ Some x
    → first_of (number_faults_now s l.row t) ≡ None → IsFaultOf (first_of (value_faults t (Is x))) f → IsFaultOf (first_of (typed_faults_now s l g)) f
value-told s l g t x f et ev ex number h =
    let c : first_of (number_faults_now s l.row (type_now s g)) ≡ None = rw et at number in
    let k : IsFaultOf (first_of (value_faults (type_now s g) (Is x))) f = rw et at h in
    let d : IsFaultOf (first_of (taken_faults s (type_now s g) l.variable l.coef)) f = rw (ev, ex) k in
    subst (λ o. IsFaultOf o f) (sym (first-append (number_faults_now s l.row (type_now s g)) (taken_faults s (type_now s g) l.variable l.coef)))
    (right (first_of (number_faults_now s l.row (type_now s g))) (first_of (taken_faults s (type_now s g) l.variable l.coef)) f c d)
