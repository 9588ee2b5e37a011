-- One line more: its faults by what is kept are those that it has, and what is kept with it is that of one line more.
use Rattle.std.proofs.Common.{◌≡◌, ◌⊎◌, inl, inr, ◌++◌, ◌∷◌, ◌∙◌, ◌<◌, ◌+◌, ◌^◌, ℕ, suc, true, false, List, [], None, if◌then◌else◌, length, get_or, refl, sym, ap, arith}
use Rattle.std.proofs.lemmas.Bool.{cases_Bool}
use Rattle.std.proofs.lemmas.List.{append-nil, get_or-map}
use Rattle.nf_table.specs.Grid.{Grid}
use Rattle.nf_cells.specs.Names.{Name, first_seen, is_once, place_of, with_name}
use Rattle.nf_cells.proofs.SeenFacts.{once-with}
use Rattle.nf_program.specs.declared.program.ProcOptions.{ProcOptions}
use Rattle.nf_program.specs.declared.program.Role.TheVariants as role
use Rattle.nf_roles.specs.First.{or_else}
use Rattle.nf_roles.specs.Roles.{RoleColumns}
use Rattle.nf_network.specs.Excess.{joined_below}
use Rattle.nf_network.proofs.Lists.{joined-more, joined-none}
use Rattle.nf_network.proofs.PassFacts.{map-length}
use Rattle.nf_cons.specs.ArcList.{ArcList, AreArcs}
use Rattle.nf_cons.specs.Naming.{faults_now, number_now}
use Rattle.nf_cons.specs.Passing.{AreNamed}
use Rattle.nf_cons.specs.Places.{first_of}
use Rattle.nf_cons.proofs.FaultFacts.{first-append, or-first, or-second}
use Rattle.nf_cons.proofs.HeaderFacts.{named-none}
use Rattle.nf_cons.proofs.NamingFacts.{faults-same, named-next}
use Rattle.nf_cons_sparse.specs.LineState.{IsAfterLines, IsKept, LineState, given_now, given_to, line_faults_now, name_faults_now, pair_now, pairs_with, taken_at, taken_now, variables_with, with_line}
use Rattle.nf_cons_sparse.specs.Sparse.{Sparse, coef_faults, coef_right, has_coefficient, has_variable, line_at, line_fault_at, line_faults, mention_at, mention_of, mentions, name_faults, no_line, pair_at, pairs, right_faults, row_faults, row_name_at, row_number, row_of, sparse_line, type_faults, value_if, variable_number, variable_of}
use Rattle.nf_cons_sparse.specs.SparseDue.{sparse_of}
use Rattle.nf_cons_sparse.proofs.AfterFacts.{given-after, given-is, names-more, row-number, variable-number}
use Rattle.nf_cons_sparse.proofs.SplitFacts.{by-steps, column_part, right_part}

module _ (s : Sparse) (k : ℕ) (st : LineState) (after : IsAfterLines s k st) (below : k < length s.lines) where
  row-same : place_of (row_of (line_at s k)) st.names ≡ row_number s k
  row-same = ap (place_of (row_of (line_at s k))) after.names_are ∙ sym (row-number s k below)

  pair-same : has_variable (line_at s k) ≡ true → pair_now st (line_at s k) ≡ (row_number s k, variable_number s k)
  pair-same has =
      ap (λ i. (i, number_now st.variables (variable_of (line_at s k)))) row-same
      ∙ ap (λ v. (row_number s k, v)) (variable-number s k st.variables after.variables_are below has)

  names-same : name_faults_now st.variables (k + 1) (line_at s k) ≡ name_faults s.arcs (mentions s k) (k + 1) (line_at s k)
  names-same = ap (λ fs. if has_variable (line_at s k) then fs else []) (faults-same s.arcs (mentions s k) st.variables false (mention_of (k + 1) (line_at s k)) after.variables_are)

  coefs-same : coef_faults st.pairs (pair_now st (line_at s k)) (line_at s k) ≡ coef_faults (pairs s k) (row_number s k, variable_number s k) (line_at s k)
  coefs-same = by_cases (cases_Bool (has_variable (line_at s k)))
    where
      by_cases : (has_variable (line_at s k) ≡ true) ⊎ (has_variable (line_at s k) ≡ false)
          → coef_faults st.pairs (pair_now st (line_at s k)) (line_at s k) ≡ coef_faults (pairs s k) (row_number s k, variable_number s k) (line_at s k)
      by_cases (inl e) = ap (λ ps. coef_faults ps (pair_now st (line_at s k)) (line_at s k)) after.pairs_are ∙ ap (λ p. coef_faults (pairs s k) p (line_at s k)) (pair-same e)
      by_cases (inr e) = rw e refl

  faults-are : line_faults_now st (k + 1) (line_at s k) ≡ line_faults s k (line_at s k)
  faults-are =
      let l = line_at s k in
      ap (λ g. row_faults l.row ++ type_faults g.row_type l.row_type ++ name_faults_now st.variables (k + 1) l ++ right_faults role.Coef g.right (coef_right l)
      ++ coef_faults st.pairs (pair_now st l) l ++ right_faults role.Rhs (or_else g.right (value_if (coef_right l))) l.right) (given-is s k st after (row_of l))
      ∙ ap (λ fs. row_faults l.row ++ type_faults (given_to s k (row_of l)).row_type l.row_type ++ fs ++ right_faults role.Coef (given_to s k (row_of l)).right (coef_right l)
      ++ coef_faults st.pairs (pair_now st l) l ++ right_faults role.Rhs (or_else (given_to s k (row_of l)).right (value_if (coef_right l))) l.right) names-same
      ∙ ap (λ fs. row_faults l.row ++ type_faults (given_to s k (row_of l)).row_type l.row_type ++ name_faults s.arcs (mentions s k) (k + 1) l ++ right_faults role.Coef (given_to s k (row_of l)).right (coef_right l)
      ++ fs ++ right_faults role.Rhs (or_else (given_to s k (row_of l)).right (value_if (coef_right l))) l.right) coefs-same

  pub fault-same : first_of (line_faults_now st (k + 1) (line_at s k)) ≡ line_fault_at s k
  unfolding line_fault_at
  fault-same = ap first_of faults-are

  -- One line more.
  variables-next : first_of (line_faults_now st (k + 1) (line_at s k)) ≡ None → AreNamed s.arcs (mentions s (k + 1)) (variables_with st.variables (k + 1) (line_at s k))
  variables-next clear = by_cases (cases_Bool (has_variable (line_at s k)))
    where
      column : first_of (name_faults_now st.variables (k + 1) (line_at s k)) ≡ None
      column =
          let l = line_at s k in
          let rest = right_faults role.Coef (given_now st (row_of l)).right (coef_right l) ++ coef_faults st.pairs (pair_now st l) l in
          or-first (first_of (name_faults_now st.variables (k + 1) l)) (first_of rest) (sym (first-append (name_faults_now st.variables (k + 1) l) rest)
          ∙ or-first (first_of (column_part st (k + 1) l)) (first_of (right_part st l))
          (or-second (first_of (type_faults (given_now st (row_of l)).row_type l.row_type)) _ (or-second (first_of (row_faults l.row)) _ (sym (by-steps st (k + 1) l) ∙ clear))))

      by_cases : (has_variable (line_at s k) ≡ true) ⊎ (has_variable (line_at s k) ≡ false) → AreNamed s.arcs (mentions s (k + 1)) (variables_with st.variables (k + 1) (line_at s k))
      by_cases (inl e) =
          let named : first_of (faults_now st.variables false (mention_of (k + 1) (line_at s k))) ≡ None = rw e at column in
          rw (joined-more k (mention_at s), e) (named-next s.arcs (mentions s k) st.variables false (mention_of (k + 1) (line_at s k)) after.variables_are named)
      by_cases (inr e) = rw (joined-more k (mention_at s), e, append-nil (mentions s k)) after.variables_are

  pairs-next : pairs_with st (line_at s k) ≡ pairs s (k + 1)
  pairs-next = by_cases (cases_Bool (has_coefficient (line_at s k))) (cases_Bool (has_variable (line_at s k)))
    where
      more : pairs s (k + 1) ≡ pairs s k ++ pair_at s k
      more = joined-more k (pair_at s)

      by_cases : (has_coefficient (line_at s k) ≡ true) ⊎ (has_coefficient (line_at s k) ≡ false) → (has_variable (line_at s k) ≡ true) ⊎ (has_variable (line_at s k) ≡ false)
          → pairs_with st (line_at s k) ≡ pairs s (k + 1)
      by_cases (inl e) (inl v) = rw (more, e) (ap (λ ps. ps ++ pair_now st (line_at s k) ∷ []) after.pairs_are ∙ ap (λ p. pairs s k ++ p ∷ []) (pair-same v))
      by_cases (inl e) (inr v) = rw (more, v) (after.pairs_are ∙ sym (append-nil (pairs s k)))
      by_cases (inr e) v = rw (more, e) (after.pairs_are ∙ sym (append-nil (pairs s k)))

  taken-same : taken_now st (line_at s k) ∷ [] ≡ taken_at s k
  taken-same = by_cases (cases_Bool (has_variable (line_at s k)))
    where
      by_cases : (has_variable (line_at s k) ≡ true) ⊎ (has_variable (line_at s k) ≡ false) → taken_now st (line_at s k) ∷ [] ≡ taken_at s k
      by_cases (inl e) = rw (e, row-same, variable-number s k st.variables after.variables_are below e) refl
      by_cases (inr e) = rw (e, row-same) refl

  pub line-next : first_of (line_faults_now st (k + 1) (line_at s k)) ≡ None → IsAfterLines s (k + 1) (with_line st (k + 1) (line_at s k))
  line-next clear = record {
    default_is = after.default_is;
    names_are = ap (λ ks. with_name ks (row_of (line_at s k))) after.names_are ∙ sym (names-more s k);
    once = once-with st.names (row_of (line_at s k)) after.once;
    given_are = given-after s k st after (k + 1);
    variables_are = variables-next clear;
    pairs_are = pairs-next;
    taken_are = ap (λ ts. ts ++ taken_now st (line_at s k) ∷ []) after.taken_are ∙ ap (λ t. joined_below k (taken_at s) ++ t) taken-same ∙ sym (joined-more k (taken_at s));
  }

-- ---- the lines of a table
-- A line of the table, by its number.
pub line-is : (o : ProcOptions) (arcs : List Name) (roles : RoleColumns) (table : Grid) (k : ℕ) → k < length table.rows
    → sparse_line roles (get_or (table.header ∷ table.rows) (k + 1) []) ≡ line_at (sparse_of o arcs roles table) k
line-is o arcs roles table k below =
    let next : k + 1 ≡ suc k = omega arith in
    rw next (sym (get_or-map (sparse_line roles) table.rows k [] no_line below))

-- Before the first line.
pub lines-none : (s : Sparse) (a : ArcList) → AreArcs s.arcs a → a.count < 2 ^ 32
    → IsAfterLines s 0 (record { default = s.default; names = []; given = []; variables = record { arcs = a; nonarcs = []; homes = [] }; pairs = []; taken = [] })
unfolding is_once first_seen
lines-none s a h few = record {
  default_is = refl;
  names_are = ap first_seen (sym (joined-none (row_name_at s)));
  once = refl;
  given_are = refl;
  variables_are = rw (joined-none (mention_at s)) (named-none s.arcs a h few);
  pairs_are = sym (joined-none (pair_at s));
  taken_are = sym (joined-none (taken_at s));
}

-- Lines can be taken.
pub kept : (s : Sparse) (k : ℕ) (st : LineState) → IsAfterLines s k st → IsKept st
kept s k st after = record {
  each = ap length after.given_are ∙ map-length (given_to s k) st.names;
  variables = after.variables_are.sound;
}
