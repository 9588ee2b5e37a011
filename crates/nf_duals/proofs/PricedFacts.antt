-- The columns that are priced, by number, and their reduced costs in a state.
use Rattle.std.proofs.Common.{[], ◌∷◌, ◌≡◌, ◌≢◌, ◌⊎◌, inl, inr, ℕ, ◌<◌, ◌≤◌, ◌+◌, ◌-◌, List, length, refl, sym, ◌∙◌, ap, ap₂, subst, arith}
use Rattle.std.proofs.lemmas.List.{get_or_past}
use Rattle.nf_num.specs.Rational.{ℚ, zero_ℚ, ◌+ℚ◌, ◌-ℚ◌, ◌*ℚ◌, neg_ℚ}
use Rattle.nf_num.specs.Sum.{sum_ℚ, delta}
use Rattle.nf_num.proofs.Field.{ring, codes}
use Rattle.nf_num.proofs.Laws.{zero_add, zero_mul}
use Rattle.nf_num.proofs.Sums.{sum_same, sum_one, sum_of_zeros, delta_same, delta_other}
use Rattle.nf_model.specs.Certificate.{combined}
use Rattle.nf_model.specs.declared.RowKind.{RowKind}
use Rattle.nf_model.specs.declared.RowKind.TheVariants.{Eq, Le, Ge}
use Rattle.nf_model.specs.Problem.{IsProblem}
use Rattle.nf_model.specs.Program.{LinearProgram, row, at, coefficient}
use Rattle.nf_frac.specs.declared.Passed.{Passed}
use Rattle.nf_prob.specs.Reduced.{ReducedTerms}
use Rattle.nf_sums.specs.Terms.{PassesIn, Is}
use Rattle.nf_sums.specs.Rows.{reduced_cost_terms}
use Rattle.nf_sums.proofs.Laws.{wider}
use Rattle.nf_simplex.specs.Columns.{Given, Slack, col_at, cost_one, cost_two, entry_of, slack_sign}
use Rattle.nf_simplex.specs.Layout.{layout_of}
use Rattle.nf_simplex.specs.Numbers.{reduced}
use Rattle.nf_simplex.specs.StageOf.{StageNumber, StageOne, StageTwo, rows_in}
use Rattle.nf_simplex.specs.Standing.{Standing, Phase, PhaseOne, PhaseTwo, costs_of, is_negative, rows_of, stage_of}
use Rattle.nf_simplex.proofs.FieldLaws.{mul-one}
use Rattle.nf_simplex.proofs.Orders.{less_or_not}
use Rattle.nf_simplex.proofs.StageOf.{column_given, column_slack}
use Rattle.nf_simplex.proofs.Terms.{mul-zero}
use Rattle.nf_basis.specs.declared.col.Phase as named
use Rattle.nf_basis.specs.Arising.{StateTerms}
use Rattle.nf_basis.specs.Arising.StateTerms.{reduced_cost}
use Rattle.nf_basis.specs.Arising.ArePricing.{of_phase}
use Rattle.nf_basis.specs.Names.{phase_of}
use Rattle.nf_duals.specs.Priced.{HasDuals, count_priced}
use Rattle.nf_duals.proofs.Trailing.{sum_cut, trailing}

-- ---- by number
pub given_there : (p : LinearProgram) (k : ℕ) → k < length p.columns → col_at (layout_of p) k ≡ Given k
given_there p k h = column_given (layout_of p) k h

pub slack_there : (p : LinearProgram) (k : ℕ) → length p.columns ≤ k → k < count_priced p → col_at (layout_of p) k ≡ Slack (p.nodes + (k - length p.columns))
slack_there p k h b =
    ap (col_at (layout_of p)) (let e : k ≡ length p.columns + (k - length p.columns) = omega arith in e)
    ∙ column_slack (layout_of p) (k - length p.columns) (omega arith)

rows_in_within : (p : LinearProgram) (n : StageNumber) → IsProblem p → rows_in (layout_of p) n ≤ length p.rows
rows_in_within p StageOne q = q.nodes_within
rows_in_within p StageTwo q = omega (arith, q.nodes_within)

pub rows_within : (p : LinearProgram) (s : Standing) → IsProblem p → rows_of p s ≤ length p.rows
rows_within p s q = rows_in_within p s.stage q

past_duals : (y : List ℚ) (i : ℕ) → length y ≤ i → at y i ≡ zero_ℚ
past_duals y i h = get_or_past y i zero_ℚ h

-- ---- given columns
-- the coefficients of a given column are its entries in a stage
entry_same : (p : LinearProgram) (s : Standing) (k i : ℕ) → k < length p.columns → coefficient p i k ≡ (stage_of p s).entry k i
entry_same p s k i h = ap (λ c. entry_of (layout_of p) (is_negative s) c i) (sym (given_there p k h))

combined_same : (p : LinearProgram) (s : Standing) (y : List ℚ) (k : ℕ) → IsProblem p → k < length p.columns → length y ≡ rows_of p s → combined p y k ≡ sum_ℚ (rows_of p s) (λ i. at y i *ℚ (stage_of p s).entry k i)
combined_same p s y k q h e =
    let within : rows_of p s ≤ length p.rows = rows_within p s q in
    ap (λ n. sum_ℚ n (λ i. at y i *ℚ coefficient p i k)) (let t : length p.rows ≡ rows_of p s + (length p.rows - rows_of p s) = omega (arith, within) in t)
    ∙ sum_cut (rows_of p s) (length p.rows - rows_of p s) (λ i. at y i *ℚ coefficient p i k) (λ i b. ap (λ z. z *ℚ coefficient p i k) (past_duals y i (omega (arith, e))) ∙ zero_mul (coefficient p i k))
    ∙ sum_same (rows_of p s) (λ i. at y i *ℚ coefficient p i k) (λ i. at y i *ℚ (stage_of p s).entry k i) (λ i b. ap (λ z. at y i *ℚ z) (entry_same p s k i h))

pub reduced_given : (p : LinearProgram) (s : Standing) (phase : Phase) (y : List ℚ) (k : ℕ) (c d : ℚ) → IsProblem p → k < length p.columns → length y ≡ rows_of p s → c ≡ costs_of p phase k → d ≡ c -ℚ combined p y k → d ≡ reduced (stage_of p s) (costs_of p phase) (at y) k
unfolding reduced
reduced_given p s phase y k c d q h e f g = g ∙ ap₂ (λ a b. a +ℚ neg_ℚ b) f (combined_same p s y k q h e)

-- the row of its reduced cost is one of the state's
row_same : (p : LinearProgram) (s : Standing) (phase : Phase) (y : List ℚ) (k : ℕ) (c : ℚ) → k < length p.columns → c ≡ costs_of p phase k → reduced_cost_terms (costs_of p phase k) (rows_of p s) (at y) ((stage_of p s).entry k) ≡ reduced_cost_terms c (rows_of p s) (at y) (λ i. coefficient p i k)
row_same p s phase y k c h e = ap₂ (λ z d. reduced_cost_terms z (rows_of p s) (at y) (λ i. entry_of (layout_of p) (is_negative s) d i)) (sym e) (given_there p k h)

pub given_passed : (p : LinearProgram) (s : Standing) (phase : named.Phase) (y : List ℚ) (k : ℕ) (c : ℚ) (v : Passed) → IsProblem p → k < length p.columns → HasDuals p s phase y → c ≡ costs_of p (phase_of phase) k → PassesIn (ReducedTerms p c y k) v → PassesIn (StateTerms p s) v
given_passed p s phase y k c v q h d e a =
    let within : rows_of p s ≤ length p.rows = rows_within p s q in
    let places : length y ≡ rows_of p s = d.places in
    let rows : length p.rows ≡ rows_of p s + (length p.rows - rows_of p s) = omega (arith, within) in
    wider (Is (reduced_cost_terms c (rows_of p s) (at y) (λ i. coefficient p i k))) (StateTerms p s) v
    (λ t r. subst (StateTerms p s) (row_same p s (phase_of phase) y k c h e ∙ sym r) (reduced_cost k (costs_of p (phase_of phase)) (at y) (omega arith) (of_phase (phase_of phase) (at y) d.are_duals)))
    (trailing c (rows_of p s) (length p.rows - rows_of p s) (at y) (λ i. coefficient p i k) v (λ i b. past_duals y i (omega (arith, places)))
    (subst (λ n. PassesIn (Is (reduced_cost_terms c n (at y) (λ i. coefficient p i k))) v) rows a))

-- ---- slacks
costs_slack : (p : LinearProgram) (phase : Phase) (k r : ℕ) → col_at (layout_of p) k ≡ Slack r → costs_of p phase k ≡ zero_ℚ
costs_slack p PhaseOne k r e = ap cost_one e
costs_slack p PhaseTwo k r e = ap (cost_two (layout_of p)) e

-- a row's sum where only row r has an entry
only_at : (n r : ℕ) (y : ℕ → ℚ) (a : ℚ) → (n ≤ r → y r ≡ zero_ℚ) → sum_ℚ n (λ i. y i *ℚ (a *ℚ delta r i)) ≡ y r *ℚ a
only_at n r y a h = of (less_or_not r n)
  where
    off : (i : ℕ) → i ≢ r → y i *ℚ (a *ℚ delta r i) ≡ zero_ℚ
    off i d = ap (λ z. y i *ℚ z) (ap (λ z. a *ℚ z) (delta_other r i (λ e. d (sym e))) ∙ mul-zero a) ∙ mul-zero (y i)

    of : (r < n) ⊎ (n ≤ r) → sum_ℚ n (λ i. y i *ℚ (a *ℚ delta r i)) ≡ y r *ℚ a
    of (inl l) =
        sum_one n r (λ i. y i *ℚ (a *ℚ delta r i)) l (λ i b d. off i d)
        ∙ ap (λ z. y r *ℚ z) (ap (λ z. a *ℚ z) (delta_same r) ∙ mul-one a)
    of (inr l) =
        sum_of_zeros n (λ i. y i *ℚ (a *ℚ delta r i)) (λ i b. off i (λ e. let d : i ≡ r = e in omega (arith, d)))
        ∙ sym (ap (λ z. z *ℚ a) (h l) ∙ zero_mul a)

pub reduced_slack : (p : LinearProgram) (s : Standing) (phase : Phase) (y : List ℚ) (k : ℕ) → length p.columns ≤ k → k < count_priced p → length y ≡ rows_of p s → neg_ℚ (at y (p.nodes + (k - length p.columns)) *ℚ slack_sign (row p (p.nodes + (k - length p.columns))).kind) ≡ reduced (stage_of p s) (costs_of p phase) (at y) k
unfolding reduced
reduced_slack p s phase y k h b e =
    let r : ℕ = p.nodes + (k - length p.columns) in
    let there = slack_there p k h b in
    sym (ap₂ (λ c z. c +ℚ neg_ℚ z) (costs_slack p phase k r there)
    (sum_same (rows_of p s) (λ i. at y i *ℚ (stage_of p s).entry k i) (λ i. at y i *ℚ (slack_sign (row p r).kind *ℚ delta r i)) (λ i l. ap (λ c. at y i *ℚ entry_of (layout_of p) (is_negative s) c i) there)
    ∙ only_at (rows_of p s) r (at y) (slack_sign (row p r).kind) (λ l. past_duals y r (omega (arith, e))))
    ∙ zero_add (neg_ℚ (at y r *ℚ slack_sign (row p r).kind)))

-- ---- the reduced cost of a slack by its row's kind
pub slack_eq : (y : ℚ) → zero_ℚ ≡ neg_ℚ (y *ℚ slack_sign Eq)
slack_eq y = ring (y ∷ []) (search codes) refl

pub slack_le : (y : ℚ) → neg_ℚ y ≡ neg_ℚ (y *ℚ slack_sign Le)
slack_le y = ring (y ∷ []) (search codes) refl

pub slack_ge : (y : ℚ) → y ≡ neg_ℚ (y *ℚ slack_sign Ge)
slack_ge y = ring (y ∷ []) (search codes) refl

pub slack_by_kind : (kind k : RowKind) (y d : ℚ) → kind ≡ k → d ≡ neg_ℚ (y *ℚ slack_sign k) → d ≡ neg_ℚ (y *ℚ slack_sign kind)
slack_by_kind kind k y d e h = h ∙ ap (λ z. neg_ℚ (y *ℚ slack_sign z)) (sym e)
