-- The first states of both stages are states, and the next state of a state is one.
use Rattle.std.proofs.Common.{◌≡◌, ◌≢◌, ℕ, ◌+◌, ◌<◌, ◌≤◌, ◌⊎◌, inl, inr, Bool, true, false, cond, refl, sym, ap, ◌∙◌, subst, arith, Option, Some, None}
use Rattle.nf_num.specs.Rational.{ℚ, zero_ℚ, one_ℚ, ◌*ℚ◌, ◌<ℚ◌}
use Rattle.nf_model.specs.declared.RowKind.{RowKind}
use Rattle.nf_model.specs.declared.RowKind.TheVariants.{Eq, Le, Ge}
use Rattle.nf_simplex.specs.Columns.{Col, Given, Slack, Artificial}
use Rattle.nf_simplex.specs.Layout.{Layout, IsLayout}
use Rattle.nf_simplex.specs.Place.{Place, Lower, Upper, Zero, Absent, Basic, IsBound, IsOtherBound}
use Rattle.nf_simplex.specs.Stage.{Stage}
use Rattle.nf_simplex.specs.StageOf.{StageNumber, StageOne, StageTwo, stage_in, IsPresent}
use Rattle.nf_simplex.specs.Starts.{first_place, nonarc_place}
use Rattle.nf_simplex.specs.States.{IsState}
use Rattle.nf_simplex.specs.Step.{IsFlip, IsExchange, CanEnter, IsNext}
use Rattle.nf_simplex.proofs.Orders.{yes_less, not_less, less_or_not}
use Rattle.nf_simplex.proofs.StageOf.{by_columns, column_given, column_artificial, first_feasible, second_feasible}
use Rattle.nf_simplex.proofs.StartForms.{places, rest_in_first, second_place, rest_in_second, slack_place, takes_slack, own_sign}
use Rattle.nf_simplex.proofs.Sum.{equal_or_not}

pub first_is_state : (p : Layout) (ok : IsLayout p) (negative : ℕ → Bool)
    → ((i : ℕ) → i < p.nodes → (rest_in_first p negative i <ℚ zero_ℚ → ⊥) → negative i ≡ false) → ((i : ℕ) → i < p.nodes → rest_in_first p negative i <ℚ zero_ℚ → negative i ≡ true)
    → IsState p StageOne negative (places p (first_place p))
first_is_state p ok negative plus minus = record {
  present = by_columns p (λ c. IsPresent p StageOne c → first_place p c ≢ Absent) (λ j h g e. let x : Lower ≡ Absent = sym (yes_less j p.arcs Lower Absent g) ∙ e in cc) (λ q h g. absurd g) (λ i h g e. let x : Basic ≡ Absent = sym (yes_less i p.nodes Basic Absent g) ∙ e in cc);
  absent = by_columns p (λ c. (IsPresent p StageOne c → ⊥) → first_place p c ≡ Absent) (λ j h g. not_less j p.arcs Lower Absent (not_below j p.arcs g)) (λ q h g. refl) (λ i h g. not_less i p.nodes Basic Absent (not_below i p.nodes g));
  feasible = first_feasible p ok negative plus minus;
}
  where
    not_below : (i k : ℕ) → (i < k → ⊥) → k ≤ i
    not_below i k g = of (less_or_not i k)
      where
        of : (i < k) ⊎ (k ≤ i) → k ≤ i
        of (inl l) = absurd (g l)
        of (inr l) = l

pub second_is_state : (p : Layout) (ok : IsLayout p) (negative before : ℕ → Bool) (old : Col → Place) (chosen : ℕ → Bool) (st : IsState p StageOne before (places p old))
    → ((i : ℕ) → i < p.nodes → negative i ≡ before i) → ((j : ℕ) → p.arcs ≤ j → old (Given j) ≢ Basic) → ((r : ℕ) → old (Slack r) ≢ Basic) → ((r : ℕ) → p.nodes ≤ r → old (Artificial r) ≢ Basic)
    → ((q : ℕ) → q < p.sides → (zero_ℚ <ℚ rest_in_second p negative st.feasible.values q *ℚ own_sign p negative chosen q) ⊎ ((rest_in_second p negative st.feasible.values q ≡ zero_ℚ) × (own_sign p negative chosen q ≡ one_ℚ)))
    → IsState p StageTwo negative (places p (second_place p old chosen))
second_is_state p ok negative before old chosen st same nonarcs slacks others signs = record {
  present = by_columns p (λ c. IsPresent p StageTwo c → second_place p old chosen c ≢ Absent) (λ j h g. given j h (less_or_not j p.arcs)) (λ q h g. slack (p.kind (p.nodes + q)) (chosen (p.nodes + q)) g.2) (λ i h g. artificial i h (less_or_not i p.nodes));
  absent = by_columns p (λ c. (IsPresent p StageTwo c → ⊥) → second_place p old chosen c ≡ Absent) (λ j h g. absurd (g h)) (λ q h g. lacking (p.kind (p.nodes + q)) (chosen (p.nodes + q)) (λ k. g (omega arith, omega arith, k))) (λ i h g. absurd (g h));
  feasible = second_feasible p ok negative before old chosen st.feasible same nonarcs slacks others signs;
}
  where
    nonarc : (l u : Option ℚ) → nonarc_place l u ≢ Absent
    nonarc (Some l) u e = cc
    nonarc None (Some u) e = cc
    nonarc None None e = cc

    slack : (k : RowKind) (b : Bool) → k ≢ Eq → slack_place k b ≢ Absent
    slack Eq b n e = n refl
    slack Le true n e = cc
    slack Le false n e = cc
    slack Ge true n e = cc
    slack Ge false n e = cc

    lacking : (k : RowKind) (b : Bool) → (k ≢ Eq → ⊥) → slack_place k b ≡ Absent
    lacking Eq b n = refl
    lacking Le b n = absurd (n (λ e. cc))
    lacking Ge b n = absurd (n (λ e. cc))

    lower_or_basic : (b : Bool) → cond b Lower Basic ≢ Absent
    lower_or_basic true e = cc
    lower_or_basic false e = cc

    given : (j : ℕ) → j < p.columns → (j < p.arcs) ⊎ (p.arcs ≤ j) → second_place p old chosen (Given j) ≢ Absent
    given j h (inl l) e = st.present j (omega arith) (subst (IsPresent p StageOne) (sym (column_given p j h)) l) (ap old (column_given p j h) ∙ (sym (yes_less j p.arcs (old (Given j)) (nonarc_place (p.lower j) (p.upper j)) l) ∙ e))
    given j h (inr l) e = nonarc (p.lower j) (p.upper j) (sym (not_less j p.arcs (old (Given j)) (nonarc_place (p.lower j) (p.upper j)) l) ∙ e)

    artificial : (i : ℕ) → i < p.nodes + p.sides → (i < p.nodes) ⊎ (p.nodes ≤ i) → second_place p old chosen (Artificial i) ≢ Absent
    artificial i h (inl l) e = st.present (p.columns + p.sides + i) (omega arith) (subst (IsPresent p StageOne) (sym (column_artificial p i)) l) (ap old (column_artificial p i) ∙ (sym (yes_less i p.nodes (old (Artificial i)) (cond (takes_slack (p.kind i) (chosen i)) Lower Basic) l) ∙ e))
    artificial i h (inr l) e = lower_or_basic (takes_slack (p.kind i) (chosen i)) (sym (not_less i p.nodes (old (Artificial i)) (cond (takes_slack (p.kind i) (chosen i)) Lower Basic) l) ∙ e)

-- ---- The next state has the columns of its stage.
at_bound : (a : Place) → IsBound a → a ≢ Absent
at_bound Lower b q = cc
at_bound Upper b q = cc
at_bound Zero b q = b
at_bound Absent b q = b
at_bound Basic b q = b

other : (a b : Place) → IsOtherBound a b → b ≢ Absent
other Lower b o q = let w : Upper ≡ Absent = sym o ∙ q in cc
other Upper b o q = let w : Lower ≡ Absent = sym o ∙ q in cc
other Zero b o q = o
other Absent b o q = o
other Basic b o q = o

-- a column that is absent after the step was absent before
pub kept_back : (S : Stage) (s t : ℕ → Place) (e j : ℕ) → j < S.columns → t j ≡ Absent → IsFlip S s e t ⊎ ((l : ℕ) × IsExchange S s e l t) → s j ≡ Absent
kept_back S s t e j h q (inl f) = of (equal_or_not j e)
  where
    of : (j ≡ e) ⊎ (j ≢ e) → s j ≡ Absent
    of (inl w) = absurd (other (s e) (t e) f.other (ap t (sym w) ∙ q))
    of (inr w) = sym (f.rest j h w) ∙ q
kept_back S s t e j h q (inr (l, f)) = of (equal_or_not j e) (equal_or_not j l)
  where
    of : (j ≡ e) ⊎ (j ≢ e) → (j ≡ l) ⊎ (j ≢ l) → s j ≡ Absent
    of (inl w) u = absurd (let z : Basic ≡ Absent = sym f.enters ∙ (ap t (sym w) ∙ q) in cc)
    of (inr w) (inl u) = absurd (at_bound (t l) f.leaves (ap t (sym u) ∙ q))
    of (inr w) (inr u) = sym (f.rest j h w u) ∙ q

-- and one that was absent before is absent after it
pub kept_forth : (S : Stage) (s t : ℕ → Place) (e : ℕ) (down : Bool) → CanEnter S s e down → (j : ℕ) → j < S.columns → s j ≡ Absent → IsFlip S s e t ⊎ ((l : ℕ) × IsExchange S s e l t) → t j ≡ Absent
kept_forth S s t e down c j h q (inl f) = f.rest j h (λ w. c.present (ap s (sym w) ∙ q)) ∙ q
kept_forth S s t e down c j h q (inr (l, f)) = f.rest j h (λ w. c.present (ap s (sym w) ∙ q)) (λ w. absurd (let z : Basic ≡ Absent = sym f.was_basic ∙ (ap s (sym w) ∙ q) in cc)) ∙ q

pub next_is_state : (p : Layout) (n : StageNumber) (negative : ℕ → Bool) (s t : ℕ → Place) (e : ℕ) (down : Bool) → IsState p n negative s → CanEnter (stage_in p n negative) s e down → IsNext (stage_in p n negative) s e down t → IsState p n negative t
next_is_state p n negative s t e down st c x = record {
  present = λ j h g q. st.present j h g (kept_back (stage_in p n negative) s t e j h q x.differs);
  absent = λ j h g. kept_forth (stage_in p n negative) s t e down c j h (st.absent j h g) x.differs;
  feasible = x.feasible;
}
