-- Where a column stands, from what a state tells of it.
use Rattle.std.proofs.Common.{◌≡◌, ◌⊎◌, inl, inr, ℕ, ◌<◌, ◌≤◌, ◌+◌, sym, ◌∙◌, ap, subst, arith}
use Rattle.nf_model.specs.declared.RowKind.{RowKind}
use Rattle.nf_model.specs.declared.RowKind.TheVariants.{Eq, Le, Ge}
use Rattle.nf_model.specs.Program.{LinearProgram}
use Rattle.nf_simplex.specs.Columns.{Col, Given, Slack, Artificial, all_columns, col_at}
use Rattle.nf_simplex.specs.Layout.{Layout, layout_of}
use Rattle.nf_num.specs.Rational.{ℚ, zero_ℚ}
use Rattle.nf_simplex.specs.Numbers.{StandsAt}
use Rattle.nf_simplex.specs.Place.{Absent as Nowhere}
use Rattle.nf_simplex.specs.Standing.{Standing, HasColumn, AreValuesOf, place_at, stage_of}
use Rattle.nf_simplex.specs.StageOf.{StageNumber, StageOne, StageTwo}
use Rattle.nf_simplex.specs.StageOf as model
use Rattle.nf_simplex.proofs.Orders.{less_or_not}
use Rattle.nf_basis.specs.declared.col.Col as named
use Rattle.nf_basis.specs.declared.col.Place.{Place}
use Rattle.nf_basis.specs.declared.col.Place.TheVariants.{Absent}
use Rattle.nf_basis.specs.Kept.{Kept, IsPresent, IsStateOf, number, place_in}
use Rattle.nf_basis.specs.Names.{col_of, named as number_in, place_of}

decide : {A B : Type 0} → A ⊎ B → (B → A → ⊥) → A ⊎ (A → ⊥)
decide (inl a) h = inl a
decide (inr b) h = inr (h b)

kind_or_eq : (k : RowKind) → (k ≡ Eq → ⊥) ⊎ (k ≡ Eq)
kind_or_eq Eq = inr (λ i. Eq)
kind_or_eq Le = inl (λ e. cc)
kind_or_eq Ge = inl (λ e. cc)

-- A column is of a stage or not.
pub column_or_not : (p : Layout) (n : StageNumber) (c : Col) → model.IsPresent p n c ⊎ (model.IsPresent p n c → ⊥)
column_or_not p StageOne (Given j) = decide (less_or_not j p.arcs) (λ b a. omega (arith, a, b))
column_or_not p StageOne (Slack r) = inr (λ h. h)
column_or_not p StageOne (Artificial r) = decide (less_or_not r p.nodes) (λ b a. omega (arith, a, b))
column_or_not p StageTwo (Given j) = decide (less_or_not j p.columns) (λ b a. omega (arith, a, b))
column_or_not p StageTwo (Slack r) = of (less_or_not r p.nodes) (less_or_not r (p.nodes + p.sides)) (kind_or_eq (p.kind r))
  where
    of : (r < p.nodes) ⊎ (p.nodes ≤ r) → (r < p.nodes + p.sides) ⊎ (p.nodes + p.sides ≤ r) → (p.kind r ≡ Eq → ⊥) ⊎ (p.kind r ≡ Eq) → model.IsPresent p StageTwo (Slack r) ⊎ (model.IsPresent p StageTwo (Slack r) → ⊥)
    of (inl a) b k = inr (λ h. let n = h.0 in omega (arith, a, n))
    of (inr a) (inr b) k = inr (λ h. let n = h.1 in omega (arith, b, n))
    of (inr a) (inl b) (inl k) = inl (a, b, k)
    of (inr a) (inl b) (inr k) = inr (λ h. h.2 k)
column_or_not p StageTwo (Artificial r) = decide (less_or_not r (p.nodes + p.sides)) (λ b a. omega (arith, a, b))

-- What a state answers is the place by number, of a column that its stage lacks too.
pub place_told : (p : LinearProgram) (k : Kept) (c : named.Col) (place : Place) → IsStateOf p k → 0 < number_in c → number p c < all_columns (layout_of p) → col_at (layout_of p) (number p c) ≡ col_of c
    → ((q : LinearProgram) → IsStateOf q k → IsPresent q k.standing c → place_of place ≡ place_in q k.standing c)
    → ((q : LinearProgram) → IsStateOf q k → (IsPresent q k.standing c → ⊥) → place ≡ Absent)
    → place_of place ≡ place_at k.standing (number p c)
place_told p k c place st h b e present absent = of (column_or_not (layout_of p) k.standing.stage (col_of c))
  where
    of : HasColumn p k.standing (col_of c) ⊎ (HasColumn p k.standing (col_of c) → ⊥) → place_of place ≡ place_at k.standing (number p c)
    of (inl a) = present p st (h, a)
    of (inr n) = ap place_of (absent p st (λ x. n x.1)) ∙ sym ((st.fits.fits (number p c) b).absent (λ x. n (subst (HasColumn p k.standing) e x)))

-- A column that is not told absent is of the stage.
pub present_told : (p : LinearProgram) (k : Kept) (c : named.Col) (place : Place) → IsStateOf p k → 0 < number_in c
    → ((q : LinearProgram) → IsStateOf q k → (IsPresent q k.standing c → ⊥) → place ≡ Absent)
    → (place ≡ Absent → ⊥) → IsPresent p k.standing c
present_told p k c place st h absent some = of (column_or_not (layout_of p) k.standing.stage (col_of c))
  where
    of : HasColumn p k.standing (col_of c) ⊎ (HasColumn p k.standing (col_of c) → ⊥) → IsPresent p k.standing c
    of (inl a) = (h, a)
    of (inr n) = absurd (some (absent p st (λ x. n x.1)))

-- A column that stands nowhere has the value 0.
pub absent_value : (p : LinearProgram) (s : Standing) (x : ℕ → ℚ) (k : ℕ) → AreValuesOf p s x → k < all_columns (layout_of p) → place_at s k ≡ Nowhere → x k ≡ zero_ℚ
absent_value p s x k v h e = subst (λ a. StandsAt a ((stage_of p s).lower k) ((stage_of p s).upper k) (x k)) e (v.stands k h)
