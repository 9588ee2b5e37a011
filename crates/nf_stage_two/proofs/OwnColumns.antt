-- A side row's own column, as the place of its slack tells it; and what its entry is.
use Rattle.std.proofs.Common.{◌≡◌, ◌≢◌, ℕ, suc, ◌+◌, ◌<◌, length, refl, sym, ap, ◌∙◌, subst, arith}
use Rattle.nf_model.specs.Program.{LinearProgram}
use Rattle.nf_simplex.specs.Place as model
use Rattle.nf_simplex.specs.Layout.{layout_of}
use Rattle.nf_simplex.specs.Columns as columns
use Rattle.nf_simplex.specs.Columns.{all_columns, col_at}
use Rattle.nf_simplex.specs.Standing as standing
use Rattle.nf_simplex.specs.Standing.{place_at}
use Rattle.nf_simplex.proofs.StageOf.{column_slack}
use Rattle.nf_basis.specs.declared.col.Col.TheVariants.{Slack, Artificial}
use Rattle.nf_basis.specs.declared.col.Place.{Place}
use Rattle.nf_basis.specs.declared.col.Place.TheVariants.{Lower, Upper, Zero, Basic, Absent}
use Rattle.nf_basis.specs.Names.{place_of}
use Rattle.nf_basis.specs.Kept.{Kept, IsStateOf, IsPresent, number, place_in}
use Rattle.nf_basis.proofs.Wanted.{place_told}
use Rattle.nf_stage_two.specs.Wide.{IsOwnColumn}
use Rattle.nf_stage_two.specs.Wide.IsOwnColumn.{slack as own_slack, artificial as own_artificial}

only_basic : (r : Place) → place_of r ≡ model.Basic → r ≡ Basic
only_basic Lower e = cc
only_basic Upper e = cc
only_basic Zero e = cc
only_basic Basic e = refl
only_basic Absent e = cc

module _ (p : LinearProgram) (k : Kept) (st : IsStateOf p k) (q : ℕ) (h : p.nodes + q < length p.rows) (i : ℕ) (e : i ≡ suc (p.nodes + q)) (r : Place)
    (present : IsPresent p k.standing (Slack i) → place_of r ≡ place_in p k.standing (Slack i)) (absent : (IsPresent p k.standing (Slack i) → ⊥) → r ≡ Absent) where
  number_is : number p (Slack i) ≡ length p.columns + q
  number_is = omega arith

  told : place_of r ≡ place_at k.standing (number p (Slack i))
  told = place_told p k (Slack i) (length p.columns + q) r st (omega arith) (ap columns.Slack (omega arith) ∙ sym (column_slack (layout_of p) q (omega arith))) number_is (omega arith) present absent ∙ ap (place_at k.standing) (sym number_is)

  its_place : place_of r ≡ standing.place_of p k.standing (columns.Slack (p.nodes + q))
  its_place = told ∙ ap (place_at k.standing) (omega arith)

  pub own_slack_told : r ≡ Basic → IsOwnColumn p k.standing q (Slack i)
  own_slack_told b = subst (λ n. IsOwnColumn p k.standing q (Slack n)) (sym e) (own_slack (sym its_place ∙ ap place_of b))

  pub own_artificial_told : r ≢ Basic → IsOwnColumn p k.standing q (Artificial i)
  own_artificial_told n = subst (λ m. IsOwnColumn p k.standing q (Artificial m)) (sym e) (own_artificial (λ b. n (only_basic r (its_place ∙ b))))
