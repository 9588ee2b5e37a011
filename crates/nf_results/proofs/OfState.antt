-- Tables over the numbers of results are tables of their state.
use Rattle.std.proofs.Common.{◌≡◌, ◌∙◌, Bool, true, false, Option, Some, None, Result, Ok, Err, refl, ap}
use Rattle.std.specs.Prelude.{IfOk, is_some}
use Rattle.nf_model.specs.Program.{LinearProgram}
use Rattle.nf_labels.specs.Labels.{LabelList}
use Rattle.nf_table.specs.Grid.{Grid}
use Rattle.nf_simplex.specs.Standing.{Standing}
use Rattle.nf_view.specs.declared.view.TreeView.{TreeView}
use Rattle.nf_out.specs.Arcs.{ArcLists}
use Rattle.nf_out.specs.Output.{arcout_grid, conout_grid, dualout_grid, nodeout_grid}
use Rattle.nf_out.specs.Rows.{RowLists, TreeLists}
use Rattle.nf_results.specs.declared.results.Results.{Results}
use Rattle.nf_results.specs.Results.{AreResults, HasView, arc_lists, places_shown, row_lists}
use Rattle.nf_results.specs.Tables.{ArePlaces, IsArcout, IsConout, IsDualout, IsNodeout, Shown}

-- What follows of a value follows of that of a result.
pub carried : {T E : Type 0} (r : Result T E) (P Q : T → Type 0) → ((x : T) → P x → Q x) → IfOk r P → IfOk r Q
carried (Ok x) P Q f h = f x h
carried (Err e) P Q f h = tt

-- The places that results show are those of the state.
pub places-right : (p : LinearProgram) (s : Standing) (tree : Option TreeView) (future : Bool) → HasView p s tree → (future ≡ true → is_some tree ≡ true) → ArePlaces p s future (places_shown tree future)
places-right p s (Some t) true h some = (t, h, refl)
places-right p s (Some t) false h some = refl
places-right p s None true h some = absurd (let d : false ≡ true = some refl in cc)
places-right p s None false h some = refl

module _ (p : LinearProgram) (l : LabelList) (s : Standing) (r : Results) (h : AreResults p s r) (future : Bool) where
  abbrev pub shown : Shown p s r.best
  shown = record { figures = r.figures; of_state = h.figures }

  module _ (n : ArcLists) (e : n ≡ arc_lists r.figures) (t : Grid) where
    pub arcs-right : t ≡ arcout_grid p l s n future → IsArcout p l s r.best future t
    arcs-right is = (shown, is ∙ ap (λ m. arcout_grid p l s m future) e)

    pub columns-right : t ≡ conout_grid p l s n future → IsConout p l s r.best future t
    columns-right is = (shown, is ∙ ap (λ m. conout_grid p l s m future) e)

  module _ (some : future ≡ true → is_some r.tree ≡ true) (n : RowLists) (e : n ≡ row_lists r.figures) (places : TreeLists) (d : places ≡ places_shown r.tree future) (t : Grid) where
    pub nodes-right : t ≡ nodeout_grid p l s n places future → IsNodeout p l s r.best future t
    nodes-right is = (
      shown,
      places_shown r.tree future,
      places-right p s r.tree future h.view some,
      is ∙ (ap (λ m. nodeout_grid p l s m places future) e ∙ ap (λ q. nodeout_grid p l s (row_lists r.figures) q future) d),
    )

    pub rows-right : t ≡ dualout_grid p l s n places future → IsDualout p l s r.best future t
    rows-right is = (
      shown,
      places_shown r.tree future,
      places-right p s r.tree future h.view some,
      is ∙ (ap (λ m. dualout_grid p l s m places future) e ∙ ap (λ q. dualout_grid p l s (row_lists r.figures) q future) d),
    )
