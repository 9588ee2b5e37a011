-- Printed tables can be written, and those of the problem are the same in each state.
use Rattle.std.proofs.Common.{◌≡◌, ◌≢◌, ◌∙◌, ◌++◌, ℕ, Bool, true, false, List, [], Result, Ok, Err, refl, ap, sym, subst, append_assoc}
use Rattle.std.specs.Prelude.{IfOk, OnOk}
use Rattle.nf_model.specs.Program.{LinearProgram}
use Rattle.nf_labels.specs.Labels.{LabelList}
use Rattle.nf_table.specs.Grid.{Grid}
use Rattle.nf_table.specs.Writing.{begins_with_mark}
use Rattle.nf_simplex.specs.Standing.{Standing}
use Rattle.nf_out.specs.Arcs.{ArcLists}
use Rattle.nf_out.specs.Rows.{RowLists}
use Rattle.nf_out.specs.Tables.{grid_of}
use Rattle.nf_print.specs.declared.parts.Part.{Part}
use Rattle.nf_print.specs.declared.parts.Part.TheVariants as part
use Rattle.nf_results.specs.declared.results.Results.{Results}
use Rattle.nf_results.specs.Results.{AreResults, arc_lists, row_lists}
use Rattle.nf_print.specs.Parts.{PrintsProblem, PrintsResults, all_parts, no_arcs, no_rows, part_grid, parts_text}

-- A table can be written: it has a header, which begins with no byte order mark, and no row in hand.
pub record CanBeWritten (g : Grid) : Type 0 where
  pub header : g.header ≢ []
  pub no_mark : begins_with_mark g ≡ false
  pub hand : g.hand ≡ []

module _ (p : LinearProgram) (l : LabelList) (s : Standing) (a : ArcLists) (r : RowLists) where
  pub part-written : (full : Bool) (q : Part) → CanBeWritten (part_grid p l s a r full q)
  unfolding grid_of
  part-written full part.Arcs = record { header = λ e. cc; no_mark = refl; hand = refl }
  part-written full part.Nonarcs = record { header = λ e. cc; no_mark = refl; hand = refl }
  part-written full part.Nodes = record { header = λ e. cc; no_mark = refl; hand = refl }
  part-written full part.Constraints = record { header = λ e. cc; no_mark = refl; hand = refl }

  pub written-at : (g : Grid) (full : Bool) (q : Part) → g ≡ part_grid p l s a r full q → CanBeWritten g
  written-at g full q e = subst CanBeWritten (sym e) (part-written full q)

  pub part-is : {E : Type 0} (t : Result Grid E) (full : Bool) (q w : Part) → q ≡ w → IfOk t (λ g. g ≡ part_grid p l s a r full w) → IfOk t (λ g. g ≡ part_grid p l s a r full q)
  part-is t full q w e h = subst (λ x. IfOk t (λ g. g ≡ part_grid p l s a r full x)) (sym e) h

pub problem-once : (p : LinearProgram) (l : LabelList) (s t : Standing) → parts_text p l s no_arcs no_rows false all_parts ≡ parts_text p l t no_arcs no_rows false all_parts
unfolding grid_of
problem-once p l s t = refl

-- What is printed, from the numbers that are handed on.
module _ (p : LinearProgram) (l : LabelList) (s : Standing) (a : ArcLists) (n : RowLists) (parts : List Part) (t : List ℕ) where
  pub results-printed : (r : Results) → AreResults p s r → a ≡ arc_lists r.figures → n ≡ row_lists r.figures → t ≡ parts_text p l s a n true parts → PrintsResults p l s r.best parts t
  results-printed r h e d is = (
    record { figures = r.figures; of_state = h.figures },
    is ∙ (ap (λ b. parts_text p l s b n true parts) e ∙ ap (λ m. parts_text p l s (arc_lists r.figures) m true parts) d),
  )

  pub problem-printed : a ≡ no_arcs → n ≡ no_rows → parts ≡ all_parts → t ≡ parts_text p l s a n false parts → PrintsProblem p l t
  problem-printed e d f is u =
      is ∙ (ap (λ b. parts_text p l s b n false parts) e
      ∙ (ap (λ m. parts_text p l s no_arcs m false parts) d
      ∙ (ap (λ q. parts_text p l s no_arcs no_rows false q) f ∙ problem-once p l s u)))

-- Five texts, each added after the one before.
pub five-added : (t u v w x y a b c d e : List ℕ) → u ≡ t ++ a → v ≡ u ++ b → w ≡ v ++ c → x ≡ w ++ d → y ≡ x ++ e → y ≡ t ++ (a ++ (b ++ (c ++ (d ++ e))))
five-added t u v w x y a b c d e h i j k m =
    m ∙ (ap (λ z. z ++ e) (k ∙ ap (λ z. z ++ d) (j ∙ ap (λ z. z ++ c) (i ∙ ap (λ z. z ++ b) h)))
    ∙ (append_assoc (((t ++ a) ++ b) ++ c) d e
    ∙ (append_assoc ((t ++ a) ++ b) c (d ++ e)
    ∙ (append_assoc (t ++ a) b (c ++ (d ++ e))
    ∙ append_assoc t a (b ++ (c ++ (d ++ e)))))))

pub on-carried : {T E A B : Type 0} (r : Result T E) → (A → B) → OnOk r A → OnOk r B
on-carried (Ok x) f h = f h
on-carried (Err e) f h = tt
