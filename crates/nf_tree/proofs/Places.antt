-- A basic column of a tree stands in the slot of the node at one of its ends.
use Rattle.std.proofs.Common.{◌≡◌, ◌⊎◌, inl, inr, Bool, true, false, ℕ, suc, ◌-◌, ◌<◌, List, slice_index, sym, ap, ◌∙◌, subst, arith}
use Rattle.std.specs.Prelude.{IsTrue}
use Rattle.nf_model.specs.Program.{LinearProgram}
use Rattle.nf_model.specs.Problem.{IsProblem}
use Rattle.nf_links.specs.Map.{LinkMap}
use Rattle.nf_simplex.specs.Place as model
use Rattle.nf_simplex.specs.StageOf.{StageOne}
use Rattle.nf_simplex.specs.Layout.{layout_of}
use Rattle.nf_simplex.specs.Standing.{Standing}
use Rattle.nf_simplex.proofs.Numbered.{number_within}
use Rattle.nf_basis.specs.declared.col.Col.{Col}
use Rattle.nf_basis.specs.Names.{col_of}
use Rattle.nf_basis.specs.Kept.{IsPresent, number, place_in}
use Rattle.nf_basis.specs.Numbers.{ListBasics, in_slot, slot_number}
use Rattle.nf_basis.proofs.Named.{same_column}
use Rattle.nf_tree.specs.Vertices.{tail_at, head_at}
use Rattle.nf_tree.specs.Links.{IsTreeOf}
use Rattle.nf_tree.proofs.Slotted.{rows_are}

-- A basic column is in a slot.
pub basic_listed : (p : LinearProgram) (s : Standing) (slots : List Col) → IsProblem p → s.stage ≡ StageOne → ListBasics p s slots → (c : Col) → IsPresent p s c → place_in p s c ≡ model.Basic
    → (k : ℕ) × (k < p.nodes) × (in_slot slots k ≡ c)
basic_listed p s slots ok one listed c here basic =
    let (k, h, e) = listed.every (number p c) (number_within (layout_of p) s.stage (col_of c) ok.arcs_within here.1) basic in
    (k, subst (λ n. k < n) (rows_are p s one) h, same_column p s (in_slot slots k) c ok.arcs_within (listed.present k h) here e)

-- One that is in slot k, but not in that of its tail, has node k + 1 as its head.
pub at_head : (p : LinearProgram) (s : Standing) (slots : List Col) (order : List ℕ) (m : LinkMap) → IsTreeOf p s slots order m → (c : Col) (k : ℕ) → k < p.nodes → in_slot slots k ≡ c
    → (0 < tail_at p s (number p c) → in_slot slots (tail_at p s (number p c) - 1) ≡ c → ⊥) → head_at p s (number p c) ≡ suc k
at_head p s slots order m tree c k h e other = of (tree.rooted.ends k h)
  where
    of : ((tail_at p s (slot_number p slots k) ≡ suc k) × (head_at p s (slot_number p slots k) ≡ slice_index m.pred (suc k)))
        ⊎ ((tail_at p s (slot_number p slots k) ≡ slice_index m.pred (suc k)) × (head_at p s (slot_number p slots k) ≡ suc k)) → head_at p s (number p c) ≡ suc k
    of (inl a) =
        let t : tail_at p s (number p c) ≡ suc k = ap (λ d. tail_at p s (number p d)) (sym e) ∙ a.0 in
        let r : suc k - 1 ≡ k = omega arith in
        absurd (other (omega arith) (ap (λ z. in_slot slots (z - 1)) t ∙ (ap (in_slot slots) r ∙ e)))
    of (inr a) = ap (λ d. head_at p s (number p d)) (sym e) ∙ a.1

-- What is false is not true.
pub no_and_yes : {b : Bool} → b ≡ false → IsTrue b → ⊥
no_and_yes e t = absurd (let y : false ≡ true = sym e ∙ t in cc)
