-- One more arc or artificial is listed.
use Rattle.std.proofs.Common.{◌≡◌, ℕ, suc, ◌+◌, ◌-◌, ◌<◌, ◌≤◌, Bool, true, false, List, [], ◌∷◌, ◌++◌, Option, Some, None, if◌then◌else◌, refl, sym, ap, ap₂, ◌∙◌, subst, arith}
use Rattle.std.proofs.lemmas.List.{append-nil, append_assoc}
use Rattle.nf_model.specs.Program.{LinearProgram, Ends, column}
use Rattle.nf_model.specs.Problem.{IsProblem, HaveEndsBelow}
use Rattle.nf_prob.specs.Numbers.{tail_number, head_number}
use Rattle.nf_simplex.specs.Columns.{Given, Artificial}
use Rattle.nf_simplex.specs.Standing.{Standing, place_of}
use Rattle.nf_view.specs.declared.links.Link.{Link}
use Rattle.nf_view.specs.Keys.{is_basic, arc_link, root_link, basic_arcs, basic_roots}
use Rattle.nf_view.specs.Parts.{IsBetween}

pub arcs_in : (p : LinearProgram) (s : Standing) (k : ℕ) (b : Bool) → is_basic (place_of p s (Given k)) ≡ b → basic_arcs p s (suc k) ≡ basic_arcs p s k ++ (if b then arc_link p k ∷ [] else [])
unfolding basic_arcs
arcs_in p s k b e = ap (λ b. basic_arcs p s k ++ (if b then arc_link p k ∷ [] else [])) e

pub roots_in : (p : LinearProgram) (s : Standing) (k : ℕ) (b : Bool) → is_basic (place_of p s (Artificial k)) ≡ b → basic_roots p s (suc k) ≡ basic_roots p s k ++ (if b then root_link k ∷ [] else [])
unfolding basic_roots
roots_in p s k b e = ap (λ b. basic_roots p s k ++ (if b then root_link k ∷ [] else [])) e

pub no_arcs : (p : LinearProgram) (s : Standing) → [] ≡ basic_arcs p s 0
unfolding basic_arcs
no_arcs p s = refl

pub no_roots : (p : LinearProgram) (s : Standing) → [] ≡ basic_roots p s 0
unfolding basic_roots
no_roots p s = refl

ends_within : (n : ℕ) (e : Option Ends) → HaveEndsBelow n e → (tail_number e ≤ n) × (head_number e ≤ n)
ends_within n None h = (omega arith, omega arith)
ends_within n (Some e) h = (let a = h.0 in omega arith, let a = h.1 in omega arith)

pub arc_between : (p : LinearProgram) → IsProblem p → (k : ℕ) → k < p.arcs → IsBetween p.nodes (arc_link p k)
arc_between p ok k h =
    let c = ok.each k _ (let a = ok.arcs_within in omega arith) in
    let w = ends_within p.nodes (column p k).ends c.ends_within in
    record { begins = w.0; ends = w.1 }

module _ (p : LinearProgram) (s : Standing) (k : ℕ) where
  back : k + 1 - 1 ≡ k
  back = omega arith

  next : suc k ≡ k + 1
  next = omega arith

  -- A basic arc is listed, and one that is not basic is left out.
  pub arc_pushed : (b e : ℕ) (links : List Link) → links ≡ basic_arcs p s k → is_basic (place_of p s (Given (k + 1 - 1))) ≡ true → b ≡ tail_number (column p (k + 1 - 1)).ends → e ≡ head_number (column p (k + 1 - 1)).ends
      → links ++ record { arc = k + 1; «from» = b; to = e } ∷ [] ≡ basic_arcs p s (k + 1)
  arc_pushed b e links l t eb ee =
      let t2 : is_basic (place_of p s (Given k)) ≡ true = ap (λ x. is_basic (place_of p s (Given x))) (sym back) ∙ t in
      let same : record { arc = suc k; «from» = b; to = e } ≡ arc_link p k =
      ap₂ (λ x y. record { arc = suc k; «from» = x; to = y }) (eb ∙ ap (λ x. tail_number (column p x).ends) back) (ee ∙ ap (λ x. head_number (column p x).ends) back) in
      subst (λ x. links ++ record { arc = x; «from» = b; to = e } ∷ [] ≡ basic_arcs p s x) next (ap₂ (λ xs y. xs ++ y ∷ []) l same ∙ sym (arcs_in p s k true t2))

  pub arc_skipped : (links : List Link) → links ≡ basic_arcs p s k → is_basic (place_of p s (Given (k + 1 - 1))) ≡ false → links ≡ basic_arcs p s (k + 1)
  arc_skipped links l t =
      let t2 : is_basic (place_of p s (Given k)) ≡ false = ap (λ x. is_basic (place_of p s (Given x))) (sym back) ∙ t in
      subst (λ x. links ≡ basic_arcs p s x) next (l ∙ (sym (append-nil (basic_arcs p s k)) ∙ sym (arcs_in p s k false t2)))

  -- The same of an artificial, after the arcs.
  pub root_pushed : (front links : List Link) → links ≡ front ++ basic_roots p s k → is_basic (place_of p s (Artificial (k + 1 - 1))) ≡ true
      → links ++ record { arc = 0; «from» = 0; to = k + 1 } ∷ [] ≡ front ++ basic_roots p s (k + 1)
  root_pushed front links l t =
      let t2 : is_basic (place_of p s (Artificial k)) ≡ true = ap (λ x. is_basic (place_of p s (Artificial x))) (sym back) ∙ t in
      subst (λ x. links ++ record { arc = 0; «from» = 0; to = x } ∷ [] ≡ front ++ basic_roots p s x) next
      (ap (λ xs. xs ++ root_link k ∷ []) l ∙ (append_assoc front (basic_roots p s k) (root_link k ∷ []) ∙ ap (λ ys. front ++ ys) (sym (roots_in p s k true t2))))

  pub root_skipped : (front links : List Link) → links ≡ front ++ basic_roots p s k → is_basic (place_of p s (Artificial (k + 1 - 1))) ≡ false → links ≡ front ++ basic_roots p s (k + 1)
  root_skipped front links l t =
      let t2 : is_basic (place_of p s (Artificial k)) ≡ false = ap (λ x. is_basic (place_of p s (Artificial x))) (sym back) ∙ t in
      subst (λ x. links ≡ front ++ basic_roots p s x) next (l ∙ ap (λ ys. front ++ ys) (sym (append-nil (basic_roots p s k)) ∙ sym (roots_in p s k false t2)))

  pub arc_within : IsProblem p → k < p.arcs → (b e : ℕ) → b ≡ tail_number (column p (k + 1 - 1)).ends → e ≡ head_number (column p (k + 1 - 1)).ends → IsBetween p.nodes (record { arc = k + 1; «from» = b; to = e })
  arc_within ok h b e eb ee =
      let w = arc_between p ok k h in
      let x = eb ∙ ap (λ x. tail_number (column p x).ends) back in
      let y = ee ∙ ap (λ x. head_number (column p x).ends) back in
      record { begins = (let z = w.begins in omega arith); ends = (let z = w.ends in omega arith) }
