-- Four draws, one after the other, and the rows that they give.
use Rattle.std.proofs.Common.{◌≡◌, ◌+◌, ◌*◌, ◌%◌, ◌∷◌, ℕ, List, [], Result, Ok, Err, codes, decimal, ap, ap₂, ◌∙◌, arith}
use Rattle.std.specs.Prelude.{OnOk}
use Rattle.nf_table.specs.Grid.{Cells}
use Rattle.nf_sample.specs.Draws.{draw, drawn, next_state, state_after}
use Rattle.nf_sample.specs.Sample.{arc, constraint, drawn_arc, named, node}

-- The states of four draws, one after the other.
pub record AreNext (x a b c d : ℕ) : Type 0 where
  pub first : a ≡ next_state x
  pub second : b ≡ next_state a
  pub third : c ≡ next_state b
  pub fourth : d ≡ next_state c

pub four_states : (x a b c d : ℕ) → AreNext x a b c d → d ≡ state_after x 4
unfolding state_after
four_states x a b c d s = s.fourth ∙ ap next_state (s.third ∙ ap next_state (s.second ∙ ap next_state s.first))

pub draw_0 : (x m r : ℕ) → r ≡ drawn x m → r ≡ draw x 0 m
unfolding state_after
draw_0 x m r e = e

pub draw_1 : (x a b c d m r : ℕ) → AreNext x a b c d → r ≡ drawn a m → r ≡ draw x 1 m
unfolding state_after
draw_1 x a b c d m r s e = e ∙ ap (λ y. drawn y m) s.first

pub draw_2 : (x a b c d m r : ℕ) → AreNext x a b c d → r ≡ drawn b m → r ≡ draw x 2 m
unfolding state_after
draw_2 x a b c d m r s e = e ∙ ap (λ y. drawn y m) (s.second ∙ ap next_state s.first)

pub draw_3 : (x a b c d m r : ℕ) → AreNext x a b c d → r ≡ drawn c m → r ≡ draw x 3 m
unfolding state_after
draw_3 x a b c d m r s e = e ∙ ap (λ y. drawn y m) (s.third ∙ ap next_state (s.second ∙ ap next_state s.first))

-- ---- the row of an arc
pub arc_is_drawn : (x n i a b c d t h k q : ℕ) (cost capacity : List ℕ) → AreNext x a b c d → t ≡ drawn x n → h ≡ drawn a n → k ≡ drawn b 90 → q ≡ drawn c 20 → cost ≡ decimal (k + 1) → capacity ≡ decimal (q + 1)
    → (node (t + 1) ∷ node (h + 1) ∷ arc i ∷ cost ∷ capacity ∷ []) ∷ [] ≡ drawn_arc x n i
arc_is_drawn x n i a b c d t h k q cost capacity s et eh ek eq ec ep =
    ap₂ (λ u v. (node (u + 1) ∷ node (v + 1) ∷ arc i ∷ cost ∷ capacity ∷ []) ∷ []) (draw_0 x n t et) (draw_1 x a b c d n h s eh)
    ∙ ap₂ (λ u v. (node (draw x 0 n + 1) ∷ node (draw x 1 n + 1) ∷ arc i ∷ u ∷ v ∷ []) ∷ [])
    (ec ∙ ap (λ m. decimal (m + 1)) (draw_2 x a b c d 90 k s ek))
    (ep ∙ ap (λ m. decimal (m + 1)) (draw_3 x a b c d 20 q s eq))

-- ---- the lines of a constraint
abbrev lines : ℕ → ℕ → ℕ → ℕ → ℕ → ℕ → ℕ → List Cells
lines n k m f g h r =
    (named (codes "r") k ∷ arc (1 + m % n) ∷ decimal (f + 1) ∷ codes "LE" ∷ decimal r ∷ [])
    ∷ (named (codes "r") k ∷ arc (1 + (3 * k + 1) % n) ∷ decimal (g + 1) ∷ [] ∷ [] ∷ [])
    ∷ (named (codes "r") k ∷ arc (1 + (3 * k + 2) % n) ∷ decimal (h + 1) ∷ [] ∷ [] ∷ [])
    ∷ (named (codes "r") k ∷ named (codes "z") k ∷ codes "-1" ∷ [] ∷ [] ∷ []) ∷ []

pub constraint_is_drawn : (x n k a b c d f g h r : ℕ) → AreNext x a b c d → f ≡ drawn x 3 → g ≡ drawn a 3 → h ≡ drawn b 3 → r ≡ drawn c 50 → lines n k (3 * k) f g h r ≡ constraint x n k
constraint_is_drawn x n k a b c d f g h r s ef eg eh er =
    ap (λ m. lines n k m f g h r) (let e : 3 * k ≡ 3 * k + 0 = omega arith in e)
    ∙ ap₂ (λ u v. lines n k (3 * k + 0) u v h r) (draw_0 x 3 f ef) (draw_1 x a b c d 3 g s eg)
    ∙ ap₂ (λ u v. lines n k (3 * k + 0) (draw x 0 3) (draw x 1 3) u v) (draw_2 x a b c d 3 h s eh) (draw_3 x a b c d 50 r s er)

-- ---- what holds if a call succeeds
pub on_ok : {T E : Type 0} {P Q : Type 0} (r : Result T E) → (P → Q) → OnOk r P → OnOk r Q
on_ok (Ok x) f h = f h
on_ok (Err e) f h = tt

pub always : {T E : Type 0} {P : Type 0} (r : Result T E) → P → OnOk r P
always (Ok x) h = h
always (Err e) h = tt
