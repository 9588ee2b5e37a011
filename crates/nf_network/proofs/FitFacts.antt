-- There is one label for each part of the network.
use Rattle.std.proofs.Common.{◌≡◌, ◌+◌, ◌*◌, ◌++◌, ℕ, zero, suc, Bool, true, false, cond, List, [], ◌∷◌, Option, None, length, map, get_or, refl, sym, ap, ◌∙◌, arith}
use Rattle.std.proofs.lemmas.List.{length-append}
use Rattle.std.specs.List.{flat_map}
use Rattle.nf_frac.specs.Texts.{frac_text}
use Rattle.nf_model.specs.declared.RowKind.TheVariants.{Eq}
use Rattle.nf_model.specs.Program.{Column, Row}
use Rattle.nf_labels.specs.Labels.{AreNumbered, NodeText}
use Rattle.nf_table.specs.Grid.{Cells, Grid}
use Rattle.nf_cells.specs.Names.{Name}
use Rattle.nf_cells.specs.declared.values.Supply.{Supply}
use Rattle.nf_program.specs.declared.program.ProcOptions.{ProcOptions}
use Rattle.nf_network.specs.declared.excess.Balance.{Balance}
use Rattle.nf_network.specs.Excess.{balance_of, gets, has_excess, joined_below, sends}
use Rattle.nf_network.specs.Network.{cells_at, excess_column, excess_value, node_texts, excess_columns, excess_columns_at, excess_names, excess_names_at, if_excess, labels_of, node_row, program_of, supdem_text}
use Rattle.nf_network.specs.Faults.{excess}
use Rattle.nf_network.proofs.Lists.{joined-ones}
use Rattle.nf_network.proofs.PassFacts.{map-length}

joined-same : {A B : Type 0} (n : ℕ) (f : ℕ → List A) (g : ℕ → List B) → ((k : ℕ) → length (f k) ≡ length (g k)) → length (joined_below n f) ≡ length (joined_below n g)
unfolding joined_below
joined-same zero f g h = refl
joined-same (suc n) f g h =
    length-append (joined_below n f) (f n) ∙ ap (λ m. m + length (f n)) (joined-same n f g h) ∙ ap (λ m. length (joined_below n g) + m) (h n) ∙ sym (length-append (joined_below n g) (g n))

if-same : {A B : Type 0} (b : Balance) (vs : List (Option Supply)) (x : A) (y : B) → length (if_excess b vs x) ≡ length (if_excess b vs y)
if-same {A = A} {B = B} b vs x y = by_test (has_excess b vs)
  where
    by_test : (t : Bool) → length (cond {A = List A} t (x ∷ []) []) ≡ length (cond {A = List B} t (y ∷ []) [])
    by_test true = refl
    by_test false = refl

two-same : {A B : Type 0} (s t : Bool) (x y : A) (u v : B) → length (cond s (x ∷ []) [] ++ cond t (y ∷ []) []) ≡ length (cond s (u ∷ []) [] ++ cond t (v ∷ []) [])
two-same true true x y u v = refl
two-same true false x y u v = refl
two-same false true x y u v = refl
two-same false false x y u v = refl

flat-length : (ids : List ℕ) (rows : List Cells) → length (flat_map (cells_at ids) rows) ≡ length rows * length ids
flat-length ids [] = omega arith
flat-length ids (r ∷ rs) =
    let next : suc (length rs) * length ids ≡ length ids + length rs * length ids = omega arith in
    length-append (cells_at ids r) (flat_map (cells_at ids) rs) ∙ ap (λ n. n + length (flat_map (cells_at ids) rs)) (map-length (λ c. get_or r c []) ids)
    ∙ ap (λ n. length ids + n) (flat-length ids rs) ∙ sym next

plus-same : {A B : Type 0} (xs ys : List A) (us ws : List B) → length xs ≡ length us → length ys ≡ length ws → length (xs ++ ys) ≡ length (us ++ ws)
plus-same xs ys us ws h k =
    let left = length-append xs ys in
    let right = length-append us ws in
    omega (arith, left, right, h, k)

pub fit : (o : ProcOptions) (cs : List Column) (vs : List (Option Supply)) (names arcs : List Name) (ids : List ℕ) (table : Grid)
    → length vs ≡ length names → length cs ≡ length arcs → length arcs ≡ length table.rows → AreNumbered (labels_of o.thrunet names vs arcs ids table) (program_of o cs vs)
fit o cs vs names arcs ids table hv hc hr =
    let text : NodeText = record { name = excess; supdem = frac_text (excess_value (balance_of o.thrunet vs)) } in
    let row : Row = record { kind = Eq; right = excess_value (balance_of o.thrunet vs) } in
    let more = joined-same (length vs) (excess_names_at (balance_of o.thrunet vs) names vs) (excess_columns_at (balance_of o.thrunet vs) vs)
    (λ k. two-same (sends (balance_of o.thrunet vs) (get_or vs k None)) (gets (balance_of o.thrunet vs) (get_or vs k None)) (get_or names k [] ++ 95 ∷ excess) (excess ++ 95 ∷ get_or names k [])
    (excess_column k (length vs)) (excess_column (length vs) k)) in
    let all = length-append cs (excess_columns (balance_of o.thrunet vs) vs) in
    record {
      nodes = plus-same (node_texts names vs) (if_excess (balance_of o.thrunet vs) vs text) (map node_row vs) (if_excess (balance_of o.thrunet vs) vs row)
          (joined-ones (length names) (λ k. record { name = get_or names k []; supdem = supdem_text (get_or vs k None) }) ∙ sym hv ∙ sym (map-length node_row vs))
          (if-same (balance_of o.thrunet vs) vs text row);
      columns = plus-same arcs (excess_names (balance_of o.thrunet vs) names vs) cs (excess_columns (balance_of o.thrunet vs) vs) (sym hc) more;
      constraints = omega arith;
      own_arcs = omega (arith, all, hc);
      ids = flat-length ids table.rows ∙ ap (λ n. n * length ids) (sym hr) ∙ ap (λ n. length arcs * n) (sym (map-length (λ c. get_or table.header c []) ids));
    }
