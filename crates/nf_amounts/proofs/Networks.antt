-- The network of tables has amounts: its columns, its right sides, and how many of each there are.
use Rattle.std.proofs.Common.{◌≡◌, ◌⊎◌, inl, inr, ◌++◌, ◌&&◌, ℕ, zero, suc, ◌+◌, ◌*◌, ◌^◌, ◌<◌, ◌≤◌, ℤ, pos, negsuc, neg_ℤ, unsigned_abs, ◌+ℤ◌, Bool, true, false, not, cond, List, [], ◌∷◌, length, map, get_or, nat_lt, nat_eq, Option, Some, None, Ok, IfSome, unwrap_or, refl, sym, ap, ◌∙◌, subst, arith}
use Rattle.std.specs.List.{All, fold, list_any}
use lib.Signed.{lt_z}
use Rattle.std.proofs.lemmas.Bool.{ltb-true}
use Rattle.std.proofs.lemmas.List.{length-append, length-map, get_or_append_left, get_or-append-add, get_or-map}
use Rattle.std.proofs.lemmas.List.Elements.{All-nil, All-cons, All-head, All-tail, All-append, All-map}
use Rattle.nf_num.specs.Rational.{ℚ, frac, zero_ℚ, one_ℚ, neg_ℚ}
use Rattle.nf_num.proofs.Laws.{frac_quotient}
use Rattle.nf_num.proofs.Reduce.{abs-neg}
use Rattle.nf_frac.specs.declared.amount.Amount.{Amount}
use Rattle.nf_frac.specs.Amounts as text
use Rattle.nf_frac.specs.Amounts.{amount_value, most_thousandths}
use Rattle.nf_model.specs.declared.RowKind.TheVariants.{Eq}
use Rattle.nf_model.specs.Program.{Column, Row, Entry, Ends, LinearProgram}
use Rattle.nf_prob.specs.Building.{new_column, end_entries}
use Rattle.nf_table.specs.Grid.{Cells, Grid}
use Rattle.nf_cells.specs.Names.{Name}
use Rattle.nf_cells.specs.declared.values.Bound.{Bound as CellBound}
use Rattle.nf_cells.specs.declared.values.Bound.TheVariants.{Finite, Infinite}
use Rattle.nf_cells.specs.declared.values.Supply.{Supply}
use Rattle.nf_cells.specs.declared.values.Supply.TheVariants as supply
use Rattle.nf_program.specs.declared.program.ProcOptions.{ProcOptions}
use Rattle.nf_program.specs.declared.program.Bound.{Bound as OptionBound}
use Rattle.nf_program.specs.declared.program.Bound.TheVariants as option
use Rattle.nf_program.specs.declared.program.Role.TheVariants as role
use Rattle.nf_program.specs.declared.program.SetName.{SetName}
use Rattle.nf_program.specs.declared.program.SetName.TheVariants as set
use Rattle.nf_roles.specs.declared.fault.CellFault.{CellFault}
use Rattle.nf_roles.specs.declared.fault.DataFault.{DataFault}
use Rattle.nf_roles.specs.First.{or_else}
use Rattle.nf_roles.specs.Roles.{RoleColumns, cell_for}
use Rattle.nf_network.specs.Rows.{ArcRow, arc_row, arc_rows, node_rows}
use Rattle.nf_network.specs.Arcs.{given}
use Rattle.nf_network.specs.NodeData.{all_nodes, first_node_fault, gifts_to}
use Rattle.nf_network.specs.Faults.{first_arc_fault, most_nodes}
use Rattle.nf_network.specs.Excess.{joined_below, thousandths_of, total as total_of, is_open_supply, is_open_demand, balance_of, sends, gets, has_excess}
use Rattle.nf_network.specs.Network.{Network, defaults_of, bound_or_infinite, in_sense, upper_of, arc_column, excess_column, excess_columns, excess_columns_at, node_row, excess_value, program_of, in_set, first_fault, values, network_of, unless_fault, network_due}
use Rattle.nf_cons.specs.Due.{IsNetworkOf}
use Rattle.nf_network.proofs.Lists.{abs-add, joined-short}
use Rattle.nf_network.proofs.LimitFacts.{few-arcs, few-nodes}
use Rattle.nf_grove.specs.Sizes.{total}
use Rattle.nf_simplex.specs.Layout.{layout_of}
use Rattle.nf_simplex.specs.Columns.{all_columns}
use Rattle.nf_simplex.specs.StageOf.{HasStageTwo}
use Rattle.nf_simplex.proofs.Orders.{less_or_not, yes_less, not_less}
use Rattle.nf_width.specs.Amounts.{IsWhole, IsAmount, HasAmounts}
use Rattle.nf_width.proofs.Whole.{whole_neg, whole_more}
use Rattle.nf_width.proofs.States.{none_of}
use Rattle.nf_width.proofs.Printed.{whole_parts}
use Rattle.nf_amounts.specs.Laws.{IsBound as IsOptionBound, HasOptionAmounts, NetworksHaveAmounts, NetworksHaveOneStage}
use Rattle.nf_amounts.proofs.Reading.{IsCellBound, IsSupply, amount_said, bound_said, all_given, given_range, thousandths_small}

-- ---- numbers
thousandths_whole : (t : ℤ) (n : ℕ) → unsigned_abs t ≤ n → IsWhole 1000 n (frac t 1000)
thousandths_whole t n h = record { top = t; is = frac_quotient t 1000 (omega arith); small = h }

pub amount_whole : (a : Amount) → text.IsAmount a → IsAmount (amount_value a)
amount_whole a h = whole_more 1000 most_thousandths (10 ^ 12) (amount_value a) (omega arith) (thousandths_whole a.thousandths most_thousandths h)

pub sense_whole : (maximize : Bool) (a : Amount) → text.IsAmount a → IsAmount (in_sense maximize a)
sense_whole true a h = whole_neg 1000 (10 ^ 12) (amount_value a) (amount_whole a h)
sense_whole false a h = amount_whole a h

pub zero_amount : text.IsAmount (record { thousandths = pos 0 })
zero_amount = omega arith

pub or_zero : (a : Option Amount) → IfSome a text.IsAmount → text.IsAmount (unwrap_or a (record { thousandths = pos 0 }))
or_zero None h = zero_amount
or_zero (Some a) h = h

pub or_infinite : (b : Option OptionBound) → IfSome b IsOptionBound → IsCellBound (bound_or_infinite b)
or_infinite None h = tt
or_infinite (Some (option.Finite a)) h = h
or_infinite (Some option.Infinite) h = tt

-- ---- columns
-- Cost, bounds and entries of a column are amounts.
pub record IsOfAmounts (c : Column) : Type 0 where
  pub cost : IsAmount c.cost
  pub lower : (b : ℚ) → c.lower ≡ Some b → IsAmount b
  pub upper : (b : ℚ) → c.upper ≡ Some b → IsAmount b
  pub entries : All (λ e. IsAmount e.value) c.entries

-- The entries of an arc are 1 and -1.
one_amount : IsAmount one_ℚ
one_amount = whole_more 1000 1000 (10 ^ 12) one_ℚ (omega arith) (whole_parts 1000)

end_amounts : (e : Option Ends) → All (λ e. IsAmount e.value) (end_entries e)
end_amounts None = All-nil (λ e. IsAmount e.value)
end_amounts (Some e) = of (nat_eq e.tail e.head) (nat_lt e.tail e.head)
  where
    two : (a b : Entry) → IsAmount a.value → IsAmount b.value → All (λ e. IsAmount e.value) (a ∷ b ∷ [])
    two a b h k = All-cons (λ e. IsAmount e.value) a (b ∷ []) h (All-cons (λ e. IsAmount e.value) b [] k (All-nil (λ e. IsAmount e.value)))

    minus : IsAmount (neg_ℚ one_ℚ)
    minus = whole_neg 1000 (10 ^ 12) one_ℚ one_amount

    of : (a b : Bool) → All (λ (d : Entry). IsAmount d.value) (cond a [] (cond b (record { row = e.tail; value = one_ℚ } ∷ record { row = e.head; value = neg_ℚ one_ℚ } ∷ []) (record { row = e.head; value = neg_ℚ one_ℚ } ∷ record { row = e.tail; value = one_ℚ } ∷ [])))
    of true b = All-nil (λ e. IsAmount e.value)
    of false true = two _ _ one_amount minus
    of false false = two _ _ minus one_amount

same_some : (a b : ℚ) → Some a ≡ Some b → a ≡ b
same_some a b e = cc

pub no_some : (b : ℚ) → None ≡ Some b → ⊥
no_some b e = absurd (cc)

pub bound_amount : (u : CellBound) (b : ℚ) → IsCellBound u → upper_of u ≡ Some b → IsAmount b
bound_amount (Finite a) b h e = subst IsAmount (same_some (amount_value a) b e) (amount_whole a h)
bound_amount Infinite b h e = absurd (no_some b e)

-- A bound that is there, if it is an amount.
abbrev pub IsAmountIfThere : Option ℚ → Type 0
IsAmountIfThere bound = (b : ℚ) → bound ≡ Some b → IsAmount b

pub there_amount : (x : ℚ) → IsAmount x → IsAmountIfThere (Some x)
there_amount x h b e = subst IsAmount (same_some x b e) h

pub none_amount : IsAmountIfThere None
none_amount b e = absurd (no_some b e)

pub new_of_amounts : (ends : Option Ends) (cost : ℚ) (lower upper : Option ℚ) → IsAmount cost → IsAmountIfThere lower → IsAmountIfThere upper → IsOfAmounts (new_column ends cost lower upper)
new_of_amounts ends cost lower upper c l u = record { cost = c; lower = l; upper = u; entries = end_amounts ends }

excess_of_amounts : (t h : ℕ) → IsOfAmounts (excess_column t h)
excess_of_amounts t h = new_of_amounts _ zero_ℚ (Some zero_ℚ) None (none_of 1000 (10 ^ 12)) (there_amount zero_ℚ (none_of 1000 (10 ^ 12))) none_amount

module _ (o : ProcOptions) (has : HasOptionAmounts o) where
  arc_of_amounts : (nodes : List Name) (roles : RoleColumns) (c : Cells) → IsOfAmounts (arc_column o nodes (arc_row roles c))
  arc_of_amounts nodes roles c =
      new_of_amounts _ _ _ _ (sense_whole o.maximize _ (amount_said (unwrap_or o.defcost (record { thousandths = pos 0 })) (cell_for roles role.Cost c) (or_zero o.defcost has.cost)))
      (there_amount _ (amount_whole _ (amount_said (unwrap_or o.defminflow (record { thousandths = pos 0 })) (cell_for roles role.Lo c) (or_zero o.defminflow has.lower))))
      (λ b e. bound_amount _ b (bound_said (bound_or_infinite o.defcapacity) (cell_for roles role.Capacity c) (or_infinite o.defcapacity has.upper)) e)

pub joined_of_amounts : (n : ℕ) (f : ℕ → List Column) → ((k : ℕ) → All IsOfAmounts (f k)) → All IsOfAmounts (joined_below n f)
unfolding joined_below
joined_of_amounts zero f h = All-nil IsOfAmounts
joined_of_amounts (suc n) f h = All-append IsOfAmounts (joined_below n f) (f n) (joined_of_amounts n f h) (h n)

if_of_amounts : (b : Bool) (c : Column) → IsOfAmounts c → All IsOfAmounts (cond b (c ∷ []) [])
if_of_amounts true c h = All-cons IsOfAmounts c [] h (All-nil IsOfAmounts)
if_of_amounts false c h = All-nil IsOfAmounts

excesses_of_amounts : (t : Bool) (vs : List (Option Supply)) → All IsOfAmounts (excess_columns (balance_of t vs) vs)
excesses_of_amounts t vs =
    joined_of_amounts (length vs) (excess_columns_at (balance_of t vs) vs)
    (λ k. All-append IsOfAmounts _ _ (if_of_amounts (sends (balance_of t vs) (get_or vs k None)) _ (excess_of_amounts k (length vs)))
    (if_of_amounts (gets (balance_of t vs) (get_or vs k None)) _ (excess_of_amounts (length vs) k)))

-- ---- how many excess arcs there are: one for a node at most
asymmetric : (t : ℤ) → lt_z (pos 0) t ≡ true → lt_z t (pos 0) ≡ true → ⊥
asymmetric (pos n) a b = absurd (let z = ltb-true n 0 b in omega (arith, z))
asymmetric (negsuc n) a b = absurd (let z : false ≡ true = a in cc)

not_both : {A : Type 0} (s g : Bool) (x y : A) → (s ≡ true → g ≡ true → ⊥) → length (cond s (x ∷ []) [] ++ cond g (y ∷ []) []) ≤ 1
not_both true true x y h = absurd (h refl refl)
not_both true false x y h = omega arith
not_both false true x y h = omega arith
not_both false false x y h = omega arith

both_false : (a b c : Bool) → c ≡ false → (a && b && c) ≡ true → ⊥
both_false true true c e h = absurd (let z : false ≡ true = sym e ∙ h in cc)
both_false true false c e h = absurd (let z : false ≡ true = h in cc)
both_false false b c e h = absurd (let z : false ≡ true = h in cc)

first_true : (a b c : Bool) → (a && b && c) ≡ true → a ≡ true
first_true true b c h = refl
first_true false b c h = absurd (let z : false ≡ true = h in cc)

same_either : (t : Bool) → cond t false false ≡ false
same_either true = refl
same_either false = refl

one_way : (t : Bool) (vs : List (Option Supply)) (v : Option Supply) → sends (balance_of t vs) v ≡ true → gets (balance_of t vs) v ≡ true → ⊥
one_way t vs None s g = asymmetric (total_of vs) (first_true (lt_z (pos 0) (total_of vs)) (not (list_any is_open_demand vs)) _ s) (first_true (lt_z (total_of vs) (pos 0)) (not (list_any is_open_supply vs)) _ g)
one_way t vs (Some (supply.Amount a)) s g = asymmetric (total_of vs) (first_true (lt_z (pos 0) (total_of vs)) (not (list_any is_open_demand vs)) _ s) (first_true (lt_z (total_of vs) (pos 0)) (not (list_any is_open_supply vs)) _ g)
one_way t vs (Some supply.OpenSupply) s g = both_false (lt_z (pos 0) (total_of vs)) (not (list_any is_open_demand vs)) _ (same_either t) s
one_way t vs (Some supply.OpenDemand) s g = both_false (lt_z (total_of vs) (pos 0)) (not (list_any is_open_supply vs)) _ (same_either t) g

few_excesses : (t : Bool) (vs : List (Option Supply)) → length (excess_columns (balance_of t vs) vs) ≤ length vs
few_excesses t vs =
    let h = joined-short (length vs) 1 (excess_columns_at (balance_of t vs) vs) (λ k. not_both (sends (balance_of t vs) (get_or vs k None)) (gets (balance_of t vs) (get_or vs k None)) _ _ (one_way t vs (get_or vs k None))) in
    omega arith

-- ---- right sides
fold_small : (t : ℤ) (n : ℕ) (vs : List (Option Supply)) → unsigned_abs t ≤ n → All (λ v. IfSome v IsSupply) vs
    → unsigned_abs (fold (λ t v. t +ℤ thousandths_of v) t vs) ≤ n + length vs * most_thousandths
fold_small t n [] h all = omega arith
fold_small t n (v ∷ vs) h all =
    let next = fold_small (t +ℤ thousandths_of v) (n + most_thousandths) vs (abs-add t (thousandths_of v) n most_thousandths h (thousandths_small v (All-head (λ v. IfSome v IsSupply) v vs all))) (All-tail (λ v. IfSome v IsSupply) v vs all) in
    omega (arith, next)

-- What the right side of a node may be: one amount, and at the node behind all others what they come to.
most_at : ℕ → ℕ → ℕ
most_at m i = cond (nat_lt i m) (10 ^ 12) (2 * 10 ^ 16)

total_most : (m k : ℕ) → k ≤ m → total k (most_at m) ≤ k * 10 ^ 12
unfolding total most_at
total_most m zero h = omega arith
total_most m (suc k) h = let a = total_most m k (omega arith) in let b = yes_less k m (10 ^ 12) (2 * 10 ^ 16) (omega arith) in omega (arith, a, b)

total_behind : (m : ℕ) → total (suc m) (most_at m) ≤ m * 10 ^ 12 + 2 * 10 ^ 16
unfolding total most_at
total_behind m = let a = total_most m m (omega arith) in let b = not_less m m (10 ^ 12) (2 * 10 ^ 16) (omega arith) in omega (arith, a, b)

-- The rows of nodes, and one behind them or none.
module _ (vs : List (Option Supply)) (few : length vs ≤ most_nodes) (all : All (λ v. IfSome v IsSupply) vs) (last : Row) (last_small : IsWhole 1000 (2 * 10 ^ 16) last.right) where
  rows_of : Bool → List Row
  rows_of t = map node_row vs ++ cond t (last ∷ []) []

  count_true : length (rows_of true) ≡ suc (length vs)
  unfolding rows_of
  count_true = let a = length-append (map node_row vs) (last ∷ []) in let b = length-map vs node_row in omega (arith, a, b)

  count_false : length (rows_of false) ≡ length vs
  unfolding rows_of
  count_false = let a = length-append (map node_row vs) [] in let b = length-map vs node_row in omega (arith, a, b)

  few_rows : (t : Bool) → length (rows_of t) ≤ 20001
  few_rows true = let a = count_true in omega (arith, a, few)
  few_rows false = let a = count_false in omega (arith, a, few)

  few_together : (t : Bool) → total (length (rows_of t)) (most_at (length vs)) ≤ 10 ^ 17
  few_together true = let a = total_behind (length vs) in let b = ap (λ n. total n (most_at (length vs))) count_true in omega (arith, a, b, few)
  few_together false = let a = total_most (length vs) (length vs) (omega arith) in let b = ap (λ n. total n (most_at (length vs))) count_false in omega (arith, a, b, few)

  right_small : (t : Bool) (i : ℕ) (d : Row) → i < length (rows_of t) → IsWhole 1000 (most_at (length vs) i) (get_or (rows_of t) i d).right
  unfolding rows_of most_at
  right_small t i d h = of (less_or_not i (length vs))
    where
      size : length (map node_row vs) ≡ length vs
      size = length-map vs node_row

      behind : (t : Bool) → length vs ≤ i → i < length (map node_row vs ++ cond t (last ∷ []) []) → IsWhole 1000 (cond (nat_lt i (length vs)) (10 ^ 12) (2 * 10 ^ 16)) (get_or (map node_row vs ++ cond t (last ∷ []) []) i d).right
      behind false l k = absurd (let a = length-append (map node_row vs) [] in omega (arith, a, size, l, k))
      behind true l k =
          let a = length-append (map node_row vs) (last ∷ []) in
          let e : length (map node_row vs) + 0 ≡ i = omega (arith, a, size, l, k) in
          subst (λ n. IsWhole 1000 n (get_or (map node_row vs ++ last ∷ []) i d).right) (sym (not_less i (length vs) (10 ^ 12) (2 * 10 ^ 16) l))
          (subst (λ r. IsWhole 1000 (2 * 10 ^ 16) r.right) (sym (ap (λ n. get_or (map node_row vs ++ last ∷ []) n d) (sym e) ∙ get_or-append-add (map node_row vs) (last ∷ []) 0 d)) last_small)

      of : (i < length vs) ⊎ (length vs ≤ i) → IsWhole 1000 (cond (nat_lt i (length vs)) (10 ^ 12) (2 * 10 ^ 16)) (get_or (map node_row vs ++ cond t (last ∷ []) []) i d).right
      of (inl l) =
          subst (λ n. IsWhole 1000 n (get_or (map node_row vs ++ cond t (last ∷ []) []) i d).right) (sym (yes_less i (length vs) (10 ^ 12) (2 * 10 ^ 16) l))
          (subst (λ (r : Row). IsWhole 1000 (10 ^ 12) r.right)
          (sym (get_or_append_left (map node_row vs) (cond t (last ∷ []) []) d i (let a = size in omega (arith, a, l)) ∙ get_or-map node_row vs i None d l))
          (whole_more 1000 most_thousandths (10 ^ 12) _ (omega arith) (thousandths_whole (thousandths_of (get_or vs i None)) most_thousandths (thousandths_small (get_or vs i None) (all i None l)))))
      of (inr l) = behind t l h

-- ---- the network
none_before : {A : Type 0} (a b : Option A) → or_else a b ≡ None → (a ≡ None) × (b ≡ None)
none_before None b e = (refl, e)
none_before (Some x) b e = absurd (let z : Some x ≡ None = e in cc)

none_in_set : (s : SetName) (roles : RoleColumns) (header : Cells) (f : Option (ℕ × CellFault)) → in_set s roles header f ≡ None → f ≡ None
none_in_set s roles header None e = refl
none_in_set s roles header (Some f) e = absurd (cc)

module _ (o : ProcOptions) (arc_roles : RoleColumns) (arcs : Grid) (node_roles : RoleColumns) (nodes : Grid) (has : HasOptionAmounts o)
    (no_arc_fault : first_arc_fault (defaults_of o) (arc_rows arc_roles arcs.rows) ≡ None) (no_node_fault : first_node_fault (arc_rows arc_roles arcs.rows) (node_rows node_roles nodes.rows) ≡ None) where
  abbrev arc_list : List ArcRow
  arc_list = arc_rows arc_roles arcs.rows

  abbrev names : List Name
  names = all_nodes (arc_rows arc_roles arcs.rows) (node_rows node_roles nodes.rows)

  abbrev vs : List (Option Supply)
  vs = values o (arc_rows arc_roles arcs.rows) (node_rows node_roles nodes.rows)

  abbrev p : LinearProgram
  p = program_of o (map (arc_column o names) arc_list) vs

  supplies : All (λ v. IfSome v IsSupply) vs
  supplies =
      All-map (λ v. IfSome v IsSupply) (given (gifts_to o arc_list (node_rows node_roles nodes.rows))) names
      (λ i d l. given_range (gifts_to o arc_list (node_rows node_roles nodes.rows)) _ (all_given o arc_roles node_roles arcs.rows nodes.rows has))

  few : length vs ≤ most_nodes
  few = subst (λ n. n ≤ most_nodes) (sym (length-map names (given (gifts_to o arc_list (node_rows node_roles nodes.rows))))) (few-nodes (defaults_of o) arc_list (node_rows node_roles nodes.rows) no_arc_fault no_node_fault)

  total_small : unsigned_abs (total_of vs) ≤ 2 * 10 ^ 16
  total_small = let a = fold_small (pos 0) 0 vs (omega arith) supplies in omega (arith, a, few)

  last_small : IsWhole 1000 (2 * 10 ^ 16) (excess_value (balance_of o.thrunet vs))
  last_small = thousandths_whole (neg_ℤ (total_of vs)) (2 * 10 ^ 16) (let a = abs-neg (total_of vs) in omega (arith, a, total_small))

  last : Row
  last = record { kind = Eq; right = excess_value (balance_of o.thrunet vs) }

  columns : All IsOfAmounts p.columns
  columns =
      All-append IsOfAmounts (map (arc_column o names) arc_list) (excess_columns (balance_of o.thrunet vs) vs)
      (All-map IsOfAmounts (arc_column o names) arc_list (All-map (λ r. IsOfAmounts (arc_column o names r)) (arc_row arc_roles) arcs.rows (λ i d l. arc_of_amounts o has names arc_roles _)))
      (excesses_of_amounts o.thrunet vs)

  few_columns : length p.columns ≤ 220000
  few_columns =
      let a = length-append (map (arc_column o names) arc_list) (excess_columns (balance_of o.thrunet vs) vs) in
      let b = length-map arc_list (arc_column o names) in
      let c = few-arcs (defaults_of o) arc_list no_arc_fault in
      let d = few_excesses o.thrunet vs in
      omega (arith, a, b, c, d, few)

  few_all : length p.rows ≤ 20001 → all_columns (layout_of p) ≤ 250000
  few_all h = let a = few_columns in omega (arith, a, h)

  has_amounts : HasAmounts p
  unfolding rows_of last
  has_amounts = record {
    few_nodes = few_rows vs few supplies last last_small (has_excess (balance_of o.thrunet vs) vs);
    few_given = (let a = few_columns in omega (arith, a));
    few_columns = few_all (few_rows vs few supplies last last_small (has_excess (balance_of o.thrunet vs) vs));
    costs = λ j h. (columns j _ h).cost;
    lowers = λ j b h e. (columns j _ h).lower b e;
    uppers = λ j b h e. (columns j _ h).upper b e;
    entries = λ j h. (columns j _ h).entries;
    side_rights = λ i h l. absurd (omega arith);
    right_most = most_at (length vs);
    rights = λ i h. right_small vs few supplies last last_small (has_excess (balance_of o.thrunet vs) vs) i _ h;
    together = few_together vs few supplies last last_small (has_excess (balance_of o.thrunet vs) vs);
  }

-- What holds of the network of rows without a fault holds of the network that is read.
module _ (P : Network → Type 0) (o : ProcOptions) (arc_roles : RoleColumns) (arcs : Grid) (node_roles : RoleColumns) (nodes : Grid)
    (holds : first_arc_fault (defaults_of o) (arc_rows arc_roles arcs.rows) ≡ None → first_node_fault (arc_rows arc_roles arcs.rows) (node_rows node_roles nodes.rows) ≡ None
    → P (network_of o (arc_rows arc_roles arcs.rows) (node_rows node_roles nodes.rows) arc_roles.ids arcs)) where
  same : (m n : Network) → unless_fault None m ≡ Ok n → m ≡ n
  same m n q = cc

  unless : (f : Option DataFault) (n : Network) → first_fault o arc_roles arcs node_roles nodes ≡ f → unless_fault f (network_of o (arc_rows arc_roles arcs.rows) (node_rows node_roles nodes.rows) arc_roles.ids arcs) ≡ Ok n → P n
  unless (Some f) n h q = absurd (cc)
  unless None n h q =
      let arcs_first = none_before (in_set set.Arcdata arc_roles arcs.header (first_arc_fault (defaults_of o) (arc_rows arc_roles arcs.rows))) _ h in
      let nodes_next = none_before (in_set set.Nodedata node_roles nodes.header (first_node_fault (arc_rows arc_roles arcs.rows) (node_rows node_roles nodes.rows))) _ arcs_first.1 in
      subst P (same (network_of o (arc_rows arc_roles arcs.rows) (node_rows node_roles nodes.rows) arc_roles.ids arcs) n q)
      (holds (none_in_set set.Arcdata arc_roles arcs.header (first_arc_fault (defaults_of o) (arc_rows arc_roles arcs.rows)) arcs_first.0)
      (none_in_set set.Nodedata node_roles nodes.header (first_node_fault (arc_rows arc_roles arcs.rows) (node_rows node_roles nodes.rows)) nodes_next.0))

  of_network : (n : Network) → network_due o arc_roles arcs node_roles nodes ≡ Ok n → P n
  unfolding network_due
  of_network n e = unless (first_fault o arc_roles arcs node_roles nodes) n refl e

pub networks_have_amounts : NetworksHaveAmounts
networks_have_amounts o n has is =
    of_network (λ m. HasAmounts m.program) o is.arc_roles is.arcs is.node_roles is.nodes (λ a b. has_amounts o is.arc_roles is.arcs is.node_roles is.nodes has a b) n is.answered

-- A network of nodes only, all of its columns arcs, as many as a network may have at most.
pub record IsOfNodes (p : LinearProgram) : Type 0 where
  pub all_nodes : p.nodes ≡ length p.rows
  pub all_arcs : p.arcs ≡ length p.columns
  pub few_columns : length p.columns ≤ 220000

pub networks_are_of_nodes : (o : ProcOptions) (n : Network) → HasOptionAmounts o → IsNetworkOf o n → IsOfNodes n.program
networks_are_of_nodes o n has is =
    of_network (λ m. IsOfNodes m.program) o is.arc_roles is.arcs is.node_roles is.nodes
    (λ a b. record { all_nodes = refl; all_arcs = refl; few_columns = few_columns o is.arc_roles is.arcs is.node_roles is.nodes has a b }) n is.answered

one_stage : (p : LinearProgram) → p.nodes ≡ length p.rows → p.arcs ≡ length p.columns → HasStageTwo (layout_of p) → ⊥
one_stage p nodes arcs (inl h) = omega (arith, nodes, h)
one_stage p nodes arcs (inr h) = omega (arith, arcs, h)

pub networks_have_one_stage : NetworksHaveOneStage
networks_have_one_stage o n is =
    let whole = of_network (λ m. (m.program.nodes ≡ length m.program.rows) × (m.program.arcs ≡ length m.program.columns)) o is.arc_roles is.arcs is.node_roles is.nodes (λ a b. (refl, refl)) n is.answered in
    one_stage n.program whole.0 whole.1
