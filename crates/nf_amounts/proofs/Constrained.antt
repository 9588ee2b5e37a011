-- A network with constraints has amounts: the columns of nonarc variables, the right sides of side rows, and the entries in
-- them.
use Rattle.std.proofs.Common.{◌≡◌, ◌⊎◌, inl, inr, ◌++◌, ◌&&◌, ℕ, ◌+◌, ◌-◌, ◌<◌, ◌≤◌, ◌^◌, Bool, true, false, cond, nat_eq, List, [], ◌∷◌, length, map, get_or, option_map, Option, Some, None, IfSome, sym, ap, ◌∙◌, subst, arith}
use Rattle.std.specs.List.{All, flat_map, range_with_len}
use Rattle.std.proofs.lemmas.List.{length-append, length-map, get_or_append_left, get_or-append-add, get_or_past}
use Rattle.std.proofs.lemmas.List.Elements.{All-nil, All-cons, All-append, All-map, All-weaker, All-from_get_or}
use Rattle.std.proofs.lemmas.List.FromFn.{length-range_with_len}
use Rattle.std.proofs.lemmas.Map.Entries.{All-lookup}
use Rattle.nf_num.specs.Rational.{zero_ℚ}
use Rattle.nf_frac.specs.declared.amount.Amount.{Amount}
use Rattle.nf_frac.specs.Amounts as text
use Rattle.nf_frac.specs.Amounts.{amount_value}
use Rattle.nf_model.specs.declared.RowKind.TheVariants.{Eq}
use Rattle.nf_model.specs.Program.{Column, Entry, LinearProgram, Row, column, row}
use Rattle.nf_cells.specs.declared.values.Bound.{Bound as CellBound}
use Rattle.nf_program.specs.declared.program.ProcOptions.{ProcOptions}
use Rattle.nf_network.specs.Excess.{joined_below}
use Rattle.nf_network.specs.Network.{Network, defaults_of}
use Rattle.nf_network.proofs.AsciiFacts.{all-flat, all-joined}
use Rattle.nf_cons.specs.declared.taken.Coefficient.{Coefficient}
use Rattle.nf_cons.specs.declared.value.Value.{Value}
use Rattle.nf_cons.specs.declared.value.Value.TheVariants.{Finite, NoLower, NoUpper}
use Rattle.nf_cons.specs.Bounds.{cost_or, lower_or, upper_or}
use Rattle.nf_cons.specs.Constrained.{Constraints, column_of, column_with, constrained, entry_of, nonarc_column_at, side_entries, side_row, with_columns, with_rows}
use Rattle.nf_cons.specs.Dense.{most_constraints}
use Rattle.nf_cons.specs.Terms.{Gift, TermLists, gift_to}
use Rattle.nf_cons.specs.Variables.{most_nonarcs}
use Rattle.nf_cons.proofs.MakingFacts.{nonarcs-length}
use Rattle.nf_simplex.specs.Columns.{all_columns}
use Rattle.nf_simplex.specs.Layout.{layout_of}
use Rattle.nf_simplex.proofs.Orders.{less_or_not}
use Rattle.nf_width.specs.Amounts.{HasAmounts, IsAmount, IsWhole}
use Rattle.nf_width.proofs.States.{none_of}
use Rattle.nf_amounts.specs.Laws.{HasOptionAmounts}
use Rattle.nf_amounts.proofs.Networks.{IsAmountIfThere, IsOfAmounts, IsOfNodes, amount_whole, bound_amount, new_of_amounts, none_amount, or_infinite, or_zero, sense_whole, there_amount}
use Rattle.nf_amounts.proofs.Reading.{IsCellBound, IsValue}

-- ---- what CONDATA gives
-- The value of a gift is an amount, or no bound.
abbrev pub IsGiftValue : Value × ℕ → Type 0
IsGiftValue g = IsValue g.0

-- What is given are such values.
pub record HasListAmounts (ls : TermLists) : Type 0 where
  pub coefficients : All (λ c. text.IsAmount c.value) ls.coefficients
  pub costs : All (λ g. IsGiftValue g.1) ls.costs
  pub lowers : All (λ g. IsGiftValue g.1) ls.lowers
  pub uppers : All (λ g. IsGiftValue g.1) ls.uppers

-- The constraints of CONDATA are few, with right sides that a text can write.
pub record AreFewConstraints (c : Constraints) : Type 0 where
  pub few_nonarcs : length c.nonarcs ≤ most_nonarcs
  pub few_sides : length c.sides ≤ most_constraints
  pub rights : All (λ s. text.IsAmount s.right) c.sides
  pub lists : HasListAmounts c.lists

-- ---- the figures of nonarc variables
gift_value : (v : ℕ) (gs : List Gift) → All (λ g. IsGiftValue g.1) gs → IfSome (gift_to v gs) IsGiftValue
gift_value v gs all = All-lookup IsGiftValue (nat_eq v) gs all

cost_small : (d : Amount) (g : Option (Value × ℕ)) → text.IsAmount d → IfSome g IsGiftValue → text.IsAmount (cost_or d g)
cost_small d None h k = h
cost_small d (Some (Finite a, row)) h k = k
cost_small d (Some (NoUpper, row)) h k = h
cost_small d (Some (NoLower, row)) h k = h

lower_small : (d : Amount) (g : Option (Value × ℕ)) → text.IsAmount d → IfSome g IsGiftValue → IsAmountIfThere (option_map amount_value (lower_or (Some d) g))
lower_small d None h k = there_amount (amount_value d) (amount_whole d h)
lower_small d (Some (Finite a, row)) h k = there_amount (amount_value a) (amount_whole a k)
lower_small d (Some (NoUpper, row)) h k = there_amount (amount_value d) (amount_whole d h)
lower_small d (Some (NoLower, row)) h k = none_amount

upper_small : (d : CellBound) (g : Option (Value × ℕ)) → IsCellBound d → IfSome g IsGiftValue → IsCellBound (upper_or d g)
upper_small d None h k = h
upper_small d (Some (Finite a, row)) h k = k
upper_small d (Some (NoUpper, row)) h k = tt
upper_small d (Some (NoLower, row)) h k = h

-- ---- columns of a program
column_of_amounts : (cs : List Column) (j : ℕ) → All IsOfAmounts cs → IsOfAmounts (get_or cs j (record { cost = zero_ℚ; lower = None; upper = None; ends = None; entries = [] }))
column_of_amounts cs j all = of (less_or_not j (length cs))
  where
    of : (j < length cs) ⊎ (length cs ≤ j) → IsOfAmounts (get_or cs j (record { cost = zero_ℚ; lower = None; upper = None; ends = None; entries = [] }))
    of (inl l) = all j _ l
    of (inr l) =
        subst IsOfAmounts (sym (get_or_past cs j (record { cost = zero_ℚ; lower = None; upper = None; ends = None; entries = [] }) l))
        (record { cost = none_of 1000 (10 ^ 12); lower = none_amount; upper = none_amount; entries = All-nil (λ e. IsAmount e.value) })

-- ---- entries in side rows
entry_amount : (arcs columns rows j i : ℕ) (c : Coefficient) → text.IsAmount c.value → All (λ e. IsAmount e.value) (entry_of arcs columns rows j i c)
entry_amount arcs columns rows j i c h = of (nat_eq j (column_of arcs columns c.variable) && nat_eq i c.constraint)
  where
    of : (b : Bool) → All (λ (e : Entry). IsAmount e.value) (cond b (record { row = rows + i; value = amount_value c.value } ∷ []) [])
    of true = All-cons (λ (e : Entry). IsAmount e.value) (record { row = rows + i; value = amount_value c.value }) [] (amount_whole c.value h) (All-nil (λ (e : Entry). IsAmount e.value))
    of false = All-nil (λ (e : Entry). IsAmount e.value)

entries_amounts : (arcs columns rows sides : ℕ) (cs : List Coefficient) (j : ℕ) → All (λ c. text.IsAmount c.value) cs → All (λ e. IsAmount e.value) (side_entries arcs columns rows sides cs j)
entries_amounts arcs columns rows sides cs j h =
    all-joined (λ e. IsAmount e.value) sides (λ i. flat_map (entry_of arcs columns rows j i) cs)
    (λ i below. all-flat (λ e. IsAmount e.value) (entry_of arcs columns rows j i) cs
    (All-weaker (λ c. text.IsAmount c.value) (λ c. All (λ e. IsAmount e.value) (entry_of arcs columns rows j i c)) (entry_amount arcs columns rows j i) cs h))

-- ---- the program
module _ (o : ProcOptions) (options : HasOptionAmounts o) (n : Network) (c : Constraints) (nodes : IsOfNodes n.program) (has : HasAmounts n.program) (cons : AreFewConstraints c) where
  abbrev old : LinearProgram
  old = n.program

  abbrev more : List Column
  more = joined_below (length c.nonarcs) (nonarc_column_at o n.labels.own_arcs c.lists)

  abbrev wide : LinearProgram
  wide = with_rows (with_columns old more) (map side_row c.sides)

  abbrev p : LinearProgram
  p = (constrained o n c).program

  nonarc_of_amounts : (k : ℕ) → All IsOfAmounts (nonarc_column_at o n.labels.own_arcs c.lists k)
  nonarc_of_amounts k =
      All-cons IsOfAmounts _ []
      (new_of_amounts None _ _ _
      (sense_whole o.maximize _ (cost_small (defaults_of o).cost (gift_to (n.labels.own_arcs + k) c.lists.costs) (or_zero o.defcost options.cost) (gift_value (n.labels.own_arcs + k) c.lists.costs cons.lists.costs)))
      (lower_small (defaults_of o).lower (gift_to (n.labels.own_arcs + k) c.lists.lowers) (or_zero o.defminflow options.lower) (gift_value (n.labels.own_arcs + k) c.lists.lowers cons.lists.lowers))
      (λ b e. bound_amount _ b (upper_small (defaults_of o).upper (gift_to (n.labels.own_arcs + k) c.lists.uppers) (or_infinite o.defcapacity options.upper) (gift_value (n.labels.own_arcs + k) c.lists.uppers cons.lists.uppers)) e))
      (All-nil IsOfAmounts)

  old_of_amounts : All IsOfAmounts old.columns
  old_of_amounts =
      All-from_get_or IsOfAmounts old.columns (record { cost = zero_ℚ; lower = None; upper = None; ends = None; entries = [] })
      (λ j h. record { cost = has.costs j h; lower = λ b e. has.lowers j b h e; upper = λ b e. has.uppers j b h e; entries = has.entries j h })

  wide_of_amounts : All IsOfAmounts wide.columns
  wide_of_amounts = All-append IsOfAmounts old.columns more old_of_amounts (all-joined IsOfAmounts (length c.nonarcs) (nonarc_column_at o n.labels.own_arcs c.lists) (λ k below. nonarc_of_amounts k))

  with_of_amounts : (j : ℕ) → IsOfAmounts (column_with n.labels.own_arcs (length old.columns) (length old.rows) (length c.sides) c.lists.coefficients wide j)
  with_of_amounts j =
      let w = column_of_amounts wide.columns j wide_of_amounts in
      record {
        cost = w.cost;
        lower = w.lower;
        upper = w.upper;
        entries = All-append (λ e. IsAmount e.value) (column wide j).entries (side_entries n.labels.own_arcs (length old.columns) (length old.rows) (length c.sides) c.lists.coefficients j) w.entries
            (entries_amounts n.labels.own_arcs (length old.columns) (length old.rows) (length c.sides) c.lists.coefficients j cons.lists.coefficients);
      }

  columns : All IsOfAmounts p.columns
  columns =
      All-map IsOfAmounts (column_with n.labels.own_arcs (length old.columns) (length old.rows) (length c.sides) c.lists.coefficients wide) (range_with_len 0 (length wide.columns))
      (λ k d below. with_of_amounts (get_or (range_with_len 0 (length wide.columns)) k d))

  few_given : length p.columns ≤ 225000
  few_given =
      let a = length-map (range_with_len 0 (length wide.columns)) (column_with n.labels.own_arcs (length old.columns) (length old.rows) (length c.sides) c.lists.coefficients wide) in
      let b = length-range_with_len 0 (length wide.columns) in
      let d = length-append old.columns more in
      let e = nonarcs-length o n.labels.own_arcs c.lists (length c.nonarcs) in
      let f = nodes.few_columns in
      let g = cons.few_nonarcs in
      omega (arith, a, b, d, e, f, g)

  count_rows : length p.rows ≡ old.nodes + length c.sides
  count_rows = let b = length-append old.rows (map side_row c.sides) in let d = length-map c.sides side_row in let e = nodes.all_nodes in omega (arith, b, d, e)

  few_columns : all_columns (layout_of p) ≤ 250000
  few_columns = let a = count_rows in let d = few_given in let e = has.few_nodes in let f = cons.few_sides in omega (arith, a, d, e, f)

  node_right : (i : ℕ) → i < p.nodes → IsWhole 1000 (has.right_most i) (row p i).right
  node_right i h =
      subst (λ (r : Row). IsWhole 1000 (has.right_most i) r.right)
      (sym (get_or_append_left old.rows (map side_row c.sides) (record { kind = Eq; right = zero_ℚ }) i (let e = nodes.all_nodes in omega (arith, e, h))))
      (has.rights i h)

  sides_of_amounts : All (λ r. IsAmount r.right) (map side_row c.sides)
  sides_of_amounts = All-map (λ r. IsAmount r.right) side_row c.sides (λ k d l. amount_whole _ (cons.rights k d l))

  side_right : (i : ℕ) → p.nodes ≤ i → i < length p.rows → IsAmount (row p i).right
  side_right i h l =
      let q : length old.rows + (i - length old.rows) ≡ i = (let a = nodes.all_nodes in omega (arith, a, h)) in
      subst (λ (r : Row). IsAmount r.right)
      (sym (ap (λ k. get_or (old.rows ++ map side_row c.sides) k (record { kind = Eq; right = zero_ℚ })) (sym q) ∙ get_or-append-add old.rows (map side_row c.sides) (i - length old.rows) (record { kind = Eq; right = zero_ℚ })))
      (sides_of_amounts (i - length old.rows) _ (let a = count_rows in let b = nodes.all_nodes in let d = length-map c.sides side_row in omega (arith, a, b, d, h, l)))

  pub constrained_has_amounts : HasAmounts p
  constrained_has_amounts = record {
    few_nodes = has.few_nodes;
    few_given = few_given;
    few_columns = few_columns;
    costs = λ j h. (columns j _ h).cost;
    lowers = λ j b h e. (columns j _ h).lower b e;
    uppers = λ j b h e. (columns j _ h).upper b e;
    entries = λ j h. (columns j _ h).entries;
    side_rights = side_right;
    right_most = has.right_most;
    rights = node_right;
    together = has.together;
  }
