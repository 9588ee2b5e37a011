-- A network's program stays one with one more node, side row, column or entry.
use Rattle.std.proofs.Common.{◌≡◌, ◌≢◌, ◌⊎◌, inl, inr, ⊎_elim, ℕ, suc, ◌<◌, ◌≤◌, ◌+◌, List, [], ◌∷◌, ◌++◌, length, set, get_or, refl, sym, ◌∙◌, ap, ap₂, subst, arith, length-append, Option, Some, None, Bool, true, false, eq-or-lt_of_le, le_of_suc-le-suc, eq-eqb, ne_eqb}
use Rattle.std.specs.Prelude.{nat_lt, if◌then◌else◌}
use Rattle.std.specs.List.{All}
use Rattle.std.proofs.lemmas.List.{get_or_append_left, get_or_push, get_or_past, get_or-set_same, get_or-set_other, length-set}
use Rattle.std.proofs.lemmas.List.Elements.{All-push, All-weaker, All-nil, All-set, All-get_or}
use native.Mathlib.Decide.{ℕ_discrete}
use Rattle.nf_num.specs.Rational.{ℚ, zero_ℚ, one_ℚ, neg_ℚ, ◌+ℚ◌, ◌-ℚ◌}
use Rattle.nf_num.specs.Sum.{delta}
use Rattle.nf_num.proofs.Sums.{delta_same, delta_other}
use Rattle.nf_num.proofs.Laws.{zero_add}
use Rattle.nf_num.proofs.Rewrites.{add_zero, add_neg}
use Rattle.nf_num.proofs.Field.{ring, codes}
use Rattle.nf_model.specs.declared.RowKind.{RowKind}
use Rattle.nf_model.specs.declared.RowKind.TheVariants.{Eq}
use Rattle.nf_model.specs.Program.{Entry, Ends, Row, Column, LinearProgram, HoldsBelow, column, entry_at}
use Rattle.nf_model.specs.Problem.{AreInOrder, RiseBetween, HaveEndsBelow, node_entry, IsColumn, IsProblem}
use Rattle.nf_prob.specs.Building.{empty_program, with_node, with_row, with_ends, with_entry, new_column, arc_entries, arcs_with, inserted, IsNew}
use Rattle.nf_prob.proofs.Sparse.{none_in_sides, few_of_arc, length-inserted, inserted_in_sides}
use Rattle.nf_prob.proofs.Entries.{value_at, at_same, at_other, entry_at-nil, entry_at-cons, entry_at-past, entry_at-inserted, rise_more, rise_inserted, test_lt, test_le}

-- ---- columns
ends_more : (n m : ℕ) (ends : Option Ends) → n ≤ m → HaveEndsBelow n ends → HaveEndsBelow m ends
ends_more n m None h e = tt
ends_more n m (Some s) h e = (omega (arith, e.0), omega (arith, e.1))

zero_less_zero : zero_ℚ -ℚ zero_ℚ ≡ zero_ℚ
zero_less_zero = add_neg zero_ℚ

-- no arc has a node past its ends
nowhere : (n i : ℕ) (ends : Option Ends) → HaveEndsBelow n ends → n ≤ i → node_entry ends i ≡ zero_ℚ
nowhere n i None e h = refl
nowhere n i (Some s) e h = ap₂ ◌-ℚ◌ (delta_other s.tail i (omega (arith, e.0))) (delta_other s.head i (omega (arith, e.1))) ∙ zero_less_zero

-- a column of a program whose rows are all nodes, with one more node
node_more : (n m : ℕ) (c : Column) → IsColumn n m c → n ≡ m → IsColumn (suc n) (m + 1) c
node_more n m c k same = record {
  ordered = k.ordered;
  by_row = rise_more 0 m (m + 1) c.entries (omega arith) k.by_row;
  ends_within = ends_more n (suc n) c.ends (omega arith) k.ends_within;
  at_nodes = λ i b. ⊎_elim
      (λ e. entry_at-past 0 m c.entries i k.by_row (omega arith) ∙ sym (nowhere n i c.ends k.ends_within (omega arith)))
      (λ l. k.at_nodes i l)
      (eq-or-lt_of_le (le_of_suc-le-suc b));
  few_at_nodes = omega (arith, k.few_at_nodes, none_in_sides 0 n c.entries (subst (λ r. RiseBetween 0 r c.entries) (sym same) k.by_row));
}

row_more : (n m : ℕ) (c : Column) → IsColumn n m c → IsColumn n (m + 1) c
row_more n m c k = record { ordered = k.ordered; by_row = rise_more 0 m (m + 1) c.entries (omega arith) k.by_row; ends_within = k.ends_within; at_nodes = k.at_nodes; few_at_nodes = k.few_at_nodes }

-- ---- one more row
row_below : (rows : List Row) (r d : Row) (i : ℕ) → i < length rows → get_or (rows ++ r ∷ []) i d ≡ get_or rows i d
row_below rows r d i h = get_or_append_left rows (r ∷ []) d i h

one_longer : {A : Type 0} (xs : List A) (x : A) → length (xs ++ x ∷ []) ≡ length xs + 1
one_longer xs x = length-append xs (x ∷ [])

pub empty_is_problem : (m : Bool) → IsProblem (empty_program m)
empty_is_problem m = record {
  nodes_within = omega arith;
  arcs_within = omega arith;
  nodes_are_equal = λ i h. absurd (omega arith);
  arcs_first = λ j h. absurd (omega arith);
  arcs_have_lower = λ j h. absurd (omega arith);
  others_last = λ j h. refl;
  each = All-nil (IsColumn 0 0);
}

pub with_node_keeps : (p : LinearProgram) (right : ℚ) → p.nodes ≡ length p.rows → IsProblem p → IsProblem (with_node p right)
with_node_keeps p right same k = record {
  nodes_within = omega (arith, longer, k.nodes_within);
  arcs_within = k.arcs_within;
  nodes_are_equal = λ i h. ⊎_elim
      (λ e. ap (λ (r : Row). r.kind) (get_or_push p.rows new nothing i (sym (e ∙ same))))
      (λ l. ap (λ (r : Row). r.kind) (row_below p.rows new nothing i (omega (arith, same))) ∙ k.nodes_are_equal i l)
      (eq-or-lt_of_le (le_of_suc-le-suc h));
  arcs_first = k.arcs_first;
  arcs_have_lower = k.arcs_have_lower;
  others_last = k.others_last;
  each = subst (λ n. All (IsColumn (suc p.nodes) n) p.columns) (sym longer) (All-weaker (IsColumn p.nodes (length p.rows)) (IsColumn (suc p.nodes) (length p.rows + 1)) (λ c h. node_more p.nodes (length p.rows) c h same) p.columns k.each);
}
  where
    new : Row
    new = record { kind = Eq; right = right }

    nothing : Row
    nothing = record { kind = Eq; right = zero_ℚ }

    longer : length (p.rows ++ new ∷ []) ≡ length p.rows + 1
    longer = one_longer p.rows new

pub with_row_keeps : (p : LinearProgram) (kind : RowKind) (right : ℚ) → IsProblem p → IsProblem (with_row p kind right)
with_row_keeps p kind right k = record {
  nodes_within = omega (arith, longer, k.nodes_within);
  arcs_within = k.arcs_within;
  nodes_are_equal = λ i h. ap (λ (r : Row). r.kind) (row_below p.rows new (record { kind = Eq; right = zero_ℚ }) i (omega (arith, k.nodes_within))) ∙ k.nodes_are_equal i h;
  arcs_first = k.arcs_first;
  arcs_have_lower = k.arcs_have_lower;
  others_last = k.others_last;
  each = subst (λ n. All (IsColumn p.nodes n) p.columns) (sym longer) (All-weaker (IsColumn p.nodes (length p.rows)) (IsColumn p.nodes (length p.rows + 1)) (row_more p.nodes (length p.rows)) p.columns k.each);
}
  where
    new : Row
    new = record { kind = kind; right = right }

    longer : length (p.rows ++ new ∷ []) ≡ length p.rows + 1
    longer = one_longer p.rows new

-- ---- one more column
arc_at : (t h i : ℕ) → entry_at (arc_entries t h) i ≡ delta t i -ℚ delta h i
arc_at t h i = elim (ℕ_discrete t h) [ yes e ↦ loop e | no d ↦ other (nat_lt t h) d ]
  where
    from : Entry
    from = record { row = t; value = one_ℚ }

    to : Entry
    to = record { row = h; value = neg_ℚ one_ℚ }

    loop : t ≡ h → entry_at (arc_entries t h) i ≡ delta t i -ℚ delta h i
    loop e =
        ap (λ (b : Bool). entry_at (if b then [] else (if nat_lt t h then from ∷ to ∷ [] else to ∷ from ∷ [])) i) (eq-eqb t h e)
        ∙ entry_at-nil i
        ∙ sym (ap (λ n. delta t i -ℚ delta n i) (sym e) ∙ add_neg (delta t i))

    at_tail : value_at i from ≡ delta t i
    at_tail = elim (ℕ_discrete t i) [
      | yes e ↦ at_same i from e ∙ sym (ap (λ n. delta n i) e ∙ delta_same i)
      | no d ↦ at_other i from d ∙ sym (delta_other t i d)
    ]

    at_head : value_at i to ≡ neg_ℚ (delta h i)
    at_head = elim (ℕ_discrete h i) [
      | yes e ↦ at_same i to e ∙ ap neg_ℚ (sym (ap (λ n. delta n i) e ∙ delta_same i))
      | no d ↦ at_other i to d ∙ (ring [] (search codes) refl ∙ ap neg_ℚ (sym (delta_other h i d)))
    ]

    two : (a b : Entry) → entry_at (a ∷ b ∷ []) i ≡ value_at i a +ℚ value_at i b
    two a b = entry_at-cons a (b ∷ []) i ∙ ap (λ z. value_at i a +ℚ z) (entry_at-cons b [] i ∙ ap (λ z. value_at i b +ℚ z) (entry_at-nil i) ∙ add_zero (value_at i b))

    turned : (a b : ℚ) → a +ℚ b ≡ b +ℚ a
    turned a b = ring (a ∷ b ∷ []) (search codes) refl

    sides : (b : Bool) → entry_at (if b then from ∷ to ∷ [] else to ∷ from ∷ []) i ≡ value_at i from +ℚ value_at i to
    sides true = two from to
    sides false = two to from ∙ turned (value_at i to) (value_at i from)

    other : (b : Bool) → t ≢ h → entry_at (arc_entries t h) i ≡ delta t i -ℚ delta h i
    other b d =
        ap (λ (b : Bool). entry_at (if b then [] else (if nat_lt t h then from ∷ to ∷ [] else to ∷ from ∷ [])) i) (ne_eqb t h d)
        ∙ sides (nat_lt t h)
        ∙ ap₂ ◌+ℚ◌ at_tail at_head

arc_rises : (t h n : ℕ) → t < n → h < n → RiseBetween 0 n (arc_entries t h)
arc_rises t h n a b = elim (ℕ_discrete t h) [ yes e ↦ loop e | no d ↦ other d ]
  where
    Rises : List Entry → Type 0
    Rises es = RiseBetween 0 n es

    from : Entry
    from = record { row = t; value = one_ℚ }

    to : Entry
    to = record { row = h; value = neg_ℚ one_ℚ }

    loop : t ≡ h → RiseBetween 0 n (arc_entries t h)
    loop e = subst (λ (b : Bool). RiseBetween 0 n (if b then [] else (if nat_lt t h then from ∷ to ∷ [] else to ∷ from ∷ []))) (sym (eq-eqb t h e)) tt

    sides : (c : Bool) → nat_lt t h ≡ c → t ≢ h → RiseBetween 0 n (if c then from ∷ to ∷ [] else to ∷ from ∷ [])
    sides true e d = let l : t < h = test_lt t h e in (omega arith, a, (omega (arith, l), b, tt))
    sides false e d = let l : h ≤ t = test_le t h e in (omega arith, b, (omega (arith, l, d), a, tt))

    other : t ≢ h → RiseBetween 0 n (arc_entries t h)
    other d = subst (λ (b : Bool). RiseBetween 0 n (if b then [] else (if nat_lt t h then from ∷ to ∷ [] else to ∷ from ∷ []))) (sym (ne_eqb t h d)) (sides (nat_lt t h) refl d)

new_is_column : (nodes rows : ℕ) (ends : Option Ends) (cost : ℚ) (lower upper : Option ℚ) → nodes ≤ rows → AreInOrder lower upper → HaveEndsBelow nodes ends → IsColumn nodes rows (new_column ends cost lower upper)
new_is_column nodes rows None cost lower upper h o e = record { ordered = o; by_row = tt; ends_within = tt; at_nodes = λ i b. entry_at-nil i; few_at_nodes = omega arith }
new_is_column nodes rows (Some s) cost lower upper h o e = record { ordered = o; by_row = rise_more 0 nodes rows (arc_entries s.tail s.head) h (arc_rises s.tail s.head nodes e.0 e.1); ends_within = e; at_nodes = λ i b. arc_at s.tail s.head i; few_at_nodes = omega (arith, few_of_arc s.tail s.head) }

abbrev no_column : Column
no_column = record { cost = zero_ℚ; lower = None; upper = None; ends = None; entries = [] }

column_below : (cs : List Column) (c : Column) (j : ℕ) → j < length cs → get_or (cs ++ c ∷ []) j no_column ≡ get_or cs j no_column
column_below cs c j h = get_or_append_left cs (c ∷ []) no_column j h

column_here : (cs : List Column) (c : Column) (j : ℕ) → length cs ≡ j → get_or (cs ++ c ∷ []) j no_column ≡ c
column_here cs c j h = get_or_push cs c no_column j h

column_past : (cs : List Column) (c : Column) (j : ℕ) → length cs < j → get_or (cs ++ c ∷ []) j no_column ≡ no_column
column_past cs c j h = get_or_past (cs ++ c ∷ []) j no_column (omega (arith, one_longer cs c))

ends_alike : (c d : Column) → c ≡ d → c.ends ≡ d.ends
ends_alike c d e = ap (λ (d : Column). d.ends) e

-- the same, where what holds of the new column may use that it is this arc
arcs_more_if : (P : Column → Type 0) (cs : List Column) (new : Option Ends → Column) (n : ℕ) (ends : Option Ends) → n ≤ length cs → (ends ≢ None → n ≡ length cs) → ((s : Ends) → ends ≡ Some s → P (new (Some s))) → HoldsBelow n (λ j. P (get_or cs j no_column)) → HoldsBelow (arcs_with ends n) (λ j. P (get_or (cs ++ new ends ∷ []) j no_column))
arcs_more_if P cs new n None w f h k j b = subst P (sym (column_below cs (new None) j (omega (arith, w)))) (k j b)
arcs_more_if P cs new n (Some s) w f h k j b = ⊎_elim
    (λ l. subst P (sym (column_here cs (new (Some s)) j (sym (l ∙ f (λ q. cc))))) (h s refl))
    (λ l. subst P (sym (column_below cs (new (Some s)) j (omega (arith, w)))) (k j l))
    (eq-or-lt_of_le (le_of_suc-le-suc b))

-- what holds of each arc holds with one more column too, if it holds of that where it is an arc
arcs_more : (P : Column → Type 0) (cs : List Column) (new : Option Ends → Column) (n : ℕ) (ends : Option Ends) → n ≤ length cs → (ends ≢ None → n ≡ length cs) → ((s : Ends) → P (new (Some s))) → HoldsBelow n (λ j. P (get_or cs j no_column)) → HoldsBelow (arcs_with ends n) (λ j. P (get_or (cs ++ new ends ∷ []) j no_column))
arcs_more P cs new n None w f h k j b = subst P (sym (column_below cs (new None) j (omega (arith, w)))) (k j b)
arcs_more P cs new n (Some s) w f h k j b = ⊎_elim
    (λ l. subst P (sym (column_here cs (new (Some s)) j (sym (l ∙ f (λ q. cc))))) (h s))
    (λ l. subst P (sym (column_below cs (new (Some s)) j (omega (arith, w)))) (k j l))
    (eq-or-lt_of_le (le_of_suc-le-suc b))

pub three_cases : (a b : ℕ) → (a < b) ⊎ ((a ≡ b) ⊎ (b < a))
three_cases a b = grind arith

pub with_ends_keeps : (p : LinearProgram) (ends : Option Ends) (cost : ℚ) (lower upper : Option ℚ) → AreInOrder lower upper → (ends ≢ None → lower ≢ None) → HaveEndsBelow p.nodes ends → (ends ≢ None → p.arcs ≡ length p.columns) → IsProblem p → IsProblem (with_ends p ends cost lower upper)
with_ends_keeps p ends cost lower upper o bounded e first k = record {
  nodes_within = k.nodes_within;
  arcs_within = within ends first;
  nodes_are_equal = k.nodes_are_equal;
  arcs_first = arcs_more (λ c. c.ends ≢ None) p.columns (λ s. new_column s cost lower upper) p.arcs ends k.arcs_within first (λ s q. cc) k.arcs_first;
  arcs_have_lower = arcs_more_if (λ c. c.lower ≢ None) p.columns (λ s. new_column s cost lower upper) p.arcs ends k.arcs_within first (λ s q. bounded (λ z. let w : Some s ≡ None = sym q ∙ z in cc)) k.arcs_have_lower;
  others_last = others ends first;
  each = All-push (IsColumn p.nodes (length p.rows)) p.columns (new_column ends cost lower upper) k.each (new_is_column p.nodes (length p.rows) ends cost lower upper k.nodes_within o e);
}
  where
    within : (s : Option Ends) → (s ≢ None → p.arcs ≡ length p.columns) → arcs_with s p.arcs ≤ length (p.columns ++ new_column s cost lower upper ∷ [])
    within None f = omega (arith, k.arcs_within, one_longer p.columns (new_column None cost lower upper))
    within (Some s) f = omega (arith, k.arcs_within, one_longer p.columns (new_column (Some s) cost lower upper))

    others : (s : Option Ends) → (s ≢ None → p.arcs ≡ length p.columns) → (j : ℕ) → arcs_with s p.arcs ≤ j → (get_or (p.columns ++ new_column s cost lower upper ∷ []) j no_column).ends ≡ None
    others None f j h = go (three_cases j (length p.columns))
      where
        go : (j < length p.columns) ⊎ ((j ≡ length p.columns) ⊎ (length p.columns < j)) → (get_or (p.columns ++ new_column None cost lower upper ∷ []) j no_column).ends ≡ None
        go (inl l) = ends_alike _ _ (column_below p.columns (new_column None cost lower upper) j l) ∙ k.others_last j h
        go (inr (inl l)) = ends_alike _ _ (column_here p.columns (new_column None cost lower upper) j (sym l))
        go (inr (inr l)) = ends_alike _ _ (column_past p.columns (new_column None cost lower upper) j l)
    others (Some s) f j h = ends_alike _ _ (column_past p.columns (new_column (Some s) cost lower upper) j (omega (arith, f (λ q. cc))))

-- ---- one more entry
entry_is_column : (nodes rows i : ℕ) (value : ℚ) (c : Column) → nodes ≤ i → i < rows → All (λ e. e.row ≢ i) c.entries → IsColumn nodes rows c → IsColumn nodes rows (record c { entries = inserted c.entries (record { row = i; value = value }) })
entry_is_column nodes rows i value c h b fresh k = record {
  ordered = k.ordered;
  by_row = rise_inserted 0 rows c.entries (record { row = i; value = value }) k.by_row (omega arith) b fresh;
  ends_within = k.ends_within;
  at_nodes = λ n l.
      entry_at-inserted c.entries (record { row = i; value = value }) n
      ∙ ap (λ z. z +ℚ entry_at c.entries n) (at_other n (record { row = i; value = value }) (omega arith))
      ∙ zero_add (entry_at c.entries n)
      ∙ k.at_nodes n l;
  few_at_nodes = omega (arith, k.few_at_nodes, length-inserted c.entries (record { row = i; value = value }), inserted_in_sides nodes c.entries (record { row = i; value = value }) h);
}

-- a part that the new column has of the old one is as before in all columns
part_stays : {A : Type 0} (part : Column → A) (cs : List Column) (j m : ℕ) (c : Column) → j < length cs → part c ≡ part (get_or cs j no_column) → part (get_or (set cs j c) m no_column) ≡ part (get_or cs m no_column)
part_stays part cs j m c h e = elim (ℕ_discrete m j) [
  | yes s ↦ subst (λ n. part (get_or (set cs j c) n no_column) ≡ part (get_or cs n no_column)) (sym s) (ap part (get_or-set_same cs j c no_column h) ∙ e)
  | no d ↦ ap part (get_or-set_other cs j m c no_column d)
]

pub with_entry_keeps : (p : LinearProgram) (j i : ℕ) (value : ℚ) → j < length p.columns → p.nodes ≤ i → i < length p.rows → IsNew p j i → IsProblem p → IsProblem (with_entry p j i value)
with_entry_keeps p j i value h a b fresh k = record {
  nodes_within = k.nodes_within;
  arcs_within = subst (λ n. p.arcs ≤ n) (sym (length-set p.columns j new)) k.arcs_within;
  nodes_are_equal = k.nodes_are_equal;
  arcs_first = λ m l. subst (λ (o : Option Ends). o ≢ None) (sym (part_stays (λ (c : Column). c.ends) p.columns j m new h refl)) (k.arcs_first m l);
  arcs_have_lower = λ m l. subst (λ (o : Option ℚ). o ≢ None) (sym (part_stays (λ (c : Column). c.lower) p.columns j m new h refl)) (k.arcs_have_lower m l);
  others_last = λ m l. part_stays (λ (c : Column). c.ends) p.columns j m new h refl ∙ k.others_last m l;
  each = All-set (IsColumn p.nodes (length p.rows)) p.columns j new (entry_is_column p.nodes (length p.rows) i value (column p j) a b fresh (All-get_or (IsColumn p.nodes (length p.rows)) p.columns j no_column h k.each)) k.each;
}
  where
    new : Column
    new = record (column p j) { entries = inserted (column p j).entries (record { row = i; value = value }) }
