-- The columns of tables of arcs and nonarc variables: which there are, their names, and their cells.
-- ARCOUT and CONOUT are made of them, and so is what is printed of arcs and nonarc variables.
use Rattle.std.specs.Prelude.{ℕ, suc, ◌*◌, ◌+◌, ◌<◌, not, Bool, true, false, List, [], ◌∷◌, ◌++◌, map, filter, length, get_or, codes, decimal, nat_lt, if◌then◌else◌}
use Rattle.std.specs.List.{list_any, range_with_len}
use Rattle.nf_num.specs.Rational.{ℚ}
use Rattle.nf_frac.specs.Texts.{frac_text}
use Rattle.nf_sums.specs.Terms.{with_sign}
use Rattle.nf_model.specs.Program.{LinearProgram, column, lower_of, upper_of, at}
use Rattle.nf_prob.specs.Numbers.{head_number, tail_number}
use Rattle.nf_labels.specs.Labels.{LabelList, no_labels}
use Rattle.nf_table.specs.Grid.{Cells, same_name}
use Rattle.nf_simplex.specs.Standing.{Standing, place_at}
use Rattle.nf_out.specs.declared.fields.ArcField.{ArcField}
use Rattle.nf_out.specs.declared.fields.ArcField.TheVariants as field
use Rattle.nf_out.specs.Words.{bound_text, node_name, place_word, unless_absent}

-- The name of a column. An ID column has its own header.
abbrev pub arc_name : LabelList → ArcField → List ℕ
arc_name l field.Tail = codes "_FROM_"
arc_name l field.Head = codes "_TO_"
arc_name l field.Name = codes "_NAME_"
arc_name l field.Cost = codes "_COST_"
arc_name l field.Capacity = codes "_CAPAC_"
arc_name l field.Lower = codes "_LO_"
arc_name l (field.Id c) = get_or l.id_headers c []
arc_name l field.Flow = codes "_FLOW_"
arc_name l field.FlowCost = codes "_FCOST_"
arc_name l field.ReducedCost = codes "_RCOST_"
arc_name l field.Status = codes "_STATUS_"
arc_name l field.Number = codes "_ANUMB_"
arc_name l field.TailNumber = codes "_TNUMB_"

-- The cell of column k, from 0, in ID column c: nothing but for the arcs of ARCDATA, whose cells stand arc by arc.
abbrev pub id_cell : LabelList → ℕ → ℕ → List ℕ
id_cell l c k = if nat_lt k l.own_arcs then get_or l.ids (k * length l.id_headers + c) [] else []

-- Numbers by given column: the flows of a state, what these cost, and the reduced costs.
pub record ArcLists : Type 0 where
  pub flows : List ℚ
  pub costs : List ℚ
  pub reduced : List ℚ

-- What a table shows of column k, from 0, of the problem. Costs are in the program's own sense: if it maximises, they stand
-- negated in the problem.
abbrev pub arc_cell : LinearProgram → LabelList → Standing → ArcLists → ArcField → ℕ → List ℕ
arc_cell p l s n field.Tail k = node_name l (tail_number (column p k).ends)
arc_cell p l s n field.Head k = node_name l (head_number (column p k).ends)
arc_cell p l s n field.Name k = get_or l.columns k []
arc_cell p l s n field.Cost k = frac_text (with_sign p.maximizes (column p k).cost)
arc_cell p l s n field.Capacity k = bound_text (codes "INF") (upper_of (column p k))
arc_cell p l s n field.Lower k = bound_text (codes "-INF") (lower_of (column p k))
arc_cell p l s n (field.Id c) k = id_cell l c k
arc_cell p l s n field.Flow k = unless_absent (place_at s k) (frac_text (at n.flows k))
arc_cell p l s n field.FlowCost k = unless_absent (place_at s k) (frac_text (at n.costs k))
arc_cell p l s n field.ReducedCost k = unless_absent (place_at s k) (frac_text (at n.reduced k))
arc_cell p l s n field.Status k = place_word (place_at s k)
arc_cell p l s n field.Number k = decimal (suc k)
arc_cell p l s n field.TailNumber k = decimal (tail_number (column p k).ends)

-- ---- the columns of ARCOUT and CONOUT
abbrev pub first_fields : List ArcField
first_fields = field.Tail ∷ field.Head ∷ field.Name ∷ field.Cost ∷ field.Capacity ∷ field.Lower ∷ []

abbrev pub flow_fields : List ArcField
flow_fields = field.Flow ∷ field.FlowCost ∷ field.ReducedCost ∷ []

abbrev pub status_fields : List ArcField
status_fields = field.Status ∷ field.Number ∷ field.TailNumber ∷ []

-- The names of all columns of CONOUT under FUTURE2 but the ID columns.
abbrev pub own_names : Cells
own_names = map (arc_name no_labels) (first_fields ++ (flow_fields ++ status_fields))

-- An ID column is copied unless its header is one of these names without regard to ASCII case.
abbrev pub is_copied : LabelList → ℕ → Bool
is_copied l c = not (list_any (λ name. same_name name (get_or l.id_headers c [])) own_names)

-- Those of some ID columns that are copied.
abbrev pub copied : LabelList → List ℕ → List ArcField
copied l cs = map (λ c. field.Id c) (filter (is_copied l) cs)

-- Those of the first n ID columns that are copied, from the left, and ID column c if it is copied.
unfoldable pub id_fields : LabelList → ℕ → List ArcField
id_fields l n = copied l (range_with_len 0 n)

abbrev pub one_id : LabelList → ℕ → List ArcField
one_id l c = copied l (c ∷ [])

-- Columns that are there under FUTURE.
abbrev pub under : {A : Type 0} → Bool → List A → List A
under true fields = fields
under false fields = []

-- The columns of ARCOUT under FUTURE1, and of CONOUT under FUTURE2; and without.
abbrev pub arc_fields : LabelList → Bool → List ArcField
arc_fields l future = first_fields ++ (id_fields l (length l.id_headers) ++ (flow_fields ++ under future status_fields))

-- An ID column is one of the labels.
abbrev pub IsFieldOf : LabelList → ArcField → Type 0
IsFieldOf l field.Tail = Unit {0}
IsFieldOf l field.Head = Unit {0}
IsFieldOf l field.Name = Unit {0}
IsFieldOf l field.Cost = Unit {0}
IsFieldOf l field.Capacity = Unit {0}
IsFieldOf l field.Lower = Unit {0}
IsFieldOf l (field.Id c) = c < length l.id_headers
IsFieldOf l field.Flow = Unit {0}
IsFieldOf l field.FlowCost = Unit {0}
IsFieldOf l field.ReducedCost = Unit {0}
IsFieldOf l field.Status = Unit {0}
IsFieldOf l field.Number = Unit {0}
IsFieldOf l field.TailNumber = Unit {0}
