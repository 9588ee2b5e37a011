-- The tables of a DIMACS text have no fault of data.
use Rattle.std.proofs.Common.{◌≡◌, ℕ, zero, suc, ◌+◌, ◌-◌, ◌<◌, ◌≤◌, ◌&&◌, ◌||◌, Bool, true, false, cond, not, nat_lt, nat_le, List, [], ◌∷◌, ◌++◌, length, map, take, get_or, Option, None, Some, ℤ, pos, negsuc, ◌*ℤ◌, refl, sym, ◌∙◌, ap, ap₂, subst, arith, decimal, codes, append_assoc, append-nil}
use Rattle.std.specs.List.{list_all, list_any, flat_map, AllByRecursion}
use Rattle.std.specs.Prelude.{int_lt, nat_eq}
use Rattle.std.specs.Fmt.{signed_decimal}
use Rattle.std.specs.Str.{bytes_eq}
use lib.Signed.{lt_z}
use Rattle.std.proofs.lemmas.Int.{ints}
use Rattle.std.proofs.lemmas.List.{length-append, length-take-le, length_push}
use Rattle.std.proofs.lemmas.Bool.Decides.{nat_tests}
use Rattle.nf_cells.specs.Names.{Name, has_name, first_seen, is_once, with_name}
use Rattle.nf_cells.specs.declared.values.Cell.TheVariants.{Missing, Bad, Is}
use Rattle.nf_cells.specs.declared.values.Bound.TheVariants.{Finite}
use Rattle.nf_cells.specs.declared.values.Supply.{Supply as Value}
use Rattle.nf_cells.specs.declared.values.Supply.TheVariants as value
use Rattle.nf_cells.proofs.SeenFacts.{first_seen-push}
use Rattle.nf_program.specs.declared.program.Role.{Role}
use Rattle.nf_program.specs.declared.program.Role.TheVariants as role
use Rattle.nf_program.specs.declared.program.ProcOptions.{ProcOptions}
use Rattle.nf_roles.specs.declared.fault.CellFault.{CellFault}
use Rattle.nf_roles.specs.declared.fault.DataKind.{DataKind}
use Rattle.nf_roles.specs.declared.fault.DataKind.TheVariants as kind
use Rattle.nf_roles.specs.First.{fault_if, first_of, or_else, in_row, first_below, first_row_fault}
use Rattle.nf_network.specs.declared.rows.Defaults.{Defaults}
use Rattle.nf_network.specs.Arcs.{given, gifts, ends, nodes_in as nodes_seen, same_arc, arc_name, tail_of, head_of}
use Rattle.nf_network.specs.Faults.{excess, is_other, are_crossed, arc_faults, arc_fault_at, first_arc_fault, empty_row, most_nodes, most_arcs}
use Rattle.nf_network.specs.NodeData.{node_name, node_gift, all_nodes, all_gifts, node_row_faults, node_fault_at, first_node_fault, no_node_row}
use Rattle.nf_network.specs.Rows.{ArcRow, NodeRow}
use Rattle.nf_dimacs.specs.declared.line.Arc.{Arc}
use Rattle.nf_dimacs.specs.Tables.{numbered, or_zero}
use Rattle.nf_dimacs_network.specs.Rows.{arc_said, node_said, whole}
use Rattle.nf_dimacs_network.proofs.PlainFacts.{is_plain, first-differs, plain-not, IsShort, number-plain, number-some, digits-plain, digits-some}
use Rattle.nf_dimacs_network.proofs.ShortFacts.{IsShortArc}
use Rattle.nf_dimacs_network.proofs.FigureFacts.{has-node, other-number, no-gifts}
use Rattle.nf_dimacs_network.proofs.SoundFacts.{IsEnd, IsArcOf}
use Rattle.nf_dimacs_network.proofs.SeenWeights.{in-front}
use Rattle.nf_dimacs_network.proofs.NamedFacts.{names_from, once-named, length-named, ends-named, end-named}
use Rattle.nf_dimacs_network.proofs.ListFacts.{both, numbered-take, numbered-at, length-numbered, all-take, all-at, all-push, all-append}

-- ---- faults that are not there
unfaulted : (r : Role) (k : DataKind) (b : Bool) → b ≡ false → fault_if b r k ≡ None
unfaulted r k b e = ap (λ (c : Bool). cond c (Some (record { role = r; kind = k })) None) e

first-none : (fs : List (Option CellFault)) → AllByRecursion (λ f. f ≡ None) fs → first_of fs ≡ None
first-none [] all = refl
first-none (f ∷ fs) all = ap (λ (o : Option CellFault). or_else o (first_of fs)) all.0 ∙ first-none fs all.1

rows-none : (n : ℕ) (f : ℕ → Option CellFault) → ((k : ℕ) → k < n → f k ≡ None) → first_row_fault n f ≡ None
unfolding first_below
rows-none zero f none = refl
rows-none (suc n) f none =
    ap₂ (λ a b. or_else a b) (rows-none n f (λ k below. none k (omega arith))) (ap (in_row (n + 1)) (none n (omega arith)))

-- ---- names
not-excess : (xs : List ℕ) → list_all is_plain xs ≡ true → 0 < length xs → bytes_eq xs excess ≡ false
not-excess [] h some = absurd (omega arith)
not-excess (x ∷ xs) h some =
    let parts = both (is_plain x) (list_all is_plain xs) h in
    first-differs x 95 xs (codes "EXCESS_") (plain-not x 95 parts.0 refl)

-- a list of names seen is no longer than one with more
seen-more : (ns : List Name) (x : Name) → length (first_seen ns) ≤ length (first_seen (ns ++ x ∷ []))
seen-more ns x = by_cases (has_name x (first_seen ns)) refl
  where
    by_cases : (b : Bool) → has_name x (first_seen ns) ≡ b → length (first_seen ns) ≤ length (first_seen (ns ++ x ∷ []))
    by_cases true e =
        let same : first_seen (ns ++ x ∷ []) ≡ first_seen ns = first_seen-push ns x ∙ ap (λ (b : Bool). cond b (first_seen ns) (first_seen ns ++ x ∷ [])) e in
        omega (arith, ap length same)
    by_cases false e =
        let more : first_seen (ns ++ x ∷ []) ≡ first_seen ns ++ x ∷ [] = first_seen-push ns x ∙ ap (λ (b : Bool). cond b (first_seen ns) (first_seen ns ++ x ∷ [])) e in
        omega (arith, ap length more, length_push (first_seen ns) x)

seen-grows : (ns ds : List Name) → length (first_seen ns) ≤ length (first_seen (ns ++ ds))
seen-grows ns [] = let e : ns ++ [] ≡ ns = append-nil ns in omega (arith, ap (λ ms. length (first_seen ms)) e)
seen-grows ns (d ∷ ds) =
    let e : (ns ++ d ∷ []) ++ ds ≡ ns ++ d ∷ ds = append_assoc ns (d ∷ []) ds in
    omega (arith, seen-more ns d, seen-grows (ns ++ d ∷ []) ds, ap (λ ms. length (first_seen ms)) e)

-- ---- rows above
and-none : (b : Bool) → b && false ≡ false
and-none true = refl
and-none false = refl

not-repeated : (m : ℕ) (a : Arc) (k : ℕ) (arcs : List Arc) → k + length arcs ≤ m → m < 1_000_000_000 → list_any (same_arc (arc_said m a)) (numbered arc_said k arcs) ≡ false
unfolding numbered
not-repeated m a k [] below small = refl
not-repeated m a k (b ∷ arcs) below small =
    let ends_same : Bool = bytes_eq (signed_decimal a.tail) (signed_decimal b.tail) && bytes_eq (signed_decimal a.head) (signed_decimal b.head) in
    let other : bytes_eq (decimal m) (decimal k) ≡ false = other-number m k small (omega arith) (λ e. absurd (omega (arith, e))) in
    ap₂ (λ (p q : Bool). p || q) (ap (λ (c : Bool). ends_same && c) other ∙ and-none ends_same) (not-repeated m a (suc k) arcs (omega arith) small)

not-earlier : (m k : ℕ) (ys : List (Option ℤ)) → k + length ys ≤ m → m < 1_000_000_000 → has_name (decimal m) (names_from k ys) ≡ false
unfolding numbered
not-earlier m k [] below small = refl
not-earlier m k (y ∷ ys) below small =
    ap₂ (λ (p q : Bool). p || q) (other-number m k small (omega arith) (λ e. absurd (omega (arith, e)))) (not-earlier m (suc k) ys (omega arith) small)

not-given : (m k : ℕ) (ys : List (Option ℤ)) → k + length ys ≤ m → m < 1_000_000_000 → given (flat_map node_gift (numbered node_said k ys)) (decimal m) ≡ None
unfolding numbered
not-given m k [] below small = refl
not-given m k (y ∷ ys) below small =
    ap (λ (c : Bool). cond c (Some (value.Amount (whole (or_zero y)))) (given (flat_map node_gift (numbered node_said (suc k) ys)) (decimal m)))
    (other-number m k small (omega arith) (λ e. absurd (omega (arith, e))))
    ∙ not-given m (suc k) ys (omega arith) small

nothing-other : (v : Option Value) → is_other v Missing ≡ false
nothing-other None = refl
nothing-other (Some w) = refl

not-crossed : (x y : ℤ) → int_lt x y ≡ false → lt_z (x *ℤ pos 1000) (y *ℤ pos 1000) ≡ false
not-crossed x y e = grind (arith, ints, e)

module _ (xs : List (Option ℤ)) (few : length xs ≤ 20_000) where
  bounded : 1 + length xs ≤ 1_000_000_000
  bounded = omega (arith, few)

  abbrev IsNamed : Name → Type 0
  IsNamed n = has_name n (names_from 1 xs) ≡ true

  few-seen : (ns : List Name) → AllByRecursion IsNamed ns → length (first_seen ns) ≤ 20_000
  few-seen ns all =
      let front = in-front (λ _. pos 0) (names_from 1 xs) (once-named 1 xs bounded) ns all in
      omega (arith, seen-grows ns (names_from 1 xs), front.1, length-named 1 xs, few)

  -- with one name more there are not too many
  not-many : (ns : List Name) (x : Name) → AllByRecursion IsNamed ns → IsNamed x → nat_lt most_nodes (length (with_name (first_seen ns) x)) ≡ false
  not-many ns x all named =
      let short : length (first_seen (ns ++ x ∷ [])) ≤ 20_000 = few-seen (ns ++ x ∷ []) (all-push IsNamed ns x all named) in
      let same : length (first_seen (ns ++ x ∷ [])) ≡ length (with_name (first_seen ns) x) = ap length (first_seen-push ns x) in
      let small : length (with_name (first_seen ns) x) ≤ 20_000 = omega (arith, short, same) in
      grind (arith, nat_tests, small)

  -- ---- rows of ARCDATA
  abbrev IsGood : Arc → Type 0
  IsGood a = IsArcOf (length xs) a × IsShortArc a

  all-ends : (k : ℕ) (arcs : List Arc) → AllByRecursion IsGood arcs → AllByRecursion IsNamed (ends (numbered arc_said k arcs))
  all-ends k arcs good = ends-named xs k arcs (firsts arcs good)
    where
      firsts : (arcs : List Arc) → AllByRecursion IsGood arcs → AllByRecursion (IsArcOf (length xs)) arcs
      firsts [] all = tt
      firsts (a ∷ arcs) all = (all.0.0, firsts arcs all.1)

  module _ (m : ℕ) (a : Arc) (good : IsGood a) (arcs : List Arc) (before : AllByRecursion IsGood arcs) where
    above : List ArcRow
    above = numbered arc_said 1 arcs

    tail-limit : nat_lt most_nodes (length (with_name (nodes_seen (numbered arc_said 1 arcs)) (signed_decimal a.tail))) ≡ false
    tail-limit = not-many (ends (numbered arc_said 1 arcs)) (signed_decimal a.tail) (all-ends 1 arcs before) (end-named xs a.tail good.0.tail)

    head-limit : nat_lt most_nodes (length (with_name (with_name (nodes_seen (numbered arc_said 1 arcs)) (signed_decimal a.tail)) (signed_decimal a.head))) ≡ false
    head-limit =
        ap (λ (ns : List Name). nat_lt most_nodes (length (with_name ns (signed_decimal a.head)))) (sym (first_seen-push (ends (numbered arc_said 1 arcs)) (signed_decimal a.tail)))
        ∙ not-many (ends (numbered arc_said 1 arcs) ++ signed_decimal a.tail ∷ []) (signed_decimal a.head)
        (all-push IsNamed (ends (numbered arc_said 1 arcs)) (signed_decimal a.tail) (all-ends 1 arcs before) (end-named xs a.tail good.0.tail)) (end-named xs a.head good.0.head)

    no-fault-of : (d : Defaults) → length arcs < 200_000 → length arcs < m → m < 1_000_000_000 → first_of (arc_faults d (numbered arc_said 1 arcs) (arc_said m a)) ≡ None
    no-fault-of d fewer below small =
        let room : nat_le most_arcs (length (numbered arc_said 1 arcs)) ≡ false = ap (nat_le most_arcs) (length-numbered arc_said 1 arcs) ∙ (let z : nat_le 200_000 (length arcs) ≡ false = grind (arith, nat_tests, fewer) in z) in
        first-none (arc_faults d (numbered arc_said 1 arcs) (arc_said m a)) (
          unfaulted role.TailNode kind.LimitPassed _ room,
          (
            unfaulted role.TailNode kind.BadName false refl,
            (
              unfaulted role.TailNode kind.ReservedName _ (not-excess (signed_decimal a.tail) (number-plain a.tail good.1.tail) (number-some a.tail good.1.tail)),
              (
                unfaulted role.TailNode kind.LimitPassed _ tail-limit,
                (
                  unfaulted role.HeadNode kind.BadName false refl,
                  (
                    unfaulted role.HeadNode kind.ReservedName _ (not-excess (signed_decimal a.head) (number-plain a.head good.1.head) (number-some a.head good.1.head)),
                    (
                      unfaulted role.HeadNode kind.LimitPassed _ head-limit,
                      (
                        unfaulted role.ArcName kind.BadName false refl,
                        (
                          unfaulted role.ArcName kind.RepeatedArc _ (not-repeated m a 1 arcs (omega arith) small),
                          (
                            unfaulted role.Cost kind.Amount false refl,
                            (
                              unfaulted role.Lo kind.Amount false refl,
                              (
                                unfaulted role.Capacity kind.Amount false refl,
                                (
                                  unfaulted role.Capacity kind.CrossedBounds _ (not-crossed a.capacity a.lower good.0.ordered),
                                  (
                                    unfaulted role.Supply kind.Amount false refl,
                                    (
                                      unfaulted role.Supply kind.TwoSupplies _ (nothing-other (given (gifts (numbered arc_said 1 arcs)) (signed_decimal a.tail))),
                                      (
                                        unfaulted role.Demand kind.Amount false refl,
                                        (
                                          unfaulted role.Demand kind.TwoSupplies _ (nothing-other (given (gifts (numbered arc_said 1 arcs) ++ []) (signed_decimal a.head))),
                                          tt,
                                        ),
                                      ),
                                    ),
                                  ),
                                ),
                              ),
                            ),
                          ),
                        ),
                      ),
                    ),
                  ),
                ),
              ),
            ),
          ),
        )

  pub no-arc-fault : (d : Defaults) (arcs : List Arc) → AllByRecursion IsGood arcs → length arcs ≤ 200_000 → first_arc_fault d (numbered arc_said 1 arcs) ≡ None
  unfolding arc_fault_at
  no-arc-fault d arcs good fewer = rows-none (length (numbered arc_said 1 arcs)) (arc_fault_at d (numbered arc_said 1 arcs)) none
    where
      none : (k : ℕ) → k < length (numbered arc_said 1 arcs) → first_of (arc_faults d (take k (numbered arc_said 1 arcs)) (get_or (numbered arc_said 1 arcs) k empty_row)) ≡ None
      none k below =
          let within : k < length arcs = omega (arith, length-numbered arc_said 1 arcs) in
          let blank : Arc = record { tail = pos 0; head = pos 0; lower = pos 0; capacity = pos 0; cost = pos 0 } in
          let taken : length (take k arcs) ≡ k = length-take-le k arcs (omega (arith, within)) in
          ap₂ (λ (rows : List ArcRow) (r : ArcRow). first_of (arc_faults d rows r)) (numbered-take arc_said k 1 arcs) (numbered-at arc_said k 1 arcs blank empty_row within)
          ∙ no-fault-of (1 + k) (get_or arcs k blank) (all-at IsGood k arcs blank within good) (take k arcs) (all-take IsGood k arcs good) d (omega (arith, taken, within, fewer)) (omega (arith, taken)) (omega (arith, within, fewer))

  -- ---- rows of NODEDATA
  names-in : (k : ℕ) (ys : List (Option ℤ)) → 1 ≤ k → k + length ys ≤ 1 + length xs → AllByRecursion IsNamed (names_from k ys)
  unfolding numbered
  names-in k [] some within = tt
  names-in k (y ∷ ys) some within =
      (ap (λ m. has_name (decimal m) (names_from 1 xs)) (let z : k ≡ 1 + (k - 1) = omega arith in z) ∙ has-node 1 xs (k - 1) (omega arith), names-in (suc k) ys (omega arith) (omega arith))

  module _ (m : ℕ) (x : Option ℤ) (arcs : List Arc) (good : AllByRecursion IsGood arcs) (ys : List (Option ℤ)) (here : 1 + length ys ≡ m) (within : m ≤ length xs) where
    node-limit : nat_lt most_nodes (length (with_name (all_nodes (numbered arc_said 1 arcs) (numbered node_said 1 ys)) (decimal m))) ≡ false
    node-limit =
        not-many (ends (numbered arc_said 1 arcs) ++ names_from 1 ys) (decimal m)
        (all-append IsNamed (ends (numbered arc_said 1 arcs)) (names_from 1 ys) (all-ends 1 arcs good) (names-in 1 ys (omega arith) (omega arith)))
        (ap (λ n. has_name (decimal n) (names_from 1 xs)) (let z : m ≡ 1 + length ys = sym here in z) ∙ has-node 1 xs (length ys) (omega arith))

    not-two : is_other (given (all_gifts (numbered arc_said 1 arcs) (numbered node_said 1 ys)) (decimal m)) (node_said m x).supdem ≡ false
    not-two =
        ap (λ gs. is_other (given (gs ++ flat_map node_gift (numbered node_said 1 ys)) (decimal m)) (node_said m x).supdem) (no-gifts 1 arcs)
        ∙ ap (λ v. is_other v (node_said m x).supdem) (not-given m 1 ys (omega arith) (omega (arith, within, few)))

    no-node-fault-of : first_of (node_row_faults (numbered arc_said 1 arcs) (numbered node_said 1 ys) (node_said m x)) ≡ None
    no-node-fault-of =
        let small : m < 1_000_000_000 = omega (arith, within, few) in
        first-none (node_row_faults (numbered arc_said 1 arcs) (numbered node_said 1 ys) (node_said m x)) (
          unfaulted role.Node kind.BadName false refl,
          (
            unfaulted role.Node kind.ReservedName _ (not-excess (decimal m) (digits-plain m small) (digits-some m small)),
            (
              unfaulted role.Node kind.RepeatedNode _ (not-earlier m 1 ys (omega arith) small),
              (
                unfaulted role.Node kind.LimitPassed _ node-limit,
                (
                  unfaulted role.Supdem kind.Amount false refl,
                  (
                    unfaulted role.Supdem kind.TwoSupplies _ not-two,
                    tt,
                  ),
                ),
              ),
            ),
          ),
        )

  pub no-node-fault : (arcs : List Arc) → AllByRecursion IsGood arcs → first_node_fault (numbered arc_said 1 arcs) (numbered node_said 1 xs) ≡ None
  unfolding node_fault_at
  no-node-fault arcs good = rows-none (length (numbered node_said 1 xs)) (node_fault_at (numbered arc_said 1 arcs) (numbered node_said 1 xs)) none
    where
      none : (k : ℕ) → k < length (numbered node_said 1 xs) → first_of (node_row_faults (numbered arc_said 1 arcs) (take k (numbered node_said 1 xs)) (get_or (numbered node_said 1 xs) k no_node_row)) ≡ None
      none k below =
          let within : k < length xs = omega (arith, length-numbered node_said 1 xs) in
          let taken : length (take k xs) ≡ k = length-take-le k xs (omega (arith, within)) in
          ap₂ (λ (rows : List NodeRow) (r : NodeRow). first_of (node_row_faults (numbered arc_said 1 arcs) rows r)) (numbered-take node_said k 1 xs) (numbered-at node_said k 1 xs None no_node_row within)
          ∙ no-node-fault-of (1 + k) (get_or xs k None) arcs good (take k xs) (omega (arith, taken)) (omega (arith, within))
