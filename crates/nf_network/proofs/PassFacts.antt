-- A row of ARCDATA: what the pass finds is what the rows above say.
use Rattle.std.proofs.Common.{◌≡◌, ◌≤◌, ◌<◌, ◌+◌, ◌++◌, ◌⊎◌, ℕ, suc, true, false, List, [], ◌∷◌, Option, Some, None, length, map, take, get_or, refl, sym, ap, ◌∙◌, inl, inr, arith, append_assoc}
use Rattle.std.proofs.lemmas.Bool.{cases_Bool}
use Rattle.std.proofs.lemmas.List.{map-append, append-nil, get_or-map, take_more}
use Rattle.nf_table.specs.Grid.{Cells}
use Rattle.std.proofs.lemmas.Grind.{flat_map-append}
use Rattle.std.specs.Bool.{nat_le}
use Rattle.std.specs.List.{list_any}
use Rattle.nf_cells.specs.Names.{Name, has_name, place_of, with_name, first_seen, is_once}
use Rattle.nf_cells.proofs.SeenFacts.{eq-self, has-added, has-still, place-less}
use Rattle.nf_cells.specs.declared.values.Cell.{Cell}
use Rattle.nf_cells.specs.declared.values.Cell.TheVariants.{Missing, Bad, Is}
use Rattle.nf_cells.specs.declared.values.Supply.{Supply}
use Rattle.nf_roles.specs.declared.fault.CellFault.{CellFault}
use Rattle.nf_roles.specs.declared.fault.DataKind.TheVariants as kind
use Rattle.nf_program.specs.declared.program.Role.{Role}
use Rattle.nf_program.specs.declared.program.Role.TheVariants as role
use Rattle.nf_network.specs.declared.rows.Defaults.{Defaults}
use Rattle.nf_network.specs.declared.rows.Figures.{Figures}
use Rattle.nf_roles.specs.Roles.{RoleColumns}
use Rattle.nf_network.specs.Rows.{ArcRow, arc_row}
use Rattle.nf_roles.specs.First.{first_of, or_else, fault_if, IsFaultOf}
use Rattle.nf_network.specs.Arcs.{tail_of, head_of, arc_name, same_arc, ends_of, ends, gift, gifts_of, gifts, given}
use Rattle.nf_network.specs.Faults.{node_faults, gift_faults, is_bad, is_other, name_faults, figure_faults, arc_faults, arc_fault_at, empty_row, most_arcs}
use Rattle.nf_network.specs.Nodes.{NodeList, with_node}
use Rattle.nf_network.specs.Given.{given_after}
use Rattle.nf_network.specs.Keys.{Key, key_in}
use Rattle.nf_network.specs.Arcs.{figures_of}
use Rattle.nf_network.specs.Pass.{Stands, AreNamed, IsAfter, EndsNamed, ends_faults, with_ends, give_faults, ends_given}
use Rattle.nf_network.specs.Rows.{arc_rows}
use Rattle.nf_network.proofs.NodeFacts.{stands-node, stands-gift, stands-given}
use Rattle.nf_network.specs.Repeats.{AreKeysOf}
use Rattle.nf_network.proofs.KeyFacts.{named-still, named-push, place-still, keys-still}

-- ---- first faults
or-assoc : {A : Type 0} (a b c : Option A) → or_else (or_else a b) c ≡ or_else a (or_else b c)
or-assoc None b c = refl
or-assoc (Some x) b c = refl

pub first-append : (xs bs : List (Option CellFault)) → first_of (xs ++ bs) ≡ or_else (first_of xs) (first_of bs)
first-append [] bs = refl
first-append (a ∷ xs) bs = rw (first-append xs bs) (sym (or-assoc a (first_of xs) (first_of bs)))

pub left : (a b : Option CellFault) (f : CellFault) → IsFaultOf a f → IsFaultOf (or_else a b) f
left a b f (inl m) = inl m
left a b f (inr e) = inr (rw e refl)

pub right : (a b : Option CellFault) (f : CellFault) → a ≡ None → IsFaultOf b f → IsFaultOf (or_else a b) f
right a b f n h = rw n h

or-none : (a : Option CellFault) → or_else a None ≡ a
or-none None = refl
or-none (Some f) = refl

pub both : (a b : Option CellFault) → a ≡ None → b ≡ None → or_else a b ≡ None
both a b n m = rw n m

pub first-none : (a b : Option CellFault) → or_else a b ≡ None → a ≡ None
first-none None b h = refl
first-none (Some x) b h = h

pub second-none : (a b : Option CellFault) → or_else a b ≡ None → b ≡ None
second-none None b h = h
second-none (Some x) b h = absurd (cc)

pub same-after : (a b c : Option CellFault) → (a ≡ None → b ≡ c) → or_else a b ≡ or_else a c
same-after None b c h = h refl
same-after (Some x) b c h = refl

-- ---- names of nodes
pub with-names : (ns : NodeList) (n : Name) → (with_node ns n).names ≡ with_name ns.names n
with-names ns n = by_cases (cases_Bool (has_name n ns.names))
  where
    by_cases : (has_name n ns.names ≡ true) ⊎ (has_name n ns.names ≡ false) → (with_node ns n).names ≡ with_name ns.names n
    by_cases (inl e) = rw e refl
    by_cases (inr e) = rw e refl

pub after-names : (ns : NodeList) (i : ℕ) (cell : Cell Supply) → (given_after ns i cell).names ≡ ns.names
after-names ns i Missing = refl
after-names ns i Bad = refl
after-names ns i (Is v) = refl

place-new : (n : Name) (ks : List Name) → place_of n (ks ++ n ∷ []) ≡ place_of n ks
place-new n [] = rw (eq-self n) refl
place-new n (k ∷ ks) = rw (place-new n ks) refl

pub place-added : (n : Name) (ks : List Name) → place_of n (with_name ks n) ≡ place_of n ks
place-added n ks = by_cases (cases_Bool (has_name n ks))
  where
    by_cases : (has_name n ks ≡ true) ⊎ (has_name n ks ≡ false) → place_of n (with_name ks n) ≡ place_of n ks
    by_cases (inl e) = rw e refl
    by_cases (inr e) = rw e (place-new n ks)

-- ---- the ends of a row
module _ (ns : NodeList) (r : ArcRow) where
  ends-names : (with_ends ns r).names ≡ with_name (with_name ns.names (tail_of r)) (head_of r)
  ends-names = with-names (with_node ns (tail_of r)) (head_of r) ∙ ap (λ ks. with_name ks (head_of r)) (with-names ns (tail_of r))

  has-tail : has_name (tail_of r) (with_ends ns r).names ≡ true
  has-tail = rw ends-names (has-still (tail_of r) (head_of r) (with_name ns.names (tail_of r)) (has-added (tail_of r) ns.names))

  has-head : has_name (head_of r) (with_ends ns r).names ≡ true
  has-head = rw ends-names (has-added (head_of r) (with_name ns.names (tail_of r)))

  tail-place : place_of (tail_of r) (with_ends ns r).names ≡ place_of (tail_of r) ns.names
  tail-place = rw ends-names (place-still (tail_of r) (head_of r) (with_name ns.names (tail_of r)) (has-added (tail_of r) ns.names) ∙ place-added (tail_of r) ns.names)

  head-place : place_of (head_of r) (with_ends ns r).names ≡ place_of (head_of r) (with_node ns (tail_of r)).names
  head-place = rw (ends-names, with-names ns (tail_of r)) (place-added (head_of r) (with_name ns.names (tail_of r)))

-- ---- the faults of a row, part by part
pub split : (l : Option CellFault) (t h n q s d : List (Option CellFault))
    → first_of (l ∷ t ++ h ++ n ++ q ++ s ++ d) ≡ or_else l (or_else (first_of (t ++ h)) (or_else (first_of n) (or_else (first_of q) (first_of (s ++ d)))))
split l t h n q s d = simp (first-append, or-assoc)

pub clear-gift : (o : Role) (b : Option Supply) (cell : Cell Supply) → first_of (gift_faults o b cell) ≡ None → is_other b cell ≡ false
clear-gift o None cell h = refl
clear-gift o (Some w) Missing h = refl
clear-gift o (Some w) Bad h = refl
clear-gift o (Some w) (Is v) h = by_cases (cases_Bool (is_other (Some w) (Is v)))
  where
    by_cases : (is_other (Some w) (Is v) ≡ true) ⊎ (is_other (Some w) (Is v) ≡ false) → is_other (Some w) (Is v) ≡ false
    by_cases (inl e) = let bad : Some (record { role = o; kind = kind.TwoSupplies }) ≡ None = rw e at h in absurd (cc)
    by_cases (inr e) = e

pub ends-push : (above : List ArcRow) (r : ArcRow) → ends (above ++ r ∷ []) ≡ (ends above ++ tail_of r ∷ []) ++ head_of r ∷ []
ends-push above r = rw (flat_map-append ends_of above (r ∷ [])) (sym (append_assoc (ends above) (tail_of r ∷ []) (head_of r ∷ [])))

gifts-push : (above : List ArcRow) (r : ArcRow) → gifts (above ++ r ∷ []) ≡ (gifts above ++ gift (tail_of r) r.supply) ++ gift (head_of r) r.demand
gifts-push above r = rw (flat_map-append gifts_of above (r ∷ []), append-nil (gifts_of r)) (sym (append_assoc (gifts above) (gift (tail_of r) r.supply) (gift (head_of r) r.demand)))

pub map-length : {A B : Type 0} (f : A → B) (xs : List A) → length (map f xs) ≡ length xs
map-length f [] = refl
map-length f (x ∷ xs) = ap suc (map-length f xs)

-- what is wrong with a row behind its name, if anything is
abbrev pub behind_name : Defaults → List ArcRow → ArcRow → Option CellFault
behind_name d above r = or_else (first_of (figure_faults d r))
    (first_of (gift_faults role.Supply (given (gifts above) (tail_of r)) r.supply ++ gift_faults role.Demand (given (gifts above ++ gift (tail_of r) r.supply) (head_of r)) r.demand))

module _ (d : Defaults) (above : List ArcRow) (r : ArcRow) (ns : NodeList) (ks : List Key) (fs : List Figures) (s : IsAfter d above ns ks fs) where
  parts : first_of (arc_faults d above r) ≡ or_else (fault_if (nat_le most_arcs (length above)) role.TailNode kind.LimitPassed) (or_else (first_of (ends_faults ns.names r))
      (or_else (first_of (name_faults r (list_any (same_arc r) above))) (or_else (first_of (figure_faults d r))
      (first_of (gift_faults role.Supply (given (gifts above) (tail_of r)) r.supply ++ gift_faults role.Demand (given (gifts above ++ gift (tail_of r) r.supply) (head_of r)) r.demand)))))
  parts = rw s.nodes.names (split (fault_if (nat_le most_arcs (length above)) role.TailNode kind.LimitPassed) (node_faults role.TailNode (first_seen (ends above)) r.tail)
      (node_faults role.HeadNode (with_name (first_seen (ends above)) (tail_of r)) r.head) (name_faults r (list_any (same_arc r) above)) (figure_faults d r)
      (gift_faults role.Supply (given (gifts above) (tail_of r)) r.supply) (gift_faults role.Demand (given (gifts above ++ gift (tail_of r) r.supply) (head_of r)) r.demand))

  stands2 : Stands (with_ends ns r) ((ends above ++ tail_of r ∷ []) ++ head_of r ∷ []) (gifts above)
  stands2 = stands-node (with_node ns (tail_of r)) (ends above ++ tail_of r ∷ []) (gifts above) (head_of r) (stands-node ns (ends above) (gifts above) (tail_of r) s.nodes)

  named2 : AreNamed (with_ends ns r).names above
  named2 = rw (ends-names ns r) (named-still (with_name ns.names (tail_of r)) (head_of r) above (named-still ns.names (tail_of r) above s.named))

  keys2 : ks ≡ map (key_in (with_ends ns r).names) above
  keys2 = rw (ends-names ns r) (s.keys ∙ sym (keys-still (with_name ns.names (tail_of r)) (head_of r) above (named-still ns.names (tail_of r) above s.named) ∙ keys-still ns.names (tail_of r) above s.named))

  -- after the supply
  stands3 : is_other (given (gifts above) (tail_of r)) r.supply ≡ false
      → Stands (given_after (with_ends ns r) (place_of (tail_of r) (with_ends ns r).names) r.supply) ((ends above ++ tail_of r ∷ []) ++ head_of r ∷ []) (gifts above ++ gift (tail_of r) r.supply)
  stands3 o = stands-gift (with_ends ns r) ((ends above ++ tail_of r ∷ []) ++ head_of r ∷ []) (gifts above) (tail_of r) r.supply stands2 (has-tail ns r) o

  supply-same : get_or (with_ends ns r).given (place_of (tail_of r) (with_ends ns r).names) None ≡ given (gifts above) (tail_of r)
  supply-same = stands-given (with_ends ns r) ((ends above ++ tail_of r ∷ []) ++ head_of r ∷ []) (gifts above) (tail_of r) stands2 (has-tail ns r)

  head-there : has_name (head_of r) (given_after (with_ends ns r) (place_of (tail_of r) (with_ends ns r).names) r.supply).names ≡ true
  head-there = rw (after-names (with_ends ns r) (place_of (tail_of r) (with_ends ns r).names) r.supply) (has-head ns r)

  demand-same : is_other (given (gifts above) (tail_of r)) r.supply ≡ false
      → get_or (given_after (with_ends ns r) (place_of (tail_of r) (with_ends ns r).names) r.supply).given (place_of (head_of r) (with_ends ns r).names) None
      ≡ given (gifts above ++ gift (tail_of r) r.supply) (head_of r)
  demand-same o =
      let at = stands-given (given_after (with_ends ns r) (place_of (tail_of r) (with_ends ns r).names) r.supply) ((ends above ++ tail_of r ∷ []) ++ head_of r ∷ []) (gifts above ++ gift (tail_of r) r.supply) (head_of r) (stands3 o) head-there in
      ap (λ names. get_or (given_after (with_ends ns r) (place_of (tail_of r) (with_ends ns r).names) r.supply).given (place_of (head_of r) names) None)
      (sym (after-names (with_ends ns r) (place_of (tail_of r) (with_ends ns r).names) r.supply)) ∙ at

  gives-same : first_of (give_faults (with_ends ns r) (place_of (tail_of r) (with_ends ns r).names) (place_of (head_of r) (with_ends ns r).names) r)
      ≡ first_of (gift_faults role.Supply (given (gifts above) (tail_of r)) r.supply ++ gift_faults role.Demand (given (gifts above ++ gift (tail_of r) r.supply) (head_of r)) r.demand)
  gives-same =
      rw (
        first-append (gift_faults role.Supply (get_or (with_ends ns r).given (place_of (tail_of r) (with_ends ns r).names) None) r.supply)
            (gift_faults role.Demand (get_or (given_after (with_ends ns r) (place_of (tail_of r) (with_ends ns r).names) r.supply).given (place_of (head_of r) (with_ends ns r).names) None) r.demand),
        first-append (gift_faults role.Supply (given (gifts above) (tail_of r)) r.supply) (gift_faults role.Demand (given (gifts above ++ gift (tail_of r) r.supply) (head_of r)) r.demand),
        supply-same,
      )
      (same-after (first_of (gift_faults role.Supply (given (gifts above) (tail_of r)) r.supply)) _ _
      (λ n. ap (λ b. first_of (gift_faults role.Demand b r.demand)) (demand-same (clear-gift role.Supply (given (gifts above) (tail_of r)) r.supply n))))

  stands4 : is_other (given (gifts above) (tail_of r)) r.supply ≡ false → is_other (given (gifts above ++ gift (tail_of r) r.supply) (head_of r)) r.demand ≡ false
      → Stands (ends_given (with_ends ns r) (place_of (tail_of r) (with_ends ns r).names) (place_of (head_of r) (with_ends ns r).names) r) (ends (above ++ r ∷ [])) (gifts (above ++ r ∷ []))
  stands4 o p =
      let last = stands-gift (given_after (with_ends ns r) (place_of (tail_of r) (with_ends ns r).names) r.supply) ((ends above ++ tail_of r ∷ []) ++ head_of r ∷ []) (gifts above ++ gift (tail_of r) r.supply)
      (head_of r) r.demand (stands3 o) head-there p in
      rw (ends-push above r, gifts-push above r) (rw (after-names (with_ends ns r) (place_of (tail_of r) (with_ends ns r).names) r.supply) at last)

  -- ---- what the pass answers at each check
  same-length : length ks ≡ length above
  same-length = ap length s.keys ∙ map-length (key_in ns.names) above

  pub even : length ns.given ≡ length ns.names
  even = ap length s.nodes.given_each ∙ map-length (given (gifts above)) ns.names

  below-limit : length ks < most_arcs → fault_if (nat_le most_arcs (length above)) role.TailNode kind.LimitPassed ≡ None
  below-limit h =
      let no : nat_le most_arcs (length above) ≡ false = grind (arith, h, same-length) in
      rw no refl

  pub row-limit : most_arcs ≤ length ks → IsFaultOf (first_of (arc_faults d above r)) (record { role = role.TailNode; kind = kind.LimitPassed })
  row-limit h =
      let yes : nat_le most_arcs (length above) ≡ true = grind (arith, h, same-length) in
      rw parts (left (fault_if (nat_le most_arcs (length above)) role.TailNode kind.LimitPassed) _ _ (inr (rw yes refl)))

  pub row-ends : (f : CellFault) → length ks < most_arcs → IsFaultOf (first_of (ends_faults ns.names r)) f → IsFaultOf (first_of (arc_faults d above r)) f
  row-ends f small h = rw parts (right _ _ f (below-limit small) (left _ _ f h))

  module _ (new : NodeList) (t h : ℕ) (small : length ks < most_arcs) (e : EndsNamed ns r new t h) where
    tail-is : t ≡ place_of (tail_of r) (with_ends ns r).names
    tail-is = e.tail_is ∙ sym (tail-place ns r)

    head-is : h ≡ place_of (head_of r) (with_ends ns r).names
    head-is = e.head_is ∙ sym (head-place ns r)

    pub tail-below : t < length new.names
    tail-below = rw (e.nodes, tail-is) (place-less (tail_of r) (with_ends ns r).names (has-tail ns r))

    pub head-below : h < length new.names
    head-below = rw (e.nodes, head-is) (place-less (head_of r) (with_ends ns r).names (has-head ns r))

    pub new-even : length new.given ≡ length new.names
    new-even = rw e.nodes (ap length stands2.given_each ∙ map-length (given (gifts above)) (with_ends ns r).names)

    key-is : record { tail = t; head = h; name = arc_name r } ≡ key_in (with_ends ns r).names r
    key-is = rw (tail-is, head-is) refl

    pub row-name : (f : CellFault) → IsFaultOf (fault_if (is_bad r.name) role.ArcName kind.BadName) f → IsFaultOf (first_of (arc_faults d above r)) f
    row-name f n = rw parts (right _ _ f (below-limit small) (right _ _ f e.clear (left _ _ f (left _ _ f n))))

    -- its arc is among the keys
    pub row-keys : AreKeysOf (above ++ r ∷ []) (ks ++ record { tail = t; head = h; name = arc_name r } ∷ [])
    row-keys = record {
      names = (with_ends ns r).names;
      keys = rw (map-append (key_in (with_ends ns r).names) above (r ∷ []), key-is) (ap (λ l. l ++ key_in (with_ends ns r).names r ∷ []) keys2);
      named = named-push (with_ends ns r).names r above named2 (has-tail ns r) (has-head ns r);
    }

    -- what is left to find is a repeated arc and what is wrong behind the name
    pub row-rest : is_bad r.name ≡ false → first_of (arc_faults d above r) ≡ or_else (fault_if (list_any (same_arc r) above) role.ArcName kind.RepeatedArc) (behind_name d above r)
    row-rest good = rw (parts, below-limit small, e.clear, good, or-none (fault_if (list_any (same_arc r) above) role.ArcName kind.RepeatedArc)) refl

    pub rest-figures : (f : CellFault) → first_of (figure_faults d r) ≡ Some f → behind_name d above r ≡ Some f
    rest-figures f q = rw q refl

    module _ (q : first_of (figure_faults d r) ≡ None) where
      gives-are : first_of (give_faults new t h r)
          ≡ first_of (gift_faults role.Supply (given (gifts above) (tail_of r)) r.supply ++ gift_faults role.Demand (given (gifts above ++ gift (tail_of r) r.supply) (head_of r)) r.demand)
      gives-are = rw (e.nodes, tail-is, head-is) gives-same

      pub rest-gives : (f : CellFault) → first_of (give_faults new t h r) ≡ Some f → behind_name d above r ≡ Some f
      rest-gives f g = rw q (sym gives-are ∙ g)

      module _ (g : first_of (give_faults new t h r) ≡ None) where
        all-clear : first_of (gift_faults role.Supply (given (gifts above) (tail_of r)) r.supply ++ gift_faults role.Demand (given (gifts above ++ gift (tail_of r) r.supply) (head_of r)) r.demand) ≡ None
        all-clear = sym gives-are ∙ g

        two-clear : or_else (first_of (gift_faults role.Supply (given (gifts above) (tail_of r)) r.supply))
            (first_of (gift_faults role.Demand (given (gifts above ++ gift (tail_of r) r.supply) (head_of r)) r.demand)) ≡ None
        two-clear = sym (first-append (gift_faults role.Supply (given (gifts above) (tail_of r)) r.supply)
            (gift_faults role.Demand (given (gifts above ++ gift (tail_of r) r.supply) (head_of r)) r.demand)) ∙ all-clear

        supply-clear : is_other (given (gifts above) (tail_of r)) r.supply ≡ false
        supply-clear = clear-gift role.Supply (given (gifts above) (tail_of r)) r.supply (first-none _ _ two-clear)

        demand-clear : is_other (given (gifts above ++ gift (tail_of r) r.supply) (head_of r)) r.demand ≡ false
        demand-clear = clear-gift role.Demand (given (gifts above ++ gift (tail_of r) r.supply) (head_of r)) r.demand (second-none _ _ two-clear)

        pub rest-clear : behind_name d above r ≡ None
        rest-clear = rw q all-clear

        names4 : (ends_given (with_ends ns r) (place_of (tail_of r) (with_ends ns r).names) (place_of (head_of r) (with_ends ns r).names) r).names ≡ (with_ends ns r).names
        names4 = after-names (given_after (with_ends ns r) (place_of (tail_of r) (with_ends ns r).names) r.supply) (place_of (head_of r) (with_ends ns r).names) r.demand
            ∙ after-names (with_ends ns r) (place_of (tail_of r) (with_ends ns r).names) r.supply

        pub row-next : IsAfter d (above ++ r ∷ []) (ends_given new t h r) (ks ++ record { tail = t; head = h; name = arc_name r } ∷ []) (fs ++ figures_of d r ∷ [])
        row-next = rw (e.nodes, tail-is, head-is) (record {
          nodes = stands4 supply-clear demand-clear;
          keys = rw (names4, map-append (key_in (with_ends ns r).names) above (r ∷ [])) (ap (λ l. l ++ key_in (with_ends ns r).names r ∷ []) keys2);
          figures = rw (map-append (figures_of d) above (r ∷ [])) (ap (λ l. l ++ figures_of d r ∷ []) s.figures);
          named = rw names4 (named-push (with_ends ns r).names r above named2 (has-tail ns r) (has-head ns r));
        })

-- ---- the row of a number
row-is : (columns : RoleColumns) (h : Cells) (rows : List Cells) (i : ℕ) → i < length rows → get_or (arc_rows columns rows) i empty_row ≡ arc_row columns (get_or (h ∷ rows) (i + 1) [])
row-is columns h rows i below =
    let s : i + 1 ≡ suc i = omega arith in
    rw s (get_or-map (arc_row columns) rows i [] empty_row below)

pub at-row : (columns : RoleColumns) (h : Cells) (rows : List Cells) (i : ℕ) (r : ArcRow) → i < length rows → r ≡ arc_row columns (get_or (h ∷ rows) (i + 1) []) → get_or (arc_rows columns rows) i empty_row ≡ r
at-row columns h rows i r below e = row-is columns h rows i below ∙ sym e

pub fault-at : (d : Defaults) (rows : List ArcRow) (i : ℕ) (r : ArcRow) → get_or rows i empty_row ≡ r → arc_fault_at d rows i ≡ first_of (arc_faults d (take i rows) r)
unfolding arc_fault_at
fault-at d rows i r e = rw e refl

pub rows-more : (columns : RoleColumns) (rows : List Cells) (i : ℕ) (r : ArcRow) → i < length rows → get_or (arc_rows columns rows) i empty_row ≡ r
    → take (i + 1) (arc_rows columns rows) ≡ take i (arc_rows columns rows) ++ r ∷ []
rows-more columns rows i r below e =
    let all : length (arc_rows columns rows) ≡ length rows = map-length (arc_row columns) rows in
    take_more (arc_rows columns rows) i empty_row (omega (arith, all, below)) ∙ ap (λ q. take i (arc_rows columns rows) ++ q ∷ []) e

pub after-none : (d : Defaults) → IsAfter d [] (record { names = []; given = [] }) [] []
unfolding first_seen is_once
after-none d = record { nodes = record { names = refl; given_each = refl; once = refl; unseen = λ x h. refl }; keys = refl; figures = refl; named = tt }

pub rows-length : (columns : RoleColumns) (rows : List Cells) → length (arc_rows columns rows) ≡ length rows
rows-length columns rows = map-length (arc_row columns) rows
