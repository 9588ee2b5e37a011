-- A row of NODEDATA more: what the pass finds is what the rows so far say.
use Rattle.std.proofs.Common.{◌≡◌, ◌<◌, ◌+◌, ◌++◌, ℕ, suc, true, false, List, [], ◌∷◌, None, Some, length, map, take, get_or, refl, sym, ap, ◌∙◌, arith, append_assoc, inl, inr, ◌⊎◌, ◌≤◌}
use Rattle.std.proofs.lemmas.List.{map-append, append-nil, get_or-map, take_more}
use Rattle.std.proofs.lemmas.List.Concat.{flat_map-append}
use Rattle.std.proofs.lemmas.Bool.{cases_Bool}
use Rattle.std.specs.Borrow.{Bor}
use Rattle.std.specs.List.{flat_map}
use Rattle.nf_table.specs.Grid.{Cells}
use Rattle.nf_cells.specs.Names.{Name, has_name, place_of, with_name}
use Rattle.nf_cells.proofs.SeenFacts.{has-added, place-less}
use Rattle.std.specs.Str.{bytes_eq}
use Rattle.nf_cells.specs.Values.{cell_now}
use Rattle.nf_cells.specs.declared.values.Cell.{Cell as LentCell}
use Rattle.nf_cells.specs.declared.values.Cell.TheVariants.{Is}
use Rattle.nf_program.specs.declared.program.Role.TheVariants as role
use Rattle.nf_roles.specs.declared.fault.DataKind.TheVariants as kind
use Rattle.nf_roles.specs.declared.fault.CellFault.{CellFault}
use Rattle.nf_roles.specs.First.{first_of, IsFaultOf}
use Rattle.nf_roles.specs.Roles.{RoleColumns}
use Rattle.nf_network.specs.declared.rows.Defaults.{Defaults}
use Rattle.nf_network.specs.declared.rows.Figures.{Figures}
use Rattle.nf_network.specs.Rows.{ArcRow, NodeRow, node_row, node_rows}
use Rattle.nf_network.specs.Arcs.{ends, gift, gifts, given, said}
use Rattle.nf_network.specs.Faults.{excess, gift_faults, is_other, node_faults}
use Rattle.nf_network.specs.NodeData.{all_gifts, no_node_row, node_fault_at, node_gift, node_name, node_row_faults}
use Rattle.nf_network.specs.Nodes.{NodeList}
use Rattle.nf_network.specs.Given.{IsNamed}
use Rattle.nf_network.specs.Keys.{Key}
use Rattle.nf_network.specs.Pass.{IsAfter, Stands}
use Rattle.nf_network.specs.NodePass.{IsRead, IsTaken, name_faults_now, row_faults_now, with_row}
use Rattle.nf_network.proofs.NodeFacts.{stands-gift, stands-given, stands-node}
use Rattle.nf_network.proofs.KeyFacts.{keys-still, named-still}
use Rattle.nf_network.proofs.PassFacts.{after-names, clear-gift, left, right, first-append, map-length, place-added, second-none, with-names}

-- after ARCDATA no row of NODEDATA is read
pub read-none : (d : Defaults) (arcs : List ArcRow) (ns : NodeList) (ks : List Key) (fs : List Figures) → IsAfter d arcs ns ks fs → IsRead d arcs [] ns ks fs
read-none d arcs ns ks fs s = record { nodes = rw (append-nil (ends arcs), append-nil (gifts arcs)) s.nodes; keys = s.keys; figures = s.figures; named = s.named }

pub names-push : (arcs : List ArcRow) (above : List NodeRow) (r : NodeRow) → ends arcs ++ map node_name (above ++ r ∷ []) ≡ (ends arcs ++ map node_name above) ++ node_name r ∷ []
names-push arcs above r = rw (map-append node_name above (r ∷ [])) (sym (append_assoc (ends arcs) (map node_name above) (node_name r ∷ [])))

gifts-push : (arcs : List ArcRow) (above : List NodeRow) (r : NodeRow) → all_gifts arcs (above ++ r ∷ []) ≡ all_gifts arcs above ++ gift (node_name r) r.supdem
gifts-push arcs above r =
    rw (flat_map-append node_gift above (r ∷ []), append-nil (node_gift r)) (sym (append_assoc (gifts arcs) (flat_map node_gift above) (node_gift r)))

module _ (d : Defaults) (arcs : List ArcRow) (above : List NodeRow) (ns : NodeList) (ks : List Key) (fs : List Figures) (s : IsRead d arcs above ns ks fs)
    (seen : List Name) (h : seen ≡ map node_name above) (r : NodeRow) where
  stands1 : Stands (with_row ns r) ((ends arcs ++ map node_name above) ++ node_name r ∷ []) (all_gifts arcs above)
  stands1 = stands-node ns (ends arcs ++ map node_name above) (all_gifts arcs above) (node_name r) s.nodes

  has : has_name (node_name r) (with_row ns r).names ≡ true
  has = rw (with-names ns (node_name r)) (has-added (node_name r) ns.names)

  place-is : place_of (node_name r) (with_row ns r).names ≡ place_of (node_name r) ns.names
  place-is = rw (with-names ns (node_name r)) (place-added (node_name r) ns.names)

  gift-same : get_or (with_row ns r).given (place_of (node_name r) ns.names) None ≡ given (all_gifts arcs above) (node_name r)
  gift-same = rw place-is at (stands-given (with_row ns r) ((ends arcs ++ map node_name above) ++ node_name r ∷ []) (all_gifts arcs above) (node_name r) stands1 has)

  -- the row's faults are the same, by the nodes so far and by the rows
  pub faults-same : first_of (row_faults_now ns seen r) ≡ first_of (node_row_faults arcs above r)
  faults-same = rw (gift-same, h, s.nodes.names) refl

  pub even : length ns.given ≡ length ns.names
  even = ap length s.nodes.given_each ∙ map-length (given (all_gifts arcs above)) ns.names

  module _ (new : NodeList) (now : List Name) (t : IsTaken ns seen r new now) where
    -- no fault
    pub row-clear : first_of (node_row_faults arcs above r) ≡ None
    row-clear = sym faults-same ∙ t.clear

    pub seen-more : now ≡ map node_name (above ++ r ∷ [])
    seen-more = t.seen_is ∙ ap (λ l. l ++ node_name r ∷ []) h ∙ sym (map-append node_name above (r ∷ []))

    gift-clear : first_of (gift_faults role.Supdem (get_or (with_row ns r).given (place_of (node_name r) ns.names) None) r.supdem) ≡ None
    gift-clear = second-none (first_of (name_faults_now ns.names seen r.node)) _
        (sym (first-append (name_faults_now ns.names seen r.node) (gift_faults role.Supdem (get_or (with_row ns r).given (place_of (node_name r) ns.names) None) r.supdem)) ∙ t.clear)

    other : is_other (given (all_gifts arcs above) (node_name r)) r.supdem ≡ false
    other = ap (λ g. is_other g r.supdem) (sym gift-same) ∙ clear-gift role.Supdem (get_or (with_row ns r).given (place_of (node_name r) ns.names) None) r.supdem gift-clear

    stands2 : Stands new (ends arcs ++ map node_name (above ++ r ∷ [])) (all_gifts arcs (above ++ r ∷ []))
    stands2 =
        let last = stands-gift (with_row ns r) ((ends arcs ++ map node_name above) ++ node_name r ∷ []) (all_gifts arcs above) (node_name r) r.supdem stands1 has other in
        rw (names-push arcs above r, gifts-push arcs above r, t.nodes) (rw place-is at last)

    names-are : new.names ≡ with_name ns.names (node_name r)
    names-are = ap (λ n. n.names) t.nodes ∙ after-names (with_row ns r) (place_of (node_name r) ns.names) r.supdem ∙ with-names ns (node_name r)

    -- the next row
    pub row-read : IsRead d arcs (above ++ r ∷ []) new ks fs
    row-read = record {
      nodes = stands2;
      keys = rw names-are (s.keys ∙ sym (keys-still ns.names (node_name r) arcs s.named));
      figures = s.figures;
      named = rw names-are (named-still ns.names (node_name r) arcs s.named);
    }

-- ---- the row of a number
pub node-at : (roles : RoleColumns) (h : Cells) (rows : List Cells) (i : ℕ) → i < length rows → get_or (node_rows roles rows) i no_node_row ≡ node_row roles (get_or (h ∷ rows) (i + 1) [])
node-at roles h rows i below =
    let s : i + 1 ≡ suc i = omega arith in
    rw s (get_or-map (node_row roles) rows i [] no_node_row below)

pub node-fault : (arcs : List ArcRow) (rows : List NodeRow) (i : ℕ) (r : NodeRow) → get_or rows i no_node_row ≡ r → node_fault_at arcs rows i ≡ first_of (node_row_faults arcs (take i rows) r)
unfolding node_fault_at
node-fault arcs rows i r e = rw e refl

pub nodes-more : (roles : RoleColumns) (rows : List Cells) (i : ℕ) (r : NodeRow) → i < length rows → get_or (node_rows roles rows) i no_node_row ≡ r
    → take (i + 1) (node_rows roles rows) ≡ take i (node_rows roles rows) ++ r ∷ []
nodes-more roles rows i r below e =
    let all : length (node_rows roles rows) ≡ length rows = map-length (node_row roles) rows in
    take_more (node_rows roles rows) i no_node_row (omega (arith, all, below)) ∙ ap (λ q. take i (node_rows roles rows) ++ q ∷ []) e

pub nodes-length : (roles : RoleColumns) (rows : List Cells) → length (node_rows roles rows) ≡ length rows
nodes-length roles rows = map-length (node_row roles) rows

-- ---- what naming a row's node answers
pub name-repeated : (nodes seen : List Name) (n : Name) → bytes_eq n excess ≡ false → has_name n seen ≡ true
    → IsFaultOf (first_of (name_faults_now nodes seen (Is n))) (record { role = role.Node; kind = kind.RepeatedNode })
name-repeated nodes seen n good there = rw (good, there) (inr refl)

pub name-fault : (nodes seen : List Name) (n : Name) (f : CellFault) → bytes_eq n excess ≡ false → has_name n seen ≡ false
    → IsFaultOf (first_of (node_faults role.Node nodes (Is n))) f → IsFaultOf (first_of (name_faults_now nodes seen (Is n))) f
name-fault nodes seen n f good absent h = rw (good, absent) (rw good at h)

pub name-clear : (nodes seen : List Name) (n : Name) → bytes_eq n excess ≡ false → has_name n seen ≡ false
    → first_of (node_faults role.Node nodes (Is n)) ≡ None → first_of (name_faults_now nodes seen (Is n)) ≡ None
name-clear nodes seen n good absent h = rw (good, absent) (rw good at h)

pub absent-if : (n : Name) (ks : List Name) → length ks ≤ place_of n ks → has_name n ks ≡ false
absent-if n ks h = by_cases (cases_Bool (has_name n ks))
  where
    by_cases : (has_name n ks ≡ true) ⊎ (has_name n ks ≡ false) → has_name n ks ≡ false
    by_cases (inl e) = absurd (omega (arith, h, place-less n ks e))
    by_cases (inr e) = e

pub named-row : (ns : NodeList) (seen : List Name) (n : Name) (cell : LentCell (Bor (List ℕ))) (new : NodeList) (now : List Name) (i : ℕ) → cell_now cell ≡ Is n
    → bytes_eq n excess ≡ false → has_name n seen ≡ false → IsNamed role.Node ns (cell_now cell) new i → now ≡ with_name seen n
    → (first_of (name_faults_now ns.names seen (cell_now cell)) ≡ None) × IsNamed role.Node ns (cell_now cell) new i × (now ≡ seen ++ said [] (cell_now cell) ∷ [])
named-row ns seen n cell new now i is good absent named more =
    let clear : first_of (node_faults role.Node ns.names (Is n)) ≡ None = rw is at named.clear in
    let pushed : now ≡ seen ++ n ∷ [] = rw absent at more in
    (rw is (name-clear ns.names seen n good absent clear), named, rw is pushed)

-- ---- what a row answers
pub row-name-fault : (ns : NodeList) (seen : List Name) (q r : NodeRow) → q ≡ r → (f : CellFault) → IsFaultOf (first_of (name_faults_now ns.names seen q.node)) f → IsFaultOf (first_of (row_faults_now ns seen r)) f
row-name-fault ns seen q r e f h =
    rw (← e) (rw (first-append (name_faults_now ns.names seen q.node) (gift_faults role.Supdem (get_or (with_row ns q).given (place_of (node_name q) ns.names) None) q.supdem))
    (left (first_of (name_faults_now ns.names seen q.node)) _ f h))

pub row-gift-fault : (ns : NodeList) (seen : List Name) (q r : NodeRow) → q ≡ r → (named : NodeList) (i : ℕ) → IsNamed role.Node ns q.node named i → (f : CellFault)
    → first_of (name_faults_now ns.names seen q.node) ≡ None → first_of (gift_faults role.Supdem (get_or named.given i None) q.supdem) ≡ Some f → IsFaultOf (first_of (row_faults_now ns seen r)) f
row-gift-fault ns seen q r e named i is f clear h =
    let gift : first_of (gift_faults role.Supdem (get_or (with_row ns q).given (place_of (node_name q) ns.names) None) q.supdem) ≡ Some f = rw (is.nodes, is.place) at h in
    rw (← e) (rw (first-append (name_faults_now ns.names seen q.node) (gift_faults role.Supdem (get_or (with_row ns q).given (place_of (node_name q) ns.names) None) q.supdem))
    (right (first_of (name_faults_now ns.names seen q.node)) _ f clear (inr gift)))
