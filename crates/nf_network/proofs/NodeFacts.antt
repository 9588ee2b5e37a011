-- A list of nodes with what they were given, against the names and gifts of the rows above.
use Rattle.std.proofs.Common.{◌≡◌, ◌≤◌, ◌<◌, ◌||◌, ◌+◌, ◌++◌, ◌⊎◌, ℕ, zero, suc, true, false, not, List, [], ◌∷◌, Option, Some, None, length, map, get_or, set, refl, sym, ap, ◌∙◌, inl, inr, arith}
use Rattle.std.proofs.lemmas.Bool.{false≢true, cases_Bool}
use Rattle.std.proofs.lemmas.Bool.Decides.{Decides-int_eq}
use Rattle.std.proofs.lemmas.List.{append-nil, map-append, length-append}
use Rattle.std.proofs.lemmas.List.Sums.{prefix_len-le-length}
use Rattle.std.proofs.lemmas.List.Folds.{list_any-append, list_any_at}
use Rattle.std.specs.Bool.{nat_lt}
use Rattle.std.specs.Str.{bytes_eq}
use Rattle.nf_cells.specs.Names.{Name, has_name, place_of, with_name, first_seen, is_once}
use Rattle.nf_cells.proofs.SeenFacts.{same, eq-self, differs-sym, first_seen-push, once-with, at-place, place-less, place-other}
use Rattle.nf_cells.specs.declared.values.Cell.{Cell}
use Rattle.nf_cells.specs.declared.values.Cell.TheVariants.{Missing, Bad, Is}
use Rattle.nf_cells.specs.declared.values.Supply.{Supply}
use Rattle.nf_cells.specs.declared.values.Supply.TheVariants.{Amount, OpenSupply, OpenDemand}
use Rattle.nf_roles.specs.First.{or_else}
use Rattle.nf_network.specs.Arcs.{Gift, gift, given, same_supply}
use Rattle.nf_program.specs.declared.program.Role.{Role}
use Rattle.nf_network.specs.Faults.{is_other, excess, most_nodes}
use Rattle.nf_network.specs.Nodes.{NodeList, with_node}
use Rattle.nf_network.specs.Given.{given_after, IsNamed}
use Rattle.nf_network.specs.Pass.{Stands}

-- ---- gifts
given-append : (gs hs : List Gift) (x : Name) → given (gs ++ hs) x ≡ or_else (given gs x) (given hs x)
given-append [] hs x = refl
given-append (g ∷ gs) hs x = by_cases (cases_Bool (bytes_eq x g.node)) (given-append gs hs x)
  where
    by_cases : (bytes_eq x g.node ≡ true) ⊎ (bytes_eq x g.node ≡ false) → given (gs ++ hs) x ≡ or_else (given gs x) (given hs x)
        → given ((g ∷ gs) ++ hs) x ≡ or_else (given (g ∷ gs) x) (given hs x)
    by_cases (inl e) before = rw e refl
    by_cases (inr e) before = rw (e, before) refl

or_else-None : {A : Type 0} (o : Option A) → or_else o None ≡ o
or_else-None None = refl
or_else-None (Some x) = refl

same_supply-is : (v w : Supply) → same_supply v w ≡ true → v ≡ w
same_supply-is (Amount v) (Amount w) h = ap (λ t. Amount (record { thousandths = t })) ((Decides-int_eq v.thousandths w.thousandths).0 h)
same_supply-is (Amount v) OpenSupply h = absurd (false≢true h)
same_supply-is (Amount v) OpenDemand h = absurd (false≢true h)
same_supply-is OpenSupply (Amount w) h = absurd (false≢true h)
same_supply-is OpenSupply OpenSupply h = refl
same_supply-is OpenSupply OpenDemand h = absurd (false≢true h)
same_supply-is OpenDemand (Amount w) h = absurd (false≢true h)
same_supply-is OpenDemand OpenSupply h = absurd (false≢true h)
same_supply-is OpenDemand OpenDemand h = refl

-- a gift that is no other one is the node's value
kept : (o : Option Supply) (v : Supply) → is_other o (Is v) ≡ false → or_else o (Some v) ≡ Some v
kept None v h = refl
kept (Some w) v h = by_cases (cases_Bool (same_supply w v))
  where
    by_cases : (same_supply w v ≡ true) ⊎ (same_supply w v ≡ false) → Some w ≡ Some v
    by_cases (inl e) = ap Some (same_supply-is w v e)
    by_cases (inr e) = absurd (false≢true (sym h ∙ ap not e))

-- ---- a value set at the place of a name
agree : {A : Type 0} (f g : Name → A) (n : Name) (ks : List Name) → has_name n ks ≡ false → ((x : Name) → bytes_eq n x ≡ false → g x ≡ f x) → map f ks ≡ map g ks
agree f g n [] h o = refl
agree f g n (k ∷ ks) h o = by_cases (cases_Bool (bytes_eq n k)) (agree f g n ks)
  where
    by_cases : (bytes_eq n k ≡ true) ⊎ (bytes_eq n k ≡ false) → (has_name n ks ≡ false → ((x : Name) → bytes_eq n x ≡ false → g x ≡ f x) → map f ks ≡ map g ks)
        → map f (k ∷ ks) ≡ map g (k ∷ ks)
    by_cases (inl e) before = absurd (false≢true (sym (rw e at h)))
    by_cases (inr e) before =
        let rest : has_name n ks ≡ false = rw e at h in
        rw (before rest o, o k e) refl

set-at : {A : Type 0} (f g : Name → A) (n : Name) (v : A) (ks : List Name) → is_once ks ≡ true → has_name n ks ≡ true → g n ≡ v → ((x : Name) → bytes_eq n x ≡ false → g x ≡ f x)
    → set (map f ks) (place_of n ks) v ≡ map g ks
unfolding is_once
set-at f g n v [] once h is o = absurd (false≢true h)
set-at f g n v (k ∷ ks) once h is o = by_cases (cases_Bool (bytes_eq n k)) (cases_Bool (has_name k ks)) (set-at f g n v ks)
  where
    by_cases : (bytes_eq n k ≡ true) ⊎ (bytes_eq n k ≡ false) → (has_name k ks ≡ true) ⊎ (has_name k ks ≡ false)
        → (is_once ks ≡ true → has_name n ks ≡ true → g n ≡ v → ((x : Name) → bytes_eq n x ≡ false → g x ≡ f x) → set (map f ks) (place_of n ks) v ≡ map g ks)
        → set (map f (k ∷ ks)) (place_of n (k ∷ ks)) v ≡ map g (k ∷ ks)
    by_cases d (inl r) before = absurd (false≢true (rw r at once))
    by_cases (inl e) (inr r) before =
        let k_is : n ≡ k = same n k e in
        let absent : has_name n ks ≡ false = rw (← k_is) at r in
        let head : g k ≡ v = rw (← k_is) is in
        rw (e, head, agree f g n ks absent o) refl
    by_cases (inr e) (inr r) before =
        let rest : has_name n ks ≡ true = rw e at h in
        let after : is_once ks ≡ true = rw r at once in
        let s : 1 + place_of n ks ≡ suc (place_of n ks) = omega arith in
        rw (e, s, before after rest is o, o k e) refl

get-map : {A : Type 0} (f : Name → A) (d : A) (e : Name) (ks : List Name) (i : ℕ) → i < length ks → get_or (map f ks) i d ≡ f (get_or ks i e)
get-map f d e [] i h = absurd (omega arith)
get-map f d e (k ∷ ks) zero h = refl
get-map f d e (k ∷ ks) (suc i) h = get-map f d e ks i (omega arith)

-- a name that is not there after another was added was not there before
not-before : (ks : List Name) (n x : Name) → has_name x (ks ++ n ∷ []) ≡ false → has_name x ks ≡ false
not-before ks n x h = by_cases (cases_Bool (has_name x ks))
  where
    by_cases : (has_name x ks ≡ true) ⊎ (has_name x ks ≡ false) → has_name x ks ≡ false
    by_cases (inl e) = absurd (false≢true (sym h ∙ list_any-append (bytes_eq x) ks (n ∷ []) ∙ ap (λ b. b || (bytes_eq x n || false)) e))
    by_cases (inr e) = e

not-same : (ks : List Name) (n x : Name) → has_name n ks ≡ true → has_name x ks ≡ false → bytes_eq n x ≡ false
not-same ks n x h u = by_cases (cases_Bool (bytes_eq n x))
  where
    by_cases : (bytes_eq n x ≡ true) ⊎ (bytes_eq n x ≡ false) → bytes_eq n x ≡ false
    by_cases (inl e) = absurd (false≢true (sym u ∙ rw (same n x e) at h))
    by_cases (inr e) = e

-- ---- what was given to a node
pub stands-given : (ns : NodeList) (named : List Name) (gs : List Gift) (n : Name) → Stands ns named gs → has_name n ns.names ≡ true → get_or ns.given (place_of n ns.names) None ≡ given gs n
stands-given ns named gs n s h =
    rw (s.given_each, get-map (given gs) None [] ns.names (place_of n ns.names) (place-less n ns.names h), at-place n ns.names [] h) refl

-- ---- a node more
pub stands-node : (ns : NodeList) (named : List Name) (gs : List Gift) (n : Name) → Stands ns named gs → Stands (with_node ns n) (named ++ n ∷ []) gs
stands-node ns named gs n s = by_cases (cases_Bool (has_name n ns.names))
  where
    next : with_name ns.names n ≡ first_seen (named ++ n ∷ [])
    next = ap (λ ks. with_name ks n) s.names ∙ sym (first_seen-push named n)

    by_cases : (has_name n ns.names ≡ true) ⊎ (has_name n ns.names ≡ false) → Stands (with_node ns n) (named ++ n ∷ []) gs
    by_cases (inl e) = rw e (record { names = rw e at next; given_each = s.given_each; once = s.once; unseen = s.unseen })
    by_cases (inr e) =
        let names_are : ns.names ++ n ∷ [] ≡ first_seen (named ++ n ∷ []) = rw e at next in
        let values : ns.given ++ None ∷ [] ≡ map (given gs) (ns.names ++ n ∷ []) = rw (s.given_each, map-append (given gs) ns.names (n ∷ []), s.unseen n e) refl in
        let one_each : is_once (ns.names ++ n ∷ []) ≡ true = rw e at (once-with ns.names n s.once) in
        rw e (record { names = names_are; given_each = values; once = one_each; unseen = λ x h. s.unseen x (not-before ns.names n x h) })

-- ---- a gift more
pub stands-gift : (ns : NodeList) (named : List Name) (gs : List Gift) (n : Name) (cell : Cell Supply)
    → Stands ns named gs → has_name n ns.names ≡ true → is_other (given gs n) cell ≡ false → Stands (given_after ns (place_of n ns.names) cell) named (gs ++ gift n cell)
stands-gift ns named gs n Missing s h o = rw (append-nil gs) s
stands-gift ns named gs n Bad s h o = rw (append-nil gs) s
stands-gift ns named gs n (Is v) s h o = record { names = s.names; given_each = values; once = s.once; unseen = nothing }
  where
    at_node : given (gs ++ gift n (Is v)) n ≡ Some v
    at_node = rw (given-append gs (gift n (Is v)) n, eq-self n) (kept (given gs n) v o)

    at_others : (x : Name) → bytes_eq n x ≡ false → given (gs ++ gift n (Is v)) x ≡ given gs x
    at_others x d = rw (given-append gs (gift n (Is v)) x, differs-sym n x d) (or_else-None (given gs x))

    values : set ns.given (place_of n ns.names) (Some v) ≡ map (given (gs ++ gift n (Is v))) ns.names
    values = rw s.given_each (set-at (given gs) (given (gs ++ gift n (Is v))) n (Some v) ns.names s.once h at_node at_others)

    nothing : (x : Name) → has_name x ns.names ≡ false → given (gs ++ gift n (Is v)) x ≡ None
    nothing x u = at_others x (not-same ns.names n x h u) ∙ s.unseen x u

-- ---- what `name` answers
within : (n : Name) (ks : List Name) → length (with_name ks n) ≤ most_nodes → nat_lt most_nodes (length (with_name ks n)) ≡ false
within n ks h = grind (arith, h)

pub named-old : (r : Role) (old : NodeList) (n : Name) (i : ℕ) → bytes_eq n excess ≡ false → i ≡ place_of n old.names → length (with_name old.names n) ≤ most_nodes
    → i < length old.given → length old.given ≡ length old.names → IsNamed r old (Is n) (record { names = with_name old.names n; given = old.given }) i
named-old r old n i good is small below even =
    let there : has_name n old.names ≡ true = place-other n old.names (λ e. omega (arith, is, below, even, e)) in
    let stays : with_name old.names n ≡ old.names = rw there refl in
    let same_nodes : record { names = with_name old.names n; given = old.given } ≡ with_node old n = rw there refl in
    record { clear = rw (good, within n old.names small) refl; place = is; below = rw stays (omega (arith, below, even)); nodes = same_nodes }

pub named-new : (r : Role) (old : NodeList) (n : Name) (i : ℕ) → bytes_eq n excess ≡ false → i ≡ place_of n old.names → length (with_name old.names n) ≤ most_nodes
    → length old.given ≤ i → length old.given ≡ length old.names → IsNamed r old (Is n) (record { names = with_name old.names n; given = old.given ++ None ∷ [] }) i
named-new r old n i good is small below even = by_cases (cases_Bool (has_name n old.names))
  where
    by_cases : (has_name n old.names ≡ true) ⊎ (has_name n old.names ≡ false)
        → IsNamed r old (Is n) (record { names = with_name old.names n; given = old.given ++ None ∷ [] }) i
    by_cases (inl e) = absurd (omega (arith, place-less n old.names e, is, below, even))
    by_cases (inr e) =
        let added : with_name old.names n ≡ old.names ++ n ∷ [] = rw e refl in
        let longer : length (with_name old.names n) ≡ length old.names + 1 = rw added (length-append old.names (n ∷ [])) in
        let same_nodes : record { names = with_name old.names n; given = old.given ++ None ∷ [] } ≡ with_node old n = rw e refl in
        let at_most : place_of n old.names ≤ length old.names = prefix_len-le-length (λ m. not (bytes_eq n m)) old.names in
        record { clear = rw (good, within n old.names small) refl; place = is; below = omega (arith, at_most, is, longer); nodes = same_nodes }

-- ---- a name at its place
once-first : (k : Name) (ks : List Name) → is_once (k ∷ ks) ≡ true → has_name k ks ≡ false
unfolding is_once
once-first k ks o = by_cases (cases_Bool (has_name k ks))
  where
    by_cases : (has_name k ks ≡ true) ⊎ (has_name k ks ≡ false) → has_name k ks ≡ false
    by_cases (inl e) = absurd (false≢true (rw e at o))
    by_cases (inr e) = e

once-rest : (k : Name) (ks : List Name) → is_once (k ∷ ks) ≡ true → is_once ks ≡ true
unfolding is_once
once-rest k ks o = rw (once-first k ks o) at o

pub has-at : (ks : List Name) (i : ℕ) → i < length ks → has_name (get_or ks i []) ks ≡ true
has-at ks i below = list_any_at (bytes_eq (get_or ks i [])) ks i [] below (eq-self (get_or ks i []))

pub place-once : (ks : List Name) (i : ℕ) → is_once ks ≡ true → i < length ks → place_of (get_or ks i []) ks ≡ i
unfolding is_once
place-once [] i o below = absurd (omega (arith, below))
place-once (k ∷ ks) zero o below = rw (eq-self k) refl
place-once (k ∷ ks) (suc i) o below = by_cases (cases_Bool (bytes_eq (get_or ks i []) k)) (has-at ks i (omega (arith, below))) (place-once ks i (once-rest k ks o) (omega (arith, below)))
  where
    by_cases : (bytes_eq (get_or ks i []) k ≡ true) ⊎ (bytes_eq (get_or ks i []) k ≡ false) → has_name (get_or ks i []) ks ≡ true → place_of (get_or ks i []) ks ≡ i → place_of (get_or ks i []) (k ∷ ks) ≡ suc i
    by_cases (inl e) there rest =
        let is : get_or ks i [] ≡ k = same (get_or ks i []) k e in
        absurd (false≢true (sym (once-first k ks o) ∙ ap (λ n. has_name n ks) (sym is) ∙ there))
    by_cases (inr e) there rest = rw (e, rest) (omega arith)
