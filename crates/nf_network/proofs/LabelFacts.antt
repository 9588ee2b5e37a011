-- The labels as they are made, one after another.
use Rattle.std.proofs.Common.{◌≡◌, ◌<◌, ◌+◌, ◌++◌, ℕ, Bool, cond, List, [], ◌∷◌, Option, None, length, take, get_or, refl, sym, ap, ◌∙◌, append_assoc}
use Rattle.std.proofs.lemmas.List.{append-nil, map-append, take_more}
use Rattle.std.proofs.lemmas.List.Concat.{flat_map-append}
use Rattle.std.specs.List.{flat_map}
use Rattle.nf_labels.specs.Labels.{LabelList, NodeText, no_labels}
use Rattle.nf_table.specs.Grid.{Cells}
use Rattle.nf_cells.specs.Names.{Name}
use Rattle.nf_cells.specs.declared.values.Supply.{Supply}
use Rattle.nf_network.specs.declared.excess.Balance.{Balance}
use Rattle.nf_network.specs.Excess.{gets, joined_below, sends}
use Rattle.nf_network.specs.Faults.{excess}
use Rattle.nf_network.specs.Network.{cells_at, excess_names_at, node_text_at, supdem_text}
use Rattle.nf_network.proofs.Lists.{joined-more, joined-none}

-- ---- nodes
pub nodes-none : (l : LabelList) (names : List Name) (vs : List (Option Supply)) → l.nodes ≡ [] → l ≡ record l { nodes = joined_below 0 (node_text_at names vs) }
nodes-none l names vs h = ap (λ ns. record l { nodes = ns }) (h ∙ sym (joined-none (node_text_at names vs)))

pub nodes-more : (l b new : LabelList) (names : List Name) (vs : List (Option Supply)) (i : ℕ) (n : Name) (v : Option Supply) → b ≡ record l { nodes = joined_below i (node_text_at names vs) }
    → n ≡ get_or names i [] → v ≡ get_or vs i None → new ≡ record b { nodes = b.nodes ++ record { name = n; supdem = supdem_text v } ∷ [] }
    → new ≡ record l { nodes = joined_below (i + 1) (node_text_at names vs) }
nodes-more l b new names vs i n v hb hn hv e = rw (joined-more i (node_text_at names vs)) (e ∙ rw (hb, hn, hv) refl)

-- ---- excess arcs
pub columns-none : (l : LabelList) (f : ℕ → List Name) → l ≡ record l { columns = l.columns ++ joined_below 0 f }
columns-none l f = ap (λ cs. record l { columns = cs }) (sym (append-nil l.columns) ∙ ap (λ x. l.columns ++ x) (sym (joined-none f)))

pub columns-more : (l b one new : LabelList) (f : ℕ → List Name) (i : ℕ) (c d : List Name) → b ≡ record l { columns = l.columns ++ joined_below i f }
    → one ≡ record b { columns = b.columns ++ c } → new ≡ record one { columns = one.columns ++ d } → c ++ d ≡ f i → new ≡ record l { columns = l.columns ++ joined_below (i + 1) f }
columns-more l b one new f i c d hb ho hn hc =
    let lists : ((l.columns ++ joined_below i f) ++ c) ++ d ≡ l.columns ++ joined_below (i + 1) f =
    append_assoc (l.columns ++ joined_below i f) c d ∙ append_assoc l.columns (joined_below i f) (c ++ d)
    ∙ ap (λ x. l.columns ++ (joined_below i f ++ x)) hc ∙ ap (λ x. l.columns ++ x) (sym (joined-more i f)) in
    hn ∙ rw (ho, hb) (ap (λ cs. record l { columns = cs }) lists)

pub names-at : (b : Balance) (names : List Name) (vs : List (Option Supply)) (i : ℕ) (n : Name) (v : Option Supply) (s g : Bool) → n ≡ get_or names i [] → v ≡ get_or vs i None → s ≡ sends b v → g ≡ gets b v
    → (cond s ((n ++ 95 ∷ excess) ∷ []) [] ++ cond g ((excess ++ 95 ∷ n) ∷ []) []) ≡ excess_names_at b names vs i
names-at b names vs i n v s g en ev es eg = rw (es, eg, ev, en) refl

-- ---- ID columns
pub cells-more : (ids : List ℕ) (cells : Cells) (i x : ℕ) → i < length ids → x ≡ get_or ids i x → cells_at (take (i + 1) ids) cells ≡ cells_at (take i ids) cells ++ get_or cells x [] ∷ []
cells-more ids cells i x below is =
    let more : take (i + 1) ids ≡ take i ids ++ x ∷ [] = take_more ids i x below ∙ ap (λ y. take i ids ++ y ∷ []) (sym is) in
    rw more (map-append (λ c. get_or cells c []) (take i ids) (x ∷ []))

pub headers-more : (l b new : LabelList) (ids : List ℕ) (header : Cells) (i x : ℕ) (cell : List ℕ) → i < length ids → x ≡ get_or ids i x → cell ≡ get_or header x []
    → b ≡ record l { id_headers = cells_at (take i ids) header } → new ≡ record b { id_headers = b.id_headers ++ cell ∷ [] } → new ≡ record l { id_headers = cells_at (take (i + 1) ids) header }
headers-more l b new ids header i x cell below is hc hb e = rw (cells-more ids header i x below is) (e ∙ rw (hb, hc) refl)

pub row-more : (l b new : LabelList) (ids : List ℕ) (cells : Cells) (i x : ℕ) (cell : List ℕ) → i < length ids → x ≡ get_or ids i x → cell ≡ get_or cells x []
    → b ≡ record l { ids = l.ids ++ cells_at (take i ids) cells } → new ≡ record b { ids = b.ids ++ cell ∷ [] } → new ≡ record l { ids = l.ids ++ cells_at (take (i + 1) ids) cells }
row-more l b new ids cells i x cell below is hc hb e =
    rw (cells-more ids cells i x below is) (e ∙ rw (hb, hc) (ap (λ t. record l { ids = t }) (append_assoc l.ids (cells_at (take i ids) cells) (get_or cells x [] ∷ []))))

pub rows-more : (l b new : LabelList) (ids : List ℕ) (rows : List Cells) (i : ℕ) (cells : Cells) → i < length rows → cells ≡ get_or rows i []
    → b ≡ record l { ids = flat_map (cells_at ids) (take i rows) } → new ≡ record b { ids = b.ids ++ cells_at ids cells } → new ≡ record l { ids = flat_map (cells_at ids) (take (i + 1) rows) }
rows-more l b new ids rows i cells below is hb e =
    let more : take (i + 1) rows ≡ take i rows ++ get_or rows i [] ∷ [] = take_more rows i [] below in
    let joined : flat_map (cells_at ids) (take (i + 1) rows) ≡ flat_map (cells_at ids) (take i rows) ++ cells_at ids (get_or rows i []) =
    ap (flat_map (cells_at ids)) more ∙ flat_map-append (cells_at ids) (take i rows) (get_or rows i [] ∷ []) ∙ ap (λ x. flat_map (cells_at ids) (take i rows) ++ x) (append-nil (cells_at ids (get_or rows i []))) in
    rw joined (e ∙ rw (hb, is) refl)

-- ---- all of them
module _ (l n e a : LabelList) (arcs : List Name) (nodes more : List NodeText) (names : List Name)
    (of-arcs : l ≡ record no_labels { columns = arcs; own_arcs = length arcs }) (of-nodes : n ≡ record l { nodes = nodes }) (of-excess : e ≡ record n { nodes = n.nodes ++ more }) (of-columns : a ≡ record e { columns = e.columns ++ names }) where
  pub no-headers : a.id_headers ≡ []
  no-headers = ap (λ x. x.id_headers) of-columns ∙ ap (λ x. x.id_headers) of-excess ∙ ap (λ x. x.id_headers) of-nodes ∙ ap (λ x. x.id_headers) of-arcs

  module _ (h : LabelList) (headers : Cells) (of-headers : h ≡ record a { id_headers = headers }) where
    pub no-ids : h.ids ≡ []
    no-ids = ap (λ x. x.ids) of-headers ∙ ap (λ x. x.ids) of-columns ∙ ap (λ x. x.ids) of-excess ∙ ap (λ x. x.ids) of-nodes ∙ ap (λ x. x.ids) of-arcs

    pub all-made : (d : LabelList) (ids : Cells) → d ≡ record h { ids = ids }
        → d ≡ record { nodes = nodes ++ more; columns = arcs ++ names; own_arcs = length arcs; constraints = []; id_headers = headers; ids = ids }
    all-made d ids of-ids = of-ids ∙ rw (of-headers, of-columns, of-excess, of-nodes, of-arcs) refl
