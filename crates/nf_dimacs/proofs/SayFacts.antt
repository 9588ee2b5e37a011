-- What lines say when there is one more.
use Rattle.std.proofs.Common.{◌≡◌, ℕ, zero, suc, ◌-◌, ◌<◌, ◌≤◌, Bool, true, false, cond, not, List, [], ◌∷◌, ◌++◌, length, take, get_or, Option, None, Some, ℤ, pos, ◌+ℤ◌, unsigned_abs, replicate, refl, sym, ◌∙◌, ap, ap₂, subst, arith, map}
use Rattle.std.specs.List.{filter_map, fold, cons_option}
use Rattle.std.specs.Option.{option_or, is_some}
use Rattle.std.specs.Ordering.{int_eq}
use Rattle.std.specs.Prelude.{slice_set}
use Rattle.std.proofs.lemmas.List.{append-nil, take_all, length-replicate, get_or-replicate, length-set, get_or-set_same, get_or-set_other, map_push}
use Rattle.std.proofs.Math.Seq.{take-suc}
use Rattle.std.proofs.lemmas.List.Elements.{filter_map-append}
use Rattle.std.proofs.lemmas.List.Sums.{fold_push}
use Rattle.std.proofs.lemmas.Bool.Decides.{Decides-int_eq, nat_tests}
use Rattle.std.proofs.lemmas.Bool.{cases_eq}
use Rattle.std.proofs.lemmas.Int.{ints}
use Rattle.std.proofs.Common.{inl, inr}
use Rattle.nf_dimacs.specs.declared.fault.DimacsKind.TheVariants as kind
use Rattle.nf_dimacs.specs.declared.line.Line.{Line}
use Rattle.nf_dimacs.specs.declared.line.Line.TheVariants.{Problem, Node, Arc as ArcLine}
use Rattle.nf_dimacs.specs.declared.line.Size.{Size}
use Rattle.nf_dimacs.specs.declared.line.Supply.{Supply}
use Rattle.nf_dimacs.specs.declared.line.Arc.{Arc}
use Rattle.nf_dimacs.specs.Says.{size_in, supply_in, arc_in, first_of, size_of, supplies_of, arcs_of, flow_of, total_of}
use Rattle.nf_dimacs.specs.Faults.{node_fault, is_node, problem_fault, size_fault, most_nodes}
use Rattle.nf_dimacs.specs.Progress.{Say, given_at}
use Rattle.nf_dimacs.specs.Tables.{nodes_in, by_node}

module _ {A : Type 0} (pick : Line → Option A) (ls : List Line) (l : Line) where
  pub none-more : pick l ≡ None → filter_map pick (ls ++ l ∷ []) ≡ filter_map pick ls
  none-more e = filter_map-append pick ls (l ∷ []) ∙ ap (λ (o : Option A). filter_map pick ls ++ cons_option o []) e ∙ append-nil (filter_map pick ls)

  pub some-more : (x : A) → pick l ≡ Some x → filter_map pick (ls ++ l ∷ []) ≡ filter_map pick ls ++ x ∷ []
  some-more x e = filter_map-append pick ls (l ∷ []) ∙ ap (λ (o : Option A). filter_map pick ls ++ cons_option o []) e

pub no-first : {A : Type 0} (xs : List A) → None ≡ first_of xs → xs ≡ []
no-first [] e = refl
no-first (x ∷ xs) e = absurd cc

no-faults : (b c : Bool) → cond (not b) (Some kind.Node) (cond c (Some kind.RepeatedNode) None) ≡ None → (b ≡ true) × (c ≡ false)
no-faults true true e = absurd cc
no-faults true false e = (refl, refl)
no-faults false c e = absurd cc

is-none : {A : Type 0} (o : Option A) → is_some o ≡ false → o ≡ None
is-none None e = refl
is-none (Some x) e = absurd cc

-- the place of a node among those of a problem
pub place-of : (counts : Size) (node : ℤ) → is_node counts node ≡ true → (node ≡ pos (suc (unsigned_abs node - 1))) × (unsigned_abs node - 1 < unsigned_abs counts.nodes)
place-of counts node e = grind (arith, ints, nat_tests)

-- an `n` line without fault
pub record Fresh (size : Option Size) (given : ℤ → Option ℤ) (s : Supply) : Type 0 where
  pub node_is : s.node ≡ pos (suc (unsigned_abs s.node - 1))
  pub within : unsigned_abs s.node - 1 < nodes_in size
  pub none : given s.node ≡ None
  pub some : size ≡ None → ⊥

pub fresh : (size : Option Size) (given : ℤ → Option ℤ) (s : Supply) → node_fault size given (Some s) ≡ None → Fresh size given s
fresh None given s e = absurd cc
fresh (Some counts) given s e =
    let good = no-faults (is_node counts s.node) (is_some (given s.node)) e in
    let place = place-of counts s.node good.0 in
    record { node_is = place.0; within = place.1; none = is-none (given s.node) good.1; some = λ other. absurd cc }

-- the supply of a node with one more
pub flow-more : (ss : List Supply) (s : Supply) (node : ℤ) → flow_of (ss ++ s ∷ []) node ≡ option_or (flow_of ss node) (cond (int_eq s.node node) (Some s.flow) None)
flow-more [] s node = refl
flow-more (x ∷ ss) s node = by_cases (int_eq x.node node) (flow-more ss s node)
  where
    by_cases : (b : Bool) → flow_of (ss ++ s ∷ []) node ≡ option_or (flow_of ss node) (cond (int_eq s.node node) (Some s.flow) None)
        → cond b (Some x.flow) (flow_of (ss ++ s ∷ []) node) ≡ option_or (cond b (Some x.flow) (flow_of ss node)) (cond (int_eq s.node node) (Some s.flow) None)
    by_cases true e = refl
    by_cases false e = e

pub or-none : {A : Type 0} (o : Option A) → option_or o None ≡ o
or-none None = refl
or-none (Some x) = refl

pub total-more : (ss : List Supply) (s : Supply) → total_of (ss ++ s ∷ []) ≡ total_of ss +ℤ s.flow
total-more ss s = ap (fold ◌+ℤ◌ (pos 0)) (map_push (λ (x : Supply). x.flow) ss s) ∙ fold_push ◌+ℤ◌ (pos 0) (map (λ (x : Supply). x.flow) ss) s.flow

false-from : (b : Bool) → (b ≡ true → ⊥) → b ≡ false
false-from true never = absurd (never refl)
false-from false never = refl

pub differs : (z : ℤ) (place node : ℕ) → z ≡ pos (suc place) → (node ≡ place → ⊥) → int_eq z (pos (suc node)) ≡ false
differs z place node is other = false-from (int_eq z (pos (suc node))) (λ t. other (let e : pos (suc place) ≡ pos (suc node) = sym is ∙ (Decides-int_eq z (pos (suc node))).0 t in omega (arith, ints)))

-- the supplies by number with one more
module _ (supplies : List (Option ℤ)) (ss : List Supply) (given : (node : ℕ) → node < length supplies → get_or supplies node None ≡ flow_of ss (pos (suc node))) where
  given-more : (s : Supply) (place : ℕ) → s.node ≡ pos (suc place) → place < length supplies → get_or supplies place None ≡ None
      → (node : ℕ) → node < length supplies → get_or (slice_set supplies place (Some s.flow)) node None ≡ flow_of (ss ++ s ∷ []) (pos (suc node))
  given-more s place is inside none node within = elim (cases_eq node place) [ inl e ↦ here node e | inr e ↦ elsewhere e ]
    where
      before : flow_of ss (pos (suc place)) ≡ None
      before = sym (given place inside) ∙ none

      here : (node : ℕ) → node ≡ place → get_or (slice_set supplies place (Some s.flow)) node None ≡ flow_of (ss ++ s ∷ []) (pos (suc node))
      here node e =
          let same : int_eq s.node (pos (suc node)) ≡ true = (Decides-int_eq s.node (pos (suc node))).1 (is ∙ ap (λ n. pos (suc n)) (sym e)) in
          let none_here : flow_of ss (pos (suc node)) ≡ None = ap (λ n. flow_of ss (pos (suc n))) e ∙ before in
          ap (λ n. get_or (slice_set supplies place (Some s.flow)) n None) e
          ∙ get_or-set_same supplies place (Some s.flow) None inside
          ∙ ap₂ (λ (o : Option ℤ) (b : Bool). option_or o (cond b (Some s.flow) None)) (sym none_here) (sym same)
          ∙ sym (flow-more ss s (pos (suc node)))

      elsewhere : (node ≡ place → ⊥) → get_or (slice_set supplies place (Some s.flow)) node None ≡ flow_of (ss ++ s ∷ []) (pos (suc node))
      elsewhere e =
          let other : int_eq s.node (pos (suc node)) ≡ false = differs s.node place node is e in
          get_or-set_other supplies place node (Some s.flow) None e
          ∙ given node within
          ∙ sym (or-none (flow_of ss (pos (suc node))))
          ∙ ap (λ (b : Bool). option_or (flow_of ss (pos (suc node))) (cond b (Some s.flow) None)) (sym other)
          ∙ sym (flow-more ss s (pos (suc node)))

pub no-size : (size : Option Size) (counts : Option Size) → problem_fault size counts ≡ None → size ≡ None
no-size None counts e = refl
no-size (Some earlier) counts e = absurd cc

pub few-nodes : (counts : Size) → size_fault counts ≡ None → unsigned_abs counts.nodes ≤ most_nodes
few-nodes counts e = grind (arith, ints, nat_tests)

module _ (ls : List Line) (size : Option Size) (supplies : List (Option ℤ)) (arcs : List Arc) (total : ℤ) (say : Say ls size supplies arcs total) where
  pub say-nothing : (l : Line) → size_in l ≡ None → supply_in l ≡ None → arc_in l ≡ None → Say (ls ++ l ∷ []) size supplies arcs total
  say-nothing l no_size no_supply no_arc = record {
    size_is = say.size_is ∙ ap first_of (sym (none-more size_in ls l no_size));
    nodes = say.nodes;
    few = say.few;
    given = λ node within. say.given node within ∙ ap (λ (ss : List Supply). flow_of ss (pos (suc node))) (sym (none-more supply_in ls l no_supply));
    arcs_are = say.arcs_are ∙ sym (none-more arc_in ls l no_arc);
    total_is = say.total_is ∙ ap total_of (sym (none-more supply_in ls l no_supply));
    counts_first = λ none. none-more supply_in ls l no_supply ∙ say.counts_first none;
  }

  pub say-arc : (arc : Arc) → Say (ls ++ ArcLine (Some arc) ∷ []) size supplies (arcs ++ arc ∷ []) total
  say-arc arc =
      let l : Line = ArcLine (Some arc) in
      record {
        size_is = say.size_is ∙ ap first_of (sym (none-more size_in ls l refl));
        nodes = say.nodes;
        few = say.few;
        given = λ node within. say.given node within ∙ ap (λ (ss : List Supply). flow_of ss (pos (suc node))) (sym (none-more supply_in ls l refl));
        arcs_are = ap (λ (before : List Arc). before ++ arc ∷ []) say.arcs_are ∙ sym (some-more arc_in ls l arc refl);
        total_is = say.total_is ∙ ap total_of (sym (none-more supply_in ls l refl));
        counts_first = λ none. none-more supply_in ls l refl ∙ say.counts_first none;
      }

  pub say-size : (counts : Size) → problem_fault size (Some counts) ≡ None → Say (ls ++ Problem (Some counts) ∷ []) (Some counts) (replicate (unsigned_abs counts.nodes) None) arcs total
  say-size counts sound =
      let none : size ≡ None = no-size size (Some counts) sound in
      let counted : size_fault counts ≡ None = ap (λ (z : Option Size). problem_fault z (Some counts)) (sym none) ∙ sound in
      let l : Line = Problem (Some counts) in
      let no_sizes : filter_map size_in ls ≡ [] = no-first (filter_map size_in ls) (sym none ∙ say.size_is) in
      let no_supplies : supplies_of (ls ++ l ∷ []) ≡ [] = none-more supply_in ls l refl ∙ say.counts_first none in
      record {
        size_is = ap (λ (sizes : List Size). first_of (sizes ++ counts ∷ [])) (sym no_sizes) ∙ ap first_of (sym (some-more size_in ls l counts refl));
        nodes = length-replicate (unsigned_abs counts.nodes) None;
        few = omega (arith, few-nodes counts counted, length-replicate {A = Option ℤ} (unsigned_abs counts.nodes) None);
        given = λ node within.
            get_or-replicate (unsigned_abs counts.nodes) node None None (subst (λ n. node < n) (length-replicate {A = Option ℤ} (unsigned_abs counts.nodes) None) within)
            ∙ ap (λ (ss : List Supply). flow_of ss (pos (suc node))) (sym no_supplies);
        arcs_are = say.arcs_are ∙ sym (none-more arc_in ls l refl);
        total_is = say.total_is ∙ ap total_of (sym (none-more supply_in ls l refl));
        counts_first = λ other. absurd cc;
      }

  pub say-supply : (s : Supply) → node_fault size (given_at supplies) (Some s) ≡ None → Say (ls ++ Node (Some s) ∷ []) size (slice_set supplies (unsigned_abs s.node - 1) (Some s.flow)) arcs (total +ℤ s.flow)
  say-supply s no_fault =
      let l : Line = Node (Some s) in
      let new = fresh size (given_at supplies) s no_fault in
      let place : ℕ = unsigned_abs s.node - 1 in
      let long : length (slice_set supplies place (Some s.flow)) ≡ length supplies = length-set supplies place (Some s.flow) in
      let inside : place < length supplies = subst (λ n. place < n) (sym say.nodes) new.within in
      let more : supplies_of (ls ++ l ∷ []) ≡ supplies_of ls ++ s ∷ [] = some-more supply_in ls l s refl in
      record {
        size_is = say.size_is ∙ ap first_of (sym (none-more size_in ls l refl));
        nodes = long ∙ say.nodes;
        few = omega (arith, long, say.few);
        given = λ node within.
            given-more supplies (supplies_of ls) say.given s place new.node_is inside new.none node (subst (λ n. node < n) long within)
            ∙ ap (λ (ss : List Supply). flow_of ss (pos (suc node))) (sym more);
        arcs_are = say.arcs_are ∙ sym (none-more arc_in ls l refl);
        total_is = ap (λ t. t +ℤ s.flow) say.total_is ∙ sym (total-more (supplies_of ls) s) ∙ ap total_of (sym more);
        counts_first = λ none. absurd (new.some none);
      }

-- ---- the tables of what lines say
by-node-more : (ss : List Supply) (n : ℕ) → by_node ss (suc n) ≡ by_node ss n ++ flow_of ss (pos (suc n)) ∷ []
unfolding by_node
by-node-more ss n = refl

by-node-none : (ss : List Supply) → [] ≡ by_node ss 0
unfolding by_node
by-node-none ss = refl

-- a list that has the supply of each node is the list of the supplies by node
by-node-is : (ss : List Supply) (supplies : List (Option ℤ)) → ((node : ℕ) → node < length supplies → get_or supplies node None ≡ flow_of ss (pos (suc node)))
    → (n : ℕ) → n ≤ length supplies → take n supplies ≡ by_node ss n
by-node-is ss supplies given zero few = by-node-none ss
by-node-is ss supplies given (suc n) few =
    let within : n < length supplies = omega arith in
    take-suc supplies n None within
    ∙ ap₂ (λ (xs : List (Option ℤ)) (x : Option ℤ). xs ++ x ∷ []) (by-node-is ss supplies given n (omega arith)) (given n within)
    ∙ sym (by-node-more ss n)

pub all-supplies : (ls : List Line) (size : Option Size) (supplies : List (Option ℤ)) (arcs : List Arc) (total : ℤ) → Say ls size supplies arcs total
    → supplies ≡ by_node (supplies_of ls) (nodes_in (size_of ls))
all-supplies ls size supplies arcs total say =
    sym (take_all (length supplies) supplies (omega arith))
    ∙ by-node-is (supplies_of ls) supplies say.given (length supplies) (omega arith)
    ∙ ap (by_node (supplies_of ls)) (say.nodes ∙ ap nodes_in say.size_is)

pub few-arcs : (ls : List Line) → length (arcs_of ls) ≤ length ls
few-arcs [] = omega arith
few-arcs (l ∷ ls) = one_more (arc_in l) (few-arcs ls)
  where
    one_more : (o : Option Arc) → length (arcs_of ls) ≤ length ls → length (cons_option o (arcs_of ls)) ≤ suc (length ls)
    one_more None few = omega arith
    one_more (Some arc) few = omega arith
