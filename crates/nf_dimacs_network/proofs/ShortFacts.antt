-- The numbers that a text says have at most nine digits.
use Rattle.std.proofs.Common.{◌≡◌, ℕ, zero, suc, ◌+◌, ◌<◌, ◌≤◌, ◌^◌, ◌==◌, ◌&&◌, Bool, true, false, cond, nat_le, List, [], ◌∷◌, ◌++◌, length, map, Option, None, Some, ℤ, pos, negsuc, unsigned_abs, refl, sym, ◌∙◌, ap, subst, arith, codes}
use Rattle.std.specs.List.{filter_map, cons_option, AllByRecursion}
use Rattle.std.specs.Prelude.{neg_ℤ}
use Rattle.std.specs.Option.{option_map, option_and_then}
use Rattle.std.specs.Ordering.{int_eq}
use Rattle.std.specs.Str.{bytes_eq}
use Rattle.std.proofs.lemmas.Bool.Decides.{nat_tests}
use Rattle.std.proofs.lemmas.List.{length_push}
use Rattle.nf_frac.specs.Digits.{are_digits, decimal_value}
use Rattle.nf_frac.proofs.DigitFacts.{digits_short}
use Rattle.nf_dimacs.specs.declared.line.Line.{Line}
use Rattle.nf_dimacs.specs.declared.line.Line.TheVariants.{Skipped, Problem, Node, Arc as ArcLine, Bad}
use Rattle.nf_dimacs.specs.declared.line.Size.{Size}
use Rattle.nf_dimacs.specs.declared.line.Supply.{Supply}
use Rattle.nf_dimacs.specs.declared.line.Arc.{Arc}
use Rattle.nf_dimacs.specs.Lines.{fields_of}
use Rattle.nf_dimacs.specs.Numbers.{are_short_digits, magnitude_of, number_of}
use Rattle.nf_dimacs.specs.Says.{begins_with, is_letter, problem_line, node_line, arc_line, line_by, line_of, said, size_in, supply_in, arc_in, size_read, supply_read, arc_read, first_of, flow_of}
use Rattle.nf_dimacs.specs.Tables.{by_node, nodes_in, or_zero}
use Rattle.nf_dimacs_network.proofs.PlainFacts.{IsShort}
use Rattle.nf_dimacs_network.proofs.ListFacts.{all-push}

-- A number that is there has at most nine digits.
abbrev pub Shortly : Option ℤ → Type 0
Shortly o = (z : ℤ) → o ≡ Some z → IsShort z

module _ {A : Type 0} where
  same : (x y : A) → Some x ≡ Some y → x ≡ y
  same x y e = cc

magnitude-small : (ds : List ℕ) (n : ℕ) → magnitude_of ds ≡ Some n → n < 1_000_000_000
magnitude-small ds n e = by_cases (are_short_digits ds) refl e
  where
    by_cases : (b : Bool) → are_short_digits ds ≡ b → cond b (Some (decimal_value ds)) None ≡ Some n → n < 1_000_000_000
    by_cases true is some =
        let digits : are_digits ds ≡ true = grind (arith, nat_tests, is) in
        let few : length ds ≤ 9 = grind (arith, nat_tests, is) in
        let small : decimal_value ds < 10 ^ 9 = digits_short ds 9 digits few in
        let n_is : decimal_value ds ≡ n = same (decimal_value ds) n some in
        omega (arith, small, n_is)
    by_cases false is some = absurd cc

with-sign : (f : ℕ → ℤ) (o : Option ℕ) → ((n : ℕ) → unsigned_abs (f n) ≡ n) → ((n : ℕ) → o ≡ Some n → n < 1_000_000_000) → Shortly (option_map f o)
with-sign f None size small z e = absurd cc
with-sign f (Some n) size small z e =
    let z_is : f n ≡ z = same (f n) z e in
    record { few = subst (λ (y : ℤ). unsigned_abs y < 1_000_000_000) z_is (omega (arith, size n, small n refl)) }

size-neg : (n : ℕ) → unsigned_abs (neg_ℤ (pos n)) ≡ n
size-neg zero = refl
size-neg (suc n) = refl

pub number-short : (bs : List ℕ) → Shortly (number_of bs)
unfolding number_of
number-short [] z e = absurd cc
number-short (b ∷ bs) z e = by_cases (b == 45) e
  where
    by_cases : (c : Bool) → cond c (option_map (λ n. neg_ℤ (pos n)) (magnitude_of bs)) (option_map pos (magnitude_of (b ∷ bs))) ≡ Some z → IsShort z
    by_cases true some = with-sign (λ n. neg_ℤ (pos n)) (magnitude_of bs) size-neg (magnitude-small bs) z some
    by_cases false some = with-sign pos (magnitude_of (b ∷ bs)) (λ n. refl) (magnitude-small (b ∷ bs)) z some

-- ---- what a line says
pub record IsShortArc (a : Arc) : Type 0 where
  pub tail : IsShort a.tail
  pub head : IsShort a.head
  pub lower : IsShort a.lower
  pub capacity : IsShort a.capacity
  pub cost : IsShort a.cost

short-arc : (t h l u c : Option ℤ) → Shortly t → Shortly h → Shortly l → Shortly u → Shortly c → (a : Arc)
    → option_and_then (λ t. option_and_then (λ h. option_and_then (λ l. option_and_then (λ u. option_map (λ c. record { tail = t; head = h; lower = l; capacity = u; cost = c }) c) u) l) h) t ≡ Some a
    → IsShortArc a
short-arc None h l u c st sh sl su sc a e = absurd cc
short-arc (Some t) None l u c st sh sl su sc a e = absurd cc
short-arc (Some t) (Some h) None u c st sh sl su sc a e = absurd cc
short-arc (Some t) (Some h) (Some l) None c st sh sl su sc a e = absurd cc
short-arc (Some t) (Some h) (Some l) (Some u) None st sh sl su sc a e = absurd cc
short-arc (Some t) (Some h) (Some l) (Some u) (Some c) st sh sl su sc a e =
    subst IsShortArc (same (record { tail = t; head = h; lower = l; capacity = u; cost = c }) a e)
    (record { tail = st t refl; head = sh h refl; lower = sl l refl; capacity = su u refl; cost = sc c refl })

short-supply : (i f : Option ℤ) → Shortly f → (s : Supply) → option_and_then (λ i. option_map (λ f. record { node = i; flow = f }) f) i ≡ Some s → IsShort s.flow
short-supply None f sf s e = absurd cc
short-supply (Some i) None sf s e = absurd cc
short-supply (Some i) (Some f) sf s e = subst (λ (t : Supply). IsShort t.flow) (same (record { node = i; flow = f }) s e) (sf f refl)

short-size : (n a : Option ℤ) → Shortly n → (s : Size) → option_and_then (λ n. option_map (λ a. record { nodes = n; arcs = a }) a) n ≡ Some s → IsShort s.nodes
short-size None a sn s e = absurd cc
short-size (Some n) None sn s e = absurd cc
short-size (Some n) (Some a) sn s e = subst (λ (t : Size). IsShort t.nodes) (same (record { nodes = n; arcs = a }) s e) (sn n refl)

-- a line by its first field is one of three, or says nothing
record Says (l : Line) : Type 0 where
  arcs : (a : Arc) → arc_in l ≡ Some a → IsShortArc a
  supplies : (s : Supply) → supply_in l ≡ Some s → IsShort s.flow
  sizes : (s : Size) → size_in l ≡ Some s → IsShort s.nodes

skipped : Says Skipped
skipped = record { arcs = λ a e. absurd cc; supplies = λ s e. absurd cc; sizes = λ s e. absurd cc }

bad : Says Bad
bad = record { arcs = λ a e. absurd cc; supplies = λ s e. absurd cc; sizes = λ s e. absurd cc }

says-problem : (fs : List (List ℕ)) → Says (problem_line fs)
says-problem [] = bad
says-problem (a ∷ []) = bad
says-problem (a ∷ b ∷ []) = bad
says-problem (a ∷ b ∷ c ∷ []) = by_cases (bytes_eq a (codes "min"))
  where
    by_cases : (m : Bool) → Says (cond m (Problem (size_read b c)) Bad)
    by_cases true = record { arcs = λ a e. absurd cc; supplies = λ s e. absurd cc; sizes = short-size (number_of b) (number_of c) (number-short b) }
    by_cases false = bad
says-problem (a ∷ b ∷ c ∷ d ∷ fs) = bad

says-node : (fs : List (List ℕ)) → Says (node_line fs)
says-node [] = bad
says-node (a ∷ []) = bad
says-node (a ∷ b ∷ []) = record { arcs = λ a e. absurd cc; supplies = short-supply (number_of a) (number_of b) (number-short b); sizes = λ s e. absurd cc }
says-node (a ∷ b ∷ c ∷ fs) = bad

says-arc : (fs : List (List ℕ)) → Says (arc_line fs)
says-arc [] = bad
says-arc (a ∷ []) = bad
says-arc (a ∷ b ∷ []) = bad
says-arc (a ∷ b ∷ c ∷ []) = bad
says-arc (a ∷ b ∷ c ∷ d ∷ []) = bad
says-arc (a ∷ b ∷ c ∷ d ∷ e ∷ []) = record {
  arcs = short-arc (number_of a) (number_of b) (number_of c) (number_of d) (number_of e) (number-short a) (number-short b) (number-short c) (number-short d) (number-short e);
  supplies = λ s e. absurd cc;
  sizes = λ s e. absurd cc;
}
says-arc (a ∷ b ∷ c ∷ d ∷ e ∷ f ∷ fs) = bad

says-line : (fields : List (List ℕ)) → Says (line_of fields)
says-line [] = skipped
says-line (first ∷ fs) = by_cases (begins_with 99 first) (is_letter 112 first) (is_letter 110 first) (is_letter 97 first)
  where
    by_cases : (a b c d : Bool) → Says (cond a Skipped (cond b (problem_line fs) (cond c (node_line fs) (cond d (arc_line fs) Bad))))
    by_cases true b c d = skipped
    by_cases false true c d = says-problem fs
    by_cases false false true d = says-node fs
    by_cases false false false true = says-arc fs
    by_cases false false false false = bad

-- ---- what all lines say
all-picked : {A : Type 0} (pick : Line → Option A) (P : A → Type 0) → ((l : Line) → Says l → (x : A) → pick l ≡ Some x → P x)
    → (lines : List (List ℕ)) → AllByRecursion P (filter_map pick (map said lines))
all-picked pick P f [] = tt
all-picked {A} pick P f (line ∷ lines) = one (pick (said line)) (f (said line) (says-line (fields_of line))) (all-picked pick P f lines)
  where
    one : (o : Option A) → ((x : A) → o ≡ Some x → P x) → AllByRecursion P (filter_map pick (map said lines)) → AllByRecursion P (cons_option o (filter_map pick (map said lines)))
    one None g rest = rest
    one (Some x) g rest = (g x refl, rest)

pub arcs-short : (lines : List (List ℕ)) → AllByRecursion IsShortArc (filter_map arc_in (map said lines))
arcs-short = all-picked arc_in IsShortArc (λ l s. s.arcs)

pub supplies-short : (lines : List (List ℕ)) → AllByRecursion (λ (s : Supply). IsShort s.flow) (filter_map supply_in (map said lines))
supplies-short = all-picked supply_in (λ (s : Supply). IsShort s.flow) (λ l s. s.supplies)

sizes-short : (lines : List (List ℕ)) → AllByRecursion (λ (s : Size). IsShort s.nodes) (filter_map size_in (map said lines))
sizes-short = all-picked size_in (λ (s : Size). IsShort s.nodes) (λ l s. s.sizes)

few-of : (sizes : List Size) → AllByRecursion (λ (s : Size). IsShort s.nodes) sizes → nodes_in (first_of sizes) < 1_000_000_000
few-of [] all = omega arith
few-of (s ∷ sizes) all = all.0.few

pub few-nodes : (lines : List (List ℕ)) → nodes_in (first_of (filter_map size_in (map said lines))) < 1_000_000_000
few-nodes lines = few-of (filter_map size_in (map said lines)) (sizes-short lines)

-- ---- what the nodes are given
given-short : (ss : List Supply) → AllByRecursion (λ (s : Supply). IsShort s.flow) ss → (node : ℤ) → IsShort (or_zero (flow_of ss node))
given-short [] all node = record { few = omega arith }
given-short (s ∷ ss) all node = by_cases (int_eq s.node node) (given-short ss all.1 node)
  where
    by_cases : (b : Bool) → IsShort (or_zero (flow_of ss node)) → IsShort (or_zero (cond b (Some s.flow) (flow_of ss node)))
    by_cases true rest = all.0
    by_cases false rest = rest

pub by-node-short : (ss : List Supply) → AllByRecursion (λ (s : Supply). IsShort s.flow) ss → (n : ℕ) → AllByRecursion (λ (o : Option ℤ). IsShort (or_zero o)) (by_node ss n)
unfolding by_node
by-node-short ss all zero = tt
by-node-short ss all (suc n) = all-push (λ (o : Option ℤ). IsShort (or_zero o)) (by_node ss n) (flow_of ss (pos (suc n))) (by-node-short ss all n) (given-short ss all (pos (suc n)))

pub length-by-node : (ss : List Supply) (n : ℕ) → length (by_node ss n) ≡ n
unfolding by_node
length-by-node ss zero = refl
length-by-node ss (suc n) = length_push (by_node ss n) (flow_of ss (pos (suc n))) ∙ (let e : length (by_node ss n) + 1 ≡ suc n = omega (arith, length-by-node ss n) in e)
