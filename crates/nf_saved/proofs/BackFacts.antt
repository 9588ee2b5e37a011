-- What is read is a session: its state fits, and so does what it carries.
use Rattle.std.proofs.Common.{◌≡◌, ◌≢◌, ◌∙◌, ◌<◌, ◌≤◌, ◌-◌, ◌+◌, ◌==◌, ◌∷◌, ◌⊎◌, inl, inr, ℕ, zero, suc, Bool, true, false, not, List, [], length, get_or, take, Option, Some, None, Result, Ok, refl, ap, sym, subst, arith, decimal, lt-ltb, le-ltb}
use Rattle.std.specs.Prelude.{codes, nat_lt, nat_le, slice_get, ◌&&◌, if◌then◌else◌}
use Rattle.std.specs.List.{list_any}
use Rattle.std.specs.Str.{bytes_eq}
use Rattle.std.proofs.lemmas.Bool.{cases_Bool, cases_lt, eq-eqb}
use Rattle.std.proofs.lemmas.Bool.Decides.{nat_tests}
use Rattle.std.proofs.lemmas.List.{length-map}
use Rattle.nf_frac.specs.Digits.{decimal_value}
use Rattle.nf_num.specs.Rational.{ℚ, zero_ℚ}
use Rattle.nf_model.specs.declared.RowKind.{RowKind}
use Rattle.nf_model.specs.declared.RowKind.TheVariants.{Eq, Le, Ge}
use Rattle.nf_model.specs.Program.{LinearProgram, row}
use Rattle.nf_model.specs.Problem.{IsProblem}
use Rattle.nf_simplex.specs.Place as model
use Rattle.nf_simplex.specs.Layout.{layout_of}
use Rattle.nf_simplex.specs.Columns.{Col, Given, Slack, Artificial, all_columns, number_of}
use Rattle.nf_simplex.specs.StageOf.{StageNumber, StageOne, StageTwo, HasStageTwo, IsPresent, rows_in}
use Rattle.nf_simplex.specs.Standing.{Standing, MayStandIn, column_in, lower_in, upper_in, place_at, FitsAt, IsStateOf}
use Rattle.nf_simplex.proofs.StageOf.{by_columns, column_given, column_slack}
use Rattle.nf_simplex.proofs.Numbered.{number_col}
use Rattle.nf_simplex.proofs.Standings.{may_not_absent}
use Rattle.nf_basis.specs.declared.col.Place.{Place}
use Rattle.nf_basis.specs.declared.col.Place.TheVariants.{Lower, Upper, Zero, Basic, Absent}
use Rattle.nf_basis.specs.Names.{place_of}
use Rattle.nf_program.specs.declared.program.SessionOptions.{SessionOptions}
use Rattle.nf_print.specs.declared.status.Last.{Last}
use Rattle.nf_print.specs.declared.status.Last.TheVariants as last
use Rattle.nf_saved.specs.declared.fault.SavedArtificial.{SavedArtificial}
use Rattle.nf_saved.specs.declared.fault.SavedFault.{SavedFault}
use Rattle.nf_saved.specs.declared.fault.SavedSet.{SavedSet}
use Rattle.nf_saved.specs.declared.fault.SavedSet.TheVariants as set
use Rattle.nf_saved.specs.Session.{CanBeWritten, FitsState, Session, count_entering, session_of}
use Rattle.nf_saved.specs.Values.{count_from, last_said, most_count, most_two, stage_said}
use Rattle.nf_saved.specs.Statuses.{StatusRow, column_place, given_may, has_slack, if_allowed, is_absent, is_missing, is_there, may_stand, row_place, side_place, slack_may}
use Rattle.nf_saved.specs.Rows.{Head, Recorded, SavedRow, artificial_read, artificials_read, enters_in, has_two, head_read, if_end, if_member, member_read, member_said, options_read, or_bad, pair_read, queue_read, recorded, row_read, said_in, sizes_read, value_in, two_to_come}
use Rattle.nf_saved.specs.Reading.{artificial_place, columns_read, given_read, if_counted, no_row, or_unfit, places_read, rows_read, session_read, slack_read, slacks_read, standing_read}
use Rattle.nf_saved.specs.Saved.{IsReadSession, ReadAreSessions, ReadAreStates}
use Rattle.nf_saved.proofs.EachFacts.{AreRead, err-ok, from-each, in-both, ok-same}
use Rattle.nf_saved.proofs.PlaceFacts.{less-of, not-less}
use Rattle.nf_saved.proofs.ColumnFacts.{all-places, few-rows, no_artificial, place-artificial, place-given, place-lacked, place-slack, stands-at}

-- ---- answers that are no faults
from-count : {A : Type 0} (n m : ℕ) (from : SavedSet) (next : Result A SavedFault) (r : A) → if_counted n m from next ≡ Ok r → (n ≡ m) × (next ≡ Ok r)
unfolding if_counted
from-count n m from next r e = of (cases_Bool (n == m))
  where
    of : ((n == m) ≡ true) ⊎ ((n == m) ≡ false) → (n ≡ m) × (next ≡ Ok r)
    of (inl t) = (grind (arith, nat_tests, t), rw t at e)
    of (inr f) = absurd (err-ok _ r (rw f at e))

some-same : {A : Type 0} (d x y : A) → Some x ≡ Some y → x ≡ y
some-same {A = A} d x y e = ap (λ (o : Option A). elim o as (λ _. A) [ None ↦ d | Some z ↦ z ]) e

from-bad : {A : Type 0} (k : ℕ) (o : Option A) (r : A) → or_bad k o ≡ Ok r → o ≡ Some r
unfolding or_bad
from-bad k None r e = absurd (err-ok _ r e)
from-bad k (Some x) r e = ap Some (ok-same x r (Ok x) refl e)

from-unfit : (from : SavedSet) (k : ℕ) (o : Option Place) (r : Place) → or_unfit from k o ≡ Ok r → o ≡ Some r
unfolding or_unfit
from-unfit from k None r e = absurd (err-ok _ r e)
from-unfit from k (Some x) r e = ap Some (ok-same x r (Ok x) refl e)

-- The value of a row that says x.
from-said : {A : Type 0} (o : Option SavedRow) (key : List ℕ) (n : ℕ) (says : List ℕ → Option A) (x : A) → said_in o key n says ≡ Some x → (v : List ℕ) × (says v ≡ Some x)
unfolding value_in
from-said None key n says x e = absurd (let z : None ≡ Some x = e in cc)
from-said (Some r) key n says x e = of (cases_Bool (bytes_eq r.key key && bytes_eq r.number (decimal n)))
  where
    of : ((bytes_eq r.key key && bytes_eq r.number (decimal n)) ≡ true) ⊎ ((bytes_eq r.key key && bytes_eq r.number (decimal n)) ≡ false) → (v : List ℕ) × (says v ≡ Some x)
    of (inl t) = (r.value, rw t at e)
    of (inr f) = absurd (let z : None ≡ Some x = (rw f at e) in cc)

pub from-row : {A : Type 0} (rows : List SavedRow) (k : ℕ) (key : List ℕ) (n : ℕ) (says : List ℕ → Option A) (x : A) → row_read rows k key n says ≡ Ok x → (v : List ℕ) × (says v ≡ Some x)
from-row rows k key n says x e = from-said (slice_get rows k) key n says x (from-bad k (said_in (slice_get rows k) key n says) x e)

-- Both values of a pair.
abbrev Pair : {A : Type 0} → (List ℕ → Option A) → A × A → Type 0
Pair says x = (v w : List ℕ) × (says v ≡ Some x.0) × (says w ≡ Some x.1)

from-pair : {A : Type 0} (rows : List SavedRow) (k : ℕ) (key : List ℕ) (says : List ℕ → Option A) (x : A × A) → pair_read rows k key says ≡ Ok x → Pair says x
unfolding pair_read
from-pair rows k key says x e =
    in-both (row_read rows k key 1 says) _ x e (λ a h r. in-both (row_read rows (suc k) key 2 says) _ x r (λ b g q.
    subst (Pair says) (ok-same (a, b) x (Ok (a, b)) refl q) ((from-row rows k key 1 says a h).0, (from-row rows (suc k) key 2 says b g).0, (from-row rows k key 1 says a h).1, (from-row rows (suc k) key 2 says b g).1)))

-- ---- values
from-test : {A : Type 0} (b : Bool) (v x : A) → (if b then Some v else None) ≡ Some x → (b ≡ true) × (v ≡ x)
from-test true v x e = (refl, some-same v v x e)
from-test false v x e = absurd (let z : None ≡ Some x = e in cc)

both : (a b : Bool) → (a && b) ≡ true → (a ≡ true) × (b ≡ true)
both true true e = (refl, refl)
both true false e = absurd (let z : false ≡ true = e in cc)
both false b e = absurd (let z : false ≡ true = e in cc)

at-most : (n m : ℕ) → nat_le n m ≡ true → n ≤ m
at-most n m t = grind (arith, nat_tests, t)

from-counted : (least most : ℕ) (v : List ℕ) (n : ℕ) → count_from least most v ≡ Some n → (least ≤ n) × (n ≤ most)
unfolding count_from
from-counted least most v n e =
    let t = from-test _ (decimal_value v) n e in
    let b = both _ _ (both _ _ t.0).1 in
    (subst (λ k. least ≤ k) t.1 (at-most least (decimal_value v) b.0), subst (λ k. k ≤ most) t.1 (at-most (decimal_value v) most b.1))

from-two : (p : LinearProgram) → has_two p ≡ true → HasStageTwo (layout_of p)
from-two p e = of (cases_Bool (nat_lt 0 (layout_of p).sides))
  where
    of : (nat_lt 0 (layout_of p).sides ≡ true) ⊎ (nat_lt 0 (layout_of p).sides ≡ false) → HasStageTwo (layout_of p)
    of (inl t) = inl (less-of 0 (layout_of p).sides t)
    of (inr f) = inr (less-of p.arcs (length p.columns) (rw f at e))

from-stage : (two : Bool) (v : List ℕ) → stage_said two v ≡ Some StageTwo → two ≡ true
unfolding stage_said
from-stage two v e = of (cases_Bool (bytes_eq v (codes "1")))
  where
    of : (bytes_eq v (codes "1") ≡ true) ⊎ (bytes_eq v (codes "1") ≡ false) → two ≡ true
    of (inl t) = absurd (let z : Some StageOne ≡ Some StageTwo = (rw t at e) in let y : StageOne ≡ StageTwo = some-same StageOne StageOne StageTwo z in cc)
    of (inr f) = (both _ _ (from-test (bytes_eq v (codes "2") && two) StageTwo StageTwo (rw f at e)).0).1

skip : {A : Type 0} (b : Bool) (x y : A) (rest : Option A) → x ≢ y → (if b then Some x else rest) ≡ Some y → rest ≡ Some y
skip true x y rest n e = absurd (n (some-same x x y e))
skip false x y rest n e = e

from-last : (to_come : Bool) (v : List ℕ) → last_said to_come v ≡ Some last.StageOne → to_come ≡ true
unfolding last_said
from-last to_come v e =
    let a = skip (bytes_eq v (codes "NONE")) last.Unset last.StageOne _ (λ z. cc) e in
    let b = skip (bytes_eq v (codes "OPTIMAL")) last.Optimal last.StageOne _ (λ z. cc) a in
    let c = skip (bytes_eq v (codes "INFEASIBLE")) last.Infeasible last.StageOne _ (λ z. cc) b in
    let d = skip (bytes_eq v (codes "UNBOUNDED")) last.Unbounded last.StageOne _ (λ z. cc) c in
    let f = skip (bytes_eq v (codes "LIMIT")) last.Limit last.StageOne _ (λ z. cc) d in
    let g = skip (bytes_eq v (codes "PAUSE")) last.Pause last.StageOne _ (λ z. cc) f in
    let h = skip (bytes_eq v (codes "FEASIBLE")) last.Feasible last.StageOne _ (λ z. cc) g in
    of (cases_Bool (to_come && bytes_eq v (codes "STAGEONE"))) h
  where
    of : ((to_come && bytes_eq v (codes "STAGEONE")) ≡ true) ⊎ ((to_come && bytes_eq v (codes "STAGEONE")) ≡ false)
        → (if to_come && bytes_eq v (codes "STAGEONE") then Some last.StageOne else if bytes_eq v (codes "PIVOT") then Some last.Pivot else None) ≡ Some last.StageOne → to_come ≡ true
    of (inl t) h = (both _ _ t).0
    of (inr f) h = absurd (let z : None ≡ Some last.StageOne = skip (bytes_eq v (codes "PIVOT")) last.Pivot last.StageOne None (λ z. cc) (rw f at h) in cc)

-- ---- the options
written : (o : SessionOptions) → Pair (count_from 0 most_count) (o.maxit1, o.maxit2) → Pair (count_from 0 most_count) (o.pause1, o.pause2) → (1 ≤ o.queuesize1) × (o.queuesize1 ≤ 999) → (1 ≤ o.queuesize2) × (o.queuesize2 ≤ 999) → CanBeWritten o
written o m q s t =
    let a = (from-counted 0 most_count m.0 o.maxit1 m.2).1 in
    let b = (from-counted 0 most_count m.1 o.maxit2 m.3).1 in
    let c = (from-counted 0 most_count q.0 o.pause1 q.2).1 in
    let d = (from-counted 0 most_count q.1 o.pause2 q.3).1 in
    record { maxit1 = omega (arith, a); maxit2 = omega (arith, b); pause1 = omega (arith, c); pause2 = omega (arith, d); some1 = s.0; some2 = t.0; size1 = let l = s.1 in omega (arith, l); size2 = let l = t.1 in omega (arith, l) }

abbrev AreSizes : ℕ × ℕ → Type 0
AreSizes x = ((1 ≤ x.0) × (x.0 ≤ 999)) × ((1 ≤ x.1) × (x.1 ≤ 999))

from-sizes : (queued : Bool) (rows : List SavedRow) (x : ℕ × ℕ) → sizes_read queued rows ≡ Ok x → AreSizes x
unfolding sizes_read
from-sizes true rows x e = let h = from-pair rows 17 (codes "QUEUESIZE") (count_from 1 999) x e in (from-counted 1 999 h.0 x.0 h.2, from-counted 1 999 h.1 x.1 h.3)
from-sizes false rows x e = subst AreSizes (ok-same (10, 10) x (Ok (10, 10)) refl e) ((omega arith, omega arith), (omega arith, omega arith))

from-options : (queued : Bool) (rows : List SavedRow) (o : SessionOptions) → options_read queued rows ≡ Ok o → CanBeWritten o
unfolding options_read
from-options queued rows o e =
    in-both _ _ o e (λ maxit h e0.
    in-both _ _ o e0 (λ pause g e1.
    in-both _ _ o e1 (λ feasible _ e2.
    in-both _ _ o e2 (λ endpause _ e3.
    in-both _ _ o e3 (λ future _ e4.
    in-both _ _ o e4 (λ pricetype _ e5.
    in-both _ _ o e5 (λ sizes s e6.
    subst CanBeWritten (ok-same _ o (Ok _) refl e6)
    (written (record {
      maxit1 = maxit.0;
      maxit2 = maxit.1;
      pause1 = pause.0;
      pause2 = pause.1;
      feasiblepause1 = feasible.0;
      feasiblepause2 = feasible.1;
      endpause1 = endpause;
      future1 = future.0;
      future2 = future.1;
      pricetype1 = pricetype.0;
      pricetype2 = pricetype.1;
      queuesize1 = sizes.0;
      queuesize2 = sizes.1;
    }) (from-pair rows 6 (codes "MAXIT") (count_from 0 most_count) maxit h) (from-pair rows 8 (codes "PAUSE") (count_from 0 most_count) pause g) (from-sizes queued rows sizes s).0 (from-sizes queued rows sizes s).1))))))))

-- ---- the head
pub record HeadIsRead (p : LinearProgram) (h : Head) : Type 0 where
  pub has_stage : h.stage ≡ StageTwo → HasStageTwo (layout_of p)
  pub none_yet : h.stage ≡ StageOne → h.counts.two ≡ 0
  pub cursor : h.cursor ≤ count_entering p
  pub between : h.last ≡ last.StageOne → two_to_come p h.stage ≡ true

zero-in-one : (n : StageNumber) (k : ℕ) → k ≤ most_two n → n ≡ StageOne → k ≡ 0
zero-in-one StageOne k h e = omega (arith, h)
zero-in-one StageTwo k h e = absurd (let z : StageTwo ≡ StageOne = e in cc)

two-when : (p : LinearProgram) (v : List ℕ) (n : StageNumber) → stage_said (has_two p) v ≡ Some n → n ≡ StageTwo → HasStageTwo (layout_of p)
two-when p v n e z = from-two p (from-stage (has_two p) v (subst (λ m. stage_said (has_two p) v ≡ Some m) z e))

comes-when : (to_come : Bool) (v : List ℕ) (l : Last) → last_said to_come v ≡ Some l → l ≡ last.StageOne → to_come ≡ true
comes-when to_come v l e z = from-last to_come v (subst (λ m. last_said to_come v ≡ Some m) z e)

from-head : (p : LinearProgram) (rows : List SavedRow) (h : Head) → head_read p rows ≡ Ok h → HeadIsRead p h
unfolding head_read
from-head p rows h e =
    in-both _ _ h e (λ stage s0 e0.
    in-both _ _ h e0 (λ one s1 e1.
    in-both _ _ h e1 (λ two s2 e2.
    in-both _ _ h e2 (λ cursor s3 e3.
    in-both _ _ h e3 (λ ending s4 e4.
    subst (HeadIsRead p) (ok-same _ h (Ok _) refl e4) record {
      has_stage = two-when p _ stage (from-row rows 1 _ 1 _ stage s0).1;
      none_yet = zero-in-one stage two (from-counted 0 (most_two stage) _ two (from-row rows 3 _ 2 _ two s2).1).1;
      cursor = (from-counted 0 (count_entering p) _ cursor (from-row rows 4 _ 1 _ cursor s3).1).1;
      between = comes-when (two_to_come p stage) _ ending (from-row rows 5 _ 1 _ ending s4).1;
    })))))

-- ---- the queue
pub record QueueIsRead (p : LinearProgram) (stage : StageNumber) (q : List ℕ) : Type 0 where
  pub counted : (k : ℕ) → k < length q → 0 < get_or q k 0
  pub within : (k : ℕ) → k < length q → get_or q k 0 ≤ count_entering p
  pub enters : (k : ℕ) → k < length q → enters_in p stage (get_or q k 0 - 1) ≡ true
  pub once : (i k : ℕ) → i < k → k < length q → get_or q i 0 ≢ get_or q k 0
  pub short : length q < 1000

pub record IsMember (p : LinearProgram) (stage : StageNumber) (before : List ℕ) (n : ℕ) : Type 0 where
  pub counted : 0 < n
  pub within : n ≤ count_entering p
  pub enters : enters_in p stage (n - 1) ≡ true
  pub new : list_any (λ m. m == n) before ≡ false

not-true : (b : Bool) → not b ≡ true → b ≡ false
not-true true e = absurd (let z : false ≡ true = e in cc)
not-true false e = refl

from-if-member : (p : LinearProgram) (stage : StageNumber) (before : List ℕ) (o : Option ℕ) (n : ℕ) → if_member p stage before o ≡ Some n → (o ≡ Some n) × (enters_in p stage (n - 1) ≡ true) × (list_any (λ m. m == n) before ≡ false)
from-if-member p stage before None n e = absurd (let z : None ≡ Some n = e in cc)
from-if-member p stage before (Some m) n e =
    let t = from-test _ m n e in
    let b = both (enters_in p stage (m - 1)) (not (list_any (λ z. z == m) before)) t.0 in
    (ap Some t.1, subst (λ k. enters_in p stage (k - 1) ≡ true) t.1 b.0, subst (λ k. list_any (λ m. m == k) before ≡ false) t.1 (not-true _ b.1))

pub from-member : (p : LinearProgram) (stage : StageNumber) (before v : List ℕ) (n : ℕ) → member_said p stage before v ≡ Some n → IsMember p stage before n
unfolding member_said
from-member p stage before v n e =
    let m = from-if-member p stage before (count_from 1 (count_entering p) v) n e in
    let c = from-counted 1 (count_entering p) v n m.0 in
    record { counted = c.0; within = c.1; enters = m.1; new = m.2 }

not-among : (n : ℕ) (xs : List ℕ) → list_any (λ m. m == n) xs ≡ false → (i : ℕ) → i < length xs → get_or xs i 0 ≢ n
not-among n [] h i b e = absurd (omega (arith, b))
not-among n (x ∷ xs) h i b e = of (cases_Bool (x == n)) i b e (λ j c g. not-among n xs g j c)
  where
    of : ((x == n) ≡ true) ⊎ ((x == n) ≡ false) → (i : ℕ) → i < length (x ∷ xs) → get_or (x ∷ xs) i 0 ≡ n → ((j : ℕ) → j < length xs → list_any (λ m. m == n) xs ≡ false → get_or xs j 0 ≢ n) → ⊥
    of (inl t) i b e again = let z : true ≡ false = (rw t at h) in cc
    of (inr f) zero b e again = let z : true ≡ false = sym (eq-eqb x n e) ∙ f in cc
    of (inr f) (suc i) b e again = again i (omega (arith, b)) (rw f at h) e

get-taken : (j : ℕ) (js : List ℕ) (i : ℕ) → i < j → get_or (take j js) i 0 ≡ get_or js i 0
get-taken zero js i h = absurd (omega (arith, h))
get-taken (suc j) [] i h = refl
get-taken (suc j) (x ∷ js) zero h = refl
get-taken (suc j) (x ∷ js) (suc i) h = get-taken j js i (omega (arith, h))

taken-many : (j : ℕ) (js : List ℕ) → j ≤ length js → length (take j js) ≡ j
taken-many zero js h = refl
taken-many (suc j) [] h = absurd (omega (arith, h))
taken-many (suc j) (x ∷ js) h = ap suc (taken-many j js (omega (arith, h)))

members-are : (p : LinearProgram) (stage : StageNumber) (rows : List SavedRow) (n : ℕ) (q : List ℕ) → n ≤ 999 → AreRead (member_read p stage rows) 0 n 0 [] q → QueueIsRead p stage q
members-are p stage rows n q few r = record {
  counted = λ k b. (one k b).counted;
  within = λ k b. (one k b).within;
  enters = λ k b. (one k b).enters;
  once = λ i k l b e. not-among (get_or q k 0) (take k q) (one k b).new i (subst (λ m. i < m) (sym (taken-many k q (omega (arith, b)))) l) (get-taken k q i l ∙ e);
  short = let m = r.many in omega (arith, m, few);
}
  where
    one : (k : ℕ) → k < length q → IsMember p stage (take k q) (get_or q k 0)
    one k b =
        let h = r.each k (let m = r.many in omega (arith, b, m)) in
        let s = from-row rows (20 + (0 + k)) (codes "QUEUE") (suc (0 + k)) (member_said p stage (take k q)) (get_or q k 0) h in
        from-member p stage (take k q) s.0 (get_or q k 0) s.1

none-are : (p : LinearProgram) (stage : StageNumber) → QueueIsRead p stage []
none-are p stage = record { counted = λ k b. absurd (omega (arith, b)); within = λ k b. absurd (omega (arith, b)); enters = λ k b. absurd (omega (arith, b)); once = λ i k l b. absurd (omega (arith, b)); short = omega arith }

from-queue : (p : LinearProgram) (queued : Bool) (stage : StageNumber) (rows : List SavedRow) (q : List ℕ) → queue_read p queued stage rows ≡ Ok q → QueueIsRead p stage q
unfolding queue_read
from-queue p true stage rows q e =
    in-both _ _ q e (λ n s r.
    let c = from-counted 0 999 _ n (from-row rows 19 _ 1 _ n s).1 in
    let w = from-each (member_read p stage rows) 0 n 0 [] q r in
    members-are p stage rows n q c.1 (subst (AreRead (member_read p stage rows) 0 n 0 []) (sym w.1) w.2))
from-queue p false stage rows q e = subst (QueueIsRead p stage) (ok-same [] q (Ok []) refl e) (none-are p stage)

-- ---- the artificials
from-end : {A : Type 0} (k : ℕ) (o : Option SavedRow) (x r : A) → if_end k o x ≡ Ok r → x ≡ r
from-end k None x r e = ok-same x r (Ok x) refl e
from-end k (Some y) x r e = absurd (err-ok _ r e)

from-artificials : (rows : List SavedRow) (k n : ℕ) (q : List SavedArtificial) → artificials_read rows k n ≡ Ok q → length q ≡ n
unfolding artificials_read
from-artificials rows k n q e =
    in-both _ _ q e (λ a s r.
    let w = from-each (artificial_read rows k) no_artificial n 0 [] a s in
    ap length (sym (from-end (k + n) _ a q r) ∙ w.1) ∙ w.2.many)

-- ---- the rows
pub record RecordIsRead (p : LinearProgram) (r : Recorded) : Type 0 where
  pub head : HeadIsRead p (record { stage = r.stage; counts = r.carried.counts; cursor = r.carried.pricing.cursor; last = r.carried.last })
  pub queue : QueueIsRead p r.stage r.carried.pricing.queue
  pub options : CanBeWritten r.carried.options
  pub many : length r.artificials ≡ rows_in (layout_of p) r.stage

from-record : (p : LinearProgram) (rows : List SavedRow) (r : Recorded) → recorded p rows ≡ Ok r → RecordIsRead p r
unfolding recorded
from-record p rows r e =
    in-both _ _ r e (λ queued _ e0.
    in-both _ _ r e0 (λ head h e1.
    in-both _ _ r e1 (λ options o e2.
    in-both _ _ r e2 (λ queue q e3.
    in-both _ _ r e3 (λ artificials a e4.
    subst (RecordIsRead p) (ok-same _ r (Ok _) refl e4) record {
      head = from-head p rows head h;
      queue = from-queue p queued head.stage rows queue q;
      options = from-options queued rows options o;
      many = from-artificials rows _ (rows_in (layout_of p) head.stage) artificials a;
    })))))

-- ---- the places
from-allowed : (allowed : Place → Bool) (o : Option Place) (x : Place) → if_allowed allowed o ≡ Some x → allowed x ≡ true
from-allowed allowed None x e = absurd (let z : None ≡ Some x = e in cc)
from-allowed allowed (Some y) x e = let t = from-test (allowed y) y x e in subst (λ z. allowed z ≡ true) t.1 t.0

absent-from : (a : Place) → is_absent a ≡ true → place_of a ≡ model.Absent
absent-from Lower e = absurd (let z : false ≡ true = e in cc)
absent-from Upper e = absurd (let z : false ≡ true = e in cc)
absent-from Zero e = absurd (let z : false ≡ true = e in cc)
absent-from Basic e = absurd (let z : false ≡ true = e in cc)
absent-from Absent e = refl

there-from : (o : Option ℚ) → is_there o ≡ true → o ≢ None
there-from None e z = let y : false ≡ true = e in cc
there-from (Some x) e z = let y : Some x ≡ None = z in cc

missing-from : (o : Option ℚ) → is_missing o ≡ true → o ≡ None
missing-from None e = refl
missing-from (Some x) e = absurd (let y : false ≡ true = e in cc)

may-from : (l u : Option ℚ) (a : Place) → may_stand l u a ≡ true → MayStandIn l u (place_of a)
may-from l u Lower e = there-from l e
may-from l u Upper e = there-from u e
may-from l u Zero e = let b = both (is_missing l) (is_missing u) e in (missing-from l b.0, missing-from u b.1)
may-from l u Basic e = tt
may-from l u Absent e = let z : false ≡ true = e in cc

slack-from : (a : Place) → slack_may a ≡ true → MayStandIn (Some zero_ℚ) None (place_of a)
slack-from Lower e = λ z. let y : Some zero_ℚ ≡ None = z in cc
slack-from Upper e = absurd (let z : false ≡ true = e in cc)
slack-from Zero e = absurd (let z : false ≡ true = e in cc)
slack-from Basic e = tt
slack-from Absent e = absurd (let z : false ≡ true = e in cc)

artificial-from : (a : SavedArtificial) → MayStandIn (Some zero_ℚ) None (place_of (artificial_place a))
artificial-from a = of a.basic
  where
    of : (b : Bool) → MayStandIn (Some zero_ℚ) None (place_of (if b then Basic else Lower))
    of true = tt
    of false = λ z. let y : Some zero_ℚ ≡ None = z in cc

-- A column fits in a stage where it stands so.
abbrev FitsIn : LinearProgram → StageNumber → Col → model.Place → Type 0
FitsIn p stage c place = (IsPresent (layout_of p) stage c → MayStandIn (lower_in p c) (upper_in p c) place) × ((IsPresent (layout_of p) stage c → ⊥) → place ≡ model.Absent)

given-from : (p : LinearProgram) (stage : StageNumber) (j : ℕ) (a : Place) → j < length p.columns → given_may p stage j a ≡ true → FitsIn p stage (Given j) (place_of a)
given-from p StageOne j a h e = of (cases_Bool (nat_lt j p.arcs))
  where
    of : (nat_lt j p.arcs ≡ true) ⊎ (nat_lt j p.arcs ≡ false) → FitsIn p StageOne (Given j) (place_of a)
    of (inl t) = ((λ _. may-from _ _ a (rw t at e)), (λ gone. absurd (gone (less-of j p.arcs t))))
    of (inr f) = ((λ g. absurd (not-less j p.arcs f g)), (λ _. absent-from a (rw f at e)))
given-from p StageTwo j a h e = ((λ _. may-from _ _ a e), (λ gone. absurd (gone h)))

column-from : (p : LinearProgram) (stage : StageNumber) (j : ℕ) (r : StatusRow) (a : Place) → column_place p stage j r ≡ Some a → given_may p stage j a ≡ true
unfolding column_place
column-from p stage j r a e = of (cases_Bool (bytes_eq r.number (decimal (suc j))))
  where
    of : (bytes_eq r.number (decimal (suc j)) ≡ true) ⊎ (bytes_eq r.number (decimal (suc j)) ≡ false) → given_may p stage j a ≡ true
    of (inl t) = from-allowed (given_may p stage j) _ a (rw t at e)
    of (inr f) = absurd (let z : None ≡ Some a = (rw f at e) in cc)

kinds : (k : RowKind) → ((k ≡ Eq) × (has_slack k ≡ false)) ⊎ ((k ≢ Eq) × (has_slack k ≡ true))
kinds Eq = inl (refl, refl)
kinds Le = inr ((λ e. cc), refl)
kinds Ge = inr ((λ e. cc), refl)

side-from : (p : LinearProgram) (stage : StageNumber) (q : ℕ) (w : List ℕ) (a : Place) → q < (layout_of p).sides → side_place p stage (p.nodes + q) w ≡ Some a → FitsIn p stage (Slack (p.nodes + q)) (place_of a)
side-from p StageOne q w a h e = ((λ g. absurd g), (λ _. absent-from a (from-allowed is_absent _ a e)))
side-from p StageTwo q w a h e = of (kinds (row p (p.nodes + q)).kind)
  where
    of : (((row p (p.nodes + q)).kind ≡ Eq) × (has_slack (row p (p.nodes + q)).kind ≡ false)) ⊎ (((row p (p.nodes + q)).kind ≢ Eq) × (has_slack (row p (p.nodes + q)).kind ≡ true)) → FitsIn p StageTwo (Slack (p.nodes + q)) (place_of a)
    of (inl x) = ((λ g. absurd (g.2 x.0)), (λ _. ap place_of (sym (from-test _ Absent a (rw x.1 at e)).1)))
    of (inr x) = ((λ _. slack-from a (from-allowed slack_may _ a (rw x.1 at e))), (λ gone. absurd (gone (omega arith, omega (arith, h), x.0))))

row-from : (p : LinearProgram) (stage : StageNumber) (q : ℕ) (w : List ℕ) (a : Place) → q < (layout_of p).sides → row_place p stage (p.nodes + q) w ≡ Some a → FitsIn p stage (Slack (p.nodes + q)) (place_of a)
unfolding row_place
row-from p stage q w a h e = side-from p stage q w a h (rw (le-ltb (p.nodes + q) p.nodes (omega arith)) at e)

-- ---- the state
module _ (p : LinearProgram) (ok : IsProblem p) (r : Recorded) (many : length r.artificials ≡ rows_in (layout_of p) r.stage)
    (rows : List StatusRow) (columns : List Place) (c : AreRead (given_read p r.stage rows) Absent (length p.columns) 0 [] columns)
    (words : List (List ℕ)) (slacks : List Place) (w : AreRead (slack_read p r.stage words) Absent (length p.rows) 0 [] slacks) where
  few : length r.artificials ≤ length p.rows
  few = subst (λ n. n ≤ length p.rows) (sym many) (few-rows p ok.nodes_within r.stage)

  given : (j : ℕ) → j < length p.columns → FitsIn p r.stage (Given j) (place_of (get_or (places_read p columns slacks r.artificials) j Absent))
  given j h =
      subst (λ a. FitsIn p r.stage (Given j) (place_of a)) (sym (place-given p columns slacks r.artificials ok.nodes_within c.many w.many few j h))
      (given-from p r.stage j (get_or columns j Absent) h (subst (λ n. given_may p r.stage n (get_or columns j Absent) ≡ true) (let e : 0 + j ≡ j = omega arith in e) (column-from p r.stage (0 + j) (get_or rows (0 + j) no_row) (get_or columns j Absent) (from-unfit set.Conin (0 + j) _ _ (c.each j h)))))

  slack : (q : ℕ) → q < (layout_of p).sides → FitsIn p r.stage (Slack (p.nodes + q)) (place_of (get_or (places_read p columns slacks r.artificials) (length p.columns + (p.nodes + q - p.nodes)) Absent))
  slack q h =
      subst (λ a. FitsIn p r.stage (Slack (p.nodes + q)) (place_of a))
      (sym (ap (λ n. get_or (places_read p columns slacks r.artificials) (length p.columns + n) Absent) (let e : p.nodes + q - p.nodes ≡ q = omega arith in e) ∙ place-slack p columns slacks r.artificials ok.nodes_within c.many w.many few q h))
      (row-from p r.stage q (get_or words (0 + (p.nodes + q)) []) (get_or slacks (p.nodes + q) Absent) h (subst (λ n. row_place p r.stage n (get_or words (0 + (p.nodes + q)) []) ≡ Some (get_or slacks (p.nodes + q) Absent)) (let e : 0 + (p.nodes + q) ≡ p.nodes + q = omega arith in e) (from-unfit set.Dualin (0 + (p.nodes + q)) _ _ (w.each (p.nodes + q) (omega (arith, h))))))

  artificial : (i : ℕ) → i < p.nodes + (layout_of p).sides → FitsIn p r.stage (Artificial i) (place_of (get_or (places_read p columns slacks r.artificials) (length p.columns + (layout_of p).sides + i) Absent))
  artificial i h = of (cases_lt i (length r.artificials))
    where
      there : (stage : StageNumber) → i < rows_in (layout_of p) stage → IsPresent (layout_of p) stage (Artificial i)
      there StageOne l = l
      there StageTwo l = l

      gone : (stage : StageNumber) → rows_in (layout_of p) stage ≤ i → IsPresent (layout_of p) stage (Artificial i) → ⊥
      gone StageOne m g = omega (arith, m, g)
      gone StageTwo m g = omega (arith, m, g)

      of : (i < length r.artificials) ⊎ (length r.artificials ≤ i) → FitsIn p r.stage (Artificial i) (place_of (get_or (places_read p columns slacks r.artificials) (length p.columns + (layout_of p).sides + i) Absent))
      of (inl l) =
          subst (λ a. FitsIn p r.stage (Artificial i) (place_of a)) (sym (place-artificial p columns slacks r.artificials ok.nodes_within c.many w.many few i l))
          ((λ _. artificial-from (get_or r.artificials i no_artificial)), (λ z. absurd (z (there r.stage (subst (λ n. i < n) many l)))))
      of (inr m) =
          subst (λ a. FitsIn p r.stage (Artificial i) (place_of a)) (sym (place-lacked p columns slacks r.artificials ok.nodes_within c.many w.many few i m (let n = ok.nodes_within in omega (arith, h, n))))
          ((λ g. absurd (gone r.stage (subst (λ n. n ≤ i) many m) g)), (λ _. refl))

  fits : (j : ℕ) → j < all_columns (layout_of p) → FitsAt p (standing_read p r columns slacks) j
  fits j h =
      let s : place_at (standing_read p r columns slacks) j ≡ place_of (get_or (places_read p columns slacks r.artificials) j Absent) = stands-at p columns slacks r.artificials ok.nodes_within c.many w.many few r refl j h in
      let f : FitsIn p r.stage (column_in p j) (place_of (get_or (places_read p columns slacks r.artificials) (number_of (layout_of p) (column_in p j)) Absent)) = by_columns (layout_of p) (λ c. FitsIn p r.stage c (place_of (get_or (places_read p columns slacks r.artificials) (number_of (layout_of p) c) Absent))) given slack artificial j h in
      let g : FitsIn p r.stage (column_in p j) (place_at (standing_read p r columns slacks) j) = subst (FitsIn p r.stage (column_in p j)) (ap (λ n. place_of (get_or (places_read p columns slacks r.artificials) n Absent)) (number_col (layout_of p) j h) ∙ sym s) f in
      record { present = g.0; absent = g.1 }

  state-from : IsStateOf p (standing_read p r columns slacks)
  state-from = record {
    one_place_each = length-map (places_read p columns slacks r.artificials) place_of ∙ all-places p columns slacks r.artificials ok.nodes_within c.many w.many few;
    one_sign_each = length-map r.artificials (λ a. a.negative) ∙ many;
    fits = fits;
  }

-- ---- sessions
enters-present : (p : LinearProgram) (s : Standing) (j : ℕ) → IsStateOf p s → j < count_entering p → enters_in p s.stage j ≡ true → place_at s j ≢ model.Absent
enters-present p s j st h e = of s.stage refl (cases_lt j (length p.columns))
  where
    there : (n : StageNumber) → s.stage ≡ n → IsPresent (layout_of p) n (column_in p j) → place_at s j ≢ model.Absent
    there n same g = may_not_absent _ _ (place_at s j) ((st.fits j (omega (arith, h))).present (subst (λ m. IsPresent (layout_of p) m (column_in p j)) (sym same) g))

    slack-of : (k : RowKind) → has_slack k ≡ true → k ≢ Eq
    slack-of Eq t z = let y : false ≡ true = t in cc
    slack-of Le t z = cc
    slack-of Ge t z = cc

    of : (n : StageNumber) → s.stage ≡ n → (j < length p.columns) ⊎ (length p.columns ≤ j) → place_at s j ≢ model.Absent
    of StageOne same (inl l) = there StageOne same (subst (IsPresent (layout_of p) StageOne) (sym (column_given (layout_of p) j l)) (less-of j p.arcs (rw (same, lt-ltb j (length p.columns) l) at e)))
    of StageOne same (inr m) = absurd (let z : false ≡ true = (rw (same, le-ltb j (length p.columns) m) at e) in cc)
    of StageTwo same (inl l) = there StageTwo same (subst (IsPresent (layout_of p) StageTwo) (sym (column_given (layout_of p) j l)) l)
    of StageTwo same (inr m) =
        there StageTwo same
        (subst (IsPresent (layout_of p) StageTwo) (sym (ap (λ k. column_in p k) (let z : j ≡ length p.columns + (j - length p.columns) = omega (arith, m) in z) ∙ column_slack (layout_of p) (j - length p.columns) (omega (arith, h, m))))
        (omega arith, omega (arith, h, m), slack-of (row p (p.nodes + (j - length p.columns))).kind (rw (same, le-ltb j (length p.columns) m) at e)))

comes-two : (p : LinearProgram) (n : StageNumber) → two_to_come p n ≡ true → (n ≡ StageOne) × HasStageTwo (layout_of p)
comes-two p StageOne t = (refl, from-two p t)
comes-two p StageTwo t = absurd (let z : false ≡ true = t in cc)

carried-from : (p : LinearProgram) (r : Recorded) (s : Standing) → s.stage ≡ r.stage → IsStateOf p s → RecordIsRead p r → FitsState p s r.carried
carried-from p r s same st t = record {
  has_stage = λ z. t.head.has_stage (sym same ∙ z);
  none_yet = λ z. t.head.none_yet (sym same ∙ z);
  cursor = t.head.cursor;
  queued = λ k b. record {
    counted = t.queue.counted k b;
    within = t.queue.within k b;
    present = enters-present p s (get_or r.carried.pricing.queue k 0 - 1) st (let c = t.queue.counted k b in let w = t.queue.within k b in omega (arith, c, w)) (subst (λ n. enters_in p n (get_or r.carried.pricing.queue k 0 - 1) ≡ true) (sym same) (t.queue.enters k b));
  };
  once = t.queue.once;
  short = t.queue.short;
  options = t.options;
  between = λ z. comes-two p s.stage (subst (λ n. two_to_come p n ≡ true) (sym same) (t.head.between z));
}

columns-from : (p : LinearProgram) (stage : StageNumber) (rows : List StatusRow) (columns : List Place) → columns_read p stage rows ≡ Ok columns → AreRead (given_read p stage rows) Absent (length p.columns) 0 [] columns
unfolding columns_read
columns-from p stage rows columns e =
    let w = from-each (given_read p stage rows) Absent (length p.columns) 0 [] columns (from-count (length rows) (length p.columns) set.Conin _ columns e).1 in
    subst (AreRead (given_read p stage rows) Absent (length p.columns) 0 []) (sym w.1) w.2

slacks-from : (p : LinearProgram) (stage : StageNumber) (words : List (List ℕ)) (slacks : List Place) → slacks_read p stage words ≡ Ok slacks → AreRead (slack_read p stage words) Absent (length p.rows) 0 [] slacks
unfolding slacks_read
slacks-from p stage words slacks e =
    let w = from-each (slack_read p stage words) Absent (length p.rows) 0 [] slacks (from-count (length words) (length p.rows) set.Dualin _ slacks e).1 in
    subst (AreRead (slack_read p stage words) Absent (length p.rows) 0 []) (sym w.1) w.2

rows-from : (p : LinearProgram) (s : Session) (rows : List SavedRow) (statuses : List StatusRow) (words : List (List ℕ)) → IsProblem p → rows_read p rows statuses words ≡ Ok s → IsReadSession p s
unfolding rows_read
rows-from p s rows statuses words ok e =
    in-both _ _ s e (λ r a e0.
    in-both _ _ s e0 (λ columns c e1.
    in-both _ _ s e1 (λ slacks w e2.
    let t = from-record p rows r a in
    let st = state-from p ok r t.many statuses columns (columns-from p r.stage statuses columns c) words slacks (slacks-from p r.stage words slacks w) in
    let n = from-count _ _ set.Session (Ok (session_of (standing_read p r columns slacks) r.carried)) s e2 in
    subst (IsReadSession p) (ok-same _ s (Ok _) refl n.1) record {
      state = st;
      as_many = n.0;
      carried = carried-from p r (standing_read p r columns slacks) refl st t;
    })))

pub read_are_states : ReadAreStates
unfolding session_read
read_are_states p s x y z ok e = in-both _ _ s e (λ c _ e0. rows-from p s _ _ _ ok e0)

pub read_are_sessions : ReadAreSessions
read_are_sessions p s x y z ok e f = record { state = f; carried = (read_are_states p s x y z ok e).carried }

-- The state of what is read is one of the problem.
pub read-state : (p : LinearProgram) (rows : List SavedRow) (statuses : List StatusRow) (words : List (List ℕ)) (r : Recorded) (columns slacks : List Place) → IsProblem p → recorded p rows ≡ Ok r → columns_read p r.stage statuses ≡ Ok columns → slacks_read p r.stage words ≡ Ok slacks
    → IsStateOf p (standing_read p r columns slacks)
read-state p rows statuses words r columns slacks ok a c w =
    state-from p ok r (from-record p rows r a).many statuses columns (columns-from p r.stage statuses columns c) words slacks (slacks-from p r.stage words slacks w)

-- There are as many artificials as rows of the stage, and a place of a slack for each row of the problem.
pub read-many : (p : LinearProgram) (rows : List SavedRow) (words : List (List ℕ)) (r : Recorded) (slacks : List Place) → IsProblem p → recorded p rows ≡ Ok r → slacks_read p r.stage words ≡ Ok slacks → (length r.artificials ≤ length p.rows) × (length slacks ≡ length p.rows)
read-many p rows words r slacks ok a w =
    (subst (λ n. n ≤ length p.rows) (sym (from-record p rows r a).many) (few-rows p ok.nodes_within r.stage), (slacks-from p r.stage words slacks w).many)
