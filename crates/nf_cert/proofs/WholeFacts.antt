-- The first fault of a whole table from the first faults of its parts: the verdict, the values, the others, and what comes
-- behind.
use Rattle.std.proofs.Common.{◌≡◌, ◌<◌, ◌≤◌, ◌+◌, ◌-◌, ◌∙◌, ℕ, zero, suc, List, [], ◌∷◌, ◌++◌, length, Option, Some, None, refl, ap, zero-add, arith, inl, inr, Ok, Err}
use Rattle.std.proofs.lemmas.Bool.{cases_Bool}
use Rattle.std.specs.Prelude.{slice_get, max}
use Rattle.std.specs.List.{range_with_len}
use Rattle.std.specs.Option.{option_map}
use Rattle.std.proofs.lemmas.Option.{slice_get-map, slice_get-get_or, slice_get_past}
use Rattle.std.proofs.lemmas.List.{length-append}
use Rattle.std.proofs.lemmas.List.FromFn.{length-range_with_len, get_or-range_with_len, length-map-range_with_len}
use Rattle.nf_prob.specs.declared.cert.Cert.TheVariants as cert
use Rattle.nf_cert.specs.declared.item.Kind.{Kind}
use Rattle.nf_cert.specs.declared.item.Kind.TheVariants as kind
use Rattle.nf_cert.specs.declared.fault.CertFault.{CertFault}
use Rattle.nf_cert.specs.declared.fault.CertFault.TheVariants as fault
use Rattle.nf_cert.specs.First.{first_below}
use Rattle.nf_cert.specs.Items.{CertRow, is_of, item, items, items_of, items_with}
use Rattle.nf_cert.specs.declared.rows.Lists.{Lists}
use Rattle.nf_cert.specs.declared.verdict.Verdict.{Verdict}
use Rattle.nf_cert.specs.declared.verdict.Verdict.TheVariants as verdict
use Rattle.nf_cert.specs.Rows.{fault_at, first_fault, known_verdict, row_fault, rows_read, verdict_of}
use Rattle.nf_cert.specs.Verdicts.{verdict_read}
use Rattle.nf_cert.specs.Steps.{HasLists, HasValue, HasVerdict, fault_below, first_in}
use Rattle.nf_cert.proofs.FirstFacts.{found, same-below, behind, found-below}

-- ---- which item is due where
module _ {A : Type 0} where
  pub get-left : (xs ys : List A) (i : ℕ) → i < length xs → slice_get (xs ++ ys) i ≡ slice_get xs i
  get-left [] ys i h = absurd (omega arith)
  get-left (x ∷ xs) ys zero h = refl
  get-left (x ∷ xs) ys (suc i) h = get-left xs ys i (omega (arith, h))

  pub get-right : (xs ys : List A) (i : ℕ) → slice_get (xs ++ ys) (length xs + i) ≡ slice_get ys i
  get-right [] ys i = rw (zero-add i) refl
  get-right (x ∷ xs) ys i = let one : suc (length xs) + i ≡ suc (length xs + i) = omega arith in rw one (get-right xs ys i)

length-items : (k : Kind) (count : ℕ) → length (items k count) ≡ count
unfolding items
length-items k count = length-map-range_with_len (item k) 1 count

get-items : (k : Kind) (count i : ℕ) → i < count → slice_get (items k count) i ≡ Some (item k (i + 1))
unfolding items
get-items k count i h =
    let size = length-range_with_len 1 count in
    let below : i < length (range_with_len 1 count) = omega (arith, size, h) in
    let swap : 1 + i ≡ i + 1 = omega arith in
    slice_get-map (item k) (range_with_len 1 count) i
    ∙ ap (option_map (item k)) (slice_get-get_or (range_with_len 1 count) i 0 below ∙ ap Some (get_or-range_with_len 1 count i 0 h ∙ swap))

length-items_with : (values : ℕ) (k : Kind) (others : ℕ) → length (items_with values k others) ≡ 1 + values + others
unfolding items_with
length-items_with values k others =
    let size = length-append (items kind.Column values) (items k others) in
    omega (arith, size, length-items kind.Column values, length-items k others)

verdict-due : (values : ℕ) (k : Kind) (others : ℕ) → slice_get (items_with values k others) 0 ≡ Some (item kind.Verdict 1)
unfolding items_with
verdict-due values k others = refl

column-due : (values : ℕ) (k : Kind) (others i : ℕ) → i < values → slice_get (items_with values k others) (1 + i) ≡ Some (item kind.Column (i + 1))
unfolding items_with
column-due values k others i h =
    let size = length-items kind.Column values in
    let one : 1 + i ≡ suc i = omega arith in
    rw one (get-left (items kind.Column values) (items k others) i (omega (arith, size, h)) ∙ get-items kind.Column values i h)

other-due : (values : ℕ) (k : Kind) (others i : ℕ) → i < others → slice_get (items_with values k others) (1 + values + i) ≡ Some (item k (i + 1))
unfolding items_with
other-due values k others i h =
    let size = length-items kind.Column values in
    let one : 1 + values + i ≡ suc (length (items kind.Column values) + i) = omega (arith, size) in
    rw one (get-right (items kind.Column values) (items k others) i ∙ get-items k others i h)

-- ---- the faults of the parts
module _ (table : List CertRow) (values : ℕ) (k : Kind) (others : ℕ) where
  f : ℕ → Option CertFault
  f = fault_at (items_with values k others) table

  size : length (items_with values k others) ≡ 1 + values + others
  size = length-items_with values k others

  verdict-same : first_below 1 f ≡ fault_below table 0 (item kind.Verdict 1)
  unfolding first_below fault_at f
  verdict-same = rw (verdict-due values k others) refl

  values-same : first_below values (λ i. f (1 + i)) ≡ first_in table 1 kind.Column values
  unfolding first_in fault_at f
  values-same = same-below values (λ i. f (1 + i)) (λ i. fault_below table (1 + i) (item kind.Column (i + 1))) (λ i h. rw (column-due values k others i h) refl)

  others-same : first_below others (λ i. f (1 + values + i)) ≡ first_in table (1 + values) k others
  unfolding first_in fault_at f
  others-same = same-below others (λ i. f (1 + values + i)) (λ i. fault_below table (1 + values + i) (item k (i + 1))) (λ i h. rw (other-due values k others i h) refl)

  -- found among the first n, and there are more
  within : (n : ℕ) (e : CertFault) → n ≤ 1 + values + others → first_below n f ≡ Some e → first_fault (items_with values k others) table ≡ Some e
  unfolding first_fault f
  within n e h g =
      let more : max (length (items_with values k others)) (length table) ≡ n + (max (length (items_with values k others)) (length table) - n) = omega (arith, size, h) in
      rw more (found-below n (max (length (items_with values k others)) (length table) - n) f e g)

  values-behind : fault_below table 0 (item kind.Verdict 1) ≡ None → first_below (1 + values) f ≡ first_in table 1 kind.Column values
  values-behind none = behind 1 values f (verdict-same ∙ none) ∙ values-same

  pub values-found : (e : CertFault) → fault_below table 0 (item kind.Verdict 1) ≡ None → first_in table 1 kind.Column values ≡ Some e
      → first_fault (items_with values k others) table ≡ Some e
  values-found e none h = within (1 + values) e (omega arith) (values-behind none ∙ h)

  others-behind : fault_below table 0 (item kind.Verdict 1) ≡ None → first_in table 1 kind.Column values ≡ None
      → first_below (1 + values + others) f ≡ first_in table (1 + values) k others
  others-behind none first = behind (1 + values) others f (values-behind none ∙ first) ∙ others-same

  pub others-found : (e : CertFault) → fault_below table 0 (item kind.Verdict 1) ≡ None → first_in table 1 kind.Column values ≡ None
      → first_in table (1 + values) k others ≡ Some e → first_fault (items_with values k others) table ≡ Some e
  others-found e none first h = within (1 + values + others) e (omega arith) (others-behind none first ∙ h)

  pub much-found : fault_below table 0 (item kind.Verdict 1) ≡ None → first_in table 1 kind.Column values ≡ None
      → first_in table (1 + values) k others ≡ None → 1 + values + others < length table
      → first_fault (items_with values k others) table ≡ Some (fault.UnknownRow (1 + values + others + 1))
  unfolding first_fault fault_at f
  much-found none first second more =
      let past = slice_get_past (items_with values k others) (1 + values + others) (omega (arith, size)) in
      let there = slice_get-get_or table (1 + values + others) (record { name = []; number = []; value = [] }) more in
      let fault : f (1 + values + others) ≡ Some (fault.UnknownRow (1 + values + others + 1)) = rw (past, there) refl in
      found (max (length (items_with values k others)) (length table)) (1 + values + others) f _ (others-behind none first ∙ second) fault (omega (arith, size, more))

  pub none-found : fault_below table 0 (item kind.Verdict 1) ≡ None → first_in table 1 kind.Column values ≡ None
      → first_in table (1 + values) k others ≡ None → length table ≤ 1 + values + others
      → first_fault (items_with values k others) table ≡ None
  unfolding first_fault f
  none-found none first second few =
      let all : max (length (items_with values k others)) (length table) ≡ 1 + values + others = omega (arith, size, few) in
      rw all (others-behind none first ∙ second)

-- ---- what the rows are read as
-- a first row that is not there, or not that of a verdict
pub verdict-not-due : (o : Option CertRow) (e : CertFault) → row_fault 1 (Some (item kind.Verdict 1)) o ≡ Some e → verdict_of o ≡ Err e
verdict-not-due None e h = let same : fault.MissingRow 1 ≡ e = cc h in ap (λ (x : CertFault). Err x) same
verdict-not-due (Some r) e h = elim (cases_Bool (is_of (item kind.Verdict 1) r)) [
  | inl due ↦ absurd (cc (rw due at h))
  | inr other ↦ (let same : fault.UnknownRow 1 ≡ e = cc (rw other at h) in rw other (ap (λ (x : CertFault). Err x) same))
]

-- the word of a verdict's row
pub verdict-due-here : (table : List CertRow) (word : List ℕ) → HasValue table 0 (item kind.Verdict 1) word → verdict_of (slice_get table 0) ≡ known_verdict (verdict_read word)
verdict-due-here table word h = rw (h.there, h.due, h.value) refl

module _ (table : List CertRow) (columns rows : ℕ) where
  pub no-verdict : (e : CertFault) → verdict_of (slice_get table 0) ≡ Err e → Err e ≡ rows_read columns rows table
  no-verdict e h = rw h refl

  pub refused : (v : Verdict) (e : CertFault) → HasVerdict table v → first_fault (items_of v columns rows) table ≡ Some e → Err e ≡ rows_read columns rows table
  refused v e k h = rw (k.is, h) refl

  pub accepted-best : (l : Lists) → HasVerdict table verdict.Optimal → HasLists table columns kind.Row rows l → Ok (cert.Best l.values l.others) ≡ rows_read columns rows table
  accepted-best l k h = rw (k.is, h.clear, h.values, h.others) refl

  pub accepted-farkas : (l : Lists) → HasVerdict table verdict.Infeasible → HasLists table 0 kind.Row rows l → Ok (cert.Farkas l.others) ≡ rows_read columns rows table
  accepted-farkas l k h = rw (k.is, h.clear, h.others) refl

  pub accepted-ray : (l : Lists) → HasVerdict table verdict.Unbounded → HasLists table columns kind.Ray columns l → Ok (cert.Ray l.values l.others) ≡ rows_read columns rows table
  accepted-ray l k h = rw (k.is, h.clear, h.values, h.others) refl
