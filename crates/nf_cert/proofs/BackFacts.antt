-- A certificate's table is read as the certificate.
use Rattle.std.proofs.Common.{◌≡◌, ◌∙◌, ◌<◌, ◌≤◌, ◌+◌, ◌^◌, ◌++◌, ◌∷◌, ℕ, zero, suc, List, [], true, length, map, take, drop, get_or, Option, Some, None, Result, Ok, Err, refl, ap, ap₂, sym, subst, subst₂, arith, decimal}
use Rattle.std.specs.Prelude.{slice_get, IfOk, OnOk}
use Rattle.std.specs.List.{All}
use Rattle.std.specs.Str.{bytes_eq}
use Rattle.std.proofs.lemmas.List.{append-nil, map-append, length-append}
use Rattle.std.proofs.lemmas.List.Elements.{All-head, All-nil, All-tail}
use Rattle.std.proofs.lemmas.Slice.Eq.{bytes_eq-Decides}
use Rattle.nf_num.specs.Rational.{ℚ, zero_ℚ}
use Rattle.nf_frac.specs.Texts.{frac_read, frac_text}
use Rattle.nf_frac.proofs.TextFacts.{frac_read-text}
use Rattle.nf_prob.specs.declared.cert.Cert.{Cert}
use Rattle.nf_prob.specs.declared.cert.Cert.TheVariants as cert
use Rattle.nf_model.specs.Program.{LinearProgram}
use Rattle.nf_prob.specs.Verdict.{HasLengths}
use Rattle.nf_cells.specs.Cells.{value_of}
use Rattle.nf_table.specs.Grid.{Cells, Grid}
use Rattle.nf_cert.specs.declared.columns.Columns.{Columns}
use Rattle.nf_cert.specs.declared.item.Kind.{Kind}
use Rattle.nf_cert.specs.declared.item.Kind.TheVariants as kind
use Rattle.nf_cert.specs.declared.verdict.Verdict.{Verdict}
use Rattle.nf_cert.specs.declared.verdict.Verdict.TheVariants as verdict
use Rattle.nf_cert.specs.Items.{CertRow, HoldsFrac, cert_row, is_of, item, items_with, word}
use Rattle.nf_cert.specs.Reading.{cert_read}
use Rattle.nf_cert.specs.Rows.{first_fault, frac_at, fracs_at, rows_read, value_fault, verdict_of}
use Rattle.nf_cert.specs.Steps.{fault_below, first_in}
use Rattle.nf_cert.specs.Verdicts.{verdict_read, verdict_word}
use Rattle.nf_cert.specs.Written.{HasParts, cert_grid, frac_rows, lists_rows, with_header, written_row}
use Rattle.nf_cert.proofs.FirstFacts.{none-below}
use Rattle.nf_cert.proofs.TextFacts.{plain-decimal, plain-frac, plain-value, verdict-value, word-value}
use Rattle.nf_cert.proofs.WholeFacts.{get-left, get-right, none-found}

-- ---- the rows that are read of what was written
abbrev three : Columns
three = record { item = 0; number = 1; value = 2 }

abbrev one_row : Kind → ℕ → List ℕ → CertRow
one_row k n value = record { name = word k; number = decimal n; value = value }

row-back : (k : Kind) (n : ℕ) (text : List ℕ) → n < 10 ^ 64 → value_of text ≡ text → cert_row three (written_row k n text) ≡ one_row k n text
row-back k n text small same = λ i. record { name = word-value k i; number = plain-value (decimal n) (plain-decimal n small) i; value = same i }

read_of : Kind → ℕ → List ℚ → List CertRow
read_of k n [] = []
read_of k n (x ∷ xs) = one_row k n (frac_text x) ∷ read_of k (suc n) xs

rows-back : (k : Kind) (n : ℕ) (xs : List ℚ) → n + length xs < 10 ^ 64 → All HasParts xs → map (cert_row three) (frac_rows k n xs) ≡ read_of k n xs
unfolding frac_rows read_of
rows-back k n [] small h = refl
rows-back k n (x ∷ xs) small h =
    let here : n < 10 ^ 64 = omega (arith, small) in
    let rest : suc n + length xs < 10 ^ 64 = omega (arith, small) in
    ap₂ (λ (r : CertRow) (rs : List CertRow). r ∷ rs)
    (row-back k n (frac_text x) here (plain-value (frac_text x) (plain-frac x (All-head HasParts x xs h))))
    (rows-back k (suc n) xs rest (All-tail HasParts x xs h))

length-read : (k : Kind) (n : ℕ) (xs : List ℚ) → length (read_of k n xs) ≡ length xs
unfolding read_of
length-read k n [] = refl
length-read k n (x ∷ xs) = ap suc (length-read k (suc n) xs)

get-read : (k : Kind) (n : ℕ) (xs : List ℚ) (i : ℕ) → i < length xs → slice_get (read_of k n xs) i ≡ Some (one_row k (n + i) (frac_text (get_or xs i zero_ℚ)))
unfolding read_of
get-read k n [] i h = absurd (omega (arith, h))
get-read k n (x ∷ xs) zero h = ap (λ m. Some (one_row k m (frac_text x))) (let e : n ≡ n + 0 = omega arith in e)
get-read k n (x ∷ xs) (suc i) h = get-read k (suc n) xs i (omega (arith, h)) ∙ ap (λ m. Some (one_row k m (frac_text (get_or xs i zero_ℚ)))) (let e : suc n + i ≡ n + suc i = omega arith in e)

fracs-read : (k : Kind) (n : ℕ) (xs : List ℚ) → All HasParts xs → map frac_at (read_of k n xs) ≡ xs
unfolding read_of
fracs-read k n [] h = refl
fracs-read k n (x ∷ xs) h = rw (frac_read-text x (All-head HasParts x xs h)) (ap (λ (t : List ℚ). x ∷ t) (fracs-read k (suc n) xs (All-tail HasParts x xs h)))

-- ---- each is the row that is due
same-bytes : (text : List ℕ) → bytes_eq text text ≡ true
same-bytes text = (bytes_eq-Decides text text).1 refl

due : (k : Kind) (n : ℕ) (text : List ℕ) → is_of (item k n) (one_row k n text) ≡ true
due k n text = rw (same-bytes (word k), same-bytes (decimal n)) refl

value-clear : (n : ℕ) (k : Kind) (text : List ℕ) (x : ℚ) → HoldsFrac k → frac_read text ≡ Ok x → value_fault n k text ≡ None
value-clear n kind.Verdict text x h e = absurd h
value-clear n kind.Column text x h e = rw e refl
value-clear n kind.Row text x h e = rw e refl
value-clear n kind.Ray text x h e = rw e refl

row-clear : (table : List CertRow) (above : ℕ) (k : Kind) (n : ℕ) (x : ℚ) → HoldsFrac k → HasParts x → slice_get table above ≡ Some (one_row k n (frac_text x)) → fault_below table above (item k n) ≡ None
row-clear table above k n x h parts there = rw (there, due k n (frac_text x)) (value-clear (above + 1) k (frac_text x) x h (frac_read-text x parts))

rows-clear : (table : List CertRow) (above : ℕ) (k : Kind) (xs : List ℚ) → HoldsFrac k → All HasParts xs → ((i : ℕ) → i < length xs → slice_get table (above + i) ≡ slice_get (read_of k 1 xs) i) → first_in table above k (length xs) ≡ None
unfolding first_in
rows-clear table above k xs h parts there =
    none-below (length xs) (λ i. fault_below table (above + i) (item k (i + 1))) (λ i b.
    row-clear table (above + i) k (i + 1) (get_or xs i zero_ℚ) h (parts i zero_ℚ b) (there i b ∙ get-read k 1 xs i b ∙ ap (λ m. Some (one_row k m (frac_text (get_or xs i zero_ℚ)))) (let e : 1 + i ≡ i + 1 = omega arith in e)))

-- ---- the whole table
take-front : {A : Type 0} (xs ys : List A) → take (length xs) (xs ++ ys) ≡ xs
take-front [] ys = refl
take-front (x ∷ xs) ys = ap (λ t. x ∷ t) (take-front xs ys)

drop-front : {A : Type 0} (xs ys : List A) → drop (length xs) (xs ++ ys) ≡ ys
drop-front [] ys = refl
drop-front (x ∷ xs) ys = drop-front xs ys

abbrev table_of : Verdict → List ℚ → Kind → List ℚ → List CertRow
table_of v xs k ys = one_row kind.Verdict 1 (verdict_word v) ∷ read_of kind.Column 1 xs ++ read_of k 1 ys

verdict-known : (v : Verdict) → verdict_read (verdict_word v) ≡ Some v
verdict-known verdict.Optimal = refl
verdict-known verdict.Infeasible = refl
verdict-known verdict.Unbounded = refl

verdict-back : (v : Verdict) (xs : List ℚ) (k : Kind) (ys : List ℚ) → verdict_of (slice_get (table_of v xs k ys) 0) ≡ Ok v
verdict-back v xs k ys = rw (due kind.Verdict 1 (verdict_word v), verdict-known v) refl

verdict-clear : (v : Verdict) (xs : List ℚ) (k : Kind) (ys : List ℚ) → fault_below (table_of v xs k ys) 0 (item kind.Verdict 1) ≡ None
verdict-clear v xs k ys = rw (due kind.Verdict 1 (verdict_word v)) refl

table-clear : (v : Verdict) (xs : List ℚ) (k : Kind) (ys : List ℚ) → HoldsFrac k → All HasParts xs → All HasParts ys → first_fault (items_with (length xs) k (length ys)) (table_of v xs k ys) ≡ None
table-clear v xs k ys h left right =
    none-found (table_of v xs k ys) (length xs) k (length ys) (verdict-clear v xs k ys)
    (rows-clear (table_of v xs k ys) 1 kind.Column xs tt left (λ i b. let one : 1 + i ≡ suc i = omega arith in rw one (get-left (read_of kind.Column 1 xs) (read_of k 1 ys) i (omega (arith, b, length-read kind.Column 1 xs)))))
    (rows-clear (table_of v xs k ys) (1 + length xs) k ys h right (λ i b. let one : 1 + length xs + i ≡ suc (length (read_of kind.Column 1 xs) + i) = omega (arith, length-read kind.Column 1 xs) in rw one (get-right (read_of kind.Column 1 xs) (read_of k 1 ys) i)))
    (omega (arith, length-append (read_of kind.Column 1 xs) (read_of k 1 ys), length-read kind.Column 1 xs, length-read k 1 ys))

values-back : (v : Verdict) (xs : List ℚ) (k : Kind) (ys : List ℚ) → All HasParts xs → fracs_at 1 (length xs) (table_of v xs k ys) ≡ xs
values-back v xs k ys left =
    ap (λ n. map frac_at (take n (read_of kind.Column 1 xs ++ read_of k 1 ys))) (sym (length-read kind.Column 1 xs))
    ∙ ap (map frac_at) (take-front (read_of kind.Column 1 xs) (read_of k 1 ys))
    ∙ fracs-read kind.Column 1 xs left

others-back : (v : Verdict) (xs : List ℚ) (k : Kind) (ys : List ℚ) → All HasParts ys → fracs_at (1 + length xs) (length ys) (table_of v xs k ys) ≡ ys
others-back v xs k ys right =
    let place : 1 + length xs ≡ suc (length (read_of kind.Column 1 xs)) = omega (arith, length-read kind.Column 1 xs) in
    ap (λ n. map frac_at (take (length ys) (drop n (table_of v xs k ys)))) place
    ∙ ap (λ (t : List CertRow). map frac_at (take (length ys) t)) (drop-front (read_of kind.Column 1 xs) (read_of k 1 ys))
    ∙ ap₂ (λ n (t : List CertRow). map frac_at (take n t)) (sym (length-read k 1 ys)) (sym (append-nil (read_of k 1 ys)))
    ∙ ap (map frac_at) (take-front (read_of k 1 ys) [])
    ∙ fracs-read k 1 ys right

rows-are : (v : Verdict) (xs : List ℚ) (k : Kind) (ys : List ℚ) → length xs ≤ 2 ^ 30 → length ys ≤ 2 ^ 30 → All HasParts xs → All HasParts ys → map (cert_row three) (lists_rows v xs k ys) ≡ table_of v xs k ys
rows-are v xs k ys few_xs few_ys left right =
    ap₂ (λ (r : CertRow) (rs : List CertRow). r ∷ rs)
    (row-back kind.Verdict 1 (verdict_word v) (omega arith) (verdict-value v))
    (map-append (cert_row three) (frac_rows kind.Column 1 xs) (frac_rows k 1 ys)
    ∙ ap₂ (λ (a b : List CertRow). a ++ b) (rows-back kind.Column 1 xs (omega (arith, few_xs)) left) (rows-back k 1 ys (omega (arith, few_ys)) right))

-- ---- the certificates
-- what the rows are read as, for so many columns and rows
module _ (v : Verdict) (xs : List ℚ) (k : Kind) (ys : List ℚ) (m n : ℕ) (many : length xs ≡ m) (more : length ys ≡ n) (left : All HasParts xs) (right : All HasParts ys) where
  clear-of : HoldsFrac k → first_fault (items_with m k n) (table_of v xs k ys) ≡ None
  clear-of h = subst₂ (λ a b. first_fault (items_with a k b) (table_of v xs k ys) ≡ None) many more (table-clear v xs k ys h left right)

  values-of : fracs_at 1 m (table_of v xs k ys) ≡ xs
  values-of = subst (λ a. fracs_at 1 a (table_of v xs k ys) ≡ xs) many (values-back v xs k ys left)

  others-of : fracs_at (1 + m) n (table_of v xs k ys) ≡ ys
  others-of = subst₂ (λ a b. fracs_at (1 + a) b (table_of v xs k ys) ≡ ys) many more (others-back v xs k ys right)

best-read : (x y : List ℚ) (m n : ℕ) → length x ≡ m → length y ≡ n → All HasParts x → All HasParts y → rows_read m n (table_of verdict.Optimal x kind.Row y) ≡ Ok (cert.Best x y)
best-read x y m n a b left right =
    rw (verdict-back verdict.Optimal x kind.Row y, clear-of verdict.Optimal x kind.Row y m n a b left right tt, values-of verdict.Optimal x kind.Row y m n a b left right, others-of verdict.Optimal x kind.Row y m n a b left right) refl

farkas-read : (y : List ℚ) (m n : ℕ) → length y ≡ n → All HasParts y → rows_read m n (table_of verdict.Infeasible [] kind.Row y) ≡ Ok (cert.Farkas y)
farkas-read y m n b right =
    rw (verdict-back verdict.Infeasible [] kind.Row y, clear-of verdict.Infeasible [] kind.Row y 0 n refl b (All-nil HasParts) right tt, others-of verdict.Infeasible [] kind.Row y 0 n refl b (All-nil HasParts) right) refl

ray-read : (x r : List ℚ) (m n : ℕ) → length x ≡ m → length r ≡ m → All HasParts x → All HasParts r → rows_read m n (table_of verdict.Unbounded x kind.Ray r) ≡ Ok (cert.Ray x r)
ray-read x r m n a b left right =
    rw (verdict-back verdict.Unbounded x kind.Ray r, clear-of verdict.Unbounded x kind.Ray r m m a b left right tt, values-of verdict.Unbounded x kind.Ray r m m a b left right, others-of verdict.Unbounded x kind.Ray r m m a b left right) refl

written-read : (rows : List Cells) (table : List CertRow) (m n : ℕ) (c : Cert) → map (cert_row three) rows ≡ table → rows_read m n table ≡ Ok c → cert_read (with_header rows) m n ≡ Ok c
unfolding cert_read
written-read rows table m n c e h = subst (λ t. rows_read m n t ≡ Ok c) (sym e) h

module _ (p : LinearProgram) (few_columns : length p.columns ≤ 2 ^ 30) (few_rows : length p.rows ≤ 2 ^ 30) where
  pub best-back : (x y : List ℚ) → HasLengths p (cert.Best x y) → All HasParts x → All HasParts y → cert_read (cert_grid (cert.Best x y)) (length p.columns) (length p.rows) ≡ Ok (cert.Best x y)
  best-back x y l left right =
      written-read (lists_rows verdict.Optimal x kind.Row y) (table_of verdict.Optimal x kind.Row y) (length p.columns) (length p.rows) (cert.Best x y)
      (rows-are verdict.Optimal x kind.Row y (omega (arith, l.0, few_columns)) (omega (arith, l.1, few_rows)) left right)
      (best-read x y (length p.columns) (length p.rows) l.0 l.1 left right)

  pub farkas-back : (y : List ℚ) → HasLengths p (cert.Farkas y) → All HasParts y → cert_read (cert_grid (cert.Farkas y)) (length p.columns) (length p.rows) ≡ Ok (cert.Farkas y)
  farkas-back y l right =
      written-read (lists_rows verdict.Infeasible [] kind.Row y) (table_of verdict.Infeasible [] kind.Row y) (length p.columns) (length p.rows) (cert.Farkas y)
      (rows-are verdict.Infeasible [] kind.Row y (omega arith) (omega (arith, l, few_rows)) (All-nil HasParts) right)
      (farkas-read y (length p.columns) (length p.rows) l right)

  pub ray-back : (x r : List ℚ) → HasLengths p (cert.Ray x r) → All HasParts x → All HasParts r → cert_read (cert_grid (cert.Ray x r)) (length p.columns) (length p.rows) ≡ Ok (cert.Ray x r)
  ray-back x r l left right =
      written-read (lists_rows verdict.Unbounded x kind.Ray r) (table_of verdict.Unbounded x kind.Ray r) (length p.columns) (length p.rows) (cert.Ray x r)
      (rows-are verdict.Unbounded x kind.Ray r (omega (arith, l.0, few_columns)) (omega (arith, l.1, few_columns)) left right)
      (ray-read x r (length p.columns) (length p.rows) l.0 l.1 left right)

-- ---- a call's answer, whatever its error
module _ (p : LinearProgram) (few_columns : length p.columns ≤ 2 ^ 30) (few_rows : length p.rows ≤ 2 ^ 30) {E : Type 0} where
  pub best-answer : (r : Result Grid E) (c : Cert) (x y : List ℚ) → HasLengths p c → c ≡ cert.Best x y → IfOk r (λ t. t ≡ with_header (lists_rows verdict.Optimal x kind.Row y)) → OnOk r (All HasParts x) → OnOk r (All HasParts y)
      → IfOk r (λ t. cert_read t (length p.columns) (length p.rows) ≡ Ok c)
  best-answer (Ok t) c x y l is e left right = subst₂ (λ g d. cert_read g (length p.columns) (length p.rows) ≡ Ok d) (sym e) (sym is) (best-back p few_columns few_rows x y (subst (HasLengths p) is l) left right)
  best-answer (Err f) c x y l is e left right = tt

  pub farkas-answer : (r : Result Grid E) (c : Cert) (y : List ℚ) → HasLengths p c → c ≡ cert.Farkas y → IfOk r (λ t. t ≡ with_header (lists_rows verdict.Infeasible [] kind.Row y)) → OnOk r (All HasParts y)
      → IfOk r (λ t. cert_read t (length p.columns) (length p.rows) ≡ Ok c)
  farkas-answer (Ok t) c y l is e right = subst₂ (λ g d. cert_read g (length p.columns) (length p.rows) ≡ Ok d) (sym e) (sym is) (farkas-back p few_columns few_rows y (subst (HasLengths p) is l) right)
  farkas-answer (Err f) c y l is e right = tt

  pub ray-answer : (r : Result Grid E) (c : Cert) (x y : List ℚ) → HasLengths p c → c ≡ cert.Ray x y → IfOk r (λ t. t ≡ with_header (lists_rows verdict.Unbounded x kind.Ray y)) → OnOk r (All HasParts x) → OnOk r (All HasParts y)
      → IfOk r (λ t. cert_read t (length p.columns) (length p.rows) ≡ Ok c)
  ray-answer (Ok t) c x y l is e left right = subst₂ (λ g d. cert_read g (length p.columns) (length p.rows) ≡ Ok d) (sym e) (sym is) (ray-back p few_columns few_rows x y (subst (HasLengths p) is l) left right)
  ray-answer (Err f) c x y l is e left right = tt
