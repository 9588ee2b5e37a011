-- Working definitions, on which the promise of `read_cert` does not rest: how far the reading of a certificate's rows has
-- come. The small functions below `read_cert` promise these.
use Rattle.std.specs.Prelude.{◌≡◌, ◌+◌, ℕ, List, length, map, take, drop, slice_get, Option, Some, None, Ok, true}
use Rattle.nf_num.specs.Rational.{ℚ}
use Rattle.nf_prob.specs.declared.cert.Cert.{Cert}
use Rattle.nf_prob.specs.declared.cert.Cert.TheVariants as cert
use Rattle.nf_cert.specs.declared.item.Kind.{Kind}
use Rattle.nf_cert.specs.declared.item.Item.{Item}
use Rattle.nf_cert.specs.declared.fault.CertFault.{CertFault}
use Rattle.nf_cert.specs.First.{first_below}
use Rattle.nf_cert.specs.declared.item.Kind.TheVariants as kind
use Rattle.nf_cert.specs.declared.rows.Lists.{Lists}
use Rattle.nf_cert.specs.declared.verdict.Verdict.{Verdict}
use Rattle.nf_cert.specs.Items.{CertRow, is_of, item, items_with}
use Rattle.nf_cert.specs.Rows.{first_fault, frac_at, fracs_at, row_fault, value_fault, verdict_of}

-- The fault of the row below so many, where this item is due.
abbrev pub fault_below : List CertRow → ℕ → Item → Option CertFault
fault_below table above i = row_fault (above + 1) (Some i) (slice_get table above)

-- The row below so many is the one that is due, and has this value.
pub record HasValue (table : List CertRow) (above : ℕ) (i : Item) (v : List ℕ) : Type 0 where
  pub row : CertRow
  pub there : slice_get table above ≡ Some row
  pub due : is_of i row ≡ true
  pub value : v ≡ row.value
  pub fault : fault_below table above i ≡ value_fault (above + 1) i.kind v

-- The row below so many is the one that is due, and has this fraction.
pub record HasFrac (table : List CertRow) (above : ℕ) (i : Item) (x : ℚ) : Type 0 where
  pub row : CertRow
  pub there : slice_get table above ≡ Some row
  pub frac : x ≡ frac_at row
  pub clear : fault_below table above i ≡ None

-- The first fault of the items of one kind, from 1, in the rows below so many.
unfoldable pub first_in : List CertRow → ℕ → Kind → ℕ → Option CertFault
first_in table above k count = first_below count (λ i. fault_below table (above + i) (item k (i + 1)))

-- The rows below so many are those of one kind, with these fractions.
pub record HasFracs (table : List CertRow) (above : ℕ) (k : Kind) (count : ℕ) (xs : List ℚ) : Type 0 where
  pub clear : first_in table above k count ≡ None
  pub fracs : xs ≡ map frac_at (take count (drop above table))
  pub many : length xs ≡ count

-- A certificate has so many values, and so many duals or as many parts of a ray as values.
abbrev pub HasSizes : ℕ → ℕ → Cert → Type 0
HasSizes columns rows (cert.Best values duals) = (length values ≡ columns) × (length duals ≡ rows)
HasSizes columns rows (cert.Farkas duals) = length duals ≡ rows
HasSizes columns rows (cert.Ray values ray) = (length values ≡ columns) × (length ray ≡ columns)

-- The first row is the row of the verdict, with this one.
pub record HasVerdict (table : List CertRow) (v : Verdict) : Type 0 where
  pub is : verdict_of (slice_get table 0) ≡ Ok v
  pub clear : fault_below table 0 (item kind.Verdict 1) ≡ None

-- The rows after the verdict have no fault, and are those of these values and these others.
pub record HasLists (table : List CertRow) (columns : ℕ) (k : Kind) (count : ℕ) (l : Lists) : Type 0 where
  pub clear : first_fault (items_with columns k count) table ≡ None
  pub values : l.values ≡ fracs_at 1 columns table
  pub others : l.others ≡ fracs_at (1 + columns) count table
  pub many_values : length l.values ≡ columns
  pub many_others : length l.others ≡ count
