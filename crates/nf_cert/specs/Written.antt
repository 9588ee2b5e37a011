-- The table of a certificate.
-- What `cert_table` writes rests on it, and that `read_cert` gives the certificate back.
use Rattle.std.specs.Prelude.{ℕ, suc, List, [], ◌∷◌, ◌++◌, codes, decimal}
use Rattle.nf_num.specs.Rational.{ℚ, numer, denom}
use Rattle.nf_frac.specs.Range.{AreParts}
use Rattle.nf_frac.specs.Texts.{frac_text}
use Rattle.nf_prob.specs.declared.cert.Cert.{Cert}
use Rattle.nf_prob.specs.declared.cert.Cert.TheVariants as cert
use Rattle.nf_table.specs.Grid.{Cells, Grid}
use Rattle.nf_cert.specs.declared.item.Kind.{Kind}
use Rattle.nf_cert.specs.declared.item.Kind.TheVariants as kind
use Rattle.nf_cert.specs.declared.verdict.Verdict.{Verdict}
use Rattle.nf_cert.specs.declared.verdict.Verdict.TheVariants as verdict
use Rattle.nf_cert.specs.Items.{word}
use Rattle.nf_cert.specs.Verdicts.{verdict_word}

-- The three columns.
abbrev pub cert_header : Cells
cert_header = codes "_ITEM_" ∷ codes "_NUMBER_" ∷ codes "_VALUE_" ∷ []

-- A row of a kind, with its number and its value.
abbrev pub written_row : Kind → ℕ → List ℕ → Cells
written_row k n value = word k ∷ decimal n ∷ value ∷ []

-- The rows of so many fractions of one kind, numbered from n on.
unfoldable pub frac_rows : Kind → ℕ → List ℚ → List Cells
frac_rows k n [] = []
frac_rows k n (x ∷ xs) = written_row k n (frac_text x) ∷ frac_rows k (suc n) xs

-- The verdict, the values of columns, and the rows of another kind.
abbrev pub lists_rows : Verdict → List ℚ → Kind → List ℚ → List Cells
lists_rows v values k others = written_row kind.Verdict 1 (verdict_word v) ∷ frac_rows kind.Column 1 values ++ frac_rows k 1 others

-- The rows of a certificate.
abbrev pub cert_rows : Cert → List Cells
cert_rows (cert.Best values duals) = lists_rows verdict.Optimal values kind.Row duals
cert_rows (cert.Farkas duals) = lists_rows verdict.Infeasible [] kind.Row duals
cert_rows (cert.Ray values ray) = lists_rows verdict.Unbounded values kind.Ray ray

-- A table with the three columns and these rows.
abbrev pub with_header : List Cells → Grid
with_header rows = record { header = cert_header; rows = rows; hand = [] }

-- The table of a certificate.
abbrev pub cert_grid : Cert → Grid
cert_grid c = with_header (cert_rows c)

-- The numerator and the denominator of a fraction are in range.
abbrev pub HasParts : ℚ → Type 0
HasParts x = AreParts (numer x) (denom x)
