-- The definition of the first fault at work: small tables for so many columns and rows, computed.
use Rattle.std.proofs.Common.{◌≡◌, ℕ, List, [], ◌∷◌, Some, refl}
use Rattle.std.specs.Fmt.{digits}
use Rattle.std.specs.Prelude.{codes}
use Rattle.nf_frac.specs.Texts.{frac_read}
use Rattle.nf_cert.specs.declared.fault.CertFault.TheVariants as fault
use Rattle.nf_cert.specs.declared.item.Kind.TheVariants as kind
use Rattle.nf_cert.specs.First.{first_below}
use Rattle.nf_cert.specs.Items.{CertRow, items, items_with}
use Rattle.nf_cert.specs.Rows.{fault_at, first_fault}

abbrev row : List ℕ → List ℕ → List ℕ → CertRow
row name number value = record { name = name; number = number; value = value }

abbrev verdict : CertRow
verdict = row (codes "VERDICT") (codes "1") (codes "OPTIMAL")

one-short : first_fault (items_with 1 kind.Row 2) (verdict ∷ row (codes "COL") (codes "1") (codes "5") ∷ row (codes "ROW") (codes "1") (codes "0") ∷ []) ≡ Some (fault.MissingRow 4)
unfolding first_fault first_below fault_at items_with items frac_read digits
one-short = refl

leading-zero : first_fault (items_with 1 kind.Row 2) (verdict ∷ row (codes "COL") (codes "01") (codes "5") ∷ []) ≡ Some (fault.UnknownRow 2)
unfolding first_fault first_below fault_at items_with items frac_read digits
leading-zero = refl

no-fraction : first_fault (items_with 1 kind.Row 0) (verdict ∷ row (codes "COL") (codes "1") (codes "5.0") ∷ []) ≡ Some (fault.Number 2)
unfolding first_fault first_below fault_at items_with items frac_read digits
no-fraction = refl

too-many : first_fault (items_with 0 kind.Row 0) (verdict ∷ verdict ∷ []) ≡ Some (fault.UnknownRow 2)
unfolding first_fault first_below fault_at items_with items frac_read digits
too-many = refl
