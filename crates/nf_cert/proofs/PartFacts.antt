-- The rows of one kind, one after the other.
use Rattle.std.proofs.Common.{◌≡◌, ◌<◌, ◌+◌, ◌∙◌, ℕ, List, [], ◌∷◌, ◌++◌, take, drop, Some, refl, ap, arith}
use Rattle.std.specs.Prelude.{slice_get}
use Rattle.std.proofs.lemmas.Option.{slice_get_within, get_or_from_slice_get}
use Rattle.std.proofs.lemmas.List.{take_more, map-append, get_or-drop, length-append, length-drop}
use Rattle.nf_num.specs.Rational.{ℚ}
use Rattle.nf_cert.specs.declared.item.Kind.{Kind}
use Rattle.nf_cert.specs.declared.fault.CertFault.{CertFault}
use Rattle.nf_cert.specs.Items.{CertRow, item}
use Rattle.nf_cert.specs.Rows.{frac_at}
use Rattle.nf_cert.specs.Steps.{HasFrac, HasFracs, fault_below, first_in}
use Rattle.nf_cert.proofs.FirstFacts.{none-none, none-more, found}

pub fracs-none : (table : List CertRow) (above : ℕ) (k : Kind) → HasFracs table above k 0 []
unfolding first_in
fracs-none table above k = record { clear = none-none (λ i. fault_below table (above + i) (item k (i + 1))); fracs = refl; many = refl }

take-read : (table : List CertRow) (above i : ℕ) (r : CertRow) → slice_get table (above + i) ≡ Some r → take (i + 1) (drop above table) ≡ take i (drop above table) ++ r ∷ []
take-read table above i r there =
    let below = slice_get_within table (above + i) r there in
    let size = length-drop above table in
    take_more (drop above table) i r (omega (arith, below, size)) ∙ ap (λ (q : CertRow). take i (drop above table) ++ q ∷ []) (get_or-drop above table i r ∙ get_or_from_slice_get table (above + i) r r there)

pub fracs-more : (table : List CertRow) (above : ℕ) (k : Kind) (i : ℕ) (xs : List ℚ) (x : ℚ) → HasFracs table above k i xs → HasFrac table (above + i) (item k (i + 1)) x
    → HasFracs table above k (i + 1) (xs ++ x ∷ [])
unfolding first_in
fracs-more table above k i xs x before one = record {
  clear = none-more i (λ j. fault_below table (above + j) (item k (j + 1))) before.clear one.clear;
  fracs = rw (take-read table above i one.row one.there, map-append frac_at, before.fracs, one.frac) refl;
  many = let size = length-append xs (x ∷ []) in omega (arith, size, before.many);
}

pub first-found : (table : List CertRow) (above : ℕ) (k : Kind) (i count : ℕ) (xs : List ℚ) (e : CertFault) → HasFracs table above k i xs
    → fault_below table (above + i) (item k (i + 1)) ≡ Some e → i < count → first_in table above k count ≡ Some e
unfolding first_in
first-found table above k i count xs e before fault below =
    found count i (λ j. fault_below table (above + j) (item k (j + 1))) e before.clear fault below
