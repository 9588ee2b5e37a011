-- What a delivery of a report leaves, and of several: what is stored and what is written, also after a fault.
-- That a listing is the text of the reports of its statements, and the stored sets are theirs, rests on it.
use Rattle.std.specs.Prelude.{◌≡◌, ◌⊎◌, ℕ, List, Option, flat_map}
use Rattle.std.specs.Io.KnownBytes.{Appends}
use Rattle.nf_io.specs.Causes.{Rose}
use Rattle.nf_io.specs.Held.{Held}
use Rattle.nf_io.specs.Progress.{PutPrefix}
use Rattle.nf_io.specs.declared.faults.PutFault.{PutFault}
use Rattle.nf_io.specs.declared.faults.PutFault.TheVariants as put
use Rattle.nf_delivery.specs.declared.delivery.DeliveryFault.{DeliveryFault}
use Rattle.nf_delivery.specs.declared.delivery.DeliveryFault.TheVariants as fault
use Rattle.nf_delivery.specs.declared.report.OutSet.{OutSet}
use Rattle.nf_delivery.specs.declared.report.Report.{Report}
use Rattle.nf_delivery.specs.Sets.{FailsAtStore, StoresAll, StoresFirst}

-- ---- reports
-- The sets of a report, and those of reports one after another.
abbrev pub report_sets : Report → List OutSet
report_sets r = r.sets.items

abbrev pub sets_of : List Report → List OutSet
sets_of reports = flat_map report_sets reports

-- The text of a report, and that of reports one after another.
abbrev pub report_text : Report → List ℕ
report_text r = r.text

abbrev pub text_of : List Report → List ℕ
text_of reports = flat_map report_text reports

-- Reports were delivered: their sets stored, and their texts written.
pub record Delivers (reports : List Report) (old new : Option (List ℕ)) (held now : Option Held) : Type 0 where
  pub listed : Appends old new (text_of reports)
  pub stored : StoresAll (sets_of reports) held now

-- ---- faults
-- The fault of a delivery from that of a store or a write.
abbrev pub delivery_fault : PutFault → DeliveryFault
delivery_fault put.Failed = fault.Write
delivery_fault put.NoMemory = fault.NoMemory

-- The stores of sets fail: at a store whose faults rose, or for want of memory.
abbrev pub IsStoreFault : List OutSet → Option Held → Option Held → ℕ → ℕ → PutFault → Type 0
IsStoreFault sets held now before after put.Failed = Rose before after × FailsAtStore sets held now
IsStoreFault sets held now before after put.NoMemory = StoresFirst sets held now

-- All sets of a report are stored, and a first part of its text written.
abbrev pub WritesPart : Report → Option (List ℕ) → Option (List ℕ) → Option Held → Option Held → Type 0
WritesPart r old new held now = PutPrefix old new (report_text r) × StoresAll (report_sets r) held now

-- A delivery of a report fails: at a store, before anything is written; at a write, after all stores; or for want of
-- memory at either.
abbrev pub IsDeliveryFault : Report → Option (List ℕ) → Option (List ℕ) → ℕ → ℕ → Option Held → Option Held → ℕ → ℕ → DeliveryFault → Type 0
IsDeliveryFault r old new before after held now stores stores_after fault.Write =
    (Rose before after × WritesPart r old new held now) ⊎ (Rose stores stores_after × (new ≡ old) × FailsAtStore (report_sets r) held now)
IsDeliveryFault r old new before after held now stores stores_after fault.NoMemory =
    ((new ≡ old) × StoresFirst (report_sets r) held now) ⊎ WritesPart r old new held now
