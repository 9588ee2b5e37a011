-- Reports that are delivered one after another.
use Rattle.std.proofs.Common.{◌≡◌, ◌∙◌, ◌++◌, ℕ, List, [], ◌∷◌, Option, Some, None, refl, sym, ap, subst, append-nil}
use Rattle.std.proofs.lemmas.Grind.{flat_map-append}
use Rattle.std.specs.Prelude.{flat_map}
use Rattle.std.specs.Io.KnownBytes.{Appends}
use Rattle.nf_io.specs.Held.{Held}
use Rattle.nf_io.proofs.KnownFacts.{appends-more}
use Rattle.nf_delivery.specs.declared.report.Report.{Report}
use Rattle.nf_delivery.specs.Deliveries.{Delivers, report_sets, report_text, sets_of, text_of}
use Rattle.nf_delivery.specs.Sets.{StoresAll}
use Rattle.nf_delivery.proofs.StoreFacts.{stores_after}

pub appends_nothing : (o : Option (List ℕ)) → Appends o o []
appends_nothing None = tt
appends_nothing (Some x) = sym (append-nil x)

-- before the first report
pub delivers_none : (old : Option (List ℕ)) (held : Option Held) → Delivers [] old old held held
delivers_none old held = record { listed = appends_nothing old; stored = refl }

-- the reports with one more, part by part
pub flat_more : {A B : Type 0} (f : A → List B) (xs : List A) (x : A) → flat_map f (xs ++ x ∷ []) ≡ flat_map f xs ++ f x
flat_more f xs x = flat_map-append f xs (x ∷ []) ∙ ap (λ v. flat_map f xs ++ v) (append-nil (f x))

-- one report more
pub delivers_more : (reports : List Report) (r : Report) (old mid new : Option (List ℕ)) (held was now : Option Held)
    → Delivers reports old mid held was → Appends mid new (report_text r) → StoresAll (report_sets r) was now → Delivers (reports ++ r ∷ []) old new held now
delivers_more reports r old mid new held was now d a s =
    record {
      listed = subst (Appends old new) (sym (flat_more report_text reports r)) (appends-more old mid new (text_of reports) (report_text r) d.listed a);
      stored = subst (λ v. StoresAll v held now) (sym (flat_more report_sets reports r)) (stores_after (sets_of reports) (report_sets r) held was now d.stored s);
    }
