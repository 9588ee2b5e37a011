-- Stores one after another, what a library then holds, and where they stop.
use Rattle.std.proofs.Common.{◌≡◌, ◌∙◌, ◌++◌, ◌+◌, ◌<◌, ◌≤◌, ℕ, List, [], ◌∷◌, Option, Some, None, length, take, drop, get_or, refl, sym, ap, subst, arith, append_assoc}
use Rattle.std.proofs.lemmas.List.{take-append-drop, take_more}
use Rattle.std.proofs.Math.Seq.{take-length}
use Rattle.std.specs.Prelude.{Result, Err, IsErrOf}
use Rattle.nf_io.specs.Causes.{HasPutCause, Rose}
use Rattle.nf_io.specs.Held.{Held, OthersStay, Stored, found}
use Rattle.nf_io.specs.declared.faults.PutFault.{PutFault}
use Rattle.nf_io.specs.declared.faults.PutFault.TheVariants as put
use Rattle.nf_delivery.specs.declared.report.OutSet.{OutSet}
use Rattle.nf_delivery.specs.Deliveries.{IsStoreFault}
use Rattle.nf_delivery.specs.Sets.{FailsAtStore, HoldsAll, HoldsOthers, StoresAll, StoresFirst, last_text, name_of}

-- ---- one more store
pub stores_more : (sets : List OutSet) (s : OutSet) (held mid now : Option Held) → StoresAll sets held mid → Stored mid now (name_of s) s.text → StoresAll (sets ++ s ∷ []) held now
stores_more [] s held mid now h k = (now, subst (λ v. Stored v now (name_of s) s.text) h k, refl)
stores_more (x ∷ sets) s held mid now h k = (h.0, h.1, stores_more sets s h.0 mid now h.2 k)

pub stores_after : (sets more : List OutSet) (held mid now : Option Held) → StoresAll sets held mid → StoresAll more mid now → StoresAll (sets ++ more) held now
stores_after [] more held mid now h k = subst (λ v. StoresAll more v now) h k
stores_after (x ∷ sets) more held mid now h k = (h.0, h.1, stores_after sets more h.0 mid now h.2 k)

-- ---- what a library then holds
pub holds_all : (sets : List OutSet) (held now : Option Held) → StoresAll sets held now → HoldsAll sets held now
holds_all [] None now h = h
holds_all [] (Some m) None h = cc h
holds_all [] (Some m) (Some n) h = λ q. let same : n ≡ m = cc in ap (λ v. found v q) same
holds_all (s ∷ sets) None now h = holds_all sets None now (subst (λ v. StoresAll sets v now) h.1 h.2)
holds_all (s ∷ sets) (Some m) now (None, h, k) = absurd h
holds_all (s ∷ sets) (Some m) None (Some mid, h, k) = holds_all sets (Some mid) None k
holds_all (s ∷ sets) (Some m) (Some n) (Some mid, h, k) = λ q. holds_all sets (Some mid) (Some n) k q ∙ ap (λ v. last_text v sets q) (h q)

holds_others : (sets : List OutSet) (held mid now : Option Held) (name : List ℕ) → HoldsAll sets held mid → OthersStay mid now name → HoldsOthers sets held now name
holds_others sets None None now name h k = k
holds_others sets None (Some m) now name h k = cc h
holds_others sets (Some m) None now name h k = absurd h
holds_others sets (Some m) (Some n) None name h k = absurd k
holds_others sets (Some m) (Some n) (Some o) name h k = λ q e. k q e ∙ h q

-- ---- a list at one of its places
take_next : {A : Type 0} (xs : List A) (i : ℕ) (x : A) → i < length xs → x ≡ get_or xs i x → take (i + 1) xs ≡ take i xs ++ x ∷ []
take_next xs i x h e = take_more xs i x h ∙ ap (λ v. take i xs ++ v ∷ []) (sym e)

split_at : {A : Type 0} (xs : List A) (i : ℕ) (x : A) → i < length xs → x ≡ get_or xs i x → xs ≡ take i xs ++ x ∷ drop (i + 1) xs
split_at xs i x h e = sym (take-append-drop (i + 1) xs) ∙ ap (λ v. v ++ drop (i + 1) xs) (take_next xs i x h e) ∙ append_assoc (take i xs) (x ∷ []) (drop (i + 1) xs)

-- ---- the loop of stores
pub stores_next : (sets : List OutSet) (i : ℕ) (s : OutSet) (name text : List ℕ) (held mid now : Option Held) → i < length sets → s ≡ get_or sets i s → name ≡ name_of s → text ≡ s.text
    → StoresAll (take i sets) held mid → Stored mid now name text → StoresAll (take (i + 1) sets) held now
stores_next sets i s name text held mid now h e n t l k =
    subst (λ v. StoresAll v held now) (sym (take_next sets i s h e)) (stores_more (take i sets) s held mid now l (subst (Stored mid now (name_of s)) t (subst (λ v. Stored mid now v text) n k)))

pub stores_whole : (sets : List OutSet) (i : ℕ) (held now : Option Held) → length sets ≤ i → i ≤ length sets → StoresAll (take i sets) held now → StoresAll sets held now
stores_whole sets i held now h k l =
    let e : i ≡ length sets = omega arith in
    subst (λ v. StoresAll v held now) (ap (λ n. take n sets) e ∙ take-length sets) l

pub stores_first : (sets : List OutSet) (i : ℕ) (held mid now : Option Held) → now ≡ mid → StoresAll (take i sets) held mid → StoresFirst sets held now
stores_first sets i held mid now e l = (take i sets, drop i sets, sym (take-append-drop i sets), subst (StoresAll (take i sets) held) (sym e) l)

pub fails_at : (sets : List OutSet) (i : ℕ) (s : OutSet) (held mid now : Option Held) → i < length sets → s ≡ get_or sets i s → StoresAll (take i sets) held mid → OthersStay mid now (name_of s)
    → FailsAtStore sets held now
fails_at sets i s held mid now h e l k =
    record {
      done = take i sets;
      failed = s;
      rest = drop (i + 1) sets;
      split = split_at sets i s h e;
      before = mid;
      stored = l;
      stays = k;
      others = holds_others (take i sets) held mid now (name_of s) (holds_all (take i sets) held mid l) k;
    }

-- the store that fails
later_rose : (before then after : ℕ) → before ≤ then → Rose then after → Rose before after
later_rose before then after h k = omega (arith, h, k)

pub store_fails : {T : Type 0} (r : Result T PutFault) (sets : List OutSet) (i : ℕ) (s : OutSet) (name : List ℕ) (held mid now : Option Held) (before then after : ℕ) (f : PutFault) → r ≡ Err f → i < length sets → s ≡ get_or sets i s → name ≡ name_of s → before ≤ then
    → StoresAll (take i sets) held mid → HasPutCause then after r → (IsErrOf r put.Failed → OthersStay mid now name) → (IsErrOf r put.NoMemory → now ≡ mid) → IsStoreFault sets held now before after f
store_fails r sets i s name held mid now before then after put.Failed e h at n later l cause failed no_memory =
    (later_rose before then after later (cause.failed e), fails_at sets i s held mid now h at l (subst (OthersStay mid now) n (failed e)))
store_fails r sets i s name held mid now before then after put.NoMemory e h at n later l cause failed no_memory = stores_first sets i held mid now (no_memory e) l
