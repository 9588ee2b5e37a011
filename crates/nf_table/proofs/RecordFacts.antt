-- A record takes at least one byte, so the records of a text are not more than its bytes; and a
-- cell ends at a byte or with the text, so the cells of a record are at most one more.
use Rattle.std.proofs.Common.{◌≡◌, ◌-◌, ◌+◌, ◌==◌, ◌||◌, ◌<◌, ◌≤◌, if◌then◌else◌, ◌++◌, ◌∷◌, ℕ, zero, suc, List, [], Option, Some, None, Bool, true, false, length, refl, inl, inr, arith, length-append}
use Rattle.std.proofs.lemmas.Bool.{cases_Bool}
use Rattle.csv.specs.Machine.{Read, ends_at_end, fields_after, field_after, in_field, is_end, next_record, start_field, start_record, step}
use Rattle.csv.specs.Reading.{default_config, is_bom, records_from, strip_bom}
use Rattle.csv.specs.declared.parser.Action.{Action}
use Rattle.csv.specs.declared.parser.Action.TheVariants as act
use Rattle.csv.specs.declared.parser.State.{State}
use Rattle.csv.specs.declared.parser.State.TheVariants as st

-- after the end of a record the end of the text ends no other
abbrev EndRests : State × Action → Type 0
EndRests p = is_end p.1 ≡ true → ends_at_end p.0 ≡ false

if-rests : (b : Bool) (p q : State × Action) → EndRests p → EndRests q → EndRests (if b then p else q)
if-rests true p q h k = h
if-rests false p q h k = k

after-rests : (b : Bool) → ends_at_end (if b then st.AfterCr else st.StartRecord) ≡ false
after-rests true = refl
after-rests false = refl

in-field-rests : (c : ℕ) → EndRests (in_field default_config c)
in-field-rests c = if-rests (c == 44) _ _ (λ h. cc h) (if-rests ((c == 13) || (c == 10)) _ _ (λ h. after-rests (c == 13)) (λ h. cc h))

start-rests : (c : ℕ) → EndRests (start_field default_config c)
start-rests c = if-rests (c == 34) _ _ (λ h. cc h) (in-field-rests c)

record-rests : (c : ℕ) → EndRests (start_record default_config c)
record-rests c = if-rests ((c == 13) || (c == 10)) _ _ (λ h. refl) (start-rests c)

end-rests : (s : State) (c : ℕ) → EndRests (step default_config s c)
end-rests st.StartRecord c = record-rests c
end-rests st.StartField c = start-rests c
end-rests st.InField c = in-field-rests c
end-rests st.InQuoted c = if-rests (c == 34) _ _ (λ h. cc h) (λ h. cc h)
end-rests st.InEscape c = λ h. cc h
end-rests st.AfterQuote c = if-rests (c == 34) _ _ (λ h. cc h) (in-field-rests c)
end-rests st.InComment c = if-rests (c == 10) _ _ (λ h. refl) (λ h. cc h)
end-rests st.AfterCr c = if-rests (c == 10) _ _ (λ h. refl) (record-rests c)

-- what a record leaves: less than it had, unless it had nothing
pub next-rests : (s : State) (fields : List (List ℕ)) (field xs : List ℕ) (p : Read) → next_record default_config s fields field xs ≡ Some p
    → (ends_at_end p.1 ≡ false) × (length p.2 ≤ length xs - 1)
unfolding next_record
next-rests s fields field [] p = elim (cases_Bool (ends_at_end s)) [
  | inl ends ↦ rw ends (λ h. let same : (fields ++ (field ∷ []), st.StartRecord, []) ≡ p = cc h in rw (← same) (refl, omega arith))
  | inr rests ↦ rw rests (λ h. cc h)
]
next-rests s fields field (c ∷ rest) p = elim (cases_Bool (is_end (step default_config s c).1)) [
  | inl ends ↦ rw ends (λ h. let same : (fields_after (step default_config s c).1 fields field, (step default_config s c).0, rest) ≡ p = cc h in rw (← same) (end-rests s c ends, omega arith))
  | inr on ↦ rw on (λ h. let later = next-rests (step default_config s c).0 (fields_after (step default_config s c).1 fields field) (field_after (step default_config s c).1 c field) rest p h in (later.0, omega (arith, later.1)))
]

-- the next record is shorter than what there was
pub next-shorter : (s : State) (xs : List ℕ) (p : Read) → ends_at_end s ≡ false → next_record default_config s [] [] xs ≡ Some p
    → (ends_at_end p.1 ≡ false) × (length p.2 < length xs)
unfolding next_record
next-shorter s [] p rests h = cc (rw rests at h)
next-shorter s (c ∷ rest) p rests h = let later = next-rests s [] [] (c ∷ rest) p h in (later.0, omega (arith, later.1))

-- the records, where there is none, and where there is a next one
pub records-none : (n : ℕ) (s : State) (xs : List ℕ) → next_record default_config s [] [] xs ≡ None → records_from default_config n s xs ≡ []
unfolding records_from
records-none zero s xs h = refl
records-none (suc n) s xs h = rw h refl

pub records-some : (n : ℕ) (s : State) (xs : List ℕ) (p : Read) → length xs < n → ends_at_end s ≡ false → next_record default_config s [] [] xs ≡ Some p
    → (m : ℕ) × (records_from default_config n s xs ≡ p.0 ∷ records_from default_config m p.1 p.2) × (length p.2 < m)
unfolding records_from
records-some zero s xs p enough rests h = absurd (omega (arith, enough))
records-some (suc n) s xs p enough rests h = (n, rw h refl, omega (arith, enough, (next-shorter s xs p rests h).1))

-- more fuel gives no more records
fuel-step : (n m : ℕ) (s : State) (xs : List ℕ) (o : Option Read) → next_record default_config s [] [] xs ≡ o
    → ((p : Read) → next_record default_config s [] [] xs ≡ Some p → records_from default_config n p.1 p.2 ≡ records_from default_config m p.1 p.2)
    → records_from default_config (suc n) s xs ≡ records_from default_config (suc m) s xs
unfolding records_from
fuel-step n m s xs None e same = rw e refl
fuel-step n m s xs (Some p) e same = let more = same p e in rw (e, more) refl

pub records-fuel : (n m : ℕ) (s : State) (xs : List ℕ) → length xs < n → length xs < m → ends_at_end s ≡ false → records_from default_config n s xs ≡ records_from default_config m s xs
records-fuel zero m s xs h k rests = absurd (omega (arith, h))
records-fuel (suc n) zero s xs h k rests = absurd (omega (arith, k))
records-fuel (suc n) (suc m) s xs h k rests = fuel-step n m s xs _ refl (λ p e.
    let later = next-shorter s xs p rests e in
    records-fuel n m p.1 p.2 (omega (arith, h, later.1)) (omega (arith, k, later.1)) later.0)

-- a byte ends at most one cell
after-few : (a : Action) (fields : List (List ℕ)) (field : List ℕ) → length (fields_after a fields field) ≤ length fields + 1
after-few act.EndField fields field = rw length-append (omega arith)
after-few act.Skip fields field = omega arith
after-few act.Copy fields field = omega arith
after-few act.EndRecord fields field = rw length-append (omega arith)

next-few : (s : State) (fields : List (List ℕ)) (field xs : List ℕ) (p : Read) → next_record default_config s fields field xs ≡ Some p → length p.0 ≤ length fields + length xs + 1
unfolding next_record
next-few s fields field [] p = elim (cases_Bool (ends_at_end s)) [
  | inl ends ↦ rw ends (λ h. let same : (fields ++ (field ∷ []), st.StartRecord, []) ≡ p = cc h in rw (← same, length-append) (omega arith))
  | inr rests ↦ rw rests (λ h. cc h)
]
next-few s fields field (c ∷ rest) p = elim (cases_Bool (is_end (step default_config s c).1)) [
  | inl ends ↦ rw ends (λ h.
      let same : (fields_after (step default_config s c).1 fields field, (step default_config s c).0, rest) ≡ p = cc h in
      let few = after-few (step default_config s c).1 fields field in
      rw (← same) (omega (arith, few)))
  | inr on ↦ rw on (λ h.
      let later = next-few (step default_config s c).0 (fields_after (step default_config s c).1 fields field) (field_after (step default_config s c).1 c field) rest p h in
      let few = after-few (step default_config s c).1 fields field in
      omega (arith, later, few))
]

-- the cells of a record are at most one more than the bytes
pub cells-few : (s : State) (xs : List ℕ) (p : Read) → next_record default_config s [] [] xs ≡ Some p → length p.0 ≤ length xs + 1
cells-few s xs p h = let few = next-few s [] [] xs p h in omega (arith, few)

-- a text is no longer without a byte order mark
pub strip-shorter : (xs : List ℕ) → length (strip_bom xs) ≤ length xs
unfolding strip_bom
strip-shorter [] = omega arith
strip-shorter (a ∷ []) = omega arith
strip-shorter (a ∷ b ∷ []) = omega arith
strip-shorter (a ∷ b ∷ c ∷ rest) = elim (cases_Bool (is_bom a b c)) [
  | inl bom ↦ rw bom (omega arith)
  | inr text ↦ rw text (omega arith)
]
