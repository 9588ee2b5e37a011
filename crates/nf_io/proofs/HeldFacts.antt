-- A map's look-up is that of its list of names and bytes.
use Rattle.std.proofs.Common.{if◌then◌else◌, ◌≡◌, ℕ, String, Vec, List, [], ◌∷◌, inl, inr, Some, map, refl}
use Rattle.std.specs.Option.{option_map}
use Rattle.std.specs.String.{string_bytes, string_cmp}
use Rattle.std.specs.Map.{lookup}
use Rattle.std.specs.BTreeMap.{BTreeMap, Updates, get_by_text, is_at}
use Rattle.std.specs.Ordering.{nat_cmp}
use Rattle.std.specs.Cmp.Lexicographic.{slice_cmp}
use Rattle.std.specs.Str.{bytes_eq}
use Rattle.std.proofs.lemmas.Map.Text.{btree_map_updates_text, is_eq-slice_cmp}
use Rattle.std.proofs.lemmas.Bool.{cases_Bool}
use Rattle.std.specs.declared.alloc.Global.{Global}
use Rattle.nf_io.specs.Held.{found}
use Rattle.nf_io.specs.Sets.{sets_held}

-- the first entry of a name, by an ordered map's own comparison
found-list : (es : List (String Global × Vec ℕ Global)) (q : List ℕ)
    → found (map (λ e. (string_bytes e.0, e.1.items)) es) q ≡ option_map (λ v. v.items) (lookup (is_at (λ k. slice_cmp nat_cmp q (string_bytes k))) es)
unfolding found
found-list [] q = refl
found-list (e ∷ es) q = rw (is_eq-slice_cmp q (string_bytes e.0)) (elim (cases_Bool (bytes_eq q (string_bytes e.0))) [
  | inl same ↦ rw same refl
  | inr other ↦ rw other (found-list es q)
])

-- a name's bytes are what the ordered map gives for it
pub found-held : (m : BTreeMap (String Global) (Vec ℕ Global)) (q : List ℕ) → found (sets_held m) q ≡ option_map (λ v. v.items) (get_by_text m q)
found-held m q = found-list m.entries q

-- after an insertion the name has the new bytes, and each other name what it had
pub found-updated : (m n : BTreeMap (String Global) (Vec ℕ Global)) (name : String Global) (bytes : Vec ℕ Global)
    → Updates string_cmp m n name (Some bytes) → (q : List ℕ)
    → found (sets_held n) q ≡ (if bytes_eq (string_bytes name) q then Some bytes.items else found (sets_held m) q)
found-updated m n name bytes u q =
    let e = btree_map_updates_text (string_bytes name) m n (Some bytes) u q in
    rw (found-held n q, found-held m q, e) (elim (cases_Bool (bytes_eq (string_bytes name) q)) [
      | inl same ↦ rw same refl
      | inr other ↦ rw other refl
    ])
