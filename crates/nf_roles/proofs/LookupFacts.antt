-- Facts on what maps of names say: one more name of a statement, and one more column of a header.
use Rattle.std.proofs.Common.{◌≡◌, ◌≤◌, ◌<◌, ◌+◌, ◌++◌, ◌⊎◌, ◌&&◌, ◌||◌, ℕ, Bool, true, false, List, [], ◌∷◌, Some, None, cond, eqb, not, length, filter, position, refl, sym, ap, ◌∙◌, inl, inr, arith}
use Rattle.std.proofs.lemmas.Bool.{cases_Bool, cases_lt, le-ltb, lt-ltb}
use Rattle.std.proofs.Math.Bool.{or-false}
use Rattle.std.proofs.lemmas.List.{length-append}
use Rattle.std.proofs.lemmas.List.Sums.{prefix_len-le-length}
use Rattle.std.proofs.lemmas.List.Elements.{filter-append}
use Rattle.std.proofs.lemmas.List.Folds.{list_any-append, position_or_len_push}
use Rattle.std.specs.Bool.{nat_lt}
use Rattle.std.specs.List.{list_any, position_or_len}
use Rattle.nf_table.specs.Grid.{Cells, column_of, same_name}
use Rattle.nf_cells.specs.Names.{Name}
use Rattle.nf_program.specs.declared.program.Role.{Role}
use Rattle.nf_program.specs.declared.program.Role.TheVariants as role
use Rattle.nf_roles.specs.declared.named.NamedColumn.{NamedColumn}
use Rattle.nf_roles.specs.declared.uses.Uses.{Uses}
use Rattle.nf_roles.specs.Assigned.{is_listed, names_of}
use Rattle.nf_roles.specs.First.{or_else}
use Rattle.nf_roles.specs.Lookups.{AreColumnsOf, AreUsesOf, IsOneColumnMore, IsOneMore, uses_of, with_role}
use Rattle.nf_roles.specs.Sets.{same_role}

-- ---- one more name of a statement
and-true : (b : Bool) → (b && true) ≡ b
and-true true = refl
and-true false = refl

and-false : (b : Bool) → (b && false) ≡ false
and-false true = refl
and-false false = refl

any-filter : {X : Type 0} (p : X → Bool) (xs : List X) → list_any p xs ≡ nat_lt 0 (length (filter p xs))
any-filter p [] = refl
any-filter p (x ∷ xs) = by_test (p x) (any-filter p xs)
  where
    by_test : (b : Bool) → list_any p xs ≡ nat_lt 0 (length (filter p xs)) → (b || list_any p xs) ≡ nat_lt 0 (length (cond b (x ∷ filter p xs) (filter p xs)))
    by_test true h = sym (lt-ltb 0 (length (x ∷ filter p xs)) (omega arith))
    by_test false h = h

twice : (l : ℕ) → nat_lt 1 (l + 1) ≡ (nat_lt 1 l || nat_lt 0 l)
twice l = elim (cases_lt 0 l) [
  | inl some ↦ rw (lt-ltb 0 l some, lt-ltb 1 (l + 1) (omega (arith, some))) (sym (or-true (nat_lt 1 l)))
  | inr none ↦ rw (le-ltb 0 l none, le-ltb 1 (l + 1) (omega (arith, none)), le-ltb 1 l (omega (arith, none))) refl
]
  where
    or-true : (b : Bool) → (b || true) ≡ true
    or-true true = refl
    or-true false = refl

listed-more : (names : List NamedColumn) (n : NamedColumn) (cell : Name) (b : Bool) (r : Role) → same_name n.name cell ≡ b → is_listed (names ++ n ∷ []) r cell ≡ (is_listed names r cell || (same_role r n.role && b))
listed-more names n cell b r e = rw (list_any-append (λ m. same_role r m.role && same_name m.name cell) names (n ∷ []), e, or-false (same_role r n.role && b)) refl

pub uses-more : (names : List NamedColumn) (n : NamedColumn) (cell : Name) → uses_of (names ++ n ∷ []) cell ≡ cond (same_name n.name cell) (with_role (uses_of names cell) n.role) (uses_of names cell)
uses-more names n cell = by_cases (cases_Bool (same_name n.name cell))
  where
    p : NamedColumn → Bool
    p m = same_name m.name cell

    by_cases : (same_name n.name cell ≡ true) ⊎ (same_name n.name cell ≡ false) → uses_of (names ++ n ∷ []) cell ≡ cond (same_name n.name cell) (with_role (uses_of names cell) n.role) (uses_of names cell)
    by_cases (inl e) =
        let size : length (names_of (names ++ n ∷ []) cell) ≡ length (names_of names cell) + 1 = rw (filter-append p names (n ∷ []), e, length-append (filter p names) (n ∷ [])) refl in
        let is_twice : nat_lt 1 (length (names_of (names ++ n ∷ []) cell)) ≡ (nat_lt 1 (length (names_of names cell)) || list_any p names) = rw (size, any-filter p names) (twice (length (names_of names cell))) in
        let is_named : list_any p (names ++ n ∷ []) ≡ true = rw (list_any-append p names (n ∷ []), e) (or-true (list_any p names)) in
        let variable = listed-more names n cell true role.Var e in
        let id = listed-more names n cell true role.Id e in
        rw (e, is_named, is_twice, variable, id, and-true (same_role role.Var n.role), and-true (same_role role.Id n.role)) refl
      where
        or-true : (b : Bool) → (b || true) ≡ true
        or-true true = refl
        or-true false = refl
    by_cases (inr e) =
        let size : length (names_of (names ++ n ∷ []) cell) ≡ length (names_of names cell) = rw (filter-append p names (n ∷ []), e, length-append (filter p names) []) (omega arith) in
        let is_named : list_any p (names ++ n ∷ []) ≡ list_any p names = rw (list_any-append p names (n ∷ []), e) (or-false (list_any p names)) in
        let variable = listed-more names n cell false role.Var e in
        let id = listed-more names n cell false role.Id e in
        rw (e, is_named, size, variable, id, and-false (same_role role.Var n.role), and-false (same_role role.Id n.role), or-false (is_listed names role.Var cell), or-false (is_listed names role.Id cell)) refl

pub uses-next : (old new : List (Name × Uses)) (names : List NamedColumn) (n : NamedColumn) → AreUsesOf old names → IsOneMore old n new → AreUsesOf new (names ++ n ∷ [])
uses-next old new names n h more = λ cell. more cell ∙ ap (λ u. cond (same_name n.name cell) (with_role u n.role) u) (h cell) ∙ sym (uses-more names n cell)

-- ---- one more column of a header
-- where a list with one more element passes a test first, by where it does without it
push-at : (l n m s : ℕ) (b : Bool) → l ≤ n → m ≡ cond (eqb l n) (n + cond b 0 1) l → s ≡ n + 1 → cond (nat_lt m s) (Some m) None ≡ or_else (cond (nat_lt l n) (Some l) None) (cond b (Some n) None)
push-at l n m s b within is size = by_cases (cases_lt l n) b is
  where
    by_cases : (l < n) ⊎ (n ≤ l) → (b : Bool) → m ≡ cond (eqb l n) (n + cond b 0 1) l → cond (nat_lt m s) (Some m) None ≡ or_else (cond (nat_lt l n) (Some l) None) (cond b (Some n) None)
    by_cases (inl less) b is =
        let here : m ≡ l = grind (arith, is, less) in
        rw (lt-ltb l n less, here, lt-ltb l s (omega (arith, less, size))) refl
    by_cases (inr none) true is =
        let all : l ≡ n = omega (arith, none, within) in
        let here : m ≡ n = grind (arith, is, all) in
        rw (le-ltb l n none, here, lt-ltb n s (omega (arith, size))) refl
    by_cases (inr none) false is =
        let all : l ≡ n = omega (arith, none, within) in
        let here : m ≡ n + 1 = grind (arith, is, all) in
        rw (le-ltb l n none, le-ltb m s (omega (arith, here, size))) refl

position-push : {X : Type 0} (p : X → Bool) (xs : List X) (y : X) → position p (xs ++ y ∷ []) ≡ or_else (position p xs) (cond (p y) (Some (length xs)) None)
position-push p xs y = push-at (position_or_len p xs) (length xs) (position_or_len p (xs ++ y ∷ [])) (length (xs ++ y ∷ [])) (p y) (prefix_len-le-length (λ x. not (p x)) xs) (position_or_len_push p xs y) (length-append xs (y ∷ []))

pub columns-next : (uses : List (Name × Uses)) (old new : List (Name × ℕ)) (header : Cells) (cell : Name) (column : ℕ) → column ≡ length header → AreColumnsOf uses old header → IsOneColumnMore uses old cell column new
    → AreColumnsOf uses new (header ++ cell ∷ [])
columns-next uses old new header cell column is h more =
    λ name named. more name named ∙ ap (λ o. or_else o (cond (same_name name cell) (Some column) None)) (h name named) ∙ ap (λ c. or_else (column_of header name) (cond (same_name name cell) (Some c) None)) is
    ∙ sym (position-push (same_name name) header cell)
