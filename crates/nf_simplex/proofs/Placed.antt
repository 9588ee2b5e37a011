-- What changes of a state as data do to its places, and that it stays a state.
use Rattle.std.proofs.Common.{◌≡◌, ◌≢◌, ℕ, ◌<◌, ◌⊎◌, inl, inr, Bool, length, refl, sym, ap, ◌∙◌, subst}
use Rattle.std.proofs.lemmas.List.{get_or-set_same, get_or-set_other, length-set}
use Rattle.nf_model.specs.Program.{LinearProgram}
use Rattle.nf_simplex.specs.Place.{Place, Lower, Upper, Zero, Absent, Basic, IsBound, IsOtherBound}
use Rattle.nf_simplex.specs.Layout.{layout_of}
use Rattle.nf_simplex.specs.Columns.{Col, all_columns}
use Rattle.nf_simplex.specs.Step.{IsFlip, IsExchange}
use Rattle.nf_simplex.specs.Standing.{Standing, number_in, column_in, lower_in, upper_in, place_at, place_of, is_negative, stage_of, HasColumn, MayStandIn, FitsAt, IsStateOf}
use Rattle.nf_simplex.specs.Changes.{with_place, with_negative, exchanged, other_bound, flipped}
use Rattle.nf_simplex.proofs.Sum.{equal_or_not}

-- ---- one place
pub placed_here : (s : Standing) (j : ℕ) (a : Place) → j < length s.places → place_at (with_place s j a) j ≡ a
placed_here s j a h = get_or-set_same s.places j a Absent h

pub placed_other : (s : Standing) (j i : ℕ) (a : Place) → i ≢ j → place_at (with_place s j a) i ≡ place_at s i
placed_other s j i a n = get_or-set_other s.places j i a Absent n

pub placed_state : (p : LinearProgram) (s : Standing) (j : ℕ) (a : Place) → IsStateOf p s → HasColumn p s (column_in p j) → MayStandIn (lower_in p (column_in p j)) (upper_in p (column_in p j)) a → IsStateOf p (with_place s j a)
placed_state p s j a st there may = record {
  one_place_each = length-set s.places j a ∙ st.one_place_each;
  one_sign_each = st.one_sign_each;
  fits = λ i h. each i h (equal_or_not i j);
}
  where
    each : (i : ℕ) → i < all_columns (layout_of p) → (i ≡ j) ⊎ (i ≢ j) → FitsAt p (with_place s j a) i
    each i h (inl e) = record {
      present = λ g. subst (λ k. MayStandIn (lower_in p (column_in p k)) (upper_in p (column_in p k)) (place_at (with_place s j a) k)) (sym e)
          (subst (MayStandIn (lower_in p (column_in p j)) (upper_in p (column_in p j))) (sym (placed_here s j a (subst (λ m. j < m) (sym st.one_place_each) (subst (λ k. k < all_columns (layout_of p)) e h)))) may);
      absent = λ g. absurd (g (subst (λ k. HasColumn p s (column_in p k)) (sym e) there));
    }
    each i h (inr e) = record {
      present = λ g. subst (MayStandIn (lower_in p (column_in p i)) (upper_in p (column_in p i))) (sym (placed_other s j i a e)) ((st.fits i h).present g);
      absent = λ g. placed_other s j i a e ∙ (st.fits i h).absent g;
    }

-- ---- one sign
pub negative_here : (s : Standing) (r : ℕ) (b : Bool) → r < length s.negative → is_negative (with_negative s r b) r ≡ b
negative_here s r b h = get_or-set_same s.negative r b _ h

pub negative_other : (s : Standing) (r i : ℕ) (b : Bool) → i ≢ r → is_negative (with_negative s r b) i ≡ is_negative s i
negative_other s r i b n = get_or-set_other s.negative r i b _ n

pub negative_state : (p : LinearProgram) (s : Standing) (r : ℕ) (b : Bool) → IsStateOf p s → IsStateOf p (with_negative s r b)
negative_state p s r b st = record {
  one_place_each = st.one_place_each;
  one_sign_each = length-set s.negative r b ∙ st.one_sign_each;
  fits = λ i h. record { present = (st.fits i h).present; absent = (st.fits i h).absent };
}

-- ---- pivots and flips
pub exchanged_is : (p : LinearProgram) (s : Standing) (entering leaving : Col) (a : Place) → number_in p entering < length s.places → number_in p leaving < length s.places
    → length s.places ≡ all_columns (layout_of p) → place_of p s entering ≢ Basic → place_of p s leaving ≡ Basic → IsBound a
    → IsExchange (stage_of p s) (place_at s) (number_in p entering) (number_in p leaving) (place_at (exchanged p s entering leaving a))
exchanged_is p s entering leaving a h k all nonbasic basic bound = record {
  there = subst (λ m. number_in p leaving < m) all k;
  was_basic = basic;
  enters = placed_other (with_place s (number_in p entering) Basic) (number_in p leaving) (number_in p entering) a apart ∙ placed_here s (number_in p entering) Basic h;
  leaves = subst IsBound (sym (placed_here (with_place s (number_in p entering) Basic) (number_in p leaving) a (subst (λ m. number_in p leaving < m) (sym (length-set s.places (number_in p entering) Basic)) k))) bound;
  rest = λ j l d e. placed_other (with_place s (number_in p entering) Basic) (number_in p leaving) j a e ∙ placed_other s (number_in p entering) j Basic d;
}
  where
    apart : number_in p entering ≢ number_in p leaving
    apart e = nonbasic (ap (place_at s) e ∙ basic)

other_is : (a : Place) → IsBound a → IsOtherBound a (other_bound a)
other_is Lower b = refl
other_is Upper b = refl
other_is Zero b = b
other_is Absent b = b
other_is Basic b = b

pub flipped_is : (p : LinearProgram) (s : Standing) (c : Col) → number_in p c < length s.places → IsBound (place_of p s c) → IsFlip (stage_of p s) (place_at s) (number_in p c) (place_at (flipped p s c))
flipped_is p s c h b = record {
  other = subst (IsOtherBound (place_of p s c)) (sym (placed_here s (number_in p c) (other_bound (place_of p s c)) h)) (other_is (place_of p s c) b);
  rest = λ j l d. placed_other s (number_in p c) j (other_bound (place_of p s c)) d;
}
