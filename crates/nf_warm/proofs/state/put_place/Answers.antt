use Rattle.std.proofs.Common.{◌≡◌, ◌≢◌, ◌∙◌, ◌<◌, ◌⊎◌, inl, inr, map, refl, sym, subst, ap, arith}
use Rattle.std.proofs.lemmas.List.{length-map}
use Rattle.nf_simplex.specs.Place as model
use Rattle.nf_simplex.specs.Columns.{all_columns, col_lower, col_upper}
use Rattle.nf_simplex.specs.Layout.{layout_of}
use Rattle.nf_simplex.specs.StageOf.{IsPresent}
use Rattle.nf_simplex.specs.Standing.{MayStandIn}
use Rattle.nf_basis.specs.Loading.{with_places}
use Rattle.nf_basis.specs.Names.{place_of}
use Rattle.nf_basis.specs.declared.col.Place.{Place}
use Rattle.nf_basis.specs.declared.col.Place.TheVariants as place
use Rattle.nf_warm.proofs.StateFacts.{absent-too, stands}
use Rattle.nf_warm.proofs.state.put_place.Goals as goal

pub set_place-requires : goal.set_place-requires
set_place-requires c =
    let within : c.args.at < all_columns (layout_of c.args.p.now) = omega (arith, c.requires.within, c.requires.fits.one_place_each, length-map c.args.places.now place_of) in
    let s = stands c.args.p.now (with_places c.args.state.now.standing (map place_of c.args.places.now)) c.requires.fits c.args.at within (λ e. there c.args.place c.in-Lower.is (c.requires.place ∙ e)) in
    record {
      state = c.requires.state;
      present = (c.column_at.ensures.named, subst (IsPresent (layout_of c.args.p.now) c.args.state.now.standing.stage) (sym c.column_at.ensures.column) s.0);
      place = subst (λ a. MayStandIn (col_lower (layout_of c.args.p.now) a) (col_upper (layout_of c.args.p.now) a) (place_of c.args.place)) (sym c.column_at.ensures.column) (subst (MayStandIn _ _) (sym c.requires.place) s.1);
    }
  where
    there : (a : Place) → (a ≡ place.Lower) ⊎ ((a ≡ place.Upper) ⊎ ((a ≡ place.Zero) ⊎ (a ≡ place.Basic))) → place_of a ≢ model.Absent
    there place.Lower h e = cc
    there place.Upper h e = cc
    there place.Zero h e = cc
    there place.Basic h e = cc
    there place.Absent (inl h) e = cc
    there place.Absent (inr (inl h)) e = cc
    there place.Absent (inr (inr (inl h))) e = cc
    there place.Absent (inr (inr (inr h))) e = cc

pub returns-in-Absent : goal.returns-in-Absent
returns-in-Absent c =
    let within : c.args.at < all_columns (layout_of c.args.p.now) = omega (arith, c.requires.within, c.requires.fits.one_place_each, length-map c.args.places.now place_of) in
    let gone : place_of c.args.place ≡ model.Absent = ap place_of c.in-Absent.is in
    record {
      state = c.requires.state;
      stage = refl;
      signs = refl;
      placed = absent-too c.args.p.now (with_places c.args.state.now.standing (map place_of c.args.places.now)) c.args.state.now.standing refl c.requires.fits c.requires.state.fits c.args.at within (sym c.requires.place ∙ gone) ∙ sym gone;
      others = λ k n. refl;
    }
