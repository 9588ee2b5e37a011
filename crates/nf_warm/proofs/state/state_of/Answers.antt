use Rattle.std.proofs.Common.{◌∙◌, map, refl}
use Rattle.nf_basis.specs.Names.{place_of}
use Rattle.nf_warm.specs.Standing.{standing_of}
use Rattle.nf_warm.proofs.StateFacts.{all-put, with-fits}
use Rattle.nf_warm.proofs.state.state_of.Goals as goal

pub put_places-requires-clause-fits : goal.put_places-requires-clause-fits
put_places-requires-clause-fits c =
    with-fits c.args.p.now c.in_ok-state.state.standing (standing_of c.args.two c.args.places.now c.args.artificials.now) (map place_of c.args.places.now) (c.in_ok-state.ensures.resting.stage ∙ c.stage_number.ensures.stage) refl c.in_ok-state.ensures.state.fits c.requires.fits

pub returns-clause-standing : goal.returns-clause-standing
returns-clause-standing c =
    all-put c.args.p.now c.args.two c.args.places.now c.args.artificials.now c.in_ok-state.state c.put_places.new.state c.put_signs.new.state (c.in_ok-state.ensures.resting.stage ∙ c.stage_number.ensures.stage) c.requires.fits c.put_places.ensures c.put_signs.ensures
