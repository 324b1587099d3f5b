use Rattle.std.proofs.Common.{◌≡◌, ◌≢◌, refl}
use Rattle.alg_reader.specs.declared.place.Place.{Place}
use Rattle.alg_reader.specs.declared.place.Place.TheVariants.{Lines, LinesTwo}
use Rattle.alg_annotated.specs.Places as places
use Rattle.alg_annotated.proofs.open_answer.steps_of.Goals as goal

-- no other place is one of lines
stays : (place : Place) → place ≢ Lines → place ≢ LinesTwo → place ≡ places.steps_of place
stays Lines first second = absurd (first refl)
stays LinesTwo first second = absurd (second refl)
stays place first second = refl

pub returns-in_default : goal.returns-in_default
returns-in_default c = stays c.args.place c.in_default.not-Lines c.in_default.not-LinesTwo
