use Rattle.std.proofs.Common.{◌≡◌, ◌≢◌, List, Option, refl}
use Rattle.alg_reader.specs.declared.place.Place.TheVariants.{Start}
use Rattle.alg_reader.specs.declared.raw.RawAnswer.{RawAnswer}
use Rattle.alg_reader.specs.declared.raw.RawAnswer.TheVariants as answers
use Rattle.alg_reader.specs.declared.raw.RawNumber.{RawNumber}
use Rattle.alg_annotated.specs.Places as places
use Rattle.alg_annotated.proofs.open_answer.place_behind_answer.Goals as goal

-- no lines stand behind another answer
starts : (said : RawAnswer) → ((version : Option RawNumber) (power : RawNumber) (constants : List RawNumber) →
    said ≢ answers.Certified version power constants) → Start ≡ places.place_behind_answer said
starts (answers.Certified version power constants) other = absurd (other version power constants refl)
starts said other = refl

pub returns-in_default : goal.returns-in_default
returns-in_default c = starts c.args.said.now c.in_default.not-Certified
