use Rattle.std.proofs.Common.{◌≡◌, ◌≢◌, refl}
use Rattle.alg_reader.specs.declared.place.Place.{Place}
use Rattle.alg_reader.specs.declared.raw.RawKind.{RawKind}
use Rattle.alg_reader.specs.declared.raw.RawKind.TheVariants as raws
use Rattle.alg_reader.specs.declared.raw.RawMono.{RawMono}
use Rattle.alg_reader.specs.declared.raw.RawNumber.{RawNumber}
use Rattle.alg_annotated.specs.Parts.{IsLineOrStep}
use Rattle.alg_annotated.specs.Places as places
use Rattle.alg_annotated.proofs.open_answer.place_behind_part.Goals as goal

-- behind a line there is the place of lines still
stays : (place : Place) (kind : RawKind) → IsLineOrStep kind →
    ((a b : RawNumber) (n : RawMono) (j d : RawNumber) → kind ≢ raws.Step a b n j d) →
    place ≡ places.place_behind place kind
stays place (raws.Line a m i b n j d) part other = refl
stays place (raws.Step a b n j d) part other = absurd (other a b n j d refl)
stays place kind part other = absurd part

pub returns-in_default : goal.returns-in_default
returns-in_default c = stays c.args.place c.args.kind.now c.requires c.in_default.not-Step
