-- Which statements may stand at a place.
use Rattle.alg_reader.specs.declared.place.Place.{Place}
use Rattle.alg_reader.specs.declared.place.Place.TheVariants as places
use Rattle.alg_reader.specs.declared.raw.RawKind.{RawKind}
use Rattle.alg_reader.specs.declared.raw.RawKind.TheVariants as raws

-- an answer may stand behind a goal, a line among lines, and a step among lines and among steps
abbrev pub MayAnswer : Place → Type 0
MayAnswer places.AfterGoal = Unit {0}
MayAnswer _ = ⊥

-- where lines may stand
abbrev pub MayHaveLines : Place → Type 0
MayHaveLines places.Lines = Unit {0}
MayHaveLines places.LinesTwo = Unit {0}
MayHaveLines _ = ⊥

-- where steps may stand
abbrev pub MayHaveSteps : Place → Type 0
MayHaveSteps places.Lines = Unit {0}
MayHaveSteps places.Steps = Unit {0}
MayHaveSteps places.LinesTwo = Unit {0}
MayHaveSteps places.StepsTwo = Unit {0}
MayHaveSteps _ = ⊥

-- the statement may stand at the place: the end, a declaration or a goal may stand at each
abbrev pub MayStand : Place → RawKind → Type 0
MayStand place (raws.Answer said) = MayAnswer place
MayStand place (raws.Line a m i b n j d) = MayHaveLines place
MayStand place (raws.Step a b n j d) = MayHaveSteps place
MayStand place kind = Unit {0}
