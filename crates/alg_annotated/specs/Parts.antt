-- Which statements belong to the answer of a goal.
use Rattle.alg_reader.specs.declared.raw.RawKind.{RawKind}
use Rattle.alg_reader.specs.declared.raw.RawKind.TheVariants as raws

-- a line or a step of a certificate
abbrev pub IsLineOrStep : RawKind → Type 0
IsLineOrStep (raws.Line a m i b n j d) = Unit {0}
IsLineOrStep (raws.Step a b n j d) = Unit {0}
IsLineOrStep kind = ⊥

-- an answer, a line or a step
abbrev pub IsAnswerPart : RawKind → Type 0
IsAnswerPart (raws.Answer said) = Unit {0}
IsAnswerPart kind = IsLineOrStep kind
