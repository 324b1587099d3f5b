-- The answers to goals by ring and by field.
use Rattle.std.specs.Prelude.{◌≡◌, []}
use Rattle.alg_terms.specs.declared.file.File.{File}
use Rattle.alg_terms.specs.declared.goals.Equation.{Equation}
use Rattle.alg_lines.specs.declared.answer.Answer.{Answer}
use Rattle.alg_reify.specs.FieldVerdict.{FieldVerdict, IsFieldVerdict}
use Rattle.alg_reify.specs.RingVerdict.{RingVerdict, IsRingVerdict}

-- a verdict by ring as an answer: what is proved by ring is proved without conditions
abbrev pub ring_answer : RingVerdict → Answer
ring_answer RingVerdict.Atoms = Answer.Atoms
ring_answer RingVerdict.Range = Answer.Range
ring_answer RingVerdict.Degree = Answer.Degree
ring_answer RingVerdict.Proved = Answer.Proved []
ring_answer (RingVerdict.No at left right) = Answer.No at left right

-- a verdict by field as an answer
abbrev pub field_answer : FieldVerdict → Answer
field_answer FieldVerdict.Atoms = Answer.Atoms
field_answer FieldVerdict.Range = Answer.Range
field_answer FieldVerdict.Degree = Answer.Degree
field_answer (FieldVerdict.ZeroDenominator t) = Answer.ZeroDenominator t
field_answer (FieldVerdict.Proved conditions) = Answer.Proved conditions
field_answer (FieldVerdict.No at left right) = Answer.No at left right

-- the answer to an equation by ring
abbrev pub IsRingAnswer : File → Equation → Answer → Type 0
IsRingAnswer file e answer = (v : RingVerdict) × IsRingVerdict file e v × (answer ≡ ring_answer v)

-- the answer to an equation by field
abbrev pub IsFieldAnswer : File → Equation → Answer → Type 0
IsFieldAnswer file e answer = (v : FieldVerdict) × IsFieldVerdict file e v × (answer ≡ field_answer v)
