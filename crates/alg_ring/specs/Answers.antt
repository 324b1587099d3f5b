-- What an answer and a stop say.
use Rattle.std.specs.Prelude.{◌≡◌}
use Rattle.alg_terms.specs.declared.file.File.{File}
use Rattle.alg_terms.specs.declared.goals.Equation.{Equation}
use Rattle.alg_mono.specs.NumberedPolynomials.{Polynomial, DifferFirst}
use Rattle.alg_reify.specs.declared.stop.Stop.{Stop}
use Rattle.alg_reify.specs.RingVerdict.{RingVerdict, IsRingVerdict}
use Rattle.alg_ring.specs.declared.decide.RingAnswer.{RingAnswer}

-- the verdict that an answer is
abbrev pub verdict_of : RingAnswer → RingVerdict
verdict_of RingAnswer.Proved = RingVerdict.Proved
verdict_of (RingAnswer.No at left right) = RingVerdict.No at left right

-- a stop is the verdict of its name; want of memory says nothing
abbrev pub StopsWith : File → Equation → Stop → Type 0
StopsWith file e Stop.Atoms = IsRingVerdict file e RingVerdict.Atoms
StopsWith file e Stop.Range = IsRingVerdict file e RingVerdict.Range
StopsWith file e Stop.Degree = IsRingVerdict file e RingVerdict.Degree
StopsWith file e Stop.NoMemory = Unit {0}

-- two polynomials are equal, or they first differ so
abbrev pub IsComparison : Polynomial → Polynomial → RingAnswer → Type 0
IsComparison p q RingAnswer.Proved = p ≡ q
IsComparison p q (RingAnswer.No at left right) = DifferFirst p q at left right
