-- What an answer and a stop say.
use Rattle.std.specs.Prelude.{◌≡◌, Bool}
use Rattle.std.specs.declared.result.Result.{Result}
use Rattle.std.specs.declared.result.Result.TheVariants.{Ok, Err}
use Rattle.alg_terms.specs.declared.file.File.{File}
use Rattle.alg_terms.specs.declared.goals.Goal.{Goal}
use Rattle.alg_mono.specs.declared.ends.Overrun.{Overrun}
use Rattle.alg_lines.specs.Constants.{constants}
use Rattle.alg_groebner.specs.declared.decide.Verdict.TheVariants as found
use Rattle.alg_groebner.specs.Verdicts.{Decides}
use Rattle.alg_reify.specs.declared.stop.Stop.{Stop}
use Rattle.alg_nsatz.specs.declared.decide.NsatzAnswer.{NsatzAnswer}
use Rattle.alg_nsatz.specs.declared.preparing.Task.{Task}
use Rattle.alg_nsatz.specs.Verdict.{NsatzVerdict, IsNsatzVerdict}

-- the verdict that an answer is
abbrev pub verdict_of : NsatzAnswer → NsatzVerdict
verdict_of (NsatzAnswer.Proved constants cert) = NsatzVerdict.Proved constants cert
verdict_of (NsatzAnswer.NoneUpTo r) = NsatzVerdict.NoneUpTo r
verdict_of (NsatzAnswer.GaveUp n) = NsatzVerdict.GaveUp n

-- a stop is the verdict of its name; want of memory says nothing
abbrev pub StopsWith : File → Goal → Stop → Type 0
StopsWith file goal Stop.Atoms = IsNsatzVerdict file goal NsatzVerdict.Atoms
StopsWith file goal Stop.Range = IsNsatzVerdict file goal NsatzVerdict.Range
StopsWith file goal Stop.Degree = IsNsatzVerdict file goal NsatzVerdict.Degree
StopsWith file goal Stop.NoMemory = Unit {0}

-- the search of a task decides so, and the constants are those of its certificate
abbrev pub Answers : Task → Bool → Result NsatzAnswer Overrun → Type 0
Answers t char0 (Ok (NsatzAnswer.Proved numbers cert)) =
    Decides t.hyps t.goal t.power t.limit (Ok (found.Proved cert)) × (numbers ≡ constants cert char0)
Answers t char0 (Ok (NsatzAnswer.NoneUpTo r)) = Decides t.hyps t.goal t.power t.limit (Ok (found.NoneUpTo r))
Answers t char0 (Ok (NsatzAnswer.GaveUp n)) = Decides t.hyps t.goal t.power t.limit (Ok (found.GaveUp n))
Answers t char0 (Err e) = Decides t.hyps t.goal t.power t.limit (Err e)
