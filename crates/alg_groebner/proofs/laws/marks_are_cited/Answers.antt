use Rattle.alg_groebner.proofs.Citing.{runs_cite}
use Rattle.alg_groebner.proofs.Marked.{marks_are_cited}
use Rattle.alg_groebner.proofs.laws.marks_are_cited.Goals as goal

pub returns : goal.returns
returns c = record { marks = marks_are_cited; runs = runs_cite }
