-- What stops a decision.
use Rattle.std.specs.Prelude.{◌≡◌, ◌<◌, ◌≤◌, List, length}
use Rattle.alg_terms.specs.declared.term.Atom.{Atom}
use Rattle.alg_mono.specs.declared.ends.Overrun.{Overrun}
use Rattle.alg_mono.specs.Outcomes.{Outcome}
use Rattle.alg_reify.specs.declared.atoms.AtomsEnd.{AtomsEnd}
use Rattle.alg_reify.specs.declared.stop.Stop.{Stop}
use Rattle.alg_reify.specs.Table.{MAX_ATOMS}

-- where there is no table
abbrev pub stop_of_table : AtomsEnd → Stop
stop_of_table AtomsEnd.TooMany = Stop.Atoms
stop_of_table AtomsEnd.NoMemory = Stop.NoMemory

-- where a polynomial is refused
abbrev pub stop_of_polynomial : Overrun → Stop
stop_of_polynomial Overrun.Range = Stop.Range
stop_of_polynomial Overrun.Degree = Stop.Degree
stop_of_polynomial Overrun.NoMemory = Stop.NoMemory

-- the table has not too many atoms, and making polynomials over them comes to this
abbrev pub ComesTo : List Atom → Outcome → Outcome → Type 0
ComesTo atoms outcome comes = (length atoms ≤ MAX_ATOMS) × (outcome ≡ comes)

-- the table has too many atoms, or making polynomials over them breaks this rule; want of memory says nothing
abbrev pub StopsWith : List Atom → Outcome → Stop → Type 0
StopsWith atoms outcome Stop.Atoms = MAX_ATOMS < length atoms
StopsWith atoms outcome Stop.Range = ComesTo atoms outcome Outcome.Range
StopsWith atoms outcome Stop.Degree = ComesTo atoms outcome Outcome.Degree
StopsWith atoms outcome Stop.NoMemory = Unit {0}
