-- What it is to add atoms to a table that is being made.
use Rattle.std.specs.Prelude.{◌≡◌, ◌<◌, ◌≤◌, List, length}
use Rattle.std.specs.declared.result.Result.{Result}
use Rattle.std.specs.declared.result.Result.TheVariants.{Ok, Err}
use Rattle.indexmap.specs.IndexSet.{insert_all}
use Rattle.alg_terms.specs.declared.term.Atom.{Atom}
use Rattle.alg_reify.specs.declared.atoms.AtomsEnd.{AtomsEnd}
use Rattle.alg_reify.specs.declared.atoms.AtomsEnd.TheVariants.{TooMany, NoMemory}
use Rattle.alg_reify.specs.Table.{atom_eq, MAX_ATOMS}

-- each of the atoms goes last, unless it is there; TooMany where there are too many then
abbrev pub Adds : List Atom → Result (Unit {0}) AtomsEnd → List Atom → List Atom → Type 0
Adds before (Ok _) after atoms = (after ≡ insert_all atom_eq before atoms) × (length after ≤ MAX_ATOMS)
Adds before (Err TooMany) after atoms = MAX_ATOMS < length (insert_all atom_eq before atoms)
Adds before (Err NoMemory) after atoms = Unit {0}
