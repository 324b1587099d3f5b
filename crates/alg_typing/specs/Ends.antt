-- What an end without a file says.
use Rattle.alg_tokens.specs.declared.token.Refusal.{Refusal}
use Rattle.alg_reader.specs.declared.reading.FileEnd.{FileEnd}
use Rattle.alg_reader.specs.declared.reading.FileEnd.TheVariants.{Refused, NoMemory}

-- this holds of the fault, where it ends with one; want of memory says nothing
abbrev pub RefusesWith : FileEnd → (Refusal → Type 0) → Type 0
RefusesWith (Refused fault) Holds = Holds fault
RefusesWith NoMemory Holds = Unit {0}
