-- A statement that a file takes: it has no faults there, and with it at its end the file is the next one.
use Rattle.std.proofs.Common.{◌≡◌, ℕ, List, []}
use Rattle.alg_terms.specs.declared.file.File.{File}
use Rattle.alg_reader.specs.declared.raw.RawKind.{RawKind}
use Rattle.alg_typing.specs.NameFaults.{name_faults}
use Rattle.alg_typing.specs.Resolved.{extended}
use Rattle.alg_typing.specs.SortFaults.{sort_faults}

-- the statement has no faults of names and of sorts behind those of the file, and leads to the next file
pub record IsTaken (file : File) (text : List ℕ) (kind : RawKind) (next : File) : Type 0 where
  pub names : name_faults file text kind ≡ []
  pub sorts : sort_faults file text kind ≡ []
  pub extends : extended file text kind ≡ next
