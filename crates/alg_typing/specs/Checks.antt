-- What it is for a term to be checked where it stands.
use Rattle.std.specs.Prelude.{◌≡◌, ℕ, List}
use Rattle.alg_terms.specs.declared.file.File.{File}
use Rattle.alg_reader.specs.declared.raw.RawTerm.{RawTerm}
use Rattle.alg_typing.specs.declared.sorts.Checked.{Checked}
use Rattle.alg_typing.specs.declared.sorts.Context.{Context}
use Rattle.alg_typing.specs.Faults.{first_of}
use Rattle.alg_typing.specs.TermSorts.{sorted}

-- the term has this own sort, and this first fault where it stands so
pub record IsCheckOf (file : File) (text : List ℕ) (at : Context) (t : RawTerm) (checked : Checked) : Type 0 where
  pub own : checked.own ≡ (sorted file text at.may_divide t).own
  pub fault : checked.fault ≡ first_of ((sorted file text at.may_divide t).faults at.sort at.in_fields)
