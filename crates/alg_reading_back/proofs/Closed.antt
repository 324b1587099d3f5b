-- A file whose members name sorts that it has.
use Rattle.std.specs.Prelude.{◌<◌, length, All}
use Rattle.alg_terms.specs.declared.file.File.{File}
use Rattle.alg_terms.specs.Valid.{IsHom, IsVar}

-- the sorts of its morphisms, variables and hypotheses are its own
pub record IsClosed (g : File) : Type 0 where
  pub homs : All (IsHom g) g.homs
  pub vars : All (IsVar g) g.vars
  pub hyps : All (λ hyp. hyp.equation.sort < length g.sorts) g.hyps
