-- What a place wants a name to be, as a test of declarations.
use Rattle.std.specs.Prelude.{Bool}
use Rattle.alg_typing.specs.declared.declaration.Declaration.{Declaration}
use Rattle.alg_typing.specs.declared.declaration.Wanted.{Wanted}
use Rattle.alg_typing.specs.declared.declaration.Wanted.TheVariants as wanted
use Rattle.alg_typing.specs.Names.{is_sort, is_hom, is_var, is_hyp}

-- the declaration is what is wanted
abbrev pub is_wanted : Wanted → Declaration → Bool
is_wanted wanted.Sort declaration = is_sort declaration
is_wanted wanted.Hom declaration = is_hom declaration
is_wanted wanted.Var declaration = is_var declaration
is_wanted wanted.Hyp declaration = is_hyp declaration
