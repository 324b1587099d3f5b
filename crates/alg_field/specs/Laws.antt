-- An equation that is proved by field is right under its conditions.
use Rattle.alg_universe.specs.declared.universe.Universe.{Ghosts}
use Rattle.alg_reify.specs.RightLaws.{FieldProvedIsRight}

-- each goal by field of a valid file is right where its verdict is Proved, under the verdict's conditions
abbrev pub ProvedIsRight : {E : Type 0} → Ghosts E → Type 0
ProvedIsRight u = FieldProvedIsRight u
