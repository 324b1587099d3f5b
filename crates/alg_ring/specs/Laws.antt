-- An equation that is proved by ring is right.
use Rattle.alg_universe.specs.declared.universe.Universe.{Ghosts}
use Rattle.alg_reify.specs.RightLaws.{RingProvedIsRight}

-- each goal by ring of a valid file is right where its verdict is Proved, without any condition
abbrev pub ProvedIsRight : {E : Type 0} → Ghosts E → Type 0
ProvedIsRight u = RingProvedIsRight u
