-- An equation that is proved by ring or by field is right.
use Rattle.std.specs.Prelude.{◌≡◌, ◌<◌, ℕ, List, [], length}
use Rattle.alg_terms.specs.declared.file.File.{File}
use Rattle.alg_terms.specs.declared.goals.Method.TheVariants.{ByRing, ByField}
use Rattle.alg_terms.specs.declared.term.Term.{Term}
use Rattle.alg_terms.specs.Members.{goal_at}
use Rattle.alg_terms.specs.Valid.{IsValid}
use Rattle.alg_universe.specs.declared.universe.Universe.{Ghosts}
use Rattle.alg_universe.specs.Right.{IsRight}
use Rattle.alg_reify.specs.FieldVerdict.{FieldVerdict, IsFieldVerdict}
use Rattle.alg_reify.specs.RingVerdict.{RingVerdict, IsRingVerdict}

-- each goal by ring of a valid file is right where its verdict is Proved, without any condition
abbrev pub RingProvedIsRight : {E : Type 0} → Ghosts E → Type 0
RingProvedIsRight u =
    (file : File) (i : ℕ) → IsValid file → i < length file.goals → (goal_at file i).method ≡ ByRing →
    IsRingVerdict file (goal_at file i).equation RingVerdict.Proved → IsRight u file i [] []

-- each goal by field of a valid file is right where its verdict is Proved, under the verdict's conditions
abbrev pub FieldProvedIsRight : {E : Type 0} → Ghosts E → Type 0
FieldProvedIsRight u =
    (file : File) (i : ℕ) (conditions : List Term) → IsValid file → i < length file.goals →
    (goal_at file i).method ≡ ByField → IsFieldVerdict file (goal_at file i).equation (FieldVerdict.Proved conditions) →
    IsRight u file i conditions []
