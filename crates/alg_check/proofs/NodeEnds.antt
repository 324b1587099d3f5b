-- What is told of two things that are made at one node.
use Rattle.std.specs.Prelude.{◌≡◌}
use Rattle.std.proofs.Common.{sym, ap, subst}
use Rattle.alg_mono.specs.declared.ends.Overrun.{Overrun}
use Rattle.alg_mono.specs.Outcomes.{Outcome}
use Rattle.alg_mono.specs.Refusals.{RefusesWith}
use Rattle.alg_meaning.specs.FractionRules.{worse}

-- neither is refused
pub neither : (o u : Outcome) → o ≡ Outcome.Fine → u ≡ Outcome.Fine → worse o u ≡ Outcome.Fine
neither o u first second = λ i. worse (first i) (second i)

-- the second alone is
pub second_alone : (e : Overrun) (o u : Outcome) → o ≡ Outcome.Fine → RefusesWith e u → RefusesWith e (worse o u)
second_alone e o u fine told = subst (λ (x : Outcome). RefusesWith e (worse x u)) (sym fine) told

-- the first alone is
pub first_alone : (e : Overrun) (o u : Outcome) → RefusesWith e o → u ≡ Outcome.Fine → RefusesWith e (worse o u)
first_alone Overrun.Range o u told fine = ap (λ x. worse x u) told
first_alone Overrun.Degree o u told fine = λ i. worse (told i) (fine i)
first_alone Overrun.NoMemory o u told fine = tt

-- both are
pub other_told : (e : Overrun) (o u : Outcome) → o ≡ Outcome.Degree → RefusesWith e u → RefusesWith e (worse o u)
other_told Overrun.Range o u first told = λ i. worse (first i) (told i)
other_told Overrun.Degree o u first told = λ i. worse (first i) (told i)
other_told Overrun.NoMemory o u first told = tt

pub range_told : (o u : Outcome) → o ≡ Outcome.Range → worse o u ≡ Outcome.Range
range_told o u told = ap (λ x. worse x u) told
