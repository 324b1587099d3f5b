-- The rational numbers as a universe: every carrier is the reduced fractions, every sort is a field of characteristic
-- 0, and every morphism is the identity.
use Rattle.std.specs.Prelude.{ℕ, Bool, true, pos}
use Rattle.alg_terms.specs.declared.declarations.Kind.{Kind}
use Rattle.alg_terms.specs.declared.declarations.Kind.TheVariants.{Field}
use Rattle.alg_universe.specs.Fractions.{Fraction, IsReduced, reduce, plus, opposite, times, inverse}

abbrev pub has : ℕ → Fraction → Type 0
has s x = IsReduced x

abbrev pub zero : ℕ → Fraction
zero s = (pos 0, 1)

abbrev pub one : ℕ → Fraction
one s = (pos 1, 1)

abbrev pub add : ℕ → Fraction → Fraction → Fraction
add s x y = reduce (plus x y)

abbrev pub opp : ℕ → Fraction → Fraction
opp s x = reduce (opposite x)

abbrev pub mul : ℕ → Fraction → Fraction → Fraction
mul s x y = reduce (times x y)

abbrev pub inv : ℕ → Fraction → Fraction
inv s x = reduce (inverse x)

abbrev pub hom : ℕ → Fraction → Fraction
hom h x = x

abbrev pub kind : ℕ → Kind
kind s = Field

abbrev pub char0 : ℕ → Bool
char0 s = true

abbrev pub maps : ℕ → ℕ → ℕ → Type 0
maps h s t = Unit {0}
