-- One element, which is zero and one, as a universe: every sort is a ring, and every morphism is the identity.
use Rattle.std.specs.Prelude.{ℕ, Bool, false}
use Rattle.alg_terms.specs.declared.declarations.Kind.{Kind}
use Rattle.alg_terms.specs.declared.declarations.Kind.TheVariants.{Ring}
use Rattle.alg_universe.specs.declared.one_point.OnePoint.{OnePoint}

abbrev pub has : ℕ → OnePoint → Type 0
has s x = Unit {0}

abbrev pub zero : ℕ → OnePoint
zero s = record {}

abbrev pub one : ℕ → OnePoint
one s = record {}

abbrev pub add : ℕ → OnePoint → OnePoint → OnePoint
add s x y = record {}

abbrev pub opp : ℕ → OnePoint → OnePoint
opp s x = record {}

abbrev pub mul : ℕ → OnePoint → OnePoint → OnePoint
mul s x y = record {}

abbrev pub inv : ℕ → OnePoint → OnePoint
inv s x = record {}

abbrev pub hom : ℕ → OnePoint → OnePoint
hom h x = x

abbrev pub kind : ℕ → Kind
kind s = Ring

abbrev pub char0 : ℕ → Bool
char0 s = false

abbrev pub maps : ℕ → ℕ → ℕ → Type 0
maps h s t = Unit {0}
