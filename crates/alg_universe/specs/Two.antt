-- The field of two elements as a universe: every sort is a field, in which two is zero, and every morphism is the
-- identity.
use Rattle.std.specs.Prelude.{ℕ, Bool, false}
use Rattle.alg_terms.specs.declared.declarations.Kind.{Kind}
use Rattle.alg_terms.specs.declared.declarations.Kind.TheVariants.{Field}
use Rattle.alg_universe.specs.declared.two.Two.{Two}
use Rattle.alg_universe.specs.declared.two.Two.TheVariants.{Zero, One}

abbrev pub has : ℕ → Two → Type 0
has s x = Unit {0}

abbrev pub zero : ℕ → Two
zero s = Zero

abbrev pub one : ℕ → Two
one s = One

abbrev pub add : ℕ → Two → Two → Two
add s Zero y = y
add s One Zero = One
add s One One = Zero

abbrev pub opp : ℕ → Two → Two
opp s x = x

abbrev pub mul : ℕ → Two → Two → Two
mul s Zero y = Zero
mul s One y = y

abbrev pub inv : ℕ → Two → Two
inv s x = x

abbrev pub hom : ℕ → Two → Two
hom h x = x

abbrev pub kind : ℕ → Kind
kind s = Field

abbrev pub char0 : ℕ → Bool
char0 s = false

abbrev pub maps : ℕ → ℕ → ℕ → Type 0
maps h s t = Unit {0}
