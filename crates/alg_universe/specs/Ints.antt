-- The whole numbers as a universe: every sort is a domain of characteristic 0, and every morphism is the identity.
use Rattle.std.specs.Prelude.{ℕ, Bool, true, ℤ, pos, ◌+ℤ◌, ◌*ℤ◌}
use Rattle.std.proofs.Math.IntN.{neg_ℤ}
use Rattle.alg_terms.specs.declared.declarations.Kind.{Kind}
use Rattle.alg_terms.specs.declared.declarations.Kind.TheVariants.{Domain}

abbrev pub has : ℕ → ℤ → Type 0
has s x = Unit {0}

abbrev pub zero : ℕ → ℤ
zero s = pos 0

abbrev pub one : ℕ → ℤ
one s = pos 1

abbrev pub add : ℕ → ℤ → ℤ → ℤ
add s x y = x +ℤ y

abbrev pub opp : ℕ → ℤ → ℤ
opp s x = neg_ℤ x

abbrev pub mul : ℕ → ℤ → ℤ → ℤ
mul s x y = x *ℤ y

-- no sort is a field, so any element serves
abbrev pub inv : ℕ → ℤ → ℤ
inv s x = pos 0

abbrev pub hom : ℕ → ℤ → ℤ
hom h x = x

abbrev pub kind : ℕ → Kind
kind s = Domain

abbrev pub char0 : ℕ → Bool
char0 s = true

abbrev pub maps : ℕ → ℕ → ℕ → Type 0
maps h s t = Unit {0}
