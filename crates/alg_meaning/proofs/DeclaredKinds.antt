-- What holds of a declared sort holds of it in a universe that fits.
use Rattle.std.specs.Prelude.{◌<◌, ℕ, zero, suc, List, [], ◌∷◌, length, slice_index_or}
use Rattle.std.proofs.Common.{arith}
use Rattle.alg_terms.specs.declared.declarations.Kind.{Kind}
use Rattle.alg_terms.specs.declared.declarations.Kind.TheVariants.{Ring, Domain, Field}
use Rattle.alg_terms.specs.declared.declarations.Sort.{Sort}
use Rattle.alg_terms.specs.declared.file.File.{File}
use Rattle.alg_terms.specs.Kinds.{IsDomain, IsField, IsAtMost}
use Rattle.alg_terms.specs.Members.{kind_of, no_sort}
use Rattle.alg_universe.specs.declared.universe.Universe.{Ghosts}
use Rattle.alg_universe.specs.Value.{Fits}

pub domain_of : (kind : Kind) → IsField kind → IsDomain kind
domain_of Ring f = absurd f
domain_of Domain f = absurd f
domain_of Field f = tt

domain_at_most : (a b : Kind) → IsAtMost a b → IsDomain a → IsDomain b
domain_at_most Ring b most d = absurd d
domain_at_most Domain b most d = most
domain_at_most Field b most d = domain_of b most

field_at_most : (a b : Kind) → IsAtMost a b → IsField a → IsField b
field_at_most Ring b most f = absurd f
field_at_most Domain b most f = absurd f
field_at_most Field b most f = most

-- a sort with the laws of domains is declared
declared : (sorts : List Sort) (s : ℕ) → IsDomain (slice_index_or sorts s no_sort).kind → s < length sorts
declared [] s d = absurd d
declared (x ∷ sorts) zero d = omega arith
declared (x ∷ sorts) (suc s) d = let rest = declared sorts s d in omega arith

module _ {E : Type 0} (u : Ghosts E) {file : File} (fits : Fits u file) (s : ℕ) where
  pub kind_domain : IsDomain (kind_of file s) → IsDomain (u.kind s)
  kind_domain d = domain_at_most (kind_of file s) (u.kind s) (fits.kinds s (declared file.sorts s d)) d

  pub kind_field : IsField (kind_of file s) → IsField (u.kind s)
  kind_field f =
      field_at_most (kind_of file s) (u.kind s) (fits.kinds s (declared file.sorts s (domain_of (kind_of file s) f))) f

pub declared_field : (file : File) (s : ℕ) → IsField (kind_of file s) → s < length file.sorts
declared_field file s f = declared file.sorts s (domain_of (kind_of file s) f)
