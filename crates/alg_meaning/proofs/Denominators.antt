-- Where quotients stand, and that no denominator is zero.
use Rattle.std.specs.Prelude.{◌≢◌, ◌⊎◌, ℕ, List}
use Rattle.alg_terms.specs.declared.term.Term.{Term, more_of-Term, Var, Int, Neg', Add', Sub', Mul', Div', Pow', Hom'}
use Rattle.alg_terms.specs.declared.file.File.{File}
use Rattle.alg_terms.specs.Kinds.{IsField}
use Rattle.alg_terms.specs.Members.{source_of}
use Rattle.alg_universe.specs.declared.universe.Universe.{Ghosts}
use Rattle.alg_universe.specs.Value.{value}
use Rattle.alg_meaning.proofs.Typed.{HasNoDivision}

module _ {E : Type 0} (u : Ghosts E) (file : File) where
  -- each quotient stands in a field, and below no morphism but into fields
  abbrev pub DividesInFields : ℕ → Term → Type 0
  DividesInFields s (Var k) = Unit {0}
  DividesInFields s (Int n) = Unit {0}
  DividesInFields s (Neg' p (more_of-Term t r)) = DividesInFields s t
  DividesInFields s (Add' p (more_of-Term t r) p' (more_of-Term t' r')) = DividesInFields s t × DividesInFields s t'
  DividesInFields s (Sub' p (more_of-Term t r) p' (more_of-Term t' r')) = DividesInFields s t × DividesInFields s t'
  DividesInFields s (Mul' p (more_of-Term t r) p' (more_of-Term t' r')) = DividesInFields s t × DividesInFields s t'
  DividesInFields s (Div' p (more_of-Term t r) p' (more_of-Term t' r')) =
      IsField (u.kind s) × DividesInFields s t × DividesInFields s t'
  DividesInFields s (Pow' p (more_of-Term t r) n) = DividesInFields s t
  DividesInFields s (Hom' f p (more_of-Term t r)) =
      (HasNoDivision t ⊎ (IsField (u.kind (source_of file f)) × IsField (u.kind s))) × DividesInFields
      (source_of file f) t

  -- no denominator is zero where it stands
  abbrev pub NoZeroBelow : List E → ℕ → Term → Type 0
  NoZeroBelow v s (Var k) = Unit {0}
  NoZeroBelow v s (Int n) = Unit {0}
  NoZeroBelow v s (Neg' p (more_of-Term t r)) = NoZeroBelow v s t
  NoZeroBelow v s (Add' p (more_of-Term t r) p' (more_of-Term t' r')) = NoZeroBelow v s t × NoZeroBelow v s t'
  NoZeroBelow v s (Sub' p (more_of-Term t r) p' (more_of-Term t' r')) = NoZeroBelow v s t × NoZeroBelow v s t'
  NoZeroBelow v s (Mul' p (more_of-Term t r) p' (more_of-Term t' r')) = NoZeroBelow v s t × NoZeroBelow v s t'
  NoZeroBelow v s (Div' p (more_of-Term t r) p' (more_of-Term t' r')) =
      (value u file v s t' ≢ u.zero s) × NoZeroBelow v s t × NoZeroBelow v s t'
  NoZeroBelow v s (Pow' p (more_of-Term t r) n) = NoZeroBelow v s t
  NoZeroBelow v s (Hom' f p (more_of-Term t r)) = NoZeroBelow v (source_of file f) t
