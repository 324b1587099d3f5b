-- What the functions over terms that were read ask of them.
use Rattle.std.specs.Prelude.{◌≤◌, ◌<◌, ◌^◌, ℕ, List, All, IfSome}
use Rattle.std.specs.Int.RustNames.{unsigned_abs}
use Rattle.alg_terms.specs.Limits.{MAX_EXPONENT}
use Rattle.alg_reader.specs.declared.raw.RawMethod.{RawMethod}
use Rattle.alg_reader.specs.declared.raw.RawMethod.TheVariants as methods
use Rattle.alg_reader.specs.declared.raw.RawNumber.{RawNumber}
use Rattle.alg_reader.specs.declared.raw.RawTerm.{RawTerm}
use Rattle.alg_reader.specs.RawTerms.{names_in, exponents_in}
use Rattle.alg_reader.specs.WellRead.{IsNameAt}

-- each name of the term is one in the text
pub record IsTermOf (text : List ℕ) (t : RawTerm) : Type 0 where
  pub names : All (IsNameAt text) (names_in t)

-- a numeral that may be an exponent
abbrev pub IsExponent : RawNumber → Type 0
IsExponent n = unsigned_abs n.value ≤ MAX_EXPONENT

-- each name of the term is one in the text, and no exponent is over the greatest
pub record IsSmallTermOf (text : List ℕ) (t : RawTerm) : Type 0 where
  pub names : All (IsNameAt text) (names_in t)
  pub exponents : All IsExponent (exponents_in t)

-- the numerals of a method's options are below 2^32
abbrev pub HasSmallOptions : RawMethod → Type 0
HasSmallOptions methods.Ring = Unit {0}
HasSmallOptions methods.Field = Unit {0}
HasSmallOptions (methods.Nsatz uses power limit) =
    IfSome power (λ n. unsigned_abs n.value < 2 ^ 32) × IfSome limit (λ n. unsigned_abs n.value < 2 ^ 32)
