-- Monomials and the numbers of answers, as tokens give them.
use Rattle.std.specs.Prelude.{ℕ, List, [], ◌∷◌, ◌++◌, flat_map, Option, None, Some, unwrap_or, pos}
use Rattle.std.specs.Int.RustNames.{unsigned_abs}
use Rattle.std.specs.Option.{option_map_or}
use Rattle.std.proofs.Math.IntN.{neg_ℤ}
use Rattle.alg_tokens.specs.declared.token.Token.{Token}
use Rattle.alg_reader.specs.declared.raw.RawFactor.{RawFactor, out-RawFactor, roll-RawFactor, fold-RawFactor}
use Rattle.alg_reader.specs.declared.raw.RawFactor.TheOpen.{RawFactor-F, RawMono-F}
use Rattle.alg_reader.specs.declared.raw.RawMono.{RawMono, roll-RawMono, fold-RawMono}
use Rattle.alg_reader.specs.declared.raw.RawNumber.{RawNumber}
use Rattle.alg_reader.specs.declared.raw.Span.{Span}
use Rattle.alg_reader.specs.RawNodes.{number_of, span_of}

-- a factor of these parts
abbrev pub factor_of : Span → Option RawMono → Option RawNumber → RawFactor
factor_of name of exponent = roll-RawFactor (record { name = name; of = of; exponent = exponent })

-- a monomial of these factors
abbrev pub mono_of : ℕ → List RawFactor → RawMono
mono_of start factors = roll-RawMono (record { start = start; factors = factors })

-- the first byte of a factor
abbrev pub start_of : RawFactor → ℕ
start_of f = (out-RawFactor f).name.start

-- the monomial 1
abbrev pub mono_one : ℕ → RawMono
mono_one start = mono_of start []

-- a variable
abbrev pub plain_factor : Token → RawFactor
plain_factor name = factor_of (span_of name) None None

-- a morphism on a factor
abbrev pub image_factor : Token → RawFactor → RawFactor
image_factor name f = factor_of (span_of name) (Some (mono_of (start_of f) (f ∷ []))) None

-- a factor with an exponent, if one is written
abbrev pub raised_factor : RawFactor → Option RawNumber → RawFactor
raised_factor f exponent = roll-RawFactor (record (out-RawFactor f) { exponent = exponent })

-- the number behind a sign, at the sign: minus the magnitude of the numeral
abbrev pub opposite_of : Token → Token → RawNumber
opposite_of minus n = record { value = neg_ℤ (pos (unsigned_abs (number_of n.kind))); at = minus.start }

-- a number that is not written, at the first byte of its statement
abbrev pub number_one : ℕ → RawNumber
number_one start = record { value = pos 1; at = start }

-- What a monomial comes to, where `factor` says what one factor comes to by what the monomial in its parentheses comes
-- to, and `all` what one monomial comes to by what its factors come to.
abbrev pub fold_mono : {X Y : Type 0} → (RawFactor-F X Y → X) → (RawMono-F X Y → Y) → RawMono → Y
fold_mono {X = X} {Y = Y} factor all = fold-RawMono X Y factor all

-- what one of its factors comes to
abbrev pub fold_factor : {X Y : Type 0} → (RawFactor-F X Y → X) → (RawMono-F X Y → Y) → RawFactor → X
fold_factor {X = X} {Y = Y} factor all = fold-RawFactor X Y factor all

-- one list for all factors, one after the other
abbrev pub joined : {X Y : Type 0} → RawMono-F (List X) Y → List X
joined m = flat_map (λ xs. xs) m.factors

-- the name of a factor, and those in its parentheses
abbrev pub names_of_factor : RawFactor-F (List Span) (List Span) → List Span
names_of_factor f = f.name ∷ unwrap_or f.of []

-- the exponent of a factor, and those in its parentheses
abbrev pub exponents_of_factor : RawFactor-F (List RawNumber) (List RawNumber) → List RawNumber
exponents_of_factor f = option_map_or (λ n. n ∷ []) f.exponent [] ++ unwrap_or f.of []

-- all names of a monomial, and of a factor
abbrev pub names_in_mono : RawMono → List Span
names_in_mono = fold_mono names_of_factor joined

abbrev pub names_in_factor : RawFactor → List Span
names_in_factor = fold_factor names_of_factor joined

-- all exponents of a monomial, and of a factor
abbrev pub exponents_in_mono : RawMono → List RawNumber
exponents_in_mono = fold_mono exponents_of_factor joined

abbrev pub exponents_in_factor : RawFactor → List RawNumber
exponents_in_factor = fold_factor exponents_of_factor joined
