-- The canonical text of a goal's method, cut into pieces, and the raw method that these are, by the place where it
-- begins.
use Rattle.std.specs.Prelude.{ℕ, ◌+◌, List, [], ◌∷◌, ◌++◌, Some, pos, length, decimal}
use Rattle.alg_terms.specs.declared.file.File.{File}
use Rattle.alg_terms.specs.declared.goals.Method.{Method}
use Rattle.alg_terms.specs.declared.goals.Method.TheVariants.{ByRing, ByField, ByNsatz}
use Rattle.alg_terms.specs.declared.goals.Use.{Use}
use Rattle.alg_terms.specs.Members.{hyp_at}
use Rattle.alg_tokens.specs.declared.token.Sign.TheVariants as signs
use Rattle.alg_tokens.specs.declared.token.Word.TheVariants as words
use Rattle.alg_tokens.specs.Laws.{width}
use Rattle.alg_tokens.specs.Pieces.{Piece}
use Rattle.alg_reader.specs.declared.raw.RawMethod.{RawMethod}
use Rattle.alg_reader.specs.declared.raw.RawMethod.TheVariants as methods
use Rattle.alg_reader.specs.declared.raw.RawUse.{RawUse}
use Rattle.alg_reader.specs.PartMeaning.{under}
use Rattle.alg_printer.specs.Names.{hom_name}
use Rattle.alg_reading_back.proofs.WrittenTerms.{space, sign, word, name, numeral, span, in_parentheses}

abbrev pub hyp_name : File → ℕ → List ℕ
hyp_name file h = (hyp_at file h).name

-- a name under a path of morphisms
abbrev pub path_pieces : File → List ℕ → List ℕ → List Piece
path_pieces file [] bytes = name bytes ∷ []
path_pieces file (f ∷ path) bytes = name (hom_name file f) ∷ in_parentheses (path_pieces file path bytes)

abbrev pub path_raw : File → ℕ → List ℕ → List ℕ → RawUse
path_raw file at [] bytes = record { path = []; hyp = span at bytes }
path_raw file at (f ∷ path) bytes =
    under (span at (hom_name file f)) (path_raw file (at + length (hom_name file f) + 1) path bytes)

-- a use
abbrev pub use_pieces : File → Use → List Piece
use_pieces file used = path_pieces file used.path (hyp_name file used.hyp)

abbrev pub use_raw : File → ℕ → Use → RawUse
use_raw file at used = path_raw file at used.path (hyp_name file used.hyp)

-- the uses behind a first one, and all of them
abbrev pub later_uses : File → List Use → List Piece
later_uses file [] = []
later_uses file (used ∷ uses) = sign signs.Comma ∷ space ∷ (use_pieces file used ++ later_uses file uses)

abbrev pub uses_pieces : File → List Use → List Piece
uses_pieces file [] = []
uses_pieces file (used ∷ uses) =
    space ∷ word words.Using ∷ space ∷ (use_pieces file used ++ later_uses file uses)

-- by the place where the first begins
abbrev pub uses_raw : File → ℕ → List Use → List RawUse
uses_raw file at [] = []
uses_raw file at (used ∷ uses) =
    use_raw file at used ∷ uses_raw file (at + width (use_pieces file used) + 2) uses

abbrev pub option_pieces : ℕ → ℕ → List Piece
option_pieces power limit =
    space ∷ word words.Power ∷ space ∷ numeral power ∷ space ∷ word words.Limit ∷ space ∷ numeral limit ∷ []

-- a method
abbrev pub method_pieces : File → Method → List Piece
method_pieces file ByRing = word words.Ring ∷ []
method_pieces file ByField = word words.Field ∷ []
method_pieces file (ByNsatz uses power limit) =
    word words.Nsatz ∷ (uses_pieces file uses ++ option_pieces power limit)

-- ` using `, ` power ` and ` limit ` have seven bytes each
abbrev pub method_raw : File → ℕ → Method → RawMethod
method_raw file at ByRing = methods.Ring
method_raw file at ByField = methods.Field
method_raw file at (ByNsatz uses power limit) =
    let power_at = at + 5 + width (uses_pieces file uses) + 7 in
    let limit_at = power_at + length (decimal power) + 7 in
    methods.Nsatz (uses_raw file (at + 5 + 7) uses) (Some (record { value = pos power; at = power_at }))
    (Some (record { value = pos limit; at = limit_at }))
