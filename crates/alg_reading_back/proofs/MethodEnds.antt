-- The pieces of a goal's method each end where the next begins.
use Rattle.std.proofs.Common.{◌≤◌, ◌<◌, ◌≤ℤ◌, ℕ, List, [], ◌∷◌, ◌++◌, length, refl, ap, sym, ◌∙◌, subst, arith, append_assoc, pos}
use Rattle.std.specs.List.{AllByRecursion}
use Rattle.std.proofs.lemmas.Int.{ints}
use Rattle.std.proofs.lemmas.List.Elements.{recursion_from_All}
use Rattle.alg_terms.specs.declared.file.File.{File}
use Rattle.alg_terms.specs.declared.goals.Equation.{Equation}
use Rattle.alg_terms.specs.declared.goals.Method.{Method}
use Rattle.alg_terms.specs.declared.goals.Method.TheVariants.{ByRing, ByField, ByNsatz}
use Rattle.alg_terms.specs.declared.goals.Use.{Use}
use Rattle.alg_terms.specs.Limits.{MAX_POWER, MAX_LIMIT, MAX_LITERAL}
use Rattle.alg_terms.specs.GoalRules.{IsUse, MayBeBy}
use Rattle.alg_terms.specs.Names.{IsName}
use Rattle.alg_tokens.specs.declared.token.Word.TheVariants as words
use Rattle.alg_tokens.proofs.Neighbours.{spell, spell_append, EachEnds, ends_append}
use Rattle.alg_tokens.proofs.PieceEnds.{BeginsStop}
use Rattle.alg_printer.specs.Names.{hom_name}
use Rattle.alg_reading_back.proofs.WrittenMethods.{hyp_name, path_pieces, use_pieces, later_uses, uses_pieces, option_pieces, method_pieces}
use Rattle.alg_reading_back.proofs.WrittenTerms.{numeral, space, word}
use Rattle.alg_reading_back.proofs.TermEnds.{Fits, HasNames, EndsAtStop, word_space, fits_name, fits_numeral, fits_called}

-- ---- uses

-- a name under a path
pub fits_path : (file : File) (path bytes : List ℕ) → HasNames file → AllByRecursion (λ f. f < length file.homs) path →
    IsName bytes → Fits (path_pieces file path bytes)
fits_path file [] bytes names all is = fits_name bytes is
fits_path file (f ∷ path) bytes names all is = fits_called (hom_name file f) (path_pieces file path bytes)
    (names.homs f all.0) (fits_path file path bytes names all.1 is)

fits_use : (file : File) (sort : ℕ) (used : Use) → HasNames file → IsUse file sort used →
    Fits (use_pieces file used)
fits_use file sort used names is = fits_path file used.path (hyp_name file used.hyp) names
    (recursion_from_All (λ f. f < length file.homs) used.path is.path) (names.hyps used.hyp is.hyp)

-- what uses begin with
later_stop : (file : File) (uses : List Use) (next : List ℕ) → BeginsStop next →
    BeginsStop (spell (later_uses file uses) ++ next)
later_stop file [] next stops = stops
later_stop file (used ∷ uses) next stops = (44, _, refl, refl)

uses_stop : (file : File) (uses : List Use) (next : List ℕ) → BeginsStop next →
    BeginsStop (spell (uses_pieces file uses) ++ next)
uses_stop file [] next stops = stops
uses_stop file (used ∷ uses) next stops = (32, _, refl, refl)

-- the uses behind a first one, and all of them
later_pieces_end : (file : File) (sort : ℕ) (uses : List Use) → HasNames file → AllByRecursion (IsUse file sort) uses →
    EndsAtStop (later_uses file uses)
later_pieces_end file sort [] names all next stops = tt
later_pieces_end file sort (used ∷ uses) names all next stops = (
  (refl, λ e. omega (arith, e)),
  (
    (32, refl, refl),
    ends_append (use_pieces file used) (later_uses file uses) next
        ((fits_use file sort used names all.0).stand _ (later_stop file uses next stops))
        (later_pieces_end file sort uses names all.1 next stops),
  ),
)

uses_pieces_end : (file : File) (sort : ℕ) (uses : List Use) → HasNames file → AllByRecursion (IsUse file sort) uses →
    EndsAtStop (uses_pieces file uses)
uses_pieces_end file sort [] names all next stops = tt
uses_pieces_end file sort (used ∷ uses) names all next stops = (
  (32, refl, refl),
  word_space words.Using (use_pieces file used ++ later_uses file uses) next
      (ends_append (use_pieces file used) (later_uses file uses) next
      ((fits_use file sort used names all.0).stand _ (later_stop file uses next stops))
      (later_pieces_end file sort uses names all.1 next stops)),
)

-- ---- methods

-- the power and the limit
options_pieces_end : (power limit : ℕ) → pos power ≤ℤ MAX_LITERAL → pos limit ≤ℤ MAX_LITERAL →
    EndsAtStop (option_pieces power limit)
options_pieces_end power limit power_small limit_small next stops =
    let last = numeral limit ∷ [] in
    let from_limit = space ∷ word words.Limit ∷ space ∷ last in
    let limit_piece_ends : EachEnds from_limit next =
    ((32, refl, refl), word_space words.Limit last next ((fits_numeral limit limit_small).stand next stops)) in
    let power_piece_ends = (fits_numeral power power_small).stand (spell from_limit ++ next) (32, _, refl, refl) in
    ((32, refl, refl), word_space words.Power (numeral power ∷ from_limit) next (power_piece_ends.0, limit_piece_ends))

-- the pieces of a method stand before each byte that stops
pub method_pieces_end : (file : File) (e : Equation) (method : Method) → HasNames file → MayBeBy file e method →
    EndsAtStop (method_pieces file method)
method_pieces_end file e ByRing names may next stops = ((refl, stops), tt)
method_pieces_end file e ByField names may next stops = ((refl, stops), tt)
method_pieces_end file e (ByNsatz uses power limit) names may next stops =
    let pieces = uses_pieces file uses in
    let options = option_pieces power limit in
    let power_small : pos power ≤ℤ MAX_LITERAL = let low : power ≤ MAX_POWER = may.power_high in omega (arith, ints) in
    let limit_small : pos limit ≤ℤ MAX_LITERAL = let low : limit ≤ MAX_LIMIT = may.limit_high in omega (arith, ints) in
    let behind : BeginsStop (spell options ++ next) = (32, _, refl, refl) in
    let begins : BeginsStop (spell (pieces ++ options) ++ next) =
    subst BeginsStop (sym (ap (λ bs. bs ++ next) (spell_append pieces options)
    ∙ append_assoc (spell pieces) (spell options) next)) (uses_stop file uses _ behind) in
    let all = recursion_from_All (IsUse file e.sort) uses may.each_use in (
      (refl, begins),
      ends_append pieces options next (uses_pieces_end file e.sort uses names all _ behind)
          (options_pieces_end power limit power_small limit_small next stops),
    )
