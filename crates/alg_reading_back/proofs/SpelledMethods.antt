-- The pieces of a goal's method spell its text.
use Rattle.std.proofs.Common.{◌≡◌, ℕ, List, [], ◌∷◌, ◌++◌, codes, decimal, refl, ap, ◌∙◌, append-nil, append_assoc}
use Rattle.alg_terms.specs.declared.file.File.{File}
use Rattle.alg_terms.specs.declared.goals.Method.{Method}
use Rattle.alg_terms.specs.declared.goals.Method.TheVariants.{ByRing, ByField, ByNsatz}
use Rattle.alg_terms.specs.declared.goals.Use.{Use}
use Rattle.alg_tokens.specs.Pieces.{Piece}
use Rattle.alg_tokens.proofs.Neighbours.{spell, spell_append}
use Rattle.alg_printer.specs.Names.{hom_name, under, listed}
use Rattle.alg_printer.specs.Statements.{use_text, uses_text, method_text}
use Rattle.alg_reading_back.proofs.WrittenMethods.{hyp_name, path_pieces, use_pieces, later_uses, uses_pieces, option_pieces, method_pieces}
use Rattle.alg_reading_back.proofs.SpelledTerms.{spelled_parentheses}

-- ---- uses

-- a name under a path
pub spelled_path : (file : File) (path bytes : List ℕ) → spell (path_pieces file path bytes) ≡ under file path bytes
spelled_path file [] bytes = append-nil bytes
spelled_path file (f ∷ path) bytes =
    ap (λ bs. hom_name file f ++ bs)
    (spelled_parentheses (path_pieces file path bytes) (under file path bytes) (spelled_path file path bytes))

spelled_use : (file : File) (used : Use) → spell (use_pieces file used) ≡ use_text file used
spelled_use file used = spelled_path file used.path (hyp_name file used.hyp)

-- a use, with what follows it
followed : (file : File) (used : Use) (pieces : List Piece) (text : List ℕ) → spell pieces ≡ text →
    spell (use_pieces file used ++ pieces) ≡ use_text file used ++ text
followed file used pieces text e =
    spell_append (use_pieces file used) pieces ∙ ap (λ bs. bs ++ spell pieces) (spelled_use file used)
    ∙ ap (λ bs. use_text file used ++ bs) e

-- the uses behind a first one, and all of them
spelled_later : (file : File) (uses : List Use) →
    spell (later_uses file uses) ≡ listed (codes ", ") (codes ", ") (use_text file) uses
spelled_later file [] = refl
spelled_later file (used ∷ uses) =
    ap (λ bs. codes ", " ++ bs) (followed file used (later_uses file uses) _ (spelled_later file uses))

spelled_uses : (file : File) (uses : List Use) → spell (uses_pieces file uses) ≡ uses_text file uses
spelled_uses file [] = refl
spelled_uses file (used ∷ uses) =
    ap (λ bs. codes " using " ++ bs) (followed file used (later_uses file uses) _ (spelled_later file uses))

-- ---- methods

six : (a b c d e f : List ℕ) → a ++ (b ++ (c ++ (d ++ (e ++ f)))) ≡ ((((a ++ b) ++ c) ++ d) ++ e) ++ f
six a b c d e f = simp append_assoc refl

-- the power and the limit
spelled_options : (power limit : ℕ) → spell (option_pieces power limit)
    ≡ codes " power " ++ (decimal power ++ (codes " limit " ++ decimal limit))
spelled_options power limit =
    ap (λ bs. codes " power " ++ (decimal power ++ (codes " limit " ++ bs))) (append-nil (decimal limit))

-- the pieces of a method spell its text
pub spelled_method : (file : File) (method : Method) → spell (method_pieces file method) ≡ method_text file method
spelled_method file ByRing = refl
spelled_method file ByField = refl
spelled_method file (ByNsatz uses power limit) =
    let options = option_pieces power limit in
    ap (λ bs. codes "nsatz" ++ bs) (spell_append (uses_pieces file uses) options
    ∙ ap (λ bs. bs ++ spell options) (spelled_uses file uses)
    ∙ ap (λ bs. uses_text file uses ++ bs) (spelled_options power limit))
    ∙ six (codes "nsatz") (uses_text file uses) (codes " power ") (decimal power) (codes " limit ") (decimal limit)
