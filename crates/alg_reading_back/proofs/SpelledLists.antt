-- The pieces of lists spell their texts.
use Rattle.std.proofs.Common.{◌≡◌, ℕ, List, [], ◌∷◌, ◌++◌, refl, ap, sym, ◌∙◌, append_assoc}
use Rattle.alg_tokens.proofs.Neighbours.{spell, spell_append}
use Rattle.alg_printer.specs.Names.{listed}
use Rattle.alg_reading_back.proofs.WrittenLists.{Written, Separator, star, comma, separator_pieces, separator_text, later_pieces, list_pieces}

spelled_separator : (s : Separator) → spell (separator_pieces s) ≡ separator_text s
spelled_separator star = refl
spelled_separator comma = refl

module _ {X R : Type 0} (write : X → Written R) (s : Separator) (text : X → List ℕ)
    (spelled : (x : X) → spell (write x).pieces ≡ text x) where
  -- one, with what follows it
  followed : (x : X) (xs : List X) → spell (later_pieces write s xs) ≡ listed (separator_text s)
      (separator_text s) text xs →
      spell (list_pieces write s x xs) ≡ text x ++ listed (separator_text s) (separator_text s) text xs
  followed x xs later =
      spell_append (write x).pieces (later_pieces write s xs)
      ∙ ap (λ bs. bs ++ spell (later_pieces write s xs)) (spelled x) ∙ ap (λ bs. text x ++ bs) later

  pub spelled_later : (xs : List X) →
      spell (later_pieces write s xs) ≡ listed (separator_text s) (separator_text s) text xs
  spelled_later [] = refl
  spelled_later (x ∷ xs) =
      let more = listed (separator_text s) (separator_text s) text xs in
      spell_append (separator_pieces s) (list_pieces write s x xs)
      ∙ ap (λ bs. bs ++ spell (list_pieces write s x xs)) (spelled_separator s)
      ∙ ap (λ bs. separator_text s ++ bs) (followed x xs (spelled_later xs))
      ∙ sym (append_assoc (separator_text s) (text x) more)

  -- a first one with those behind it
  pub spelled_list : (x : X) (xs : List X) →
      spell (list_pieces write s x xs) ≡ text x ++ listed (separator_text s) (separator_text s) text xs
  spelled_list x xs = followed x xs (spelled_later xs)
