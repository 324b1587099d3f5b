-- The loops that build nodes.
use Rattle.std.proofs.Common.{◌≡◌, ℕ, ◌+◌, ◌<◌, List, [], ◌∷◌, ◌++◌, length, take, get_or, refl, ap, ◌∙◌, arith}
use Rattle.std.proofs.lemmas.List.{take_more}
use Rattle.alg_reader.specs.declared.raw.RawTerm.{RawTerm}
use Rattle.alg_reader.specs.RawNodes.{opposite, opposites}
use Rattle.alg_reader.specs.declared.parts.HeldTerm.{HeldTerm}
use Rattle.alg_reader.specs.Parts.{opposite_part, opposites_part}

pub opposites-append : (heads : List ℕ) (head : ℕ) (t : RawTerm)
    → opposites (heads ++ head ∷ []) t ≡ opposites heads (opposite head t)
opposites-append [] head t = refl
opposites-append (h ∷ heads) head t = ap (opposite h) (opposites-append heads head t)

opposites_part-append : (heads : List ℕ) (head : ℕ) (p : HeldTerm)
    → opposites_part (heads ++ head ∷ []) p ≡ opposites_part heads (opposite_part head p)
opposites_part-append [] head p = refl
opposites_part-append (h ∷ heads) head p = ap (opposite_part h) (opposites_part-append heads head p)

pub opposites_more : (heads : List ℕ) (k : ℕ) → k < length heads → (p : HeldTerm)
    → opposites_part (take (k + 1) heads) p ≡ opposites_part (take k heads) (opposite_part (get_or heads k 0) p)
opposites_more heads k h p = ap (λ hs. opposites_part hs p) (take_more heads k 0 h)
    ∙ opposites_part-append (take k heads) (get_or heads k 0) p

pub empty_below_one : {X : Type 0} (xs : List X) → length xs < 1 → xs ≡ []
empty_below_one [] h = refl
empty_below_one (x ∷ xs) h = absurd (omega arith)
