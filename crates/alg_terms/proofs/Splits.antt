-- What holds of each statement of a list and the statements before it.
use Rattle.std.proofs.Common.{◌≡◌, List, [], ◌∷◌, ◌++◌, sym, subst, append_assoc, append-nil}

-- P holds of each item and the items before it, where `front` stands before them all
abbrev pub EachSplit : {S : Type 0} → (List S → S → Type 0) → List S → List S → Type 0
EachSplit P front [] = Unit {0}
EachSplit P front (s ∷ rest) = P front s × EachSplit P (front ++ (s ∷ [])) rest

pub each_split : {S : Type 0} (P : List S → S → Type 0) (front items before after : List S) (s : S) →
    EachSplit P front items → items ≡ before ++ (s ∷ after) → P (front ++ before) s
each_split P front [] [] after s h is = absurd (cc)
each_split P front [] (b ∷ before) after s h is = absurd (cc)
each_split P front (t ∷ rest) [] after s h is =
    let head : t ≡ s = cc in
    subst (λ w. P w s) (sym (append-nil front)) (subst (λ w. P front w) head h.0)
each_split P front (t ∷ rest) (b ∷ before) after s h is =
    let head : t ≡ b = cc in
    let tail : rest ≡ before ++ (s ∷ after) = cc in
    let later : P ((front ++ (t ∷ [])) ++ before) s = each_split P (front ++ (t ∷ [])) rest before after s h.1 tail in
    subst (λ w. P (front ++ (w ∷ before)) s) head (subst (λ w. P w s) (append_assoc front (t ∷ []) before) later)
