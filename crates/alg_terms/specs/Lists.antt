-- Lists with each member once.
use Rattle.std.specs.Prelude.{Bool, not, List, [], ◌∷◌, filter}

-- each member once, where it occurs first; `same` tells whether two are one
abbrev pub each_once : {A : Type 0} → (A → A → Bool) → List A → List A
each_once same [] = []
each_once same (a ∷ rest) = a ∷ filter (λ b. not (same a b)) (each_once same rest)
