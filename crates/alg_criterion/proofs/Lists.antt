-- What holds of each of a list, by its places and by recursion.
use Rattle.std.specs.Prelude.{◌≡◌, ◌≢◌, ℕ, ◌+◌, ◌<◌, List, [], ◌∷◌, pos, All, length, get_or, take}
use Rattle.std.proofs.Common.{refl, sym, subst}
use Rattle.std.proofs.lemmas.List.{take_more}
use Rattle.std.specs.List.{Contains}
use Rattle.std.proofs.lemmas.List.Elements.{All-nil, All-cons, All-head, All-tail, All-contains_itself, All-push}
use Rattle.alg_mono.specs.Mono.{Monomial}
use Rattle.alg_mono.specs.NumberedPolynomials.{Polynomial}
use Rattle.alg_groebner.specs.Leads.{lead}
use Rattle.alg_criterion.proofs.Spans.{Every, Led, whole}

pub every_of : {A : Type 0} (P : A → Type 0) (xs : List A) → All P xs → Every P xs
every_of P [] h = tt
every_of P (x ∷ xs) h = (All-head P x xs h, every_of P xs (All-tail P x xs h))

pub all_of : {A : Type 0} (P : A → Type 0) (xs : List A) → Every P xs → All P xs
all_of P [] h = All-nil P
all_of P (x ∷ xs) h = All-cons P x xs h.0 (all_of P xs h.1)

-- each of a list is in it
pub every_itself : {A : Type 0} (xs : List A) → Every (Contains xs) xs
every_itself xs = every_of (Contains xs) xs (All-contains_itself xs)

-- one more of those up to a place
pub so_far : {A : Type 0} (P : A → Type 0) (xs : List A) (i : ℕ) (x : A) → i < length xs → x ≡ get_or xs i x →
    All P (take i xs) → P x → All P (take (i + 1) xs)
so_far P xs i x h e a p =
    subst (All P) (sym (take_more xs i x h)) (All-push P (take i xs) (get_or xs i x) a (subst P e p))

-- ---- a polynomial with its lead apart
abbrev pub led_of : Polynomial → Led Monomial
led_of [] = record { lead = []; leading = pos 0; rest = [] }
led_of (e ∷ p) = record { lead = e.0; leading = e.1; rest = p }

pub whole-led_of : (p : Polynomial) → p ≢ [] → whole (led_of p) ≡ p
whole-led_of [] h = absurd (h refl)
whole-led_of (e ∷ p) h = refl

pub lead-led_of : (p : Polynomial) → lead p ≡ (led_of p).lead
lead-led_of [] = refl
lead-led_of (e ∷ p) = refl
