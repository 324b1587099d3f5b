-- The first fault of several lists of faults, one after the other.
use Rattle.std.proofs.Common.{◌≡◌, ℕ, ◌+◌, ◌<◌, length, get_or, take, flat_map, Bool, true, false, List, [], ◌∷◌, ◌++◌, Option, None, Some, refl, sym, ◌∙◌, ap, arith}
use Rattle.std.proofs.lemmas.Bool.Decides.{nat_tests}
use Rattle.std.proofs.lemmas.List.{take_more, flat_map_more}
use Rattle.alg_tokens.specs.declared.token.Refusal.{Refusal}
use Rattle.alg_typing.specs.Faults.{comes_before, earlier, earlier_of, first_of}

-- what comes before what comes before a third comes before the third
before-trans : (f g h : Refusal) → comes_before g f ≡ true → comes_before h g ≡ true → comes_before h f ≡ true
before-trans f g h a b = grind (arith, nat_tests)

-- of two that do not come before those after them, the last does not come before the first
not_before-trans : (f g h : Refusal) → comes_before g f ≡ false → comes_before h g ≡ false → comes_before h f ≡ false
not_before-trans f g h a b = grind (arith, nat_tests)

three : (f g h : Refusal) (gf hg : Bool) → comes_before g f ≡ gf → comes_before h g ≡ hg →
    earlier f (Some (earlier g (Some h))) ≡ earlier (earlier f (Some g)) (Some h)
three f g h true true a b = rw b (rw a (rw b (rw (before-trans f g h a b) refl)))
three f g h true false a b = rw b (rw a (rw b refl))
three f g h false true a b = rw b (rw a refl)
three f g h false false a b = rw b (rw a (rw (not_before-trans f g h a b) refl))

earlier-assoc : (f g : Refusal) (h : Option Refusal) →
    Some (earlier f (Some (earlier g h))) ≡ earlier_of (Some (earlier f (Some g))) h
earlier-assoc f g None = refl
earlier-assoc f g (Some h) = ap (λ x. Some x) (three f g h (comes_before g f) (comes_before h g) refl refl)

none_last : (x : Option Refusal) → x ≡ earlier_of x None
none_last None = refl
none_last (Some f) = refl

after_one : (f : Refusal) (x y : Option Refusal) → Some (earlier f (earlier_of x y)) ≡ earlier_of (Some (earlier f x)) y
after_one f None None = refl
after_one f None (Some g) = refl
after_one f (Some g) y = earlier-assoc f g y

-- the first fault of two lists is the earlier of the first of each
pub first_of-append : (xs ys : List Refusal) → first_of (xs ++ ys) ≡ earlier_of (first_of xs) (first_of ys)
first_of-append [] ys = refl
first_of-append (f ∷ xs) ys =
    ap (λ o. Some (earlier f o)) (first_of-append xs ys) ∙ after_one f (first_of xs) (first_of ys)

-- the earlier of three, whichever two are compared first
pub earlier_of-assoc : (x y z : Option Refusal) → earlier_of (earlier_of x y) z ≡ earlier_of x (earlier_of y z)
earlier_of-assoc None y z = refl
earlier_of-assoc (Some f) y z = sym (after_one f y z)

pub earlier_of-None : (x : Option Refusal) → earlier_of x None ≡ x
earlier_of-None x = sym (none_last x)

-- one more list of faults
pub first_of-more : {X : Type 0} (f : X → List Refusal) (xs : List X) (i : ℕ) (d : X) → i < length xs →
    first_of (flat_map f (take (i + 1) xs))
    ≡ earlier_of (first_of (flat_map f (take i xs))) (first_of (f (get_or xs i d)))
first_of-more f xs i d h =
    let x = get_or xs i d in
    ap (λ ys. first_of (flat_map f ys)) (take_more xs i d h)
    ∙ ap first_of (sym (flat_map_more f [] (take i xs) x))
    ∙ first_of-append (flat_map f (take i xs)) (f x)

-- where there is no first fault, there is none
pub no_faults : (xs : List Refusal) → first_of xs ≡ None → xs ≡ []
no_faults [] h = refl
no_faults (f ∷ xs) h = cc

pub ruleset firsts = (first_of-append)

pub ruleset firsts_grouped = (first_of-append, earlier_of-assoc)
