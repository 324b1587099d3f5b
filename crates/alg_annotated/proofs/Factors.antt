-- The names and exponents of a factor, and those of the factors of a monomial.
use Rattle.std.proofs.Common.{◌≡◌, ◌≢◌, ◌<◌, ◌≤◌, ◌+◌, ◌-◌, ℕ, true, List, [], ◌∷◌, ◌++◌, flat_map, map, take, length, get_or, Option, Some, None, refl, ap, sym, ◌∙◌, subst, append_assoc, arith}
use Rattle.std.proofs.lemmas.Bool.{lt-ltb}
use Rattle.std.proofs.lemmas.List.{take_more, flat_map_more}
use Rattle.std.proofs.lemmas.List.Sums.{sum_by_more, sum_by_more_le}
use Rattle.std.specs.Prelude.{All, nat_lt, sum_by}
use Rattle.alg_terms.proofs.JoinedLists.{all_flat}
use Rattle.alg_mono.specs.Monomials.{MAX_DEGREE}
use Rattle.alg_reader.specs.declared.raw.RawFactor.{RawFactor, out-RawFactor, roll-out-RawFactor}
use Rattle.alg_reader.specs.declared.raw.RawMono.{RawMono, out-RawMono, roll-out-RawMono}
use Rattle.alg_reader.specs.declared.raw.Span.{Span}
use Rattle.alg_reader.specs.RawMonos.{factor_of, joined, names_of_factor, names_in_mono, names_in_factor}
use Rattle.alg_reader.proofs.Monos.{fold_plain, fold_image, fold_all}
use Rattle.alg_reader.specs.WellRead.{IsNameAt, IsWellMono}
use Rattle.alg_annotated.specs.Monomials.{HasNames, exponent_of, factors_of}

joined_map : {X Y : Type 0} (g : X → List Y) (xs : List X) → flat_map (λ ys. ys) (map g xs) ≡ flat_map g xs
joined_map g [] = refl
joined_map g (x ∷ xs) = ap (λ ys. g x ++ ys) (joined_map g xs)

-- the names of a monomial are those of its factors
pub names_of_factors : (m : RawMono) → names_in_mono m ≡ flat_map names_in_factor (factors_of m)
names_of_factors m =
    let r = out-RawMono m in
    ap names_in_mono (sym (roll-out-RawMono m))
    ∙ fold_all names_of_factor joined r.start r.factors
    ∙ joined_map names_in_factor r.factors

eta : (f : RawFactor) → f ≡ factor_of (out-RawFactor f).name (out-RawFactor f).of (out-RawFactor f).exponent
eta f = sym (roll-out-RawFactor f)

-- a factor without parentheses has one name
pub names_alone : (f : RawFactor) → (out-RawFactor f).of ≡ None → names_in_factor f ≡ (out-RawFactor f).name ∷ []
names_alone f is =
    let r = out-RawFactor f in
    ap names_in_factor (eta f ∙ ap (λ of. factor_of r.name of r.exponent) is)
    ∙ fold_plain names_of_factor joined r.name r.exponent

-- one with parentheses has its own name, and those in them
pub names_inside : (f : RawFactor) (m : RawMono) → (out-RawFactor f).of ≡ Some m →
    names_in_factor f ≡ (out-RawFactor f).name ∷ flat_map names_in_factor (factors_of m)
names_inside f m is =
    let r = out-RawFactor f in
    ap names_in_factor (eta f ∙ ap (λ of. factor_of r.name of r.exponent) is)
    ∙ fold_image names_of_factor joined r.name m r.exponent
    ∙ ap (λ names. r.name ∷ names) (names_of_factors m)

-- a factor has a name
named : (f : RawFactor) (of : Option RawMono) → (out-RawFactor f).of ≡ of → names_in_factor f ≢ []
named f None is none = let e = sym (names_alone f is) ∙ none in cc
named f (Some m) is none = let e = sym (names_inside f m is) ∙ none in cc

pub has_name : (f : RawFactor) → names_in_factor f ≢ []
has_name f none = named f (out-RawFactor f).of refl none

-- each factor of a monomial that was read has its names in the text
pub factors_named : (text : List ℕ) (m : RawMono) → IsWellMono text m → All (HasNames text) (factors_of m)
factors_named text m well =
    all_flat (IsNameAt text) names_in_factor (factors_of m)
    (subst (All (IsNameAt text)) (names_of_factors m) well.names)

-- the names so far with those of one more factor
pub one_more_factor : (old : List Span) (name : Span) (fs : List RawFactor) (i : ℕ) (d : RawFactor) → i < length fs →
    (old ++ name ∷ flat_map names_in_factor (take i fs)) ++ names_in_factor (get_or fs i d)
    ≡ old ++ name ∷ flat_map names_in_factor (take (i + 1) fs)
one_more_factor old name fs i d h =
    append_assoc old (name ∷ flat_map names_in_factor (take i fs)) (names_in_factor (get_or fs i d))
    ∙ ap (λ ys. old ++ name ∷ ys) (flat_map_more names_in_factor [] (take i fs) (get_or fs i d)
    ∙ ap (flat_map names_in_factor) (sym (take_more fs i d h)))

-- the exponents so far, and what is left of the greatest degree
module _ (fs : List RawFactor) (i : ℕ) (d : RawFactor) (within : i < length fs) (left e : ℕ)
    (so_far : left + sum_by exponent_of (take i fs) ≡ MAX_DEGREE) (is : e ≡ exponent_of (get_or fs i d)) where
  -- if the next exponent is greater than what is left, the exponents are over the greatest degree
  pub over_with : left < e → true ≡ nat_lt MAX_DEGREE (sum_by exponent_of fs)
  over_with more =
      sym (lt-ltb MAX_DEGREE (sum_by exponent_of fs) (omega (arith, sum_by_more_le exponent_of fs i d within, so_far, is, more)))

  -- and else less is left
  pub left_with : e ≤ left → (left - e) + sum_by exponent_of (take (i + 1) fs) ≡ MAX_DEGREE
  left_with fits = omega (arith, sum_by_more exponent_of fs i d within, so_far, is, fits)
