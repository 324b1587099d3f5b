-- What folds over monomials give at those that tokens give, and what holds of them.
use Rattle.std.proofs.Common.{◌≡◌, ℕ, List, [], ◌∷◌, ◌++◌, flat_map, map, Option, Some, None, IfSome, ap, sym, ◌∙◌, subst}
use Rattle.std.specs.List.{AllByRecursion}
use Rattle.std.specs.Option.{option_map_or}
use Rattle.alg_tokens.specs.declared.token.Token.{Token}
use Rattle.alg_reader.specs.declared.raw.RawFactor.{RawFactor, out-RawFactor, roll-out-RawFactor, fold-roll-RawFactor}
use Rattle.alg_reader.specs.declared.raw.RawFactor.TheOpen.{RawFactor-F, RawMono-F}
use Rattle.alg_reader.specs.declared.raw.RawMono.{RawMono, fold-roll-RawMono}
use Rattle.alg_reader.specs.declared.raw.RawNumber.{RawNumber}
use Rattle.alg_reader.specs.declared.raw.Span.{Span}
use Rattle.alg_reader.specs.RawMonos.{factor_of, mono_of, start_of, plain_factor, image_factor, raised_factor, fold_mono, fold_factor, joined, names_of_factor, exponents_of_factor, names_in_mono, names_in_factor, exponents_in_mono, exponents_in_factor}
use Rattle.alg_reader.specs.RawNodes.{span_of}
use Rattle.alg_reader.specs.WellRead.{IsNameAt, IsNumeral, IsWellMono}
use Rattle.alg_reader.proofs.Found.{all_append, all_split, all_of, IsWellFactor}

-- ---- folds

module _ {X Y : Type 0} (factor : RawFactor-F X Y → X) (all : RawMono-F X Y → Y) where
  pub fold_plain : (name : Span) (exponent : Option RawNumber) → fold_factor factor all (factor_of name None exponent)
      ≡ factor (record { name = name; of = None; exponent = exponent })
  fold_plain name exponent = fold-roll-RawFactor _ _ _ _ _

  pub fold_image : (name : Span) (of : RawMono) (exponent : Option RawNumber)
      → fold_factor factor all (factor_of name (Some of) exponent)
      ≡ factor (record { name = name; of = Some (fold_mono factor all of); exponent = exponent })
  fold_image name of exponent = fold-roll-RawFactor _ _ _ _ _

  pub fold_all : (start : ℕ) (fs : List RawFactor) → fold_mono factor all (mono_of start fs)
      ≡ all (record { start = start; factors = map (fold_factor factor all) fs })
  fold_all start fs = fold-roll-RawMono _ _ _ _ _

names_raised : (f : RawFactor) (exponent : Option RawNumber) → names_in_factor (raised_factor f exponent)
    ≡ names_in_factor f
names_raised f exponent = fold-roll-RawFactor _ _ names_of_factor joined _
    ∙ sym (fold-roll-RawFactor _ _ names_of_factor joined (out-RawFactor f)) ∙ ap names_in_factor (roll-out-RawFactor f)

-- ---- what was read

joined_all : {X : Type 0} (P : X → Type 0) (g : RawFactor → List X) (fs : List RawFactor)
    → AllByRecursion (λ f. AllByRecursion P (g f)) fs → AllByRecursion P (flat_map (λ xs. xs) (map g fs))
joined_all P g [] h = tt
joined_all P g (f ∷ fs) h = all_append P (g f) _ h.0 (joined_all P g fs h.1)

all_names : (text : List ℕ) (fs : List RawFactor) → AllByRecursion (IsWellFactor text) fs
    → AllByRecursion (λ f. AllByRecursion (IsNameAt text) (names_in_factor f)) fs
all_names text [] h = tt
all_names text (f ∷ fs) h = (h.0.names, all_names text fs h.1)

all_exponents : (text : List ℕ) (fs : List RawFactor) → AllByRecursion (IsWellFactor text) fs
    → AllByRecursion (λ f. AllByRecursion IsNumeral (exponents_in_factor f)) fs
all_exponents text [] h = tt
all_exponents text (f ∷ fs) h = (h.0.exponents, all_exponents text fs h.1)

-- the names and exponents of a monomial are those of its factors
names_all : (text : List ℕ) (start : ℕ) (fs : List RawFactor) → AllByRecursion (IsWellFactor text) fs
    → AllByRecursion (IsNameAt text) (names_in_mono (mono_of start fs))
names_all text start fs h = subst (AllByRecursion (IsNameAt text)) (sym (fold_all names_of_factor joined start fs))
    (joined_all (IsNameAt text) names_in_factor fs (all_names text fs h))

exponents_all : (text : List ℕ) (start : ℕ) (fs : List RawFactor) → AllByRecursion (IsWellFactor text) fs
    → AllByRecursion IsNumeral (exponents_in_mono (mono_of start fs))
exponents_all text start fs h = subst (AllByRecursion IsNumeral) (sym (fold_all exponents_of_factor joined start fs))
    (joined_all IsNumeral exponents_in_factor fs (all_exponents text fs h))

pub factors_well : (text : List ℕ) (start : ℕ) (fs : List RawFactor) → AllByRecursion (IsWellFactor text) fs
    → IsWellMono text (mono_of start fs)
factors_well text start fs h = record {
  names = all_of (IsNameAt text) (names_in_mono (mono_of start fs)) (names_all text start fs h);
  exponents = all_of IsNumeral (exponents_in_mono (mono_of start fs)) (exponents_all text start fs h);
}

pub plain_well : (text : List ℕ) (name : Token) → IsNameAt text (span_of name) → IsWellFactor text (plain_factor name)
plain_well text name h = record {
  names = subst (AllByRecursion (IsNameAt text)) (sym (fold_plain names_of_factor joined (span_of name) None)) (h, tt);
  exponents = subst (AllByRecursion IsNumeral) (sym (fold_plain exponents_of_factor joined (span_of name) None)) tt;
}

pub image_well : (text : List ℕ) (name : Token) (f : RawFactor) → IsNameAt text (span_of name) → IsWellFactor text f
    → IsWellFactor text (image_factor name f)
image_well text name f h well =
    let inner = mono_of (start_of f) (f ∷ []) in
    record {
      names = subst (AllByRecursion (IsNameAt text)) (sym (fold_image names_of_factor joined (span_of name) inner None))
          (h, names_all text (start_of f) (f ∷ []) (well, tt));
      exponents = subst (AllByRecursion IsNumeral) (sym (fold_image exponents_of_factor joined (span_of name) inner
          None))
          (exponents_all text (start_of f) (f ∷ []) (well, tt));
    }

-- what stands behind the front of a list
behind_front : (front back all : List RawNumber) → all ≡ front ++ back → AllByRecursion IsNumeral all
    → AllByRecursion IsNumeral back
behind_front front back all e h = (all_split IsNumeral front back (subst (AllByRecursion IsNumeral) e h)).1

exponent_first : (exponent : Option RawNumber) (back : List RawNumber) → IfSome exponent IsNumeral
    → AllByRecursion IsNumeral back → AllByRecursion IsNumeral (option_map_or (λ n. n ∷ []) exponent [] ++ back)
exponent_first None back h all = all
exponent_first (Some n) back h all = (h, all)

pub raised_well : (text : List ℕ) (f : RawFactor) (exponent : Option RawNumber) → IfSome exponent IsNumeral
    → IsWellFactor text f → IsWellFactor text (raised_factor f exponent)
raised_well text f exponent h well =
    let old = sym (ap exponents_in_factor (roll-out-RawFactor f))
    ∙ fold-roll-RawFactor _ _ exponents_of_factor joined (out-RawFactor f) in
    record {
      names = subst (AllByRecursion (IsNameAt text)) (sym (names_raised f exponent)) well.names;
      exponents = subst (AllByRecursion IsNumeral) (sym (fold-roll-RawFactor _ _ exponents_of_factor joined _))
          (exponent_first exponent _ h (behind_front _ _ _ old well.exponents));
    }
