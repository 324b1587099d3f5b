-- Monomials and counts of answers without faults: each factor has none, and the numbers are within their limits.
use Rattle.std.proofs.Common.{◌≡◌, ◌≢◌, ◌<◌, ◌≤◌, ◌+◌, ℕ, zero, suc, Bool, true, false, not, cond, List, [], ◌∷◌, ◌++◌, length, map, flat_map, get_or, Option, None, Some, refl, ap, sym, ◌∙◌, subst, arith}
use Rattle.std.specs.Prelude.{All, is_some, nat_lt, position, sum_by}
use Rattle.std.specs.Int.RustNames.{unsigned_abs}
use Rattle.std.specs.List.{position_or_len}
use Rattle.std.proofs.lemmas.Bool.{ltb-false}
use Rattle.std.proofs.lemmas.List.Elements.{All-head}
use Rattle.std.proofs.lemmas.List.Sums.{sum_by-cons}
use Rattle.alg_mono.specs.Monomials.{MAX_DEGREE, degree}
use Rattle.alg_terms.specs.declared.file.File.{File}
use Rattle.alg_terms.specs.declared.term.Atom.{Atom}
use Rattle.alg_terms.proofs.JoinedLists.{all_left, all_right}
use Rattle.alg_tokens.specs.declared.code.Code.{Code}
use Rattle.alg_tokens.specs.declared.code.Code.TheVariants as code
use Rattle.alg_reader.specs.declared.raw.RawFactor.{RawFactor}
use Rattle.alg_reader.specs.declared.raw.RawMono.{RawMono, out-RawMono}
use Rattle.alg_reader.specs.declared.raw.RawNumber.{RawNumber}
use Rattle.alg_reader.specs.declared.raw.Span.{Span}
use Rattle.alg_reader.specs.RawMonos.{names_in_factor, start_of}
use Rattle.alg_reader.specs.WellRead.{IsNameAt}
use Rattle.alg_reify.specs.Numbered.{number_of}
use Rattle.alg_reify.specs.Table.{atom_eq}
use Rattle.alg_typing.specs.Faults.{fault_if}
use Rattle.alg_annotated.specs.Monomials.{HasNames, exponent_of, factors_of, factor_atom, factor_fault, factor_pair, mono_faults, written_degree}
use Rattle.alg_annotated.specs.Rules.{MAX_COUNT, count_fault}
use Rattle.alg_annotated.proofs.Clear.{both_empty}

-- of lists that together are empty, each is
pub none_of_each : {X Y : Type 0} (f : X → List Y) (xs : List X) (i : ℕ) (d : X) → i < length xs → flat_map f xs ≡ [] →
    f (get_or xs i d) ≡ []
none_of_each f [] i d h e = absurd (omega (arith, h))
none_of_each f (x ∷ xs) zero d h e = (both_empty (f x) (flat_map f xs) e).0
none_of_each f (x ∷ xs) (suc i) d h e =
    none_of_each f xs i d (omega (arith, h)) (both_empty (f x) (flat_map f xs) e).1

-- where there is no fault, the test failed
not_there : (there : Bool) (c : Code) (at : ℕ) → fault_if there c at ≡ [] → there ≡ false
not_there true c at h = cc
not_there false c at h = refl

-- a count without a fault is within the greatest
pub count_within : (n : RawNumber) → count_fault n ≡ [] → unsigned_abs n.value ≤ MAX_COUNT
count_within n h = ltb-false MAX_COUNT (unsigned_abs n.value) (not_there (nat_lt MAX_COUNT (unsigned_abs n.value)) code.Line n.at h)

-- the names before the last one are names, and so is the last one
module _ (text : List ℕ) (f : RawFactor) (homs : List Span) (var : Span) (named : HasNames text f)
    (are : names_in_factor f ≡ homs ++ var ∷ []) where
  pub homs_named : All (IsNameAt text) homs
  homs_named = all_left (IsNameAt text) homs (var ∷ []) (subst (All (IsNameAt text)) are named)

  pub var_named : IsNameAt text var
  var_named =
      All-head (IsNameAt text) var [] (all_right (IsNameAt text) homs (var ∷ [])
      (subst (All (IsNameAt text)) are named))

was_found : (found : Option ℕ) (c : Code) (at : ℕ) → fault_if (not (is_some found)) c at ≡ [] → found ≢ None
was_found None c at h none = cc
was_found (Some k) c at h none = cc

place_found : (within : Bool) (n k : ℕ) → Some k ≡ cond within (Some n) None → k ≡ n
place_found true n k h = cc
place_found false n k h = absurd (cc)

-- a monomial without faults over a table has none over the same atoms
pub mono_clear : (file : File) (text : List ℕ) (atoms table : List Atom) (m : RawMono) → atoms ≡ table →
    mono_faults file text table m ≡ [] → mono_faults file text atoms m ≡ []
mono_clear file text atoms table m same none = ap (λ members. mono_faults file text members m) same ∙ none

module _ (file : File) (text : List ℕ) (atoms : List Atom) where
  -- the atom of a factor without a fault is in the table
  pub atom_found : (f : RawFactor) → factor_fault file text atoms f ≡ [] →
      position (atom_eq (factor_atom file text f)) atoms ≢ None
  atom_found f h = was_found (position (atom_eq (factor_atom file text f)) atoms) code.Line (start_of f) h

  -- the place where it was found is its number
  pub number_found : (a : Atom) (k : ℕ) → Some k ≡ position (atom_eq a) atoms → k ≡ number_of atoms a
  number_found a k h =
      place_found (nat_lt (position_or_len (atom_eq a) atoms) (length atoms)) (position_or_len (atom_eq a) atoms) k h

  -- a factor as its number with its exponent
  pub pair_from : (f : RawFactor) (n e : ℕ) → n ≡ number_of atoms (factor_atom file text f) → e ≡ exponent_of f →
      factor_pair file text atoms f ≡ (n, e)
  pair_from f n e number exponent = λ i. (sym number i, sym exponent i)

  -- the degree of the pairs is that of the factors
  pub pairs_degree : (fs : List RawFactor) → degree (map (factor_pair file text atoms) fs) ≡ sum_by exponent_of fs
  pairs_degree [] = refl
  pairs_degree (f ∷ fs) =
      sum_by-cons (λ (e : ℕ × ℕ). e.1) (factor_pair file text atoms f) (map (factor_pair file text atoms) fs)
      ∙ ap (λ n. exponent_of f + n) (pairs_degree fs)
      ∙ sym (sum_by-cons exponent_of f fs)

  module _ (m : RawMono) (none : mono_faults file text atoms m ≡ []) where
    parts : (fault_if (nat_lt MAX_DEGREE (written_degree m)) code.Line (out-RawMono m).start ≡ [])
        × (flat_map (factor_fault file text atoms) (factors_of m) ≡ [])
    parts =
        both_empty (fault_if (nat_lt MAX_DEGREE (written_degree m)) code.Line (out-RawMono m).start)
        (flat_map (factor_fault file text atoms) (factors_of m)) none

    -- a monomial without faults has factors without faults
    pub factors_clear : flat_map (factor_fault file text atoms) (factors_of m) ≡ []
    factors_clear = parts.1

    -- its exponents are within the greatest degree
    pub exponents_low : sum_by exponent_of (factors_of m) ≤ MAX_DEGREE
    exponents_low =
        ltb-false MAX_DEGREE (written_degree m)
        (not_there (nat_lt MAX_DEGREE (written_degree m)) code.Line (out-RawMono m).start parts.0)
