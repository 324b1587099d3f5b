-- What a search finds among rising pairs, and what an edit at that place does.
use Rattle.std.proofs.Common.{◌≡◌, ℕ, zero, suc, ◌+◌, ◌<◌, ◌≤◌, [], ◌∷◌, length, get_or, set, Result, Ok, Err, IfOk, IfErr, refl, sym, ap, subst, ◌∙◌, arith, zero-add, T}
use Rattle.std.specs.List.{insert}
use Rattle.std.specs.List.Sorted.{IsSearchInRange, IsBinarySearchResult, IsNonDecreasingBy}
use Rattle.std.specs.declared.cmp.Ordering.TheVariants.{Less, Equal, Greater}
use Rattle.std.specs.Ordering.{nat_cmp, ordering_index}
use Rattle.std.specs.FinMap.Entries.{below_all}
use Rattle.std.proofs.lemmas.Cmp.{ranked}
use Rattle.std.proofs.lemmas.List.Sorted.{IsNonDecreasingBy-from_default}
use Rattle.std.proofs.lemmas.Bool.Decides.{nat_tests}
use Rattle.std.specs.Cmp.{nat_cmp_total}
use Rattle.std.specs.FinMap.{nat_cmp-IsAntisymmetric}
use Rattle.alg_mono.specs.FiniteMaps.{IsCanonical, put_in}
use Rattle.alg_mono.specs.Numbers.{exponents}
use Rattle.alg_mono.specs.Monomials.{exponent}
use Rattle.alg_mono.specs.Mono.{Monomial}
use Rattle.alg_mono.specs.Places.{atom_at, IsAt, IsGapFor}
use Rattle.alg_mono.proofs.Numbers.{exponent_laws}
use Rattle.alg_mono.proofs.Canonical.{first, second, less, rest_of, amount-first}
use Rattle.alg_mono.proofs.Sums.{keep_some}

abbrev Can : Monomial → Type 0
Can m = IsCanonical nat_cmp exponents m

smaller : (i j : ℕ) → nat_cmp i j ≡ Less → i < j
smaller i j e = ranked i j Less (sym e)

-- a pair's atom is less than those of the pairs after it
below_at : (k : ℕ) (m : Monomial) (j : ℕ) → T (below_all nat_cmp k m) → j < length m → k < atom_at m j
below_at k [] j h lt = absurd (omega arith)
below_at k (x ∷ m) zero h lt = smaller k x.0 (less _ (first _ _ h))
below_at k (x ∷ m) (suc j) h lt = below_at k m j (second _ _ h) (omega arith)

rises_at : (m : Monomial) → Can m → (i j : ℕ) → i < j → j < length m → atom_at m i < atom_at m j
rises_at [] c i j lt in_range = absurd (omega arith)
rises_at (x ∷ m) c i zero lt in_range = absurd (omega arith)
rises_at (x ∷ m) c zero (suc j) lt in_range = below_at x.0 m j (first _ _ c.rises) (omega arith)
rises_at (x ∷ m) c (suc i) (suc j) lt in_range =
    rises_at m (rest_of exponent_laws nat_cmp_total nat_cmp-IsAntisymmetric x m c) i j (omega arith) (omega arith)

module _ (m : Monomial) (c : Can m) (k : ℕ) where
  -- the comparisons with k rise along the list, as a binary search asks
  comparisons_rise : IsNonDecreasingBy (λ pair. ordering_index (nat_cmp pair.0 k)) m
  comparisons_rise =
      IsNonDecreasingBy-from_default (λ pair. ordering_index (nat_cmp pair.0 k)) m (0, 0) (λ i j le in_range.
      let atoms_rise : atom_at m i ≤ atom_at m j = grind
      (arith, rises_at m c i j, λ (same : i ≡ j). ap (atom_at m) same) in
      grind (arith, nat_tests))

  -- a binary search by atom ends at the atom, or at the gap for it
  pub searched : (r : Result ℕ ℕ) → IsSearchInRange r (length m) → IsBinarySearchResult (λ pair. nat_cmp pair.0 k) m r →
      record { found : IfOk r (IsAt m k); absent : IfErr r (IsGapFor m k) }
  searched (Ok at) in_range equal =
      record { found = record { in_range = in_range; has_atom = ranked _ k _ (sym (equal (0, 0))) }; absent = tt }
  searched (Err at) in_range parted = record {
    found = tt;
    absent = record {
      in_range = in_range;
      lesser_before = λ j lt. ranked _ k _ (sym ((parted comparisons_rise).0 j (0, 0) (omega arith) lt));
      greater_after = λ j le lt. ranked _ k _ (sym ((parted comparisons_rise).1 j (0, 0) le lt));
    };
  }

is_less : (i j : ℕ) → i < j → nat_cmp i j ≡ Less
is_less i j h = grind arith

is_greater : (i j : ℕ) → j < i → nat_cmp i j ≡ Greater
is_greater i j h = grind arith

is_equal : (i j : ℕ) → i ≡ j → nat_cmp i j ≡ Equal
is_equal i j h = grind arith

gap_after : (x : ℕ × ℕ) (m : Monomial) (k at : ℕ) → IsGapFor (x ∷ m) k (suc at) → IsGapFor m k at
gap_after x m k at gap = record {
  in_range = let h = gap.in_range in omega arith;
  lesser_before = λ j lt. gap.lesser_before (suc j) (omega arith);
  greater_after = λ j le lt. gap.greater_after (suc j) (omega arith) (omega arith);
}

-- a new pair goes into the gap
pub put_in_gap : (m : Monomial) (k a at : ℕ) → 0 < a → IsGapFor m k at →
    put_in nat_cmp exponents k a m ≡ insert m at (k, a)
put_in_gap [] k a zero h gap = keep_some nat_cmp k a [] h
put_in_gap [] k a (suc at) h gap = absurd (omega (arith, gap.in_range))
put_in_gap (x ∷ m) k a zero h gap =
    rw (is_less k x.0 (gap.greater_after 0 (omega arith) (omega arith))) (keep_some nat_cmp k a (x ∷ m) h)
put_in_gap (x ∷ m) k a (suc at) h gap =
    rw (is_greater k x.0 (gap.lesser_before 0 (omega arith)))
    (ap (λ l. x ∷ l) (put_in_gap m k a at h (gap_after x m k at gap)))

-- an atom that is there gets the greater exponent
pub put_in_at : (m : Monomial) (k a at : ℕ) → Can m → 0 < a → IsAt m k at →
    put_in nat_cmp exponents k a m ≡ set m at (k, a + (get_or m at (0, 0)).1)
put_in_at [] k a at c h is = absurd (omega (arith, is.in_range))
put_in_at (x ∷ m) k a zero c h is =
    rw (is_equal k x.0 (sym is.has_atom))
    (keep_some nat_cmp x.0 (a + x.1) m (omega arith) ∙ (λ i. (is.has_atom i, a + x.1) ∷ m))
put_in_at (x ∷ m) k a (suc at) c h is =
    let before : x.0 < k = subst (λ n. x.0 < n) is.has_atom (rises_at (x ∷ m) c 0 (suc at) (omega arith) is.in_range) in
    let there : IsAt m k at = record { in_range = let h = is.in_range in omega arith; has_atom = is.has_atom } in
    let rest = rest_of exponent_laws nat_cmp_total nat_cmp-IsAntisymmetric x m c in
    rw (is_greater k x.0 before) (ap (λ l. x ∷ l) (put_in_at m k a at rest h there))

-- an atom in a gap has the exponent 0
pub exponent_in_gap : (m : Monomial) (k at : ℕ) → IsGapFor m k at → exponent nat_cmp k m ≡ 0
exponent_in_gap [] k at gap = refl
exponent_in_gap (x ∷ m) k zero gap =
    let after : IsGapFor m k 0 = record {
      in_range = omega arith;
      lesser_before = λ j lt. absurd (omega arith);
      greater_after = λ j le lt. gap.greater_after (suc j) (omega arith) (omega arith);
    } in
    rw (is_less k x.0 (gap.greater_after 0 (omega arith) (omega arith))) (zero-add _ ∙ exponent_in_gap m k 0 after)
exponent_in_gap (x ∷ m) k (suc at) gap =
    rw (is_greater k x.0 (gap.lesser_before 0 (omega arith)))
    (zero-add _ ∙ exponent_in_gap m k at (gap_after x m k at gap))

-- an atom that is there has the exponent of its pair
pub exponent_there : (m : Monomial) (k at : ℕ) → Can m → IsAt m k at → exponent nat_cmp k m ≡ (get_or m at (0, 0)).1
exponent_there [] k at c is = absurd (omega (arith, is.in_range))
exponent_there (x ∷ m) k zero c is =
    ap (λ q. exponent nat_cmp q (x ∷ m)) (sym is.has_atom)
    ∙ amount-first exponent_laws nat_cmp_total nat_cmp-IsAntisymmetric x m (first _ _ c.rises)
exponent_there (x ∷ m) k (suc at) c is =
    let before : x.0 < k = subst (λ n. x.0 < n) is.has_atom (rises_at (x ∷ m) c 0 (suc at) (omega arith) is.in_range) in
    let there : IsAt m k at = record { in_range = let h = is.in_range in omega arith; has_atom = is.has_atom } in
    let rest = rest_of exponent_laws nat_cmp_total nat_cmp-IsAntisymmetric x m c in
    rw (is_greater k x.0 before) (zero-add _ ∙ exponent_there m k at rest there)
