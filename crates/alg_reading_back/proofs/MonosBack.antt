-- The raw monomial of a canonical text comes back as the monomial, without fault, in the front of a file that has the
-- names of its atoms.
use Rattle.std.proofs.Common.{◌≡◌, ◌<◌, ◌≤◌, ℕ, ◌+◌, true, false, cond, nat_lt, List, [], ◌∷◌, ◌++◌, map, flat_map, length, Option, Some, None, pos, refl, sym, ap, ◌∙◌, subst, arith, append-nil, ◌==◌, T}
use Rattle.std.specs.Cmp.{nat_cmp_total}
use Rattle.std.specs.FinMap.{nat_cmp-IsAntisymmetric}
use Rattle.std.specs.Prelude.{is_some, not, position, sum_by}
use Rattle.std.specs.Int.RustNames.{unsigned_abs}
use Rattle.std.specs.List.{AllByRecursion}
use Rattle.std.specs.Option.{option_map_or}
use Rattle.std.specs.Ordering.{nat_cmp}
use Rattle.std.proofs.lemmas.Bool.Decides.{nat_tests}
use Rattle.std.proofs.lemmas.List.Sums.{sum_by-cons}
use Rattle.std.proofs.lemmas.List.Elements.{All-get_or, recursion_from_All}
use Rattle.alg_mono.specs.FiniteMaps.{all_some, collect}
use Rattle.alg_mono.specs.Mono.{Monomial}
use Rattle.alg_mono.specs.Monomials.{MAX_DEGREE, degree}
use Rattle.alg_mono.specs.Numbers.{exponents}
use Rattle.alg_mono.proofs.Canonical.{collect-canonical, first, second}
use Rattle.alg_mono.proofs.Numbers.{exponent_laws}
use Rattle.alg_terms.specs.declared.file.File.{File}
use Rattle.alg_terms.specs.declared.term.Atom.{Atom}
use Rattle.alg_terms.specs.Valid.{names_of}
use Rattle.alg_tokens.specs.declared.code.Code.TheVariants as code
use Rattle.alg_tokens.specs.declared.token.Sign.TheVariants as signs
use Rattle.alg_tokens.specs.declared.token.TokenKind.TheVariants as kinds
use Rattle.alg_tokens.specs.Laws.{width}
use Rattle.alg_reader.specs.declared.raw.RawFactor.{RawFactor, out-RawFactor, roll-out-RawFactor, out-roll-RawFactor, fold-roll-RawFactor}
use Rattle.alg_reader.specs.declared.raw.RawMono.{RawMono, out-roll-RawMono}
use Rattle.alg_reader.specs.declared.raw.RawNumber.{RawNumber}
use Rattle.alg_reader.specs.declared.raw.RawUse.{RawUse}
use Rattle.alg_reader.specs.RawMonos.{mono_of, mono_one, start_of, raised_factor, joined, names_of_factor, names_in_factor}
use Rattle.alg_reader.proofs.Monos.{fold_plain, fold_image, fold_all}
use Rattle.alg_typing.specs.NameFaults.{used_name}
use Rattle.alg_typing.specs.Names.{is_hom, is_var}
use Rattle.alg_typing.specs.Resolved.{number_at}
use Rattle.alg_typing.proofs.FreshNames.{AreDistinct}
use Rattle.alg_typing.proofs.Growing.{Grows}
use Rattle.alg_typing.proofs.SortsClear.{no_cause}
use Rattle.alg_annotated.specs.Monomials.{atom_names, atom_of, exponent_of, factor_names, factor_atom, factor_fault, factor_pair, factors_of, mono_names, mono_faults, monomial_of, written_degree}
use Rattle.alg_annotated.proofs.AtomNames.{names_apart, atom_apart}
use Rattle.alg_reify.specs.Numbered.{number_of}
use Rattle.alg_reify.specs.Table.{atom_eq}
use Rattle.alg_printer.specs.Monomials.{atom_at, no_atom, IsAtomOf}
use Rattle.alg_printer.specs.Names.{var_name, hom_name}
use Rattle.alg_printer.specs.Printable.{IsMonomialOver}
use Rattle.alg_printer.proofs.Leaves.{AreAtoms}
use Rattle.alg_reading_back.proofs.AtomNumbers.{AreOnce, number_there, atom_found}
use Rattle.alg_reading_back.proofs.ListsBack.{AreOf, of_same, of_none, of_weaker, list_back}
use Rattle.alg_reading_back.proofs.MonoEnds.{IsEntry, entries_of}
use Rattle.alg_reading_back.proofs.NamesTaken.{two_empty}
use Rattle.alg_reading_back.proofs.PiecesAt.{PiecesAt, pieces_at_left, span_bytes}
use Rattle.alg_reading_back.proofs.TermsBack.{var_used, hom_used}
use Rattle.alg_reading_back.proofs.WrittenLists.{star, all_raw}
use Rattle.alg_reading_back.proofs.WrittenMethods.{path_pieces, path_raw}
use Rattle.alg_reading_back.proofs.WrittenMonos.{atom_raw, exponent_pieces, exponent_raw, atom_pieces, written_factor, written_mono}
use Rattle.alg_reading_back.proofs.WrittenTerms.{sign, span, in_parentheses}

-- ---- names and exponents of raw factors

-- the names of an atom are those of its path and its variable
atom_spans : (file : File) (at : ℕ) (path bytes : List ℕ) → names_in_factor (atom_raw file at path bytes)
    ≡ (path_raw file at path bytes).path ++ (path_raw file at path bytes).hyp ∷ []
atom_spans file at [] bytes = fold_plain names_of_factor joined (span at bytes) None
atom_spans file at (f ∷ path) bytes =
    let name = span at (hom_name file f) in
    let inner = atom_raw file (at + length (hom_name file f) + 1) path bytes in
    fold_image names_of_factor joined name (mono_of (start_of inner) (inner ∷ [])) None
    ∙ ap (λ ns. name ∷ ns) (fold_all names_of_factor joined (start_of inner) (inner ∷ [])
    ∙ append-nil (names_in_factor inner) ∙ atom_spans file (at + length (hom_name file f) + 1) path bytes)

names_raised : (f : RawFactor) (exponent : Option RawNumber) →
    names_in_factor (raised_factor f exponent) ≡ names_in_factor f
names_raised f exponent =
    fold-roll-RawFactor _ _ names_of_factor joined _
    ∙ sym (fold-roll-RawFactor _ _ names_of_factor joined (out-RawFactor f)) ∙ ap names_in_factor (roll-out-RawFactor f)

exponent_raised : (f : RawFactor) (exponent : Option RawNumber) →
    exponent_of (raised_factor f exponent) ≡ option_map_or (λ n. unsigned_abs n.value) exponent 1
exponent_raised f exponent =
    ap (λ r. option_map_or (λ n. unsigned_abs n.value) r.exponent 1)
    (out-roll-RawFactor (record (out-RawFactor f) { exponent = exponent }))

-- an exponent from 1 on, written where it is above 1
exponent_back : (at n : ℕ) → 1 ≤ n → option_map_or (λ n. unsigned_abs n.value) (exponent_raw at n) 1 ≡ n
exponent_back at n some =
    elim (nat_lt 1 n) as (λ b. nat_lt 1 n ≡ b → option_map_or (λ (n : RawNumber). unsigned_abs n.value)
    (cond b (Some (record { value = pos n; at = at + 1 })) None) 1 ≡ n) [
      | true ↦ λ e. refl
      | false ↦ λ e. grind (arith, nat_tests)
    ] refl

-- the factors of a monomial
factors_back : (start : ℕ) (fs : List RawFactor) → factors_of (mono_of start fs) ≡ fs
factors_back start fs = ap (λ m. m.factors) (out-roll-RawMono (record { start = start; factors = fs }))

-- ---- canonical monomials

positive : (n : ℕ) → T (not (n == 0)) → 1 ≤ n
positive n h = let some : n ≡ 0 → ⊥ = λ e. subst (λ b. T (not b)) (ap (λ k. k == 0) e) h in omega arith

-- an entry of a monomial over these atoms, with its exponent at least 1
abbrev pub IsPositive : List Atom → ℕ × ℕ → Type 0
IsPositive atoms e = IsEntry atoms e × (1 ≤ e.1)

positives : (atoms : List Atom) (m : Monomial) → AllByRecursion (IsEntry atoms) m → T (all_some nat_cmp exponents m) →
    AllByRecursion (IsPositive atoms) m
positives atoms [] each some = tt
positives atoms (e ∷ m) each some =
    ((each.0, positive e.1 (first _ _ some)), positives atoms m each.1 (second _ _ some))

-- ---- atoms

module _ (file g : File) (text : List ℕ) (distinct : AreDistinct (names_of g)) (grows : Grows g file) where
  -- a raw path to a variable that comes back
  record IsPathBack (path : List ℕ) (k : ℕ) (raw : RawUse) : Type 0 where
    homs : map (number_at g text) raw.path ≡ path
    homs_clear : flat_map (used_name g text is_hom) raw.path ≡ []
    var : number_at g text raw.hyp ≡ k
    var_clear : used_name g text is_var raw.hyp ≡ []

  path_back : (path : List ℕ) (k at : ℕ) → k < length g.vars → AllByRecursion (λ f. f < length g.homs) path →
      PiecesAt text at (path_pieces file path (var_name file k)) →
      IsPathBack path k (path_raw file at path (var_name file k))
  path_back [] k at low homs placed =
      let bytes = var_name file k in
      let (number, named) =
      var_used file g text distinct grows k (span at bytes) low (span_bytes text at kinds.Name bytes [] placed) in
      record { homs = refl; homs_clear = refl; var = number; var_clear = named }
  path_back (f ∷ path) k at low homs placed =
      let bytes = hom_name file f in
      let pieces = path_pieces file path (var_name file k) in
      let rest = path_raw file (at + length bytes + 1) path (var_name file k) in
      let (number, named) =
      hom_used file g text distinct grows f (span at bytes) homs.0
      (span_bytes text at kinds.Name bytes (in_parentheses pieces) placed) in
      let inside = pieces_at_left text ((at + length bytes) + 1) pieces (sign signs.ParenRight ∷ []) placed.1.1 in
      let back = path_back path k (at + length bytes + 1) low homs.1 inside in
      record {
        homs = ap (λ n. n ∷ map (number_at g text) rest.path) number ∙ ap (λ ns. f ∷ ns) back.homs;
        homs_clear = two_empty (used_name g text is_hom (span at bytes))
            (flat_map (used_name g text is_hom) rest.path) named back.homs_clear;
        var = back.var;
        var_clear = back.var_clear;
      }

  -- a factor whose names are those of such a path
  module _ (path : List ℕ) (k : ℕ) (raw : RawUse) (f : RawFactor) (back : IsPathBack path k raw)
      (spans : names_in_factor f ≡ raw.path ++ raw.hyp ∷ []) where
    atom_clear : factor_names g text f ≡ []
    atom_clear =
        ap (atom_names g text) spans ∙ names_apart g text raw.hyp raw.path
        ∙ two_empty (flat_map (used_name g text is_hom) raw.path) (used_name g text is_var raw.hyp) back.homs_clear
        back.var_clear

    atom_is : factor_atom g text f ≡ record { path = path; var = k }
    atom_is =
        ap (atom_of g text) spans ∙ atom_apart g text raw.hyp raw.path
        ∙ ap (λ p. record { path = p; var = number_at g text raw.hyp }) back.homs
        ∙ ap (λ v. record { path = path; var = v }) back.var

  -- ---- monomials over a table

  module _ (atoms : List Atom) (are : AreAtoms g atoms) (once : AreOnce atoms) where
    -- a factor that comes back: its names have no faults, its atom is in the table, and it is the entry
    record IsFactorBack (e : ℕ × ℕ) (f : RawFactor) : Type 0 where
      names : factor_names g text f ≡ []
      found : factor_fault g text atoms f ≡ []
      pair : factor_pair g text atoms f ≡ e

    factor_back : (e : ℕ × ℕ) (at : ℕ) → IsPositive atoms e → PiecesAt text at (written_factor file atoms e).pieces →
        IsFactorBack e ((written_factor file atoms e).raw at)
    factor_back e at (is, some) placed =
        let atom = atom_at atoms e.0 in
        let bytes = var_name file atom.var in
        let there = at + width (atom_pieces file atom) in
        let exponent = exponent_raw there e.1 in
        let plain = atom_raw file at atom.path bytes in
        let raw = raised_factor plain exponent in
        let of : IsAtomOf g atom = All-get_or (IsAtomOf g) atoms e.0 no_atom is.atom are in
        let back = path_back atom.path atom.var at of.1 (recursion_from_All (λ f. f < length g.homs) atom.path of.0)
        (pieces_at_left text at (atom_pieces file atom) (exponent_pieces e.1) placed) in
        let spans = names_raised plain exponent ∙ atom_spans file at atom.path bytes in
        let used = path_raw file at atom.path bytes in
        let same : factor_atom g text raw ≡ atom = atom_is atom.path atom.var used raw back spans in
        let number : number_of atoms (factor_atom g text raw) ≡ e.0 =
        ap (number_of atoms) same ∙ number_there atoms once e.0 is.atom in
        let power : exponent_of raw ≡ e.1 = exponent_raised plain exponent ∙ exponent_back there e.1 some in
        record {
          names = atom_clear atom.path atom.var used raw back spans;
          found = no_cause _ code.Line (start_of raw)
              (ap (λ a. not (is_some (position (atom_eq a) atoms))) same ∙ atom_found atoms once e.0 is.atom);
          pair = ap (λ n. (n, exponent_of raw)) number ∙ ap (λ n. (e.0, n)) power;
        }

    -- a monomial that comes back: it has no faults, and is the monomial
    pub record IsMonoBack (m : Monomial) (raw : RawMono) : Type 0 where
      pub names : mono_names g text raw ≡ []
      pub clear : mono_faults g text atoms raw ≡ []
      pub same : monomial_of g text atoms raw ≡ m

    -- the exponents of the pairs are those of the factors
    pairs_degree : (fs : List RawFactor) → degree (map (factor_pair g text atoms) fs) ≡ sum_by exponent_of fs
    pairs_degree [] = refl
    pairs_degree (f ∷ fs) =
        sum_by-cons (λ (e : ℕ × ℕ). e.1) (factor_pair g text atoms f) (map (factor_pair g text atoms) fs)
        ∙ ap (λ n. exponent_of f + n) (pairs_degree fs) ∙ sym (sum_by-cons exponent_of f fs)

    degree_low : (m : Monomial) (start : ℕ) (fs : List RawFactor) → map (factor_pair g text atoms) fs ≡ m →
        degree m ≤ MAX_DEGREE → nat_lt MAX_DEGREE (written_degree (mono_of start fs)) ≡ false
    degree_low m start fs pairs small =
        let written : written_degree (mono_of start fs) ≡ degree m =
        ap (sum_by exponent_of) (factors_back start fs) ∙ sym (pairs_degree fs) ∙ ap degree pairs in
        let low : written_degree (mono_of start fs) ≤ MAX_DEGREE = omega (arith, written, small) in
        grind (arith, nat_tests)

    from_factors : (m : Monomial) (start : ℕ) (fs : List RawFactor) → IsMonomialOver atoms m → AreOf IsFactorBack m fs →
        IsMonoBack m (mono_of start fs)
    from_factors m start fs is back =
        let pairs : map (factor_pair g text atoms) fs ≡ m =
        of_same (factor_pair g text atoms) m fs
        (of_weaker IsFactorBack (λ e f. factor_pair g text atoms f ≡ e) (λ e f b. b.pair) m fs back) in
        let names : flat_map (factor_names g text) fs ≡ [] = of_none (factor_names g text) m fs
        (of_weaker IsFactorBack (λ e f. factor_names g text f ≡ []) (λ e f b. b.names) m fs back) in
        let found : flat_map (factor_fault g text atoms) fs ≡ [] = of_none (factor_fault g text atoms) m fs
        (of_weaker IsFactorBack (λ e f. factor_fault g text atoms f ≡ []) (λ e f b. b.found) m fs back) in
        record {
          names = ap (flat_map (factor_names g text)) (factors_back start fs) ∙ names;
          clear = two_empty _ _ (no_cause _ code.Line _ (degree_low m start fs pairs is.canonical.small))
              (ap (flat_map (factor_fault g text atoms)) (factors_back start fs) ∙ found);
          same = ap (λ fs. collect nat_cmp exponents (map (factor_pair g text atoms) fs)) (factors_back start fs)
              ∙ ap (collect nat_cmp exponents) pairs
              ∙ collect-canonical exponent_laws nat_cmp_total nat_cmp-IsAntisymmetric m is.canonical.canonical;
        }

    -- the monomial 1 comes back wherever it is said to stand
    pub one_back : IsMonomialOver atoms [] → (at : ℕ) → IsMonoBack [] (mono_one at)
    one_back is at = from_factors [] at [] is tt

    -- each monomial over the table comes back where its pieces stand
    pub mono_back : (m : Monomial) → IsMonomialOver atoms m → (at : ℕ) →
        PiecesAt text at (written_mono file atoms m).pieces → IsMonoBack m ((written_mono file atoms m).raw at)
    mono_back [] is at placed = one_back is at
    mono_back (e ∷ m) is at placed =
        let each = positives atoms (e ∷ m) (entries_of atoms (e ∷ m) is) is.canonical.canonical.no_none in
        let write = written_factor file atoms in
        from_factors (e ∷ m) (start_of ((write e).raw at)) (all_raw write star at (e ∷ m)) is
        (list_back write star text (IsPositive atoms) IsFactorBack factor_back e m at each.0 each.1 placed)
