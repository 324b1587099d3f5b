-- The pieces of monomials and integers each end where the next begins.
use Rattle.std.proofs.Common.{◌≤◌, ◌<◌, ℕ, true, false, cond, nat_lt, List, [], ◌∷◌, ◌++◌, length, refl, sym, subst, arith, append-nil, ℤ, pos, negsuc, suc}
use Rattle.std.specs.List.{AllByRecursion}
use Rattle.std.proofs.lemmas.Int.{ints}
use Rattle.std.proofs.lemmas.List.Sums.{sum_by-cons}
use Rattle.std.proofs.lemmas.List.Elements.{All-get_or, recursion_from_All}
use Rattle.alg_mono.specs.Mono.{Monomial}
use Rattle.alg_mono.specs.Monomials.{degree}
use Rattle.alg_terms.specs.declared.file.File.{File}
use Rattle.alg_terms.specs.declared.term.Atom.{Atom}
use Rattle.alg_tokens.specs.declared.token.Sign.TheVariants as signs
use Rattle.alg_printer.specs.Monomials.{atom_at, no_atom, IsAtomOf}
use Rattle.alg_printer.specs.Names.{var_name}
use Rattle.alg_printer.specs.Printable.{IsInteger, IsMonomialOver}
use Rattle.alg_printer.proofs.Leaves.{AreAtoms}
use Rattle.alg_reading_back.proofs.ListEnds.{fits_list}
use Rattle.alg_reading_back.proofs.MethodEnds.{fits_path}
use Rattle.alg_reading_back.proofs.TermEnds.{Fits, HasNames, fits_minus, fits_numeral, fits_tight}
use Rattle.alg_reading_back.proofs.WrittenLists.{star}
use Rattle.alg_reading_back.proofs.WrittenMonos.{atom_pieces, written_factor, written_mono, written_integer}
use Rattle.alg_reading_back.proofs.WrittenTerms.{sign, numeral}

-- an entry of a monomial over these atoms
pub record IsEntry (atoms : List Atom) (e : ℕ × ℕ) : Type 0 where
  pub atom : e.0 < length atoms
  pub exponent : e.1 ≤ 1000

-- each entry of a monomial within the limits is one
entries : (atoms : List Atom) (m : Monomial) → degree m ≤ 1000 → AllByRecursion (λ e. e.0 < length atoms) m →
    AllByRecursion (IsEntry atoms) m
entries atoms [] low over = tt
entries atoms (e ∷ m) low over =
    let sum = sum_by-cons (λ (e : ℕ × ℕ). e.1) e m in
    (record { atom = over.0; exponent = omega (arith, sum, low) }, entries atoms m (omega (arith, sum, low)) over.1)

pub entries_of : (atoms : List Atom) (m : Monomial) → IsMonomialOver atoms m → AllByRecursion (IsEntry atoms) m
entries_of atoms m is = entries atoms m is.canonical.small (recursion_from_All (λ e. e.0 < length atoms) m is.over)

module _ (file : File) (names : HasNames file) (atoms : List Atom) (are : AreAtoms file atoms) where
  fits_atom : (k : ℕ) → k < length atoms → Fits (atom_pieces file (atom_at atoms k))
  fits_atom k low =
      let atom = atom_at atoms k in
      let is : IsAtomOf file atom = All-get_or (IsAtomOf file) atoms k no_atom low are in
      fits_path file atom.path (var_name file atom.var) names
      (recursion_from_All (λ f. f < length file.homs) atom.path is.0) (names.vars atom.var is.1)

  fits_factor : (e : ℕ × ℕ) → IsEntry atoms e → Fits (written_factor file atoms e).pieces
  fits_factor e is =
      let pieces = atom_pieces file (atom_at atoms e.0) in
      let fits = fits_atom e.0 is.atom in
      let low : e.1 ≤ 1000 = is.exponent in
      elim (nat_lt 1 e.1) as (λ b. Fits (pieces ++ cond b (sign signs.Caret ∷ numeral e.1 ∷ []) [])) [
        | true ↦ fits_tight signs.Caret pieces (numeral e.1 ∷ []) (λ more next. (94, _, refl, refl)) fits
            (fits_numeral e.1 (omega (arith, ints, low)))
        | false ↦ subst Fits (sym (append-nil pieces)) fits
      ]

  pub fits_mono : (m : Monomial) → IsMonomialOver atoms m → Fits (written_mono file atoms m).pieces
  fits_mono [] is = fits_numeral 1 (omega (arith, ints))
  fits_mono (e ∷ m) is =
      let each = entries_of atoms (e ∷ m) is in
      fits_list (written_factor file atoms) star (IsEntry atoms) fits_factor e m each.0 each.1

-- an integer, with or without a sign
pub fits_signed : (b : ℤ) → IsInteger b → Fits (written_integer b).pieces
fits_signed (pos n) low = fits_numeral n (omega (arith, ints, low))
fits_signed (negsuc n) low =
    fits_minus (numeral (suc n) ∷ []) (fits_numeral (suc n) (omega (arith, ints, low)))
