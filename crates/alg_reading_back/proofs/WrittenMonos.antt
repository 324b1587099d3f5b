-- The canonical texts of monomials and integers, cut into pieces, and what these say by the place where they begin.
use Rattle.std.specs.Prelude.{ℕ, ◌+◌, List, [], ◌∷◌, ◌++◌, length, nat_lt, if◌then◌else◌, Option, None, Some, ℤ, pos, negsuc, suc}
use Rattle.alg_mono.specs.Mono.{Monomial}
use Rattle.alg_terms.specs.declared.file.File.{File}
use Rattle.alg_terms.specs.declared.term.Atom.{Atom}
use Rattle.alg_tokens.specs.declared.token.Sign.TheVariants as signs
use Rattle.alg_tokens.specs.Laws.{width}
use Rattle.alg_tokens.specs.Pieces.{Piece}
use Rattle.alg_reader.specs.declared.raw.RawFactor.{RawFactor}
use Rattle.alg_reader.specs.declared.raw.RawMono.{RawMono}
use Rattle.alg_reader.specs.declared.raw.RawNumber.{RawNumber}
use Rattle.alg_reader.specs.RawMonos.{factor_of, mono_of, mono_one, raised_factor, start_of}
use Rattle.alg_printer.specs.Monomials.{atom_at}
use Rattle.alg_printer.specs.Names.{var_name, hom_name}
use Rattle.alg_reading_back.proofs.WrittenLists.{Written, star, list_pieces, all_raw}
use Rattle.alg_reading_back.proofs.WrittenMethods.{path_pieces}
use Rattle.alg_reading_back.proofs.WrittenTerms.{sign, numeral, span}

-- ---- monomials

-- a name under a path of morphisms, as a factor
abbrev pub atom_raw : File → ℕ → List ℕ → List ℕ → RawFactor
atom_raw file at [] bytes = factor_of (span at bytes) None None
atom_raw file at (f ∷ path) bytes =
    let inner = atom_raw file (at + length (hom_name file f) + 1) path bytes in
    factor_of (span at (hom_name file f)) (Some (mono_of (start_of inner) (inner ∷ []))) None

-- an exponent above 1
abbrev pub exponent_pieces : ℕ → List Piece
exponent_pieces n = if nat_lt 1 n then sign signs.Caret ∷ numeral n ∷ [] else []

abbrev pub exponent_raw : ℕ → ℕ → Option RawNumber
exponent_raw at n = if nat_lt 1 n then Some (record { value = pos n; at = at + 1 }) else None

-- the pieces of an atom
abbrev pub atom_pieces : File → Atom → List Piece
atom_pieces file atom = path_pieces file atom.path (var_name file atom.var)

-- an atom to its exponent
abbrev pub written_factor : File → List Atom → ℕ × ℕ → Written RawFactor
written_factor file atoms e =
    let atom = atom_at atoms e.0 in
    record {
      pieces = atom_pieces file atom ++ exponent_pieces e.1;
      raw = λ at. raised_factor (atom_raw file at atom.path (var_name file atom.var))
          (exponent_raw (at + width (atom_pieces file atom)) e.1);
    }

-- a monomial of these factors
abbrev pub written_factors : File → List Atom → ℕ × ℕ → Monomial → Written RawMono
written_factors file atoms e m = record {
  pieces = list_pieces (written_factor file atoms) star e m;
  raw = λ at. mono_of (start_of ((written_factor file atoms e).raw at))
      (all_raw (written_factor file atoms) star at (e ∷ m));
}

-- a monomial: 1, or its factors
abbrev pub written_mono : File → List Atom → Monomial → Written RawMono
written_mono file atoms [] = record { pieces = numeral 1 ∷ []; raw = λ at. mono_one at }
written_mono file atoms (e ∷ m) = written_factors file atoms e m

-- ---- integers

abbrev pub integer_pieces : ℤ → List Piece
integer_pieces (pos n) = numeral n ∷ []
integer_pieces (negsuc n) = sign signs.Minus ∷ numeral (suc n) ∷ []

-- an integer, with a sign where it is below 0
abbrev pub written_integer : ℤ → Written RawNumber
written_integer b = record { pieces = integer_pieces b; raw = λ at. record { value = b; at = at } }
