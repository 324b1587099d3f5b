-- The monomials of answers: their atoms, and the faults of monomials over the atoms of a goal.
use Rattle.std.specs.Prelude.{ℕ, not, List, [], ◌∷◌, ◌++◌, flat_map, map, is_some, nat_lt, position, sum_by, All}
use Rattle.std.specs.Int.RustNames.{unsigned_abs}
use Rattle.std.specs.Option.{option_map_or}
use Rattle.std.specs.Ordering.{nat_cmp}
use Rattle.alg_mono.specs.FiniteMaps.{collect}
use Rattle.alg_mono.specs.Mono.{Monomial}
use Rattle.alg_mono.specs.Monomials.{MAX_DEGREE}
use Rattle.alg_mono.specs.Numbers.{exponents}
use Rattle.alg_terms.specs.declared.file.File.{File}
use Rattle.alg_terms.specs.declared.term.Atom.{Atom}
use Rattle.alg_tokens.specs.declared.code.Code.TheVariants as code
use Rattle.alg_tokens.specs.declared.token.Refusal.{Refusal}
use Rattle.alg_reader.specs.declared.raw.RawFactor.{RawFactor, out-RawFactor}
use Rattle.alg_reader.specs.declared.raw.RawMono.{RawMono, out-RawMono}
use Rattle.alg_reader.specs.declared.raw.Span.{Span}
use Rattle.alg_reader.specs.RawMonos.{names_in_factor, start_of}
use Rattle.alg_reader.specs.WellRead.{IsNameAt}
use Rattle.alg_reify.specs.Numbered.{number_of}
use Rattle.alg_reify.specs.Table.{atom_eq}
use Rattle.alg_typing.specs.Faults.{fault_if}
use Rattle.alg_typing.specs.NameFaults.{used_name}
use Rattle.alg_typing.specs.Names.{is_hom, is_var}
use Rattle.alg_typing.specs.Resolved.{number_at}

-- the factors of a monomial
abbrev pub factors_of : RawMono → List RawFactor
factors_of m = (out-RawMono m).factors

-- the exponent of a factor: 1 where none is written
abbrev pub exponent_of : RawFactor → ℕ
exponent_of f = option_map_or (λ n. unsigned_abs n.value) (out-RawFactor f).exponent 1

-- each name of the factor is one in the text
abbrev pub HasNames : List ℕ → RawFactor → Type 0
HasNames text f = All (IsNameAt text) (names_in_factor f)

-- the degree of a monomial as it is written: its exponents add up
abbrev pub written_degree : RawMono → ℕ
written_degree m = sum_by exponent_of (factors_of m)

module _ (file : File) (text : List ℕ) where
  -- The faults of the names of an atom `f(g(x))`: the last one is to be a variable, and those before it morphisms.
  abbrev pub atom_names : List Span → List Refusal
  atom_names [] = []
  atom_names (name ∷ []) = used_name file text is_var name
  atom_names (name ∷ names) = used_name file text is_hom name ++ atom_names names

  -- the faults of the names of a factor
  abbrev pub factor_names : RawFactor → List Refusal
  factor_names f = atom_names (names_in_factor f)

  -- the faults of the names of a monomial
  abbrev pub mono_names : RawMono → List Refusal
  mono_names m = flat_map factor_names (factors_of m)

  -- the atom of these names: the variable of the last one under the morphisms before it, the outermost first
  abbrev pub atom_of : List Span → Atom
  atom_of [] = record { path = []; var = 0 }
  atom_of (name ∷ []) = record { path = []; var = number_at file text name }
  atom_of (name ∷ names) = let inner = atom_of names in record inner { path = number_at file text name ∷ inner.path }

  -- the whole atom of a factor
  abbrev pub factor_atom : RawFactor → Atom
  factor_atom f = atom_of (names_in_factor f)

  module _ (atoms : List Atom) where
    -- the fault of a factor whose whole atom is none of these
    abbrev pub factor_fault : RawFactor → List Refusal
    factor_fault f = fault_if (not (is_some (position (atom_eq (factor_atom f)) atoms))) code.Line (start_of f)

    -- a factor as the number of its atom with its exponent
    abbrev pub factor_pair : RawFactor → ℕ × ℕ
    factor_pair f = (number_of atoms (factor_atom f), exponent_of f)

    -- the faults of a monomial: its degree is over the greatest, or an atom is none of these
    abbrev pub mono_faults : RawMono → List Refusal
    mono_faults m =
        fault_if (nat_lt MAX_DEGREE (written_degree m)) code.Line (out-RawMono m).start
        ++ flat_map factor_fault (factors_of m)

    -- the monomial over the numbers of the atoms: exponents of one atom add up
    abbrev pub monomial_of : RawMono → Monomial
    monomial_of m = collect nat_cmp exponents (map factor_pair (factors_of m))
