-- The names of an atom, where the last one is told apart.
use Rattle.std.proofs.Common.{◌≡◌, ℕ, List, [], ◌∷◌, ◌++◌, flat_map, map, refl, ap, sym, ◌∙◌, append_assoc}
use Rattle.std.proofs.lemmas.List.{append-nil}
use Rattle.alg_terms.specs.declared.file.File.{File}
use Rattle.alg_terms.specs.declared.term.Atom.{Atom}
use Rattle.alg_reader.specs.declared.raw.Span.{Span}
use Rattle.alg_typing.specs.NameFaults.{used_name}
use Rattle.alg_typing.specs.Names.{is_hom, is_var}
use Rattle.alg_typing.specs.Resolved.{number_at}
use Rattle.alg_annotated.specs.Monomials.{atom_names, atom_of}

module _ (file : File) (text : List ℕ) (var : Span) where
  -- the faults of the morphisms' names come before that of the variable's
  pub names_apart : (homs : List Span) → atom_names file text (homs ++ var ∷ [])
      ≡ flat_map (used_name file text is_hom) homs ++ used_name file text is_var var
  names_apart [] = refl
  names_apart (hom ∷ []) =
      ap (λ xs. xs ++ used_name file text is_var var) (sym (append-nil (used_name file text is_hom hom)))
  names_apart (hom ∷ next ∷ homs) =
      ap (λ xs. used_name file text is_hom hom ++ xs) (names_apart (next ∷ homs))
      ∙ sym (append_assoc (used_name file text is_hom hom) _ _)

  -- the atom is the variable under the morphisms
  pub atom_apart : (homs : List Span) → atom_of file text (homs ++ var ∷ [])
      ≡ record { path = map (number_at file text) homs; var = number_at file text var }
  atom_apart [] = refl
  atom_apart (hom ∷ []) = refl
  atom_apart (hom ∷ next ∷ homs) =
      ap (λ (inner : Atom). record inner { path = number_at file text hom ∷ inner.path }) (atom_apart (next ∷ homs))

  -- and so is the one of these numbers
  pub atom_from : (homs : List Span) (path : List ℕ) (number : ℕ) → path ≡ map (number_at file text) homs →
      number ≡ number_at file text var → atom_of file text (homs ++ var ∷ []) ≡ record { path = path; var = number }
  atom_from homs path number p n =
      atom_apart homs ∙ (λ i. record { path = sym p i; var = sym n i })
