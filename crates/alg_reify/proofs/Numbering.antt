-- The number of an atom of the table leads back to the atom.
use Rattle.std.specs.Prelude.{◌≡◌, ℕ, zero, suc, ◌+◌, ◌<◌, Bool, true, false, not, cond, List, [], ◌∷◌, length, slice_index_or, Contains, Option, Some, None, position, nat_lt}
use Rattle.std.proofs.lemmas.Bool.Decides.{nat_tests}
use Rattle.std.proofs.Common.{refl, sym, ap, subst, ◌∙◌, arith}
use Rattle.alg_terms.specs.declared.term.Atom.{Atom}
use Rattle.alg_reify.specs.Table.{atom_eq}
use Rattle.alg_reify.specs.Numbered.{number_of, atom_at}
use Rattle.alg_reify.proofs.Once.{atoms_decide}

-- the atom's number is one of the table, and it is the number of this atom
abbrev pub IsNumbered : List Atom → Atom → Type 0
IsNumbered atoms a = (number_of atoms a < length atoms) × (atom_at atoms (number_of atoms a) ≡ a)

-- one atom in front of the table: the number is 0 where it is this one, else one more
numbered_by : (b : Atom) (atoms : List Atom) (a : Atom) (t : Bool) (n : ℕ) → (t ≡ true → a ≡ b) →
    (t ≡ false → (n < length atoms) × (atom_at atoms n ≡ a)) →
    (cond (not t) (1 + n) 0 < length (b ∷ atoms)) × (atom_at (b ∷ atoms) (cond (not t) (1 + n) 0) ≡ a)
numbered_by b atoms a true n here later = (omega arith, sym (here refl))
numbered_by b atoms a false n here later =
    let h = later refl in
    (omega (arith, h.0), ap (atom_at (b ∷ atoms)) (one_more n) ∙ h.1)
  where
    one_more : (n : ℕ) → 1 + n ≡ suc n
    one_more n = omega arith

-- the atom that stands at a place of the table
is_numbered : (atoms : List Atom) (a : Atom) (k : ℕ) → k < length atoms → slice_index_or atoms k a ≡ a →
    IsNumbered atoms a
is_numbered [] a k l is = absurd (omega arith)
is_numbered (b ∷ atoms) a zero l is =
    numbered_by b atoms a (atom_eq a b) (number_of atoms a) (atoms_decide a b).0
    (λ no. absurd (differ (atom_eq a b) ((atoms_decide a b).1 (sym is)) no))
  where
    differ : (t : Bool) → t ≡ true → t ≡ false → ⊥
    differ t yes' no' = cc
is_numbered (b ∷ atoms) a (suc k) l is =
    numbered_by b atoms a (atom_eq a b) (number_of atoms a) (atoms_decide a b).0
    (λ no. is_numbered atoms a k (omega arith) is)

-- each atom that the table holds has a number that leads back
pub contained_numbered : (atoms : List Atom) (a : Atom) → Contains atoms a → IsNumbered atoms a
contained_numbered atoms a h = is_numbered atoms a h.0 h.1 h.2

-- an atom of the table is found
pub found : (atoms : List Atom) (path same : List ℕ) (var : ℕ) (r : Option ℕ) → same ≡ path →
    Contains atoms (record { path = path; var = var }) →
    r ≡ position (atom_eq (record { path = same; var = var })) atoms →
    r ≡ None → ⊥
found atoms path same var r e held is none =
    let P : List ℕ → Type 0 = λ p. r ≡ position (atom_eq (record { path = p; var = var })) atoms in
    let here = (contained_numbered atoms (record { path = path; var = var }) held).0 in
    let at : r ≡ position (atom_eq (record { path = path; var = var })) atoms = subst P e is in
    not_found (number_of atoms (record { path = path; var = var })) (length atoms) here (sym at ∙ none)
  where
    not_found : (n m : ℕ) → n < m → cond (nat_lt n m) (Some n) None ≡ None → ⊥
    not_found n m l h = grind (arith, nat_tests)
