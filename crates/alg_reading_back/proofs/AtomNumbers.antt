-- The numbers of the atoms of a table: each stands there once, so the number of the atom of a number is that number.
use Rattle.std.proofs.Common.{◌≡◌, ◌<◌, ℕ, ◌+◌, zero, suc, Bool, true, false, not, cond, nat_le, nat_lt, List, [], ◌∷◌, filter, length, refl, sym, ap, ◌∙◌, arith, if◌then◌else◌}
use Rattle.std.specs.List.{AllByRecursion}
use Rattle.std.specs.Prelude.{is_some, position, Some, None}
use Rattle.std.proofs.lemmas.Bool.Decides.{nat_tests}
use Rattle.alg_reify.specs.Numbered.{number_of, atom_at}
use Rattle.alg_reify.specs.Table.{atom_eq, goal_atoms, table, MAX_ATOMS}
use Rattle.alg_reify.proofs.Once.{atoms_decide}
use Rattle.alg_terms.specs.declared.file.File.{File}
use Rattle.alg_terms.specs.declared.goals.Goal.{Goal}
use Rattle.alg_terms.specs.declared.term.Atom.{Atom}
use Rattle.alg_terms.specs.Lists.{each_once}
use Rattle.alg_terms.specs.Members.{uses_of}

-- each atom differs from those behind it
abbrev pub AreOnce : List Atom → Type 0
AreOnce [] = Unit {0}
AreOnce (a ∷ atoms) = AllByRecursion (λ b. atom_eq a b ≡ false) atoms × AreOnce atoms

-- ---- filtered lists

all_filtered : (P : Atom → Type 0) (test : Atom → Bool) (atoms : List Atom) → AllByRecursion P atoms →
    AllByRecursion P (filter test atoms)
all_filtered P test [] all = tt
all_filtered P test (a ∷ atoms) all =
    elim (test a) as (λ b. AllByRecursion P (cond b (a ∷ filter test atoms) (filter test atoms))) [
      | true ↦ (all.0, all_filtered P test atoms all.1)
      | false ↦ all_filtered P test atoms all.1
    ]

once_filtered : (test : Atom → Bool) (atoms : List Atom) → AreOnce atoms → AreOnce (filter test atoms)
once_filtered test [] once = tt
once_filtered test (a ∷ atoms) once =
    elim (test a) as (λ b. AreOnce (cond b (a ∷ filter test atoms) (filter test atoms))) [
      | true ↦ (all_filtered (λ b. atom_eq a b ≡ false) test atoms once.0, once_filtered test atoms once.1)
      | false ↦ once_filtered test atoms once.1
    ]

-- what is left passes the test
not_same : (b : Bool) → not b ≡ true → b ≡ false
not_same true h = sym h
not_same false h = refl

filtered_pass : (a : Atom) (atoms : List Atom) →
    AllByRecursion (λ b. atom_eq a b ≡ false) (filter (λ b. not (atom_eq a b)) atoms)
filtered_pass a [] = tt
filtered_pass a (b ∷ atoms) =
    let test : Atom → Bool = λ b. not (atom_eq a b) in
    elim (test b) as (λ c. test b ≡ c →
    AllByRecursion (λ b. atom_eq a b ≡ false) (cond c (b ∷ filter test atoms) (filter test atoms))) [
      | true ↦ λ e. (not_same (atom_eq a b) e, filtered_pass a atoms)
      | false ↦ λ e. filtered_pass a atoms
    ] refl

once_each : (atoms : List Atom) → AreOnce (each_once atom_eq atoms)
once_each [] = tt
once_each (a ∷ atoms) = (
  filtered_pass a (each_once atom_eq atoms),
  once_filtered (λ b. not (atom_eq a b)) (each_once atom_eq atoms) (once_each atoms),
)

some_once : (few : Bool) (atoms : List Atom) → AreOnce atoms → AreOnce (if few then atoms else [])
some_once true atoms once = once
some_once false atoms once = tt

-- the atoms of a goal
pub goal_once : (file : File) (goal : Goal) → AreOnce (goal_atoms file goal)
goal_once file goal =
    let atoms = table file goal.equation (uses_of goal.method) in
    some_once (nat_le (length atoms) MAX_ATOMS) atoms (once_each _)

-- ---- numbers

differs : (a b : Atom) → atom_eq a b ≡ false → atom_eq b a ≡ false
differs a b h =
    elim (atom_eq b a) as (λ c. atom_eq b a ≡ c → c ≡ false) [
      | true ↦ λ e. sym ((atoms_decide a b).1 (sym ((atoms_decide b a).0 e))) ∙ h
      | false ↦ λ e. refl
    ] refl

-- an atom behind others that differ from it
behind : (a : Atom) (atoms : List Atom) (k : ℕ) → k < length atoms → AllByRecursion (λ b. atom_eq a b ≡ false) atoms →
    atom_eq (atom_at atoms k) a ≡ false
behind a [] k low all = absurd (omega arith)
behind a (b ∷ atoms) zero low all = differs a b all.0
behind a (b ∷ atoms) (suc k) low all = behind a atoms k (omega arith) all.1

pub number_there : (atoms : List Atom) → AreOnce atoms → (k : ℕ) → k < length atoms →
    number_of atoms (atom_at atoms k) ≡ k
number_there [] once k low = absurd (omega arith)
number_there (a ∷ atoms) once zero low =
    ap (λ b. cond (not b) (1 + number_of atoms a) 0) ((atoms_decide a a).1 refl)
number_there (a ∷ atoms) once (suc k) low =
    let rest = number_there atoms once.1 k (omega arith) in
    let more : 1 + number_of atoms (atom_at atoms k) ≡ suc k = omega (arith, rest) in
    ap (λ b. cond (not b) (1 + number_of atoms (atom_at atoms k)) 0) (behind a atoms k (omega arith) once.0) ∙ more

-- where the number is one of the table, the atom is found there
found_there : (n m : ℕ) → n < m → not (is_some (cond (nat_lt n m) (Some n) None)) ≡ false
found_there n m low =
    let yes : nat_lt n m ≡ true = grind (arith, nat_tests) in ap (λ b. not (is_some (cond b (Some n) None))) yes

pub atom_found : (atoms : List Atom) → AreOnce atoms → (k : ℕ) → k < length atoms →
    not (is_some (position (atom_eq (atom_at atoms k)) atoms)) ≡ false
atom_found atoms once k low =
    found_there (number_of atoms (atom_at atoms k)) (length atoms) (omega (arith, low, number_there atoms once k low))
