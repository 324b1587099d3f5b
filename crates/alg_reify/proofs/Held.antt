-- The table of an equation holds the atoms of its sides.
use Rattle.std.specs.Prelude.{◌≡◌, ℕ, zero, suc, Bool, true, false, not, cond, List, [], ◌∷◌, ◌++◌, filter, flat_map, All, Contains, length, ◌<◌, slice_index_or}
use Rattle.std.specs.List.{AllByRecursion as ByRecursion}
use Rattle.std.proofs.Common.{refl, sym, ap, subst, ◌∙◌, arith}
use Rattle.std.proofs.lemmas.List.Elements.{recursion_from_All, All-from_recursion, All-nil, All-cons, All-weaker}
use Rattle.alg_terms.specs.declared.term.Atom.{Atom}
use Rattle.alg_terms.specs.declared.file.File.{File}
use Rattle.alg_terms.specs.declared.goals.Equation.{Equation}
use Rattle.alg_terms.specs.declared.goals.Use.{Use}
use Rattle.alg_terms.specs.Lists.{each_once}
use Rattle.alg_reify.specs.Table.{atom_eq, leaves, equation_leaves, use_leaves, table}
use Rattle.alg_reify.proofs.AtomsIn.{both_parts}
use Rattle.alg_reify.proofs.Once.{atoms_decide}

-- the first member stands in the list, and so do the later ones
contains_first : (y : Atom) (ys : List Atom) (x : Atom) → y ≡ x → Contains (y ∷ ys) x
contains_first y ys x e = (0, omega arith, e)

contains_later : (y : Atom) (ys : List Atom) (x : Atom) → Contains ys x → Contains (y ∷ ys) x
contains_later y ys x h = (suc h.0, omega (arith, h.1), h.2)

-- one more member, or none
kept_by : (b : Bool) (y : Atom) (ys : List Atom) (x : Atom) → Contains ys x → Contains (cond b (y ∷ ys) ys) x
kept_by true y ys x h = contains_later y ys x h
kept_by false y ys x h = h

-- a filter keeps what passes
kept : (p : Atom → Bool) (ys : List Atom) (x : Atom) (k : ℕ) → p x ≡ true → k < length ys → slice_index_or ys k x ≡ x →
    Contains (filter p ys) x
kept p [] x k pass l is = absurd (omega arith)
kept p (y ∷ ys) x zero pass l is =
    subst (λ b. Contains (cond b (y ∷ filter p ys) (filter p ys)) x) (sym (ap p is ∙ pass))
    (contains_first y (filter p ys) x is)
kept p (y ∷ ys) x (suc k) pass l is =
    kept_by (p y) y (filter p ys) x (kept p ys x k pass (omega arith) is)

-- what stood in the list stands in the list with each member once
once_more : (a : Atom) (ys : List Atom) (x : Atom) (b : Bool) → atom_eq a x ≡ b → Contains ys x →
    Contains (a ∷ filter (λ c. not (atom_eq a c)) ys) x
once_more a ys x true e h = contains_first a (filter (λ c. not (atom_eq a c)) ys) x ((atoms_decide a x).0 e)
once_more a ys x false e h =
    contains_later a (filter (λ c. not (atom_eq a c)) ys) x
    (kept (λ c. not (atom_eq a c)) ys x h.0 (ap not e) h.1 h.2)

-- each member of a list stands in the list with each member once
once_holds : (xs : List Atom) → ByRecursion (Contains (each_once atom_eq xs)) xs
once_holds [] = tt
once_holds (a ∷ xs) = (
  contains_first a (filter (λ c. not (atom_eq a c)) (each_once atom_eq xs)) a refl,
  recursion_from_All (Contains (each_once atom_eq (a ∷ xs))) xs
      (All-weaker (Contains (each_once atom_eq xs)) (Contains (each_once atom_eq (a ∷ xs)))
      (λ x h. once_more a (each_once atom_eq xs) x (atom_eq a x) refl h) xs
      (All-from_recursion (Contains (each_once atom_eq xs)) xs (once_holds xs))),
)

-- what holds of each member of all lists holds of each member of each
each_part : {X Y : Type 0} (P : Y → Type 0) (f : X → List Y) (xs : List X) → ByRecursion P (flat_map f xs) →
    All (λ x. All P (f x)) xs
each_part P f [] h = All-nil (λ x. All P (f x))
each_part P f (x ∷ xs) h =
    let parts = both_parts P (f x) (flat_map f xs) h in
    All-cons (λ x. All P (f x)) x xs (All-from_recursion P (f x) parts.0) (each_part P f xs parts.1)

module _ (file : File) (e : Equation) (uses : List Use) where
  -- the atoms of both sides
  both_sides : ByRecursion (Contains (table file e uses)) (leaves [] e.left)
      × ByRecursion (Contains (table file e uses)) (leaves [] e.right)
  both_sides =
      let P = Contains (table file e uses) in
      let rest = flat_map (use_leaves file) uses in
      both_parts P (leaves [] e.left) (leaves [] e.right)
      (both_parts P (equation_leaves [] e) rest (once_holds (equation_leaves [] e ++ rest))).0

  -- the atoms of the left side, and of the right
  pub held_left : All (Contains (table file e uses)) (leaves [] e.left)
  held_left = All-from_recursion (Contains (table file e uses)) (leaves [] e.left) both_sides.0

  pub held_right : All (Contains (table file e uses)) (leaves [] e.right)
  held_right = All-from_recursion (Contains (table file e uses)) (leaves [] e.right) both_sides.1

  -- and those of each used hypothesis under its path
  pub held_uses : All (λ u. All (Contains (table file e uses)) (use_leaves file u)) uses
  held_uses =
      let P = Contains (table file e uses) in
      let rest = flat_map (use_leaves file) uses in
      each_part P (use_leaves file) uses
      (both_parts P (equation_leaves [] e) rest (once_holds (equation_leaves [] e ++ rest))).1

  pub held_sides : All (Contains (table file e uses)) (equation_leaves [] e)
  held_sides =
      let P = Contains (table file e uses) in
      let rest = flat_map (use_leaves file) uses in
      All-from_recursion P (equation_leaves [] e)
      (both_parts P (equation_leaves [] e) rest (once_holds (equation_leaves [] e ++ rest))).0
