-- Atoms that are added one after the other.
use Rattle.std.proofs.Common.{◌≡◌, ◌≤◌, ◌<◌, Bool, true, false, List, [], ◌∷◌, ◌++◌, length, refl, arith, ap, if◌then◌else◌, sym, ◌∙◌, subst, Result, Ok, Err}
use Rattle.std.proofs.lemmas.List.{length-append}
use Rattle.std.proofs.lemmas.List.Sums.{fold-append}
use Rattle.std.specs.List.{list_any}
use Rattle.std.specs.Result.{IsErrAnd}
use Rattle.indexmap.specs.IndexSet.{insert_key, insert_all}
use Rattle.alg_terms.specs.declared.term.Atom.{Atom}
use Rattle.alg_reify.specs.declared.atoms.AtomsEnd.{AtomsEnd}
use Rattle.alg_reify.specs.declared.atoms.AtomsEnd.TheVariants.{TooMany, NoMemory}
use Rattle.alg_reify.specs.Table.{atom_eq, MAX_ATOMS}
use Rattle.alg_reify.specs.Adding.{Adds}

-- to add some and then others is to add both, one list after the other
pub insert_all-append : (ks xs ys : List Atom) →
    insert_all atom_eq ks (xs ++ ys) ≡ insert_all atom_eq (insert_all atom_eq ks xs) ys
insert_all-append ks xs ys = fold-append (insert_key atom_eq) ks xs ys

longer_by : (b : Bool) (ks : List Atom) (k : Atom) → length ks ≤ length (if b then ks else ks ++ k ∷ [])
longer_by true ks k = grind arith
longer_by false ks k = grind (arith, length-append)

-- adding makes no list shorter
longer_all : (ks xs : List Atom) → length ks ≤ length (insert_all atom_eq ks xs)
longer_all ks [] = grind arith
longer_all ks (x ∷ xs) =
    grind (arith, longer_by (list_any (atom_eq x) ks) ks x, longer_all (insert_key atom_eq ks x) xs)

-- what is too long stays so where more is added
more_than_before : (ks xs ys : List Atom) → MAX_ATOMS < length (insert_all atom_eq ks xs)
    → MAX_ATOMS < length (insert_all atom_eq ks (xs ++ ys))
more_than_before ks xs ys h =
    grind (arith, insert_all-append ks xs ys, longer_all (insert_all atom_eq ks xs) ys)

-- to add some and then others is to add both
pub adds_both : (ks js is : List Atom) (r : Result (Unit {0}) AtomsEnd) (xs ys : List Atom) →
    js ≡ insert_all atom_eq ks xs
    → Adds js r is ys → Adds ks r is (xs ++ ys)
adds_both ks js is (Ok u) xs ys first next =
    (next.0 ∙ ap (λ l. insert_all atom_eq l ys) first ∙ sym (insert_all-append ks xs ys), next.1)
adds_both ks js is (Err TooMany) xs ys first next =
    let longer : (l : List Atom) → l ≡ insert_all atom_eq ks xs → MAX_ATOMS < length (insert_all atom_eq l ys)
    → MAX_ATOMS < length (insert_all atom_eq ks (xs ++ ys)) = λ l e h. rw (insert_all-append ks xs ys) (rw (sym e) h) in
    longer js first next
adds_both ks js is (Err NoMemory) xs ys first next = tt

-- what failed with the first part fails with both
adds_failed : (ks js is : List Atom) (e : AtomsEnd) (xs ys : List Atom) → Adds ks (Err e) js xs →
    Adds ks (Err e) is (xs ++ ys)
adds_failed ks js is TooMany xs ys h = more_than_before ks xs ys h
adds_failed ks js is NoMemory xs ys h = tt

pub adds_none : (ks js is : List Atom) (r : Result (Unit {0}) AtomsEnd) (e : AtomsEnd) (xs ys : List Atom) →
    IsErrAnd r (λ d. d ≡ e)
    → Adds ks (Err e) js xs → Adds ks r is (xs ++ ys)
adds_none ks js is (Ok u) e xs ys came h = absurd came
adds_none ks js is (Err d) e xs ys came h =
    let P : AtomsEnd → Type 0 = λ x. Adds ks (Err x) is (xs ++ ys) in subst P (sym came)
    (adds_failed ks js is e xs ys h)

error_in : {T : Type 0} → AtomsEnd → Result T AtomsEnd → AtomsEnd
error_in d (Ok v) = d
error_in d (Err e) = e

-- a failure that was handed on tells that there are too many, also with what comes after
pub too_many : {T : Type 0} (ks js zs : List Atom) (r : Result T AtomsEnd) (e : AtomsEnd) (xs ys : List Atom) →
    IsErrAnd r (λ d. d ≡ e)
    → r ≡ Err TooMany → Adds ks (Err e) js xs → insert_all atom_eq ks (xs ++ ys) ≡ zs → MAX_ATOMS < length zs
unfolding error_in
too_many ks js zs (Ok v) e xs ys came is h same = absurd came
too_many ks js zs (Err d) e xs ys came is h same =
    let P : AtomsEnd → Type 0 = λ x. Adds ks (Err x) js xs in
    rw (sym same) (more_than_before ks xs ys (subst P (sym came ∙ ap (error_in d) is) h))

-- a failure that was handed on, where what was there and what is left make what is wanted
pub adds_failed_on : (ks js is ls : List Atom) (r : Result (Unit {0}) AtomsEnd) (e : AtomsEnd)
    (xs ys zs : List Atom) → IsErrAnd r (λ d. d ≡ e)
    → Adds ks (Err e) js xs → insert_all atom_eq ks (xs ++ ys) ≡ insert_all atom_eq ls zs → Adds ls r is zs
adds_failed_on ks js is ls (Ok u) e xs ys zs came h same = absurd came
adds_failed_on ks js is ls (Err TooMany) e xs ys zs came h same =
    let r : Result (Unit {0}) AtomsEnd = Err TooMany in too_many ks js _ r e xs ys came refl h same
adds_failed_on ks js is ls (Err NoMemory) e xs ys zs came h same = tt
