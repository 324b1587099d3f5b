-- Numbers that are added in two lists.
use Rattle.std.specs.Prelude.{◌≡◌, List, [], ◌∷◌, ◌++◌, ℤ, pos, cond}
use Rattle.std.proofs.Common.{refl}
use Rattle.std.specs.Ordering.{int_cmp, is_lt}
use Rattle.std.specs.BTreeSet.{insert_key}
use Rattle.alg_lines.specs.Constants.{added}

pub added-append : (set xs ys : List ℤ) → added set (xs ++ ys) ≡ added (added set xs) ys
added-append set [] ys = refl
added-append set (c ∷ xs) ys =
    added-append (cond (is_lt (int_cmp (pos 1) c)) (insert_key int_cmp set c) set) xs ys
