use Rattle.std.proofs.Common.{rules, arith, ◌≡◌, ◌<◌, ◌∙◌, ap, List, [], ◌∷◌, length, slice_index_or, refl}
use Rattle.alg_terms.specs.declared.declarations.VarDecl.{VarDecl}
use Rattle.alg_reify.proofs.TestTerms.{test_sides_are_equation}
use Rattle.alg_reify_tests.proofs.tables.test_equation.Goals as goal

first_of : (vars : List VarDecl) (x y : VarDecl) → 0 < length vars → slice_index_or vars 0 x ≡ slice_index_or vars 0 y
first_of [] x y there = absurd (omega arith)
first_of (v ∷ vars) x y there = refl

pub returns : goal.returns
returns c =
    test_sides_are_equation c.args.file.now _ _ _ _ c.requires (search rules) (search rules) (search rules) (search rules)
    _ _ _
    (ap (λ vars. (slice_index_or vars 0 c.index-items-0.result).sort) c.items.ensures
    ∙ ap (λ v. v.sort) (first_of c.args.file.now.vars c.index-items-0.result _ c.requires))
    c.in_ok-side.ensures c.in_ok-side-2.ensures
