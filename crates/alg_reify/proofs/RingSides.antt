-- The numbered sides of an equation, compared: the verdict by ring.
use Rattle.std.specs.Prelude.{◌≡◌, ℤ, []}
use Rattle.std.proofs.Common.{sym, subst, ◌∙◌}
use Rattle.alg_terms.specs.declared.file.File.{File}
use Rattle.alg_terms.specs.declared.goals.Equation.{Equation}
use Rattle.alg_mono.specs.Mono.{Monomial}
use Rattle.alg_mono.specs.Outcomes.{Outcome}
use Rattle.alg_mono.specs.NumberedPolynomials.{Polynomial, DifferFirst}
use Rattle.alg_reify.specs.RingVerdict.{RingVerdict, ComesTo, IsRingVerdict, own_table}
use Rattle.alg_reify.proofs.Held.{held_left, held_right}
use Rattle.alg_reify.proofs.Made.{made, same_made}

module _ (file : File) (e : Equation) (fine : ComesTo file e Outcome.Fine) (p q : Polynomial)
    (left : p ≡ made (own_table file e) [] e.left) (right : q ≡ made (own_table file e) [] e.right) where
  -- they are equal
  pub equal_sides : p ≡ q → IsRingVerdict file e RingVerdict.Proved
  equal_sides same = (
    fine,
    same_made (own_table file e) [] e.left e.right (held_left file e []) (held_right file e [])
        (sym left ∙ same ∙ right),
  )

  -- they differ first so
  pub different_sides : (at : Monomial) (a b : ℤ) → DifferFirst p q at a b →
      IsRingVerdict file e (RingVerdict.No at a b)
  different_sides at a b differ =
      let P : Polynomial → Polynomial → Type 0 = λ x y. DifferFirst x y at a b in
      (fine, subst (λ y. P (made (own_table file e) [] e.left) y) right (subst (λ x. P x q) left differ))
