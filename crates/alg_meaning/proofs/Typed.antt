-- What the rules of terms say of the final sort of each node.
use Rattle.std.specs.Prelude.{◌≡◌, ◌<◌, ℕ, length, Option, None, Some}
use Rattle.std.specs.Option.{option_or}
use Rattle.std.proofs.Common.{refl, sym, subst, ◌∙◌}
use Rattle.alg_terms.specs.declared.goals.Equation.{Equation}
use Rattle.alg_terms.specs.GoalRules.{IsEquation}
use Rattle.alg_terms.specs.declared.file.File.{File}
use Rattle.alg_terms.specs.declared.term.Term.{Term, more_of-Term, Var, Int, Neg', Add', Sub', Mul', Div', Pow', Hom'}
use Rattle.alg_terms.specs.Members.{source_of, target_of, sort_of_var}
use Rattle.alg_terms.specs.Nodes.{fold_term, EachNode}
use Rattle.alg_terms.specs.Sorts.{own_sort, Agree, MayStandAt}
use Rattle.alg_terms.specs.TermRules.{IsTerm, IsInRange, HasAgreeingParts, HasFittingArgument, HasNoQuotient}

-- each variable and morphism is one of the file, and has the sort that is wanted at its place
abbrev pub IsTyped : File → ℕ → Term → Type 0
IsTyped file s (Var k) = (k < length file.vars) × (sort_of_var file k ≡ s)
IsTyped file s (Int n) = Unit {0}
IsTyped file s (Neg' p (more_of-Term t r)) = IsTyped file s t
IsTyped file s (Add' p (more_of-Term t r) p' (more_of-Term t' r')) = IsTyped file s t × IsTyped file s t'
IsTyped file s (Sub' p (more_of-Term t r) p' (more_of-Term t' r')) = IsTyped file s t × IsTyped file s t'
IsTyped file s (Mul' p (more_of-Term t r) p' (more_of-Term t' r')) = IsTyped file s t × IsTyped file s t'
IsTyped file s (Div' p (more_of-Term t r) p' (more_of-Term t' r')) = IsTyped file s t × IsTyped file s t'
IsTyped file s (Pow' p (more_of-Term t r) n) = IsTyped file s t
IsTyped file s (Hom' f p (more_of-Term t r)) =
    (f < length file.homs) × (target_of file f ≡ s) × IsTyped file (source_of file f) t

-- no part of the term is a quotient
abbrev pub HasNoDivision : Term → Type 0
HasNoDivision (Var k) = Unit {0}
HasNoDivision (Int n) = Unit {0}
HasNoDivision (Neg' p (more_of-Term t r)) = HasNoDivision t
HasNoDivision (Add' p (more_of-Term t r) p' (more_of-Term t' r')) = HasNoDivision t × HasNoDivision t'
HasNoDivision (Sub' p (more_of-Term t r) p' (more_of-Term t' r')) = HasNoDivision t × HasNoDivision t'
HasNoDivision (Mul' p (more_of-Term t r) p' (more_of-Term t' r')) = HasNoDivision t × HasNoDivision t'
HasNoDivision (Div' p t p' t') = ⊥
HasNoDivision (Pow' p (more_of-Term t r) n) = HasNoDivision t
HasNoDivision (Hom' f p (more_of-Term t r)) = HasNoDivision t

agrees_left : (a b : Option ℕ) (s : ℕ) → Agree (option_or a b) (Some s) → Agree a (Some s)
agrees_left None b s g = tt
agrees_left (Some x) b s g = g

agrees_right : (a b : Option ℕ) (s : ℕ) → Agree a b → Agree (option_or a b) (Some s) → Agree b (Some s)
agrees_right None b s h g = g
agrees_right (Some x) None s h g = tt
agrees_right (Some x) (Some y) s h g = sym h ∙ g

module _ (file : File) where
  typed_by : (s : ℕ) (t : Term) → EachNode (IsInRange file) t → EachNode (HasAgreeingParts file) t →
      EachNode (HasFittingArgument file) t → MayStandAt file s t → IsTyped file s t
  unfolding fold_term EachNode
  typed_by s (Var k) i a f g = (i, g)
  typed_by s (Int n) i a f g = tt
  typed_by s (Neg' p (more_of-Term t r)) i a f g = typed_by s t i.1 a.1 f.1 g
  typed_by s (Add' p (more_of-Term t r) p' (more_of-Term t' r')) i a f g = (
    typed_by s t i.1 a.1 f.1 (agrees_left (own_sort file t) (own_sort file t') s g),
    typed_by s t' i.2 a.2 f.2 (agrees_right (own_sort file t) (own_sort file t') s a.0 g),
  )
  typed_by s (Sub' p (more_of-Term t r) p' (more_of-Term t' r')) i a f g = (
    typed_by s t i.1 a.1 f.1 (agrees_left (own_sort file t) (own_sort file t') s g),
    typed_by s t' i.2 a.2 f.2 (agrees_right (own_sort file t) (own_sort file t') s a.0 g),
  )
  typed_by s (Mul' p (more_of-Term t r) p' (more_of-Term t' r')) i a f g = (
    typed_by s t i.1 a.1 f.1 (agrees_left (own_sort file t) (own_sort file t') s g),
    typed_by s t' i.2 a.2 f.2 (agrees_right (own_sort file t) (own_sort file t') s a.0 g),
  )
  typed_by s (Div' p (more_of-Term t r) p' (more_of-Term t' r')) i a f g = (
    typed_by s t i.1 a.1 f.1 (agrees_left (own_sort file t) (own_sort file t') s g),
    typed_by s t' i.2 a.2 f.2 (agrees_right (own_sort file t) (own_sort file t') s a.0 g),
  )
  typed_by s (Pow' p (more_of-Term t r) n) i a f g = typed_by s t i.1 a.1 f.1 g
  typed_by s (Hom' h p (more_of-Term t r)) i a f g = (i.0, g, typed_by (source_of file h) t i.1 a.1 f.1 f.0)

  pub typed : (s : ℕ) (t : Term) → IsTerm file t → MayStandAt file s t → IsTyped file s t
  typed s t is stands = typed_by s t is.indices is.parts is.arguments stands

pub plain : (t : Term) → HasNoQuotient t → HasNoDivision t
unfolding EachNode
plain (Var k) h = tt
plain (Int n) h = tt
plain (Neg' p (more_of-Term t r)) h = plain t h.1
plain (Add' p (more_of-Term t r) p' (more_of-Term t' r')) h = (plain t h.1, plain t' h.2)
plain (Sub' p (more_of-Term t r) p' (more_of-Term t' r')) h = (plain t h.1, plain t' h.2)
plain (Mul' p (more_of-Term t r) p' (more_of-Term t' r')) h = (plain t h.1, plain t' h.2)
plain (Div' p (more_of-Term t r) p' (more_of-Term t' r')) h = absurd h.0
plain (Pow' p (more_of-Term t r) n) h = plain t h.1
plain (Hom' f p (more_of-Term t r)) h = plain t h.1

-- the sides of an equation of the file, at its sort
module _ (file : File) (e : Equation) (is : IsEquation file e) where
  at_sort : Agree (option_or (own_sort file e.left) (own_sort file e.right)) (Some e.sort)
  at_sort = subst (λ o. Agree o (Some e.sort)) (sym is.sort) refl

  pub typed_left : IsTyped file e.sort e.left
  typed_left =
      typed file e.sort e.left is.left (agrees_left (own_sort file e.left) (own_sort file e.right) e.sort at_sort)

  pub typed_right : IsTyped file e.sort e.right
  typed_right =
      typed file e.sort e.right is.right
      (agrees_right (own_sort file e.left) (own_sort file e.right) e.sort is.sides at_sort)
