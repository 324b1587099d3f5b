-- What is held of an answer is told by what is held of its terms.
use Rattle.std.proofs.Common.{◌≡◌, ℕ, List, [], ◌∷◌, ◌++◌, map, Option, None, Some, refl, sym, ap, ◌∙◌}
use Rattle.std.specs.Option.{option_or}
use Rattle.alg_reader.specs.declared.parts.HeldAnswer.{HeldAnswer}
use Rattle.alg_reader.specs.declared.parts.HeldTerm.{HeldTerm}
use Rattle.alg_reader.specs.declared.raw.RawAnswer.{RawAnswer}
use Rattle.alg_reader.specs.declared.raw.RawAnswer.TheVariants as answers
use Rattle.alg_reader.specs.declared.raw.RawKind.TheVariants as raws
use Rattle.alg_reader.specs.declared.raw.RawTerm.{RawTerm}
use Rattle.alg_reader.specs.TooDeep.{first_too_deep, first_of_terms, kept}
use Rattle.alg_reader.specs.Parts.{held, held_answer, held_statement}

or_assoc : (x y z : Option ℕ) → option_or (option_or x y) z ≡ option_or x (option_or y z)
or_assoc None y z = refl
or_assoc (Some n) y z = refl

or_nothing : (x : Option ℕ) → option_or x None ≡ x
or_nothing None = refl
or_nothing (Some n) = refl

-- the terms of a list, and one more
first_more : (ts : List RawTerm) (t : RawTerm) → first_of_terms (ts ++ t ∷ []) ≡ option_or (first_of_terms ts)
    (first_too_deep t)
first_more [] t = or_nothing (first_too_deep t)
first_more (u ∷ ts) t = ap (option_or (first_too_deep u)) (first_more ts t)
    ∙ sym (or_assoc (first_too_deep u) (first_of_terms ts) (first_too_deep t))

kept_more : (ts : List RawTerm) (t : RawTerm) → map kept (ts ++ t ∷ []) ≡ map kept ts ++ kept t ∷ []
kept_more [] t = refl
kept_more (u ∷ ts) t = ap (λ xs. kept u ∷ xs) (kept_more ts t)

-- what is kept of terms one after the other, and their first too deep node
pub record AreHeld (items : List RawTerm) (first : Option ℕ) (ts : List RawTerm) : Type 0 where
  pub terms : items ≡ map kept ts
  pub head : first ≡ first_of_terms ts

pub one_held : (p : HeldTerm) (t : RawTerm) (items : List RawTerm) → p ≡ held t → items ≡ [] ++ p.term ∷ []
    → AreHeld items p.too_deep (t ∷ [])
unfolding held
one_held p t items e is = record {
  terms = is ∙ ap (λ q. q.term ∷ []) e;
  head = ap (λ q. q.too_deep) e ∙ sym (or_nothing (first_too_deep t));
}

pub held_more : (items more : List RawTerm) (first : Option ℕ) (p : HeldTerm) (ts : List RawTerm) (t : RawTerm)
    → AreHeld items first ts → p ≡ held t → more ≡ items ++ p.term ∷ []
    → AreHeld more (option_or first p.too_deep) (ts ++ t ∷ [])
unfolding held
held_more items more first p ts t h e is = record {
  terms = is ∙ ap (λ xs. xs ++ p.term ∷ []) h.terms ∙ ap (λ q. map kept ts ++ q.term ∷ []) e ∙ sym (kept_more ts t);
  head = ap (λ x. option_or x p.too_deep) h.head ∙ ap (λ q. option_or (first_of_terms ts) q.too_deep) e
      ∙ sym (first_more ts t);
}

pub conditions_held : (items : List RawTerm) (first : Option ℕ) (ts : List RawTerm) → AreHeld items first ts
    → record { answer = answers.Proved items; too_deep = first } ≡ held_answer (answers.Proved ts)
unfolding held_answer
conditions_held items first ts h = rw (h.terms, h.head) refl

-- an answer that is held, as a statement
pub answer_said : (p : HeldAnswer) (said : RawAnswer) → p ≡ held_answer said
    → record { kind = raws.Answer p.answer; too_deep = p.too_deep } ≡ held_statement (raws.Answer said)
unfolding held_answer held_statement
answer_said p said e = rw e refl

pub zero_denominator_held : (p : HeldTerm) (t : RawTerm) → p ≡ held t
    → record { answer = answers.ZeroDenominator p.term; too_deep = p.too_deep }
    ≡ held_answer (answers.ZeroDenominator t)
unfolding held_answer held
zero_denominator_held p t e = rw e refl
