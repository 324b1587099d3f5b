-- What the operations on polynomials give, put together to what a term's polynomial comes to.
use Rattle.std.specs.Prelude.{◌≡◌, ℕ, ℤ, List, [], ◌∷◌, ◌++◌, IfOk, IfErr}
use Rattle.std.specs.declared.result.Result.{Result}
use Rattle.std.specs.declared.result.Result.TheVariants.{Ok, Err}
use Rattle.std.specs.Result.{IsErrAnd}
use Rattle.std.proofs.Common.{sym, ap, subst, ◌∙◌}
use Rattle.alg_terms.specs.declared.term.Atom.{Atom}
use Rattle.alg_terms.specs.declared.term.Term.{Term}
use Rattle.alg_terms.specs.declared.term.Term.TheVariants.{Var, Int, Neg, Pow, Hom}
use Rattle.alg_terms.proofs.Views.{Leaf, Unary, Binary, binary}
use Rattle.alg_mono.specs.declared.ends.Overrun.{Overrun}
use Rattle.alg_mono.specs.declared.ends.Overrun.TheVariants.{Range, Degree, NoMemory}
use Rattle.alg_mono.specs.Outcomes.{Outcome, first_breach, power_outcome}
use Rattle.alg_mono.specs.Polynomials.{PolyOver, poly_neg}
use Rattle.alg_mono.specs.Refusals.{RefusesWith}
use Rattle.alg_mono.specs.NumberedPolynomials.{atom_of, term_of, power_of}
use Rattle.alg_meaning.specs.PolynomialOf.{poly_of}
use Rattle.alg_meaning.specs.TermOutcome.{term_outcome}
use Rattle.alg_meaning.proofs.Built.{binary_outcome, term_outcome_leaf}
use Rattle.alg_reify.specs.Numbered.{number_of}
use Rattle.alg_reify.specs.Making.{Makes, IsOverTable}
use Rattle.alg_reify.proofs.Likes.{own_like, power_like}
use Rattle.alg_reify.proofs.Made.{made, operation, like_made, made_binary, made-Var, made-Int, made-Neg, made-Pow, made-Hom}
use Rattle.alg_reify.proofs.Parts.{HasPart, HasParts, over_part, over_left, over_right, part, parts}

-- what a call says one by one
pub joined : {Q : Type 0} (map : Q → PolyOver ℕ) (r : Result Q Overrun) (p x : PolyOver ℕ) (o u : Outcome) →
    IfOk r (λ q. map q ≡ p) → IfOk r (λ q. o ≡ Outcome.Fine) →
    IfErr r (λ e. RefusesWith e o) → p ≡ x → o ≡ u → Makes map x u r
joined map (Ok q) p x o u is fine refused same other = (is ∙ same, sym other ∙ fine)
joined map (Err e) p x o u is fine refused same other = subst (RefusesWith e) other refused

-- a rule that is broken first is the one that is told
pub first_told : (e : Overrun) (o later : Outcome) → RefusesWith e o → RefusesWith e (first_breach o later)
first_told Range o later h = ap (λ x. first_breach x later) h
first_told Degree o later h = ap (λ x. first_breach x later) h
first_told NoMemory o later h = tt

-- an error that was handed on tells what it told
handed_on : {Q : Type 0} (map : Q → PolyOver ℕ) (r : Result Q Overrun) (p : PolyOver ℕ) (o : Outcome) (e : Overrun) →
    IsErrAnd r (λ d. d ≡ e) → RefusesWith e o → Makes map p o r
handed_on map (Ok q) p o e came h = absurd came
handed_on map (Err d) p o e came h = let P : Overrun → Type 0 = λ x. RefusesWith x o in subst P (sym came) h

-- the part failed
pub part_failed : {Q : Type 0} (map : Q → PolyOver ℕ)
    (r : Result Q Overrun) (p : PolyOver ℕ) (t part : Term) (path inner : List ℕ) (own : Outcome)
    (e : Overrun) →
    HasPart t part path inner own → IsErrAnd r (λ d. d ≡ e) → RefusesWith e (term_outcome part) →
    Makes map p (term_outcome t) r
part_failed map r p t part path inner own e h came told =
    handed_on map r p (term_outcome t) e came
    (subst (RefusesWith e) (sym h.outcome) (first_told e (term_outcome part) own told))

-- the left part failed
pub left_failed : {Q : Type 0} (map : Q → PolyOver ℕ) (r : Result Q Overrun) (p : PolyOver ℕ) (e : Overrun)
    {t a b : Term} {own : Outcome} → HasParts t a b own →
    IsErrAnd r (λ d. d ≡ e) → RefusesWith e (term_outcome a) → Makes map p (term_outcome t) r
left_failed map r p e {t = t} {a = a} {b = b} {own = own} h came told =
    handed_on map r p (term_outcome t) e came
    (subst (RefusesWith e) (sym h.outcome) (first_told e (term_outcome a) (first_breach (term_outcome b) own) told))

-- after the left part the outcome is that of the right part and the node
after_left : (t a b : Term) (own : Outcome) → HasParts t a b own → term_outcome a ≡ Outcome.Fine →
    first_breach (term_outcome b) own ≡ term_outcome t
after_left t a b own h fine =
    sym (h.outcome ∙ ap (λ o. first_breach o (first_breach (term_outcome b) own)) fine)

-- the right part failed
pub right_failed : {Q : Type 0} (map : Q → PolyOver ℕ) (r : Result Q Overrun) (p : PolyOver ℕ) (e : Overrun)
    {t a b : Term} {own : Outcome} → HasParts t a b own →
    IsErrAnd r (λ d. d ≡ e) → term_outcome a ≡ Outcome.Fine → RefusesWith e (term_outcome b) → Makes map p (term_outcome t) r
right_failed map r p e {t = t} {a = a} {b = b} {own = own} h came fine told =
    handed_on map r p (term_outcome t) e came
    (subst (RefusesWith e) (after_left t a b own h fine) (first_told e (term_outcome b) own told))

-- after both parts, the outcome is the node's own
after_both : (t a b : Term) (own : Outcome) → HasParts t a b own → term_outcome a ≡ Outcome.Fine →
    term_outcome b ≡ Outcome.Fine → own ≡ term_outcome t
after_both t a b own h fine also = sym (ap (λ o. first_breach o own) also) ∙ after_left t a b own h fine

-- after its part the outcome is the node's own
after_part : (t part : Term) (path inner : List ℕ) (own : Outcome) → HasPart t part path inner own →
    term_outcome part ≡ Outcome.Fine → own ≡ term_outcome t
after_part t part path inner own h fine = sym (h.outcome ∙ ap (λ o. first_breach o own) fine)

-- a term's polynomial, and no rule is broken
abbrev pub IsMade : List Atom → List ℕ → Term → PolyOver ℕ → Type 0
IsMade atoms path t p = (p ≡ made atoms path t) × (term_outcome t ≡ Outcome.Fine)

-- the path is as before
same_path : (atoms : List Atom) (after path : List ℕ) (b : Term) (q : PolyOver ℕ) → after ≡ path →
    IsMade atoms after b q →
    IsMade atoms path b q
same_path atoms after path b q e h = let P : List ℕ → Type 0 = λ x. IsMade atoms x b q in subst P e h

module _ (o : Binary) (atoms : List Atom) {path after : List ℕ} {t x y a b : Term} {p q : PolyOver ℕ}
    (over : IsOverTable atoms path t) (e : t ≡ binary o x y) (left : a ≡ x) (right : b ≡ y) (back : after ≡ path)
    (made_left : IsMade atoms path a p)
    (made_right : IsMade atoms after b q) where
  -- the right part at the path of the whole
  at_path : IsMade atoms path b q
  at_path = same_path atoms after path b q back made_right

  -- the operation's own outcome on numbers is the term's
  own : binary_outcome o p q ≡ term_outcome t
  own =
      let h = parts o e left right in
      (λ i. binary_outcome o (made_left.0 i) (at_path.0 i))
      ∙ sym (own_like (poly_of a) (made atoms path a) (like_made atoms path a (over_left h over).held)
      (poly_of b) (made atoms path b) (like_made atoms path b (over_right h over).held) o)
      ∙ after_both t a b (binary_outcome o (poly_of a) (poly_of b)) h made_left.1 at_path.1

  -- the operation on both polynomials gives that of the term
  both : operation o p q ≡ made atoms path t
  both =
      (λ i. operation o (made_left.0 i) (at_path.0 i)) ∙ sym (made_binary atoms path o a b)
      ∙ ap (made atoms path) (sym (e ∙ (λ i. binary o (sym left i) (sym right i))))

  -- the polynomial was made, or what broke a rule is told
  pub binary_made : {Q : Type 0} (map : Q → PolyOver ℕ) (r : Result Q Overrun) →
      IfOk r (λ s. map s ≡ operation o p q) → IfOk r (λ s. binary_outcome o p q ≡ Outcome.Fine) →
      IfErr r (λ e. RefusesWith e (binary_outcome o p q)) → Makes map (made atoms path t) (term_outcome t) r
  binary_made map r is fine refused =
      joined map r (operation o p q) (made atoms path t) (binary_outcome o p q)
      (term_outcome t) is fine refused both own

module _ (atoms : List Atom) (path : List ℕ) (t x inner : Term) (p : PolyOver ℕ) (is : inner ≡ x) where
  -- the power
  pub power_made : {Q : Type 0} (map : Q → PolyOver ℕ) (n : ℕ) (r : Result Q Overrun) → IsOverTable atoms path t →
      IsMade atoms path inner p → t ≡ Pow x n →
      IfOk r (λ s. map s ≡ power_of p n) → IfOk r (λ s. power_outcome p n ≡ Outcome.Fine) →
      IfErr r (λ e. RefusesWith e (power_outcome p n)) → Makes map (made atoms path t) (term_outcome t) r
  power_made map n r over h e made_is fine refused =
      let own = power_outcome (poly_of inner) n in
      let has = part (Unary.Power n) path e is in
      joined map r (power_of p n) (made atoms path t) (power_outcome p n) (term_outcome t) made_is fine refused
      (ap (λ q. power_of q n) h.0 ∙ sym (made-Pow atoms path inner n)
      ∙ ap (made atoms path) (sym (e ∙ ap (λ s. Pow s n) (sym is))))
      (ap (λ q. power_outcome q n) h.0
      ∙ sym (power_like (poly_of inner) (made atoms path inner)
      (like_made atoms path inner (over_part atoms path path t inner own has over).held) n)
      ∙ after_part t inner path path own has h.1)

  -- the opposite
  pub opposite_made : (s : PolyOver ℕ) → IsMade atoms path inner p → t ≡ Neg x → s ≡ poly_neg p → IsMade atoms path t s
  opposite_made s h e made_is = (
    made_is ∙ ap (λ q. poly_neg q) h.0 ∙ sym (made-Neg atoms path inner)
        ∙ ap (made atoms path) (sym (e ∙ ap Neg (sym is))),
    sym (after_part t inner path path Outcome.Fine (part Unary.Opposite path e is) h.1),
  )

  -- the image under a morphism
  pub image_made : (f : ℕ) (below : List ℕ) → below ≡ path ++ f ∷ [] → IsMade atoms below inner p → t ≡ Hom f x →
      IsMade atoms path t p
  image_made f below down h e =
      let at = same_path atoms below (path ++ f ∷ []) inner p down h in (
        at.0 ∙ sym (made-Hom atoms path f inner) ∙ ap (made atoms path) (sym (e ∙ ap (Hom f) (sym is))),
        sym (after_part t inner path (path ++ f ∷ []) Outcome.Fine (part (Unary.Image f) path e is) h.1),
      )

-- a constant and an atom
pub constant_made : (atoms : List Atom) (path : List ℕ) (t : Term) (n : ℤ) (p : PolyOver ℕ) → t ≡ Int n →
    p ≡ term_of [] n →
    IsMade atoms path t p
constant_made atoms path t n p e is = (
  is ∙ sym (made-Int atoms path n) ∙ ap (made atoms path) (sym e),
  ap term_outcome e ∙ term_outcome_leaf
      (Leaf.Literal n),
)

-- an atom
pub atom_made : (atoms : List Atom) (path same : List ℕ) (t : Term) (k : ℕ) (p : PolyOver ℕ) → t ≡ Var k → same ≡ path →
    p ≡ atom_of (number_of atoms (record { path = same; var = k })) → IsMade atoms path t p
atom_made atoms path same t k p e s is = (
  is ∙ ap (λ x. atom_of (number_of atoms (record { path = x; var = k }))) s ∙ sym (made-Var atoms path k)
      ∙ ap (made atoms path) (sym e),
  ap term_outcome e ∙ term_outcome_leaf (Leaf.Variable k),
)
