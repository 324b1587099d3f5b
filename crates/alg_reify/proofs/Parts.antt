-- A term whose polynomial is made, and its parts.
use Rattle.std.specs.Prelude.{◌≡◌, ℕ, ◌≤◌, ℤ, pos, ◌≤ℤ◌, List, [], ◌∷◌, ◌++◌, All, Contains}
use Rattle.std.specs.Int.RustNames.{unsigned_abs}
use Rattle.std.proofs.lemmas.Int.{ints}
use Rattle.std.proofs.Common.{sym, ap, subst, ◌∙◌, arith}
use Rattle.std.proofs.lemmas.List.Elements.{recursion_from_All, All-from_recursion, All-head}
use Rattle.alg_terms.specs.declared.term.Atom.{Atom}
use Rattle.alg_terms.specs.declared.term.Term.{Term}
use Rattle.alg_terms.specs.declared.term.Term.TheVariants.{Var, Int, Div}
use Rattle.alg_terms.specs.Limits.{MAX_LITERAL}
use Rattle.alg_terms.specs.Nodes.{EachNode}
use Rattle.alg_terms.specs.TermRules.{HasLiteral, IsNoQuotient, HasNoQuotient}
use Rattle.alg_terms.proofs.BuiltNodes.{EachNode-Div}
use Rattle.alg_terms.proofs.Views.{Unary, Binary, unary, binary, nodes_unary, nodes_binary}
use Rattle.alg_mono.specs.Outcomes.{Outcome, first_breach}
use Rattle.alg_mono.specs.Polynomials.{MAX}
use Rattle.alg_meaning.specs.PolynomialOf.{poly_of}
use Rattle.alg_meaning.specs.TermOutcome.{term_outcome}
use Rattle.alg_meaning.proofs.Built.{unary_outcome, binary_outcome, term_outcome_unary, term_outcome_binary}
use Rattle.alg_reify.specs.Table.{leaves}
use Rattle.alg_reify.specs.Making.{IsOverTable}
use Rattle.alg_reify.proofs.AtomsIn.{both_parts}
use Rattle.alg_reify.proofs.Leaves.{path_below, leaves_unary, leaves_binary, leaves-Var}

-- a term of one part, which stands under the path `inner`: the part is made first, and then what is the node's own
pub record HasPart (t part : Term) (path inner : List ℕ) (own : Outcome) : Type 0 where
  pub literals : EachNode HasLiteral t → EachNode HasLiteral part
  pub plain : HasNoQuotient t → HasNoQuotient part
  pub leaves : leaves path t ≡ leaves inner part
  pub outcome : term_outcome t ≡ first_breach (term_outcome part) own

-- a term of two parts: they are made first
pub record HasParts (t l r : Term) (own : Outcome) : Type 0 where
  pub literals : EachNode HasLiteral t → EachNode HasLiteral l × EachNode HasLiteral r
  pub plain : HasNoQuotient t → HasNoQuotient l × HasNoQuotient r
  pub leaves : (path : List ℕ) → leaves path t ≡ leaves path l ++ leaves path r
  pub outcome : term_outcome t ≡ first_breach (term_outcome l) (first_breach (term_outcome r) own)

-- an operation on one part
pub part : (o : Unary) (path : List ℕ) {t s inner : Term} → t ≡ unary o s → inner ≡ s →
    HasPart t inner path (path_below o path) (unary_outcome o (poly_of inner))
part o path {t = t} {s = s} {inner = inner} e p =
    let P : Term → Type 0 = λ x. HasPart x inner path (path_below o path) (unary_outcome o (poly_of inner)) in
    subst P (sym (e ∙ ap (unary o) (sym p))) record {
      literals = λ h. ((nodes_unary HasLiteral o inner).0 h).1;
      plain = λ h. ((nodes_unary IsNoQuotient o inner).0 h).1;
      leaves = leaves_unary path o inner;
      outcome = term_outcome_unary o inner;
    }

-- both parts, each as it was taken out
at_parts : (node : Term → Term → Term) (t a b l r : Term) → t ≡ node a b → l ≡ a → r ≡ b → node l r ≡ t
at_parts node t a b l r e p q = sym (e ∙ (λ i. node (sym p i) (sym q i)))

-- an operation on two parts
pub parts : (o : Binary) {t a b l r : Term} → t ≡ binary o a b → l ≡ a → r ≡ b →
    HasParts t l r (binary_outcome o (poly_of l) (poly_of r))
parts o {t = t} {a = a} {b = b} {l = l} {r = r} e p q =
    let P : Term → Type 0 = λ x. HasParts x l r (binary_outcome o (poly_of l) (poly_of r)) in
    subst P (at_parts (binary o) t a b l r e p q) record {
      literals = λ h. let k = (nodes_binary HasLiteral o l r).0 h in (k.1, k.2);
      plain = λ h. let k = (nodes_binary IsNoQuotient o l r).0 h in (k.1, k.2);
      leaves = λ path. leaves_binary path o l r;
      outcome = term_outcome_binary o l r;
    }

-- ---- what is asked of a term is so of its parts
pub over_part : (atoms : List Atom) (path inner : List ℕ) (t part : Term) (own : Outcome) →
    HasPart t part path inner own →
    IsOverTable atoms path t → IsOverTable atoms inner part
over_part atoms path inner t part own h over = record {
  literals = h.literals over.literals;
  plain = h.plain over.plain;
  held = subst (All (Contains atoms)) h.leaves over.held;
}

-- the inner path, as the code has it
pub over_inner : (atoms : List Atom) (path inner : List ℕ) (t part : Term) (own : Outcome) →
    HasPart t part path inner own →
    IsOverTable atoms path t → (pushed : List ℕ) → pushed ≡ inner → IsOverTable atoms pushed part
over_inner atoms path inner t part own h over pushed e =
    let P : List ℕ → Type 0 = λ x. IsOverTable atoms x part in subst P (sym e) (over_part atoms path inner t part own h over)

module _ {atoms : List Atom} {path : List ℕ} {t l r : Term} {own : Outcome} (h : HasParts t l r own)
    (over : IsOverTable atoms path t) where
  -- the atoms of both parts
  held_parts : All (Contains atoms) (leaves path l) × All (Contains atoms) (leaves path r)
  held_parts =
      let P = Contains atoms in
      let parts = both_parts P (leaves path l) (leaves path r)
      (recursion_from_All P (leaves path l ++ leaves path r) (subst (All P) (h.leaves path) over.held)) in
      (All-from_recursion P (leaves path l) parts.0, All-from_recursion P (leaves path r) parts.1)

  -- the left part, and the right
  pub over_left : IsOverTable atoms path l
  over_left =
      record { literals = (h.literals over.literals).0; plain = (h.plain over.plain).0; held = held_parts.0 }

  pub over_right : IsOverTable atoms path r
  over_right =
      record { literals = (h.literals over.literals).1; plain = (h.plain over.plain).1; held = held_parts.1 }

  -- the path is as before where the right part is made
  pub over_right_after : {after : List ℕ} → after ≡ path → IsOverTable atoms after r
  over_right_after e = let P : List ℕ → Type 0 = λ x. IsOverTable atoms x r in subst P (sym e) over_right

-- what the rule on literals says
bounds : (n : ℤ) → EachNode HasLiteral (Int n) → (pos 0 ≤ℤ n) × (n ≤ℤ MAX_LITERAL)
unfolding EachNode
bounds n h = h

-- its bound is the greatest norm
pub within : (n : ℤ) → (pos 0 ≤ℤ n) × (n ≤ℤ MAX_LITERAL) → unsigned_abs n ≤ MAX
within n h = omega (arith, ints, h.0, h.1)

-- a literal is within the limit
pub literal : (t : Term) (n : ℤ) → t ≡ Int n → EachNode HasLiteral t → unsigned_abs n ≤ MAX
literal t n e h = within n (bounds n (subst (EachNode HasLiteral) e h))

-- no term without quotients is one
pub divides : (t a b : Term) → t ≡ Div a b → HasNoQuotient t → ⊥
divides t a b e h = ((EachNode-Div IsNoQuotient a b).0 (subst (EachNode IsNoQuotient) e h)).0

-- the one leaf of a variable is in the table
pub held_atom : (atoms : List Atom) (path same : List ℕ) (t : Term) (k : ℕ) → t ≡ Var k → same ≡ path →
    All (Contains atoms) (leaves path t) → Contains atoms (record { path = same; var = k })
held_atom atoms path same t k e s held =
    let P : List ℕ → Type 0 = λ x. Contains atoms (record { path = x; var = k }) in
    let one : All (Contains atoms) (record { path = path; var = k } ∷ []) =
    subst (All (Contains atoms)) (ap (leaves path) e ∙ leaves-Var path k) held in
    subst P (sym s) (All-head (Contains atoms) (record { path = path; var = k }) [] one)
