-- What is said of all names or all exponents of a term that was read holds of those of its parts.
use Rattle.std.proofs.Common.{◌≡◌, ◌⊎◌, inl, inr, ℕ, List, ◌++◌, subst, sym, ap, ◌∙◌, ◌≤◌, arith, All}
use Rattle.alg_reader.specs.declared.raw.RawTerm.{RawTerm}
use Rattle.alg_reader.specs.declared.raw.RawNode.{RawNode}
use Rattle.alg_reader.specs.declared.raw.RawNode.TheVariants.{Neg, Add, Sub, Mul, Div, Pow, Hom}
use Rattle.alg_reader.specs.declared.raw.RawNumber.{RawNumber}
use Rattle.alg_reader.specs.declared.raw.Span.{Span}
use Rattle.alg_reader.specs.RawTerms.{Node, fold_raw, fold_under, of_parts, names_of_node, exponents_of_node}
use Rattle.alg_reader.specs.WellRead.{IsNameAt}
use Rattle.std.specs.Int.RustNames.{unsigned_abs}
use Rattle.alg_terms.specs.Limits.{MAX_EXPONENT}
use Rattle.alg_terms.proofs.JoinedLists.{all_left as first_all, all_right as last_all}
use Rattle.alg_typing.specs.TermsOf.{IsTermOf, IsSmallTermOf, IsExponent}
use Rattle.alg_reader.proofs.Built.{fold_under-Neg, fold_under-Add, fold_under-Sub, fold_under-Mul, fold_under-Div, fold_under-Pow, fold_under-Hom}

-- the node of a term is an operator on two parts
abbrev pub Joins : RawTerm → RawTerm → RawTerm → Type 0
Joins t l r = (t.node ≡ Add l r) ⊎ ((t.node ≡ Sub l r) ⊎ ((t.node ≡ Mul l r) ⊎ (t.node ≡ Div l r)))

-- the node of a term is a negation or a power of a part
abbrev pub Covers : RawTerm → RawTerm → Type 0
Covers t p = (t.node ≡ Neg p) ⊎ ((n : RawNumber) × (t.node ≡ Pow p n))

-- what all nodes of a term have, and then its parts
abbrev pub own_and_parts : {Y : Type 0} → (Node (List Y) → List Y) → ℕ → Node (List Y) → List Y
own_and_parts own head node = own node ++ of_parts node

module _ {Y : Type 0} (P : Y → Type 0) (own : Node (List Y) → List Y) (t : RawTerm)
    (all : All P (fold_raw (own_and_parts own) t)) where
  -- what is said of all, at what the node is
  at_node : (n : RawNode) (ys : List Y) → t.node ≡ n → fold_under (own_and_parts own) t.head n ≡ ys → All P ys
  at_node n ys is comes =
      let Q : List Y → Type 0 = All P in subst Q (ap (fold_under (own_and_parts own) t.head) is ∙ comes) all

  joined : (l r : RawTerm) → Joins t l r →
      All P (fold_raw (own_and_parts own) l ++ fold_raw (own_and_parts own) r)
  joined l r (inl e) = last_all P _ _ (at_node _ _ e (fold_under-Add (own_and_parts own) t.head l r))
  joined l r (inr (inl e)) = last_all P _ _ (at_node _ _ e (fold_under-Sub (own_and_parts own) t.head l r))
  joined l r (inr (inr (inl e))) = last_all P _ _ (at_node _ _ e (fold_under-Mul (own_and_parts own) t.head l r))
  joined l r (inr (inr (inr e))) = last_all P _ _ (at_node _ _ e (fold_under-Div (own_and_parts own) t.head l r))

  all_left : (l r : RawTerm) → Joins t l r → All P (fold_raw (own_and_parts own) l)
  all_left l r is = first_all P _ _ (joined l r is)

  all_right : (l r : RawTerm) → Joins t l r → All P (fold_raw (own_and_parts own) r)
  all_right l r is = last_all P _ _ (joined l r is)

  all_covered : (p : RawTerm) → Covers t p → All P (fold_raw (own_and_parts own) p)
  all_covered p (inl e) = last_all P _ _ (at_node _ _ e (fold_under-Neg (own_and_parts own) t.head p))
  all_covered p (inr (n, e)) = last_all P _ _ (at_node _ _ e (fold_under-Pow (own_and_parts own) t.head p n))

  all_argument : (name : Span) (p : RawTerm) → t.node ≡ Hom name p → All P (fold_raw (own_and_parts own) p)
  all_argument name p e = last_all P _ _ (at_node _ _ e (fold_under-Hom (own_and_parts own) t.head name p))

  -- the exponent of a power
  pub own_exponent : (p : RawTerm) (n : RawNumber) → t.node ≡ Pow p n →
      All P (own (Rattle.alg_reader.specs.declared.raw.RawNode.TheOpen.Pow (fold_raw (own_and_parts own) p) n))
  own_exponent p n e = first_all P _ _ (at_node _ _ e (fold_under-Pow (own_and_parts own) t.head p n))

-- a term of the text that is equal to another
same_term : (text : List ℕ) (p q : RawTerm) → q ≡ p → IsTermOf text p → IsTermOf text q
same_term text p q e of = subst (IsTermOf text) (sym e) of

module _ (text : List ℕ) (t q : RawTerm) (of : IsTermOf text t) where
  -- the parts of an operator
  pub left_of : (l r : RawTerm) → Joins t l r → q ≡ l → IsTermOf text q
  left_of l r is e =
      same_term text l q e (record { names = all_left (IsNameAt text) names_of_node t of.names l r is })

  pub right_of : (l r : RawTerm) → Joins t l r → q ≡ r → IsTermOf text q
  right_of l r is e =
      same_term text r q e (record { names = all_right (IsNameAt text) names_of_node t of.names l r is })

  -- the part of a negation or a power
  pub part_of : (p : RawTerm) → Covers t p → q ≡ p → IsTermOf text q
  part_of p is e =
      same_term text p q e (record { names = all_covered (IsNameAt text) names_of_node t of.names p is })

  -- the argument of a morphism
  pub argument_of : (name : Span) (p : RawTerm) → t.node ≡ Hom name p → q ≡ p → IsTermOf text q
  argument_of name p is e =
      same_term text p q e (record { names = all_argument (IsNameAt text) names_of_node t of.names name p is })

-- the same of terms without great exponents
same_small : (text : List ℕ) (p q : RawTerm) → q ≡ p → IsSmallTermOf text p → IsSmallTermOf text q
same_small text p q e of = subst (IsSmallTermOf text) (sym e) of

module _ (text : List ℕ) (t q : RawTerm) (of : IsSmallTermOf text t) where
  pub small_left : (l r : RawTerm) → Joins t l r → q ≡ l → IsSmallTermOf text q
  small_left l r is e = same_small text l q e (record {
    names = all_left (IsNameAt text) names_of_node t of.names l r is;
    exponents = all_left IsExponent exponents_of_node t of.exponents l r is;
  })

  pub small_right : (l r : RawTerm) → Joins t l r → q ≡ r → IsSmallTermOf text q
  small_right l r is e = same_small text r q e (record {
    names = all_right (IsNameAt text) names_of_node t of.names l r is;
    exponents = all_right IsExponent exponents_of_node t of.exponents l r is;
  })

  pub small_part : (p : RawTerm) → Covers t p → q ≡ p → IsSmallTermOf text q
  small_part p is e = same_small text p q e (record {
    names = all_covered (IsNameAt text) names_of_node t of.names p is;
    exponents = all_covered IsExponent exponents_of_node t of.exponents p is;
  })

  pub small_argument : (name : Span) (p : RawTerm) → t.node ≡ Hom name p → q ≡ p → IsSmallTermOf text q
  small_argument name p is e = same_small text p q e (record {
    names = all_argument (IsNameAt text) names_of_node t of.names name p is;
    exponents = all_argument IsExponent exponents_of_node t of.exponents name p is;
  })

  pub small_exponent : (p : RawTerm) (n : RawNumber) → t.node ≡ Pow p n → unsigned_abs n.value ≤ MAX_EXPONENT
  small_exponent p n e = own_exponent IsExponent exponents_of_node t of.exponents p n e 0 n (omega arith)
