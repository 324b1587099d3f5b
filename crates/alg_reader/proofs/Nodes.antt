-- Nodes and terms of tokens of a text: their names are names, and their numbers in range.
use Rattle.std.proofs.Common.{◌≡◌, ℕ, inl, inr, List, [], ◌∷◌, ◌++◌, refl, ap, sym, ◌∙◌, subst, arith, ℤ, pos, ◌≤ℤ◌}
use Rattle.std.specs.List.{AllByRecursion}
use Rattle.std.proofs.lemmas.Int.{ints}
use Rattle.alg_tokens.specs.declared.token.Token.{Token}
use Rattle.alg_tokens.specs.declared.token.TokenKind.{TokenKind}
use Rattle.alg_tokens.specs.declared.token.TokenKind.TheVariants as kinds
use Rattle.alg_tokens.specs.declared.token.Sign.TheVariants as signs
use Rattle.alg_tokens.specs.Pieces.{Spells}
use Rattle.alg_tokens.specs.Next.{IsWithinMax}
use Rattle.alg_reader.specs.declared.raw.RawNode.TheOpen.{RawNode-F}
use Rattle.alg_reader.specs.declared.raw.RawTerm.{RawTerm}
use Rattle.alg_reader.specs.Kinds.{variant, code}
use Rattle.alg_reader.specs.Forms.{Rule, a, seq, alt, many, rule}
use Rattle.alg_reader.specs.Grammar.{number}
use Rattle.alg_reader.specs.TermMeaning.{Value, chain, act_sum}
use Rattle.alg_reader.specs.RawNodes.{at, span_of, number_of, numeral_of, joined, binary, literal, variable, image, opposite, power_of}
use Rattle.alg_reader.specs.TermMeaning.{one, two, term}
use Rattle.alg_reader.specs.RawTerms.{Node, fold_raw}
use Rattle.alg_reader.specs.WellRead.{IsInRange, IsNameAt, IsNumeral, bytes_at}
use Rattle.alg_reader.proofs.Built.{fold_under-Var, fold_under-Int, fold_under-Neg, fold_under-Add, fold_under-Sub, fold_under-Mul, fold_under-Div, fold_under-Pow, fold_under-Hom}
use Rattle.alg_reader.proofs.Boundaries.{IsTokenAt}
use Rattle.alg_reader.proofs.Variants.{IsOfNumerals, is_name, is_numeral}
use Rattle.alg_reader.proofs.Found.{all_append, row, EachOf, IsFoundTerm, TermFound, Found}

-- ---- one token

pub name_at : (text : List ℕ) (t : Token) → variant kinds.Name ≡ code t → IsTokenAt text t → IsNameAt text (span_of t)
name_at text t h here = record {
  starts = here.starts;
  stops = here.stops;
  ordered = let some = here.some in omega arith;
  name = let P : TokenKind → Type 0 = λ k. Spells k (bytes_at text (span_of t)) in
      subst P (is_name t.kind h) here.spelled;
}

range_of : (bytes : List ℕ) (kind : TokenKind) → (value : ℤ) × (kind ≡ kinds.Number value) → Spells kind bytes
    → IsWithinMax kind → IsInRange (number_of kind)
range_of bytes kind (value, is) spelled within =
    let P : TokenKind → Type 0 = λ k. Spells k bytes → IsWithinMax k → IsInRange (number_of k) in
    subst P (sym is) (λ digits small. (
      let Q : ℤ → Type 0 = λ n. pos 0 ≤ℤ n in subst Q (sym digits.1) (omega (arith, ints)),
      small,
    )) spelled within

-- a numeral of the text, in range
abbrev pub NumeralFound : List ℕ → Value → Type 0
NumeralFound text x = (t : Token) × (x ≡ one t) × IsInRange (number_of t.kind) × IsOfNumerals (code t)
    × IsTokenAt text t

numeral_found : (text : List ℕ) (x : Value) (t : Token) → x ≡ one t → IsOfNumerals (code t)
    → IsTokenAt text t → NumeralFound text x
numeral_found text x t e k here =
    (t, e, range_of (bytes_at text (span_of t)) t.kind (is_numeral t.kind k) here.spelled here.within, k, here)

-- a numeral is in range
pub number_at : (text : List ℕ) (x : Value) (ts : List Token) → Found text number x ts → NumeralFound text x
number_at text x ts (inl (t, e, _, k, here)) = numeral_found text x t e (inl k) here
number_at text x ts (inr (inl (t, e, _, k, here))) = numeral_found text x t e (inr (inl k)) here
number_at text x ts (inr (inr (t, e, _, k, here))) = numeral_found text x t e (inr (inr k)) here

-- ---- nodes

-- a fold of a node with two parts, where each of the four operators gives the same
joined_fold : {X : Type 0} (f : ℕ → Node X → X) (both : X → X → X) (head : ℕ) → ((u v : X) → f head
    (RawNode-F.Add u v) ≡ both u v) → ((u v : X) → f head (RawNode-F.Sub u v) ≡ both u v)
    → ((u v : X) → f head (RawNode-F.Mul u v) ≡ both u v) → ((u v : X) → f head (RawNode-F.Div u v) ≡ both u v)
    → (kind : TokenKind) (t u : RawTerm) → fold_raw f (at head (joined kind t u)) ≡ both (fold_raw f t) (fold_raw f u)
joined_fold f both head plus minus star slash (kinds.Sign sign) t u =
    elim sign as (λ s. fold_raw f (at head (joined (kinds.Sign s) t u)) ≡ both (fold_raw f t) (fold_raw f u)) [
      | signs.Plus ↦ fold_under-Add f head t u ∙ plus (fold_raw f t) (fold_raw f u)
      | signs.Minus ↦ fold_under-Sub f head t u ∙ minus (fold_raw f t) (fold_raw f u)
      | signs.Star ↦ fold_under-Mul f head t u ∙ star (fold_raw f t) (fold_raw f u)
      | signs.Dot ↦ fold_under-Div f head t u ∙ slash (fold_raw f t) (fold_raw f u)
      | _ ↦ fold_under-Div f head t u ∙ slash (fold_raw f t) (fold_raw f u)
    ]
joined_fold f both head plus minus star slash kinds.Name t u =
    fold_under-Div f head t u ∙ slash (fold_raw f t) (fold_raw f u)
joined_fold f both head plus minus star slash (kinds.Word word) t u =
    fold_under-Div f head t u ∙ slash (fold_raw f t) (fold_raw f u)
joined_fold f both head plus minus star slash (kinds.Number value) t u =
    fold_under-Div f head t u ∙ slash (fold_raw f t) (fold_raw f u)
joined_fold f both head plus minus star slash kinds.End t u =
    fold_under-Div f head t u ∙ slash (fold_raw f t) (fold_raw f u)

binary_found : (text : List ℕ) (op : Token) (t u : RawTerm) → IsFoundTerm text t → IsFoundTerm text u
    → IsFoundTerm text (binary op t u)
binary_found text op t u h k = record {
  names = subst (AllByRecursion (IsNameAt text)) (sym (joined_fold _ (λ x y. x ++ y) op.start (λ x y. refl)
      (λ x y. refl) (λ x y. refl) (λ x y. refl) op.kind t u)) (all_append _ _ _ h.names k.names);
  literals = subst (AllByRecursion IsInRange) (sym (joined_fold _ (λ x y. x ++ y) op.start (λ x y. refl)
      (λ x y. refl) (λ x y. refl) (λ x y. refl) op.kind t u)) (all_append _ _ _ h.literals k.literals);
  exponents = subst (AllByRecursion IsNumeral) (sym (joined_fold _ (λ x y. x ++ y) op.start (λ x y. refl)
      (λ x y. refl) (λ x y. refl) (λ x y. refl) op.kind t u)) (all_append _ _ _ h.exponents k.exponents);
}

pub opposite_found : (text : List ℕ) (head : ℕ) (t : RawTerm) → IsFoundTerm text t → IsFoundTerm text (opposite head t)
opposite_found text head t h = record {
  names = subst (AllByRecursion (IsNameAt text)) (sym (fold_under-Neg _ head t)) h.names;
  literals = subst (AllByRecursion IsInRange) (sym (fold_under-Neg _ head t)) h.literals;
  exponents = subst (AllByRecursion IsNumeral) (sym (fold_under-Neg _ head t)) h.exponents;
}

pub image_found : (text : List ℕ) (name : Token) (t : RawTerm) → IsNameAt text (span_of name) → IsFoundTerm text t
    → IsFoundTerm text (image name t)
image_found text name t here h = record {
  names = subst (AllByRecursion (IsNameAt text)) (sym (fold_under-Hom _ name.start (span_of name) t)) (here, h.names);
  literals = subst (AllByRecursion IsInRange) (sym (fold_under-Hom _ name.start (span_of name) t)) h.literals;
  exponents = subst (AllByRecursion IsNumeral) (sym (fold_under-Hom _ name.start (span_of name) t)) h.exponents;
}

pub power_found : (text : List ℕ) (caret : Token) (t : RawTerm) (n : Token) → IsInRange (number_of n.kind)
    → IsFoundTerm text t → IsFoundTerm text (power_of caret t n)
power_found text caret t n range h = record {
  names = subst (AllByRecursion (IsNameAt text)) (sym (fold_under-Pow _ caret.start t (numeral_of n))) h.names;
  literals = subst (AllByRecursion IsInRange) (sym (fold_under-Pow _ caret.start t (numeral_of n))) h.literals;
  exponents = subst (AllByRecursion IsNumeral) (sym (fold_under-Pow _ caret.start t (numeral_of n))) (
    record { low = range.0; high = range.1 },
    h.exponents,
  );
}

pub literal_found : (text : List ℕ) (t : Token) → IsInRange (number_of t.kind) → IsFoundTerm text (literal t)
literal_found text t range = record {
  names = subst (AllByRecursion (IsNameAt text)) (sym (fold_under-Int _ t.start (number_of t.kind))) tt;
  literals = subst (AllByRecursion IsInRange) (sym (fold_under-Int _ t.start (number_of t.kind))) (range, tt);
  exponents = subst (AllByRecursion IsNumeral) (sym (fold_under-Int _ t.start (number_of t.kind))) tt;
}

pub variable_found : (text : List ℕ) (t : Token) → IsNameAt text (span_of t) → IsFoundTerm text (variable t)
variable_found text t here = record {
  names = subst (AllByRecursion (IsNameAt text)) (sym (fold_under-Var _ t.start (span_of t))) (here, tt);
  literals = subst (AllByRecursion IsInRange) (sym (fold_under-Var _ t.start (span_of t))) tt;
  exponents = subst (AllByRecursion IsNumeral) (sym (fold_under-Var _ t.start (span_of t))) tt;
}

-- ---- terms

-- an operator and its right part
one_turn : (text : List ℕ) (k l : TokenKind) (q : Rule) (x : Value) (ts : List Token)
    → ((y : Value) (us : List Token) → Found text (rule q) y us → TermFound text y)
    → Found text (seq (alt (a k) (a l)) (rule q)) x ts
    → (op : Token) × (u : RawTerm) × (x ≡ two (one op) (term u)) × IsFoundTerm text u
one_turn text k l q x ts is (y, z, us, vs, e, _, inl (op, eo, _, _, _), h) = let (u, eu, f) = is z vs h in
    (op, u, e ∙ ap (λ v. two v z) eo ∙ ap (two (one op)) eu, f)
one_turn text k l q x ts is (y, z, us, vs, e, _, inr (op, eo, _, _, _), h) = let (u, eu, f) = is z vs h in
    (op, u, e ∙ ap (λ v. two v z) eo ∙ ap (two (one op)) eu, f)

all_turns : (text : List ℕ) (k l : TokenKind) (q : Rule) → ((y : Value) (us : List Token) → Found text (rule q) y us
    → TermFound text y) → (t : RawTerm) → IsFoundTerm text t → (xs : List Value) (ts : List Token)
    → EachOf (λ y us. Found text (seq (alt (a k) (a l)) (rule q)) y us) xs ts → IsFoundTerm text (chain t (row xs))
unfolding chain row
all_turns text k l q is t here [] ts each = here
all_turns text k l q is t here (x ∷ xs) ts (us, vs, _, h, each) =
    let (op, u, e, f) = one_turn text k l q x us is h in
    let P : Value → Type 0 = λ v. IsFoundTerm text (chain t (two v (row xs))) in
    subst P (sym e) (all_turns text k l q is (binary op t u) (binary_found text op t u here f) xs vs each)

pub chain_found : (text : List ℕ) (k l : TokenKind) (q : Rule) (x : Value) (ts : List Token)
    → ((y : Value) (us : List Token) → Found text (rule q) y us → TermFound text y)
    → Found text (seq (rule q) (many (seq (alt (a k) (a l)) (rule q)))) x ts → TermFound text (act_sum x)
chain_found text k l q x ts is (y, z, us, vs, e, _, h, (xs, er, each)) =
    let (t, et, f) = is y us h in
    let P : Value → Type 0 = λ v. TermFound text (act_sum v) in
    subst P (sym (e ∙ ap (λ v. two v z) et ∙ ap (two (term t)) er)) (
      chain t (row xs),
      refl,
      all_turns text k l q is t f xs vs each,
    )
