-- What is held of a node is told by what is held of its parts.
use Rattle.std.proofs.Common.{◌≡◌, ℕ, List, [], ◌∷◌, ◌+◌, ◌≤◌, ◌<◌, min, max, nat_lt, cond, true, false, Option, None, Some, refl, sym, ap, ◌∙◌, subst, arith, pos}
use Rattle.std.proofs.lemmas.Bool.Decides.{nat_tests}
use Rattle.std.specs.Option.{option_or}
use Rattle.alg_tokens.specs.declared.token.Token.{Token}
use Rattle.alg_tokens.specs.declared.token.TokenKind.{TokenKind}
use Rattle.alg_tokens.specs.declared.token.TokenKind.TheVariants as kinds
use Rattle.alg_tokens.specs.declared.token.Sign.{Sign}
use Rattle.alg_tokens.specs.declared.token.Sign.TheVariants as signs
use Rattle.alg_reader.specs.declared.parts.HeldTerm.{HeldTerm}
use Rattle.alg_reader.specs.declared.raw.RawTerm.{RawTerm}
use Rattle.alg_reader.specs.declared.raw.RawNode.{RawNode}
use Rattle.alg_reader.specs.declared.raw.RawNode.TheVariants.{Int, Neg, Add, Sub, Mul, Div, Pow, Hom}
use Rattle.alg_reader.specs.declared.raw.RawAnswer.{RawAnswer}
use Rattle.alg_reader.specs.declared.raw.RawAnswer.TheVariants as answers
use Rattle.alg_reader.specs.declared.raw.RawEquation.{RawEquation}
use Rattle.alg_reader.specs.declared.raw.RawKind.{RawKind}
use Rattle.alg_reader.specs.declared.raw.RawKind.TheVariants as raws
use Rattle.alg_reader.specs.declared.raw.RawMethod.{RawMethod}
use Rattle.alg_reader.specs.declared.raw.Span.{Span}
use Rattle.alg_reader.specs.RawTerms.{fold_under, fold_raw, node_depth, depth_of}
use Rattle.alg_reader.specs.TooDeep.{node_depths, node_over, first_too_deep, kept}
use Rattle.alg_reader.specs.RawNodes.{at, joined, binary, image, opposite, opposites, power_of, literal, variable, span_of, numeral_of}
use Rattle.alg_reader.specs.PartMeaning.{sides}
use Rattle.alg_reader.specs.Parts.{held, held_statement, HasNoTerms, HasNoTermsIn, left_out, over, leaf_part, binary_part, image_part, opposite_part, opposites_part, power_part}
use Rattle.alg_reader.proofs.Built.{fold_under-Neg, fold_under-Add, fold_under-Sub, fold_under-Mul, fold_under-Div, fold_under-Pow, fold_under-Hom}
use Rattle.alg_reader.proofs.Depths.{depth_agrees}

-- nothing after the first
or_none : (first : Option ℕ) → option_or first None ≡ first
or_none None = refl
or_none (Some x) = refl

-- a term that is not too deep is kept
pub kept_whole : (t : RawTerm) → depth_of t ≤ 1000 → kept t ≡ t
kept_whole t h = let test : nat_lt 1000 (depth_of t) ≡ false = grind (arith, nat_tests) in rw test refl

-- what is held, part by part
held_is : (t : RawTerm) (p : HeldTerm) → kept t ≡ p.term → min (depth_of t) 1001 ≡ p.depth → first_too_deep t
    ≡ p.too_deep
    → held t ≡ p
unfolding held
held_is t p e d f =
    ap (λ x. record { term = x; depth = min (depth_of t) 1001; too_deep = first_too_deep t }) e
    ∙ ap (λ x. record { term = p.term; depth = x; too_deep = first_too_deep t }) d
    ∙ ap (λ x. record { term = p.term; depth = p.depth; too_deep = x }) f

-- a node of which the deepest part has depth `below`, where `node` is it over what is kept of its parts
module _ (head : ℕ) (full node : RawNode) (below part : ℕ) (first : Option ℕ)
    (deep : depth_of (at head full) ≡ 1 + below) (firsts : first_too_deep (at head full) ≡ (node_over head (1
    + below) first).too_deep) (cap : part ≡ min below 1001) (whole : below ≤ 1000 → node ≡ full) where
  node_small : below < 1000 → held (at head full) ≡ over head node part first
  node_small small =
      let kept_test : nat_lt 1000 (depth_of (at head full)) ≡ false = grind (arith, nat_tests) in
      let over_test : nat_lt part 1000 ≡ true = grind (arith, nat_tests) in
      let first_test : nat_lt 1000 (1 + below) ≡ false = grind (arith, nat_tests) in
      rw over_test (held_is (at head full) (record { term = at head node; depth = part + 1; too_deep = first })
      (kept_whole (at head full) (omega arith) ∙ ap (at head) (sym (whole (omega arith))))
      (omega arith)
      (firsts ∙ ap (λ b. option_or first (cond b (Some head) None)) first_test ∙ or_none first))

  node_large : 1000 ≤ below → held (at head full) ≡ over head node part first
  node_large large =
      let kept_test : nat_lt 1000 (depth_of (at head full)) ≡ true = grind (arith, nat_tests) in
      let over_test : nat_lt part 1000 ≡ false = grind (arith, nat_tests) in
      let first_test : nat_lt 1000 (1 + below) ≡ true = grind (arith, nat_tests) in
      rw over_test (held_is (at head full) (left_out head first)
      (ap (λ b. cond b (at head (Int (pos 0))) (at head full)) kept_test)
      (omega arith)
      (firsts ∙ ap (λ b. option_or first (cond b (Some head) None)) first_test))

  held_node : held (at head full) ≡ over head node part first
  held_node = elim (nat_lt below 1000) as (λ b. nat_lt below 1000 ≡ b → held (at head full)
      ≡ over head node part first) [
        | true ↦ λ e. node_small (grind (arith, nat_tests))
        | false ↦ λ e. node_large (grind (arith, nat_tests))
      ] refl

-- ---- leaves

pub literal_held : (t : Token) → leaf_part (literal t) ≡ held (literal t)
unfolding held fold_under
literal_held t = refl

pub variable_held : (t : Token) → leaf_part (variable t) ≡ held (variable t)
unfolding held fold_under
variable_held t = refl

-- ---- nodes with one part

one_held : (head : ℕ) (node : RawTerm → RawNode) (t : RawTerm) → depth_of (at head (node t)) ≡ 1 + depth_of t
    → first_too_deep (at head (node t)) ≡ (node_over head (1 + (fold_raw node_depths t).depth)
    (first_too_deep t)).too_deep
    → held (at head (node t)) ≡ over head (node (held t).term) (held t).depth (held t).too_deep
unfolding held
one_held head node t deep firsts =
    held_node head (node t) (node (kept t)) (depth_of t) (min (depth_of t) 1001) (first_too_deep t) deep
    (firsts ∙ ap (λ n. (node_over head (1 + n) (first_too_deep t)).too_deep) (depth_agrees t)) refl
    (λ small. ap node (kept_whole t small))

pub opposite_held : (head : ℕ) (t : RawTerm) → held (opposite head t) ≡ opposite_part head (held t)
opposite_held head t = one_held head (λ u. Neg u) t (fold_under-Neg node_depth head t) (ap (λ d. d.too_deep)
    (fold_under-Neg node_depths head t))

pub image_held : (name : Token) (t : RawTerm) → held (image name t) ≡ image_part name (held t)
image_held name t = one_held name.start (λ u. Hom (span_of name) u) t
    (fold_under-Hom node_depth name.start (span_of name) t) (ap (λ d. d.too_deep)
    (fold_under-Hom node_depths name.start (span_of name) t))

pub power_held : (caret : Token) (t : RawTerm) (n : Token) → held (power_of caret t n) ≡ power_part caret (held t) n
power_held caret t n = one_held caret.start (λ u. Pow u (numeral_of n)) t
    (fold_under-Pow node_depth caret.start t (numeral_of n)) (ap (λ d. d.too_deep)
    (fold_under-Pow node_depths caret.start t (numeral_of n)))

pub opposites_held : (heads : List ℕ) (t : RawTerm) → held (opposites heads t) ≡ opposites_part heads (held t)
opposites_held [] t = refl
opposites_held (head ∷ heads) t = opposite_held head (opposites heads t) ∙ ap (opposite_part head)
    (opposites_held heads t)

-- ---- nodes with two parts

two_held : (head : ℕ) (node : RawTerm → RawTerm → RawNode) (t u : RawTerm)
    → depth_of (at head (node t u)) ≡ 1 + max (depth_of t) (depth_of u)
    → first_too_deep (at head (node t u)) ≡ (node_over head (1 + max (fold_raw node_depths t).depth
    (fold_raw node_depths u).depth) (option_or (first_too_deep t) (first_too_deep u))).too_deep
    → held (at head (node t u)) ≡ over head (node (held t).term (held u).term) (max (held t).depth (held u).depth)
    (option_or (held t).too_deep (held u).too_deep)
unfolding held
two_held head node t u deep firsts =
    let first = option_or (first_too_deep t) (first_too_deep u) in
    held_node head (node t u) (node (kept t) (kept u)) (max (depth_of t) (depth_of u))
    (max (min (depth_of t) 1001) (min (depth_of u) 1001)) first deep
    (firsts ∙ ap (λ n. (node_over head (1 + max n (fold_raw node_depths u).depth) first).too_deep) (depth_agrees t)
    ∙ ap (λ n. (node_over head (1 + max (depth_of t) n) first).too_deep) (depth_agrees u)) (omega arith)
    (λ small. ap (λ x. node x (kept u)) (kept_whole t (omega arith)) ∙ ap (node t) (kept_whole u (omega arith)))

div_held : (head : ℕ) (t u : RawTerm) → held (at head (Div t u)) ≡ over head (Div (held t).term (held u).term)
    (max (held t).depth (held u).depth) (option_or (held t).too_deep (held u).too_deep)
div_held head t u = two_held head (λ x y. Div x y) t u (fold_under-Div node_depth head t u) (ap (λ d. d.too_deep)
    (fold_under-Div node_depths head t u))

sign_held : (head : ℕ) (sign : Sign) (t u : RawTerm) → held (at head (joined (kinds.Sign sign) t u))
    ≡ over head (joined (kinds.Sign sign) (held t).term (held u).term) (max (held t).depth (held u).depth)
    (option_or (held t).too_deep (held u).too_deep)
sign_held head sign t u = elim sign as (λ s. held (at head (joined (kinds.Sign s) t u))
    ≡ over head (joined (kinds.Sign s) (held t).term (held u).term) (max (held t).depth (held u).depth)
    (option_or (held t).too_deep (held u).too_deep)) [
      | signs.Plus ↦ two_held head (λ x y. Add x y) t u (fold_under-Add node_depth head t u) (ap (λ d. d.too_deep)
          (fold_under-Add node_depths head t u))
      | signs.Minus ↦ two_held head (λ x y. Sub x y) t u (fold_under-Sub node_depth head t u) (ap (λ d. d.too_deep)
          (fold_under-Sub node_depths head t u))
      | signs.Star ↦ two_held head (λ x y. Mul x y) t u (fold_under-Mul node_depth head t u) (ap (λ d. d.too_deep)
          (fold_under-Mul node_depths head t u))
      | signs.Dot ↦ div_held head t u
      | _ ↦ div_held head t u
    ]

kind_held : (head : ℕ) (kind : TokenKind) (t u : RawTerm) → held (at head (joined kind t u))
    ≡ over head (joined kind (held t).term (held u).term) (max (held t).depth (held u).depth)
    (option_or (held t).too_deep (held u).too_deep)
kind_held head (kinds.Sign sign) t u = sign_held head sign t u
kind_held head kinds.Name t u = div_held head t u
kind_held head (kinds.Word word) t u = div_held head t u
kind_held head (kinds.Number value) t u = div_held head t u
kind_held head kinds.End t u = div_held head t u

pub binary_held : (op : Token) (t u : RawTerm) → held (binary op t u) ≡ binary_part op (held t) (held u)
binary_held op t u = kind_held op.start op.kind t u

-- ---- the same of parts that hold these terms

pub binary_is : (op : Token) (r p q : HeldTerm) (t u : RawTerm) → r ≡ binary_part op p q → p ≡ held t → q ≡ held u
    → r ≡ held (binary op t u)
binary_is op r p q t u e hp hq =
    e ∙ ap (λ x. binary_part op x q) hp ∙ ap (binary_part op (held t)) hq ∙ sym (binary_held op t u)

pub image_is : (name : Token) (r p : HeldTerm) (t : RawTerm) → r ≡ image_part name p → p ≡ held t
    → r ≡ held (image name t)
image_is name r p t e hp = e ∙ ap (image_part name) hp ∙ sym (image_held name t)

pub power_is : (caret : Token) (r p : HeldTerm) (n : Token) (t : RawTerm) → r ≡ power_part caret p n → p ≡ held t
    → r ≡ held (power_of caret t n)
power_is caret r p n t e hp = e ∙ ap (λ x. power_part caret x n) hp ∙ sym (power_held caret t n)

-- ---- statements

-- all of an answer without terms is kept
plain_answer : (said : RawAnswer) → HasNoTermsIn said
    → record { kind = raws.Answer said; too_deep = None } ≡ held_statement (raws.Answer said)
unfolding held_statement
plain_answer (answers.Proved conditions) h =
    let P : List RawTerm → Type 0 = λ ts. record { kind = raws.Answer (answers.Proved ts); too_deep = None }
    ≡ held_statement (raws.Answer (answers.Proved ts)) in
    subst P (sym h) refl
plain_answer (answers.Certified version power constants) h = refl
plain_answer (answers.No m left right) h = refl
plain_answer (answers.ZeroDenominator denominator) h = absurd h
plain_answer (answers.NoneUpTo power) h = refl
plain_answer (answers.GaveUp limit) h = refl
plain_answer answers.Range h = refl
plain_answer answers.Degree h = refl
plain_answer answers.Atoms h = refl

-- all of a statement without terms is kept
pub plain_said : (kind : RawKind) → HasNoTerms kind → record { kind = kind; too_deep = None } ≡ held_statement kind
unfolding held_statement
plain_said raws.End h = refl
plain_said (raws.Sort kind name char0) h = refl
plain_said (raws.Hom name from to) h = refl
plain_said (raws.Vars names sort) h = refl
plain_said (raws.Hyp name e) h = absurd h
plain_said (raws.Goal e way place) h = absurd h
plain_said (raws.Answer said) h = plain_answer said h
plain_said (raws.Line a m i b n j d) h = refl
plain_said (raws.Step a b n j d) h = refl

pub hyp_said : (name : Span) (relation : Token) (e : RawEquation) (first : Option ℕ) (p q : HeldTerm) (t u : RawTerm)
    → p ≡ held t → q ≡ held u → e ≡ sides p.term relation q.term → first ≡ option_or p.too_deep q.too_deep
    → record { kind = raws.Hyp name e; too_deep = first } ≡ held_statement (raws.Hyp name (sides t relation u))
unfolding held_statement held
hyp_said name relation e first p q t u hp hq he hf = rw (he, hf, hp, hq) refl

pub goal_said : (way : RawMethod) (place : ℕ) (relation : Token) (e : RawEquation) (first : Option ℕ) (p q : HeldTerm)
    (t u : RawTerm) → p ≡ held t → q ≡ held u → e ≡ sides p.term relation q.term
    → first ≡ option_or p.too_deep q.too_deep
    → record { kind = raws.Goal e way place; too_deep = first }
    ≡ held_statement (raws.Goal (sides t relation u) way place)
unfolding held_statement held
goal_said way place relation e first p q t u hp hq he hf = rw (he, hf, hp, hq) refl
