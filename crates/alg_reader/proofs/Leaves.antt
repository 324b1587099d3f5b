-- The readers of leaves and parentheses, one lemma for each way out.
use Rattle.std.proofs.Common.{◌≡◌, List, refl, subst, arith, ℤ, pos, Result, Ok, Err}
use Rattle.alg_tokens.specs.declared.token.Token.{Token}
use Rattle.alg_tokens.specs.declared.token.TokenKind.{TokenKind}
use Rattle.alg_tokens.specs.declared.token.TokenKind.TheVariants as kinds
use Rattle.alg_tokens.specs.declared.token.Sign.TheVariants as signs
use Rattle.alg_reader.specs.declared.raw.RawTerm.{RawTerm}
use Rattle.alg_reader.specs.declared.parts.HeldTerm.{HeldTerm}
use Rattle.alg_reader.specs.declared.cursor.Fault.{Fault}
use Rattle.alg_reader.specs.Kinds.{variant}
use Rattle.alg_reader.specs.Forms.{Sum, Product, Unary, Power, Leaf, a, seq, alt, opt, rule, Tree, token, pair, left, right, none, end, node}
use Rattle.alg_reader.specs.Grammar.{grammar, Fits, number, inside as parens}
use Rattle.alg_reader.specs.Ahead.{begins, goes_on, rule_goes_on, Starts, Lacks}
use Rattle.alg_reader.specs.Reading.{Takes, Fails, TakesInside, ReadsInside, ReadsTerm}
use Rattle.alg_reader.specs.TermMeaning.{Value, leaf_one, leaf_two, named}
use Rattle.alg_reader.specs.RawNodes.{literal, variable, image}
use Rattle.alg_reader.specs.TermMeaning.{one, two, nothing, term}
use Rattle.alg_reader.specs.Meaning.{value, act}
use Rattle.alg_reader.proofs.Ahead.{Disjoint}
use Rattle.alg_reader.proofs.ReadSequences.{an, an-code, takes_seq}
use Rattle.alg_reader.proofs.ReadChoices.{takes_left, takes_right, takes_some, takes_none}
use Rattle.alg_reader.proofs.ReadRows.{takes_rule}
use Rattle.alg_reader.proofs.Failing.{fails_first, fails_second, fails_left, fails_right, fails_some, fails_rule}
use Rattle.alg_reader.proofs.Variants.{is_paren, is_name, is_numeral}
use Rattle.alg_reader.proofs.OneToken.{kind_taken, lacks_seq, numeral_taken, starts_seq}
use Rattle.alg_reader.proofs.Powers.{none_apart}

-- ---- parentheses

sum_tree : (w : Tree) × Fits (rule Sum) w
unfolding grammar
sum_tree = (
  node Sum (pair (node Product (pair (node Unary (right (node Power (pair (node Leaf (left (left (token
      (an (kinds.Number (pos 0))))))) none)))) end)) end),
  (
    refl,
    (
      (
        refl,
        (
          (
            refl,
            (
              refl,
              (
                (
                  refl,
                  an-code (kinds.Number (pos 0)),
                ),
                tt,
              ),
            ),
          ),
          tt,
        ),
      ),
      tt,
    ),
  ),
)

pub close_apart : Disjoint (goes_on (rule Sum)) (begins (a (kinds.Sign signs.ParenRight)))
unfolding rule_goes_on
close_apart n h h' = grind arith

close_tree : (w : Tree) × Fits (seq (rule Sum) (a (kinds.Sign signs.ParenRight))) w
close_tree = (
  pair sum_tree.0 (token (an (kinds.Sign signs.ParenRight))),
  (
    sum_tree.1,
    an-code (kinds.Sign signs.ParenRight),
  ),
)

pub takes_inside : (ts mid mid' rest : List Token) (p q : Token) (t : RawTerm)
    → Takes (a (kinds.Sign signs.ParenLeft)) ts mid (one p) → Takes (rule Sum) mid mid' (term t)
    → Takes (a (kinds.Sign signs.ParenRight)) mid' rest (one q) → TakesInside ts rest t
takes_inside ts mid mid' rest p q t h k l = (
  p,
  q,
  is_paren p.kind (kind_taken (kinds.Sign signs.ParenLeft) ts mid p h),
  takes_seq (a (kinds.Sign signs.ParenLeft)) (seq (rule Sum) (a (kinds.Sign signs.ParenRight))) (none_apart
      (kinds.Sign signs.ParenLeft) (seq (rule Sum) (a (kinds.Sign signs.ParenRight)))) ts mid rest _ _ h
      (takes_seq (rule Sum) (a (kinds.Sign signs.ParenRight)) close_apart mid mid' rest _ _ k l),
)

pub fails_paren : (ts : List Token) (e : Fault) → Fails (a (kinds.Sign signs.ParenLeft)) ts e
    → Fails (parens (rule Sum)) ts e
fails_paren ts e h = fails_first (a (kinds.Sign signs.ParenLeft)) (seq (rule Sum) (a
    (kinds.Sign signs.ParenRight))) (none_apart (kinds.Sign signs.ParenLeft) (seq (rule Sum) (a
    (kinds.Sign signs.ParenRight)))) close_tree ts e h

pub fails_sum_inside : (ts mid : List Token) (p : Token) (e : Fault)
    → Takes (a (kinds.Sign signs.ParenLeft)) ts mid (one p) → Fails (rule Sum) mid e → Fails (parens (rule Sum)) ts e
fails_sum_inside ts mid p e h k =
    fails_second (a (kinds.Sign signs.ParenLeft)) (seq (rule Sum) (a (kinds.Sign signs.ParenRight))) (none_apart
    (kinds.Sign signs.ParenLeft) (seq (rule Sum) (a (kinds.Sign signs.ParenRight)))) ts mid _ h e
    (fails_first (rule Sum) (a (kinds.Sign signs.ParenRight)) close_apart (
      token (an
          (kinds.Sign signs.ParenRight)),
      an-code (kinds.Sign signs.ParenRight),
    ) mid e k)

pub fails_close : (ts mid mid' : List Token) (p : Token) (t : RawTerm) (e : Fault)
    → Takes (a (kinds.Sign signs.ParenLeft)) ts mid (one p) → Takes (rule Sum) mid mid' (term t)
    → Fails (a (kinds.Sign signs.ParenRight)) mid' e → Fails (parens (rule Sum)) ts e
fails_close ts mid mid' p t e h k l =
    fails_second (a (kinds.Sign signs.ParenLeft)) (seq (rule Sum) (a (kinds.Sign signs.ParenRight))) (none_apart
    (kinds.Sign signs.ParenLeft) (seq (rule Sum) (a (kinds.Sign signs.ParenRight)))) ts mid _ h e
    (fails_second (rule Sum) (a (kinds.Sign signs.ParenRight)) close_apart mid mid' _ k e l)

-- ---- leaf

pub number_apart : Disjoint (begins number) (begins (alt (seq (a kinds.Name) (opt (parens (rule Sum)))) (parens
    (rule Sum))))
number_apart n h h' = grind arith

pub name_apart : Disjoint (begins (seq (a kinds.Name) (opt (parens (rule Sum))))) (begins (parens (rule Sum)))
name_apart n h h' = grind arith

leaf_of_number : (t : Token) (k : TokenKind) → (value : ℤ) × (k ≡ kinds.Number value) → leaf_one t k ≡ term (literal t)
leaf_of_number t k (value, is) = rw is refl

leaf_of_name : (t : Token) (k : TokenKind) (v : Value) → variant kinds.Name ≡ variant k → leaf_two t k v ≡ named t v
leaf_of_name t k v h = rw (is_name k h) refl

leaf_of_paren : (p q : Token) (k : TokenKind) (t : RawTerm) → k ≡ (kinds.Sign signs.ParenLeft)
    → leaf_two p k (two (term t) (one q)) ≡ term t
leaf_of_paren p q k t h = rw h refl

leaf_takes : (ts rest : List Token) (x y : Value) → act Leaf x ≡ y → Takes (grammar Leaf) ts rest x
    → Takes (rule Leaf) ts rest y
leaf_takes ts rest x y e p = let P : Value → Type 0 = λ v. Takes (rule Leaf) ts rest v in
    subst P e (takes_rule Leaf ts rest x p)

pub takes_number : (ts rest : List Token) (t : Token) → Takes number ts rest (one t)
    → Takes (rule Leaf) ts rest (term (literal t))
unfolding grammar act
takes_number ts rest t p =
    leaf_takes ts rest (one t) _ (leaf_of_number t t.kind (is_numeral t.kind (numeral_taken ts rest t p)))
    (takes_left number (alt (seq (a kinds.Name) (opt (parens (rule Sum)))) (parens
    (rule Sum))) number_apart refl refl ts rest _ p)

takes_second : (ts rest : List Token) (x : Value) → Takes (alt (seq (a kinds.Name) (opt (parens (rule Sum))))
    (parens (rule Sum))) ts rest x → Takes (grammar Leaf) ts rest x
unfolding grammar
takes_second ts rest x p = takes_right number (alt (seq (a kinds.Name) (opt (parens (rule Sum)))) (parens
    (rule Sum))) number_apart refl refl ts rest x p

pub takes_variable : (ts rest : List Token) (t : Token) → Takes (a kinds.Name) ts rest (one t)
    → Lacks (a (kinds.Sign signs.ParenLeft)) rest → Takes (rule Leaf) ts rest (term (variable t))
unfolding act
takes_variable ts rest t p s =
    leaf_takes ts rest (two (one t) nothing) _ (leaf_of_name t t.kind nothing (kind_taken kinds.Name ts rest t p))
    (takes_second ts rest _ (takes_left (seq (a kinds.Name) (opt (parens (rule Sum)))) (parens
    (rule Sum)) name_apart refl refl ts rest _
    (takes_seq (a kinds.Name) (opt (parens (rule Sum))) (none_apart kinds.Name (opt (parens
    (rule Sum)))) ts rest rest _ _ p (takes_none (parens (rule Sum)) refl rest (lacks_seq (a
    (kinds.Sign signs.ParenLeft)) (seq (rule Sum) (a (kinds.Sign signs.ParenRight))) rest refl s)))))

pub takes_image : (ts mid rest : List Token) (n : Token) (t : RawTerm) → Takes (a kinds.Name) ts mid (one n)
    → TakesInside mid rest t → Takes (rule Leaf) ts rest (term (image n t))
unfolding act
takes_image ts mid rest n t p q =
    leaf_takes ts rest (two (one n) (two (one q.0) (two (term t) (one q.1)))) _ (leaf_of_name n n.kind _
    (kind_taken kinds.Name ts mid n p)) (takes_second ts rest _ (takes_left (seq (a kinds.Name) (opt (parens
    (rule Sum)))) (parens (rule Sum)) name_apart refl refl ts rest _
    (takes_seq (a kinds.Name) (opt (parens (rule Sum))) (none_apart kinds.Name (opt (parens
    (rule Sum)))) ts mid rest _ _ p (takes_some (parens (rule Sum)) refl mid rest _ q.3))))

pub takes_group : (ts rest : List Token) (t : RawTerm) → TakesInside ts rest t → Takes (rule Leaf) ts rest (term t)
unfolding act
takes_group ts rest t q =
    leaf_takes ts rest (two (one q.0) (two (term t) (one q.1))) _ (leaf_of_paren q.0 q.1 q.0.kind t q.2)
    (takes_second ts rest _ (takes_right (seq (a kinds.Name) (opt (parens (rule Sum)))) (parens
    (rule Sum)) name_apart refl refl ts rest _ q.3))

pub fails_image : (ts mid : List Token) (n : Token) (e : Fault) → Lacks number ts → Starts (a kinds.Name) ts
    → Takes (a kinds.Name) ts mid (one n) → Starts (a (kinds.Sign signs.ParenLeft)) mid
    → Fails (parens (rule Sum)) mid e → Fails (rule Leaf) ts e
unfolding grammar
fails_image ts mid n e l s p s' h =
    fails_rule Leaf ts e (fails_right number (alt (seq (a kinds.Name) (opt (parens (rule Sum)))) (parens
    (rule Sum))) number_apart refl refl ts e l
    (fails_left (seq (a kinds.Name) (opt (parens (rule Sum)))) (parens (rule Sum)) name_apart refl refl ts e
    (starts_seq (a kinds.Name) (opt (parens (rule Sum))) ts s)
    (fails_second (a kinds.Name) (opt (parens (rule Sum))) (none_apart kinds.Name (opt (parens
    (rule Sum)))) ts mid _ p e (fails_some (parens (rule Sum)) refl mid e (starts_seq (a
    (kinds.Sign signs.ParenLeft)) (seq (rule Sum) (a (kinds.Sign signs.ParenRight))) mid s') h))))

pub fails_group : (ts : List Token) (e : Fault) → Lacks number ts → Lacks (a kinds.Name) ts
    → Fails (parens (rule Sum)) ts e → Fails (rule Leaf) ts e
unfolding grammar
fails_group ts e l l' h =
    fails_rule Leaf ts e (fails_right number (alt (seq (a kinds.Name) (opt (parens (rule Sum)))) (parens
    (rule Sum))) number_apart refl refl ts e l
    (fails_right (seq (a kinds.Name) (opt (parens (rule Sum)))) (parens (rule Sum)) name_apart refl refl ts e
    (lacks_seq (a kinds.Name) (opt (parens (rule Sum))) ts refl l') h))

pub group_read : (ts new : List Token) (r : Result HeldTerm Fault) → Lacks number ts → Lacks (a kinds.Name) ts
    → ReadsInside ts r new → ReadsTerm Leaf ts r new
group_read ts new (Ok p) l l' h = (h.0, h.1, takes_group ts new h.0 h.2)
group_read ts new (Err e) l l' h = fails_group ts e l l' h
