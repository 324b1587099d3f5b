-- Derivations of terms by the grammar: from what level they are, and how they are put together.
use Rattle.std.proofs.Common.{◌≡◌, ◌⊎◌, inl, inr, List, [], ◌∷◌, ◌++◌, refl, sym, ap, ◌∙◌, append_assoc, append-nil}
use Rattle.alg_tokens.specs.declared.token.Sign.{Sign}
use Rattle.alg_tokens.specs.declared.token.Sign.TheVariants as signs
use Rattle.alg_tokens.specs.declared.token.Token.{Token}
use Rattle.alg_tokens.specs.declared.token.TokenKind.TheVariants as kinds
use Rattle.alg_reader.specs.declared.raw.RawTerm.{RawTerm}
use Rattle.alg_reader.specs.Kinds.{variant, code}
use Rattle.alg_reader.specs.Forms as rules
use Rattle.alg_reader.specs.Forms.{Rule, Form, seq, alt, many, rule, Tree, token, pair, left, right, none, end, more, node, spelled}
use Rattle.alg_reader.specs.Grammar.{grammar, Fits, sign}
use Rattle.alg_reader.specs.TermMeaning.{Value, one, two, nothing, term, chain, act_sum, act_unary, act_power}
use Rattle.alg_reader.specs.RawNodes.{binary, opposite}
use Rattle.alg_reader.specs.Meaning.{act, value}

-- these tokens are derived from a rule, and say this term
pub record Derives (r : Rule) (tokens : List Token) (t : RawTerm) : Type 0 where
  pub tree : Tree
  pub fits : Fits (rule r) tree
  pub spells : spelled tree ≡ tokens
  pub says : value tree ≡ term t

-- one more part of a chain, after one of two signs
abbrev pub turn : Rule → Sign → Sign → Form
turn r s q = seq (alt (sign s) (sign q)) (rule r)

-- these tokens are a part from a rule and further ones, each after one of two signs, and say this term
pub record Chained (r : Rule) (s q : Sign) (tokens : List Token) (t : RawTerm) : Type 0 where
  pub first : Tree
  pub begin : RawTerm
  pub after : List Token
  -- the further parts, before whatever follows them
  pub turns : Tree → Tree
  pub begins : Fits (rule r) first
  pub says_first : value first ≡ term begin
  pub fits : (rest : Tree) → Fits (many (turn r s q)) rest → Fits (many (turn r s q)) (turns rest)
  pub spells : (rest : Tree) → spelled (turns rest) ≡ after ++ spelled rest
  pub says : (rest : Tree) → chain begin (value (turns rest)) ≡ chain t (value rest)
  pub whole : spelled first ++ after ≡ tokens

-- a part alone
pub chained : (r : Rule) (s q : Sign) (tokens : List Token) (t : RawTerm) → Derives r tokens t →
    Chained r s q tokens t
chained r s q tokens t part = record {
  first = part.tree;
  begin = t;
  after = [];
  turns = λ rest. rest;
  begins = part.fits;
  says_first = part.says;
  fits = λ rest h. h;
  spells = λ rest. refl;
  says = λ rest. refl;
  whole = append-nil (spelled part.tree) ∙ part.spells;
}

-- the sign of a turn
abbrev pub IsOneOf : Sign → Sign → Token → Type 0
IsOneOf s q op = (variant (kinds.Sign s) ≡ code op) ⊎ (variant (kinds.Sign q) ≡ code op)

-- its derivation
sign_tree : (s q : Sign) (op : Token) → IsOneOf s q op → (v : Tree) × Fits (alt (sign s) (sign q)) v ×
    (spelled v ≡ op ∷ []) × (value v ≡ one op)
sign_tree s q op (inl h) = (left (token op), h, refl, refl)
sign_tree s q op (inr h) = (right (token op), h, refl, refl)

-- what one turn says
chain_turn : (t u : RawTerm) (op : Token) (x y ops : Value) → x ≡ one op → y ≡ term u →
    chain t (two (two x y) ops) ≡ chain (binary op t u) ops
unfolding chain
chain_turn t u op x y ops e h = ap (λ z. chain t (two (two z y) ops)) e ∙ ap (λ z. chain t (two (two (one op) z) ops)) h

-- a chain and one more part
pub one_more : (r : Rule) (s q : Sign) (tokens later : List Token) (t u : RawTerm) (op : Token) →
    IsOneOf s q op → Chained r s q tokens t → Derives r later u →
    Chained r s q (tokens ++ (op ∷ later)) (binary op t u)
one_more r s q tokens later t u op is front part =
    let (v, fits, spells, says) = sign_tree s q op is in
    record {
      first = front.first;
      begin = front.begin;
      after = front.after ++ (op ∷ later);
      turns = λ rest. front.turns (more (pair v part.tree) rest);
      begins = front.begins;
      says_first = front.says_first;
      fits = λ rest h. front.fits (more (pair v part.tree) rest) ((fits, part.fits), h);
      spells = λ rest. front.spells (more (pair v part.tree) rest)
          ∙ ap (λ ts. front.after ++ ((ts ++ spelled part.tree) ++ spelled rest)) spells
          ∙ ap (λ ts. front.after ++ ((op ∷ ts) ++ spelled rest)) part.spells
          ∙ sym (append_assoc front.after (op ∷ later) (spelled rest));
      says = λ rest. front.says (more (pair v part.tree) rest)
          ∙ chain_turn t u op (value v) (value part.tree) (value rest) says part.says;
      whole = sym (append_assoc (spelled front.first) front.after (op ∷ later))
          ∙ ap (λ ts. ts ++ (op ∷ later)) front.whole;
    }

-- at its end a chain says what it has said
chain_end : (t : RawTerm) → chain t nothing ≡ t
unfolding chain
chain_end t = refl

-- the value of a whole chain
closed_value : (begin t : RawTerm) (x ops : Value) → x ≡ term begin → chain begin ops ≡ t →
    act_sum (two x ops) ≡ term t
closed_value begin t x ops e h = ap (λ v. act_sum (two v ops)) e ∙ ap term h

-- a whole chain of products is a sum
pub sum_of : (tokens : List Token) (t : RawTerm) → Chained rules.Product signs.Plus signs.Minus tokens t →
    Derives rules.Sum tokens t
unfolding grammar act
sum_of tokens t c = record {
  tree = node rules.Sum (pair c.first (c.turns end));
  fits = (refl, (c.begins, c.fits end tt));
  spells = ap (λ ts. spelled c.first ++ ts) (c.spells end ∙ append-nil c.after) ∙ c.whole;
  says = closed_value c.begin t (value c.first) (value (c.turns end)) c.says_first (c.says end ∙ chain_end t);
}

-- a whole chain of unaries is a product
pub product_of : (tokens : List Token) (t : RawTerm) → Chained rules.Unary signs.Star signs.Slash tokens t →
    Derives rules.Product tokens t
unfolding grammar act
product_of tokens t c = record {
  tree = node rules.Product (pair c.first (c.turns end));
  fits = (refl, (c.begins, c.fits end tt));
  spells = ap (λ ts. spelled c.first ++ ts) (c.spells end ∙ append-nil c.after) ∙ c.whole;
  says = closed_value c.begin t (value c.first) (value (c.turns end)) c.says_first (c.says end ∙ chain_end t);
}

-- a power is a unary
pub unary_of : (tokens : List Token) (t : RawTerm) → Derives rules.Power tokens t → Derives rules.Unary tokens t
unfolding grammar act
unary_of tokens t p = record {
  tree = node rules.Unary (right p.tree);
  fits = (refl, p.fits);
  spells = p.spells;
  says = ap act_unary p.says;
}

-- a leaf is a power
pub power_of_leaf : (tokens : List Token) (t : RawTerm) → Derives rules.Leaf tokens t → Derives rules.Power tokens t
unfolding grammar act
power_of_leaf tokens t p = record {
  tree = node rules.Power (pair p.tree none);
  fits = (refl, (p.fits, tt));
  spells = append-nil (spelled p.tree) ∙ p.spells;
  says = ap (λ v. act_power (two v nothing)) p.says;
}

-- a minus before a unary
pub opposite_of : (tokens : List Token) (t : RawTerm) (minus : Token) → variant (kinds.Sign signs.Minus) ≡ code minus →
    Derives rules.Unary tokens t → Derives rules.Unary (minus ∷ tokens) (opposite minus.start t)
unfolding grammar act
opposite_of tokens t minus is p = record {
  tree = node rules.Unary (left (pair (token minus) p.tree));
  fits = (refl, (is, p.fits));
  spells = ap (λ ts. minus ∷ ts) p.spells;
  says = ap (λ v. act_unary (two (one minus) v)) p.says;
}
