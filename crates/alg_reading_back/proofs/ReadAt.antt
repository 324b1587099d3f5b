-- What is derived from a level on, and the same in the place of a part.
use Rattle.std.proofs.Common.{◌≡◌, ◌≤◌, ℕ, ◌+◌, List, [], ◌∷◌, ◌++◌, pos, zero, suc, negsuc, ℤ, length, refl, sym, ap, ◌∙◌, arith}
use Rattle.alg_tokens.specs.declared.token.Sign.TheVariants as signs
use Rattle.alg_tokens.specs.declared.token.Token.{Token}
use Rattle.alg_tokens.specs.declared.token.TokenKind.TheVariants as kinds
use Rattle.alg_tokens.specs.Pieces.{Piece, Blank, Lexeme}
use Rattle.alg_tokens.specs.Laws.{width, tokens_of}
use Rattle.alg_reader.specs.declared.raw.RawTerm.{RawTerm}
use Rattle.alg_reader.specs.Kinds.{variant}
use Rattle.alg_reader.specs.Forms as rules
use Rattle.alg_reader.specs.Forms.{Tree, token, pair, left, right, none, some, node, spelled}
use Rattle.alg_reader.specs.Grammar.{grammar, Fits, number}
use Rattle.alg_reader.specs.TermMeaning.{one, two, nothing, term, act_power, act_leaf, leaf_two, raised}
use Rattle.alg_reader.specs.RawNodes.{literal, variable, image, power_of}
use Rattle.alg_reader.specs.Meaning.{act, value}
use Rattle.alg_reading_back.proofs.Derived.{Derives, Chained, chained, product_of, unary_of, power_of_leaf}

-- the tokens of two lists of pieces
pub tokens_append : (at : ℕ) (before after : List Piece) →
    tokens_of at (before ++ after) ≡ tokens_of at before ++ tokens_of (at + width before) after
tokens_append at [] after = ap (λ n. tokens_of n after) (omega arith)
tokens_append at (Blank bytes ∷ before) after =
    tokens_append (at + length bytes) before after
    ∙ ap (λ n. tokens_of (at + length bytes) before ++ tokens_of n after) (omega arith)
tokens_append at (Lexeme kind bytes ∷ before) after =
    let first : Token = record { kind = kind; start = at; stop = at + length bytes } in
    ap (λ ts. first ∷ ts) (tokens_append (at + length bytes) before after
    ∙ ap (λ n. tokens_of (at + length bytes) before ++ tokens_of n after) (omega arith))

-- the tokens are derived from the rules of all levels up to this one, and say this term
pub record ReadAt (level : ℕ) (tokens : List Token) (t : RawTerm) : Type 0 where
  pub sum : Chained rules.Product signs.Plus signs.Minus tokens t
  pub product : 2 ≤ level → Chained rules.Unary signs.Star signs.Slash tokens t
  pub unary : 3 ≤ level → Derives rules.Unary tokens t
  pub power : 4 ≤ level → Derives rules.Power tokens t
  pub leaf : 5 ≤ level → Derives rules.Leaf tokens t

-- from what they are derived at least, to the level
module _ (tokens : List Token) (t : RawTerm) where
  pub at_sum : Chained rules.Product signs.Plus signs.Minus tokens t → ReadAt 1 tokens t
  at_sum c = record {
    sum = c;
    product = λ h. absurd (omega arith);
    unary = λ h. absurd (omega arith);
    power = λ h. absurd (omega arith);
    leaf = λ h. absurd (omega arith);
  }

  pub at_product : Chained rules.Unary signs.Star signs.Slash tokens t → ReadAt 2 tokens t
  at_product c = record {
    sum = chained rules.Product signs.Plus signs.Minus tokens t (product_of tokens t c);
    product = λ h. c;
    unary = λ h. absurd (omega arith);
    power = λ h. absurd (omega arith);
    leaf = λ h. absurd (omega arith);
  }

  pub at_unary : Derives rules.Unary tokens t → ReadAt 3 tokens t
  at_unary d =
      let c = chained rules.Unary signs.Star signs.Slash tokens t d in
      record {
        sum = (at_product c).sum;
        product = λ h. c;
        unary = λ h. d;
        power = λ h. absurd (omega arith);
        leaf = λ h. absurd (omega arith);
      }

  pub at_power : Derives rules.Power tokens t → ReadAt 4 tokens t
  at_power d =
      let below = at_unary (unary_of tokens t d) in
      record {
        sum = below.sum;
        product = λ h. below.product (omega arith);
        unary = λ h. below.unary (omega arith);
        power = λ h. d;
        leaf = λ h. absurd (omega arith);
      }

  pub at_leaf : Derives rules.Leaf tokens t → ReadAt 5 tokens t
  at_leaf d =
      let below = at_power (power_of_leaf tokens t d) in
      record {
        sum = below.sum;
        product = λ h. below.product (omega arith);
        unary = λ h. below.unary (omega arith);
        power = λ h. below.power (omega arith);
        leaf = λ h. d;
      }

  -- what is read at a level is read below it
  pub read_below : (level wanted : ℕ) → wanted ≤ level → ReadAt level tokens t → ReadAt wanted tokens t
  read_below level wanted low r = record {
    sum = r.sum;
    product = λ h. r.product (omega arith);
    unary = λ h. r.unary (omega arith);
    power = λ h. r.power (omega arith);
    leaf = λ h. r.leaf (omega arith);
  }

-- a sum in parentheses
pub inside_leaf : (tokens : List Token) (t : RawTerm) (paren close : Token) → paren.kind ≡ kinds.Sign signs.ParenLeft →
    close.kind ≡ kinds.Sign signs.ParenRight → Derives rules.Sum tokens t →
    Derives rules.Leaf (paren ∷ (tokens ++ (close ∷ []))) t
unfolding grammar act
inside_leaf tokens t paren close opens closes d = record {
  tree = node rules.Leaf (right (right (pair (token paren) (pair d.tree (token close)))));
  fits = (refl, (ap variant (sym opens), (d.fits, ap variant (sym closes))));
  spells = ap (λ ts. paren ∷ (ts ++ (close ∷ []))) d.spells;
  says = ap (λ v. act_leaf (two (one paren) (two v (one close)))) d.says
      ∙ ap (λ k. leaf_two paren k (two (term t) (one close))) opens;
}

-- a name before a sum in parentheses
pub image_leaf : (tokens : List Token) (t : RawTerm) (name paren close : Token) → name.kind ≡ kinds.Name →
    paren.kind ≡ kinds.Sign signs.ParenLeft → close.kind ≡ kinds.Sign signs.ParenRight → Derives rules.Sum tokens t →
    Derives rules.Leaf (name ∷ paren ∷ (tokens ++ (close ∷ []))) (image name t)
unfolding grammar act
image_leaf tokens t name paren close is opens closes d = record {
  tree = node rules.Leaf (right (left (pair (token name) (some (pair (token paren) (pair d.tree (token close)))))));
  fits = (refl, (ap variant (sym is), (ap variant (sym opens), (d.fits, ap variant (sym closes)))));
  spells = ap (λ ts. name ∷ paren ∷ (ts ++ (close ∷ []))) d.spells;
  says = ap (λ v. act_leaf (two (one name) (two (one paren) (two v (one close))))) d.says
      ∙ ap (λ k. leaf_two name k (two (one paren) (two (term t) (one close)))) is;
}

-- a name alone
pub variable_leaf : (name : Token) → name.kind ≡ kinds.Name → Derives rules.Leaf (name ∷ []) (variable name)
unfolding grammar act
variable_leaf name is = record {
  tree = node rules.Leaf (right (left (pair (token name) none)));
  fits = (refl, (ap variant (sym is), tt));
  spells = refl;
  says = ap (λ k. leaf_two name k nothing) is;
}

-- the derivation of a numeral
pub numeral_tree : (n : ℤ) (at stop : ℕ) → (v : Tree) × Fits number v ×
    (spelled v ≡ record { kind = kinds.Number n; start = at; stop = stop } ∷ []) ×
    (value v ≡ one (record { kind = kinds.Number n; start = at; stop = stop }))
numeral_tree (pos zero) at stop =
    (left (token (record { kind = kinds.Number (pos zero); start = at; stop = stop })), refl, refl, refl)
numeral_tree (pos (suc zero)) at stop =
    (right (left (token (record { kind = kinds.Number (pos 1); start = at; stop = stop }))), refl, refl, refl)
numeral_tree (pos (suc (suc n))) at stop = (
  right (right (token (record { kind = kinds.Number (pos (suc (suc n))); start = at; stop = stop }))),
  refl,
  refl,
  refl,
)
numeral_tree (negsuc n) at stop =
    (right (right (token (record { kind = kinds.Number (negsuc n); start = at; stop = stop }))), refl, refl, refl)

-- a numeral alone
pub literal_leaf : (n : ℤ) (at stop : ℕ) → Derives rules.Leaf
    (record { kind = kinds.Number n; start = at; stop = stop } ∷ [])
    (literal (record { kind = kinds.Number n; start = at; stop = stop }))
unfolding grammar act
literal_leaf n at stop =
    let (v, fits, spells, says) = numeral_tree n at stop in
    record {
      tree = node rules.Leaf (left v);
      fits = (refl, fits);
      spells = spells;
      says = ap act_leaf says;
    }

-- a leaf to a power
pub raised_power : (tokens : List Token) (t : RawTerm) (caret : Token) (n : ℤ) (at stop : ℕ) →
    caret.kind ≡ kinds.Sign signs.Caret → Derives rules.Leaf tokens t → Derives rules.Power
    (tokens ++ (caret ∷ record { kind = kinds.Number n; start = at; stop = stop } ∷ []))
    (power_of caret t (record { kind = kinds.Number n; start = at; stop = stop }))
unfolding grammar act
raised_power tokens t caret n at stop is d =
    let (v, fits, spells, says) = numeral_tree n at stop in
    record {
      tree = node rules.Power (pair d.tree (some (pair (token caret) v)));
      fits = (refl, (d.fits, (ap variant (sym is), fits)));
      spells = ap (λ ts. ts ++ (caret ∷ spelled v)) d.spells ∙ ap (λ ts. tokens ++ (caret ∷ ts)) spells;
      says = ap (λ x. act_power (two x (two (one caret) (value v)))) d.says
          ∙ ap (λ x. raised t (two (one caret) x)) says;
    }
