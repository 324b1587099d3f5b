-- Grammars as data, their derivations, and the tokens that a derivation spells.
use Rattle.std.specs.Prelude.{List, [], ◌∷◌, ◌++◌}
use Rattle.alg_tokens.specs.declared.token.Token.{Token}
use Rattle.alg_tokens.specs.declared.token.TokenKind.{TokenKind}
use Rattle.alg_reader.specs.declared.format.Format.{Format}
use Rattle.alg_reader.specs.declared.place.Place.{Place}

-- the rules of the grammar: of what may stand at a place, of declarations and goals, of terms, of answers, and of the
-- lines and steps of certificates in a format
pub data Rule : Type 0 where
  Statement : Place → Rule
  Ring : Rule
  Sort : Rule
  Hom : Rule
  Vars : Rule
  Hyp : Rule
  Goal : Rule
  Method : Rule
  Use : Rule
  Sum : Rule
  Product : Rule
  Unary : Rule
  Power : Rule
  Leaf : Rule
  Atom : Rule
  Factor : Rule
  Factors : Rule
  Mono : Rule
  Int : Rule
  Condition : Rule
  Constant : Rule
  Conditional : Rule
  Certified : Rule
  Proved : Rule
  No : Rule
  ZeroDenominator : Rule
  NoneUpTo : Rule
  GaveUp : Rule
  Stopped : Rule
  Combined : Format → Rule
  Line : Format → Rule
  Step : Format → Rule

-- the right side of a rule
pub data Form : Type 0 where
  -- one token of this kind
  a : TokenKind → Form
  -- one after the other
  seq : Form → Form → Form
  -- the one or the other
  alt : Form → Form → Form
  -- once or not
  opt : Form → Form
  -- any number of times
  many : Form → Form
  rule : Rule → Form

-- a derivation: the choices that it takes, and its tokens
pub data Tree : Type 0 where
  token : Token → Tree
  pair : Tree → Tree → Tree
  left : Tree → Tree
  right : Tree → Tree
  none : Tree
  some : Tree → Tree
  end : Tree
  more : Tree → Tree → Tree
  node : Rule → Tree → Tree

-- the tokens of a derivation, from left to right
abbrev pub spelled : Tree → List Token
spelled (token t) = t ∷ []
spelled (pair v w) = spelled v ++ spelled w
spelled (left v) = spelled v
spelled (right v) = spelled v
spelled none = []
spelled (some v) = spelled v
spelled end = []
spelled (more v w) = spelled v ++ spelled w
spelled (node r v) = spelled v
