-- Derivations from the forms of the grammar, put together from left to right.
use Rattle.std.proofs.Common.{◌≡◌, ℕ, ◌+◌, List, [], ◌∷◌, ◌++◌, length, refl, sym, ap, ◌∙◌, subst}
use Rattle.alg_tokens.specs.declared.token.Token.{Token}
use Rattle.alg_tokens.specs.declared.token.TokenKind.{TokenKind}
use Rattle.alg_tokens.specs.Pieces.{Piece, Lexeme}
use Rattle.alg_tokens.specs.Laws.{width, tokens_of}
use Rattle.alg_reader.specs.declared.place.Place.TheVariants.{Plain}
use Rattle.alg_reader.specs.declared.raw.RawKind.{RawKind}
use Rattle.alg_reader.specs.declared.raw.RawTerm.{RawTerm}
use Rattle.alg_reader.specs.Kinds.{variant, code}
use Rattle.alg_reader.specs.Forms.{Rule, Form, a, seq, alt, opt, many, rule, Tree, token, pair, left, right, none, some, end, more, node, spelled}
use Rattle.alg_reader.specs.Grammar.{grammar, Fits, body}
use Rattle.alg_reader.specs.TermMeaning.{Value, one, two, nothing, term}
use Rattle.alg_reader.specs.Meaning.{act, value, kind_value}
use Rattle.alg_reader.specs.Statements.{IsStatement}
use Rattle.alg_reading_back.proofs.WrittenTerms.{space}
use Rattle.alg_reading_back.proofs.WrittenStatements.{dot}
use Rattle.alg_reading_back.proofs.Derived.{Derives}
use Rattle.alg_reading_back.proofs.ReadAt.{tokens_append}
use Rattle.alg_reading_back.proofs.DerivedStatements.{statement_of}

-- these tokens are derived from a form, and mean this
pub record IsDerived (f : Form) (tokens : List Token) (x : Value) : Type 0 where
  pub tree : Tree
  pub fits : Fits f tree
  pub spells : spelled tree ≡ tokens
  pub means : value tree ≡ x

-- a token of a kind with its bytes
abbrev pub token_at : TokenKind → List ℕ → ℕ → Token
token_at k bytes at = record { kind = k; start = at; stop = at + length bytes }

-- ---- by the kinds of forms

-- one token
pub one_token : (k : TokenKind) (t : Token) → variant k ≡ code t → IsDerived (a k) (t ∷ []) (one t)
one_token k t is = record { tree = token t; fits = is; spells = refl; means = refl }

-- one after the other
pub both : (f g : Form) (ts us : List Token) (x y : Value) → IsDerived f ts x → IsDerived g us y →
    IsDerived (seq f g) (ts ++ us) (two x y)
both f g ts us x y d e = record {
  tree = pair d.tree e.tree;
  fits = (d.fits, e.fits);
  spells = ap (λ v. v ++ spelled e.tree) d.spells ∙ ap (λ v. ts ++ v) e.spells;
  means = ap (λ v. two v (value e.tree)) d.means ∙ ap (two x) e.means;
}

-- the one or the other
pub first_way : (f g : Form) (ts : List Token) (x : Value) → IsDerived f ts x → IsDerived (alt f g) ts x
first_way f g ts x d = record { tree = left d.tree; fits = d.fits; spells = d.spells; means = d.means }

pub other_way : (f g : Form) (ts : List Token) (x : Value) → IsDerived g ts x → IsDerived (alt f g) ts x
other_way f g ts x d = record { tree = right d.tree; fits = d.fits; spells = d.spells; means = d.means }

-- once or not
pub given : (f : Form) (ts : List Token) (x : Value) → IsDerived f ts x → IsDerived (opt f) ts x
given f ts x d = record { tree = some d.tree; fits = d.fits; spells = d.spells; means = d.means }

pub left_out : (f : Form) → IsDerived (opt f) [] nothing
left_out f = record { tree = none; fits = tt; spells = refl; means = refl }

-- any number of times
pub no_more : (f : Form) → IsDerived (many f) [] nothing
no_more f = record { tree = end; fits = tt; spells = refl; means = refl }

pub once_more : (f : Form) (ts us : List Token) (x y : Value) → IsDerived f ts x → IsDerived (many f) us y →
    IsDerived (many f) (ts ++ us) (two x y)
once_more f ts us x y d e = record {
  tree = more d.tree e.tree;
  fits = (d.fits, e.fits);
  spells = ap (λ v. v ++ spelled e.tree) d.spells ∙ ap (λ v. ts ++ v) e.spells;
  means = ap (λ v. two v (value e.tree)) d.means ∙ ap (two x) e.means;
}

-- a rule
pub by_rule : (r : Rule) (ts : List Token) (x : Value) → IsDerived (grammar r) ts x → IsDerived (rule r) ts (act r x)
by_rule r ts x d = record {
  tree = node r d.tree;
  fits = (refl, d.fits);
  spells = d.spells;
  means = ap (act r) d.means;
}

-- what says a term means it
pub term_means : (r : Rule) (ts : List Token) (t : RawTerm) → Derives r ts t → IsDerived (rule r) ts (term t)
term_means r ts t d = record { tree = d.tree; fits = d.fits; spells = d.spells; means = d.says }

-- ---- in pieces

-- a token before what follows it
pub token_before : (k : TokenKind) (t : Token) (g : Form) (us : List Token) (y : Value) → variant k ≡ code t →
    IsDerived g us y → IsDerived (seq (a k) g) (t ∷ us) (two (one t) y)
token_before k t g us y is d = both (a k) g (t ∷ []) us (one t) y (one_token k t is) d

-- pieces before others, by the place of these
pub pieces_before : (f g : Form) (p q : List Piece) (at there : ℕ) (x y : Value) → there ≡ at + width p →
    IsDerived f (tokens_of at p) x → IsDerived g (tokens_of there q) y →
    IsDerived (seq f g) (tokens_of at (p ++ q)) (two x y)
pieces_before f g p q at there x y is d e =
    subst (λ ts. IsDerived (seq f g) ts (two x y))
    (ap (λ n. tokens_of at p ++ tokens_of n q) is ∙ sym (tokens_append at p q))
    (both f g (tokens_of at p) (tokens_of there q) x y d e)

-- a token between spaces before pieces, by its place and that of these
pub spaced_before : (f g : Form) (k : TokenKind) (bytes : List ℕ) (q : List Piece) (at place there : ℕ) (y : Value) →
    place ≡ at + 1 → there ≡ place + length bytes + 1 →
    IsDerived f (token_at k bytes place ∷ []) (one (token_at k bytes place)) → IsDerived g (tokens_of there q) y →
    IsDerived (seq f g) (tokens_of at (space ∷ Lexeme k bytes ∷ space ∷ q)) (two (one (token_at k bytes place)) y)
spaced_before f g k bytes q at place there y place_is there_is c d =
    subst (λ ts. IsDerived (seq f g) ts (two (one (token_at k bytes place)) y))
    (ap (λ n. token_at k bytes place ∷ tokens_of n q) there_is
    ∙ ap (λ n. token_at k bytes n ∷ tokens_of (n + length bytes + 1) q) place_is)
    (both f g (token_at k bytes place ∷ []) (tokens_of there q) (one (token_at k bytes place)) y c d)

-- a token and a space before pieces, by the place of these
pub front_before : (k : TokenKind) (bytes : List ℕ) (g : Form) (q : List Piece) (at there : ℕ) (y : Value) →
    there ≡ at + length bytes + 1 → IsDerived g (tokens_of there q) y →
    IsDerived (seq (a k) g) (tokens_of at (Lexeme k bytes ∷ space ∷ q)) (two (one (token_at k bytes at)) y)
front_before k bytes g q at there y there_is d =
    subst (λ n. IsDerived (seq (a k) g) (token_at k bytes at ∷ tokens_of n q) (two (one (token_at k bytes at)) y))
    there_is (token_before k (token_at k bytes at) g (tokens_of there q) y refl d)

-- a body of a statement before its dot
pub statement_from : (p : List Piece) (at : ℕ) (kind : RawKind) → IsDerived body (tokens_of at p) (kind_value kind) →
    IsStatement Plain (tokens_of at (p ++ dot)) kind
statement_from p at kind d =
    statement_of d.tree (at + width p) (tokens_of at (p ++ dot)) kind d.fits
    (ap (λ ts. ts ++ tokens_of (at + width p) dot) d.spells ∙ sym (tokens_append at p dot)) d.means
