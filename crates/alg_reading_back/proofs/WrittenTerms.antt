-- The canonical text of a term, cut into pieces, and the raw term that these are, by the place where the text begins.
use Rattle.std.specs.Prelude.{ℕ, ◌+◌, List, [], ◌∷◌, ◌++◌, codes, decimal, nat_lt, if◌then◌else◌, pos, length, ℤ}
use Rattle.std.specs.Fmt.{signed_decimal}
use Rattle.alg_terms.specs.declared.file.File.{File}
use Rattle.alg_terms.specs.declared.term.Term.{Term}
use Rattle.alg_terms.specs.declared.term.Term.TheOpen.{Term-F}
use Rattle.alg_terms.specs.Nodes.{fold_term}
use Rattle.alg_tokens.specs.declared.token.Sign.{Sign}
use Rattle.alg_tokens.specs.declared.token.Sign.TheVariants as signs
use Rattle.alg_tokens.specs.declared.token.TokenKind.TheVariants as kinds
use Rattle.alg_tokens.specs.declared.token.Word.{Word}
use Rattle.alg_tokens.specs.Laws.{width}
use Rattle.alg_tokens.specs.Pieces.{Piece, Blank, Lexeme}
use Rattle.alg_tokens.specs.Spelling.{spelling, sign_spelling}
use Rattle.alg_reader.specs.declared.raw.RawNode.{RawNode}
use Rattle.alg_reader.specs.declared.raw.RawNode.TheVariants as raw
use Rattle.alg_reader.specs.declared.raw.RawTerm.{RawTerm, roll-RawTerm}
use Rattle.alg_reader.specs.declared.raw.Span.{Span}
use Rattle.alg_printer.specs.Names.{var_name, hom_name}

abbrev pub space : Piece
space = Blank (codes " ")

abbrev pub line_feed : Piece
line_feed = Blank (codes "\n")

abbrev pub sign : Sign → Piece
sign s = Lexeme (kinds.Sign s) (sign_spelling s)

abbrev pub word : Word → Piece
word w = Lexeme (kinds.Word w) (spelling w)

abbrev pub name : List ℕ → Piece
name bytes = Lexeme kinds.Name bytes

-- a number in decimal
abbrev pub numeral : ℕ → Piece
numeral n = Lexeme (kinds.Number (pos n)) (decimal n)

abbrev pub integer : ℤ → Piece
integer n = Lexeme (kinds.Number n) (signed_decimal n)

-- the span of so many bytes from a place
abbrev pub span : ℕ → List ℕ → Span
span at bytes = record { start = at; stop = at + length bytes }

-- a term in pieces: how tightly it binds, its pieces, and the raw term by the place where they begin
pub record WrittenTerm : Type 0 where
  pub level : ℕ
  pub pieces : List Piece
  pub raw : ℕ → RawTerm

abbrev pub in_parentheses : List Piece → List Piece
in_parentheses pieces = sign signs.ParenLeft ∷ (pieces ++ sign signs.ParenRight ∷ [])

-- a part where this level is wanted
abbrev pub part_pieces : ℕ → WrittenTerm → List Piece
part_pieces wanted part = if nat_lt part.level wanted then in_parentheses part.pieces else part.pieces

abbrev pub part_raw : ℕ → WrittenTerm → ℕ → RawTerm
part_raw wanted part at = if nat_lt part.level wanted then part.raw (at + 1) else part.raw at

abbrev pub raw_at : ℕ → RawNode → RawTerm
raw_at head node = roll-RawTerm (record { head = head; node = node })

-- an operator with a space on each side
abbrev pub spaced : Sign → (RawTerm → RawTerm → RawNode) → WrittenTerm → WrittenTerm → WrittenTerm
spaced op node left right = record {
  level = 1;
  pieces = part_pieces 1 left ++ (space ∷ sign op ∷ space ∷ part_pieces 2 right);
  raw = λ at. let head = at + width (part_pieces 1 left) + 1 in
      raw_at head (node (part_raw 1 left at) (part_raw 2 right (head + 2)));
}

-- an operator without spaces
abbrev pub tight : Sign → (RawTerm → RawTerm → RawNode) → WrittenTerm → WrittenTerm → WrittenTerm
tight op node left right = record {
  level = 2;
  pieces = part_pieces 2 left ++ (sign op ∷ part_pieces 3 right);
  raw = λ at. let head = at + width (part_pieces 2 left) in
      raw_at head (node (part_raw 2 left at) (part_raw 3 right (head + 1)));
}

abbrev pub node_written : File → Term-F WrittenTerm → WrittenTerm
node_written file (Term-F.Var k) = record {
  level = 5;
  pieces = name (var_name file k) ∷ [];
  raw = λ at. raw_at at (raw.Var (span at (var_name file k)));
}
node_written file (Term-F.Int n) = record { level = 5; pieces = integer n ∷ []; raw = λ at. raw_at at (raw.Int n) }
node_written file (Term-F.Neg part) = record {
  level = 3;
  pieces = sign signs.Minus ∷ part_pieces 3 part;
  raw = λ at. raw_at at (raw.Neg (part_raw 3 part (at + 1)));
}
node_written file (Term-F.Add left right) = spaced signs.Plus raw.Add left right
node_written file (Term-F.Sub left right) = spaced signs.Minus raw.Sub left right
node_written file (Term-F.Mul left right) = tight signs.Star raw.Mul left right
node_written file (Term-F.Div left right) = tight signs.Slash raw.Div left right
node_written file (Term-F.Pow part n) = record {
  level = 4;
  pieces = part_pieces 5 part ++ (sign signs.Caret ∷ numeral n ∷ []);
  raw = λ at. let head = at + width (part_pieces 5 part) in
      raw_at head (raw.Pow (part_raw 5 part at) (record { value = pos n; at = head + 1 }));
}
node_written file (Term-F.Hom f part) = record {
  level = 5;
  pieces = name (hom_name file f) ∷ in_parentheses part.pieces;
  raw = λ at. raw_at at (raw.Hom (span at (hom_name file f)) (part.raw (at + length (hom_name file f) + 1)));
}

-- a term in pieces
abbrev pub written : File → Term → WrittenTerm
written file = fold_term (node_written file)
