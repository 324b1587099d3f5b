-- Few parentheses are open at once in pieces, and how many are open behind them.
use Rattle.std.proofs.Common.{◌≡◌, ◌≤◌, ℕ, ◌+◌, ◌-◌, true, false, cond, nat_lt, List, [], ◌∷◌, ◌++◌, length, refl, ap, ◌∙◌, arith, ℤ, pos, negsuc}
use Rattle.alg_mono.specs.Mono.{Monomial}
use Rattle.alg_terms.specs.declared.file.File.{File}
use Rattle.alg_terms.specs.declared.term.Atom.{Atom}
use Rattle.alg_terms.specs.Limits.{MAX_OPEN}
use Rattle.alg_tokens.specs.declared.token.Sign.TheVariants as signs
use Rattle.alg_tokens.specs.Laws.{tokens_of}
use Rattle.alg_tokens.specs.Pieces.{Piece, Blank, Lexeme}
use Rattle.alg_reader.specs.Tokens as reader
use Rattle.alg_printer.specs.Monomials.{atom_at}
use Rattle.alg_printer.specs.Names.{var_name}
use Rattle.alg_reading_back.proofs.EvenPieces.{HasFewOpen}
use Rattle.alg_reading_back.proofs.WrittenLists.{star, later_pieces}
use Rattle.alg_reading_back.proofs.WrittenMethods.{path_pieces}
use Rattle.alg_reading_back.proofs.WrittenMonos.{exponent_pieces, atom_pieces, written_factor, written_mono, written_integer}
use Rattle.alg_reading_back.proofs.WrittenTerms.{sign, numeral}

-- how many parentheses are open behind pieces
abbrev pub open_behind : ℕ → List Piece → ℕ
open_behind depth [] = depth
open_behind depth (Blank bytes ∷ pieces) = open_behind depth pieces
open_behind depth (Lexeme kind bytes ∷ pieces) = open_behind (reader.open_with depth kind) pieces

-- at most as many as may be are open at each of them
abbrev pub OpenFew : ℕ → List Piece → Type 0
OpenFew depth [] = Unit {0}
OpenFew depth (Blank bytes ∷ pieces) = OpenFew depth pieces
OpenFew depth (Lexeme kind bytes ∷ pieces) =
    (reader.open_with depth kind ≤ MAX_OPEN) × OpenFew (reader.open_with depth kind) pieces

-- so it is with their tokens, wherever they begin
pub few_at : (depth at : ℕ) (pieces : List Piece) → OpenFew depth pieces → HasFewOpen depth (tokens_of at pieces)
few_at depth at [] few = tt
few_at depth at (Blank bytes ∷ pieces) few = few_at depth (at + length bytes) pieces few
few_at depth at (Lexeme kind bytes ∷ pieces) few =
    (few.0, few_at (reader.open_with depth kind) (at + length bytes) pieces few.1)

pub few_from : (depth at : ℕ) (pieces : List Piece) → HasFewOpen depth (tokens_of at pieces) → OpenFew depth pieces
few_from depth at [] few = tt
few_from depth at (Blank bytes ∷ pieces) few = few_from depth (at + length bytes) pieces few
few_from depth at (Lexeme kind bytes ∷ pieces) few =
    (few.0, few_from (reader.open_with depth kind) (at + length bytes) pieces few.1)

-- ---- pieces in two parts

pub few_left : (depth : ℕ) (front back : List Piece) → OpenFew depth (front ++ back) → OpenFew depth front
few_left depth [] back few = tt
few_left depth (Blank bytes ∷ front) back few = few_left depth front back few
few_left depth (Lexeme kind bytes ∷ front) back few =
    (few.0, few_left (reader.open_with depth kind) front back few.1)

pub few_right : (depth : ℕ) (front back : List Piece) → OpenFew depth (front ++ back) →
    OpenFew (open_behind depth front) back
few_right depth [] back few = few
few_right depth (Blank bytes ∷ front) back few = few_right depth front back few
few_right depth (Lexeme kind bytes ∷ front) back few = few_right (reader.open_with depth kind) front back few.1

pub few_both : (depth : ℕ) (front back : List Piece) → OpenFew depth front → OpenFew (open_behind depth front) back →
    OpenFew depth (front ++ back)
few_both depth [] back few later = later
few_both depth (Blank bytes ∷ front) back few later = few_both depth front back few later
few_both depth (Lexeme kind bytes ∷ front) back few later =
    (few.0, few_both (reader.open_with depth kind) front back few.1 later)

behind_both : (depth : ℕ) (front back : List Piece) →
    open_behind depth (front ++ back) ≡ open_behind (open_behind depth front) back
behind_both depth [] back = refl
behind_both depth (Blank bytes ∷ front) back = behind_both depth front back
behind_both depth (Lexeme kind bytes ∷ front) back = behind_both (reader.open_with depth kind) front back

-- ---- pieces that close what they open

abbrev pub Closes : List Piece → Type 0
Closes pieces = (depth : ℕ) → open_behind depth pieces ≡ depth

pub closes_both : (front back : List Piece) → Closes front → Closes back → Closes (front ++ back)
closes_both front back one other depth =
    behind_both depth front back ∙ ap (λ d. open_behind d back) (one depth) ∙ other depth

closes_path : (file : File) (path bytes : List ℕ) → Closes (path_pieces file path bytes)
closes_path file [] bytes depth = refl
closes_path file (f ∷ path) bytes depth =
    let inner = path_pieces file path bytes in
    let close = sign signs.ParenRight ∷ [] in
    let back : (depth + 1) - 1 ≡ depth = omega arith in
    behind_both (depth + 1) inner close
    ∙ ap (λ d. open_behind d close) (closes_path file path bytes (depth + 1)) ∙ back

closes_exponent : (n : ℕ) → Closes (exponent_pieces n)
closes_exponent n depth =
    elim (nat_lt 1 n) as (λ b. open_behind depth (cond b (sign signs.Caret ∷ numeral n ∷ []) []) ≡ depth) [
      | true ↦ refl
      | false ↦ refl
    ]

closes_factor : (file : File) (atoms : List Atom) (e : ℕ × ℕ) → Closes (written_factor file atoms e).pieces
closes_factor file atoms e =
    let atom = atom_at atoms e.0 in
    closes_both (atom_pieces file atom) (exponent_pieces e.1) (closes_path file atom.path (var_name file atom.var))
    (closes_exponent e.1)

closes_later : (file : File) (atoms : List Atom) (m : Monomial) → Closes (later_pieces
    (written_factor file atoms) star m)
closes_later file atoms [] depth = refl
closes_later file atoms (e ∷ m) depth =
    closes_both (written_factor file atoms e).pieces (later_pieces (written_factor file atoms) star m)
    (closes_factor file atoms e) (closes_later file atoms m) depth

pub closes_mono : (file : File) (atoms : List Atom) (m : Monomial) → Closes (written_mono file atoms m).pieces
closes_mono file atoms [] depth = refl
closes_mono file atoms (e ∷ m) depth =
    closes_both (written_factor file atoms e).pieces (later_pieces (written_factor file atoms) star m)
    (closes_factor file atoms e) (closes_later file atoms m) depth

pub closes_integer : (b : ℤ) → Closes (written_integer b).pieces
closes_integer (pos n) depth = refl
closes_integer (negsuc n) depth = refl
