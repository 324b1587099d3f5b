-- The canonical text of a statement, cut into pieces, and the raw statement that these are, by the place where the
-- text begins.
use Rattle.std.specs.Prelude.{ℕ, ◌+◌, Bool, true, false, List, [], ◌∷◌, ◌++◌, map, length, flat_map}
use Rattle.alg_terms.specs.declared.declarations.HomDecl.{HomDecl}
use Rattle.alg_terms.specs.declared.declarations.Kind.{Kind}
use Rattle.alg_terms.specs.declared.declarations.Kind.TheVariants.{Ring, Domain, Field}
use Rattle.alg_terms.specs.declared.declarations.Sort.{Sort}
use Rattle.alg_terms.specs.declared.file.File.{File}
use Rattle.alg_terms.specs.declared.file.Statement.{Statement}
use Rattle.alg_terms.specs.declared.file.Statement.TheVariants as statement
use Rattle.alg_terms.specs.declared.goals.Equation.{Equation}
use Rattle.alg_terms.specs.declared.goals.Goal.{Goal}
use Rattle.alg_terms.specs.declared.goals.Hyp.{Hyp}
use Rattle.alg_terms.specs.Members.{sort_at, hom_at, hyp_at, goal_at, sort_of_var}
use Rattle.alg_terms.specs.Order.{numbers_from}
use Rattle.alg_tokens.specs.declared.token.Sign.{Sign}
use Rattle.alg_tokens.specs.declared.token.Sign.TheVariants as signs
use Rattle.alg_tokens.specs.declared.token.Word.{Word}
use Rattle.alg_tokens.specs.declared.token.Word.TheVariants as words
use Rattle.alg_tokens.specs.Laws.{width}
use Rattle.alg_tokens.specs.Pieces.{Piece}
use Rattle.alg_reader.specs.declared.raw.RawEquation.{RawEquation}
use Rattle.alg_reader.specs.declared.raw.RawKind.{RawKind}
use Rattle.alg_reader.specs.declared.raw.RawKind.TheVariants as raws
use Rattle.alg_reader.specs.declared.raw.Span.{Span}
use Rattle.alg_printer.specs.Names.{sort_name, var_name}
use Rattle.alg_reading_back.proofs.WrittenMethods.{method_pieces, method_raw}
use Rattle.alg_reading_back.proofs.WrittenTerms.{space, line_feed, sign, word, name, numeral, span, written}

-- a statement in pieces: those up to its `.`, and what it says by the place where they begin
pub record WrittenStatement : Type 0 where
  pub pieces : List Piece
  pub raw : ℕ → RawKind

abbrev pub kind_word : Kind → Word
kind_word Ring = words.Ring
kind_word Domain = words.Domain
kind_word Field = words.Field

abbrev pub char_pieces : Bool → List Piece
char_pieces true = space ∷ word words.Char ∷ space ∷ numeral 0 ∷ []
char_pieces false = []

abbrev pub dot : List Piece
dot = sign signs.Dot ∷ []

-- a name behind other pieces
abbrev pub behind : List Piece → ℕ → List ℕ → Span
behind pieces at bytes = span (at + width pieces) bytes

abbrev pub written_sort : Sort → WrittenStatement
written_sort sort =
    let front = word (kind_word sort.kind) ∷ space ∷ [] in
    record {
      pieces = front ++ (name sort.name ∷ (char_pieces sort.char0 ++ dot));
      raw = λ at. raws.Sort sort.kind (behind front at sort.name) sort.char0;
    }

abbrev pub written_hom : File → HomDecl → WrittenStatement
written_hom file hom =
    let front = word words.Hom ∷ space ∷ [] in
    let from = front ++ (name hom.name ∷ space ∷ sign signs.Colon ∷ space ∷ []) in
    let to = from ++ (name (sort_name file hom.from) ∷ space ∷ sign signs.Arrow ∷ space ∷ []) in
    record {
      pieces = to ++ (name (sort_name file hom.to) ∷ dot);
      raw = λ at. raws.Hom (behind front at hom.name) (behind from at (sort_name file hom.from))
          (behind to at (sort_name file hom.to));
    }

-- names, each after a space
abbrev pub name_pieces : List (List ℕ) → List Piece
name_pieces names = flat_map (λ bytes. space ∷ name bytes ∷ []) names

abbrev pub name_spans : ℕ → List (List ℕ) → List Span
name_spans at [] = []
name_spans at (bytes ∷ names) = span (at + 1) bytes ∷ name_spans (at + 1 + length bytes) names

abbrev pub written_vars : File → ℕ → ℕ → WrittenStatement
written_vars file first count =
    let names = map (var_name file) (numbers_from first count) in
    let front = word words.Var ∷ (name_pieces names ++ (space ∷ sign signs.Colon ∷ space ∷ [])) in
    let sort = sort_name file (sort_of_var file first) in
    record {
      pieces = front ++ (name sort ∷ dot);
      raw = λ at. raws.Vars (name_spans (at + 3) names) (behind front at sort);
    }

-- how the sides of an equation compare
abbrev pub relation_sign : Bool → Sign
relation_sign true = signs.NotEqual
relation_sign false = signs.Equal

-- the two sides of an equation behind other pieces: all pieces up to the relation, all up to the right side, those of
-- the right side, and the raw equation
pub record WrittenSides : Type 0 where
  pub to_relation : List Piece
  pub to_right : List Piece
  pub right : List Piece
  pub raw : ℕ → RawEquation

abbrev pub written_sides : File → List Piece → Bool → Equation → WrittenSides
written_sides file front nonzero e =
    let left = written file e.left in
    let right = written file e.right in
    let to_relation = front ++ (left.pieces ++ (space ∷ [])) in
    let to_right = to_relation ++ (sign (relation_sign nonzero) ∷ space ∷ []) in
    record {
      to_relation = to_relation;
      to_right = to_right;
      right = right.pieces;
      raw = λ at. record {
        left = left.raw (at + width front);
        relation = at + width to_relation;
        nonzero = nonzero;
        right = right.raw (at + width to_right);
      };
    }

abbrev pub written_hyp : File → Hyp → WrittenStatement
written_hyp file hyp =
    let front = word words.Hyp ∷ space ∷ [] in
    let colon = front ++ (name hyp.name ∷ space ∷ sign signs.Colon ∷ space ∷ []) in
    let sides = written_sides file colon hyp.nonzero hyp.equation in
    record {
      pieces = sides.to_right ++ (sides.right ++ dot);
      raw = λ at. raws.Hyp (behind front at hyp.name) (sides.raw at);
    }

-- the pieces of a goal up to its method
abbrev pub goal_front : File → Equation → List Piece
goal_front file e =
    let sides = written_sides file (word words.Goal ∷ space ∷ []) false e in
    sides.to_right ++ (sides.right ++ (space ∷ word words.By ∷ space ∷ []))

abbrev pub written_goal : File → Goal → WrittenStatement
written_goal file goal =
    let sides = written_sides file (word words.Goal ∷ space ∷ []) false goal.equation in
    let by = goal_front file goal.equation in
    record {
      pieces = by ++ (method_pieces file goal.method ++ dot);
      raw = λ at. raws.Goal (sides.raw at) (method_raw file (at + width by) goal.method) (at + width by);
    }

-- a statement of the file
abbrev pub written_statement : File → Statement → WrittenStatement
written_statement file (statement.Sort s) = written_sort (sort_at file s)
written_statement file (statement.Hom f) = written_hom file (hom_at file f)
written_statement file (statement.Vars first count) = written_vars file first count
written_statement file (statement.Hyp h) = written_hyp file (hyp_at file h)
written_statement file (statement.Goal i) = written_goal file (goal_at file i)

-- all statements of the file, each on a line of its own
abbrev pub file_pieces : File → List Statement → List Piece
file_pieces file order = flat_map (λ s. (written_statement file s).pieces ++ (line_feed ∷ [])) order
