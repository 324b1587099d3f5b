-- The tokens of a file's text, statement by statement.
use Rattle.std.proofs.Common.{◌≡◌, ℕ, ◌+◌, ◌-◌, List, [], ◌∷◌, ◌++◌, ◌⊎◌, inl, inr, length, map, take, drop, refl, ap, sym, ◌∙◌, subst, arith, append_assoc, append-nil, Ok}
use Rattle.std.specs.List.{AllByRecursion}
use Rattle.std.proofs.lemmas.Grind.{flat_map-append}
use Rattle.std.proofs.lemmas.List.Elements.{recursion_from_All}
use Rattle.alg_terms.specs.declared.file.File.{File}
use Rattle.alg_terms.specs.declared.file.Statement.{Statement}
use Rattle.alg_terms.specs.declared.file.Statement.TheVariants as statement
use Rattle.alg_terms.specs.Members.{sort_at, hom_at, hyp_at, goal_at, sort_of_var}
use Rattle.alg_terms.specs.Order.{numbers_from}
use Rattle.alg_terms.specs.Valid.{IsValid}
use Rattle.alg_tokens.specs.declared.token.Sign.TheVariants as signs
use Rattle.alg_tokens.specs.declared.token.Word.TheVariants as words
use Rattle.alg_tokens.specs.declared.token.TokenKind.{TokenKind}
use Rattle.alg_tokens.specs.declared.token.TokenKind.TheVariants as kinds
use Rattle.alg_tokens.specs.Laws.{width, tokens_of, TokensFrom, CutFromAnywhere}
use Rattle.alg_tokens.specs.Next.{IsNext}
use Rattle.alg_tokens.specs.Pieces.{Piece, Blank, Lexeme, bytes_of, IsCut}
use Rattle.alg_tokens.proofs.Following.{cut_goes_on}
use Rattle.alg_tokens.proofs.Neighbours.{spell, spelled_width, width_append, EachEnds, cut_if_ends, all_within_max, piece_there}
use Rattle.alg_reader.specs.Tokens.{TokensTo}
use Rattle.alg_reader.proofs.Found.{all_split}
use Rattle.alg_printer.specs.Names.{sort_name, var_name}
use Rattle.alg_printer.specs.Text.{text_of, IsStatementOf}
use Rattle.alg_printer.proofs.Declared.{statements_are_of}
use Rattle.alg_reading_back.specs.ReadingBack.{unanswered}
use Rattle.alg_reading_back.proofs.WrittenTerms.{line_feed, space, sign, word, name}
use Rattle.alg_reading_back.proofs.WrittenMethods.{method_pieces}
use Rattle.alg_reading_back.proofs.WrittenStatements.{written_sides, written_statement, goal_front, kind_word, char_pieces, name_pieces, dot, file_pieces}
use Rattle.alg_reading_back.proofs.SpelledStatements.{line_pieces, spelled_file}
use Rattle.alg_reading_back.proofs.StatementEnds.{file_pieces_end}

-- ---- from a place on

stand_back : (front back : List Piece) (rest : List ℕ) → EachEnds (front ++ back) rest → EachEnds back rest
stand_back [] back rest stand = stand
stand_back (piece ∷ front) back rest (stands, stand) = stand_back front back rest stand

-- the tokens of the pieces behind others, from where these begin
tokens_from : CutFromAnywhere → (text : List ℕ) (before after : List Piece) → text ≡ spell (before ++ after) →
    EachEnds (before ++ after) [] → TokensFrom text (width before) (tokens_of (width before) after)
tokens_from law text before after spelled stand =
    let whole = before ++ after in
    let P : List ℕ → Type 0 = λ bs. IsCut whole bs [] in
    let cut : IsCut whole text [] = subst P (append-nil (spell whole) ∙ sym spelled) (cut_if_ends whole [] stand) in
    let long : length text ≡ width before + width after =
    ap length spelled ∙ spelled_width whole ∙ width_append before after in
    (law text (width before) (tokens_of (width before) after) (omega (arith, long))).1 (
      after,
      cut_goes_on text before after cut,
      refl,
      all_within_max after [] (width before) (stand_back before after [] stand),
    )

-- the pieces are none, or a line feed is the last of them
abbrev pub EndsLine : List Piece → Type 0
EndsLine pieces = (pieces ≡ []) ⊎ ((front : List Piece) × (pieces ≡ front ++ (line_feed ∷ [])))

lines_end : (file : File) (order : List Statement) → EndsLine (file_pieces file order)
lines_end file [] = inl refl
lines_end file (s ∷ order) =
    let pieces = (written_statement file s).pieces in
    elim (lines_end file order) [
      | inl none ↦ inr (pieces, ap (λ more. line_pieces pieces ++ more) none ∙ append-nil (line_pieces pieces))
      | inr (front, e) ↦ inr (
        line_pieces pieces ++ front,
        ap (λ more. line_pieces pieces ++ more) e
            ∙ sym (append_assoc (line_pieces pieces) front (line_feed ∷ [])),
      )
    ]

-- the tokens behind whole lines, from the line feed before them
pub tokens_behind : CutFromAnywhere → (text : List ℕ) (before after : List Piece) → EndsLine before →
    text ≡ spell (before ++ after) → EachEnds (before ++ after) [] →
    TokensFrom text (width before - 1) (tokens_of (width before) after)
tokens_behind law text before after (inl none) spelled stand =
    let P : List Piece → Type 0 = λ ps. EachEnds (ps ++ after) [] in
    let Q : List Piece → Type 0 = λ ps. TokensFrom text (width ps - 1) (tokens_of (width ps) after) in
    let same = spelled ∙ ap (λ ps. spell (ps ++ after)) none in
    subst Q (sym none) (tokens_from law text [] after same (subst P none stand))
tokens_behind law text before after (inr (front, e)) spelled stand =
    let whole : before ++ after ≡ front ++ (line_feed ∷ after) =
    ap (λ ps. ps ++ after) e ∙ append_assoc front (line_feed ∷ []) after in
    let P : List Piece → Type 0 = λ ps. EachEnds ps [] in
    let there = tokens_from law text front (line_feed ∷ after) (spelled ∙ ap spell whole) (subst P whole stand) in
    let place : width before ≡ width front + 1 = ap width e ∙ width_append front (line_feed ∷ []) in
    let Q : ℕ → Type 0 = λ n. TokensFrom text n (tokens_of (width before) after) in
    let R : ℕ → Type 0 = λ n. TokensFrom text (width front) (tokens_of n after) in
    let begin : width front ≡ width before - 1 = omega (arith, place) in
    subst Q begin (subst R (sym place) there)

-- the tokens up to a lexeme, which is the last of some pieces
pub tokens_to : (text : List ℕ) (from at : ℕ) (front rest : List Piece) (kind : TokenKind) (bytes : List ℕ) →
    TokensFrom text from (tokens_of at (front ++ (Lexeme kind bytes ∷ rest))) →
    let last = front ++ (Lexeme kind bytes ∷ []) in
    TokensTo text from (tokens_of at last) (at + width last)
tokens_to text from at [] rest kind bytes (next, lexeme, more) = (next, lexeme, omega arith)
tokens_to text from at (Blank blank ∷ front) rest kind bytes tokens =
    let last = front ++ (Lexeme kind bytes ∷ []) in
    let P : ℕ → Type 0 = TokensTo text from (tokens_of (at + length blank) last) in
    let same : (at + length blank) + width last ≡ at + (length blank + width last) = omega arith in
    subst P same (tokens_to text from (at + length blank) front rest kind bytes tokens)
tokens_to text from at (Lexeme other more ∷ front) rest kind bytes (next, lexeme, tokens) =
    let last = front ++ (Lexeme kind bytes ∷ []) in
    let P : ℕ → Type 0 = TokensTo text (at + length more) (tokens_of (at + length more) last) in
    let same : (at + length more) + width last ≡ at + (length more + width last) = omega arith in
    (next, lexeme, subst P same (tokens_to text (at + length more) (at + length more) front rest kind bytes tokens))

-- ---- statements

-- the pieces end with the `.` of a statement
abbrev pub EndsDot : List Piece → Type 0
EndsDot pieces = (front : List Piece) × (pieces ≡ front ++ dot)

pub ends_dot : (front back : List Piece) → EndsDot (front ++ (back ++ dot))
ends_dot front back = (front ++ back, sym (append_assoc front back dot))

pub statement_ends : (file : File) (s : Statement) → EndsDot (written_statement file s).pieces
statement_ends file (statement.Sort s) =
    let sort = sort_at file s in
    (word (kind_word sort.kind) ∷ space ∷ name sort.name ∷ char_pieces sort.char0, refl)
statement_ends file (statement.Hom f) =
    let hom = hom_at file f in
    let from = word words.Hom ∷ space ∷ name hom.name ∷ space ∷ sign signs.Colon ∷ space ∷ [] in
    ends_dot (from ++ (name (sort_name file hom.from) ∷ space ∷ sign signs.Arrow ∷ space ∷ []))
    (name (sort_name file hom.to) ∷ [])
statement_ends file (statement.Vars first count) =
    let names = name_pieces (map (var_name file) (numbers_from first count)) in
    ends_dot (word words.Var ∷ (names ++ (space ∷ sign signs.Colon ∷ space ∷ [])))
    (name (sort_name file (sort_of_var file first)) ∷ [])
statement_ends file (statement.Hyp h) =
    let hyp = hyp_at file h in
    let front = word words.Hyp ∷ space ∷ name hyp.name ∷ space ∷ sign signs.Colon ∷ space ∷ [] in
    let sides = written_sides file front hyp.nonzero hyp.equation in
    ends_dot sides.to_right sides.right
statement_ends file (statement.Goal i) =
    let goal = goal_at file i in
    ends_dot (goal_front file goal.equation) (method_pieces file goal.method)

-- the pieces of a file before a statement, those of the statement, and those behind it
pub around : (file : File) (before after : List Statement) (s : Statement) → file.order ≡ before ++ (s ∷ after) →
    file_pieces file file.order
    ≡ file_pieces file before ++ ((written_statement file s).pieces ++ (line_feed ∷ file_pieces file after))
around file before after s order =
    let pieces = (written_statement file s).pieces in
    ap (file_pieces file) order
    ∙ flat_map-append (λ s. line_pieces (written_statement file s).pieces) before (s ∷ after)
    ∙ ap (λ ps. file_pieces file before ++ ps) (append_assoc pieces (line_feed ∷ []) (file_pieces file after))

-- the statement is of the file
pub statement_of : (file : File) → IsValid file → (before after : List Statement) (s : Statement) →
    file.order ≡ before ++ (s ∷ after) → IsStatementOf file s
statement_of file valid before after s order =
    let all = recursion_from_All (IsStatementOf file) file.order (statements_are_of file valid) in
    let P : List Statement → Type 0 = AllByRecursion (IsStatementOf file) in
    (all_split (IsStatementOf file) before (s ∷ after) (subst P order all)).1.0

-- the tokens of a statement, from behind the statement before it
pub statement_tokens : CutFromAnywhere → (file : File) → IsValid file →
    (before after : List Statement) (s : Statement) → file.order ≡ before ++ (s ∷ after) →
    let at = width (file_pieces file before) in
    let pieces = (written_statement file s).pieces in
    TokensTo (text_of file (unanswered file)) (at - 1) (tokens_of at pieces) (at + width pieces)
statement_tokens law file valid before after s order =
    let text = text_of file (unanswered file) in
    let at = width (file_pieces file before) in
    let pieces = (written_statement file s).pieces in
    let rest = line_feed ∷ file_pieces file after in
    let whole = around file before after s order in
    let P : List Piece → Type 0 = λ ps. EachEnds ps [] in
    let tokens = tokens_behind law text (file_pieces file before) (pieces ++ rest) (lines_end file before)
    (sym (spelled_file file valid) ∙ ap spell whole) (subst P whole (file_pieces_end file valid)) in
    let (front, e) = statement_ends file s in
    let Q : List Piece → Type 0 = λ ps. TokensFrom text (at - 1) (tokens_of at ps) in
    let R : List Piece → Type 0 = λ ps. TokensTo text (at - 1) (tokens_of at ps) (at + width ps) in
    let split : pieces ++ rest ≡ front ++ (dot ++ rest) = ap (λ ps. ps ++ rest) e ∙ append_assoc front dot rest in
    subst R (sym e) (tokens_to text (at - 1) at front rest _ _ (subst Q split tokens))

-- behind the last statement the text ends
pub text_ends : CutFromAnywhere → (file : File) → IsValid file →
    IsNext (text_of file (unanswered file)) (width (file_pieces file file.order) - 1) (Ok (record {
      kind = kinds.End;
      start = length (text_of file (unanswered file));
      stop = length (text_of file (unanswered file));
    }))
text_ends law file valid =
    let pieces = file_pieces file file.order in
    let P : List Piece → Type 0 = λ ps. EachEnds ps [] in
    tokens_behind law (text_of file (unanswered file)) pieces [] (lines_end file file.order)
    (sym (spelled_file file valid) ∙ ap spell (sym (append-nil pieces)))
    (subst P (sym (append-nil pieces)) (file_pieces_end file valid))

-- ---- bytes

-- the text is as long as its pieces are wide
pub text_width : (file : File) → IsValid file →
    length (text_of file (unanswered file)) ≡ width (file_pieces file file.order)
text_width file valid =
    ap length (sym (spelled_file file valid)) ∙ spelled_width (file_pieces file file.order)

-- a piece of the file stands in the text at its place
pub piece_bytes : (file : File) → IsValid file → (front back : List Piece) (piece : Piece) →
    file_pieces file file.order ≡ front ++ (piece ∷ back) →
    take (length (bytes_of piece)) (drop (width front) (text_of file (unanswered file))) ≡ bytes_of piece
piece_bytes file valid front back piece e =
    ap (λ text. take (length (bytes_of piece)) (drop (width front) text))
    (sym (spelled_file file valid) ∙ ap spell e)
    ∙ piece_there front back piece

-- so does a piece of a statement
pub statement_piece_bytes : (file : File) → IsValid file → (before after : List Statement)
    (s : Statement) → file.order ≡ before ++ (s ∷ after) → (front back : List Piece) (piece : Piece) →
    (written_statement file s).pieces ≡ front ++ (piece ∷ back) →
    let at = width (file_pieces file before) + width front in
    take (length (bytes_of piece)) (drop at (text_of file (unanswered file))) ≡ bytes_of piece
statement_piece_bytes file valid before after s order front back piece e =
    let rest = line_feed ∷ file_pieces file after in
    let lines = file_pieces file before in
    let whole : file_pieces file file.order ≡ (lines ++ front) ++ (piece ∷ (back ++ rest)) =
    around file before after s order ∙ ap (λ ps. lines ++ ps) (ap (λ ps. ps ++ rest) e
    ∙ append_assoc front (piece ∷ back) rest) ∙ sym (append_assoc lines front (piece ∷ (back ++ rest))) in
    ap (λ n. take (length (bytes_of piece)) (drop n (text_of file (unanswered file)))) (sym (width_append lines front))
    ∙ piece_bytes file valid (lines ++ front) (back ++ rest) piece whole
