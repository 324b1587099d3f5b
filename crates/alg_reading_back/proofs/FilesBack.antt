-- The statements of a file's canonical text, each behind the front of those before it.
use Rattle.std.proofs.Common.{◌≡◌, ◌≤◌, ℕ, zero, suc, ◌+◌, ◌-◌, List, [], ◌∷◌, ◌++◌, length, take, None, refl, sym, ap, ◌∙◌, subst, arith, append-nil}
use Rattle.std.specs.List.{AllByRecursion}
use Rattle.std.specs.Option.{option_or, option_map}
use Rattle.std.proofs.lemmas.List.Concat.{flat_map-append}
use Rattle.std.proofs.lemmas.List.Elements.{recursion_from_All}
use Rattle.alg_terms.specs.declared.file.File.{File}
use Rattle.alg_terms.specs.declared.file.Statement.{Statement}
use Rattle.alg_terms.specs.Limits.{MAX_OPEN}
use Rattle.alg_terms.specs.Order.{numbers_from}
use Rattle.alg_terms.specs.Valid.{IsValid}
use Rattle.alg_tokens.specs.Laws.{width, tokens_of, CutFromAnywhere}
use Rattle.alg_tokens.specs.Pieces.{Piece}
use Rattle.alg_tokens.proofs.Neighbours.{spell, spell_append, width_append}
use Rattle.alg_tokens.specs.declared.code.Code.TheVariants as code
use Rattle.alg_tokens.specs.Codes.{fault_at}
use Rattle.alg_reader.specs.declared.reading.Raw.{Raw}
use Rattle.alg_reader.specs.Tokens.{GoesPast}
use Rattle.alg_reader.proofs.Found.{all_split}
use Rattle.alg_typing.specs.Faults.{first_of}
use Rattle.alg_typing.specs.NameFaults.{name_faults}
use Rattle.alg_typing.specs.Reading.{first_fault, no_statements}
use Rattle.alg_typing.specs.SortFaults.{sort_faults}
use Rattle.alg_printer.specs.Text.{text_of, statement_text, IsStatementOf}
use Rattle.alg_reading_back.specs.ReadingBack.{unanswered, most_open, OpensFew}
use Rattle.alg_reading_back.proofs.ClosedFronts.{IsClosedBy}
use Rattle.alg_reading_back.proofs.EvenPieces.{HasFewOpen, even_if_ends, few_open, few_pass}
use Rattle.alg_reading_back.proofs.FileTokens.{statement_of, statement_piece_bytes}
use Rattle.alg_reading_back.proofs.Fronts.{front}
use Rattle.alg_reading_back.proofs.WrittenStatements.{written_statement, file_pieces}
use Rattle.alg_reading_back.proofs.WrittenTerms.{line_feed}
use Rattle.alg_reading_back.proofs.NextLists.{same_lists}
use Rattle.alg_reading_back.proofs.PiecesAt.{PiecesAt, pieces_at_all}
use Rattle.alg_reading_back.proofs.SpelledStatements.{line_pieces, spelled_statement}
use Rattle.alg_reading_back.proofs.StatementEnds.{statement_pieces_end}
use Rattle.alg_reading_back.proofs.StatementsTaken.{statement_taken}
use Rattle.alg_reading_back.proofs.Taken.{IsTaken}
use Rattle.alg_reading_back.proofs.VarLists.{numbers_long}

-- ---- the whole file as the front of all statements

-- as many items as there are
take_whole : {X : Type 0} (xs : List X) (n : ℕ) → n ≡ length xs → take n xs ≡ xs
take_whole [] zero h = refl
take_whole [] (suc n) h = absurd (omega arith)
take_whole (x ∷ xs) zero h = absurd (omega arith)
take_whole (x ∷ xs) (suc n) h = ap (λ ys. x ∷ ys) (take_whole xs n (omega arith))

pub take_no : {X : Type 0} (xs : List X) → take 0 xs ≡ []
take_no [] = refl
take_no (x ∷ xs) = refl

-- all numbers of a list
pub all_of : {X : Type 0} (xs : List X) (numbers : List ℕ) → numbers ≡ numbers_from 0 (length xs) →
    take (length numbers) xs ≡ xs
all_of xs numbers same = take_whole xs (length numbers) (ap length same ∙ numbers_long 0 (length xs))

pub whole_front : (file : File) → IsValid file → front file file.order ≡ file
whole_front file valid =
    let all = valid.ordered.once_rising in
    same_lists (front file file.order) file (all_of file.sorts _ (ap (λ m. m.sorts) all))
    (all_of file.homs _ (ap (λ m. m.homs) all)) (all_of file.vars _ (ap (λ m. m.vars) all))
    (all_of file.hyps _ (ap (λ m. m.hyps) all)) (all_of file.goals _ (ap (λ m. m.goals) all)) refl

pub empty_front : (file : File) → front file [] ≡ no_statements
empty_front file =
    same_lists (front file []) no_statements (take_no file.sorts) (take_no file.homs) (take_no file.vars)
    (take_no file.hyps) (take_no file.goals) refl

-- ---- each statement

-- a statement that is taken and has nothing too deep has no first fault
pub faultless : (g next : File) (text : List ℕ) (raw : Raw) → raw.too_deep ≡ None → IsTaken g text raw.kind next →
    first_fault g text raw ≡ None
faultless g next text raw shallow taken =
    let sorts = first_of (sort_faults g text raw.kind) in
    let names = first_of (name_faults g text raw.kind) in
    ap (λ deep. option_or (option_map (fault_at code.Depth) deep) (option_or names sorts)) shallow
    ∙ ap (λ faults. option_or (first_of faults) sorts) taken.names ∙ ap first_of taken.sorts

module _ (law : CutFromAnywhere) (file : File) (valid : IsValid file) (few : OpensFew file) where
  abbrev pub text : List ℕ
  text = text_of file (unanswered file)

  abbrev pub pieces_of : Statement → List Piece
  pieces_of s = (written_statement file s).pieces

  -- where the next statement stands behind some others, and where reading goes on to it
  abbrev pub begin : List Statement → ℕ
  begin before = width (file_pieces file before)

  abbrev pub place : List Statement → ℕ
  place before = begin before - 1

  -- what is read of it
  abbrev pub raw_of : List Statement → Statement → Raw
  raw_of before s = record {
    kind = (written_statement file s).raw (begin before);
    start = begin before;
    stop = begin before + width (pieces_of s);
    too_deep = None;
  }

  pub few_there : (before after : List Statement) (s : Statement) → file.order ≡ before ++ (s ∷ after) →
      most_open 0 (statement_text file (unanswered file) s) ≤ MAX_OPEN
  few_there before after s split =
      let P : Statement → Type 0 = λ s. most_open 0 (statement_text file (unanswered file) s) ≤ MAX_OPEN in
      let all = subst (AllByRecursion P) split (recursion_from_All P file.order few) in
      (all_split P before (s ∷ after) all).1.0

  -- the parentheses of its tokens are those of its text
  tokens_few : (s : Statement) (at : ℕ) → IsStatementOf file s →
      most_open 0 (statement_text file (unanswered file) s) ≤ MAX_OPEN → HasFewOpen 0 (tokens_of at (pieces_of s))
  tokens_few s at is low =
      let rest = spell (line_feed ∷ []) in
      let even = even_if_ends (pieces_of s) (10 ∷ [])
      (statement_pieces_end file s valid is (10 ∷ []) (10, [], refl, refl)) in
      let whole : most_open 0 (spell (pieces_of s) ++ rest) ≡ most_open 0 (statement_text file (unanswered file) s) =
      ap (most_open 0) (sym (spell_append (pieces_of s) (line_feed ∷ [])) ∙ spelled_statement file s is) in
      few_open 0 at (pieces_of s) rest even (omega (arith, whole, low))

  -- reading goes past it
  pub passed_there : (before after : List Statement) (s : Statement) → file.order ≡ before ++ (s ∷ after) →
      GoesPast 0 (tokens_of (begin before) (pieces_of s))
  passed_there before after s split =
      few_pass 0 (tokens_of (begin before) (pieces_of s))
      (tokens_few s (begin before) (statement_of file valid before after s split) (few_there before after s split))

  pieces_there : (before after : List Statement) (s : Statement) → file.order ≡ before ++ (s ∷ after) →
      PiecesAt text (begin before) (pieces_of s)
  pieces_there before after s split =
      pieces_at_all text (begin before) (pieces_of s) (statement_piece_bytes file valid before after s split)

  -- the front before it takes it
  pub taken_there : (before after : List Statement) (s : Statement) → file.order ≡ before ++ (s ∷ after) →
      IsStatementOf file s → IsClosedBy file before →
      IsTaken (front file before) text ((written_statement file s).raw (begin before)) (front file (before ++ s ∷ []))
  taken_there before after s split is closed =
      statement_taken file valid before after s split is closed text (begin before) (pieces_there before after s split)

  -- it stops where reading goes on behind it
  pub next_place : (before : List Statement) (s : Statement) →
      place (before ++ s ∷ []) ≡ begin before + width (pieces_of s)
  next_place before s =
      let line = line_pieces (pieces_of s) in
      let pieces : file_pieces file (before ++ s ∷ []) ≡ file_pieces file before ++ line =
      flat_map-append (λ s. line_pieces (pieces_of s)) before (s ∷ [])
      ∙ ap (λ ps. file_pieces file before ++ ps) (append-nil line) in
      let wide : begin (before ++ s ∷ []) ≡ begin before + width line = ap width pieces
      ∙ width_append (file_pieces file before) line in
      let feed = width_append (pieces_of s) (line_feed ∷ []) in
      omega (arith, wide, feed)
