-- The canonical text of a file reads as the file.
use Rattle.std.proofs.Common.{◌≡◌, ◌≢◌, inl, ℕ, ◌+◌, List, [], ◌∷◌, ◌++◌, length, None, Ok, refl, sym, ◌∙◌, subst, append_assoc, append-nil}
use Rattle.alg_terms.specs.declared.file.File.{File}
use Rattle.alg_terms.specs.declared.file.Statement.{Statement}
use Rattle.alg_terms.specs.declared.file.Statement.TheVariants as statement
use Rattle.alg_terms.specs.Valid.{IsValid}
use Rattle.alg_tokens.specs.Laws.{width, CutFromAnywhere}
use Rattle.alg_reader.specs.declared.place.Place.TheVariants.{Plain}
use Rattle.alg_reader.specs.declared.raw.RawKind.TheVariants as raws
use Rattle.alg_reader.specs.Statements.{IsRead}
use Rattle.alg_typing.specs.Reading.{ReadsFile, file_way, IsReadingOf}
use Rattle.alg_typing.specs.Ways.{GoesOnWith}
use Rattle.alg_reading_back.specs.ReadingBack.{OpensFew, ReadsBack}
use Rattle.alg_reading_back.proofs.ClosedFronts.{IsClosedBy, nothing_closed, closed_next}
use Rattle.alg_reading_back.proofs.FilesBack.{text, pieces_of, begin, place, raw_of, taken_there, passed_there, next_place, faultless, whole_front, empty_front}
use Rattle.alg_reading_back.proofs.FileTokens.{statement_of, statement_tokens, text_ends}
use Rattle.alg_reading_back.proofs.Fronts.{front}
use Rattle.alg_reading_back.proofs.WrittenStatements.{written_statement}
use Rattle.alg_reading_back.proofs.StatementsRead.{statement_read}
use Rattle.alg_reading_back.proofs.Utf8Text.{text_utf8}

-- a statement's raw statement is no end
pub goes_on : (file : File) (s : Statement) (at : ℕ) → (written_statement file s).raw at ≢ raws.End
goes_on file (statement.Sort k) at = λ e. absurd (cc)
goes_on file (statement.Hom f) at = λ e. absurd (cc)
goes_on file (statement.Vars first count) at = λ e. absurd (cc)
goes_on file (statement.Hyp h) at = λ e. absurd (cc)
goes_on file (statement.Goal i) at = λ e. absurd (cc)

module _ (law : CutFromAnywhere) (file : File) (valid : IsValid file) (few : OpensFew file) where
  abbrev bytes : List ℕ
  bytes = text law file valid few

  abbrev at_place : List Statement → ℕ
  at_place before = place law file valid few before

  read_there : (before after : List Statement) (s : Statement) → file.order ≡ before ++ (s ∷ after) →
      IsRead Plain bytes (at_place before) (Ok (raw_of law file valid few before s))
  read_there before after s split =
      let start = begin law file valid few before in
      statement_read file valid s (statement_of file valid before after s split)
      bytes (at_place before) start (start + width (pieces_of law file valid few s))
      (statement_tokens law file valid before after s split) (passed_there law file valid few before after s split)

  ends : ReadsFile bytes (at_place file.order) (front file file.order) (Ok file)
  unfolding IsRead
  ends = (
    [],
    (
      record { kind = raws.End; start = length bytes; stop = length bytes; too_deep = None },
      inl (text_ends law file valid, refl),
      refl,
      sym (whole_front file valid),
    ),
  )

  reads_on : (after before : List Statement) → file.order ≡ before ++ after → IsClosedBy file before →
      ReadsFile bytes (at_place before) (front file before) (Ok file)
  reads_on [] before split closed =
      subst (λ order. ReadsFile bytes (at_place order) (front file order) (Ok file))
      (split ∙ append-nil before) ends
  reads_on (s ∷ after) before split closed =
      let is = statement_of file valid before after s split in
      let taken = taken_there law file valid few before after s split is closed in
      let raw = raw_of law file valid few before s in
      let further = before ++ s ∷ [] in
      let (raws, more) = reads_on after further (split ∙ sym (append_assoc before (s ∷ []) after))
      (closed_next file valid before after s split is closed) in
      let behind = subst (λ at. GoesOnWith (file_way bytes) bytes at (front file further) raws (Ok file))
      (next_place law file valid few before s) more in
      let from = subst (λ g. GoesOnWith (file_way bytes) bytes raw.stop g raws (Ok file)) (sym taken.extends)
      behind in (
        raw ∷ raws,
        (
          read_there before after s split,
          goes_on file s (begin law file valid few before),
          faultless (front file before) (front file further) bytes raw refl taken,
          from,
        ),
      )

  file_back : IsReadingOf bytes (Ok file)
  file_back =
      let reads = reads_on file.order [] refl (nothing_closed file) in
      inl (text_utf8 file valid, subst (λ g. ReadsFile bytes 0 g (Ok file)) (empty_front file) reads)

pub reads_back : CutFromAnywhere → ReadsBack
reads_back law file valid few = file_back law file valid few
