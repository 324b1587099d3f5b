-- The raw statement of the canonical text of a sort or a morphism is one that the front before it takes, to the next
-- front.
use Rattle.std.proofs.Common.{◌≡◌, ◌<◌, ℕ, ◌+◌, List, [], ◌∷◌, ◌++◌, length, take, refl, ap, ◌∙◌}
use Rattle.std.specs.Prelude.{Contains}
use Rattle.std.proofs.lemmas.List.Elements.{All-head, All-tail}
use Rattle.alg_terms.specs.declared.declarations.HomDecl.{HomDecl}
use Rattle.alg_terms.specs.declared.declarations.Sort.{Sort}
use Rattle.alg_terms.specs.declared.file.File.{File}
use Rattle.alg_terms.specs.declared.file.Statement.{Statement}
use Rattle.alg_terms.specs.declared.file.Statement.TheVariants as statement
use Rattle.alg_terms.specs.Members.{sort_at, hom_at, source_of, target_of, no_sort, no_hom}
use Rattle.alg_terms.specs.Order.{declared_by, declared_by_all}
use Rattle.alg_terms.specs.Valid.{IsValid, names_of}
use Rattle.alg_tokens.specs.declared.token.Sign.TheVariants as signs
use Rattle.alg_tokens.specs.declared.token.TokenKind.TheVariants as kinds
use Rattle.alg_tokens.specs.declared.token.Word.TheVariants as words
use Rattle.alg_tokens.specs.Laws.{width}
use Rattle.alg_tokens.specs.Pieces.{Piece}
use Rattle.alg_reader.specs.declared.raw.Span.{Span}
use Rattle.alg_reader.specs.WellRead.{bytes_at}
use Rattle.alg_typing.specs.NameFaults.{new_name, used_name}
use Rattle.alg_typing.specs.Names.{is_sort}
use Rattle.alg_typing.specs.Resolved.{number_at}
use Rattle.alg_typing.proofs.FreshNames.{AreDistinct}
use Rattle.alg_printer.specs.Names.{sort_name}
use Rattle.alg_reading_back.proofs.Fresh.{fresh_sort, fresh_hom}
use Rattle.alg_reading_back.proofs.Fronts.{front, sorts_in, homs_in, next, grows}
use Rattle.alg_reading_back.proofs.WrittenStatements.{written_sort, written_hom, written_statement, kind_word, char_pieces, dot, behind}
use Rattle.alg_reading_back.proofs.WrittenTerms.{space, sign, word, name}
use Rattle.alg_reading_back.proofs.NamesTaken.{new_taken, sort_used, sort_before, two_empty}
use Rattle.alg_reading_back.proofs.NextLists.{same_lists, same_list, next_item}
use Rattle.alg_reading_back.proofs.PiecesAt.{PiecesAt, pieces_at_left, pieces_at_right, span_bytes}
use Rattle.alg_reading_back.proofs.Taken.{IsTaken}

-- where the name of a sort stands in its text
module _ (sort : Sort) (text : List ℕ) (at : ℕ) where
  abbrev sort_span : Span
  sort_span = behind (word (kind_word sort.kind) ∷ space ∷ []) at sort.name

  sort_bytes : PiecesAt text at (written_sort sort).pieces → bytes_at text sort_span ≡ sort.name
  sort_bytes placed =
      let head : List Piece = word (kind_word sort.kind) ∷ space ∷ [] in
      let rest = char_pieces sort.char0 ++ dot in
      span_bytes text (at + width head) kinds.Name sort.name rest
      (pieces_at_right text at head (name sort.name ∷ rest) placed)

-- where the names of a morphism, of its source and of its target stand in its text
module _ (file : File) (hom : HomDecl) (text : List ℕ) (at : ℕ) where
  abbrev head : List Piece
  head = word words.Hom ∷ space ∷ []

  abbrev colon : List Piece
  colon = space ∷ sign signs.Colon ∷ space ∷ []

  abbrev arrow : List Piece
  arrow = space ∷ sign signs.Arrow ∷ space ∷ []

  abbrev to_source : List Piece
  to_source = head ++ (name hom.name ∷ colon)

  abbrev to_target : List Piece
  to_target = to_source ++ (name (sort_name file hom.from) ∷ arrow)

  abbrev hom_span : Span
  hom_span = behind head at hom.name

  abbrev source_span : Span
  source_span = behind to_source at (sort_name file hom.from)

  abbrev target_span : Span
  target_span = behind to_target at (sort_name file hom.to)

  module _ (placed : PiecesAt text at (written_hom file hom).pieces) where
    before_target : PiecesAt text at to_target
    before_target = pieces_at_left text at to_target (name (sort_name file hom.to) ∷ dot) placed

    before_source : PiecesAt text at to_source
    before_source = pieces_at_left text at to_source (name (sort_name file hom.from) ∷ arrow) before_target

    hom_bytes : bytes_at text hom_span ≡ hom.name
    hom_bytes = span_bytes text (at + width head) kinds.Name hom.name colon
        (pieces_at_right text at head (name hom.name ∷ colon) before_source)

    source_bytes : bytes_at text source_span ≡ sort_name file hom.from
    source_bytes = span_bytes text (at + width to_source) kinds.Name (sort_name file hom.from) arrow
        (pieces_at_right text at to_source (name (sort_name file hom.from) ∷ arrow) before_target)

    target_bytes : bytes_at text target_span ≡ sort_name file hom.to
    target_bytes = span_bytes text (at + width to_target) kinds.Name (sort_name file hom.to) dot
        (pieces_at_right text at to_target (name (sort_name file hom.to) ∷ dot) placed)

module _ (file : File) (valid : IsValid file) (before after : List Statement) where
  pub sort_taken : (k : ℕ) → file.order ≡ before ++ (statement.Sort k ∷ after) → (text : List ℕ) (at : ℕ) →
      PiecesAt text at (written_statement file (statement.Sort k)).pieces →
      IsTaken (front file before) text ((written_statement file (statement.Sort k)).raw at)
      (front file (before ++ statement.Sort k ∷ []))
  sort_taken k split text at placed =
      let s = statement.Sort k in
      let sort = sort_at file k in
      let item = next_item (λ s. (declared_by s).sorts) file.sorts no_sort before s k
      (next file valid.ordered before after s split).sorts refl in
      let there = sort_span sort text at in
      let bytes : bytes_at text there ≡ sort.name = sort_bytes sort text at placed in
      let free = fresh_sort file valid before k item.here item.low in
      let last : Sort → List Sort = λ sort. take (sorts_in before) file.sorts ++ sort ∷ [] in
      record {
        names = new_taken (front file before) text [] there sort.name bytes free tt;
        sorts = refl;
        extends = same_lists _ _
            (ap (λ b. last (record { name = b; kind = sort.kind; char0 = sort.char0 })) bytes ∙ item.items)
            (same_list (λ s. (declared_by s).homs) file.homs before s refl)
            (same_list (λ s. (declared_by s).vars) file.vars before s refl)
            (same_list (λ s. (declared_by s).hyps) file.hyps before s refl)
            (same_list (λ s. (declared_by s).goals) file.goals before s refl)
            (ap (λ i. before ++ statement.Sort i ∷ []) item.counted);
      }

  -- the sorts of the next statement's morphism are of the front
  ends_before : (f : ℕ) → file.order ≡ before ++ (statement.Hom f ∷ after) →
      (source_of file f < length (front file before).sorts) × (target_of file f < length (front file before).sorts)
  ends_before f split =
      let s = statement.Hom f in
      let hom = hom_at file f in
      let used = (valid.ordered.earlier before after s split).sorts in
      let P : ℕ → Type 0 = Contains (declared_by_all before).sorts in (
        sort_before file valid before after s split hom.from (All-head P hom.from (hom.to ∷ []) used),
        sort_before file valid before after s split hom.to
            (All-head P hom.to [] (All-tail P hom.from (hom.to ∷ []) used)),
      )

  pub hom_taken : (f : ℕ) → file.order ≡ before ++ (statement.Hom f ∷ after) →
      AreDistinct (names_of (front file before)) → (text : List ℕ) (at : ℕ) →
      PiecesAt text at (written_statement file (statement.Hom f)).pieces →
      IsTaken (front file before) text ((written_statement file (statement.Hom f)).raw at)
      (front file (before ++ statement.Hom f ∷ []))
  hom_taken f split distinct text at placed =
      let s = statement.Hom f in
      let g = front file before in
      let hom = hom_at file f in
      let item = next_item (λ s. (declared_by s).homs) file.homs no_hom before s f
      (next file valid.ordered before after s split).homs refl in
      let own = hom_span file hom text at in
      let source = source_span file hom text at in
      let target = target_span file hom text at in
      let bytes : bytes_at text own ≡ hom.name = hom_bytes file hom text at placed in
      let (from_there, to_there) = ends_before f split in
      let (from, from_used) = sort_used g text file distinct (grows file before) hom.from source from_there
      (source_bytes file hom text at placed) in
      let (to, to_used) = sort_used g text file distinct (grows file before) hom.to target to_there
      (target_bytes file hom text at placed) in
      let new : new_name g text [] own ≡ [] =
      new_taken g text [] own hom.name bytes (fresh_hom file valid before f item.here item.low) tt in
      let last : HomDecl → List HomDecl = λ hom. take (homs_in before) file.homs ++ hom ∷ [] in
      record {
        names = two_empty (new_name g text [] own ++ used_name g text is_sort source) (used_name g text is_sort target)
            (two_empty (new_name g text [] own) (used_name g text is_sort source) new from_used) to_used;
        sorts = refl;
        extends = same_lists _ _ (same_list (λ s. (declared_by s).sorts) file.sorts before s refl)
            (ap (λ b. last (record { name = b; from = number_at g text source; to = number_at g text target })) bytes
            ∙ ap (λ n. last (record { name = hom.name; from = n; to = number_at g text target })) from
            ∙ ap (λ n. last (record { name = hom.name; from = hom.from; to = n })) to ∙ item.items)
            (same_list (λ s. (declared_by s).vars) file.vars before s refl)
            (same_list (λ s. (declared_by s).hyps) file.hyps before s refl)
            (same_list (λ s. (declared_by s).goals) file.goals before s refl)
            (ap (λ i. before ++ statement.Hom i ∷ []) item.counted);
      }
