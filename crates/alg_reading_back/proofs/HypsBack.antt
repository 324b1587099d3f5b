-- A hypothesis of a valid file, in its canonical text, is taken by the front of the file before it.
use Rattle.std.proofs.Common.{◌≡◌, ◌<◌, ℕ, ◌+◌, false, List, [], ◌∷◌, ◌++◌, length, refl, ap, ◌∙◌}
use Rattle.alg_terms.specs.declared.file.File.{File}
use Rattle.alg_terms.specs.declared.file.Statement.{Statement}
use Rattle.alg_terms.specs.declared.file.Statement.TheVariants as statement
use Rattle.alg_terms.specs.declared.goals.Equation.{Equation}
use Rattle.alg_terms.specs.declared.goals.Hyp.{Hyp}
use Rattle.alg_terms.specs.Members.{hyp_at, no_hyp}
use Rattle.alg_terms.specs.Order.{declared_by}
use Rattle.alg_terms.specs.Valid.{IsValid}
use Rattle.alg_tokens.specs.declared.token.Sign.TheVariants as signs
use Rattle.alg_tokens.specs.declared.token.TokenKind.TheVariants as kinds
use Rattle.alg_tokens.specs.declared.token.Word.TheVariants as words
use Rattle.alg_tokens.specs.Laws.{width}
use Rattle.alg_reader.specs.WellRead.{bytes_at}
use Rattle.alg_typing.specs.NameFaults.{new_name, equation_names}
use Rattle.alg_typing.specs.Resolved.{equation_of}
use Rattle.alg_typing.proofs.SortLaws.{plain_divides}
use Rattle.alg_reading_back.proofs.EquationsBack.{equation_back}
use Rattle.alg_reading_back.proofs.Fresh.{fresh_hyp}
use Rattle.alg_reading_back.proofs.FrontNames.{front_distinct}
use Rattle.alg_reading_back.proofs.Fronts.{front, grows, next}
use Rattle.alg_reading_back.proofs.WrittenStatements.{written_hyp, written_sides, dot, relation_sign}
use Rattle.alg_reading_back.proofs.WrittenTerms.{written, space, sign, word, name, span}
use Rattle.alg_reading_back.proofs.NamesTaken.{new_taken, two_empty}
use Rattle.alg_reading_back.proofs.NextLists.{same_lists, same_list, next_item}
use Rattle.alg_reading_back.proofs.PiecesAt.{PiecesAt, pieces_at_left, pieces_at_right, span_bytes}
use Rattle.alg_reading_back.proofs.Taken.{IsTaken}
use Rattle.alg_reading_back.proofs.UsedBefore.{equation_low}

-- a hypothesis by its parts
hyp_by : (hyp : Hyp) (bytes : List ℕ) (equation : Equation) → bytes ≡ hyp.name → equation ≡ hyp.equation →
    record { name = bytes; equation = equation; nonzero = hyp.nonzero } ≡ hyp
hyp_by hyp bytes equation p q =
    ap (λ b. record { name = b; equation = equation; nonzero = hyp.nonzero }) p
    ∙ ap (λ e. record { name = hyp.name; equation = e; nonzero = hyp.nonzero }) q

module _ (file : File) (valid : IsValid file) (before after : List Statement) (h : ℕ)
    (split : file.order ≡ before ++ (statement.Hyp h ∷ after)) (low : h < length file.hyps) where
  abbrev g : File
  g = front file before

  abbrev hyp : Hyp
  hyp = hyp_at file h

  -- with the hypothesis the front is the next one
  hyp_added : (hyp' : Hyp) → hyp' ≡ hyp →
      record g { hyps = g.hyps ++ hyp' ∷ []; order = g.order ++ statement.Hyp (length g.hyps) ∷ [] }
      ≡ front file (before ++ statement.Hyp h ∷ [])
  hyp_added hyp' same =
      let s = statement.Hyp h in
      let item = next_item (λ s. (declared_by s).hyps) file.hyps no_hyp before s h
      (next file valid.ordered before after s split).hyps refl in
      same_lists _ (front file (before ++ s ∷ [])) (same_list (λ s. (declared_by s).sorts) file.sorts before s refl)
      (same_list (λ s. (declared_by s).homs) file.homs before s refl)
      (same_list (λ s. (declared_by s).vars) file.vars before s refl) (ap (λ x. g.hyps ++ x ∷ []) same ∙ item.items)
      (same_list (λ s. (declared_by s).goals) file.goals before s refl)
      (ap (λ n. before ++ statement.Hyp n ∷ []) item.counted)

  pub hyp_taken : (text : List ℕ) (at : ℕ) → PiecesAt text at (written_hyp file hyp).pieces →
      IsTaken g text ((written_hyp file hyp).raw at) (front file (before ++ statement.Hyp h ∷ []))
  hyp_taken text at placed =
      let s = statement.Hyp h in
      let e = hyp.equation in
      let is = valid.hyps h no_hyp low in
      let used = valid.ordered.earlier before after s split in
      let range = equation_low file valid before after s split e used.vars used.homs in
      let distinct = front_distinct file valid before in
      let item = next_item (λ s. (declared_by s).hyps) file.hyps no_hyp before s h
      (next file valid.ordered before after s split).hyps refl in
      let word_pieces = word words.Hyp ∷ space ∷ [] in
      let colon = space ∷ sign signs.Colon ∷ space ∷ [] in
      let first = word_pieces ++ (name hyp.name ∷ colon) in
      let sides = written_sides file first hyp.nonzero e in
      let relation = sign (relation_sign hyp.nonzero) ∷ space ∷ [] in
      let left = (written file e.left).pieces ++ (space ∷ []) in
      let to_left = pieces_at_left text at first left (pieces_at_left text at (first ++ left) relation
      (pieces_at_left text at sides.to_right (sides.right ++ dot) placed)) in
      let named = pieces_at_right text at word_pieces (name hyp.name ∷ colon) to_left in
      let own = span (at + width word_pieces) hyp.name in
      let bytes : bytes_at text own ≡ hyp.name = span_bytes text (at + width word_pieces) kinds.Name hyp.name colon
      named in
      let back = equation_back file g text distinct (grows file before) false e is.equation range
      (plain_divides g false e.left e.sort [] is.divides_nowhere.0)
      (plain_divides g false e.right e.sort [] is.divides_nowhere.1) hyp.nonzero first dot at placed in
      record {
        names = two_empty (new_name g text [] own) (equation_names g text (sides.raw at))
            (new_taken g text [] own hyp.name bytes (fresh_hyp file valid before h item.here item.low) tt) back.names;
        sorts = back.sorts;
        extends = hyp_added _ (hyp_by hyp (bytes_at text own) (equation_of g text (sides.raw at)) bytes back.equation);
      }
