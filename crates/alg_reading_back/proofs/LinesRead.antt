-- A text that consists of lines is read line by line.
use Rattle.std.proofs.Common.{◌≡◌, ℕ, ◌+◌, ◌-◌, List, [], ◌∷◌, ◌++◌, inl, length, None, Ok, refl, sym, ap, ◌∙◌, subst, arith, append_assoc, append-nil}
use Rattle.std.specs.List.{AllByRecursion}
use Rattle.alg_tokens.specs.Laws.{width, tokens_of, CutFromAnywhere}
use Rattle.alg_tokens.proofs.Neighbours.{spell, width_append}
use Rattle.alg_reader.specs.declared.raw.RawKind.TheVariants as raws
use Rattle.alg_reader.specs.declared.reading.Raw.{Raw}
use Rattle.alg_reader.specs.Statements.{IsStatement, IsRead}
use Rattle.alg_typing.specs.Ways.{Way, Reads, GoesOnWith}
use Rattle.alg_reading_back.proofs.LineTokens.{IsLine, next_begin, line_of, line_tokens, lines_stop, line_passed}
use Rattle.alg_reading_back.proofs.SpelledStatements.{line_pieces}
use Rattle.alg_reading_back.proofs.StatementsRead.{read_of}
use Rattle.alg_reading_back.proofs.WrittenLines.{WrittenLine, lines_pieces}
use Rattle.alg_reading_back.proofs.WrittenTerms.{line_feed}

-- what is read of a line that begins at a place
abbrev pub raw_of : WrittenLine → ℕ → Raw
raw_of l at = record { kind = l.raw at; start = l.first at; stop = at + width l.pieces; too_deep = None }

module _ {S X : Type 0} (way : Way S X) where
  -- from a state on the lines are statements without faults, each at the place behind those before it, and lead to a
  -- state
  abbrev pub AreTaken : S → ℕ → List WrittenLine → S → Type 0
  AreTaken now at [] end = now ≡ end
  AreTaken now at (l ∷ lines) end =
      IsStatement (way.place now) (tokens_of at l.pieces) (l.raw at) × (way.fault now (raw_of l at) ≡ None)
      × AreTaken (way.next now (raw_of l at)) (at + width (line_pieces l.pieces)) lines end

  -- one line after the other
  pub taken_append : (one other : List WrittenLine) (now middle end : S) (at : ℕ) → AreTaken now at one middle →
      AreTaken middle (at + width (lines_pieces one)) other end → AreTaken now at (one ++ other) end
  taken_append [] other now middle end at taken later =
      let place : at + width (lines_pieces []) ≡ at = omega arith in
      subst (λ s. AreTaken s at other end) (sym taken) (subst (λ n. AreTaken middle n other end) place later)
  taken_append (l ∷ one) other now middle end at (stands, clear, taken) later =
      let rest = lines_pieces one in
      let place : at + width (lines_pieces (l ∷ one)) ≡ (at + width (line_pieces l.pieces)) + width rest =
      omega (arith, width_append (line_pieces l.pieces) rest) in (
        stands,
        clear,
        taken_append one other (way.next now (raw_of l at)) middle end (at + width (line_pieces l.pieces)) taken
            (subst (λ n. AreTaken middle n other end) place later),
      )

  module _ (law : CutFromAnywhere) (text : List ℕ) (all : List WrittenLine) (are : AllByRecursion IsLine all)
      (same : spell (lines_pieces all) ≡ text) where
    -- a line is read where it stands
    line_read : (before after : List WrittenLine) (l : WrittenLine) → all ≡ before ++ (l ∷ after) → (now : S) →
        let at = width (lines_pieces before) in
        IsStatement (way.place now) (tokens_of at l.pieces) (l.raw at) →
        IsRead (way.place now) text (at - 1) (Ok (raw_of l at))
    line_read before after l split now stands =
        let at = width (lines_pieces before) in
        let is = (line_of law text all are same before after l split).whole in
        read_of (way.place now) text (at - 1) (l.first at) (at + width l.pieces) (tokens_of at l.pieces) (l.raw at)
        (is.begins at) (line_tokens law text all are same before after l split)
        (line_passed law text all are same before after l split at) stands (is.kept at)

    -- the end of the text
    ends : (now end : S) → now ≡ end → Reads way text (width (lines_pieces all) - 1) now (Ok (way.whole end))
    unfolding IsRead
    ends now end is = (
      [],
      (
        record { kind = raws.End; start = length text; stop = length text; too_deep = None },
        inl (lines_stop law text all are same, refl),
        refl,
        ap way.whole (sym is),
      ),
    )

    reads_on : (after before : List WrittenLine) → all ≡ before ++ after → (now end : S) →
        AreTaken now (width (lines_pieces before)) after end →
        Reads way text (width (lines_pieces before) - 1) now (Ok (way.whole end))
    reads_on [] before split now end taken =
        subst (λ ls. Reads way text (width (lines_pieces ls) - 1) now (Ok (way.whole end)))
        (split ∙ append-nil before) (ends now end taken)
    reads_on (l ∷ after) before split now end (stands, clear, taken) =
        let at = width (lines_pieces before) in
        let raw = raw_of l at in
        let further = before ++ l ∷ [] in
        let wide = next_begin before l in
        let feed = width_append l.pieces (line_feed ∷ []) in
        let stop : width (lines_pieces further) - 1 ≡ raw.stop = omega (arith, wide, feed) in
        let (raws, more) = reads_on after further (split ∙ sym (append_assoc before (l ∷ []) after))
        (way.next now raw) end (subst (λ n. AreTaken (way.next now raw) n after end) (sym wide) taken) in (
          raw ∷ raws,
          (
            line_read before after l split now stands,
            (line_of law text all are same before after l split).whole.goes_on at,
            clear,
            subst (λ n. GoesOnWith way text n (way.next now raw) raws (Ok (way.whole end))) stop more,
          ),
        )

    -- lines that are taken from the first on are read as what they lead to
    pub lines_read : (first end : S) → AreTaken first 0 all end → Reads way text 0 first (Ok (way.whole end))
    lines_read first end taken = reads_on all [] refl first end taken
