-- The grammar derives the canonical text of answers, as the raw answers that they are.
use Rattle.std.proofs.Common.{◌≡◌, ℕ, ◌+◌, List, [], ◌∷◌, ◌++◌, Some, None, pos, ℤ, length, decimal, refl, subst}
use Rattle.alg_lines.specs.declared.answer.Answer.{Answer}
use Rattle.alg_lines.specs.declared.answer.Answer.TheVariants as answer
use Rattle.alg_mono.specs.Mono.{Monomial}
use Rattle.alg_terms.specs.declared.file.File.{File}
use Rattle.alg_terms.specs.declared.term.Atom.{Atom}
use Rattle.alg_terms.specs.declared.term.Term.{Term}
use Rattle.alg_tokens.specs.declared.token.Sign.TheVariants as signs
use Rattle.alg_tokens.specs.declared.token.Token.{Token}
use Rattle.alg_tokens.specs.declared.token.TokenKind.TheVariants as kinds
use Rattle.alg_tokens.specs.declared.token.Word.TheVariants as words
use Rattle.alg_tokens.specs.Laws.{width, tokens_of}
use Rattle.alg_reader.specs.AnswerMeaning.{constants_of, term_in}
use Rattle.alg_reader.specs.declared.format.Format.{Format}
use Rattle.alg_reader.specs.declared.format.Format.TheVariants as formats
use Rattle.alg_reader.specs.declared.raw.RawAnswer.TheVariants as answers
use Rattle.alg_reader.specs.Forms as rules
use Rattle.alg_reader.specs.Forms.{seq, a, rule}
use Rattle.alg_reader.specs.Grammar as forms
use Rattle.alg_reader.specs.Grammar.{grammar, number, option, answer_or, body, constants}
use Rattle.alg_reader.specs.Meaning.{act}
use Rattle.alg_reader.specs.TermMeaning.{Value, one, two, nothing, term}
use Rattle.alg_reader.specs.TermMeaning as values
use Rattle.alg_reading_back.proofs.DerivedForms.{IsDerived, one_token, both, first_way, other_way, given, left_out, by_rule, term_means, token_before, pieces_before}
use Rattle.alg_reading_back.proofs.DerivedLists.{list_derived}
use Rattle.alg_reading_back.proofs.DerivedMonos.{number_derived, integer_derived, mono_derived}
use Rattle.alg_reading_back.proofs.DerivedStatements.{word_at}
use Rattle.alg_reading_back.proofs.DerivedTerms.{term_derived}
use Rattle.alg_reading_back.proofs.WrittenAnswers.{written_condition, written_constant, if_pieces, version_raw, power_front, power_place, answer_pieces, answer_raw}
use Rattle.alg_reading_back.proofs.WrittenLists.{comma, list_pieces, all_raw}
use Rattle.alg_reading_back.proofs.WrittenMonos.{written_mono, written_integer}
use Rattle.alg_reading_back.proofs.WrittenTerms.{written, space, sign, word, numeral}
use Rattle.alg_reading_back.proofs.DerivedConditions.{word_before, sign_before, number_at, number_before, condition_derived, constants_derived}

-- ---- answers

proved_derived : (file : File) (conditions : List Term) (at : ℕ) → IsDerived (rule rules.Proved)
    (tokens_of at (word words.Proved ∷ if_pieces (written_condition file) conditions))
    (values.answer (answers.Proved (all_raw (written_condition file) comma (at + 6 + 1 + 2 + 1) conditions)))
unfolding grammar act
proved_derived file [] at =
    by_rule rules.Proved (word_at words.Proved at ∷ []) _
    (token_before (kinds.Word words.Proved) (word_at words.Proved at) _ [] nothing refl (left_out _))
proved_derived file (c ∷ cs) at =
    let write = written_condition file in
    let pieces = list_pieces write comma c cs in
    let first = at + 6 + 1 + 2 + 1 in
    let (v, all, says) = list_derived write comma rules.Condition term_in (λ x at. term ((write x).raw at))
    (λ x at. refl) (condition_derived file) c cs first in
    let conditional = by_rule rules.Conditional (tokens_of (at + 6 + 1) (word words.If ∷ space ∷ pieces)) _
    (word_before words.If _ pieces (at + 6 + 1) _ all) in
    let whole = by_rule rules.Proved (tokens_of at (word words.Proved ∷ if_pieces write (c ∷ cs))) _
    (token_before (kinds.Word words.Proved) (word_at words.Proved at) _ _ _ refl
    (given _ _ _ (first_way (rule rules.Conditional) (rule rules.Certified) _ _ conditional))) in
    subst (λ ts. IsDerived (rule rules.Proved) (tokens_of at (word words.Proved ∷ if_pieces write (c ∷ cs)))
    (values.answer (answers.Proved ((write c).raw first ∷ ts)))) says whole

-- the power of a certificate and its constants
power_derived : (power : ℕ) (cs : List ℤ) (at : ℕ) → (v : Value) ×
    IsDerived (seq (forms.word words.Power) (seq number constants))
    (tokens_of at (word words.Power ∷ space ∷ numeral power ∷ if_pieces written_constant cs))
    (two (one (word_at words.Power at)) (two (number_at (pos power) (at + 5 + 1)) v)) ×
    (constants_of v ≡ all_raw written_constant comma (at + 5 + 1 + length (decimal power) + 1 + 2 + 1) cs)
power_derived power cs at =
    let (v, all, says) = constants_derived cs (at + 5 + 1 + length (decimal power)) in (
      v,
      word_before words.Power _ (numeral power ∷ if_pieces written_constant cs) at _
          (number_before (pos power) constants (if_pieces written_constant cs) (at + 5 + 1) v all),
      says,
    )

-- a certificate, by its version
certified_derived : (format : Format) (power : ℕ) (cs : List ℤ) (at : ℕ) → IsDerived (rule rules.Proved)
    (tokens_of at (power_front format ++ (numeral power ∷ if_pieces written_constant cs)))
    (values.answer (answers.Certified (version_raw format (at + 6 + 1))
    (record { value = pos power; at = power_place format at })
    (all_raw written_constant comma (power_place format at + length (decimal power) + 1 + 2 + 1) cs)))
unfolding grammar act
certified_derived formats.One power cs at =
    let from = at + 6 + 1 in
    let pieces = word words.Power ∷ space ∷ numeral power ∷ if_pieces written_constant cs in
    let (v, rest, says) = power_derived power cs from in
    let certified = by_rule rules.Certified (tokens_of from pieces) _
    (both (option (kinds.Word words.Version)) _ [] (tokens_of from pieces) nothing _ (left_out _) rest) in
    let whole = by_rule rules.Proved (tokens_of at (word words.Proved ∷ space ∷ pieces)) _
    (token_before (kinds.Word words.Proved) (word_at words.Proved at) _ _ _ refl
    (given _ _ _ (other_way (rule rules.Conditional) (rule rules.Certified) _ _ certified))) in
    subst (λ ns. IsDerived (rule rules.Proved) (tokens_of at (word words.Proved ∷ space ∷ pieces))
    (values.answer (answers.Certified None (record { value = pos power; at = from + 5 + 1 }) ns))) says whole
certified_derived formats.Two power cs at =
    let first = at + 6 + 1 in
    let version_at = first + 7 + 1 in
    let from = version_at + length (decimal 2) + 1 in
    let pieces = word words.Power ∷ space ∷ numeral power ∷ if_pieces written_constant cs in
    let front = word words.Version ∷ space ∷ numeral 2 ∷ space ∷ pieces in
    let (v, rest, says) = power_derived power cs from in
    let version = given (seq (a (kinds.Word words.Version)) number) _ _ (word_before words.Version number
    (numeral 2 ∷ []) first (number_at (pos 2) version_at) (number_derived (pos 2) version_at)) in
    let certified = by_rule rules.Certified (tokens_of first front) _
    (both (option (kinds.Word words.Version)) _ _ (tokens_of from pieces) _ _ version rest) in
    let whole = by_rule rules.Proved (tokens_of at (word words.Proved ∷ space ∷ front)) _
    (token_before (kinds.Word words.Proved) (word_at words.Proved at) _ _ _ refl
    (given _ _ _ (other_way (rule rules.Conditional) (rule rules.Certified) _ _ certified))) in
    subst (λ ns. IsDerived (rule rules.Proved) (tokens_of at (word words.Proved ∷ space ∷ front))
    (values.answer (answers.Certified (Some (record { value = pos 2; at = version_at }))
    (record { value = pos power; at = from + 5 + 1 }) ns))) says whole

no_derived : (file : File) (atoms : List Atom) (m : Monomial) (b c : ℤ) (at : ℕ) → IsDerived (rule rules.No)
    (tokens_of at (answer_pieces file formats.Two atoms (answer.No m b c)))
    (values.answer (answer_raw file formats.Two atoms (answer.No m b c) at))
unfolding grammar act
no_derived file atoms m b c at =
    let last = (written_integer c).pieces in
    let and = space ∷ word words.And ∷ space ∷ last in
    let from_left = (written_integer b).pieces ++ and in
    let colon = space ∷ sign signs.Colon ∷ space ∷ from_left in
    let from_mono = (written_mono file atoms m).pieces ++ colon in
    let mono_at = at + 2 + 1 + 2 + 1 in
    let colon_at = mono_at + width (written_mono file atoms m).pieces in
    let left_at = colon_at + 1 + 1 + 1 in
    let and_at = left_at + width (written_integer b).pieces in
    let right_at = and_at + 1 + 3 + 1 in
    let said_and = word_before words.And (rule rules.Int) last (and_at + 1) _ (integer_derived c right_at) in
    let said_left = pieces_before (rule rules.Int) _ (written_integer b).pieces and left_at and_at _ _ refl
    (integer_derived b left_at) said_and in
    let said_colon = sign_before signs.Colon _ (space ∷ from_left) (colon_at + 1) _ said_left in
    let said_mono = pieces_before (rule rules.Mono) _ (written_mono file atoms m).pieces colon mono_at colon_at _ _ refl
    (mono_derived file atoms m mono_at) said_colon in
    by_rule rules.No (tokens_of at (answer_pieces file formats.Two atoms (answer.No m b c))) _
    (word_before words.No _ (word words.At ∷ space ∷ from_mono) at _
    (word_before words.At _ from_mono (at + 2 + 1) _ said_mono))

zero_derived : (file : File) (t : Term) (at : ℕ) → IsDerived (rule rules.ZeroDenominator)
    (tokens_of at (word words.Zero ∷ space ∷ word words.Denominator ∷ space ∷ (written file t).pieces))
    (values.answer (answers.ZeroDenominator ((written file t).raw (at + 4 + 1 + 11 + 1))))
unfolding grammar act
zero_derived file t at =
    let pieces = (written file t).pieces in
    let there = at + 4 + 1 + 11 + 1 in
    by_rule rules.ZeroDenominator (tokens_of at (word words.Zero ∷ space ∷ word words.Denominator ∷ space ∷ pieces)) _
    (word_before words.Zero _ (word words.Denominator ∷ space ∷ pieces) at _
    (word_before words.Denominator (rule rules.Sum) pieces (at + 4 + 1) _
    (term_means rules.Sum (tokens_of there pieces) ((written file t).raw there) (term_derived file t there))))

none_derived : (power at : ℕ) → IsDerived (rule rules.NoneUpTo)
    (tokens_of at (word words.None ∷ space ∷ word words.Up ∷ space ∷ word words.To ∷ space ∷ word words.Power ∷ space
    ∷ numeral power ∷ []))
    (values.answer (answers.NoneUpTo (record { value = pos power; at = at + 4 + 1 + 2 + 1 + 2 + 1 + 5 + 1 })))
unfolding grammar act
none_derived power at =
    let power_at = at + 4 + 1 + 2 + 1 + 2 + 1 in
    let last = word words.Power ∷ space ∷ numeral power ∷ [] in
    by_rule rules.NoneUpTo
    (tokens_of at (word words.None ∷ space ∷ word words.Up ∷ space ∷ word words.To ∷ space ∷ last)) _
    (word_before words.None _ (word words.Up ∷ space ∷ word words.To ∷ space ∷ last) at _
    (word_before words.Up _ (word words.To ∷ space ∷ last) (at + 4 + 1) _
    (word_before words.To _ last (at + 4 + 1 + 2 + 1) _
    (word_before words.Power number (numeral power ∷ []) power_at _ (number_derived (pos power) (power_at + 5 + 1))))))

gave_derived : (limit at : ℕ) → IsDerived (rule rules.GaveUp)
    (tokens_of at (word words.Gave ∷ space ∷ word words.Up ∷ space ∷ word words.After ∷ space ∷ numeral limit ∷ []))
    (values.answer (answers.GaveUp (record { value = pos limit; at = at + 4 + 1 + 2 + 1 + 5 + 1 })))
unfolding grammar act
gave_derived limit at =
    let after_at = at + 4 + 1 + 2 + 1 in
    let last = word words.After ∷ space ∷ numeral limit ∷ [] in
    by_rule rules.GaveUp (tokens_of at (word words.Gave ∷ space ∷ word words.Up ∷ space ∷ last)) _
    (word_before words.Gave _ (word words.Up ∷ space ∷ last) at _
    (word_before words.Up _ last (at + 4 + 1) _
    (word_before words.After number (numeral limit ∷ []) after_at _ (number_derived (pos limit) (after_at + 5 + 1)))))

-- the words that stop
range_derived : (at : ℕ) → IsDerived (rule rules.Stopped) (word_at words.Range at ∷ []) (values.answer answers.Range)
unfolding grammar act
range_derived at =
    by_rule rules.Stopped (word_at words.Range at ∷ []) _
    (first_way _ _ _ _ (one_token (kinds.Word words.Range) (word_at words.Range at) refl))

degree_derived : (at : ℕ) → IsDerived (rule rules.Stopped) (word_at words.Degree at ∷ []) (values.answer answers.Degree)
unfolding grammar act
degree_derived at =
    by_rule rules.Stopped (word_at words.Degree at ∷ []) _
    (other_way _ _ _ _ (first_way _ _ _ _ (one_token (kinds.Word words.Degree) (word_at words.Degree at) refl)))

atoms_derived : (at : ℕ) → IsDerived (rule rules.Stopped) (word_at words.Atoms at ∷ []) (values.answer answers.Atoms)
unfolding grammar act
atoms_derived at =
    by_rule rules.Stopped (word_at words.Atoms at ∷ []) _
    (other_way _ _ _ _ (other_way _ _ _ _ (one_token (kinds.Word words.Atoms) (word_at words.Atoms at) refl)))

-- where an answer may stand
stopped_way : (ts : List Token) (x : Value) → IsDerived (rule rules.Stopped) ts x → IsDerived (answer_or body) ts x
stopped_way ts x d =
    other_way _ _ ts x (other_way _ _ ts x (other_way _ _ ts x (other_way _ _ ts x (other_way _ _ ts x
    (first_way _ _ ts x d)))))

pub answer_derived : (file : File) (format : Format) (atoms : List Atom) (said : Answer) (at : ℕ) →
    IsDerived (answer_or body) (tokens_of at (answer_pieces file format atoms said))
    (values.answer (answer_raw file format atoms said at))
answer_derived file format atoms (answer.Proved conditions) at = first_way _ _ _ _ (proved_derived file conditions at)
answer_derived file format atoms (answer.Certified constants cert) at =
    first_way _ _ _ _ (certified_derived format cert.power constants at)
answer_derived file format atoms (answer.No m left right) at =
    other_way _ _ _ _ (first_way _ _ _ _ (no_derived file atoms m left right at))
answer_derived file format atoms (answer.ZeroDenominator denominator) at =
    other_way _ _ _ _ (other_way _ _ _ _ (first_way _ _ _ _ (zero_derived file denominator at)))
answer_derived file format atoms (answer.NoneUpTo power) at =
    other_way _ _ _ _ (other_way _ _ _ _ (other_way _ _ _ _ (first_way _ _ _ _ (none_derived power at))))
answer_derived file format atoms (answer.GaveUp limit) at =
    other_way _ _ _ _ (other_way _ _ _ _ (other_way _ _ _ _ (other_way _ _ _ _ (first_way _ _ _ _
    (gave_derived limit at)))))
answer_derived file format atoms answer.Atoms at = stopped_way _ _ (atoms_derived at)
answer_derived file format atoms answer.Range at = stopped_way _ _ (range_derived at)
answer_derived file format atoms answer.Degree at = stopped_way _ _ (degree_derived at)
