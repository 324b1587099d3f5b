-- The raw answer of a canonical text comes back as the answer, without fault, behind its goal in the front of a file.
use Rattle.std.proofs.Common.{◌≡◌, ◌<◌, ◌≤◌, ℕ, ◌+◌, true, false, not, nat_lt, List, [], ◌∷◌, ◌++◌, map, length, Option, Some, None, ℤ, pos, decimal, refl, ap, ◌∙◌, subst, arith}
use Rattle.std.specs.Prelude.{unwrap_or}
use Rattle.std.specs.List.{AllByRecursion}
use Rattle.std.specs.Option.{option_map_or, option_or}
use Rattle.std.proofs.lemmas.Bool.Decides.{nat_tests}
use Rattle.std.proofs.lemmas.List.Elements.{All-nil}
use Rattle.alg_lines.specs.declared.answer.Answer.{Answer}
use Rattle.alg_lines.specs.declared.answer.Answer.TheVariants as answer
use Rattle.alg_lines.specs.AnswerTerms.{terms_of}
use Rattle.alg_mono.specs.Mono.{Monomial}
use Rattle.alg_reify.specs.Table.{goal_atoms}
use Rattle.alg_terms.specs.AnswerRules.{IsAnswerTerm, MayDivide}
use Rattle.alg_terms.specs.declared.file.File.{File}
use Rattle.alg_terms.specs.declared.goals.Goal.{Goal}
use Rattle.alg_terms.specs.declared.goals.Method.{Method}
use Rattle.alg_terms.specs.declared.goals.Method.TheVariants.{ByRing, ByField, ByNsatz}
use Rattle.alg_terms.specs.declared.term.Atom.{Atom}
use Rattle.alg_terms.specs.declared.term.Term.{Term}
use Rattle.alg_terms.specs.Nodes.{EachNode}
use Rattle.alg_terms.specs.Sorts.{own_sort, sort_beside}
use Rattle.alg_terms.specs.TermRules.{IsInRange}
use Rattle.alg_terms.specs.Valid.{names_of}
use Rattle.alg_tokens.specs.declared.code.Code.TheVariants as code
use Rattle.alg_tokens.specs.declared.token.Sign.TheVariants as signs
use Rattle.alg_tokens.specs.declared.token.Word.TheVariants as words
use Rattle.alg_tokens.specs.Laws.{width}
use Rattle.alg_reader.specs.declared.format.Format.{Format}
use Rattle.alg_reader.specs.declared.format.Format.TheVariants as formats
use Rattle.alg_reader.specs.declared.raw.RawAnswer.{RawAnswer}
use Rattle.alg_reader.specs.declared.raw.RawAnswer.TheVariants as raw_answer
use Rattle.alg_reader.specs.declared.raw.RawNumber.{RawNumber}
use Rattle.alg_reader.specs.declared.raw.RawTerm.{RawTerm}
use Rattle.alg_typing.specs.AnswerTerms.{answer_sorts, may_divide}
use Rattle.alg_typing.specs.NameFaults.{term_names}
use Rattle.alg_typing.specs.Resolved.{term_of}
use Rattle.alg_typing.specs.TermSorts.{sorted}
use Rattle.alg_typing.proofs.FreshNames.{AreDistinct}
use Rattle.alg_typing.proofs.Growing.{Grows}
use Rattle.alg_typing.proofs.GrowingGoals.{sides_in_range}
use Rattle.alg_typing.proofs.GrowingTerms.{own_same}
use Rattle.alg_typing.proofs.Resolving.{own_resolved}
use Rattle.alg_typing.proofs.SortLaws.{plain_divides}
use Rattle.alg_typing.proofs.SortsClear.{Divides, no_cause, term_clear}
use Rattle.alg_annotated.specs.Monomials.{mono_faults, monomial_of}
use Rattle.alg_annotated.specs.Names.{answer_names}
use Rattle.alg_annotated.specs.Resolved.{answer_of}
use Rattle.alg_annotated.specs.Rules.{MAX_COUNT, answer_faults, belongs, count_fault, part_faults, version_fault}
use Rattle.alg_printer.specs.Printable.{HasForm, HasParts, IsCount}
use Rattle.alg_printer.proofs.Leaves.{AreAtoms}
use Rattle.alg_reading_back.proofs.AtomNumbers.{goal_once}
use Rattle.alg_reading_back.proofs.Closed.{IsClosed}
use Rattle.alg_reading_back.proofs.DividesBack.{fields_divide}
use Rattle.alg_reading_back.proofs.ListsBack.{AreOf, of_same, of_none, of_weaker, list_back}
use Rattle.alg_reading_back.proofs.MonosBack.{IsMonoBack, mono_back}
use Rattle.alg_reading_back.proofs.NamesTaken.{two_empty}
use Rattle.alg_reading_back.proofs.PiecesAt.{PiecesAt, pieces_at_left}
use Rattle.alg_reading_back.proofs.Shrinking.{rules}
use Rattle.alg_reading_back.proofs.TermsBack.{term_back}
use Rattle.alg_reading_back.proofs.WrittenAnswers.{not_zero, written_condition, written_constant, answer_pieces, answer_raw, version_raw, power_place}
use Rattle.alg_reading_back.proofs.WrittenLists.{comma, separator_pieces, all_raw}
use Rattle.alg_reading_back.proofs.WrittenMonos.{written_mono, written_integer}
use Rattle.alg_reading_back.proofs.WrittenTerms.{written, space, sign, word}

-- a count has no fault
pub count_clear : (n at : ℕ) → IsCount n → count_fault (record { value = pos n; at = at }) ≡ []
count_clear n at low =
    let small : n ≤ 4294967295 = low in
    no_cause (nat_lt MAX_COUNT n) code.Line at (grind (arith, nat_tests))

-- the version of a format has none
version_clear : (format : Format) (at : ℕ) → option_map_or version_fault (version_raw format at) [] ≡ []
version_clear formats.One at = refl
version_clear formats.Two at = refl

constants_same : (cs : List ℤ) (at : ℕ) →
    map (λ (n : RawNumber). n.value) (all_raw written_constant comma at cs) ≡ cs
constants_same [] at = refl
constants_same (c ∷ cs) at = ap (λ ns. c ∷ ns) (constants_same cs (at + width (written_constant c).pieces + width
    (separator_pieces comma)))

-- the form of an answer that belongs to its goal's method does so as it is read
belongs_back : (m : Method) (file : File) (format : Format) (atoms : List Atom) (said : Answer) (at : ℕ) →
    HasForm m said → belongs m (answer_raw file format atoms said at) ≡ true
belongs_back ByRing file format atoms (answer.Proved conditions) at form = refl
belongs_back ByField file format atoms (answer.Proved conditions) at form = refl
belongs_back (ByNsatz uses power limit) file format atoms (answer.Proved conditions) at form = absurd form
belongs_back ByRing file format atoms (answer.Certified constants cert) at form = absurd form
belongs_back ByField file format atoms (answer.Certified constants cert) at form = absurd form
belongs_back (ByNsatz uses power limit) file format atoms (answer.Certified constants cert) at form = refl
belongs_back ByRing file format atoms (answer.No m left right) at form = refl
belongs_back ByField file format atoms (answer.No m left right) at form = refl
belongs_back (ByNsatz uses power limit) file format atoms (answer.No m left right) at form = absurd form
belongs_back ByRing file format atoms (answer.ZeroDenominator denominator) at form = absurd form
belongs_back ByField file format atoms (answer.ZeroDenominator denominator) at form = refl
belongs_back (ByNsatz uses power limit) file format atoms (answer.ZeroDenominator denominator) at form = absurd form
belongs_back ByRing file format atoms (answer.NoneUpTo greatest) at form = absurd form
belongs_back ByField file format atoms (answer.NoneUpTo greatest) at form = absurd form
belongs_back (ByNsatz uses power limit) file format atoms (answer.NoneUpTo greatest) at form = refl
belongs_back ByRing file format atoms (answer.GaveUp moves) at form = absurd form
belongs_back ByField file format atoms (answer.GaveUp moves) at form = absurd form
belongs_back (ByNsatz uses power limit) file format atoms (answer.GaveUp moves) at form = refl
belongs_back ByRing file format atoms answer.Atoms at form = refl
belongs_back ByField file format atoms answer.Atoms at form = refl
belongs_back (ByNsatz uses power limit) file format atoms answer.Atoms at form = refl
belongs_back ByRing file format atoms answer.Range at form = refl
belongs_back ByField file format atoms answer.Range at form = refl
belongs_back (ByNsatz uses power limit) file format atoms answer.Range at form = refl
belongs_back ByRing file format atoms answer.Degree at form = refl
belongs_back ByField file format atoms answer.Degree at form = refl
belongs_back (ByNsatz uses power limit) file format atoms answer.Degree at form = refl

-- an answer whose lines and steps are still to come
abbrev pub opened : Answer → Answer
opened (answer.Certified constants cert) =
    answer.Certified constants (record { power = cert.power; lines = []; steps = [] })
opened said = said

module _ (file g : File) (text : List ℕ) (distinct : AreDistinct (names_of g)) (grows : Grows g file)
    (closed : IsClosed g) (goal : Goal) (low : goal.equation.sort < length g.sorts) where
  -- a term that comes back: its names and its sorts have no faults in an answer to the goal
  pub record IsTermBack (t : Term) (raw : RawTerm) : Type 0 where
    pub term : term_of g text raw ≡ t
    pub names : term_names g text raw ≡ []
    pub sorts : answer_sorts g text goal raw ≡ []

  -- a term that may stand in an answer to the goal, of the front
  abbrev pub IsTermThere : Term → Type 0
  IsTermThere t = IsAnswerTerm file goal t × EachNode (IsInRange g) t

  sort_low : (t : Term) → EachNode (IsInRange g) t → (own : Option ℕ) → own_sort g t ≡ own →
      unwrap_or own goal.equation.sort < length g.sorts
  sort_low t range None is = low
  sort_low t range (Some s) is =
      sides_in_range g closed.homs closed.vars t t s range range (ap (λ o. option_or o (own_sort g t)) is)

  divides : (t : Term) (s : ℕ) → s < length g.sorts → EachNode (IsInRange g) t → (m : Method) → MayDivide file m s t →
      Divides g (may_divide m) s [] t
  divides t s there range ByRing may = plain_divides g false t s [] may
  divides t s there range ByField may =
      fields_divide g file grows closed t s [] there range (All-nil (λ f. f < length g.homs)) may
  divides t s there range (ByNsatz uses power limit) may = plain_divides g false t s [] may

  term_there : (t : Term) (at : ℕ) → IsTermThere t → PiecesAt text at (written file t).pieces →
      IsTermBack t ((written file t).raw at)
  term_there t at (is, range) placed =
      let read = (written file t).raw at in
      let may = may_divide goal.method in
      let back = term_back file g text distinct grows t range at placed in
      let own : (sorted g text may read).own ≡ own_sort g t =
      own_resolved g text may read.head read.node ∙ ap (own_sort g) back.0 in
      let s = sort_beside g goal.equation.sort t in
      let same : sort_beside file goal.equation.sort t ≡ s =
      ap (λ o. unwrap_or o goal.equation.sort) (own_same g file grows t range) in
      let there = sort_low t range (own_sort g t) refl in
      let quotients = subst (λ s. MayDivide file goal.method s t) same is.quotients in
      record {
        term = back.0;
        names = back.1;
        sorts = ap (λ o. (sorted g text may read).faults (Some (unwrap_or o goal.equation.sort)) true) own
            ∙ term_clear g text may t read s back.0 (rules g file grows t range is.term)
            (divides t s there range goal.method quotients);
      }

  condition_there : (t : Term) (at : ℕ) → IsTermThere t → PiecesAt text at (written_condition file t).pieces →
      IsTermBack t ((written_condition file t).raw at)
  condition_there t at is placed = term_there t at is (pieces_at_left text at (written file t).pieces not_zero placed)

  abbrev atoms : List Atom
  atoms = goal_atoms file goal

  module _ (are : AreAtoms g (goal_atoms file goal)) (table : goal_atoms g goal ≡ goal_atoms file goal)
      (format : Format) where
    -- an answer that comes back behind the goal, its lines and steps aside
    pub record IsAnswerBack (said : Answer) (raw : RawAnswer) : Type 0 where
      pub names : answer_names g text raw ≡ []
      pub parts : part_faults g text goal raw ≡ []
      pub same : answer_of g text (goal_atoms g goal) raw ≡ opened said

    plain_back : (said : Answer) (at : ℕ) → answer_names g text (answer_raw file format atoms said at) ≡ [] →
        part_faults g text goal (answer_raw file format atoms said at) ≡ [] →
        answer_of g text (goal_atoms g goal) (answer_raw file format atoms said at) ≡ opened said →
        IsAnswerBack said (answer_raw file format atoms said at)
    plain_back said at names parts same = record { names = names; parts = parts; same = same }

    terms_back : (conditions : List Term) (rs : List RawTerm) → AreOf IsTermBack conditions rs →
        IsAnswerBack (answer.Proved conditions) (raw_answer.Proved rs)
    terms_back conditions rs are = record {
      names = of_none (term_names g text) conditions rs
          (of_weaker IsTermBack (λ t r. term_names g text r ≡ []) (λ t r b. b.names) conditions rs are);
      parts = of_none (answer_sorts g text goal) conditions rs
          (of_weaker IsTermBack (λ t r. answer_sorts g text goal r ≡ []) (λ t r b. b.sorts) conditions rs are);
      same = ap answer.Proved (of_same (term_of g text) conditions rs
          (of_weaker IsTermBack (λ t r. term_of g text r ≡ t) (λ t r b. b.term) conditions rs are));
    }

    no_back : (m : Monomial) (left right : ℤ) (at : ℕ) →
        let raw = (written_mono file atoms m).raw (at + 2 + 1 + 2 + 1) in
        IsMonoBack file g text distinct grows atoms are (goal_once file goal) m raw →
        IsAnswerBack (answer.No m left right) (answer_raw file format atoms (answer.No m left right) at)
    no_back m left right at back =
        let raw = (written_mono file atoms m).raw (at + 2 + 1 + 2 + 1) in
        record {
          names = back.names;
          parts = ap (λ a. mono_faults g text a raw) table ∙ back.clear;
          same = ap (λ a. answer.No (monomial_of g text a raw) left right) table
              ∙ ap (λ n. answer.No n left right) back.same;
        }

    -- each answer comes back where its pieces stand
    pub answer_back : (said : Answer) → HasParts file goal said → AllByRecursion IsTermThere (terms_of said) →
        (at : ℕ) → PiecesAt text at (answer_pieces file format atoms said) →
        IsAnswerBack said (answer_raw file format atoms said at)
    answer_back (answer.Proved []) parts there at placed = terms_back [] [] tt
    answer_back (answer.Proved (c ∷ cs)) parts there at placed =
        terms_back (c ∷ cs) (all_raw (written_condition file) comma (at + 6 + 1 + 2 + 1) (c ∷ cs))
        (list_back (written_condition file) comma text IsTermThere IsTermBack condition_there c cs
        (at + 6 + 1 + 2 + 1) there.0 there.1 placed.1.1.1.1)
    answer_back (answer.Certified constants cert) parts there at placed =
        let cert_at = power_place format at in
        let constants_at = cert_at + length (decimal cert.power) + 1 + 2 + 1 in
        plain_back (answer.Certified constants cert) at refl
        (two_empty (option_map_or version_fault (version_raw format (at + 6 + 1)) []) _
        (version_clear format (at + 6 + 1)) (count_clear cert.power cert_at parts.1.power))
        (ap (λ cs. answer.Certified cs (record { power = cert.power; lines = []; steps = [] }))
        (constants_same constants constants_at))
    answer_back (answer.No m left right) parts there at placed =
        no_back m left right at (mono_back file g text distinct grows atoms are (goal_once file goal) m parts.0
        (at + 2 + 1 + 2 + 1) (pieces_at_left text (at + 2 + 1 + 2 + 1) (written_mono file atoms m).pieces
        (space ∷ sign signs.Colon ∷ space ∷ ((written_integer left).pieces
        ++ (space ∷ word words.And ∷ space ∷ (written_integer right).pieces))) placed.1.1.1.1))
    answer_back (answer.ZeroDenominator denominator) parts there at placed =
        let back = term_there denominator (at + 4 + 1 + 11 + 1) there.0 placed.1.1.1.1 in
        plain_back (answer.ZeroDenominator denominator) at back.names back.sorts (ap answer.ZeroDenominator back.term)
    answer_back (answer.NoneUpTo power) parts there at placed =
        plain_back (answer.NoneUpTo power) at refl
        (count_clear power (at + 4 + 1 + 2 + 1 + 2 + 1 + 5 + 1) parts) refl
    answer_back (answer.GaveUp limit) parts there at placed =
        plain_back (answer.GaveUp limit) at refl (count_clear limit (at + 4 + 1 + 2 + 1 + 5 + 1) parts) refl
    answer_back answer.Atoms parts there at placed = plain_back answer.Atoms at refl refl refl
    answer_back answer.Range parts there at placed = plain_back answer.Range at refl refl refl
    answer_back answer.Degree parts there at placed = plain_back answer.Degree at refl refl refl

    -- so it has no faults
    pub answer_faultless : (said : Answer) (at start : ℕ) → HasForm goal.method said →
        part_faults g text goal (answer_raw file format atoms said at) ≡ [] →
        answer_faults g text goal start (answer_raw file format atoms said at) ≡ []
    answer_faultless said at start form parts =
        two_empty _ _ (no_cause _ code.Answer start
        (ap not (belongs_back goal.method file format atoms said at form))) parts
