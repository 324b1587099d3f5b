-- The raw equation of a canonical text comes back as the equation, without fault, in the front of a file.
use Rattle.std.proofs.Common.{◌≡◌, ℕ, ◌+◌, Bool, true, false, List, [], ◌∷◌, ◌++◌, Some, sym, ap, ◌∙◌}
use Rattle.std.specs.Prelude.{unwrap_or, is_none}
use Rattle.std.specs.Option.{option_or}
use Rattle.alg_terms.specs.declared.file.File.{File}
use Rattle.alg_terms.specs.declared.goals.Equation.{Equation}
use Rattle.alg_terms.specs.declared.term.Term.{Term}
use Rattle.alg_terms.specs.GoalRules.{IsEquation}
use Rattle.alg_terms.specs.Nodes.{EachNode}
use Rattle.alg_terms.specs.Sorts.{own_sort, equation_sort, Agree}
use Rattle.alg_terms.specs.TermRules.{IsTerm, IsInRange}
use Rattle.alg_terms.specs.Valid.{names_of}
use Rattle.alg_tokens.specs.Laws.{width}
use Rattle.alg_tokens.specs.Pieces.{Piece}
use Rattle.alg_tokens.specs.declared.code.Code.TheVariants as code
use Rattle.alg_reader.specs.declared.raw.RawEquation.{RawEquation}
use Rattle.alg_reader.specs.declared.raw.RawTerm.{RawTerm}
use Rattle.alg_typing.specs.NameFaults.{term_names, equation_names}
use Rattle.alg_typing.specs.Resolved.{term_of, equation_of}
use Rattle.alg_typing.specs.SortFaults.{equation_sorts, sort_of_sides}
use Rattle.alg_typing.specs.TermSorts.{sorted, differ}
use Rattle.alg_typing.proofs.FreshNames.{AreDistinct}
use Rattle.alg_typing.proofs.Growing.{Grows, agree_same}
use Rattle.alg_typing.proofs.GrowingTerms.{own_same, or_same}
use Rattle.alg_typing.proofs.Resolving.{own_resolved}
use Rattle.alg_typing.proofs.SortsClear.{Divides, never_differ, no_cause, term_clear}
use Rattle.alg_reading_back.proofs.WrittenStatements.{written_sides, relation_sign}
use Rattle.alg_reading_back.proofs.WrittenTerms.{written, space, sign}
use Rattle.alg_reading_back.proofs.PiecesAt.{PiecesAt, pieces_at_left, pieces_at_right}
use Rattle.alg_reading_back.proofs.Shrinking.{rules}
use Rattle.alg_reading_back.proofs.TermsBack.{term_back}
use Rattle.alg_reading_back.proofs.UsedBefore.{AreInRange}

-- four lists that are empty
four_empty : {X : Type 0} (a b c d : List X) → a ≡ [] → b ≡ [] → c ≡ [] → d ≡ [] → a ++ b ++ c ++ d ≡ []
four_empty a b c d p q r s = cc

-- an equation by its parts
equation_by : (e : Equation) (sort : ℕ) (left right : Term) → sort ≡ e.sort → left ≡ e.left → right ≡ e.right →
    record { sort = sort; left = left; right = right } ≡ e
equation_by e sort left right p q r =
    ap (λ s. record { sort = s; left = left; right = right }) p
    ∙ ap (λ t. record { sort = e.sort; left = t; right = right }) q
    ∙ ap (λ t. record { sort = e.sort; left = e.left; right = t }) r

-- an equation that comes back: its names and its sorts have no faults
pub record IsEquationBack (g : File) (text : List ℕ) (may_divide : Bool) (e : Equation)
    (raw : RawEquation) : Type 0 where
  pub names : equation_names g text raw ≡ []
  pub sorts : equation_sorts g text may_divide raw ≡ []
  pub equation : equation_of g text raw ≡ e
  pub sort : sort_of_sides g text raw ≡ Some e.sort

-- one side of it, at the equation's sort
record IsSideBack (g : File) (text : List ℕ) (may_divide : Bool) (sort : ℕ) (t : Term) (raw : RawTerm) : Type 0 where
  term : term_of g text raw ≡ t
  names : term_names g text raw ≡ []
  sorts : (sorted g text may_divide raw).faults (Some sort) true ≡ []
  own : (b : Bool) → (sorted g text b raw).own ≡ own_sort g t

-- where both sides come back
module _ (g : File) (text : List ℕ) (may_divide : Bool) (e : Equation) (raw : RawEquation)
    (left : IsSideBack g text may_divide e.sort e.left raw.left)
    (right : IsSideBack g text may_divide e.sort e.right raw.right)
    (agree : Agree (own_sort g e.left) (own_sort g e.right)) (sort : equation_sort g e.left e.right ≡ Some e.sort) where
  sort_same : (b : Bool) → option_or (sorted g text b raw.left).own (sorted g text b raw.right).own ≡ Some e.sort
  sort_same b =
      ap (λ o. option_or o (sorted g text b raw.right).own) (left.own b)
      ∙ ap (option_or (own_sort g e.left)) (right.own b) ∙ sort

  sorts_clear : equation_sorts g text may_divide raw ≡ []
  sorts_clear =
      let l = sorted g text may_divide raw.left in
      let r = sorted g text may_divide raw.right in
      let final = option_or l.own r.own in
      let same : final ≡ Some e.sort = sort_same may_divide in
      let apart : differ l.own r.own ≡ false =
      ap (λ o. differ o r.own) (left.own may_divide) ∙ ap (differ (own_sort g e.left)) (right.own may_divide)
      ∙ never_differ (own_sort g e.left) (own_sort g e.right) agree in
      four_empty _ _ _ _ (ap (λ o. l.faults o true) same ∙ left.sorts) (ap (λ o. r.faults o true) same ∙ right.sorts)
      (no_cause (differ l.own r.own) code.Sort raw.relation apart)
      (no_cause (is_none final) code.NoSort raw.relation (ap is_none same))

  sides_back : IsEquationBack g text may_divide e raw
  sides_back =
      let found : equation_sort g (term_of g text raw.left) (term_of g text raw.right) ≡ Some e.sort =
      ap (λ t. equation_sort g t (term_of g text raw.right)) left.term ∙ ap (equation_sort g e.left) right.term
      ∙ sort in
      record {
        names = ap (λ x. x ++ term_names g text raw.right) left.names ∙ right.names;
        sorts = sorts_clear;
        equation = equation_by e _ _ _ (ap (λ o. unwrap_or o 0) found) left.term right.term;
        sort = sort_same false;
      }

-- an equation of a file that is in range in its front, and divides there only where it may
module _ (file g : File) (text : List ℕ) (distinct : AreDistinct (names_of g)) (grows : Grows g file)
    (may_divide : Bool) (e : Equation) (is : IsEquation file e) (range : AreInRange g e) where
  side : (t : Term) (at : ℕ) → EachNode (IsInRange g) t → IsTerm file t → Divides g may_divide e.sort [] t →
      PiecesAt text at (written file t).pieces → IsSideBack g text may_divide e.sort t ((written file t).raw at)
  side t at here whole divides placed =
      let read = (written file t).raw at in
      let back = term_back file g text distinct grows t here at placed in
      record {
        term = back.0;
        names = back.1;
        sorts = term_clear g text may_divide t read e.sort back.0 (rules g file grows t here whole) divides;
        own = λ b. own_resolved g text b read.head read.node ∙ ap (own_sort g) back.0;
      }

  -- in the front its sides have the sorts that they have in the file
  own_there : (t : Term) → EachNode (IsInRange g) t → own_sort g t ≡ own_sort file t
  own_there t here = sym (own_same g file grows t here)

  agree_there : Agree (own_sort g e.left) (own_sort g e.right)
  agree_there =
      agree_same (own_sort file e.left) (own_sort file e.right) (own_sort g e.left) (own_sort g e.right)
      (own_there e.left range.left) (own_there e.right range.right) is.sides

  pub sort_there : equation_sort g e.left e.right ≡ Some e.sort
  sort_there =
      or_same (own_sort file e.left) (own_sort file e.right) (own_sort g e.left) (own_sort g e.right)
      (own_there e.left range.left) (own_there e.right range.right) ∙ is.sort

  -- it comes back where its pieces stand behind others
  pub equation_back : Divides g may_divide e.sort [] e.left → Divides g may_divide e.sort [] e.right →
      (nonzero : Bool) (front rest : List Piece) (at : ℕ) →
      PiecesAt text at ((written_sides file front nonzero e).to_right ++
      ((written_sides file front nonzero e).right ++ rest)) →
      IsEquationBack g text may_divide e ((written_sides file front nonzero e).raw at)
  equation_back divides divides' nonzero front rest at placed =
      let left = (written file e.left).pieces in
      let to_relation = front ++ (left ++ (space ∷ [])) in
      let relation = sign (relation_sign nonzero) ∷ space ∷ [] in
      let to_right = to_relation ++ relation in
      let right = (written file e.right).pieces in
      let first = pieces_at_left text at to_relation relation (pieces_at_left text at to_right
      (right ++ rest) placed) in
      let from_left = pieces_at_right text at front (left ++ (space ∷ [])) first in
      let from_right = pieces_at_right text at to_right (right ++ rest) placed in
      sides_back g text may_divide e ((written_sides file front nonzero e).raw at)
      (side e.left (at + width front) range.left is.left divides
      (pieces_at_left text (at + width front) left (space ∷ []) from_left))
      (side e.right (at + width to_right) range.right is.right divides'
      (pieces_at_left text (at + width to_right) right rest from_right)) agree_there sort_there
