-- The canonical text of each statement is read as the raw statement that it is, where reading goes past it.
use Rattle.std.proofs.Common.{◌≡◌, inr, ℕ, List, ◌∷◌, None, Ok, refl, sym, ap, ◌∙◌, subst}
use Rattle.std.specs.Option.{option_or}
use Rattle.alg_terms.specs.declared.file.File.{File}
use Rattle.alg_terms.specs.declared.file.Statement.{Statement}
use Rattle.alg_terms.specs.declared.file.Statement.TheVariants as statement
use Rattle.alg_terms.specs.declared.goals.Equation.{Equation}
use Rattle.alg_terms.specs.GoalRules.{IsEquation}
use Rattle.alg_terms.specs.Members.{sort_at, hom_at, hyp_at, goal_at, no_sort, no_hyp, no_goal}
use Rattle.alg_terms.specs.Valid.{IsValid}
use Rattle.alg_tokens.specs.declared.token.Token.{Token}
use Rattle.alg_tokens.specs.Laws.{tokens_of}
use Rattle.alg_reader.specs.declared.place.Place.{Place}
use Rattle.alg_reader.specs.declared.place.Place.TheVariants.{Plain}
use Rattle.alg_reader.specs.declared.raw.RawEquation.{RawEquation}
use Rattle.alg_reader.specs.declared.raw.RawKind.{RawKind}
use Rattle.alg_reader.specs.declared.raw.RawKind.TheVariants as raws
use Rattle.alg_reader.specs.declared.raw.RawMethod.{RawMethod}
use Rattle.alg_reader.specs.declared.raw.Span.{Span}
use Rattle.alg_reader.specs.Statements.{IsStatement, IsRead}
use Rattle.alg_reader.specs.Tokens.{GoesPast, TokensTo}
use Rattle.alg_reader.specs.TooDeep.{kept, kept_sides, kept_kind, first_too_deep, first_of_sides, first_of_statement}
use Rattle.alg_printer.specs.Text.{IsStatementOf}
use Rattle.alg_reading_back.proofs.WrittenTerms.{written}
use Rattle.alg_reading_back.proofs.WrittenStatements.{written_statement}
use Rattle.alg_reading_back.proofs.DerivedStatements.{sort_derived, hom_derived}
use Rattle.alg_reading_back.proofs.DerivedGoals.{vars_derived, goal_derived}
use Rattle.alg_reading_back.proofs.DerivedHyps.{hyp_derived}
use Rattle.alg_reading_back.proofs.ShallowTerms.{term_kept, term_not_deep}

-- the grammar derives it
pub statement_derived : (file : File) → IsValid file → (s : Statement) → IsStatementOf file s → (at : ℕ) →
    IsStatement Plain (tokens_of at (written_statement file s).pieces) ((written_statement file s).raw at)
statement_derived file valid (statement.Sort s) is at =
    sort_derived (sort_at file s) (valid.sorts s no_sort is) at
statement_derived file valid (statement.Hom f) is at = hom_derived file (hom_at file f) at
statement_derived file valid (statement.Vars first count) is at = vars_derived file first count is.0 at
statement_derived file valid (statement.Hyp h) is at = hyp_derived file (hyp_at file h) at
statement_derived file valid (statement.Goal i) is at = goal_derived file (goal_at file i) at

-- ---- what is kept

-- sides that are kept and have nothing too deep
sides_kept : (e : RawEquation) → kept e.left ≡ e.left → kept e.right ≡ e.right → kept_sides e ≡ e
sides_kept e h k =
    ap (λ t. record { left = t; relation = e.relation; nonzero = e.nonzero; right = kept e.right }) h
    ∙ ap (λ t. record { left = e.left; relation = e.relation; nonzero = e.nonzero; right = t }) k

none_deep : (e : RawEquation) → first_too_deep e.left ≡ None → first_too_deep e.right ≡ None → first_of_sides e ≡ None
none_deep e h k = ap (λ first. option_or first (first_too_deep e.right)) h ∙ ap (λ first. option_or None first) k

-- an equation of the file, by the places of its sides
equation_kept : (file : File) (e : Equation) → IsEquation file e → (raw : RawEquation) (left_at right_at : ℕ) →
    raw.left ≡ (written file e.left).raw left_at → raw.right ≡ (written file e.right).raw right_at →
    (kept_sides raw ≡ raw) × (first_of_sides raw ≡ None)
equation_kept file e is raw left_at right_at h k = (
  sides_kept raw (ap kept h ∙ term_kept file e.left is.left.depth left_at ∙ sym h)
      (ap kept k ∙ term_kept file e.right is.right.depth right_at ∙ sym k),
  none_deep raw (ap first_too_deep h ∙ term_not_deep file e.left is.left.depth left_at)
      (ap first_too_deep k ∙ term_not_deep file e.right is.right.depth right_at),
)

-- all of a statement is kept, and nothing in it is too deep
abbrev pub IsKept : RawKind → Type 0
IsKept kind = (kept_kind kind ≡ kind) × (first_of_statement kind ≡ None)

hyp_kept : (name : Span) (raw : RawEquation) → (kept_sides raw ≡ raw) × (first_of_sides raw ≡ None) →
    IsKept (raws.Hyp name raw)
hyp_kept name raw (whole, shallow) = (ap (λ sides. raws.Hyp name sides) whole, shallow)

goal_kept : (raw : RawEquation) (method : RawMethod) (method_at : ℕ) →
    (kept_sides raw ≡ raw) × (first_of_sides raw ≡ None) → IsKept (raws.Goal raw method method_at)
goal_kept raw method method_at (whole, shallow) = (ap (λ sides. raws.Goal sides method method_at) whole, shallow)

-- of each statement of a valid file
pub statement_kept : (file : File) → IsValid file → (s : Statement) → IsStatementOf file s → (at : ℕ) →
    IsKept ((written_statement file s).raw at)
statement_kept file valid (statement.Sort s) is at = (refl, refl)
statement_kept file valid (statement.Hom f) is at = (refl, refl)
statement_kept file valid (statement.Vars first count) is at = (refl, refl)
statement_kept file valid (statement.Hyp h) is at =
    hyp_kept _ _ (equation_kept file (hyp_at file h).equation (valid.hyps h no_hyp is).equation _ _ _ refl refl)
statement_kept file valid (statement.Goal i) is at =
    goal_kept _ _ _ (equation_kept file (goal_at file i).equation (valid.goals i no_goal is).equation _ _ _ refl refl)

-- some tokens, the first of which begins at a place
abbrev pub BeginsAt : ℕ → List Token → Type 0
BeginsAt at tokens = (first : Token) × (more : List Token) × (tokens ≡ first ∷ more) × (at ≡ first.start)

-- of each statement
pub statement_begins : (file : File) (s : Statement) (at : ℕ) →
    BeginsAt at (tokens_of at (written_statement file s).pieces)
statement_begins file (statement.Sort s) at = (_, _, refl, refl)
statement_begins file (statement.Hom f) at = (_, _, refl, refl)
statement_begins file (statement.Vars first count) at = (_, _, refl, refl)
statement_begins file (statement.Hyp h) at = (_, _, refl, refl)
statement_begins file (statement.Goal i) at = (_, _, refl, refl)

-- ---- what is read

-- a statement of a place that stands and is passed
pub read_of : (place : Place) (text : List ℕ) (from at stop : ℕ) (tokens : List Token) (kind : RawKind) →
    BeginsAt at tokens → TokensTo text from tokens stop → GoesPast 0 tokens →
    IsStatement place tokens kind → IsKept kind →
    IsRead place text from (Ok (record { kind = kind; start = at; stop = stop; too_deep = None }))
unfolding IsRead
read_of place text from at stop tokens kind (first, more, is, starts) reaches passes derived (whole, shallow) =
    inr (
      first,
      more,
      subst (λ ts. TokensTo text from ts stop) is reaches,
      subst (GoesPast 0) is passes,
      starts,
      (kind, subst (λ ts. IsStatement place ts kind) is derived, (sym whole, sym shallow)),
    )

-- where a text has its tokens and reading goes past them, it is read there
pub statement_read : (file : File) → IsValid file → (s : Statement) → IsStatementOf file s →
    (text : List ℕ) (from at stop : ℕ) → TokensTo text from (tokens_of at (written_statement file s).pieces) stop →
    GoesPast 0 (tokens_of at (written_statement file s).pieces) →
    IsRead Plain text from
    (Ok (record { kind = (written_statement file s).raw at; start = at; stop = stop; too_deep = None }))
statement_read file valid s is text from at stop reaches passes =
    read_of Plain text from at stop (tokens_of at (written_statement file s).pieces)
    ((written_statement file s).raw at)
    (statement_begins file s at) reaches passes (statement_derived file valid s is at)
    (statement_kept file valid s is at)
