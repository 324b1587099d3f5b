-- The raw method of a canonical text resolves to the method, and has no faults, in the front of a file that has its
-- uses.
use Rattle.std.proofs.Common.{◌≡◌, ◌<◌, ◌≤◌, ℕ, ◌+◌, false, List, [], ◌∷◌, ◌++◌, length, map, decimal, pos, Some, refl, ap, ◌∙◌, subst, arith}
use Rattle.std.specs.Prelude.{All, nat_lt, not, ◌||◌}
use Rattle.std.specs.List.{AllByRecursion, flat_map}
use Rattle.std.proofs.lemmas.Bool.Decides.{nat_tests}
use Rattle.std.proofs.lemmas.List.Elements.{recursion_from_All}
use Rattle.alg_terms.specs.declared.declarations.Kind.{Kind}
use Rattle.alg_terms.specs.declared.declarations.Kind.TheVariants.{Ring, Domain, Field}
use Rattle.alg_terms.specs.declared.file.File.{File}
use Rattle.alg_terms.specs.declared.goals.Equation.{Equation}
use Rattle.alg_terms.specs.declared.goals.Method.{Method}
use Rattle.alg_terms.specs.declared.goals.Method.TheVariants.{ByRing, ByField, ByNsatz}
use Rattle.alg_terms.specs.declared.goals.Use.{Use}
use Rattle.alg_terms.specs.Limits.{MIN_POWER, MAX_POWER, MIN_LIMIT, MAX_LIMIT}
use Rattle.alg_terms.specs.GoalRules.{IsUse, MayBeBy}
use Rattle.alg_terms.specs.Kinds.{IsDomain, IsField}
use Rattle.alg_terms.specs.Members.{kind_of, uses_of}
use Rattle.alg_terms.specs.Valid.{names_of}
use Rattle.alg_tokens.specs.Laws.{width}
use Rattle.alg_tokens.specs.declared.code.Code.TheVariants as code
use Rattle.alg_reader.specs.declared.raw.RawMethod.{RawMethod}
use Rattle.alg_reader.specs.declared.raw.RawUse.{RawUse}
use Rattle.alg_typing.specs.Faults.{fault_if}
use Rattle.alg_typing.specs.AnswerTerms.{may_divide}
use Rattle.alg_typing.specs.NameFaults.{use_names, method_names}
use Rattle.alg_typing.specs.Resolved.{use_of, method_of}
use Rattle.alg_typing.specs.SortFaults.{use_sorts, option_range, method_sorts, may_divide_by}
use Rattle.alg_typing.specs.TermSorts.{is_ring, is_no_field}
use Rattle.alg_typing.proofs.FreshNames.{AreDistinct}
use Rattle.alg_typing.proofs.Growing.{Grows, kind_same}
use Rattle.alg_reading_back.proofs.Closed.{IsClosed}
use Rattle.alg_reading_back.proofs.WrittenMethods.{use_pieces, use_raw, later_uses, uses_pieces, uses_raw, option_pieces, method_pieces, method_raw}
use Rattle.alg_reading_back.proofs.NamesTaken.{two_empty}
use Rattle.alg_reading_back.proofs.PiecesAt.{PiecesAt, pieces_at_left, pieces_at_right}
use Rattle.alg_typing.proofs.SortsClear.{field_passes, no_cause}
use Rattle.alg_reading_back.proofs.UsesBack.{IsUseInRange, use_back, use_clear}

-- a domain is no mere ring by the test
no_ring : (kind : Kind) → IsDomain kind → is_ring kind ≡ false
no_ring Ring h = absurd h
no_ring Domain h = refl
no_ring Field h = refl

-- an option in its range has no fault
option_clear : (low high value at : ℕ) → low ≤ value → value ≤ high →
    option_range low high (Some (record { value = pos value; at = at })) ≡ []
option_clear low high value at least most =
    no_cause (nat_lt value low || nat_lt high value) code.Option at (grind (arith, nat_tests))

-- raw uses that come back
pub record AreUsesBack (g : File) (text : List ℕ) (uses : List Use) (raws : List RawUse) : Type 0 where
  pub back : map (use_of g text) raws ≡ uses
  pub names : flat_map (use_names g text) raws ≡ []

-- a raw method that comes back in a goal of a sort
pub record IsMethodBack (g : File) (text : List ℕ) (sort method_at : ℕ) (m : Method) (raw : RawMethod) : Type 0 where
  pub back : method_of g text raw ≡ m
  pub names : method_names g text raw ≡ []
  pub sorts : method_sorts g text (Some sort) method_at raw ≡ []

module _ (file g : File) (text : List ℕ) where
  -- whether it may have quotients is told by the raw method
  pub may_divide_back : (at : ℕ) (m : Method) → may_divide_by g text (method_raw file at m) ≡ may_divide m
  may_divide_back at ByRing = refl
  may_divide_back at ByField = refl
  may_divide_back at (ByNsatz uses power limit) = refl

  -- each use's pieces stand where its raw use begins
  abbrev pub UsesAt : ℕ → List Use → Type 0
  UsesAt at [] = Unit {0}
  UsesAt at (used ∷ uses) =
      PiecesAt text at (use_pieces file used) × UsesAt (at + width (use_pieces file used) + 2) uses

  later_uses_at : (at : ℕ) (uses : List Use) → PiecesAt text at (later_uses file uses) → UsesAt (at + 2) uses
  later_uses_at at [] placed = tt
  later_uses_at at (used ∷ uses) placed =
      let pieces = use_pieces file used in
      let place : (at + 1) + 1 ≡ at + 2 = omega arith in
      let there = subst (λ k. PiecesAt text k (pieces ++ later_uses file uses)) place placed.1.1 in (
        pieces_at_left text (at + 2) pieces (later_uses file uses) there,
        later_uses_at ((at + 2) + width pieces) uses (pieces_at_right text (at + 2) pieces
            (later_uses file uses) there),
      )

  -- all of them, behind ` using `
  pub uses_at : (at : ℕ) (uses : List Use) → PiecesAt text at (uses_pieces file uses) → UsesAt (at + 7) uses
  uses_at at [] placed = tt
  uses_at at (used ∷ uses) placed =
      let pieces = use_pieces file used in
      let place : ((at + 1) + 5) + 1 ≡ at + 7 = omega arith in
      let there = subst (λ k. PiecesAt text k (pieces ++ later_uses file uses)) place placed.1.1.1 in (
        pieces_at_left text (at + 7) pieces (later_uses file uses) there,
        later_uses_at ((at + 7) + width pieces) uses (pieces_at_right text (at + 7) pieces
            (later_uses file uses) there),
      )

module _ (file g : File) (text : List ℕ) (distinct : AreDistinct (names_of g)) (grows : Grows g file) where
  -- uses of the front come back where their pieces stand
  pub uses_back : (uses : List Use) (at : ℕ) → AllByRecursion (IsUseInRange g) uses → UsesAt file g text at uses →
      AreUsesBack g text uses (uses_raw file at uses)
  uses_back [] at range placed = record { back = refl; names = refl }
  uses_back (used ∷ uses) at range placed =
      let raw = use_raw file at used in
      let raws = uses_raw file (at + width (use_pieces file used) + 2) uses in
      let first = use_back file g text distinct grows used at range.0 placed.0 in
      let later = uses_back uses (at + width (use_pieces file used) + 2) range.1 placed.1 in
      record {
        back = ap (λ x. x ∷ map (use_of g text) raws) first.back ∙ ap (λ xs. used ∷ xs) later.back;
        names = two_empty (use_names g text raw) (flat_map (use_names g text) raws) first.names later.names;
      }

  -- those of a goal of a sort have no faults of sorts
  pub uses_clear : (s : ℕ) (uses : List Use) (at : ℕ) → IsClosed g → AllByRecursion (IsUseInRange g) uses →
      AllByRecursion (IsUse file s) uses → UsesAt file g text at uses →
      flat_map (use_sorts g text (Some s)) (uses_raw file at uses) ≡ []
  uses_clear s [] at closed range are placed = refl
  uses_clear s (used ∷ uses) at closed range are placed =
      let raws = uses_raw file (at + width (use_pieces file used) + 2) uses in
      two_empty (use_sorts g text (Some s) (use_raw file at used)) (flat_map (use_sorts g text (Some s)) raws)
      (use_clear file g text distinct grows s used at closed range.0 are.0 placed.0)
      (uses_clear s uses (at + width (use_pieces file used) + 2) closed range.1 are.1 placed.1)

  -- a method that its equation may have comes back where its pieces stand
  pub method_back : (e : Equation) (m : Method) (method_at at : ℕ) → MayBeBy file e m → e.sort < length g.sorts →
      All (IsUseInRange g) (uses_of m) → IsClosed g → PiecesAt text at (method_pieces file m) →
      IsMethodBack g text e.sort method_at m (method_raw file at m)
  method_back e ByRing method_at at may low range closed placed = record { back = refl; names = refl; sorts = refl }
  method_back e ByField method_at at may low range closed placed =
      let kind : kind_of file e.sort ≡ kind_of g e.sort = kind_same g file grows e.sort low in
      let field = field_passes (kind_of g e.sort) (subst IsField kind may.field) in
      record {
        back = refl;
        names = refl;
        sorts = no_cause (is_no_field g text (Some e.sort)) code.NotField method_at (ap not field);
      }
  method_back e (ByNsatz uses power limit) method_at at may low range closed placed =
      let there = pieces_at_left text (at + 5) (uses_pieces file uses) (option_pieces power limit) placed.1 in
      let each = uses_at file g text (at + 5) uses there in
      let in_range = recursion_from_All (IsUseInRange g) uses range in
      let are = recursion_from_All (IsUse file e.sort) uses may.each_use in
      let raws = uses_raw file (at + 5 + 7) uses in
      let back = uses_back uses (at + 5 + 7) in_range each in
      let clear = uses_clear e.sort uses (at + 5 + 7) closed in_range are each in
      let power_at = at + 5 + width (uses_pieces file uses) + 7 in
      let limit_at = power_at + length (decimal power) + 7 in
      let powers = option_range MIN_POWER MAX_POWER (Some (record { value = pos power; at = power_at })) in
      let limits = option_range MIN_LIMIT MAX_LIMIT (Some (record { value = pos limit; at = limit_at })) in
      let ring = is_ring (kind_of g e.sort) in
      let kind : kind_of file e.sort ≡ kind_of g e.sort = kind_same g file grows e.sort low in
      let domain = no_ring (kind_of g e.sort) (subst IsDomain kind may.domain) in
      let sorted = flat_map (use_sorts g text (Some e.sort)) raws in
      record {
        back = ap (λ x. ByNsatz x power limit) back.back;
        names = back.names;
        sorts = two_empty ((fault_if ring code.NotDomain method_at ++ sorted) ++ powers) limits
            (two_empty (fault_if ring code.NotDomain method_at ++ sorted) powers
            (two_empty (fault_if ring code.NotDomain method_at) sorted
            (no_cause ring code.NotDomain method_at domain) clear)
            (option_clear MIN_POWER MAX_POWER power power_at may.power_low may.power_high))
            (option_clear MIN_LIMIT MAX_LIMIT limit limit_at (omega arith) may.limit_high);
      }
