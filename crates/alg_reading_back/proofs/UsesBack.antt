-- The raw use of a canonical text resolves to the use, and has no faults, in the front of a file that has its names.
use Rattle.std.proofs.Common.{◌≡◌, ◌≢◌, ◌<◌, ℕ, ◌+◌, Bool, true, false, List, [], ◌∷◌, ◌++◌, length, map, Some, refl, sym, ap, ◌∙◌, subst, arith}
use Rattle.std.specs.Prelude.{All, not, ◌==◌, ◌&&◌}
use Rattle.std.specs.List.{AllByRecursion, flat_map}
use Rattle.std.proofs.lemmas.Bool.Decides.{nat_tests}
use Rattle.std.proofs.lemmas.List.Elements.{All-nil, All-cons, All-head, All-tail, recursion_from_All}
use Rattle.alg_terms.specs.declared.file.File.{File}
use Rattle.alg_terms.specs.declared.goals.Use.{Use}
use Rattle.alg_terms.specs.GoalRules.{IsUse}
use Rattle.alg_terms.specs.Kinds.{IsField}
use Rattle.alg_terms.specs.Members.{kind_of, source_of, target_of, hyp_at, no_hyp}
use Rattle.alg_terms.specs.Sorts.{Leads}
use Rattle.alg_terms.specs.Valid.{names_of}
use Rattle.alg_terms.proofs.JoinedLists.{all_left, all_right}
use Rattle.alg_tokens.specs.declared.token.Sign.TheVariants as signs
use Rattle.alg_tokens.specs.declared.token.TokenKind.TheVariants as kinds
use Rattle.alg_tokens.specs.declared.token.Refusal.{Refusal}
use Rattle.alg_tokens.specs.declared.code.Code.TheVariants as code
use Rattle.alg_reader.specs.declared.raw.RawUse.{RawUse}
use Rattle.alg_typing.specs.Faults.{fault_if}
use Rattle.alg_typing.specs.NameFaults.{used_name, use_names}
use Rattle.alg_typing.specs.Names.{is_hom, is_hyp}
use Rattle.alg_typing.specs.Resolved.{number_at, use_of}
use Rattle.alg_typing.specs.SortFaults.{sort_along, path_sorts, is_bad_unequal, use_sorts, start_of}
use Rattle.alg_typing.specs.TermSorts.{is_field}
use Rattle.alg_typing.proofs.FreshNames.{AreDistinct}
use Rattle.alg_typing.proofs.Growing.{Grows, kind_same, source_same, target_same}
use Rattle.alg_printer.specs.Names.{hom_name}
use Rattle.alg_reading_back.proofs.Closed.{IsClosed}
use Rattle.alg_reading_back.proofs.WrittenMethods.{hyp_name, path_pieces, path_raw, use_pieces, use_raw}
use Rattle.alg_reading_back.proofs.WrittenTerms.{sign, span, in_parentheses}
use Rattle.alg_reading_back.proofs.NamesTaken.{hyp_used, two_empty}
use Rattle.alg_reading_back.proofs.PiecesAt.{PiecesAt, pieces_at_left, span_bytes}
use Rattle.alg_typing.proofs.SortsClear.{field_passes, no_cause}
use Rattle.alg_reading_back.proofs.TermsBack.{hom_used}

-- numbers that are equal don't differ
never_differ : (a b : ℕ) → a ≡ b → not (a == b) ≡ false
never_differ a b same = grind (arith, nat_tests)

-- what is asked where something holds does not fail
asked_holds : (asked holds : Bool) → (asked ≡ true → holds ≡ true) → asked && not holds ≡ false
asked_holds true holds h = ap not (h refl)
asked_holds false holds h = refl

-- a use by its parts
use_by : (used : Use) (path : List ℕ) (hyp : ℕ) → path ≡ used.path → hyp ≡ used.hyp →
    record { path = path; hyp = hyp } ≡ used
use_by used path hyp p q =
    ap (λ x. record { path = x; hyp = hyp }) p ∙ ap (λ x. record { path = used.path; hyp = x }) q

-- a use whose number and morphisms the file has
pub record IsUseInRange (g : File) (used : Use) : Type 0 where
  pub hyp : used.hyp < length g.hyps
  pub path : All (λ f. f < length g.homs) used.path

-- uses whose numbers and morphisms, put together, the file has
pub uses_in_range : (g : File) (uses : List Use) → All (λ h. h < length g.hyps) (map (λ used. used.hyp) uses) →
    All (λ f. f < length g.homs) (flat_map (λ used. used.path) uses) → All (IsUseInRange g) uses
uses_in_range g [] hyps homs = All-nil (IsUseInRange g)
uses_in_range g (used ∷ uses) hyps homs =
    let Low : ℕ → Type 0 = λ h. h < length g.hyps in
    let Near : ℕ → Type 0 = λ f. f < length g.homs in
    let numbers = map (λ used. used.hyp) uses in
    let paths = flat_map (λ used. used.path) uses in
    let hyp = All-head Low used.hyp numbers hyps in
    let later = uses_in_range g uses (All-tail Low used.hyp numbers hyps) (all_right Near used.path paths homs) in
    All-cons (IsUseInRange g) used uses (record { hyp = hyp; path = all_left Near used.path paths homs }) later

-- a raw use that comes back: it resolves to the use, and its names have no faults
pub record IsUseBack (g : File) (text : List ℕ) (used : Use) (raw : RawUse) : Type 0 where
  pub back : use_of g text raw ≡ used
  pub names : use_names g text raw ≡ []

module _ (file g : File) (text : List ℕ) (distinct : AreDistinct (names_of g)) (grows : Grows g file) where
  -- a raw path to a hypothesis that comes back
  record IsPathBack (path : List ℕ) (h : ℕ) (raw : RawUse) : Type 0 where
    homs : map (number_at g text) raw.path ≡ path
    hyp : number_at g text raw.hyp ≡ h
    names : use_names g text raw ≡ []

  path_back : (path : List ℕ) (h at : ℕ) → h < length g.hyps → AllByRecursion (λ f. f < length g.homs) path →
      PiecesAt text at (path_pieces file path (hyp_name file h)) →
      IsPathBack path h (path_raw file at path (hyp_name file h))
  path_back [] h at low homs placed =
      let bytes = hyp_name file h in
      let (number, named) =
      hyp_used file g text distinct grows h (span at bytes) low (span_bytes text at kinds.Name bytes [] placed) in
      record { homs = refl; hyp = number; names = named }
  path_back (f ∷ path) h at low homs placed =
      let bytes = hom_name file f in
      let pieces = path_pieces file path (hyp_name file h) in
      let rest = path_raw file (at + length bytes + 1) path (hyp_name file h) in
      let (number, named) =
      hom_used file g text distinct grows f (span at bytes) homs.0
      (span_bytes text at kinds.Name bytes (in_parentheses pieces) placed) in
      let inside = pieces_at_left text ((at + length bytes) + 1) pieces (sign signs.ParenRight ∷ []) placed.1.1 in
      let back = path_back path h (at + length bytes + 1) low homs.1 inside in
      record {
        homs = ap (λ k. k ∷ map (number_at g text) rest.path) number ∙ ap (λ ks. f ∷ ks) back.homs;
        hyp = back.hyp;
        names = ap (λ x. (x ++ flat_map (used_name g text is_hom) rest.path) ++ used_name g text is_hyp rest.hyp) named
            ∙ back.names;
      }

  -- a use of the front comes back where its pieces stand
  pub use_back : (used : Use) (at : ℕ) → IsUseInRange g used → PiecesAt text at (use_pieces file used) →
      IsUseBack g text used (use_raw file at used)
  use_back used at range placed =
      let homs = recursion_from_All (λ f. f < length g.homs) used.path range.path in
      let back = path_back used.path used.hyp at range.hyp homs placed in
      record { back = use_by used _ _ back.homs back.hyp; names = back.names }

  -- a raw path without faults of sorts to a sort
  record IsPathClear (to h : ℕ) (raw : RawUse) : Type 0 where
    along : sort_along g text raw.path h ≡ to
    clear : path_sorts g text raw.path h ≡ []

  path_clear : (path : List ℕ) (h to at : ℕ) → h < length g.hyps → AllByRecursion (λ f. f < length g.homs) path →
      Leads file path (hyp_at file h).equation.sort to → PiecesAt text at (path_pieces file path (hyp_name file h)) →
      IsPathClear to h (path_raw file at path (hyp_name file h))
  path_clear [] h to at low homs leads placed = record {
    along = sym (ap (λ hyp. hyp.equation.sort) (grows.hyps h low)) ∙ leads;
    clear = refl;
  }
  path_clear (f ∷ path) h to at low homs leads placed =
      let bytes = hom_name file f in
      let pieces = path_pieces file path (hyp_name file h) in
      let rest = path_raw file (at + length bytes + 1) path (hyp_name file h) in
      let number = (hom_used file g text distinct grows f (span at bytes) homs.0
      (span_bytes text at kinds.Name bytes (in_parentheses pieces) placed)).0 in
      let inside = pieces_at_left text ((at + length bytes) + 1) pieces (sign signs.ParenRight ∷ []) placed.1.1 in
      let below = path_clear path h (source_of file f) (at + length bytes + 1) low homs.1 leads.1 inside in
      let source : source_of file f ≡ source_of g (number_at g text (span at bytes)) =
      source_same g file grows f homs.0 ∙ ap (source_of g) (sym number) in
      let along = sort_along g text rest.path h in
      let wrong = not (along == source_of g (number_at g text (span at bytes))) in
      record {
        along = ap (target_of g) number ∙ sym (target_same g file grows f homs.0) ∙ leads.0;
        clear = ap (λ x. x ++ path_sorts g text rest.path h)
            (no_cause wrong code.Sort at (never_differ along _ (below.along ∙ source))) ∙ below.clear;
      }

  -- a `<>` under a path is one of a field, in the front too
  unequal_clear : (path : List ℕ) (h at : ℕ) → (path ≢ [] → (hyp_at g h).nonzero ≡ true →
      is_field (kind_of g (hyp_at g h).equation.sort) ≡ true) →
      is_bad_unequal g text (path_raw file at path (hyp_name file h)).path h ≡ false
  unequal_clear [] h at field = refl
  unequal_clear (f ∷ path) h at field =
      asked_holds (hyp_at g h).nonzero (is_field (kind_of g (hyp_at g h).equation.sort)) (field (λ same. absurd (cc)))

  field_there : (s : ℕ) (used : Use) → IsClosed g → IsUseInRange g used → IsUse file s used → used.path ≢ [] →
      (hyp_at g used.hyp).nonzero ≡ true → is_field (kind_of g (hyp_at g used.hyp).equation.sort) ≡ true
  field_there s used closed range is some unequal =
      let sort = (hyp_at g used.hyp).equation.sort in
      let same = grows.hyps used.hyp range.hyp in
      let field = is.nonzero (ap (λ hyp. hyp.nonzero) same ∙ unequal) some in
      let moved = subst (λ hyp. IsField (kind_of file hyp.equation.sort)) same field in
      field_passes (kind_of g sort)
      (subst IsField (kind_same g file grows sort (closed.hyps used.hyp no_hyp range.hyp)) moved)

  -- a use in a goal of its sort has no faults of sorts
  pub use_clear : (s : ℕ) (used : Use) (at : ℕ) → IsClosed g → IsUseInRange g used → IsUse file s used →
      PiecesAt text at (use_pieces file used) → use_sorts g text (Some s) (use_raw file at used) ≡ []
  use_clear s used at closed range is placed =
      let raw = use_raw file at used in
      let first = start_of raw in
      let homs = recursion_from_All (λ f. f < length g.homs) used.path range.path in
      let number = (path_back used.path used.hyp at range.hyp homs placed).hyp in
      let path = path_clear used.path used.hyp s at range.hyp homs is.sorts placed in
      let other : ℕ → Bool = λ hyp. not (sort_along g text raw.path hyp == s) in
      let bad : ℕ → Bool = λ hyp. is_bad_unequal g text raw.path hyp in
      let faults : ℕ → List Refusal =
      λ hyp. path_sorts g text raw.path hyp ++ fault_if (other hyp) code.Sort first
      ++ fault_if (bad hyp) code.NotField first in
      let no_other = no_cause (other used.hyp) code.Sort first (never_differ _ s path.along) in
      let no_bad = no_cause (bad used.hyp) code.NotField first
      (unequal_clear used.path used.hyp at (field_there s used closed range is)) in
      ap faults number
      ∙ two_empty (path_sorts g text raw.path used.hyp ++ fault_if (other used.hyp) code.Sort first)
      (fault_if (bad used.hyp) code.NotField first)
      (two_empty (path_sorts g text raw.path used.hyp)
      (fault_if (other used.hyp) code.Sort first) path.clear no_other) no_bad
