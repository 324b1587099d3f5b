-- Methods and uses without faults are those of a goal of the file once they are resolved.
use Rattle.std.proofs.Common.{◌≡◌, ◌≢◌, ◌≤◌, ◌<◌, ℕ, true, false, List, [], ◌∷◌, length, map, Option, None, Some, refl, sym, subst, arith}
use Rattle.std.specs.Prelude.{All, flat_map, nat_lt, not, ◌&&◌, ◌||◌, ◌==◌}
use Rattle.std.specs.Int.RustNames.{unsigned_abs}
use Rattle.std.proofs.lemmas.Bool.{or_parts}
use Rattle.std.proofs.lemmas.Bool.Decides.{nat_tests}
use Rattle.std.proofs.lemmas.List.{length-map}
use Rattle.std.proofs.lemmas.List.Elements.{All-nil, All-cons}
use Rattle.alg_terms.specs.declared.file.File.{File}
use Rattle.alg_terms.specs.Limits.{MIN_POWER, MAX_POWER, DEFAULT_POWER, MIN_LIMIT, MAX_LIMIT, DEFAULT_LIMIT, MAX_USES}
use Rattle.alg_terms.specs.GoalRules.{IsEquation, IsUse, MayBeBy}
use Rattle.alg_terms.specs.Kinds.{IsField}
use Rattle.alg_terms.specs.Members.{kind_of, source_of, hyp_at}
use Rattle.alg_terms.specs.Sorts.{Leads}
use Rattle.alg_tokens.specs.declared.code.Code.TheVariants as code
use Rattle.alg_reader.specs.declared.raw.RawEquation.{RawEquation}
use Rattle.alg_reader.specs.declared.raw.RawMethod.{RawMethod}
use Rattle.alg_reader.specs.declared.raw.RawMethod.TheVariants as methods
use Rattle.alg_reader.specs.declared.raw.RawNumber.{RawNumber}
use Rattle.alg_reader.specs.declared.raw.RawUse.{RawUse}
use Rattle.alg_reader.specs.declared.raw.Span.{Span}
use Rattle.alg_reader.specs.WellRead.{uses_in}
use Rattle.alg_typing.specs.NameFaults.{used_name, use_names, method_names}
use Rattle.alg_typing.specs.Names.{is_hom}
use Rattle.alg_typing.specs.Resolved.{number_at, option_of, equation_of, use_of, method_of}
use Rattle.alg_typing.specs.SortFaults.{option_range, sort_along, path_sorts, is_bad_unequal, use_sorts, start_of, method_sorts, may_divide_by, equation_sorts}
use Rattle.alg_typing.specs.TermSorts.{is_ring, is_field}
use Rattle.alg_typing.proofs.NewEquations.{divides_nowhere, divides_in_fields}
use Rattle.alg_typing.proofs.NumbersInRange.{parts_empty, no_fault, hom_number, hyp_number}
use Rattle.alg_typing.proofs.Quotients.{field_if, domain_if, not_false}

-- a test of two numbers that passes
same_if : (a b : ℕ) → (a == b) ≡ true → a ≡ b
same_if a b h = grind (arith, nat_tests)

-- an option in its range
in_range : (default low high : ℕ) (number : Option RawNumber) → low ≤ default → default ≤ high →
    option_range low high number ≡ [] → (low ≤ option_of default number) × (option_of default number ≤ high)
in_range default low high None least most h = (least, most)
in_range default low high (Some n) least most h =
    let value = unsigned_abs n.value in
    let (over, under) = or_parts (nat_lt value low) (nat_lt high value)
    (no_fault (nat_lt value low || nat_lt high value) code.Option n.at h) in
    (grind (arith, nat_tests), grind (arith, nat_tests))

module _ (file : File) (text : List ℕ) where
  -- the morphisms of a path are of the file
  path_in_range : (path : List Span) → flat_map (used_name file text is_hom) path ≡ [] →
      All (λ f. f < length file.homs) (map (number_at file text) path)
  path_in_range [] h = All-nil (λ f. f < length file.homs)
  path_in_range (name ∷ names) h =
      let (here, later) = parts_empty (used_name file text is_hom name) (flat_map (used_name file text is_hom) names)
      h in
      All-cons (λ f. f < length file.homs) (number_at file text name) (map (number_at file text) names)
      (hom_number file text name here) (path_in_range names later)

  -- a path without faults leads from the hypothesis's sort to the sort of the use
  path_leads : (path : List Span) (hyp to : ℕ) → path_sorts file text path hyp ≡ [] →
      sort_along file text path hyp ≡ to →
      Leads file (map (number_at file text) path) (hyp_at file hyp).equation.sort to
  path_leads [] hyp to h end = end
  path_leads (name ∷ names) hyp to h end =
      let (here, later) = parts_empty _ (path_sorts file text names hyp) h in
      let same = sort_along file text names hyp == source_of file (number_at file text name) in
      (end, path_leads names hyp _ later (same_if _ _ (not_false same (no_fault (not same) code.Sort name.start here))))

  -- a `<>` under a path is one of a field
  unequal_in_field : (path : List Span) (hyp : ℕ) → is_bad_unequal file text path hyp ≡ false →
      (hyp_at file hyp).nonzero ≡ true →
      map (number_at file text) path ≢ [] → IsField (kind_of file (hyp_at file hyp).equation.sort)
  unequal_in_field [] hyp h unequal some = absurd (some refl)
  unequal_in_field (name ∷ names) hyp h unequal some =
      let field = is_field (kind_of file (hyp_at file hyp).equation.sort) in
      let bad : not field ≡ false = subst (λ b. (b && not field) ≡ false) unequal h in
      field_if (kind_of file (hyp_at file hyp).equation.sort) (not_false field bad)

  -- a use without faults is one of a goal of its sort
  use_kept : (s : ℕ) (used : RawUse) → use_names file text used ≡ [] → use_sorts file text (Some s) used ≡ [] →
      IsUse file s (use_of file text used)
  use_kept s used names sorts =
      let hyp = number_at file text used.hyp in
      let (homs, named) = parts_empty (flat_map (used_name file text is_hom) used.path) _ names in
      let bad = is_bad_unequal file text used.path hyp in
      let other = sort_along file text used.path hyp == s in
      let (front, unequal) = parts_empty _ _ sorts in
      let (path, sort) = parts_empty (path_sorts file text used.path hyp) _ front in
      record {
        hyp = hyp_number file text used.hyp named;
        path = path_in_range used.path homs;
        sorts = path_leads used.path hyp s path
            (same_if _ _ (not_false other (no_fault (not other) code.Sort (start_of used) sort)));
        nonzero = unequal_in_field used.path hyp (no_fault bad code.NotField (start_of used) unequal);
      }

  uses_kept : (s : ℕ) (uses : List RawUse) → flat_map (use_names file text) uses ≡ [] →
      flat_map (use_sorts file text (Some s)) uses ≡ [] → All (IsUse file s) (map (use_of file text) uses)
  uses_kept s [] names sorts = All-nil (IsUse file s)
  uses_kept s (used ∷ uses) names sorts =
      let (here, later) = parts_empty (use_names file text used) (flat_map (use_names file text) uses) names in
      let (first, further) = parts_empty (use_sorts file text (Some s) used)
      (flat_map (use_sorts file text (Some s)) uses) sorts in
      All-cons (IsUse file s) (use_of file text used) (map (use_of file text) uses) (use_kept s used here first)
      (uses_kept s uses later further)

  -- a method without faults is one that its equation may have
  pub method_kept : (e : RawEquation) (method : RawMethod) (method_at : ℕ) → IsEquation file (equation_of file text e) →
      method_names file text method ≡ [] → equation_sorts file text (may_divide_by file text method) e ≡ [] →
      method_sorts file text (Some (equation_of file text e).sort) method_at method ≡ [] →
      uses_in method ≤ MAX_USES →
      MayBeBy file (equation_of file text e) (method_of file text method)
  method_kept e methods.Ring method_at rules names sorts own few = divides_nowhere file text e sorts
  method_kept e methods.Field method_at rules names sorts own few =
      let field = is_field (kind_of file (equation_of file text e).sort) in
      let (left, right) = divides_in_fields file text e sorts in
      record {
        field = field_if _ (not_false field (no_fault (not field) code.NotField method_at own));
        left = left;
        right = right;
      }
  method_kept e (methods.Nsatz uses power limit) method_at rules names sorts own few =
      let s = (equation_of file text e).sort in
      let (most, limits) = parts_empty _ (option_range MIN_LIMIT MAX_LIMIT limit) own in
      let (front, powers) = parts_empty _ (option_range MIN_POWER MAX_POWER power) most in
      let (ring, each) = parts_empty _ (flat_map (use_sorts file text (Some s)) uses) front in
      let (low, high) = in_range DEFAULT_POWER MIN_POWER MAX_POWER power (omega arith) (omega arith) powers in
      record {
        domain = domain_if (kind_of file s) (no_fault (is_ring (kind_of file s)) code.NotDomain method_at ring);
        divides_nowhere = divides_nowhere file text e sorts;
        each_use = uses_kept s uses names each;
        few_uses = subst (λ n. n ≤ MAX_USES) (sym (length-map uses (use_of file text))) few;
        power_low = low;
        power_high = high;
        limit_high = (in_range DEFAULT_LIMIT MIN_LIMIT MAX_LIMIT limit (omega arith) (omega arith) limits).1;
      }
