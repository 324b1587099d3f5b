-- The faults of the sorts, quotients, methods and options of statements, once all names are resolved.
use Rattle.std.specs.Prelude.{ℕ, Bool, true, false, not, ◌||◌, ◌&&◌, ◌==◌, nat_lt, List, [], ◌∷◌, ◌++◌, flat_map, Option, Some, is_none}
use Rattle.std.specs.Int.RustNames.{unsigned_abs}
use Rattle.std.specs.Option.{option_or, option_map_or}
use Rattle.alg_terms.specs.declared.file.File.{File}
use Rattle.alg_terms.specs.Limits.{MIN_POWER, MAX_POWER, MIN_LIMIT, MAX_LIMIT}
use Rattle.alg_terms.specs.Members.{kind_of, source_of, target_of, hyp_at}
use Rattle.alg_tokens.specs.declared.code.Code.TheVariants as code
use Rattle.alg_tokens.specs.declared.token.Refusal.{Refusal}
use Rattle.alg_reader.specs.declared.raw.RawEquation.{RawEquation}
use Rattle.alg_reader.specs.declared.raw.RawKind.{RawKind}
use Rattle.alg_reader.specs.declared.raw.RawKind.TheVariants as raws
use Rattle.alg_reader.specs.declared.raw.RawMethod.{RawMethod}
use Rattle.alg_reader.specs.declared.raw.RawMethod.TheVariants as methods
use Rattle.alg_reader.specs.declared.raw.RawNumber.{RawNumber}
use Rattle.alg_reader.specs.declared.raw.RawUse.{RawUse}
use Rattle.alg_reader.specs.declared.raw.Span.{Span}
use Rattle.alg_typing.specs.Faults.{fault_if}
use Rattle.alg_typing.specs.Resolved.{number_at}
use Rattle.alg_typing.specs.TermSorts.{is_ring, is_field, differ, is_no_field, sorted}

-- where a use begins
abbrev pub start_of : RawUse → ℕ
start_of used = elim used.path [ [] ↦ used.hyp.start | name ∷ names ↦ name.start ]

-- an option's numeral is not from the least to the greatest
abbrev pub option_range : ℕ → ℕ → Option RawNumber → List Refusal
option_range low high number =
    let outside : ℕ → Bool = λ value. nat_lt value low || nat_lt high value in
    option_map_or (λ n. fault_if (outside (unsigned_abs n.value)) code.Option n.at) number []

module _ (file : File) (text : List ℕ) where
  -- the sort of an equation, where a side has an own sort
  abbrev pub sort_of_sides : RawEquation → Option ℕ
  sort_of_sides e = option_or (sorted file text false e.left).own (sorted file text false e.right).own

  -- the faults of an equation: own sorts that differ, or none, at its relation
  abbrev pub equation_sorts : Bool → RawEquation → List Refusal
  equation_sorts may_divide e =
      let left = sorted file text may_divide e.left in
      let right = sorted file text may_divide e.right in
      let final = option_or left.own right.own in
      left.faults final true ++ right.faults final true ++ fault_if (differ left.own right.own) code.Sort e.relation
      ++ fault_if (is_none final) code.NoSort e.relation

  -- the sort of a hypothesis under a path of morphisms
  abbrev pub sort_along : List Span → ℕ → ℕ
  sort_along [] hyp = (hyp_at file hyp).equation.sort
  sort_along (name ∷ names) hyp = target_of file (number_at file text name)

  -- each morphism of a path has what it is used on as its source
  abbrev pub path_sorts : List Span → ℕ → List Refusal
  path_sorts [] hyp = []
  path_sorts (name ∷ names) hyp =
      fault_if (not (sort_along names hyp == source_of file (number_at file text name))) code.Sort name.start
      ++ path_sorts names hyp

  -- a `<>` under a morphism is one of a field
  abbrev pub is_bad_unequal : List Span → ℕ → Bool
  is_bad_unequal [] hyp = false
  is_bad_unequal (name ∷ names) hyp =
      let used = hyp_at file hyp in
      used.nonzero && not (is_field (kind_of file used.equation.sort))

  -- the faults of a use in a goal of this sort: of its path, of its sort, of a `<>` under a path
  abbrev pub use_sorts : Option ℕ → RawUse → List Refusal
  use_sorts final used =
      let hyp = number_at file text used.hyp in
      path_sorts used.path hyp ++ fault_if (differ (Some (sort_along used.path hyp)) final) code.Sort (start_of used)
      ++ fault_if (is_bad_unequal used.path hyp) code.NotField (start_of used)

  -- the faults of a method in a goal of this sort: by field elsewhere than in a field, by nsatz in a ring that is
  -- no domain, and those of its uses and options
  abbrev pub method_sorts : Option ℕ → ℕ → RawMethod → List Refusal
  method_sorts final method_at methods.Ring = []
  method_sorts final method_at methods.Field = fault_if (is_no_field file text final) code.NotField method_at
  method_sorts final method_at (methods.Nsatz uses power limit) =
      fault_if (option_map_or (λ s. is_ring (kind_of file s)) final false) code.NotDomain method_at
      ++ flat_map (use_sorts final) uses ++ option_range MIN_POWER MAX_POWER power
      ++ option_range MIN_LIMIT MAX_LIMIT limit

  -- whether a goal by this method may have quotients
  abbrev pub may_divide_by : RawMethod → Bool
  may_divide_by methods.Field = true
  may_divide_by _ = false

  -- the faults of a declaration or a goal
  abbrev pub sort_faults : RawKind → List Refusal
  sort_faults (raws.Hyp name e) = equation_sorts false e
  sort_faults (raws.Goal e method method_at) =
      equation_sorts (may_divide_by method) e ++ method_sorts (sort_of_sides e) method_at method
  sort_faults _ = []
