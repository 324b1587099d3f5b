-- The names that a statement declares: without faults they are new to the file, and distinct.
use Rattle.std.proofs.Common.{◌≡◌, ℕ, true, false, ◌||◌, List, [], ◌∷◌, map, Option, None, Some, refl}
use Rattle.std.specs.Prelude.{All, bytes_eq, is_some}
use Rattle.std.specs.List.{AllByRecursion, list_any}
use Rattle.std.proofs.lemmas.Bool.{or_parts}
use Rattle.std.proofs.lemmas.List.Elements.{All-nil, All-cons, All-head, All-tail}
use Rattle.std.proofs.lemmas.Slice.Eq.{bytes_eq-Decides}
use Rattle.alg_terms.specs.declared.file.File.{File}
use Rattle.alg_terms.specs.Names.{IsName}
use Rattle.alg_tokens.specs.declared.code.Code.TheVariants as code
use Rattle.alg_reader.specs.declared.raw.Span.{Span}
use Rattle.alg_reader.specs.WellRead.{bytes_at, IsNameAt}
use Rattle.alg_typing.specs.NameFaults.{new_name, new_names}
use Rattle.alg_typing.specs.Names.{declared_as}
use Rattle.alg_typing.proofs.FreshNames.{AreDistinct, AreApart, IsNew, apart_cons}
use Rattle.alg_typing.proofs.NumbersInRange.{parts_empty, no_fault}
use Rattle.alg_typing.proofs.Quotients.{}

none_if : {X : Type 0} (option : Option X) → is_some option ≡ false → option ≡ None
none_if None h = refl
none_if (Some x) h = absurd (cc)

-- a name that no test finds among others is none of them
apart_if : (name : List ℕ) (others : List (List ℕ)) → list_any (bytes_eq name) others ≡ false → IsNew name others
apart_if name [] h = tt
apart_if name (other ∷ others) h =
    let (here, later) = or_parts (bytes_eq name other) (list_any (bytes_eq name) others) h in (
      λ same. let found : bytes_eq name other ≡ true = (bytes_eq-Decides name other).1 same in cc,
      apart_if name others later,
    )

module _ (file : File) (text : List ℕ) where
  -- the name is new to the file and to the names before it
  pub is_new : (before : List (List ℕ)) (name : Span) → new_name file text before name ≡ [] →
      (declared_as file (bytes_at text name) ≡ None) × IsNew (bytes_at text name) before
  is_new before name h =
      let bytes = bytes_at text name in
      let (free, other) = or_parts (is_some (declared_as file bytes)) (list_any (bytes_eq bytes) before)
      (no_fault (is_some (declared_as file bytes) || list_any (bytes_eq bytes) before) code.Again name.start h) in
      (none_if (declared_as file bytes) free, apart_if bytes before other)

  -- names that are declared one after the other
  pub record AreNewlyNamed (before names : List (List ℕ)) : Type 0 where
    pub free : AllByRecursion (λ name. declared_as file name ≡ None) names
    pub distinct : AreDistinct names
    pub apart : AreApart before names

  nothing_apart : (before : List (List ℕ)) → AreApart before []
  nothing_apart [] = tt
  nothing_apart (name ∷ before) = (tt, nothing_apart before)

  pub newly_named : (before : List (List ℕ)) (names : List Span) → new_names file text before names ≡ [] →
      AreNewlyNamed before (map (bytes_at text) names)
  newly_named before [] h = record { free = tt; distinct = tt; apart = nothing_apart before }
  newly_named before (name ∷ names) h =
      let bytes = bytes_at text name in
      let (here, later) = parts_empty (new_name file text before name) (new_names file text (bytes ∷ before) names) h in
      let (free, other) = is_new before name here in
      let rest = newly_named (bytes ∷ before) names later in
      record {
        free = (free, rest.free);
        distinct = (rest.apart.0, rest.distinct);
        apart = apart_cons bytes before (map (bytes_at text) names) other rest.apart.1;
      }

  -- they are names
  pub spelled_names : (names : List Span) → All (IsNameAt text) names → All IsName (map (bytes_at text) names)
  spelled_names [] h = All-nil IsName
  spelled_names (name ∷ names) h =
      All-cons IsName (bytes_at text name) (map (bytes_at text) names) (All-head (IsNameAt text) name names h).name
      (spelled_names names (All-tail (IsNameAt text) name names h))
