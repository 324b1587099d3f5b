-- The faults of names: declared again, not declared, or declared as something else.
use Rattle.std.specs.Prelude.{ℕ, Bool, ◌||◌, not, List, [], ◌∷◌, ◌++◌, bytes_eq, flat_map, Option, None, Some, is_some}
use Rattle.std.specs.List.{list_any}
use Rattle.alg_terms.specs.declared.file.File.{File}
use Rattle.alg_tokens.specs.declared.code.Code.TheVariants as code
use Rattle.alg_tokens.specs.declared.token.Refusal.{Refusal}
use Rattle.alg_reader.specs.declared.raw.RawEquation.{RawEquation}
use Rattle.alg_reader.specs.declared.raw.RawKind.{RawKind}
use Rattle.alg_reader.specs.declared.raw.RawKind.TheVariants as raws
use Rattle.alg_reader.specs.declared.raw.RawMethod.{RawMethod}
use Rattle.alg_reader.specs.declared.raw.RawMethod.TheVariants as methods
use Rattle.alg_reader.specs.declared.raw.RawNode.TheOpen.{RawNode-F}
use Rattle.alg_reader.specs.declared.raw.RawTerm.{RawTerm}
use Rattle.alg_reader.specs.declared.raw.RawUse.{RawUse}
use Rattle.alg_reader.specs.declared.raw.Span.{Span}
use Rattle.alg_reader.specs.RawTerms.{Node, fold_raw, of_parts}
use Rattle.alg_reader.specs.WellRead.{bytes_at}
use Rattle.alg_typing.specs.declared.declaration.Declaration.{Declaration}
use Rattle.alg_tokens.specs.Codes.{fault_at}
use Rattle.alg_typing.specs.Faults.{fault_if}
use Rattle.alg_typing.specs.Names.{declared_as, is_sort, is_hom, is_var, is_hyp}

module _ (file : File) (text : List ℕ) where
  -- the fault of a name that is used where something is wanted, by what it is declared as
  abbrev pub misuse : (Declaration → Bool) → ℕ → Option Declaration → List Refusal
  misuse is_wanted at None = fault_at code.Unknown at ∷ []
  misuse is_wanted at (Some declaration) = fault_if (not (is_wanted declaration)) code.WrongUse at

  -- the fault of a name that is used where something is wanted
  abbrev pub used_name : (Declaration → Bool) → Span → List Refusal
  used_name is_wanted name = misuse is_wanted name.start (declared_as file (bytes_at text name))

  -- the fault of a name that is to be declared, after other names in its statement
  abbrev pub new_name : List (List ℕ) → Span → List Refusal
  new_name before name =
      let bytes = bytes_at text name in
      fault_if (is_some (declared_as file bytes) || list_any (bytes_eq bytes) before) code.Again name.start

  -- the faults of several names that are to be declared, one after the other
  abbrev pub new_names : List (List ℕ) → List Span → List Refusal
  new_names before [] = []
  new_names before (name ∷ names) = new_name before name ++ new_names (bytes_at text name ∷ before) names

  -- the fault of one node's name
  abbrev pub node_name : {X : Type 0} → Node X → List Refusal
  node_name (RawNode-F.Var name) = used_name is_var name
  node_name (RawNode-F.Hom name part) = used_name is_hom name
  node_name _ = []

  -- the faults of the names of a term
  abbrev pub term_names : RawTerm → List Refusal
  term_names = fold_raw (λ head node. node_name node ++ of_parts node)

  -- of an equation
  abbrev pub equation_names : RawEquation → List Refusal
  equation_names e = term_names e.left ++ term_names e.right

  -- of a use
  abbrev pub use_names : RawUse → List Refusal
  use_names used = flat_map (used_name is_hom) used.path ++ used_name is_hyp used.hyp

  -- of a method
  abbrev pub method_names : RawMethod → List Refusal
  method_names methods.Ring = []
  method_names methods.Field = []
  method_names (methods.Nsatz uses power limit) = flat_map use_names uses

  -- the faults of the names of a declaration or a goal
  abbrev pub name_faults : RawKind → List Refusal
  name_faults raws.End = []
  name_faults (raws.Sort kind name char0) = new_name [] name
  name_faults (raws.Hom name from to) = new_name [] name ++ used_name is_sort from ++ used_name is_sort to
  name_faults (raws.Vars names sort) = new_names [] names ++ used_name is_sort sort
  name_faults (raws.Hyp name e) = new_name [] name ++ equation_names e
  name_faults (raws.Goal e method method_at) = equation_names e ++ method_names method
  name_faults _ = []
