-- Several variables are added to a table, one after the other.
use Rattle.std.proofs.Common.{◌≡◌, ℕ, ◌+◌, Bool, true, false, ◌||◌, cond, List, [], ◌∷◌, ◌++◌, map, length, Option, None, Some, is_some, refl, sym, ◌∙◌, ap, append_assoc, append-nil, arith}
use Rattle.std.specs.Prelude.{bytes_eq}
use Rattle.std.specs.List.{list_any}
use Rattle.std.specs.Option.{option_or}
use Rattle.std.proofs.lemmas.List.{length-append}
use Rattle.alg_terms.specs.declared.declarations.VarDecl.{VarDecl}
use Rattle.alg_terms.specs.declared.file.File.{File}
use Rattle.alg_terms.specs.declared.file.Statement.{Statement}
use Rattle.alg_tokens.specs.declared.code.Code.TheVariants as code
use Rattle.alg_reader.specs.declared.raw.Span.{Span}
use Rattle.alg_reader.specs.WellRead.{bytes_at}
use Rattle.alg_typing.specs.declared.declaration.Declaration.{Declaration}
use Rattle.alg_typing.specs.declared.declaration.Declaration.TheVariants as as_a
use Rattle.alg_typing.specs.NameFaults.{new_name, new_names}
use Rattle.alg_typing.specs.Names.{declared_as}
use Rattle.alg_typing.specs.Table.{Table, find, IsTableOf, AreNew, var_entries}
use Rattle.alg_typing.proofs.NumbersInRange.{parts_empty, no_fault}
use Rattle.alg_typing.proofs.Tables.{find-push, table_with_var}

none_found : (x : Option Declaration) (b : Bool) → is_some x ≡ b → b ≡ false → x ≡ None
none_found None b e h = refl
none_found (Some d) b e h = let k = e ∙ h in cc

found_more : (x : Option Declaration) (a b c : Bool) (d : Declaration) → is_some x ≡ (a || b) →
    is_some (option_or x (cond c (Some d) None)) ≡ (a || (c || b))
found_more (Some x) true b c d e = refl
found_more (Some x) false b true d e = refl
found_more (Some x) false b false d e = e
found_more None true b c d e = let k = e in cc
found_more None false b true d e = refl
found_more None false b false d e = e

module _ (file : File) (text : List ℕ) where
  -- names without fault are new to the table
  pub are_new : (table : Table) (before : List (List ℕ)) (number : ℕ) (names : List Span) →
      ((name : List ℕ) →
      is_some (find table name) ≡ (is_some (declared_as file name) || list_any (bytes_eq name) before)) →
      new_names file text before names ≡ [] → AreNew table text number names
  are_new table before number [] has none = tt
  are_new table before number (name ∷ names) has none =
      let key = bytes_at text name in
      let parts = parts_empty (new_name file text before name) (new_names file text (key ∷ before) names) none in (
        none_found (find table key) _ (has key) (no_fault _ code.Again name.start parts.0),
        are_new (table ++ (key, as_a.Var number) ∷ []) (key ∷ before) (number + 1) names
            (λ other. ap is_some (find-push table key (as_a.Var number) other)
            ∙ found_more (find table other) _ _ (bytes_eq other key) (as_a.Var number) (has other))
            parts.1,
      )

-- with the variables the table is one of the file with them
pub table_with_vars : (file : File) (table : Table) (text : List ℕ) (sort : ℕ) (order : List Statement)
    (names : List Span)
    (number : ℕ) → number ≡ length file.vars → IsTableOf file table → AreNew table text number names →
    IsTableOf (record file {
      vars = file.vars ++ map (λ (name : Span). record { name = bytes_at text name; sort = sort }) names;
      order = order;
    }) (table ++ var_entries text number names)
table_with_vars file table text sort order [] number is_number is new = λ name.
    ap (λ t. find t name) (append-nil table) ∙ is name
    ∙ sym (ap (λ vars. declared_as (record file { vars = vars; order = order }) name) (append-nil file.vars))
table_with_vars file table text sort order (n ∷ names) number is_number is new = λ name.
    let var : VarDecl = record { name = bytes_at text n; sort = sort } in
    let one : File = record file { vars = file.vars ++ var ∷ []; order = order } in
    let entry : List ℕ × Declaration = (var.name, as_a.Var number) in
    let first : IsTableOf one (table ++ entry ∷ []) =
    λ other. ap (λ k. find (table ++ (var.name, as_a.Var k) ∷ []) other) is_number
    ∙ table_with_var file table is order var (sym (is var.name) ∙ new.0) other in
    let rest = table_with_vars one (table ++ entry ∷ []) text sort order names (number + 1)
    (omega (arith, is_number, length-append file.vars (var ∷ []))) first new.1 name in
    ap (λ t. find t name) (sym (append_assoc table (entry ∷ []) (var_entries text (number + 1) names)))
    ∙ rest
    ∙ ap (λ vars. declared_as (record file { vars = vars; order = order }) name) (append_assoc file.vars (var ∷ []) _)
