-- A table of names: a list of pairs of a name and what it is declared as.
use Rattle.std.specs.Prelude.{◌≡◌, ℕ, ◌+◌, List, [], ◌∷◌, ◌++◌, map, bytes_eq, Option, Some, None, if◌then◌else◌, String, string_bytes}
use Rattle.std.specs.declared.alloc.Global.{Global}
use Rattle.alg_terms.specs.declared.file.File.{File}
use Rattle.alg_typing.specs.declared.declaration.Declaration.{Declaration}
use Rattle.alg_reader.specs.declared.raw.Span.{Span}
use Rattle.alg_reader.specs.WellRead.{bytes_at}
use Rattle.alg_typing.specs.declared.declaration.Declaration.TheVariants.{Var}
use Rattle.alg_typing.specs.Names.{declared_as}

-- names with what they are declared as, in the order of addition
abbrev pub Table : Type 0
Table = List (List ℕ × Declaration)

-- what a table has for a name
abbrev pub find : Table → List ℕ → Option Declaration
find [] name = None
find (entry ∷ entries) name = if bytes_eq name entry.0 then Some entry.1 else find entries name

-- the entries of a map whose keys are texts
abbrev pub entries_of : List (String Global × Declaration) → Table
entries_of entries = map (λ entry. (string_bytes entry.0, entry.1)) entries

-- a table has each name as a file declares it
abbrev pub IsTableOf : File → Table → Type 0
IsTableOf file table = (name : List ℕ) → find table name ≡ declared_as file name

-- the entries of variables whose names stand in a text, numbered from a number on
abbrev pub var_entries : List ℕ → ℕ → List Span → Table
var_entries text number [] = []
var_entries text number (name ∷ names) = (bytes_at text name, Var number) ∷ var_entries text (number + 1) names

-- these names, one after the other, are new to a table
abbrev pub AreNew : Table → List ℕ → ℕ → List Span → Type 0
AreNew table text number [] = Unit {0}
AreNew table text number (name ∷ names) =
    (find table (bytes_at text name) ≡ None)
    × AreNew (table ++ (bytes_at text name, Var number) ∷ []) text (number + 1) names
