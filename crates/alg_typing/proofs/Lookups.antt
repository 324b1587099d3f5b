-- Look-ups in a map whose keys are texts, as look-ups in a table.
use Rattle.std.proofs.Common.{◌≡◌, ℕ, List, [], ◌∷◌, ◌++◌, cond, Bool, true, false, refl, ap, String, string_bytes, Option, Some, None}
use Rattle.std.specs.Prelude.{bytes_eq}
use Rattle.std.specs.declared.alloc.Global.{Global}
use Rattle.std.specs.Map.{lookup}
use Rattle.indexmap.specs.IndexMap.{insert_entry}
use Rattle.alg_typing.specs.declared.declaration.Declaration.{Declaration}
use Rattle.alg_typing.specs.Table.{find, entries_of}

-- a look-up by text in the map is one in the table
pub lookup_find : (es : List (String Global × Declaration)) (name : List ℕ) →
    lookup (λ k. bytes_eq name (string_bytes k)) es ≡ find (entries_of es) name
lookup_find [] name = refl
lookup_find (e ∷ es) name = ap (λ o. cond (bytes_eq name (string_bytes e.0)) (Some e.1) o) (lookup_find es name)

none_here : (b : Bool) (x : Declaration) (r : Option Declaration) → cond b (Some x) r ≡ None → (b ≡ false) × (r ≡ None)
none_here true x r h = cc
none_here false x r h = (refl, h)

-- a new name goes last
pub insert_new : (es : List (String Global × Declaration)) (k : String Global) (v : Declaration) →
    find (entries_of es) (string_bytes k) ≡ None →
    entries_of (insert_entry (λ a b. bytes_eq (string_bytes a) (string_bytes b)) es k v)
    ≡ entries_of es ++ (string_bytes k, v) ∷ []
insert_new [] k v h = refl
insert_new (e ∷ es) k v h =
    let parts = none_here (bytes_eq (string_bytes k) (string_bytes e.0)) e.1 _ h in
    rw parts.0 (ap (λ t. (string_bytes e.0, e.1) ∷ t) (insert_new es k v parts.1))
