-- Names that are to be declared one after the other, with a set of those before.
use Rattle.std.proofs.Common.{◌≡◌, ℕ, ◌+◌, ◌<◌, Bool, true, false, ◌||◌, cond, List, [], ◌∷◌, ◌++◌, length, get_or, drop, refl, sym, ◌∙◌, ap, Option, String, string_bytes, is_some}
use Rattle.std.specs.Prelude.{bytes_eq}
use Rattle.std.specs.declared.alloc.Global.{Global}
use Rattle.std.specs.List.{list_any}
use Rattle.std.proofs.lemmas.List.{at_drop_more}
use Rattle.std.proofs.lemmas.List.Folds.{list_any-append}
use Rattle.std.proofs.lemmas.Slice.Eq.{bytes_eq-Decides}
use Rattle.indexmap.specs.IndexSet.{insert_key}
use Rattle.alg_terms.specs.declared.file.File.{File}
use Rattle.alg_tokens.specs.declared.code.Code.TheVariants as code
use Rattle.alg_reader.specs.declared.raw.Span.{Span}
use Rattle.alg_reader.specs.WellRead.{bytes_at}
use Rattle.alg_tokens.specs.declared.token.Refusal.{Refusal}
use Rattle.alg_typing.specs.Faults.{earlier_of, fault_if, first_of}
use Rattle.alg_typing.specs.NameFaults.{new_name, new_names}
use Rattle.alg_typing.specs.Names.{declared_as}
use Rattle.alg_typing.proofs.Firsts.{first_of-append, earlier_of-assoc}

-- equal names are the same bytes
pub same_bytes : (name other : List ℕ) → bytes_eq name other ≡ true → name ≡ other
same_bytes name other h = (bytes_eq-Decides name other).0 h

-- whether a set of texts has a name
abbrev pub has_name : List (String Global) → List ℕ → Bool
has_name keys name = list_any (λ key. bytes_eq name (string_bytes key)) keys

-- a set has exactly the names of a list
abbrev pub HasNames : List (String Global) → List (List ℕ) → Type 0
HasNames keys names = (name : List ℕ) → has_name keys name ≡ list_any (bytes_eq name) names

there_already : (keys : List (String Global)) (key : String Global) (name : List ℕ) (same : Bool) →
    bytes_eq name (string_bytes key) ≡ same → has_name keys (string_bytes key) ≡ true →
    has_name keys name ≡ (same || has_name keys name)
there_already keys key name true e h =
    ap (has_name keys) (same_bytes name (string_bytes key) e) ∙ h
there_already keys key name false e h = refl

swap_or : (a b : Bool) → (a || (b || false)) ≡ (b || a)
swap_or true true = refl
swap_or true false = refl
swap_or false true = refl
swap_or false false = refl

inserted : (keys : List (String Global)) (key : String Global) (name : List ℕ) (there : Bool) →
    has_name keys (string_bytes key) ≡ there →
    has_name (cond there keys (keys ++ key ∷ [])) name ≡ (bytes_eq name (string_bytes key) || has_name keys name)
inserted keys key name true h =
    there_already keys key name (bytes_eq name (string_bytes key)) refl h
inserted keys key name false h =
    list_any-append (λ k. bytes_eq name (string_bytes k)) keys (key ∷ [])
    ∙ swap_or (has_name keys name) (bytes_eq name (string_bytes key))

-- a set with one more name
pub HasNames-insert : (keys : List (String Global)) (key : String Global) (names : List (List ℕ)) →
    HasNames keys names →
    HasNames (insert_key (λ a b. bytes_eq (string_bytes a) (string_bytes b)) keys key) (string_bytes key ∷ names)
HasNames-insert keys key names has = λ name.
    inserted keys key name (has_name keys (string_bytes key)) refl
    ∙ ap (λ b. bytes_eq name (string_bytes key) || b) (has name)

-- one more name that is to be declared
pub new_names-turn : (file : File) (text : List ℕ) (before : List (List ℕ)) (names : List Span) (i : ℕ) (d : Span)
    (first next fault : Option Refusal) (again : Bool) → i < length names →
    again ≡ (is_some (declared_as file (bytes_at text (get_or names i d)))
    || list_any (bytes_eq (bytes_at text (get_or names i d))) before) →
    fault ≡ first_of (fault_if again code.Again (get_or names i d).start) → next ≡ earlier_of first fault →
    earlier_of next (first_of (new_names file text (bytes_at text (get_or names i d) ∷ before) (drop (i + 1) names)))
    ≡ earlier_of first (first_of (new_names file text before (drop i names)))
new_names-turn file text before names i d first next fault again within is is_fault is_next =
    let name = get_or names i d in
    let rest = first_of (new_names file text (bytes_at text name ∷ before) (drop (i + 1) names)) in
    let here : fault ≡ first_of (new_name file text before name) =
    is_fault ∙ ap (λ b. first_of (fault_if b code.Again name.start)) is in
    ap (λ o. earlier_of o rest) (is_next ∙ ap (earlier_of first) here)
    ∙ earlier_of-assoc first (first_of (new_name file text before name)) rest
    ∙ ap (earlier_of first) (sym (first_of-append (new_name file text before name) _)
    ∙ sym (at_drop_more (λ ns. first_of (new_names file text before ns)) names i d within))
