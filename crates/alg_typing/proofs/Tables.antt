-- A table of a file's names stays one where a declaration is added to both.
use Rattle.std.proofs.Common.{◌≡◌, ℕ, Bool, true, false, cond, List, [], ◌∷◌, ◌++◌, map, length, Option, None, Some, refl, sym, ◌∙◌, ap}
use Rattle.std.specs.Prelude.{bytes_eq, position}
use Rattle.std.specs.Option.{option_or, option_map}
use Rattle.std.proofs.lemmas.List.{map-append, length-map}
use Rattle.alg_terms.specs.declared.declarations.HomDecl.{HomDecl}
use Rattle.alg_terms.specs.declared.declarations.Sort.{Sort}
use Rattle.alg_terms.specs.declared.declarations.VarDecl.{VarDecl}
use Rattle.alg_terms.specs.declared.file.File.{File}
use Rattle.alg_terms.specs.declared.file.Statement.{Statement}
use Rattle.alg_terms.specs.declared.goals.Hyp.{Hyp}
use Rattle.alg_typing.specs.declared.declaration.Declaration.{Declaration}
use Rattle.alg_typing.specs.declared.declaration.Declaration.TheVariants as as_a
use Rattle.alg_typing.specs.Names.{declared_as}
use Rattle.alg_typing.specs.Table.{Table, find, IsTableOf}
use Rattle.alg_typing.proofs.NewNames.{same_bytes}
use Rattle.alg_typing.proofs.Positions.{position-push}

found_later : (b : Bool) (d : Declaration) (first last : Option Declaration) →
    cond b (Some d) (option_or first last) ≡ option_or (cond b (Some d) first) last
found_later true d first last = refl
found_later false d first last = refl

-- a look-up with one more entry
pub find-push : (table : Table) (key : List ℕ) (d : Declaration) (name : List ℕ) →
    find (table ++ (key, d) ∷ []) name ≡ option_or (find table name) (cond (bytes_eq name key) (Some d) None)
find-push [] key d name = refl
find-push (entry ∷ table) key d name =
    ap (λ o. cond (bytes_eq name entry.0) (Some entry.1) o) (find-push table key d name)
    ∙ found_later (bytes_eq name entry.0) entry.1 (find table name) (cond (bytes_eq name key) (Some d) None)

or-None : (x : Option Declaration) → x ≡ option_or x None
or-None None = refl
or-None (Some d) = refl

or-assoc : (x y z : Option Declaration) → option_or x (option_or y z) ≡ option_or (option_or x y) z
or-assoc None y z = refl
or-assoc (Some d) y z = refl

none_last : (x y : Option Declaration) → option_or x y ≡ None → y ≡ None
none_last None y h = h
none_last (Some d) y h = cc

-- one more name among those of one kind, before those of other kinds
among_more : (make : ℕ → Declaration) (c : Bool) (place : Option ℕ) (n : ℕ) (rest : Option Declaration) →
    (c ≡ true → option_or (option_map make place) rest ≡ None) →
    option_or (option_map make (option_or place (cond c (Some n) None))) rest
    ≡ option_or (option_or (option_map make place) rest) (cond c (Some (make n)) None)
among_more make true (Some k) n rest fresh = let h = fresh refl in cc
among_more make true None n rest fresh = ap (λ o. option_or o (Some (make n))) (sym (fresh refl))
among_more make false (Some k) n rest fresh = refl
among_more make false None n rest fresh = or-None rest

among_last : (make : ℕ → Declaration) (c : Bool) (place : Option ℕ) (n : ℕ) →
    option_map make (option_or place (cond c (Some n) None))
    ≡ option_or (option_map make place) (cond c (Some (make n)) None)
among_last make true (Some k) n = refl
among_last make true None n = refl
among_last make false (Some k) n = refl
among_last make false None n = refl

-- the place of a name among the names of a list with one more member
place_more : {X : Type 0} (name_of : X → List ℕ) (xs : List X) (x : X) (name : List ℕ) →
    position (bytes_eq name) (map name_of (xs ++ x ∷ []))
    ≡ option_or (position (bytes_eq name) (map name_of xs)) (cond (bytes_eq name (name_of x)) (Some (length xs)) None)
place_more name_of xs x name =
    ap (position (bytes_eq name)) (map-append name_of xs (x ∷ []))
    ∙ position-push (bytes_eq name) (map name_of xs) (name_of x)
    ∙ ap (λ n. option_or (position (bytes_eq name) (map name_of xs)) (cond (bytes_eq name (name_of x)) (Some n) None))
    (length-map xs name_of)

module _ (file : File) (table : Table) (is : IsTableOf file table) where
  -- a table with one more entry, where the declarations have it last
  with_entry : (key : List ℕ) (d : Declaration) (name : List ℕ) (known : Option Declaration) →
      option_or (declared_as file name) (cond (bytes_eq name key) (Some d) None) ≡ known →
      find (table ++ (key, d) ∷ []) name ≡ known
  with_entry key d name known e =
      find-push table key d name ∙ ap (λ o. option_or o (cond (bytes_eq name key) (Some d) None)) (is name) ∙ e

  -- what a name is declared as that is equal to a new one
  fresh_here : (key name : List ℕ) → declared_as file key ≡ None → bytes_eq name key ≡ true →
      declared_as file name ≡ None
  fresh_here key name fresh h = ap (declared_as file) (same_bytes name key h) ∙ fresh

  module _ (order : List Statement) where
    pub table_with_sort : (sort : Sort) → declared_as file sort.name ≡ None →
        IsTableOf (record file { sorts = file.sorts ++ sort ∷ []; order = order })
        (table ++ (sort.name, as_a.Sort (length file.sorts)) ∷ [])
    table_with_sort sort fresh = λ name.
        let place = position (bytes_eq name) (map (λ s. s.name) file.sorts) in
        let behind = option_or (option_map as_a.Hom (position (bytes_eq name) (map (λ h. h.name) file.homs)))
        (option_or (option_map as_a.Var (position (bytes_eq name) (map (λ v. v.name) file.vars)))
        (option_map as_a.Hyp (position (bytes_eq name) (map (λ h. h.name) file.hyps)))) in
        with_entry sort.name (as_a.Sort (length file.sorts)) name _
        (sym (ap (λ o. option_or (option_map as_a.Sort o) behind) (place_more (λ s. s.name) file.sorts sort name)
        ∙ among_more as_a.Sort (bytes_eq name sort.name) place (length file.sorts) behind
        (fresh_here sort.name name fresh)))

    pub table_with_hom : (hom : HomDecl) → declared_as file hom.name ≡ None →
        IsTableOf (record file { homs = file.homs ++ hom ∷ []; order = order })
        (table ++ (hom.name, as_a.Hom (length file.homs)) ∷ [])
    table_with_hom hom fresh = λ name.
        let sorts = option_map as_a.Sort (position (bytes_eq name) (map (λ s. s.name) file.sorts)) in
        let place = position (bytes_eq name) (map (λ h. h.name) file.homs) in
        let behind = option_or (option_map as_a.Var (position (bytes_eq name) (map (λ v. v.name) file.vars)))
        (option_map as_a.Hyp (position (bytes_eq name) (map (λ h. h.name) file.hyps))) in
        with_entry hom.name (as_a.Hom (length file.homs)) name _
        (sym (ap (λ o. option_or sorts (option_or (option_map as_a.Hom o) behind))
        (place_more (λ h. h.name) file.homs hom name)
        ∙ ap (option_or sorts) (among_more as_a.Hom (bytes_eq name hom.name) place (length file.homs) behind
        (λ h. none_last sorts _ (fresh_here hom.name name fresh h)))
        ∙ or-assoc sorts _ _))

    pub table_with_var : (var : VarDecl) → declared_as file var.name ≡ None →
        IsTableOf (record file { vars = file.vars ++ var ∷ []; order = order })
        (table ++ (var.name, as_a.Var (length file.vars)) ∷ [])
    table_with_var var fresh = λ name.
        let sorts = option_map as_a.Sort (position (bytes_eq name) (map (λ s. s.name) file.sorts)) in
        let homs = option_map as_a.Hom (position (bytes_eq name) (map (λ h. h.name) file.homs)) in
        let place = position (bytes_eq name) (map (λ v. v.name) file.vars) in
        let behind = option_map as_a.Hyp (position (bytes_eq name) (map (λ h. h.name) file.hyps)) in
        with_entry var.name (as_a.Var (length file.vars)) name _
        (sym (ap (λ o. option_or sorts (option_or homs (option_or (option_map as_a.Var o) behind)))
        (place_more (λ v. v.name) file.vars var name)
        ∙ ap (λ o. option_or sorts (option_or homs o))
        (among_more as_a.Var (bytes_eq name var.name) place (length file.vars) behind
        (λ h. none_last homs _ (none_last sorts _ (fresh_here var.name name fresh h))))
        ∙ ap (option_or sorts) (or-assoc homs _ _)
        ∙ or-assoc sorts _ _))

    pub table_with_hyp : (hyp : Hyp) → declared_as file hyp.name ≡ None →
        IsTableOf (record file { hyps = file.hyps ++ hyp ∷ []; order = order })
        (table ++ (hyp.name, as_a.Hyp (length file.hyps)) ∷ [])
    table_with_hyp hyp fresh = λ name.
        let sorts = option_map as_a.Sort (position (bytes_eq name) (map (λ s. s.name) file.sorts)) in
        let homs = option_map as_a.Hom (position (bytes_eq name) (map (λ h. h.name) file.homs)) in
        let vars = option_map as_a.Var (position (bytes_eq name) (map (λ v. v.name) file.vars)) in
        let place = position (bytes_eq name) (map (λ h. h.name) file.hyps) in
        with_entry hyp.name (as_a.Hyp (length file.hyps)) name _
        (sym (ap (λ o. option_or sorts (option_or homs (option_or vars (option_map as_a.Hyp o))))
        (place_more (λ h. h.name) file.hyps hyp name)
        ∙ ap (λ o. option_or sorts (option_or homs (option_or vars o)))
        (among_last as_a.Hyp (bytes_eq name hyp.name) place (length file.hyps))
        ∙ ap (λ o. option_or sorts (option_or homs o)) (or-assoc vars _ _)
        ∙ ap (option_or sorts) (or-assoc homs _ _)
        ∙ or-assoc sorts _ _))
