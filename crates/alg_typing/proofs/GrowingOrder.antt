-- The order of a file with one more statement.
use Rattle.std.proofs.Common.{◌≡◌, ◌<◌, ℕ, ◌+◌, List, [], ◌∷◌, ◌++◌, inl, inr, length, refl, sym, ap, ◌∙◌, subst, arith, zero-add, append-nil}
use Rattle.std.specs.Prelude.{All, Contains}
use Rattle.std.specs.List.{flat_map}
use Rattle.std.proofs.lemmas.List.Concat.{flat_map-append}
use Rattle.std.proofs.lemmas.List.Elements.{All-push, All-head, All-contains, Contains-append_right}
use Rattle.alg_terms.specs.declared.declarations.HomDecl.{HomDecl}
use Rattle.alg_terms.specs.declared.file.File.{File}
use Rattle.alg_terms.specs.declared.file.Statement.{Statement}
use Rattle.alg_terms.specs.declared.file.Statement.TheVariants as statement
use Rattle.alg_terms.specs.Members.{sort_of_var, hyp_at, goal_at}
use Rattle.alg_terms.specs.Order.{numbers_from, Members, declared_by, used_by, AreAmong, declared_by_all, members_of, IsOneSorted, IsOrdered}
use Rattle.alg_terms.proofs.JoinedLists.{all_flat}
use Rattle.alg_typing.proofs.Growing.{Grows, sort_same}
use Rattle.alg_typing.proofs.Ordering.{numbers_below, numbers_each, numbers_map, last_or_before}

-- what the statement declares is in the file
pub record IsInFile (file : File) (s : Statement) : Type 0 where
  pub homs : All (λ f. f < length file.homs) (declared_by s).homs
  pub vars : All (λ k. k < length file.vars) (declared_by s).vars
  pub hyps : All (λ h. h < length file.hyps) (declared_by s).hyps
  pub goals : All (λ i. i < length file.goals) (declared_by s).goals

-- each list of members with further ones behind it
abbrev pub with_more : Members → Members → Members
with_more members more = record {
  sorts = members.sorts ++ more.sorts;
  homs = members.homs ++ more.homs;
  vars = members.vars ++ more.vars;
  hyps = members.hyps ++ more.hyps;
  goals = members.goals ++ more.goals;
}

-- all that is declared lies below the counts
below : (count : ℕ) (f : Statement → List ℕ) (order : List Statement) → flat_map f order ≡ numbers_from 0 count →
    All (λ s. All (λ k. k < count) (f s)) order
below count f order same =
    let low = subst (λ end. All (λ k. k < end) (numbers_from 0 count)) (zero-add count) (numbers_below 0 count) in
    all_flat (λ k. k < count) f order (subst (All (λ k. k < count)) (sym same) low)

pub in_file : (file : File) → IsOrdered file → All (IsInFile file) file.order
in_file file ordered = λ n d low.
    let all = ordered.once_rising in
    record {
      homs = below (length file.homs) (λ s. (declared_by s).homs) file.order (ap (λ m. m.homs) all) n d low;
      vars = below (length file.vars) (λ s. (declared_by s).vars) file.order (ap (λ m. m.vars) all) n d low;
      hyps = below (length file.hyps) (λ s. (declared_by s).hyps) file.order (ap (λ m. m.hyps) all) n d low;
      goals = below (length file.goals) (λ s. (declared_by s).goals) file.order (ap (λ m. m.goals) all) n d low;
    }

-- an item of a list that is split at it
among_split : {X : Type 0} (before after : List X) (x : X) → Contains (before ++ x ∷ after) x
among_split before after x =
    Contains-append_right before (x ∷ after) x (0, omega arith, refl)

-- what statements declare with one more behind them
pub declared_with : (order : List Statement) (s : Statement) →
    declared_by_all (order ++ s ∷ []) ≡ with_more (declared_by_all order) (declared_by s)
declared_with order s = simp (flat_map-append, append-nil)

module _ (old new : File) (grows : Grows old new) where
  -- a statement uses what it used
  used_same : (s : Statement) → IsInFile old s → used_by new s ≡ used_by old s
  used_same (statement.Sort s) h = refl
  used_same (statement.Hom f) h =
      let low : f < length old.homs = All-head (λ g. g < length old.homs) f [] h.homs in
      let ends : HomDecl → Members =
      λ hom. record { sorts = hom.from ∷ hom.to ∷ []; homs = []; vars = []; hyps = []; goals = [] } in
      ap ends (grows.homs f low)
  used_same (statement.Vars first count) h =
      ap (λ sorts. record { sorts = sorts; homs = []; vars = []; hyps = []; goals = [] })
      (numbers_map (sort_of_var new) (sort_of_var old) first count (λ k low. sort_same old new grows (first + k)
      (numbers_each (λ n. n < length old.vars) first count h.vars k low)))
  used_same (statement.Hyp n) h =
      let low : n < length old.hyps = All-head (λ g. g < length old.hyps) n [] h.hyps in
      let there : hyp_at new n ≡ hyp_at old n = grows.hyps n low in
      rw there refl
  used_same (statement.Goal i) h =
      let low : i < length old.goals = All-head (λ g. g < length old.goals) i [] h.goals in
      let there : goal_at new i ≡ goal_at old i = grows.goals i low in
      rw there refl

  -- variables of one sort have one sort still
  one_sort_same : (s : Statement) → IsInFile old s → IsOneSorted old s → IsOneSorted new s
  one_sort_same (statement.Sort s) h one = tt
  one_sort_same (statement.Hom f) h one = tt
  one_sort_same (statement.Vars first count) h one =
      let each = numbers_each (λ n. n < length old.vars) first count h.vars in (
        one.0,
        λ k low.
            let start : first + 0 ≡ first = omega arith in
            let head : first < length old.vars = subst (λ n. n < length old.vars) start (each 0 (omega arith)) in
            sort_same old new grows (first + k) (each k low) ∙ one.1 k low ∙ sym (sort_same old new grows first head),
      )
  one_sort_same (statement.Hyp n) h one = tt
  one_sort_same (statement.Goal i) h one = tt

  -- with one more statement, which uses members of the file, the order is one in which statements can be read
  pub ordered_with : (s : Statement) → IsOrdered old → new.order ≡ old.order ++ s ∷ [] →
      members_of new ≡ with_more (members_of old) (declared_by s) → IsOneSorted new s →
      AreAmong (used_by new s) (members_of old) → IsOrdered new
  ordered_with s ordered order members one among = record {
    once_rising =
        ap declared_by_all order ∙ declared_with old.order s
        ∙ ap (λ m. with_more m (declared_by s)) ordered.once_rising ∙ sym members;
    one_sorted =
        let there = in_file old ordered in
        let still : All (IsOneSorted new) old.order =
        λ k d low. one_sort_same _ (there k d low) (ordered.one_sorted k d low) in
        subst (All (IsOneSorted new)) (sym order) (All-push (IsOneSorted new) old.order s still one);
    earlier = λ before after t split.
        elim (last_or_before old.order before after s t (sym order ∙ split)) [
          | inl (whole, last) ↦
              let all : members_of old ≡ declared_by_all before =
              sym ordered.once_rising ∙ ap declared_by_all (sym whole) in
              subst (λ u. AreAmong (used_by new u) (declared_by_all before)) (sym last)
              (subst (AreAmong (used_by new s)) all among)
          | inr (front, whole) ↦
              let here : Contains old.order t = subst (λ o. Contains o t) (sym whole) (among_split before front t) in
              let in_old : IsInFile old t = All-contains (IsInFile old) old.order t (in_file old ordered) here in
              subst (λ u. AreAmong u (declared_by_all before)) (sym (used_same t in_old))
              (ordered.earlier before front t whole)
        ];
  }
