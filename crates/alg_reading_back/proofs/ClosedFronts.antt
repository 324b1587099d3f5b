-- The members of each front of a valid file name sorts of the front.
use Rattle.std.proofs.Common.{◌≡◌, ◌<◌, ◌≤◌, inl, inr, ℕ, ◌+◌, ◌-◌, false, List, [], ◌∷◌, ◌++◌, length, map, take, refl, sym, subst, arith}
use Rattle.std.specs.Prelude.{All, slice_index_or}
use Rattle.std.proofs.lemmas.Bool.{cases_lt}
use Rattle.std.proofs.lemmas.List.{get_or-take, length-take}
use Rattle.std.proofs.lemmas.List.Elements.{All-from_get_or, All-head, All-tail}
use Rattle.alg_terms.specs.declared.file.File.{File}
use Rattle.alg_terms.specs.declared.file.Statement.{Statement}
use Rattle.alg_terms.specs.declared.file.Statement.TheVariants as statement
use Rattle.alg_terms.specs.declared.goals.Equation.{Equation}
use Rattle.alg_terms.specs.GoalRules.{IsEquation}
use Rattle.alg_terms.specs.Members.{hyp_at, source_of, target_of, sort_of_var, no_hom, no_var, no_hyp}
use Rattle.alg_terms.specs.Order.{numbers_from, declared_by}
use Rattle.alg_terms.specs.Valid.{IsValid, IsHom, IsVar}
use Rattle.alg_typing.proofs.GrowingGoals.{sides_in_range}
use Rattle.alg_printer.specs.Text.{IsStatementOf}
use Rattle.alg_reading_back.proofs.Closed.{IsClosed}
use Rattle.alg_reading_back.proofs.EquationsBack.{sort_there}
use Rattle.alg_reading_back.proofs.FrontNames.{front_distinct}
use Rattle.alg_reading_back.proofs.Fronts.{front, sorts_in, homs_in, vars_in, hyps_in, grows, next}
use Rattle.alg_reading_back.proofs.NextLists.{next_item}
use Rattle.alg_reading_back.proofs.Steps.{count_with, length_of_take}
use Rattle.alg_reading_back.proofs.UsedBefore.{AreInRange, sorts_low, equation_low}
use Rattle.alg_reading_back.proofs.VarLists.{first_of_all}
use Rattle.alg_reading_back.proofs.VarsBack.{are_next}

-- the members of some first statements name sorts that these declare
pub record IsClosedBy (file : File) (before : List Statement) : Type 0 where
  pub homs : (f : ℕ) → f < homs_in before → (source_of file f < sorts_in before) × (target_of file f < sorts_in before)
  pub vars : (k : ℕ) → k < vars_in before → sort_of_var file k < sorts_in before
  pub hyps : (h : ℕ) → h < hyps_in before → (hyp_at file h).equation.sort < sorts_in before

pub nothing_closed : (file : File) → IsClosedBy file []
nothing_closed file = record {
  homs = λ f low. absurd (omega arith);
  vars = λ k low. absurd (omega arith);
  hyps = λ h low. absurd (omega arith);
}

-- the first items of a list, each as it is in the list
taken_all : {X : Type 0} (P : X → Type 0) (xs : List X) (n : ℕ) (d : X) →
    ((k : ℕ) → k < n → P (slice_index_or xs k d)) → All P (take n xs)
taken_all P xs n d h =
    All-from_get_or P (take n xs) d (λ k low.
    let below : k < n = omega (arith, low, length-take n xs) in
    subst P (sym (get_or-take n xs k d below)) (h k below))

-- so the front is closed
pub front_closed : (file : File) (before : List Statement) → sorts_in before ≤ length file.sorts →
    IsClosedBy file before → IsClosed (front file before)
front_closed file before fits closed =
    let g = front file before in
    let count : length g.sorts ≡ sorts_in before = length_of_take file.sorts (sorts_in before) fits in
    record {
      homs = taken_all (IsHom g) file.homs (homs_in before) no_hom (λ f low.
          let (source, target) = closed.homs f low in
          record { source = omega (arith, source, count); target = omega (arith, target, count) });
      vars = taken_all (IsVar g) file.vars (vars_in before) no_var (λ k low.
          let sort = closed.vars k low in omega (arith, sort, count));
      hyps = taken_all (λ hyp. hyp.equation.sort < length g.sorts) file.hyps (hyps_in before) no_hyp (λ h low.
          let sort = closed.hyps h low in omega (arith, sort, count));
    }

-- what holds of numbers below one and from there on
on_both_sides : (P : ℕ → Type 0) (k n : ℕ) → (k < n → P k) → (n ≤ k → P k) → P k
on_both_sides P k n below behind = elim (cases_lt k n) [ inl low ↦ below low | inr high ↦ behind high ]

module _ (file : File) (valid : IsValid file) (before : List Statement) (s : Statement) where
  abbrev with_s : List Statement
  with_s = before ++ s ∷ []

  -- the members that a statement declares name sorts of the front before it
  record IsNewClosed : Type 0 where
    homs : (f : ℕ) → homs_in before ≤ f → f < homs_in with_s →
        (source_of file f < sorts_in before) × (target_of file f < sorts_in before)
    vars : (k : ℕ) → vars_in before ≤ k → k < vars_in with_s → sort_of_var file k < sorts_in before
    hyps : (h : ℕ) → hyps_in before ≤ h → h < hyps_in with_s → (hyp_at file h).equation.sort < sorts_in before

  closed_with : IsNewClosed → IsClosedBy file before → IsClosedBy file with_s
  closed_with new closed =
      let more = count_with (λ s. (declared_by s).sorts) before s in
      record {
        homs = λ f low.
            let P : ℕ → Type 0 = λ f. (source_of file f < sorts_in before) × (target_of file f < sorts_in before) in
            let (source, target) = on_both_sides P f (homs_in before) (closed.homs f) (λ high. new.homs f high low) in
            (omega (arith, source, more), omega (arith, target, more));
        vars = λ k low.
            let P : ℕ → Type 0 = λ k. sort_of_var file k < sorts_in before in
            let sort = on_both_sides P k (vars_in before) (closed.vars k) (λ high. new.vars k high low) in
            omega (arith, sort, more);
        hyps = λ h low.
            let P : ℕ → Type 0 = λ h. (hyp_at file h).equation.sort < sorts_in before in
            let sort = on_both_sides P h (hyps_in before) (closed.hyps h) (λ high. new.hyps h high low) in
            omega (arith, sort, more);
      }

  -- a list to which it adds nothing
  no_new_homs : length (declared_by s).homs ≡ 0 → (f : ℕ) → homs_in before ≤ f → f < homs_in with_s → ⊥
  no_new_homs none f high low =
      let count = count_with (λ s. (declared_by s).homs) before s in omega (arith, count, none, high, low)

  no_new_vars : length (declared_by s).vars ≡ 0 → (k : ℕ) → vars_in before ≤ k → k < vars_in with_s → ⊥
  no_new_vars none k high low =
      let count = count_with (λ s. (declared_by s).vars) before s in omega (arith, count, none, high, low)

  no_new_hyps : length (declared_by s).hyps ≡ 0 → (h : ℕ) → hyps_in before ≤ h → h < hyps_in with_s → ⊥
  no_new_hyps none h high low =
      let count = count_with (λ s. (declared_by s).hyps) before s in omega (arith, count, none, high, low)

  -- it declares no morphisms, variables or hypotheses
  nothing_new : length (declared_by s).homs ≡ 0 → length (declared_by s).vars ≡ 0 → length (declared_by s).hyps ≡ 0 →
      IsNewClosed
  nothing_new homs vars hyps = record {
    homs = λ f high low. absurd (no_new_homs homs f high low);
    vars = λ k high low. absurd (no_new_vars vars k high low);
    hyps = λ h high low. absurd (no_new_hyps hyps h high low);
  }

module _ (file : File) (valid : IsValid file) (before after : List Statement) where
  new_hom : (f : ℕ) → file.order ≡ before ++ (statement.Hom f ∷ after) → IsNewClosed file valid before (statement.Hom f)
  new_hom f split =
      let s = statement.Hom f in
      let item = next_item (λ s. (declared_by s).homs) file.homs no_hom before s f
      (next file valid.ordered before after s split).homs refl in
      let count = count_with (λ s. (declared_by s).homs) before s in
      let P : ℕ → Type 0 = λ k. k < sorts_in before in
      let ends = source_of file f ∷ target_of file f ∷ [] in
      let used = sorts_low file valid before after s split ends
      (valid.ordered.earlier before after s split).sorts in
      let Q : ℕ → Type 0 = λ f. P (source_of file f) × P (target_of file f) in
      let here : Q f = (
        All-head P (source_of file f) (target_of file f ∷ []) used,
        All-head P (target_of file f) [] (All-tail P (source_of file f) (target_of file f ∷ []) used),
      ) in
      record {
        homs = λ k high low. subst Q (omega (arith, item.here, count, high, low)) here;
        vars = λ k high low. absurd (no_new_vars file valid before s refl k high low);
        hyps = λ h high low. absurd (no_new_hyps file valid before s refl h high low);
      }

  new_vars : (first count : ℕ) → file.order ≡ before ++ (statement.Vars first count ∷ after) →
      IsNewClosed file valid before (statement.Vars first count)
  new_vars first count split =
      let s = statement.Vars first count in
      let vars = are_next file valid before after first count split in
      let P : ℕ → Type 0 = λ k. k < sorts_in before in
      let sorts = map (sort_of_var file) (numbers_from first count) in
      let used = sorts_low file valid before after s split sorts (valid.ordered.earlier before after s split).sorts in
      let one : P (sort_of_var file first) = first_of_all P (sort_of_var file) first count vars.some used in
      record {
        homs = λ f high low. absurd (no_new_homs file valid before s refl f high low);
        vars = λ k high low.
            let behind : k - first < count = omega (arith, vars.here, vars.more, high, low) in
            let place : first + (k - first) ≡ k = omega (arith, vars.here, high) in
            subst (λ n. P (sort_of_var file n)) place (subst P (sym (vars.one_sort (k - first) behind)) one);
        hyps = λ h high low. absurd (no_new_hyps file valid before s refl h high low);
      }

  -- the sort of an equation that is in range in the front
  pub sort_low : (e : Equation) → IsEquation file e → AreInRange (front file before) e → IsClosed (front file before) →
      e.sort < length (front file before).sorts
  sort_low e is range closed =
      sides_in_range (front file before) closed.homs closed.vars e.left e.right e.sort range.left range.right
      (sort_there file (front file before) [] (front_distinct file valid before) (grows file before) false e is range)

  new_hyp : (h : ℕ) → file.order ≡ before ++ (statement.Hyp h ∷ after) → h < length file.hyps →
      IsClosedBy file before → IsNewClosed file valid before (statement.Hyp h)
  new_hyp h split is closed =
      let s = statement.Hyp h in
      let e = (hyp_at file h).equation in
      let item = next_item (λ s. (declared_by s).hyps) file.hyps no_hyp before s h
      (next file valid.ordered before after s split).hyps refl in
      let count = count_with (λ s. (declared_by s).hyps) before s in
      let used = valid.ordered.earlier before after s split in
      let range = equation_low file valid before after s split e used.vars used.homs in
      let fits = (next file valid.ordered before after s split).sorts.1 in
      let low : sorts_in before ≤ length file.sorts = omega (arith, fits) in
      let front_is = front_closed file before low closed in
      let sort = sort_low e (valid.hyps h no_hyp is).equation range front_is in
      let counted = length_of_take file.sorts (sorts_in before) low in
      let Q : ℕ → Type 0 = λ h. (hyp_at file h).equation.sort < sorts_in before in
      let here : Q h = omega (arith, sort, counted) in
      record {
        homs = λ f high low. absurd (no_new_homs file valid before s refl f high low);
        vars = λ k high low. absurd (no_new_vars file valid before s refl k high low);
        hyps = λ k high low. subst Q (omega (arith, item.here, count, high, low)) here;
      }

  pub closed_next : (s : Statement) → file.order ≡ before ++ (s ∷ after) → IsStatementOf file s →
      IsClosedBy file before → IsClosedBy file (before ++ s ∷ [])
  closed_next (statement.Sort k) split is closed =
      let s = statement.Sort k in
      closed_with file valid before s (nothing_new file valid before s refl refl refl) closed
  closed_next (statement.Hom f) split is closed =
      closed_with file valid before (statement.Hom f) (new_hom f split) closed
  closed_next (statement.Vars first count) split is closed =
      closed_with file valid before (statement.Vars first count) (new_vars first count split) closed
  closed_next (statement.Hyp h) split is closed =
      closed_with file valid before (statement.Hyp h) (new_hyp h split is closed) closed
  closed_next (statement.Goal i) split is closed =
      let s = statement.Goal i in
      closed_with file valid before s (nothing_new file valid before s refl refl refl) closed
