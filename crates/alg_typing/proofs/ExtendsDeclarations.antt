-- A valid file with one more declaration of a sort, a morphism or variables is valid.
use Rattle.std.proofs.Common.{◌≡◌, ◌<◌, ℕ, zero, suc, ◌+◌, Bool, List, [], ◌∷◌, ◌++◌, length, map, refl, sym, ap, ◌∙◌, subst, arith, append-nil, append_assoc}
use Rattle.std.specs.Prelude.{All, Contains, slice_index_or}
use Rattle.std.proofs.lemmas.List.{map-append, length-map, get_or-append-add}
use Rattle.std.proofs.lemmas.List.Elements.{All-nil, All-cons}
use Rattle.alg_terms.specs.declared.declarations.HomDecl.{HomDecl}
use Rattle.alg_terms.specs.declared.declarations.Kind.{Kind}
use Rattle.alg_terms.specs.declared.declarations.Sort.{Sort}
use Rattle.alg_terms.specs.declared.file.File.{File}
use Rattle.alg_terms.specs.declared.file.Statement.TheVariants as statement
use Rattle.alg_terms.specs.GoalRules.{IsHyp, IsGoal}
use Rattle.alg_terms.specs.Limits.{MEMBERS_END}
use Rattle.alg_terms.specs.Members.{sort_of_var, source_of, target_of, no_hom, no_var}
use Rattle.alg_terms.specs.Names.{IsName}
use Rattle.alg_terms.specs.Order.{numbers_from, none}
use Rattle.alg_terms.specs.Valid.{IsValid, IsSort, IsHom, IsVar}
use Rattle.alg_reader.specs.declared.raw.RawKind.TheVariants as raws
use Rattle.alg_reader.specs.declared.raw.Span.{Span}
use Rattle.alg_reader.specs.WellRead.{bytes_at, IsWellKind}
use Rattle.alg_typing.specs.NameFaults.{name_faults, new_name, new_names, used_name}
use Rattle.alg_typing.specs.Names.{is_sort}
use Rattle.alg_typing.specs.Resolved.{extended, number_at, vars_of}
use Rattle.alg_typing.specs.Room.{HasRoom}
use Rattle.alg_typing.proofs.Assembling.{assembled, stays}
use Rattle.alg_typing.proofs.MoreMembers.{Further, last_at, named}
use Rattle.alg_typing.proofs.NewlyNamed.{is_new, newly_named, spelled_names}
use Rattle.alg_typing.proofs.NumbersInRange.{parts_empty, sort_number}
use Rattle.alg_typing.proofs.OccurringInFile.{among_numbers}

-- no members are among any
pub none_among : (others : List ℕ) → All (Contains others) []
none_among others = All-nil (Contains others)

module _ (file : File) (text : List ℕ) (valid : IsValid file) where
  pub extends_sort : (kind : Kind) (name : Span) (char0 : Bool) → IsWellKind text (raws.Sort kind name char0) →
      name_faults file text (raws.Sort kind name char0) ≡ [] → HasRoom file (raws.Sort kind name char0) →
      IsValid (extended file text (raws.Sort kind name char0))
  extends_sort kind name char0 well names room =
      let bytes = bytes_at text name in
      let sort : Sort = record { name = bytes; kind = kind; char0 = char0 } in
      let new = extended file text (raws.Sort kind name char0) in
      let more : Further file new = record {
        sorts = sort ∷ [];
        homs = [];
        vars = [];
        hyps = [];
        goals = [];
        with_sorts = refl;
        with_homs = sym (append-nil file.homs);
        with_vars = sym (append-nil file.vars);
        with_hyps = sym (append-nil file.hyps);
        with_goals = sym (append-nil file.goals);
      } in
      let (free, _) = is_new file text [] name names in
      assembled file new more (statement.Sort (length file.sorts)) valid
      (record {
        sorts = room.members;
        homs = stays file.homs valid.counts.homs;
        vars = stays file.vars valid.counts.vars;
        hyps = stays file.hyps valid.counts.hyps;
        goals = stays file.goals valid.counts.goals;
        order = room.order;
      })
      (record {
        named = named file new (map (λ sort. sort.name) file.sorts) (bytes ∷ [])
            ((map (λ hom. hom.name) file.homs ++ map (λ var. var.name) file.vars) ++ map (λ hyp. hyp.name) file.hyps)
            valid (simp append_assoc) (simp (map-append, append_assoc))
            (All-cons IsName bytes [] well.0.name (All-nil IsName))
            (tt, tt) (free, tt);
        sorts = All-cons IsSort sort [] well.1 (All-nil IsSort);
        homs = All-nil (IsHom new);
        vars = All-nil (IsVar new);
        hyps = All-nil (IsHyp file);
        goals = All-nil (IsGoal file);
        order = refl;
        declares = refl;
        one_sorted = tt;
        among = record { sorts = none_among _; homs = none_among _; vars = none_among _; hyps = none_among _ };
      })

  pub extends_hom : (name from to : Span) → IsWellKind text (raws.Hom name from to) →
      name_faults file text (raws.Hom name from to) ≡ [] → HasRoom file (raws.Hom name from to) →
      IsValid (extended file text (raws.Hom name from to))
  extends_hom name from to well names room =
      let bytes = bytes_at text name in
      let source = number_at file text from in
      let target = number_at file text to in
      let hom : HomDecl = record { name = bytes; from = source; to = target } in
      let new = extended file text (raws.Hom name from to) in
      let more : Further file new = record {
        sorts = [];
        homs = hom ∷ [];
        vars = [];
        hyps = [];
        goals = [];
        with_sorts = sym (append-nil file.sorts);
        with_homs = refl;
        with_vars = sym (append-nil file.vars);
        with_hyps = sym (append-nil file.hyps);
        with_goals = sym (append-nil file.goals);
      } in
      let (front, target_used) = parts_empty (new_name file text [] name ++ used_name file text is_sort from)
      (used_name file text is_sort to) names in
      let (new_one, source_used) = parts_empty (new_name file text [] name) (used_name file text is_sort from) front in
      let (free, _) = is_new file text [] name new_one in
      let low_source = sort_number file text from source_used in
      let low_target = sort_number file text to target_used in
      let there = last_at file.homs hom no_hom in
      let low : (k : ℕ) → Type 0 = λ k. k < length file.sorts in
      let used : List ℕ = source_of new (length file.homs) ∷ target_of new (length file.homs) ∷ [] in
      let ends : All low used =
      subst (λ h. All low (h.from ∷ h.to ∷ [])) (sym there)
      (All-cons low source (target ∷ []) low_source (All-cons low target [] low_target (All-nil low))) in
      assembled file new more (statement.Hom (length file.homs)) valid
      (record {
        sorts = stays file.sorts valid.counts.sorts;
        homs = room.members;
        vars = stays file.vars valid.counts.vars;
        hyps = stays file.hyps valid.counts.hyps;
        goals = stays file.goals valid.counts.goals;
        order = room.order;
      })
      (record {
        named = named file new (map (λ sort. sort.name) file.sorts ++ map (λ hom. hom.name) file.homs) (bytes ∷ [])
            (map (λ var. var.name) file.vars ++ map (λ hyp. hyp.name) file.hyps)
            valid (simp append_assoc) (simp (map-append, append_assoc))
            (All-cons IsName bytes [] well.0.name (All-nil IsName))
            (tt, tt) (free, tt);
        sorts = All-nil IsSort;
        homs = All-cons (IsHom new) hom [] (record { source = low_source; target = low_target }) (All-nil (IsHom new));
        vars = All-nil (IsVar new);
        hyps = All-nil (IsHyp file);
        goals = All-nil (IsGoal file);
        order = refl;
        declares = refl;
        one_sorted = tt;
        among = record {
          sorts = among_numbers (length file.sorts) used ends;
          homs = none_among _;
          vars = none_among _;
          hyps = none_among _;
        };
      })

  -- variables of one sort: their names, their sorts and their rule
  names_of_vars : (sort : ℕ) (names : List Span) →
      map (λ var. var.name) (vars_of file text sort names) ≡ map (bytes_at text) names
  names_of_vars sort [] = refl
  names_of_vars sort (name ∷ names) = ap (λ rest. bytes_at text name ∷ rest) (names_of_vars sort names)

  sort_of_each : (sort : ℕ) (names : List Span) (k : ℕ) → k < length names →
      (slice_index_or (vars_of file text sort names) k no_var).sort ≡ sort
  sort_of_each sort [] k low = absurd (omega arith)
  sort_of_each sort (name ∷ names) zero low = refl
  sort_of_each sort (name ∷ names) (suc k) low = sort_of_each sort names k (omega arith)

  vars_fit : (new : File) (sort : ℕ) → sort < length new.sorts → (names : List Span) →
      All (IsVar new) (vars_of file text sort names)
  vars_fit new sort low [] = All-nil (IsVar new)
  vars_fit new sort low (name ∷ names) =
      All-cons (IsVar new) (record { name = bytes_at text name; sort = sort }) (vars_of file text sort names) low
      (vars_fit new sort low names)

  each_sort : (sort : ℕ) (names : List Span) (k : ℕ) → k < length names →
      (slice_index_or (file.vars ++ vars_of file text sort names) (length file.vars + k) no_var).sort ≡ sort
  each_sort sort names k low =
      ap (λ var. var.sort) (get_or-append-add file.vars (vars_of file text sort names) k no_var)
      ∙ sort_of_each sort names k low

  all_sorts : (new : File) (sort first count : ℕ) → ((k : ℕ) → k < count → sort_of_var new (first + k) ≡ sort) →
      sort < length file.sorts → All (λ s. s < length file.sorts) (map (sort_of_var new) (numbers_from first count))
  all_sorts new sort first zero same low = All-nil (λ s. s < length file.sorts)
  all_sorts new sort first (suc count) same low =
      let start : first + 0 ≡ first = omega arith in
      let here : sort_of_var new first ≡ sort = subst (λ k. sort_of_var new k ≡ sort) start (same 0 (omega arith)) in
      All-cons (λ s. s < length file.sorts) (sort_of_var new first) _
      (subst (λ s. s < length file.sorts) (sym here) low)
      (all_sorts new sort (suc first) count (λ k below.
      let next : first + suc k ≡ suc first + k = omega arith in
      subst (λ n. sort_of_var new n ≡ sort) next (same (suc k) (omega arith))) low)

  pub extends_vars : (spans : List Span) (of : Span) → IsWellKind text (raws.Vars spans of) →
      name_faults file text (raws.Vars spans of) ≡ [] → HasRoom file (raws.Vars spans of) →
      IsValid (extended file text (raws.Vars spans of))
  extends_vars spans of well names room =
      let sort = number_at file text of in
      let vars = vars_of file text sort spans in
      let new = extended file text (raws.Vars spans of) in
      let more : Further file new = record {
        sorts = [];
        homs = [];
        vars = vars;
        hyps = [];
        goals = [];
        with_sorts = sym (append-nil file.sorts);
        with_homs = sym (append-nil file.homs);
        with_vars = refl;
        with_hyps = sym (append-nil file.hyps);
        with_goals = sym (append-nil file.goals);
      } in
      let (new_ones, used) = parts_empty (new_names file text [] spans) (used_name file text is_sort of) names in
      let fresh = newly_named file text [] spans new_ones in
      let low = sort_number file text of used in
      let long : length vars ≡ length spans = length-map spans _ in
      let each = each_sort sort spans in
      let start : length file.vars + 0 ≡ length file.vars = omega arith in
      let first : sort_of_var new (length file.vars) ≡ sort =
      subst (λ n. sort_of_var new n ≡ sort) start (each 0 (omega (arith, well.0))) in
      assembled file new more (statement.Vars (length file.vars) (length spans)) valid
      (record {
        sorts = stays file.sorts valid.counts.sorts;
        homs = stays file.homs valid.counts.homs;
        vars = subst (λ n. length file.vars + n < MEMBERS_END) (sym long) room.members;
        hyps = stays file.hyps valid.counts.hyps;
        goals = stays file.goals valid.counts.goals;
        order = room.order;
      })
      (record {
        named = named file new
            ((map (λ sort. sort.name) file.sorts ++ map (λ hom. hom.name) file.homs) ++ map (λ var. var.name) file.vars)
            (map (bytes_at text) spans) (map (λ hyp. hyp.name) file.hyps) valid refl
            (simp (map-append, append_assoc, names_of_vars)) (spelled_names file text spans well.1)
            fresh.distinct fresh.free;
        sorts = All-nil IsSort;
        homs = All-nil (IsHom new);
        vars = vars_fit new sort low spans;
        hyps = All-nil (IsHyp file);
        goals = All-nil (IsGoal file);
        order = refl;
        declares = ap (λ count. record none { vars = numbers_from (length file.vars) count })
            (sym long);
        one_sorted = (well.0, λ k below. each k below ∙ sym first);
        among = record {
          sorts = among_numbers (length file.sorts) _ (all_sorts new sort (length file.vars) (length spans) each low);
          homs = none_among _;
          vars = none_among _;
          hyps = none_among _;
        };
      })
