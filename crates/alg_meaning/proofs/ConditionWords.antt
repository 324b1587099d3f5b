-- The computed conditions are the denominators but the dropped ones, each tree once.
use Rattle.std.specs.Prelude.{◌≡◌, ◌≢◌, ◌⊎◌, Bool, true, false, cond, not, List, [], ◌∷◌, filter, All, AllPairs, Contains}
use Rattle.std.proofs.Common.{refl, sym, ap, ◌∙◌, arith}
use Rattle.std.proofs.lemmas.List.Elements.{All-nil, All-cons, All-head, All-tail, All-filter, All-contains_itself}
use Rattle.std.proofs.lemmas.List.Kept.{AllPairs-filter, AllPairs-cons}
use mathlib.Core.Bool.{true≢false}
use Rattle.alg_terms.specs.declared.term.Term.{Term}
use Rattle.alg_terms.specs.Members.{sort_at}
use Rattle.alg_meaning.specs.Conditions.{is_dropped, conditions_of}
use Rattle.alg_meaning.specs.ConditionWords.{denominators_of, ConditionsSay}
use Rattle.alg_terms.specs.Lists.{each_once}
use Rattle.alg_meaning.specs.Trees.{same_tree}
use Rattle.alg_meaning.proofs.FieldLaws.{each_denominator}
use Rattle.alg_meaning.proofs.SameTrees.{EachTerm, same_tree_itself}

-- what is kept passes the test
passes : (p : Term → Bool) (ts : List Term) → All (λ t. p t ≡ true) (filter p ts)
passes p [] = All-nil (λ t. p t ≡ true)
passes p (t ∷ ts) =
    elim (p t) as (λ b. p t ≡ b → All (λ t. p t ≡ true) (cond b (t ∷ filter p ts) (filter p ts))) [
      | true ↦ λ e. All-cons (λ t. p t ≡ true) t (filter p ts) e (passes p ts)
      | false ↦ λ e. passes p ts
    ] refl

all_to : {P Q : Term → Type 0} (to : (t : Term) → P t → Q t) (ts : List Term) → All P ts → All Q ts
all_to {P} {Q} to ts h = λ i d in_range. to _ (h i d in_range)

all_once : (P : Term → Type 0) (ts : List Term) → All P ts → All P (each_once same_tree ts)
all_once P [] h = h
all_once P (t ∷ ts) h =
    All-cons P t (filter (λ u. not (same_tree t u)) (each_once same_tree ts)) (All-head P t ts h)
    (All-filter (λ u. not (same_tree t u)) P (each_once same_tree ts) (all_once P ts (All-tail P t ts h)))

apart : (t u : Term) → not (same_tree t u) ≡ true → t ≢ u
apart t u h e = true≢false (sym h ∙ ap not (ap (same_tree t) (sym e) ∙ same_tree_itself t))

once : (ts : List Term) → AllPairs (λ t later. t ≢ later) (each_once same_tree ts)
once [] = λ i j d lt in_range. absurd (omega (arith, in_range))
once (t ∷ ts) =
    let rest = filter (λ u. not (same_tree t u)) (each_once same_tree ts) in
    AllPairs-cons (λ t later. t ≢ later) t rest
    (all_to (apart t) rest (passes (λ u. not (same_tree t u)) (each_once same_tree ts)))
    (AllPairs-filter (λ t later. t ≢ later) (λ u. not (same_tree t u)) (each_once same_tree ts) (once ts))

as_all : (Q : Term → Type 0) (ts : List Term) → EachTerm Q ts → All Q ts
as_all Q [] h = All-nil Q
as_all Q (t ∷ ts) h = All-cons Q t ts h.0 (as_all Q ts h.1)

not_true : (b : Bool) → not b ≡ true → b ≡ false
not_true true h = absurd (true≢false (sym h))
not_true false h = refl

pub conditions_say : ConditionsSay
conditions_say file e =
    let ts = denominators_of e in
    let drop = is_dropped (sort_at file e.sort).char0 in
    let conditions = conditions_of file e in
    record {
      only =
          All-filter (λ t. not (drop t)) (Contains ts) (each_once same_tree ts)
          (all_once (Contains ts) ts (All-contains_itself ts));
      kept = all_to (λ t. not_true (drop t)) conditions (passes (λ t. not (drop t)) (each_once same_tree ts));
      all =
          as_all (λ t. (drop t ≡ true) ⊎ Contains conditions t) ts
          (each_denominator drop (Contains conditions) ts (All-contains_itself conditions));
      once = AllPairs-filter (λ t later. t ≢ later) (λ t. not (drop t)) (each_once same_tree ts) (once ts);
    }
