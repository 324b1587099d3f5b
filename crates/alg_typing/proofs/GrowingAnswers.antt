-- Terms of answers in a file with one more statement: they keep the rules that they kept.
use Rattle.std.proofs.Common.{◌<◌, ℕ, List, [], ◌∷◌, length, Option, None, Some, refl, sym, subst}
use Rattle.std.specs.Prelude.{unwrap_or, IfSome}
use Rattle.std.proofs.lemmas.List.{append-nil}
use Rattle.alg_terms.specs.AnswerRules.{IsAnswerTerm, MayDivide}
use Rattle.alg_terms.specs.declared.file.File.{File}
use Rattle.alg_terms.specs.declared.goals.Goal.{Goal}
use Rattle.alg_terms.specs.declared.goals.Method.{Method}
use Rattle.alg_terms.specs.declared.goals.Method.TheVariants.{ByRing, ByField, ByNsatz}
use Rattle.alg_terms.specs.declared.term.Term.{Term}
use Rattle.alg_terms.specs.Nodes.{EachNode}
use Rattle.alg_terms.specs.Sorts.{own_sort, sort_beside}
use Rattle.alg_terms.specs.TermRules.{IsInRange}
use Rattle.alg_terms.specs.Valid.{IsValid}
use Rattle.alg_reader.specs.declared.raw.RawKind.{RawKind}
use Rattle.alg_reader.specs.declared.raw.RawKind.TheVariants as raws
use Rattle.alg_typing.specs.Resolved.{extended, number_at, vars_of}
use Rattle.alg_typing.proofs.Growing.{Grows}
use Rattle.alg_typing.proofs.GrowingGoals.{own_in_range, field_quotients}
use Rattle.alg_typing.proofs.GrowingTerms.{own_same, term_same}
use Rattle.alg_typing.proofs.MoreMembers.{Further, further_grows}

-- a sort that is there and in range, or else one in range
beside_in_range : (sorts goal_sort : ℕ) (own : Option ℕ) → goal_sort < sorts → IfSome own (λ s. s < sorts) →
    unwrap_or own goal_sort < sorts
beside_in_range sorts goal_sort None low h = low
beside_in_range sorts goal_sort (Some s) low h = h

module _ (old new : File) (grows : Grows old new) (valid : IsValid old) where
  divides_same : (method : Method) (goal_sort : ℕ) (t : Term) → goal_sort < length old.sorts →
      EachNode (IsInRange old) t → MayDivide old method (sort_beside old goal_sort t) t →
      MayDivide new method (sort_beside new goal_sort t) t
  divides_same ByRing goal_sort t low range h = h
  divides_same ByField goal_sort t low range h =
      subst (λ own. MayDivide new ByField (unwrap_or own goal_sort) t) (sym (own_same old new grows t range))
      (field_quotients old new grows valid t (sort_beside old goal_sort t)
      (beside_in_range (length old.sorts) goal_sort (own_sort old t) low (own_in_range old valid.homs valid.vars t range))
      range h)
  divides_same (ByNsatz uses power limit) goal_sort t low range h = h

  -- a term of an answer to a goal is one still
  pub answer_term_same : (goal : Goal) → goal.equation.sort < length old.sorts → (t : Term) →
      IsAnswerTerm old goal t → IsAnswerTerm new goal t
  answer_term_same goal low t h = record {
    term = term_same old new grows t h.term;
    quotients = divides_same goal.method goal.equation.sort t low h.term.indices h.quotients;
  }

-- nothing was added
nothing_further : (file : File) → Further file file
nothing_further file = record {
  sorts = [];
  homs = [];
  vars = [];
  hyps = [];
  goals = [];
  with_sorts = sym (append-nil file.sorts);
  with_homs = sym (append-nil file.homs);
  with_vars = sym (append-nil file.vars);
  with_hyps = sym (append-nil file.hyps);
  with_goals = sym (append-nil file.goals);
}

-- a statement adds members behind those that were there
module _ (file : File) (text : List ℕ) where
  pub extended_further : (kind : RawKind) → Further file (extended file text kind)
  extended_further (raws.Sort kind name char0) = record {
    sorts = _ ∷ [];
    homs = [];
    vars = [];
    hyps = [];
    goals = [];
    with_sorts = refl;
    with_homs = sym (append-nil file.homs);
    with_vars = sym (append-nil file.vars);
    with_hyps = sym (append-nil file.hyps);
    with_goals = sym (append-nil file.goals);
  }
  extended_further (raws.Hom name from to) = record {
    sorts = [];
    homs = _ ∷ [];
    vars = [];
    hyps = [];
    goals = [];
    with_sorts = sym (append-nil file.sorts);
    with_homs = refl;
    with_vars = sym (append-nil file.vars);
    with_hyps = sym (append-nil file.hyps);
    with_goals = sym (append-nil file.goals);
  }
  extended_further (raws.Vars names sort) = record {
    sorts = [];
    homs = [];
    vars = vars_of file text (number_at file text sort) names;
    hyps = [];
    goals = [];
    with_sorts = sym (append-nil file.sorts);
    with_homs = sym (append-nil file.homs);
    with_vars = refl;
    with_hyps = sym (append-nil file.hyps);
    with_goals = sym (append-nil file.goals);
  }
  extended_further (raws.Hyp name e) = record {
    sorts = [];
    homs = [];
    vars = [];
    hyps = _ ∷ [];
    goals = [];
    with_sorts = sym (append-nil file.sorts);
    with_homs = sym (append-nil file.homs);
    with_vars = sym (append-nil file.vars);
    with_hyps = refl;
    with_goals = sym (append-nil file.goals);
  }
  extended_further (raws.Goal e method method_at) = record {
    sorts = [];
    homs = [];
    vars = [];
    hyps = [];
    goals = _ ∷ [];
    with_sorts = sym (append-nil file.sorts);
    with_homs = sym (append-nil file.homs);
    with_vars = sym (append-nil file.vars);
    with_hyps = sym (append-nil file.hyps);
    with_goals = refl;
  }
  extended_further raws.End = nothing_further file
  extended_further (raws.Answer said) = nothing_further file
  extended_further (raws.Line a m i b n j d) = nothing_further file
  extended_further (raws.Step a b n j d) = nothing_further file

  pub extended_grows : (kind : RawKind) → Grows file (extended file text kind)
  extended_grows kind = further_grows file (extended file text kind) (extended_further kind)
