-- A term of an answer without faults is one of the file that may stand there.
use Rattle.std.proofs.Common.{◌≡◌, ℕ, true, List, [], Option, None, Some, subst}
use Rattle.std.specs.Prelude.{unwrap_or}
use Rattle.std.specs.Option.{option_or}
use Rattle.std.proofs.lemmas.List.Elements.{All-nil}
use Rattle.alg_terms.specs.AnswerRules.{MayDivide, IsAnswerTerm}
use Rattle.alg_terms.specs.declared.file.File.{File}
use Rattle.alg_terms.specs.declared.goals.Goal.{Goal}
use Rattle.alg_terms.specs.declared.goals.Method.{Method}
use Rattle.alg_terms.specs.declared.goals.Method.TheVariants.{ByRing, ByField, ByNsatz}
use Rattle.alg_terms.specs.Kinds.{IsField}
use Rattle.alg_terms.specs.Members.{kind_of, target_of}
use Rattle.alg_tokens.specs.declared.token.Refusal.{Refusal}
use Rattle.alg_reader.specs.declared.raw.RawTerm.{RawTerm}
use Rattle.alg_reader.specs.WellRead.{IsWellTerm}
use Rattle.alg_typing.specs.AnswerTerms.{may_divide, answer_sorts, first_fault_of_term}
use Rattle.alg_typing.specs.Faults.{first_of}
use Rattle.alg_typing.specs.NameFaults.{term_names}
use Rattle.alg_typing.specs.Resolved.{term_of}
use Rattle.alg_typing.specs.TermSorts.{sorted}
use Rattle.alg_typing.specs.TermsOf.{IsSmallTermOf}
use Rattle.alg_typing.proofs.Faultless.{neither}
use Rattle.alg_typing.proofs.Firsts.{no_faults}
use Rattle.alg_typing.proofs.NewEquations.{term_kept}
use Rattle.alg_typing.proofs.Quotients.{no_quotient, in_fields}
use Rattle.alg_typing.proofs.Resolving.{own_resolved}
use Rattle.alg_typing.proofs.Small.{small_term}

-- a fault of the first group is the first fault
pub names_first : (names sorts : Option Refusal) (f : Refusal) → Some f ≡ names → Some f ≡ option_or names sorts
names_first (Some g) sorts f is = is
names_first None sorts f is = absurd (cc)

-- where the first group has none, the second has the first fault
pub sorts_next : (names sorts found : Option Refusal) → None ≡ names → found ≡ sorts → found ≡ option_or names sorts
sorts_next None sorts found nothing is = is
sorts_next (Some f) sorts found nothing is = absurd (cc)

module _ (file : File) (text : List ℕ) (t : RawTerm) where
  -- a term without faults of sorts has quotients where the method allows them
  divides : (method : Method) (s : ℕ) → (sorted file text (may_divide method) t).faults (Some s) true ≡ [] →
      MayDivide file method s (term_of file text t)
  divides ByRing s h = no_quotient file text t.head t.node (Some s) true h
  divides ByField s h =
      in_fields file text t.head t.node s true [] (λ h. All-nil (λ f. IsField (kind_of file (target_of file f)))) h
  divides (ByNsatz uses power limit) s h = no_quotient file text t.head t.node (Some s) true h

  module _ (goal : Goal) (none : first_fault_of_term file text goal t ≡ None) where
    names : term_names file text t ≡ []
    names = no_faults _ (neither (first_of (term_names file text t)) _ none).0

    sorts : answer_sorts file text goal t ≡ []
    sorts = no_faults _ (neither (first_of (term_names file text t)) _ none).1

    -- its exponents are small
    pub small : IsWellTerm text t → IsSmallTermOf text t
    small well = small_term file text (may_divide goal.method) t _ true well sorts

    -- it may stand in an answer to the goal
    pub may_stand : IsWellTerm text t → IsAnswerTerm file goal (term_of file text t)
    may_stand well =
        let may = may_divide goal.method in
        record {
          term = term_kept file text may t _ true well names sorts;
          quotients = subst (λ own. MayDivide file goal.method (unwrap_or own goal.equation.sort) (term_of file text t))
              (own_resolved file text may t.head t.node) (divides goal.method _ sorts);
        }
