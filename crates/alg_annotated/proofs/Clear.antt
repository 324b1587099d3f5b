-- Answers without faults: each of their terms has none, and keeps the rules of terms in answers.
use Rattle.std.proofs.Common.{◌≡◌, ℕ, List, [], ◌∷◌, ◌++◌, map, flat_map, Option, None, refl, ap, ◌∙◌}
use Rattle.std.specs.Prelude.{All}
use Rattle.std.specs.Option.{option_or, option_map}
use Rattle.std.proofs.lemmas.List.Elements.{All-head, All-tail, All-nil, All-cons}
use Rattle.alg_terms.specs.AnswerRules.{IsAnswerTerm}
use Rattle.alg_terms.specs.declared.file.File.{File}
use Rattle.alg_terms.specs.declared.goals.Goal.{Goal}
use Rattle.alg_terms.specs.declared.term.Atom.{Atom}
use Rattle.alg_tokens.specs.declared.token.Refusal.{Refusal}
use Rattle.alg_tokens.specs.declared.code.Code.TheVariants as code
use Rattle.alg_tokens.specs.Codes.{fault_at}
use Rattle.alg_reader.specs.declared.raw.RawAnswer.{RawAnswer}
use Rattle.alg_reader.specs.declared.raw.RawAnswer.TheVariants as answers
use Rattle.alg_reader.specs.declared.raw.RawTerm.{RawTerm}
use Rattle.alg_reader.specs.declared.reading.Raw.{Raw}
use Rattle.alg_reader.specs.WellRead.{IsWellTerm, IsWellAnswer}
use Rattle.alg_typing.specs.AnswerTerms.{answer_sorts, first_fault_of_term}
use Rattle.alg_typing.specs.Faults.{first_of}
use Rattle.alg_typing.specs.NameFaults.{term_names}
use Rattle.alg_typing.specs.Resolved.{term_of}
use Rattle.alg_typing.proofs.Faultless.{neither}
use Rattle.alg_typing.proofs.Firsts.{no_faults}
use Rattle.alg_typing.proofs.TypedTerms.{may_stand}
use Rattle.alg_annotated.specs.Kept.{HasTerms}
use Rattle.alg_annotated.specs.Names.{answer_names, statement_names}
use Rattle.alg_annotated.specs.Reading.{first_fault}
use Rattle.alg_annotated.specs.Resolved.{answer_of}
use Rattle.alg_annotated.specs.Rules.{part_faults, statement_faults}

-- where two lists together are empty, each is
pub both_empty : {X : Type 0} (xs ys : List X) → xs ++ ys ≡ [] → (xs ≡ []) × (ys ≡ [])
both_empty [] ys h = (refl, h)
both_empty (x ∷ xs) ys h = cc

module _ (file : File) (text : List ℕ) (goal : Goal) where
  abbrev names : RawTerm → List Refusal
  names = term_names file text

  abbrev sorts : RawTerm → List Refusal
  sorts = answer_sorts file text goal

  -- a term without faults of its names and its sorts has no first fault
  pub term_clear : (t : RawTerm) → names t ≡ [] → sorts t ≡ [] → first_fault_of_term file text goal t ≡ None
  term_clear t n s =
      ap (λ (fs : List Refusal). option_or (first_of fs) (first_of (sorts t))) n ∙ ap (λ fs. first_of fs) s

  -- and so have several
  pub terms_clear : (ts : List RawTerm) → flat_map names ts ≡ [] → flat_map sorts ts ≡ [] →
      All (λ t. first_fault_of_term file text goal t ≡ None) ts
  terms_clear [] n s = All-nil (λ t. first_fault_of_term file text goal t ≡ None)
  terms_clear (t ∷ ts) n s =
      let (n0, n1) = both_empty (names t) (flat_map names ts) n in
      let (s0, s1) = both_empty (sorts t) (flat_map sorts ts) s in
      All-cons (λ t. first_fault_of_term file text goal t ≡ None) t ts (term_clear t n0 s0) (terms_clear ts n1 s1)

  -- they keep the rules
  pub terms_stand : (ts : List RawTerm) → All (IsWellTerm text) ts → flat_map names ts ≡ [] → flat_map sorts ts ≡ [] →
      All (IsAnswerTerm file goal) (map (term_of file text) ts)
  terms_stand [] well n s = All-nil (IsAnswerTerm file goal)
  terms_stand (t ∷ ts) well n s =
      let (n0, n1) = both_empty (names t) (flat_map names ts) n in
      let (s0, s1) = both_empty (sorts t) (flat_map sorts ts) s in
      All-cons (IsAnswerTerm file goal) (term_of file text t) (map (term_of file text) ts)
      (may_stand file text t goal (term_clear t n0 s0) (All-head (IsWellTerm text) t ts well))
      (terms_stand ts (All-tail (IsWellTerm text) t ts well) n1 s1)

  -- the terms of an answer without faults keep the rules
  pub answer_stands : (atoms : List Atom) (said : RawAnswer) → IsWellAnswer text said →
      answer_names file text said ≡ [] → part_faults file text goal said ≡ [] →
      HasTerms file goal (answer_of file text atoms said)
  answer_stands atoms (answers.Proved conditions) well n s = terms_stand conditions well n s
  answer_stands atoms (answers.ZeroDenominator denominator) well n s =
      may_stand file text denominator goal (term_clear denominator n s) well
  answer_stands atoms (answers.Certified version power constants) well n s = tt
  answer_stands atoms (answers.No m left right) well n s = tt
  answer_stands atoms (answers.NoneUpTo power) well n s = tt
  answer_stands atoms (answers.GaveUp limit) well n s = tt
  answer_stands atoms answers.Range well n s = tt
  answer_stands atoms answers.Degree well n s = tt
  answer_stands atoms answers.Atoms well n s = tt

-- what is known of a statement without a first fault
module _ (file : File) (text : List ℕ) (raw : Raw) (none : first_fault file text raw ≡ None) where
  abbrev names_first : Option Refusal
  names_first = first_of (statement_names file text raw.kind)

  later : option_or names_first (first_of (statement_faults file text raw.start raw.kind)) ≡ None
  later = (neither (option_map (fault_at code.Depth) raw.too_deep) _ none).1

  pub no_names : statement_names file text raw.kind ≡ []
  no_names = no_faults _ (neither names_first _ later).0

  pub no_others : statement_faults file text raw.start raw.kind ≡ []
  no_others = no_faults _ (neither names_first _ later).1
