use Rattle.std.proofs.Common.{◌≡◌, [], sym, subst, None}
use Rattle.std.specs.Option.{option_map_or}
use Rattle.std.specs.Prelude.{All}
use Rattle.alg_reader.specs.declared.raw.RawAnswer.{RawAnswer}
use Rattle.alg_reader.specs.WellRead.{IsWellAnswer, IsWellTerm}
use Rattle.alg_typing.specs.AnswerTerms.{first_fault_of_term}
use Rattle.alg_annotated.specs.Names.{answer_names}
use Rattle.alg_annotated.specs.Rules.{last_goal, part_faults, count_fault, version_fault}
use Rattle.alg_annotated.proofs.Clear.{both_empty, term_clear, terms_clear}
use Rattle.alg_annotated.proofs.ClearMonomials.{count_within, mono_clear}
use Rattle.alg_annotated.proofs.scope.Scope.answer_of.Goals as goal

pub terms_of-requires : goal.terms_of-requires
terms_of-requires c =
    let file = c.args.self.now.declared.now in
    let text = c.args.self.now.text.now in
    let by = last_goal file in
    let names = subst (λ (a : RawAnswer). answer_names file text a ≡ []) c.in-Proved.is c.requires.names in
    let parts = subst (λ (a : RawAnswer). part_faults file text by a ≡ []) c.in-Proved.is c.requires.parts in
    record {
      well_read = subst (All (IsWellTerm text)) (sym c.items.ensures)
          (subst (IsWellAnswer text) c.in-Proved.is c.requires.well_read);
      there = c.requires.there;
      faultless = subst (All (λ t. first_fault_of_term file text by t ≡ None)) (sym c.items.ensures)
          (terms_clear file text by _ names parts);
    }

pub count_of-requires : goal.count_of-requires
count_of-requires c =
    let file = c.args.self.now.declared.now in
    let text = c.args.self.now.text.now in
    let parts =
    subst (λ (a : RawAnswer). part_faults file text (last_goal file) a ≡ []) c.in-Certified.is c.requires.parts in
    count_within c.in-Certified.power
    (both_empty (option_map_or version_fault c.in-Certified.version []) (count_fault c.in-Certified.power) parts).1

pub monomial_of-requires : goal.monomial_of-requires
monomial_of-requires c =
    let file = c.args.self.now.declared.now in
    let text = c.args.self.now.text.now in
    let parts =
    subst (λ (a : RawAnswer). part_faults file text (last_goal file) a ≡ []) c.in-No.is c.requires.parts in
    record {
      well_read = (subst (IsWellAnswer text) c.in-No.is c.requires.well_read).0;
      faultless = mono_clear file text _ _ _ c.requires.atoms parts;
    }

pub term_of-requires : goal.term_of-requires
term_of-requires c =
    let file = c.args.self.now.declared.now in
    let text = c.args.self.now.text.now in
    let by = last_goal file in
    let names = subst (λ (a : RawAnswer). answer_names file text a ≡ []) c.in-ZeroDenominator.is c.requires.names in
    let parts =
    subst (λ (a : RawAnswer). part_faults file text by a ≡ []) c.in-ZeroDenominator.is c.requires.parts in
    record {
      well_read = subst (IsWellAnswer text) c.in-ZeroDenominator.is c.requires.well_read;
      there = c.requires.there;
      faultless = term_clear file text by _ names parts;
    }

pub count_of-requires-in-NoneUpTo : goal.count_of-requires-in-NoneUpTo
count_of-requires-in-NoneUpTo c =
    let file = c.args.self.now.declared.now in
    let text = c.args.self.now.text.now in
    count_within c.in-NoneUpTo.power
    (subst (λ (a : RawAnswer). part_faults file text (last_goal file) a ≡ []) c.in-NoneUpTo.is c.requires.parts)

pub count_of-requires-in-GaveUp : goal.count_of-requires-in-GaveUp
count_of-requires-in-GaveUp c =
    let file = c.args.self.now.declared.now in
    let text = c.args.self.now.text.now in
    count_within c.in-GaveUp.limit
    (subst (λ (a : RawAnswer). part_faults file text (last_goal file) a ≡ []) c.in-GaveUp.is c.requires.parts)
