use Rattle.std.proofs.Common.{◌≡◌, [], ◌∷◌, ◌++◌, ◌∙◌, ap, sym, subst, map, take, None}
use Rattle.std.proofs.lemmas.List.{map_more}
use Rattle.std.proofs.lemmas.List.Elements.{All-get_or}
use Rattle.alg_reader.specs.declared.raw.RawTerm.{RawTerm}
use Rattle.alg_reader.specs.WellRead.{IsWellTerm}
use Rattle.alg_typing.specs.AnswerTerms.{first_fault_of_term}
use Rattle.alg_typing.specs.Resolved.{term_of}
use Rattle.alg_annotated.specs.Rules.{last_goal}
use Rattle.alg_annotated.proofs.scope.Scope.terms_of.Goals as goal

pub term_of-requires : goal.term_of-requires
term_of-requires c =
    let file = c.args.self.now.declared.now in
    let text = c.args.self.now.text.now in
    let raws = c.args.raws.now in
    let i = c.loop-raw.raw-index in
    let first = first_fault_of_term file text (last_goal file) in
    record {
      well_read = subst (IsWellTerm text) (sym c.raw-item.is)
          (All-get_or (IsWellTerm text) raws i c.raw-item.result c.loop-raw-test.true c.requires.well_read);
      there = c.requires.there;
      faultless = ap first c.raw-item.is
          ∙ All-get_or (λ (t : RawTerm). first t ≡ None) raws i c.raw-item.result c.loop-raw-test.true c.requires.faultless;
    }

pub loop-raw-preserved : goal.loop-raw-preserved
loop-raw-preserved c =
    let term = term_of c.args.self.now.declared.now c.args.self.now.text.now in
    let raws = c.args.raws.now in
    let i = c.loop-raw.raw-index in
    c.in_ok-push.ensures.items
    ∙ ap (λ ts. ts ++ c.in_ok-term_of.field-0 ∷ []) c.loop-raw.invariant
    ∙ ap (λ t. map term (take i raws) ++ t ∷ []) (c.in_ok-term_of.ensures ∙ ap term c.raw-item.is)
    ∙ sym (map_more term raws i c.raw-item.result c.loop-raw-test.true)
