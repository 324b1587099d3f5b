use Rattle.std.proofs.Common.{ap, ◌∙◌}
use Rattle.alg_terms.specs.declared.goals.Goal.{Goal}
use Rattle.alg_typing.specs.AnswerTerms.{answer_sorts}
use Rattle.alg_typing.specs.Faults.{first_of}
use Rattle.alg_typing.proofs.declared.Declared.term_sorts.Goals as goal

pub goal_at-requires : goal.goal_at-requires
goal_at-requires c = c.requires.goal

pub answer_sorts-requires : goal.answer_sorts-requires
answer_sorts-requires c = record { names = c.requires.well_read.names }

pub returns : goal.returns
returns c =
    c.answer_sorts.ensures
    ∙ ap (λ (g : Goal). first_of (answer_sorts c.args.self.now c.args.text.now g c.args.raw.now)) c.goal_at.ensures
