use Rattle.std.proofs.Common.{◌≡◌, List, Option, sym, subst, IfOk}
use Rattle.alg_terms.specs.declared.term.Atom.{Atom}
use Rattle.alg_tokens.specs.declared.token.Refusal.{Refusal}
use Rattle.alg_reader.specs.declared.raw.RawAnswer.{RawAnswer}
use Rattle.alg_typing.specs.Faults.{first_of}
use Rattle.alg_annotated.specs.Monomials.{mono_faults}
use Rattle.alg_annotated.specs.Rules.{last_goal, part_faults}
use Rattle.alg_annotated.proofs.scope.Scope.parts_fault.Goals as goal

-- the atoms are those of the last goal
pub returns-in-No : goal.returns-in-No
returns-in-No c =
    let file = c.args.self.now.declared.now in
    let text = c.args.self.now.text.now in
    let faults = part_faults file text (last_goal file) in
    subst
    (λ (said : RawAnswer). IfOk c.mono_fault.result (λ (f : Option Refusal). f ≡ first_of (faults said)))
    (sym c.in-No.is)
    (subst
    (λ (atoms : List Atom). IfOk c.mono_fault.result (λ (f : Option Refusal).
    f ≡ first_of (mono_faults file text atoms c.in-No.at)))
    c.requires.atoms c.mono_fault.ensures)
