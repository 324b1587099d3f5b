use Rattle.std.proofs.Common.{List, ◌++◌, ◌∙◌, ap, append_assoc, sym}
use Rattle.alg_reader.specs.declared.raw.RawKind.{RawKind}
use Rattle.alg_terms.specs.declared.term.Atom.{Atom}
use Rattle.alg_reify.specs.Table.{goal_atoms}
use Rattle.alg_typing.specs.Faults.{earlier_of, first_of}
use Rattle.alg_typing.proofs.Firsts.{first_of-append}
use Rattle.alg_annotated.specs.Monomials.{mono_faults}
use Rattle.alg_annotated.specs.Rules.{count_fault, last_goal, statement_faults}
use Rattle.alg_annotated.proofs.scope.Scope.resolved_fault.Goals as goal

pub returns-in_ok-second-in-Line : goal.returns-in_ok-second-in-Line
returns-in_ok-second-in-Line c =
    let file = c.args.self.now.declared.now in
    let text = c.args.self.now.text.now in
    let faults = mono_faults file text (goal_atoms file (last_goal file)) in
    let m = c.in-Line.m in
    let i = c.in-Line.i in
    let n = c.in-Line.n in
    let j = c.in-Line.j in
    let first = c.in_ok-first-in-Line.ensures
    ∙ ap (λ (atoms : List Atom). first_of (mono_faults file text atoms m)) c.requires.atoms in
    let second = c.in_ok-second-in-Line.ensures
    ∙ ap (λ (atoms : List Atom). first_of (mono_faults file text atoms n)) c.requires.atoms in
    let last = c.earlier.ensures ∙ (λ k. earlier_of (second k) (c.count_fault-in-Line.ensures k))
    ∙ sym (first_of-append (faults n) (count_fault j)) in
    let later = c.earlier-later.ensures ∙ (λ k. earlier_of (c.count_fault.ensures k) (last k))
    ∙ sym (first_of-append (count_fault i) (faults n ++ count_fault j)) in
    c.earlier-in-Line.ensures ∙ (λ k. earlier_of (first k) (later k))
    ∙ sym (first_of-append (faults m) (count_fault i ++ (faults n ++ count_fault j)))
    ∙ ap (λ fs. first_of fs) (sym (append_assoc (faults m ++ count_fault i) (faults n) (count_fault j)
    ∙ append_assoc (faults m) (count_fault i) (faults n ++ count_fault j)))
    ∙ ap (λ (kind : RawKind). first_of (statement_faults file text c.args.start kind)) (sym c.in-Line.is)
