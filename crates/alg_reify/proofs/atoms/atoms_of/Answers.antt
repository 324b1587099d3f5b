use Rattle.std.proofs.Common.{◌≡◌, ℕ, List, [], ◌++◌, flat_map, ap, sym, ◌∙◌}
use Rattle.std.proofs.lemmas.List.{append-nil}
use Rattle.indexmap.specs.IndexSet.{insert_all}
use Rattle.alg_terms.specs.declared.term.Atom.{Atom}
use Rattle.alg_terms.specs.declared.file.File.{File}
use Rattle.alg_terms.specs.declared.goals.Equation.{Equation}
use Rattle.alg_terms.specs.declared.goals.Use.{Use}
use Rattle.alg_reify.specs.Table.{table, equation_leaves, use_leaves, atom_eq}
use Rattle.alg_reify.proofs.Insertions.{insert_all-append, too_many}
use Rattle.alg_reify.proofs.Once.{insert_all-none}
use Rattle.alg_reify.proofs.atoms.atoms_of.Goals as goal

-- from nothing, the sides' atoms and then the uses' make the table
made : (file : File) (e : Equation) (uses : List Use) (ks : List Atom) (path : List ℕ) → ks ≡ [] → path ≡ []
    → insert_all atom_eq ks (equation_leaves path e ++ flat_map (use_leaves file) uses) ≡ table file e uses
made file e uses ks path none empty =
    ap (λ l. insert_all atom_eq l (equation_leaves path e ++ flat_map (use_leaves file) uses)) none
    ∙ ap (λ p. insert_all atom_eq [] (equation_leaves p e ++ flat_map (use_leaves file) uses)) empty
    ∙ insert_all-none (equation_leaves [] e ++ flat_map (use_leaves file) uses)

made_after : (file : File) (e : Equation) (uses : List Use) (ks js : List Atom) (path : List ℕ) → ks ≡ [] → path ≡ []
    → js ≡ insert_all atom_eq ks (equation_leaves path e) →
    insert_all atom_eq js (flat_map (use_leaves file) uses) ≡ table file e uses
made_after file e uses ks js path none empty sides =
    ap (λ l. insert_all atom_eq l (flat_map (use_leaves file) uses)) sides
    ∙ sym (insert_all-append ks (equation_leaves path e) (flat_map (use_leaves file) uses))
    ∙ made file e uses ks path none empty

-- the equation has too many atoms
pub returns-in_err-add_equation-clause-too_many : goal.returns-in_err-add_equation-clause-too_many
returns-in_err-add_equation-clause-too_many c = λ is.
    let uses = flat_map (use_leaves c.args.file.now) c.args.uses.now in
    too_many c.new-set.result.keys _ _ _ _ (equation_leaves c.new.result.items c.args.equation.now) uses
    c.from_residual.ensures.1 is
    c.in_err-add_equation.ensures
    (made c.args.file.now c.args.equation.now c.args.uses.now c.new-set.result.keys c.new.result.items
    c.new-set.ensures.empty c.new.ensures.items)

-- the uses have too many
pub returns-in_err-add_uses-clause-too_many : goal.returns-in_err-add_uses-clause-too_many
returns-in_err-add_uses-clause-too_many c = λ is.
    let uses = flat_map (use_leaves c.args.file.now) c.args.uses.now in
    too_many c.add_equation.new.set.keys _ _ _ _ uses [] c.from_residual-in_err-add_uses.ensures.1 is
    c.in_err-add_uses.ensures
    (ap (λ l. insert_all atom_eq c.add_equation.new.set.keys l) (append-nil uses)
    ∙ made_after c.args.file.now c.args.equation.now c.args.uses.now c.new-set.result.keys
    c.add_equation.new.set.keys c.new.result.items
    c.new-set.ensures.empty c.new.ensures.items c.in_ok-add_equation.ensures.0)

-- all were added
pub returns-clause-ok : goal.returns-clause-ok
returns-clause-ok c =
    c.in_ok-add_uses.ensures.0
    ∙ made_after c.args.file.now c.args.equation.now c.args.uses.now c.new-set.result.keys
    c.add_equation.new.set.keys c.new.result.items
    c.new-set.ensures.empty c.new.ensures.items c.in_ok-add_equation.ensures.0

pub returns-clause-small : goal.returns-clause-small
returns-clause-small c =
    let all = returns-clause-ok c in
    rw (sym all) c.in_ok-add_uses.ensures.1
