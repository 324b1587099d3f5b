use Rattle.std.proofs.Common.{◌∙◌, ℕ, sym, ap, subst}
use Rattle.std.proofs.lemmas.List.{get_or_default}
use Rattle.std.specs.Ordering.{nat_cmp}
use Rattle.alg_mono.specs.Monomials.{exponent}
use Rattle.alg_mono.specs.Places.{IsAt, IsGapFor}
use Rattle.alg_mono.proofs.Insertion.{exponent_there, exponent_in_gap}
use Rattle.alg_mono.proofs.mono.Mono.exponent.Goals as goal

-- the atom is at its place, and the pair there is the one that was read
pub returns-in-Ok : goal.returns-in-Ok
returns-in-Ok c =
    let m = c.self.inside.pairs.items in
    let there = subst (λ l. IsAt l c.args.atom c.in-Ok.at) c.deref.ensures.value c.in-Ok.ensures.found in
    let read = c.index.ensures ∙ get_or_default m c.in-Ok.at c.index.result.now (0, 0) there.in_range in
    ap (λ (x : ℕ × ℕ). x.1) read
    ∙ sym (exponent_there m c.args.atom c.in-Ok.at c.self.invariant.canonical there)
    ∙ ap (exponent nat_cmp c.args.atom) c.self.view_is

-- no pair has the atom
pub returns-in-Err : goal.returns-in-Err
returns-in-Err c =
    let m = c.self.inside.pairs.items in
    let gap = subst (λ l. IsGapFor l c.args.atom c.in-Err.field-0) c.deref.ensures.value c.in-Err.ensures.absent in
    sym (exponent_in_gap m c.args.atom c.in-Err.field-0 gap) ∙ ap (exponent nat_cmp c.args.atom) c.self.view_is
