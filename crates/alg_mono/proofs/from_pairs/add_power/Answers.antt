use Rattle.std.proofs.Common.{◌≡◌, ◌∙◌, ◌+◌, ℕ, sym, ap, subst, arith, get_or, set}
use Rattle.std.proofs.lemmas.List.{get_or_default}
use Rattle.alg_mono.specs.Places.{IsAt, IsGapFor}
use Rattle.alg_mono.proofs.Insertion.{put_in_at, put_in_gap}
use Rattle.alg_mono.proofs.from_pairs.add_power.Goals as goal

-- the atom is there, and its exponent grows
pub returns-in-Ok : goal.returns-in-Ok
returns-in-Ok c =
    let m = c.args.pairs.now.items in
    let there = subst (λ l. IsAt l c.args.atom c.in-Ok.at) c.deref.ensures.value c.in-Ok.ensures.found in
    let read = get_or_default m c.in-Ok.at c.index_mut.result.now (0, 0) there.in_range in
    let old = get_or m c.in-Ok.at (0, 0) in
    let is : c.index_mut.result.now ≡ old = c.index_mut.ensures.value ∙ read in
    let atom : c.index_mut.result.now.0 ≡ c.args.atom = ap (λ (x : ℕ × ℕ). x.0) is ∙ there.has_atom in
    let sum : c.index_mut.result.now.1 + c.args.exponent ≡
    c.args.exponent + old.1 = let e = ap (λ (x : ℕ × ℕ). x.1) is in omega arith in
    (λ i. set m c.in-Ok.at (atom i, sum i))
    ∙ sym (put_in_at m c.args.atom c.args.exponent c.in-Ok.at c.requires.rises c.requires.positive there)

-- the pair goes into the gap
pub returns-in_ok-insert-in-Err : goal.returns-in_ok-insert-in-Err
returns-in_ok-insert-in-Err c =
    let m = c.args.pairs.now.items in
    let gap = subst (λ l. IsGapFor l c.args.atom c.in-Err.at) c.deref.ensures.value c.in-Err.ensures.absent in
    c.in_ok-insert-in-Err.ensures.items
    ∙ sym (put_in_gap m c.args.atom c.args.exponent c.in-Err.at c.requires.positive gap)
