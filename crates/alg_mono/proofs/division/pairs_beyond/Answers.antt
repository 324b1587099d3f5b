use Rattle.std.proofs.Common.{◌≡◌, ◌∙◌, ◌+◌, ◌-◌, ◌++◌, [], ap, arith, get_or, refl, drop, append-nil}
use Rattle.std.specs.Ordering.{nat_cmp}
use Rattle.std.specs.Cmp.{nat_cmp_total}
use Rattle.std.specs.FinMap.{nat_cmp-IsAntisymmetric}
use Rattle.alg_mono.specs.FiniteMaps.{keep}
use Rattle.alg_mono.specs.Numbers.{exponents}
use Rattle.alg_mono.specs.Monomials.{exponent, mono_over}
use Rattle.alg_mono.proofs.Sums.{keep_some, keep_none}
use Rattle.alg_mono.proofs.Quotients.{over_turn}
use Rattle.alg_mono.proofs.division.pairs_beyond.Goals as goal
use Rattle.alg_mono.proofs.division.pairs_beyond.Goals.{then-left-gt0+in_ok-push, else-left-gt0}

-- what is pushed is what the pair has beyond the other's exponent, where that is some
pub loop-atom-preserved : goal.loop-atom-preserved
loop-atom-preserved c =
    let pairs = c.args.pairs.now in
    let other = c.args.other.now in
    let i = c.loop-atom.atom-index in
    let x = get_or pairs i (0, 0) in
    let left = c.saturating_sub-left.result in
    let is_left : left ≡ x.1 - exponent nat_cmp x.0 other = c.saturating_sub-left.ensures
    ∙ ap (λ n. x.1 - n) c.exponent.ensures in
    let kept : c.if-left-gt0.out.items ≡
    c.loop-atom.out.items ++ keep nat_cmp exponents x.0 left [] = elim c.if-left-gt0.branch [
      | then-left-gt0+in_ok-push w ↦
          rw (w.out-is, w.in_ok-push.ensures.items, keep_some nat_cmp x.0 left [] w.if-left-gt0.true) refl
      | else-left-gt0 w ↦ rw (
        w.out-is,
        keep_none nat_cmp x.0 left (omega (arith, w.if-left-gt0.false)),
        append-nil
            c.loop-atom.out.items,
      ) refl
    ] in
    ap (λ r. r ++ mono_over nat_cmp (drop (i + 1) pairs) other)
    (kept ∙ ap (λ n. c.loop-atom.out.items ++ keep nat_cmp exponents x.0 n []) is_left)
    ∙ over_turn nat_cmp_total nat_cmp-IsAntisymmetric pairs other c.loop-atom.out.items i (0, 0) c.requires
    (omega arith)
    ∙ c.loop-atom.invariant
