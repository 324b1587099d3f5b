use Rattle.std.proofs.Common.{◌≡◌, ◌∙◌, ◌+◌, ◌∷◌, [], sym, ap, subst, arith, get_or, take}
use Rattle.std.proofs.lemmas.List.{take_more}
use Rattle.std.specs.Ordering.{nat_cmp}
use Rattle.std.specs.Cmp.{nat_cmp_total}
use Rattle.std.specs.FinMap.{nat_cmp-IsAntisymmetric}
use Rattle.alg_mono.specs.FiniteMaps.{IsCanonical, collect, put_in}
use Rattle.alg_mono.specs.Numbers.{exponents}
use Rattle.alg_mono.specs.Monomials.{degree}
use Rattle.alg_mono.proofs.Numbers.{exponent_laws}
use Rattle.alg_mono.proofs.Canonical.{IsCanonical-collect}
use Rattle.alg_mono.proofs.Merges.{collect_swap, collect_none}
use Rattle.alg_mono.proofs.Monomials.{degree-collect}
use Rattle.alg_mono.proofs.Sums.{degree-take_more}
use Rattle.alg_mono.proofs.from_pairs.collected.Goals as goal
use Rattle.alg_mono.proofs.from_pairs.collected.Goals.{then-exponent-gt0+in_ok-add_power, else-exponent-gt0}

pub add_power-requires-clause-rises : goal.add_power-requires-clause-rises
add_power-requires-clause-rises c =
    subst (IsCanonical nat_cmp exponents) (sym c.loop-atom.invariant)
    (IsCanonical-collect exponent_laws nat_cmp_total nat_cmp-IsAntisymmetric
    (take c.loop-atom.atom-index c.args.pairs.now))

-- the degree so far with this exponent is at most that of all
pub add_power-requires-clause-small : goal.add_power-requires-clause-small
add_power-requires-clause-small c =
    let before = take c.loop-atom.atom-index c.args.pairs.now in
    omega (
      arith,
      ap (λ m. degree m) c.loop-atom.invariant,
      degree-collect nat_cmp_total nat_cmp-IsAntisymmetric before,
      degree-take_more c.args.pairs.now c.loop-atom.atom-index (0, 0) (omega arith),
      c.requires,
    )

-- one more pair is put in, unless its exponent is 0
pub loop-atom-preserved : goal.loop-atom-preserved
loop-atom-preserved c =
    let all = c.args.pairs.now in
    let i = c.loop-atom.atom-index in
    let x = get_or all i (0, 0) in
    let before = take i all in
    let one_more : collect nat_cmp exponents (take (i + 1) all) ≡ collect nat_cmp exponents (x ∷ before) =
    ap (collect nat_cmp exponents) (take_more all i (0, 0) (omega arith))
    ∙ collect_swap exponent_laws nat_cmp_total nat_cmp-IsAntisymmetric before (x ∷ []) in
    elim c.if-exponent-gt0.branch [
      | then-exponent-gt0+in_ok-add_power w ↦
          rw w.out-is (w.in_ok-add_power.ensures ∙ ap (put_in nat_cmp exponents x.0 x.1) c.loop-atom.invariant
          ∙ sym one_more)
      | else-exponent-gt0 w ↦
          let zero : x.1 ≡ 0 = omega (arith, w.if-exponent-gt0.false) in
          rw w.out-is (c.loop-atom.invariant
          ∙ sym (one_more ∙ ap (λ n. put_in nat_cmp exponents x.0 n (collect nat_cmp exponents before)) zero
          ∙ collect_none exponent_laws nat_cmp_total nat_cmp-IsAntisymmetric x.0 before))
    ]
