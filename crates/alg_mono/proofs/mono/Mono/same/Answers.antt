use Rattle.std.proofs.Common.{◌≡◌, ℕ, ◌==◌, ◌&&◌, rules, arith}
use Rattle.std.proofs.lemmas.Bool.Decides.{nat_tests}
use Rattle.std.specs.Bool.{Decides}
use Rattle.std.proofs.lemmas.Slice.Eq.{slice_eq-Decides}
use Rattle.alg_mono.proofs.mono.Mono.same.Goals as goal

-- two pairs are equal where both parts are
pairs_decide : (x y : ℕ × ℕ) → Decides (x.0 == y.0 && x.1 == y.1) (x ≡ y)
pairs_decide x y = (
  λ e. let p : x.0 ≡ y.0 = grind (arith, nat_tests, e) in
      let q : x.1 ≡ y.1 = grind (arith, nat_tests, e) in
      λ i. (p i, q i),
  λ e. let p : x.0 ≡ y.0 = λ i. (e i).0 in
      let q : x.1 ≡ y.1 = λ i. (e i).1 in
      grind (arith, nat_tests, p, q),
)

pub returns : goal.returns
returns c =
    search (
      rules,
      slice_eq-Decides pairs_decide c.self.inside.pairs.items c.other.inside.pairs.items c.eq.result
          c.eq.ensures,
    )
