use Rattle.std.proofs.Common.{◌≡◌, [], map, sym, ap, ◌∙◌, false, rules}
use Rattle.std.proofs.lemmas.Result.{IfOk-weaker}
use Rattle.alg_lines.specs.Constants.{constants, added}
use Rattle.alg_lines.proofs.Added.{added-append}
use Rattle.alg_lines.proofs.constants.constants_of.Goals as goal

pub returns : goal.returns
returns c =
    let cert = c.args.cert.now in
    let other : c.args.char0 ≡ false = search rules in
    let lines : c.items.result.now ≡ cert.lines = search rules in
    let steps : c.items-2.result.now ≡ cert.steps = search rules in
    let divisors : map (λ l. l.d) c.items.result.now ≡ map (λ l. l.d) cert.lines = ap (map (λ l. l.d)) lines in
    let factors : map (λ s. s.a) c.items-2.result.now ≡ map (λ s. s.a) cert.steps = ap (map (λ s. s.a)) steps in
    let none : c.new-set.result.keys ≡ [] = search rules in
    let keys : c.add_factors.new.set.keys ≡ constants cert c.args.char0 = c.in_ok-add_factors.ensures
    ∙ (λ i. added (c.in_ok-add_divisors.ensures i) (factors i))
    ∙ (λ i. added (added (none i) (divisors i)) (map (λ s. s.a) cert.steps))
    ∙ sym (added-append [] (map (λ l. l.d) cert.lines) (map (λ s. s.a) cert.steps))
    ∙ ap (constants cert) (sym other) in
    IfOk-weaker c.listed.result (λ v. v.items ≡ c.add_factors.new.set.keys) (λ v. v.items ≡ constants cert c.args.char0)
    (λ v is. is ∙ keys) c.listed.ensures
