use Rattle.std.proofs.Common.{◌≡◌, ◌≤◌, ◌+◌, ◌*◌, List, length}
use Rattle.alg_tokens.specs.declared.token.Token.{Token}
use Rattle.alg_tokens.specs.declared.token.TokenKind.TheVariants as kinds
use Rattle.alg_tokens.specs.declared.token.Sign.TheVariants as signs
use Rattle.alg_reader.specs.declared.raw.RawTerm.{RawTerm}
use Rattle.alg_reader.specs.declared.cursor.Fault.{Fault}
use Rattle.alg_reader.specs.Forms.{rule, Sum, Product, Unary}
use Rattle.alg_reader.specs.TermMeaning.{term}
use Rattle.alg_reader.specs.RawNodes.{opposites}
use Rattle.alg_reader.specs.Parts.{held}
use Rattle.alg_reader.specs.Reading.{Takes, Fails, Continues, turn}
use Rattle.alg_reader.proofs.cursor.Cursor.+terms.Given as goal

abbrev pub decreases-sum : goal.decreases-sum
decreases-sum l = length l.self.now * 6 + 5

abbrev pub decreases-product : goal.decreases-product
decreases-product l = length l.self.now * 6 + 4

abbrev pub decreases-unary : goal.decreases-unary
decreases-unary l = length l.self.now * 6 + 3

abbrev pub decreases-power : goal.decreases-power
decreases-power l = length l.self.now * 6 + 2

abbrev pub decreases-leaf : goal.decreases-leaf
decreases-leaf l = length l.self.now * 6 + 1

abbrev pub decreases-inside : goal.decreases-inside
decreases-inside l = length l.self.now * 6 + 0

abbrev pub invariant-sum-turns : goal.invariant-sum-turns
invariant-sum-turns l = (t : RawTerm) × (l.sum ≡ held t) × Continues (turn (kinds.Sign signs.Plus)
    (kinds.Sign signs.Minus) Product) Sum l.fn.self l.self t × (length l.self ≤ length l.fn.self)

abbrev pub decreases-sum-turns : goal.decreases-sum-turns
decreases-sum-turns l = length l.self

abbrev pub invariant-product-turns : goal.invariant-product-turns
invariant-product-turns l = (t : RawTerm) × (l.product ≡ held t) × Continues (turn (kinds.Sign signs.Star)
    (kinds.Sign signs.Slash) Unary) Product l.fn.self l.self t × (length l.self ≤ length l.fn.self)

abbrev pub decreases-product-turns : goal.decreases-product-turns
decreases-product-turns l = length l.self

abbrev pub invariant-unary-signs : goal.invariant-unary-signs
invariant-unary-signs l =
    ((rest : List Token) (t : RawTerm) → Takes (rule Unary) l.self rest (term t)
    → Takes (rule Unary) l.fn.self rest (term (opposites l.heads.items t)))
    × ((e : Fault) → Fails (rule Unary) l.self e → Fails (rule Unary) l.fn.self e)
    × (length l.self ≤ length l.fn.self)

abbrev pub decreases-unary-signs : goal.decreases-unary-signs
decreases-unary-signs l = length l.self
