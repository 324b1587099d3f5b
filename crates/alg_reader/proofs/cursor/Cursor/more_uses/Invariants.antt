use Rattle.std.proofs.Common.{◌≡◌, ◌∷◌, ◌++◌, List, length}
use Rattle.alg_tokens.specs.declared.token.Token.{Token}
use Rattle.alg_tokens.specs.declared.token.TokenKind.TheVariants as kinds
use Rattle.alg_tokens.specs.declared.token.Sign.TheVariants as signs
use Rattle.alg_reader.specs.declared.cursor.Fault.{Fault}
use Rattle.alg_reader.specs.Forms.{a, seq, many, rule, Use}
use Rattle.alg_reader.specs.TermMeaning.{Value}
use Rattle.alg_reader.specs.PartMeaning.{uses_after}
use Rattle.alg_reader.specs.Reading.{Takes, Fails}
use Rattle.alg_reader.proofs.cursor.Cursor.more_uses.Given as goal

-- the uses that are left decide about all of them
abbrev pub invariant-uses : goal.invariant-uses
invariant-uses l = ((rest : List Token) (y : Value) → Takes (many (seq (a (kinds.Sign signs.Comma))
    (rule Use))) l.self rest y
    → (x : Value) × Takes (many (seq (a (kinds.Sign signs.Comma)) (rule Use))) l.fn.self rest x
    × (l.uses.items ++ uses_after y ≡ l.fn.first ∷ uses_after x))
    × ((e : Fault) → Fails (many (seq (a (kinds.Sign signs.Comma)) (rule Use))) l.self e
    → Fails (many (seq (a (kinds.Sign signs.Comma)) (rule Use))) l.fn.self e)

abbrev pub decreases-uses : goal.decreases-uses
decreases-uses l = length l.self
