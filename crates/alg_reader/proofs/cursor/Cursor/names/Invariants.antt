use Rattle.std.proofs.Common.{◌≡◌, ◌∷◌, ◌++◌, List, length}
use Rattle.alg_tokens.specs.declared.token.Token.{Token}
use Rattle.alg_tokens.specs.declared.token.TokenKind.TheVariants as kinds
use Rattle.alg_reader.specs.Forms.{a, many}
use Rattle.alg_reader.specs.TermMeaning.{Value}
use Rattle.alg_reader.specs.PartMeaning.{spans}
use Rattle.alg_reader.specs.Reading.{Takes}
use Rattle.alg_reader.proofs.cursor.Cursor.names.Given as goal

-- the names that are left decide about all of them
abbrev pub invariant-names : goal.invariant-names
invariant-names l = (rest : List Token) (y : Value) → Takes (many (a kinds.Name)) l.self rest y
    → (x : Value) × Takes (many (a kinds.Name)) l.fn.self rest x × (l.names.items ++ spans y ≡ l.fn.first ∷ spans x)

abbrev pub decreases-names : goal.decreases-names
decreases-names l = length l.self
