use Rattle.std.proofs.Common.{◌≡◌, ◌∷◌}
use Rattle.alg_reader.proofs.OneToken.{number_taken, no_number}
use Rattle.alg_reader.proofs.cursor.Cursor.numeral.Goals as goal

pub returns-then-not-sees_number : goal.returns-then-not-sees_number
returns-then-not-sees_number c = (
  c.peek-token.ensures.0,
  no_number c.args.self.now c.peek-token.ensures.0 c.peek-token.result
      c.if-not-sees_number.ensures c.peek-token.ensures.1,
)

pub returns : goal.returns
returns c =
    let e : c.args.self.now ≡ c.peek-token.result ∷ c.advance.new.self =
    let h = c.peek-token.ensures.1 in let k = c.advance.ensures.1 in cc in
    number_taken c.args.self.now c.advance.new.self c.peek-token.result c.if-not-sees_number.ensures e
