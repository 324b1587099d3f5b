use Rattle.std.proofs.Common.{◌≡◌, ◌∷◌, List, sym, subst, arith}
use Rattle.std.proofs.lemmas.Grind.{common_steps}
use Rattle.alg_tokens.specs.declared.token.Token.{Token}
use Rattle.alg_reader.specs.Forms.{a}
use Rattle.alg_reader.specs.TermMeaning.{one}
use Rattle.alg_reader.specs.Reading.{Takes, IsStuckAt}
use Rattle.alg_reader.proofs.ReadSequences.{takes_token, stops_token}
use Rattle.alg_reader.proofs.cursor.Cursor.expect.Goals as goal

pub returns-then-not-same_kind : goal.returns-then-not-same_kind
returns-then-not-same_kind c =
    let t = c.peek-token.result in
    let rest = c.peek-token.ensures.0 in
    let P : List Token → Type 0 = λ ts. IsStuckAt (a c.args.kind) ts (t ∷ rest) in (
      rest,
      subst P (sym c.peek-token.ensures.1) (stops_token c.args.kind t rest (λ h. grind (
        arith,
        common_steps,
        c.same_kind.ensures.1 h,
      ))),
    )

pub returns : goal.returns
returns c =
    let t = c.peek-token.result in
    let P : List Token → Type 0 = λ ts. Takes (a c.args.kind) ts c.advance.new.self (one t) in
    let e : c.args.self.now ≡ t ∷ c.advance.new.self = let h = c.peek-token.ensures.1 in
    let k = c.advance.ensures.1 in cc in
    subst P (sym e) (takes_token c.args.kind t c.advance.new.self (c.same_kind.ensures.0 (grind (arith, common_steps))))
