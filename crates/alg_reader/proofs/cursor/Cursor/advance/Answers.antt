use Rattle.std.proofs.Common.{◌≡◌, ◌∷◌, ◌++◌, [], sym, ap, ◌∙◌}
use Rattle.alg_reader.specs.Kinds.{variant}
use Rattle.alg_reader.proofs.Chains.{empty_below_one}
use Rattle.alg_reader.proofs.cursor.Cursor.advance.Goals as goal

pub returns-in_default : goal.returns-in_default
returns-in_default c =
    let e : c.args.self.now ≡ c.self.inside.end ∷ [] = sym c.self.view_is
    ∙ ap (λ ts. ts ++ c.self.inside.end ∷ []) (empty_below_one c.self.inside.rest.now c.in_default.len_below) in
    absurd (c.requires c.self.inside.end [] e (ap variant c.self.invariant))
