use Rattle.std.proofs.Common.{rules, ◌∙◌, sym, ap}
use mir.Syntax.{w128}
use mir.Val.{SFits}
use Rattle.std.proofs.lemmas.Int.{to_z-of_z}
use Rattle.alg_horner.specs.Maps.{map_of}
use Rattle.alg_horner.specs.Trees.{form_of}
use Rattle.alg_horner.proofs.Polynomials.{constant_is}
use Rattle.alg_field.proofs.NumberTests.{only_number}
use Rattle.alg_field.proofs.constants.number_of.Goals as goal

pub returns-in-Const-clause-number : goal.returns-in-Const-clause-number
returns-in-Const-clause-number c =
    let fits : SFits w128 c.in-Const.c = search rules in
    simp to_z-of_z (sym c.form.ensures.map ∙ ap (λ f. map_of 0 (form_of f)) c.in-Const.is ∙ constant_is c.in-Const.c)

-- the form of a number is a number
pub returns-in_default : goal.returns-in_default
returns-in_default c =
    let form = c.form.ensures in
    record {
      number = λ n same. c.in_default.not-Const n
          (only_number c.form.result.now c.args.p.now n form.canonical.canonical form.map same);
      sound = form.sound;
    }
