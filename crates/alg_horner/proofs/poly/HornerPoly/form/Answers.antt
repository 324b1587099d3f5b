use Rattle.alg_horner.specs.Trees.{form_of}
use Rattle.alg_horner.proofs.Polynomials.{within_limits}
use Rattle.alg_horner.proofs.poly.HornerPoly.form.Goals as goal

pub returns-clause-sound : goal.returns-clause-sound
returns-clause-sound c = within_limits (form_of c.self.inside.form) c.args.self.now c.self.invariant c.self.view_is
