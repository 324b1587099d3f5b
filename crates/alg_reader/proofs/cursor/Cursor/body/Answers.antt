use Rattle.alg_reader.proofs.Bodies.{lacks_ring, lacks_sort, lacks_hom, lacks_vars, lacks_hyp, starts_ring, starts_sort, starts_hom, starts_vars, starts_hyp, body_ring, body_sort, body_hom, body_vars, body_hyp, body_goal}
use Rattle.alg_reader.proofs.cursor.Cursor.body.Goals as goal

pub returns-then-sees : goal.returns-then-sees
returns-then-sees c = body_ring _ _ c.ring.result (starts_ring _ c.if-sees.ensures) c.ring.ensures

pub returns-then-sees_either : goal.returns-then-sees_either
returns-then-sees_either c = body_sort _ _ c.sort.result (lacks_ring _ c.if-sees.ensures)
    (starts_sort _ c.if-sees_either.ensures) c.sort.ensures

pub returns-then-sees-2 : goal.returns-then-sees-2
returns-then-sees-2 c = body_hom _ _ c.hom.result (lacks_ring _ c.if-sees.ensures)
    (lacks_sort _ c.if-sees_either.ensures) (starts_hom _ c.if-sees-2.ensures) c.hom.ensures

pub returns-then-sees-3 : goal.returns-then-sees-3
returns-then-sees-3 c = body_vars _ _ c.vars.result (lacks_ring _ c.if-sees.ensures)
    (lacks_sort _ c.if-sees_either.ensures) (lacks_hom _ c.if-sees-2.ensures)
    (starts_vars _ c.if-sees-3.ensures) c.vars.ensures

pub returns-then-sees-4 : goal.returns-then-sees-4
returns-then-sees-4 c = body_hyp _ _ c.hyp.result (lacks_ring _ c.if-sees.ensures)
    (lacks_sort _ c.if-sees_either.ensures) (lacks_hom _ c.if-sees-2.ensures) (lacks_vars _ c.if-sees-3.ensures)
    (starts_hyp _ c.if-sees-4.ensures) c.hyp.ensures

pub returns : goal.returns
returns c = body_goal _ _ c.goal.result (lacks_ring _ c.if-sees.ensures) (lacks_sort _ c.if-sees_either.ensures)
    (lacks_hom _ c.if-sees-2.ensures) (lacks_vars _ c.if-sees-3.ensures)
    (lacks_hyp _ c.if-sees-4.ensures) c.goal.ensures
