-- What is found for a task is the verdict on its goal.
use Rattle.std.specs.Prelude.{◌≡◌, ◌<◌, ◌≤◌, ◌^◌, ℕ, Bool, List, length}
use Rattle.std.specs.declared.result.Result.TheVariants.{Ok, Err}
use Rattle.std.proofs.Common.{ap, subst, ◌∙◌, arith, inl, inr}
use Rattle.alg_terms.specs.declared.file.File.{File}
use Rattle.alg_terms.specs.declared.goals.Equation.{Equation}
use Rattle.alg_terms.specs.declared.goals.Goal.{Goal}
use Rattle.alg_terms.specs.declared.goals.Method.{Method}
use Rattle.alg_terms.specs.declared.goals.Method.TheVariants.{ByRing, ByField, ByNsatz}
use Rattle.alg_terms.specs.declared.goals.Use.{Use}
use Rattle.alg_terms.specs.GoalRules.{IsGoal, MayBeBy}
use Rattle.alg_terms.specs.Members.{sort_at}
use Rattle.alg_mono.specs.declared.ends.Overrun.{Overrun}
use Rattle.alg_mono.specs.NumberedPolynomials.{Polynomial}
use Rattle.alg_groebner.specs.Runs.{Comes}
use Rattle.alg_groebner.specs.State as state
use Rattle.alg_groebner.specs.State.{State, End}
use Rattle.alg_groebner.specs.Verdicts.{ComesTo}
use Rattle.alg_reify.specs.declared.stop.Stop.{Stop}
use Rattle.alg_reify.specs.Preparing.{is_equation, prepared_goal, prepared_hyps, used_difference}
use Rattle.alg_reify.specs.Stops.{stop_of_polynomial}
use Rattle.alg_reify.specs.Table.{table}
use Rattle.alg_reify.proofs.UseTurns.{kept_length}
use Rattle.alg_nsatz.specs.declared.decide.NsatzAnswer.{NsatzAnswer}
use Rattle.alg_nsatz.specs.declared.preparing.Task.{Task}
use Rattle.alg_nsatz.specs.Answers.{Answers, StopsWith, verdict_of}
use Rattle.alg_nsatz.specs.Tasks.{IsPrepared, IsTaskBy, IsTask, StopsTask}
use Rattle.alg_nsatz.specs.Verdict.{NsatzVerdict, IsVerdictBy, IsVerdictOf, SearchEnds, SearchComesTo}

-- the limits of a search
pub record IsSmall (t : Task) : Type 0 where
  pub few : length t.hyps < 2 ^ 31
  pub powers : t.power ≤ 16
  pub limited : t.limit ≤ 1000000

small_by : (file : File) (e : Equation) (method : Method) (t : Task) → MayBeBy file e method →
    IsTaskBy file e method t →
    IsSmall t
small_by file e ByRing t is h = absurd h
small_by file e ByField t is h = absurd h
small_by file e (ByNsatz uses power limit) t is h =
    let most = is.few_uses in
    let high = is.power_high in
    let far = is.limit_high in
    let kept = kept_length (is_equation file) (used_difference file (table file e uses)) uses in
    record {
      few = omega (arith, ap (λ (ps : List Polynomial). length ps) h.0.hyps, kept, most);
      powers = omega (arith, h.1, high);
      limited = omega (arith, h.2, far);
    }

pub small : (file : File) (goal : Goal) (t : Task) → IsGoal file goal → IsTask file goal t → IsSmall t
small file goal t is h = small_by file goal.equation goal.method t is.method h

-- ---- the search of a task is that of its goal
module _ (file : File) (e : Equation) (uses : List Use) (power limit : ℕ) (t : Task)
    (is : IsPrepared file e uses t) (same_power : t.power ≡ power) (same_limit : t.limit ≡ limit) where
  moved : (last : State) (end : End) → Comes t.hyps t.goal t.power t.limit last end →
      SearchEnds file e uses power limit last end
  moved last end comes = (
    is.fine,
    subst (λ n. Comes (prepared_hyps file e uses) (prepared_goal file e uses) power n last end) same_limit
        (subst (λ n. Comes (prepared_hyps file e uses) (prepared_goal file e uses) n t.limit last end) same_power
        (subst (λ g. Comes (prepared_hyps file e uses) g t.power t.limit last end) is.goal
        (subst (λ hyps. Comes hyps t.goal t.power t.limit last end) is.hyps comes))),
  )

  ended : (end : End) → ComesTo t.hyps t.goal t.power t.limit end → SearchComesTo file e uses power limit end
  ended end h = (h.0, moved h.0 end h.1)

  found_of : (a : NsatzAnswer) → Answers t (sort_at file e.sort).char0 (Ok a) →
      IsVerdictOf file e uses power limit (verdict_of a)
  found_of (NsatzAnswer.Proved numbers cert) h = record {
    last = h.0.0;
    least = h.0.1;
    ends = moved h.0.0 (state.Proved h.0.1) h.0.2;
    certificate = h.0.3;
    constants = h.1;
  }
  found_of (NsatzAnswer.NoneUpTo r) h = ended (state.NoneUpTo r) h
  found_of (NsatzAnswer.GaveUp n) h = (h.0 ∙ same_limit, ended state.GaveUp h.1)

  range_of : Answers t (sort_at file e.sort).char0 (Err Overrun.Range) →
      IsVerdictOf file e uses power limit NsatzVerdict.Range
  range_of h = inr (ended state.Range h)

  degree_of : Answers t (sort_at file e.sort).char0 (Err Overrun.Degree) →
      IsVerdictOf file e uses power limit NsatzVerdict.Degree
  degree_of h = inr (ended state.Degree h)

module _ (file : File) (e : Equation) (t : Task) where
  abbrev char0 : Bool
  char0 = (sort_at file e.sort).char0

  found_by : (method : Method) → IsTaskBy file e method t → (a : NsatzAnswer) → Answers t char0 (Ok a) →
      IsVerdictBy file e method (verdict_of a)
  found_by ByRing h a found = absurd h
  found_by ByField h a found = absurd h
  found_by (ByNsatz uses power limit) h a found = found_of file e uses power limit t h.0 h.1 h.2 a found

  range_by : (method : Method) → IsTaskBy file e method t → Answers t char0 (Err Overrun.Range) →
      IsVerdictBy file e method NsatzVerdict.Range
  range_by ByRing h found = absurd h
  range_by ByField h found = absurd h
  range_by (ByNsatz uses power limit) h found = range_of file e uses power limit t h.0 h.1 h.2 found

  degree_by : (method : Method) → IsTaskBy file e method t → Answers t char0 (Err Overrun.Degree) →
      IsVerdictBy file e method NsatzVerdict.Degree
  degree_by ByRing h found = absurd h
  degree_by ByField h found = absurd h
  degree_by (ByNsatz uses power limit) h found = degree_of file e uses power limit t h.0 h.1 h.2 found

-- what is found is the verdict
pub found : (file : File) (goal : Goal) (t : Task) → IsTask file goal t → (a : NsatzAnswer) →
    Answers t (sort_at file goal.equation.sort).char0 (Ok a) → IsVerdictBy file goal.equation goal.method (verdict_of a)
found file goal t h a answers = found_by file goal.equation t goal.method h a answers

-- and so is what stops the search
pub search_stops : (file : File) (goal : Goal) (t : Task) → IsTask file goal t → (end : Overrun) →
    Answers t (sort_at file goal.equation.sort).char0 (Err end) → StopsWith file goal (stop_of_polynomial end)
search_stops file goal t h Overrun.Range answers = range_by file goal.equation t goal.method h answers
search_stops file goal t h Overrun.Degree answers = degree_by file goal.equation t goal.method h answers
search_stops file goal t h Overrun.NoMemory answers = tt

-- ---- and what stops the preparing
module _ (file : File) (e : Equation) where
  atoms_stop : (method : Method) → StopsTask file e method Stop.Atoms → IsVerdictBy file e method NsatzVerdict.Atoms
  atoms_stop ByRing h = absurd h
  atoms_stop ByField h = absurd h
  atoms_stop (ByNsatz uses power limit) h = h

  range_stop : (method : Method) → StopsTask file e method Stop.Range → IsVerdictBy file e method NsatzVerdict.Range
  range_stop ByRing h = absurd h
  range_stop ByField h = absurd h
  range_stop (ByNsatz uses power limit) h = inl h

  degree_stop : (method : Method) → StopsTask file e method Stop.Degree → IsVerdictBy file e method NsatzVerdict.Degree
  degree_stop ByRing h = absurd h
  degree_stop ByField h = absurd h
  degree_stop (ByNsatz uses power limit) h = inl h

pub preparing_stops : (file : File) (goal : Goal) (stop : Stop) → StopsTask file goal.equation goal.method stop →
    StopsWith file goal stop
preparing_stops file goal Stop.Atoms h = atoms_stop file goal.equation goal.method h
preparing_stops file goal Stop.Range h = range_stop file goal.equation goal.method h
preparing_stops file goal Stop.Degree h = degree_stop file goal.equation goal.method h
preparing_stops file goal Stop.NoMemory h = tt
