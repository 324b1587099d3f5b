-- A goal has at most one verdict by nsatz.
use Rattle.std.specs.Prelude.{◌≡◌, ◌<◌, ◌≤◌, ℕ, List, length}
use Rattle.std.proofs.Common.{refl, sym, ap, ◌∙◌, arith, inl, inr}
use Rattle.alg_terms.specs.declared.file.File.{File}
use Rattle.alg_terms.specs.declared.goals.Equation.{Equation}
use Rattle.alg_terms.specs.declared.goals.Method.{Method}
use Rattle.alg_terms.specs.declared.goals.Method.TheVariants.{ByRing, ByField, ByNsatz}
use Rattle.alg_terms.specs.declared.goals.Use.{Use}
use Rattle.alg_terms.specs.Members.{sort_at}
use Rattle.alg_mono.specs.NumberedPolynomials.{Polynomial}
use Rattle.alg_mono.specs.Outcomes.{Outcome}
use Rattle.alg_lines.specs.Constants.{constants}
use Rattle.alg_groebner.specs.Laws.{OneEnd}
use Rattle.alg_groebner.specs.Pruning.{certificate}
use Rattle.alg_groebner.specs.Runs.{Comes, too_great, too_high, runs}
use Rattle.alg_groebner.specs.State as state
use Rattle.alg_groebner.specs.State.{State, End}
use Rattle.alg_reify.specs.Preparing.{prepared_goal, prepared_hyps, prepared_outcome}
use Rattle.alg_reify.specs.Table.{MAX_ATOMS, table}
use Rattle.alg_nsatz.specs.Laws.{OneNsatzVerdict}
use Rattle.alg_nsatz.specs.Verdict.{NsatzVerdict, IsVerdictBy, IsVerdictOf}

-- a search has one end, in one state
module _ (one : OneEnd) (hyps : List Polynomial) (g : Polynomial) (power limit : ℕ) where
  one_end : (a b : State) (e f : End) → Comes hyps g power limit a e → Comes hyps g power limit b f →
      (a ≡ b) × (e ≡ f)
  one_end a b e f (too_great x) (too_great y) = (refl, refl)
  one_end a b e f (too_great x) (too_high y) = absurd (cc)
  one_end a b e f (too_great x) (runs y r) = absurd (cc)
  one_end a b e f (too_high x) (too_great y) = absurd (cc)
  one_end a b e f (too_high x) (too_high y) = (refl, refl)
  one_end a b e f (too_high x) (runs y r) = absurd (cc)
  one_end a b e f (runs x q) (too_great y) = absurd (cc)
  one_end a b e f (runs x q) (too_high y) = absurd (cc)
  one_end a b e f (runs x q) (runs y r) = one limit _ a b e f q r

module _ (one : OneEnd) (file : File) (e : Equation) (uses : List Use) (power limit : ℕ) where
  -- the verdict of an end in a state
  verdict_at : State → End → NsatzVerdict
  verdict_at last (state.Proved r) =
      NsatzVerdict.Proved (constants (certificate last r) (sort_at file e.sort).char0) (certificate last r)
  verdict_at last (state.NoneUpTo r) = NsatzVerdict.NoneUpTo r
  verdict_at last state.GaveUp = NsatzVerdict.GaveUp limit
  verdict_at last state.Range = NsatzVerdict.Range
  verdict_at last state.Degree = NsatzVerdict.Degree

  abbrev Few : Type 0
  Few = length (table file e uses) ≤ MAX_ATOMS

  -- how a verdict came
  data Came (v : NsatzVerdict) : Type 0 where
    atoms : MAX_ATOMS < length (table file e uses) → v ≡ NsatzVerdict.Atoms → Came v
    range : Few → prepared_outcome file e uses ≡ Outcome.Range → v ≡ NsatzVerdict.Range → Came v
    degree : Few → prepared_outcome file e uses ≡ Outcome.Degree → v ≡ NsatzVerdict.Degree → Came v
    searched : Few → prepared_outcome file e uses ≡ Outcome.Fine → (last : State) (end : End) →
        Comes (prepared_hyps file e uses) (prepared_goal file e uses) power limit last end → v ≡ verdict_at last end →
        Came v

  came : (v : NsatzVerdict) → IsVerdictOf file e uses power limit v → Came v
  unfolding verdict_at
  came NsatzVerdict.Atoms h = atoms h refl
  came NsatzVerdict.Range h =
      elim h [
        | inl x ↦ range x.0 x.1 refl
        | inr x ↦ searched x.1.0.0 x.1.0.1 x.0 state.Range x.1.1 refl
      ]
  came NsatzVerdict.Degree h =
      elim h [
        | inl x ↦ degree x.0 x.1 refl
        | inr x ↦ searched x.1.0.0 x.1.0.1 x.0 state.Degree x.1.1 refl
      ]
  came (NsatzVerdict.Proved numbers cert) h =
      let char0 = (sort_at file e.sort).char0 in
      searched h.ends.0.0 h.ends.0.1 h.last (state.Proved h.least) h.ends.1
      (λ i. NsatzVerdict.Proved ((h.constants ∙ ap (λ c. constants c char0) h.certificate) i) (h.certificate i))
  came (NsatzVerdict.NoneUpTo r) h = searched h.1.0.0 h.1.0.1 h.0 (state.NoneUpTo r) h.1.1 refl
  came (NsatzVerdict.GaveUp n) h =
      searched h.1.1.0.0 h.1.1.0.1 h.1.0 state.GaveUp h.1.1.1 (ap (λ k. NsatzVerdict.GaveUp k) h.0)

  one_came : (v w : NsatzVerdict) → Came v → Came w → v ≡ w
  one_came v w (atoms x p) (atoms y q) = p ∙ sym q
  one_came v w (atoms x p) (range few y q) = absurd (omega arith)
  one_came v w (atoms x p) (degree few y q) = absurd (omega arith)
  one_came v w (atoms x p) (searched few y last end comes q) = absurd (omega arith)
  one_came v w (range few x p) (atoms y q) = absurd (omega arith)
  one_came v w (range few x p) (range also y q) = p ∙ sym q
  one_came v w (range few x p) (degree also y q) = absurd (cc)
  one_came v w (range few x p) (searched also y last end comes q) = absurd (cc)
  one_came v w (degree few x p) (atoms y q) = absurd (omega arith)
  one_came v w (degree few x p) (range also y q) = absurd (cc)
  one_came v w (degree few x p) (degree also y q) = p ∙ sym q
  one_came v w (degree few x p) (searched also y last end comes q) = absurd (cc)
  one_came v w (searched few x last end comes p) (atoms y q) = absurd (omega arith)
  one_came v w (searched few x last end comes p) (range also y q) = absurd (cc)
  one_came v w (searched few x last end comes p) (degree also y q) = absurd (cc)
  one_came v w (searched few x a end comes p) (searched also y b other goes q) =
      let same = one_end one (prepared_hyps file e uses) (prepared_goal file e uses) power limit a b end other comes
      goes
      in
      p ∙ (λ i. verdict_at (same.0 i) (same.1 i)) ∙ sym q

one_by : OneEnd → (file : File) (e : Equation) (method : Method) (v w : NsatzVerdict) → IsVerdictBy file e method v →
    IsVerdictBy file e method w → v ≡ w
one_by one file e ByRing v w h g = absurd h
one_by one file e ByField v w h g = absurd h
one_by one file e (ByNsatz uses power limit) v w h g =
    one_came one file e uses power limit v w (came one file e uses power limit v h)
    (came one file e uses power limit w g)

pub one_nsatz_verdict : OneEnd → OneNsatzVerdict
one_nsatz_verdict one file goal v w h g = one_by one file goal.equation goal.method v w h g
