-- What a certificate comes to, from what following its lines and its steps comes to.
use Rattle.std.specs.Prelude.{◌≡◌, ◌≢◌, ℕ, suc, ◌+◌, ◌<◌, List, [], ◌∷◌, ◌++◌, None, Result, Ok, Err, IfErr, length}
use Rattle.std.proofs.Common.{get_or, take, drop, sym, subst, ◌∙◌, arith}
use Rattle.std.proofs.Math.Seq.{split_at}
use Rattle.std.proofs.lemmas.List.{length-take-le}
use Rattle.alg_mono.specs.NumberedPolynomials.{Polynomial, power_of}
use Rattle.alg_mono.specs.Outcomes.{power_outcome}
use Rattle.alg_mono.specs.Refusals.{RefusesWith}
use Rattle.alg_mono.specs.declared.ends.Overrun.{Overrun}
use Rattle.alg_lines.specs.declared.cert.Line.{Line}
use Rattle.alg_lines.specs.declared.cert.GoalStep.{GoalStep}
use Rattle.alg_lines.specs.declared.cert.Cert.{Cert}
use Rattle.alg_lines.specs.Accepting.{IsGoodLine, IsGoodStep, AreLines, AreSteps, HasPower, Begins, Accepting, Bad, IsGood, too_great, too_high, bad_line, bad_step, not_zero, good}
use Rattle.alg_check.specs.Checking.{Refuses, BreaksAtLine, BreaksAtStep, FollowsLines, FollowsSteps}
use Rattle.alg_check.specs.declared.certificate.Followed.{Followed}

-- the line at an index is no good one, and those before it are
pub breaks_at_line : (hyps : List Polynomial) (lines : List Line) (made : List Polynomial) (i : ℕ) (l : Line) →
    i < length lines → l ≡ get_or lines i l → AreLines hyps (take i lines) made → (IsGoodLine made l → ⊥) →
    BreaksAtLine hyps lines (i + 1)
breaks_at_line hyps lines made i l h at lead bad = record {
  before = take i lines;
  line = l;
  after = drop (suc i) lines;
  made = made;
  split = split_at lines i l h ∙ (λ j. take i lines ++ sym at j ∷ drop (suc i) lines);
  good = lead;
  bad = bad;
  number = λ j. sym (length-take-le i lines (omega arith)) j + 1;
}

-- the step at an index is no good one, and those before it are
pub breaks_at_step : (all : List Polynomial) (first : Polynomial) (steps : List GoalStep) (n i : ℕ) (s : GoalStep)
    (remainder : Polynomial) → i < length steps → s ≡ get_or steps i s →
    AreSteps all first (take i steps) remainder → (IsGoodStep all s remainder → ⊥) →
    BreaksAtStep all first steps n (n + i + 1)
breaks_at_step all first steps n i s remainder h at lead bad = record {
  before = take i steps;
  step = s;
  after = drop (suc i) steps;
  remainder = remainder;
  split = split_at steps i s h ∙ (λ j. take i steps ++ sym at j ∷ drop (suc i) steps);
  good = lead;
  bad = bad;
  number = λ j. n + sym (length-take-le i steps (omega arith)) j + 1;
}

module _ (hyps : List Polynomial) (g : Polynomial) (cert : Cert) where
  -- a power that breaks a rule
  pub refused : HasPower hyps g cert → (r : Result Polynomial Overrun) →
      IfErr r (λ e. RefusesWith e (power_outcome g cert.power)) → IfErr r (Refuses hyps g cert)
  refused power (Ok p) t = tt
  refused power (Err Overrun.Range) t = too_great power t
  refused power (Err Overrun.Degree) t = too_high power t
  refused power (Err Overrun.NoMemory) t = tt

  -- the lines were all made, from the certificate's own lines
  pub lines_whole : (lines : List Line) (made now : List Polynomial) → FollowsLines hyps lines made None →
      lines ≡ cert.lines → now ≡ made → AreLines hyps cert.lines (hyps ++ now)
  lines_whole lines made now followed whole same =
      subst (AreLines hyps cert.lines) (λ j. hyps ++ sym same j)
      (subst (λ (ls : List Line). AreLines hyps ls (hyps ++ made)) whole followed)

  module _ (begins : Begins hyps g cert) where
    pub bad_at_line : (k : ℕ) → BreaksAtLine hyps cert.lines k → Accepting hyps g cert (Bad k)
    bad_at_line k b =
        subst (λ (n : ℕ). Accepting hyps g cert (Bad n)) (sym b.number)
        (bad_line b.before b.after b.line b.made begins b.split b.good b.bad)

    module _ (all : List Polynomial) (lines : AreLines hyps cert.lines all) (first : Polynomial)
        (steps : List GoalStep) (n : ℕ) (is : first ≡ power_of g cert.power) (whole : steps ≡ cert.steps)
        (number : n ≡ length cert.lines) where
      follows : (o : Followed) → FollowsSteps all first steps n o →
          FollowsSteps all (power_of g cert.power) cert.steps (length cert.lines) o
      follows o h =
          subst (λ (p : Polynomial). FollowsSteps all p cert.steps (length cert.lines) o) is
          (subst (λ (ss : List GoalStep). FollowsSteps all first ss (length cert.lines) o) whole
          (subst (λ (m : ℕ). FollowsSteps all first steps m o) number h))

      pub bad_at_step : (k : ℕ) → FollowsSteps all first steps n (Followed.Breach k) → Accepting hyps g cert (Bad k)
      bad_at_step k h =
          let b = follows (Followed.Breach k) h in
          subst (λ (n : ℕ). Accepting hyps g cert (Bad n)) (sym b.number)
          (bad_step b.before b.after b.step all b.remainder begins b.split (lines, b.good) b.bad)

      pub ends : (last : Polynomial) → FollowsSteps all first steps n (Followed.To last) → last ≡ [] →
          IsGood hyps g cert
      ends last h zero =
          good all begins (
            lines,
            subst (AreSteps all (power_of g cert.power) cert.steps) zero (follows (Followed.To last) h),
          )

      pub remains : (last : Polynomial) → FollowsSteps all first steps n (Followed.To last) → last ≢ [] →
          Accepting hyps g cert (Bad (n + length steps + 1))
      remains last h some =
          subst (λ (k : ℕ). Accepting hyps g cert (Bad k))
          (λ j. sym number j + length (sym whole j) + 1)
          (not_zero all last begins (lines, follows (Followed.To last) h) some)
