-- The answer to a goal by nsatz.
use Rattle.std.specs.Prelude.{◌≡◌, ◌<◌, ◌⊎◌, ℕ, ℤ, List, length}
use Rattle.alg_terms.specs.declared.file.File.{File}
use Rattle.alg_terms.specs.declared.goals.Equation.{Equation}
use Rattle.alg_terms.specs.declared.goals.Goal.{Goal}
use Rattle.alg_terms.specs.declared.goals.Method.{Method}
use Rattle.alg_terms.specs.declared.goals.Method.TheVariants.{ByRing, ByField, ByNsatz}
use Rattle.alg_terms.specs.declared.goals.Use.{Use}
use Rattle.alg_terms.specs.Members.{sort_at}
use Rattle.alg_mono.specs.Outcomes.{Outcome}
use Rattle.alg_lines.specs.declared.cert.Cert.{Cert}
use Rattle.alg_lines.specs.Constants.{constants}
use Rattle.alg_groebner.specs.Pruning.{certificate}
use Rattle.alg_groebner.specs.Runs.{Comes}
use Rattle.alg_groebner.specs.State as state
use Rattle.alg_groebner.specs.State.{State, End}
use Rattle.alg_reify.specs.Preparing.{PreparesTo, prepared_goal, prepared_hyps}
use Rattle.alg_reify.specs.Table.{MAX_ATOMS, table}

-- there are too many atoms; a rule on norms or degrees is broken; a power of the goal is zero where the hypotheses are,
-- under constants and by a certificate; none up to this power came to zero; or so many moves were made
pub data NsatzVerdict : Type 0 where
  Atoms : NsatzVerdict
  Range : NsatzVerdict
  Degree : NsatzVerdict
  Proved : List ℤ → Cert → NsatzVerdict
  NoneUpTo : ℕ → NsatzVerdict
  GaveUp : ℕ → NsatzVerdict

module _ (file : File) (e : Equation) (uses : List Use) (power limit : ℕ) where
  -- nothing that is prepared breaks a rule, and the search comes to this end in this state
  abbrev pub SearchEnds : State → End → Type 0
  SearchEnds last end =
      PreparesTo file e uses Outcome.Fine
      × Comes (prepared_hyps file e uses) (prepared_goal file e uses) power limit last end

  -- in some state
  abbrev pub SearchComesTo : End → Type 0
  SearchComesTo end = (last : State) × SearchEnds last end

  -- the certificate is that of a search that came to zero, and these are its constants
  pub record Certifies (numbers : List ℤ) (cert : Cert) : Type 0 where
    pub last : State
    pub least : ℕ
    pub ends : SearchEnds last (state.Proved least)
    pub certificate : cert ≡ certificate last least
    pub constants : numbers ≡ constants cert (sort_at file e.sort).char0

  -- the verdict: the atoms come first, then the polynomials that are prepared, and then the end of the search
  abbrev pub IsVerdictOf : NsatzVerdict → Type 0
  IsVerdictOf NsatzVerdict.Atoms = MAX_ATOMS < length (table file e uses)
  IsVerdictOf NsatzVerdict.Range = PreparesTo file e uses Outcome.Range ⊎ SearchComesTo state.Range
  IsVerdictOf NsatzVerdict.Degree = PreparesTo file e uses Outcome.Degree ⊎ SearchComesTo state.Degree
  IsVerdictOf (NsatzVerdict.Proved numbers cert) = Certifies numbers cert
  IsVerdictOf (NsatzVerdict.NoneUpTo r) = SearchComesTo (state.NoneUpTo r)
  IsVerdictOf (NsatzVerdict.GaveUp n) = (n ≡ limit) × SearchComesTo state.GaveUp

-- the verdict on an equation by a method, which is nsatz
abbrev pub IsVerdictBy : File → Equation → Method → NsatzVerdict → Type 0
IsVerdictBy file e ByRing v = ⊥
IsVerdictBy file e ByField v = ⊥
IsVerdictBy file e (ByNsatz uses power limit) v = IsVerdictOf file e uses power limit v

-- the verdict on a goal by nsatz
abbrev pub IsNsatzVerdict : File → Goal → NsatzVerdict → Type 0
IsNsatzVerdict file goal v = IsVerdictBy file goal.equation goal.method v
