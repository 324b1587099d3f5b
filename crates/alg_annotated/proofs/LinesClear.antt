-- Lines and steps without faults: their monomials have none, and their counts are at most the greatest.
use Rattle.std.proofs.Common.{◌≡◌, ◌≤◌, ℕ, false, List, [], ◌++◌, refl, sym, ◌∙◌, subst, arith}
use Rattle.std.specs.Prelude.{nat_lt}
use Rattle.std.specs.Int.RustNames.{unsigned_abs}
use Rattle.std.proofs.lemmas.Bool.Decides.{nat_tests}
use Rattle.alg_terms.specs.declared.file.File.{File}
use Rattle.alg_terms.specs.declared.term.Atom.{Atom}
use Rattle.alg_tokens.specs.declared.code.Code.TheVariants as code
use Rattle.alg_reader.specs.declared.raw.RawKind.{RawKind}
use Rattle.alg_reader.specs.declared.raw.RawKind.TheVariants as raws
use Rattle.alg_reader.specs.declared.raw.RawMono.{RawMono}
use Rattle.alg_reader.specs.declared.raw.RawNumber.{RawNumber}
use Rattle.alg_reify.specs.Table.{goal_atoms}
use Rattle.alg_typing.proofs.NumbersInRange.{parts_empty, no_fault}
use Rattle.alg_annotated.specs.Monomials.{mono_faults}
use Rattle.alg_annotated.specs.Parts.{IsLineOrStep}
use Rattle.alg_annotated.specs.Rules.{count_fault, last_goal, statement_faults, MAX_COUNT}

-- a count without fault is at most the greatest
count_low : (n : RawNumber) → count_fault n ≡ [] → unsigned_abs n.value ≤ MAX_COUNT
count_low n none =
    let low : nat_lt MAX_COUNT (unsigned_abs n.value) ≡ false = no_fault _ code.Line n.at none in
    grind (arith, nat_tests)

-- a line and a step have the same faults wherever they begin
begins_anywhere : (file : File) (text : List ℕ) (start : ℕ) (kind : RawKind) → IsLineOrStep kind →
    statement_faults file text start kind ≡ statement_faults file text 0 kind
begins_anywhere file text start (raws.Line a m i b n j d) part = refl
begins_anywhere file text start (raws.Step a b n j d) part = refl
begins_anywhere file text start kind part = absurd part

pub no_faults_at_first : (file : File) (text : List ℕ) (start : ℕ) (kind : RawKind) → IsLineOrStep kind →
    statement_faults file text start kind ≡ [] → statement_faults file text 0 kind ≡ []
no_faults_at_first file text start kind part none = sym (begins_anywhere file text start kind part) ∙ none

module _ (file : File) (text : List ℕ) (atoms : List Atom) (are : atoms ≡ goal_atoms file (last_goal file)) where
  -- a monomial without fault
  abbrev Clear : RawMono → Type 0
  Clear m = mono_faults file text atoms m ≡ []

  -- one over the atoms of the last goal is one over these
  clear : (m : RawMono) → mono_faults file text (goal_atoms file (last_goal file)) m ≡ [] → Clear m
  clear m none = subst (λ (xs : List Atom). mono_faults file text xs m ≡ []) (sym are) none

  module _ (kind : RawKind) (none : statement_faults file text 0 kind ≡ []) where
    none_of : (other : RawKind) → kind ≡ other → statement_faults file text 0 other ≡ []
    none_of other is = subst (λ (k : RawKind). statement_faults file text 0 k ≡ []) is none

    -- the parts of a line
    pub line_clear : (a : RawNumber) (m : RawMono) (i b : RawNumber) (n : RawMono) (j d : RawNumber) →
        kind ≡ raws.Line a m i b n j d →
        Clear m × (unsigned_abs i.value ≤ MAX_COUNT) × Clear n × (unsigned_abs j.value ≤ MAX_COUNT)
    line_clear a m i b n j d is =
        let atoms_there = goal_atoms file (last_goal file) in
        let faults = mono_faults file text atoms_there in
        let (front, other) = parts_empty (faults m ++ count_fault i ++ faults n) (count_fault j)
        (none_of (raws.Line a m i b n j d) is) in
        let (fronter, second) = parts_empty (faults m ++ count_fault i) (faults n) front in
        let (first, line) = parts_empty (faults m) (count_fault i) fronter in
        (clear m first, count_low i line, clear n second, count_low j other)

    -- the parts of a step
    pub step_clear : (a b : RawNumber) (n : RawMono) (j d : RawNumber) → kind ≡ raws.Step a b n j d →
        Clear n × (unsigned_abs j.value ≤ MAX_COUNT)
    step_clear a b n j d is =
        let atoms_there = goal_atoms file (last_goal file) in
        let (first, line) = parts_empty (mono_faults file text atoms_there n) (count_fault j)
        (none_of (raws.Step a b n j d) is) in
        (clear n first, count_low j line)
