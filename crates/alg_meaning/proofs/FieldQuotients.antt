-- Quotients that the rules of field goals allow stand in fields of a universe that fits.
use Rattle.std.specs.Prelude.{◌⊎◌, ℕ, List, ◌∷◌, All}
use Rattle.std.proofs.Common.{subst, inl, inr}
use Rattle.std.proofs.lemmas.List.Elements.{All-head, All-tail}
use Rattle.alg_terms.specs.declared.file.File.{File}
use Rattle.alg_terms.specs.declared.term.Term.{Term, more_of-Term, Var, Int, Neg', Add', Sub', Mul', Div', Pow', Hom'}
use Rattle.alg_terms.specs.Kinds.{IsField}
use Rattle.alg_terms.specs.Members.{kind_of, source_of, target_of}
use Rattle.alg_terms.specs.Sorts.{EachNodeAt}
use Rattle.alg_terms.specs.TermRules.{DividesInFields as MayDivide}
use Rattle.alg_universe.specs.declared.universe.Universe.{Ghosts}
use Rattle.alg_universe.specs.Value.{Fits}
use Rattle.alg_meaning.proofs.Typed.{IsTyped, HasNoDivision}
use Rattle.alg_meaning.proofs.DeclaredKinds.{kind_field}
use Rattle.alg_meaning.proofs.Denominators.{DividesInFields}

module _ (file : File) where
  abbrev Rule : ℕ → List ℕ → Term → Type 0
  Rule s above t = EachNodeAt file (MayDivide file) s above t

  abbrev ToFields : List ℕ → Type 0
  ToFields above = All (λ f. IsField (kind_of file (target_of file f))) above

  -- a term without a quotient, or all fields over it
  abbrev Over : ℕ → List ℕ → Type 0 → Type 0
  Over s above none = none ⊎ (IsField (kind_of file s) × ToFields above)

  either : (s : ℕ) (above : List ℕ) (N M : Type 0) → Over s above N → Over s above M → Over s above (N × M)
  either s above N M (inl n) (inl m) = inl (n, m)
  either s above N M (inl n) (inr k) = inr k
  either s above N M (inr k) o = inr k

  pub over : (s : ℕ) (above : List ℕ) (t : Term) → IsTyped file s t → Rule s above t → Over s above (HasNoDivision t)
  unfolding EachNodeAt
  over s above (Var k) h d = inl tt
  over s above (Int n) h d = inl tt
  over s above (Neg' p (more_of-Term t r)) h d = over s above t h d.1
  over s above (Add' p (more_of-Term t r) p' (more_of-Term t' r')) h d =
      either s above (HasNoDivision t) (HasNoDivision t') (over s above t h.0 d.1) (over s above t' h.1 d.2)
  over s above (Sub' p (more_of-Term t r) p' (more_of-Term t' r')) h d =
      either s above (HasNoDivision t) (HasNoDivision t') (over s above t h.0 d.1) (over s above t' h.1 d.2)
  over s above (Mul' p (more_of-Term t r) p' (more_of-Term t' r')) h d =
      either s above (HasNoDivision t) (HasNoDivision t') (over s above t h.0 d.1) (over s above t' h.1 d.2)
  over s above (Div' p (more_of-Term t r) p' (more_of-Term t' r')) h d = inr d.0
  over s above (Pow' p (more_of-Term t r) n) h d = over s above t h d.1
  over s above (Hom' f p (more_of-Term t r)) h d =
      elim (over (source_of file f) (f ∷ above) t h.2 d.1) [
        | inl n ↦ inl n
        | inr k ↦
            let to_field = λ (g : ℕ). IsField (kind_of file (target_of file g)) in
            inr (
              subst (λ w. IsField (kind_of file w)) h.1 (All-head to_field f above k.1),
              All-tail to_field f above
                  k.1,
            )
      ]

module _ {E : Type 0} (u : Ghosts E) {file : File} (fits : Fits u file) where
  pub in_fields : (s : ℕ) (above : List ℕ) (t : Term) → IsTyped file s t → Rule file s above t →
      DividesInFields u file s t
  unfolding EachNodeAt
  in_fields s above (Var k) h d = tt
  in_fields s above (Int n) h d = tt
  in_fields s above (Neg' p (more_of-Term t r)) h d = in_fields s above t h d.1
  in_fields s above (Add' p (more_of-Term t r) p' (more_of-Term t' r')) h d =
      (in_fields s above t h.0 d.1, in_fields s above t' h.1 d.2)
  in_fields s above (Sub' p (more_of-Term t r) p' (more_of-Term t' r')) h d =
      (in_fields s above t h.0 d.1, in_fields s above t' h.1 d.2)
  in_fields s above (Mul' p (more_of-Term t r) p' (more_of-Term t' r')) h d =
      (in_fields s above t h.0 d.1, in_fields s above t' h.1 d.2)
  in_fields s above (Div' p (more_of-Term t r) p' (more_of-Term t' r')) h d =
      (kind_field u fits s d.0.0, in_fields s above t h.0 d.1, in_fields s above t' h.1 d.2)
  in_fields s above (Pow' p (more_of-Term t r) n) h d = in_fields s above t h d.1
  in_fields s above (Hom' f p (more_of-Term t r)) h d =
      let from = source_of file f in
      let to_field = λ (g : ℕ). IsField (kind_of file (target_of file g)) in
      let fields : HasNoDivision t ⊎ (IsField (u.kind from) × IsField (u.kind s)) = elim
      (over file from (f ∷ above) t h.2 d.1) [
        | inl n ↦ inl n
        | inr k ↦ inr (
          kind_field u fits from k.0,
          kind_field u fits s
              (subst (λ w. IsField (kind_of file w)) h.1 (All-head to_field f above k.1)),
        )
      ] in
      (fields, in_fields from (f ∷ above) t h.2 d.1)
