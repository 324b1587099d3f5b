-- A file with more members: what is said of the members that were there still holds.
use Rattle.std.proofs.Common.{◌≡◌, ◌<◌, ◌≤◌, ℕ, List, length, Option, sym, ap, subst}
use Rattle.std.specs.Prelude.{All, slice_index_or}
use Rattle.alg_terms.specs.declared.file.File.{File}
use Rattle.alg_terms.specs.Kinds.{IsField}
use Rattle.alg_terms.specs.Members.{sort_at, hom_at, var_at, hyp_at, goal_at, kind_of, source_of, target_of, sort_of_var, no_hom}
use Rattle.alg_terms.specs.Sorts.{Agree}
use Rattle.alg_terms.specs.Valid.{IsHom}

-- the new file has the members of the old one, at the same numbers
pub record Grows (old new : File) : Type 0 where
  pub sorts : (s : ℕ) → s < length old.sorts → sort_at new s ≡ sort_at old s
  pub homs : (f : ℕ) → f < length old.homs → hom_at new f ≡ hom_at old f
  pub vars : (k : ℕ) → k < length old.vars → var_at new k ≡ var_at old k
  pub hyps : (h : ℕ) → h < length old.hyps → hyp_at new h ≡ hyp_at old h
  pub goals : (i : ℕ) → i < length old.goals → goal_at new i ≡ goal_at old i
  pub more_sorts : length old.sorts ≤ length new.sorts
  pub more_homs : length old.homs ≤ length new.homs
  pub more_vars : length old.vars ≤ length new.vars
  pub more_hyps : length old.hyps ≤ length new.hyps

module _ (old new : File) (grows : Grows old new) where
  pub kind_same : (s : ℕ) → s < length old.sorts → kind_of new s ≡ kind_of old s
  kind_same s h = ap (λ sort. sort.kind) (grows.sorts s h)

  pub source_same : (f : ℕ) → f < length old.homs → source_of new f ≡ source_of old f
  source_same f h = ap (λ hom. hom.from) (grows.homs f h)

  pub target_same : (f : ℕ) → f < length old.homs → target_of new f ≡ target_of old f
  target_same f h = ap (λ hom. hom.to) (grows.homs f h)

  pub sort_same : (k : ℕ) → k < length old.vars → sort_of_var new k ≡ sort_of_var old k
  sort_same k h = ap (λ var. var.sort) (grows.vars k h)

  -- a field is one still
  pub field_same : (s : ℕ) → s < length old.sorts → IsField (kind_of old s) → IsField (kind_of new s)
  field_same s h field = subst IsField (sym (kind_same s h)) field

  -- each morphism's target that is a field is one still
  pub field_targets : All (IsHom old) old.homs → (above : List ℕ) → All (λ f. f < length old.homs) above →
      All (λ f. IsField (kind_of old (target_of old f))) above →
      All (λ f. IsField (kind_of new (target_of new f))) above
  field_targets homs above range fields = λ k d h.
      let f : ℕ = slice_index_or above k d in
      let here : f < length old.homs = range k d h in
      let target : target_of old f < length old.sorts = (homs f no_hom here).target in
      subst (λ s. IsField (kind_of new s)) (sym (target_same f here))
      (field_same (target_of old f) target (fields k d h))

-- own sorts that are the same agree where these do
pub agree_same : (a b a' b' : Option ℕ) → a' ≡ a → b' ≡ b → Agree a b → Agree a' b'
agree_same a b a' b' p q h = subst (λ s. Agree s b') (sym p) (subst (λ s. Agree a s) (sym q) h)
