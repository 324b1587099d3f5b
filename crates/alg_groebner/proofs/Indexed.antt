-- The basis and the index of its leads.
use Rattle.std.specs.Prelude.{◌≡◌, ◌≢◌, ℕ, ◌+◌, ◌≤◌, ◌==◌, true, false, cond, List, [], ◌∷◌, Option, Some, None, ℤ, map, option_map, slice_get, All}
use Rattle.std.proofs.Common.{refl, sym, ap, subst, ◌∙◌, arith}
use Rattle.std.proofs.lemmas.Bool.Decides.{nat_tests}
use Rattle.std.proofs.lemmas.List.Elements.{All-head, All-tail}
use Rattle.std.specs.declared.cmp.Ordering.TheVariants.{Less, Equal, Greater}
use Rattle.std.specs.List.{find}
use Rattle.std.specs.Ordering.{match_ordering, nat_cmp}
use Rattle.std.specs.BTreeSet.{insert_key}
use Rattle.alg_mono.specs.Mono.{Monomial}
use Rattle.alg_mono.specs.NumberedPolynomials.{Polynomial}
use Rattle.alg_pairs.specs.Leads.{divides, line_cmp, RisesFrom, least_divisor}
use Rattle.alg_pairs.specs.declared.lead.Lead.{Lead}
use Rattle.alg_groebner.specs.Leads.{lead, reduces}
use Rattle.alg_groebner.specs.Bases.{lead_of, looked_up, IsBasis}
use Rattle.alg_groebner.specs.Work.{member_cmp, member_at, member_reducer}
use Rattle.alg_groebner.specs.Workable.{IsSomeMember}
use Rattle.alg_groebner.specs.declared.member.Member.{Member}

-- one line more
pub leads-insert : (bs : List Member) (c : Member) →
    insert_key line_cmp (map lead_of bs) (lead_of c) ≡ map lead_of (insert_key member_cmp bs c)
leads-insert [] c = refl
leads-insert (b ∷ bs) c =
    elim (nat_cmp c.number b.number) as
    (λ o. match_ordering o (lead_of c ∷ map lead_of (b ∷ bs)) (map lead_of (b ∷ bs))
    (lead_of b ∷ insert_key line_cmp (map lead_of bs) (lead_of c))
    ≡ map lead_of (match_ordering o (c ∷ b ∷ bs) (b ∷ bs) (b ∷ insert_key member_cmp bs c))) [
      | Less ↦ refl
      | Equal ↦ refl
      | Greater ↦ ap (λ xs. lead_of b ∷ xs) (leads-insert bs c)
    ]

pub nothing_reduces : (bs : List Member) → member_reducer bs [] ≡ None
nothing_reduces [] = refl
nothing_reduces (b ∷ bs) =
    ap (λ t. cond t (Some b) (member_reducer bs [])) (never b.poly) ∙ nothing_reduces bs
  where
    never : (q : Polynomial) → reduces q [] ≡ false
    never [] = refl
    never (f ∷ q) = refl

same_test : (q : Polynomial) (e : Monomial × ℤ) (p : Polynomial) → q ≢ [] → reduces q (e ∷ p) ≡ divides (lead q) e.0
same_test [] e p s = absurd (s refl)
same_test (f ∷ q) e p s = refl

same_number : (a : ℕ) → (a == a) ≡ true
same_number a = grind (arith, nat_tests)

other_number : (a b : ℕ) → (a + 1) ≤ b → (a == b) ≡ false
other_number a b h = grind (arith, nat_tests)

some_same : (a b : ℕ) → ◌≡◌ {A = Option ℕ} (Some a) (Some b) → a ≡ b
some_same a b e = grind arith

-- lines that rise from n on are at least n
least_above : (n : ℕ) (xs : List Lead) (m : Monomial) (k : ℕ) → RisesFrom n xs → least_divisor xs m ≡ Some k → n ≤ k
least_above n [] m k r e = absurd (let f : None ≡ Some k = e in grind arith)
least_above n (x ∷ xs) m k r e =
    let low = r.0 in
    elim (divides x.lead m) as (λ t. option_map (λ (x : Lead). x.line)
    (cond t (Some x) (find (λ (x : Lead). divides x.lead m) xs)) ≡ Some k → n ≤ k) [
      | true ↦ λ f. let same = some_same x.line k f in omega arith
      | false ↦ λ f. let above = least_above (x.line + 1) xs m k r.1 f in omega arith
    ] e

pub looked : (n : ℕ) (bs : List Member) (e : Monomial × ℤ) (p : Polynomial) → RisesFrom n (map lead_of bs) →
    All IsSomeMember bs → looked_up bs (least_divisor (map lead_of bs) e.0) ≡ member_reducer bs (e ∷ p)
looked n [] e p r s = refl
looked n (b ∷ bs) e p r s =
    let rest = looked (b.number + 1) bs e p r.1 (All-tail IsSomeMember b bs s) in
    let test = same_test b.poly e p (All-head IsSomeMember b bs s) in
    let tail = least_divisor (map lead_of bs) e.0 in
    elim (divides (lead b.poly) e.0) as (λ t. reduces b.poly (e ∷ p) ≡ t →
    looked_up (b ∷ bs) (option_map (λ (x : Lead). x.line)
    (cond t (Some (lead_of b)) (find (λ (x : Lead). divides x.lead e.0) (map lead_of bs))))
    ≡ member_reducer (b ∷ bs) (e ∷ p)) [
      | true ↦ λ h. ap (λ t. cond t (Some b) (member_at bs b.number)) (same_number b.number)
          ∙ ap (λ t. cond t (Some b) (member_reducer bs (e ∷ p))) (sym h)
      | false ↦ λ h. further tail refl ∙ rest ∙ ap (λ t. cond t (Some b) (member_reducer bs (e ∷ p))) (sym h)
    ] test
  where
    further : (o : Option ℕ) → least_divisor (map lead_of bs) e.0 ≡ o → looked_up (b ∷ bs) o ≡ looked_up bs o
    further None h = refl
    further (Some k) h =
        ap (λ t. cond t (Some b) (member_at bs k))
        (other_number b.number k (least_above (b.number + 1) (map lead_of bs) e.0 k r.1 h))

-- what the index tells of a polynomial with these leads
pub told : (bs : List Member) (leads : List Lead) (p : Polynomial) (x : Monomial × ℤ) → IsBasis bs leads →
    RisesFrom 0 leads → slice_get p 0 ≡ Some x → looked_up bs (least_divisor leads x.0) ≡ member_reducer bs p
told bs leads [] x b r h = absurd (nowhere x h)
  where
    nowhere : (x : Monomial × ℤ) → slice_get [] 0 ≡ Some x → ⊥
    nowhere x e = grind arith
told bs leads (e ∷ p) x b r h =
    ap (λ (y : Monomial × ℤ). looked_up bs (least_divisor leads y.0)) (sym (first e p h))
    ∙ ap (λ (xs : List Lead). looked_up bs (least_divisor xs e.0)) b.same
    ∙ looked 0 bs e p (subst (RisesFrom 0) b.same r) b.some
  where
    first : (e : Monomial × ℤ) (p : Polynomial) → slice_get (e ∷ p) 0 ≡ Some x → e ≡ x
    first e p h = grind arith

pub is_zero : (p : Polynomial) → None ≡ slice_get p 0 → p ≡ []
is_zero [] h = refl
is_zero (e ∷ p) h = absurd (somewhere e p h)
  where
    somewhere : (e : Monomial × ℤ) (p : Polynomial) → None ≡ slice_get (e ∷ p) 0 → ⊥
    somewhere e p h = grind arith
