-- A renaming of atoms that can be undone keeps a polynomial's norm and degree, and whether it is zero.
use Rattle.std.specs.Prelude.{◌≡◌, ℕ, ◌+◌, ◌≤◌, true, false, List, [], ◌∷◌, ℤ}
use Rattle.std.proofs.Common.{refl, sym, ap, ◌∙◌, arith}
use Rattle.std.specs.Int.RustNames.{unsigned_abs}
use Rattle.std.proofs.lemmas.List.Sums.{sum_by-cons}
use Rattle.std.specs.declared.cmp.Ordering.{Ordering}
use Rattle.std.specs.Cmp.{IsTotalOrder}
use Rattle.std.specs.FinMap.{IsAntisymmetric}
use Rattle.alg_mono.specs.FiniteMaps.{Amounts, IsCanonical, Each, at_key, total, rename, renamed}
use Rattle.alg_mono.specs.Numbers.{exponents, integers}
use Rattle.alg_mono.specs.Monomials.{degree, falling}
use Rattle.alg_mono.specs.Polynomials.{PolyOver, IsPolynomial, norm, poly_degree}
use Rattle.alg_mono.specs.Outcomes.{is_nothing}
use Rattle.alg_mono.proofs.Totals.{IsAmounts, IsAdditive, total-collect, total-renamed}
use Rattle.alg_mono.proofs.Numbers.{exponent_laws, integer_laws}
use Rattle.alg_mono.proofs.Canonical.{collect_same, collect-canonical, at_key_adds}
use Rattle.alg_mono.proofs.Each.{Each-collect, Each-renamed}
use Rattle.alg_mono.proofs.Grevlex.{falling_total, falling_anti}
use Rattle.alg_mono.proofs.Monomials.{degree-collect}
use Rattle.alg_mono.proofs.Norms.{norm-cons, norm-collect}
use Rattle.alg_mono.proofs.Degrees.{degrees_within, degree_within}
use Rattle.alg_reify.proofs.Images.{mono_image, poly_image}

-- the sum over all entries, where the keys come back
total_back : {K L A B : Type 0} (f : K → L) (g : L → K) (none : B) (plus : B → B → B) (h : K → A → B)
    (es : List (K × A)) → Each (λ k. g (f k) ≡ k) es →
    total none plus (λ k a. h (g (f k)) a) es ≡ total none plus h es
total_back f g none plus h [] each = refl
total_back f g none plus h (e ∷ es) each =
    λ i. plus (h (each.0 i) e.1) (total_back f g none plus h es each.1 i)

-- where each key comes back, the map does
module _ {K L A : Type 0} {ck : K → K → Ordering} {cl : L → L → Ordering} {M : Amounts A} (N : IsAmounts M)
    (ok : IsTotalOrder ck) (ak : IsAntisymmetric ck) (al : IsAntisymmetric cl) (f : K → L) (g : L → K) where
  -- what adds up does so over the images
  adds_at : {h : K → A → A} → IsAdditive M M.none M.plus h → IsAdditive M M.none M.plus (λ l a. h (g l) a)
  adds_at H = record { at_none = λ l. H.at_none (g l); at_plus = λ l a b. H.at_plus (g l) a b }

  -- renaming and then renaming back changes nothing
  pub undone : (es : List (K × A)) → IsCanonical ck M es → Each (λ k. g (f k) ≡ k) es →
      rename ck M g (rename cl M f es) ≡ es
  undone es c each =
      collect_same N ok ak (renamed g (rename cl M f es)) es (λ k.
      let h = at_key ck M k in
      let H = at_key_adds {cmp = ck} N ok ak k in
      total-renamed g M.none M.plus h (rename cl M f es) ∙ total-collect N al N.laws (adds_at H) (renamed f es)
      ∙ total-renamed f M.none M.plus (λ l a. h (g l) a) es ∙ total_back f g M.none M.plus h es each)
      ∙ collect-canonical N ok ak es c

-- the same norm and degree, and both are zero or neither is
pub record IsLike {K L : Type 0} (p : PolyOver K) (q : PolyOver L) : Type 0 where
  pub norm : norm p ≡ norm q
  pub degree : poly_degree p ≡ poly_degree q
  pub nothing : is_nothing p ≡ is_nothing q

-- likeness goes on
pub IsLike-trans : {J K L : Type 0} (p : PolyOver J) (q : PolyOver K) (r : PolyOver L) → IsLike p q → IsLike q r →
    IsLike p r
IsLike-trans p q r h g =
    record { norm = h.norm ∙ g.norm; degree = h.degree ∙ g.degree; nothing = h.nothing ∙ g.nothing }

-- renaming the keys changes no sum of amounts
norm-renamed : {M N : Type 0} (f : M → N) (p : List (M × ℤ)) → norm (renamed f p) ≡ norm p
norm-renamed f [] = refl
norm-renamed f (e ∷ p) =
    norm-cons (f e.0, e.1) (renamed f p) ∙ ap (λ n. unsigned_abs e.1 + n) (norm-renamed f p) ∙ sym (norm-cons e p)

pub degree-renamed : {K L : Type 0} (f : K → L) (m : List (K × ℕ)) → degree (renamed f m) ≡ degree m
degree-renamed f [] = refl
degree-renamed {K} {L} f (e ∷ m) =
    sum_by-cons (λ (x : L × ℕ). x.1) (f e.0, e.1) (renamed f m) ∙ ap (λ n. e.1 + n) (degree-renamed f m)
    ∙ sym (sum_by-cons (λ (x : K × ℕ). x.1) e m)

-- only zero is zero
nothing_only : {A : Type 0} (p : List A) → is_nothing p ≡ true → p ≡ []
nothing_only [] h = refl
nothing_only (e ∷ p) h = absurd (cc)

module _ {K L : Type 0} {ck : K → K → Ordering} {cl : L → L → Ordering}
    (ok : IsTotalOrder ck) (ak : IsAntisymmetric ck) (ol : IsTotalOrder cl) (al : IsAntisymmetric cl)
    (f : K → L) where
  -- the norm of the image is at most the norm
  pub norm_image : (p : PolyOver K) → norm (poly_image ck cl f p) ≤ norm p
  norm_image p =
      omega (arith, norm-collect (falling cl) (renamed (mono_image ck cl f) p), norm-renamed (mono_image ck cl f) p)

  -- the degree of a monomial's image is its degree
  degree_mono_image : (m : List (K × ℕ)) → degree (mono_image ck cl f m) ≡ degree m
  degree_mono_image m = degree-collect ol al (renamed f m) ∙ degree-renamed f m

  -- the degree of the image is at most the degree
  pub degree_image : (p : PolyOver K) → poly_degree (poly_image ck cl f p) ≤ poly_degree p
  degree_image p =
      let d = poly_degree p in
      degree_within d (poly_image ck cl f p)
      (Each-collect (falling cl) integers.amounts (λ n. degree n ≤ d) (renamed (mono_image ck cl f) p)
      (Each-renamed (mono_image ck cl f) (λ m. degree m ≤ d) (λ n. degree n ≤ d)
      (λ m h. omega (arith, degree_mono_image m, h)) p (degrees_within d p (omega arith))))

module _ {K L : Type 0} {ck : K → K → Ordering} {cl : L → L → Ordering}
    (ok : IsTotalOrder ck) (ak : IsAntisymmetric ck) (ol : IsTotalOrder cl) (al : IsAntisymmetric cl)
    (f : K → L) (g : L → K) where
  -- the atom comes back
  abbrev pub Back : K → Type 0
  Back k = g (f k) ≡ k

  -- the monomials come back, and so the polynomial
  pub monos_back : (p : PolyOver K) → Each (λ m. IsCanonical ck exponents m) p → Each (λ m. Each Back m) p →
      Each (λ m. mono_image cl ck g (mono_image ck cl f m) ≡ m) p
  monos_back [] c h = tt
  monos_back (e ∷ p) c h = (undone exponent_laws ok ak al f g e.0 c.0 h.0, monos_back p c.1 h.1)

  pub poly_back : (p : PolyOver K) → IsPolynomial ck integers p → Each (λ m. Each Back m) p →
      poly_image cl ck g (poly_image ck cl f p) ≡ p
  poly_back p is h =
      undone integer_laws.amounts (falling_total ok ak) (falling_anti ok ak) (falling_anti ol al)
      (mono_image ck cl f) (mono_image cl ck g) p is.canonical (monos_back p is.monomials h)

  -- where the polynomial comes back, its image is zero only if it is
  nothing_image : (p : PolyOver K) → poly_image cl ck g (poly_image ck cl f p) ≡ p →
      is_nothing p ≡ is_nothing (poly_image ck cl f p)
  nothing_image [] back = refl
  nothing_image (e ∷ p) back =
      elim (is_nothing (poly_image ck cl f (e ∷ p))) as
      (λ b. is_nothing (poly_image ck cl f (e ∷ p)) ≡ b → false ≡ b) [
        | true ↦ λ is.
            let none = nothing_only (poly_image ck cl f (e ∷ p)) is in
            ap is_nothing (sym back ∙ ap (poly_image cl ck g) none)
        | false ↦ λ is. refl
      ] refl

  -- over atoms that come back, the polynomial is like its image
  pub like_image : (p : PolyOver K) → IsPolynomial ck integers p → Each (λ m. Each Back m) p →
      IsLike p (poly_image ck cl f p)
  like_image p is h =
      let q = poly_image ck cl f p in
      let back = poly_back p is h in
      record {
        norm =
            let a = norm_image ok ak ol al f p in
            let b = norm_image ol al ok ak g q in
            omega (arith, ap norm back);
        degree =
            let a = degree_image ok ak ol al f p in
            let b = degree_image ol al ok ak g q in
            omega (arith, ap poly_degree back);
        nothing = nothing_image p back;
      }
