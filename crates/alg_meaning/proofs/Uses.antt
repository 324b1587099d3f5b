-- A used hypothesis holds under its path, and a used `<>` gives a nonzero difference there.
use Rattle.std.specs.Prelude.{◌≡◌, ◌≢◌, ◌⊎◌, ℕ, List, [], ◌∷◌}
use Rattle.std.proofs.Common.{refl, sym, ap, subst, ◌∙◌, inl, inr}
use Rattle.std.specs.Prelude.{◌<◌, true, false, length, All}
use Rattle.std.proofs.lemmas.List.Elements.{All-head, All-tail, All-get_or}
use Rattle.alg_terms.specs.declared.file.File.{File}
use Rattle.alg_terms.specs.declared.goals.Use.{Use}
use Rattle.alg_terms.specs.declared.term.Term.{Term}
use Rattle.alg_terms.specs.Kinds.{IsField, IsDomain}
use Rattle.alg_terms.specs.Members.{kind_of, source_of, target_of, hyp_at, no_hyp}
use Rattle.alg_terms.specs.Sorts.{Leads}
use Rattle.alg_terms.specs.GoalRules.{IsHyp}
use Rattle.alg_universe.specs.declared.universe.Universe.{Ghosts}
use Rattle.alg_universe.specs.Value.{value, Fits, AreValues}
use Rattle.alg_universe.specs.Right.{Compare}
use Rattle.alg_mono.specs.Polynomials.{poly_neg}
use Rattle.alg_mono.proofs.Numbers.{integer_laws}
use Rattle.alg_meaning.specs.Atoms.{Polynomial, minus, poly_under, poly_along}
use Rattle.alg_meaning.specs.PolynomialOf.{poly_of}
use Rattle.alg_meaning.specs.Values.{along, poly_in}
use Rattle.alg_meaning.specs.Uses.{UsesHold}
use Rattle.alg_meaning.specs.Orders.{falling_anti}
use Rattle.alg_meaning.proofs.Typed.{IsTyped, HasNoDivision, typed_left, typed_right, plain}
use Rattle.alg_meaning.proofs.DeclaredKinds.{kind_domain, kind_field}
use Rattle.alg_meaning.proofs.Rings.{semi, cancel}
use Rattle.alg_meaning.proofs.Evaluation.{poly_value-plus, poly_value-neg}
use Rattle.alg_meaning.proofs.Carriers.{Carrier, same, add_at, opp_at, ring_at, semi_at, numbering_at}
use Rattle.alg_meaning.proofs.AtomValues.{value_at, monomial_value, poly_under_value}
use Rattle.alg_meaning.proofs.TermValues.{term_at}
use Rattle.alg_meaning.proofs.Equal.{same_value}
use Rattle.alg_meaning.proofs.AtomSorts.{IsPolyOf, typed_poly, plus_of, neg_of, under_of, poly_below}

-- the path's morphisms are of the file and compose from s to t
abbrev pub IsPathFrom : File → ℕ → List ℕ → ℕ → Type 0
IsPathFrom file t [] s = s ≡ t
IsPathFrom file t (f ∷ path) s =
    (f < length file.homs) × (target_of file f ≡ t) × IsPathFrom file (source_of file f) path s

path_from : (file : File) (s t : ℕ) (path : List ℕ) → All (λ f. f < length file.homs) path → Leads file path s t →
    IsPathFrom file t path s
path_from file s t [] all leads = leads
path_from file s t (f ∷ path) all leads = (
  All-head (λ f. f < length file.homs) f path all,
  leads.0,
  path_from file s (source_of file f) path (All-tail (λ f. f < length file.homs) f path all) leads.1,
)

abbrev difference : List ℕ → Term → Term → Polynomial
difference path l r = minus (poly_along path (poly_of l)) (poly_along path (poly_of r))

module _ {E : Type 0} (u : Ghosts E) {file : File} (fits : Fits u file) {v : List E} (values : AreValues u file v) where
  -- a path is a morphism
  record IsAlong (t : ℕ) (path : List ℕ) (s : ℕ) : Type 0 where
    pub has : (x : E) → u.has s x → u.has t (along u path x)
    pub at_zero : along u path (u.zero s) ≡ u.zero t
    pub at_one : along u path (u.one s) ≡ u.one t
    pub at_add : (x y : E) → u.has s x → u.has s y →
        along u path (u.add s x y) ≡ u.add t (along u path x) (along u path y)
    pub at_opp : (x : E) → u.has s x → along u path (u.opp s x) ≡ u.opp t (along u path x)
    pub at_mul : (x y : E) → u.has s x → u.has s y →
        along u path (u.mul s x y) ≡ u.mul t (along u path x) (along u path y)

  path_along : (t : ℕ) (path : List ℕ) (s : ℕ) → IsPathFrom file t path s → IsAlong t path s
  path_along t [] s e =
      subst (λ w. IsAlong w [] s) e
      (record {
        has = λ x h. h;
        at_zero = refl;
        at_one = refl;
        at_add = λ x y h g. refl;
        at_opp = λ x h. refl;
        at_mul = λ x y h g. refl;
      })
  path_along t (f ∷ path) s h =
      let from = (source_of file f) in
      let m : u.maps f from t = subst (λ w. u.maps f from w) h.1 (fits.maps f h.0) in
      let a = path_along from path s h.2 in
      record {
        has = λ x g. u.laws.hom_has f from t (along u path x) m (a.has x g);
        at_zero = ap (u.hom f) a.at_zero ∙ u.laws.hom_zero f from t m;
        at_one = ap (u.hom f) a.at_one ∙ u.laws.hom_one f from t m;
        at_add =
            λ x y g k. ap (u.hom f) (a.at_add x y g k)
            ∙ u.laws.hom_add f from t (along u path x) (along u path y) m (a.has x g) (a.has y k);
        at_opp = λ x g. ap (u.hom f) (a.at_opp x g) ∙ u.laws.hom_opp f from t (along u path x) m (a.has x g);
        at_mul =
            λ x y g k. ap (u.hom f) (a.at_mul x y g k)
            ∙ u.laws.hom_mul f from t (along u path x) (along u path y) m (a.has x g) (a.has y k);
      }

  poly_along_value : (t : ℕ) (path : List ℕ) (s : ℕ) → IsPathFrom file t path s → (p : Polynomial) →
      (value_at u fits values t (poly_along path p)).0 ≡ along u path (value_at u fits values s p).0
  poly_along_value t [] s e p = sym (λ i. (value_at u fits values (e i) p).0)
  poly_along_value t (f ∷ path) s h p =
      let from = (source_of file f) in
      subst (λ w. (value_at u fits values w (poly_under f (poly_along path p))).0 ≡
      u.hom f (value_at u fits values from (poly_along path p)).0) h.1
      (ap (λ x. x.0) (poly_under_value u fits values f h.0 (poly_along path p)))
      ∙ ap (u.hom f) (poly_along_value from path s h.2 p)

  along_of : (t : ℕ) (path : List ℕ) (s : ℕ) → IsPathFrom file t path s → (p : Polynomial) → IsPolyOf file s p →
      IsPolyOf file t (poly_along path p)
  along_of t [] s e p h = subst (λ w. IsPolyOf file w p) e h
  along_of t (f ∷ path) s h p g =
      subst (λ w. IsPolyOf file w (poly_along (f ∷ path) p)) h.1
      (under_of file f h.0 (poly_along path p) (along_of (source_of file f) path s h.2 p g))

  module _ (s t : ℕ) (path : List ℕ) (is : IsPathFrom file t path s) (l r : Term) (hl : IsTyped file s l)
      (hr : IsTyped file s r) (dl : HasNoDivision l) (dr : HasNoDivision r) where
    abbrev x : Carrier u s
    x = term_at u fits values s l hl

    abbrev y : Carrier u s
    y = term_at u fits values s r hr

    a : IsAlong t path s
    a = path_along t path s is

    difference_value : poly_in u v t (difference path l r) ≡
        u.add t (along u path (value u file v s l)) (u.opp t (along u path (value u file v s r)))
    difference_value =
        let p = poly_along path (poly_of l) in
        let q = poly_along path (poly_of r) in
        let tp = along_of t path s is (poly_of l) (typed_poly file s l hl) in
        let tq = along_of t path s is (poly_of r) (typed_poly file s r hr) in
        sym (poly_below u fits values t (difference path l r) (plus_of file t p (poly_neg q) tp (neg_of file t q tq)))
        ∙ ap (λ z. z.0) (poly_value-plus falling_anti integer_laws (numbering_at u t) (monomial_value u fits values t)
        p (poly_neg q)
        ∙ ap (add_at u t (value_at u fits values t p))
        (poly_value-neg (semi_at u t) (opp_at u t) (ring_at u t) (monomial_value u fits values t) q))
        ∙ (λ i. u.add t ((poly_along_value t path s is (poly_of l)
        ∙ ap (along u path) (same_value u fits values s l hl dl)) i)
        (u.opp t ((poly_along_value t path s is (poly_of r)
        ∙ ap (along u path) (same_value u fits values s r hr dr)) i)))

    equation : value u file v s l ≡ value u file v s r → poly_in u v t (difference path l r) ≡ u.zero t
    equation e =
        difference_value ∙ ap (λ z. u.add t (along u path z) (u.opp t (along u path (value u file v s r)))) e
        ∙ u.laws.add_opp t (along u path (value u file v s r)) (a.has y.0 y.1)

    -- the difference of the two sides is not zero
    apart : value u file v s l ≢ value u file v s r → (add_at u s x (opp_at u s y)).0 ≢ u.zero s
    apart n e =
        n (ap (λ z. z.0) (cancel (ring_at u s) x y (opp_at u s y)
        (same u s (add_at u s x (opp_at u s y)) (add_at u s y (opp_at u s y))
        (e ∙ sym (u.laws.add_opp s y.0 y.1)))))

    along_difference : u.add t (along u path (value u file v s l)) (u.opp t (along u path (value u file v s r))) ≡
        along u path (add_at u s x (opp_at u s y)).0
    along_difference =
        sym (a.at_add x.0 (u.opp s y.0) x.1 (opp_at u s y).1 ∙ ap (u.add t (along u path x.0)) (a.at_opp y.0 y.1))

    nonzero : (path ≡ []) ⊎ IsField (u.kind s) → IsDomain (u.kind t) → value u file v s l ≢ value u file v s r →
        poly_in u v t (difference path l r) ≢ u.zero t
    nonzero (inl e) d n z =
        let w = add_at u s x (opp_at u s y) in
        let st : s ≡ t = subst (λ p. IsPathFrom file t p s) e is in
        apart n (subst (λ p. along u p w.0 ≡ u.zero t) e (sym along_difference ∙ sym difference_value ∙ z)
        ∙ ap u.zero (sym st))
    nonzero (inr k) d n z =
        let w = add_at u s x (opp_at u s y) in
        let i : Carrier u s = (u.inv s w.0, u.laws.has_inv s w.0 w.1) in
        let none : along u path w.0 ≡ u.zero t = sym along_difference ∙ sym difference_value ∙ z in
        u.laws.one_not_zero t d
        (sym a.at_one ∙ ap (along u path) (sym (u.laws.mul_inv s w.0 k w.1 (apart n))) ∙ a.at_mul w.0 i.0 w.1 i.1
        ∙ ap (λ c. u.mul t c (along u path i.0)) none
        ∙ ap (λ c. c.0) ((semi (ring_at u t)).none_times (along u path i.0, a.has i.0 i.1)))

field_under : {E : Type 0} (u : Ghosts E) {file : File} → Fits u file → (used : Use) → (path : List ℕ) → (s : ℕ) →
    (path ≢ [] → IsField (kind_of file s)) → (path ≡ []) ⊎ IsField (u.kind s)
field_under u fits used [] s f = inl refl
field_under u fits used (g ∷ path) s f = inr (kind_field u fits s (f (λ e. cc)))

pub uses_hold : {E : Type 0} (u : Ghosts E) → UsesHold u
uses_hold {E} u file valid fits v values t domain used is holds =
    let hyp = hyp_at file used.hyp in
    let s = hyp.equation.sort in
    let l = hyp.equation.left in
    let r = hyp.equation.right in
    let ok : IsHyp file hyp = All-get_or (IsHyp file) file.hyps used.hyp no_hyp is.hyp valid.hyps in
    let hl = typed_left file hyp.equation ok.equation in
    let hr = typed_right file hyp.equation ok.equation in
    let dl = plain l ok.divides_nowhere.0 in
    let dr = plain r ok.divides_nowhere.1 in
    let leads = path_from file s t used.path is.path is.sorts in
    elim hyp.nonzero as (λ b. hyp.nonzero ≡ b → Compare b (value u file v s l) (value u file v s r) →
    Compare b (poly_in u v t (difference used.path l r)) (u.zero t)) [
      | false ↦ λ same e. equation u fits values s t used.path leads l r hl hr dl dr e
      | true ↦ λ same n.
          nonzero u fits values s t used.path leads l r hl hr dl dr
          (field_under u fits used used.path s (λ under. is.nonzero same under)) (kind_domain u fits t domain) n
    ] refl holds
