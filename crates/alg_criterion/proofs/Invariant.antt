-- What the search keeps: each pair of basis lines waits, or is below its lcm up to the current line; each
-- hypothesis likewise; each remainder is what is left of its power.
use Rattle.std.specs.Prelude.{◌≡◌, List, [], ◌∷◌, ◌++◌, ℤ}
use Rattle.std.proofs.Common.{refl, sym, ap, subst, ◌⊎◌, inl, inr}
use Rattle.std.specs.declared.cmp.Ordering.{Ordering}
use Rattle.std.specs.declared.option.Option.TheVariants.{None, Some}
use Rattle.alg_criterion.proofs.Spans.{Every, Led, whole, Under, IsLine, Spans, LowOf, IsMonomials}
use Rattle.alg_criterion.proofs.Machine.{Has, Pairwise, Seen, IsPoly, IsStep, Reached, start, steps, drops, reduces, joins, takes, pairs_up}
use Rattle.alg_criterion.proofs.Remains.{poly_line, Leaves, leaves_start, leaves_reduct, leaves_s}
use Rattle.alg_criterion.proofs.Sums.{Any}
use Rattle.alg_criterion.proofs.Pairwise.{some_same, none_some, every_map, every_both, every_has, pairwise_map, pairwise_same, pairwise_then}
use Rattle.alg_criterion.proofs.Tasks.{Cleared, leaves_more, IsTask, hyp_task, cleared_drop, cleared_reduct, cleared_idle, cleared_join, s_of, w_of, pair_task, spans_self, coprime_spans, In, Half}

module _ {M : Type 0} {cmp : M → M → Ordering} {times over : M → M → M} {one : M} {Ok : M → Type 0}
    (L : IsMonomials cmp times over one Ok) where
  abbrev Poly : Type 0
  Poly = List (M × ℤ)

  module _ (hyps powers : List Poly) (hyps_ok : Every (IsPoly cmp times over Ok) hyps)
      (powers_ok : Every (IsPoly cmp times over Ok) powers) where
    pub record Inv (s : Seen M) : Type 0 where
      pub line : (l : Led M) → Has l s.basis → IsLine cmp times Ok l
      pub current : (c : Poly) → s.current ≡ Some c → IsPoly cmp times over Ok c
      pub inputs : Every (IsPoly cmp times over Ok) s.inputs
      pub pairs : (f g : Led M) → Has f s.basis → Has g s.basis → Half L s f g ⊎ Half L s g f
      pub given : Every (λ h. Has h s.inputs ⊎ Cleared L (In L s) s.current (LowOf cmp h) h) hyps
      pub left : Pairwise (Leaves L (In L s) Any) powers s.remainders
      pub rests : Every (IsPoly cmp times over Ok) s.remainders

    stepped : (basis : List (Led M)) (xs ys : List Poly) → Every (IsPoly cmp times over Ok) xs →
        Pairwise (IsStep cmp times over Ok basis) xs ys → Every (IsPoly cmp times over Ok) ys
    stepped basis [] [] h k = tt
    stepped basis [] (y ∷ ys) h k = absurd k
    stepped basis (x ∷ xs) [] h k = tt
    stepped basis (x ∷ xs) (y ∷ ys) h k = (
      elim k.0 [
        | inl e ↦ subst (IsPoly cmp times over Ok) e h.0
        | inr z ↦ z.2.poly
      ],
      stepped basis xs ys h.1 k.1,
    )

    -- where what is cleared stays cleared, all pairs do
    halves : (s t : Seen M) → ((p : Led M × Led M) → Has p s.pairs → Has p t.pairs) →
        ((Low : M → Type 0) (p : Poly) → IsTask L Low p → Cleared L (In L s) s.current Low p →
        Cleared L (In L t) t.current Low p) →
        (f g : Led M) → IsLine cmp times Ok f → IsLine cmp times Ok g → Half L s f g ⊎ Half L s g f →
        Half L t f g ⊎ Half L t g f
    halves s t k c f g hf hg (inl (inl h)) = inl (inl (k (f, g) h))
    halves s t k c f g hf hg (inl (inr h)) = inl (inr (c (Under cmp times Ok (w_of L f g)) (s_of L f g)
        (pair_task L f g hf hg) h))
    halves s t k c f g hf hg (inr (inl h)) = inr (inl (k (g, f) h))
    halves s t k c f g hf hg (inr (inr h)) = inr (inr (c (Under cmp times Ok (w_of L g f)) (s_of L g f)
        (pair_task L g f hg hf) h))

    hyps_keep : (s t : Seen M) → ((h : Poly) → Has h s.inputs → Has h t.inputs) →
        ((Low : M → Type 0) (p : Poly) → IsTask L Low p → Cleared L (In L s) s.current Low p →
        Cleared L (In L t) t.current Low p) →
        Every (λ h. Has h s.inputs ⊎ Cleared L (In L s) s.current (LowOf cmp h) h) hyps →
        Every (λ h. Has h t.inputs ⊎ Cleared L (In L t) t.current (LowOf cmp h) h) hyps
    hyps_keep s t k c d = every_both {P = IsPoly cmp times over Ok} {Q = λ h. Has h s.inputs
        ⊎ Cleared L (In L s) s.current (LowOf cmp h) h} {R = λ h. Has h t.inputs
        ⊎ Cleared L (In L t) t.current (LowOf cmp h) h}
        (λ h i x. elim x [ inl y ↦ inl (k h y) | inr y ↦ inr (c (LowOf cmp h) h (hyp_task L h i) y) ]) hyps hyps_ok d

    pub inv : (s : Seen M) → Reached cmp times over Ok hyps powers s → Inv s
    inv t start = record {
      line = λ l h. absurd h;
      current = λ c e. none_some c e;
      inputs = hyps_ok;
      pairs = λ f g h. absurd h;
      given = every_map {P = λ h. Has h hyps} (λ h k. inl k) hyps (every_has hyps);
      left = pairwise_same (Leaves L (λ l. ⊥) Any) (λ p. leaves_start L (λ l. ⊥) Any p) powers;
      rests = powers_ok;
    }
    inv t (steps s r new h) =
        let i = inv s r in
        record {
          line = i.line;
          current = i.current;
          inputs = i.inputs;
          pairs = i.pairs;
          given = i.given;
          left = pairwise_then {R = Leaves L (In L s) Any} {S = IsStep cmp times over Ok s.basis} {Q =
              Leaves L (In L s) Any} (λ p old g x y. elim y [
                | inl e ↦ subst (λ c. Leaves L (In L s) Any p c) e x
                | inr z ↦ leaves_reduct L (In L s) Any p old g z.0 z.1 z.2 tt x
              ]) powers s.remainders new i.left h;
          rests = stepped s.basis s.remainders new i.rests h;
        }
    inv t (drops s r e) =
        let i = inv s r in
        let t : Seen M = record s { current = None } in
        let c = λ (Low : M → Type 0) (p : Poly) (k : IsTask L Low p) (x : Cleared L (In L s) s.current Low p).
        cleared_drop L (In L s) i.line Low p k s.current e x in
        record {
          line = i.line;
          current = λ d k. none_some d k;
          inputs = i.inputs;
          pairs = λ f g hf hg. halves s t (λ p h. h) c f g (i.line f hf) (i.line g hg) (i.pairs f g hf hg);
          given = hyps_keep s t (λ h k. k) c i.given;
          left = i.left;
          rests = i.rests;
        }
    inv t (reduces s r old new e l m d) =
        let i = inv s r in
        let t : Seen M = record s { current = Some new; made = s.made ++ new ∷ [] } in
        let c = λ (Low : M → Type 0) (p : Poly) (k : IsTask L Low p) (x : Cleared L (In L s) s.current Low p).
        cleared_reduct L (In L s) i.line Low p k s.current old new e (i.current old e) l m d x in
        record {
          line = i.line;
          current = λ z k. subst (IsPoly cmp times over Ok) (some_same new z k) d.poly;
          inputs = i.inputs;
          pairs = λ f g hf hg. halves s t (λ p h. h) c f g (i.line f hf) (i.line g hg) (i.pairs f g hf hg);
          given = hyps_keep s t (λ h k. k) c i.given;
          left = i.left;
          rests = i.rests;
        }
    inv t (joins s r l e wider l_in grows split more keep meets) =
        let i = inv s r in
        let t : Seen M = record s { basis = wider; pairs = more; current = None } in
        let new_line = poly_line L l (i.current (whole l) e) in
        let line_t : (k : Led M) → Has k t.basis → IsLine cmp times Ok k =
        λ k h. elim (split k h) [ inl p ↦ subst (IsLine cmp times Ok) (sym p) new_line | inr h ↦ i.line k h ] in
        let c = λ (Low : M → Type 0) (p : Poly) (k : IsTask L Low p) (x : Cleared L (In L s) s.current Low p).
        cleared_join L (In L s) i.line Low p k s.current l e new_line (In L t) grows l_in x in
        let meet : (f : Led M) → Has f s.basis → Half L t f l ⊎ Half L t l f = λ f h. elim (meets f h) [
          | inl p ↦ inl (inl p)
          | inr q ↦ elim q [
            | inl p ↦ inr (inl p)
            | inr p ↦ inl (inr (inl (coprime_spans L (In L t) line_t f l (grows f h) l_in p)))
          ]
        ] in
        record {
          line = line_t;
          current = λ z k. none_some z k;
          inputs = i.inputs;
          pairs = λ f g hf hg. elim (split f hf) [
            | inl p ↦ elim (split g hg) [
              | inl q ↦ inl (inr (inl (subst (λ x. Spans cmp times Ok (In L t) (Under cmp times Ok (w_of L x g))
                  (s_of L x g)) (sym p) (subst (λ x. Spans cmp times Ok (In L t) (Under cmp times Ok (w_of L l x))
                  (s_of L l x)) (sym q) (spans_self L (In L t) (Under cmp times Ok (w_of L l l)) l)))))
              | inr q ↦ subst (λ x. Half L t x g ⊎ Half L t g x) (sym p)
                  (elim (meet g q) [ inl a ↦ inr a | inr a ↦ inl a ])
            ]
            | inr p ↦ elim (split g hg) [
              | inl q ↦ subst (λ x. Half L t f x ⊎ Half L t x f) (sym q) (meet f p)
              | inr q ↦ halves s t keep c f g (i.line f p) (i.line g q) (i.pairs f g p q)
            ]
          ];
          given = hyps_keep s t (λ h k. k) c i.given;
          left = pairwise_map {R = Leaves L (In L s) Any} {S = Leaves L (In L t) Any}
              (λ p g x. leaves_more L (In L s) (In L t) grows Any p g x) powers s.remainders i.left;
          rests = i.rests;
        }
    inv t (takes s r e h rest k) =
        let i = inv s r in
        let t : Seen M = record s { inputs = rest; current = Some h } in
        let all : Every (IsPoly cmp times over Ok) (h ∷ rest) = subst (Every (IsPoly cmp times over Ok)) k i.inputs in
        let c : (Low : M → Type 0) (p : Poly) → IsTask L Low p → Cleared L (In L s) s.current Low p →
        Cleared L (In L t) t.current Low p = λ Low p k x. inl (cleared_idle L (In L s) i.line Low p k s.current e x) in
        record {
          line = i.line;
          current = λ z k. subst (IsPoly cmp times over Ok) (some_same h z k) all.0;
          inputs = all.1;
          pairs = λ f g hf hg. halves s t (λ p h. h) c f g (i.line f hf) (i.line g hg) (i.pairs f g hf hg);
          given = every_both {P = IsPoly cmp times over Ok} {Q = λ h. Has h s.inputs
              ⊎ Cleared L (In L s) s.current (LowOf cmp h) h} {R = λ h. Has h t.inputs
              ⊎ Cleared L (In L t) t.current (LowOf cmp h) h}
              (λ x j y. elim y [
                | inl z ↦ elim (subst (λ xs. Has x xs) k z) [
                  | inl p ↦ inr (inr (
                    h,
                    refl,
                    subst (λ v. Leaves L (In L s) (LowOf cmp x) x v) p
                        (leaves_start L (In L s) (LowOf cmp x) x),
                  ))
                  | inr p ↦ inl p
                ]
                | inr z ↦ inr (c (LowOf cmp x) x (hyp_task L x j) z)
              ]) hyps hyps_ok i.given;
          left = i.left;
          rests = i.rests;
        }
    inv t (pairs_up s r e f g hf hg rest k new d) =
        let i = inv s r in
        let t : Seen M = record s { pairs = rest; current = Some new; made = s.made ++ new ∷ [] } in
        let c : (Low : M → Type 0) (p : Poly) → IsTask L Low p → Cleared L (In L s) s.current Low p →
        Cleared L (In L t) t.current Low p = λ Low p k x. inl (cleared_idle L (In L s) i.line Low p k s.current e x) in
        let half : (x y : Led M) → IsLine cmp times Ok x → IsLine cmp times Ok y → Half L s x y →
        Half L t x y = λ x y jx jy h. elim h [
          | inl a ↦ elim (k (x, y) a) [
            | inl p ↦ inr (inr (
              new,
              refl,
              subst (λ z. Leaves L (In L s) (Under cmp times Ok (w_of L z y)) (s_of L z y) new)
                  (sym (ap (λ (v : Led M × Led M). v.0) p))
                  (subst (λ z. Leaves L (In L s) (Under cmp times Ok (w_of L f z)) (s_of L f z) new)
                  (sym (ap (λ (v : Led M × Led M). v.1) p))
                  (leaves_s L (In L s) (Under cmp times Ok (w_of L f g)) f g (i.line g hg) new d)),
            ))
            | inr p ↦ inl p
          ]
          | inr a ↦ inr (c (Under cmp times Ok (w_of L x y)) (s_of L x y) (pair_task L x y jx jy) a)
        ] in
        record {
          line = i.line;
          current = λ z k. subst (IsPoly cmp times over Ok) (some_same new z k) d.poly;
          inputs = i.inputs;
          pairs = λ x y hx hy. elim (i.pairs x y hx hy) [
            | inl a ↦ inl (half x y (i.line x hx) (i.line y hy) a)
            | inr a ↦ inr (half y x (i.line y hy) (i.line x hx) a)
          ];
          given = hyps_keep s t (λ h k. k) c i.given;
          left = i.left;
          rests = i.rests;
        }
