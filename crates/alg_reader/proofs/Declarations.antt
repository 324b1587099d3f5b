-- What the rules of declarations and hypotheses make of what their parts mean.
use Rattle.std.proofs.Common.{◌≡◌, ◌≤◌, ℕ, ◌⊎◌, inl, inr, true, false, List, [], ◌∷◌, ◌++◌, length, refl, ap, sym, ◌∙◌, subst, arith, length-append}
use Rattle.std.specs.List.{AllByRecursion}
use Rattle.alg_tokens.specs.declared.token.Token.{Token}
use Rattle.alg_tokens.specs.declared.token.TokenKind.TheVariants as kinds
use Rattle.alg_tokens.specs.declared.token.Sign.TheVariants as signs
use Rattle.alg_tokens.specs.declared.token.Word.TheVariants as words
use Rattle.alg_reader.specs.declared.raw.RawKind.TheVariants as raws
use Rattle.alg_terms.specs.declared.declarations.Kind.TheVariants as sorts
use Rattle.alg_reader.specs.Kinds.{variant, code}
use Rattle.alg_reader.specs.Forms as rules
use Rattle.alg_reader.specs.Forms.{alt}
use Rattle.alg_reader.specs.Grammar.{grammar, name, sign, word}
use Rattle.alg_reader.specs.TermMeaning.{Value}
use Rattle.alg_reader.specs.RawNodes.{span_of}
use Rattle.alg_reader.specs.TermMeaning.{one, two, term}
use Rattle.alg_reader.specs.Meaning.{act}
use Rattle.alg_reader.specs.PartMeaning.{sides, spans, sort_word}
use Rattle.alg_reader.specs.WellRead.{IsNameAt}
use Rattle.alg_reader.proofs.Found.{row, EachOf, KindFound, Found}
use Rattle.alg_reader.proofs.Nodes.{name_at}
use Rattle.alg_reader.proofs.Rules.{domain_words}

pub ring_found : (text : List ℕ) (x : Value) (ts : List Token) → Found text (grammar rules.Ring) x ts
    → KindFound text (act rules.Ring x) ts
unfolding grammar act
ring_found text x ts (y, z, us, vs, e, _, (w, ew, _, _, _), (n, en, _, k, here)) =
    let P : Value → Type 0 = λ v. KindFound text (act rules.Ring v) ts in
    subst P (sym (e ∙ ap (λ v. two v z) ew ∙ ap (two (one w)) en))
    (raws.Sort sorts.Ring (span_of n) false, refl, tt, (name_at text n k here, λ h. cc), tt)

sort_word_found : (text : List ℕ) (x : Value) (ts : List Token) → Found text (alt (word words.Domain)
    (word words.Field)) x ts → (w : Token) × (x ≡ one w) × ((variant (kinds.Word words.Domain) ≡ code w)
    ⊎ (variant (kinds.Word words.Field) ≡ code w))
sort_word_found text x ts (inl (w, e, _, k, _)) = (w, e, inl k)
sort_word_found text x ts (inr (w, e, _, k, _)) = (w, e, inr k)

pub sort_found : (text : List ℕ) (x : Value) (ts : List Token) → Found text (grammar rules.Sort) x ts
    → KindFound text (act rules.Sort x) ts
unfolding grammar act
sort_found text x ts (y, z, us, vs, e, _, h, (y', z', us', vs', e', _, (n, en, _, k, here), o)) =
    let (w, ew, is) = sort_word_found text y us h in
    let P : Value → Type 0 = λ v. KindFound text (act rules.Sort v) ts in
    let start = e ∙ ap (λ v. two v z) ew ∙ ap (two (one w)) (e' ∙ ap (λ v. two v z') en) in
    elim o [
      | inl (ez, _) ↦ subst P (sym (start ∙ ap (λ v. two (one w) (two (one n) v)) ez))
          (raws.Sort (sort_word w.kind) (span_of n) false, refl, tt, (name_at text n k here, λ h. cc), tt)
      | inr (c, d, _, _, ez, _, _, _) ↦ subst P (sym (start ∙ ap (λ v. two (one w) (two (one n) v)) ez)) (
        raws.Sort (sort_word w.kind) (span_of n) true,
        refl,
        tt,
        (name_at text n k here, λ h. domain_words w.kind is),
        tt,
      )
    ]

pub hom_found : (text : List ℕ) (x : Value) (ts : List Token) → Found text (grammar rules.Hom) x ts
    → KindFound text (act rules.Hom x) ts
unfolding grammar act
hom_found text x ts (
  y,
  z,
  _,
  _,
  e,
  _,
  (w, ew, _, _, _),
  (
    y1,
    z1,
    _,
    _,
    e1,
    _,
    (n, en, _, kn, hn),
    (
      y2,
      z2,
      _,
      _,
      e2,
      _,
      (c, ec, _, _, _),
      (
        y3,
        z3,
        _,
        _,
        e3,
        _,
        (f, ef, _, kf, hf),
        (
          y4,
          z4,
          _,
          _,
          e4,
          _,
          (r, er, _, _, _),
          (g, eg, _, kg, hg),
        ),
      ),
    ),
  ),
) =
    let P : Value → Type 0 = λ v. KindFound text (act rules.Hom v) ts in
    subst P (sym (e ∙ ap (λ v. two v z) ew ∙ ap (two (one w)) (e1 ∙ ap (λ v. two v z1) en ∙ ap (two (one n))
    (e2 ∙ ap (λ v. two v z2) ec ∙ ap (two (one c)) (e3 ∙ ap (λ v. two v z3) ef ∙ ap (two (one f))
    (e4 ∙ ap (λ v. two v z4) er ∙ ap (two (one r)) eg)))))) (
      raws.Hom (span_of n) (span_of f) (span_of g),
      refl,
      tt,
      (name_at text n kn hn, name_at text f kf hf, name_at text g kg hg),
      tt,
    )

-- names one after the other
names_found : (text : List ℕ) (xs : List Value) (ts : List Token) → EachOf (λ y us. Found text name y us) xs ts
    → AllByRecursion (IsNameAt text) (spans (row xs)) × (length (spans (row xs)) ≤ length ts)
unfolding row spans
names_found text [] ts each = (tt, omega arith)
names_found text (x ∷ xs) ts (us, vs, es, (n, en, et, k, here), each) =
    let (all, few) = names_found text xs vs each in
    let P : Value → Type 0 = λ v. AllByRecursion (IsNameAt text) (spans (two v (row xs)))
    × (length (spans (two v (row xs))) ≤ length ts) in
    let long = ap length (es ∙ ap (λ us. us ++ vs) et) in
    subst P (sym en) ((name_at text n k here, all), omega arith)

pub vars_found : (text : List ℕ) (x : Value) (ts : List Token) → Found text (grammar rules.Vars) x ts
    → KindFound text (act rules.Vars x) ts
unfolding grammar act
vars_found text x ts (
  y,
  z,
  us,
  vs,
  e,
  s,
  (w, ew, _, _, _),
  (
    y1,
    z1,
    us1,
    vs1,
    e1,
    s1,
    (n, en, sn, kn, hn),
    (
      y2,
      z2,
      us2,
      vs2,
      e2,
      s2,
      (xs, ex, each),
      (y3, z3, _, _, e3, _, (c, ec, _, _, _), (r, er, _, kr, hr)),
    ),
  ),
) =
    let (all, few) = names_found text xs us2 each in
    let P : Value → Type 0 = λ v. KindFound text (act rules.Vars v) ts in
    let long = ap length s ∙ length-append us vs in
    let long1 = ap length s1 ∙ length-append us1 vs1 in
    let long2 = ap length s2 ∙ length-append us2 vs2 in
    let one_name = ap length sn in
    subst P (sym (e ∙ ap (λ v. two v z) ew ∙ ap (two (one w)) (e1 ∙ ap (λ v. two v z1) en ∙ ap (two (one n))
    (e2 ∙ ap (λ v. two v z2) ex ∙ ap (two (row xs)) (e3 ∙ ap (λ v. two v z3) ec ∙ ap (two (one c)) er))))) (
      raws.Vars (span_of n ∷ spans (row xs)) (span_of r),
      refl,
      tt,
      (omega arith, (name_at text n kn hn, all), name_at text r kr hr),
      omega arith,
    )

relation_found : (text : List ℕ) (x : Value) (ts : List Token) → Found text (alt (sign signs.Equal)
    (sign signs.NotEqual)) x ts → (r : Token) × (x ≡ one r)
relation_found text x ts (inl (r, e, _, _, _)) = (r, e)
relation_found text x ts (inr (r, e, _, _, _)) = (r, e)

pub hyp_found : (text : List ℕ) (x : Value) (ts : List Token) → Found text (grammar rules.Hyp) x ts
    → KindFound text (act rules.Hyp x) ts
unfolding grammar act
hyp_found text x ts (
  y,
  z,
  _,
  _,
  e,
  _,
  (w, ew, _, _, _),
  (
    y1,
    z1,
    _,
    _,
    e1,
    _,
    (n, en, _, kn, hn),
    (
      y2,
      z2,
      _,
      _,
      e2,
      _,
      (c, ec, _, _, _),
      (y3, z3, _, _, e3, _, (t, et, ft), (y4, z4, us4, _, e4, _, h4, (u, eu, fu))),
    ),
  ),
) =
    let (r, er) = relation_found text y4 us4 h4 in
    let P : Value → Type 0 = λ v. KindFound text (act rules.Hyp v) ts in
    subst P (sym (e ∙ ap (λ v. two v z) ew ∙ ap (two (one w)) (e1 ∙ ap (λ v. two v z1) en ∙ ap (two (one n))
    (e2 ∙ ap (λ v. two v z2) ec ∙ ap (two (one c)) (e3 ∙ ap (λ v. two v z3) et ∙ ap (two (term t))
    (e4 ∙ ap (λ v. two v z4) er ∙ ap (two (one r)) eu))))))
    (raws.Hyp (span_of n) (sides t r u), refl, tt, (name_at text n kn hn, ft, fu), tt)
