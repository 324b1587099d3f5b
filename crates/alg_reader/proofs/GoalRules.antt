-- What the rules of methods, goals and statements make of what their parts mean.
use Rattle.std.proofs.Common.{ℕ, inl, inr, List, ◌++◌, length, refl, ap, sym, ◌∙◌, subst, arith, length-append}
use Rattle.alg_tokens.specs.declared.token.Token.{Token}
use Rattle.alg_tokens.specs.declared.token.TokenKind.{TokenKind}
use Rattle.alg_tokens.specs.declared.token.TokenKind.TheVariants as kinds
use Rattle.alg_tokens.specs.declared.token.Word.TheVariants as words
use Rattle.alg_reader.specs.declared.raw.RawKind.TheVariants as raws
use Rattle.alg_reader.specs.Forms as rules
use Rattle.alg_reader.specs.Forms.{a, none}
use Rattle.alg_reader.specs.Grammar.{grammar, sign}
use Rattle.alg_reader.specs.TermMeaning.{Value}
use Rattle.alg_reader.specs.TermMeaning.{one, two, term}
use Rattle.alg_reader.specs.Meaning.{value, act}
use Rattle.alg_reader.specs.PartMeaning.{sides, method_word, nsatz_of}
use Rattle.alg_reader.specs.WellRead.{IsWellMethod}
use Rattle.alg_reader.proofs.Found.{KindFound, RuleFound, Found}
use Rattle.alg_reader.proofs.Rules.{equal_words, no_uses}
use Rattle.alg_reader.proofs.UseRules.{options_found}

-- a word of a method has no options
word_well : (text : List ℕ) (kind : TokenKind) → IsWellMethod text (method_word kind)
word_well text kinds.Name = tt
word_well text (kinds.Number value) = tt
word_well text kinds.End = tt
word_well text (kinds.Sign sign) = tt
word_well text (kinds.Word w) = elim w as (λ w. IsWellMethod text (method_word (kinds.Word w))) [
  | words.Ring ↦ tt
  | words.Additive ↦ tt
  | _ ↦ tt
]

well_word : (text : List ℕ) (w : Token) → IsWellMethod text (method_word w.kind)
well_word text w = word_well text w.kind

-- a method of one word
one_word : (text : List ℕ) (x : Value) (ts : List Token) (k : TokenKind) → Found text (a k) x ts
    → RuleFound text rules.Method (act rules.Method x) ts
unfolding grammar act
one_word text x ts k (w, ew, sw, _, _) =
    let P : Value → Type 0 = λ v. RuleFound text rules.Method (act rules.Method v) ts in
    let none = no_uses w.kind in
    let long = ap length sw in
    subst P (sym ew) (method_word w.kind, w.start, refl, well_word text w, omega arith)

pub method_found : (text : List ℕ) (x : Value) (ts : List Token) → Found text (grammar rules.Method) x ts
    → RuleFound text rules.Method (act rules.Method x) ts
unfolding grammar act
method_found text x ts (inl (y, z, us, vs, e, s, (w, ew, sw, _, _), h)) =
    let (well, few) = options_found text z vs h in
    let long = ap length (s ∙ ap (λ us. us ++ vs) sw) in
    let P : Value → Type 0 = λ v. RuleFound text rules.Method (act rules.Method v) ts in
    subst P (sym (e ∙ ap (λ v. two v z) ew)) (nsatz_of z, w.start, refl, well, omega arith)
method_found text x ts (inr (inl h)) = one_word text x ts (kinds.Word words.Ring) h
method_found text x ts (inr (inr h)) = one_word text x ts (kinds.Word words.Field) h

pub goal_found : (text : List ℕ) (x : Value) (ts : List Token) → Found text (grammar rules.Goal) x ts
    → KindFound text (act rules.Goal x) ts
unfolding grammar act
goal_found text x ts (
  y,
  z,
  us,
  vs,
  e,
  s,
  (w, ew, _, _, _),
  (
    y1,
    z1,
    us1,
    vs1,
    e1,
    s1,
    (t, et, ft),
    (
      y2,
      z2,
      us2,
      vs2,
      e2,
      s2,
      (q, eq, _, kq, _),
      (
        y3,
        z3,
        us3,
        vs3,
        e3,
        s3,
        (u, eu, fu),
        (
          y4,
          z4,
          us4,
          vs4,
          e4,
          s4,
          (b, eb, _, _, _),
          (m, place, em, well, few),
        ),
      ),
    ),
  ),
) =
    let P : Value → Type 0 = λ v. KindFound text (act rules.Goal v) ts in
    let parts = ap length s ∙ length-append us vs in
    let parts1 = ap length s1 ∙ length-append us1 vs1 in
    let parts2 = ap length s2 ∙ length-append us2 vs2 in
    let parts3 = ap length s3 ∙ length-append us3 vs3 in
    let parts4 = ap length s4 ∙ length-append us4 vs4 in
    subst P (sym (e ∙ ap (λ v. two v z) ew ∙ ap (two (one w)) (e1 ∙ ap (λ v. two v z1) et ∙ ap (two (term t))
    (e2 ∙ ap (λ v. two v z2) eq ∙ ap (two (one q)) (e3 ∙ ap (λ v. two v z3) eu ∙ ap (two (term u))
    (e4 ∙ ap (λ v. two v z4) eb ∙ ap (two (one b)) em)))))) (
      raws.Goal (sides t q u) m place,
      refl,
      tt,
      (ft, fu, equal_words q.kind kq, well),
      omega arith,
    )
