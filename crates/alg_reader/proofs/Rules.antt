-- What the rules of terms and of the words of sorts and methods make of what their parts mean.
use Rattle.std.proofs.Common.{◌≡◌, ℕ, ◌⊎◌, inl, inr, false, List, refl, ap, sym, ◌∙◌, subst, arith}
use Rattle.alg_tokens.specs.declared.token.Token.{Token}
use Rattle.alg_tokens.specs.declared.token.TokenKind.{TokenKind}
use Rattle.alg_tokens.specs.declared.token.TokenKind.TheVariants as kinds
use Rattle.alg_tokens.specs.declared.token.Sign.TheVariants as signs
use Rattle.alg_tokens.specs.declared.token.Word.TheVariants as words
use Rattle.alg_terms.specs.Kinds.{IsDomain}
use Rattle.alg_reader.specs.declared.raw.RawTerm.{RawTerm}
use Rattle.alg_reader.specs.Kinds.{variant, code}
use Rattle.alg_reader.specs.Forms as rules
use Rattle.alg_reader.specs.Forms.{seq, alt, opt, rule}
use Rattle.alg_reader.specs.Grammar.{name, number, sign, inside, word}
use Rattle.alg_reader.specs.TermMeaning.{Value, named, leaf_one, leaf_two, act_unary, act_power, act_leaf}
use Rattle.alg_reader.specs.RawNodes.{literal, variable, image, opposite, power_of, is_unequal}
use Rattle.alg_reader.specs.PartMeaning.{sort_word, method_word}
use Rattle.alg_reader.specs.TermMeaning.{one, two, term}
use Rattle.alg_reader.specs.WellRead.{uses_in}
use Rattle.alg_reader.proofs.Nodes.{name_at, number_at, opposite_found, power_found, variable_found, image_found, literal_found}
use Rattle.alg_reader.proofs.Boundaries.{IsTokenAt}
use Rattle.alg_reader.proofs.Variants.{is_name, is_numeral, is_paren}
use Rattle.alg_reader.proofs.Found.{IsFoundTerm, TermFound, Found}

-- ---- the rules of terms

-- a sum in parentheses
inside_found : (text : List ℕ) (x : Value) (ts : List Token) → ((y : Value) (us : List Token)
    → Found text (rule rules.Sum) y us → TermFound text y) → Found text (inside (rule rules.Sum)) x ts
    → (p : Token) × (q : Token) × (t : RawTerm) × (p.kind ≡ kinds.Sign signs.ParenLeft)
    × (x ≡ two (one p) (two (term t) (one q))) × IsFoundTerm text t
inside_found text x ts is (y, z, us, vs, e, _, (p, ep, _, kp, _), (v, w, us', vs', e', _, h, (q, eq, _, _, _))) =
    let (t, et, f) = is v us' h in (
      p,
      q,
      t,
      is_paren p.kind kp,
      e ∙ ap (λ v. two v z) ep ∙ ap (two (one p)) (e' ∙ ap (λ v. two v w) et ∙ ap (two (term t)) eq),
      f,
    )

pub unary_found : (text : List ℕ) (x : Value) (ts : List Token) → Found text (alt (seq (sign signs.Minus)
    (rule rules.Unary)) (rule rules.Power)) x ts → TermFound text (act_unary x)
unary_found text x ts (inl (y, z, us, vs, e, _, (m, em, _, _, _), (t, et, f))) =
    let P : Value → Type 0 = λ v. TermFound text (act_unary v) in
    subst P (sym (e ∙ ap (λ v. two v z) em ∙ ap (two (one m)) et)) (
      opposite m.start t,
      refl,
      opposite_found text m.start t f,
    )
unary_found text x ts (inr (t, et, f)) = let P : Value → Type 0 = λ v. TermFound text (act_unary v) in
    subst P (sym et) (t, refl, f)

pub power_rule_found : (text : List ℕ) (x : Value) (ts : List Token) → Found text (seq (rule rules.Leaf) (opt (seq
    (sign signs.Caret) number))) x ts → TermFound text (act_power x)
power_rule_found text x ts (y, z, us, vs, e, _, (t, et, f), inl (ez, _)) =
    let P : Value → Type 0 = λ v. TermFound text (act_power v) in
    subst P (sym (e ∙ ap (λ v. two v z) et ∙ ap (two (term t)) ez)) (t, refl, f)
power_rule_found text x ts (y, z, us, vs, e, _, (t, et, f), inr (v, w, us', vs', e', _, (c, ec, _, _, _), h)) =
    let (n, en, range, _, _) = number_at text w vs' h in
    let P : Value → Type 0 = λ v. TermFound text (act_power v) in
    subst P (sym (e ∙ ap (λ v. two v z) et ∙ ap (two (term t)) (e' ∙ ap (λ v. two v w) ec ∙ ap (two (one c)) en)))
    (power_of c t n, refl, power_found text c t n range f)

-- what a name before parentheses, or alone, means
named_found : (text : List ℕ) (n : Token) (z : Value) (ts : List Token) → ((y : Value) (us : List Token)
    → Found text (rule rules.Sum) y us → TermFound text y) → variant kinds.Name ≡ code n → IsTokenAt text n
    → Found text (opt (inside (rule rules.Sum))) z ts → TermFound text (named n z)
named_found text n z ts is k here (inl (ez, _)) = let P : Value → Type 0 = λ v. TermFound text (named n v) in
    subst P (sym ez) (variable n, refl, variable_found text n (name_at text n k here))
named_found text n z ts is k here (inr h) =
    let (p, q, t, _, e, f) = inside_found text z ts is h in
    let P : Value → Type 0 = λ v. TermFound text (named n v) in
    subst P (sym e) (image n t, refl, image_found text n t (name_at text n k here) f)

pub leaf_found : (text : List ℕ) (x : Value) (ts : List Token) → ((y : Value) (us : List Token)
    → Found text (rule rules.Sum) y us → TermFound text y) → Found text (alt number (alt (seq name (opt (inside
    (rule rules.Sum)))) (inside (rule rules.Sum)))) x ts → TermFound text (act_leaf x)
leaf_found text x ts is (inl h) =
    let (t, e, range, k, _) = number_at text x ts h in
    let (n, kind) = is_numeral t.kind k in
    let P : Value → Type 0 = λ v. TermFound text (act_leaf v) in
    let Q : TokenKind → Type 0 = λ k. TermFound text (leaf_one t k) in
    subst P (sym e) (subst Q (sym kind) (literal t, refl, literal_found text t range))
leaf_found text x ts is (inr (inl (y, z, us, vs, e, _, (n, en, _, k, here), h))) =
    let P : Value → Type 0 = λ v. TermFound text (act_leaf v) in
    let Q : TokenKind → Type 0 = λ k. TermFound text (leaf_two n k z) in
    subst P (sym (e ∙ ap (λ v. two v z) en)) (subst Q (sym (is_name n.kind k)) (named_found text n z vs is k here h))
leaf_found text x ts is (inr (inr h)) =
    let (p, q, t, paren, e, f) = inside_found text x ts is h in
    let P : Value → Type 0 = λ v. TermFound text (act_leaf v) in
    let Q : TokenKind → Type 0 = λ k. TermFound text (leaf_two p k (two (term t) (one q))) in
    subst P (sym e) (subst Q (sym paren) (t, refl, f))

-- ---- the words of statements

pub equal_words : (kind : TokenKind) → variant (kinds.Sign signs.Equal) ≡ variant kind → is_unequal kind ≡ false
equal_words kinds.Name h = refl
equal_words (kinds.Word word) h = refl
equal_words (kinds.Number value) h = refl
equal_words kinds.End h = refl
equal_words (kinds.Sign sign) h = elim sign as (λ s. variant (kinds.Sign signs.Equal) ≡ variant (kinds.Sign s)
    → is_unequal (kinds.Sign s) ≡ false) [
      | signs.NotEqual ↦ λ e. absurd (omega arith)
      | signs.Dot ↦ λ e. refl
      | _ ↦ λ e. refl
    ] h

no_ring : (variant (kinds.Word words.Domain) ≡ variant (kinds.Word words.Ring))
    ⊎ (variant (kinds.Word words.Field) ≡ variant (kinds.Word words.Ring)) → ⊥
no_ring (inl e) = absurd (omega arith)
no_ring (inr e) = absurd (omega arith)

pub domain_words : (kind : TokenKind) → (variant (kinds.Word words.Domain) ≡ variant kind)
    ⊎ (variant (kinds.Word words.Field) ≡ variant kind) → IsDomain (sort_word kind)
domain_words kinds.Name h = tt
domain_words (kinds.Number value) h = tt
domain_words kinds.End h = tt
domain_words (kinds.Sign sign) h = tt
domain_words (kinds.Word word) h = elim word as (λ w. (variant (kinds.Word words.Domain) ≡ variant (kinds.Word w))
    ⊎ (variant (kinds.Word words.Field) ≡ variant (kinds.Word w)) → IsDomain (sort_word (kinds.Word w))) [
      | words.Ring ↦ λ e. absurd (no_ring e)
      | words.Domain ↦ λ e. tt
      | words.Additive ↦ λ e. tt
      | _ ↦ λ e. tt
    ] h

-- a word other than nsatz has no uses
pub no_uses : (kind : TokenKind) → uses_in (method_word kind) ≡ 0
no_uses kinds.Name = refl
no_uses (kinds.Number value) = refl
no_uses kinds.End = refl
no_uses (kinds.Sign sign) = refl
no_uses (kinds.Word w) = elim w as (λ w. uses_in (method_word (kinds.Word w)) ≡ 0) [
  | words.Ring ↦ refl
  | words.Additive ↦ refl
  | _ ↦ refl
]
