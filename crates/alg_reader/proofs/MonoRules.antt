-- What the rules of monomials and of integers make of what their parts mean.
use Rattle.std.proofs.Common.{ℕ, List, [], ◌∷◌, inl, inr, refl, ap, sym, ◌∙◌, subst, arith, ℤ, pos, negsuc, ◌≤ℤ◌}
use Rattle.std.specs.List.{AllByRecursion}
use Rattle.std.proofs.lemmas.Int.{ints}
use Rattle.std.proofs.Math.IntN.{neg_ℤ}
use Rattle.std.specs.Int.RustNames.{unsigned_abs}
use Rattle.alg_terms.specs.Limits.{MAX_LITERAL}
use Rattle.alg_tokens.specs.declared.token.Token.{Token}
use Rattle.alg_tokens.specs.declared.token.TokenKind.TheVariants as kinds
use Rattle.alg_tokens.specs.declared.token.Sign.{Sign}
use Rattle.alg_tokens.specs.declared.token.Sign.TheVariants as signs
use Rattle.alg_reader.specs.Forms as rules
use Rattle.alg_reader.specs.Forms.{Rule, seq, rule}
use Rattle.alg_reader.specs.Grammar.{grammar, sign}
use Rattle.alg_reader.specs.TermMeaning.{Value, one, two, factor}
use Rattle.alg_reader.specs.AnswerMeaning.{after, factor_in, act_atom, act_factor, act_factors, act_mono, act_int}
use Rattle.alg_reader.specs.PartMeaning.{option_of}
use Rattle.alg_reader.specs.RawMonos.{start_of, mono_of, mono_one, plain_factor, image_factor, raised_factor, opposite_of}
use Rattle.alg_reader.specs.RawNodes.{number_of, numeral_of}
use Rattle.alg_reader.specs.WellRead.{IsInRange, IsNumeral, IsInteger}
use Rattle.alg_reader.proofs.Found.{all_append, row, EachOf, IsWellFactor, FactorFound, MonoFound, RuleFound, Found}
use Rattle.alg_reader.proofs.Monos.{factors_well, plain_well, image_well, raised_well}
use Rattle.alg_reader.proofs.Nodes.{name_at, number_at}
use Rattle.alg_reader.proofs.UseRules.{option_found}

-- what stands behind separators, where each is one of a rule
pub items_found : {X : Type 0} (text : List ℕ) (s : Sign) (r : Rule) (item : Value → List X) (P : X → Type 0)
    → ((v : Value) (us : List Token) → Found text (rule r) v us → AllByRecursion P (item v)) → (xs : List Value)
    (ts : List Token) → EachOf (λ y us. Found text (seq (sign s) (rule r)) y us) xs ts
    → AllByRecursion P (after item (row xs))
unfolding row after
items_found text s r item P each [] ts h = tt
items_found text s r item P each (x ∷ xs) ts (us, vs, _, (y, z, us', vs', e, _, _, h), more) =
    let Q : Value → Type 0 = λ v. AllByRecursion P (after item (two v (row xs))) in
    subst Q (sym e) (all_append P (item z) (after item (row xs)) (each z vs' h)
    (items_found text s r item P each xs vs more))

pub atom_found : (text : List ℕ) (x : Value) (ts : List Token) → Found text (grammar rules.Atom) x ts
    → FactorFound text (act_atom x)
unfolding grammar
atom_found text x ts (y, z, us, vs, e, _, (n, en, _, k, here), inl (ez, _)) =
    let P : Value → Type 0 = λ v. FactorFound text (act_atom v) in
    subst P (sym (e ∙ ap (λ v. two v z) en ∙ ap (two (one n)) ez))
    (plain_factor n, refl, plain_well text n (name_at text n k here))
atom_found text x ts (
  y,
  z,
  us,
  vs,
  e,
  _,
  (n, en, _, k, here),
  inr (y', z', us', vs', e', _, (p, ep, _, _, _), (v, w, us'', vs'', e'', _, (f, ef, well), (q, eq, _, _, _))),
) =
    let P : Value → Type 0 = λ v. FactorFound text (act_atom v) in
    subst P (sym (e ∙ ap (λ v. two v z) en ∙ ap (two (one n)) (e' ∙ ap (λ v. two v z') ep ∙ ap (two (one p))
    (e'' ∙ ap (λ v. two v w) ef ∙ ap (two (factor f)) eq))))
    (image_factor n f, refl, image_well text n f (name_at text n k here) well)

pub factor_found : (text : List ℕ) (x : Value) (ts : List Token) → Found text (grammar rules.Factor) x ts
    → FactorFound text (act_factor x)
unfolding grammar
factor_found text x ts (y, z, us, vs, e, _, (f, ef, well), o) =
    let P : Value → Type 0 = λ v. FactorFound text (act_factor v) in
    subst P (sym (e ∙ ap (λ v. two v z) ef)) (
      raised_factor f (option_of z),
      refl,
      raised_well text f (option_of z) (option_found text (kinds.Sign signs.Caret) z vs o) well,
    )

factor_in_found : (text : List ℕ) (v : Value) (us : List Token) → Found text (rule rules.Factor) v us
    → AllByRecursion (IsWellFactor text) (factor_in v)
factor_in_found text v us (f, ef, well) =
    let P : Value → Type 0 = λ v. AllByRecursion (IsWellFactor text) (factor_in v) in subst P (sym ef) (well, tt)

pub factors_found : (text : List ℕ) (x : Value) (ts : List Token) → Found text (grammar rules.Factors) x ts
    → MonoFound text (act_factors x)
unfolding grammar
factors_found text x ts (y, z, us, vs, e, _, (f, ef, well), (xs, ez, each)) =
    let P : Value → Type 0 = λ v. MonoFound text (act_factors v) in
    let more = items_found text signs.Star rules.Factor factor_in (IsWellFactor text) (factor_in_found text) xs vs
    each in
    subst P (sym (e ∙ ap (λ v. two v z) ef ∙ ap (two (factor f)) ez)) (
      mono_of (start_of f) (f ∷ after factor_in (row xs)),
      refl,
      factors_well text (start_of f) (f ∷ after factor_in (row xs)) (well, more),
    )

pub mono_found : (text : List ℕ) (x : Value) (ts : List Token) → Found text (grammar rules.Mono) x ts
    → MonoFound text (act_mono x)
unfolding grammar
mono_found text x ts (inl (n, en, _, _, _)) =
    let P : Value → Type 0 = λ v. MonoFound text (act_mono v) in
    subst P (sym en) (mono_one n.start, refl, factors_well text n.start [] tt)
mono_found text x ts (inr (m, em, well)) =
    let P : Value → Type 0 = λ v. MonoFound text (act_mono v) in subst P (sym em) (m, refl, well)

-- ---- integers

numeral_integer : (t : Token) → IsInRange (number_of t.kind) → IsInteger (numeral_of t)
numeral_integer t h = record { low = omega (arith, ints); high = h.1 }

magnitude_integer : (n : ℤ) → IsInRange n → (neg_ℤ MAX_LITERAL ≤ℤ neg_ℤ (pos (unsigned_abs n)))
    × (neg_ℤ (pos (unsigned_abs n)) ≤ℤ MAX_LITERAL)
magnitude_integer (pos n) h = (omega (arith, ints), omega (arith, ints))
magnitude_integer (negsuc n) h = absurd (omega (arith, ints))

opposite_integer : (minus t : Token) → IsInRange (number_of t.kind) → IsInteger (opposite_of minus t)
opposite_integer minus t h = let both = magnitude_integer (number_of t.kind) h in
    record { low = both.0; high = both.1 }

pub int_found : (text : List ℕ) (x : Value) (ts : List Token) → Found text (grammar rules.Int) x ts
    → RuleFound text rules.Int (act_int x) ts
unfolding grammar
int_found text x ts (inl (y, z, us, vs, e, _, (m, em, _, _, _), h)) =
    let (n, en, range, _, _) = number_at text z vs h in
    let P : Value → Type 0 = λ v. RuleFound text rules.Int (act_int v) ts in
    subst P (sym (e ∙ ap (λ v. two v z) em ∙ ap (two (one m)) en)) (opposite_of m n, refl, opposite_integer m n range)
int_found text x ts (inr h) =
    let (n, en, range, _, _) = number_at text x ts h in
    let P : Value → Type 0 = λ v. RuleFound text rules.Int (act_int v) ts in
    subst P (sym en) (numeral_of n, refl, numeral_integer n range)

-- a numeral in range
pub numeral_well : (t : Token) → IsInRange (number_of t.kind) → IsNumeral (numeral_of t)
numeral_well t h = record { low = h.0; high = h.1 }
