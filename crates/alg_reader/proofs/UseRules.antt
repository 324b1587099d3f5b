-- What the rules of uses and of the options of nsatz make of what their parts mean.
use Rattle.std.proofs.Common.{◌≡◌, ℕ, inl, inr, List, [], ◌∷◌, ◌++◌, ◌≤◌, length, length-append, ap, sym, ◌∙◌, subst, arith}
use Rattle.std.specs.List.{AllByRecursion}
use Rattle.alg_tokens.specs.declared.token.Token.{Token}
use Rattle.alg_tokens.specs.declared.token.Sign.TheVariants as signs
use Rattle.alg_tokens.specs.declared.token.TokenKind.{TokenKind}
use Rattle.alg_tokens.specs.declared.token.TokenKind.TheVariants as kinds
use Rattle.alg_tokens.specs.declared.token.Word.TheVariants as words
use Rattle.alg_reader.specs.declared.raw.RawUse.{RawUse}
use Rattle.alg_reader.specs.declared.raw.RawMethod.{RawMethod}
use Rattle.alg_reader.specs.Forms as rules
use Rattle.alg_reader.specs.Forms.{seq, opt, rule}
use Rattle.alg_reader.specs.Grammar.{name, sign, inside, option, using, options}
use Rattle.alg_reader.specs.TermMeaning.{Value}
use Rattle.alg_reader.specs.RawNodes.{span_of}
use Rattle.alg_reader.specs.PartMeaning.{act_use, under, uses_after, uses_of, option_of, nsatz_of}
use Rattle.alg_reader.specs.TermMeaning.{one, two, used}
use Rattle.alg_reader.specs.WellRead.{IsNameAt, IsOption, IsWellUse, IsWellMethod, uses_in}
use Rattle.alg_reader.proofs.Nodes.{name_at, number_at}
use Rattle.alg_reader.proofs.Found.{all_of, all_cons, row, EachOf, Found}

-- a first token is there
some_token : (n : Token) (us vs ts : List Token) → ts ≡ us ++ vs → us ≡ n ∷ [] → 1 ≤ length ts
some_token n us vs ts s is = let long = ap length (s ∙ ap (λ r. r ++ vs) is) in omega arith

pub use_found : (text : List ℕ) (x : Value) (ts : List Token)
    → Found text (seq name (opt (inside (rule rules.Use)))) x ts
    → (u : RawUse) × (act_use x ≡ used u) × IsWellUse text u × (1 ≤ length ts)
use_found text x ts (y, z, us, vs, e, s, (n, en, sn, k, here), inl (ez, _)) = (
  record { path = []; hyp = span_of n },
  ap act_use (e ∙ ap (λ v. two v z) en ∙ ap (two (one n)) ez),
  record { path = λ i d h. absurd (omega arith); hyp = name_at text n k here },
  some_token n us vs ts s sn,
)
use_found text x ts (
  y,
  z,
  us,
  vs,
  e,
  s,
  (n, en, sn, k, here),
  inr (
    y',
    z',
    us',
    vs',
    e',
    _,
    (p, ep, _, _, _),
    (v, w, us'', vs'', e'', _, (u, eu, f, _), (q, eq, _, _, _)),
  ),
) = (
  under (span_of n) u,
  ap act_use (e ∙ ap (λ v. two v z) en ∙ ap (two (one n)) (e' ∙ ap (λ v. two v z') ep
      ∙ ap (two (one p)) (e'' ∙ ap (λ v. two v w) eu ∙ ap (two (used u)) eq))),
  record { path = all_cons (IsNameAt text) (span_of n) u.path (name_at text n k here) f.path; hyp = f.hyp },
  some_token n us vs ts s sn,
)

-- uses that were found among tokens, of which each takes one at least
abbrev UsesFound : List ℕ → List RawUse → List Token → Type 0
UsesFound text uses ts = AllByRecursion (IsWellUse text) uses × (length uses ≤ length ts)

more_found : (text : List ℕ) (xs : List Value) (ts : List Token) → EachOf (λ y us. Found text (seq (sign signs.Comma)
    (rule rules.Use)) y us) xs ts → UsesFound text (uses_after (row xs)) ts
unfolding row uses_after
more_found text [] ts each = (tt, omega arith)
more_found text (x ∷ xs) ts (us, vs, s, (y, z, us', vs', e, s', (c, ec, _, _, _), (u, eu, f, some)), each) =
    let P : Value → Type 0 = λ v. UsesFound text (uses_after (two v (row xs))) ts in
    let (rest, fewer) = more_found text xs vs each in
    let whole = ap length s ∙ length-append us vs in
    let here = ap length s' ∙ length-append us' vs' in
    subst P (sym (e ∙ ap (λ v. two v z) ec ∙ ap (two (one c)) eu)) ((f, rest), omega arith)

using_found : (text : List ℕ) (x : Value) (ts : List Token) → Found text using x ts → UsesFound text (uses_of x) ts
using_found text x ts (inl (e, _)) = let P : Value → Type 0 = λ v. UsesFound text (uses_of v) ts in
    subst P (sym e) (tt, omega arith)
using_found text x ts (inr (
  y,
  z,
  us,
  vs,
  e,
  s,
  (w, ew, _, _, _),
  (
    v,
    r,
    us',
    vs',
    e',
    s',
    (u, eu, f, some),
    (xs, er, each),
  ),
)) =
    let P : Value → Type 0 = λ v. UsesFound text (uses_of v) ts in
    let (rest, fewer) = more_found text xs vs' each in
    let whole = ap length s ∙ length-append us vs in
    let here = ap length s' ∙ length-append us' vs' in
    subst P (sym (e ∙ ap (λ v. two v z) ew ∙ ap (two (one w)) (e' ∙ ap (λ v. two v r) eu ∙ ap (two (used u)) er)))
    ((f, rest), omega arith)

pub option_found : (text : List ℕ) (k : TokenKind) (x : Value) (ts : List Token) → Found text (option k) x ts
    → IsOption (option_of x)
option_found text k x ts (inl (e, _)) = let P : Value → Type 0 = λ v. IsOption (option_of v) in subst P (sym e) tt
option_found text k x ts (inr (y, z, us, vs, e, _, (o, eo, _, _, _), h)) =
    let (n, en, range, _, _) = number_at text z vs h in
    let P : Value → Type 0 = λ v. IsOption (option_of v) in
    subst P (sym (e ∙ ap (λ v. two v z) eo ∙ ap (two (one o)) en)) (record { low = range.0; high = range.1 })

-- nsatz with its options, which are well read and have few uses
abbrev pub OptionsFound : List ℕ → RawMethod → List Token → Type 0
OptionsFound text m ts = IsWellMethod text m × (uses_in m ≤ length ts)

pub options_found : (text : List ℕ) (x : Value) (ts : List Token) → Found text options x ts
    → OptionsFound text (nsatz_of x) ts
options_found text x ts (y, z, us, vs, e, s, h, (v, w, us', vs', e', _, k, l)) =
    let P : Value → Type 0 = λ v. OptionsFound text (nsatz_of v) ts in
    let (all, fewer) = using_found text y us h in
    let whole = ap length s ∙ length-append us vs in
    let few : length (uses_of y) ≤ length ts = omega arith in
    subst P (sym (e ∙ ap (two y) e')) (
      (
        all_of (IsWellUse text) (uses_of y) all,
        option_found text (kinds.Word words.Power) v us' k,
        option_found text (kinds.Word words.Limit) w vs' l,
      ),
      few,
    )
