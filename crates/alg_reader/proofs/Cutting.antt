-- One token more, and where the cutting of a statement stops.
use Rattle.std.proofs.Common.{◌≡◌, ◌≢◌, ◌≤◌, ◌<◌, ℕ, ◌+◌, List, [], ◌∷◌, ◌++◌, inl, inr, length, refl, ap, sym, ◌∙◌, subst, arith, Ok}
use Rattle.std.proofs.lemmas.Bool.Decides.{nat_tests}
use Rattle.alg_tokens.specs.declared.token.Token.{Token}
use Rattle.alg_tokens.specs.declared.token.TokenKind.{TokenKind}
use Rattle.alg_tokens.specs.declared.token.TokenKind.TheVariants as kinds
use Rattle.alg_tokens.specs.declared.token.Sign.{Sign}
use Rattle.alg_tokens.specs.declared.token.Sign.TheVariants as signs
use Rattle.alg_tokens.specs.Pieces.{Spells}
use Rattle.alg_tokens.specs.Next.{IsNext}
use Rattle.alg_terms.specs.Limits.{MAX_OPEN}
use Rattle.alg_reader.specs.Tokens.{TokensTo, open_with, open_after, IsOneTooMany, GoesPast, HasNoDot, Reaches}

pub tokens_more : (text : List ℕ) (at stop : ℕ) (tokens : List Token) (t : Token) → TokensTo text at tokens stop
    → IsNext text stop (Ok t) → t.kind ≢ kinds.End → TokensTo text at (tokens ++ t ∷ []) t.stop
tokens_more text at stop [] t e next lexeme = let P : ℕ → Type 0 = λ n. IsNext text n (Ok t) in
    (subst P (sym e) next, lexeme, refl)
tokens_more text at stop (u ∷ tokens) t (first, is, rest) next lexeme = (
  first,
  is,
  tokens_more text u.stop stop tokens t rest next lexeme,
)

pub past_more : (depth : ℕ) (tokens : List Token) (t : Token) → GoesPast depth tokens
    → ¬ (IsOneTooMany (open_after depth tokens) t.kind) → GoesPast depth (tokens ++ t ∷ [])
past_more depth [] t past free = (free, tt)
past_more depth (u ∷ tokens) t (first, past) free =
    (first, past_more (open_with depth u.kind) tokens t past free)

no_dot_more : (tokens : List Token) (t : Token) → HasNoDot tokens → t.kind ≢ kinds.Sign signs.Dot
    → HasNoDot (tokens ++ t ∷ [])
no_dot_more [] t none other = (other, tt)
no_dot_more (u ∷ tokens) t (first, none) other = (first, no_dot_more tokens t none other)

pub open_more : (depth : ℕ) (tokens : List Token) (t : Token)
    → open_after depth (tokens ++ t ∷ []) ≡ open_with (open_after depth tokens) t.kind
open_more depth [] t = refl
open_more depth (u ∷ tokens) t = open_more (open_with depth u.kind) tokens t

pub reaches_more : (text : List ℕ) (at stop : ℕ) (tokens : List Token) (t : Token) → Reaches text at tokens stop
    → IsNext text stop (Ok t) → t.kind ≢ kinds.End → t.kind ≢ kinds.Sign signs.Dot
    → ¬ (IsOneTooMany (open_after 0 tokens) t.kind) → Reaches text at (tokens ++ t ∷ []) t.stop
reaches_more text at stop tokens t (to, past, none) next lexeme other free = (
  tokens_more text at stop tokens t to next lexeme,
  past_more 0 tokens t past free,
  no_dot_more tokens t none other,
)

-- each token but the end moves on
pub moves : (text : List ℕ) (at : ℕ) (t : Token) → IsNext text at (Ok t) → t.kind ≢ kinds.End
    → (at < t.stop) × (t.stop ≤ length text)
moves text at t (blanks, inl (end, _, _), small) lexeme = absurd (lexeme end)
moves text at t ((past, within, blanks), inr (some, short, first), small) lexeme = (omega arith, short)

-- one more may be open where not as many are as may be
room : (depth : ℕ) → ¬ (MAX_OPEN ≤ depth) → depth + 1 ≤ MAX_OPEN
room depth free = grind (arith, nat_tests)

few_after : (depth : ℕ) (sign : Sign) → ¬ (IsOneTooMany depth (kinds.Sign sign)) → depth ≤ MAX_OPEN
    → open_with depth (kinds.Sign sign) ≤ MAX_OPEN
few_after depth sign = elim sign as
    (λ s. ¬ (IsOneTooMany depth (kinds.Sign s)) → depth ≤ MAX_OPEN → open_with depth (kinds.Sign s) ≤ MAX_OPEN) [
      | signs.ParenLeft ↦ λ free few. room depth (λ most. free (refl, most))
      | signs.ParenRight ↦ λ free few. omega arith
      | signs.Dot ↦ λ free few. few
      | _ ↦ λ free few. few
    ]

-- past a token at which reading doesn't stop, few enough are open
pub still_few : (depth : ℕ) (kind : TokenKind) → ¬ (IsOneTooMany depth kind) → depth ≤ MAX_OPEN
    → open_with depth kind ≤ MAX_OPEN
still_few depth kinds.Name free few = few
still_few depth (kinds.Number value) free few = few
still_few depth (kinds.Word word) free few = few
still_few depth kinds.End free few = few
still_few depth (kinds.Sign sign) free few = few_after depth sign free few

-- the end of the text, as the next token
pub end_token : (text : List ℕ) (at : ℕ) (t : Token) → IsNext text at (Ok t) → t.kind ≡ kinds.End
    → t ≡ record { kind = kinds.End; start = length text; stop = length text }
end_token text at t (blanks, inl (end, start, stop), small) is =
    ap (λ x. record { kind = x; start = t.start; stop = t.stop }) end
    ∙ ap (λ x. record { kind = kinds.End; start = x; stop = t.stop }) start
    ∙ ap (λ x. record { kind = kinds.End; start = length text; stop = x }) stop
end_token text at t (blanks, inr (some, short, (bytes, first)), small) is = absurd (let P : TokenKind
    → Type 0 = λ k. Spells k bytes in subst P is first.begins.0)
