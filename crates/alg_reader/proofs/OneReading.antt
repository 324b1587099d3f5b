-- The tokens of a text from one place are one list, and no fault stands where reading goes on.
use Rattle.std.proofs.Common.{◌≡◌, ◌≢◌, ℕ, List, [], ◌∷◌, ◌++◌, ◌⊎◌, inl, inr, refl, ap, sym, ◌∙◌, subst, append_assoc, Result, Ok, Err}
use Rattle.alg_tokens.specs.declared.token.Token.{Token}
use Rattle.alg_tokens.specs.declared.token.Refusal.{Refusal}
use Rattle.alg_tokens.specs.declared.token.TokenKind.TheVariants as kinds
use Rattle.alg_tokens.specs.Next.{IsNext}
use Rattle.alg_tokens.proofs.Cuttings.{one_next}
use Rattle.alg_reader.specs.declared.place.Place.{Place}
use Rattle.alg_reader.specs.Forms.{Statement, rule}
use Rattle.alg_reader.specs.Grammar.{IsBegun}
use Rattle.alg_reader.specs.Tokens.{TokensTo, open_with, open_after, IsOneTooMany, GoesPast, end_of}
use Rattle.alg_reader.specs.Statements.{FaultBehind}
use Rattle.alg_reader.proofs.Outcomes.{begun_front}

-- ---- tokens from one place

pub token_of : Result Token Refusal → Token → Token
token_of (Ok t) other = t
token_of (Err e) other = other

-- the next token is one
pub one_token : (text : List ℕ) (at : ℕ) (t u : Token) → IsNext text at (Ok t) → IsNext text at (Ok u) → t ≡ u
unfolding token_of
one_token text at t u h k = ap (λ r. token_of r t) (one_next text at (Ok t) (Ok u) h k)

pub no_fault : (text : List ℕ) (at : ℕ) (t : Token) (e : Refusal) → IsNext text at (Ok t) → IsNext text at (Err e) → ⊥
no_fault text at t e h k = let clash = one_next text at (Ok t) (Err e) h k in cc

pub no_end : (text : List ℕ) (at : ℕ) (t : Token) → IsNext text at (Ok t) → t.kind ≢ kinds.End
    → IsNext text at (Ok (end_of text)) → ⊥
no_end text at t h lexeme k = lexeme (ap (λ u. u.kind) (one_token text at t (end_of text) h k))

-- one list of tokens goes on behind the other
abbrev pub GoesOn : List ℕ → List Token → ℕ → List Token → Type 0
GoesOn text ts stop us = (t : Token) × (after : List Token) × (us ≡ ts ++ t ∷ after) × IsNext text stop (Ok t)
    × (t.kind ≢ kinds.End)

abbrev pub Compared : List ℕ → List Token → ℕ → List Token → ℕ → Type 0
Compared text ts stop us stop' = ((ts ≡ us) × (stop ≡ stop')) ⊎ GoesOn text ts stop us ⊎ GoesOn text us stop' ts

compared_more : (text : List ℕ) (t : Token) (ts : List Token) (stop : ℕ) (us : List Token) (stop' : ℕ)
    → Compared text ts stop us stop' → Compared text (t ∷ ts) stop (t ∷ us) stop'
compared_more text t ts stop us stop' (inl (same, place)) = inl (ap (λ xs. t ∷ xs) same, place)
compared_more text t ts stop us stop' (inr (inl (u, after, e, next, lexeme))) =
    inr (inl (u, after, ap (λ xs. t ∷ xs) e, next, lexeme))
compared_more text t ts stop us stop' (inr (inr (u, after, e, next, lexeme))) =
    inr (inr (u, after, ap (λ xs. t ∷ xs) e, next, lexeme))

pub compare : (text : List ℕ) (at stop stop' : ℕ) (ts us : List Token) → TokensTo text at ts stop
    → TokensTo text at us stop' → Compared text ts stop us stop'
compare text at stop stop' [] [] e e' = inl (refl, sym e ∙ e')
compare text at stop stop' [] (u ∷ us) e (next, lexeme, _) = let P : ℕ → Type 0 = λ n. IsNext text n (Ok u) in
    inr (inl (u, us, refl, subst P e next, lexeme))
compare text at stop stop' (t ∷ ts) [] (next, lexeme, _) e = let P : ℕ → Type 0 = λ n. IsNext text n (Ok t) in
    inr (inr (t, ts, refl, subst P e next, lexeme))
compare text at stop stop' (t ∷ ts) (u ∷ us) (next, _, to) (next', _, to') =
    let same = one_token text at t u next next' in
    let P : Token → Type 0 = λ x. TokensTo text x.stop us stop' in
    let Q : Token → Type 0 = λ x. Compared text (t ∷ ts) stop (x ∷ us) stop' in
    subst Q same (compared_more text t ts stop us stop' (compare text t.stop stop stop' ts us to
    (subst P (sym same) to')))

-- ---- no fault stands where reading goes on

pub free_at : (depth : ℕ) (before : List Token) (t : Token) (after : List Token)
    → GoesPast depth (before ++ t ∷ after) → ¬ (IsOneTooMany (open_after depth before) t.kind)
free_at depth [] t after past = past.0
free_at depth (b ∷ before) t after past = free_at (open_with depth b.kind) before t after past.1

pub goes_on_there : (site : Place) (text : List ℕ) (before ts : List Token) (t : Token)
    (after : List Token) (stop : ℕ) (fault : Refusal)
    → ts ≡ before ++ t ∷ after → IsNext text stop (Ok t) → t.kind ≢ kinds.End → GoesPast 0 ts
    → IsBegun (rule (Statement site)) ts → FaultBehind site text before stop fault → ⊥
goes_on_there site text before ts t after stop fault same next lexeme past begun (inl other) =
    no_fault text stop t fault next other
goes_on_there site text before ts t after stop fault same next lexeme past begun (inr (inl (ends, _, _))) =
    no_end text stop t next lexeme ends
goes_on_there site text before ts t after stop fault same next lexeme past begun
    (inr (inr (u, other, _, inl (_, stuck)))) =
    let one = one_token text stop t u next other in
    let whole : ts ≡ (before ++ t ∷ []) ++ after = same ∙ sym (append_assoc before (t ∷ []) after) in
    let here = begun_front (rule (Statement site)) (before ++ t ∷ []) after
    (subst (IsBegun (rule (Statement site))) whole begun) in
    let P : Token → Type 0 = λ x. IsBegun (rule (Statement site)) (before ++ x ∷ []) in
    stuck (subst P one here)
goes_on_there site text before ts t after stop fault same next lexeme past begun
    (inr (inr (u, other, _, inr ((stops, _), _)))) =
    let one = one_token text stop t u next other in
    let P : Token → Type 0 = λ x. IsOneTooMany (open_after 0 before) x.kind in
    free_at 0 before t after (subst (GoesPast 0) same past) (subst P (sym one) stops)
