-- From the tokens of a statement and where the grammar is stuck to the first fault of the text.
use Rattle.std.proofs.Common.{◌≡◌, ◌≢◌, ℕ, List, [], ◌∷◌, ◌++◌, ◌⊎◌, inl, inr, refl, ap, sym, ◌∙◌, subst, append_assoc, append-nil, Err}
use Rattle.alg_tokens.specs.declared.code.Code.TheVariants as code
use Rattle.alg_tokens.specs.declared.token.Token.{Token}
use Rattle.alg_tokens.specs.declared.token.Refusal.{Refusal}
use Rattle.alg_tokens.specs.declared.token.TokenKind.{TokenKind}
use Rattle.alg_tokens.specs.declared.token.TokenKind.TheVariants as kinds
use Rattle.alg_tokens.specs.declared.token.Sign.TheVariants as signs
use Rattle.alg_tokens.specs.Codes.{code_number, fault_at}
use Rattle.alg_reader.specs.Forms.{Statement, rule, spelled}
use Rattle.alg_reader.specs.Grammar.{IsBegun}
use Rattle.alg_reader.specs.Reading.{IsStuckAt}
use Rattle.alg_reader.specs.Ahead.{rule_goes_on}
use Rattle.alg_reader.specs.Tokens.{refusal, refusal_of, TokensTo, GoesPast, HasNoDot, IsStatementCut}
use Rattle.alg_reader.specs.declared.place.Place.{Place}
use Rattle.alg_reader.specs.declared.reading.FileEnd.TheVariants.{Refused}
use Rattle.alg_reader.specs.Statements.{IsRead}
use Rattle.alg_reader.proofs.Cutting.{tokens_more}
use Rattle.alg_reader.proofs.Places.{split_end, split_token, tokens_split, past_split, dot_split, prefix_of, statement_dot}
use Rattle.alg_reader.proofs.Outcomes.{begun_front, first_dot, stuck_there}

end_or_not : (kind : TokenKind) → (kind ≡ kinds.End) ⊎ (kind ≢ kinds.End)
end_or_not kinds.End = inl refl
end_or_not kinds.Name = inr (λ h. cc)
end_or_not (kinds.Word word) = inr (λ h. cc)
end_or_not (kinds.Number value) = inr (λ h. cc)
end_or_not (kinds.Sign sign) = inr (λ h. cc)

refusal_at_end : (t : Token) (fault : Refusal) → t.kind ≡ kinds.End → refusal t fault ≡ fault
refusal_at_end t fault is = let P : TokenKind → Type 0 = λ k. refusal_of k t.start fault ≡ fault in
    subst P (sym is) refl

refusal_of_kind : (kind : TokenKind) (at : ℕ) (fault : Refusal) → kind ≢ kinds.End
    → refusal_of kind at fault ≡ fault_at code.Syntax at
refusal_of_kind kinds.End at fault other = absurd (other refl)
refusal_of_kind kinds.Name at fault other = refl
refusal_of_kind (kinds.Word word) at fault other = refl
refusal_of_kind (kinds.Number value) at fault other = refl
refusal_of_kind (kinds.Sign sign) at fault other = refl

-- stuck at a token of the statement
stuck_token : (site : Place) (text : List ℕ) (at stop : ℕ) (ts seen after : List Token) (t : Token)
    (fault : Refusal)
    → TokensTo text at ts stop → GoesPast 0 seen → HasNoDot seen → ts ≡ seen ++ t ∷ after
    → IsBegun (rule (Statement site)) seen → (IsBegun (rule (Statement site)) (seen ++ t ∷ []) → ⊥) → t.kind ≢ kinds.End
    → IsRead site text at (Err (Refused (refusal t fault)))
unfolding IsRead
stuck_token site text at stop ts seen after t fault to past clear same begun stuck lexeme =
    let P : List Token → Type 0 = λ us. TokensTo text at us stop in
    let (mid, front, next, _) = tokens_split text at stop seen after t (subst P same to) in
    let Q : Refusal → Type 0 = λ r. IsRead site text at (Err (Refused r)) in
    subst Q (sym (refusal_of_kind t.kind t.start fault lexeme))
    (seen, mid, (front, past, clear), begun, inr (inr (t, next, lexeme, inl (refl, stuck))))

-- a token among all of them
stuck_inside : (site : Place) (text : List ℕ) (at : ℕ) (ts seen rest : List Token) (e t : Token)
    (fault : Refusal)
    → e.kind ≡ kinds.End → IsStatementCut text at ts fault
    → ts ++ e ∷ [] ≡ seen ++ t ∷ rest → IsBegun (rule (Statement site)) seen
    → (IsBegun (rule (Statement site)) (seen ++ t ∷ []) → ⊥) → t.kind ≢ kinds.End
    → IsRead site text at (Err (Refused (refusal t fault)))
stuck_inside site text at ts seen rest e t fault is (inl (mid, (to, past, clear), _)) cut begun stuck lexeme =
    let (after, same) = split_token ts seen rest e t is lexeme cut in
    stuck_token site text at mid ts seen after t fault to (past_split 0 seen (t ∷ after) (subst
    (GoesPast 0) same past)) (dot_split seen (t ∷ after)
    (subst HasNoDot same clear)) same begun stuck lexeme
stuck_inside site text at ts seen rest e t fault is
    (inr (inl (mid, (to, past, clear), _, _))) cut begun stuck lexeme =
    let (after, same) = split_token ts seen rest e t is lexeme cut in
    stuck_token site text at mid ts seen after t fault to (past_split 0 seen (t ∷ after) (subst
    (GoesPast 0) same past)) (dot_split seen (t ∷ after)
    (subst HasNoDot same clear)) same begun stuck lexeme
stuck_inside site text at ts seen rest e t fault is (inr (inr (
  before,
  last,
  mid,
  split,
  (to, past, clear),
  next,
  here,
  _,
))) cut begun stuck lexeme =
    let (after, same) = split_token ts seen rest e t is lexeme cut in
    let (tail, front) = prefix_of before seen after last t (sym split ∙ same) in
    let P : List Token → Type 0 = λ us. TokensTo text at us last.stop in
    stuck_token site text at last.stop ts seen after t fault (subst P (sym split)
    (tokens_more text at mid before last to next here))
    (past_split 0 seen tail (subst (GoesPast 0) front past)) (dot_split seen tail
    (subst HasNoDot front clear)) same begun stuck lexeme

-- stuck behind a dot: the tokens are a statement
never_behind_dot : (site : Place) (before us rest : List Token) (last t : Token)
    (p : IsStuckAt (rule (Statement site)) us (t ∷ rest))
    → p.seen ≡ before ++ last ∷ [] → HasNoDot before
    → last.kind ≡ kinds.Sign signs.Dot → t.kind ≡ kinds.End → ⊥
unfolding rule_goes_on
never_behind_dot site before us rest last t p all clear dot is =
    let (v, later, fits, e) = p.begun in
    let (front, d, spell, so, none_before) = statement_dot site v fits in
    let long : before ++ last ∷ later ≡ front ++ d ∷ [] = sym (append_assoc before (last ∷ []) later)
    ∙ ap (λ us. us ++ later) (sym all) ∙ sym e ∙ spell in
    let (_, _, nothing_left) = first_dot before front later [] last d clear none_before dot so long in
    let whole : spelled v ≡ p.seen = e ∙ ap (λ us. p.seen ++ us) nothing_left ∙ append-nil p.seen in
    p.stuck v (t ∷ rest) (t ∷ rest) (t, rest, rest, refl, refl) fits refl (ap (λ us. us ++ t ∷ rest) whole)

-- stuck behind all tokens
stuck_behind : (site : Place) (text : List ℕ) (at : ℕ) (ts us rest : List Token) (t : Token)
    (fault : Refusal)
    → IsStatementCut text at ts fault → (p : IsStuckAt (rule (Statement site)) us (t ∷ rest))
    → p.seen ≡ ts → t.kind ≡ kinds.End → (ts ≡ [] → fault.code ≡ code_number code.End → ⊥) →
    IsRead site text at (Err (Refused fault))
unfolding IsRead
stuck_behind site text at ts us rest t fault (inl (mid, reaches, next)) p all is inside = (
  ts,
  mid,
  reaches,
  subst (IsBegun (rule (Statement site))) all p.begun,
  inl next,
)
stuck_behind site text at ts us rest t fault (inr (inl (mid, reaches, next, five))) p all is inside = (
  ts,
  mid,
  reaches,
  subst (IsBegun (rule (Statement site))) all p.begun,
  inr (inl (
    next,
    λ empty. inside empty (ap (λ r. r.code) five),
    five,
  )),
)
stuck_behind site text at ts us rest t fault (inr (inr (
  before,
  last,
  mid,
  split,
  reaches,
  next,
  lexeme,
  inl dot,
))) p all is inside =
    absurd (never_behind_dot site before us rest last t p (all ∙ split) reaches.2 dot is)
stuck_behind site text at ts us rest t fault (inr (inr (
  before,
  last,
  mid,
  split,
  reaches,
  next,
  lexeme,
  inr stops,
))) p all is inside =
    let begun : IsBegun (rule (Statement site)) (before ++ last ∷ []) = subst (IsBegun (rule (Statement site))) (all
    ∙ split) p.begun in (
      before,
      mid,
      reaches,
      begun_front (rule (Statement site)) before (last ∷ []) begun,
      inr (inr (
        last,
        next,
        lexeme,
        inr (stops, begun),
      )),
    )

cut_tokens : (text : List ℕ) (at : ℕ) (ts : List Token) (fault : Refusal) →
    IsStatementCut text at ts fault
    → (stop : ℕ) × TokensTo text at ts stop
cut_tokens text at ts fault (inl (mid, (to, _, _), _)) = (mid, to)
cut_tokens text at ts fault (inr (inl (mid, (to, _, _), _, _))) = (mid, to)
cut_tokens text at ts fault (inr (inr (before, last, mid, split, (to, _, _), next, lexeme, _))) =
    let P : List Token → Type 0 = λ us. TokensTo text at us last.stop in
    (last.stop, subst P (sym split) (tokens_more text at mid before last to next lexeme))

pub read_refused : (site : Place) (text : List ℕ) (at : ℕ) (ts rest : List Token) (e t : Token)
    (fault : Refusal)
    → e.kind ≡ kinds.End → IsStatementCut text at ts fault
    → (ts ≡ [] → fault.code ≡ code_number code.End → ⊥) → IsStuckAt (rule (Statement site)) (ts ++ e ∷ []) (t ∷ rest)
    → IsRead site text at (Err (Refused (refusal t fault)))
read_refused site text at ts rest e t fault is cut inside p = elim (end_or_not t.kind) [
  | inr lexeme ↦ stuck_inside site text at ts p.seen rest e t fault is cut p.cut p.begun (stuck_there site
      (ts ++ e ∷ []) rest t p) lexeme
  | inl ended ↦
      let (mid, to) = cut_tokens text at ts fault cut in
      let (all, _) = split_end text at mid ts p.seen rest e t to ended p.cut in
      let Q : Refusal → Type 0 = λ r. IsRead site text at (Err (Refused r)) in
      subst Q (sym (refusal_at_end t fault ended)) (stuck_behind site text at ts
      (ts ++ e ∷ []) rest t fault cut p all ended inside)
]
