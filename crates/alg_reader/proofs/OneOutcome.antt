-- At each place of a text there is at most one statement, end or first fault.
use Rattle.std.proofs.Common.{◌≡◌, ℕ, List, [], ◌∷◌, ◌++◌, inl, inr, length, refl, ap, sym, ◌∙◌, subst, arith, append_assoc, append-nil, Result, Ok, Err}
use Rattle.alg_tokens.specs.declared.token.Token.{Token}
use Rattle.alg_tokens.specs.declared.token.Refusal.{Refusal}
use Rattle.alg_tokens.specs.Next.{IsNext}
use Rattle.alg_tokens.proofs.Cuttings.{one_next}
use Rattle.alg_reader.specs.declared.raw.RawKind.{RawKind}
use Rattle.alg_reader.specs.declared.place.Place.{Place}
use Rattle.alg_reader.specs.declared.reading.Raw.{Raw}
use Rattle.alg_reader.specs.declared.reading.FileEnd.TheVariants.{Refused, NoMemory}
use Rattle.alg_reader.specs.Forms.{Statement, rule, Tree, spelled}
use Rattle.alg_reader.specs.Grammar.{Fits}
use Rattle.alg_reader.specs.Meaning.{value}
use Rattle.alg_reader.specs.TooDeep.{kept_kind, first_of_statement}
use Rattle.alg_reader.specs.Tokens.{HasNoDot, end_of}
use Rattle.alg_reader.specs.Statements.{IsStatement, IsEnd, StandsAt, EndsReading, FaultBehind, IsRead}
use Rattle.alg_reader.specs.Laws.{OneOutcome}
use Rattle.alg_reader.proofs.Places.{statement_dot}
use Rattle.alg_reader.proofs.Outcomes.{dot_in, first_dot}
use Rattle.alg_reader.proofs.Unique.{one_tree}
use Rattle.alg_reader.proofs.WellRead.{one_kind}
use Rattle.alg_reader.proofs.OneReading.{compare, goes_on_there, no_end, no_fault, one_token}

-- ---- two statements

-- a statement is no front of another
no_front : (site : Place) (v w : Tree) (t : Token) (after : List Token) → Fits (rule (Statement site)) v
    → Fits (rule (Statement site)) w
    → spelled w ≡ spelled v ++ t ∷ after → ⊥
no_front site v w t after h k e =
    let (front, d, s, dot, clear) = statement_dot site v h in
    let (front', d', s', dot', clear') = statement_dot site w k in
    let whole : front ++ d ∷ (t ∷ after) ≡ front' ++ d' ∷ [] =
    sym (append_assoc front (d ∷ []) (t ∷ after)) ∙ ap (λ xs. xs ++ t ∷ after) (sym s) ∙ sym e ∙ s' in
    let (_, _, nothing_left) = first_dot front front' (t ∷ after) [] d d' clear clear' dot dot' whole in
    let long = ap length nothing_left in
    absurd (omega arith)

same_raw : (raw other : Raw) → raw.kind ≡ other.kind → raw.start ≡ other.start → raw.stop ≡ other.stop
    → raw.too_deep ≡ other.too_deep → raw ≡ other
same_raw raw other k s e d =
    ap (λ x. record { kind = x; start = raw.start; stop = raw.stop; too_deep = raw.too_deep }) k
    ∙ ap (λ x. record { kind = other.kind; start = x; stop = raw.stop; too_deep = raw.too_deep }) s
    ∙ ap (λ x. record { kind = other.kind; start = other.start; stop = x; too_deep = raw.too_deep }) e
    ∙ ap (λ x. record { kind = other.kind; start = other.start; stop = other.stop; too_deep = x }) d

first_or : List Token → Token → Token
first_or [] t = t
first_or (u ∷ us) t = u

one_first : (t u : Token) (ts us : List Token) → t ∷ ts ≡ u ∷ us → t ≡ u
unfolding first_or
one_first t u ts us e = ap (λ xs. first_or xs t) e

-- two statements of the same tokens
one_meaning : (site : Place) (ts us : List Token) (kind other : RawKind) → ts ≡ us → IsStatement site ts kind →
    IsStatement site us other
    → kind ≡ other
one_meaning site ts us kind other e (v, h, s, m) (w, k, s', m') =
    let tree = one_tree (Statement site) v w h k (s ∙ e ∙ sym s') in
    one_kind kind other (sym m ∙ ap value tree ∙ m')

one_statement : (site : Place) (text : List ℕ) (at : ℕ) (raw other : Raw) →
    StandsAt site text at raw → StandsAt site text at other → raw ≡ other
one_statement site text at raw other (t, ts, to, past, start, (kind, (v, h, s, m), (keeps, deep)))
    (u, us, to', past', start', (kind', (w, k, s', m'), (keeps', deep'))) =
    elim (compare text at raw.stop other.stop (t ∷ ts) (u ∷ us) to to') [
      | inl (same, place) ↦
          let one = one_meaning site (t ∷ ts) (u ∷ us) kind kind' same (v, h, s, m) (w, k, s', m') in
          same_raw raw other (keeps ∙ ap kept_kind one ∙ sym keeps')
          (start ∙ ap (λ x. x.start) (one_first t u ts us same) ∙ sym start') place
          (deep ∙ ap first_of_statement one ∙ sym deep')
      | inr (inl (x, after, e, _, _)) ↦ absurd (no_front site v w x after h k
          (s' ∙ e ∙ ap (λ xs. xs ++ x ∷ after) (sym s)))
      | inr (inr (x, after, e, _, _)) ↦ absurd (no_front site w v x after k h
          (s ∙ e ∙ ap (λ xs. xs ++ x ∷ after) (sym s')))
    ]

-- ---- a statement or the end, and a fault

-- where a statement stands is no fault
statement_no_fault : (site : Place) (text : List ℕ) (at : ℕ) (raw : Raw) (fault : Refusal) →
    StandsAt site text at raw
    → IsRead site text at (Err (Refused fault)) → ⊥
unfolding IsRead
statement_no_fault site text at raw fault (t, ts, to, past, _, (kind, (v, h, s, _), _)) (
  before,
  stop,
  (to', _, clear),
  _,
  behind,
) =
    let (front, d, spells, dot, _) = statement_dot site v h in
    let whole : t ∷ ts ≡ front ++ d ∷ [] = sym s ∙ spells in
    elim (compare text at raw.stop stop (t ∷ ts) before to to') [
      | inl (same, _) ↦ dot_in front [] d dot (subst HasNoDot (sym same ∙ whole) clear)
      | inr (inl (x, after, e, _, _)) ↦ dot_in front (x ∷ after) d dot (subst HasNoDot (e ∙ ap (λ xs. xs ++ x ∷ after)
          whole ∙ append_assoc front (d ∷ []) (x ∷ after)) clear)
      | inr (inr (x, after, e, next, lexeme)) ↦
          goes_on_there site text before (t ∷ ts) x after stop fault e next lexeme past (
            v,
            [],
            h,
            s ∙ sym (append-nil
                (t ∷ ts)),
          ) behind
    ]

end_no_statement : (site : Place) (text : List ℕ) (at : ℕ) (raw other : Raw) → IsEnd text at raw →
    StandsAt site text at other → ⊥
end_no_statement site text at raw other (ends, _) (t, ts, (next, lexeme, _), _, _, _) =
    no_end text at t next lexeme ends

end_no_fault : (site : Place) (text : List ℕ) (at : ℕ) (raw : Raw) (fault : Refusal) →
    IsEnd text at raw
    → IsRead site text at (Err (Refused fault)) → ⊥
unfolding IsRead
end_no_fault site text at raw fault (ends, _) ((t ∷ before), stop, ((next, lexeme, _), _, _), _, _) =
    no_end text at t next lexeme ends
end_no_fault site text at raw fault (ends, _) ([], stop, (here, _, _), _, inl other) =
    let P : ℕ → Type 0 = λ n. IsNext text n (Err fault) in no_fault text at (end_of text) fault ends (subst P
    (sym here) other)
end_no_fault site text at raw fault (ends, _) ([], stop, (here, _, _), _, inr (inl (_, some, _))) = some refl
end_no_fault site text at raw fault (ends, _) ([], stop, (here, _, _), _, inr (inr (t, next, lexeme, _))) =
    let P : ℕ → Type 0 = λ n. IsNext text n (Ok t) in no_end text at t (subst P (sym here) next) lexeme ends

-- ---- two faults

fault_of : Result Token Refusal → Refusal → Refusal
fault_of (Ok t) other = other
fault_of (Err e) other = e

one_refusal : (text : List ℕ) (at : ℕ) (one other : Refusal) → IsNext text at (Err one) → IsNext text at (Err other)
    → one ≡ other
unfolding fault_of
one_refusal text at one other h k = ap (λ r. fault_of r one) (one_next text at (Err one) (Err other) h k)

-- one token ends reading with one fault
one_ending : (site : Place) (before : List Token) (t : Token) (one other : Refusal)
    → EndsReading site before t one → EndsReading site before t other → one ≡ other
one_ending site before t one other (inl (is, _)) (inl (is', _)) = is ∙ sym is'
one_ending site before t one other (inl (_, stuck)) (inr (_, begun)) = absurd (stuck begun)
one_ending site before t one other (inr (_, begun)) (inl (_, stuck)) = absurd (stuck begun)
one_ending site before t one other (inr ((_, is), _)) (inr ((_, is'), _)) = is ∙ sym is'

one_fault : (site : Place) (text : List ℕ) (before : List Token) (stop : ℕ) (one other : Refusal)
    → FaultBehind site text before stop one → FaultBehind site text before stop other → one ≡ other
one_fault site text before stop one other (inl h) (inl k) = one_refusal text stop one other h k
one_fault site text before stop one other (inl h) (inr (inl (k, _, _))) =
    absurd (no_fault text stop (end_of text) one k h)
one_fault site text before stop one other (inl h) (inr (inr (t, k, _, _))) =
    absurd (no_fault text stop t one k h)
one_fault site text before stop one other (inr (inl (h, _, _))) (inl k) =
    absurd (no_fault text stop (end_of text) other h k)
one_fault site text before stop one other (inr (inl (_, _, e))) (inr (inl (_, _, e'))) = e ∙ sym e'
one_fault site text before stop one other (inr (inl (h, _, _))) (inr (inr (t, k, lexeme, _))) =
    absurd (no_end text stop t k lexeme h)
one_fault site text before stop one other (inr (inr (t, h, _, _))) (inl k) =
    absurd (no_fault text stop t other h k)
one_fault site text before stop one other (inr (inr (t, h, lexeme, _))) (inr (inl (k, _, _))) =
    absurd (no_end text stop t h lexeme k)
one_fault site text before stop one other (inr (inr (t, h, _, ends))) (inr (inr (u, k, _, ends'))) =
    let same = one_token text stop t u h k in
    let P : Token → Type 0 = λ x. EndsReading site before x other in
    one_ending site before t one other ends (subst P (sym same) ends')

two_faults : (site : Place) (text : List ℕ) (at : ℕ) (one other : Refusal) →
    IsRead site text at (Err (Refused one))
    → IsRead site text at (Err (Refused other)) → one ≡ other
unfolding IsRead
two_faults site text at one other (before, stop, (to, past, _), begun, behind) (
  before',
  stop',
  (to', past', _),
  begun',
  behind',
) =
    elim (compare text at stop stop' before before' to to') [
      | inl (same, place) ↦
          let P : List Token → Type 0 = λ xs. FaultBehind site text xs stop' other in
          let Q : ℕ → Type 0 = λ n. FaultBehind site text before n other in
          one_fault site text before stop one other behind (subst Q (sym place) (subst P (sym same) behind'))
      | inr (inl (t, after, e, next, lexeme)) ↦
          absurd (goes_on_there site text before before' t after stop one e next lexeme past' begun' behind)
      | inr (inr (t, after, e, next, lexeme)) ↦
          absurd (goes_on_there site text before' before t after stop' other e next lexeme past begun behind')
    ]

-- ---- one outcome

two_statements : (site : Place) (text : List ℕ) (at : ℕ) (one other : Raw) →
    IsRead site text at (Ok one) → IsRead site text at (Ok other)
    → one ≡ other
unfolding IsRead
two_statements site text at one other (inl (_, e)) (inl (_, e')) = e ∙ sym e'
two_statements site text at one other (inl ends) (inr stands) =
    absurd (end_no_statement site text at one other ends stands)
two_statements site text at one other (inr stands) (inl ends) =
    absurd (end_no_statement site text at other one ends stands)
two_statements site text at one other (inr stands) (inr stands') =
    one_statement site text at one other stands stands'

no_both : (site : Place) (text : List ℕ) (at : ℕ) (raw : Raw) (fault : Refusal) →
    IsRead site text at (Ok raw)
    → IsRead site text at (Err (Refused fault)) → ⊥
unfolding IsRead
no_both site text at raw fault (inl ends) h = end_no_fault site text at raw fault ends h
no_both site text at raw fault (inr stands) h = statement_no_fault site text at raw fault stands h

pub one_outcome : OneOutcome
one_outcome site text at (Err NoMemory) other h k some some' = absurd (some refl)
one_outcome site text at (Ok one) (Err NoMemory) h k some some' = absurd (some' refl)
one_outcome site text at (Err (Refused one)) (Err NoMemory) h k some some' = absurd (some' refl)
one_outcome site text at (Ok one) (Ok other) h k some some' =
    ap (λ r. Ok r) (two_statements site text at one other h k)
one_outcome site text at (Ok one) (Err (Refused fault)) h k some some' =
    absurd (no_both site text at one fault h k)
one_outcome site text at (Err (Refused fault)) (Ok other) h k some some' =
    absurd (no_both site text at other fault k h)
one_outcome site text at (Err (Refused one)) (Err (Refused other)) h k some some' =
    ap (λ e. Err (Refused e)) (two_faults site text at one other h k)
