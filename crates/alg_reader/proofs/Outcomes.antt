-- From the tokens of a statement and what the grammar says of them to the statement of the text.
use Rattle.std.proofs.Common.{◌≡◌, ◌≢◌, ℕ, List, [], ◌∷◌, ◌++◌, inl, inr, length, length-append, drop, refl, ap, sym, ◌∙◌, subst, arith, append_assoc, append-nil, None, Ok, Err, Result, IsErrAnd}
use Rattle.std.proofs.lemmas.Result.{err_from_is_err_and}
use Rattle.alg_tokens.specs.declared.code.Code.TheVariants as code
use Rattle.alg_tokens.specs.declared.token.Token.{Token}
use Rattle.alg_tokens.specs.declared.token.Refusal.{Refusal}
use Rattle.alg_tokens.specs.declared.token.TokenKind.{TokenKind}
use Rattle.alg_tokens.specs.declared.token.TokenKind.TheVariants as kinds
use Rattle.alg_tokens.specs.declared.token.Sign.TheVariants as signs
use Rattle.alg_tokens.specs.Codes.{code_number}
use Rattle.alg_tokens.specs.Next.{IsNext}
use Rattle.alg_reader.specs.Forms.{Statement, Form, rule, Tree, spelled}
use Rattle.alg_reader.specs.Grammar.{Fits, IsBegun}
use Rattle.alg_reader.specs.Reading.{Takes, IsStuckAt}
use Rattle.alg_reader.specs.Tokens.{TokensTo, open_after, IsOneTooMany, GoesPast, HasNoDot, Reaches, IsStatementCut, end_of}
use Rattle.alg_reader.specs.declared.raw.RawKind.{RawKind}
use Rattle.alg_reader.specs.Meaning.{kind_value}
use Rattle.alg_reader.specs.declared.raw.RawKind.TheVariants as raws
use Rattle.alg_reader.specs.declared.place.Place.{Place}
use Rattle.alg_reader.specs.declared.reading.Raw.{Raw}
use Rattle.alg_reader.specs.declared.reading.FileEnd.{FileEnd}
use Rattle.alg_reader.specs.declared.reading.FileEnd.TheVariants.{NoMemory}
use Rattle.alg_reader.specs.declared.parts.HeldStatement.{HeldStatement}
use Rattle.alg_reader.specs.Parts.{held_statement}
use Rattle.alg_reader.specs.Statements.{Keeps, IsRead}
use Rattle.alg_reader.proofs.Cutting.{tokens_more, past_more}
use Rattle.alg_reader.proofs.Places.{no_dot_append, statement_dot, head_or}

-- where no dot was, none is
pub dot_in : (front after : List Token) (d : Token) → d.kind ≡ kinds.Sign signs.Dot → HasNoDot (front ++ d ∷ after) → ⊥
dot_in [] after d is (other, _) = other is
dot_in (x ∷ front) after d is (_, clear) = dot_in front after d is clear

-- the first dots of one list are one
pub first_dot : (before front after back : List Token) (t d : Token) → HasNoDot before → HasNoDot front
    → t.kind ≡ kinds.Sign signs.Dot → d.kind ≡ kinds.Sign signs.Dot
    → before ++ t ∷ after ≡ front ++ d ∷ back → (before ≡ front) × (t ≡ d) × (after ≡ back)
first_dot [] [] after back t d _ _ is so same = (refl, ap (λ us. head_or us t) same, ap (drop 1) same)
first_dot [] (y ∷ front) after back t d _ (other, _) is so same =
    let first : t ≡ y = ap (λ us. head_or us t) same in absurd (other (ap (λ u. u.kind) (sym first) ∙ is))
first_dot (x ∷ before) [] after back t d (other, _) _ is so same =
    let first : x ≡ d = ap (λ us. head_or us x) same in absurd (other (ap (λ u. u.kind) first ∙ so))
first_dot (x ∷ before) (y ∷ front) after back t d (_, clear) (_, none_here) is so same =
    let first : x ≡ y = ap (λ us. head_or us x) same in
    let (fore, one, rest) = first_dot before front after back t d clear none_here is so (ap (drop 1) same) in
    (ap (λ u. u ∷ before) first ∙ ap (λ us. y ∷ us) fore, one, rest)

pub begun_front : (f : Form) (xs ys : List Token) → IsBegun f (xs ++ ys) → IsBegun f xs
begun_front f xs ys (v, back, fits, e) = (v, ys ++ back, fits, e ∙ append_assoc xs ys back)

-- stuck at a token: with it no statement begins
pub stuck_there : (site : Place) (ts rest : List Token) (t : Token)
    (p : IsStuckAt (rule (Statement site)) ts (t ∷ rest))
    → IsBegun (rule (Statement site)) (p.seen ++ t ∷ []) → ⊥
stuck_there site ts rest t p b = p.stuck b.0 [] (t ∷ b.1) (t, rest, b.1, refl, refl) b.2 tt (append-nil (spelled b.0)
    ∙ b.3 ∙ append_assoc p.seen (t ∷ []) b.1)

-- reading does not stop at a dot
pub dot_free : (depth : ℕ) (kind : TokenKind) → kind ≡ kinds.Sign signs.Dot → ¬ (IsOneTooMany depth kind)
dot_free depth kind is (paren, _) = let clash = sym is ∙ paren in cc

-- where reading stops at a token, no token is a dot
pub stopped_no_dot : (before : List Token) (t : Token) → HasNoDot before → IsOneTooMany (open_after 0 before) t.kind
    → HasNoDot (before ++ t ∷ [])
stopped_no_dot before t clear stops =
    no_dot_append before (t ∷ []) clear (λ is. dot_free (open_after 0 before) t.kind is stops, tt)

-- without a dot there is no statement
pub no_statement : (site : Place) (ts new : List Token) (e : Token) (v : Tree) → e.kind ≡ kinds.End → HasNoDot ts
    → Fits (rule (Statement site)) v → ts ++ e ∷ [] ≡ spelled v ++ new → ⊥
no_statement site ts new e v is clear fits cut =
    let (front, d, spell, dot, _) = statement_dot site v fits in
    let whole : ts ++ e ∷ [] ≡ front ++ d ∷ new = cut ∙ ap (λ us. us ++ new) spell ∙ append_assoc front (d ∷ []) new in
    dot_in front new d dot (subst HasNoDot whole (no_dot_append ts (e ∷ []) clear (
      λ other.
          (let clash : kinds.End ≡ kinds.Sign signs.Dot = sym is ∙ other in cc),
      tt,
    )))

first_of : (before : List Token) (t : Token) → (first : Token) × (after : List Token)
    × (before ++ t ∷ [] ≡ first ∷ after)
first_of [] t = (t, [], refl)
first_of (x ∷ before) t = (x, before ++ t ∷ [], refl)

-- what is kept of a statement
said_keeps : (start stop : ℕ) (s : HeldStatement) (kind : RawKind) → s ≡ held_statement kind
    → Keeps (record { kind = s.kind; start = start; stop = stop; too_deep = s.too_deep }) kind
unfolding held_statement
said_keeps start stop s kind e = (ap (λ x. x.kind) e, ap (λ x. x.too_deep) e)

-- all tokens to the dot are the statement
whole_statement : (site : Place) (text : List ℕ) (at mid start stop : ℕ)
    (ts before new : List Token) (t e : Token)
    (s : HeldStatement) (kind : RawKind) → s ≡ held_statement kind → ts ≡ before ++ t ∷ [] →
    Reaches text at before mid
    → IsNext text mid (Ok t)
    → t.kind ≢ kinds.End → t.kind ≡ kinds.Sign signs.Dot
    → Takes (rule (Statement site)) (ts ++ e ∷ []) new (kind_value kind)
    → ((u : Token) (us : List Token) → ts ≡ u ∷ us → start ≡ u.start) → ((us : List Token) (u : Token)
    → ts ≡ us ++ u ∷ [] → stop ≡ u.stop)
    → IsRead site text at (Ok (record { kind = s.kind; start = start; stop = stop; too_deep = s.too_deep }))
unfolding IsRead
whole_statement site text at mid start stop ts before new t e s kind keeps same
    (to, past, clear) next lexeme dot p starts stops =
    let (front, d, spell, is, none_before) = statement_dot site p.tree p.fits in
    let long : before ++ t ∷ (e ∷ []) ≡ front ++ d ∷ new =
    sym (append_assoc before (t ∷ []) (e ∷ [])) ∙ ap (λ us. us ++ e ∷ []) (sym same) ∙ p.cut
    ∙ ap (λ us. us ++ new) spell ∙ append_assoc front (d ∷ []) new in
    let (fore, one, _) = first_dot before front (e ∷ []) new t d clear none_before dot is long in
    let all : spelled p.tree ≡ ts = spell ∙ ap (λ us. us ++ d ∷ []) (sym fore)
    ∙ ap (λ u. before ++ u ∷ []) (sym one) ∙ sym same in
    let (first, after, split) = first_of before t in
    let shown : ts ≡ first ∷ after = same ∙ split in
    let here : TokensTo text at (before ++ t ∷ []) t.stop = tokens_more text at mid before t to next lexeme in
    let free : GoesPast 0 (before ++ t ∷ []) = past_more 0 before t past
    (dot_free (open_after 0 before) t.kind dot) in
    let P : ℕ → Type 0 = λ n. TokensTo text at (first ∷ after) n in
    let Q : List Token → Type 0 = λ us. TokensTo text at us t.stop in
    inr (
      first,
      after,
      subst P (sym (stops before t same)) (subst Q split here),
      subst (GoesPast 0) split free,
      starts first after shown,
      (kind, (p.tree, p.fits, all ∙ shown, p.means), said_keeps start stop s kind keeps),
    )

pub read_ok : (site : Place) (text : List ℕ) (at start stop : ℕ) (ts new : List Token)
    (fault : Refusal) (e : Token)
    (s : HeldStatement) (kind : RawKind) → s ≡ held_statement kind → e.kind ≡ kinds.End →
    IsStatementCut text at ts fault
    → Takes (rule (Statement site)) (ts ++ e ∷ []) new (kind_value kind)
    → ((u : Token) (us : List Token) → ts ≡ u ∷ us → start ≡ u.start) → ((us : List Token) (u : Token)
    → ts ≡ us ++ u ∷ [] → stop ≡ u.stop)
    → IsRead site text at (Ok (record { kind = s.kind; start = start; stop = stop; too_deep = s.too_deep }))
read_ok site text at start stop ts new fault e s kind keeps is (inl (
  mid,
  (_, _, clear),
  _,
)) p starts stops = absurd (no_statement site ts new e p.tree is clear p.fits p.cut)
read_ok site text at start stop ts new fault e s kind keeps is (inr (inl (
  mid,
  (_, _, clear),
  _,
  _,
))) p starts stops = absurd (no_statement site ts new e p.tree is clear p.fits p.cut)
read_ok site text at start stop ts new fault e s kind keeps is (inr (inr (
  before,
  t,
  mid,
  same,
  reaches,
  next,
  lexeme,
  inl dot,
))) p starts stops =
    whole_statement site text at mid start stop ts before new t e s kind keeps same reaches next lexeme dot p
    starts stops
read_ok site text at start stop ts new fault e s kind keeps is (inr (inr (
  before,
  t,
  mid,
  same,
  reaches,
  next,
  lexeme,
  inr (stops_there, _),
))) p starts stops =
    absurd (no_statement site ts new e p.tree is (subst HasNoDot (sym same)
    (stopped_no_dot before t reaches.2 stops_there)) p.fits p.cut)

pub no_memory : (site : Place) (text : List ℕ) (at : ℕ) → IsRead site text at (Err NoMemory)
unfolding IsRead
no_memory site text at = tt

pub passed_no_memory : (site : Place) (text : List ℕ) (at : ℕ) (r : Result Raw FileEnd) →
    IsErrAnd r (λ e. e ≡ NoMemory)
    → IsRead site text at r
passed_no_memory site text at r is =
    let p = err_from_is_err_and r is in rw (p.1, p.2) (no_memory site text at)

-- no token stands before the end
pub read_end : (site : Place) (text : List ℕ) (at : ℕ) (ts : List Token) (fault : Refusal)
    → ts ≡ [] → IsStatementCut text at ts fault
    → fault.code ≡ code_number code.End
    → IsRead site text at (Ok (record { kind = raws.End; start = fault.at; stop = fault.at; too_deep = None }))
unfolding IsRead
read_end site text at ts fault empty (inl (stop, _, (_, inl (two, _)))) five = absurd (omega arith)
read_end site text at ts fault empty (inl (stop, _, (_, inr (three, _)))) five = absurd (omega arith)
read_end site text at ts fault empty (inr (inl (stop, (to, _, _), next, same))) five =
    let P : List Token → Type 0 = λ us. TokensTo text at us stop in
    let here : at ≡ stop = subst P empty to in
    let Q : ℕ → Type 0 = λ n. IsNext text n (Ok (end_of text)) in
    let place : fault.at ≡ length text = ap (λ r. r.at) same in
    inl (subst Q (sym here) next, ap (λ n. record { kind = raws.End; start = n; stop = n; too_deep = None }) place)
read_end site text at ts fault empty (inr (inr (before, t, stop, same, _, _, _, _))) five =
    let none = ap length (sym empty ∙ same) ∙ length-append before (t ∷ []) in absurd (omega arith)
