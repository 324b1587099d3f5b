-- What was read is well read.
use Rattle.std.proofs.Common.{◌≡◌, ◌≤◌, ℕ, nat_lt, inl, inr, true, false, cond, List, map, [], ◌∷◌, length, refl, ap, sym, ◌∙◌, subst, arith, None, pos}
use Rattle.std.specs.List.{AllByRecursion}
use Rattle.std.specs.Str.{IsUtf8, IsCharBoundary}
use Rattle.std.proofs.lemmas.Bool.Decides.{nat_tests}
use Rattle.std.proofs.lemmas.Int.{ints}
use Rattle.std.proofs.lemmas.Str.{IsUtf8-drop, IsCharBoundary-end}
use Rattle.alg_tokens.specs.declared.token.Token.{Token}
use Rattle.alg_terms.specs.Limits.{MAX_DEPTH}
use Rattle.alg_reader.specs.declared.raw.RawNode.TheVariants.{Int}
use Rattle.alg_reader.specs.declared.raw.RawTerm.{RawTerm}
use Rattle.alg_reader.specs.declared.raw.RawAnswer.{RawAnswer}
use Rattle.alg_reader.specs.declared.raw.RawAnswer.TheVariants as answers
use Rattle.alg_reader.specs.declared.raw.RawKind.{RawKind}
use Rattle.alg_reader.specs.declared.raw.RawKind.TheVariants as raws
use Rattle.alg_reader.specs.declared.place.Place.{Place}
use Rattle.alg_reader.specs.declared.reading.Raw.{Raw}
use Rattle.alg_reader.specs.Forms.{Statement, rule}
use Rattle.alg_reader.specs.TermMeaning.{Value}
use Rattle.alg_reader.specs.RawNodes.{at as node_at}
use Rattle.alg_reader.specs.TermMeaning.{sort, hom, vars, hyp, goal, answer, line, step}
use Rattle.alg_reader.specs.Meaning.{kind_value}
use Rattle.alg_reader.specs.RawTerms.{fold_under, depth_of, names_in, literals_in, exponents_in}
use Rattle.alg_reader.specs.Places.{MayStand}
use Rattle.alg_reader.specs.TooDeep.{kept, kept_answer, kept_kind}
use Rattle.alg_reader.specs.Statements.{StandsAt, IsRead}
use Rattle.alg_reader.specs.WellRead.{IsInRange, IsWellTerm, IsWellAnswer, IsWellKind, IsWellRead, members_in}
use Rattle.alg_reader.specs.Laws.{StatementsAreWellRead, StatementsMayStand}
use Rattle.alg_reader.proofs.Boundaries.{IsTokenAt, tokens_at, tokens_long}
use Rattle.alg_reader.proofs.Found.{all_of, IsFoundAnswer, IsFoundTerm, IsFoundKind, IsSpelledKind}
use Rattle.alg_reader.proofs.Derivations.{found}

-- ---- what is kept of terms

zero_well : (text : List ℕ) (head : ℕ) → IsWellTerm text (node_at head (Int (pos 0)))
unfolding fold_under
zero_well text head = record {
  names = λ k d h. absurd (omega arith);
  literals = all_of IsInRange (pos 0 ∷ []) (
    (
      omega (arith, ints),
      omega
          (arith, ints),
    ),
    tt,
  );
  exponents = λ k d h. absurd (omega arith);
  depth = omega arith;
}

term_well : (text : List ℕ) (t : RawTerm) → depth_of t ≤ MAX_DEPTH → IsFoundTerm text t → IsWellTerm text t
term_well text t shallow h = record {
  names = all_of _ (names_in t) h.names;
  literals = all_of _ (literals_in t) h.literals;
  exponents = all_of _ (exponents_in t) h.exponents;
  depth = shallow;
}

kept_well : (text : List ℕ) (t : RawTerm) → IsFoundTerm text t → IsWellTerm text (kept t)
kept_well text t h = elim (nat_lt MAX_DEPTH (depth_of t)) as (λ b. nat_lt MAX_DEPTH (depth_of t) ≡ b
    → IsWellTerm text (cond b (node_at t.head (Int (pos 0))) t)) [
      | true ↦ λ _. zero_well text t.head
      | false ↦ λ e. term_well text t (grind (arith, nat_tests)) h
    ] refl

all_kept : (text : List ℕ) (ts : List RawTerm) → AllByRecursion (IsFoundTerm text) ts
    → AllByRecursion (IsWellTerm text) (map kept ts)
all_kept text [] h = tt
all_kept text (t ∷ ts) h = (kept_well text t h.0, all_kept text ts h.1)

answer_well : (text : List ℕ) (said : RawAnswer) → IsFoundAnswer text said → IsWellAnswer text (kept_answer said)
answer_well text (answers.Proved conditions) h = all_of (IsWellTerm text) (map kept conditions)
    (all_kept text conditions h)
answer_well text (answers.Certified version power constants) h = h
answer_well text (answers.No m left right) h = h
answer_well text (answers.ZeroDenominator denominator) h = kept_well text denominator h
answer_well text (answers.NoneUpTo power) h = h
answer_well text (answers.GaveUp limit) h = h
answer_well text answers.Range h = tt
answer_well text answers.Degree h = tt
answer_well text answers.Atoms h = tt

kind_well : (text : List ℕ) (kind : RawKind) → IsFoundKind text kind → IsWellKind text (kept_kind kind)
kind_well text raws.End h = absurd h
kind_well text (raws.Sort kind name char0) h = h
kind_well text (raws.Hom name from to) h = h
kind_well text (raws.Vars names of) h = (h.0, all_of _ names h.1, h.2)
kind_well text (raws.Hyp name e) h = (
  h.0,
  record { left = kept_well text e.left h.1; right = kept_well text e.right h.2 },
)
kind_well text (raws.Goal e way place) h = (
  record { left = kept_well text e.left h.0; right = kept_well text e.right h.1 },
  h.2,
  h.3,
)
kind_well text (raws.Answer said) h = answer_well text said h
kind_well text (raws.Line a m i b n j d) h = h
kind_well text (raws.Step a b n j d) h = h

-- ---- one meaning

kind_of : Value → RawKind
kind_of (sort kind name char0) = raws.Sort kind name char0
kind_of (hom name from to) = raws.Hom name from to
kind_of (vars names of) = raws.Vars names of
kind_of (hyp name e) = raws.Hyp name e
kind_of (goal e way place) = raws.Goal e way place
kind_of (answer said) = raws.Answer said
kind_of (line a m i b n j d) = raws.Line a m i b n j d
kind_of (step a b n j d) = raws.Step a b n j d
kind_of _ = raws.End

kind_again : (kind : RawKind) → kind_of (kind_value kind) ≡ kind
unfolding kind_of
kind_again raws.End = refl
kind_again (raws.Sort kind name char0) = refl
kind_again (raws.Hom name from to) = refl
kind_again (raws.Vars names of) = refl
kind_again (raws.Hyp name e) = refl
kind_again (raws.Goal e way place) = refl
kind_again (raws.Answer said) = refl
kind_again (raws.Line a m i b n j d) = refl
kind_again (raws.Step a b n j d) = refl

-- what two statements mean is one, so they are one
pub one_kind : (kind other : RawKind) → kind_value kind ≡ kind_value other → kind ≡ other
one_kind kind other e = sym (kind_again kind) ∙ ap kind_of e ∙ kind_again other

-- ---- how long a statement is

few_members : (kind : RawKind) (ts : List Token) → 1 ≤ length ts → IsSpelledKind kind ts
    → members_in (kept_kind kind) ≤ length ts
few_members raws.End ts some h = some
few_members (raws.Sort kind name char0) ts some h = some
few_members (raws.Hom name from to) ts some h = some
few_members (raws.Vars names of) ts some h = h
few_members (raws.Hyp name e) ts some h = some
few_members (raws.Goal e way place) ts some h = h
few_members (raws.Answer said) ts some h = some
few_members (raws.Line a m i b n j d) ts some h = some
few_members (raws.Step a b n j d) ts some h = some

-- ---- all of it

-- what is left out changes nothing of where a statement may stand
kept_stands : (site : Place) (kind : RawKind) → MayStand site kind → MayStand site (kept_kind kind)
kept_stands site raws.End h = tt
kept_stands site (raws.Sort kind name char0) h = tt
kept_stands site (raws.Hom name from to) h = tt
kept_stands site (raws.Vars names of) h = tt
kept_stands site (raws.Hyp name e) h = tt
kept_stands site (raws.Goal e way place) h = tt
kept_stands site (raws.Answer said) h = h
kept_stands site (raws.Line a m i b n j d) h = h
kept_stands site (raws.Step a b n j d) h = h

stands_well : (site : Place) (text : List ℕ) (at : ℕ) (raw : Raw) → IsUtf8 text → IsCharBoundary text at
    → StandsAt site text at raw → IsWellRead text at raw × MayStand site raw.kind
stands_well site text at raw u boundary (
  first,
  more,
  to,
  past,
  start,
  (kind, (v, fits, spells, means), (keeps, _)),
) =
    let ts = first ∷ more in
    let (all, stops) = tokens_at text at raw.stop ts boundary.0 (IsUtf8-drop text at u boundary) to in
    let (k, e, may, here, spelled) = found text (rule (Statement site)) v fits (subst (AllByRecursion (IsTokenAt text))
    (sym spells) all) in
    let same : k ≡ kind = one_kind k kind (sym e ∙ means) in
    let parts : IsFoundKind text kind = subst (IsFoundKind text) same here in
    let P : RawKind → Type 0 = λ x. IsSpelledKind x ts in
    let written : IsSpelledKind kind ts = subst P same (subst (IsSpelledKind k) spells spelled) in
    let length_of = tokens_long text first.stop raw.stop more to.2 in
    let members = few_members kind ts (omega arith) written in
    let some = all.0.some in
    let stands : MayStand site kind = subst (MayStand site) same may in
    let counts : members_in raw.kind ≡ members_in (kept_kind kind) = ap members_in keeps in (
      record {
        kind = subst (IsWellKind text) (sym keeps) (kind_well text kind parts);
        starts = let from = to.0.0.0 in omega arith;
        stops = stops;
        long = λ _. omega arith;
      },
      subst (MayStand site) (sym keeps) (kept_stands site kind stands),
    )

end_well : (text : List ℕ) (at : ℕ) → at ≤ length text
    → IsWellRead text at (record { kind = raws.End; start = length text; stop = length text; too_deep = None })
end_well text at within = record {
  kind = tt;
  starts = within;
  stops = IsCharBoundary-end text;
  long = λ other. absurd (other refl);
}

pub well_read : StatementsAreWellRead
unfolding IsRead
well_read site text at raw u boundary (inl (next, is)) =
    subst (IsWellRead text at) (sym is) (end_well text at boundary.0)
well_read site text at raw u boundary (inr stands) = (stands_well site text at raw u boundary stands).0

pub may_stand : StatementsMayStand
unfolding IsRead
may_stand site text at raw u boundary (inl (next, is)) =
    let P : RawKind → Type 0 = λ kind. MayStand site kind in subst P (sym (ap (λ r. r.kind) is)) tt
may_stand site text at raw u boundary (inr stands) = (stands_well site text at raw u boundary stands).1
