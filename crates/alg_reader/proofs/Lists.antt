-- Things one after the other, each behind a sign, read in a loop.
use Rattle.std.proofs.Common.{◌≡◌, List, [], ◌∷◌, ◌++◌, refl, sym, ap, ◌∙◌, append_assoc, append-nil}
use Rattle.alg_tokens.specs.declared.token.Token.{Token}
use Rattle.alg_tokens.specs.declared.token.TokenKind.TheVariants as kinds
use Rattle.alg_tokens.specs.declared.token.Sign.{Sign}
use Rattle.alg_reader.specs.declared.cursor.Fault.{Fault}
use Rattle.alg_reader.specs.Forms.{Rule, Form, a, seq, many, rule}
use Rattle.alg_reader.specs.Ahead.{begins, goes_on, Starts, Lacks}
use Rattle.alg_reader.specs.Reading.{Takes, Fails}
use Rattle.alg_reader.specs.TermMeaning.{Value, one, two, nothing}
use Rattle.alg_reader.specs.AnswerMeaning.{after}
use Rattle.alg_reader.proofs.Ahead.{Disjoint}
use Rattle.alg_reader.proofs.ReadSequences.{takes_seq}
use Rattle.alg_reader.proofs.ReadRows.{takes_more, takes_end}
use Rattle.alg_reader.proofs.Failing.{fails_second, fails_turn, fails_later}
use Rattle.alg_reader.proofs.OneToken.{taken, starts_seq, lacks_seq}
use Rattle.alg_reader.proofs.Sequences.{token_apart}

-- a further one, behind its sign
abbrev pub next_of : Sign → Rule → Form
next_of s r = seq (a (kinds.Sign s)) (rule r)

-- What is left of a list decides about all of it, where `before` was gathered so far, `first` to begin with.
pub record Gathers {X : Type 0} (s : Sign) (r : Rule) (item : Value → List X) (old now : List Token)
    (first before : List X) : Type 0 where
  pub takes : (rest : List Token) (y : Value) → Takes (many (next_of s r)) now rest y
      → (x : Value) × Takes (many (next_of s r)) old rest x × (before ++ after item y ≡ first ++ after item x)
  pub fails : (e : Fault) → Fails (many (next_of s r)) now e → Fails (many (next_of s r)) old e

pub gathers_begins : {X : Type 0} (s : Sign) (r : Rule) (item : Value → List X) (old : List Token)
    (first before : List X)
    → before ≡ first → Gathers s r item old old first before
gathers_begins s r item old first before e = record {
  takes = λ rest y p. (y, p, ap (λ xs. xs ++ after item y) e);
  fails = λ e h. h;
}

module _ {X : Type 0} (s : Sign) (r : Rule) (item : Value → List X) (again : Disjoint (goes_on (next_of s r)) (begins
    (next_of s r))) (old now mid : List Token) (c : Token) (first before : List X) (starts : Starts
    (a (kinds.Sign s)) now) (cut : now ≡ c ∷ mid) (gathers : Gathers s r item old now first before) where
  turn : (next : List Token) (v : Value) → Takes (rule r) mid next v → Takes (next_of s r) now next (two (one c) v)
  turn next v p = takes_seq (a (kinds.Sign s)) (rule r) (token_apart (kinds.Sign s) (rule r)) now mid next _ _
      (taken (kinds.Sign s) now mid c starts cut) p

  pub gathers_more : (next : List Token) (v : Value) (z : X) (more : List X) → Takes (rule r) mid next v
      → item v ≡ z ∷ [] → more ≡ before ++ z ∷ [] → Gathers s r item old next first more
  unfolding after
  gathers_more next v z more p is e = record {
    takes = λ rest y q.
        let (x, k, same) = gathers.takes rest (two (two (one c) v) y) (takes_more (next_of s r) refl again now next
        rest _ y (turn next v p) q) in (
          x,
          k,
          ap (λ xs. xs ++ after item y) e ∙ append_assoc before (z ∷ []) (after item y)
              ∙ ap (λ xs. before ++ (xs ++ after item y)) (sym is) ∙ same,
        );
    fails = λ f h. gathers.fails f (fails_later (next_of s r) refl again now next _ (turn next v p) f h);
  }

  pub gathers_fails : (e : Fault) → Fails (rule r) mid e → Fails (many (next_of s r)) old e
  gathers_fails e h = gathers.fails e (fails_turn (next_of s r) refl again now e (starts_seq (a (kinds.Sign s))
      (rule r) now starts) (fails_second (a (kinds.Sign s)) (rule r) (token_apart (kinds.Sign s) (rule r)) now mid _
      (taken (kinds.Sign s) now mid c starts cut) e h))

pub gathers_ends : {X : Type 0} (s : Sign) (r : Rule) (item : Value → List X) → Disjoint (goes_on (next_of s r)) (begins
    (next_of s r)) → (old now : List Token) (first before : List X) → Lacks (a (kinds.Sign s)) now
    → Gathers s r item old now first before
    → (x : Value) × (before ≡ first ++ after item x) × Takes (many (next_of s r)) old now x
unfolding after
gathers_ends s r item again old now first before lacks gathers =
    let (x, p, same) = gathers.takes now nothing (takes_end (next_of s r) refl again now (lacks_seq
    (a (kinds.Sign s)) (rule r) now refl lacks)) in
    (x, sym (append-nil before) ∙ same, p)
