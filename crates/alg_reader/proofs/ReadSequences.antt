-- A token, and one form after the other, from readers of the parts.
use Rattle.std.proofs.Common.{◌≡◌, List, [], ◌∷◌, ◌++◌, refl, sym, ap, ◌∙◌, append_assoc}
use Rattle.alg_tokens.specs.declared.token.Token.{Token}
use Rattle.alg_tokens.specs.declared.token.TokenKind.{TokenKind}
use Rattle.alg_reader.specs.Kinds.{variant, code}
use Rattle.alg_reader.specs.Forms.{Form, a, seq, Tree, token, pair, spelled}
use Rattle.alg_reader.specs.Grammar.{Fits}
use Rattle.alg_reader.specs.Ahead.{begins, goes_on, CannotGoOn, SameHead}
use Rattle.alg_reader.specs.Reading.{Takes, IsStuckAt}
use Rattle.alg_reader.specs.TermMeaning.{Value}
use Rattle.alg_reader.specs.TermMeaning.{one, two}
use Rattle.alg_reader.proofs.Ahead.{Disjoint, ends_first, ends_second, same_head_after}

takes_token_only : (k : TokenKind) (t : Token) (rest : List Token) (v : Tree) (r rest' : List Token)
    → SameHead rest rest' → Fits (a k) v → CannotGoOn (a k) r → spelled v ++ r ≡ t ∷ rest' → (v ≡ token t) × (r ≡ rest')
takes_token_only k t rest (token u) r rest' same fits ends e = (cc, cc)
takes_token_only k t rest _ r rest' same fits ends e = absurd fits

pub takes_token : (k : TokenKind) (t : Token) (rest : List Token) → variant k ≡ code t
    → Takes (a k) (t ∷ rest) rest (one t)
takes_token k t rest h = record { tree = token t; fits = h; cut = refl; means = refl; only = takes_token_only k t rest }

stops_token_stuck : (k : TokenKind) (t : Token) (rest : List Token) → (variant k ≡ code t → ⊥)
    → (v : Tree) (r rest' : List Token) → SameHead (t ∷ rest) rest' → Fits (a k) v → CannotGoOn (a k) r
    → spelled v ++ r ≡ rest' → ⊥
stops_token_stuck k t rest other (token u) r rest' same fits ends e = other (let same_token : t ≡ u = cc in
    fits ∙ ap code (sym same_token))
stops_token_stuck k t rest other _ r rest' same fits ends e = absurd fits

-- a token of the kind
pub an : TokenKind → Token
an k = record { kind = k; start = 0; stop = 0 }

pub an-code : (k : TokenKind) → variant k ≡ code (an k)
unfolding an
an-code k = refl

pub stops_token : (k : TokenKind) (t : Token) (rest : List Token) → (variant k ≡ code t → ⊥)
    → IsStuckAt (a k) (t ∷ rest) (t ∷ rest)
stops_token k t rest other = record {
  seen = [];
  cut = refl;
  begun = (
    token (an k),
    an k ∷ [],
    an-code k,
    refl,
  );
  stuck = stops_token_stuck k t rest other;
}

-- ---- sequences

module _ (f g : Form) (apart : Disjoint (goes_on f) (begins g)) where
  takes_seq_only : (p q : Tree) (mid rest : List Token) → mid ≡ spelled q ++ rest
      → ((v : Tree) (r rest' : List Token) → SameHead mid rest' → Fits f v → CannotGoOn f r
      → spelled v ++ r ≡ spelled p ++ rest' → (v ≡ p) × (r ≡ rest'))
      → ((v : Tree) (r rest' : List Token) → SameHead rest rest' → Fits g v → CannotGoOn g r
      → spelled v ++ r ≡ spelled q ++ rest' → (v ≡ q) × (r ≡ rest'))
      → (v : Tree) (r rest' : List Token) → SameHead rest rest' → Fits (seq f g) v → CannotGoOn (seq f g) r
      → spelled v ++ r ≡ (spelled p ++ spelled q) ++ rest' → (v ≡ pair p q) × (r ≡ rest')
  takes_seq_only p q mid rest cut f_only g_only (pair v w) r rest' same fits ends e =
      let e' : spelled v ++ (spelled w ++ r) ≡ spelled p ++ (spelled q ++ rest') = sym (append_assoc (spelled v)
      (spelled w) r) ∙ e ∙ append_assoc (spelled p) (spelled q) rest' in
      let next : SameHead mid (spelled q ++ rest') = rw cut (same_head_after (spelled q) rest rest' same) in
      let first = f_only v (spelled w ++ r) (spelled q ++ rest') next fits.0
      (ends_first f g w r apart fits.1 ends) e' in
      let second = g_only w r rest' same fits.1 (ends_second f g r ends) first.1 in
      (cc, second.1)
  takes_seq_only p q mid rest cut f_only g_only _ r rest' same fits ends e = absurd fits

  pub takes_seq : (ts mid rest : List Token) (x y : Value) → Takes f ts mid x → Takes g mid rest y
      → Takes (seq f g) ts rest (two x y)
  takes_seq ts mid rest x y p q = record {
    tree = pair p.tree q.tree;
    fits = (p.fits, q.fits);
    cut = p.cut ∙ ap (λ us. spelled p.tree ++ us) q.cut ∙ sym (append_assoc (spelled p.tree) (spelled q.tree) rest);
    means = rw (p.means, q.means) refl;
    only = takes_seq_only p.tree q.tree mid rest q.cut p.only q.only;
  }

  stops_second_stuck : (p : Tree) (seen mid rest : List Token) → mid ≡ seen ++ rest
      → ((v : Tree) (r rest' : List Token) → SameHead mid rest' → Fits f v → CannotGoOn f r
      → spelled v ++ r ≡ spelled p ++ rest' → (v ≡ p) × (r ≡ rest'))
      → ((v : Tree) (r rest' : List Token) → SameHead rest rest' → Fits g v → CannotGoOn g r
      → spelled v ++ r ≡ seen ++ rest' → ⊥)
      → (v : Tree) (r rest' : List Token) → SameHead rest rest' → Fits (seq f g) v → CannotGoOn (seq f g) r
      → spelled v ++ r ≡ (spelled p ++ seen) ++ rest' → ⊥
  stops_second_stuck p seen mid rest cut f_only g_stuck (pair v w) r rest' same fits ends e =
      let e' : spelled v ++ (spelled w ++ r) ≡ spelled p ++ (seen ++ rest') = sym (append_assoc (spelled v)
      (spelled w) r) ∙ e ∙ append_assoc (spelled p) seen rest' in
      let next : SameHead mid (seen ++ rest') = rw cut (same_head_after seen rest rest' same) in
      let first = f_only v (spelled w ++ r) (seen ++ rest') next fits.0 (ends_first f g w r apart fits.1 ends) e' in
      g_stuck w r rest' same fits.1 (ends_second f g r ends) first.1
  stops_second_stuck p seen mid rest cut f_only g_stuck _ r rest' same fits ends e = absurd fits

  pub stops_second : (ts mid rest : List Token) (x : Value) → Takes f ts mid x → IsStuckAt g mid rest
      → IsStuckAt (seq f g) ts rest
  stops_second ts mid rest x p q = record {
    seen = spelled p.tree ++ q.seen;
    cut = p.cut ∙ ap (λ us. spelled p.tree ++ us) q.cut ∙ sym (append_assoc (spelled p.tree) q.seen rest);
    begun = (
      pair p.tree q.begun.0,
      q.begun.1,
      (p.fits, q.begun.2),
      ap (λ us. spelled p.tree ++ us) q.begun.3
          ∙ sym (append_assoc (spelled p.tree) q.seen q.begun.1),
    );
    stuck = stops_second_stuck p.tree q.seen mid rest q.cut p.only q.stuck;
  }

  stops_first_stuck : (seen rest : List Token)
      → ((v : Tree) (r rest' : List Token) → SameHead rest rest' → Fits f v → CannotGoOn f r
      → spelled v ++ r ≡ seen ++ rest' → ⊥)
      → (v : Tree) (r rest' : List Token) → SameHead rest rest' → Fits (seq f g) v → CannotGoOn (seq f g) r
      → spelled v ++ r ≡ seen ++ rest' → ⊥
  stops_first_stuck seen rest f_stuck (pair v w) r rest' same fits ends e =
      f_stuck v (spelled w ++ r) rest' same fits.0 (ends_first f g w r apart fits.1 ends) (sym (append_assoc
      (spelled v) (spelled w) r) ∙ e)
  stops_first_stuck seen rest f_stuck _ r rest' same fits ends e = absurd fits

  pub stops_first : (ts rest : List Token) → (w : Tree) × Fits g w → IsStuckAt f ts rest → IsStuckAt (seq f g) ts rest
  stops_first ts rest some_g p = record {
    seen = p.seen;
    cut = p.cut;
    begun = (
      pair p.begun.0 some_g.0,
      p.begun.1 ++ spelled some_g.0,
      (p.begun.2, some_g.1),
      ap (λ us. us ++ spelled some_g.0) p.begun.3 ∙ append_assoc p.seen p.begun.1 (spelled some_g.0),
    );
    stuck = stops_first_stuck p.seen rest p.stuck;
  }
