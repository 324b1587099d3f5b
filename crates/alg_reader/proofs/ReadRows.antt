-- Repetitions and rules, from readers of the parts.
use Rattle.std.proofs.Common.{◌≡◌, false, List, ◌++◌, refl, sym, ap, ◌∙◌, subst, append_assoc, append-nil}
use Rattle.alg_tokens.specs.declared.token.Token.{Token}
use Rattle.alg_reader.specs.Forms.{Rule, Form, many, rule, Tree, end, more, node, spelled}
use Rattle.alg_reader.specs.Grammar.{grammar, Fits}
use Rattle.alg_reader.specs.Ahead.{nullable, begins, goes_on, CannotGoOn, SameHead, Starts, Lacks}
use Rattle.alg_reader.specs.Reading.{Takes, IsStuckAt}
use Rattle.alg_reader.specs.TermMeaning.{Value}
use Rattle.alg_reader.specs.TermMeaning.{two, nothing}
use Rattle.alg_reader.specs.Meaning.{act}
use Rattle.alg_reader.proofs.Ahead.{Disjoint, ends_at, same_head_after, starts_with, lacks_clash, same_starts, same_lacks, ends_clash, ends_opt, ends_rule}

-- ---- repetitions

module _ (f : Form) (full : nullable f ≡ false) (apart : Disjoint (goes_on f) (begins f)) where
  takes_end_only : (rest : List Token) → Lacks f rest → (v : Tree) (r rest' : List Token) → SameHead rest rest'
      → Fits (many f) v → CannotGoOn (many f) r → spelled v ++ r ≡ rest' → (v ≡ end) × (r ≡ rest')
  takes_end_only rest lacks end r rest' same fits ends e = (refl, e)
  takes_end_only rest lacks (more v w) r rest' same fits ends e =
      absurd (lacks_clash f _ _ (same_lacks f _ _ same lacks) (starts_with f v (spelled w ++ r) full fits.0)
      (sym e ∙ append_assoc (spelled v) (spelled w) r))
  takes_end_only rest lacks _ r rest' same fits ends e = absurd fits

  pub takes_end : (ts : List Token) → Lacks f ts → Takes (many f) ts ts nothing
  takes_end ts lacks = record { tree = end; fits = tt; cut = refl; means = refl; only = takes_end_only ts lacks }

  pub ends_turn : (w : Tree) (r : List Token) → Fits (many f) w → CannotGoOn (many f) r → CannotGoOn f (spelled w ++ r)
  ends_turn end r fits h = ends_opt f r h
  ends_turn (more v w) r fits h =
      let s = starts_with f v (spelled w ++ r) full fits.0 in
      rw (append_assoc (spelled v) (spelled w) r, s.2) (ends_at f f s.0 s.1 apart s.3)
  ends_turn _ r fits h = absurd fits

  takes_more_only : (p q : Tree) (mid rest : List Token) → Fits f p → mid ≡ spelled q ++ rest
      → ((v : Tree) (r rest' : List Token) → SameHead mid rest' → Fits f v → CannotGoOn f r
      → spelled v ++ r ≡ spelled p ++ rest' → (v ≡ p) × (r ≡ rest'))
      → ((v : Tree) (r rest' : List Token) → SameHead rest rest' → Fits (many f) v → CannotGoOn (many f) r
      → spelled v ++ r ≡ spelled q ++ rest' → (v ≡ q) × (r ≡ rest'))
      → (v : Tree) (r rest' : List Token) → SameHead rest rest' → Fits (many f) v → CannotGoOn (many f) r
      → spelled v ++ r ≡ (spelled p ++ spelled q) ++ rest' → (v ≡ more p q) × (r ≡ rest')
  takes_more_only p q mid rest p_fits cut f_only g_only (more v w) r rest' same fits ends e =
      let e' : spelled v ++ (spelled w ++ r) ≡ spelled p ++ (spelled q ++ rest') = sym (append_assoc (spelled v)
      (spelled w) r) ∙ e ∙ append_assoc (spelled p) (spelled q) rest' in
      let next : SameHead mid (spelled q ++ rest') = rw cut (same_head_after (spelled q) rest rest' same) in
      let first = f_only v (spelled w ++ r) (spelled q ++ rest') next fits.0 (ends_turn w r fits.1 ends) e' in
      let second = g_only w r rest' same fits.1 ends first.1 in
      (cc, second.1)
  takes_more_only p q mid rest p_fits cut f_only g_only end r rest' same fits ends e =
      absurd (ends_clash f r ends (rw (e ∙ append_assoc (spelled p) (spelled q) rest') (starts_with f p
      (spelled q ++ rest') full p_fits)))
  takes_more_only p q mid rest p_fits cut f_only g_only _ r rest' same fits ends e = absurd fits

  pub takes_more : (ts mid rest : List Token) (x y : Value) → Takes f ts mid x → Takes (many f) mid rest y
      → Takes (many f) ts rest (two x y)
  takes_more ts mid rest x y p q = record {
    tree = more p.tree q.tree;
    fits = (p.fits, q.fits);
    cut = p.cut ∙ ap (λ us. spelled p.tree ++ us) q.cut ∙ sym (append_assoc (spelled p.tree) (spelled q.tree) rest);
    means = rw (p.means, q.means) refl;
    only = takes_more_only p.tree q.tree mid rest p.fits q.cut p.only q.only;
  }

  stops_turn_stuck : (seen rest : List Token) → Starts f (seen ++ rest)
      → ((v : Tree) (r rest' : List Token) → SameHead rest rest' → Fits f v → CannotGoOn f r
      → spelled v ++ r ≡ seen ++ rest' → ⊥)
      → (v : Tree) (r rest' : List Token) → SameHead rest rest' → Fits (many f) v → CannotGoOn (many f) r
      → spelled v ++ r ≡ seen ++ rest' → ⊥
  stops_turn_stuck seen rest starts f_stuck (more v w) r rest' same fits ends e =
      f_stuck v (spelled w ++ r) rest' same fits.0 (ends_turn w r fits.1 ends) (sym (append_assoc (spelled v)
      (spelled w) r) ∙ e)
  stops_turn_stuck seen rest starts f_stuck end r rest' same fits ends e = ends_clash f r ends (rw e
      (same_starts f _ _ (same_head_after seen rest rest' same) starts))
  stops_turn_stuck seen rest starts f_stuck _ r rest' same fits ends e = absurd fits

  pub stops_turn : (ts rest : List Token) → Starts f ts → IsStuckAt f ts rest → IsStuckAt (many f) ts rest
  stops_turn ts rest starts p = record {
    seen = p.seen;
    cut = p.cut;
    begun = (more p.begun.0 end, p.begun.1, (p.begun.2, tt), simp append-nil p.begun.3);
    stuck = stops_turn_stuck p.seen rest (subst (Starts f) p.cut starts) p.stuck;
  }

  stops_later_stuck : (p : Tree) (seen mid rest : List Token) → Fits f p → mid ≡ seen ++ rest
      → ((v : Tree) (r rest' : List Token) → SameHead mid rest' → Fits f v → CannotGoOn f r
      → spelled v ++ r ≡ spelled p ++ rest' → (v ≡ p) × (r ≡ rest'))
      → ((v : Tree) (r rest' : List Token) → SameHead rest rest' → Fits (many f) v → CannotGoOn (many f) r
      → spelled v ++ r ≡ seen ++ rest' → ⊥)
      → (v : Tree) (r rest' : List Token) → SameHead rest rest' → Fits (many f) v → CannotGoOn (many f) r
      → spelled v ++ r ≡ (spelled p ++ seen) ++ rest' → ⊥
  stops_later_stuck p seen mid rest p_fits cut f_only g_stuck (more v w) r rest' same fits ends e =
      let e' : spelled v ++ (spelled w ++ r) ≡ spelled p ++ (seen ++ rest') = sym (append_assoc (spelled v)
      (spelled w) r) ∙ e ∙ append_assoc (spelled p) seen rest' in
      let next : SameHead mid (seen ++ rest') = rw cut (same_head_after seen rest rest' same) in
      let first = f_only v (spelled w ++ r) (seen ++ rest') next fits.0 (ends_turn w r fits.1 ends) e' in
      g_stuck w r rest' same fits.1 ends first.1
  stops_later_stuck p seen mid rest p_fits cut f_only g_stuck end r rest' same fits ends e =
      ends_clash f r ends (rw (e ∙ append_assoc (spelled p) seen rest') (starts_with f p (seen ++ rest') full p_fits))
  stops_later_stuck p seen mid rest p_fits cut f_only g_stuck _ r rest' same fits ends e = absurd fits

  pub stops_later : (ts mid rest : List Token) (x : Value) → Takes f ts mid x → IsStuckAt (many f) mid rest
      → IsStuckAt (many f) ts rest
  stops_later ts mid rest x p q = record {
    seen = spelled p.tree ++ q.seen;
    cut = p.cut ∙ ap (λ us. spelled p.tree ++ us) q.cut ∙ sym (append_assoc (spelled p.tree) q.seen rest);
    begun = (
      more p.tree q.begun.0,
      q.begun.1,
      (p.fits, q.begun.2),
      ap (λ us. spelled p.tree ++ us) q.begun.3
          ∙ sym (append_assoc (spelled p.tree) q.seen q.begun.1),
    );
    stuck = stops_later_stuck p.tree q.seen mid rest p.fits q.cut p.only q.stuck;
  }

-- ---- rules

takes_rule_only : (q : Rule) (p : Tree) (rest : List Token)
    → ((v : Tree) (r rest' : List Token) → SameHead rest rest' → Fits (grammar q) v → CannotGoOn (grammar q) r
    → spelled v ++ r ≡ spelled p ++ rest' → (v ≡ p) × (r ≡ rest'))
    → (v : Tree) (r rest' : List Token) → SameHead rest rest' → Fits (rule q) v → CannotGoOn (rule q) r
    → spelled v ++ r ≡ spelled p ++ rest' → (v ≡ node q p) × (r ≡ rest')
takes_rule_only q p rest only (node q' v) r rest' same fits ends e =
    let h = only v r rest' same fits.1 (ends_rule q r ends) e in let k = fits.0 in (cc, h.1)
takes_rule_only q p rest only _ r rest' same fits ends e = absurd fits

pub takes_rule : (q : Rule) (ts rest : List Token) (x : Value) → Takes (grammar q) ts rest x
    → Takes (rule q) ts rest (act q x)
takes_rule q ts rest x p = record {
  tree = node q p.tree;
  fits = (
    refl,
    p.fits,
  );
  cut = p.cut;
  means = ap (act q) p.means;
  only = takes_rule_only q p.tree rest p.only;
}

stops_rule_stuck : (q : Rule) (seen rest : List Token)
    → ((v : Tree) (r rest' : List Token) → SameHead rest rest' → Fits (grammar q) v → CannotGoOn (grammar q) r
    → spelled v ++ r ≡ seen ++ rest' → ⊥)
    → (v : Tree) (r rest' : List Token) → SameHead rest rest' → Fits (rule q) v → CannotGoOn (rule q) r
    → spelled v ++ r ≡ seen ++ rest' → ⊥
stops_rule_stuck q seen rest stuck (node q' v) r rest' same fits ends e = stuck v r rest' same fits.1
    (ends_rule q r ends) e
stops_rule_stuck q seen rest stuck _ r rest' same fits ends e = absurd fits

pub stops_rule : (q : Rule) (ts rest : List Token) → IsStuckAt (grammar q) ts rest → IsStuckAt (rule q) ts rest
stops_rule q ts rest p = record {
  seen = p.seen;
  cut = p.cut;
  begun = (
    node q p.begun.0,
    p.begun.1,
    (
      refl,
      p.begun.2,
    ),
    p.begun.3,
  );
  stuck = stops_rule_stuck q p.seen rest p.stuck;
}
