-- Choices and options, from readers of the parts.
use Rattle.std.proofs.Common.{◌≡◌, false, List, ◌++◌, refl, sym, subst}
use Rattle.alg_tokens.specs.declared.token.Token.{Token}
use Rattle.alg_reader.specs.Forms.{Form, alt, opt, Tree, left, right, none, some, spelled}
use Rattle.alg_reader.specs.Grammar.{Fits}
use Rattle.alg_reader.specs.Ahead.{nullable, begins, CannotGoOn, SameHead, Starts, Lacks}
use Rattle.alg_reader.specs.Reading.{Takes, IsStuckAt}
use Rattle.alg_reader.specs.TermMeaning.{Value}
use Rattle.alg_reader.specs.TermMeaning.{nothing}
use Rattle.alg_reader.proofs.Ahead.{Disjoint, same_head_after, starts_with, clash, lacks_clash, same_starts, same_lacks, ends_clash, ends_opt, ends_left, ends_right}

-- ---- choices

module _ (f g : Form) (apart : Disjoint (begins f) (begins g)) (f_full : nullable f ≡ false)
    (g_full : nullable g ≡ false) where
  takes_left_only : (p : Tree) (rest : List Token) → Fits f p
      → ((v : Tree) (r rest' : List Token) → SameHead rest rest' → Fits f v → CannotGoOn f r
      → spelled v ++ r ≡ spelled p ++ rest' → (v ≡ p) × (r ≡ rest'))
      → (v : Tree) (r rest' : List Token) → SameHead rest rest' → Fits (alt f g) v → CannotGoOn (alt f g) r
      → spelled v ++ r ≡ spelled p ++ rest' → (v ≡ left p) × (r ≡ rest')
  takes_left_only p rest p_fits f_only (left v) r rest' same fits ends e =
      let h = f_only v r rest' same fits (ends_left f g r ends) e in (cc, h.1)
  takes_left_only p rest p_fits f_only (right v) r rest' same fits ends e = absurd (clash f g _ _ apart
      (starts_with f p rest' f_full p_fits) (starts_with g v r g_full fits) (sym e))
  takes_left_only p rest p_fits f_only _ r rest' same fits ends e = absurd fits

  pub takes_left : (ts rest : List Token) (x : Value) → Takes f ts rest x → Takes (alt f g) ts rest x
  takes_left ts rest x p = record {
    tree = left p.tree;
    fits = p.fits;
    cut = p.cut;
    means = p.means;
    only =
        takes_left_only p.tree rest p.fits p.only;
  }

  takes_right_only : (p : Tree) (rest : List Token) → Fits g p
      → ((v : Tree) (r rest' : List Token) → SameHead rest rest' → Fits g v → CannotGoOn g r
      → spelled v ++ r ≡ spelled p ++ rest' → (v ≡ p) × (r ≡ rest'))
      → (v : Tree) (r rest' : List Token) → SameHead rest rest' → Fits (alt f g) v → CannotGoOn (alt f g) r
      → spelled v ++ r ≡ spelled p ++ rest' → (v ≡ right p) × (r ≡ rest')
  takes_right_only p rest p_fits g_only (right v) r rest' same fits ends e =
      let h = g_only v r rest' same fits (ends_right f g r ends) e in (cc, h.1)
  takes_right_only p rest p_fits g_only (left v) r rest' same fits ends e = absurd (clash f g _ _ apart
      (starts_with f v r f_full fits) (starts_with g p rest' g_full p_fits) e)
  takes_right_only p rest p_fits g_only _ r rest' same fits ends e = absurd fits

  pub takes_right : (ts rest : List Token) (x : Value) → Takes g ts rest x → Takes (alt f g) ts rest x
  takes_right ts rest x p = record {
    tree = right p.tree;
    fits = p.fits;
    cut = p.cut;
    means = p.means;
    only =
        takes_right_only p.tree rest p.fits p.only;
  }

  stops_left_stuck : (seen rest : List Token) → Starts f (seen ++ rest)
      → ((v : Tree) (r rest' : List Token) → SameHead rest rest' → Fits f v → CannotGoOn f r
      → spelled v ++ r ≡ seen ++ rest' → ⊥)
      → (v : Tree) (r rest' : List Token) → SameHead rest rest' → Fits (alt f g) v → CannotGoOn (alt f g) r
      → spelled v ++ r ≡ seen ++ rest' → ⊥
  stops_left_stuck seen rest starts f_stuck (left v) r rest' same fits ends e = f_stuck v r rest' same fits
      (ends_left f g r ends) e
  stops_left_stuck seen rest starts f_stuck (right v) r rest' same fits ends e =
      clash f g _ _ apart (same_starts f _ _ (same_head_after seen rest rest' same) starts)
      (starts_with g v r g_full fits) (sym e)
  stops_left_stuck seen rest starts f_stuck _ r rest' same fits ends e = absurd fits

  pub stops_left : (ts rest : List Token) → Starts f ts → IsStuckAt f ts rest → IsStuckAt (alt f g) ts rest
  stops_left ts rest starts p = record {
    seen = p.seen;
    cut = p.cut;
    begun = (left p.begun.0, p.begun.1, p.begun.2, p.begun.3);
    stuck = stops_left_stuck p.seen rest (subst (Starts f) p.cut starts) p.stuck;
  }

  stops_right_stuck : (seen rest : List Token) → Lacks f (seen ++ rest)
      → ((v : Tree) (r rest' : List Token) → SameHead rest rest' → Fits g v → CannotGoOn g r
      → spelled v ++ r ≡ seen ++ rest' → ⊥)
      → (v : Tree) (r rest' : List Token) → SameHead rest rest' → Fits (alt f g) v → CannotGoOn (alt f g) r
      → spelled v ++ r ≡ seen ++ rest' → ⊥
  stops_right_stuck seen rest lacks g_stuck (right v) r rest' same fits ends e = g_stuck v r rest' same fits
      (ends_right f g r ends) e
  stops_right_stuck seen rest lacks g_stuck (left v) r rest' same fits ends e =
      lacks_clash f _ _ (same_lacks f _ _ (same_head_after seen rest rest' same) lacks)
      (starts_with f v r f_full fits) (sym e)
  stops_right_stuck seen rest lacks g_stuck _ r rest' same fits ends e = absurd fits

  pub stops_right : (ts rest : List Token) → Lacks f ts → IsStuckAt g ts rest → IsStuckAt (alt f g) ts rest
  stops_right ts rest lacks p = record {
    seen = p.seen;
    cut = p.cut;
    begun = (right p.begun.0, p.begun.1, p.begun.2, p.begun.3);
    stuck = stops_right_stuck p.seen rest (subst (Lacks f) p.cut lacks) p.stuck;
  }

-- ---- options

module _ (f : Form) (full : nullable f ≡ false) where
  takes_some_only : (p : Tree) (rest : List Token) → Fits f p
      → ((v : Tree) (r rest' : List Token) → SameHead rest rest' → Fits f v → CannotGoOn f r
      → spelled v ++ r ≡ spelled p ++ rest' → (v ≡ p) × (r ≡ rest'))
      → (v : Tree) (r rest' : List Token) → SameHead rest rest' → Fits (opt f) v → CannotGoOn (opt f) r
      → spelled v ++ r ≡ spelled p ++ rest' → (v ≡ some p) × (r ≡ rest')
  takes_some_only p rest p_fits f_only (some v) r rest' same fits ends e =
      let h = f_only v r rest' same fits (ends_opt f r ends) e in (cc, h.1)
  takes_some_only p rest p_fits f_only none r rest' same fits ends e = absurd (ends_clash f r ends (rw e
      (starts_with f p rest' full p_fits)))
  takes_some_only p rest p_fits f_only _ r rest' same fits ends e = absurd fits

  pub takes_some : (ts rest : List Token) (x : Value) → Takes f ts rest x → Takes (opt f) ts rest x
  takes_some ts rest x p = record {
    tree = some p.tree;
    fits = p.fits;
    cut = p.cut;
    means = p.means;
    only =
        takes_some_only p.tree rest p.fits p.only;
  }

  takes_none_only : (rest : List Token) → Lacks f rest → (v : Tree) (r rest' : List Token) → SameHead rest rest'
      → Fits (opt f) v → CannotGoOn (opt f) r → spelled v ++ r ≡ rest' → (v ≡ none) × (r ≡ rest')
  takes_none_only rest lacks none r rest' same fits ends e = (refl, e)
  takes_none_only rest lacks (some v) r rest' same fits ends e = absurd (lacks_clash f _ _
      (same_lacks f _ _ same lacks) (starts_with f v r full fits) (sym e))
  takes_none_only rest lacks _ r rest' same fits ends e = absurd fits

  pub takes_none : (ts : List Token) → Lacks f ts → Takes (opt f) ts ts nothing
  takes_none ts lacks = record { tree = none; fits = tt; cut = refl; means = refl; only = takes_none_only ts lacks }

  stops_some_stuck : (seen rest : List Token) → Starts f (seen ++ rest)
      → ((v : Tree) (r rest' : List Token) → SameHead rest rest' → Fits f v → CannotGoOn f r
      → spelled v ++ r ≡ seen ++ rest' → ⊥)
      → (v : Tree) (r rest' : List Token) → SameHead rest rest' → Fits (opt f) v → CannotGoOn (opt f) r
      → spelled v ++ r ≡ seen ++ rest' → ⊥
  stops_some_stuck seen rest starts f_stuck (some v) r rest' same fits ends e = f_stuck v r rest' same fits
      (ends_opt f r ends) e
  stops_some_stuck seen rest starts f_stuck none r rest' same fits ends e = ends_clash f r ends (rw e
      (same_starts f _ _ (same_head_after seen rest rest' same) starts))
  stops_some_stuck seen rest starts f_stuck _ r rest' same fits ends e = absurd fits

  pub stops_some : (ts rest : List Token) → Starts f ts → IsStuckAt f ts rest → IsStuckAt (opt f) ts rest
  stops_some ts rest starts p = record {
    seen = p.seen;
    cut = p.cut;
    begun = (some p.begun.0, p.begun.1, p.begun.2, p.begun.3);
    stuck = stops_some_stuck p.seen rest (subst (Starts f) p.cut starts) p.stuck;
  }
