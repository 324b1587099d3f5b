-- Adding each member that is not there yet keeps each member once, where it occurs first.
use Rattle.std.proofs.Common.{◌≡◌, Bool, true, false, not, ◌&&◌, ◌||◌, cond, List, [], ◌∷◌, ◌++◌, filter, refl, sym, ◌∙◌, ap, append_assoc, ◌==◌, append-nil, Decides}
use Rattle.std.specs.List.{list_any}
use Rattle.std.proofs.lemmas.List.Folds.{list_any-append}
use Rattle.std.specs.Str.{bytes_eq}
use Rattle.std.proofs.lemmas.Bool.{eqb-true, eq-eqb}
use Rattle.std.proofs.lemmas.Slice.Eq.{bytes_eq-Decides}
use Rattle.indexmap.specs.IndexSet.{insert_key, insert_all}
use Rattle.alg_terms.specs.declared.term.Atom.{Atom}
use Rattle.alg_terms.specs.Lists.{each_once}
use Rattle.alg_reify.specs.Table.{atom_eq}

pub same_test : (a b : Bool) → (a ≡ true → b ≡ true) → (b ≡ true → a ≡ true) → a ≡ b
same_test true true f g = refl
same_test true false f g = sym (f refl)
same_test false true f g = g refl
same_test false false f g = refl

filter_turn : {A : Type 0} (p : A → Bool) (y : A) (qs rs : List A) (a c : Bool) → c ≡ (a && p y) → filter p qs ≡ rs
    → filter p (cond a (y ∷ qs) qs) ≡ cond c (y ∷ rs) rs
filter_turn p y qs rs true c e h = rw e (ap (λ zs. cond (p y) (y ∷ zs) zs) h)
filter_turn p y qs rs false c e h = rw e h

-- a filter after another keeps what both keep
pub filter_both : {A : Type 0} (p q r : A → Bool) → ((y : A) → r y ≡ (q y && p y)) → (ys : List A) →
    filter p (filter q ys) ≡ filter r ys
filter_both p q r same [] = refl
filter_both p q r same (y ∷ ys) = filter_turn p y (filter q ys) (filter r ys) (q y) (r y) (same y)
    (filter_both p q r same ys)

abbrev pub is_new : List Atom → Atom → Bool
is_new ks y = not (list_any (atom_eq y) ks)

both_true : (p q : Bool) → (p && q) ≡ true → (p ≡ true) × (q ≡ true)
both_true true true h = (refl, refl)
both_true true false h = (refl, h)
both_true false q h = cc

all_true : (p q : Bool) → p ≡ true → q ≡ true → (p && q) ≡ true
all_true p q f g = rw f g

atoms_same : (a b : Atom) → atom_eq a b ≡ true → a ≡ b
atoms_same a b h =
    let parts = both_true (bytes_eq a.path b.path) (a.var == b.var) h in
    let path = (bytes_eq-Decides a.path b.path).0 parts.0 in
    let var = eqb-true a.var b.var parts.1 in
    λ i. record { path = path i; var = var i }

pub atoms_decide : (a b : Atom) → Decides (atom_eq a b) (a ≡ b)
atoms_decide a b = (
  atoms_same a b,
  λ e. ap (atom_eq a) (sym e) ∙ all_true (bytes_eq a.path a.path) (a.var == a.var)
      ((bytes_eq-Decides a.path a.path).1 refl) (eq-eqb a.var a.var refl),
)

atom_eq-swap : (a b : Atom) → atom_eq a b ≡ atom_eq b a
atom_eq-swap a b =
    same_test (atom_eq a b) (atom_eq b a)
    (λ h. (atoms_decide b a).1 (sym ((atoms_decide a b).0 h)))
    (λ h. (atoms_decide a b).1 (sym ((atoms_decide b a).0 h)))

new_not_by : (ks : List Atom) (a y : Atom) → list_any (atom_eq a) ks ≡ true → (b : Bool) → atom_eq a y ≡ b
    → is_new ks y ≡ (not b && is_new ks y)
new_not_by ks a y h true e = ap (λ z. is_new ks z) (sym ((atoms_decide a y).0 e)) ∙ ap not h
new_not_by ks a y h false e = refl

-- where a is there already, no atom that is new is a
new_not : (ks : List Atom) (a y : Atom) → list_any (atom_eq a) ks ≡ true →
    is_new ks y ≡ (not (atom_eq a y) && is_new ks y)
new_not ks a y h = new_not_by ks a y h (atom_eq a y) refl

neither : (p q r : Bool) → q ≡ r → not (p || (q || false)) ≡ (not r && not p)
neither true true r e = rw (sym e) refl
neither true false r e = rw (sym e) refl
neither false true r e = rw (sym e) refl
neither false false r e = rw (sym e) refl

-- what is new after a was added is new and not a
new_after : (ks : List Atom) (a y : Atom) → is_new (ks ++ a ∷ []) y ≡ (not (atom_eq a y) && is_new ks y)
new_after ks a y =
    ap not (list_any-append (atom_eq y) ks (a ∷ []))
    ∙ neither (list_any (atom_eq y) ks) (atom_eq y a) (atom_eq a y) (atom_eq-swap y a)

step : (ks : List Atom) (a : Atom) (xs : List Atom) (b : Bool) → list_any (atom_eq a) ks ≡ b
    → insert_all atom_eq (cond b ks (ks ++ a ∷ [])) xs ≡ cond b ks (ks ++ a ∷ []) ++ filter
    (is_new (cond b ks (ks ++ a ∷ []))) (each_once atom_eq xs)
    → insert_all atom_eq (cond b ks (ks ++ a ∷ [])) xs ≡ ks ++ filter (is_new ks) (each_once atom_eq (a ∷ xs))
step ks a xs true h rest =
    rest ∙ ap (λ zs. ks ++ zs) (rw h (sym (filter_both (is_new ks) (λ y. not (atom_eq a y)) (is_new ks)
    (λ y. new_not ks a y h) (each_once atom_eq xs))))
step ks a xs false h rest =
    let kept = filter_both (is_new ks) (λ y. not (atom_eq a y)) (is_new (ks ++ a ∷ [])) (λ y. new_after ks a y)
    (each_once atom_eq xs) in
    rest ∙ append_assoc ks (a ∷ []) (filter (is_new (ks ++ a ∷ [])) (each_once atom_eq xs))
    ∙ rw h (ap (λ zs. ks ++ a ∷ zs) (sym kept))

pub insert_all-once : (ks xs : List Atom) → insert_all atom_eq ks xs ≡ ks ++ filter (is_new ks) (each_once atom_eq xs)
insert_all-once ks [] = sym (append-nil ks)
insert_all-once ks (a ∷ xs) = step ks a xs (list_any (atom_eq a) ks) refl (insert_all-once (insert_key atom_eq ks a) xs)

filter_all : (ys : List Atom) → filter (is_new []) ys ≡ ys
filter_all [] = refl
filter_all (y ∷ ys) = ap (λ zs. y ∷ zs) (filter_all ys)

-- the table is what adding one atom after the other gives
pub insert_all-none : (xs : List Atom) → insert_all atom_eq [] xs ≡ each_once atom_eq xs
insert_all-none xs = insert_all-once [] xs ∙ filter_all (each_once atom_eq xs)
