-- What a bucket says of the leads in it.
use Rattle.std.specs.Prelude.{◌≡◌, ℕ, zero, suc, ◌<◌, ◌≤◌, ◌↔◌, ◌&&◌, ◌==◌, not, Bool, true, false, cond, nat_le, nat_lt, List, [], ◌∷◌, ◌++◌, Option, Some, None, min, length, slice_get, slice_set, slice_index_or, option_map, All}
use Rattle.std.proofs.Common.{refl, sym, ap, subst, ◌∙◌, T, arith}
use Rattle.std.specs.Ordering.{nat_cmp}
use Rattle.std.proofs.lemmas.List.Elements.{All-nil, All-head, All-tail, All-cons, All-append}
use Rattle.alg_mono.specs.FiniteMaps.{IsCanonical, all_some}
use Rattle.alg_mono.specs.Mono.{Monomial}
use Rattle.alg_mono.specs.Monomials.{Divides, exponent}
use Rattle.alg_mono.specs.Numbers.{exponents}
use Rattle.alg_mono.proofs.Canonical.{first}
use Rattle.alg_pairs.specs.Leads.{divides}
use Rattle.alg_pairs.specs.Buckets.{lesser, before, line_if, least_of, least_in, least_atom, Occurs, BelongsTo, IsFiled}
use Rattle.alg_pairs.specs.declared.bucket.Bucket.{Bucket}
use Rattle.alg_pairs.specs.declared.lead.Lead.{Lead}
use Rattle.alg_pairs.proofs.Dividing.{divides_says, same_answer}
use Rattle.alg_pairs.proofs.Lesser.{lesser_none, lesser_assoc, lesser_swap}

-- ---- one lead
pub is_divided : (d m : Monomial) (r : Bool) → IsCanonical nat_cmp exponents d → (r ≡ true) ↔ Divides nat_cmp d m →
    r ≡ divides d m
is_divided d m r c t = same_answer r (divides d m) t (divides_says d m c)

pub earlier : (least : Option ℕ) (x : Lead) (m : Monomial) → before x.line least ≡ true → divides x.lead m ≡ true →
    Some x.line ≡ lesser least (line_if m x)
earlier None x m b d = ap (λ t. cond t (Some x.line) None) (sym d)
earlier (Some k) x m b d =
    let less : x.line < k = test x.line k b in
    let e : x.line ≡ min k x.line = omega arith in
    ap Some e ∙ ap (λ t. lesser (Some k) (cond t (Some x.line) None)) (sym d)
  where
    test : (a b : ℕ) → nat_lt a b ≡ true → a < b
    test a b e = grind arith

pub later : (least : Option ℕ) (x : Lead) (m : Monomial) → before x.line least ≡ false →
    least ≡ lesser least (line_if m x)
later None x m b = absurd (let e : true ≡ false = b in grind arith)
later (Some k) x m b =
    elim (divides x.lead m) as (λ t. Some k ≡ lesser (Some k) (cond t (Some x.line) None)) [
      | true ↦ ap Some (let low = test x.line k b in let e : k ≡ min k x.line = omega arith in e)
      | false ↦ refl
    ]
  where
    test : (a b : ℕ) → nat_lt a b ≡ false → b ≤ a
    test a b e = grind arith

pub not_divided : (least : Option ℕ) (x : Lead) (m : Monomial) → divides x.lead m ≡ false →
    least ≡ lesser least (line_if m x)
not_divided least x m d =
    sym (lesser_none least) ∙ ap (λ t. lesser least (cond t (Some x.line) None)) (sym d)

-- ---- one bucket
-- what has an atom divides nothing without it
misses : (atom : ℕ) (d m : Monomial) → least_atom d ≡ Some atom → IsCanonical nat_cmp exponents d →
    exponent nat_cmp atom m ≡ 0 → divides d m ≡ false
misses atom [] m e c z = absurd (let f : None ≡ Some atom = e in grind arith)
misses atom (p ∷ d) m e c z =
    let same : p.0 ≡ atom = some_same p.0 atom e in
    let none : exponent nat_cmp p.0 m ≡ 0 = ap (λ k. exponent nat_cmp k m) same ∙ z in
    ap (λ n. nat_le p.1 n && divides d m) none ∙ ap (λ t. t && divides d m)
    (none_fits p.1 (some p.1 (first (not (p.1 == 0)) (all_some nat_cmp exponents d) c.no_none)))
  where
    some_same : (a b : ℕ) → ◌≡◌ {A = Option ℕ} (Some a) (Some b) → a ≡ b
    some_same a b e = grind arith

    some : (n : ℕ) → T (not (n == 0)) → 0 < n
    some zero h = absurd h
    some (suc n) h = omega arith

    none_fits : (n : ℕ) → 0 < n → nat_le n 0 ≡ false
    none_fits n h = grind arith

pub skipped : (atom : Option ℕ) (xs : List Lead) (m : Monomial) → All (BelongsTo atom) xs → (Occurs atom m → ⊥) →
    least_of m xs ≡ None
skipped None xs m h n = absurd (n tt)
skipped (Some atom) [] m h n = refl
skipped (Some atom) (x ∷ xs) m h n =
    let here = All-head (BelongsTo (Some atom)) x xs h in
    ap (λ t. lesser (cond t (Some x.line) None) (least_of m xs))
    (misses atom x.lead m here.atom_is here.sound (none (exponent nat_cmp atom m) n))
    ∙ skipped (Some atom) xs m (All-tail (BelongsTo (Some atom)) x xs h) n
  where
    none : (k : ℕ) → (0 < k → ⊥) → k ≡ 0
    none zero f = refl
    none (suc k) f = absurd (f (omega arith))

-- ---- all buckets, one of which is changed
pub changed : (m : Monomial) (o : Option ℕ) (bs : List Bucket) (at : ℕ) (b new : Bucket) → at < length bs →
    b ≡ slice_index_or bs at b → least_of m new.leads.items ≡ lesser o (least_of m b.leads.items) →
    least_in m (slice_set bs at new) ≡ lesser o (least_in m bs)
changed m o [] at b new l e h = absurd (omega arith)
changed m o (c ∷ bs) zero b new l e h =
    ap (λ x. lesser x (least_in m bs)) (h ∙ ap (λ (x : Bucket). lesser o (least_of m x.leads.items)) e)
    ∙ lesser_assoc o (least_of m c.leads.items) (least_in m bs)
changed m o (c ∷ bs) (suc at) b new l e h =
    ap (lesser (least_of m c.leads.items)) (changed m o bs at b new (omega arith) e h)
    ∙ lesser_swap (least_of m c.leads.items) o (least_in m bs)

pub appended : (m : Monomial) (o : Option ℕ) (bs : List Bucket) (b : Bucket) → least_of m b.leads.items ≡ o →
    least_in m (bs ++ b ∷ []) ≡ lesser o (least_in m bs)
appended m o [] b h = ap (λ x. lesser x None) h
appended m o (c ∷ bs) b h =
    ap (lesser (least_of m c.leads.items)) (appended m o bs b h)
    ∙ lesser_swap (least_of m c.leads.items) o (least_in m bs)

-- ---- the bucket that is changed
pub place_there : (bs : List Bucket) (at : ℕ) (a : Option ℕ) →
    option_map (λ (b : Bucket). b.atom) (slice_get bs at) ≡ Some a → at < length bs
place_there [] at a e = absurd (nowhere at e)
  where
    nowhere : (at : ℕ) → option_map (λ (b : Bucket). b.atom) (slice_get [] at) ≡ Some a → ⊥
    nowhere at e = grind arith
place_there (b ∷ bs) zero a e = omega arith
place_there (b ∷ bs) (suc at) a e = let h = place_there bs at a e in omega arith

pub atom_there : (bs : List Bucket) (at : ℕ) (a : Option ℕ) (b : Bucket) →
    option_map (λ (b : Bucket). b.atom) (slice_get bs at) ≡ Some a → b ≡ slice_index_or bs at b → a ≡ b.atom
atom_there [] at a b e f = absurd (nowhere at e)
  where
    nowhere : (at : ℕ) → option_map (λ (b : Bucket). b.atom) (slice_get [] at) ≡ Some a → ⊥
    nowhere at e = grind arith
atom_there (c ∷ bs) zero a b e f = sym (some_same c.atom a e) ∙ ap (λ (x : Bucket). x.atom) (sym f)
  where
    some_same : (a b : Option ℕ) → ◌≡◌ {A = Option (Option ℕ)} (Some a) (Some b) → a ≡ b
    some_same a b e = grind arith
atom_there (c ∷ bs) (suc at) a b e f = atom_there bs at a b e f

pub filed_at : (bs : List Bucket) (at : ℕ) (b : Bucket) → All IsFiled bs → at < length bs →
    b ≡ slice_index_or bs at b → IsFiled b
filed_at [] at b h l e = absurd (omega arith)
filed_at (c ∷ bs) zero b h l e = subst IsFiled (sym e) (All-head IsFiled c bs h)
filed_at (c ∷ bs) (suc at) b h l e = filed_at bs at b (All-tail IsFiled c bs h) (omega arith) e

-- the bucket with one lead more
pub filed_more : (atom : Option ℕ) (xs ys : List Lead) (x : Lead) → All (BelongsTo atom) xs → BelongsTo atom x →
    ys ≡ xs ++ x ∷ [] → All (BelongsTo atom) ys
filed_more atom xs ys x h b e = subst (All (BelongsTo atom)) (sym e)
    (All-append (BelongsTo atom) xs (x ∷ []) h (All-cons (BelongsTo atom) x [] b (All-nil (BelongsTo atom))))
