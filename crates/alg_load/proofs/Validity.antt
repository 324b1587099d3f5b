-- The file of each number up to the limit is valid.
use Rattle.std.proofs.Common.{◌≡◌, ◌≢◌, ◌≤◌, ◌<◌, ◌+◌, ℕ, true, false, List, [], ◌∷◌, ◌++◌, refl, sym, subst, ap, arith, lit<}
use Rattle.std.specs.Prelude.{All, AllPairs, encode_utf8_all}
use Rattle.std.proofs.lemmas.List.Elements.{All-from_recursion, All-nil, All-map}
use Rattle.std.proofs.lemmas.List.FromFn.{length-range_with_len, get_or-range_with_len, length-map-range_with_len}
use Rattle.std.proofs.lemmas.List.Kept.{AllPairs-cons}
use Rattle.std.proofs.lemmas.Str.{encode_ascii}
use Rattle.unicode_ident.proofs.IdentLemmas.{is_xid_start-ascii}
use Rattle.alg_terms.specs.declared.file.File.{File}
use Rattle.alg_terms.specs.declared.file.Statement.TheVariants as statement
use Rattle.alg_terms.specs.GoalRules.{IsGoal, IsHyp}
use Rattle.alg_terms.specs.Names.{IsName, starts_name, is_reserved, reserved_words}
use Rattle.alg_terms.specs.Valid.{IsValid, HasCounts, IsSort, IsHom, IsVar, names_of}
use Rattle.alg_load.specs.Limits.{MAX_LOAD}
use Rattle.alg_load.specs.Loaded.{goal_of, numbers, loaded}
use Rattle.alg_load.proofs.EachGoal.{is_goal}
use Rattle.alg_load.proofs.Ordered.{ordered}

counts : (n : ℕ) → n ≤ MAX_LOAD → HasCounts (loaded n)
counts n few =
    let goals = length-map-range_with_len goal_of 0 n in
    let statements = length-map-range_with_len statement.Goal 0 n in
    record {
      sorts = lit< tt;
      homs = lit< tt;
      vars = lit< tt;
      hyps = lit< tt;
      goals = omega (arith, goals);
      order = omega (arith, statements);
    }

-- a letter is a name
letter : (c : ℕ) → c < 128 → starts_name c ≡ true → is_reserved (c ∷ []) ≡ false → IsName (c ∷ [])
letter c low starts free =
    let bytes : encode_utf8_all (c ∷ []) ≡ c ∷ [] = ap (λ w. w ++ encode_utf8_all []) (encode_ascii c low) in
    ((c, [], bytes, starts, tt), free)

spelled : (n : ℕ) → All IsName (names_of (loaded n))
unfolding reserved_words
spelled n =
    All-from_recursion IsName ((70 ∷ []) ∷ (120 ∷ []) ∷ (121 ∷ []) ∷ []) (
      letter 70 (lit< tt) (is_xid_start-ascii 70 (lit< tt)) refl,
      (
        letter 120 (lit< tt) (is_xid_start-ascii 120 (lit< tt)) refl,
        (letter 121 (lit< tt) (is_xid_start-ascii 121 (lit< tt)) refl, tt),
      ),
    )

abbrev Differ : List ℕ → List ℕ → Type 0
Differ name later = name ≢ later

letters_differ : (c d : ℕ) → c < d → Differ (c ∷ []) (d ∷ [])
letters_differ c d less same = let e : c ≡ d = cc in absurd (omega arith)

distinct : (n : ℕ) → AllPairs Differ (names_of (loaded n))
distinct n =
    let two : List (List ℕ) = (120 ∷ []) ∷ (121 ∷ []) ∷ [] in
    let one : List (List ℕ) = (121 ∷ []) ∷ [] in
    AllPairs-cons Differ (70 ∷ []) two
    (
    All-from_recursion (Differ (70 ∷ [])) two
    (letters_differ 70 120 (lit< tt), (letters_differ 70 121 (lit< tt), tt))
    )
    (
    AllPairs-cons Differ (120 ∷ []) one
    (All-from_recursion (Differ (120 ∷ [])) one (letters_differ 120 121 (lit< tt), tt))
    (
    AllPairs-cons Differ (121 ∷ []) [] (All-nil (Differ (121 ∷ [])))
    (λ i j d below within. absurd (omega arith))
    )
    )

goals : (n : ℕ) → n ≤ MAX_LOAD → All (IsGoal (loaded n)) (loaded n).goals
goals n few =
    let count = length-range_with_len 0 n in
    All-map (IsGoal (loaded n)) goal_of (numbers n) (λ k d within.
    let low : k < n = omega (arith, count) in
    subst (λ i. IsGoal (loaded n) (goal_of i)) (sym (get_or-range_with_len 0 n k d low))
    (is_goal n (0 + k) (omega arith)))

loaded_is_valid : (n : ℕ) → n ≤ MAX_LOAD → IsValid (loaded n)
loaded_is_valid n few = record {
  counts = counts n few;
  spelled = spelled n;
  distinct = distinct n;
  sorts = All-from_recursion IsSort (loaded n).sorts (λ h. tt, tt);
  homs = All-nil (IsHom (loaded n));
  vars = All-from_recursion (IsVar (loaded n)) (loaded n).vars (lit< tt, (lit< tt, tt));
  hyps = All-nil (IsHyp (loaded n));
  goals = goals n few;
  ordered = ordered n;
}

-- what equals the file of a number is valid
pub is_valid : (n : ℕ) (file : File) → n ≤ MAX_LOAD → file ≡ loaded n → IsValid file
is_valid n file few is = subst IsValid (sym is) (loaded_is_valid n few)
