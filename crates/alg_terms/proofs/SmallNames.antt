-- The names of the small file are names, and distinct.
use Rattle.std.proofs.Common.{◌≡◌, ◌≢◌, ℕ, zero, suc, List, [], ◌∷◌, ◌++◌, refl, arith, false, lit<, ap, ◌∙◌}
use Rattle.std.specs.List.{AllByRecursion}
use Rattle.std.specs.Prelude.{encode_utf8_all, All, AllPairs}
use Rattle.std.proofs.lemmas.List.Elements.{All-from_recursion}
use Rattle.std.proofs.lemmas.List.Kept.{AllPairs-cons}
use Rattle.std.proofs.lemmas.Str.{encode_ascii}
use Rattle.alg_terms.specs.Names.{AllContinue, IsName, is_reserved, reserved_words}
use Rattle.alg_terms.specs.SmallFile.{apostrophes, name, small}
use Rattle.alg_terms.specs.Valid.{names_of}

encoded : (k : ℕ) → encode_utf8_all (apostrophes k) ≡ apostrophes k
encoded zero = refl
encoded (suc k) =
    ap (λ w. w ++ encode_utf8_all (apostrophes k)) (encode_ascii 39 (lit< tt)) ∙ ap (λ w. 39 ∷ w) (encoded k)

go_on : (k : ℕ) → AllContinue (apostrophes k)
go_on zero = tt
go_on (suc k) = (refl, go_on k)

is_name : (k : ℕ) → is_reserved (name k) ≡ false → IsName (name k)
is_name k free =
    let bytes : encode_utf8_all (name k) ≡ name k =
    ap (λ w. w ++ encode_utf8_all (apostrophes k)) (encode_ascii 95 (lit< tt)) ∙ ap (λ w. 95 ∷ w) (encoded k)
    in
    ((95, apostrophes k, bytes, refl, go_on k), free)

pub spelled : All IsName (names_of small)
unfolding reserved_words
spelled =
    All-from_recursion IsName (names_of small) (
      is_name 0 refl,
      (
        is_name 1 refl,
        (
          is_name 2 refl,
          (is_name 3 refl, (is_name 4 refl, (is_name 5 refl, tt))),
        ),
      ),
    )

-- each item differs from each later one
abbrev AreApart : List (List ℕ) → Type 0
AreApart [] = Unit {0}
AreApart (x ∷ xs) = AllByRecursion (λ y. x ≢ y) xs × AreApart xs

apart : (xs : List (List ℕ)) → AreApart xs → AllPairs (λ first later. first ≢ later) xs
apart [] h = λ i j d below within. absurd (omega arith)
apart (x ∷ xs) h =
    AllPairs-cons (λ first later. first ≢ later) x xs (All-from_recursion (λ y. x ≢ y) xs h.0) (apart xs h.1)

pub distinct : AllPairs (λ first later. first ≢ later) (names_of small)
distinct = apart (names_of small) (
  (λ h. cc, (λ h. cc, (λ h. cc, (λ h. cc, (λ h. cc, tt))))),
  (
    (λ h. cc, (λ h. cc, (λ h. cc, (λ h. cc, tt)))),
    (
      (λ h. cc, (λ h. cc, (λ h. cc, tt))),
      (
        (λ h. cc, (λ h. cc, tt)),
        (
          (λ h. cc, tt),
          (
            tt,
            tt,
          ),
        ),
      ),
    ),
  ),
)
