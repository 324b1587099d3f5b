-- Lists of numbers, names and variables that are declared together.
use Rattle.std.proofs.Common.{◌≡◌, ◌<◌, ◌≤◌, ℕ, zero, suc, ◌+◌, List, [], ◌∷◌, ◌++◌, length, map, take, refl, sym, ap, ◌∙◌, subst, arith, append-nil, append_assoc}
use Rattle.std.specs.Prelude.{All, slice_index_or}
use Rattle.std.proofs.lemmas.List.{take_more}
use Rattle.std.proofs.lemmas.List.Elements.{All-head}
use Rattle.alg_terms.specs.declared.declarations.VarDecl.{VarDecl}
use Rattle.alg_terms.specs.declared.file.File.{File}
use Rattle.alg_terms.specs.Members.{var_at, sort_of_var}
use Rattle.alg_terms.specs.Order.{numbers_from}
use Rattle.alg_tokens.specs.declared.token.TokenKind.TheVariants as kinds
use Rattle.alg_tokens.specs.Pieces.{Piece}
use Rattle.alg_reader.specs.declared.raw.Span.{Span}
use Rattle.alg_reader.specs.WellRead.{bytes_at}
use Rattle.alg_typing.specs.Resolved.{vars_of}
use Rattle.alg_typing.proofs.FreshNames.{Name}
use Rattle.alg_printer.specs.Names.{var_name}
use Rattle.alg_reading_back.proofs.WrittenStatements.{name_pieces, name_spans}
use Rattle.alg_reading_back.proofs.WrittenTerms.{span}
use Rattle.alg_reading_back.proofs.NextLists.{first_same}
use Rattle.alg_reading_back.proofs.PiecesAt.{PiecesAt, span_bytes}

-- as many numbers as are counted
pub numbers_long : (first count : ℕ) → length (numbers_from first count) ≡ count
numbers_long first zero = refl
numbers_long first (suc count) = ap suc (numbers_long (suc first) count)

-- numbers that rise by one begin with the first
pub begin_same : (first start count more : ℕ) → 1 ≤ count →
    numbers_from first count ≡ numbers_from start more → first ≡ start
begin_same first start zero more some h = absurd (omega arith)
begin_same first start (suc count) zero some h = absurd (cc)
begin_same first start (suc count) (suc more) some h =
    first_same first start (numbers_from (suc first) count) (numbers_from (suc start) more) h

-- what holds of what all of them are mapped to holds at the first
pub first_of_all : (P : ℕ → Type 0) (f : ℕ → ℕ) (first count : ℕ) → 1 ≤ count →
    All P (map f (numbers_from first count)) → P (f first)
first_of_all P f first zero some h = absurd (omega arith)
first_of_all P f first (suc count) some h = All-head P (f first) (map f (numbers_from (suc first) count)) h

-- several more items
pub take_several : {X : Type 0} (xs : List X) (n count : ℕ) (d : X) → n + count ≤ length xs →
    take (n + count) xs ≡ take n xs ++ map (λ k. slice_index_or xs k d) (numbers_from n count)
take_several xs n zero d fits =
    let here : n + zero ≡ n = omega arith in ap (λ k. take k xs) here ∙ sym (append-nil (take n xs))
take_several xs n (suc count) d fits =
    let later = map (λ k. slice_index_or xs k d) (numbers_from (suc n) count) in
    let place : n + suc count ≡ suc n + count = omega arith in
    let one : suc n ≡ n + 1 = omega arith in
    ap (λ k. take k xs) place ∙ take_several xs (suc n) count d (omega (arith, fits))
    ∙ ap (λ ys. ys ++ later) (ap (λ k. take k xs) one ∙ take_more xs n d (omega (arith, fits)))
    ∙ append_assoc (take n xs) (slice_index_or xs n d ∷ []) later

-- the bytes of names that stand in a text, each after a space
pub names_bytes : (text : List ℕ) (at : ℕ) (names : List Name) (rest : List Piece) →
    PiecesAt text at (name_pieces names ++ rest) → map (bytes_at text) (name_spans at names) ≡ names
names_bytes text at [] rest h = refl
names_bytes text at (bytes ∷ names) rest h =
    let here : bytes_at text (span (at + 1) bytes) ≡ bytes =
    span_bytes text (at + 1) kinds.Name bytes (name_pieces names ++ rest) h.1 in
    ap (λ b. b ∷ map (bytes_at text) (name_spans (at + 1 + length bytes) names)) here
    ∙ ap (λ bs. bytes ∷ bs) (names_bytes text (at + 1 + length bytes) names rest h.1.1)

-- as many as the names
pub length_of_spans : (at : ℕ) (names : List Name) → length (name_spans at names) ≡ length names
length_of_spans at [] = refl
length_of_spans at (bytes ∷ names) = ap suc (length_of_spans (at + 1 + length bytes) names)

-- variables by the bytes of their names
vars_of_names : (g : File) (text : List ℕ) (sort : ℕ) (spans : List Span) →
    vars_of g text sort spans ≡ map (λ bytes. record { name = bytes; sort = sort }) (map (bytes_at text) spans)
vars_of_names g text sort [] = refl
vars_of_names g text sort (span ∷ spans) =
    ap (λ vars. record { name = bytes_at text span; sort = sort } ∷ vars) (vars_of_names g text sort spans)

-- variables of one sort are what they are by their names and it
of_one_sort : (file : File) (sort first count : ℕ) →
    ((k : ℕ) → k < count → sort_of_var file (first + k) ≡ sort) →
    map (λ bytes. record { name = bytes; sort = sort }) (map (var_name file) (numbers_from first count))
    ≡ map (var_at file) (numbers_from first count)
of_one_sort file sort first zero same = refl
of_one_sort file sort first (suc count) same =
    let place : first + 0 ≡ first = omega arith in
    let here : sort_of_var file first ≡ sort = subst (λ k. sort_of_var file k ≡ sort) place (same 0 (omega arith)) in
    let later : (k : ℕ) → k < count → sort_of_var file (suc first + k) ≡ sort = λ k low.
    let there : first + suc k ≡ suc first + k = omega arith in
    subst (λ n. sort_of_var file n ≡ sort) there (same (suc k) (omega arith)) in
    let names = map (var_name file) (numbers_from (suc first) count) in
    let Var : ℕ → VarDecl = λ s. record { name = var_name file first; sort = s } in
    ap (λ s. Var s ∷ map (λ bytes. record { name = bytes; sort = sort }) names) (sym here)
    ∙ ap (λ vars. var_at file first ∷ vars) (of_one_sort file sort (suc first) count later)

-- what is declared by the names of variables that have one sort
pub declared_vars : (file g : File) (text : List ℕ) (sort first count : ℕ) (spans : List Span) →
    ((k : ℕ) → k < count → sort_of_var file (first + k) ≡ sort) →
    map (bytes_at text) spans ≡ map (var_name file) (numbers_from first count) →
    vars_of g text sort spans ≡ map (var_at file) (numbers_from first count)
declared_vars file g text sort first count spans same bytes =
    vars_of_names g text sort spans ∙ ap (map (λ bytes. record { name = bytes; sort = sort })) bytes
    ∙ of_one_sort file sort first count same
