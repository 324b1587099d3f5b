-- The grammar derives the canonical text of sorts and morphisms, as the raw statements that they are.
use Rattle.std.proofs.Common.{◌≡◌, ℕ, ◌+◌, List, [], ◌∷◌, ◌++◌, Bool, true, false, pos, length, decimal, refl, sym, ap, ◌∙◌, arith}
use Rattle.alg_terms.specs.declared.declarations.HomDecl.{HomDecl}
use Rattle.alg_terms.specs.declared.declarations.Kind.{Kind}
use Rattle.alg_terms.specs.declared.declarations.Kind.TheVariants.{Ring, Domain, Field}
use Rattle.alg_terms.specs.declared.declarations.Sort.{Sort}
use Rattle.alg_terms.specs.declared.file.File.{File}
use Rattle.alg_terms.specs.Kinds.{IsDomain}
use Rattle.alg_terms.specs.Valid.{IsSort}
use Rattle.alg_tokens.specs.declared.token.Sign.TheVariants as signs
use Rattle.alg_tokens.specs.declared.token.Token.{Token}
use Rattle.alg_tokens.specs.declared.token.TokenKind.TheVariants as kinds
use Rattle.alg_tokens.specs.declared.token.Word.{Word}
use Rattle.alg_tokens.specs.declared.token.Word.TheVariants as words
use Rattle.alg_tokens.specs.Spelling.{spelling}
use Rattle.alg_tokens.specs.Laws.{tokens_of}
use Rattle.alg_reader.specs.declared.place.Place.TheVariants.{Plain}
use Rattle.alg_reader.specs.declared.raw.RawKind.{RawKind}
use Rattle.alg_reader.specs.declared.raw.RawKind.TheVariants as raws
use Rattle.alg_reader.specs.Forms as rules
use Rattle.alg_reader.specs.Forms.{Tree, token, pair, left, right, none, some, node, spelled}
use Rattle.alg_reader.specs.Grammar.{grammar, Fits, body}
use Rattle.alg_reader.specs.TermMeaning as meant
use Rattle.alg_reader.specs.Meaning as value
use Rattle.alg_reader.specs.TermMeaning.{one, two}
use Rattle.alg_reader.specs.Meaning.{act, kind_value}
use Rattle.alg_reader.specs.PartMeaning.{act_statement}
use Rattle.alg_reader.specs.Statements.{IsStatement}
use Rattle.alg_printer.specs.Names.{sort_name}
use Rattle.alg_reading_back.proofs.WrittenTerms.{space, sign, word, name, span, written}
use Rattle.alg_reading_back.proofs.WrittenStatements.{WrittenStatement, written_sort, written_hom, dot}
use Rattle.alg_reading_back.proofs.DerivedTerms.{sign_at}

-- wherever it begins, its pieces are the raw statement
abbrev pub StatementReads : WrittenStatement → Type 0
StatementReads written = (at : ℕ) → IsStatement Plain (tokens_of at written.pieces) (written.raw at)

-- a statement's body and its dot
pub statement_of : (v : Tree) (dot_at : ℕ) (tokens : List Token) (kind : RawKind) → Fits body v →
    spelled v ++ (sign_at signs.Dot dot_at ∷ []) ≡ tokens → value.value v ≡ kind_value kind →
    IsStatement Plain tokens kind
unfolding grammar act
statement_of v at tokens kind fits spells says = (
  node (rules.Statement Plain) (pair v (token (sign_at signs.Dot at))),
  (refl, (fits, refl)),
  spells,
  ap (λ x. act_statement (two x (one (sign_at signs.Dot at)))) says,
)

-- tokens of words, names and the numeral 0
abbrev pub word_at : Word → ℕ → Token
word_at w at = record { kind = kinds.Word w; start = at; stop = at + length (spelling w) }

abbrev pub name_at : List ℕ → ℕ → Token
name_at bytes at = record { kind = kinds.Name; start = at; stop = at + length bytes }

abbrev pub zero_at : ℕ → Token
zero_at at = record { kind = kinds.Number (pos 0); start = at; stop = at + length (decimal 0) }

-- ---- sorts

-- of each kind, with a characteristic or without
sort_read : (kind : Kind) (bytes : List ℕ) (char0 : Bool) → (char0 ≡ true → IsDomain kind) →
    StatementReads (written_sort (record { name = bytes; kind = kind; char0 = char0 }))
unfolding grammar act
sort_read Ring bytes true domain at = absurd (domain refl)
sort_read Ring bytes false domain at =
    statement_of (left (node rules.Ring (pair (token (word_at words.Ring at)) (token (name_at bytes (at + 4 + 1))))))
    (at + 4 + 1 + length bytes) _ (raws.Sort Ring (span (at + 5) bytes) false) (refl, (refl, refl)) refl
    (ap (λ n. meant.sort Ring (span n bytes) false) (omega arith))
sort_read Domain bytes true domain at =
    let name_from = at + 6 + 1 in
    let behind = name_from + length bytes in
    statement_of (right (left (node rules.Sort (pair (left (token (word_at words.Domain at))) (pair
    (token (name_at bytes name_from)) (some (pair (token (word_at words.Char (behind + 1)))
    (token (zero_at (behind + 1 + 4 + 1))))))))))
    (behind + 1 + 4 + 1 + length (decimal 0)) _ (raws.Sort Domain (span (at + 7) bytes) true)
    (refl, (refl, (refl, (refl, refl)))) refl
    (ap (λ n. meant.sort Domain (span n bytes) true) (omega arith))
sort_read Domain bytes false domain at =
    let name_from = at + 6 + 1 in
    statement_of (right (left (node rules.Sort (pair (left (token (word_at words.Domain at))) (pair
    (token (name_at bytes name_from)) none)))))
    (name_from + length bytes) _ (raws.Sort Domain (span (at + 7) bytes) false) (refl, (refl, (refl, tt))) refl
    (ap (λ n. meant.sort Domain (span n bytes) false) (omega arith))
sort_read Field bytes true domain at =
    let name_from = at + 5 + 1 in
    let behind = name_from + length bytes in
    statement_of (right (left (node rules.Sort (pair (right (token (word_at words.Field at))) (pair
    (token (name_at bytes name_from)) (some (pair (token (word_at words.Char (behind + 1)))
    (token (zero_at (behind + 1 + 4 + 1))))))))))
    (behind + 1 + 4 + 1 + length (decimal 0)) _ (raws.Sort Field (span (at + 6) bytes) true)
    (refl, (refl, (refl, (refl, refl)))) refl
    (ap (λ n. meant.sort Field (span n bytes) true) (omega arith))
sort_read Field bytes false domain at =
    let name_from = at + 5 + 1 in
    statement_of (right (left (node rules.Sort (pair (right (token (word_at words.Field at))) (pair
    (token (name_at bytes name_from)) none)))))
    (name_from + length bytes) _ (raws.Sort Field (span (at + 6) bytes) false) (refl, (refl, (refl, tt))) refl
    (ap (λ n. meant.sort Field (span n bytes) false) (omega arith))

-- a sort of a valid file
pub sort_derived : (sort : Sort) → IsSort sort → StatementReads (written_sort sort)
sort_derived sort domain = sort_read sort.kind sort.name sort.char0 domain

-- ---- morphisms

-- by the places of its names
hom_read : (bytes from to : List ℕ) (at name_place from_place to_place : ℕ) → name_place ≡ at + 3 + 1 →
    from_place ≡ at + 3 + 1 + length bytes + 1 + 1 + 1 →
    to_place ≡ at + 3 + 1 + length bytes + 1 + 1 + 1 + length from + 1 + 2 + 1 →
    IsStatement Plain (tokens_of at (word words.Hom ∷ space ∷ name bytes ∷ space ∷ sign signs.Colon ∷ space ∷ name from
    ∷ space ∷ sign signs.Arrow ∷ space ∷ name to ∷ dot))
    (raws.Hom (span name_place bytes) (span from_place from) (span to_place to))
unfolding grammar act
hom_read bytes from to at name_place from_place to_place name_is from_is to_is =
    let name_from = at + 3 + 1 in
    let colon_from = name_from + length bytes + 1 in
    let from_from = colon_from + 1 + 1 in
    let arrow_from = from_from + length from + 1 in
    let to_from = arrow_from + 2 + 1 in
    let of_sorts = pair (token (name_at from from_from)) (pair (token (sign_at signs.Arrow arrow_from))
    (token (name_at to to_from))) in
    let named = pair (token (name_at bytes name_from)) (pair (token (sign_at signs.Colon colon_from)) of_sorts) in
    statement_of (right (right (left (node rules.Hom (pair (token (word_at words.Hom at)) named)))))
    (to_from + length to) _ (raws.Hom (span name_place bytes) (span from_place from) (span to_place to))
    (refl, (refl, (refl, (refl, (refl, (refl, refl)))))) refl
    (ap (λ n. meant.hom (span n bytes) (span from_from from) (span to_from to)) (sym name_is)
    ∙ ap (λ n. meant.hom (span name_place bytes) (span n from) (span to_from to)) (sym from_is)
    ∙ ap (λ n. meant.hom (span name_place bytes) (span from_place from) (span n to)) (sym to_is))

-- a morphism
pub hom_derived : (file : File) (hom : HomDecl) → StatementReads (written_hom file hom)
hom_derived file hom at =
    hom_read hom.name (sort_name file hom.from) (sort_name file hom.to) at _ _ _
    (omega arith) (omega arith) (omega arith)
