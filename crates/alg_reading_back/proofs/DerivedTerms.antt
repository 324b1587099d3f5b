-- The grammar derives the canonical text of each term, as the raw term that it is.
use Rattle.std.proofs.Common.{◌≡◌, ◌≤◌, ℕ, ◌+◌, List, [], ◌∷◌, ◌++◌, true, false, nat_lt, cond, inl, inr, pos, length, refl, sym, ap, ◌∙◌, subst, arith}
use Rattle.std.proofs.lemmas.Bool.Decides.{nat_tests}
use Rattle.alg_terms.specs.declared.file.File.{File}
use Rattle.alg_terms.specs.declared.term.Term.{Term, more_of-Term, Var, Int, Neg', Add', Sub', Mul', Div', Pow', Hom'}
use Rattle.alg_terms.specs.declared.term.Term.TheOpen.{Term-F}
use Rattle.alg_terms.specs.Nodes.{fold_term}
use Rattle.alg_tokens.specs.declared.token.Sign.{Sign}
use Rattle.alg_tokens.specs.declared.token.Sign.TheVariants as signs
use Rattle.alg_tokens.specs.declared.token.Token.{Token}
use Rattle.alg_tokens.specs.declared.token.TokenKind.TheVariants as kinds
use Rattle.alg_tokens.specs.Pieces.{Piece}
use Rattle.alg_tokens.specs.Spelling.{sign_spelling}
use Rattle.alg_tokens.specs.Laws.{width, tokens_of}
use Rattle.alg_reader.specs.declared.raw.RawNode.{RawNode}
use Rattle.alg_reader.specs.declared.raw.RawNode.TheVariants as raw
use Rattle.alg_reader.specs.declared.raw.RawTerm.{RawTerm}
use Rattle.alg_reader.specs.Forms as rules
use Rattle.alg_reader.specs.RawNodes.{joined}
use Rattle.alg_printer.specs.Names.{hom_name}
use Rattle.alg_reading_back.proofs.WrittenTerms.{WrittenTerm, written, node_written, space, sign, numeral, in_parentheses, part_pieces, part_raw, raw_at, spaced, tight}
use Rattle.alg_reading_back.proofs.Derived.{Derives, Chained, IsOneOf, one_more, sum_of, product_of, opposite_of}
use Rattle.alg_reading_back.proofs.ReadAt.{ReadAt, at_sum, at_product, at_unary, at_power, at_leaf, read_below, tokens_append, inside_leaf, image_leaf, variable_leaf, literal_leaf, raised_power}

-- wherever it begins, it is derived from its level
abbrev pub Reads : WrittenTerm → Type 0
Reads part = (at : ℕ) → ReadAt part.level (tokens_of at part.pieces) (part.raw at)

-- the token of a sign
abbrev pub sign_at : Sign → ℕ → Token
sign_at s at = record { kind = kinds.Sign s; start = at; stop = at + length (sign_spelling s) }

-- something in parentheses
inside_tokens : (at : ℕ) (pieces : List Piece) → tokens_of at (in_parentheses pieces) ≡
    sign_at signs.ParenLeft at ∷ (tokens_of (at + 1) pieces ++ (sign_at signs.ParenRight (at + 1 + width pieces) ∷ []))
inside_tokens at pieces =
    ap (λ ts. sign_at signs.ParenLeft at ∷ ts) (tokens_append (at + 1) pieces (sign signs.ParenRight ∷ []))

inside_read : (part : WrittenTerm) → Reads part → (at : ℕ) →
    ReadAt 5 (tokens_of at (in_parentheses part.pieces)) (part.raw (at + 1))
inside_read part reads at =
    let t = part.raw (at + 1) in
    let tokens = tokens_of (at + 1) part.pieces in
    let close = sign_at signs.ParenRight (at + 1 + width part.pieces) in
    at_leaf (tokens_of at (in_parentheses part.pieces)) t (subst (λ ts. Derives rules.Leaf ts t)
    (sym (inside_tokens at part.pieces))
    (inside_leaf tokens t (sign_at signs.ParenLeft at) close refl refl
    (sum_of tokens t (reads (at + 1)).sum)))

-- a part where a level is wanted
part_read : (wanted : ℕ) (part : WrittenTerm) → wanted ≤ 5 → Reads part → (at : ℕ) →
    ReadAt wanted (tokens_of at (part_pieces wanted part)) (part_raw wanted part at)
part_read wanted part low reads at =
    elim (nat_lt part.level wanted) as (λ b. nat_lt part.level wanted ≡ b → ReadAt wanted (tokens_of at
    (cond b (in_parentheses part.pieces) part.pieces)) (cond b (part.raw (at + 1)) (part.raw at))) [
      | true ↦ λ e. read_below (tokens_of at (in_parentheses part.pieces)) (part.raw (at + 1)) 5 wanted low
          (inside_read part reads at)
      | false ↦ λ e. read_below (tokens_of at part.pieces) (part.raw at) part.level wanted (grind (arith, nat_tests))
          (reads at)
    ] refl

-- ---- chains

-- the tokens of two parts and an operator
spaced_tokens : (at : ℕ) (before after : List Piece) (op : Sign) → length (sign_spelling op) ≡ 1 →
    tokens_of at (before ++ (space ∷ sign op ∷ space ∷ after)) ≡
    tokens_of at before ++ (sign_at op (at + width before + 1) ∷ tokens_of (at + width before + 1 + 2) after)
spaced_tokens at before after op short =
    tokens_append at before (space ∷ sign op ∷ space ∷ after)
    ∙ ap (λ n. tokens_of at before ++ (sign_at op (at + width before + 1) ∷ tokens_of n after)) (omega arith)

tight_tokens : (at : ℕ) (before after : List Piece) (op : Sign) → length (sign_spelling op) ≡ 1 →
    tokens_of at (before ++ (sign op ∷ after)) ≡
    tokens_of at before ++ (sign_at op (at + width before) ∷ tokens_of (at + width before + 1) after)
tight_tokens at before after op short =
    tokens_append at before (sign op ∷ after)
    ∙ ap (λ n. tokens_of at before ++ (sign_at op (at + width before) ∷ tokens_of n after)) (omega arith)

-- sums and differences
spaced_read : (op : Sign) (node : RawTerm → RawTerm → RawNode) (left right : WrittenTerm) →
    length (sign_spelling op) ≡ 1 →
    ((at : ℕ) → IsOneOf signs.Plus signs.Minus (sign_at op at)) →
    ((t u : RawTerm) → joined (kinds.Sign op) t u ≡ node t u) →
    Reads left → Reads right → Reads (spaced op node left right)
spaced_read op node left right short is joins reads_left reads_right at =
    let before = part_pieces 1 left in
    let after = part_pieces 2 right in
    let head = at + width before + 1 in
    let t = part_raw 1 left at in
    let u = part_raw 2 right (head + 2) in
    let low : 1 ≤ 5 = omega arith in
    let two_low : 2 ≤ 5 = omega arith in
    let two_is : 2 ≤ 2 = omega arith in
    let read_left = (part_read 1 left low reads_left at).sum in
    let product = (part_read 2 right two_low reads_right (head + 2)).product two_is in
    let later = tokens_of (head + 2) after in
    let tokens = tokens_of at (before ++ (space ∷ sign op ∷ space ∷ after)) in
    at_sum tokens (raw_at head (node t u))
    (subst (λ x. Chained rules.Product signs.Plus signs.Minus tokens (raw_at head x)) (joins t u)
    (subst (λ ts. Chained rules.Product signs.Plus signs.Minus ts (raw_at head (joined (kinds.Sign op) t u)))
    (sym (spaced_tokens at before after op short))
    (one_more rules.Product signs.Plus signs.Minus (tokens_of at before) later t u (sign_at op head) (is head)
    read_left (product_of later u product))))

-- products and quotients
tight_read : (op : Sign) (node : RawTerm → RawTerm → RawNode) (left right : WrittenTerm) →
    length (sign_spelling op) ≡ 1 →
    ((at : ℕ) → IsOneOf signs.Star signs.Slash (sign_at op at)) →
    ((t u : RawTerm) → joined (kinds.Sign op) t u ≡ node t u) →
    Reads left → Reads right → Reads (tight op node left right)
tight_read op node left right short is joins reads_left reads_right at =
    let before = part_pieces 2 left in
    let after = part_pieces 3 right in
    let head = at + width before in
    let t = part_raw 2 left at in
    let u = part_raw 3 right (head + 1) in
    let two_low : 2 ≤ 5 = omega arith in
    let two_is : 2 ≤ 2 = omega arith in
    let three_low : 3 ≤ 5 = omega arith in
    let three_is : 3 ≤ 3 = omega arith in
    let read_left = (part_read 2 left two_low reads_left at).product two_is in
    let unary = (part_read 3 right three_low reads_right (head + 1)).unary three_is in
    let later = tokens_of (head + 1) after in
    let tokens = tokens_of at (before ++ (sign op ∷ after)) in
    at_product tokens (raw_at head (node t u))
    (subst (λ x. Chained rules.Unary signs.Star signs.Slash tokens (raw_at head x)) (joins t u)
    (subst (λ ts. Chained rules.Unary signs.Star signs.Slash ts (raw_at head (joined (kinds.Sign op) t u)))
    (sym (tight_tokens at before after op short))
    (one_more rules.Unary signs.Star signs.Slash (tokens_of at before) later t u (sign_at op head) (is head)
    read_left unary)))

-- ---- nodes

-- a negation, a power, an image
neg_read : (file : File) (part : WrittenTerm) → Reads part → Reads (node_written file (Term-F.Neg part))
neg_read file part reads at =
    let tokens = tokens_of (at + 1) (part_pieces 3 part) in
    let t = part_raw 3 part (at + 1) in
    let low : 3 ≤ 5 = omega arith in
    let is : 3 ≤ 3 = omega arith in
    at_unary (sign_at signs.Minus at ∷ tokens) (raw_at at (raw.Neg t)) (opposite_of tokens t (sign_at signs.Minus at)
    refl ((part_read 3 part low reads (at + 1)).unary is))

pow_read : (file : File) (part : WrittenTerm) (n : ℕ) → Reads part → Reads (node_written file (Term-F.Pow part n))
pow_read file part n reads at =
    let before = part_pieces 5 part in
    let head = at + width before in
    let t = part_raw 5 part at in
    let low : 5 ≤ 5 = omega arith in
    let leaf = (part_read 5 part low reads at).leaf low in
    let tokens = tokens_of at (before ++ (sign signs.Caret ∷ numeral n ∷ [])) in
    let u = raw_at head (raw.Pow t (record { value = pos n; at = head + 1 })) in
    at_power tokens u (subst (λ ts. Derives rules.Power ts u)
    (sym (tokens_append at before (sign signs.Caret ∷ numeral n ∷ [])))
    (raised_power (tokens_of at before) t (sign_at signs.Caret head) (pos n) (head + 1) _ refl leaf))

hom_read : (file : File) (f : ℕ) (part : WrittenTerm) → Reads part → Reads (node_written file (Term-F.Hom f part))
hom_read file f part reads at =
    let bytes = hom_name file f in
    let start = at + length bytes in
    let inner = tokens_of (start + 1) part.pieces in
    let t = part.raw (start + 1) in
    let name : Token = record { kind = kinds.Name; start = at; stop = start } in
    let close = sign_at signs.ParenRight (start + 1 + width part.pieces) in
    let u = raw_at at (raw.Hom (record { start = at; stop = start }) t) in
    at_leaf (name ∷ tokens_of start (in_parentheses part.pieces)) u (subst (λ ts. Derives rules.Leaf (name ∷ ts) u)
    (sym (inside_tokens start part.pieces))
    (image_leaf inner t name (sign_at signs.ParenLeft start) close refl refl refl
    (sum_of inner t (reads (start + 1)).sum)))

-- the canonical text of a term is derived from its level
pub term_read : (file : File) (t : Term) → Reads (written file t)
unfolding fold_term
term_read file (Var k) = λ at. at_leaf _ _ (variable_leaf _ refl)
term_read file (Int n) = λ at. at_leaf _ _ (literal_leaf n at _)
term_read file (Neg' p (more_of-Term t r)) = neg_read file (written file t) (term_read file t)
term_read file (Add' p (more_of-Term t r) q (more_of-Term u s)) =
    spaced_read signs.Plus (λ x y. raw.Add x y) (written file t) (written file u) refl (λ at. inl refl) (λ x y. refl)
    (term_read file t) (term_read file u)
term_read file (Sub' p (more_of-Term t r) q (more_of-Term u s)) =
    spaced_read signs.Minus (λ x y. raw.Sub x y) (written file t) (written file u) refl (λ at. inr refl) (λ x y. refl)
    (term_read file t) (term_read file u)
term_read file (Mul' p (more_of-Term t r) q (more_of-Term u s)) =
    tight_read signs.Star (λ x y. raw.Mul x y) (written file t) (written file u) refl (λ at. inl refl) (λ x y. refl)
    (term_read file t) (term_read file u)
term_read file (Div' p (more_of-Term t r) q (more_of-Term u s)) =
    tight_read signs.Slash (λ x y. raw.Div x y) (written file t) (written file u) refl (λ at. inr refl) (λ x y. refl)
    (term_read file t) (term_read file u)
term_read file (Pow' p (more_of-Term t r) n) = pow_read file (written file t) n (term_read file t)
term_read file (Hom' f p (more_of-Term t r)) = hom_read file f (written file t) (term_read file t)

-- the canonical text of a term is a sum that says it
pub term_derived : (file : File) (t : Term) (at : ℕ) →
    Derives rules.Sum (tokens_of at (written file t).pieces) ((written file t).raw at)
term_derived file t at = sum_of (tokens_of at (written file t).pieces) ((written file t).raw at)
    (term_read file t at).sum
