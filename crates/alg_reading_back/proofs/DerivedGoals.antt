-- The grammar derives the canonical text of variables and goals, as the raw statements that they are.
use Rattle.std.proofs.Common.{◌≡◌, ◌≤◌, ℕ, suc, zero, ◌+◌, List, [], ◌∷◌, ◌++◌, false, length, map, refl, sym, ap, ◌∙◌, subst, arith, append_assoc}
use Rattle.alg_terms.specs.declared.file.File.{File}
use Rattle.alg_terms.specs.declared.goals.Goal.{Goal}
use Rattle.alg_terms.specs.Members.{sort_of_var}
use Rattle.alg_terms.specs.Order.{numbers_from}
use Rattle.alg_tokens.specs.declared.token.Sign.TheVariants as signs
use Rattle.alg_tokens.specs.declared.token.TokenKind.TheVariants as kinds
use Rattle.alg_tokens.specs.declared.token.Word.TheVariants as words
use Rattle.alg_tokens.specs.Pieces.{Piece, bytes_of}
use Rattle.alg_tokens.specs.Spelling.{spelling, sign_spelling}
use Rattle.alg_tokens.specs.Laws.{width, tokens_of}
use Rattle.alg_reader.specs.declared.place.Place.TheVariants.{Plain}
use Rattle.alg_reader.specs.declared.raw.RawKind.TheVariants as raws
use Rattle.alg_reader.specs.declared.raw.RawMethod.{RawMethod}
use Rattle.alg_reader.specs.declared.raw.RawTerm.{RawTerm}
use Rattle.alg_reader.specs.Forms as rules
use Rattle.alg_reader.specs.Forms.{seq, many, rule, Tree, token, pair, left, right, end, more, node, spelled}
use Rattle.alg_reader.specs.Grammar as forms
use Rattle.alg_reader.specs.Grammar.{grammar, Fits}
use Rattle.alg_reader.specs.TermMeaning as meant
use Rattle.alg_reader.specs.Meaning as value
use Rattle.alg_reader.specs.TermMeaning.{term, method}
use Rattle.alg_reader.specs.PartMeaning.{spans}
use Rattle.alg_reader.specs.Meaning.{act}
use Rattle.alg_reader.specs.Statements.{IsStatement}
use Rattle.alg_printer.specs.Names.{sort_name, var_name}
use Rattle.alg_reading_back.proofs.WrittenTerms.{space, sign, word, name, span, written}
use Rattle.alg_reading_back.proofs.WrittenMethods.{method_pieces, method_raw}
use Rattle.alg_reading_back.proofs.WrittenStatements.{written_vars, written_goal, name_pieces, name_spans, dot}
use Rattle.alg_reading_back.proofs.ReadAt.{tokens_append}
use Rattle.alg_reading_back.proofs.DerivedTerms.{sign_at, term_derived}
use Rattle.alg_reading_back.proofs.DerivedStatements.{StatementReads, statement_of, word_at, name_at}
use Rattle.alg_reading_back.proofs.DerivedForms.{IsDerived, one_token, other_way, by_rule, term_means, pieces_before, spaced_before, front_before, statement_from}
use Rattle.alg_reading_back.proofs.DerivedMethods.{method_derived}

-- the bytes of two lists of pieces
pub width_append : (before after : List Piece) → width (before ++ after) ≡ width before + width after
width_append [] after = omega arith
width_append (piece ∷ before) after =
    ap (λ n. length (bytes_of piece) + n) (width_append before after) ∙ omega arith

-- ---- variables

-- the derivation of the names behind a first one
names_tree : ℕ → List (List ℕ) → Tree
names_tree at [] = end
names_tree at (bytes ∷ names) = more (token (name_at bytes (at + 1))) (names_tree (at + 1 + length bytes) names)

names_fit : (at : ℕ) (names : List (List ℕ)) → Fits (many forms.name) (names_tree at names)
unfolding names_tree
names_fit at [] = tt
names_fit at (bytes ∷ names) = (refl, names_fit (at + 1 + length bytes) names)

names_spelled : (at : ℕ) (names : List (List ℕ)) → spelled (names_tree at names) ≡ tokens_of at (name_pieces names)
unfolding names_tree
names_spelled at [] = refl
names_spelled at (bytes ∷ names) =
    ap (λ ts. name_at bytes (at + 1) ∷ ts) (names_spelled (at + 1 + length bytes) names)

names_said : (at : ℕ) (names : List (List ℕ)) → spans (value.value (names_tree at names)) ≡ name_spans at names
unfolding names_tree spans
names_said at [] = refl
names_said at (bytes ∷ names) = ap (λ rest. span (at + 1) bytes ∷ rest) (names_said (at + 1 + length bytes) names)

-- by the place of the sort
vars_read : (bytes sort : List ℕ) (names : List (List ℕ)) (at place : ℕ) →
    place ≡ at + 3 + 1 + length bytes + width (name_pieces names) + 1 + 1 + 1 →
    IsStatement Plain (tokens_of at (word words.Var ∷ space ∷ name bytes ∷ (name_pieces names
    ++ (space ∷ sign signs.Colon ∷ space ∷ name sort ∷ dot))))
    (raws.Vars (name_spans (at + 3) (bytes ∷ names)) (span place sort))
unfolding grammar act
vars_read bytes sort names at place place_is =
    let behind = at + 3 + 1 + length bytes in
    let colon_at = behind + width (name_pieces names) + 1 in
    let sort_at = colon_at + 1 + 1 in
    let last = sign_at signs.Colon colon_at ∷ name_at sort sort_at ∷ sign_at signs.Dot (sort_at + length sort) ∷ [] in
    let first = word_at words.Var at in
    let one_name = name_at bytes (at + 3 + 1) in
    let of_sort = pair (token (sign_at signs.Colon colon_at)) (token (name_at sort sort_at)) in
    let tree = pair (token first) (pair (token one_name) (pair (names_tree behind names) of_sort)) in
    statement_of (right (right (right (left (node rules.Vars tree))))) (sort_at + length sort)
    _ (raws.Vars (name_spans (at + 3) (bytes ∷ names)) (span place sort))
    (refl, (refl, (refl, (names_fit behind names, (refl, refl)))))
    (ap (λ ts. first ∷ one_name ∷ ts) (append_assoc (spelled (names_tree behind names))
    (sign_at signs.Colon colon_at ∷ name_at sort sort_at ∷ []) (sign_at signs.Dot (sort_at + length sort) ∷ [])
    ∙ ap (λ ts. ts ++ last) (names_spelled behind names)
    ∙ sym (tokens_append behind (name_pieces names) (space ∷ sign signs.Colon ∷ space ∷ name sort ∷ dot))))
    (ap (λ rest. meant.vars (span (at + 3 + 1) bytes ∷ rest) (span sort_at sort)) (names_said behind names)
    ∙ ap (λ n. meant.vars (name_spans (at + 3) (bytes ∷ names)) (span n sort)) (sym place_is))

-- the same as they are written
named_vars_read : (bytes sort : List ℕ) (names : List (List ℕ)) →
    let front = word words.Var ∷ (name_pieces (bytes ∷ names) ++ (space ∷ sign signs.Colon ∷ space ∷ [])) in
    (at : ℕ) → IsStatement Plain (tokens_of at (front ++ (name sort ∷ dot)))
    (raws.Vars (name_spans (at + 3) (bytes ∷ names)) (span (at + width front) sort))
named_vars_read bytes sort names at =
    let colon = space ∷ sign signs.Colon ∷ space ∷ [] in
    let wide = width_append (name_pieces names) colon in
    subst (λ pieces. IsStatement Plain (tokens_of at (word words.Var ∷ space ∷ name bytes ∷ pieces))
    (raws.Vars (name_spans (at + 3) (bytes ∷ names)) (span (at + (3 + (1 + (length bytes + width (name_pieces names
    ++ colon))))) sort)))
    (sym (append_assoc (name_pieces names) colon (name sort ∷ dot)))
    (vars_read bytes sort names at _ (omega arith))

-- variables, at least one
pub vars_derived : (file : File) (first count : ℕ) → 1 ≤ count → StatementReads (written_vars file first count)
vars_derived file first zero some = absurd (omega arith)
vars_derived file first (suc count) some =
    named_vars_read (var_name file first) (sort_name file (sort_of_var file first))
    (map (var_name file) (numbers_from (suc first) count))

-- ---- goals

-- the pieces of a goal from left to right
goal_pieces : (l r m : List Piece) → ((((word words.Goal ∷ space ∷ []) ++ (l ++ (space ∷ [])))
    ++ (sign signs.Equal ∷ space ∷ [])) ++ (r ++ (space ∷ word words.By ∷ space ∷ []))) ++ (m ++ dot) ≡
    (word words.Goal ∷ space ∷ (l ++ (space ∷ sign signs.Equal ∷ space ∷ (r ++ (space ∷ word words.By ∷ space ∷ m)))))
    ++ dot
goal_pieces l r m = simp append_assoc

-- by the places of its parts
goal_read : (l r m : List Piece) (t u : RawTerm) (way : RawMethod) (at left_at equal_at right_at by_at : ℕ) →
    left_at ≡ at + 4 + 1 → equal_at ≡ left_at + width l + 1 → right_at ≡ equal_at + 1 + 1 →
    by_at ≡ right_at + width r + 1 + 2 + 1 → IsDerived (rule rules.Sum) (tokens_of left_at l) (term t) →
    IsDerived (rule rules.Sum) (tokens_of right_at r) (term u) →
    IsDerived (rule rules.Method) (tokens_of by_at m) (method way by_at) →
    IsStatement Plain (tokens_of at ((word words.Goal ∷ space ∷ (l ++ (space ∷ sign signs.Equal ∷ space ∷
    (r ++ (space ∷ word words.By ∷ space ∷ m))))) ++ dot))
    (raws.Goal (record { left = t; relation = equal_at; nonzero = false; right = u }) way by_at)
unfolding grammar act
goal_read l r m t u way at left_at equal_at right_at by_at left_is equal_is right_is by_is d e w =
    let right_end = right_at + width r in
    let by_form = seq (forms.word words.By) (rule rules.Method) in
    let right_form = seq (rule rules.Sum) by_form in
    let equal_form = seq (forms.sign signs.Equal) right_form in
    let by_pieces = space ∷ word words.By ∷ space ∷ m in
    let equal_pieces = space ∷ sign signs.Equal ∷ space ∷ (r ++ by_pieces) in
    let by_part = spaced_before (forms.word words.By) (rule rules.Method) (kinds.Word words.By) (spelling words.By) m
    right_end (right_end + 1) by_at (method way by_at) refl by_is
    (one_token (kinds.Word words.By) (word_at words.By (right_end + 1)) refl) w in
    let right_part = pieces_before (rule rules.Sum) by_form r by_pieces right_at right_end (term u) _ refl e by_part in
    let equal_part = spaced_before (forms.sign signs.Equal) right_form (kinds.Sign signs.Equal)
    (sign_spelling signs.Equal) (r ++ by_pieces) (left_at + width l) equal_at right_at _ equal_is right_is
    (one_token (kinds.Sign signs.Equal) (sign_at signs.Equal equal_at) refl) right_part in
    let left_part = pieces_before (rule rules.Sum) equal_form l equal_pieces left_at (left_at + width l) (term t) _ refl
    d equal_part in
    let all = front_before (kinds.Word words.Goal) (spelling words.Goal) (seq (rule rules.Sum) equal_form)
    (l ++ equal_pieces) at left_at _ left_is left_part in
    statement_from (word words.Goal ∷ space ∷ (l ++ equal_pieces)) at
    (raws.Goal (record { left = t; relation = equal_at; nonzero = false; right = u }) way by_at)
    (other_way _ _ _ _ (other_way _ _ _ _ (other_way _ _ _ _ (other_way _ _ _ _ (other_way _ _ _ _
    (by_rule rules.Goal (word_at words.Goal at ∷ tokens_of (at + 4 + 1) (l ++ equal_pieces)) _ all))))))

-- a goal by any method
pub goal_derived : (file : File) (goal : Goal) → StatementReads (written_goal file goal)
goal_derived file goal at =
    let e = goal.equation in
    let l = (written file e.left).pieces in
    let r = (written file e.right).pieces in
    let front = word words.Goal ∷ space ∷ [] in
    let equal = front ++ (l ++ (space ∷ [])) in
    let middle = equal ++ (sign signs.Equal ∷ space ∷ []) in
    let by = middle ++ (r ++ (space ∷ word words.By ∷ space ∷ [])) in
    let equal_wide = width_append l (space ∷ []) in
    let middle_wide = width_append equal (sign signs.Equal ∷ space ∷ []) in
    let r_wide = width_append r (space ∷ word words.By ∷ space ∷ []) in
    let by_wide = width_append middle (r ++ (space ∷ word words.By ∷ space ∷ [])) in
    let raw = (written_goal file goal).raw at in
    subst (λ pieces. IsStatement Plain (tokens_of at pieces) raw)
    (sym (goal_pieces l r (method_pieces file goal.method)))
    (goal_read l r (method_pieces file goal.method) _ _ (method_raw file (at + width by) goal.method)
    at (at + width front) (at + width equal) (at + width middle) (at + width by)
    (omega arith) (omega arith) (omega arith) (omega arith)
    (term_means rules.Sum _ _ (term_derived file e.left (at + width front)))
    (term_means rules.Sum _ _ (term_derived file e.right (at + width middle)))
    (method_derived file goal.method (at + width by)))
