-- The pieces of a statement, with the line feed behind it, spell its text, and so do those of a file.
use Rattle.std.proofs.Common.{◌≡◌, ℕ, Bool, true, false, Option, None, List, [], ◌∷◌, ◌++◌, flat_map, map, codes, decimal, refl, ap, sym, ◌∙◌, arith, append-nil, append_assoc}
use Rattle.std.specs.List.{AllByRecursion}
use Rattle.std.proofs.lemmas.Fmt.{decimal_digit}
use Rattle.std.proofs.Math.ListN.{get_or-map}
use Rattle.std.proofs.lemmas.List.Elements.{recursion_from_All}
use Rattle.alg_terms.specs.declared.declarations.HomDecl.{HomDecl}
use Rattle.alg_terms.specs.declared.declarations.Kind.{Kind}
use Rattle.alg_terms.specs.declared.declarations.Kind.TheVariants.{Ring, Domain, Field}
use Rattle.alg_terms.specs.declared.declarations.Sort.{Sort}
use Rattle.alg_terms.specs.declared.file.File.{File}
use Rattle.alg_terms.specs.declared.file.Statement.{Statement}
use Rattle.alg_terms.specs.declared.file.Statement.TheVariants as statement
use Rattle.alg_terms.specs.declared.goals.Equation.{Equation}
use Rattle.alg_terms.specs.declared.goals.Goal.{Goal}
use Rattle.alg_terms.specs.declared.goals.Hyp.{Hyp}
use Rattle.alg_terms.specs.Members.{no_goal, sort_at, hom_at, hyp_at, goal_at, sort_of_var}
use Rattle.alg_terms.specs.Order.{numbers_from}
use Rattle.alg_terms.specs.Valid.{IsValid}
use Rattle.alg_lines.specs.declared.answer.Answer.{Answer}
use Rattle.alg_tokens.specs.declared.token.Sign.TheVariants as signs
use Rattle.alg_tokens.specs.declared.token.Word.TheVariants as words
use Rattle.alg_tokens.specs.Pieces.{Piece}
use Rattle.alg_tokens.proofs.Neighbours.{spell, spell_append}
use Rattle.alg_printer.specs.Names.{sort_name, var_name}
use Rattle.alg_printer.specs.Statements.{kind_text, char_text, sort_text, hom_text, names_text, vars_text, relation_text, hyp_text, goal_text, method_text}
use Rattle.alg_printer.specs.Terms.{term_text}
use Rattle.alg_printer.specs.Answers.{optional_text}
use Rattle.alg_printer.specs.Text.{text_of, statement_text, answer_at, IsStatementOf}
use Rattle.alg_printer.proofs.Declared.{statements_are_of}
use Rattle.alg_reading_back.specs.ReadingBack.{unanswered}
use Rattle.alg_reading_back.proofs.WrittenTerms.{written, space, line_feed, sign, word, name}
use Rattle.alg_reading_back.proofs.WrittenMethods.{method_pieces}
use Rattle.alg_reading_back.proofs.WrittenStatements.{written_sort, written_hom, written_vars, written_sides, written_hyp, written_goal, written_statement, goal_front, relation_sign, name_pieces, char_pieces, kind_word, dot, file_pieces}
use Rattle.alg_reading_back.proofs.SpelledMethods.{spelled_method}
use Rattle.alg_reading_back.proofs.SpelledTerms.{spelled_term}

-- a statement's pieces and the line feed behind it
abbrev pub line_pieces : List Piece → List Piece
line_pieces pieces = pieces ++ (line_feed ∷ [])

-- the last pieces of a line
line_of : (front back : List Piece) → spell (line_pieces (front ++ back)) ≡ spell front ++ spell (line_pieces back)
line_of front back = ap spell (append_assoc front back (line_feed ∷ [])) ∙ spell_append front (line_pieces back)

-- ---- sorts

-- a declared characteristic, to the end of the line
char_end : codes " char " ++ (decimal 0 ++ codes ".\n") ≡ codes " char 0.\n"
char_end = ap (λ digits. codes " char " ++ (digits ++ codes ".\n")) (decimal_digit 0 (omega arith))

-- a name, with the characteristic behind it
named_char : (bytes : List ℕ) (char0 : Bool) →
    bytes ++ spell ((char_pieces char0 ++ dot) ++ (line_feed ∷ [])) ≡ (bytes ++ char_text char0) ++ codes ".\n"
named_char bytes true =
    ap (λ end. bytes ++ end) char_end ∙ sym (append_assoc bytes (codes " char 0") (codes ".\n"))
named_char bytes false = sym (append_assoc bytes [] (codes ".\n"))

named_sort : (kind : Kind) (bytes : List ℕ) (char0 : Bool) →
    spell (line_pieces (word (kind_word kind) ∷ space ∷ name bytes ∷ (char_pieces char0 ++ dot)))
    ≡ ((kind_text kind ++ bytes) ++ char_text char0) ++ codes ".\n"
named_sort Ring bytes char0 = ap (λ bs. codes "ring " ++ bs) (named_char bytes char0)
named_sort Domain bytes char0 = ap (λ bs. codes "domain " ++ bs) (named_char bytes char0)
named_sort Field bytes char0 = ap (λ bs. codes "field " ++ bs) (named_char bytes char0)

spelled_sort : (sort : Sort) → spell (line_pieces (written_sort sort).pieces) ≡ sort_text sort
spelled_sort sort = named_sort sort.kind sort.name sort.char0

-- ---- morphisms

seven : (a b c d e f g : List ℕ) →
    a ++ (b ++ (c ++ (d ++ (e ++ (f ++ g))))) ≡ (((((a ++ b) ++ c) ++ d) ++ e) ++ f) ++ g
seven a b c d e f g = simp append_assoc refl

spelled_hom : (file : File) (hom : HomDecl) → spell (line_pieces (written_hom file hom).pieces) ≡ hom_text file hom
spelled_hom file hom = seven (codes "hom ") hom.name (codes " : ") (sort_name file hom.from) (codes " -> ")
    (sort_name file hom.to) (codes ".\n")

-- ---- variables

spelled_names : (file : File) (numbers : List ℕ) →
    spell (name_pieces (map (var_name file) numbers)) ≡ names_text file numbers
spelled_names file [] = refl
spelled_names file (k ∷ numbers) =
    ap (λ bs. codes " " ++ (var_name file k ++ bs)) (spelled_names file numbers)

spelled_vars : (file : File) (first count : ℕ) →
    spell (line_pieces (written_vars file first count).pieces) ≡ vars_text file first count
spelled_vars file first count =
    let numbers = numbers_from first count in
    let names = name_pieces (map (var_name file) numbers) in
    let sort = sort_name file (sort_of_var file first) in
    let separator = space ∷ sign signs.Colon ∷ space ∷ [] in
    line_of (word words.Var ∷ (names ++ separator)) (name sort ∷ dot)
    ∙ ap (λ bs. (codes "var" ++ bs) ++ (sort ++ codes ".\n")) (spell_append names separator
    ∙ ap (λ bs. bs ++ codes " : ") (spelled_names file numbers))
    ∙ sym (append_assoc ((codes "var" ++ names_text file numbers) ++ codes " : ") sort (codes ".\n"))

-- ---- equations

-- how the sides compare, after a space
spelled_relation : (nonzero : Bool) →
    codes " " ++ spell (sign (relation_sign nonzero) ∷ space ∷ []) ≡ relation_text nonzero
spelled_relation true = refl
spelled_relation false = refl

regrouped : (f l s r : List ℕ) → (f ++ (l ++ s)) ++ r ≡ (f ++ l) ++ (s ++ r)
regrouped f l s r = simp append_assoc refl

-- the pieces of an equation up to its right side
spelled_left : (file : File) (front : List Piece) (nonzero : Bool) (e : Equation) →
    spell (written_sides file front nonzero e).to_right
    ≡ (spell front ++ term_text file e.left) ++ relation_text nonzero
spelled_left file front nonzero e =
    let left = (written file e.left).pieces in
    let relation = sign (relation_sign nonzero) ∷ space ∷ [] in
    let l = term_text file e.left in
    spell_append (front ++ (left ++ (space ∷ []))) relation
    ∙ ap (λ bs. bs ++ spell relation) (spell_append front (left ++ (space ∷ []))
    ∙ ap (λ bs. spell front ++ bs) (spell_append left (space ∷ [])
    ∙ ap (λ bs. bs ++ codes " ") (spelled_term file e.left)))
    ∙ regrouped (spell front) l (codes " ") (spell relation)
    ∙ ap (λ bs. (spell front ++ l) ++ bs) (spelled_relation nonzero)

-- ---- hypotheses

hyp_sides : (h n c l s r d : List ℕ) →
    (((h ++ (n ++ c)) ++ l) ++ s) ++ (r ++ d) ≡ (((((h ++ n) ++ c) ++ l) ++ s) ++ r) ++ d
hyp_sides h n c l s r d = simp append_assoc refl

spelled_hyp : (file : File) (hyp : Hyp) → spell (line_pieces (written_hyp file hyp).pieces) ≡ hyp_text file hyp
spelled_hyp file hyp =
    let e = hyp.equation in
    let colon = word words.Hyp ∷ space ∷ name hyp.name ∷ space ∷ sign signs.Colon ∷ space ∷ [] in
    let sides = written_sides file colon hyp.nonzero e in
    let l = term_text file e.left in
    let r = term_text file e.right in
    line_of sides.to_right (sides.right ++ dot)
    ∙ ap (λ bs. bs ++ spell (line_pieces (sides.right ++ dot))) (spelled_left file colon hyp.nonzero e)
    ∙ ap (λ bs. ((spell colon ++ l) ++ relation_text hyp.nonzero) ++ bs) (line_of sides.right dot
    ∙ ap (λ bs. bs ++ codes ".\n") (spelled_term file e.right))
    ∙ hyp_sides (codes "hyp ") hyp.name (codes " : ") l (relation_text hyp.nonzero) r (codes ".\n")

-- ---- goals

goal_sides : (g l e r b m d : List ℕ) →
    (((g ++ l) ++ e) ++ (r ++ b)) ++ (m ++ d) ≡ (((((g ++ l) ++ e) ++ r) ++ b) ++ m) ++ d
goal_sides g l e r b m d = simp append_assoc refl

-- the pieces of a goal up to its method
spelled_front : (file : File) (e : Equation) → spell (goal_front file e)
    ≡ ((codes "goal " ++ term_text file e.left) ++ codes " = ") ++ (term_text file e.right ++ codes " by ")
spelled_front file e =
    let front = word words.Goal ∷ space ∷ [] in
    let sides = written_sides file front false e in
    let last = space ∷ word words.By ∷ space ∷ [] in
    spell_append sides.to_right (sides.right ++ last)
    ∙ ap (λ bs. bs ++ spell (sides.right ++ last)) (spelled_left file front false e)
    ∙ ap (λ bs. ((codes "goal " ++ term_text file e.left) ++ codes " = ") ++ bs) (spell_append sides.right last
    ∙ ap (λ bs. bs ++ codes " by ") (spelled_term file e.right))

pub spelled_goal : (file : File) (goal : Goal) → spell (line_pieces (written_goal file goal).pieces) ≡ goal_text file goal
spelled_goal file goal =
    let by = goal_front file goal.equation in
    let method = method_pieces file goal.method in
    let l = term_text file goal.equation.left in
    let r = term_text file goal.equation.right in
    line_of by (method ++ dot)
    ∙ ap (λ bs. bs ++ spell (line_pieces (method ++ dot))) (spelled_front file goal.equation)
    ∙ ap (λ bs. (((codes "goal " ++ l) ++ codes " = ") ++ (r ++ codes " by ")) ++ bs) (line_of method dot
    ∙ ap (λ bs. bs ++ codes ".\n") (spelled_method file goal.method))
    ∙ goal_sides (codes "goal ") l (codes " = ") r (codes " by ") (method_text file goal.method) (codes ".\n")

-- ---- all statements

-- no goal is answered
no_answer : (file : File) (i : ℕ) → answer_at (unanswered file) i ≡ None
no_answer file i = let none : Goal → Option Answer = λ goal. None in get_or-map none file.goals i no_goal

pub spelled_statement : (file : File) (s : Statement) → IsStatementOf file s →
    spell (line_pieces (written_statement file s).pieces) ≡ statement_text file (unanswered file) s
spelled_statement file (statement.Sort s) of = spelled_sort (sort_at file s)
spelled_statement file (statement.Hom f) of = spelled_hom file (hom_at file f)
spelled_statement file (statement.Vars first count) of = spelled_vars file first count
spelled_statement file (statement.Hyp h) of = spelled_hyp file (hyp_at file h)
spelled_statement file (statement.Goal i) of =
    let goal = goal_at file i in
    spelled_goal file goal ∙ sym (append-nil (goal_text file goal))
    ∙ ap (λ answer. goal_text file goal ++ optional_text file goal answer) (sym (no_answer file i))

spelled_statements : (file : File) (order : List Statement) → AllByRecursion (IsStatementOf file) order →
    spell (file_pieces file order) ≡ flat_map (statement_text file (unanswered file)) order
spelled_statements file [] all = refl
spelled_statements file (s ∷ order) all =
    spell_append (line_pieces (written_statement file s).pieces) (file_pieces file order)
    ∙ ap (λ bs. bs ++ spell (file_pieces file order)) (spelled_statement file s all.0)
    ∙ ap (λ bs. statement_text file (unanswered file) s ++ bs) (spelled_statements file order all.1)

-- the pieces of a file spell its text
pub spelled_file : (file : File) → IsValid file → spell (file_pieces file file.order) ≡ text_of file (unanswered file)
spelled_file file valid = spelled_statements file file.order
    (recursion_from_All (IsStatementOf file) file.order (statements_are_of file valid))
