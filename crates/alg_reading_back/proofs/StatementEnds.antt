-- The pieces of a statement each end where the next begins, and so do those of a file.
use Rattle.std.proofs.Common.{◌<◌, ◌≤◌, ℕ, zero, suc, ◌+◌, Bool, true, false, List, [], ◌∷◌, ◌++◌, map, length, get_or, refl, ap, sym, ◌∙◌, subst, arith, append-nil, append_assoc}
use Rattle.std.specs.List.{AllByRecursion}
use Rattle.std.proofs.lemmas.Int.{ints}
use Rattle.std.proofs.lemmas.List.Elements.{All-get_or, recursion_from_All}
use Rattle.alg_terms.specs.declared.declarations.HomDecl.{HomDecl}
use Rattle.alg_terms.specs.declared.declarations.Sort.{Sort}
use Rattle.alg_terms.specs.declared.file.File.{File}
use Rattle.alg_terms.specs.declared.file.Statement.{Statement}
use Rattle.alg_terms.specs.declared.file.Statement.TheVariants as statement
use Rattle.alg_terms.specs.declared.term.Term.{Term}
use Rattle.alg_terms.specs.GoalRules.{IsHyp, IsGoal}
use Rattle.alg_terms.specs.Members.{sort_at, hom_at, var_at, hyp_at, goal_at, sort_of_var, no_sort, no_hom, no_var, no_hyp, no_goal}
use Rattle.alg_terms.specs.Names.{IsName}
use Rattle.alg_terms.specs.Order.{numbers_from}
use Rattle.alg_terms.specs.TermRules.{IsTerm}
use Rattle.alg_terms.specs.Valid.{IsValid, IsHom, IsVar, names_of}
use Rattle.alg_tokens.specs.declared.token.Sign.TheVariants as signs
use Rattle.alg_tokens.specs.declared.token.Word.TheVariants as words
use Rattle.alg_tokens.specs.Pieces.{IsCut}
use Rattle.alg_tokens.proofs.Neighbours.{spell, spell_append, EachEnds, ends_append, cut_if_ends}
use Rattle.alg_tokens.proofs.PieceEnds.{BeginsStop, stop_no_sign}
use Rattle.alg_printer.specs.Names.{sort_name, var_name}
use Rattle.alg_printer.specs.Text.{text_of, IsStatementOf}
use Rattle.alg_printer.proofs.Declared.{statements_are_of}
use Rattle.alg_reader.proofs.Found.{all_split}
use Rattle.alg_reading_back.specs.ReadingBack.{unanswered}
use Rattle.alg_reading_back.proofs.WrittenTerms.{written, space, line_feed, sign, word, name, numeral}
use Rattle.alg_reading_back.proofs.WrittenStatements.{written_sort, written_hom, written_vars, written_statement, name_pieces, char_pieces, kind_word, dot, file_pieces}
use Rattle.alg_reading_back.proofs.SpelledStatements.{line_pieces, spelled_file}
use Rattle.alg_reading_back.proofs.GoalEnds.{hyp_pieces_end, goal_pieces_end}
use Rattle.alg_reading_back.proofs.MethodEnds.{method_pieces_end}
use Rattle.alg_reading_back.proofs.TermEnds.{Fits, HasNames, EndsAtStop, word_space, sign_space, name_space, fits_numeral, fits_term}

-- ---- the names of a file

named_in : {X : Type 0} (name_of : X → List ℕ) (xs : List X) (i : ℕ) (d : X) → i < length xs →
    AllByRecursion IsName (map name_of xs) → IsName (name_of (get_or xs i d))
named_in name_of [] i d below all = absurd (omega arith)
named_in name_of (x ∷ xs) zero d below all = all.0
named_in name_of (x ∷ xs) (suc i) d below all = named_in name_of xs i d (omega arith) all.1

pub has_names : (file : File) → IsValid file → HasNames file
has_names file valid =
    let sorts = map (λ sort. sort.name) file.sorts in
    let homs = map (λ hom. hom.name) file.homs in
    let vars = map (λ var. var.name) file.vars in
    let hyps = map (λ hyp. hyp.name) file.hyps in
    let all = recursion_from_All IsName (names_of file) valid.spelled in
    let three = all_split IsName ((sorts ++ homs) ++ vars) hyps all in
    let two = all_split IsName (sorts ++ homs) vars three.0 in
    let one = all_split IsName sorts homs two.0 in
    record {
      sorts = λ s below. named_in (λ sort. sort.name) file.sorts s no_sort below one.0;
      homs = λ f below. named_in (λ hom. hom.name) file.homs f no_hom below one.1;
      vars = λ k below. named_in (λ var. var.name) file.vars k no_var below two.1;
      hyps = λ h below. named_in (λ hyp. hyp.name) file.hyps h no_hyp below three.1;
    }

-- ---- each form of statement

-- a name before the end of a statement
name_dot_pieces_end : (bytes : List ℕ) → IsName bytes → EndsAtStop (name bytes ∷ dot)
name_dot_pieces_end bytes is next stops = ((is.0, is.1, (46, _, refl, refl)), ((refl, stop_no_sign next stops), tt))

-- a name and its characteristic
char_pieces_end : (bytes : List ℕ) (char0 : Bool) → IsName bytes →
    EndsAtStop (name bytes ∷ (char_pieces char0 ++ dot))
char_pieces_end bytes true is next stops =
    let digit = (fits_numeral 0 (omega (arith, ints))).stand (46 ∷ next) (46, next, refl, refl) in
    let zero = numeral 0 ∷ dot in
    let zero_piece_ends : EachEnds zero next = (digit.0, ((refl, stop_no_sign next stops), tt)) in
    name_space bytes (word words.Char ∷ space ∷ zero) next is (word_space words.Char zero next zero_piece_ends)
char_pieces_end bytes false is next stops = name_dot_pieces_end bytes is next stops

sort_pieces_end : (sort : Sort) → IsName sort.name → EndsAtStop (written_sort sort).pieces
sort_pieces_end sort is next stops = word_space (kind_word sort.kind)
    (name sort.name ∷ (char_pieces sort.char0 ++ dot)) next (char_pieces_end sort.name sort.char0 is next stops)

hom_pieces_end : (file : File) (hom : HomDecl) → IsName hom.name → IsName (sort_name file hom.from) →
    IsName (sort_name file hom.to) → EndsAtStop (written_hom file hom).pieces
hom_pieces_end file hom is from_is to_is next stops =
    let to = name (sort_name file hom.to) ∷ dot in
    let arrow = sign signs.Arrow ∷ space ∷ to in
    let from = name (sort_name file hom.from) ∷ space ∷ arrow in
    let colon = sign signs.Colon ∷ space ∷ from in
    let to_stands = name_dot_pieces_end (sort_name file hom.to) to_is next stops in
    let from_stands = name_space (sort_name file hom.from) arrow next from_is
    (sign_space signs.Arrow to next to_stands) in
    word_space words.Hom (name hom.name ∷ space ∷ colon) next
    (name_space hom.name colon next is (sign_space signs.Colon from next from_stands))

-- what names begin with
names_stop : (names : List (List ℕ)) (next : List ℕ) → BeginsStop next → BeginsStop (spell (name_pieces names) ++ next)
names_stop [] next stops = stops
names_stop (bytes ∷ names) next stops = (32, _, refl, refl)

-- names, each after a space
names_pieces_end : (names : List (List ℕ)) → AllByRecursion IsName names → EndsAtStop (name_pieces names)
names_pieces_end [] all next stops = tt
names_pieces_end (bytes ∷ names) all next stops =
    ((32, refl, refl), ((all.0.0, all.0.1, names_stop names next stops), names_pieces_end names all.1 next stops))

vars_pieces_end : (file : File) (first count : ℕ) →
    AllByRecursion IsName (map (var_name file) (numbers_from first count)) →
    IsName (sort_name file (sort_of_var file first)) → EndsAtStop (written_vars file first count).pieces
vars_pieces_end file first count all is next stops =
    let names = map (var_name file) (numbers_from first count) in
    let separator = space ∷ sign signs.Colon ∷ space ∷ [] in
    let sort = name (sort_name file (sort_of_var file first)) ∷ dot in
    let after : List ℕ = spell sort ++ next in
    let behind : BeginsStop (spell separator ++ after) = (32, _, refl, refl) in
    let middle = ends_append (name_pieces names) separator after (names_pieces_end names all _ behind)
    ((32, refl, refl), ((refl, λ e. omega (arith, e)), ((32, refl, refl), tt))) in
    let begins : BeginsStop (spell (name_pieces names ++ separator) ++ after) =
    subst BeginsStop (sym (ap (λ bs. bs ++ after) (spell_append (name_pieces names) separator)
    ∙ append_assoc (spell (name_pieces names)) (spell separator) after)) (names_stop names _ behind) in
    ends_append (word words.Var ∷ (name_pieces names ++ separator)) sort next ((refl, begins), middle)
    (name_dot_pieces_end (sort_name file (sort_of_var file first)) is next stops)

-- ---- all statements

numbers_named : (file : File) → HasNames file → (first count : ℕ) → first + count ≤ length file.vars →
    AllByRecursion IsName (map (var_name file) (numbers_from first count))
numbers_named file names first zero fits = tt
numbers_named file names first (suc count) fits =
    (names.vars first (omega arith), numbers_named file names (suc first) count (omega arith))

-- a term of the file
pub fits : (file : File) (t : Term) → HasNames file → IsTerm file t → Fits (written file t).pieces
fits file t names is = fits_term file t names (is.indices, is.literals, is.exponents)

pub statement_pieces_end : (file : File) (s : Statement) → IsValid file → IsStatementOf file s →
    EndsAtStop (written_statement file s).pieces
statement_pieces_end file (statement.Sort s) valid of = sort_pieces_end (sort_at file s)
    ((has_names file valid).sorts s of)
statement_pieces_end file (statement.Hom f) valid of =
    let names = has_names file valid in
    let hom : IsHom file (hom_at file f) = All-get_or (IsHom file) file.homs f no_hom of valid.homs in
    hom_pieces_end file (hom_at file f) (names.homs f of) (names.sorts (hom_at file f).from hom.source)
    (names.sorts (hom_at file f).to hom.target)
statement_pieces_end file (statement.Vars first count) valid (some, fits) =
    let names = has_names file valid in
    let var : IsVar file (var_at file first) =
    All-get_or (IsVar file) file.vars first no_var (omega arith) valid.vars in
    vars_pieces_end file first count (numbers_named file names first count fits) (names.sorts
    (sort_of_var file first) var)
statement_pieces_end file (statement.Hyp h) valid of =
    let names = has_names file valid in
    let hyp : IsHyp file (hyp_at file h) = All-get_or (IsHyp file) file.hyps h no_hyp of valid.hyps in
    let e = (hyp_at file h).equation in
    hyp_pieces_end file (hyp_at file h) (names.hyps h of) (fits file e.left names hyp.equation.left)
    (fits file e.right names hyp.equation.right)
statement_pieces_end file (statement.Goal i) valid of =
    let names = has_names file valid in
    let goal : IsGoal file (goal_at file i) = All-get_or (IsGoal file) file.goals i no_goal of valid.goals in
    let e = (goal_at file i).equation in
    goal_pieces_end file (goal_at file i) (fits file e.left names goal.equation.left)
    (fits file e.right names goal.equation.right)
    (method_pieces_end file e (goal_at file i).method names goal.method)

statements_pieces_end : (file : File) (order : List Statement) → IsValid file →
    AllByRecursion (IsStatementOf file) order → (next : List ℕ) → EachEnds (file_pieces file order) next
statements_pieces_end file [] valid all next = tt
statements_pieces_end file (s ∷ order) valid all next =
    let pieces = (written_statement file s).pieces in
    let after : List ℕ = spell (file_pieces file order) ++ next in
    ends_append (line_pieces pieces) (file_pieces file order) next
    (ends_append pieces (line_feed ∷ []) after
    (statement_pieces_end file s valid all.0 (10 ∷ after) (10, after, refl, refl)) ((10, refl, refl), tt))
    (statements_pieces_end file order valid all.1 next)

-- the pieces of a file stand side by side
pub file_pieces_end : (file : File) → IsValid file → EachEnds (file_pieces file file.order) []
file_pieces_end file valid = statements_pieces_end file file.order valid
    (recursion_from_All (IsStatementOf file) file.order (statements_are_of file valid)) []

-- the text of a file is cut into its pieces
pub cut_file : (file : File) → IsValid file → IsCut (file_pieces file file.order) (text_of file (unanswered file)) []
cut_file file valid =
    let P : List ℕ → Type 0 = λ bs. IsCut (file_pieces file file.order) bs [] in
    subst P (append-nil (spell (file_pieces file file.order)) ∙ spelled_file file valid)
    (cut_if_ends (file_pieces file file.order) [] (file_pieces_end file valid))
