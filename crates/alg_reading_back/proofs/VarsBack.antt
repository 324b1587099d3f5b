-- The raw statement of the canonical text of variables is one that the front before it takes, to the next front.
use Rattle.std.proofs.Common.{◌≡◌, ◌≢◌, ◌<◌, ◌≤◌, ℕ, zero, suc, ◌+◌, List, [], ◌∷◌, ◌++◌, length, map, take, refl, sym, ap, ◌∙◌, subst, arith}
use Rattle.std.specs.Prelude.{All, Contains}
use Rattle.std.proofs.lemmas.List.{get_or-take, length-take, length-map}
use Rattle.std.proofs.lemmas.List.Elements.{All-head}
use Rattle.alg_terms.specs.declared.file.File.{File}
use Rattle.alg_terms.specs.declared.file.Statement.{Statement}
use Rattle.alg_terms.specs.declared.file.Statement.TheVariants as statement
use Rattle.alg_terms.specs.Members.{var_at, sort_of_var, no_var}
use Rattle.alg_terms.specs.Order.{declared_by, declared_by_all, numbers_from, IsOneSorted}
use Rattle.alg_terms.specs.Valid.{IsValid, names_of}
use Rattle.alg_terms.proofs.JoinedLists.{all_right}
use Rattle.alg_tokens.specs.declared.token.Sign.TheVariants as signs
use Rattle.alg_tokens.specs.declared.token.TokenKind.TheVariants as kinds
use Rattle.alg_tokens.specs.declared.token.Word.TheVariants as words
use Rattle.alg_tokens.specs.Laws.{width}
use Rattle.alg_tokens.specs.Pieces.{Piece}
use Rattle.alg_reader.specs.WellRead.{bytes_at}
use Rattle.alg_typing.specs.NameFaults.{new_names, used_name}
use Rattle.alg_typing.specs.Names.{is_sort}
use Rattle.alg_typing.specs.Resolved.{number_at, vars_of}
use Rattle.alg_typing.proofs.DeclaredNames.{at_place, name_at}
use Rattle.alg_typing.proofs.FreshNames.{Name, IsNew, AreDistinct}
use Rattle.alg_printer.specs.Names.{sort_name, var_name}
use Rattle.alg_reading_back.proofs.Fresh.{fresh_var}
use Rattle.alg_reading_back.proofs.Fronts.{front, vars_in, next, grows}
use Rattle.alg_reading_back.proofs.WrittenStatements.{written_statement, name_pieces, name_spans, dot, behind}
use Rattle.alg_reading_back.proofs.WrittenTerms.{space, sign, word, name}
use Rattle.alg_reading_back.proofs.NamesTaken.{AreFresh, news_taken, sort_used, sort_before, two_empty}
use Rattle.alg_reading_back.proofs.NextLists.{same_lists, same_list}
use Rattle.alg_reading_back.proofs.PiecesAt.{PiecesAt, pieces_at_left, pieces_at_right, span_bytes}
use Rattle.alg_reading_back.proofs.Steps.{count_with, length_of_take}
use Rattle.alg_reading_back.proofs.Taken.{IsTaken}
use Rattle.alg_reading_back.proofs.VarLists.{numbers_long, begin_same, first_of_all, take_several, names_bytes, length_of_spans, declared_vars}

-- a name that is new to the first variables is not that of one of them
not_earlier : (file : File) (bytes : Name) (k j : ℕ) → k < j → k < length file.vars →
    IsNew bytes (map (λ var. var.name) (take j file.vars)) → bytes ≢ var_name file k
not_earlier file bytes k j earlier low new =
    let first = take j file.vars in
    let inside : k < length first = omega (arith, length-take j file.vars) in
    let there = name_at (λ var. var.name) first k no_var inside in
    let same = ap (λ var. var.name) (get_or-take j file.vars k no_var earlier) in
    let named : k < length (map (λ var. var.name) first) = omega (arith, inside, length-map first (λ var. var.name)) in
    subst (λ other. bytes ≢ other) (there ∙ same)
    (at_place (λ other. bytes ≢ other) (map (λ var. var.name) first) k [] new named)

module _ (file : File) (valid : IsValid file) (before after : List Statement) where
  -- the names of variables from the next one on are new, one after the other
  fresh_names : (k count : ℕ) → vars_in before ≤ k → k + count ≤ length file.vars → (earlier : List Name) →
      ((name : Name) (j : ℕ) → k ≤ j → IsNew name (map (λ var. var.name) (take j file.vars)) → IsNew name earlier) →
      AreFresh (front file before) earlier (map (var_name file) (numbers_from k count))
  fresh_names k zero behind fits earlier apart = tt
  fresh_names k (suc count) behind fits earlier apart =
      let (free, own) = fresh_var file valid before k behind (omega (arith, fits)) in
      let more : (name : Name) (j : ℕ) → suc k ≤ j → IsNew name (map (λ var. var.name) (take j file.vars)) →
      IsNew name (var_name file k ∷ earlier) = λ name j past new.
      let later : k < j = omega (arith, past) in
      (not_earlier file name k j later (omega (arith, fits)) new, apart name j (omega (arith, past)) new) in (
        (free, apart (var_name file k) k (omega arith) own),
        fresh_names (suc k) count (omega (arith, behind)) (omega (arith, fits)) (var_name file k ∷ earlier) more,
      )

  -- the variables of the next statement are those behind the front's
  pub record AreNext (first count : ℕ) : Type 0 where
    pub some : 1 ≤ count
    pub one_sort : (k : ℕ) → k < count → sort_of_var file (first + k) ≡ sort_of_var file first
    pub here : first ≡ vars_in before
    pub fits : first + count ≤ length file.vars
    pub more : vars_in (before ++ statement.Vars first count ∷ []) ≡ first + count

  pub are_next : (first count : ℕ) → file.order ≡ before ++ (statement.Vars first count ∷ after) → AreNext first count
  are_next first count split =
      let s = statement.Vars first count in
      let (some, one_sort) = All-head (IsOneSorted file) s after (all_right (IsOneSorted file) before (s ∷ after)
      (subst (All (IsOneSorted file)) split valid.ordered.one_sorted)) in
      let (rising, fits) = (next file valid.ordered before after s split).vars in
      let long = numbers_long first count in
      let here : first ≡ vars_in before =
      begin_same first (vars_in before) count (length (numbers_from first count)) some rising in
      let with_s = count_with (λ s. (declared_by s).vars) before s in
      record {
        some = some;
        one_sort = one_sort;
        here = here;
        fits = omega (arith, fits, long, here);
        more = omega (arith, with_s, long, here);
      }

  -- their names are new
  vars_fresh : (first count : ℕ) → AreNext first count →
      AreFresh (front file before) [] (map (var_name file) (numbers_from first count))
  vars_fresh first count vars =
      fresh_names first count (omega (arith, vars.here)) vars.fits [] (λ name j past new. tt)

  -- their sort is one of the front
  vars_sorted : (first count : ℕ) → file.order ≡ before ++ (statement.Vars first count ∷ after) → 1 ≤ count →
      sort_of_var file first < length (front file before).sorts
  vars_sorted first count split some =
      let s = statement.Vars first count in
      sort_before file valid before after s split (sort_of_var file first)
      (first_of_all (Contains (declared_by_all before).sorts) (sort_of_var file) first count some
      (valid.ordered.earlier before after s split).sorts)

  -- with them the front's variables are those of the next
  vars_more : (first count : ℕ) → AreNext first count →
      take (vars_in before) file.vars ++ map (var_at file) (numbers_from first count)
      ≡ take (vars_in (before ++ statement.Vars first count ∷ [])) file.vars
  vars_more first count vars =
      ap (λ n. take n file.vars ++ map (var_at file) (numbers_from first count)) (sym vars.here)
      ∙ sym (take_several file.vars first count no_var vars.fits) ∙ ap (λ n. take n file.vars) (sym vars.more)

  pub vars_taken : (first count : ℕ) → file.order ≡ before ++ (statement.Vars first count ∷ after) →
      AreDistinct (names_of (front file before)) → (text : List ℕ) (at : ℕ) →
      PiecesAt text at (written_statement file (statement.Vars first count)).pieces →
      IsTaken (front file before) text ((written_statement file (statement.Vars first count)).raw at)
      (front file (before ++ statement.Vars first count ∷ []))
  vars_taken first count split distinct text at placed =
      let s = statement.Vars first count in
      let g = front file before in
      let vars = are_next first count split in
      let of = sort_of_var file first in
      let names = map (var_name file) (numbers_from first count) in
      let colon : List Piece = space ∷ sign signs.Colon ∷ space ∷ [] in
      let head : List Piece = word words.Var ∷ (name_pieces names ++ colon) in
      let spans = name_spans (at + 3) names in
      let sort = behind head at (sort_name file of) in
      let bytes : map (bytes_at text) spans ≡ names =
      names_bytes text (at + 3) names colon (pieces_at_left text at head (name (sort_name file of) ∷ dot) placed).1 in
      let sort_bytes : bytes_at text sort ≡ sort_name file of =
      span_bytes text (at + width head) kinds.Name (sort_name file of) dot
      (pieces_at_right text at head (name (sort_name file of) ∷ dot) placed) in
      let (number, used) = sort_used g text file distinct (grows file before) of sort
      (vars_sorted first count split vars.some) sort_bytes in
      let new : vars_of g text (number_at g text sort) spans ≡ map (var_at file) (numbers_from first count) =
      ap (λ n. vars_of g text n spans) number ∙ declared_vars file g text of first count spans vars.one_sort bytes in
      let inside = vars.fits in
      let low : vars_in before ≤ length file.vars = omega (arith, inside, vars.here) in
      let long : length spans ≡ count =
      length_of_spans (at + 3) names ∙ length-map (numbers_from first count) (var_name file)
      ∙ numbers_long first count in
      record {
        names = two_empty (new_names g text [] spans) (used_name g text is_sort sort)
            (news_taken g text [] spans (subst (AreFresh g []) (sym bytes) (vars_fresh first count vars))) used;
        sorts = refl;
        extends = same_lists _ _ (same_list (λ s. (declared_by s).sorts) file.sorts before s refl)
            (same_list (λ s. (declared_by s).homs) file.homs before s refl)
            (ap (λ vars. take (vars_in before) file.vars ++ vars) new ∙ vars_more first count vars)
            (same_list (λ s. (declared_by s).hyps) file.hyps before s refl)
            (same_list (λ s. (declared_by s).goals) file.goals before s refl)
            (ap (λ n. before ++ statement.Vars n (length spans) ∷ [])
            (length_of_take file.vars (vars_in before) low ∙ sym vars.here)
            ∙ ap (λ n. before ++ statement.Vars first n ∷ []) long);
      }
