-- A text has at most one cutting, and each place at most one next token.
use Rattle.std.proofs.Common.{◌≡◌, ◌≤◌, ◌≤ℤ◌, ℕ, ◌-◌, List, [], ◌∷◌, ◌⊎◌, inl, inr, length, drop, map, refl, ap, sym, ◌∙◌, subst, arith, length-drop, Ok, Err}
use Rattle.std.proofs.Math.ListN.{drop_of_length-le}
use Rattle.std.proofs.lemmas.Int.{ints}
use Rattle.alg_tokens.specs.declared.code.Code.TheVariants as code
use Rattle.alg_tokens.specs.declared.token.TokenKind.{TokenKind}
use Rattle.alg_tokens.specs.declared.token.TokenKind.TheVariants as kinds
use Rattle.alg_tokens.specs.declared.token.Token.{Token}
use Rattle.alg_terms.specs.Limits.{MAX_LITERAL}
use Rattle.alg_tokens.specs.Codes.{code_number}
use Rattle.alg_tokens.specs.Pieces.{Piece, Blank, Lexeme, BeginsWith, IsFirst, IsCut}
use Rattle.alg_tokens.specs.Next.{AreBlanks, StandsIn, IsWithinMax, BeginsNoPiece, BeginsOverMax}
use Rattle.alg_tokens.specs.Laws.{OneCutting, OneNext}
use Rattle.alg_tokens.proofs.Leads.{leads}
use Rattle.alg_tokens.proofs.Unique.{one_first, lexeme_no_blank}

-- nothing begins an empty text
nothing_first : (piece : Piece) (rest : List ℕ) → BeginsWith piece [] rest → ⊥
nothing_first piece rest begins = let some = leads piece [] rest begins in omega arith

pub one_cutting : OneCutting
one_cutting text [] [] is so = refl
one_cutting text [] (q ∷ qs) is (more, first, _) = absurd (nothing_first q more (let P : List ℕ → Type 0 =
    λ bs. BeginsWith q bs more in subst P is first.begins))
one_cutting text (p ∷ ps) [] (rest, first, _) so = absurd (nothing_first p rest (let P : List ℕ → Type 0 =
    λ bs. BeginsWith p bs rest in subst P so first.begins))
one_cutting text (p ∷ ps) (q ∷ qs) (rest, first, cut) (more, second, cutting) =
    let (same, left) = one_first p q text rest more first second in
    let P : List ℕ → Type 0 = λ bs. IsCut qs bs [] in
    let tails = one_cutting rest ps qs cut (subst P (sym left) cutting) in
    ap (λ x. x ∷ ps) same ∙ ap (λ xs. q ∷ xs) tails

-- ---- blanks

-- the text begins with no blank
abbrev NoBlank : List ℕ → Type 0
NoBlank text = (bytes : List ℕ) (rest : List ℕ) → BeginsWith (Blank bytes) text rest → ⊥

-- blanks lead to one place that begins with none
one_rest : (text rest more : List ℕ) (bs cs : List (List ℕ)) → IsCut (map Blank bs) text rest → IsCut
    (map Blank cs) text more → NoBlank rest → NoBlank more → rest ≡ more
one_rest text rest more [] [] is so ends stops = sym is ∙ so
one_rest text rest more [] (c ∷ cs) is (after, first, _) ends stops = absurd (ends c after (let P : List ℕ
    → Type 0 = λ bs. BeginsWith (Blank c) bs after in subst P is first.begins))
one_rest text rest more (b ∷ bs) [] (after, first, _) so ends stops = absurd (stops b after (let P : List ℕ
    → Type 0 = λ bs. BeginsWith (Blank b) bs after in subst P so first.begins))
one_rest text rest more (b ∷ bs) (c ∷ cs) (after, first, cut) (next, second, cutting) ends stops =
    let (same, left) = one_first (Blank b) (Blank c) text after next first second in
    let P : List ℕ → Type 0 = λ t. IsCut (map Blank cs) t more in
    one_rest after rest more bs cs cut (subst P (sym left) cutting) ends stops

-- ---- the next token

token_no_blank : (text : List ℕ) (token : Token) → StandsIn text token → NoBlank (drop token.start text)
token_no_blank text token (inl (end, start, stop)) bytes rest begins =
    let some = leads (Blank bytes) (drop token.start text) rest begins in
    let none = length-drop token.start text in
    omega arith
token_no_blank text token (inr (some, within, (bytes, first))) blank rest begins =
    lexeme_no_blank token.kind bytes blank (drop token.start text) (drop token.stop text) rest first.begins begins

-- why a fault stands at its place
abbrev IsFault : List ℕ → ℕ → Type 0
IsFault text n = ((n ≡ code_number code.Char) × BeginsNoPiece text)
    ⊎ ((n ≡ code_number code.Number) × BeginsOverMax text)

fault_no_blank : (text : List ℕ) (n : ℕ) → IsFault text n → NoBlank text
fault_no_blank text n (inl (_, (some, none))) bytes rest begins = none (Blank bytes) rest begins
fault_no_blank text n (inr (_, (value, bytes, more, first, over))) blank rest begins = lexeme_no_blank
    (kinds.Number value) bytes blank text more rest first.begins begins

same_place : (text : List ℕ) (m n : ℕ) → m ≤ length text → n ≤ length text → drop m text ≡ drop n text → m ≡ n
same_place text m n within inside e =
    let long : length text - m ≡ length text - n = sym (length-drop m text) ∙ ap length e ∙ length-drop n text in
    omega arith

one_place : (text : List ℕ) (at m n : ℕ) → AreBlanks text at m → AreBlanks text at n → NoBlank (drop m text)
    → NoBlank (drop n text) → m ≡ n
one_place text at m n (_, within, (bs, cut)) (_, inside, (cs, cutting)) ends stops =
    same_place text m n within inside (one_rest (drop at text) (drop m text) (drop n text) bs cs cut cutting ends stops)

-- the kind of a lexeme
kind_of : Piece → TokenKind
kind_of (Blank bytes) = kinds.End
kind_of (Lexeme kind bytes) = kind

same_token : (t u : Token) → t.kind ≡ u.kind → t.start ≡ u.start → t.stop ≡ u.stop → t ≡ u
same_token t u kind start stop =
    ap (λ x. record { kind = x; start = t.start; stop = t.stop }) kind ∙ ap (λ x. record {
      kind = u.kind;
      start =
          x;
      stop = t.stop;
    }) start
    ∙ ap (λ x. record { kind = u.kind; start = u.start; stop = x }) stop

-- two lexemes of a place have one kind and one rest
one_lexeme : (one other : TokenKind) (bytes more text rest left : List ℕ) → IsFirst
    (Lexeme one bytes) text rest → IsFirst (Lexeme other more) text left → (one ≡ other) × (rest ≡ left)
unfolding kind_of
one_lexeme one other bytes more text rest left is so =
    let (same, after) = one_first (Lexeme one bytes) (Lexeme other more) text rest left is so in
    (ap kind_of same, after)

one_token : (text : List ℕ) (t u : Token) → t.start ≡ u.start → StandsIn text t → StandsIn text u → t ≡ u
one_token text t u start (inl (end, at, stop)) (inl (ends, place, stops)) = same_token t u (end
    ∙ sym ends) start (stop ∙ sym stops)
one_token text t u start (inl (end, at, stop)) (inr (some, within, _)) = absurd (omega arith)
one_token text t u start (inr (some, within, _)) (inl (ends, place, stops)) = absurd (omega arith)
one_token text t u start (inr (some, within, (bytes, first))) (inr (more, inside, (other, second))) =
    let P : ℕ → Type 0 = λ n. IsFirst (Lexeme u.kind other) (drop n text) (drop u.stop text) in
    let (kind, rest) = one_lexeme t.kind u.kind bytes other (drop t.start text) (drop t.stop text)
    (drop u.stop text) first (subst P (sym start) second) in
    same_token t u kind start (same_place text t.stop u.stop within inside rest)

-- no fault stands where a token does
not_both : (text : List ℕ) (token : Token) (code at : ℕ) → token.start ≡ at → StandsIn text token
    → IsWithinMax token.kind → IsFault (drop at text) code → ⊥
not_both text token code at start (inl (end, place, stop)) small (inl (_, (some, none))) =
    some (drop_of_length-le text (omega arith))
not_both text token code at start (inl (end, place, stop)) small (inr (_, (value, bytes, more, first, over))) =
    let P : List ℕ → Type 0 = λ t. BeginsWith (Lexeme (kinds.Number value) bytes) t more in
    nothing_first (Lexeme (kinds.Number value) bytes) more (subst P (drop_of_length-le text (omega arith)) first.begins)
not_both text token code at start (inr (some, within, (bytes, first))) small (inl (_, (_, none))) =
    let P : ℕ → Type 0 = λ n. BeginsWith (Lexeme token.kind bytes) (drop n text) (drop token.stop text) in
    none (Lexeme token.kind bytes) (drop token.stop text) (subst P start first.begins)
not_both text token code at start (inr (some, within, (bytes, first))) small (inr (
  _,
  (
    value,
    other,
    more,
    second,
    over,
  ),
)) =
    let P : ℕ → Type 0 = λ n. IsFirst (Lexeme token.kind bytes) (drop n text) (drop token.stop text) in
    let (kind, rest) = one_lexeme token.kind (kinds.Number value) bytes other (drop at text)
    (drop token.stop text) more (subst P start first) second in
    let low : value ≤ℤ MAX_LITERAL = subst IsWithinMax kind small in
    omega (arith, ints)

one_code : (text : List ℕ) (code other : ℕ) → IsFault text code → IsFault text other → code ≡ other
one_code text code other (inl (is, _)) (inl (so, _)) = is ∙ sym so
one_code text code other (inr (is, _)) (inr (so, _)) = is ∙ sym so
one_code text code other (inl (_, (_, none))) (inr (_, (value, bytes, more, first, over))) = absurd (none
    (Lexeme (kinds.Number value) bytes) more first.begins)
one_code text code other (inr (_, (value, bytes, more, first, over))) (inl (_, (_, none))) = absurd (none
    (Lexeme (kinds.Number value) bytes) more first.begins)

pub one_next : OneNext
one_next text at (Ok t) (Ok u) (blanks, stands, small) (spaces, is, low) =
    let start = one_place text at t.start u.start blanks spaces (token_no_blank text t stands)
    (token_no_blank text u is) in
    ap (λ x. Ok x) (one_token text t u start stands is)
one_next text at (Ok t) (Err fault) (blanks, stands, small) (spaces, is) =
    let start = one_place text at t.start fault.at blanks spaces (token_no_blank text t stands) (fault_no_blank
    (drop fault.at text) fault.code is) in
    absurd (not_both text t fault.code fault.at start stands small is)
one_next text at (Err fault) (Ok t) (spaces, is) (blanks, stands, small) =
    let start = one_place text at t.start fault.at blanks spaces (token_no_blank text t stands) (fault_no_blank
    (drop fault.at text) fault.code is) in
    absurd (not_both text t fault.code fault.at start stands small is)
one_next text at (Err one) (Err other) (blanks, is) (spaces, so) =
    let place = one_place text at one.at other.at blanks spaces (fault_no_blank (drop one.at text) one.code is)
    (fault_no_blank (drop other.at text) other.code so) in
    let P : ℕ → Type 0 = λ n. IsFault (drop n text) other.code in
    let code = one_code (drop one.at text) one.code other.code is (subst P (sym place) so) in
    ap (λ x. Err (record { code = x; at = one.at })) code ∙ ap (λ x. Err (record { code = other.code; at = x })) place
