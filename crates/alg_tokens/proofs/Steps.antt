-- The first token of what follows the blanks is the next token of the text.
use Rattle.std.proofs.Common.{◌≡◌, ◌≤◌, ℕ, ◌+◌, ◌-◌, List, inl, inr, length, take, drop, ap, sym, ◌∙◌, subst, arith, length-drop, Ok, Err}
use Rattle.std.proofs.lemmas.List.{drop-drop}
use Rattle.alg_tokens.specs.declared.code.Code.{Code}
use Rattle.alg_tokens.specs.declared.token.TokenKind.{TokenKind}
use Rattle.alg_tokens.specs.Codes.{code_number, fault_at}
use Rattle.alg_tokens.specs.Pieces.{Lexeme, IsFirst}
use Rattle.alg_tokens.specs.Next.{FollowsBlanks, AreBlanks, BeginsNoPiece, BeginsOverMax, IsNext, IsFirstToken, StandsIn, IsWithinMax}

blanks_here : (text : List ℕ) (at n : ℕ) → at + n ≤ length text → FollowsBlanks (drop at text) (drop n
    (drop at text)) → AreBlanks text at (at + n)
blanks_here text at n within follows = (
  omega arith,
  within,
  let P : List ℕ → Type 0 = FollowsBlanks (drop at text) in subst P
      (drop-drop n at text) follows,
)

-- the number of a fault says as much as the fault
numbered : (text rest : List ℕ) (at place : ℕ) (fault : Code) → rest ≡ drop place text → AreBlanks text at place →
    IsFirstToken rest (Err fault) → IsNext text at (Err (fault_at fault place))
numbered text rest at place fault e blanks (inl (is, none)) =
    (blanks, inl (ap code_number is, subst BeginsNoPiece e none))
numbered text rest at place fault e blanks (inr (is, over)) =
    (blanks, inr (ap code_number is, subst BeginsOverMax e over))

-- a fault
pub refused_next : (text after rest : List ℕ) (at n : ℕ) (fault : Code) → after ≡ drop at text →
    rest ≡ drop (at + n) text → at + n ≤ length text → FollowsBlanks after (drop n after) →
    IsFirstToken rest (Err fault) → IsNext text at (Err (fault_at fault (at + n)))
refused_next text after rest at n fault e k within follows first =
    let P : List ℕ → Type 0 = λ bs. FollowsBlanks bs (drop n bs) in
    numbered text rest at (at + n) fault k (blanks_here text at n within (subst P e follows)) first

stands : (text : List ℕ) (start len : ℕ) (kind : TokenKind) → start ≤ length text → IsFirstToken
    (drop start text) (Ok (kind, len))
    → StandsIn text (record { kind = kind; start = start; stop = start + len }) × IsWithinMax kind
stands text start len kind within (small, inl (end, empty, none)) =
    let left : 0 ≡ length text - start = ap length (sym empty) ∙ length-drop start text in
    (inl (end, omega arith, omega arith), small)
stands text start len kind within (small, inr (some, short, first)) =
    let left = length-drop start text in
    let P : List ℕ → Type 0 = λ rest. IsFirst (Lexeme kind (take len (drop start text))) (drop start text) rest in
    (inr (omega arith, omega arith, (take len (drop start text), subst P (drop-drop len start text) first)), small)

-- a token
pub token_next : (text after rest : List ℕ) (at n len : ℕ) (kind : TokenKind) → after ≡ drop at text → rest
    ≡ drop (at + n) text → at + n ≤ length text
    → FollowsBlanks after (drop n after) → IsFirstToken rest (Ok (kind, len)) → IsNext text at (Ok
    (record { kind = kind; start = at + n; stop = (at + n) + len }))
token_next text after rest at n len kind e k within follows first =
    let P : List ℕ → Type 0 = λ bs. FollowsBlanks bs (drop n bs) in
    let Q : List ℕ → Type 0 = λ bs. IsFirstToken bs (Ok (kind, len)) in
    let (stands, small) = stands text (at + n) len kind within (subst Q k first) in
    (blanks_here text at n within (subst P e follows), stands, small)
