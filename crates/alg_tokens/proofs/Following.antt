-- Token by token from a place gives the cutting of what is left there.
use Rattle.std.proofs.Common.{◌≡◌, ◌≢◌, ◌≤◌, ◌<◌, ℕ, ◌+◌, ◌-◌, List, [], ◌∷◌, ◌++◌, inl, inr, length, drop, map, refl, ap, sym, ◌∙◌, subst, arith, length-drop, length-append, append-nil}
use Rattle.std.proofs.Math.Seq.{drop-append_seam, drop-length}
use Rattle.std.proofs.lemmas.List.{drop-drop, map-append}
use Rattle.alg_tokens.specs.declared.token.TokenKind.{TokenKind}
use Rattle.alg_tokens.specs.declared.token.TokenKind.TheVariants as kinds
use Rattle.alg_tokens.specs.declared.token.Token.{Token}
use Rattle.alg_tokens.specs.Pieces.{Piece, Blank, Lexeme, bytes_of, IsFirst, IsCut, Spells}
use Rattle.alg_tokens.specs.Next.{AreBlanks}
use Rattle.alg_tokens.specs.Laws.{width, tokens_of, AllWithinMax, TokensFrom, CutFromAnywhere, CutGoesOn}
use Rattle.alg_tokens.proofs.Leads.{leads}

-- ---- what a cutting says of lengths and places

-- what is left after the first piece
after_first : (piece : Piece) (text rest : List ℕ) (at : ℕ) → IsFirst piece (drop at text) rest → rest ≡ drop
    (at + length (bytes_of piece)) text
after_first piece text rest at first =
    sym (drop-append_seam (bytes_of piece) rest) ∙ ap (drop (length (bytes_of piece))) (sym first.begins.1)
    ∙ drop-drop (length (bytes_of piece)) at text

first_within : (piece : Piece) (text rest : List ℕ) (at : ℕ) → at ≤ length text → IsFirst piece
    (drop at text) rest → at + length (bytes_of piece) ≤ length text
first_within piece text rest at within first =
    let long : length text - at ≡ length (bytes_of piece) + length rest = sym (length-drop at text)
    ∙ ap length first.begins.1 ∙ length-append (bytes_of piece) rest in
    omega arith

cut_append : (pieces more : List Piece) (text rest end : List ℕ) → IsCut pieces text rest → IsCut more rest end
    → IsCut (pieces ++ more) text end
cut_append [] more text rest end e cut = let P : List ℕ → Type 0 = λ t. IsCut more t end in subst P (sym e) cut
cut_append (p ∷ ps) more text rest end (next, first, cut) cutting = (
  next,
  first,
  cut_append ps more next rest end cut cutting,
)

cut_width : (pieces : List Piece) (text rest : List ℕ) → IsCut pieces text rest → length text
    ≡ width pieces + length rest
cut_width [] text rest e = let same = ap length e in omega arith
cut_width (p ∷ ps) text rest (next, first, cut) =
    let less = cut_width ps next rest cut in
    let long = ap length first.begins.1 ∙ length-append (bytes_of p) next in
    omega arith

pub cut_goes_on : CutGoesOn
cut_goes_on text [] after cut = cut
cut_goes_on text (p ∷ ps) after (next, first, cut) =
    let rest = cut_goes_on next ps after cut in
    let left : next ≡ drop (length (bytes_of p)) text = after_first p text next 0 first ∙ ap (λ n. drop n text)
    (omega arith) in
    let P : List ℕ → Type 0 = λ t. IsCut after t [] in
    subst P (ap (drop (width ps)) left ∙ drop-drop (width ps) (length (bytes_of p)) text) rest

tokens_after : (bs : List (List ℕ)) (pieces : List Piece) (at : ℕ) → tokens_of at (map Blank bs ++ pieces)
    ≡ tokens_of (at + width (map Blank bs)) pieces
tokens_after [] pieces at = ap (λ n. tokens_of n pieces) (omega arith)
tokens_after (b ∷ bs) pieces at = tokens_after bs pieces (at + length b) ∙ ap (λ n. tokens_of n pieces) (omega arith)

no_tokens : (bs : List (List ℕ)) (at : ℕ) → tokens_of at (map Blank bs) ≡ []
no_tokens [] at = refl
no_tokens (b ∷ bs) at = no_tokens bs (at + length b)

-- ---- from the tokens to the pieces

abbrev Cutting : List ℕ → ℕ → List Token → Type 0
Cutting text at tokens = (pieces : List Piece) × IsCut pieces (drop at text) [] × (tokens_of at pieces
    ≡ tokens) × AllWithinMax tokens

blanks_reach : (text : List ℕ) (at start : ℕ) (bs : List (List ℕ)) → at ≤ length text → start ≤ length text
    → IsCut (map Blank bs) (drop at text) (drop start text) → at + width (map Blank bs) ≡ start
blanks_reach text at start bs within inside cut =
    let long : length text - at ≡ width (map Blank bs) + (length text - start) =
    sym (length-drop at text) ∙ cut_width (map Blank bs) (drop at text) (drop start text) cut ∙ ap (λ n. width
    (map Blank bs) + n) (length-drop start text) in
    omega arith

lexeme_reaches : (text : List ℕ) (start stop : ℕ) (bytes : List ℕ) → start ≤ length text → stop ≤ length text
    → drop start text ≡ bytes ++ drop stop text → start + length bytes ≡ stop
lexeme_reaches text start stop bytes within inside e =
    let long : length text - start ≡ length bytes + (length text - stop) =
    sym (length-drop start text) ∙ ap length e ∙ length-append bytes (drop stop text) ∙ ap
    (λ n. length bytes + n) (length-drop stop text) in
    omega arith

to_cutting : (text : List ℕ) (at : ℕ) (tokens : List Token) → at ≤ length text → TokensFrom text at tokens
    → Cutting text at tokens
to_cutting text at [] within ((_, _, (bs, cut)), _, _) =
    let P : List ℕ → Type 0 = IsCut (map Blank bs) (drop at text) in
    (map Blank bs, subst P (drop-length text) cut, no_tokens bs at, tt)
to_cutting text at (t ∷ ts) within (((past, inside, (bs, cut)), inl (end, _, _), small), lexeme, rest) = absurd
    (lexeme end)
to_cutting text at (t ∷ ts) within (
  ((past, inside, (bs, cut)), inr (some, short, (bytes, first)), small),
  lexeme,
  rest,
) =
    let (pieces, cutting, same, low) = to_cutting text t.stop ts short rest in
    let place : at + width (map Blank bs) ≡ t.start = blanks_reach text at t.start bs within inside cut in
    let long : t.start + length bytes ≡ t.stop = lexeme_reaches text t.start t.stop bytes inside short first.begins.1 in
    let here : record { kind = t.kind; start = t.start; stop = t.start + length bytes } ≡ t = ap
    (λ n. record { kind = t.kind; start = t.start; stop = n }) long in
    let after : tokens_of (t.start + length bytes) pieces ≡ ts = ap (λ n. tokens_of n pieces) long ∙ same in (
      map Blank bs ++ Lexeme t.kind bytes ∷ pieces,
      cut_append (map Blank bs) (Lexeme t.kind bytes ∷ pieces) (drop at text) (drop t.start text) [] cut
          (drop t.stop text, first, cutting),
      tokens_after bs (Lexeme t.kind bytes ∷ pieces) at ∙ ap (λ n. tokens_of n (Lexeme t.kind bytes
          ∷ pieces)) place ∙ ap (λ x. x ∷ tokens_of (t.start + length bytes) pieces) here ∙ ap (λ xs. t ∷ xs) after,
      (small, low),
    )

-- ---- from the pieces to the tokens

lexeme_some : (kind : TokenKind) (bytes : List ℕ) → Spells kind bytes → 0 < length bytes
lexeme_some kind bytes is = (leads (Lexeme kind bytes) bytes [] (is, sym (append-nil bytes))).0

not_end : (kind : TokenKind) (bytes : List ℕ) → Spells kind bytes → kind ≢ kinds.End
not_end kind bytes is end = let P : TokenKind → Type 0 = λ k. Spells k bytes in subst P end is

from_cutting : (text : List ℕ) (from at : ℕ) (pieces : List Piece) → AreBlanks text from at → IsCut pieces
    (drop at text) [] → AllWithinMax (tokens_of at pieces) → TokensFrom text from (tokens_of at pieces)
from_cutting text from at [] (past, within, blanks) empty low =
    let none : 0 ≡ length text - at = ap length (sym empty) ∙ length-drop at text in
    let end : at ≡ length text = omega arith in
    let P : ℕ → Type 0 = AreBlanks text from in
    (subst P end (past, within, blanks), inl (refl, refl, refl), tt)
from_cutting text from at (Blank bytes ∷ pieces) (past, within, (bs, before)) (next, first, cut) low =
    let inside = first_within (Blank bytes) text next at within first in
    let left = after_first (Blank bytes) text next at first in
    let there : IsCut (map Blank (bs ++ bytes ∷ [])) (drop from text) (drop (at + length bytes) text) =
    rw map-append (cut_append (map Blank bs) (Blank bytes ∷ []) (drop from text) (drop at text) (drop
    (at + length bytes) text) before (next, first, left)) in
    let P : List ℕ → Type 0 = λ t. IsCut pieces t [] in
    from_cutting text from (at + length bytes) pieces (omega arith, inside, (bs ++ bytes ∷ [], there))
    (subst P left cut) low
from_cutting text from at (Lexeme kind bytes ∷ pieces) (past, within, blanks) (next, first, cut) (small, low) =
    let inside = first_within (Lexeme kind bytes) text next at within first in
    let left = after_first (Lexeme kind bytes) text next at first in
    let P : List ℕ → Type 0 = λ t. IsCut pieces t [] in
    let Q : List ℕ → Type 0 = λ t. IsFirst (Lexeme kind bytes) (drop at text) t in
    let some : 0 < length bytes = lexeme_some kind bytes first.begins.0 in (
      ((past, within, blanks), inr (omega arith, inside, (bytes, subst Q left first)), small),
      not_end kind bytes first.begins.0,
      from_cutting text (at + length bytes) (at + length bytes) pieces (omega arith, inside, ([], refl))
          (subst P left cut) low,
    )

pub cut_from_anywhere : CutFromAnywhere
cut_from_anywhere text at tokens within = (
  to_cutting text at tokens within,
  λ (pieces, cut, same, low).
      let P : List Token → Type 0 = AllWithinMax in
      let Q : List Token → Type 0 = TokensFrom text at in
      subst Q same (from_cutting text at at pieces (omega arith, within, ([], refl)) cut (subst P (sym same) low)),
)
