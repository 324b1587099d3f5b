-- What the number of a kind says of the kind.
use Rattle.std.proofs.Common.{◌≡◌, ◌<◌, ℕ, ◌⊎◌, inl, inr, refl, ap, sym, subst, arith, ℤ, pos, negsuc, zero, suc}
use Rattle.alg_tokens.specs.declared.token.TokenKind.{TokenKind}
use Rattle.alg_tokens.specs.declared.token.TokenKind.TheVariants as kinds
use Rattle.alg_tokens.specs.declared.token.Sign.{Sign}
use Rattle.alg_tokens.specs.declared.token.Sign.TheVariants as signs
use Rattle.alg_tokens.specs.declared.token.Word.{Word}
use Rattle.alg_tokens.specs.declared.token.Word.TheVariants as words
use Rattle.alg_reader.specs.Kinds.{variant, sign_number, word_number}

-- the number of a kind of numerals
abbrev pub IsOfNumerals : ℕ → Type 0
IsOfNumerals n = (1 ≡ n) ⊎ (2 ≡ n) ⊎ (3 ≡ n)

numeral_variant : (value : ℤ) → IsOfNumerals (variant (kinds.Number value))
numeral_variant (pos zero) = inl refl
numeral_variant (pos (suc zero)) = inr (inl refl)
numeral_variant (pos (suc (suc n))) = inr (inr refl)
numeral_variant (negsuc n) = inr (inr refl)

pub sign_small : (sign : Sign) → sign_number sign < 13
sign_small sign = elim sign as (λ s. sign_number s < 13) [ signs.Dot ↦ omega arith | _ ↦ omega arith ]

paren_sign : (sign : Sign) → sign_number sign ≡ 6 → sign ≡ signs.ParenLeft
paren_sign sign = elim sign as (λ s. sign_number s ≡ 6
    → s ≡ signs.ParenLeft) [
      | signs.ParenLeft ↦ λ h. refl
      | signs.Dot ↦ λ h. absurd (omega arith)
      | _ ↦ λ h. absurd
          (omega arith)
    ]

small_no_numeral : (n : ℕ) → n < 1 → IsOfNumerals n → ⊥
small_no_numeral n small (inl e) = absurd (omega arith)
small_no_numeral n small (inr (inl e)) = absurd (omega arith)
small_no_numeral n small (inr (inr e)) = absurd (omega arith)

large_no_numeral : (n : ℕ) → 3 < n → IsOfNumerals n → ⊥
large_no_numeral n large (inl e) = absurd (omega arith)
large_no_numeral n large (inr (inl e)) = absurd (omega arith)
large_no_numeral n large (inr (inr e)) = absurd (omega arith)

no_numeral : (value : ℤ) (n : ℕ) → 3 < n → n ≡ variant (kinds.Number value) → ⊥
no_numeral value n large h = large_no_numeral n large (subst IsOfNumerals (sym h) (numeral_variant value))

name_no_numeral : (value : ℤ) → 0 ≡ variant (kinds.Number value) → ⊥
name_no_numeral value h = small_no_numeral 0 (omega arith) (subst IsOfNumerals (sym h) (numeral_variant value))

pub is_paren : (kind : TokenKind) → variant (kinds.Sign signs.ParenLeft) ≡ variant kind
    → kind ≡ kinds.Sign signs.ParenLeft
is_paren kinds.Name h = absurd (omega arith)
is_paren (kinds.Word word) h = absurd (omega arith)
is_paren (kinds.Number value) h = absurd (no_numeral value 11 (omega arith) h)
is_paren (kinds.Sign sign) h = ap (λ s. kinds.Sign s) (paren_sign sign (omega arith))
is_paren kinds.End h = absurd (omega arith)

pub is_name : (kind : TokenKind) → variant kinds.Name ≡ variant kind → kind ≡ kinds.Name
is_name kinds.Name h = refl
is_name (kinds.Word word) h = absurd (omega arith)
is_name (kinds.Number value) h = absurd (name_no_numeral value h)
is_name (kinds.Sign sign) h = absurd (omega arith)
is_name kinds.End h = absurd (omega arith)

-- a kind with one of the numbers of numerals
pub is_numeral : (kind : TokenKind) → IsOfNumerals (variant kind) → (value : ℤ) × (kind ≡ kinds.Number value)
is_numeral (kinds.Number value) h = (value, refl)
is_numeral kinds.Name h = absurd (small_no_numeral 0 (omega arith) h)
is_numeral (kinds.Word word) h = absurd (large_no_numeral (variant (kinds.Word word)) (omega arith) h)
is_numeral (kinds.Sign sign) h = absurd (large_no_numeral (variant (kinds.Sign sign)) (omega arith) h)
is_numeral kinds.End h = absurd (large_no_numeral 4 (omega arith) h)

-- a word, by its number
module _ (word : Word) (alone : (w : Word) → word_number w ≡ word_number word → w ≡ word) where
  is_word : (kind : TokenKind) → variant (kinds.Word word) ≡ variant kind → kind ≡ kinds.Word word
  is_word kinds.Name h = absurd (omega arith)
  is_word (kinds.Word w) h = ap (λ w. kinds.Word w) (alone w (omega arith))
  is_word (kinds.Number value) h = absurd (no_numeral value (variant (kinds.Word word)) (omega arith) h)
  is_word (kinds.Sign sign) h = let small = sign_small sign in absurd (omega arith)
  is_word kinds.End h = absurd (omega arith)

nsatz_word : (word : Word) → word_number word ≡ 21 → word ≡ words.Nsatz
nsatz_word word = elim word as (λ w. word_number w ≡ 21 → w ≡ words.Nsatz) [
  | words.Nsatz ↦ λ h. refl
  | words.Additive ↦ λ h. absurd (omega arith)
  | _ ↦ λ h. absurd (omega arith)
]

pub is_nsatz : (kind : TokenKind) → variant (kinds.Word words.Nsatz) ≡ variant kind → kind ≡ kinds.Word words.Nsatz
is_nsatz = is_word words.Nsatz nsatz_word

by_word : (word : Word) → word_number word ≡ 5 → word ≡ words.By
by_word word = elim word as (λ w. word_number w ≡ 5 → w ≡ words.By) [
  | words.By ↦ λ h. refl
  | words.Additive ↦ λ h. absurd (omega arith)
  | _ ↦ λ h. absurd (omega arith)
]

pub is_by : (kind : TokenKind) → variant (kinds.Word words.By) ≡ variant kind → kind ≡ kinds.Word words.By
is_by = is_word words.By by_word

ring_word : (word : Word) → word_number word ≡ 26 → word ≡ words.Ring
ring_word word = elim word as (λ w. word_number w ≡ 26 → w ≡ words.Ring) [
  | words.Ring ↦ λ h. refl
  | words.Additive ↦ λ h. absurd (omega arith)
  | _ ↦ λ h. absurd (omega arith)
]

pub is_ring : (kind : TokenKind) → variant (kinds.Word words.Ring) ≡ variant kind → kind ≡ kinds.Word words.Ring
is_ring = is_word words.Ring ring_word

field_word : (word : Word) → word_number word ≡ 10 → word ≡ words.Field
field_word word = elim word as (λ w. word_number w ≡ 10 → w ≡ words.Field) [
  | words.Field ↦ λ h. refl
  | words.Additive ↦ λ h. absurd (omega arith)
  | _ ↦ λ h. absurd (omega arith)
]

pub is_field : (kind : TokenKind) → variant (kinds.Word words.Field) ≡ variant kind → kind ≡ kinds.Word words.Field
is_field = is_word words.Field field_word

dot_sign : (sign : Sign) → sign_number sign ≡ 0 → sign ≡ signs.Dot
dot_sign sign = elim sign as (λ s. sign_number s ≡ 0 → s ≡ signs.Dot) [
  | signs.Dot ↦ λ h. refl
  | signs.Colon ↦ λ h. absurd (omega arith)
  | _ ↦ λ h. absurd (omega arith)
]

pub is_dot : (kind : TokenKind) → variant (kinds.Sign signs.Dot) ≡ variant kind → kind ≡ kinds.Sign signs.Dot
is_dot kinds.Name h = absurd (omega arith)
is_dot (kinds.Word word) h = absurd (omega arith)
is_dot (kinds.Number value) h = absurd (no_numeral value 5 (omega arith) h)
is_dot (kinds.Sign sign) h = ap (λ s. kinds.Sign s) (dot_sign sign (omega arith))
is_dot kinds.End h = absurd (omega arith)
