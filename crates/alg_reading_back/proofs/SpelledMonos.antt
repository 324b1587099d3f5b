-- The pieces of monomials and integers spell their texts.
use Rattle.std.proofs.Common.{◌≡◌, ℕ, true, false, cond, nat_lt, List, [], ◌∷◌, ◌++◌, codes, decimal, refl, ap, ◌∙◌, append-nil, arith, ℤ, pos, negsuc, suc}
use Rattle.std.specs.Fmt.{signed_decimal}
use Rattle.std.proofs.lemmas.Fmt.{decimal_digit}
use Rattle.alg_mono.specs.Mono.{Monomial}
use Rattle.alg_terms.specs.declared.file.File.{File}
use Rattle.alg_terms.specs.declared.term.Atom.{Atom}
use Rattle.alg_tokens.specs.declared.token.Sign.TheVariants as signs
use Rattle.alg_tokens.proofs.Neighbours.{spell, spell_append}
use Rattle.alg_printer.specs.Monomials.{atom_at, atom_text, exponent_text, factor_text, factors_text, mono_text}
use Rattle.alg_printer.specs.Names.{var_name}
use Rattle.alg_reading_back.proofs.SpelledLists.{spelled_list}
use Rattle.alg_reading_back.proofs.SpelledMethods.{spelled_path}
use Rattle.alg_reading_back.proofs.WrittenLists.{star}
use Rattle.alg_reading_back.proofs.WrittenMonos.{exponent_pieces, atom_pieces, written_factor, written_factors, written_mono, written_integer}
use Rattle.alg_reading_back.proofs.WrittenTerms.{sign, numeral}

spelled_exponent : (n : ℕ) → spell (exponent_pieces n) ≡ exponent_text n
spelled_exponent n =
    elim (nat_lt 1 n) as (λ b. spell (cond b (sign signs.Caret ∷ numeral n ∷ []) [])
    ≡ cond b (codes "^" ++ decimal n) []) [
      | true ↦ ap (λ bs. codes "^" ++ bs) (append-nil (decimal n))
      | false ↦ refl
    ]

spelled_factor : (file : File) (atoms : List Atom) (e : ℕ × ℕ) →
    spell (written_factor file atoms e).pieces ≡ factor_text file atoms e
spelled_factor file atoms e =
    let atom = atom_at atoms e.0 in
    spell_append (atom_pieces file atom) (exponent_pieces e.1)
    ∙ ap (λ bs. bs ++ spell (exponent_pieces e.1)) (spelled_path file atom.path (var_name file atom.var))
    ∙ ap (λ bs. atom_text file atom ++ bs) (spelled_exponent e.1)

pub spelled_factors : (file : File) (atoms : List Atom) (e : ℕ × ℕ) (m : Monomial) →
    spell (written_factors file atoms e m).pieces ≡ factors_text file atoms (e ∷ m)
spelled_factors file atoms e m =
    spelled_list (written_factor file atoms) star (factor_text file atoms) (spelled_factor file atoms) e m

pub spelled_mono : (file : File) (atoms : List Atom) (m : Monomial) →
    spell (written_mono file atoms m).pieces ≡ mono_text file atoms m
spelled_mono file atoms [] = append-nil (decimal 1) ∙ decimal_digit 1 (omega arith)
spelled_mono file atoms (e ∷ m) = spelled_factors file atoms e m

pub spelled_integer : (b : ℤ) → spell (written_integer b).pieces ≡ signed_decimal b
spelled_integer (pos n) = append-nil (decimal n)
spelled_integer (negsuc n) = ap (λ bs. 45 ∷ bs) (append-nil (decimal (suc n)))
