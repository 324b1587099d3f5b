-- The first fault of an answer, a line or a step, of its depth, its names and all else.
use Rattle.std.proofs.Common.{◌≡◌, ◌≢◌, ℕ, List, Option, None, Some, refl, ap, sym}
use Rattle.std.specs.Option.{option_or, option_map}
use Rattle.alg_terms.specs.declared.file.File.{File}
use Rattle.alg_tokens.specs.declared.token.Refusal.{Refusal}
use Rattle.alg_tokens.specs.declared.code.Code.TheVariants as code
use Rattle.alg_tokens.specs.Codes.{fault_at}
use Rattle.alg_reader.specs.declared.reading.Raw.{Raw}
use Rattle.alg_typing.specs.Faults.{first_of}
use Rattle.alg_typing.proofs.TypedTerms.{names_first, sorts_next}
use Rattle.alg_annotated.specs.Names.{statement_names}
use Rattle.alg_annotated.specs.Reading.{first_fault}
use Rattle.alg_annotated.specs.Rules.{statement_faults}

nothing_deep : (deep : Option ℕ) → ((at : ℕ) → deep ≢ Some at) → None ≡ option_map (fault_at code.Depth) deep
nothing_deep None none = refl
nothing_deep (Some at) none = absurd (none at refl)

module _ (file : File) (text : List ℕ) (raw : Raw) where
  abbrev names : Option Refusal
  names = first_of (statement_names file text raw.kind)

  abbrev others : Option Refusal
  others = first_of (statement_faults file text raw.start raw.kind)

  pub first_is_deep : (at : ℕ) → raw.too_deep ≡ Some at → Some (fault_at code.Depth at) ≡ first_fault file text raw
  first_is_deep at is =
      ap (λ (d : Option ℕ). option_or (option_map (fault_at code.Depth) d) (option_or names others)) (sym is)

  pub first_is_name : (f : Refusal) → ((at : ℕ) → raw.too_deep ≢ Some at) →
      Some f ≡ first_of (statement_names file text raw.kind) → Some f ≡ first_fault file text raw
  first_is_name f none is =
      sorts_next _ _ (Some f) (nothing_deep raw.too_deep none) (names_first names others f is)

  pub first_is_other : (found : Option Refusal) → ((at : ℕ) → raw.too_deep ≢ Some at) →
      None ≡ first_of (statement_names file text raw.kind) →
      found ≡ first_of (statement_faults file text raw.start raw.kind) → found ≡ first_fault file text raw
  first_is_other found none nothing is =
      sorts_next _ _ found (nothing_deep raw.too_deep none) (sorts_next names others found nothing is)
