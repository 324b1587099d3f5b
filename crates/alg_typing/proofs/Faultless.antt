-- What is known of a statement without a first fault.
use Rattle.std.proofs.Common.{◌≡◌, ℕ, List, [], Option, None, Some, refl}
use Rattle.std.specs.Option.{option_or, option_map}
use Rattle.alg_terms.specs.declared.file.File.{File}
use Rattle.alg_tokens.specs.declared.token.Refusal.{Refusal}
use Rattle.alg_tokens.specs.declared.code.Code.TheVariants as code
use Rattle.alg_tokens.specs.Codes.{fault_at}
use Rattle.alg_reader.specs.declared.reading.Raw.{Raw}
use Rattle.alg_typing.specs.Faults.{first_of}
use Rattle.alg_typing.specs.NameFaults.{name_faults}
use Rattle.alg_typing.specs.Reading.{first_fault}
use Rattle.alg_typing.specs.SortFaults.{sort_faults}
use Rattle.alg_typing.proofs.Firsts.{no_faults}

pub neither : (x y : Option Refusal) → option_or x y ≡ None → (x ≡ None) × (y ≡ None)
neither None y h = (refl, h)
neither (Some f) y h = cc

module _ (file : File) (text : List ℕ) (raw : Raw) (none : first_fault file text raw ≡ None) where
  later : option_or (first_of (name_faults file text raw.kind)) (first_of (sort_faults file text raw.kind)) ≡ None
  later = (neither (option_map (fault_at code.Depth) raw.too_deep) _ none).1

  pub no_name_faults : name_faults file text raw.kind ≡ []
  no_name_faults = no_faults _ (neither (first_of (name_faults file text raw.kind)) _ later).0

  pub no_sort_faults : sort_faults file text raw.kind ≡ []
  no_sort_faults = no_faults _ (neither (first_of (name_faults file text raw.kind)) _ later).1
