-- The first fault of a statement, of its depth, its names and its sorts.
use Rattle.std.proofs.Common.{◌≡◌, ◌≢◌, ℕ, List, Option, refl, None, Some, Result, Ok, Err, IfOk, IfErr, OnOk, OnErr, sym, subst, ◌∙◌, ap}
use Rattle.std.specs.Prelude.{IsErrAnd}
use Rattle.std.specs.Option.{option_or, option_map}
use Rattle.alg_terms.specs.declared.file.File.{File}
use Rattle.alg_tokens.specs.declared.token.Refusal.{Refusal}
use Rattle.alg_tokens.specs.declared.code.Code.TheVariants as code
use Rattle.alg_tokens.specs.Codes.{fault_at}
use Rattle.alg_reader.specs.declared.reading.FileEnd.{FileEnd}
use Rattle.alg_reader.specs.declared.reading.FileEnd.TheVariants.{NoMemory}
use Rattle.alg_reader.specs.declared.reading.Raw.{Raw}
use Rattle.alg_typing.specs.Ends.{RefusesWith}
use Rattle.alg_typing.specs.Faults.{first_of}
use Rattle.alg_typing.specs.NameFaults.{name_faults}
use Rattle.alg_typing.specs.Reading.{first_fault}
use Rattle.alg_typing.specs.SortFaults.{sort_faults}

-- an error tells nothing of a value
pub error_tells_nothing : {A E : Type 0} (P : A → Type 0) (Q : E → Type 0) (r : Result A E) → IsErrAnd r Q → IfOk r P
error_tells_nothing P Q (Ok a) is = absurd is
error_tells_nothing P Q (Err e) is = tt

nothing_deep : (deep : Option ℕ) → ((at : ℕ) → deep ≢ Some at) → option_map (fault_at code.Depth) deep ≡ None
nothing_deep None none = refl
nothing_deep (Some at) none = absurd (none at refl)

by_names : (deep names sorts : Option Refusal) (f : Refusal) → deep ≡ None → Some f ≡ names →
    Some f ≡ option_or deep (option_or names sorts)
by_names None (Some g) sorts f none is = is
by_names None None sorts f none is = is ∙ absurd (cc)
by_names (Some d) names sorts f none is = absurd (cc)

by_sorts : (deep names sorts found : Option Refusal) → deep ≡ None → None ≡ names → found ≡ sorts →
    found ≡ option_or deep (option_or names sorts)
by_sorts None None sorts found none nothing is = is
by_sorts None (Some g) sorts found none nothing is = absurd (cc)
by_sorts (Some d) names sorts found none nothing is = absurd (cc)

module _ (file : File) (text : List ℕ) (raw : Raw) where
  abbrev names : Option Refusal
  names = first_of (name_faults file text raw.kind)

  abbrev sorts : Option Refusal
  sorts = first_of (sort_faults file text raw.kind)

  pub first_is_deep : (at : ℕ) → raw.too_deep ≡ Some at → Some (fault_at code.Depth at) ≡ first_fault file text raw
  first_is_deep at is =
      ap (λ (d : Option ℕ). option_or (option_map (fault_at code.Depth) d) (option_or names sorts)) (sym is)

  pub first_is_name : (f : Refusal) → ((at : ℕ) → raw.too_deep ≢ Some at) →
      Some f ≡ first_of (name_faults file text raw.kind) → Some f ≡ first_fault file text raw
  first_is_name f none is = by_names _ names sorts f (nothing_deep raw.too_deep none) is

  pub first_is_sort : (found : Option Refusal) → ((at : ℕ) → raw.too_deep ≢ Some at) →
      None ≡ first_of (name_faults file text raw.kind) → found ≡ first_of (sort_faults file text raw.kind) →
      found ≡ first_fault file text raw
  first_is_sort found none nothing is =
      by_sorts _ names sorts found (nothing_deep raw.too_deep none) nothing is

-- an error that is want of memory tells nothing of a fault
pub memory_tells_nothing : {A : Type 0} (P : Refusal → Type 0) (r : Result A FileEnd) → IsErrAnd r (λ e. e ≡ NoMemory) →
    IfErr r (λ end. RefusesWith end P)
memory_tells_nothing P (Ok a) is = absurd is
memory_tells_nothing P (Err e) is = subst (λ (end : FileEnd). RefusesWith end P) (sym is) tt

-- an error leaves the promises on success aside
pub error_is_not_ok : {A E : Type 0} (P : Type 0) (Q : E → Type 0) (r : Result A E) → IsErrAnd r Q → OnOk r P
error_is_not_ok P Q (Ok a) is = absurd is
error_is_not_ok P Q (Err e) is = tt

-- what holds in each case holds on error
pub on_error : {A E : Type 0} (P : Type 0) (r : Result A E) → P → OnErr r P
on_error P (Ok a) p = tt
on_error P (Err e) p = p
