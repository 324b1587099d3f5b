-- The sorts of terms, and the faults of sorts, exponents and quotients in them, once all names are resolved.
use Rattle.std.specs.Prelude.{ℕ, Bool, true, false, not, ◌||◌, ◌&&◌, ◌==◌, nat_lt, List, [], ◌++◌, Option, None, Some}
use Rattle.std.specs.Int.RustNames.{unsigned_abs}
use Rattle.std.specs.Option.{option_or, option_map_or}
use Rattle.alg_terms.specs.declared.declarations.Kind.{Kind}
use Rattle.alg_terms.specs.declared.declarations.Kind.TheVariants.{Ring, Field}
use Rattle.alg_terms.specs.declared.file.File.{File}
use Rattle.alg_terms.specs.Limits.{MAX_EXPONENT}
use Rattle.alg_terms.specs.Members.{kind_of, source_of, target_of, sort_of_var}
use Rattle.alg_tokens.specs.declared.code.Code.TheVariants as code
use Rattle.alg_tokens.specs.declared.token.Refusal.{Refusal}
use Rattle.alg_reader.specs.declared.raw.RawNode.TheOpen.{RawNode-F}
use Rattle.alg_reader.specs.declared.raw.RawNumber.{RawNumber}
use Rattle.alg_reader.specs.declared.raw.RawTerm.{RawTerm}
use Rattle.alg_reader.specs.RawTerms.{Node, fold_raw}
use Rattle.alg_typing.specs.Faults.{fault_if}
use Rattle.alg_typing.specs.Resolved.{number_at}

-- the kind has the laws of rings alone
abbrev pub is_ring : Kind → Bool
is_ring Ring = true
is_ring _ = false

-- the kind has the laws of fields
abbrev pub is_field : Kind → Bool
is_field Field = true
is_field _ = false

-- two own sorts are both there and differ
abbrev pub differ : Option ℕ → Option ℕ → Bool
differ (Some s) (Some t) = not (s == t)
differ _ _ = false

-- a term's own sort, and its faults by its final sort, where it has one, and by whether all morphisms over it go to
-- fields
pub record Sorted : Type 0 where
  pub own : Option ℕ
  pub faults : Option ℕ → Bool → List Refusal

-- a leaf, which has no fault
abbrev pub leaf : Option ℕ → Sorted
leaf own = record { own = own; faults = λ final in_fields. [] }

-- an operator: the own sorts of its parts may not differ
abbrev pub operator : ℕ → Sorted → Sorted → Sorted
operator head left right = record {
  own = option_or left.own right.own;
  faults = λ final in_fields.
      fault_if (differ left.own right.own) code.Sort head ++ left.faults final in_fields
      ++ right.faults final in_fields;
}

-- the numeral of an exponent is over the greatest
abbrev pub exponent : RawNumber → List Refusal
exponent n = fault_if (nat_lt MAX_EXPONENT (unsigned_abs n.value)) code.Exponent n.at

module _ (file : File) (text : List ℕ) where
  -- a sort that is there is no field
  abbrev pub is_no_field : Option ℕ → Bool
  is_no_field sort = option_map_or (λ s. not (is_field (kind_of file s))) sort false

  -- a quotient stands where none may, or at a sort that is no field, or below a morphism to one
  abbrev pub quotient : Bool → ℕ → Option ℕ → Bool → List Refusal
  quotient may_divide head final in_fields =
      fault_if (not may_divide || is_no_field final || not in_fields) code.Division head

  -- the image under a morphism: its argument has no own sort other than the source
  abbrev pub image : ℕ → ℕ → Sorted → Sorted
  image f head part = record {
    own = Some (target_of file f);
    faults = λ final in_fields.
        fault_if (differ part.own (Some (source_of file f))) code.Sort head
        ++ part.faults (Some (source_of file f)) (in_fields && is_field (kind_of file (target_of file f)));
  }

  -- one node, by its parts
  abbrev pub node_sorted : Bool → ℕ → Node Sorted → Sorted
  node_sorted may_divide head (RawNode-F.Var name) = leaf (Some (sort_of_var file (number_at file text name)))
  node_sorted may_divide head (RawNode-F.Int n) = leaf None
  node_sorted may_divide head (RawNode-F.Neg part) = part
  node_sorted may_divide head (RawNode-F.Add left right) = operator head left right
  node_sorted may_divide head (RawNode-F.Sub left right) = operator head left right
  node_sorted may_divide head (RawNode-F.Mul left right) = operator head left right
  node_sorted may_divide head (RawNode-F.Div left right) =
      let both = operator head left right in
      record both {
        faults = λ final in_fields. quotient may_divide head final in_fields ++ both.faults final in_fields;
      }
  node_sorted may_divide head (RawNode-F.Pow part n) =
      record part { faults = λ final in_fields. exponent n ++ part.faults final in_fields }
  node_sorted may_divide head (RawNode-F.Hom name part) = image (number_at file text name) head part

  -- a term by its nodes
  abbrev pub sorted : Bool → RawTerm → Sorted
  sorted may_divide = fold_raw (node_sorted may_divide)
