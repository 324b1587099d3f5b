-- What the file so far keeps: that it is valid, and that the table is one of its names.
use Rattle.std.proofs.Common.{◌≡◌, ℕ, ◌++◌, length, take, sym, ◌∙◌, ap, subst}
use Rattle.std.specs.Prelude.{Result, Ok, Err, OnOk, OnErr}
use Rattle.std.proofs.Math.Seq.{take-append_seam}
use Rattle.alg_terms.specs.declared.file.File.{File}
use Rattle.alg_terms.specs.Valid.{IsValid}
use Rattle.alg_typing.specs.Table.{Table, IsTableOf}

-- what follows where a call answers Ok, and where it answers Err, follows
pub either_way : {V E : Type 0} (r : Result V E) (P : Type 0) {A B C A' B' C' : Type 0} →
    OnOk r A → OnOk r B → OnOk r C → OnErr r A' → OnErr r B' → OnErr r C' →
    (A → B → C → P) → (A' → B' → C' → P) → P
either_way (Ok v) P a b c a' b' c' ok err = ok a b c
either_way (Err e) P a b c a' b' c' ok err = err a' b' c'

-- an equal file with an equal table
pub kept : (file other : File) (table same : Table) → other ≡ file → same ≡ table → IsTableOf file table →
    IsValid file →
    IsTableOf other same × IsValid other
kept file other table same e t is valid = (
  λ name. ap (λ u. Rattle.alg_typing.specs.Table.find u name) t ∙ is name
      ∙ sym (ap (λ f. Rattle.alg_typing.specs.Names.declared_as f name) e),
  subst IsValid (sym e) valid,
)

-- a table from which new entries are taken again
taken_back : (table more last entries : Table) (known : ℕ) → known ≡ length table → more ≡ table ++ entries →
    last ≡ take known more → last ≡ table
taken_back table more last entries known is_known is_more is_last =
    is_last ∙ ap (take known) is_more ∙ ap (λ n. take n (table ++ entries)) is_known ∙ take-append_seam table entries

-- members and a name that were not declared after all
pub not_declared : (file other : File) (table more last entries : Table) (known : ℕ) → other ≡ file →
    known ≡ length table → more ≡ table ++ entries → last ≡ take known more → IsTableOf file table × IsValid file →
    IsTableOf other last × IsValid other
not_declared file other table more last entries known e is_known is_more is_last (is, valid) =
    kept file other table last e (taken_back table more last entries known is_known is_more is_last) is valid
