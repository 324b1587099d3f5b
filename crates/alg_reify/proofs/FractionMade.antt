-- What the parts of a term tell of the term.
use Rattle.std.specs.Prelude.{◌≡◌, ℕ, Bool, List, [], ◌∷◌, ◌++◌, length, All, Contains, OnOk, Option, Some, None, IsSome, take}
use Rattle.std.specs.Option.{option_to_list}
use Rattle.std.proofs.Math.Seq.{take-append_seam}
use Rattle.std.proofs.lemmas.List.{length-append}
use Rattle.std.proofs.Common.{sym, ap, subst, ◌∙◌, arith, inl, inr}
use Rattle.std.proofs.lemmas.List.Elements.{recursion_from_All, All-from_recursion}
use Rattle.std.specs.declared.result.Result.{Result}
use Rattle.std.specs.declared.result.Result.TheVariants.{Ok, Err}
use Rattle.std.specs.Result.{IsErrAnd}
use Rattle.alg_terms.specs.declared.term.Atom.{Atom}
use Rattle.alg_terms.specs.declared.term.Term.{Term}
use Rattle.alg_terms.proofs.Views.{Binary, binary}
use Rattle.alg_mono.specs.declared.ends.Overrun.{Overrun}
use Rattle.alg_meaning.specs.Conditions.{denominators}
use Rattle.alg_meaning.specs.FractionOutcome.{FractionOutcome, first_not_fine, frac_outcome}
use Rattle.alg_meaning.specs.FractionsOver.{FractionOver}
use Rattle.alg_reify.specs.FractionsUnder.{made_fraction, IsHeld}
use Rattle.alg_reify.specs.Table.{leaves}
use Rattle.alg_reify.proofs.AtomsIn.{both_parts}
use Rattle.alg_reify.proofs.Leaves.{leaves-both}
use Rattle.alg_reify.specs.Added.{add_conditions}
use Rattle.alg_reify.specs.declared.ends.FractionEnd.{FractionEnd}
use Rattle.alg_reify.specs.Ends.{EndsFractionWith, GivesFraction}
use Rattle.alg_reify.specs.MakingFractions.{Operation, operation, operated, operated_outcome, operated_conditions, HasParts, IsFractionOver, IsMade, MakesFraction, Combines}
use Rattle.alg_reify.proofs.Operations.{operation_binary}
use Rattle.alg_reify.proofs.FractionParts.{HasPart, HasTwo, two_parts}

-- the end that comes first is the one that is told
pub first_told : (e : FractionEnd) (o later : FractionOutcome) → EndsFractionWith e o → EndsFractionWith e (first_not_fine o later)
first_told (FractionEnd.Refused Overrun.Range) o later h = ap (λ x. first_not_fine x later) h
first_told (FractionEnd.Refused Overrun.Degree) o later h = ap (λ x. first_not_fine x later) h
first_told (FractionEnd.Refused Overrun.NoMemory) o later h = tt
first_told (FractionEnd.ZeroDenominator t) o later h = ap (λ x. first_not_fine x later) h

-- what was pushed last is popped first
pub unpushed : (xs ys : List ℕ) (k : ℕ) (o : Option ℕ) → xs ++ k ∷ [] ≡ ys ++ option_to_list o → IsSome o → ys ≡ xs
unpushed xs ys k None e some = absurd (cc)
unpushed xs ys k (Some j) e some =
    let same : length ys ≡ length xs =
    omega (arith, length-append xs (k ∷ []), length-append ys (j ∷ []), ap length e) in
    sym (take-append_seam ys (j ∷ [])) ∙ ap (take (length ys)) (sym e) ∙ ap (λ n. take n (xs ++ k ∷ [])) same
    ∙ take-append_seam xs (k ∷ [])

on_ok : {A E P Q : Type 0} (r : Result A E) → (P → Q) → OnOk r P → OnOk r Q
on_ok (Ok x) to h = to h
on_ok (Err e) to h = tt

module _ {F : Type 0} (fraction : F → FractionOver ℕ) (char0 : Bool) (atoms : List Atom) (path : List ℕ) (t : Term)
  where
    -- an end that was handed on
    pub handed_on : (after : List ℕ) (seen all : List Term) (r : Result F FractionEnd) (e : FractionEnd) →
        IsErrAnd r (λ d. d ≡ e) → EndsFractionWith e (frac_outcome t) → MakesFraction fraction char0 atoms path after seen
        all t r
    handed_on after seen all (Ok f) e came h = absurd came
    handed_on after seen all (Err d) e came h =
        let P : FractionEnd → Type 0 = λ x. EndsFractionWith x (frac_outcome t) in subst P (sym came) h

    -- the node's own operation gave this
    pub finished : (x : FractionOver ℕ) (o : FractionOutcome) (after : List ℕ) (seen all : List Term)
        (r : Result F FractionEnd) → GivesFraction fraction x o r → x ≡ made_fraction atoms path t → o ≡ frac_outcome
        t →
        after ≡ path → OnOk r (all ≡ add_conditions char0 seen (denominators t)) →
        MakesFraction fraction char0 atoms path after seen all t r
    finished x o after seen all (Ok f) given is like back added =
        record { value = given.0 ∙ is; fine = sym like ∙ given.1; back = back; conditions = added }
    finished x o after seen all (Err e) given is like back added = subst (EndsFractionWith e) like given

    -- ---- one part
    module _ (inner : List ℕ) (part : Term) (node : FractionOver ℕ → FractionOver ℕ)
        (own : FractionOver ℕ → FractionOutcome) (h : HasPart atoms path inner t part node own)
        (over : IsFractionOver atoms path t) where
      pub part_over : IsFractionOver atoms inner part
      part_over = record { literals = h.literals over.literals; held = h.held over.held }

      pub part_failed : (e : FractionEnd) → EndsFractionWith e (frac_outcome part) → EndsFractionWith e (frac_outcome t)
      part_failed e told =
          let M = made_fraction atoms inner part in
          subst (EndsFractionWith e) (sym (h.outcome (h.held over.held))) (first_told e (frac_outcome part) (own M) told)

      pub part_made : (last after : List ℕ) (seen all : List Term) (f : F) (r : Result F FractionEnd) →
          IsMade fraction char0 atoms inner last seen all part f →
          GivesFraction fraction (node (fraction f)) (own (fraction f)) r → after ≡ path →
          MakesFraction fraction char0 atoms path after seen all t r
      part_made last after seen all f r made given back =
          let held = h.held over.held in
          let M = made_fraction atoms inner part in
          finished (node (fraction f)) (own (fraction f)) after seen all r given
          (ap node made.value ∙ sym (h.fraction held))
          (ap own made.value ∙ sym (h.outcome held ∙ ap (λ o. first_not_fine o (own M)) made.fine)) back
          (always r (made.conditions ∙ ap (add_conditions char0 seen) (sym h.conditions)))
        where
          always : {P : Type 0} (r : Result F FractionEnd) → P → OnOk r P
          always (Ok f) h = h
          always (Err e) h = tt

    -- ---- two parts
    module _ (a b l r : Term) (is : HasParts t a b) (left : l ≡ a) (right : r ≡ b)
        (over : IsFractionOver atoms path t) where
      -- the parts as they were taken out
      parts_of : (o : Binary) → t ≡ binary o a b → HasTwo atoms path t l r (operation t)
      parts_of o e =
          let P : Term → Type 0 = λ x. HasTwo atoms path x l r (operation x) in
          let Q : Operation → Type 0 = λ op. HasTwo atoms path (binary o l r) l r op in
          subst P (sym (e ∙ (λ i. binary o (sym left i) (sym right i))))
          (subst Q (sym (operation_binary o l r)) (two_parts atoms path l r o))

      two : HasTwo atoms path t l r (operation t)
      two = elim is [
        | inl e ↦ parts_of Binary.Sum e
        | inr (inl e) ↦ parts_of Binary.Difference e
        | inr (inr (inl e)) ↦ parts_of Binary.Product e
        | inr (inr (inr e)) ↦ parts_of Binary.Quotient e
      ]

      held_parts : IsHeld atoms path l × IsHeld atoms path r
      held_parts =
          let P = Contains atoms in
          let whole = leaves-both path t a b is ∙ (λ i. leaves path (sym left i) ++ leaves path (sym right i)) in
          let parts = both_parts P (leaves path l) (leaves path r)
          (recursion_from_All P (leaves path l ++ leaves path r) (subst (All P) whole over.held)) in
          (All-from_recursion P (leaves path l) parts.0, All-from_recursion P (leaves path r) parts.1)

      pub left_over : IsFractionOver atoms path l
      left_over = record { literals = (two.literals over.literals).0; held = held_parts.0 }

      -- the path is as before where the right part is made
      pub right_over : (after : List ℕ) → after ≡ path → IsFractionOver atoms after r
      right_over after back =
          let P : List ℕ → Type 0 = λ x. IsFractionOver atoms x r in
          subst P (sym back) record { literals = (two.literals over.literals).1; held = held_parts.1 }

      abbrev own : FractionOutcome
      own = operated_outcome (operation t) (made_fraction atoms path l) (made_fraction atoms path r)

      pub left_failed : (e : FractionEnd) → EndsFractionWith e (frac_outcome l) → EndsFractionWith e (frac_outcome t)
      left_failed e told =
          subst (EndsFractionWith e) (sym (two.outcome held_parts.0 held_parts.1))
          (first_told e (frac_outcome l) (first_not_fine (frac_outcome r) own) told)

      after_left : frac_outcome l ≡ FractionOutcome.Fine → frac_outcome t ≡ first_not_fine (frac_outcome r) own
      after_left fine =
          two.outcome held_parts.0 held_parts.1 ∙ ap (λ o. first_not_fine o (first_not_fine (frac_outcome r) own)) fine

      pub right_failed : frac_outcome l ≡ FractionOutcome.Fine → (e : FractionEnd) → EndsFractionWith e (frac_outcome r) →
          EndsFractionWith e (frac_outcome t)
      right_failed fine e told =
          subst (EndsFractionWith e) (sym (after_left fine)) (first_told e (frac_outcome r) own told)

      pub both_made : (mid last : List ℕ) (seen some all end : List Term) (f g : F)
          (result : Result F FractionEnd) → IsMade fraction char0 atoms path mid seen some l f →
          IsMade fraction char0 atoms mid last some all r g →
          Combines fraction char0 (operation t) (fraction f) (fraction g) all end result →
          MakesFraction fraction char0 atoms path last seen end t result
      both_made mid last seen some all end f g result first second combined =
          let op = operation t in
          let P : List ℕ → Type 0 = λ x. IsMade fraction char0 atoms x last some all r g in
          let then = subst P first.back second in
          finished (operated op (fraction f) (fraction g)) (operated_outcome op (fraction f) (fraction g))
          last seen end result combined.1
          ((λ i. operated op (first.value i) (then.value i)) ∙ sym (two.fraction held_parts.0 held_parts.1))
          ((λ i. operated_outcome op (first.value i) (then.value i))
          ∙ sym (after_left first.fine ∙ ap (λ o. first_not_fine o own) then.fine)) then.back
          (on_ok result (λ added. added
          ∙ (λ i. operated_conditions char0 op (then.value i)
          ((then.conditions ∙ ap (λ s. add_conditions char0 s (denominators r)) first.conditions) i))
          ∙ sym (two.conditions held_parts.1 char0 seen)) combined.0)
