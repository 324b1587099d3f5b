-- A term is checked by its parts.
use Rattle.std.proofs.Common.{◌≡◌, ◌⊎◌, inl, inr, ℕ, ◌&&◌, Bool, false, subst, List, ◌++◌, refl, sym, ◌∙◌, ap, Option, Some}
use Rattle.std.specs.Option.{option_or}
use Rattle.alg_terms.specs.declared.file.File.{File}
use Rattle.alg_terms.specs.Members.{kind_of, source_of, target_of}
use Rattle.alg_tokens.specs.declared.token.Refusal.{Refusal}
use Rattle.alg_tokens.specs.declared.code.Code.TheVariants as code
use Rattle.alg_reader.specs.declared.raw.RawTerm.{RawTerm}
use Rattle.alg_reader.specs.declared.raw.RawNode.TheVariants.{Add, Sub, Mul, Div, Hom}
use Rattle.alg_reader.specs.declared.raw.RawNode.TheOpen.{RawNode-F}
use Rattle.alg_reader.specs.declared.raw.Span.{Span}
use Rattle.alg_reader.specs.RawTerms.{fold_under}
use Rattle.alg_typing.specs.declared.sorts.Checked.{Checked}
use Rattle.alg_typing.specs.declared.sorts.Context.{Context}
use Rattle.alg_typing.specs.Checks.{IsCheckOf}
use Rattle.alg_typing.specs.Faults.{earlier_of, fault_if, first_of}
use Rattle.alg_typing.specs.Resolved.{number_at}
use Rattle.alg_typing.specs.TermSorts.{Sorted, differ, is_field, operator, quotient, sorted, node_sorted}
use Rattle.alg_typing.proofs.Firsts.{first_of-append, earlier_of-assoc}
use Rattle.alg_reader.proofs.Built.{fold_under-Add, fold_under-Sub, fold_under-Mul, fold_under-Div, fold_under-Hom}
use Rattle.alg_typing.proofs.RawParts.{Joins}
use Rattle.alg_typing.proofs.Resolving.{own_resolved}

-- the node of a term is an operator other than a quotient
abbrev pub Combines : RawTerm → RawTerm → RawTerm → Type 0
Combines t l r = (t.node ≡ Add l r) ⊎ ((t.node ≡ Sub l r) ⊎ (t.node ≡ Mul l r))

pub joins : (t l r : RawTerm) → Combines t l r → Joins t l r
joins t l r (inl e) = inl e
joins t l r (inr (inl e)) = inr (inl e)
joins t l r (inr (inr e)) = inr (inr (inl e))

-- the faults of an operator are its own and then those of its parts
pub first_of-three : (xs ys zs : List Refusal) →
    first_of (xs ++ ys ++ zs) ≡ earlier_of (first_of xs) (earlier_of (first_of ys) (first_of zs))
first_of-three xs ys zs =
    first_of-append (xs ++ ys) zs ∙ ap (λ o. earlier_of o (first_of zs)) (first_of-append xs ys)
    ∙ earlier_of-assoc (first_of xs) (first_of ys) (first_of zs)

faults_joined : (head : ℕ) (o o' p p' : Option ℕ) (f g : Option Refusal) (xs ys : List Refusal) →
    o ≡ o' → p ≡ p' → f ≡ first_of xs → g ≡ first_of ys →
    earlier_of (first_of (fault_if (differ o p) code.Sort head)) (earlier_of f g)
    ≡ first_of (fault_if (differ o' p') code.Sort head ++ xs ++ ys)
faults_joined head o o' p p' f g xs ys is_o is_p is_f is_g =
    (λ i. earlier_of (first_of (fault_if (differ (is_o i) (is_p i)) code.Sort head)) (earlier_of (is_f i) (is_g i)))
    ∙ sym (first_of-three (fault_if (differ o' p') code.Sort head) xs ys)

module _ (file : File) (text : List ℕ) where
  -- whether a term may have quotients is no matter for its own sort
  pub sorted_own : (may : Bool) (t : RawTerm) → (sorted file text may t).own ≡ (sorted file text false t).own
  sorted_own may t = own_resolved file text may t.head t.node ∙ sym (own_resolved file text false t.head t.node)

  sorted-combined : (may : Bool) (t l r : RawTerm) → Combines t l r →
      sorted file text may t ≡ operator t.head (sorted file text may l) (sorted file text may r)
  sorted-combined may t l r (inl e) =
      ap (fold_under (node_sorted file text may) t.head) e ∙ fold_under-Add (node_sorted file text may) t.head l r
  sorted-combined may t l r (inr (inl e)) =
      ap (fold_under (node_sorted file text may) t.head) e ∙ fold_under-Sub (node_sorted file text may) t.head l r
  sorted-combined may t l r (inr (inr e)) =
      ap (fold_under (node_sorted file text may) t.head) e ∙ fold_under-Mul (node_sorted file text may) t.head l r

  module _ (at : Context) (t : RawTerm) (c : Checked) where
    -- what a term is checked by where its node comes to this
    by_sorted : (s : Sorted) → sorted file text at.may_divide t ≡ s → c.own ≡ s.own →
        c.fault ≡ first_of (s.faults at.sort at.in_fields) → IsCheckOf file text at t c
    by_sorted s is own fault = record {
      own = own ∙ sym (ap (λ (x : Sorted). x.own) is);
      fault = fault ∙ sym (ap (λ (x : Sorted). first_of (x.faults at.sort at.in_fields)) is);
    }

    -- an operator other than a quotient is checked by its parts
    pub combined : (l r p q : RawTerm) (a b : Checked) → Combines t l r → p ≡ l → q ≡ r →
        IsCheckOf file text at p a → IsCheckOf file text at q b → c.own ≡ option_or a.own b.own →
        c.fault ≡ earlier_of (first_of (fault_if (differ a.own b.own) code.Sort t.head)) (earlier_of a.fault b.fault) →
        IsCheckOf file text at t c
    combined l r p q a b is is_l is_r left right own fault =
        let may = at.may_divide in
        by_sorted (operator t.head (sorted file text may p) (sorted file text may q))
        (sorted-combined may t l r is
        ∙ sym (λ i. operator t.head (sorted file text may (is_l i)) (sorted file text may (is_r i))))
        (own ∙ (λ i. option_or (left.own i) (right.own i)))
        (fault ∙ faults_joined t.head _ _ _ _ _ _ _ _ left.own right.own left.fault right.fault)

    -- a quotient is checked by its own fault and as any operator
    pub divided : (l r p q : RawTerm) (a b both : Checked) (own_fault : Option Refusal) → t.node ≡ Div l r → p ≡ l →
        q ≡ r → IsCheckOf file text at p a → IsCheckOf file text at q b → both.own ≡ option_or a.own b.own →
        both.fault ≡ earlier_of (first_of (fault_if (differ a.own b.own) code.Sort t.head))
        (earlier_of a.fault b.fault) →
        own_fault ≡ first_of (quotient file text at.may_divide t.head at.sort at.in_fields) → c.own ≡ both.own →
        c.fault ≡ earlier_of own_fault both.fault → IsCheckOf file text at t c
    divided l r p q a b both own_fault is is_l is_r left right own fault is_own is_c faults =
        let may = at.may_divide in
        by_sorted (node_sorted file text may t.head (RawNode-F.Div (sorted file text may p) (sorted file text may q)))
        (ap (fold_under (node_sorted file text may) t.head) is
        ∙ fold_under-Div (node_sorted file text may) t.head l r
        ∙ sym (λ i. node_sorted file text may t.head
        (RawNode-F.Div (sorted file text may (is_l i)) (sorted file text may (is_r i)))))
        (is_c ∙ own ∙ (λ i. option_or (left.own i) (right.own i)))
        (faults
        ∙ (λ i. earlier_of (is_own i)
        ((fault ∙ faults_joined t.head _ _ _ _ _ _ _ _ left.own right.own left.fault right.fault) i))
        ∙ sym (first_of-append (quotient file text may t.head at.sort at.in_fields) _))

    -- an image is checked by its argument
    pub imaged : (name : Span) (l p : RawTerm) (hom : ℕ) (below : Context) (a : Checked) → t.node ≡ Hom name l →
        p ≡ l →
        hom ≡ number_at file text name →
        below ≡ record at {
          sort = Some (source_of file hom);
          in_fields = at.in_fields && is_field (kind_of file (target_of file hom));
        } →
        IsCheckOf file text below p a → c.own ≡ Some (target_of file hom) →
        c.fault ≡ earlier_of (first_of (fault_if (differ a.own (Some (source_of file hom))) code.Sort t.head)) a.fault →
        IsCheckOf file text at t c
    imaged name l p hom below a is is_l is_hom is_below part own fault =
        let may = at.may_divide in
        let inner = sorted file text may p in
        let here = subst (λ (b : Context). IsCheckOf file text b p a) is_below part in
        let at_hom = λ (h : ℕ). earlier_of (first_of
        (fault_if (differ inner.own (Some (source_of file h))) code.Sort t.head))
        (first_of (inner.faults (Some (source_of file h))
        (at.in_fields && is_field (kind_of file (target_of file h))))) in
        by_sorted (node_sorted file text may t.head (RawNode-F.Hom name inner))
        (ap (fold_under (node_sorted file text may) t.head) is
        ∙ fold_under-Hom (node_sorted file text may) t.head name l
        ∙ sym (λ i. node_sorted file text may t.head (RawNode-F.Hom name (sorted file text may (is_l i)))))
        (own ∙ ap (λ h. Some (target_of file h)) is_hom)
        (fault
        ∙ (λ i. earlier_of (first_of (fault_if (differ (here.own i) (Some (source_of file hom))) code.Sort t.head))
        (here.fault i))
        ∙ ap at_hom is_hom
        ∙ sym (first_of-append (fault_if (differ inner.own
        (Some (source_of file (number_at file text name)))) code.Sort t.head)
        _))
