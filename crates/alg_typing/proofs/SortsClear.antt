-- A term that was read has no faults of sorts where, with its names resolved, it keeps the rules that have to do with
-- sorts.
use Rattle.std.proofs.Common.{◌≡◌, ℕ, Bool, true, false, List, [], ◌∷◌, ◌++◌, Option, None, Some, refl, sym, subst, ap, ◌∙◌, arith}
use Rattle.std.specs.Prelude.{All, not, ◌&&◌, ◌||◌, nat_lt}
use Rattle.std.specs.Int.RustNames.{unsigned_abs}
use Rattle.std.proofs.lemmas.Bool.Decides.{nat_tests}
use Rattle.std.proofs.lemmas.List.Elements.{All-head, All-tail}
use Rattle.alg_terms.specs.declared.declarations.Kind.{Kind}
use Rattle.alg_terms.specs.declared.declarations.Kind.TheVariants.{Ring, Domain, Field}
use Rattle.alg_terms.specs.declared.file.File.{File}
use Rattle.alg_terms.specs.declared.term.Term.{Term}
use Rattle.alg_terms.specs.declared.term.Term.TheOpen.{Term-F}
use Rattle.alg_terms.specs.Kinds.{IsField}
use Rattle.alg_terms.specs.Limits.{MAX_EXPONENT}
use Rattle.alg_terms.specs.Members.{kind_of, source_of, target_of}
use Rattle.alg_terms.specs.Nodes.{EachNode}
use Rattle.alg_terms.specs.Sorts.{own_sort, Agree, EachNodeAt}
use Rattle.alg_terms.specs.TermRules.{HasExponent, HasAgreeingParts, HasFittingArgument, DividesInFields}
use Rattle.alg_tokens.specs.declared.code.Code.{Code}
use Rattle.alg_tokens.specs.declared.code.Code.TheVariants as code
use Rattle.alg_reader.specs.declared.raw.RawTerm.{RawTerm}
use Rattle.alg_reader.specs.declared.raw.RawNode.{RawNode}
use Rattle.alg_reader.proofs.RawViews.{AreRelated, related}
use Rattle.alg_typing.specs.Faults.{fault_if}
use Rattle.alg_typing.specs.Resolved.{number_at, node_term, term_of}
use Rattle.alg_typing.specs.TermSorts.{Sorted, is_field, differ, operator, node_sorted, sorted}
use Rattle.alg_typing.proofs.Resolving.{resolved, sorted_under, own_resolved}
use Rattle.alg_typing.proofs.SortedTerms.{KeepsRules}

-- a quotient stands where there may be quotients, at a field and below morphisms to fields
abbrev pub DividesWhere : File → Bool → ℕ → List ℕ → Term-F Term → Type 0
DividesWhere file may_divide s above (Term-F.Div left right) =
    (may_divide ≡ true) × DividesInFields file s above (Term-F.Div left right)
DividesWhere file may_divide s above _ = Unit {0}

abbrev pub Divides : File → Bool → ℕ → List ℕ → Term → Type 0
Divides file may_divide s above t = EachNodeAt file (DividesWhere file may_divide) s above t

-- a field is one by the test
pub field_passes : (kind : Kind) → IsField kind → is_field kind ≡ true
field_passes Ring h = absurd h
field_passes Domain h = absurd h
field_passes Field h = refl

-- none of three tests fails
none_fails : (a b c : Bool) → a ≡ true → b ≡ true → c ≡ true → (not a || not b || not c) ≡ false
none_fails a b c p q r = rw (p, q, r) refl

-- own sorts that agree don't differ
pub never_differ : (a b : Option ℕ) → Agree a b → differ a b ≡ false
never_differ None b h = refl
never_differ (Some s) None h = refl
never_differ (Some s) (Some t) h = grind (arith, nat_tests)

-- a fault without a cause is none
pub no_cause : (there : Bool) (what : Code) (at : ℕ) → there ≡ false → fault_if there what at ≡ []
no_cause true what at h = absurd (cc)
no_cause false what at h = refl

module _ (file : File) (text : List ℕ) (may : Bool) where
  abbrev under : ℕ → RawNode → Sorted
  under = sorted_under file text may

  abbrev term_under : ℕ → RawNode → Term
  term_under = resolved file text

  -- where the morphisms over a term all go to fields, the test says so
  abbrev Passes : Bool → List ℕ → Type 0
  Passes b above = All (λ f. IsField (kind_of file (target_of file f))) above → b ≡ true

  -- the node has no faults where its term keeps the rules
  abbrev IsClear : Sorted → Term → Type 0
  IsClear sorted t = (s : ℕ) (b : Bool) (above : List ℕ) → Passes b above → EachNode HasExponent t →
      EachNode (HasAgreeingParts file) t → EachNode (HasFittingArgument file) t → Divides file may s above t →
      sorted.faults (Some s) b ≡ []

  module _ (head k l : ℕ) (t u : RawNode) (left : IsClear (under k t) (term_under k t))
      (right : IsClear (under l u) (term_under l u)) (s : ℕ) (b : Bool) (above : List ℕ) (up : Passes b above) where
    -- an operation on two parts whose terms keep the rules
    both_clear : Unit {0} × EachNode HasExponent (term_under k t) × EachNode HasExponent (term_under l u) →
        Agree (own_sort file (term_under k t)) (own_sort file (term_under l u))
        × EachNode (HasAgreeingParts file) (term_under k t) × EachNode (HasAgreeingParts file) (term_under l u) →
        Unit {0} × EachNode (HasFittingArgument file) (term_under k t)
        × EachNode (HasFittingArgument file) (term_under l u) →
        Unit {0} × Divides file may s above (term_under k t) × Divides file may s above (term_under l u) →
        (operator head (under k t) (under l u)).faults (Some s) b ≡ []
    both_clear e p a d =
        let x = under k t in
        let y = under l u in
        let own = λ (k : ℕ) (t : RawNode). own_sort file (term_under k t) in
        let apart : differ x.own y.own ≡ false =
        ap (λ o. differ o y.own) (own_resolved file text may k t)
        ∙ ap (differ (own k t)) (own_resolved file text may l u) ∙ never_differ (own k t) (own l u) p.0 in
        ap (λ faults. (faults ++ x.faults (Some s) b) ++ y.faults (Some s) b)
        (no_cause (differ x.own y.own) code.Sort head apart)
        ∙ ap (λ faults. faults ++ y.faults (Some s) b) (left s b above up e.1 p.1 a.1 d.1)
        ∙ right s b above up e.2 p.2 a.2 d.2

  clear_nodes : AreRelated (node_sorted file text may) (node_term file text) IsClear
  unfolding EachNode EachNodeAt
      Rattle.alg_terms.specs.declared.term.Term.TheBlock.hidden-the_row-Term-0 denote.Hole.Carrier.hidden
  clear_nodes = record {
    name = λ head span s b above up e p a d. refl;
    literal = λ head n s b above up e p a d. refl;
    opposite = λ head k t part s b above up e p a d. part s b above up e.1 p.1 a.1 d.1;
    power = λ head k t n part s b above up e p a d.
        let small = e.0 in
        let low : nat_lt MAX_EXPONENT (unsigned_abs n.value) ≡ false = grind (arith, nat_tests) in
        ap (λ x. x ++ (under k t).faults (Some s) b)
        (no_cause (nat_lt MAX_EXPONENT (unsigned_abs n.value)) code.Exponent n.at low)
        ∙ part s b above up e.1 p.1 a.1 d.1;
    image = λ head k t span part s b above up e p a d.
        let f = number_at file text span in
        let source = Some (source_of file f) in
        let inner = under k t in
        let below = b && is_field (kind_of file (target_of file f)) in
        let fits : differ inner.own source ≡ false =
        ap (λ o. differ o source) (own_resolved file text may k t)
        ∙ never_differ (own_sort file (term_under k t)) source a.0 in
        let P : ℕ → Type 0 = λ f. IsField (kind_of file (target_of file f)) in
        let further : Passes below (f ∷ above) =
        λ all. ap (λ c. c && is_field (kind_of file (target_of file f))) (up (All-tail P f above all))
        ∙ field_passes (kind_of file (target_of file f)) (All-head P f above all) in
        ap (λ x. x ++ inner.faults source below) (no_cause (differ inner.own source) code.Sort head fits)
        ∙ part (source_of file f) below (f ∷ above) further e.1 p.1 a.1 d.1;
    sum = both_clear;
    difference = both_clear;
    product = both_clear;
    quotient = λ head k l t u left right s b above up e p a d.
        let free = none_fails may (is_field (kind_of file s)) b d.0.0 (field_passes (kind_of file s) d.0.1.0)
        (up d.0.1.1) in
        ap (λ x. x ++ (operator head (under k t) (under l u)).faults (Some s) b)
        (no_cause _ code.Division head free)
        ∙ both_clear head k l t u left right s b above up e p a (tt, d.1, d.2);
  }

  pub clear : (head : ℕ) (node : RawNode) → IsClear (under head node) (term_under head node)
  clear = related _ _ _ clear_nodes

-- a term that was read and resolves to a term at this final sort that keeps the rules
pub term_clear : (file : File) (text : List ℕ) (may : Bool) (t : Term) (read : RawTerm) (s : ℕ) →
    term_of file text read ≡ t → KeepsRules file t → Divides file may s [] t →
    (sorted file text may read).faults (Some s) true ≡ []
term_clear file text may t read s is rules d =
    let (e, p, a) = subst (KeepsRules file) (sym is) rules in
    clear file text may read.head read.node s true [] (λ all. refl) e p a (subst (Divides file may s []) (sym is) d)
