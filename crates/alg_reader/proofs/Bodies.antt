-- What a statement says is told by its first word.
use Rattle.std.proofs.Common.{◌≡◌, ◌==◌, ℕ, false, List, inl, inr, refl, subst, sym, ◌∙◌, arith, Result}
use Rattle.std.proofs.lemmas.Bool.Decides.{nat_tests}
use Rattle.alg_tokens.specs.declared.token.Token.{Token}
use Rattle.alg_tokens.specs.declared.token.TokenKind.TheVariants as kinds
use Rattle.alg_tokens.specs.declared.token.Word.TheVariants as words
use Rattle.alg_reader.specs.declared.cursor.Fault.{Fault}
use Rattle.alg_reader.specs.declared.parts.HeldStatement.{HeldStatement}
use Rattle.alg_reader.specs.Kinds.{code}
use Rattle.alg_reader.specs.Forms.{Ring, Sort, Hom, Vars, Hyp, Goal, alt, rule}
use Rattle.alg_reader.specs.Grammar.{word, body}
use Rattle.alg_reader.specs.Meaning.{kind_value}
use Rattle.alg_reader.specs.Parts.{held_statement}
use Rattle.alg_reader.specs.Ahead.{begins, rule_begins, Starts, Lacks, StartsEither, LacksBoth}
use Rattle.alg_reader.specs.Reading.{ReadsStatement}
use Rattle.alg_reader.proofs.Ahead.{Disjoint}
use Rattle.alg_reader.proofs.Choices.{left_kept, right_kept}

pub ring_apart : Disjoint (begins (rule Ring)) (begins (alt (rule Sort) (alt (rule Hom) (alt (rule Vars) (alt
    (rule Hyp) (rule Goal))))))
unfolding rule_begins
ring_apart n h h' = grind arith

pub sort_apart : Disjoint (begins (rule Sort)) (begins (alt (rule Hom) (alt (rule Vars) (alt (rule Hyp) (rule Goal)))))
unfolding rule_begins
sort_apart n h h' = grind arith

pub hom_apart : Disjoint (begins (rule Hom)) (begins (alt (rule Vars) (alt (rule Hyp) (rule Goal))))
unfolding rule_begins
hom_apart n h h' = grind arith

pub vars_apart : Disjoint (begins (rule Vars)) (begins (alt (rule Hyp) (rule Goal)))
unfolding rule_begins
vars_apart n h h' = grind arith

pub hyp_apart : Disjoint (begins (rule Hyp)) (begins (rule Goal))
unfolding rule_begins
hyp_apart n h h' = grind arith

pub same_test : (m n : ℕ) → (m == n) ≡ (n == m)
same_test m n = grind (arith, nat_tests)

ring_word : (n : ℕ) → (44 == n) ≡ rule_begins Ring n
unfolding rule_begins
ring_word n = same_test 44 n

pub starts_ring : (ts : List Token) → Starts (word words.Ring) ts → Starts (rule Ring) ts
starts_ring ts s = (s.0, s.1, s.2, sym (ring_word (code s.0)) ∙ s.3)

pub lacks_ring : (ts : List Token) → Lacks (word words.Ring) ts → Lacks (rule Ring) ts
lacks_ring ts s = (s.0, s.1, s.2, sym (ring_word (code s.0)) ∙ s.3)

hom_word : (n : ℕ) → (31 == n) ≡ rule_begins Hom n
unfolding rule_begins
hom_word n = same_test 31 n

pub starts_hom : (ts : List Token) → Starts (word words.Hom) ts → Starts (rule Hom) ts
starts_hom ts s = (s.0, s.1, s.2, sym (hom_word (code s.0)) ∙ s.3)

pub lacks_hom : (ts : List Token) → Lacks (word words.Hom) ts → Lacks (rule Hom) ts
lacks_hom ts s = (s.0, s.1, s.2, sym (hom_word (code s.0)) ∙ s.3)

vars_word : (n : ℕ) → (50 == n) ≡ rule_begins Vars n
unfolding rule_begins
vars_word n = same_test 50 n

pub starts_vars : (ts : List Token) → Starts (word words.Var) ts → Starts (rule Vars) ts
starts_vars ts s = (s.0, s.1, s.2, sym (vars_word (code s.0)) ∙ s.3)

pub lacks_vars : (ts : List Token) → Lacks (word words.Var) ts → Lacks (rule Vars) ts
lacks_vars ts s = (s.0, s.1, s.2, sym (vars_word (code s.0)) ∙ s.3)

hyp_word : (n : ℕ) → (32 == n) ≡ rule_begins Hyp n
unfolding rule_begins
hyp_word n = same_test 32 n

pub starts_hyp : (ts : List Token) → Starts (word words.Hyp) ts → Starts (rule Hyp) ts
starts_hyp ts s = (s.0, s.1, s.2, sym (hyp_word (code s.0)) ∙ s.3)

pub lacks_hyp : (ts : List Token) → Lacks (word words.Hyp) ts → Lacks (rule Hyp) ts
lacks_hyp ts s = (s.0, s.1, s.2, sym (hyp_word (code s.0)) ∙ s.3)

pub starts_sort : (ts : List Token) → StartsEither (kinds.Word words.Domain) (kinds.Word words.Field) ts
    → Starts (rule Sort) ts
unfolding rule_begins
starts_sort ts (t, us, e, inl h) = (t, us, e, grind (arith, nat_tests))
starts_sort ts (t, us, e, inr h) = (t, us, e, grind (arith, nat_tests))

pub lacks_sort : (ts : List Token) → LacksBoth (kinds.Word words.Domain) (kinds.Word words.Field) ts
    → Lacks (rule Sort) ts
unfolding rule_begins
lacks_sort ts (h, k) =
    let same : k.0 ≡ h.0 = let e = h.2 in let e' = k.2 in cc in
    let P : Token → Type 0 = λ t. (28 == code t) ≡ false in
    let second : (28 == code h.0) ≡ false = subst P same k.3 in
    let first : (27 == code h.0) ≡ false = h.3 in
    (h.0, h.1, h.2, grind (arith, nat_tests))

pub body_ring : (ts new : List Token) (r : Result HeldStatement Fault) → Starts (rule Ring) ts
    → ReadsStatement (rule Ring) ts r new → ReadsStatement body ts r new
body_ring ts new r s h = left_kept (rule Ring) (alt (rule Sort) (alt (rule Hom) (alt (rule Vars) (alt (rule Hyp)
    (rule Goal))))) held_statement kind_value ts new r ring_apart refl refl s h

pub body_sort : (ts new : List Token) (r : Result HeldStatement Fault) → Lacks (rule Ring) ts → Starts (rule Sort) ts
    → ReadsStatement (rule Sort) ts r new → ReadsStatement body ts r new
body_sort ts new r l0 s h = right_kept (rule Ring) (alt (rule Sort) (alt (rule Hom) (alt (rule Vars) (alt
    (rule Hyp) (rule Goal))))) held_statement kind_value ts new r ring_apart refl refl l0
    (left_kept (rule Sort) (alt (rule Hom)
    (alt (rule Vars) (alt (rule Hyp) (rule Goal)))) held_statement kind_value ts new r sort_apart refl refl s h)

pub body_hom : (ts new : List Token) (r : Result HeldStatement Fault) → Lacks (rule Ring) ts → Lacks (rule Sort) ts
    → Starts (rule Hom) ts → ReadsStatement (rule Hom) ts r new → ReadsStatement body ts r new
body_hom ts new r l0 l1 s h = right_kept (rule Ring) (alt (rule Sort) (alt (rule Hom) (alt (rule Vars) (alt
    (rule Hyp) (rule Goal))))) held_statement kind_value ts new r ring_apart refl refl l0
    (right_kept (rule Sort) (alt (rule Hom)
    (alt (rule Vars) (alt (rule Hyp) (rule Goal)))) held_statement kind_value ts new r sort_apart refl refl l1
    (left_kept
    (rule Hom) (alt (rule Vars) (alt (rule Hyp)
    (rule Goal))) held_statement kind_value ts new r hom_apart refl refl s h))

pub body_vars : (ts new : List Token) (r : Result HeldStatement Fault) → Lacks (rule Ring) ts → Lacks (rule Sort) ts
    → Lacks (rule Hom) ts → Starts (rule Vars) ts → ReadsStatement (rule Vars) ts r new
    → ReadsStatement body ts r new
body_vars ts new r l0 l1 l2 s h = right_kept (rule Ring) (alt (rule Sort) (alt (rule Hom) (alt (rule Vars) (alt
    (rule Hyp) (rule Goal))))) held_statement kind_value ts new r ring_apart refl refl l0
    (right_kept (rule Sort) (alt (rule Hom)
    (alt (rule Vars) (alt (rule Hyp) (rule Goal)))) held_statement kind_value ts new r sort_apart refl refl l1
    (right_kept
    (rule Hom) (alt (rule Vars) (alt (rule Hyp) (rule Goal))) held_statement kind_value ts new r hom_apart refl refl l2
    (left_kept (rule Vars) (alt (rule Hyp) (rule Goal)) held_statement kind_value ts new r vars_apart refl refl s h)))

pub body_hyp : (ts new : List Token) (r : Result HeldStatement Fault) → Lacks (rule Ring) ts → Lacks (rule Sort) ts
    → Lacks (rule Hom) ts → Lacks (rule Vars) ts → Starts (rule Hyp) ts → ReadsStatement (rule Hyp) ts r new
    → ReadsStatement body ts r new
body_hyp ts new r l0 l1 l2 l3 s h = right_kept (rule Ring) (alt (rule Sort) (alt (rule Hom) (alt (rule Vars) (alt
    (rule Hyp) (rule Goal))))) held_statement kind_value ts new r ring_apart refl refl l0
    (right_kept (rule Sort) (alt (rule Hom)
    (alt (rule Vars) (alt (rule Hyp) (rule Goal)))) held_statement kind_value ts new r sort_apart refl refl l1
    (right_kept
    (rule Hom) (alt (rule Vars) (alt (rule Hyp) (rule Goal))) held_statement kind_value ts new r hom_apart refl refl l2
    (right_kept (rule Vars) (alt (rule Hyp) (rule Goal)) held_statement kind_value ts new r vars_apart refl refl l3
    (left_kept
    (rule Hyp) (rule Goal) held_statement kind_value ts new r hyp_apart refl refl s h))))

pub body_goal : (ts new : List Token) (r : Result HeldStatement Fault) → Lacks (rule Ring) ts → Lacks (rule Sort) ts
    → Lacks (rule Hom) ts → Lacks (rule Vars) ts → Lacks (rule Hyp) ts → ReadsStatement (rule Goal) ts r new
    → ReadsStatement body ts r new
body_goal ts new r l0 l1 l2 l3 l4 h = right_kept (rule Ring) (alt (rule Sort) (alt (rule Hom) (alt (rule Vars)
    (alt (rule Hyp) (rule Goal))))) held_statement kind_value ts new r ring_apart refl refl l0
    (right_kept (rule Sort) (alt
    (rule Hom) (alt (rule Vars) (alt (rule Hyp)
    (rule Goal)))) held_statement kind_value ts new r sort_apart refl refl l1
    (right_kept (rule Hom) (alt (rule Vars) (alt (rule Hyp)
    (rule Goal))) held_statement kind_value ts new r hom_apart refl refl l2 (right_kept (rule Vars) (alt (rule Hyp)
    (rule Goal)) held_statement kind_value ts new r vars_apart refl refl l3 (right_kept (rule Hyp)
    (rule Goal) held_statement kind_value ts new r hyp_apart refl refl l4 (h)))))
