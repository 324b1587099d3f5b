-- The quotients that are tried are terms of each file with a variable, and make equations.
use Rattle.std.proofs.Common.{◌≡◌, ◌+◌, ◌≤◌, ◌<◌, ℕ, ℤ, Some, List, [], ◌∷◌, length, slice_index_or, refl, sym, ap, subst, ◌∙◌, rules, arith}
use Rattle.std.specs.Prelude.{pos, ◌≤ℤ◌}
use Rattle.std.specs.Option.{option_or}
use Rattle.alg_terms.specs.Limits.{MAX_LITERAL, MAX_EXPONENT}
use Rattle.alg_terms.specs.declared.declarations.VarDecl.{VarDecl}
use Rattle.alg_terms.specs.declared.file.File.{File}
use Rattle.alg_terms.specs.declared.term.Term.{Term}
use Rattle.alg_terms.specs.declared.term.Term.TheVariants.{Div}
use Rattle.alg_terms.specs.GoalRules.{IsEquation}
use Rattle.alg_terms.specs.Members.{sort_of_var}
use Rattle.alg_terms.specs.Nodes.{fold_term, EachNode}
use Rattle.alg_terms.specs.Sorts.{node_sort, own_sort, Agree}
use Rattle.alg_terms.specs.Term.{node_depth, depth_of}
use Rattle.alg_terms.specs.TermRules.{IsTerm, IsInRange, HasLiteral, HasExponent, HasAgreeingParts, HasFittingArgument}
use Rattle.alg_terms.proofs.Built.{fold_term-Div}
use Rattle.alg_terms.proofs.BuiltNodes.{EachNode-Div}
use Rattle.alg_field.specs.TestTerms.{linear_power, IsSide}

-- a number that may be a literal
abbrev IsLiteral : ℤ → Type 0
IsLiteral k = (pos 0 ≤ℤ k) × (k ≤ℤ MAX_LITERAL)

power_is_term : (file : File) (k c : ℤ) (n : ℕ) → 0 < length file.vars → IsLiteral k → IsLiteral c → n ≤ MAX_EXPONENT →
    IsTerm file (linear_power k c n)
unfolding fold_term EachNode
    Rattle.alg_terms.specs.declared.term.Term.TheBlock.hidden-the_row-Term-0 denote.Hole.Carrier.hidden
power_is_term file k c n there h g small = record {
  indices = search rules;
  literals = search rules;
  exponents = search rules;
  depth = search rules;
  parts = search rules;
  arguments = search rules;
}

power_sort : (file : File) (k c : ℤ) (n : ℕ) → own_sort file (linear_power k c n) ≡ Some (sort_of_var file 0)
unfolding fold_term Rattle.alg_terms.specs.declared.term.Term.TheBlock.hidden-the_row-Term-0 denote.Hole.Carrier.hidden
power_sort file k c n = refl

power_depth : (k c : ℤ) (n : ℕ) → depth_of (linear_power k c n) ≤ 4
unfolding fold_term Rattle.alg_terms.specs.declared.term.Term.TheBlock.hidden-the_row-Term-0 denote.Hole.Carrier.hidden
power_depth k c n = omega arith

pub power_is_side : (file : File) (t : Term) (k c : ℤ) (n : ℕ) → t ≡ linear_power k c n → 0 < length file.vars →
    IsLiteral k → IsLiteral c → n ≤ MAX_EXPONENT → IsSide file 4 t
power_is_side file t k c n is there h g small =
    subst (IsSide file 4) (sym is) record {
      term = power_is_term file k c n there h g small;
      sort = power_sort file k c n;
      low = power_depth k c n;
    }

module _ (file : File) (d : ℕ) (l r : Term) (h : IsSide file d l) (g : IsSide file d r) where
  -- both parts have the variable's sort
  agreeing : Agree (own_sort file l) (own_sort file r)
  agreeing =
      subst (λ s. Agree s (own_sort file r)) (sym h.sort)
      (subst (λ s. Agree (Some (sort_of_var file 0)) s) (sym g.sort) refl)

  both_sorts : option_or (own_sort file l) (own_sort file r) ≡ Some (sort_of_var file 0)
  both_sorts = ap (λ s. option_or s (own_sort file r)) h.sort

  both_deep : depth_of (Div l r) ≤ d + 1
  both_deep =
      let low = h.low in
      let also = g.low in
      omega (arith, fold_term-Div node_depth l r, low, also)

  pub quotient_is_side : d < 1000 → IsSide file (d + 1) (Div l r)
  quotient_is_side small = record {
    term = record {
      indices = (EachNode-Div (IsInRange file) l r).1 (tt, h.term.indices, g.term.indices);
      literals = (EachNode-Div HasLiteral l r).1 (tt, h.term.literals, g.term.literals);
      exponents = (EachNode-Div HasExponent l r).1 (tt, h.term.exponents, g.term.exponents);
      depth = omega (arith, both_deep, small);
      parts = (EachNode-Div (HasAgreeingParts file) l r).1 (agreeing, h.term.parts, g.term.parts);
      arguments = (EachNode-Div (HasFittingArgument file) l r).1 (tt, h.term.arguments, g.term.arguments);
    };
    sort = fold_term-Div (node_sort file) l r ∙ both_sorts;
    low = both_deep;
  }

  pub sides_are_equation : (s : ℕ) → s ≡ sort_of_var file 0 → IsEquation file (record { sort = s; left = l; right = r })
  sides_are_equation s is =
      record { left = h.term; right = g.term; sides = agreeing; sort = both_sorts ∙ ap Some (sym is) }

-- the first of some variables
pub first_of : (vars : List VarDecl) (x y : VarDecl) → 0 < length vars →
    slice_index_or vars 0 x ≡ slice_index_or vars 0 y
first_of [] x y there = absurd (omega arith)
first_of (v ∷ vars) x y there = refl

pub deeper : (file : File) (d e : ℕ) (t : Term) → d ≤ e → IsSide file d t → IsSide file e t
deeper file d e t more h = let low = h.low in record { term = h.term; sort = h.sort; low = omega (arith, low, more) }
