-- The terms that are tried, (k*x)^n*x + c, are terms of each file with a variable x.
use Rattle.std.proofs.Common.{◌≡◌, ◌≤◌, ◌<◌, ℕ, ℤ, length, refl, sym, subst, rules}
use Rattle.std.specs.Prelude.{pos, ◌≤ℤ◌}
use Rattle.alg_terms.specs.Limits.{MAX_LITERAL, MAX_EXPONENT}
use Rattle.alg_terms.specs.declared.file.File.{File}
use Rattle.alg_terms.specs.declared.term.Term.{Term}
use Rattle.alg_terms.specs.GoalRules.{IsEquation, DividesNowhere}
use Rattle.alg_terms.specs.Members.{sort_of_var}
use Rattle.alg_terms.specs.Nodes.{fold_term, EachNode}
use Rattle.alg_terms.specs.TermRules.{IsTerm, HasNoQuotient}
use Rattle.alg_reify.specs.TestTerms.{test_side}

-- a number that may be a literal
abbrev IsLiteral : ℤ → Type 0
IsLiteral k = (pos 0 ≤ℤ k) × (k ≤ℤ MAX_LITERAL)

-- the side is a term of the file
test_side_is_term : (file : File) (k : ℤ) (n : ℕ) (c : ℤ) → 0 < length file.vars → IsLiteral k → n ≤ MAX_EXPONENT →
    IsLiteral c →
    IsTerm file (test_side k n c)
unfolding fold_term EachNode
    Rattle.alg_terms.specs.declared.term.Term.TheBlock.hidden-the_row-Term-0 denote.Hole.Carrier.hidden
test_side_is_term file k n c there h small g = record {
  indices = search rules;
  literals = search rules;
  exponents = search rules;
  depth = search rules;
  parts = search rules;
  arguments = search rules;
}

-- and without quotients
test_side_is_plain : (k : ℤ) (n : ℕ) (c : ℤ) → HasNoQuotient (test_side k n c)
unfolding EachNode
    Rattle.alg_terms.specs.declared.term.Term.TheBlock.hidden-the_row-Term-0 denote.Hole.Carrier.hidden
test_side_is_plain k n c = search rules

module _ (file : File) (k : ℤ) (n : ℕ) (c d : ℤ) (there : 0 < length file.vars) (h : IsLiteral k)
    (small : n ≤ MAX_EXPONENT)
    (g : IsLiteral c) (f : IsLiteral d) where
  -- two sides at the variable's sort
  built_equation : IsEquation file (record { sort = sort_of_var file 0; left = test_side k n c; right = test_side k n d })
  unfolding fold_term EachNode
      Rattle.alg_terms.specs.declared.term.Term.TheBlock.hidden-the_row-Term-0 denote.Hole.Carrier.hidden
  built_equation = record {
    left = test_side_is_term file k n c there h small g;
    right = test_side_is_term file k n d there h small f;
    sides = search rules;
    sort = refl;
  }

  -- two of them make an equation without quotients
  pub test_sides_are_equation : (s : ℕ) (l r : Term) → s ≡ sort_of_var file 0 → l ≡ test_side k n c → r ≡ test_side k n d →
      IsEquation file (record { sort = s; left = l; right = r }) × DividesNowhere
      (record { sort = s; left = l; right = r })
  test_sides_are_equation s l r sort left right = (
    subst (IsEquation file) (λ i. record { sort = sym sort i; left = sym left i; right = sym right i }) built_equation,
    (subst HasNoQuotient (sym left) (test_side_is_plain k n c), subst HasNoQuotient (sym right) (test_side_is_plain k n d)),
  )
