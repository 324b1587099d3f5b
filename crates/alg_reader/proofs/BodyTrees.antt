-- Derivations from the rules of terms, of declarations and of goals.
use Rattle.std.proofs.Common.{refl, pos}
use Rattle.alg_tokens.specs.declared.token.TokenKind.{TokenKind}
use Rattle.alg_tokens.specs.declared.token.TokenKind.TheVariants as kinds
use Rattle.alg_tokens.specs.declared.token.Word.TheVariants as words
use Rattle.alg_tokens.specs.declared.token.Sign.TheVariants as signs
use Rattle.alg_reader.specs.Forms as rules
use Rattle.alg_reader.specs.Forms.{Rule, Form, a, seq, rule, Tree, token, pair, left, right, none, end, node}
use Rattle.alg_reader.specs.Grammar.{grammar, Fits}
use Rattle.alg_reader.proofs.ReadSequences.{an, an-code}

-- a derivation from a form
abbrev pub Derived : Form → Type 0
Derived f = (v : Tree) × Fits f v

pub word : (k : TokenKind) → Derived (a k)
word k = (token (an k), an-code k)

pub both : (f g : Form) → Derived f → Derived g → Derived (seq f g)
both f g v w = (pair v.0 w.0, (v.1, w.1))

pub by_rule : (r : Rule) → Derived (grammar r) → Derived (rule r)
by_rule r v = (node r v.0, (refl, v.1))

pub leaf_tree : Derived (rule rules.Leaf)
unfolding grammar
leaf_tree = by_rule rules.Leaf (left (left (token (an (kinds.Number (pos 0))))), an-code (kinds.Number (pos 0)))

pub sum_tree : Derived (rule rules.Sum)
unfolding grammar
sum_tree =
    let power = by_rule rules.Power (pair leaf_tree.0 none, (leaf_tree.1, tt)) in
    let unary = by_rule rules.Unary (right power.0, power.1) in
    let product = by_rule rules.Product (pair unary.0 end, (unary.1, tt)) in
    by_rule rules.Sum (pair product.0 end, (product.1, tt))

pub power_tree : Derived (rule rules.Power)
unfolding grammar
power_tree = by_rule rules.Power (pair leaf_tree.0 none, (leaf_tree.1, tt))

pub unary_tree : Derived (rule rules.Unary)
unfolding grammar
unary_tree = by_rule rules.Unary (right power_tree.0, power_tree.1)

pub product_tree : Derived (rule rules.Product)
unfolding grammar
product_tree = by_rule rules.Product (pair unary_tree.0 end, (unary_tree.1, tt))

pub method_tree : Derived (rule rules.Method)
unfolding grammar
method_tree = by_rule rules.Method (right (left (token (an (kinds.Word words.Ring)))), an-code (kinds.Word words.Ring))

pub use_tree : Derived (rule rules.Use)
unfolding grammar
use_tree = by_rule rules.Use (pair (token (an kinds.Name)) none, (an-code kinds.Name, tt))

pub ring_tree : Derived (rule rules.Ring)
unfolding grammar
ring_tree = by_rule rules.Ring (both _ _ (word (kinds.Word words.Ring)) (word kinds.Name))

pub sort_tree : Derived (rule rules.Sort)
unfolding grammar
sort_tree = by_rule rules.Sort (
  pair (left (token (an (kinds.Word words.Domain)))) (pair (token
      (an kinds.Name)) none),
  (an-code (kinds.Word words.Domain), (an-code kinds.Name, tt)),
)

pub hom_tree : Derived (rule rules.Hom)
unfolding grammar
hom_tree = by_rule rules.Hom (both _ _ (word (kinds.Word words.Hom)) (both _ _ (word kinds.Name) (both _ _ (word
    (kinds.Sign signs.Colon))
    (both _ _ (word kinds.Name) (both _ _ (word (kinds.Sign signs.Arrow)) (word kinds.Name))))))

pub vars_tree : Derived (rule rules.Vars)
unfolding grammar
vars_tree = by_rule rules.Vars (both _ _ (word (kinds.Word words.Var)) (both _ _ (word kinds.Name) (both _ _ (
  end,
  tt,
) (both _ _ (word (kinds.Sign signs.Colon)) (word kinds.Name)))))

pub hyp_tree : Derived (rule rules.Hyp)
unfolding grammar
hyp_tree = by_rule rules.Hyp (both _ _ (word (kinds.Word words.Hyp)) (both _ _ (word kinds.Name) (both _ _ (word
    (kinds.Sign signs.Colon))
    (both _ _ sum_tree (both _ _ (
      left (token (an (kinds.Sign signs.Equal))),
      an-code (kinds.Sign signs.Equal),
    ) sum_tree)))))

pub goal_tree : Derived (rule rules.Goal)
unfolding grammar
goal_tree = by_rule rules.Goal (both _ _ (word (kinds.Word words.Goal)) (both _ _ sum_tree (both _ _ (word
    (kinds.Sign signs.Equal))
    (both _ _ sum_tree (both _ _ (word (kinds.Word words.By)) method_tree)))))
