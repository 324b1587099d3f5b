-- The grammar is unambiguous.
use Rattle.std.proofs.Common.{◌≡◌, List, [], ◌++◌, refl, sym, ◌∙◌, subst, append_assoc, append-nil}
use Rattle.alg_tokens.specs.declared.token.Token.{Token}
use Rattle.alg_reader.specs.Forms.{Rule, Form, a, seq, alt, opt, many, rule, Tree, token, pair, left, right, none, some, end, more, node, spelled}
use Rattle.alg_reader.specs.Grammar.{grammar, Fits}
use Rattle.alg_reader.specs.Ahead.{CannotGoOn, Starts}
use Rattle.alg_reader.proofs.Ahead.{ends_first, ends_second, ends_opt, ends_left, ends_right, ends_rule, ends_clash, clash, starts_with}
use Rattle.alg_reader.proofs.GoodParts.{IsGood}
use Rattle.alg_reader.proofs.Good.{good_grammar}
use Rattle.alg_reader.proofs.ReadRows.{ends_turn}

-- Two derivations from one form that spell the fronts of one text, each up to where it could end, are one.
unique : (f : Form) → IsGood f → (v w : Tree) (r s : List Token) → Fits f v → Fits f w → CannotGoOn f r → CannotGoOn f s
    → spelled v ++ r ≡ spelled w ++ s → (v ≡ w) × (r ≡ s)
unique (a k) good (token t) (token u) r s h k' er es e = (cc, cc)
unique (a k) good (token t) _ r s h k' er es e = absurd k'
unique (seq f g) good (pair v v') (pair w w') r s h k er es e =
    let e' : spelled v ++ (spelled v' ++ r) ≡ spelled w ++ (spelled w' ++ s) =
    sym (append_assoc (spelled v) (spelled v') r) ∙ e ∙ append_assoc (spelled w) (spelled w') s in
    let first = unique f good.0 v w _ _ h.0 k.0 (ends_first f g v' r good.2 h.1 er)
    (ends_first f g w' s good.2 k.1 es) e' in
    let second = unique g good.1 v' w' r s h.1 k.1 (ends_second f g r er) (ends_second f g s es) first.1 in
    (cc, second.1)
unique (seq f g) good (pair v v') _ r s h k er es e = absurd k
unique (alt f g) good (left v) (left w) r s h k er es e =
    let i = unique f good.0 v w r s h k (ends_left f g r er) (ends_left f g s es) e in (cc, i.1)
unique (alt f g) good (right v) (right w) r s h k er es e =
    let i = unique g good.1 v w r s h k (ends_right f g r er) (ends_right f g s es) e in (cc, i.1)
unique (alt f g) good (left v) (right w) r s h k er es e =
    absurd (clash f g _ _ good.4 (starts_with f v r good.2 h) (starts_with g w s good.3 k) e)
unique (alt f g) good (right v) (left w) r s h k er es e =
    absurd (clash f g _ _ good.4 (starts_with f w s good.2 k) (starts_with g v r good.3 h) (sym e))
unique (alt f g) good (left v) _ r s h k er es e = absurd k
unique (alt f g) good (right v) _ r s h k er es e = absurd k
unique (opt f) good none none r s h k er es e = (refl, e)
unique (opt f) good (some v) (some w) r s h k er es e =
    let i = unique f good.0 v w r s h k (ends_opt f r er) (ends_opt f s es) e in (cc, i.1)
unique (opt f) good none (some w) r s h k er es e =
    absurd (ends_clash f r er (subst (Starts f) (sym e) (starts_with f w s good.1 k)))
unique (opt f) good (some v) none r s h k er es e =
    absurd (ends_clash f s es (subst (Starts f) e (starts_with f v r good.1 h)))
unique (opt f) good none _ r s h k er es e = absurd k
unique (opt f) good (some v) _ r s h k er es e = absurd k
unique (many f) good end end r s h k er es e = (refl, e)
unique (many f) good (more v v') (more w w') r s h k er es e =
    let e' : spelled v ++ (spelled v' ++ r) ≡ spelled w ++ (spelled w' ++ s) =
    sym (append_assoc (spelled v) (spelled v') r) ∙ e ∙ append_assoc (spelled w) (spelled w') s in
    let first = unique f good.0 v w _ _ h.0 k.0 (ends_turn f good.1 good.2 v' r h.1 er)
    (ends_turn f good.1 good.2 w' s k.1 es) e' in
    let second = unique (many f) good v' w' r s h.1 k.1 er es first.1 in
    (cc, second.1)
unique (many f) good end (more w w') r s h k er es e =
    absurd (ends_clash f r er (subst (Starts f) (sym (e ∙ append_assoc (spelled w) (spelled w') s))
    (starts_with f w (spelled w' ++ s) good.1 k.0)))
unique (many f) good (more v v') end r s h k er es e =
    absurd (ends_clash f s es (subst (Starts f) (sym (append_assoc (spelled v) (spelled v') r)
    ∙ e) (starts_with f v (spelled v' ++ r) good.1 h.0)))
unique (many f) good end _ r s h k er es e = absurd k
unique (many f) good (more v v') _ r s h k er es e = absurd k
unique (rule q) good (node p v) (node p' w) r s h k er es e =
    let i = unique (grammar q) (good_grammar q) v w r s h.1 k.1 (ends_rule q r er) (ends_rule q s es) e in
    let h' = h.0 in let k' = k.0 in (cc, i.1)
unique (rule q) good (node p v) _ r s h k er es e = absurd k
unique _ good _ w r s h k er es e = absurd h

-- one derivation from a rule
pub one_tree : (r : Rule) (v w : Tree) → Fits (rule r) v → Fits (rule r) w → spelled v ≡ spelled w → v ≡ w
one_tree r v w h k e = (unique (rule r) tt v w [] [] h k tt tt (append-nil (spelled v) ∙ e
    ∙ sym (append-nil (spelled w)))).0
