-- The constants of a certificate: the numbers by which it divides.
use Rattle.std.specs.Prelude.{Bool, cond, ℤ, List, [], ◌∷◌, ◌++◌, map}
use Rattle.std.specs.Ordering.{int_cmp, is_lt}
use Rattle.std.specs.Prelude.{pos}
use Rattle.std.specs.BTreeSet.{insert_key}
use Rattle.alg_lines.specs.declared.cert.Cert.{Cert}

-- rising numbers and these ones that are above 1, each at its place unless it is there
abbrev pub added : List ℤ → List ℤ → List ℤ
added set [] = set
added set (c ∷ cs) = added (cond (is_lt (int_cmp (pos 1) c)) (insert_key int_cmp set c) set) cs

-- the values above 1 among the d of its lines and the a of its steps, each once, rising; in characteristic 0 none
abbrev pub constants : Cert → Bool → List ℤ
constants cert char0 = cond char0 [] (added [] (map (λ l. l.d) cert.lines ++ map (λ s. s.a) cert.steps))
