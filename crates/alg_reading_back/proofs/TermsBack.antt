-- The raw term of a canonical text resolves to the term, in the front of a file that has its names.
use Rattle.std.proofs.Common.{◌≡◌, ◌<◌, ℕ, ◌+◌, List, [], ◌∷◌, ◌++◌, length, Some, refl, sym, ap, ◌∙◌, subst, arith}
use Rattle.std.specs.Option.{option_map_or}
use Rattle.alg_terms.specs.declared.file.File.{File}
use Rattle.alg_terms.specs.declared.term.Term.{Term}
use Rattle.alg_terms.specs.declared.term.Term.TheVariants.{Var, Neg, Add, Sub, Mul, Div, Pow, Hom}
use Rattle.alg_terms.specs.Nodes.{fold_term, EachNode}
use Rattle.alg_terms.proofs.Views.{Leaf, Unary, Binary, leaf, unary, binary, binary_node, each_binary, fold_binary, nodes_binary, induction}
use Rattle.alg_terms.specs.TermRules.{IsInRange}
use Rattle.alg_terms.specs.Valid.{names_of}
use Rattle.alg_tokens.specs.declared.token.Sign.{Sign}
use Rattle.alg_tokens.specs.declared.token.Sign.TheVariants as signs
use Rattle.alg_tokens.specs.declared.token.TokenKind.TheVariants as kinds
use Rattle.alg_tokens.specs.Spelling.{sign_spelling}
use Rattle.alg_tokens.specs.Laws.{width}
use Rattle.alg_reader.specs.declared.raw.RawNode.{RawNode}
use Rattle.alg_reader.specs.declared.raw.RawNode.TheVariants as raw
use Rattle.alg_reader.specs.declared.raw.RawTerm.{RawTerm}
use Rattle.alg_reader.specs.declared.raw.Span.{Span}
use Rattle.alg_reader.specs.RawTerms.{fold_under}
use Rattle.alg_reader.specs.WellRead.{bytes_at}
use Rattle.alg_typing.specs.declared.declaration.Declaration.{Declaration}
use Rattle.alg_typing.specs.declared.declaration.Declaration.TheVariants as declaration
use Rattle.alg_typing.specs.NameFaults.{term_names, used_name, misuse}
use Rattle.alg_typing.specs.Names.{declared_as, is_var, is_hom, number_of}
use Rattle.alg_typing.specs.Resolved.{number_at, term_of}
use Rattle.alg_typing.proofs.DeclaredNames.{declared_var, declared_hom}
use Rattle.alg_typing.proofs.FreshNames.{AreDistinct}
use Rattle.alg_typing.proofs.Growing.{Grows}
use Rattle.alg_printer.specs.Names.{var_name, hom_name}
use Rattle.alg_reading_back.proofs.WrittenTerms.{WrittenTerm, node_written, written, raw_at, spaced, tight, space, sign, numeral, part_pieces, part_raw, in_parentheses, span}
use Rattle.alg_reading_back.proofs.PiecesAt.{PiecesAt, pieces_at_left, pieces_at_right, part_as, span_bytes}

module _ (file g : File) (text : List ℕ) (distinct : AreDistinct (names_of g)) (grows : Grows g file) where
  -- a name of the file that the front has too is declared there as it is in the file
  var_found : (k : ℕ) (name : Span) → k < length g.vars → bytes_at text name ≡ var_name file k →
      declared_as g (bytes_at text name) ≡ Some (declaration.Var k)
  var_found k name low same =
      ap (declared_as g) (same ∙ ap (λ var. var.name) (grows.vars k low)) ∙ declared_var g distinct k low

  hom_found : (f : ℕ) (name : Span) → f < length g.homs → bytes_at text name ≡ hom_name file f →
      declared_as g (bytes_at text name) ≡ Some (declaration.Hom f)
  hom_found f name low same =
      ap (declared_as g) (same ∙ ap (λ hom. hom.name) (grows.homs f low)) ∙ declared_hom g distinct f low

  -- its number is the member's, and it has no fault
  number_is : (d : Declaration) (name : Span) → declared_as g (bytes_at text name) ≡ Some d →
      number_at g text name ≡ number_of d
  number_is d name found = ap (λ o. option_map_or number_of o 0) found

  pub var_used : (k : ℕ) (name : Span) → k < length g.vars → bytes_at text name ≡ var_name file k →
      (number_at g text name ≡ k) × (used_name g text is_var name ≡ [])
  var_used k name low same =
      let found = var_found k name low same in
      (number_is (declaration.Var k) name found, ap (misuse g text is_var name.start) found)

  pub hom_used : (f : ℕ) (name : Span) → f < length g.homs → bytes_at text name ≡ hom_name file f →
      (number_at g text name ≡ f) × (used_name g text is_hom name ≡ [])
  hom_used f name low same =
      let found = hom_found f name low same in
      (number_is (declaration.Hom f) name found, ap (misuse g text is_hom name.start) found)

  -- the raw term resolves to the term, and its names have no faults
  abbrev pub IsBack : Term → RawTerm → Type 0
  IsBack t raw = (term_of g text raw ≡ t) × (term_names g text raw ≡ [])

  -- wherever the pieces stand in the text
  abbrev pub ComesBack : Term → WrittenTerm → Type 0
  ComesBack t l = (at : ℕ) → PiecesAt text at l.pieces → IsBack t (l.raw at)

  -- and so does a part, in parentheses or not
  part_back : (t : Term) (l : WrittenTerm) (wanted at : ℕ) → ComesBack t l → PiecesAt text at (part_pieces wanted l) →
      IsBack t (part_raw wanted l at)
  part_back t l wanted at back placed = part_as text (IsBack t) l wanted at back placed

  -- a node of two parts comes back where they do
  abbrev IsNodeOfTwo : (RawTerm → RawTerm → RawNode) → (Term → Term → Term) → Type 0
  IsNodeOfTwo node build = (head : ℕ) (l r : RawTerm) →
      (term_of g text (raw_at head (node l r)) ≡ build (term_of g text l) (term_of g text r))
      × (term_names g text (raw_at head (node l r)) ≡ term_names g text l ++ term_names g text r)

  two_back : (node : RawTerm → RawTerm → RawNode) (build : Term → Term → Term) → IsNodeOfTwo node build →
      (t u : Term) (head : ℕ) (l r : RawTerm) → IsBack t l → IsBack u r → IsBack (build t u) (raw_at head (node l r))
  two_back node build is t u head l r (p, a) (q, b) =
      let (made, names) = is head l r in (
        made ∙ ap (λ x. build x (term_of g text r)) p ∙ ap (build t) q,
        names ∙ ap (λ x. x ++ term_names g text r) a ∙ b,
      )

  spaced_back : (op : Sign) (node : RawTerm → RawTerm → RawNode) (build : Term → Term → Term) →
      length (sign_spelling op) ≡ 1 →
      IsNodeOfTwo node build → (t u : Term) (l r : WrittenTerm) → ComesBack t l → ComesBack u r →
      ComesBack (build t u) (spaced op node l r)
  spaced_back op node build one is t u l r back back' at placed =
      let left = pieces_at_left text at (part_pieces 1 l) (space ∷ sign op ∷ space ∷ part_pieces 2 r) placed in
      let rest = pieces_at_right text at (part_pieces 1 l) (space ∷ sign op ∷ space ∷ part_pieces 2 r) placed in
      let w = width (part_pieces 1 l) in
      let place : (((at + w) + 1) + length (sign_spelling op)) + 1 ≡ (at + w + 1) + 2 = omega (arith, one) in
      let right = subst (λ k. PiecesAt text k (part_pieces 2 r)) place rest.1.1.1 in
      two_back node build is t u (at + w + 1) (part_raw 1 l at) (part_raw 2 r ((at + w + 1) + 2))
      (part_back t l 1 at back left) (part_back u r 2 ((at + w + 1) + 2) back' right)

  tight_back : (op : Sign) (node : RawTerm → RawTerm → RawNode) (build : Term → Term → Term) →
      length (sign_spelling op) ≡ 1 →
      IsNodeOfTwo node build → (t u : Term) (l r : WrittenTerm) → ComesBack t l → ComesBack u r →
      ComesBack (build t u) (tight op node l r)
  tight_back op node build one is t u l r back back' at placed =
      let left = pieces_at_left text at (part_pieces 2 l) (sign op ∷ part_pieces 3 r) placed in
      let rest = pieces_at_right text at (part_pieces 2 l) (sign op ∷ part_pieces 3 r) placed in
      let w = width (part_pieces 2 l) in
      let place : (at + w) + length (sign_spelling op) ≡ (at + w) + 1 = omega (arith, one) in
      let right = subst (λ k. PiecesAt text k (part_pieces 3 r)) place rest.1 in
      two_back node build is t u (at + w) (part_raw 2 l at) (part_raw 3 r ((at + w) + 1))
      (part_back t l 2 at back left) (part_back u r 3 ((at + w) + 1) back' right)

  -- the raw node of each operation is one
  abbrev raw_node : Binary → RawTerm → RawTerm → RawNode
  raw_node Binary.Sum l r = raw.Add l r
  raw_node Binary.Difference l r = raw.Sub l r
  raw_node Binary.Product l r = raw.Mul l r
  raw_node Binary.Quotient l r = raw.Div l r

  is_node : (o : Binary) → IsNodeOfTwo (raw_node o) (binary o)
  unfolding fold_under Rattle.alg_reader.specs.declared.raw.RawNode.TheBlock.hidden-the_row-RawTerm-0
      denote.Hole.Carrier.hidden
  is_node Binary.Sum head l r = (refl, refl)
  is_node Binary.Difference head l r = (refl, refl)
  is_node Binary.Product head l r = (refl, refl)
  is_node Binary.Quotient head l r = (refl, refl)

  abbrev Back : Term → Type 0
  Back t = EachNode (IsInRange g) t → ComesBack t (written file t)

  leaf_back : (l : Leaf) → Back (leaf l)
  unfolding fold_term fold_under EachNode
  leaf_back (Leaf.Variable k) r at placed =
      let (number, used) =
      var_used k (span at (var_name file k)) r (span_bytes text at kinds.Name (var_name file k) [] placed) in
      (ap Var number, ap (λ names. names ++ []) used)
  leaf_back (Leaf.Literal n) r at placed = (refl, refl)

  unary_back : (o : Unary) (t : Term) → Back t → Back (unary o t)
  unfolding fold_term fold_under EachNode Rattle.alg_terms.specs.declared.term.Term.TheBlock.hidden-the_row-Term-0
      Rattle.alg_reader.specs.declared.raw.RawNode.TheBlock.hidden-the_row-RawTerm-0 denote.Hole.Carrier.hidden
  unary_back Unary.Opposite t back r at placed =
      let (made, names) = part_back t (written file t) 3 (at + 1) (back r.1) placed.1 in (ap Neg made, names)
  unary_back (Unary.Power n) t back r at placed =
      let l = written file t in
      let base = pieces_at_left text at (part_pieces 5 l) (sign signs.Caret ∷ numeral n ∷ []) placed in
      let (made, names) = part_back t l 5 at (back r.1) base in (ap (λ x. Pow x n) made, names)
  unary_back (Unary.Image f) t back r at placed =
      let name = hom_name file f in
      let l = written file t in
      let (number, used) =
      hom_used f (span at name) r.0 (span_bytes text at kinds.Name name (in_parentheses l.pieces) placed) in
      let inside = pieces_at_left text ((at + length name) + 1) l.pieces (sign signs.ParenRight ∷ []) placed.1.1 in
      let (made, names) = back r.1 (at + length name + 1) inside in (
        ap (λ k. Hom k (term_of g text (l.raw (at + length name + 1)))) number ∙ ap (Hom f) made,
        ap (λ x. x ++ term_names g text (l.raw (at + length name + 1))) used ∙ names,
      )

  binary_back : (o : Binary) (t u : Term) → Back t → Back u → Back (binary o t u)
  binary_back o t u back back' r =
      let (here, left, right) = (nodes_binary (IsInRange g) o t u).0 r in
      let l = written file t in
      let m = written file u in
      subst (ComesBack (binary o t u)) (sym (fold_binary (node_written file) o t u))
      (each_binary (λ o. IsNodeOfTwo (raw_node o) (binary o) →
      ComesBack (binary o t u) (node_written file (binary_node o l m)))
      (λ is. spaced_back signs.Plus raw.Add Add refl is t u l m (back left) (back' right))
      (λ is. spaced_back signs.Minus raw.Sub Sub refl is t u l m (back left) (back' right))
      (λ is. tight_back signs.Star raw.Mul Mul refl is t u l m (back left) (back' right))
      (λ is. tight_back signs.Slash raw.Div Div refl is t u l m (back left) (back' right))
      o (is_node o))

  -- each term of the front comes back
  pub term_back : (t : Term) → Back t
  term_back = induction Back (record { of_leaf = leaf_back; of_unary = unary_back; of_binary = binary_back })
