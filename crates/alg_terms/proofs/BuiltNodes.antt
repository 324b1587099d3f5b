-- What holds of each node of a term that code builds or matches.
use Rattle.std.proofs.Common.{◌↔◌, ℕ, List, ◌∷◌}
use Rattle.alg_terms.specs.declared.file.File.{File}
use Rattle.alg_terms.specs.declared.term.Term.{Term}
use Rattle.alg_terms.specs.declared.term.Term.TheOpen.{Term-F}
use Rattle.alg_terms.specs.declared.term.Term.TheVariants.{Neg, Add, Sub, Mul, Div, Pow, Hom}
use Rattle.alg_terms.specs.Members.{source_of}
use Rattle.alg_terms.specs.Nodes.{EachNode}
use Rattle.alg_terms.specs.Sorts.{EachNodeAt}

pub EachNode-Neg : (P : Term-F Term → Type 0) (t : Term) →
    EachNode P (Neg t) ↔ (P (Term-F.Neg t) × EachNode P t)
unfolding EachNode
    Rattle.alg_terms.specs.declared.term.Term.TheBlock.hidden-the_row-Term-0 denote.Hole.Carrier.hidden
EachNode-Neg P t = (λ h. h, λ h. h)

pub EachNode-Add : (P : Term-F Term → Type 0) (t u : Term) →
    EachNode P (Add t u) ↔ (P (Term-F.Add t u) × EachNode P t × EachNode P u)
unfolding EachNode
    Rattle.alg_terms.specs.declared.term.Term.TheBlock.hidden-the_row-Term-0 denote.Hole.Carrier.hidden
EachNode-Add P t u = (λ h. h, λ h. h)

pub EachNode-Sub : (P : Term-F Term → Type 0) (t u : Term) →
    EachNode P (Sub t u) ↔ (P (Term-F.Sub t u) × EachNode P t × EachNode P u)
unfolding EachNode
    Rattle.alg_terms.specs.declared.term.Term.TheBlock.hidden-the_row-Term-0 denote.Hole.Carrier.hidden
EachNode-Sub P t u = (λ h. h, λ h. h)

pub EachNode-Mul : (P : Term-F Term → Type 0) (t u : Term) →
    EachNode P (Mul t u) ↔ (P (Term-F.Mul t u) × EachNode P t × EachNode P u)
unfolding EachNode
    Rattle.alg_terms.specs.declared.term.Term.TheBlock.hidden-the_row-Term-0 denote.Hole.Carrier.hidden
EachNode-Mul P t u = (λ h. h, λ h. h)

pub EachNode-Div : (P : Term-F Term → Type 0) (t u : Term) →
    EachNode P (Div t u) ↔ (P (Term-F.Div t u) × EachNode P t × EachNode P u)
unfolding EachNode
    Rattle.alg_terms.specs.declared.term.Term.TheBlock.hidden-the_row-Term-0 denote.Hole.Carrier.hidden
EachNode-Div P t u = (λ h. h, λ h. h)

pub EachNode-Pow : (P : Term-F Term → Type 0) (t : Term) (n : ℕ) →
    EachNode P (Pow t n) ↔ (P (Term-F.Pow t n) × EachNode P t)
unfolding EachNode
    Rattle.alg_terms.specs.declared.term.Term.TheBlock.hidden-the_row-Term-0 denote.Hole.Carrier.hidden
EachNode-Pow P t n = (λ h. h, λ h. h)

pub EachNode-Hom : (P : Term-F Term → Type 0) (f : ℕ) (t : Term) →
    EachNode P (Hom f t) ↔ (P (Term-F.Hom f t) × EachNode P t)
unfolding EachNode
    Rattle.alg_terms.specs.declared.term.Term.TheBlock.hidden-the_row-Term-0 denote.Hole.Carrier.hidden
EachNode-Hom P f t = (λ h. h, λ h. h)

-- the same with the final sort of each node and the morphisms over it
pub EachNodeAt-Neg : (file : File) (P : ℕ → List ℕ → Term-F Term → Type 0) (s : ℕ) (above : List ℕ) (t : Term) →
    EachNodeAt file P s above (Neg t) ↔ (P s above (Term-F.Neg t) × EachNodeAt file P s above t)
unfolding EachNodeAt
    Rattle.alg_terms.specs.declared.term.Term.TheBlock.hidden-the_row-Term-0 denote.Hole.Carrier.hidden
EachNodeAt-Neg file P s above t = (λ h. h, λ h. h)

pub EachNodeAt-Add : (file : File) (P : ℕ → List ℕ → Term-F Term → Type 0) (s : ℕ) (above : List ℕ) (t u : Term) →
    EachNodeAt file P s above (Add t u) ↔
    (P s above (Term-F.Add t u) × EachNodeAt file P s above t × EachNodeAt file P s above u)
unfolding EachNodeAt
    Rattle.alg_terms.specs.declared.term.Term.TheBlock.hidden-the_row-Term-0 denote.Hole.Carrier.hidden
EachNodeAt-Add file P s above t u = (λ h. h, λ h. h)

pub EachNodeAt-Sub : (file : File) (P : ℕ → List ℕ → Term-F Term → Type 0) (s : ℕ) (above : List ℕ) (t u : Term) →
    EachNodeAt file P s above (Sub t u) ↔
    (P s above (Term-F.Sub t u) × EachNodeAt file P s above t × EachNodeAt file P s above u)
unfolding EachNodeAt
    Rattle.alg_terms.specs.declared.term.Term.TheBlock.hidden-the_row-Term-0 denote.Hole.Carrier.hidden
EachNodeAt-Sub file P s above t u = (λ h. h, λ h. h)

pub EachNodeAt-Mul : (file : File) (P : ℕ → List ℕ → Term-F Term → Type 0) (s : ℕ) (above : List ℕ) (t u : Term) →
    EachNodeAt file P s above (Mul t u) ↔
    (P s above (Term-F.Mul t u) × EachNodeAt file P s above t × EachNodeAt file P s above u)
unfolding EachNodeAt
    Rattle.alg_terms.specs.declared.term.Term.TheBlock.hidden-the_row-Term-0 denote.Hole.Carrier.hidden
EachNodeAt-Mul file P s above t u = (λ h. h, λ h. h)

pub EachNodeAt-Div : (file : File) (P : ℕ → List ℕ → Term-F Term → Type 0) (s : ℕ) (above : List ℕ) (t u : Term) →
    EachNodeAt file P s above (Div t u) ↔
    (P s above (Term-F.Div t u) × EachNodeAt file P s above t × EachNodeAt file P s above u)
unfolding EachNodeAt
    Rattle.alg_terms.specs.declared.term.Term.TheBlock.hidden-the_row-Term-0 denote.Hole.Carrier.hidden
EachNodeAt-Div file P s above t u = (λ h. h, λ h. h)

pub EachNodeAt-Pow : (file : File) (P : ℕ → List ℕ → Term-F Term → Type 0) (s : ℕ) (above : List ℕ) (t : Term) (n : ℕ) →
    EachNodeAt file P s above (Pow t n) ↔ (P s above (Term-F.Pow t n) × EachNodeAt file P s above t)
unfolding EachNodeAt
    Rattle.alg_terms.specs.declared.term.Term.TheBlock.hidden-the_row-Term-0 denote.Hole.Carrier.hidden
EachNodeAt-Pow file P s above t n = (λ h. h, λ h. h)

pub EachNodeAt-Hom : (file : File) (P : ℕ → List ℕ → Term-F Term → Type 0) (s : ℕ) (above : List ℕ) (f : ℕ) (t : Term) →
    EachNodeAt file P s above (Hom f t) ↔
    (P s above (Term-F.Hom f t) × EachNodeAt file P (source_of file f) (f ∷ above) t)
unfolding EachNodeAt
    Rattle.alg_terms.specs.declared.term.Term.TheBlock.hidden-the_row-Term-0 denote.Hole.Carrier.hidden
EachNodeAt-Hom file P s above f t = (λ h. h, λ h. h)
