-- What a file declares of its sorts.
use Rattle.std.specs.Prelude.{◌≡◌, ◌<◌, ℕ, false, length}
use Rattle.alg_terms.specs.declared.declarations.Kind.{Kind}
use Rattle.alg_terms.specs.declared.file.File.{File}
use Rattle.alg_terms.specs.Kinds.{IsAtMost}
use Rattle.alg_terms.specs.Members.{sort_at, kind_of}

-- each sort's kind is at most this one
abbrev pub HasKindsTo : Kind → File → Type 0
HasKindsTo kind file = (s : ℕ) → s < length file.sorts → IsAtMost (kind_of file s) kind

-- no sort is declared to have characteristic 0
abbrev pub HasNoChar0 : File → Type 0
HasNoChar0 file = (s : ℕ) → s < length file.sorts → (sort_at file s).char0 ≡ false
