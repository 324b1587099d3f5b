-- Kinds of sorts.
use Rattle.alg_terms.specs.declared.declarations.Kind.{Kind}
use Rattle.alg_terms.specs.declared.declarations.Kind.TheVariants.{Ring, Domain, Field}

-- the kind has the laws of commutative rings
abbrev pub IsRing : Kind → Type 0
IsRing Ring = Unit {0}
IsRing Domain = Unit {0}
IsRing Field = Unit {0}

-- the kind has the laws of integral domains: it is a domain or a field
abbrev pub IsDomain : Kind → Type 0
IsDomain Ring = ⊥
IsDomain Domain = Unit {0}
IsDomain Field = Unit {0}

-- the kind has the laws of fields
abbrev pub IsField : Kind → Type 0
IsField Ring = ⊥
IsField Domain = ⊥
IsField Field = Unit {0}

-- each law of the first kind is one of the second
abbrev pub IsAtMost : Kind → Kind → Type 0
IsAtMost Ring kind = IsRing kind
IsAtMost Domain kind = IsDomain kind
IsAtMost Field kind = IsField kind
