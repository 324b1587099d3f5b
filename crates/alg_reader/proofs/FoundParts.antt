-- What tokens mean by a sequence: its first part, and what stands behind it.
use Rattle.std.proofs.Common.{◌≡◌, ℕ, List, [], ◌∷◌, ◌++◌, ap, ◌∙◌}
use Rattle.alg_tokens.specs.declared.token.Token.{Token}
use Rattle.alg_reader.specs.declared.raw.RawMono.{RawMono}
use Rattle.alg_reader.specs.declared.raw.RawNumber.{RawNumber}
use Rattle.alg_reader.specs.Grammar.{number}
use Rattle.alg_reader.specs.RawNodes.{number_of}
use Rattle.alg_reader.specs.TermMeaning.{Value, one, two, mono, int}
use Rattle.alg_reader.specs.WellRead.{IsInRange, IsInteger, IsWellMono}
use Rattle.alg_reader.proofs.Boundaries.{IsTokenAt}
use Rattle.alg_reader.proofs.Found.{Found, MonoFound}
use Rattle.alg_reader.proofs.Nodes.{number_at}

-- one part, and what stands behind it
abbrev Behind : (Value → List Token → Type 0) → (Value → List Token → Type 0) → Value → List Token → Type 0
Behind P Q x ts = (y : Value) × (z : Value) × (us : List Token) × (vs : List Token) × (x ≡ two y z)
    × (ts ≡ us ++ vs) × P y us × Q z vs

-- a token
pub after_token : {text : List ℕ} {K : Token → Type 0} {Q : Value → List Token → Type 0} {x : Value} {ts : List Token}
    → Behind (λ y us. (t : Token) × (y ≡ one t) × (us ≡ t ∷ []) × K t × IsTokenAt text t) Q x ts
    → (t : Token) × (z : Value) × (vs : List Token) × (x ≡ two (one t) z) × Q z vs
after_token (y, z, us, vs, e, _, (t, et, _, _, _), h) = (t, z, vs, e ∙ ap (λ v. two v z) et, h)

-- a numeral
pub after_number : {text : List ℕ} {Q : Value → List Token → Type 0} {x : Value} {ts : List Token}
    → Behind (λ y us. Found text number y us) Q x ts
    → (t : Token) × (z : Value) × (vs : List Token) × (x ≡ two (one t) z) × IsInRange (number_of t.kind) × Q z vs
after_number {text = text} (y, z, us, vs, e, _, n, h) =
    let (t, et, range, _, _) = number_at text y us n in (t, z, vs, e ∙ ap (λ v. two v z) et, range, h)

-- a monomial
pub after_mono : {text : List ℕ} {Q : Value → List Token → Type 0} {x : Value} {ts : List Token}
    → Behind (λ y us. MonoFound text y) Q x ts
    → (m : RawMono) × (z : Value) × (vs : List Token) × (x ≡ two (mono m) z) × IsWellMono text m × Q z vs
after_mono (y, z, us, vs, e, _, (m, em, well), h) = (m, z, vs, e ∙ ap (λ v. two v z) em, well, h)

-- an integer
pub after_int : {Q : Value → List Token → Type 0} {x : Value} {ts : List Token}
    → Behind (λ y us. (n : RawNumber) × (y ≡ int n) × IsInteger n) Q x ts
    → (n : RawNumber) × (z : Value) × (vs : List Token) × (x ≡ two (int n) z) × IsInteger n × Q z vs
after_int (y, z, us, vs, e, _, (n, en, well), h) = (n, z, vs, e ∙ ap (λ v. two v z) en, well, h)
