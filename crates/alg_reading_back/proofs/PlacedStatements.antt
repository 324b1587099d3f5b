-- Statements at places: what the grammar derives where nothing else may stand is derived at each place, and lines and
-- steps are derived at those of their format.
use Rattle.std.proofs.Common.{◌≡◌, ℕ, ◌+◌, List, ◌++◌, refl, sym, ap, ◌∙◌, subst}
use Rattle.alg_tokens.specs.declared.token.Sign.TheVariants as signs
use Rattle.alg_tokens.specs.declared.token.Token.{Token}
use Rattle.alg_tokens.specs.Laws.{width, tokens_of}
use Rattle.alg_tokens.specs.Pieces.{Piece}
use Rattle.alg_reader.specs.declared.format.Format.{Format}
use Rattle.alg_reader.specs.declared.format.Format.TheVariants as formats
use Rattle.alg_reader.specs.declared.place.Place.{Place}
use Rattle.alg_reader.specs.declared.place.Place.TheVariants as places
use Rattle.alg_reader.specs.declared.raw.RawKind.{RawKind}
use Rattle.alg_reader.specs.Forms as rules
use Rattle.alg_reader.specs.Forms.{Rule, Tree, token, pair, node, seq, rule, spelled}
use Rattle.alg_reader.specs.Grammar as forms
use Rattle.alg_reader.specs.Grammar.{grammar, Fits, body, said_at}
use Rattle.alg_reader.specs.Meaning.{act, value, kind_value}
use Rattle.alg_reader.specs.PartMeaning.{act_statement}
use Rattle.alg_reader.specs.Statements.{IsStatement, statement_at}
use Rattle.alg_reader.specs.TermMeaning.{Value, one, two}
use Rattle.alg_reading_back.proofs.DerivedForms.{IsDerived, first_way, other_way}
use Rattle.alg_reading_back.proofs.DerivedTerms.{sign_at}
use Rattle.alg_reading_back.proofs.ReadAt.{tokens_append}
use Rattle.alg_reading_back.proofs.WrittenStatements.{dot}

-- what may be said at a place, before its dot
pub said_statement : (place : Place) (p : List Piece) (at : ℕ) (kind : RawKind) →
    IsDerived (said_at place) (tokens_of at p) (kind_value kind) → IsStatement place (tokens_of at (p ++ dot)) kind
unfolding grammar act
said_statement place p at kind d = (
  node (rules.Statement place) (pair d.tree (token (sign_at signs.Dot (at + width p)))),
  (refl, (d.fits, refl)),
  ap (λ ts. ts ++ tokens_of (at + width p) dot) d.spells ∙ sym (tokens_append at p dot),
  ap (λ x. act_statement (two x (one (sign_at signs.Dot (at + width p))))) d.means,
)

-- declarations and goals may be said at each place
in_place : (place : Place) (ts : List Token) (x : Value) → IsDerived body ts x → IsDerived (said_at place) ts x
in_place places.Plain ts x d = d
in_place places.Start ts x d = d
in_place places.AfterGoal ts x d =
    other_way _ _ ts x (other_way _ _ ts x (other_way _ _ ts x (other_way _ _ ts x (other_way _ _ ts x
    (other_way _ _ ts x d)))))
in_place places.Lines ts x d = other_way _ _ ts x (other_way _ _ ts x d)
in_place places.Steps ts x d = other_way _ _ ts x d
in_place places.LinesTwo ts x d = other_way _ _ ts x (other_way _ _ ts x d)
in_place places.StepsTwo ts x d = other_way _ _ ts x d

-- the two parts of a derivation
pair_placed : (place : Place) (w : Tree) (ts : List Token) (kind : RawKind) → Fits (seq body (forms.sign signs.Dot)) w →
    spelled w ≡ ts → act_statement (value w) ≡ kind_value kind → IsStatement place ts kind
unfolding grammar act
pair_placed place (pair v d) ts kind fits spells says =
    let said : IsDerived (said_at place) (spelled v) (value v) =
    in_place place (spelled v) (value v) (record { tree = v; fits = fits.0; spells = refl; means = refl }) in (
      node (rules.Statement place) (pair said.tree d),
      (refl, (said.fits, fits.1)),
      ap (λ us. us ++ spelled d) said.spells ∙ spells,
      ap (λ x. act_statement (two x (value d))) said.means ∙ says,
    )
pair_placed place _ ts kind fits spells says = absurd fits

node_placed : (place : Place) (q : Rule) (w : Tree) (ts : List Token) (kind : RawKind) → rules.Statement places.Plain
    ≡ q →
    Fits (grammar (rules.Statement places.Plain)) w → spelled w ≡ ts → act q (value w) ≡ kind_value kind →
    IsStatement place ts kind
unfolding grammar act
node_placed place q w ts kind is fits spells says =
    pair_placed place w ts kind fits spells (subst (λ r. act r (value w) ≡ kind_value kind) (sym is) says)

tree_placed : (place : Place) (v : Tree) (ts : List Token) (kind : RawKind) → Fits (statement_at places.Plain) v →
    spelled v ≡ ts → value v ≡ kind_value kind → IsStatement place ts kind
tree_placed place (node q w) ts kind fits spells says = node_placed place q w ts kind fits.0 fits.1 spells says
tree_placed place _ ts kind fits spells says = absurd fits

-- a statement of a file without answers is one at each place
pub statement_placed : (place : Place) (ts : List Token) (kind : RawKind) → IsStatement places.Plain ts kind →
    IsStatement place ts kind
statement_placed place ts kind (v, fits, spells, says) = tree_placed place v ts kind fits spells says

-- ---- lines and steps

-- where the lines and where the steps of a format stand
abbrev pub lines_place : Format → Place
lines_place formats.One = places.Lines
lines_place formats.Two = places.LinesTwo

abbrev pub steps_place : Format → Place
steps_place formats.One = places.Steps
steps_place formats.Two = places.StepsTwo

pub line_said : (format : Format) (ts : List Token) (x : Value) → IsDerived (rule (rules.Line format)) ts x →
    IsDerived (said_at (lines_place format)) ts x
line_said formats.One ts x d = first_way _ _ ts x d
line_said formats.Two ts x d = first_way _ _ ts x d

pub first_step_said : (format : Format) (ts : List Token) (x : Value) → IsDerived (rule (rules.Step format)) ts x →
    IsDerived (said_at (lines_place format)) ts x
first_step_said formats.One ts x d = other_way _ _ ts x (first_way _ _ ts x d)
first_step_said formats.Two ts x d = other_way _ _ ts x (first_way _ _ ts x d)

pub step_said : (format : Format) (ts : List Token) (x : Value) → IsDerived (rule (rules.Step format)) ts x →
    IsDerived (said_at (steps_place format)) ts x
step_said formats.One ts x d = first_way _ _ ts x d
step_said formats.Two ts x d = first_way _ _ ts x d
