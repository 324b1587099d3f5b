-- How a fault of a part is a fault of the whole.
use Rattle.std.proofs.Common.{◌≡◌, List, ◌++◌, refl, sym, ap, ◌∙◌, append_assoc, append-nil, false, Result, IsErrAnd, ◌≤◌, length, length-append, arith}
use Rattle.std.proofs.lemmas.Result.{err_from_is_err_and}
use Rattle.alg_tokens.specs.declared.token.Token.{Token}
use Rattle.alg_reader.specs.declared.cursor.Fault.{Fault}
use Rattle.alg_reader.specs.declared.cursor.Fault.TheVariants.{NoMemory, Unexpected}
use Rattle.alg_reader.specs.Forms.{Rule, Form, seq, alt, opt, many, rule, Sum, Tree, pair, left, right, some, end, more, node, spelled}
use Rattle.alg_reader.specs.Grammar.{grammar, Fits, IsBegun, inside}
use Rattle.alg_reader.specs.Ahead.{nullable, begins, goes_on, Starts, Lacks}
use Rattle.alg_reader.specs.Reading.{Takes, IsStuckAt, Fails, Reads, ReadsKept, ReadsTerm, ReadsStatement, ReadsInside}
use Rattle.alg_reader.specs.declared.parts.HeldTerm.{HeldTerm}
use Rattle.alg_reader.specs.declared.parts.HeldStatement.{HeldStatement}
use Rattle.alg_reader.specs.TermMeaning.{Value}
use Rattle.alg_reader.specs.TermMeaning.{term}
use Rattle.alg_reader.specs.Meaning.{kind_value}
use Rattle.alg_reader.specs.Parts.{held, held_statement}
use Rattle.alg_reader.proofs.Ahead.{Disjoint}
use Rattle.alg_reader.proofs.ReadSequences.{stops_first, stops_second}
use Rattle.alg_reader.proofs.ReadChoices.{stops_left, stops_right, stops_some}
use Rattle.alg_reader.proofs.ReadRows.{stops_turn, stops_later, stops_rule}

-- ---- the front of a derivation

begun_first : (f g : Form) (ts : List Token) → (w : Tree) × Fits g w → IsBegun f ts → IsBegun (seq f g) ts
begun_first f g ts w b = (
  pair b.0 w.0,
  b.1 ++ spelled w.0,
  (b.2, w.1),
  ap (λ us. us ++ spelled w.0) b.3
      ∙ append_assoc ts b.1 (spelled w.0),
)

begun_second : (f g : Form) (v : Tree) (ts : List Token) → Fits f v → IsBegun g ts → IsBegun (seq f g) (spelled v ++ ts)
begun_second f g v ts fits b = (
  pair v b.0,
  b.1,
  (fits, b.2),
  ap (λ us. spelled v ++ us) b.3
      ∙ sym (append_assoc (spelled v) ts b.1),
)

begun_turn : (f : Form) (ts : List Token) → IsBegun f ts → IsBegun (many f) ts
begun_turn f ts b = (more b.0 end, b.1, (b.2, tt), simp append-nil b.3)

begun_later : (f : Form) (v : Tree) (ts : List Token) → Fits f v → IsBegun (many f) ts
    → IsBegun (many f) (spelled v ++ ts)
begun_later f v ts fits b = (
  more v b.0,
  b.1,
  (fits, b.2),
  ap (λ us. spelled v ++ us) b.3
      ∙ sym (append_assoc (spelled v) ts b.1),
)

-- ---- faults

fails_by : (f g : Form) (ts : List Token) → ((us : List Token) → IsBegun f us → IsBegun g us)
    → ((rest : List Token) → IsStuckAt f ts rest → IsStuckAt g ts rest) → (e : Fault) → Fails f ts e → Fails g ts e
fails_by f g ts begun stops NoMemory h = tt
fails_by f g ts begun stops (Unexpected t) h = (h.0, stops _ h.1)

fails_after : (f g : Form) (v : Tree) (ts mid : List Token) → ts ≡ spelled v ++ mid → ((us : List Token)
    → IsBegun f us → IsBegun g (spelled v ++ us)) → ((rest : List Token) → IsStuckAt f mid rest → IsStuckAt g ts rest)
    → (e : Fault) → Fails f mid e → Fails g ts e
fails_after f g v ts mid cut begun stops NoMemory h = tt
fails_after f g v ts mid cut begun stops (Unexpected t) h = (h.0, stops _ h.1)

pub fails_first : (f g : Form) → Disjoint (goes_on f) (begins g) → (w : Tree) × Fits g w
    → (ts : List Token) (e : Fault) → Fails f ts e → Fails (seq f g) ts e
fails_first f g apart w ts = fails_by f (seq f g) ts (λ us. begun_first f g us w)
    (λ rest. stops_first f g apart ts rest w)

pub fails_second : (f g : Form) → Disjoint (goes_on f) (begins g) → (ts mid : List Token) (x : Value)
    → Takes f ts mid x → (e : Fault) → Fails g mid e → Fails (seq f g) ts e
fails_second f g apart ts mid x p = fails_after g (seq f g) p.tree ts mid p.cut
    (λ us. begun_second f g p.tree us p.fits) (λ rest. stops_second f g apart ts mid rest x p)

pub fails_left : (f g : Form) → Disjoint (begins f) (begins g) → nullable f ≡ false → nullable g ≡ false
    → (ts : List Token) (e : Fault) → Starts f ts → Fails f ts e → Fails (alt f g) ts e
fails_left f g apart f_full g_full ts e starts = fails_by f (alt f g) ts (λ us b. (
  left b.0,
  b.1,
  b.2,
  b.3,
)) (λ rest. stops_left f g apart f_full g_full ts rest starts) e

pub fails_right : (f g : Form) → Disjoint (begins f) (begins g) → nullable f ≡ false → nullable g ≡ false
    → (ts : List Token) (e : Fault) → Lacks f ts → Fails g ts e → Fails (alt f g) ts e
fails_right f g apart f_full g_full ts e lacks = fails_by g (alt f g) ts (λ us b. (
  right b.0,
  b.1,
  b.2,
  b.3,
)) (λ rest. stops_right f g apart f_full g_full ts rest lacks) e

pub fails_some : (f : Form) → nullable f ≡ false → (ts : List Token) (e : Fault) → Starts f ts → Fails f ts e
    → Fails (opt f) ts e
fails_some f full ts e starts = fails_by f (opt f) ts (λ us b. (
  some b.0,
  b.1,
  b.2,
  b.3,
)) (λ rest. stops_some f full ts rest starts) e

pub fails_turn : (f : Form) → nullable f ≡ false → Disjoint (goes_on f) (begins f)
    → (ts : List Token) (e : Fault) → Starts f ts → Fails f ts e → Fails (many f) ts e
fails_turn f full apart ts e starts = fails_by f (many f) ts (begun_turn f)
    (λ rest. stops_turn f full apart ts rest starts) e

pub fails_later : (f : Form) → nullable f ≡ false → Disjoint (goes_on f) (begins f)
    → (ts mid : List Token) (x : Value) → Takes f ts mid x → (e : Fault) → Fails (many f) mid e → Fails (many f) ts e
fails_later f full apart ts mid x p = fails_after (many f) (many f) p.tree ts mid p.cut
    (λ us. begun_later f p.tree us p.fits) (λ rest. stops_later f full apart ts mid rest x p)

pub fails_rule : (q : Rule) (ts : List Token) (e : Fault) → Fails (grammar q) ts e → Fails (rule q) ts e
fails_rule q ts e = fails_by (grammar q) (rule q) ts (λ us b. (
  node q b.0,
  b.1,
  (refl, b.2),
  b.3,
)) (λ rest. stops_rule q ts rest) e

-- a fault that was passed on
pub passed : {X : Type 0} (f : Form) (view : X → Value) (ts new : List Token) (r : Result X Fault) (e : Fault)
    → IsErrAnd r (λ x. x ≡ e) → Fails f ts e → Reads f view ts r new
passed f view ts new r e is h = let p = err_from_is_err_and r is in rw (p.1, p.2) h

pub passed_kept : {X Y : Type 0} (f : Form) (keep : Y → X) (view : Y → Value) (ts new : List Token)
    (r : Result X Fault) (e : Fault) → IsErrAnd r (λ x. x ≡ e) → Fails f ts e → ReadsKept f keep view ts r new
passed_kept f keep view ts new r e is h = let p = err_from_is_err_and r is in rw (p.1, p.2) h

pub passed_term : (q : Rule) (ts new : List Token) (r : Result HeldTerm Fault) (e : Fault) → IsErrAnd r (λ x. x ≡ e)
    → Fails (rule q) ts e → ReadsTerm q ts r new
passed_term q = passed_kept (rule q) held term

pub passed_statement : (f : Form) (ts new : List Token) (r : Result HeldStatement Fault) (e : Fault)
    → IsErrAnd r (λ x. x ≡ e) → Fails f ts e → ReadsStatement f ts r new
passed_statement f = passed_kept f held_statement kind_value

pub passed_inside : (ts new : List Token) (r : Result HeldTerm Fault) (e : Fault) → IsErrAnd r (λ x. x ≡ e)
    → Fails (inside (rule Sum)) ts e → ReadsInside ts r new
passed_inside ts new r e is h = let p = err_from_is_err_and r is in rw (p.1, p.2) h

-- what is left is no longer than what there was
pub takes_less : (f : Form) (ts rest : List Token) (x : Value) → Takes f ts rest x → length rest ≤ length ts
takes_less f ts rest x p =
    let long = ap length p.cut ∙ length-append (spelled p.tree) rest in
    omega arith
