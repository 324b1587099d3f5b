use Rattle.std.proofs.Common.{◌≡◌, ◌≢◌, ℕ, refl}
use Rattle.alg_reader.specs.declared.raw.RawEquation.{RawEquation}
use Rattle.alg_reader.specs.declared.raw.RawKind.{RawKind}
use Rattle.alg_reader.specs.declared.raw.RawKind.TheVariants as raws
use Rattle.alg_reader.specs.declared.raw.RawMethod.{RawMethod}
use Rattle.alg_annotated.specs.declared.open_answer.Open.TheVariants as opens
use Rattle.alg_annotated.specs.Progress.{opened}
use Rattle.alg_annotated.proofs.open_answer.opened.Goals as goal

-- nothing is open behind another statement
nothing : (kind : RawKind) →
    ((e : RawEquation) (method : RawMethod) (method_at : ℕ) → kind ≢ raws.Goal e method method_at) →
    opens.Nothing ≡ opened kind
nothing (raws.Goal e method method_at) other = absurd (other e method method_at refl)
nothing kind other = refl

pub returns-in_default : goal.returns-in_default
returns-in_default c = nothing c.args.kind.now c.in_default.not-Goal
