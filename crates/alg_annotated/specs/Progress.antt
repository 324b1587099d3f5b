-- What the reader holds between two statements.
use Rattle.std.specs.Prelude.{◌≡◌, List, [], ◌∷◌, ◌++◌, Option, None, Some, unwrap_or}
use Rattle.alg_lines.specs.declared.answer.Answer.{Answer}
use Rattle.alg_terms.specs.declared.file.File.{File}
use Rattle.alg_reader.specs.declared.place.Place.{Place}
use Rattle.alg_reader.specs.declared.place.Place.TheVariants.{Start, AfterGoal}
use Rattle.alg_reader.specs.declared.raw.RawKind.{RawKind}
use Rattle.alg_reader.specs.declared.raw.RawKind.TheVariants as raws
use Rattle.alg_reify.specs.Table.{goal_atoms}
use Rattle.alg_annotated.specs.declared.open_answer.Open.{Open}
use Rattle.alg_annotated.specs.declared.open_answer.Open.TheVariants as opens
use Rattle.alg_annotated.specs.declared.progress.Progress.{Progress}
use Rattle.alg_annotated.specs.Reading.{SoFar}
use Rattle.alg_annotated.specs.Rules.{last_goal}

-- the answer to the last goal, where that is open
abbrev pub answers_open : Open → List (Option Answer)
answers_open opens.Nothing = []
answers_open opens.Goal = None ∷ []
answers_open (opens.Answer answered) = Some answered.answer ∷ []

-- what is open behind a declaration or a goal
abbrev pub opened : RawKind → Open
opened (raws.Goal e method method_at) = opens.Goal
opened kind = opens.Nothing

-- the place of the next statement
abbrev pub place_of : Open → Place
place_of opens.Nothing = Start
place_of opens.Goal = AfterGoal
place_of (opens.Answer answered) = answered.place

-- what is held, as what the text is so far
abbrev pub so_far : Progress → SoFar
so_far now = record {
  file = now.declared;
  answers = now.answers.items ++ answers_open now.last;
  place = place_of now.last;
}

-- the atoms beside an open answer are those of the last goal
abbrev pub HasTable : File → Open → Type 0
HasTable file opens.Nothing = Unit {0}
HasTable file opens.Goal = Unit {0}
HasTable file (opens.Answer answered) = unwrap_or answered.atoms [] ≡ goal_atoms file (last_goal file)
