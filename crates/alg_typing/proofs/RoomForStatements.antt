-- Each member of a file takes a byte of its text at least, so that there is room for the next statement.
use Rattle.std.proofs.Common.{◌≡◌, ◌≢◌, ◌≤◌, ◌<◌, ◌+◌, ℕ, List, [], ◌∷◌, ◌++◌, length, length-append, le_refl, refl, sym, subst, arith}
use Rattle.std.proofs.lemmas.List.{length-map}
use Rattle.alg_terms.specs.declared.file.File.{File}
use Rattle.alg_terms.specs.Limits.{MEMBERS_END, MAX_TEXT}
use Rattle.alg_reader.specs.declared.place.Place.TheVariants.{Plain}
use Rattle.alg_reader.specs.declared.raw.RawKind.{RawKind}
use Rattle.alg_reader.specs.declared.raw.RawKind.TheVariants as raws
use Rattle.alg_reader.specs.declared.reading.Raw.{Raw}
use Rattle.alg_reader.specs.Places.{MayStand}
use Rattle.alg_reader.specs.WellRead.{IsWellRead, IsWellKind, members_in}
use Rattle.alg_typing.specs.Reading.{no_statements}
use Rattle.alg_typing.specs.Resolved.{extended}
use Rattle.alg_typing.specs.Room.{HasRoom, HasRoomIn}

-- each list of a file has at most so many members
pub record HasAtMost (file : File) (n : ℕ) : Type 0 where
  pub sorts : length file.sorts ≤ n
  pub homs : length file.homs ≤ n
  pub vars : length file.vars ≤ n
  pub hyps : length file.hyps ≤ n
  pub goals : length file.goals ≤ n
  pub order : length file.order ≤ n

pub none_at_first : HasAtMost no_statements 0
none_at_first = record {
  sorts = le_refl 0;
  homs = le_refl 0;
  vars = le_refl 0;
  hyps = le_refl 0;
  goals = le_refl 0;
  order = le_refl 0;
}

one_more : {A : Type 0} (xs : List A) (x : A) (at start stop : ℕ) → length xs ≤ at → at ≤ start → start + 1 ≤ stop →
    length (xs ++ x ∷ []) ≤ stop
one_more xs x at start stop most starts long =
    subst (λ n. n ≤ stop) (sym (length-append xs (x ∷ []))) (grind (arith))

some_more : {A : Type 0} (xs ys : List A) (at start stop m : ℕ) → length xs ≤ at → at ≤ start → length ys ≡ m →
    start + m ≤ stop → length (xs ++ ys) ≤ stop
some_more xs ys at start stop m most starts count long =
    subst (λ n. n ≤ stop) (sym (length-append xs ys)) (grind (arith))

no_more : (n at start stop m : ℕ) → n ≤ at → at ≤ start → start + m ≤ stop → n ≤ stop
no_more n at start stop m most starts long = omega arith

at_least_one : (text : List ℕ) (kind : RawKind) → IsWellKind text kind → kind ≢ raws.End → 1 ≤ members_in kind
at_least_one text raws.End well other = absurd (other refl)
at_least_one text (raws.Sort kind name char0) well other = grind (arith)
at_least_one text (raws.Hom name from to) well other = grind (arith)
at_least_one text (raws.Vars names sort) well other = well.0
at_least_one text (raws.Hyp name e) well other = grind (arith)
at_least_one text (raws.Goal e method place) well other = grind (arith)
at_least_one text (raws.Answer said) well other = grind (arith)
at_least_one text (raws.Line a m i b n j d) well other = grind (arith)
at_least_one text (raws.Step a b n j d) well other = grind (arith)

module _ (file : File) (text : List ℕ) (at start stop : ℕ) (few : HasAtMost file at) (starts : at ≤ start) where
  same : start + 1 ≤ stop → HasAtMost file stop
  same long = record {
    sorts = no_more _ at start stop 1 few.sorts starts long;
    homs = no_more _ at start stop 1 few.homs starts long;
    vars = no_more _ at start stop 1 few.vars starts long;
    hyps = no_more _ at start stop 1 few.hyps starts long;
    goals = no_more _ at start stop 1 few.goals starts long;
    order = no_more _ at start stop 1 few.order starts long;
  }

  grown : (kind : RawKind) → start + 1 ≤ stop → start + members_in kind ≤ stop →
      HasAtMost (extended file text kind) stop
  grown raws.End one long = same one
  grown (raws.Sort kind name char0) one long =
      let s = same one in
      record {
        sorts = one_more file.sorts _ at start stop few.sorts starts one;
        homs = s.homs;
        vars = s.vars;
        hyps = s.hyps;
        goals = s.goals;
        order = one_more file.order _ at start stop few.order starts one;
      }
  grown (raws.Hom name from to) one long =
      let s = same one in
      record {
        sorts = s.sorts;
        homs = one_more file.homs _ at start stop few.homs starts one;
        vars = s.vars;
        hyps = s.hyps;
        goals = s.goals;
        order = one_more file.order _ at start stop few.order starts one;
      }
  grown (raws.Vars names sort) one long =
      let s = same one in
      record {
        sorts = s.sorts;
        homs = s.homs;
        vars = some_more file.vars _ at start stop (length names) few.vars starts (length-map names _) long;
        hyps = s.hyps;
        goals = s.goals;
        order = one_more file.order _ at start stop few.order starts one;
      }
  grown (raws.Hyp name e) one long =
      let s = same one in
      record {
        sorts = s.sorts;
        homs = s.homs;
        vars = s.vars;
        hyps = one_more file.hyps _ at start stop few.hyps starts one;
        goals = s.goals;
        order = one_more file.order _ at start stop few.order starts one;
      }
  grown (raws.Goal e method place) one long =
      let s = same one in
      record {
        sorts = s.sorts;
        homs = s.homs;
        vars = s.vars;
        hyps = s.hyps;
        goals = one_more file.goals _ at start stop few.goals starts one;
        order = one_more file.order _ at start stop few.order starts one;
      }
  grown (raws.Answer said) one long = same one
  grown (raws.Line a m i b n j d) one long = same one
  grown (raws.Step a b n j d) one long = same one

fits : (n at start stop m size : ℕ) → n ≤ at → at ≤ start → start + m ≤ stop → stop ≤ size → size ≤ MAX_TEXT →
    n + m < MEMBERS_END
fits n at start stop m size most starts long inside least =
    let all : n + m ≤ MAX_TEXT = omega arith in grind (arith)

-- the list to which the statement adds has room
fits_in : (file : File) (kind : RawKind) (at start stop size : ℕ) → MayStand Plain kind → HasAtMost file at →
    at ≤ start →
    start + members_in kind ≤ stop → start + 1 ≤ stop → stop ≤ size → size ≤ MAX_TEXT → HasRoomIn file kind
fits_in file raws.End at start stop size may few starts long one inside least = tt
fits_in file (raws.Sort kind name char0) at start stop size may few starts long one inside least =
    fits _ at start stop 1 size few.sorts starts one inside least
fits_in file (raws.Hom name from to) at start stop size may few starts long one inside least =
    fits _ at start stop 1 size few.homs starts one inside least
fits_in file (raws.Vars names sort) at start stop size may few starts long one inside least =
    fits _ at start stop (length names) size few.vars starts long inside least
fits_in file (raws.Hyp name e) at start stop size may few starts long one inside least =
    fits _ at start stop 1 size few.hyps starts one inside least
fits_in file (raws.Goal e method place) at start stop size may few starts long one inside least =
    fits _ at start stop 1 size few.goals starts one inside least
fits_in file (raws.Answer said) at start stop size may few starts long one inside least = absurd may
fits_in file (raws.Line a m i b n j d) at start stop size may few starts long one inside least = absurd may
fits_in file (raws.Step a b n j d) at start stop size may few starts long one inside least = absurd may

module _ (file : File) (text : List ℕ) (at : ℕ) (raw : Raw) (few : HasAtMost file at) (well : IsWellRead text at raw)
    (goes : raw.kind ≢ raws.End) (size : length text ≤ MAX_TEXT) where
  longer : raw.start + 1 ≤ raw.stop
  longer =
      let least = at_least_one text raw.kind well.kind goes in
      let long = well.long goes in
      omega arith

  -- the file has room for the statement
  pub has_room : MayStand Plain raw.kind → HasRoom file raw.kind
  has_room may =
      let inside = well.stops.0 in
      let long = well.long goes in
      record {
        members = fits_in file raw.kind at raw.start raw.stop (length text) may few well.starts long longer inside size;
        order = fits _ at raw.start raw.stop 1 (length text) few.order well.starts longer inside size;
      }

  -- it has as many members as bytes were read, at most
  pub still_few : HasAtMost (extended file text raw.kind) raw.stop
  still_few = grown file text at raw.start raw.stop few well.starts raw.kind longer (well.long goes)

  -- reading went on
  pub goes_on : at < raw.stop
  goes_on = let l = longer in let s = well.starts in omega arith
