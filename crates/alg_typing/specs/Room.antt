-- When a file has room for one more statement.
use Rattle.std.specs.Prelude.{◌<◌, ◌+◌, length}
use Rattle.alg_terms.specs.declared.file.File.{File}
use Rattle.alg_terms.specs.Limits.{MEMBERS_END}
use Rattle.alg_reader.specs.declared.raw.RawKind.{RawKind}
use Rattle.alg_reader.specs.declared.raw.RawKind.TheVariants as raws

-- the list to which a statement adds has few enough members with it; an answer, a line and a step add to none, and are
-- not added
abbrev pub HasRoomIn : File → RawKind → Type 0
HasRoomIn file raws.End = Unit {0}
HasRoomIn file (raws.Sort kind name char0) = length file.sorts + 1 < MEMBERS_END
HasRoomIn file (raws.Hom name from to) = length file.homs + 1 < MEMBERS_END
HasRoomIn file (raws.Vars names sort) = length file.vars + length names < MEMBERS_END
HasRoomIn file (raws.Hyp name e) = length file.hyps + 1 < MEMBERS_END
HasRoomIn file (raws.Goal e method method_at) = length file.goals + 1 < MEMBERS_END
HasRoomIn file _ = ⊥

-- and so have the statements
pub record HasRoom (file : File) (kind : RawKind) : Type 0 where
  pub members : HasRoomIn file kind
  pub order : length file.order + 1 < MEMBERS_END
