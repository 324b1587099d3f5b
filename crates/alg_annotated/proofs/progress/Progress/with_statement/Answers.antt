use Rattle.std.proofs.Common.{inl, inr, subst, sym}
use Rattle.alg_annotated.specs.Parts.{IsLineOrStep}
use Rattle.alg_annotated.proofs.Progressing.{no_part}
use Rattle.alg_annotated.proofs.progress.Progress.with_statement.Goals as goal

-- an answer
pub with_answer-next-requires : goal.with_answer-next-requires
with_answer-next-requires c = record {
  well_read = c.requires.well_read.1.kind;
  may_stand = c.requires.may_stand;
  said = c.in-Answer.is;
  count = c.requires.count;
  table = c.requires.table;
}

pub returns-in-Answer-clause-ok : goal.returns-in-Answer-clause-ok
returns-in-Answer-clause-ok c = c.with_answer-next.ensures.ok

pub returns-in-Answer-clause-table : goal.returns-in-Answer-clause-table
returns-in-Answer-clause-table c = c.with_answer-next.ensures.table

pub returns-in-Answer-clause-refused : goal.returns-in-Answer-clause-refused
returns-in-Answer-clause-refused c = c.with_answer-next.ensures.refused

-- a line or a step
pub with_part-next-requires : goal.with_part-next-requires
with_part-next-requires c = record {
  well_read = c.requires.well_read.1.kind;
  may_stand = c.requires.may_stand;
  part = elim c.in-Line.is [
    | inl (a, m, i, b, n, j, d, is) ↦ subst IsLineOrStep (sym is) tt
    | inr (a, b, n, j, d, is) ↦ subst IsLineOrStep (sym is) tt
  ];
  count = c.requires.count;
  table = c.requires.table;
}

pub returns-in-Line-clause-ok : goal.returns-in-Line-clause-ok
returns-in-Line-clause-ok c = c.with_part-next.ensures.ok

pub returns-in-Line-clause-table : goal.returns-in-Line-clause-table
returns-in-Line-clause-table c = c.with_part-next.ensures.table

pub returns-in-Line-clause-refused : goal.returns-in-Line-clause-refused
returns-in-Line-clause-refused c = c.with_part-next.ensures.refused

-- a declaration or a goal
pub with_declaration-requires : goal.with_declaration-requires
with_declaration-requires c =
    let other = no_part c.args.raw.kind c.in_default.not-Answer c.in_default.not-Line c.in_default.not-Step in
    record {
      size = c.requires.size;
      well_read = c.requires.well_read;
      declared = other;
      room = c.requires.room other;
      count = c.requires.count;
      table = c.requires.table;
    }

pub returns-in_default-clause-ok : goal.returns-in_default-clause-ok
returns-in_default-clause-ok c = c.with_declaration.ensures.ok

pub returns-in_default-clause-table : goal.returns-in_default-clause-table
returns-in_default-clause-table c = c.with_declaration.ensures.table

pub returns-in_default-clause-refused : goal.returns-in_default-clause-refused
returns-in_default-clause-refused c = c.with_declaration.ensures.refused
