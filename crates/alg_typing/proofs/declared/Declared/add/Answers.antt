use Rattle.alg_typing.proofs.declared.Declared.add.Goals as goal

pub add_read-added-requires-clause-size : goal.add_read-added-requires-clause-size
add_read-added-requires-clause-size c = c.requires.size

pub add_read-added-requires-clause-well_read : goal.add_read-added-requires-clause-well_read
add_read-added-requires-clause-well_read c = c.requires.well_read

pub add_read-added-requires-clause-room : goal.add_read-added-requires-clause-room
add_read-added-requires-clause-room c = c.requires.room

pub returns-clause-ok : goal.returns-clause-ok
returns-clause-ok c = c.add_read-added.ensures.ok

pub returns-clause-refused : goal.returns-clause-refused
returns-clause-refused c = c.add_read-added.ensures.refused

pub returns-clause-err : goal.returns-clause-err
returns-clause-err c = c.add_read-added.ensures.err
