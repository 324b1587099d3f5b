-- The limit of loaded files, as a number. The code has a constant of its own for it, and `laws::limits` says that it is
-- this number.
use Rattle.std.specs.Prelude.{ℕ}

-- the greatest number of goals of a loaded file
abbrev pub MAX_LOAD : ℕ
MAX_LOAD = 10000
