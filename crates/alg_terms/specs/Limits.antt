-- The limits of files, as numbers. The code has constants of its own for them, and `laws::limits` says that they are
-- these numbers.
use Rattle.std.specs.Prelude.{ℕ, ◌-◌, ◌^◌, ℤ, pos}

-- the greatest literal of a term
abbrev pub MAX_LITERAL : ℤ
MAX_LITERAL = pos (2 ^ 127 - 1)

-- the greatest exponent of a term
abbrev pub MAX_EXPONENT : ℕ
MAX_EXPONENT = 1000

-- the greatest depth of a term
abbrev pub MAX_DEPTH : ℕ
MAX_DEPTH = 1000

-- how many parentheses may be open at once in a statement
abbrev pub MAX_OPEN : ℕ
MAX_OPEN = 200

-- the least power of a goal by nsatz
abbrev pub MIN_POWER : ℕ
MIN_POWER = 1

-- the greatest power of a goal by nsatz
abbrev pub MAX_POWER : ℕ
MAX_POWER = 16

-- the power of a goal by nsatz where none is written
abbrev pub DEFAULT_POWER : ℕ
DEFAULT_POWER = 1

-- the least limit on the counted moves of a goal by nsatz
abbrev pub MIN_LIMIT : ℕ
MIN_LIMIT = 0

-- the greatest limit on the counted moves of a goal by nsatz
abbrev pub MAX_LIMIT : ℕ
MAX_LIMIT = 1000000

-- the limit on the counted moves of a goal by nsatz where none is written
abbrev pub DEFAULT_LIMIT : ℕ
DEFAULT_LIMIT = 10000

-- the greatest number of uses of a goal
abbrev pub MAX_USES : ℕ
MAX_USES = 2 ^ 30 - 1

-- each list of a file has fewer members than this: their numbers are of 32 bits
abbrev pub MEMBERS_END : ℕ
MEMBERS_END = 2 ^ 32

-- the greatest number of bytes of a text that is read
abbrev pub MAX_TEXT : ℕ
MAX_TEXT = 16777216
