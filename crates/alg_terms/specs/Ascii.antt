-- The bytes by which texts are told, by the names of their characters in ASCII.
use Rattle.std.specs.Prelude.{ℕ}

-- a tab, which is a blank
abbrev pub TAB : ℕ
TAB = 9

-- a line feed, which is a blank and ends a comment
abbrev pub LINE_FEED : ℕ
LINE_FEED = 10

-- a carriage return, which is a blank
abbrev pub CARRIAGE_RETURN : ℕ
CARRIAGE_RETURN = 13

-- a space, which is a blank
abbrev pub SPACE : ℕ
SPACE = 32

-- `#`, which begins a comment
abbrev pub NUMBER_SIGN : ℕ
NUMBER_SIGN = 35

-- `'`, which may go on with a name
abbrev pub APOSTROPHE : ℕ
APOSTROPHE = 39

-- `(`
abbrev pub PAREN_LEFT : ℕ
PAREN_LEFT = 40

-- `)`
abbrev pub PAREN_RIGHT : ℕ
PAREN_RIGHT = 41

-- `*`
abbrev pub ASTERISK : ℕ
ASTERISK = 42

-- `+`
abbrev pub PLUS : ℕ
PLUS = 43

-- `,`
abbrev pub COMMA : ℕ
COMMA = 44

-- `-`
abbrev pub HYPHEN : ℕ
HYPHEN = 45

-- `.`
abbrev pub FULL_STOP : ℕ
FULL_STOP = 46

-- `/`
abbrev pub SLASH : ℕ
SLASH = 47

-- `0`, behind which the other digits stand
abbrev pub DIGIT_0 : ℕ
DIGIT_0 = 48

-- `:`
abbrev pub COLON : ℕ
COLON = 58

-- `<`
abbrev pub LESS_THAN : ℕ
LESS_THAN = 60

-- `=`
abbrev pub EQUALS : ℕ
EQUALS = 61

-- `>`
abbrev pub GREATER_THAN : ℕ
GREATER_THAN = 62

-- `^`
abbrev pub CARET : ℕ
CARET = 94

-- `_`, which may begin a name
abbrev pub UNDERSCORE : ℕ
UNDERSCORE = 95
