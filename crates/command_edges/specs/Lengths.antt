-- How long a text may be that is read. Own.
use Rattle.std.specs.Prelude.{ℕ, ◌<◌, ◌≤◌, List, length}

-- the longest text that is read, in bytes
abbrev pub text_limit : ℕ
text_limit = 16777216

-- a text that isn't longer
abbrev pub IsShort : List ℕ → Type 0
IsShort bytes = length bytes ≤ text_limit

-- a text that is longer
abbrev pub IsLong : List ℕ → Type 0
IsLong bytes = text_limit < length bytes
