use Rattle.std.specs.Prelude.{ℕ, Bool, false, ◌||◌, ◌&&◌, ◌==◌, nat_le, List, [], ◌∷◌}
use Rattle.std.specs.List.{list_all}

-- Tests of one byte (IEEE Std 1364-2001, lexical conventions).

-- white space: space, tab, LF, CR and FF
abbrev pub is_blank : ℕ → Bool
is_blank b = b == 32 || b == 9 || b == 10 || b == 13 || b == 12

-- a letter or `_`
abbrev pub is_letter : ℕ → Bool
is_letter b = (nat_le 65 b && nat_le b 90) || (nat_le 97 b && nat_le b 122) || b == 95

abbrev pub is_digit : ℕ → Bool
is_digit b = nat_le 48 b && nat_le b 57

-- what goes on in a name: a letter, a digit, `_` or `$`
abbrev pub is_name_byte : ℕ → Bool
is_name_byte b = is_letter b || is_digit b || b == 36

-- what can't stand right after a number or a constant: these and `'`
abbrev pub clings : ℕ → Bool
clings b = is_name_byte b || b == 39

-- a byte of an escaped name: one that prints, and no blank
abbrev pub is_escaped_byte : ℕ → Bool
is_escaped_byte b = nat_le 33 b && nat_le b 126

-- the base of a constant: one of b B o O d D h H
abbrev pub is_base : ℕ → Bool
is_base b = b == 98 || b == 66 || b == 111 || b == 79 || b == 100 || b == 68 || b == 104 || b == 72

-- letters, digits, `_` and `$`, of which the first is a letter or `_`; of any length
abbrev pub is_simple_name : List ℕ → Bool
is_simple_name [] = false
is_simple_name (b ∷ bytes) = is_letter b && list_all is_name_byte (b ∷ bytes)
