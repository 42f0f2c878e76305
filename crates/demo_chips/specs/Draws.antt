-- Numbers that look random, from a number that one can say again.
-- Own: a linear congruential generator, of whose states the high bits are drawn.
use Rattle.std.specs.Prelude.{ℕ, zero, suc, ◌+◌, ◌*◌, ◌/◌, ◌%◌, ◌^◌}

abbrev pub after : ℕ → ℕ
after s = (s * 6364136223846793005 + 1442695040888963407) % 2 ^ 64

abbrev pub drawn : ℕ → ℕ
drawn s = s / 2 ^ 33

-- the state after so many draws
abbrev pub state : ℕ → ℕ → ℕ
state first zero = first
state first (suc count) = after (state first count)

-- own: the number that is drawn after so many others
abbrev pub draw : ℕ → ℕ → ℕ
draw first before = drawn (state first (suc before))
