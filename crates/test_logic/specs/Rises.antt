-- Rising edges of TCK along a course of levels.
-- IEEE Std 1149.1-2001: test clock input, test mode select input.
use Rattle.std.specs.Prelude.{◌≡◌, ℕ, zero, suc, ◌<◌, ◌&&◌, not, Bool, true, if◌then◌else◌}
use Rattle.test_logic.specs.declared.Levels.{Levels}

abbrev pub is_rise : Levels → Levels → Bool
is_rise before after = not before.tck && after.tck

-- how often TCK has risen up to a moment
abbrev pub rises : (ℕ → Levels) → ℕ → ℕ
rises levels zero = 0
rises levels (suc t) = if is_rise (levels t) (levels (suc t)) then suc (rises levels t) else rises levels t

-- TMS was 1 before each rising edge up to a moment
abbrev pub RisesWithOnes : (ℕ → Levels) → ℕ → Type 0
RisesWithOnes levels count = (t : ℕ) → t < count → is_rise (levels t) (levels (suc t)) ≡ true → (levels t).tms ≡ true
