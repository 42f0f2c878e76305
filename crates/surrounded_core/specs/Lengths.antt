-- The lists of the boundary register have a bit for each cell, at every moment.
-- IEEE Std 1149.1-2001: boundary-scan register.
use Rattle.std.specs.Prelude.{◌≡◌, ℕ, ◌<◌, ◌≤◌, List, length}
use Rattle.signal_values.specs.declared.Sig.{Sig}
use Rattle.test_logic.specs.declared.Levels.{Levels}
use Rattle.test_logic.specs.Machine.{TestLogic, Machine, IsHistory, reset, machine_step}

pub record AreLong (L : TestLogic) (m : Machine) : Type 0 where
  pub boundary : length m.boundary ≡ length L.kinds
  pub update : length m.update ≡ length L.kinds

-- own: so it is in reset, after each step, and all along a history, where the cells capture as many bits
pub record LengthsStay : Type 0 where
  pub in_reset : (L : TestLogic) → AreLong L (reset L)
  pub steps : (L : TestLogic) (before after : Levels) (captured : List Sig) (m : Machine) → length captured ≡ length L.kinds → AreLong L m
      → AreLong L (machine_step L before after captured m)
  pub along : (L : TestLogic) (levels : ℕ → Levels) (captured : ℕ → List Sig) (count : ℕ) (machine : ℕ → Machine) → IsHistory L levels captured count machine
      → ((t : ℕ) → t < count → length (captured t) ≡ length L.kinds) → (t : ℕ) → t ≤ count → AreLong L (machine t)
