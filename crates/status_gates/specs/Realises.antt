-- A netlist that behaves as another one wrapped in a device that has data registers of the design's own besides, from
-- reset, and from whatever its test logic and the registers hold.
-- IEEE Std 1149.1-2001: test data registers (design-specific); the statement is own.
use Rattle.std.specs.Prelude.{ℕ, List, [], ◌∷◌, map, length}
use Rattle.signal_values.specs.declared.Sig.{Sig}
use Rattle.signal_values.specs.declared.PinSig.{PinSig}
use Rattle.netlist_model.specs.Lists.{NetlistView}
use Rattle.bsdl_device.specs.declared.values.Device.{Device}
use Rattle.wrapped_chip.specs.ChipRuns.{ChipMoment}
use Rattle.wrapped_chip.specs.Realises.{RealisesBy}
use Rattle.wrapped_chip.specs.Home.{FindsHomeBy, AloneFromHomeBy}
use Rattle.status_gates.specs.Extended.{HeldRegister, tdo_from, tdo_at}
use Rattle.status_fitting.specs.declared.fitted.FittedRegister.{FittedRegister}
use Rattle.status_gates.specs.PartsLaws.{status_of}

-- TDO at each moment of a run of the chip, where these registers stand beside the base device's
abbrev pub status_tdo : List FittedRegister → Device → (ℕ → ChipMoment) → ℕ → PinSig
status_tdo registers B chip t = tdo_at (map status_of registers) B chip t

-- each output and inout bit of M reads as that of N wrapped in the base device, TDO as the test logic with these
-- registers, and M's first flip-flops hold what the core's hold
abbrev pub RealisesStatus : NetlistView → Device → NetlistView → List FittedRegister → Type 0
RealisesStatus M B N registers = RealisesBy M B N (status_tdo registers B)

-- From home.

-- the registers with what each of them holds
abbrev pub with_contents : List FittedRegister → List (List Sig) → List HeldRegister
with_contents [] held = []
with_contents (r ∷ rs) [] = []
with_contents (r ∷ rs) (xs ∷ held) = record { register = status_of r; held = xs } ∷ with_contents rs held

-- TDO at each moment of a run of the chip from home
abbrev pub status_home_tdo : List FittedRegister → Device → List (List Sig) → (ℕ → ChipMoment) → ℕ → PinSig
status_home_tdo registers B held chip t = tdo_from (with_contents registers held) B chip t

-- how many bits each has
abbrev pub register_lengths : List FittedRegister → List ℕ
register_lengths registers = map (λ (r : FittedRegister). length r.nets) registers

-- M finds home as without registers, and from there on TDO reads as the test logic with these registers, each from as
-- many bits as it has, whatever they are
abbrev pub FindsHomeWithRegisters : NetlistView → Device → NetlistView → List FittedRegister → Type 0
FindsHomeWithRegisters M B N registers = FindsHomeBy M B N (register_lengths registers) (status_home_tdo registers B)

-- and from there on it reads as N alone while a transparent instruction is in effect
abbrev pub AloneFromHomeWithRegisters : NetlistView → Device → NetlistView → List FittedRegister → Type 0
AloneFromHomeWithRegisters M B N registers = AloneFromHomeBy M B N (register_lengths registers) (status_home_tdo registers B)
