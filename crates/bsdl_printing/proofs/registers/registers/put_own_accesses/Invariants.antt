use Rattle.std.proofs.Common.{◌≡◌, ◌++◌, take}
use Rattle.std.specs.List.{flat_map}
use Rattle.bsdl_device.specs.RegistersCanonical as text_of
use Rattle.bsdl_printing.proofs.registers.registers.put_own_accesses.Given as goal

abbrev pub invariant-loop-register : goal.invariant-loop-register
invariant-loop-register l = l.text ≡ l.fn.text ++ flat_map text_of.own_access_text (take l.register-index l.registers)
