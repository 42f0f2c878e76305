-- Definitions by what they stand for.
use Rattle.std.proofs.Common.{◌≡◌, false, [], ◌∷◌, ◌++◌, map, length, refl}
use Rattle.std.specs.List.{enumerate_from, flat_map}
use Rattle.bsdl_device.specs.declared.values.Device.{Device}
use Rattle.std.proofs.lemmas.List.{length-map}
use Rattle.test_logic.specs.Machine.{Machine, test_logic_of}
use Rattle.scan_programs.specs.Scans.{moves, ident_scan, instruction_scans, all_clocks}
use Rattle.scan_programs.specs.Cells.{Core, captured_at, captured}
use Rattle.scan_programs.specs.Pins.{starts_of, starts, readers_of, readers}

pub captured_is : (B : Device) (m : Machine) (core : Core) → captured B m core ≡ map (captured_at B m core) (enumerate_from 0 B.cells)
unfolding captured
captured_is B m core = refl

pub starts_is : (B : Device) → starts B ≡ flat_map (starts_of B) (enumerate_from 0 B.ports)
unfolding starts
starts_is B = refl

pub readers_is : (B : Device) → readers B ≡ flat_map (readers_of B) (enumerate_from 0 B.ports)
unfolding readers
readers_is B = refl

pub all_clocks_is : (B : Device) → all_clocks B ≡ moves (false ∷ []) ++ (ident_scan B.idcode ++ flat_map (instruction_scans B) B.opcodes)
unfolding all_clocks
all_clocks_is B = refl

-- as many kinds as cells
pub length_kinds : (B : Device) → length (test_logic_of B).kinds ≡ length B.cells
length_kinds B = length-map B.cells (λ row. row.cell)
