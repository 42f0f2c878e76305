-- The counter: its file, what its strings hold, and its device.
use Rattle.std.proofs.Common.{◌≡◌, List, [], ◌∷◌, Some, None, false, refl}
use Rattle.std.specs.Prelude.{codes}
use Rattle.cell_library.specs.declared.codes.Opcode.{Opcode}
use Rattle.cell_library.specs.declared.codes.Instr.TheVariants as instr
use Rattle.cell_library.specs.declared.codes.BoundaryKind.TheVariants as cell
use Rattle.cell_library.specs.declared.codes.Function.TheVariants as function
use Rattle.bsdl_device.specs.declared.values.PortMode.TheVariants as mode
use Rattle.bsdl_device.specs.declared.values.Safe.TheVariants as safe
use Rattle.bsdl_device.specs.declared.values.Stop.TheVariants as stop
use Rattle.bsdl_device.specs.declared.values.Device.{Device}
use Rattle.bsdl_device.specs.declared.values.DevPort.{DevPort}
use Rattle.bsdl_device.specs.declared.values.CellRow.{CellRow}
use Rattle.bsdl_device.specs.declared.written.File.{File}
use Rattle.bsdl_device.specs.declared.written.PortDeclaration.{PortDeclaration}
use Rattle.bsdl_device.specs.declared.written.Direction.TheVariants as direction
use Rattle.bsdl_device.specs.declared.entries.Contents.{Contents}
use Rattle.bsdl_device.specs.declared.entries.PinEntry.{PinEntry}
use Rattle.bsdl_device.specs.declared.entries.MappedPins.TheVariants as pins
use Rattle.bsdl_device.specs.declared.entries.OpcodeEntry.{OpcodeEntry}
use Rattle.bsdl_device.specs.declared.entries.AccessEntry.{AccessEntry}
use Rattle.bsdl_device.specs.declared.entries.Register.TheVariants as register
use Rattle.bsdl_device.specs.declared.entries.RowEntry.{RowEntry}
use Rattle.bsdl_lexicon.specs.Reserved.{is_reserved}
use Rattle.bsdl_device.specs.Shape.{section_word}
use Rattle.bsdl_device.specs.Spelled.{HasContents}
use Rattle.bsdl_device.specs.Meanings.{first_meaning_fault}
use Rattle.bsdl_device.specs.Denoted.{device_of}

abbrev declarations : List PortDeclaration
declarations = (record { names = codes "clk" ∷ []; mode = mode.Input; range = None } ∷ record { names = codes "rn" ∷ []; mode = mode.Input; range = None } ∷ record { names = codes "en" ∷ []; mode = mode.Input; range = None } ∷ record { names = codes "oe" ∷ []; mode = mode.Input; range = None } ∷ record { names = codes "q" ∷ []; mode = mode.Output; range = (Some (record { left = 7; direction = direction.Downto; right = 0 })) } ∷ record { names = codes "TCK" ∷ []; mode = mode.Input; range = None } ∷ record { names = codes "TMS" ∷ []; mode = mode.Input; range = None } ∷ record { names = codes "TDI" ∷ []; mode = mode.Input; range = None } ∷ record { names = codes "TDO" ∷ []; mode = mode.Output; range = None } ∷ record { names = codes "TRST" ∷ []; mode = mode.Input; range = None } ∷ record { names = codes "VDD" ∷ []; mode = mode.Linkage; range = None } ∷ record { names = codes "GND" ∷ []; mode = mode.Linkage; range = None } ∷ [])

abbrev file : File
file = record {
  entity = codes "counter8";
  default_package = codes "dip24";
  declarations = declarations;
  conformance_entity = codes "COUNTER8";
  pin_map_entity = codes "counter8";
  «package» = codes "DIP24";
  pin_map = (codes "clk:1," ∷ codes "rn:2," ∷ codes "en:3," ∷ codes "oe:4," ∷ codes "q:(5,6,7,8,9,10,11,12)," ∷ codes "TCK:13," ∷ codes "TMS:14," ∷ codes "TDI:15," ∷ codes "TDO:16," ∷ codes "TRST:17," ∷ codes "VDD:18," ∷ codes "GND:19" ∷ []);
  tap = record { tdi = codes "tdi"; tms = codes "TMS"; tdo = codes "TDO"; trst = codes "TRST"; tck = codes "TCK" };
  clock = codes "10.0e6";
  stop = stop.Both;
  length = record { entity = codes "counter8"; value = 4 };
  opcodes = record { entity = codes "counter8"; strings = (codes "BYPASS (1111)," ∷ codes "EXTEST (0000)," ∷ codes "SAMPLE (0001)," ∷ codes "PRELOAD (0001)," ∷ codes "IDCODE (0010)," ∷ codes "HIGHZ (0011)," ∷ codes "CLAMP (0100)" ∷ []) };
  capture = record { entity = codes "counter8"; strings = (codes "0001" ∷ []) };
  idcode = Some (record { entity = codes "counter8"; strings = (codes "0001" ∷ codes "0000000000000001" ∷ codes "00000000001" ∷ codes "1" ∷ []) });
  usercode = None;
  access = record { entity = codes "counter8"; strings = (codes "BOUNDARY (EXTEST, SAMPLE, PRELOAD)," ∷ codes "BYPASS (BYPASS, HIGHZ, CLAMP)," ∷ codes "DEVICE_ID (IDCODE)" ∷ []) };
  boundary_length = record { entity = codes "counter8"; value = 13 };
  boundary = record { entity = codes "counter8"; strings = (codes "0 (BC_4, clk, clock, X)," ∷ codes "1 (BC_4, rn, input, X)," ∷ codes "2 (BC_1, en, input, X)," ∷ codes "3 (BC_1, oe, input, X)," ∷ codes "4 (BC_1, q(7), output3, X, 5, 0, Z)," ∷ codes "5 (BC_1, *, control, 0)," ∷ codes "6 (BC_1, q(6), output3, X, 5, 0, Z)," ∷ codes "7 (BC_1, q(5), output3, X, 5, 0, Z)," ∷ codes "8 (BC_1, q(4), output3, X, 5, 0, Z)," ∷ codes "9 (BC_1, q(3), output3, X, 5, 0, Z)," ∷ codes "10 (BC_1, q(2), output3, X, 5, 0, Z)," ∷ codes "11 (BC_1, q(1), output3, X, 5, 0, Z)," ∷ codes "12 (BC_1, q(0), output3, X, 5, 0, Z)" ∷ []) };
  end = codes "counter8";
}

abbrev pin_map : List PinEntry
pin_map = (record { port = codes "clk"; pins = pins.One (codes "1") } ∷ record { port = codes "rn"; pins = pins.One (codes "2") } ∷ record { port = codes "en"; pins = pins.One (codes "3") } ∷ record { port = codes "oe"; pins = pins.One (codes "4") } ∷ record { port = codes "q"; pins = pins.Several (codes "5" ∷ codes "6" ∷ codes "7" ∷ codes "8" ∷ codes "9" ∷ codes "10" ∷ codes "11" ∷ codes "12" ∷ []) } ∷ record { port = codes "TCK"; pins = pins.One (codes "13") } ∷ record { port = codes "TMS"; pins = pins.One (codes "14") } ∷ record { port = codes "TDI"; pins = pins.One (codes "15") } ∷ record { port = codes "TDO"; pins = pins.One (codes "16") } ∷ record { port = codes "TRST"; pins = pins.One (codes "17") } ∷ record { port = codes "VDD"; pins = pins.One (codes "18") } ∷ record { port = codes "GND"; pins = pins.One (codes "19") } ∷ [])

abbrev opcodes : List OpcodeEntry
opcodes = (record { name = codes "BYPASS"; bits = record { len = 4; value = 15 } } ∷ record { name = codes "EXTEST"; bits = record { len = 4; value = 0 } } ∷ record { name = codes "SAMPLE"; bits = record { len = 4; value = 1 } } ∷ record { name = codes "PRELOAD"; bits = record { len = 4; value = 1 } } ∷ record { name = codes "IDCODE"; bits = record { len = 4; value = 2 } } ∷ record { name = codes "HIGHZ"; bits = record { len = 4; value = 3 } } ∷ record { name = codes "CLAMP"; bits = record { len = 4; value = 4 } } ∷ [])

abbrev access : List AccessEntry
access = (record { register = register.Boundary; instructions = (codes "EXTEST" ∷ codes "SAMPLE" ∷ codes "PRELOAD" ∷ []) } ∷ record { register = register.Bypass; instructions = (codes "BYPASS" ∷ codes "HIGHZ" ∷ codes "CLAMP" ∷ []) } ∷ record { register = register.DeviceId; instructions = (codes "IDCODE" ∷ []) } ∷ [])

abbrev rows : List RowEntry
rows = (record { number = 0; cell = cell.Bc4; port = Some (record { port = codes "clk"; index = None }); function = function.Clock; safe = safe.Any; disable = None } ∷ record { number = 1; cell = cell.Bc4; port = Some (record { port = codes "rn"; index = None }); function = function.Input; safe = safe.Any; disable = None } ∷ record { number = 2; cell = cell.Bc1; port = Some (record { port = codes "en"; index = None }); function = function.Input; safe = safe.Any; disable = None } ∷ record { number = 3; cell = cell.Bc1; port = Some (record { port = codes "oe"; index = None }); function = function.Input; safe = safe.Any; disable = None } ∷ record { number = 4; cell = cell.Bc1; port = Some (record { port = codes "q"; index = Some 7 }); function = function.Output3; safe = safe.Any; disable = Some (record { control = 5; value = false }) } ∷ record { number = 5; cell = cell.Bc1; port = None; function = function.Control; safe = safe.Zero; disable = None } ∷ record { number = 6; cell = cell.Bc1; port = Some (record { port = codes "q"; index = Some 6 }); function = function.Output3; safe = safe.Any; disable = Some (record { control = 5; value = false }) } ∷ record { number = 7; cell = cell.Bc1; port = Some (record { port = codes "q"; index = Some 5 }); function = function.Output3; safe = safe.Any; disable = Some (record { control = 5; value = false }) } ∷ record { number = 8; cell = cell.Bc1; port = Some (record { port = codes "q"; index = Some 4 }); function = function.Output3; safe = safe.Any; disable = Some (record { control = 5; value = false }) } ∷ record { number = 9; cell = cell.Bc1; port = Some (record { port = codes "q"; index = Some 3 }); function = function.Output3; safe = safe.Any; disable = Some (record { control = 5; value = false }) } ∷ record { number = 10; cell = cell.Bc1; port = Some (record { port = codes "q"; index = Some 2 }); function = function.Output3; safe = safe.Any; disable = Some (record { control = 5; value = false }) } ∷ record { number = 11; cell = cell.Bc1; port = Some (record { port = codes "q"; index = Some 1 }); function = function.Output3; safe = safe.Any; disable = Some (record { control = 5; value = false }) } ∷ record { number = 12; cell = cell.Bc1; port = Some (record { port = codes "q"; index = Some 0 }); function = function.Output3; safe = safe.Any; disable = Some (record { control = 5; value = false }) } ∷ [])

abbrev contents : Contents
contents = record {
  pin_map = pin_map;
  opcodes = opcodes;
  capture = record { len = 4; value = 1 };
  idcode = Some 268439555;
  usercode = None;
  access = access;
  rows = rows;
}

abbrev device_ports : List DevPort
device_ports = (record { name = codes "clk"; mode = mode.Input; range = None; pins = (codes "1" ∷ []) } ∷ record { name = codes "rn"; mode = mode.Input; range = None; pins = (codes "2" ∷ []) } ∷ record { name = codes "en"; mode = mode.Input; range = None; pins = (codes "3" ∷ []) } ∷ record { name = codes "oe"; mode = mode.Input; range = None; pins = (codes "4" ∷ []) } ∷ record { name = codes "q"; mode = mode.Output; range = (Some (record { left = 7; right = 0 })); pins = (codes "5" ∷ codes "6" ∷ codes "7" ∷ codes "8" ∷ codes "9" ∷ codes "10" ∷ codes "11" ∷ codes "12" ∷ []) } ∷ record { name = codes "TCK"; mode = mode.Input; range = None; pins = (codes "13" ∷ []) } ∷ record { name = codes "TMS"; mode = mode.Input; range = None; pins = (codes "14" ∷ []) } ∷ record { name = codes "TDI"; mode = mode.Input; range = None; pins = (codes "15" ∷ []) } ∷ record { name = codes "TDO"; mode = mode.Output; range = None; pins = (codes "16" ∷ []) } ∷ record { name = codes "TRST"; mode = mode.Input; range = None; pins = (codes "17" ∷ []) } ∷ record { name = codes "VDD"; mode = mode.Linkage; range = None; pins = (codes "18" ∷ []) } ∷ record { name = codes "GND"; mode = mode.Linkage; range = None; pins = (codes "19" ∷ []) } ∷ [])

abbrev device_opcodes : List Opcode
device_opcodes = (record { instr = instr.Bypass; bits = record { len = 4; value = 15 } } ∷ record { instr = instr.Extest; bits = record { len = 4; value = 0 } } ∷ record { instr = instr.Sample; bits = record { len = 4; value = 1 } } ∷ record { instr = instr.Preload; bits = record { len = 4; value = 1 } } ∷ record { instr = instr.Idcode; bits = record { len = 4; value = 2 } } ∷ record { instr = instr.Highz; bits = record { len = 4; value = 3 } } ∷ record { instr = instr.Clamp; bits = record { len = 4; value = 4 } } ∷ [])

abbrev device_cells : List CellRow
device_cells = (record { cell = cell.Bc4; pin = Some (record { port = 0; index = None }); function = function.Clock; safe = safe.Any; disable = None } ∷ record { cell = cell.Bc4; pin = Some (record { port = 1; index = None }); function = function.Input; safe = safe.Any; disable = None } ∷ record { cell = cell.Bc1; pin = Some (record { port = 2; index = None }); function = function.Input; safe = safe.Any; disable = None } ∷ record { cell = cell.Bc1; pin = Some (record { port = 3; index = None }); function = function.Input; safe = safe.Any; disable = None } ∷ record { cell = cell.Bc1; pin = Some (record { port = 4; index = Some 7 }); function = function.Output3; safe = safe.Any; disable = Some (record { control = 5; value = false }) } ∷ record { cell = cell.Bc1; pin = None; function = function.Control; safe = safe.Zero; disable = None } ∷ record { cell = cell.Bc1; pin = Some (record { port = 4; index = Some 6 }); function = function.Output3; safe = safe.Any; disable = Some (record { control = 5; value = false }) } ∷ record { cell = cell.Bc1; pin = Some (record { port = 4; index = Some 5 }); function = function.Output3; safe = safe.Any; disable = Some (record { control = 5; value = false }) } ∷ record { cell = cell.Bc1; pin = Some (record { port = 4; index = Some 4 }); function = function.Output3; safe = safe.Any; disable = Some (record { control = 5; value = false }) } ∷ record { cell = cell.Bc1; pin = Some (record { port = 4; index = Some 3 }); function = function.Output3; safe = safe.Any; disable = Some (record { control = 5; value = false }) } ∷ record { cell = cell.Bc1; pin = Some (record { port = 4; index = Some 2 }); function = function.Output3; safe = safe.Any; disable = Some (record { control = 5; value = false }) } ∷ record { cell = cell.Bc1; pin = Some (record { port = 4; index = Some 1 }); function = function.Output3; safe = safe.Any; disable = Some (record { control = 5; value = false }) } ∷ record { cell = cell.Bc1; pin = Some (record { port = 4; index = Some 0 }); function = function.Output3; safe = safe.Any; disable = Some (record { control = 5; value = false }) } ∷ [])

abbrev device : Device
device = record {
  entity = codes "counter8";
  «package» = codes "DIP24";
  ports = device_ports;
  tck = 5;
  tms = 6;
  tdi = 7;
  tdo = 8;
  trst = 9;
  clock = codes "10.0e6";
  stop = stop.Both;
  length = 4;
  opcodes = device_opcodes;
  capture = record { len = 4; value = 1 };
  idcode = Some 268439555;
  usercode = None;
  cells = device_cells;
}

pub means : first_meaning_fault file contents ≡ None
means = refl

pub describes : device_of file contents ≡ device
describes = refl

pub boundary_length_word : section_word file 15 ≡ 248
boundary_length_word = refl

pub holds : HasContents file contents
unfolding is_reserved
holds = record {
  pin_map = record { is = record { filled = refl; pins = refl }; hold = (refl, (refl, (refl, (refl, (refl, (refl, (refl, (refl, (refl, (refl, (refl, (refl, (refl, (refl, (refl, (refl, (refl, (refl, (refl, (refl, (refl, (refl, (refl, (refl, (refl, (refl, (refl, (refl, (refl, (refl, (refl, (refl, (refl, (refl, (refl, (refl, (refl, (refl, (refl, (refl, (refl, (refl, (refl, (refl, (refl, (refl, (refl, (refl, (refl, (refl, (refl, (refl, (refl, (refl, (refl, (refl, (refl, (refl, (refl, (refl, (refl, (refl, (refl, tt))))))))))))))))))))))))))))))))))))))))))))))))))))))))))))))) };
  opcodes = record { filled = refl; hold = (refl, (refl, (refl, (refl, (refl, (refl, (refl, (refl, (refl, (refl, (refl, (refl, (refl, (refl, (refl, (refl, (refl, (refl, (refl, (refl, (refl, (refl, (refl, (refl, (refl, (refl, (refl, (refl, (refl, (refl, (refl, (refl, (refl, (refl, tt)))))))))))))))))))))))))))))))))) };
  capture = (refl, tt);
  idcode = (refl, tt);
  usercode = tt;
  access = record { is = record { filled = refl; instructions = refl }; hold = (refl, (refl, (refl, (refl, (refl, (refl, (refl, (refl, (refl, (refl, (refl, (refl, (refl, (refl, (refl, (refl, (refl, (refl, (refl, (refl, (refl, (refl, tt)))))))))))))))))))))) };
  rows = record { filled = refl; hold = (refl, (refl, (refl, (refl, (refl, (refl, (refl, (refl, (refl, (refl, (refl, (refl, (refl, (refl, (refl, (refl, (refl, (refl, (refl, (refl, (refl, (refl, (refl, (refl, (refl, (refl, (refl, (refl, (refl, (refl, (refl, (refl, (refl, (refl, (refl, (refl, (refl, (refl, (refl, (refl, (refl, (refl, (refl, (refl, (refl, (refl, (refl, (refl, (refl, (refl, (refl, (refl, (refl, (refl, (refl, (refl, (refl, (refl, (refl, (refl, (refl, (refl, (refl, (refl, (refl, (refl, (refl, (refl, (refl, (refl, (refl, (refl, (refl, (refl, (refl, (refl, (refl, (refl, (refl, (refl, (refl, (refl, (refl, (refl, (refl, (refl, (refl, (refl, (refl, (refl, (refl, (refl, (refl, (refl, (refl, (refl, (refl, (refl, (refl, (refl, (refl, (refl, (refl, (refl, (refl, (refl, (refl, (refl, (refl, (refl, (refl, (refl, (refl, (refl, (refl, (refl, (refl, (refl, (refl, (refl, (refl, (refl, (refl, (refl, (refl, (refl, (refl, (refl, (refl, (refl, (refl, (refl, (refl, (refl, (refl, (refl, (refl, (refl, (refl, (refl, (refl, (refl, (refl, (refl, (refl, (refl, (refl, (refl, (refl, (refl, (refl, (refl, (refl, (refl, (refl, (refl, (refl, (refl, (refl, (refl, (refl, (refl, (refl, (refl, (refl, (refl, (refl, (refl, (refl, (refl, (refl, (refl, (refl, (refl, (refl, (refl, (refl, (refl, (refl, (refl, (refl, (refl, (refl, (refl, (refl, (refl, (refl, (refl, (refl, (refl, (refl, (refl, (refl, (refl, (refl, (refl, (refl, (refl, (refl, (refl, (refl, (refl, (refl, (refl, (refl, (refl, (refl, (refl, (refl, (refl, (refl, (refl, (refl, (refl, tt)))))))))))))))))))))))))))))))))))))))))))))))))))))))))))))))))))))))))))))))))))))))))))))))))))))))))))))))))))))))))))))))))))))))))))))))))))))))))))))))))))))))))))))))))))))))))))))))))))))))))))))))))))))) };
}
