-- The plan of the demonstration netlists.
-- IEEE Std 1149.1-2001: test access port, instructions, device identification register, boundary-scan register;
-- the plan is own.
use Rattle.std.specs.Prelude.{ℕ, ◌+◌, ◌-◌, ◌^◌, List, [], ◌∷◌, ◌++◌, map, codes, Some, None}
use Rattle.std.specs.Fmt.{decimal}
use Rattle.cell_library.specs.declared.codes.BoundaryKind.{BoundaryKind}
use Rattle.cell_library.specs.declared.codes.BoundaryKind.TheVariants.{Bc1, Bc4}
use Rattle.cell_library.specs.declared.codes.Instr.{Instr}
use Rattle.cell_library.specs.declared.codes.Instr.TheVariants as instr
use Rattle.cell_library.specs.declared.codes.Opcode.{Opcode}
use Rattle.plan_texts.specs.declared.plan.TapLine.{TapLine}
use Rattle.plan_texts.specs.declared.plan.PinLine.{PinLine}
use Rattle.plan_texts.specs.declared.plan.Plan.{Plan}
use Rattle.demo_chips.specs.Netlists.{from_zero}

abbrev pub tap_line : List ℕ → List ℕ → TapLine
tap_line name pin = record { name = name; pin = pin }

abbrev pub pin_line : List ℕ → ℕ → BoundaryKind → PinLine
pin_line port pin cell = record { port = port; pin = decimal pin; cell = cell }

abbrev pub opcode_of : Instr → ℕ → Opcode
opcode_of named value = record { instr = named; bits = record { len = 4; value = value } }

abbrev pub opcodes : List Opcode
opcodes = opcode_of instr.Bypass 15 ∷ opcode_of instr.Extest 0 ∷ opcode_of instr.Sample 1 ∷ opcode_of instr.Preload 1
    ∷ opcode_of instr.Idcode 2 ∷ opcode_of instr.Highz 3 ∷ opcode_of instr.Clamp 4 ∷ []

-- a bit of a vector of 16, as its word
abbrev pub bit_word : List ℕ → ℕ → List ℕ
bit_word name index = name ++ (codes "[" ++ (decimal index ++ codes "]"))

-- the bits of a vector of 16 from the left, on pins from this one on
abbrev pub vector_line : List ℕ → ℕ → ℕ → PinLine
vector_line name first place = pin_line (bit_word name (15 - place)) (first + place) Bc1

abbrev pub pin_lines : List PinLine
pin_lines = pin_line (codes "clk") 1 Bc4 ∷ pin_line (codes "rn") 2 Bc4
    ∷ (map (vector_line (codes "d") 3) (from_zero 16) ++ map (vector_line (codes "q") 19) (from_zero 16))

abbrev pub demo_plan : Plan
demo_plan = record {
  version = 1;
  entity = codes "demo_chip";
  «package» = codes "PK";
  prefix = codes "bs_";
  tck = tap_line (codes "TCK") (codes "35");
  tms = tap_line (codes "TMS") (codes "36");
  tdi = tap_line (codes "TDI") (codes "37");
  tdo = tap_line (codes "TDO") (codes "38");
  trst = tap_line (codes "TRST") (codes "39");
  clock = codes "10";
  length = 4;
  capture = record { len = 4; value = 1 };
  opcodes = opcodes;
  idcode = Some (2 ^ 28 + 2 ^ 12 + 3);
  usercode = None;
  control = Bc1;
  pins = pin_lines;
  linkage = [];
}
