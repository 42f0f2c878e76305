-- Small modules with their plans: their boundary cells, and what a plan of theirs is refused for.
-- IEEE Std 1149.1-2001: boundary-scan register, the annex on BSDL; the modules are own.
use Rattle.std.specs.Prelude.{◌≡◌, ℕ, Bool, true, false, List, [], ◌∷◌, ◌++◌, codes, length, Option, Some, None}
use Rattle.cell_library.specs.declared.Kind.{Kind}
use Rattle.cell_library.specs.declared.Kind.TheVariants.{And, Not, Buf, Bufif0, Bufif1, Flop}
use Rattle.cell_library.specs.declared.Edge.TheVariants.{Rise}
use Rattle.cell_library.specs.declared.ResetTo.TheVariants.{Nothing}
use Rattle.cell_library.specs.declared.codes.BoundaryKind.{BoundaryKind}
use Rattle.cell_library.specs.declared.codes.BoundaryKind.TheVariants.{Bc1, Bc4, Bc7}
use Rattle.cell_library.specs.declared.codes.Function.{Function}
use Rattle.cell_library.specs.declared.codes.Function.TheVariants as function
use Rattle.cell_library.specs.declared.codes.Instr.{Instr}
use Rattle.cell_library.specs.declared.codes.Instr.TheVariants.{Extest, Sample, Preload, Bypass, Highz}
use Rattle.cell_library.specs.declared.codes.Opcode.{Opcode}
use Rattle.netlist_model.specs.declared.Dir.{Dir}
use Rattle.netlist_model.specs.declared.Dir.TheVariants.{Input, Output, Inout}
use Rattle.netlist_model.specs.declared.Feed.{Feed}
use Rattle.netlist_model.specs.declared.Feed.TheVariants.{Net, Const}
use Rattle.netlist_model.specs.declared.Name.TheVariants.{Original}
use Rattle.netlist_model.specs.Lists.{PortView, NetView, CellView, NetlistView}
use Rattle.netlist_model.specs.Settled.{driver_of}
use Rattle.link_model.specs.Denoted.{net_id}
use Rattle.netlist_unlink.specs.netlist_link.Linked.{LinkedView}
use Rattle.netlist_unlink.specs.netlist_link.PinWords.{pin_at}
use Rattle.bsdl_device.specs.declared.values.Safe.{Safe}
use Rattle.bsdl_device.specs.declared.values.Safe.TheVariants as safe
use Rattle.bsdl_device.specs.declared.values.Disable.{Disable}
use Rattle.bsdl_device.specs.declared.values.CellRow.{CellRow}
use Rattle.plan_texts.specs.declared.plan.Plan.{Plan}
use Rattle.plan_texts.specs.declared.plan.TapLine.{TapLine}
use Rattle.plan_texts.specs.declared.plan.PinLine.{PinLine}
use Rattle.plan_fitting.specs.declared.fault.FitFault.TheVariants as fault
use Rattle.plan_fitting.specs.declared.fitted.FitRow.{FitRow}
use Rattle.plan_fitting.specs.Pins.{PinSeen}
use Rattle.plan_fitting.specs.Rows.{rows}
use Rattle.plan_fitting.specs.Fits.{IsFault}
use Rattle.plan_fitting.specs.Devices.{device_of, fitted_of, IsFitted}

-- Netlists.

abbrev pub scalar : ℕ → Dir → PortView
scalar number d = record { name = Original number; dir = d; range = None; nets = net_id number ∷ [] }

abbrev pub net_named : ℕ → NetView
net_named number = record { name = Original number; index = None }

abbrev pub of_net : ℕ → Feed
of_net number = Net (net_id number)

-- a cell without a name
abbrev pub gate : Kind → ℕ → List Feed → Option CellView
gate kind output feeds = Some (record { kind = kind; name = None; feeds = feeds; output = Some (net_id output) })

abbrev pub linked : List (List ℕ) → NetlistView → LinkedView
linked names N = record {
  arena = record { lists = N; spare = record { cells = 0; nets = 0; port_bits = 0 }; walks = [] };
  names = names;
  module_name = codes "chip";
  order = [];
  room = record { cells = 0; nets = 0 };
  straight = record { first = length N.ports; count = 0 };
  inner = 0;
  rails = [];
}

-- the scalar port with this number, whose net has the same number; it doesn't clock, clear or preset
abbrev pub seen_at : NetlistView → ℕ → Dir → PinSeen
seen_at N number d = record { pin = pin_at number 0; net = net_id number; side = d; clock = false; control = false; driver = driver_of N.cells number }

-- Plans.

abbrev pub tap_line : List ℕ → List ℕ → TapLine
tap_line name pin = record { name = name; pin = pin }

abbrev pub pin_line : List ℕ → List ℕ → BoundaryKind → PinLine
pin_line port pin cell = record { port = port; pin = pin; cell = cell }

-- two bits
abbrev pub opcode : Instr → ℕ → Opcode
opcode i value = record { instr = i; bits = record { len = 2; value = value } }

abbrev pub plan_of : List PinLine → Plan
plan_of lines = record {
  version = 1;
  entity = codes "chip";
  «package» = codes "DIP";
  prefix = codes "bs_";
  tck = tap_line (codes "TCK") (codes "11");
  tms = tap_line (codes "TMS") (codes "12");
  tdi = tap_line (codes "TDI") (codes "13");
  tdo = tap_line (codes "TDO") (codes "14");
  trst = tap_line (codes "TRST") (codes "15");
  clock = codes "10";
  length = 2;
  capture = record { len = 2; value = 1 };
  opcodes = opcode Extest 0 ∷ opcode Sample 1 ∷ opcode Preload 1 ∷ opcode Bypass 3 ∷ [];
  idcode = None;
  usercode = None;
  control = Bc1;
  pins = lines;
  linkage = [];
}

abbrev pub with_highz : Plan → Plan
with_highz p = record p { opcodes = p.opcodes ++ opcode Highz 2 ∷ [] }

-- Boundary cells.

abbrev pub at_port : BoundaryKind → Function → ℕ → Option Feed → Option ℕ → FitRow
at_port cell does number core control = record { cell = cell; function = does; pin = Some (pin_at number 0); core = core; control = control; active_high = false }

abbrev pub control_of : Feed → Bool → FitRow
control_of operand active_high = record { cell = Bc1; function = function.Control; pin = None; core = Some operand; control = None; active_high = active_high }

-- in the device
abbrev pub device_row : BoundaryKind → Function → ℕ → Option Disable → CellRow
device_row cell does port disable = record { cell = cell; pin = Some (record { port = port; index = None }); function = does; safe = safe.Any; disable = disable }

abbrev pub device_control : Safe → CellRow
device_control value = record { cell = Bc1; pin = None; function = function.Control; safe = value; disable = None }

-- Both polarities on one enable: `bufif1(s, p, e); bufif0(t, p, e);`

abbrev pub netlist_d : NetlistView
netlist_d = record {
  library = [];
  ports = scalar 0 Input ∷ scalar 1 Input ∷ scalar 2 Output ∷ scalar 3 Output ∷ [];
  nets = net_named 0 ∷ net_named 1 ∷ net_named 2 ∷ net_named 3 ∷ [];
  cells = gate Bufif1 2 (of_net 1 ∷ of_net 0 ∷ []) ∷ gate Bufif0 3 (of_net 1 ∷ of_net 0 ∷ []) ∷ [];
}

abbrev pub linked_d : LinkedView
linked_d = linked (codes "e" ∷ codes "p" ∷ codes "s" ∷ codes "t" ∷ []) netlist_d

abbrev pub seen_d : List PinSeen
seen_d = seen_at netlist_d 0 Input ∷ seen_at netlist_d 1 Input ∷ seen_at netlist_d 2 Output ∷ seen_at netlist_d 3 Output ∷ []

abbrev pub plan_d : Plan
plan_d =
    plan_of (pin_line (codes "e") (codes "1") Bc4 ∷ pin_line (codes "p") (codes "2") Bc4
    ∷ pin_line (codes "s") (codes "3") Bc1 ∷ pin_line (codes "t") (codes "4") Bc1 ∷ [])

-- a control cell for each polarity
abbrev pub RowsOfBothPolarities : Type 0
RowsOfBothPolarities =
    rows plan_d seen_d
    ≡ at_port Bc4 function.Input 0 None None ∷ at_port Bc4 function.Input 1 None None
    ∷ at_port Bc1 function.Output3 2 (Some (of_net 1)) (Some 3) ∷ control_of (of_net 0) true
    ∷ at_port Bc1 function.Output3 3 (Some (of_net 1)) (Some 5) ∷ control_of (of_net 0) false ∷ []

-- which 0 and 1 disable
abbrev pub DeviceOfBothPolarities : Type 0
DeviceOfBothPolarities =
    (device_of linked_d plan_d seen_d).cells
    ≡ device_row Bc4 function.Input 0 None ∷ device_row Bc4 function.Input 1 None
    ∷ device_row Bc1 function.Output3 2 (Some (record { control = 3; value = false })) ∷ device_control safe.Zero
    ∷ device_row Bc1 function.Output3 3 (Some (record { control = 5; value = true })) ∷ device_control safe.One ∷ []

-- Two-state outputs: `and(y, a, b); not(z, y);`

abbrev pub netlist_k : NetlistView
netlist_k = record {
  library = [];
  ports = scalar 0 Input ∷ scalar 1 Input ∷ scalar 2 Output ∷ scalar 3 Output ∷ [];
  nets = net_named 0 ∷ net_named 1 ∷ net_named 2 ∷ net_named 3 ∷ [];
  cells = gate And 2 (of_net 0 ∷ of_net 1 ∷ []) ∷ gate Not 3 (of_net 2 ∷ []) ∷ [];
}

abbrev pub seen_k : List PinSeen
seen_k = seen_at netlist_k 0 Input ∷ seen_at netlist_k 1 Input ∷ seen_at netlist_k 2 Output ∷ seen_at netlist_k 3 Output ∷ []

abbrev pub plan_k : Plan
plan_k =
    plan_of (pin_line (codes "a") (codes "1") Bc1 ∷ pin_line (codes "b") (codes "2") Bc4
    ∷ pin_line (codes "y") (codes "3") Bc1 ∷ pin_line (codes "z") (codes "4") Bc1 ∷ [])

abbrev pub RowsOfTwoStates : Type 0
RowsOfTwoStates =
    rows plan_k seen_k
    ≡ at_port Bc1 function.Input 0 None None ∷ at_port Bc4 function.Input 1 None None
    ∷ at_port Bc1 function.Output2 2 (Some (of_net 2)) None ∷ at_port Bc1 function.Output2 3 (Some (of_net 3)) None ∷ []

-- with HIGHZ the two share the control cell of the constant 1
abbrev pub RowsUnderHighz : Type 0
RowsUnderHighz =
    rows (with_highz plan_k) seen_k
    ≡ at_port Bc1 function.Input 0 None None ∷ at_port Bc4 function.Input 1 None None
    ∷ at_port Bc1 function.Output3 2 (Some (of_net 2)) (Some 3) ∷ control_of (Const true) true
    ∷ at_port Bc1 function.Output3 3 (Some (of_net 3)) (Some 3) ∷ []

-- An inout, and HIGHZ: `bufif1(io, p, e); buf(r, io);`

abbrev pub netlist_b : NetlistView
netlist_b = record {
  library = [];
  ports = scalar 0 Input ∷ scalar 1 Input ∷ scalar 2 Inout ∷ scalar 3 Output ∷ [];
  nets = net_named 0 ∷ net_named 1 ∷ net_named 2 ∷ net_named 3 ∷ [];
  cells = gate Bufif1 2 (of_net 0 ∷ of_net 1 ∷ []) ∷ gate Buf 3 (of_net 2 ∷ []) ∷ [];
}

abbrev pub seen_b : List PinSeen
seen_b = seen_at netlist_b 0 Input ∷ seen_at netlist_b 1 Input ∷ seen_at netlist_b 2 Inout ∷ seen_at netlist_b 3 Output ∷ []

abbrev pub plan_b : Plan
plan_b =
    with_highz (plan_of (pin_line (codes "p") (codes "1") Bc1 ∷ pin_line (codes "e") (codes "2") Bc1
    ∷ pin_line (codes "io") (codes "3") Bc7 ∷ pin_line (codes "r") (codes "4") Bc1 ∷ []))

abbrev pub RowsOfInout : Type 0
RowsOfInout =
    rows plan_b seen_b
    ≡ at_port Bc1 function.Input 0 None None ∷ at_port Bc1 function.Input 1 None None
    ∷ at_port Bc7 function.Bidir 2 (Some (of_net 0)) (Some 3) ∷ control_of (of_net 1) true
    ∷ at_port Bc1 function.Output3 3 (Some (of_net 3)) (Some 5) ∷ control_of (Const true) true ∷ []

-- A clock port: `DFF f(.D(d), .CK(ck), .Q(q));`

abbrev pub netlist_c : NetlistView
netlist_c = record {
  library = [];
  ports = scalar 0 Input ∷ scalar 1 Input ∷ scalar 2 Output ∷ [];
  nets = net_named 0 ∷ net_named 1 ∷ net_named 2 ∷ [];
  cells = Some (record { kind = Flop (record { edge = Rise; reset = Nothing }); name = Some (Original 3); feeds = of_net 1 ∷ of_net 0 ∷ []; output = Some (net_id 2) }) ∷ [];
}

abbrev pub linked_c : LinkedView
linked_c = linked (codes "ck" ∷ codes "d" ∷ codes "q" ∷ codes "f" ∷ []) netlist_c

abbrev pub as_clock : PinSeen → PinSeen
as_clock seen = record seen { clock = true; control = true }

abbrev pub seen_c : List PinSeen
seen_c = as_clock (seen_at netlist_c 0 Input) ∷ seen_at netlist_c 1 Input ∷ seen_at netlist_c 2 Output ∷ []

-- by the kind of the clock's cell
abbrev pub plan_c : BoundaryKind → Plan
plan_c cell =
    plan_of (pin_line (codes "ck") (codes "1") cell ∷ pin_line (codes "d") (codes "2") Bc1 ∷ pin_line (codes "q") (codes "3") Bc1 ∷ [])

abbrev pub RowsOfClock : Type 0
RowsOfClock =
    rows (plan_c Bc4) seen_c
    ≡ at_port Bc4 function.Clock 0 None None ∷ at_port Bc1 function.Input 1 None None
    ∷ at_port Bc1 function.Output2 2 (Some (of_net 2)) None ∷ []

-- Plans that fit.

abbrev pub BothPolaritiesFit : Type 0
BothPolaritiesFit = IsFitted linked_d plan_d (fitted_of linked_d plan_d seen_d)

abbrev pub ClockFits : Type 0
ClockFits = IsFitted linked_c (plan_c Bc4) (fitted_of linked_c (plan_c Bc4) seen_c)

-- Faults.

-- a module without ports
abbrev pub nothing_linked : LinkedView
nothing_linked = linked [] (record { library = []; ports = []; nets = []; cells = [] })

abbrev pub NamesNoBit : Type 0
NamesNoBit = IsFault nothing_linked (plan_c Bc4) (fault.PlanPort (codes "ck"))

abbrev pub NoPortThere : Type 0
NoPortThere = IsFault nothing_linked (plan_of []) (fault.PlanPortMissing (codes "pin"))

-- the first bit without a line
abbrev pub BitWithoutLine : Type 0
BitWithoutLine = IsFault linked_c (plan_of []) (fault.PlanPortMissing (codes "ck"))

abbrev pub with_line : Plan → PinLine → Plan
with_line p line = record p { pins = p.pins ++ line ∷ [] }

abbrev pub with_linkage : Plan → TapLine → Plan
with_linkage p line = record p { linkage = line ∷ [] }

abbrev pub with_tdi : Plan → List ℕ → Plan
with_tdi p name = record p { tdi = tap_line name (codes "13") }

abbrev pub with_prefix : Plan → List ℕ → Plan
with_prefix p begin = record p { prefix = begin }

-- another line for q, and another for its pin
abbrev pub BitTwice : Type 0
BitTwice = IsFault linked_c (with_line (plan_c Bc4) (pin_line (codes "q") (codes "4") Bc1)) (fault.PlanTwice (codes "q"))

abbrev pub PinTwice : Type 0
PinTwice = IsFault linked_c (with_linkage (plan_c Bc4) (tap_line (codes "VCC") (codes "3"))) (fault.PlanTwice (codes "3"))

abbrev pub ClockTakesOneKind : Type 0
ClockTakesOneKind = IsFault linked_c (plan_c Bc1) (fault.PlanCell (codes "ck"))

-- a name is one without regard to case
abbrev pub TapNamedAsPort : Type 0
TapNamedAsPort = IsFault linked_c (with_tdi (plan_c Bc4) (codes "D")) (fault.PlanName (codes "D"))

-- but beside an instance's byte for byte
abbrev pub TapNamedAsInstance : Type 0
TapNamedAsInstance = IsFault linked_c (with_tdi (plan_c Bc4) (codes "f")) (fault.PlanName (codes "f"))

-- `buf(y, \a+b );`
abbrev pub netlist_n : NetlistView
netlist_n = record { library = []; ports = scalar 0 Input ∷ scalar 1 Output ∷ []; nets = net_named 0 ∷ net_named 1 ∷ []; cells = gate Buf 1 (of_net 0 ∷ []) ∷ [] }

abbrev pub PortIsNoName : Type 0
PortIsNoName =
    IsFault (linked (codes "a+b" ∷ codes "y" ∷ []) netlist_n) (plan_of (pin_line (codes "a+b") (codes "1") Bc1 ∷ pin_line (codes "y") (codes "2") Bc1 ∷ []))
    (fault.PlanName (codes "a+b"))

abbrev pub InstanceHasPrefix : Type 0
InstanceHasPrefix = IsFault linked_c (with_prefix (plan_c Bc4) (codes "f")) (fault.PrefixTaken (codes "f"))
