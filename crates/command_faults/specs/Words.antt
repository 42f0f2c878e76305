-- The words that stand in lines for what there may be too many of, and for the rules on a BSDL file. Own.
use Rattle.std.specs.Prelude.{ℕ, List, codes}
use Rattle.netlist_model.specs.declared.What.{What}
use Rattle.netlist_model.specs.declared.What.TheVariants as what
use Rattle.hier_model.specs.declared.fault.HierWhat.{HierWhat}
use Rattle.hier_model.specs.declared.fault.HierWhat.TheVariants as hier_what
use Rattle.bsdl_device.specs.declared.meaning.MeaningKind.{MeaningKind}
use Rattle.bsdl_device.specs.declared.meaning.MeaningKind.TheVariants as kind

abbrev pub what_word : What → List ℕ
what_word what.Cells = codes "cells"
what_word what.Nets = codes "nets"
what_word what.Ports = codes "ports"
what_word what.Operands = codes "operands"
what_word what.Lines = codes "lines"

abbrev pub hier_word : HierWhat → List ℕ
hier_word hier_what.Depth = codes "depth"
hier_word hier_what.Cells = codes "cells"
hier_word hier_what.Nets = codes "nets"

abbrev pub kind_word : MeaningKind → List ℕ
kind_word kind.Name = codes "Name"
kind_word kind.PinMap = codes "PinMap"
kind_word kind.Tap = codes "Tap"
kind_word kind.Length = codes "Length"
kind_word kind.Opcode = codes "Opcode"
kind_word kind.Capture = codes "Capture"
kind_word kind.Idcode = codes "Idcode"
kind_word kind.Usercode = codes "Usercode"
kind_word kind.Register = codes "Register"
kind_word kind.Boundary = codes "Boundary"
kind_word kind.Row = codes "Row"
kind_word kind.Ports = codes "Ports"
