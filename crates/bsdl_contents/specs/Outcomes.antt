-- What the functions of this crate answer, against what reading gives on the same words.
use Rattle.std.specs.Prelude.{◌≡◌, List, Option, Some, None, Result, Ok, Err}
use Rattle.bsdl_device.specs.Runs.{ContentWord}
use Rattle.bsdl_device.specs.Faults as faults
use Rattle.bsdl_device.specs.declared.written.File.{File}
use Rattle.bsdl_device.specs.declared.entries.Contents.{Contents}
use Rattle.bsdl_device.specs.Readers.{Read}
use Rattle.bsdl_contents.specs.declared.fault.ContentsFault.{ContentsFault}
use Rattle.bsdl_contents.specs.declared.fault.ContentsFault.TheVariants as contents
use Rattle.bsdl_contents.specs.declared.fault.PartFault.{PartFault}
use Rattle.bsdl_contents.specs.declared.fault.PartFault.TheVariants as fault
use Rattle.bsdl_contents.specs.declared.fault.HeldSection.{HeldSection}
use Rattle.bsdl_contents.specs.declared.fault.HeldSection.TheVariants as section

-- own: what was read and the words after it; at a fault the words from there on; nothing where memory was refused
abbrev pub Gives : {X : Type 0} → Result X PartFault → List ContentWord → Read ContentWord X → Type 0
Gives (Ok x) left read = read ≡ (Some x, left)
Gives (Err fault.Wrong) left read = read ≡ (None, left)
Gives (Err fault.OutOfMemory) left read = Unit {0}

-- own: what was read, or nothing; nothing is said where memory was refused
abbrev pub Tells : {X : Type 0} → Result X PartFault → Option X → Type 0
Tells (Ok x) read = read ≡ Some x
Tells (Err fault.Wrong) read = read ≡ None
Tells (Err fault.OutOfMemory) read = Unit {0}

-- own: a section as the code has it
abbrev pub section_of : HeldSection → faults.StringSection
section_of section.PinMap = faults.PinMap
section_of section.Opcodes = faults.Opcodes
section_of section.Capture = faults.Capture
section_of section.Idcode = faults.Idcode
section_of section.Usercode = faults.Usercode
section_of section.Access = faults.Access
section_of section.Rows = faults.Rows

-- own: why a file has no contents, by why a section has none
abbrev pub blamed : HeldSection → PartFault → ContentsFault
blamed s fault.Wrong = contents.Section s
blamed s fault.OutOfMemory = contents.OutOfMemory

-- own: the contents, or the first section that holds what it can't
abbrev pub TellsAll : Result Contents ContentsFault → Result Contents faults.StringSection → Type 0
TellsAll (Ok c) read = read ≡ Ok c
TellsAll (Err (contents.Section s)) read = read ≡ Err (section_of s)
TellsAll (Err contents.OutOfMemory) read = Unit {0}

-- own: the section is the first whose strings hold what they can't, where one is told
abbrev pub IsFault : File → ContentsFault → Type 0
IsFault f (contents.Section s) = faults.IsContentsFault f (faults.string_word f (section_of s))
IsFault f contents.OutOfMemory = Unit {0}
