-- The rules of a file, as its parts keep them.
use Rattle.std.proofs.Common.{◌≡◌, true, List, [], ◌∷◌, Option, Some, None, refl}
use Rattle.std.specs.Prelude.{◌&&◌}
use Rattle.std.specs.List.{list_all, AllByRecursion}
use Rattle.std.specs.Option.{option_map_or}
use Rattle.list_laws.proofs.Tests.{and_true, and_left, and_right}
use Rattle.bsdl_device.proofs.Views.{all_free}
use Rattle.bsdl_device.specs.declared.written.WrittenRange.{WrittenRange}
use Rattle.bsdl_device.specs.declared.written.PortDeclaration.{PortDeclaration}
use Rattle.bsdl_device.specs.declared.written.StringAttribute.{StringAttribute}
use Rattle.bsdl_device.specs.declared.written.File.{File}
use Rattle.bsdl_device.specs.Patterns.{is_filled}
use Rattle.bsdl_device.specs.Shape.{is_ordered, is_declaration, IsFile}
use Rattle.bsdl_device.proofs.Sections.{IsType, IsDeclaration, HasCode}
use Rattle.bsdl_device.proofs.ReadingWhole.{KeptFile}

type_to : (o : Option WrittenRange) → IsType o → option_map_or is_ordered o true ≡ true
type_to None h = refl
type_to (Some r) h = h

type_from : (o : Option WrittenRange) → option_map_or is_ordered o true ≡ true → IsType o
type_from None h = tt
type_from (Some r) h = h

declarations_to : (ds : List PortDeclaration) → AllByRecursion IsDeclaration ds → list_all is_declaration ds ≡ true
declarations_to [] h = refl
declarations_to (d ∷ ds) h = and_true (is_declaration d) (list_all is_declaration ds) (and_true (is_filled d.names) (option_map_or is_ordered d.range true) h.0.0.0 (type_to d.range h.0.1)) (declarations_to ds h.1)

declarations_from : (ds : List PortDeclaration) → list_all is_declaration ds ≡ true → AllByRecursion IsDeclaration ds
declarations_from [] h = tt
declarations_from (d ∷ ds) h =
    let here = and_left (is_declaration d) (list_all is_declaration ds) h in
    (((and_left (is_filled d.names) (option_map_or is_ordered d.range true) here, all_free d.names), type_from d.range (and_right (is_filled d.names) (option_map_or is_ordered d.range true) here)), declarations_from ds (and_right (is_declaration d) (list_all is_declaration ds) h))

code_to : (o : Option StringAttribute) → HasCode o → option_map_or (λ (a : StringAttribute). is_filled a.strings) o true ≡ true
code_to None h = refl
code_to (Some a) h = h.0

code_from : (o : Option StringAttribute) → option_map_or (λ (a : StringAttribute). is_filled a.strings) o true ≡ true → HasCode o
code_from None h = tt
code_from (Some a) h = (h, all_free a.strings)

pub is_file : (f : File) → KeptFile f → IsFile f
is_file f (_, (_, (ports, (_, (_, (_, (pins, (_, (_, (_, (_, (_, (_, (_, (_, (opcodes, (capture, (registers, (_, (boundary, _)))))))))))))))))))) = record {
  ports = ports.0;
  declarations = declarations_to f.declarations ports.1;
  pin_map = pins.0;
  opcodes = opcodes.0;
  capture = capture.0;
  idcode = code_to f.idcode registers.0;
  usercode = code_to f.usercode registers.1.0;
  access = registers.1.1.0;
  boundary = boundary.0;
}

pub kept : (f : File) → IsFile f → KeptFile f
kept f h = (tt, (tt, ((h.ports, declarations_from f.declarations h.declarations), (tt, (tt, (tt, ((h.pin_map, all_free f.pin_map), (tt, (tt, (tt, (tt, (tt, (tt, (tt, (tt, ((h.opcodes, all_free f.opcodes.strings), ((h.capture, all_free f.capture.strings), ((code_from f.idcode h.idcode, (code_from f.usercode h.usercode, (h.access, all_free f.access.strings))), (tt, ((h.boundary, all_free f.boundary.strings), tt))))))))))))))))))))
