-- A file that breaks no rule has few ports.
use Rattle.std.proofs.Common.{◌≡◌, ◌≤◌, false, ◌||◌, List, [], ◌∷◌, length, Option, Some, None, arith, ltb-false}
use Rattle.std.proofs.lemmas.List.Sums.{sum_by-cons}
use Rattle.list_laws.proofs.Tests.{or_first, or_second}
use Rattle.list_laws.proofs.Options.{not_found}
use Rattle.bsdl_device.specs.declared.values.PortRange.{PortRange}
use Rattle.bsdl_device.specs.declared.written.DeclaredPort.{DeclaredPort}
use Rattle.bsdl_device.specs.declared.written.File.{File}
use Rattle.bsdl_device.specs.declared.entries.Contents.{Contents}
use Rattle.bsdl_device.specs.Ports.{declared_ports, port_bits, width}
use Rattle.bsdl_device.specs.Checks.{name_fails, port_named_twice, port_named_as_unit, has_too_many_bits, names_other_entity, names_other_package}
use Rattle.bsdl_device.specs.Meanings.{fault_of, first_meaning_fault}

wide : (range : Option PortRange) → 1 ≤ width range
wide None = omega arith
wide (Some r) = omega arith

ports-le : (ports : List DeclaredPort) → length ports ≤ port_bits ports
ports-le [] = omega arith
ports-le (p ∷ ps) = omega (arith, wide p.range, ports-le ps, sum_by-cons (λ (q : DeclaredPort). width q.range) p ps)

few_bits : (f : File) → name_fails f ≡ false → has_too_many_bits f ≡ false
few_bits f h =
    or_second (port_named_twice f || port_named_as_unit f) (has_too_many_bits f)
    (or_first ((port_named_twice f || port_named_as_unit f) || has_too_many_bits f) (names_other_entity f)
    (or_first (((port_named_twice f || port_named_as_unit f) || has_too_many_bits f) || names_other_entity f) (names_other_package f) h))

pub few_ports : (f : File) (c : Contents) → first_meaning_fault f c ≡ None → length (declared_ports f) ≤ 4096
few_ports f c h =
    let bits : port_bits (declared_ports f) ≤ 4096 = ltb-false 4096 (port_bits (declared_ports f)) (few_bits f (not_found (fault_of f) (name_fails f) _ _ h)) in
    omega (arith, ports-le (declared_ports f))
