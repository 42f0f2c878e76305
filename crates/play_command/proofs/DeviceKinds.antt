-- No text of a device breaks a rule on ports beside a netlist's.
use Rattle.std.proofs.Common.{◌≡◌, ◌≢◌, ℕ, Bool, true, false, cond, List, [], ◌∷◌, Option, Some, ap}
use Rattle.std.specs.Prelude.{find, unwrap_or}
use Rattle.std.specs.Option.{option_map}
use Rattle.std.specs.List.{AllByRecursion}
use Rattle.bsdl_device.specs.declared.meaning.MeaningKind.{MeaningKind}
use Rattle.bsdl_device.specs.declared.meaning.MeaningKind.TheVariants.{Name, Ports}
use Rattle.bsdl_device.specs.declared.written.File.{File}
use Rattle.bsdl_device.specs.declared.entries.Contents.{Contents}
use Rattle.bsdl_device.specs.Meanings.{Check, MeaningFault, checks, fault_of}
use Rattle.bsdl_values.specs.TextOutcome.{HasBsdlMeaning}

-- the check isn't of ports
abbrev IsOther : Check → Type 0
IsOther k = k.kind ≢ Ports

all_other : (f : File) (c : Contents) → AllByRecursion IsOther (checks f c)
all_other f c = (λ e. cc, (λ e. cc, (λ e. cc, (λ e. cc, (λ e. cc, (λ e. cc, (λ e. cc, (λ e. cc, (λ e. cc, (λ e. cc, (λ e. cc, tt)))))))))))

none_of_ports : (f : File) (list : List Check) (word : ℕ) → AllByRecursion IsOther list
    → option_map (fault_of f) (find (λ (k : Check). k.fails) list) ≡ Some (record { kind = Ports; word = word }) → ⊥
none_of_ports f [] word other is = cc
none_of_ports f (k ∷ list) word other is = one k.fails (λ found. none_of_ports f list word other.1 found) is
  where
    kind_in : Option MeaningFault → MeaningKind
    kind_in found = unwrap_or (option_map (λ (m : MeaningFault). m.kind) found) Name

    one : (b : Bool) → (option_map (fault_of f) (find (λ (k : Check). k.fails) list) ≡ Some (record { kind = Ports; word = word }) → ⊥)
        → option_map (fault_of f) (cond b (Some k) (find (λ (k : Check). k.fails) list)) ≡ Some (record { kind = Ports; word = word }) → ⊥
    one true none found = other.0 (ap kind_in found)
    one false none found = none found

pub no_ports_fault : (bytes : List ℕ) (place : ℕ) → HasBsdlMeaning bytes Ports place → ⊥
no_ports_fault bytes place bad =
    let fault = bad.meaning.fault in
    none_of_ports fault.file (checks fault.file fault.contents) bad.meaning.word (all_other fault.file fault.contents) fault.first
