-- The text of a program, from what was read and printed.
use Rattle.std.proofs.Common.{◌≡◌, ℕ, List}
use Rattle.bsdl_device.specs.declared.values.Device.{Device}
use Rattle.bsdl_values.specs.TextOutcome.{IsDeviceReadAs}
use Rattle.scan_vectors.specs.Grammar.{SpellsLines}
use Rattle.scan_vectors.specs.Canonical.{canonical_lines, canonical_text}
use Rattle.scan_vectors.specs.Exactly.{SpelledOnce}
use Rattle.scan_programs.specs.Program.{program_of}
use Rattle.play_command.specs.Programs.{IsProgramText}

pub program_made : SpelledOnce → (bytes text : List ℕ) (device : Device) → IsDeviceReadAs bytes device → text ≡ canonical_text (program_of device)
    → SpellsLines text (canonical_lines (program_of device)) → IsProgramText bytes text
program_made once bytes text device read is spells = record {
  device = device;
  spells = read.spells;
  only = read.only;
  text_is = is;
  again = spells;
  again_only = λ other s. once text other (canonical_lines (program_of device)) s spells;
}
