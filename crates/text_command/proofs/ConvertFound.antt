-- The canonical text of the tree, or of the device, that a text spells.
use Rattle.std.proofs.Common.{◌≡◌, ℕ, List, sym, subst}
use Rattle.verilog_tree.specs.declared.tree.Module.{Module}
use Rattle.verilog_tree.specs.Texts.{SpellsText}
use Rattle.verilog_tree.specs.Canonical.{canonical}
use Rattle.verilog_tree.specs.IsTree.{IsTree}
use Rattle.verilog_texts.specs.TextOutcome.{IsReadAs}
use Rattle.verilog_texts.specs.Laws.{BytesSpellOneTree}
use Rattle.bsdl_device.specs.declared.values.Device.{Device}
use Rattle.bsdl_device.specs.Spelled.{SpellsText as SpellsDeviceText}
use Rattle.bsdl_device.specs.Canonical.{canonical_device}
use Rattle.bsdl_values.specs.TextOutcome.{IsDeviceReadAs}
use Rattle.text_command.specs.Conversions.{IsCanonicalDevice, IsCanonicalModule}

pub canonical_found : BytesSpellOneTree → (bytes printed : List ℕ) (tree : Module) → IsReadAs bytes tree → printed ≡ canonical tree
    → (IsTree tree → SpellsText printed tree) → IsCanonicalModule bytes printed
canonical_found once bytes printed tree read is spells =
    let again : SpellsText printed tree = spells read.is in record {
      tree = tree;
      spells = read.spells;
      only = read.only;
      text_is = is;
      again = again;
      again_only = λ other s. once printed other tree s again;
    }

pub device_found : (bytes printed : List ℕ) (device : Device) → IsDeviceReadAs bytes device → printed ≡ canonical_device device → IsCanonicalDevice bytes printed
device_found bytes printed device read is = record {
  device = device;
  spells = read.spells;
  only = read.only;
  text_is = is;
  again = subst (λ (t : List ℕ). SpellsDeviceText t device) (sym is) read.again;
  again_only = λ other s. read.again_only other (subst (λ (t : List ℕ). SpellsDeviceText t other) is s);
}
