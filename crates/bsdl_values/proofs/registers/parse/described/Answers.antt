use Rattle.std.proofs.Common.{List, ◌∙◌, ap}
use Rattle.bsdl_device.specs.declared.registers.values.RegisterEntry.{RegisterEntry}
use Rattle.bsdl_device.specs.Rules.{base_contents, own_opcodes}
use Rattle.bsdl_values.proofs.registers.parse.described.Goals as goal

pub meant-requires-clause-found : goal.meant-requires-clause-found
meant-requires-clause-found c = record {
  whole = c.in_ok-contents.contents;
  holds = c.in_ok-contents.ensures.held;
  base = c.in_ok-found.ensures.base ∙ ap (base_contents c.in_ok-contents.contents) c.as_slice-entries.ensures;
  own = c.in_ok-found.ensures.own ∙ ap (λ (es : List RegisterEntry). own_opcodes es c.in_ok-contents.contents.opcodes) c.as_slice-entries.ensures;
}
