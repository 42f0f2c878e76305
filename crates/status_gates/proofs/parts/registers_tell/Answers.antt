use Rattle.status_gates.proofs.PartsTold.{registers_tell as lemma}
use Rattle.status_gates.proofs.parts.registers_tell.Goals as goal

pub returns : goal.returns
returns c = lemma
    (record {
      opcodes = c.opcodes_tell.ensures;
      shown = c.shown_tells.ensures;
      parts = c.contained_parts.ensures;
      constants = c.constants_are_bits.ensures;
    })
