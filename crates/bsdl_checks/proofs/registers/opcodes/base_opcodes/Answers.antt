use Rattle.std.proofs.Common.{Bool, cond, not, List, [], ◌∷◌, ◌++◌, ◌∙◌, ap, sym}
use Rattle.bsdl_device.specs.declared.entries.OpcodeEntry.{OpcodeEntry}
use Rattle.bsdl_device.specs.Rules.{is_own}
use Rattle.bsdl_checks.proofs.Next.{filter_item}
use Rattle.bsdl_checks.proofs.registers.opcodes.base_opcodes.Goals as goal

pub loop-opcode-preserved : goal.loop-opcode-preserved
loop-opcode-preserved c =
    let table = c.args.table.now in
    let opcode = c.opcode-item.result in
    let made = c.loop-opcode.made in
    c.in_ok-push_wanted.ensures
    ∙ ap (λ (b : Bool). made ++ cond (not b) (opcode ∷ []) []) (c.has-own.ensures ∙ ap (is_own table) c.as_bytes.ensures)
    ∙ ap (λ (m : List OpcodeEntry). m ++ cond (not (is_own table opcode.name)) (opcode ∷ []) []) c.loop-opcode.invariant
    ∙ sym (filter_item (λ (o : OpcodeEntry). not (is_own table o.name)) c.args.opcodes.now c.loop-opcode.opcode-index opcode c.loop-opcode-test.true c.opcode-item.is)
