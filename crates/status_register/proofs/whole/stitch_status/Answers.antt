use Rattle.std.proofs.Common.{subst}
use Rattle.netlist_arena.specs.Arena.{ArenaView}
use Rattle.netlist_model.specs.Formed.{IsLaidOut}
use Rattle.status_register.proofs.Built.{realises_of, alone_of, controls_of}
use Rattle.status_register.proofs.whole.stitch_status.Goals as goal

pub returns-clause-realises : goal.returns-clause-realises
returns-clause-realises c =
    let P : ArenaView → Type 0 = λ A. IsLaidOut A.lists in
    let laid = subst P c.netlist.ensures.netlist c.is_laid_out.ensures.laid_out in
    realises_of c.built_status_realises.ensures c.args.linked.now c.stitch_status.new.linked c.args.fitted.now c.args.status.now.registers c.requires c.stitch_status.ensures laid

pub returns-clause-alone : goal.returns-clause-alone
returns-clause-alone c =
    let P : ArenaView → Type 0 = λ A. IsLaidOut A.lists in
    let laid = subst P c.netlist.ensures.netlist c.is_laid_out.ensures.laid_out in
    alone_of c.built_status_is_alone.ensures c.args.linked.now c.stitch_status.new.linked c.args.fitted.now c.args.status.now.registers c.requires c.stitch_status.ensures laid

pub returns-clause-controls : goal.returns-clause-controls
returns-clause-controls c =
    let P : ArenaView → Type 0 = λ A. IsLaidOut A.lists in
    let laid = subst P c.netlist.ensures.netlist c.is_laid_out.ensures.laid_out in
    controls_of c.built_has_status.ensures c.args.linked.now c.stitch_status.new.linked c.args.fitted.now c.args.status.now.registers c.requires c.stitch_status.ensures laid
