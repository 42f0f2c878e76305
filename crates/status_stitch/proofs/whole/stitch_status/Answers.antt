use Rattle.std.proofs.Common.{List, sym, subst}
use Rattle.status_fitting.specs.declared.fitted.FittedRegister.{FittedRegister}
use Rattle.status_stitch.specs.Stitch.{CanStitchStatus, IsStitchedStatus}
use Rattle.status_stitch.proofs.whole.stitch_status.Goals as goal

pub stitch_registers-requires : goal.stitch_registers-requires
stitch_registers-requires c = subst (λ (rs : List FittedRegister). CanStitchStatus c.args.linked.now c.args.fitted.now rs) (sym c.as_slice.ensures) c.requires

pub returns : goal.returns
returns c = subst (λ (rs : List FittedRegister). IsStitchedStatus c.args.linked.now c.stitch_registers.new.linked c.args.fitted.now rs) c.as_slice.ensures c.stitch_registers.ensures
