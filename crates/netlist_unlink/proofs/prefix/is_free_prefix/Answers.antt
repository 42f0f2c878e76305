use Rattle.std.proofs.Common.{Bool, IsTrue, subst, sym}
use Rattle.std.specs.Prelude.{◌↔◌}
use Rattle.netlist_unlink.specs.Prefixes.{IsFreePrefix}
use Rattle.netlist_unlink.proofs.Free.{free_iff}
use Rattle.netlist_unlink.proofs.prefix.is_free_prefix.Goals as goal

pub returns : goal.returns
returns c =
    let P : Bool → Type 0 = λ b. IsTrue b ↔ IsFreePrefix c.args.linked.now c.args.prefix.now in
    subst P (sym c.is_free-free.ensures) (free_iff c.args.linked.now c.args.prefix.now c.is_linked.ensures.linked)
