use Rattle.std.proofs.Common.{◌≡◌, ℕ, ◌+◌, ◌-◌, drop, arith, subst}
use Rattle.pin_plan.specs.Tables.{AreDriversAmong}
use Rattle.pin_plan.proofs.Gates.{none_before, noted_more}
use Rattle.pin_plan.proofs.drivers.note_each.Goals as goal

pub loop-number-init : goal.loop-number-init
loop-number-init c = none_before c.args.netlist.now.lists _ c.args.drivers.now c.requires c.cell_bound-number.ensures

pub loop-number-preserved : goal.loop-number-preserved
loop-number-preserved c =
    let N = c.args.netlist.now.lists in
    let some = c.loop-number-test.true in
    let back : c.loop-number.number ≡ c.loop-number.number - 1 + 1 = omega (arith, some) in
    noted_more N (c.loop-number.number - 1) c.loop-number.drivers c.note_driver.new.drivers c.is_laid_out.ensures.laid_out
    (subst (λ (k : ℕ). AreDriversAmong N (drop k N.cells) c.loop-number.drivers) back c.loop-number.invariant) c.note_driver.ensures
