use Rattle.std.proofs.Common.{get_or, refl, ◌∙◌, arith}
use Rattle.std.proofs.lemmas.List.{length-set}
use Rattle.std.proofs.lemmas.Option.{slice_get-get_or}
use Rattle.netlist_model.specs.declared.NetId.{NetId}
use Rattle.status_gates.proofs.Feeds.{written_next, written_all}
use Rattle.status_gates.proofs.wires.feeds_of.Goals as goal

pub loop-place-init : goal.loop-place-init
loop-place-init c = record { long = refl; written = refl }

pub loop-place-preserved : goal.loop-place-preserved
loop-place-preserved c =
    let p = c.loop-place.place in
    let low = c.loop-place-test.true in
    let item : NetId = get_or c.args.nets.now p (record { 0 = 0 }) in
    record {
      long = length-set c.loop-place.feeds p _ ∙ c.loop-place.invariant.long;
      written = written_next c.loop-place.feeds c.args.nets.now p item (omega (arith, low, c.requires, c.loop-place.invariant.long))
          (slice_get-get_or c.args.nets.now p (record { 0 = 0 }) (omega (arith, low))) c.loop-place.invariant.written;
    }

pub returns : goal.returns
returns c = written_all c.loop-place.feeds c.args.nets.now c.loop-place.place (omega (arith, c.loop-place-test.false, c.loop-place.auto.place-end)) c.loop-place.invariant.written
